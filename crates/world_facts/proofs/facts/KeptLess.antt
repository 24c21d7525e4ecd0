-- What is kept was kept before, or is a new session's own. Callers want `Carries` and `kept_less`.
use Rattle.std.proofs.Common.{◌≡◌, ◌≢◌, ◌⊎◌, ℕ, ◌<◌, Bool, true, false, ◌&&◌, ◌||◌, List, sym, subst, ◌∙◌, refl, inl}
use Rattle.std.proofs.Common.{inr, arith}
use Rattle.std.specs.Prelude.{nat_lt}
use Rattle.std.proofs.lemmas.Bool.{ltb-true, lt-ltb, and_parts, and_from, or_cases, false≢true}
use Rattle.apex_base.specs.declared.records.Part.{Part}
use Rattle.apex_base.specs.declared.records.Record.{Record}
use Rattle.apex_base.specs.declared.records.Target.{Target}
use Rattle.apex_base.specs.declared.records.Target.TheVariants as targets
use Rattle.apex_base.specs.Held.{is_unfinished, is_undoable, is_standing, is_success, is_available, held, before, kept}
use Rattle.apex_base.specs.Members.{In}
use Rattle.apex_base.specs.Sessions.{names}
use Rattle.world_facts.proofs.facts.LatestLemmas.{part_for, IsLatest, latest_is}
use Rattle.world_facts.proofs.facts.KeptLemmas.{AreOrdered, Own, Holds, Backs, success_stands, keeps, keeps_for, kept_back}
use Rattle.world_facts.proofs.facts.KeptLemmas.{names_own, above_success, same_latest, latest_success}

-- what a boot or a call may make of a session, as far as its modules go
pub record Goes (r s : Record) : Type 0 where
  pub parts : s.parts ≡ r.parts
  -- no session begins anew
  pub unfinished : is_unfinished s.state ≡ true → is_unfinished r.state ≡ true
  pub stays : is_success r.state ≡ true → (is_success s.state ≡ true) × (s.activation ≡ r.activation)
  pub came : is_standing s.state ≡ true → (is_unfinished r.state ≡ true) ⊎ (is_success r.state ≡ true)
  pub available : is_available s.rollback ≡ true
      → ((is_undoable r.state || is_available r.rollback) ≡ true) × (s.activation ≡ r.activation)

-- a session that nobody had, whose modules don't stand, and which can't be rolled back
pub record IsFresh (before : List Record) (s : Record) : Type 0 where
  pub unused : (r : Record) → In r before → r.id.0 ≢ s.id.0
  pub idle : is_standing s.state ≡ false
  pub unavailable : is_available s.rollback ≡ false

-- sessions that come from others, each of which stays, or are new
pub record Carries (before after : List Record) : Type 0 where
  pub back : (s : Record) → In s after → ((r : Record) × In r before × Goes r s) ⊎ IsFresh before s
  pub forth : (r : Record) → In r before → (s : Record) × In s after × Goes r s

-- where a target that is kept comes from
pub data Comes (ss ss' : List Record) (t : Target) : Type 0 where
  Nothing : t ≡ targets.Preinstalled → Comes ss ss' t
  Before : In t (kept ss) → Comes ss ss' t
  New : (s : Record) (p : Part) → In s ss' → IsFresh ss s → In p s.parts → t ≡ p.target → Comes ss ss' t

same_parts : (r s : Record) (name : List ℕ) → Goes r s → part_for name s ≡ part_for name r
same_parts r s name g = rw g.parts refl

module _ (ss ss' : List Record) (law : AreOrdered ss) (law' : AreOrdered ss') (f : Carries ss ss') where
  -- the latest that was a success is the latest before, by a test that goes on
  carried : (test test' : Record → Bool) (name : List ℕ) (r z : Record) (o : Part) → IsLatest test' ss' name z o
      → In r ss → Goes r z → test r ≡ true → z.activation ≡ r.activation
      → ((s s' : Record) → In s ss → In s' ss' → Goes s s' → names name s' ≡ true → test s ≡ true
      → (test' s' ≡ true) × (s'.activation ≡ s.activation)) → IsLatest test ss name r o
  carried test test' name r z o l h g c e more = record {
    among = h;
    counts = c;
    part = sym (same_parts r z name g) ∙ l.part;
    most = λ s i d n.
        let next = f.forth s i in
        let named : names name next.0 ≡ true = rw next.2.parts n in
        let both = more s next.0 i next.1 next.2 named d in
        let low = l.most next.0 next.1 both.0 named in
        omega (arith, both.1, e, low);
  }

  -- the target of one that stands, and where it comes from
  comes : (test' : Record → Bool) (name : List ℕ) (z : Record) (o : Part) → IsLatest test' ss' name z o
      → is_standing z.state ≡ true
      → ((r : Record) → In r ss → Goes r z → is_success r.state ≡ true → In o.target (kept ss)) → Comes ss ss' o.target
  comes test' name z o l stands more =
      elim (f.back z l.among) [
        | inr new ↦ absurd (false≢true (sym new.idle ∙ stands))
        | inl (r, h, g) ↦ elim (g.came stands) [
          | inl u ↦ Before (keeps_for ss r name o o.target h (sym (same_parts r z name g)
              ∙ l.part) (λ q _ e. Own u (sym e)))
          | inr s ↦ Before (more r h g s)
        ]
      ]

  held_comes : (name : List ℕ) → Comes ss ss' (held ss' name)
  held_comes name =
      elim (latest_is (λ s. is_standing s.state) name ss') [
        | inl n ↦ Nothing n.1
        | inr (z, o, l, is) ↦ subst (Comes ss ss') (sym is)
            (comes (λ s. is_standing s.state) name z o l l.counts (λ r h g s.
            latest_success ss law name r o (carried (λ s. is_success s.state)
            (λ s. is_standing s.state) name r z o l h g s (g.stays s).1
            (λ s s' i i' k n d. (success_stands s'.state (k.stays d).0, (k.stays d).1)))))
      ]

  abbrev until : Record → Record → Bool
  until x s = is_success s.state && nat_lt s.activation x.activation

  undone_comes : (x : Record) (name : List ℕ) → In x ss' → names name x ≡ true → is_undoable x.state ≡ true
      → Comes ss ss' (before ss' x name)
  undone_comes x name among named undoable =
      elim (latest_is (until x) name ss') [
        | inl n ↦ Nothing n.1
        | inr (z, o, l, is) ↦ subst (Comes ss ss') (sym is)
            (comes (until x) name z o l (success_stands z.state (and_parts _ _ l.counts).0) (λ r h g s.
            latest_success ss law name r o (carried (λ s. is_success s.state) (until x) name r z o l h g s (g.stays s).1
            (λ s s' i i' k n d. (
              and_from _ _ (k.stays d).0
                  (lt-ltb _ _ (above_success ss' law' x s' name among i' named n undoable (k.stays d).0)),
              (k.stays d).1,
            )))))
      ]

  available_comes : (x : Record) (p : Part) → In x ss' → In p x.parts → is_available x.rollback ≡ true
      → Comes ss ss' (before ss' x p.name)
  available_comes x p among part available =
      elim (f.back x among) [
        | inr new ↦ absurd (false≢true (sym new.unavailable ∙ available))
        | inl (w, i, go) ↦
            let was = go.available available in
            elim (latest_is (until x) p.name ss') [
              | inl n ↦ Nothing n.1
              | inr (z, o, l, is) ↦ subst (Comes ss ss') (sym is)
                  (comes (until x) p.name z o l (success_stands z.state (and_parts _ _ l.counts).0) (λ r h g s.
                  let low : z.activation < x.activation =
                  ltb-true z.activation x.activation
                  (and_parts (is_success z.state) (nat_lt z.activation x.activation) l.counts).1 in
                  let stay = g.stays s in
                  let same : before ss w p.name ≡ o.target = same_latest ss law (until w) p.name r o
                  (carried (until w) (until x) p.name r z o l h g
                  (and_from _ _ s (lt-ltb r.activation w.activation (omega (arith, was.1, stay.1, low)))) stay.1
                  (λ s s' i i' k n d.
                  let t = k.stays (and_parts _ _ d).0 in
                  let lt : s.activation < w.activation =
                  ltb-true s.activation w.activation
                  (and_parts (is_success s.state) (nat_lt s.activation w.activation) d).1 in
                  (and_from _ _ t.0 (lt-ltb s'.activation x.activation (omega (arith, was.1, t.1, lt))), t.1)))
                  (λ s c. success_stands s.state (and_parts _ _ c).0) in
                  keeps ss w p o.target i (subst (In p) go.parts part) (Backs was.0 (sym same))))
            ]
      ]

  -- what is kept was kept, or it is a new session's own
  pub kept_less : (t : Target) → In t (kept ss') → Comes ss ss' t
  kept_less t h =
      let (x, p, among, part, way) = kept_back ss' t h in
      elim way [
        | Own u e ↦ elim (f.back x among) [
          | inr new ↦ New x p among new part e
          | inl (r, i, g) ↦ Before (keeps ss r p t i (subst (In p) g.parts part) (Own (g.unfinished u) e))
        ]
        | Holds s e ↦ subst (Comes ss ss') (sym e) (held_comes p.name)
        | Backs b e ↦ subst (Comes ss ss') (sym e) (elim (or_cases _ _ b) [
          | inl u ↦ undone_comes x p.name among (names_own x p part) u
          | inr a ↦ available_comes x p among part a
        ])
      ]
