-- Which modules are kept, and that only a submit makes them more.
use Rattle.std.proofs.Common.{◌≡◌, ℕ, ◌<◌, Bool, true, false, cond, ◌&&◌, ◌||◌, List, [], ◌∷◌, ◌++◌, flat_map, Some}
use Rattle.std.proofs.Common.{sym, ap, ◌∙◌, refl, inl, inr, ◌⊎◌, arith}
use Rattle.std.specs.Prelude.{nat_lt}
use Rattle.std.specs.Str.{bytes_eq}
use Rattle.std.proofs.lemmas.Bool.{lt-ltb, and_parts, and_from, or_left, cases_eq}
use Rattle.std.proofs.lemmas.Slice.Eq.{bytes_eq-Decides}
use Rattle.apex_base.specs.declared.records.Part.{Part}
use Rattle.apex_base.specs.declared.records.Record.{Record}
use Rattle.apex_base.specs.declared.records.State.{State}
use Rattle.apex_base.specs.declared.records.State.TheVariants as state
use Rattle.apex_base.specs.declared.records.Target.{Target}
use Rattle.apex_base.specs.declared.records.Target.TheVariants as targets
use Rattle.apex_base.specs.Held.{is_unfinished, is_undoable, is_standing, is_success, is_available, latest, held}
use Rattle.apex_base.specs.Held.{before, kept_for, kept}
use Rattle.apex_base.specs.Members.{In}
use Rattle.apex_base.specs.Sessions.{names, Ascend}
use Rattle.apex_base.proofs.MemberLemmas.{in_left, in_right, in_append, in_flat_map, in_flat_map_back, in_any}
use Rattle.apex_world.specs.Lawful.{Lawful, AllPeers, AreActivatedApart}
use Rattle.apex_world.specs.World.{World}
use Rattle.world_facts.proofs.facts.LatestLemmas.{part_for, named_by, names_part, IsLatest, latest_is}
use Rattle.world_facts.proofs.facts.OpenedSessions.{one_session}
use Rattle.world_facts.proofs.facts.WorldRows.{same_name}
pub use Rattle.world_facts.proofs.facts.StateFacts.{undoable_stands, success_stands, stands_activated, undoable_no_success}

-- States

-- a session that stands is undoable, and so unfinished, or successful
pub stands_as : (s : State) → is_standing s ≡ true → ((is_undoable s ≡ true)
    × (is_unfinished s ≡ true)) ⊎ (is_success s ≡ true)
stands_as state.Verified e = absurd (cc)
stands_as state.Staged e = absurd (cc)
stands_as state.Activated e = inl (refl, refl)
stands_as state.ActivationFailed e = absurd (cc)
stands_as state.Success e = inr refl
stands_as state.RevertInProgress e = inl (refl, refl)
stands_as state.Reverted e = absurd (cc)
stands_as state.Aborted e = absurd (cc)

-- Names

pub eq_name : (a : List ℕ) → bytes_eq a a ≡ true
eq_name a = (bytes_eq-Decides a a).1 refl

pub names_own : (r : Record) (p : Part) → In p r.parts → names p.name r ≡ true
names_own r p h = in_any (λ (q : Part). bytes_eq q.name p.name) p r.parts h (eq_name p.name)

-- What a session keeps for one of its names

-- a target that is kept is one of three
pub data KeptAs (sessions : List Record) (r : Record) (p : Part) (t : Target) : Type 0 where
  Own : is_unfinished r.state ≡ true → t ≡ p.target → KeptAs sessions r p t
  Holds : is_standing r.state ≡ true → t ≡ held sessions p.name → KeptAs sessions r p t
  Backs : (is_undoable r.state || is_available r.rollback) ≡ true → t ≡ before sessions r p.name → KeptAs sessions r p t

in_if : (b : Bool) (t u : Target) → In t (cond b (u ∷ []) []) → (b ≡ true) × (t ≡ u)
in_if true t u (inl e) = (refl, sym e)
in_if true t u (inr h) = absurd h
in_if false t u h = absurd h

if_in : (b : Bool) (t u : Target) → b ≡ true → t ≡ u → In t (cond b (u ∷ []) [])
if_in b t u e f = rw (e, f) (inl refl)

abbrev own_of : Record → Part → List Target
own_of r p = cond (is_unfinished r.state) (p.target ∷ []) []

abbrev held_of : List Record → Record → Part → List Target
held_of ss r p = cond (is_standing r.state) (held ss p.name ∷ []) []

abbrev back_of : List Record → Record → Part → List Target
back_of ss r p = cond (is_undoable r.state || is_available r.rollback) (before ss r p.name ∷ []) []

kept_as : (ss : List Record) (r : Record) (p : Part) (t : Target) → In t (kept_for ss r p) → KeptAs ss r p t
kept_as ss r p t h =
    elim (in_append t (own_of r p ++ held_of ss r p) (back_of ss r p) h) [
      | inr j ↦ let o = in_if _ t (before ss r p.name) j in Backs o.0 o.1
      | inl i ↦ elim (in_append t (own_of r p) (held_of ss r p) i) [
        | inl i ↦ let o = in_if _ t p.target i in Own o.0 o.1
        | inr j ↦ let o = in_if _ t (held ss p.name) j in Holds o.0 o.1
      ]
    ]

as_kept : (ss : List Record) (r : Record) (p : Part) (t : Target) → KeptAs ss r p t → In t (kept_for ss r p)
as_kept ss r p t (Own e f) = in_left t (own_of r p ++ held_of ss r p) (back_of ss r p)
    (in_left t (own_of r p) (held_of ss r p) (if_in _ t p.target e f))
as_kept ss r p t (Holds e f) = in_left t (own_of r p ++ held_of ss r p) (back_of ss r p)
    (in_right t (own_of r p) (held_of ss r p) (if_in _ t _ e f))
as_kept ss r p t (Backs e f) = in_right t (own_of r p ++ held_of ss r p) (back_of ss r p) (if_in _ t _ e f)

pub kept_back : (ss : List Record) (t : Target) → In t (kept ss)
    → (r : Record) × (p : Part) × In r ss × In p r.parts × KeptAs ss r p t
kept_back ss t h =
    let i = in_flat_map_back (λ (r : Record). flat_map (kept_for ss r) r.parts) t ss h in
    let j = in_flat_map_back (kept_for ss i.0) t i.0.parts i.2 in
    (i.0, j.0, i.1, j.1, kept_as ss i.0 j.0 t j.2)

pub keeps : (ss : List Record) (r : Record) (p : Part) (t : Target) → In r ss → In p r.parts → KeptAs ss r p t
    → In t (kept ss)
keeps ss r p t h i k = in_flat_map (λ (r : Record). flat_map (kept_for ss r) r.parts) r t ss h
    (in_flat_map (kept_for ss r) p t r.parts i (as_kept ss r p t k))

-- the same of a name, whichever part of a session has it
pub keeps_for : (ss : List Record) (r : Record) (name : List ℕ) (p : Part) (t : Target) → In r ss
    → part_for name r ≡ Some p
    → ((q : Part) → q.name ≡ name → q.target ≡ p.target → KeptAs ss r q t) → In t (kept ss)
keeps_for ss r name p t h e k = let n = named_by name r p e in
    keeps ss r p t h n.0 (k p (same_name p.name name n.1) refl)

-- Sessions as a lawful world has them, as far as their order goes

pub record AreOrdered (ss : List Record) : Type 0 where
  pub ascend : Ascend ss
  pub peers : AllPeers AreActivatedApart ss
  pub active : (r : Record) → In r ss → is_standing r.state ≡ true → r.activation ≡ 0 → ⊥

pub ordered : (w : World) → Lawful w → AreOrdered w.sessions
ordered w law = record {
  ascend = law.ids.ascend;
  peers = law.activations.peers;
  active = λ r h s z.
      let l = (law.activations.each r h).some (stands_activated r.state s) in
      omega (arith, l, z);
}

module _ (ss : List Record) (law : AreOrdered ss) where
  pub peer : (r s : Record) (name : List ℕ) → In r ss → In s ss → names name r ≡ true → names name s ≡ true
      → (r ≡ s) ⊎ AreActivatedApart r s
  peer r s name h i n m =
      elim (cases_eq r.id.0 s.id.0) [
        | inl e ↦ inl (one_session ss r s law.ascend h i e)
        | inr d ↦ inr (law.peers r s name h i d n m)
      ]

  -- a session that can be undone is above each success
  pub above_success : (r s : Record) (name : List ℕ) → In r ss → In s ss → names name r ≡ true → names name s ≡ true
      → is_undoable r.state ≡ true → is_success s.state ≡ true → s.activation < r.activation
  above_success r s name h i n m u f =
      elim (peer r s name h i n m) [
        | inl e ↦ absurd (undoable_no_success s.state (rw (← e) u) f)
        | inr p ↦ p.above u (success_stands s.state f)
      ]

  -- sessions that stand and were activated by one boot are one
  pub same_rank : (r s : Record) (name : List ℕ) → In r ss → In s ss → names name r ≡ true → names name s ≡ true
      → is_standing r.state ≡ true → is_standing s.state ≡ true → r.activation ≡ s.activation → r ≡ s
  same_rank r s name h i n m f g e =
      elim (peer r s name h i n m) [
        | inl e ↦ e
        | inr p ↦ absurd (p.apart (law.active r h f) (law.active s i g) e)
      ]

  -- of sessions that stand and count, the one that is the latest by one measure is the latest by another one
  pub same_latest : (test : Record → Bool) (name : List ℕ) (r : Record) (p : Part) → IsLatest test ss name r p
      → ((s : Record) → test s ≡ true → is_standing s.state ≡ true) → latest test ss name ≡ p.target
  same_latest test name r p l stands =
      let named = names_part name r p l.part in
      elim (latest_is test name ss) [
        | inl n ↦ absurd (n.0 r l.among l.counts named)
        | inr (z, o, m, is) ↦
            let also = names_part name z o m.part in
            let up = l.most z m.among m.counts also in
            let down = m.most r l.among l.counts named in
            let one : r ≡ z = same_rank r z name l.among m.among named also (stands r l.counts) (stands z m.counts)
            (omega arith) in
            let two : part_for name r ≡ Some o = ap (part_for name) one ∙ m.part in
            let part : p ≡ o = cc (l.part, two) in
            is ∙ ap (λ (p : Part). p.target) (sym part)
      ]

  -- the module of the latest success is kept
  pub latest_success : (name : List ℕ) (r : Record) (p : Part) → IsLatest (λ r. is_success r.state) ss name r p
      → In p.target (kept ss)
  latest_success name r p l =
      let named = names_part name r p l.part in
      elim (latest_is (λ s. is_standing s.state) name ss) [
        | inl n ↦ absurd (n.0 r l.among (success_stands r.state l.counts) named)
        | inr (y, q, m, is) ↦
            let also = names_part name y q m.part in
            elim (stands_as y.state m.counts) [
              | inl u ↦
                  let up = above_success y r name m.among l.among also named u.0 l.counts in
                  let test : Record → Bool = λ s. is_success s.state && nat_lt s.activation y.activation in
                  let same : before ss y name ≡ p.target = same_latest test name r p (record {
                    among = l.among;
                    counts = and_from _ _ l.counts (lt-ltb _ _ up);
                    part = l.part;
                    most = λ s h c n. l.most s h (and_parts _ _ c).0 n;
                  }) (λ s c. success_stands s.state (and_parts _ _ c).0) in
                  keeps_for ss y name q p.target m.among m.part
                  (λ o e _. Backs (or_left _ _ u.0) (sym same ∙ ap (before ss y) (sym e)))
              | inr s ↦
                  let up = m.most r l.among (success_stands r.state l.counts) named in
                  let down = l.most y m.among s also in
                  let one : r ≡ y = same_rank r y name l.among m.among named also
                  (success_stands r.state l.counts) m.counts (omega arith) in
                  let two : part_for name r ≡ Some q = ap (part_for name) one ∙ m.part in
                  let part : p ≡ q = cc (l.part, two) in
                  keeps_for ss r name p p.target l.among l.part
                  (λ o e _. Holds (success_stands r.state l.counts) (ap (λ (p : Part). p.target) part ∙ sym is
                  ∙ ap (held ss) (sym e)))
            ]
      ]

-- the latest of a kind is no module, or that of a part
latest_part : (test : Record → Bool) (ss : List Record) (name : List ℕ)
    → (latest test ss name ≡ targets.Preinstalled) ⊎ ((r : Record) × (p : Part) × In r ss × In p r.parts
    × (latest test ss name ≡ p.target))
latest_part test ss name =
    elim (latest_is test name ss) [
      | inl n ↦ inl n.1
      | inr (r, p, l, is) ↦ inr (r, p, l.among, (named_by name r p l.part).0, is)
    ]

either_part : (ss : List Record) (t u : Target) → t ≡ u
    → (u ≡ targets.Preinstalled) ⊎ ((r : Record) × (p : Part) × In r ss × In p r.parts × (u ≡ p.target))
    → (t ≡ targets.Preinstalled) ⊎ ((r : Record) × (p : Part) × In r ss × In p r.parts × (t ≡ p.target))
either_part ss t u e (inl f) = inl (e ∙ f)
either_part ss t u e (inr (r, p, h, i, f)) = inr (r, p, h, i, e ∙ f)

-- what is kept is no module, or that of a part
pub kept_part : (ss : List Record) (t : Target) → In t (kept ss)
    → (t ≡ targets.Preinstalled) ⊎ ((r : Record) × (p : Part) × In r ss × In p r.parts × (t ≡ p.target))
kept_part ss t h =
    let (r, p, i, j, way) = kept_back ss t h in
    elim way [
      | Own u e ↦ inr (r, p, i, j, e)
      | Holds s e ↦ either_part ss t _ e (latest_part (λ s. is_standing s.state) ss p.name)
      | Backs b e ↦ either_part ss t _ e (latest_part (λ s. is_success s.state && nat_lt s.activation r.activation)
          ss p.name)
    ]
