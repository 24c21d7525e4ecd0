-- What a name held before a session that succeeds is kept no more, where all sessions are plain. Callers want
-- `before_goes`.
use Rattle.std.proofs.Common.{◌≡◌, ◌≢◌, ℕ, ◌≤◌, ◌<◌, Bool, true, false, List, [], ◌∷◌, length, sym, ap, subst, ◌∙◌}
use Rattle.std.proofs.Common.{inl, inr, arith, ◌&&◌, ◌||◌}
use Rattle.std.specs.Prelude.{nat_lt}
use Rattle.std.proofs.lemmas.Bool.{false≢true, false_from_ne_true, and_parts, ltb-true}
use Rattle.apex_base.specs.declared.numbers.SessionId.{SessionId}
use Rattle.apex_base.specs.declared.records.Part.{Part}
use Rattle.apex_base.specs.declared.records.Record.{Record}
use Rattle.apex_base.specs.declared.records.State.TheVariants as state
use Rattle.apex_base.specs.declared.records.Target.TheVariants as targets
use Rattle.apex_base.specs.Held.{is_unfinished, is_undoable, is_standing, is_success, is_available, latest, before}
use Rattle.apex_base.specs.Held.{kept, is_module, is_target}
use Rattle.apex_base.specs.Members.{In}
use Rattle.apex_base.specs.Sessions.{names, with_session}
use Rattle.apex_base.proofs.SessionLemmas.{with_self, with_others, with_any}
use Rattle.apex_world.specs.Lawful.{Lawful}
use Rattle.apex_base.specs.Commit.{undoes}
use Rattle.apex_world.specs.World.{World}
use Rattle.world_laws.proofs.alike.AlikeAfter.{target_in}
use Rattle.world_facts.proofs.facts.StateFacts.{undoable_unfinished, success_finished}
use Rattle.world_facts.proofs.facts.HeldModules.{this_module}
use Rattle.world_facts.proofs.facts.KeptLemmas.{Own, Holds, Backs, kept_back, names_own}
use Rattle.world_facts.proofs.facts.LatestLemmas.{named_by, IsLatest, latest_is}
use Rattle.world_facts.proofs.facts.OpenedSessions.{one_session}
use Rattle.world_facts.proofs.facts.OwnTargets.{own_at, target_session}
use Rattle.world_facts.proofs.facts.WorldRows.{same_name}
use Rattle.stored_world.specs.Stored.{IsSimple}
use Rattle.call_judge.proofs.Moved.{one_part, or_false}

only : {X : Type 0} (xs : List X) (x y : X) → length xs ≤ 1 → In x xs → In y xs → x ≡ y
only [] x y low i j = absurd i
only (z ∷ []) x y low (inl e) (inl f) = sym e ∙ f
only (z ∷ []) x y low (inr i) j = absurd i
only (z ∷ []) x y low (inl e) (inr j) = absurd j
only (z ∷ a ∷ xs) x y low i j = absurd (omega (arith, low))

-- A module is that of one part of one session

module _ (v : World) (law : Lawful v) (simple : IsSimple v) where
  own_of : (y : Record) (t : Part) → In y v.sessions → In t y.parts
      → (part : ℕ) × (version : ℕ) × (t.target ≡ targets.Module y.id part version)
  own_of y t i j = own_at y.id 0 y.parts t ((law.parts y i).own (ap undoes (simple.plain.sessions y i).kind)) j

  from_session : (y : Record) (t : Part) → In y v.sessions → In t y.parts → (session : SessionId) (part version : ℕ)
      → t.target ≡ targets.Module session part version → session.0 ≡ y.id.0
  from_session y t i j session part version e =
      let (k, n, f) = own_of y t i j in ap target_session (sym e ∙ f)

  module _ (z : Record) (i : In z v.sessions) (q : Part) (j : In q z.parts) (session : SessionId) (part version : ℕ)
      (is : q.target ≡ targets.Module session part version) where
    owner : (y : Record) (t : Part) (n : ℕ) → In y v.sessions → In t y.parts → t.target ≡ targets.Module session part n
        → (y ≡ z) × (t ≡ q)
    owner y t n k l e =
        let one : y ≡ z = one_session v.sessions y z law.ids.ascend k i
        (sym (from_session y t k l session part n e) ∙ from_session z q i j session part version is) in
        (one, only z.parts t q (one_part v law simple z i) (subst (λ (x : Record). In t x.parts) one l) j)

    -- the latest that has it is its session
    latest_owner : (test : Record → Bool) (name : List ℕ) (n : ℕ)
        → targets.Module session part n ≡ latest test v.sessions name
        → (q.name ≡ name) × IsLatest test v.sessions name z q
    latest_owner test name n e =
        elim (latest_is test name v.sessions) [
          | inl none ↦ absurd (cc (none.1, e))
          | inr (y, t, l, f) ↦
              let (k, named) = named_by name y t l.part in
              let (one, its) = owner y t n l.among k (sym f ∙ sym e) in (
                ap (λ (p : Part). p.name) (sym its) ∙ same_name t.name name named,
                subst (λ (p : Part). IsLatest test v.sessions name z p) its
                    (subst (λ (x : Record). IsLatest test v.sessions name x t) one l),
              )
        ]

module _ (w v : World) (law : Lawful w) (later : Lawful v) (still : IsSimple v) (r session : Record)
    (h : In r w.sessions) (active : r.state ≡ state.Activated) (same : session ≡ record r { state = state.Success })
    (put : v.sessions ≡ with_session session w.sessions) where
  self : In session v.sessions
  self = subst (In session) (sym put) (with_self session w.sessions)

  same_number : session.id.0 ≡ r.id.0
  same_number = ap (λ (x : Record). x.id.0) same

  its_state : session.state ≡ state.Success
  its_state = ap (λ (x : Record). x.state) same

  stays : (z : Record) → In z w.sessions → z.id.0 ≢ r.id.0 → In z v.sessions
  stays z i d = subst (In z) (sym put) (with_others session w.sessions z i (λ e. d (e ∙ same_number)))

  no_undoable : (x : Record) → is_undoable x.state ≡ true → x ≡ session → ⊥
  no_undoable x u e = false≢true (sym (ap (λ (x : Record). is_undoable x.state) e ∙ ap is_undoable its_state) ∙ u)

  -- nobody else who can be undone has the name
  none_else : (name : List ℕ) → names name r ≡ true → (x : Record) → In x v.sessions → is_undoable x.state ≡ true
      → names name x ≡ true → ⊥
  none_else name named x j u n =
      elim (with_any session w.sessions x (subst (In x) put j)) [
        | inl e ↦ no_undoable x u e
        | inr i ↦ law.alone x r name i h
            (λ e. no_undoable x u (one_session v.sessions x session later.ids.ascend j self (e ∙ sym same_number)))
            n named (undoable_unfinished x.state u) (ap is_unfinished active)
      ]

  undoable_of : (x : Record) → In x v.sessions → (is_undoable x.state || is_available x.rollback) ≡ true
      → is_undoable x.state ≡ true
  undoable_of x j b =
      sym (or_false (is_undoable x.state))
      ∙ sym (ap (λ o. is_undoable x.state || is_available o) (still.plain.sessions x j).rollback) ∙ b

  module _ (name : List ℕ) (named : names name r ≡ true) (z : Record) (q : Part)
      (l : IsLatest (λ x. is_success x.state && nat_lt x.activation r.activation) w.sessions name z q)
      (id : SessionId) (part version : ℕ) (is : q.target ≡ targets.Module id part version) where
    success : is_success z.state ≡ true
    success = (and_parts _ _ l.counts).0

    earlier : z.activation < r.activation
    earlier = ltb-true z.activation r.activation (and_parts _ _ l.counts).1

    apart : z.id.0 ≢ r.id.0
    apart e =
        let one = one_session w.sessions z r law.ids.ascend l.among h e in
        false≢true (sym (ap (λ (x : Record). is_success x.state) one ∙ ap is_success active) ∙ success)

    there : In z v.sessions
    there = stays z l.among apart

    its : In q z.parts
    its = (named_by name z q l.part).0

    its_name : q.name ≡ name
    its_name = same_name q.name name (named_by name z q l.part).1

    no_more : is_target (kept v.sessions) id part ≡ true → ⊥
    no_more e =
        let (n, i) = target_in (kept v.sessions) id part e in
        let (x, t, j, k, way) = kept_back v.sessions (targets.Module id part n) i in
        elim way [
          | Own u f ↦
              let (one, p) = owner v later still z there q its id part version is x t n j k (sym f) in
              false≢true (sym (success_finished z.state success)
              ∙ ap (λ (x : Record). is_unfinished x.state) (sym one) ∙ u)
          | Holds s f ↦
              let (m, held) = latest_owner v later still z there q its id part version is
              (λ x. is_standing x.state) t.name n f in
              let has : names t.name session ≡ true =
              ap (λ a. names a session) (sym m ∙ its_name) ∙ ap (names name) same ∙ named in
              let most : session.activation ≤ z.activation = held.most session self (ap is_standing its_state) has in
              let same_boot : session.activation ≡ r.activation = ap (λ (x : Record). x.activation) same in
              absurd (omega (arith, most, same_boot, earlier))
          | Backs b f ↦
              let (m, back) = latest_owner v later still z there q its id part version is
              (λ y. is_success y.state && nat_lt y.activation x.activation) t.name n f in
              none_else name named x j (undoable_of x j b)
              (ap (λ a. names a x) (sym its_name ∙ m) ∙ names_own x t k)
        ]

  -- the module that a name held before is kept no more
  pub before_goes : (name : List ℕ) → names name r ≡ true → (id : SessionId) (part : ℕ)
      → is_module id part (before w.sessions r name) ≡ true → is_target (kept v.sessions) id part ≡ false
  before_goes name named id part m =
      elim (latest_is (λ x. is_success x.state && nat_lt x.activation r.activation) name w.sessions) [
        | inl none ↦ absurd (false≢true (sym (ap (is_module id part) none.1) ∙ m))
        | inr (z, q, l, f) ↦
            let (version, is) = this_module id part q.target (ap (is_module id part) (sym f) ∙ m) in
            false_from_ne_true (is_target (kept v.sessions) id part)
            (λ e. absurd (no_more name named z q l id part version is e))
      ]
