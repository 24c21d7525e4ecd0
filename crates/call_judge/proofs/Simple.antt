-- Calls that move a session keep a world simple, and its units. Callers want `move_simple` and `move_units`.
use Rattle.std.proofs.Common.{◌≡◌, ℕ, ◌+◌, List, [], ◌∷◌, Option, Some, None, sym, ap, ◌∙◌, refl, inl, inr}
use Rattle.std.proofs.lemmas.Bool.{cases_order}
use Rattle.std.proofs.lemmas.List.Sums.{sum_by-cons}
use Rattle.apex_base.specs.declared.moves.Move.{Move}
use Rattle.apex_base.specs.declared.numbers.SessionId.{SessionId}
use Rattle.apex_base.specs.declared.records.Record.{Record}
use Rattle.apex_base.specs.declared.records.State.{State}
use Rattle.apex_base.specs.Members.{In}
use Rattle.apex_base.specs.Moves.{moved, rollback_after}
use Rattle.apex_base.specs.Sessions.{session_of, with_session}
use Rattle.apex_base.proofs.SessionLemmas.{of_found, with_any, with_lt, with_eq, of_lt, of_eq, of_gt}
use Rattle.apex_world.specs.Advance.{move_to, move_found, move_session}
use Rattle.apex_world.specs.Limits.{kind_units, units, units_of}
use Rattle.apex_world.specs.World.{World}
use Rattle.world_facts.proofs.facts.PlainLemmas.{move_plain}
use Rattle.stored_world.specs.Stored.{IsSimple}

abbrev session_units : Record → ℕ
session_units r = kind_units r.kind

none_there : (o : Option Record) (r : Record) → o ≡ None → o ≡ Some r → ⊥
none_there None r e f = absurd (cc)
none_there (Some s) r e f = absurd (cc)

-- a session in place of one of its kind
pub units_with : (s r : Record) (ss : List Record) → session_of ss s.id ≡ Some r → s.kind ≡ r.kind
    → units_of (with_session s ss) ≡ units_of ss
units_with s r [] e same = absurd (cc)
units_with s r (x ∷ ss) e same =
    elim (cases_order x.id.0 s.id.0) [
      | inl f ↦ let here : x ≡ r = (let g = sym (of_eq s.id x ss f) ∙ e in cc) in
          ap units_of (with_eq s x ss f) ∙ sum_by-cons session_units s ss
          ∙ ap (λ n. n + units_of ss) (ap kind_units (same ∙ ap (λ (y : Record). y.kind) (sym here)))
          ∙ sym (sum_by-cons session_units x ss)
      | inr o ↦ elim o [
        | inl l ↦ ap units_of (with_lt s x ss l) ∙ sum_by-cons session_units x (with_session s ss)
            ∙ ap (λ n. session_units x + n) (units_with s r ss (sym (of_lt s.id x ss l) ∙ e) same)
            ∙ sym (sum_by-cons session_units x ss)
        | inr l ↦ absurd (none_there (session_of (x ∷ ss) s.id) r (of_gt s.id x ss l) e)
      ]
    ]

module _ (w : World) (simple : IsSimple w) (clock : ℕ) (id : SessionId) (m : Move) where
  childless_if : (r : Record) → In r w.sessions → (o : Option State) (x : Record)
      → In x (move_to w clock r m o).world.sessions → x.children ≡ []
  childless_if r h None x i = simple.childless x i
  childless_if r h (Some b) x i = elim (with_any (record r { state = b; rollback = rollback_after m r.rollback }) w.sessions x i) [
    | inl e ↦ ap (λ (y : Record). y.children) e ∙ simple.childless r h
    | inr j ↦ simple.childless x j
  ]

  childless_for : (o : Option Record) → session_of w.sessions id ≡ o → (x : Record)
      → In x (move_found w clock id m o).world.sessions → x.children ≡ []
  childless_for None e x i = simple.childless x i
  childless_for (Some r) e x i = childless_if r (of_found w.sessions id r e).0 (moved r.state m) x i

  -- a world stays simple
  pub move_simple : IsSimple (move_session w clock id m).world
  move_simple = record {
    plain = move_plain w simple.plain clock id m;
    childless = childless_for (session_of w.sessions id) refl;
  }

  same_number : (r : Record) → session_of w.sessions id ≡ Some r → session_of w.sessions r.id ≡ Some r
  same_number r e =
      let number = (of_found w.sessions id r e).1 in
      ap (λ (n : ℕ). session_of w.sessions (record { 0 = n })) number ∙ e

  units_if : (r : Record) → session_of w.sessions id ≡ Some r → (o : Option State)
      → units (move_to w clock r m o).world ≡ units w
  units_if r e None = refl
  units_if r e (Some b) =
      units_with (record r { state = b; rollback = rollback_after m r.rollback }) r w.sessions (same_number r e) refl

  units_for : (o : Option Record) → session_of w.sessions id ≡ o → units (move_found w clock id m o).world ≡ units w
  units_for None e = refl
  units_for (Some r) e = units_if r e (moved r.state m)

  -- and has the units that it had
  pub move_units : units (move_session w clock id m).world ≡ units w
  move_units = units_for (session_of w.sessions id) refl
