-- What a success gives up in a simple world. Callers want `held_target_of`, `held_by`,
-- `none_outdated`, `no_restore` and `gives`.
use Rattle.std.proofs.Common.{◌≡◌, ◌≤◌, ℕ, Bool, true, false, cond, List, [], ◌∷◌, length, Option, Some, None, sym}
use Rattle.std.proofs.Common.{ap, subst, ◌∙◌, refl, inl, inr, ◌&&◌, ◌||◌}
use Rattle.std.specs.Prelude.{nat_lt, option_and_then, if◌then◌else◌}
use Rattle.std.specs.List.{list_any}
use Rattle.std.proofs.lemmas.Bool.{false≢true, false_from_ne_true, and_parts}
use Rattle.apex_base.specs.declared.numbers.SessionId.{SessionId}
use Rattle.apex_base.specs.declared.records.Kind.{Kind}
use Rattle.apex_base.specs.declared.records.Part.{Part}
use Rattle.apex_base.specs.declared.records.Record.{Record}
use Rattle.apex_base.specs.Held.{is_success, is_undoable, is_available, is_module, before}
use Rattle.apex_base.specs.Keys.{PreRestoreOf}
use Rattle.apex_base.specs.Members.{In}
use Rattle.apex_base.specs.Sessions.{shares, session_of}
use Rattle.apex_base.specs.Spelling.{IsPart, IsTarget}
use Rattle.apex_base.proofs.MemberLemmas.{any_in, each_in}
use Rattle.apex_base.proofs.SessionLemmas.{of_found}
use Rattle.apex_world.specs.Lawful.{Lawful}
use Rattle.apex_world.specs.Rows.{row_at, earlier, has_pre_restore}
use Rattle.apex_base.specs.Commit.{undoes}
use Rattle.world_laws.specs.RowsAfter.{passes}
use Rattle.world_laws.specs.RowsMoved.{outdates, gives_up_file, goes_back_to}
use Rattle.apex_world.specs.World.{World}
use Rattle.world_facts.proofs.facts.LatestLemmas.{named_by, latest_is}
use Rattle.stored_world.specs.Stored.{IsSimple}
use Rattle.call_judge.specs.Ending.{held_before}
use Rattle.call_judge.specs.Taken.{first_of}
use Rattle.call_judge.proofs.Moved.{one_target, or_false}

-- Targets of a world

latest_target : (w : World) → Lawful w → (r : Record) (name : List ℕ) → IsTarget (before w.sessions r name)
latest_target w law r name =
    elim (latest_is (λ x. is_success x.state && nat_lt x.activation r.activation) name w.sessions) [
      | inl none ↦ subst IsTarget (sym none.1) tt
      | inr (z, q, l, f) ↦ subst IsTarget (sym f)
          (each_in IsPart z.parts (law.ranges.sessions z l.among).parts q (named_by name z q l.part).0).target
    ]

pub held_target_of : (w : World) → Lawful w → (r : Record) (ps : List Part)
    → IsTarget (first_of (λ p. before w.sessions r p.name) ps)
held_target_of w law r [] = tt
held_target_of w law r (p ∷ ps) = latest_target w law r p.name

-- Rows that a success leaves

and_false : (b : Bool) → (b && false) ≡ false
and_false true = refl
and_false false = refl

-- the first part is one that the session has
pub held_by : (ss : List Record) (r : Record) (ps : List Part) (id : SessionId) (part : ℕ)
    → is_module id part (first_of (λ p. before ss r p.name) ps) ≡ true
    → (p : Part) × In p ps × (is_module id part (before ss r p.name) ≡ true)
held_by ss r [] id part m = absurd (cc)
held_by ss r (p ∷ ps) id part m = (p, inl refl, m)

module _ (w : World) (simple : IsSimple w) (r : Record) where
  none_available : (x : Record) → In x w.sessions → outdates r x ≡ false
  none_available x i =
      ap (λ o. shares x r && is_available o) (simple.plain.sessions x i).rollback ∙ and_false (shares x r)

  none_outdated_if : (id : SessionId) (o : Option Record) → session_of w.sessions id ≡ o → passes (outdates r) o ≡ false
  none_outdated_if id None e = refl
  none_outdated_if id (Some x) e = none_available x (of_found w.sessions id x e).0

  pub none_outdated : (id : SessionId) → passes (outdates r) (session_of w.sessions id) ≡ false
  none_outdated id = none_outdated_if id (session_of w.sessions id) refl

  no_restore_if : (id : SessionId) (name key : List ℕ) (o : Option Record) → session_of w.sessions id ≡ o
      → option_and_then (λ (x : Record). if has_pre_restore x then earlier w name key x else None) o ≡ None
  no_restore_if id name key None e = refl
  no_restore_if id name key (Some x) e =
      let kind = (simple.plain.sessions x (of_found w.sessions id x e).0).kind in
      ap (λ (k : Kind). cond (undoes k && is_undoable x.state) (earlier w name key x) None) kind

  -- no row of what a session took back is there
  pub no_restore : (id : SessionId) (name key : List ℕ) → row_at w (PreRestoreOf id name key) ≡ None
  no_restore id name key = no_restore_if id name key (session_of w.sessions id) refl

  none_gives : (ss : List Record) (id : SessionId) (part : ℕ)
      → list_any (λ x. outdates r x && goes_back_to ss x id part) w.sessions ≡ false
  none_gives ss id part =
      false_from_ne_true _ (λ e.
      let (x, i, both) = any_in (λ x. outdates r x && goes_back_to ss x id part) w.sessions e in
      absurd (false≢true (sym (none_available x i) ∙ (and_parts _ _ both).0)))

  pub gives : length r.parts ≤ 1 → (id : SessionId) (part : ℕ)
      → gives_up_file w.sessions r id part ≡ is_module id part (held_before w.sessions r)
  gives low id part =
      ap (λ b. goes_back_to w.sessions r id part || b) (none_gives w.sessions id part)
      ∙ or_false (goes_back_to w.sessions r id part)
      ∙ one_target (λ p. before w.sessions r p.name) r.parts low id part
