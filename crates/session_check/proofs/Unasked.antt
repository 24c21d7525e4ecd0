-- Where no session can be undone, and where none takes another back, there is nothing to ask. Callers want
-- `none_undoable` and `none_undo`.
use Rattle.std.proofs.Common.{◌≡◌, Bool, true, false, List, sym, ◌∙◌, refl}
use Rattle.std.specs.List.{list_all, list_any}
use Rattle.std.proofs.lemmas.Bool.{true≢false}
use Rattle.apex_base.specs.declared.records.Kind.{Kind}
use Rattle.apex_base.specs.declared.records.Kind.TheVariants.{Plain, WithRollback, RollbackOf}
use Rattle.apex_base.specs.declared.records.Record.{Record}
use Rattle.apex_base.specs.Held.{is_undoable}
use Rattle.apex_base.specs.Members.{In}
use Rattle.apex_base.proofs.MemberLemmas.{in_any}
use Rattle.apex_world.specs.Decided.{has_undone}
use Rattle.apex_base.specs.Commit.{undoes}
use Rattle.world_facts.proofs.facts.DecidedTests.{itself, every}
use Rattle.session_check.specs.Before.{StandLast}

-- where no element passes a test, one that does is not there
none_passes : {X : Type 0} (test : X → Bool) (xs : List X) → list_any test xs ≡ false → (x : X) → In x xs
    → test x ≡ true → ⊥
none_passes test xs none x i e = true≢false (sym (in_any test x xs i e) ∙ none)

-- where none can be undone, none has to be the last
pub none_undoable : (ss : List Record) → list_any (λ r. is_undoable r.state) ss ≡ false → StandLast ss
none_undoable ss none r s name i j n m u v = absurd (none_passes (λ (r : Record). is_undoable r.state) ss none r i u)

-- a session that takes none back is asked nothing
asked_nothing : (ss : List Record) (r : Record) (k : Kind) → (undoes k ≡ true → ⊥) → has_undone ss r k ≡ true
asked_nothing ss r Plain none = refl
asked_nothing ss r WithRollback none = refl
asked_nothing ss r (RollbackOf x) none = absurd (none refl)

pub none_undo : (ss : List Record) → list_any (λ r. undoes r.kind) ss ≡ false
    → list_all (λ r. has_undone ss r r.kind) ss ≡ true
none_undo ss none =
    (every (λ (r : Record). has_undone ss r r.kind) (λ r. has_undone ss r r.kind ≡ true) ss
    (λ r i. itself (has_undone ss r r.kind))).1
    (λ r i. asked_nothing ss r r.kind (none_passes (λ (r : Record). undoes r.kind) ss none r i))
