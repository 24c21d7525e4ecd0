-- What a success leaves of a session and its rollback. Callers want `is_succeeding`, `enabling_some`, `outdated_id`,
-- `outdated_available`, `succeeding_id`, `sharing`, and how `no_longer` changes a rollback.
use Rattle.std.proofs.Common.{◌≡◌, ℕ, Bool, true, false, cond, List, Option, Some, None, is_some, sym}
use Rattle.std.proofs.Common.{ap, ◌∙◌, refl}
use Rattle.std.specs.Str.{bytes_eq}
use Rattle.std.proofs.lemmas.Bool.{false≢true}
use Rattle.apex_base.specs.declared.records.Part.{Part}
use Rattle.apex_base.specs.declared.records.Record.{Record}
use Rattle.apex_base.specs.declared.records.RollbackState.{RollbackState}
use Rattle.apex_base.specs.declared.records.RollbackState.TheVariants.{Enabling, Available, Committed, Deleted}
use Rattle.apex_base.specs.declared.records.State.TheVariants as state
use Rattle.apex_base.specs.Held.{is_available}
use Rattle.apex_base.specs.Rollbacks.{is_enabling, is_committed, no_longer}
use Rattle.apex_base.specs.Sessions.{names, shares}
use Rattle.apex_base.proofs.MemberLemmas.{any_in, in_any}
use Rattle.world_laws.proofs.runs.MoveStates.{IsMove}
use Rattle.world_facts.proofs.facts.WorldRows.{same_name}

-- an activated session succeeds
pub is_succeeding : IsMove state.Activated state.Success
is_succeeding = record {
  unfinished = λ e. absurd (false≢true e);
  undoable = λ e. absurd (false≢true e);
  standing = refl;
  success = λ e. refl;
  never = refl;
  failed = refl;
  begun = λ e. refl;
  activated = λ e. absurd (false≢true e);
  staged = λ e f. absurd (false≢true e);
}

-- A rollback that is no longer available

-- a rollback that is being enabled stays so
pub longer_enabling : (o : Option RollbackState) → is_enabling (no_longer o) ≡ is_enabling o
longer_enabling None = refl
longer_enabling (Some Enabling) = refl
longer_enabling (Some Available) = refl
longer_enabling (Some Committed) = refl
longer_enabling (Some Deleted) = refl

-- none is available
pub longer_available : (o : Option RollbackState) → is_available (no_longer o) ≡ false
longer_available None = refl
longer_available (Some Enabling) = refl
longer_available (Some Available) = refl
longer_available (Some Committed) = refl
longer_available (Some Deleted) = refl

-- a rollback that is being enabled is one, and isn't committed
pub enabling_some : (o : Option RollbackState) → is_enabling o ≡ true → (is_some o ≡ true) × (is_committed o ≡ false)
enabling_some None e = absurd (cc)
enabling_some (Some Enabling) e = (refl, refl)
enabling_some (Some Available) e = absurd (cc)
enabling_some (Some Committed) e = absurd (cc)
enabling_some (Some Deleted) e = absurd (cc)

-- a session keeps its id
pub outdated_id : (b : Bool) (r : Record) → (cond b (record r { rollback = no_longer r.rollback }) r).id ≡ r.id
outdated_id true r = refl
outdated_id false r = refl

-- what is available was available, and shares no name with the session that succeeds
pub outdated_available : (b : Bool) (r : Record)
    → is_available (cond b (record r { rollback = no_longer r.rollback }) r).rollback ≡ true
    → (b ≡ false) × (is_available r.rollback ≡ true)
outdated_available true r e = absurd (false≢true (sym (longer_available r.rollback) ∙ e))
outdated_available false r e = (refl, e)

-- the session that succeeds keeps its id
pub succeeding_id : (b : Bool) (clock : ℕ) (r : Record) → (cond b
    (record r { state = state.Success; rollback = Some Available; moment = clock })
    (record r { state = state.Success })).id ≡ r.id
succeeding_id true clock r = refl
succeeding_id false clock r = refl

-- sessions that have a name in common share one
pub sharing : (r s : Record) (name : List ℕ) → names name r ≡ true → names name s ≡ true → shares r s ≡ true
sharing r s name n m =
    let (p, h, e) = any_in (λ (p : Part). bytes_eq p.name name) r.parts n in
    in_any (λ (p : Part). names p.name s) p r.parts h (ap (λ (a : List ℕ). names a s) (same_name p.name name e) ∙ m)
