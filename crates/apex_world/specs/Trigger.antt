-- What happens where a module fails too often, or the device boots too often: docs/watchdog.md, "Triggers"
-- (after AOSP's PackageWatchdog and RollbackPackageHealthObserver).
use Rattle.std.specs.Prelude.{ℕ, ◌&&◌, List, [], ◌∷◌, map, filter, fold, slice_get, Option, Some, None, option_and_then, ◌≡◌, refl, codes}
use Rattle.apex_base.specs.declared.numbers.SessionId.{SessionId}
use Rattle.apex_base.specs.declared.records.Level.{Level}
use Rattle.apex_base.specs.declared.records.Level.TheVariants as level
use Rattle.apex_base.specs.declared.records.Record.{Record}
use Rattle.apex_base.specs.Acting.{acting}
use Rattle.apex_base.specs.Commit.{rollback_id, committed}
use Rattle.apex_base.specs.Rollbacks.{is_eligible}
use Rattle.apex_base.specs.Sessions.{names}
use Rattle.apex_world.specs.declared.calls.Observer.{Observer}
use Rattle.apex_world.specs.declared.calls.ObserverKind.{ObserverKind}
use Rattle.apex_world.specs.declared.calls.ObserverKind.TheVariants.{Fixed, Rollback}

-- who acted, if anybody; the sessions that were made; and all sessions after that
pub record Triggered : Type 0 where
  pub observer : Option (List ℕ)
  pub ids : List SessionId
  pub sessions : List Record

-- Rollbacks, by their sessions, ascending by id

abbrev pub eligible : List Record → List Record
eligible sessions = filter (is_eligible sessions) sessions

abbrev pub eligible_for : List ℕ → List Record → List Record
eligible_for name sessions = filter (λ x. is_eligible sessions x && names name x) sessions

-- Who acts

-- an observer of rollbacks is of level medium where there is one, and of none where there isn't
abbrev pub level_beside : List Record → ObserverKind → Level
level_beside rollbacks (Fixed level) = level
level_beside [] Rollback = level.None
level_beside (x ∷ xs) Rollback = level.Medium

abbrev pub acting_among : List Record → List Observer → Option Observer
acting_among rollbacks observers = option_and_then (λ i. slice_get observers i) (acting (map (λ o. level_beside rollbacks o.kind) observers))

-- What happens

-- the rollbacks that an observer commits
abbrev pub commits : List Record → ObserverKind → List Record
commits rollbacks (Fixed level) = []
commits rollbacks Rollback = rollbacks

abbrev pub commit_all : List ℕ → List Record → List Record → List Record
commit_all print sessions xs = fold (λ ss x. committed ss x print) sessions xs

abbrev pub acted : List Record → List ℕ → List Record → Option Observer → Triggered
acted sessions print rollbacks None = record { observer = None; ids = []; sessions = sessions }
acted sessions print rollbacks (Some o) = record {
  observer = Some o.name;
  ids = map (λ x. rollback_id x.id) (commits rollbacks o.kind);
  sessions = commit_all print sessions (commits rollbacks o.kind);
}

-- the first observer of the least level acts; new sessions are of this build
abbrev pub triggered : List Record → List ℕ → List Record → List Observer → Triggered
triggered sessions print rollbacks observers = acted sessions print rollbacks (acting_among rollbacks observers)

-- Worked values: at a trigger for which nothing can be rolled back, the observer of the least level acts, and where
-- there is none nobody does

abbrev pub example : List ℕ → ObserverKind → Observer
example name kind = record { name = name; kind = kind }

pub dog_acts : (triggered [] [] [] (example (codes "rb") Rollback ∷ example (codes "cat") (Fixed level.High) ∷ example (codes "dog") (Fixed level.Low) ∷ [])).observer ≡ Some (codes "dog")
dog_acts = refl

pub nobody_acts : (triggered [] [] [] (example (codes "rb") Rollback ∷ [])).observer ≡ None
nobody_acts = refl
