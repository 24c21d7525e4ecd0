-- The calls of rollbacks and of the watchdog, a commit and a report: docs/rollbacks.md and docs/watchdog.md.
use Rattle.std.specs.Prelude.{ℕ, max, List, [], ◌∷◌, ◌++◌, filter, Option, Some, None, Result, Ok, if◌then◌else◌, ◌≡◌, refl, codes}
use Rattle.std.specs.FinMap as fin
use Rattle.apex_base.specs.declared.numbers.SessionId.{SessionId}
use Rattle.apex_base.specs.declared.records.Reason.{Reason}
use Rattle.apex_base.specs.declared.records.Reason.TheVariants as reason
use Rattle.apex_base.specs.declared.records.Record.{Record}
use Rattle.apex_base.specs.declared.refusal.Refusal.{Refusal}
use Rattle.apex_base.specs.Commit.{rollback_id, committed, with_rollback_only, not_available, first_in_use}
use Rattle.apex_base.specs.Results.{◌>>=◌}
use Rattle.apex_base.specs.Sessions.{session_of}
use Rattle.apex_base.specs.Windows.{is_failing}
use Rattle.apex_world.specs.declared.calls.Reply.TheVariants as reply
use Rattle.apex_world.specs.Data.{unknown_module}
use Rattle.apex_world.specs.Stepped.{Stepped, answered}
use Rattle.apex_world.specs.Submit.{pass, image_print}
use Rattle.apex_world.specs.Trigger.{Triggered, eligible, eligible_for, triggered}
use Rattle.apex_world.specs.Watching.{is_watching}
use Rattle.apex_world.specs.World.{World, Failures, empty_world}
use Rattle.apex_base.specs.declared.numbers.Scale.TheVariants.{Small}
use Rattle.apex_base.specs.declared.refusal.Refusal.TheVariants.{NoRollback, UnknownModule}

-- Commit

-- the session whose rollback can be committed, or why there is none
abbrev pub committable : List Record → SessionId → Result Record Refusal
committable sessions id = do
  x ← with_rollback_only id (session_of sessions id)
  available ← pass (not_available id x.rollback)
  free ← pass (first_in_use sessions x.parts)
  Ok x

abbrev pub commit : World → SessionId → Stepped
commit w id = answered w do
  x ← committable w.sessions id
  Ok (record { world = record w { sessions = committed w.sessions x (image_print w.image) }; reply = reply.Committed (rollback_id x.id) })

-- Report

-- the counted failures of a name
abbrev pub failures_or : Option (List ℕ) → List ℕ
failures_or None = []
failures_or (Some moments) = moments

abbrev pub failures_of : Failures → List ℕ → List ℕ
failures_of failures name = failures_or (fin.get failures name)

-- the rollbacks that a reason asks for
abbrev pub rollbacks_for : Reason → List ℕ → List Record → List Record
rollbacks_for reason.Unknown name sessions = eligible_for name sessions
rollbacks_for reason.NativeCrash name sessions = eligible sessions
rollbacks_for reason.HealthCheck name sessions = eligible_for name sessions
rollbacks_for reason.AppCrash name sessions = eligible_for name sessions
rollbacks_for reason.AppNotResponding name sessions = eligible_for name sessions

-- those who watch the name may act
abbrev pub report_trigger : World → ℕ → List ℕ → Reason → Triggered
report_trigger w clock name why = triggered w.sessions (image_print w.image) (rollbacks_for why name w.sessions) (filter (is_watching w.watches clock name) w.observers)

-- the name's failures are forgotten
abbrev pub after_trigger : World → ℕ → List ℕ → Triggered → Stepped
after_trigger w clock name t = record { world = record w { sessions = t.sessions; failures = fin.remove w.failures name; clock = clock }; reply = reply.Triggered t.observer t.ids }

abbrev pub at_once : World → ℕ → List ℕ → Reason → Stepped
at_once w clock name why = after_trigger w clock name (report_trigger w clock name why)

-- one failure more, and the trigger where there are too many
abbrev pub counted_with : World → ℕ → List ℕ → Reason → List ℕ → Stepped
counted_with w clock name why moments =
    if is_failing clock moments then at_once w clock name why
    else record { world = record w { failures = fin.insert w.failures name moments; clock = clock }; reply = reply.Noted }

abbrev pub counted : World → ℕ → List ℕ → Reason → Stepped
counted w clock name why = counted_with w clock name why (failures_of w.failures name ++ clock ∷ [])

abbrev pub reported : World → ℕ → List ℕ → Reason → Stepped
reported w clock name reason.Unknown = counted w clock name reason.Unknown
reported w clock name reason.NativeCrash = at_once w clock name reason.NativeCrash
reported w clock name reason.HealthCheck = at_once w clock name reason.HealthCheck
reported w clock name reason.AppCrash = counted w clock name reason.AppCrash
reported w clock name reason.AppNotResponding = counted w clock name reason.AppNotResponding

abbrev pub report : World → ℕ → List ℕ → Reason → Stepped
report w time name why = answered w do
  known ← pass (unknown_module w.image name)
  Ok (reported w (max w.clock time) name why)

-- Worked values: what isn't there can't be rolled back; a module of no image can't fail

pub nothing_there : (commit (empty_world Small) (record { 0 = 1 })).reply ≡ reply.Refused (NoRollback (record { 0 = 1 }))
nothing_there = refl

pub not_known : (report (empty_world Small) 0 (codes "a") reason.NativeCrash).reply ≡ reply.Refused (UnknownModule (codes "a"))
not_known = refl
