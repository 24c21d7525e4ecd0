-- A refused call changes nothing: `refused_same`.
use Rattle.std.proofs.Common.{◌≡◌, ℕ, Bool, true, false, cond, ◌++◌, max, List, [], ◌∷◌, map, find, is_some, Option, Some, None, Result, Ok, Err, refl, if◌then◌else◌}
use Rattle.std.specs.List.{list_any}
use Rattle.std.specs.FinMap as fin
use Rattle.apex_base.specs.declared.numbers.SessionId.{SessionId}
use Rattle.apex_base.specs.declared.records.Reason.{Reason}
use Rattle.apex_base.specs.declared.records.Reason.TheVariants as reason
use Rattle.apex_base.specs.declared.records.Record.{Record}
use Rattle.apex_base.specs.declared.records.State.{State}
use Rattle.apex_base.specs.declared.moves.Move.{Move}
use Rattle.apex_base.specs.declared.moves.Move.TheVariants as step_of
use Rattle.apex_base.specs.declared.refusal.Refusal.{Refusal}
use Rattle.apex_base.specs.declared.refusal.Refusal.TheVariants.{NothingToRevert}
use Rattle.apex_base.specs.Commit.{rollback_id, committed}
use Rattle.apex_base.specs.Moves.{moved}
use Rattle.apex_base.specs.Results.{◌>>=◌}
use Rattle.apex_base.specs.Sessions.{has_id, session_of}
use Rattle.apex_base.specs.Windows.{is_failing}
use Rattle.apex_world.specs.declared.calls.Call.{Call}
use Rattle.apex_world.specs.declared.calls.Call.TheVariants as calls
use Rattle.apex_world.specs.declared.calls.Reply.TheVariants as reply
use Rattle.apex_world.specs.Advance.{move_to, move_found, success_to, success_found, reverting, told}
use Rattle.apex_world.specs.Data.{value_at, unknown_module, with_entry, data_full}
use Rattle.apex_world.specs.Report.{committable, at_once, counted, reported, failures_of}
use Rattle.apex_world.specs.Step.{step}
use Rattle.apex_world.specs.Stepped.{Stepped, refused, done, replied, answered}
use Rattle.apex_world.specs.Submit.{pass, submitted, image_print}
use Rattle.apex_world.specs.Watching.{watched, no_observer, first_unknown}
use Rattle.apex_world.specs.World.{World}
use Rattle.apex_base.specs.Tables.{without_value}

abbrev Unchanged : World → Stepped → Type 0
Unchanged w s = (refusal : Refusal) → s.reply ≡ reply.Refused refusal → s.world ≡ w

of_replied : (w : World) (o : Result World Refusal) → Unchanged w (replied w o)
of_replied w (Ok v) refusal e = absurd (cc)
of_replied w (Err f) refusal e = refl

of_move : (w : World) (clock : ℕ) (r : Record) (m : Move) (o : Option State) → Unchanged w (move_to w clock r m o)
of_move w clock r m None refusal e = refl
of_move w clock r m (Some s) refusal e = absurd (cc)

of_found : (w : World) (clock : ℕ) (id : SessionId) (m : Move) (o : Option Record)
    → Unchanged w (move_found w clock id m o)
of_found w clock id m None refusal e = refl
of_found w clock id m (Some r) refusal e = of_move w clock r m (moved r.state m) refusal e

of_success : (w : World) (clock : ℕ) (r : Record) (o : Option State) → Unchanged w (success_to w clock r o)
of_success w clock r None refusal e = refl
of_success w clock r (Some s) refusal e = absurd (cc)

of_success_found : (w : World) (clock : ℕ) (id : SessionId) (o : Option Record)
    → Unchanged w (success_found w clock id o)
of_success_found w clock id None refusal e = refl
of_success_found w clock id (Some r) refusal e = of_success w clock r (moved r.state step_of.Success) refusal e

of_revert : (w : World) (b : Bool) → Unchanged w (if b then done (record w {
  sessions =
      map reverting w.sessions;
}) else refused w NothingToRevert)
of_revert w true refusal e = absurd (cc)
of_revert w false refusal e = refl

of_told : (w : World) (id : SessionId) (o : Option Record) → Unchanged w (told w id o)
of_told w id None refusal e = refl
of_told w id (Some r) refusal e = absurd (cc)

of_commit : (w : World) (o : Result Record Refusal)
    → Unchanged w (answered w (o >>= λ x. Ok (record {
      world = record w {
        sessions =
            committed w.sessions x (image_print w.image);
      };
      reply = reply.Committed (rollback_id x.id);
    })))
of_commit w (Ok x) refusal e = absurd (cc)
of_commit w (Err f) refusal e = refl

of_get : (w : World) (o : Result (List ℕ) Refusal)
    → Unchanged w (answered w (o >>= λ value. Ok (record { world = w; reply = reply.Value value })))
of_get w (Ok value) refusal e = refl
of_get w (Err f) refusal e = refl

of_once : (w : World) (clock : ℕ) (name : List ℕ) (why : Reason) → Unchanged w (at_once w clock name why)
of_once w clock name why refusal e = absurd (cc)

counted_if : (w : World) (b : Bool) (clock : ℕ) (name : List ℕ) (why : Reason) (moments : List ℕ)
    → Unchanged w (cond b (at_once w clock name why) (record {
      world = record w {
        failures =
            fin.insert w.failures name moments;
        clock = clock;
      };
      reply = reply.Noted;
    }))
counted_if w true clock name why moments refusal e = of_once w clock name why refusal e
counted_if w false clock name why moments refusal e = absurd (cc)

of_counted : (w : World) (clock : ℕ) (name : List ℕ) (why : Reason) → Unchanged w (counted w clock name why)
of_counted w clock name why = let moments = failures_of w.failures name ++ clock ∷ [] in
    counted_if w (is_failing clock moments) clock name why moments

of_reported : (w : World) (clock : ℕ) (name : List ℕ) (why : Reason) → Unchanged w (reported w clock name why)
of_reported w clock name reason.Unknown = of_counted w clock name reason.Unknown
of_reported w clock name reason.NativeCrash = of_once w clock name reason.NativeCrash
of_reported w clock name reason.HealthCheck = of_once w clock name reason.HealthCheck
of_reported w clock name reason.AppCrash = of_counted w clock name reason.AppCrash
of_reported w clock name reason.AppNotResponding = of_counted w clock name reason.AppNotResponding

of_report : (w : World) (o : Option Refusal) (clock : ℕ) (name : List ℕ) (why : Reason)
    → Unchanged w (answered w (pass o >>= λ known. Ok (reported w clock name why)))
of_report w None clock name why refusal e = of_reported w clock name why refusal e
of_report w (Some f) clock name why refusal e = refl

pub refused_same : (w : World) (call : Call) (refusal : Refusal) → (step w call).reply ≡ reply.Refused refusal
    → (step w call).world ≡ w
refused_same w (calls.Submit id children rollback parts) = of_replied w (submitted w id children rollback parts)
refused_same w (calls.Ready id) = of_found w w.clock id step_of.Ready (session_of w.sessions id)
refused_same w (calls.Abort id) = of_found w w.clock id step_of.Abort (session_of w.sessions id)
refused_same w (calls.Success time id) = of_success_found w (max w.clock time) id (session_of w.sessions id)
refused_same w calls.Revert = of_revert w (list_any (λ r. is_some (moved r.state step_of.Revert)) w.sessions)
refused_same w (calls.Commit id) = of_commit w (committable w.sessions id)
refused_same w (calls.Put name key value) = of_replied w (pass (unknown_module w.image name) >>=
    λ x. pass (data_full (with_entry w name key value) name) >>= λ y. Ok (with_entry w name key value))
refused_same w (calls.Drop name key) = of_replied w (value_at w name key >>= λ value. Ok (record w {
  contents =
      without_value w.contents name key;
}))
refused_same w (calls.Get name key) = of_get w (value_at w name key)
refused_same w (calls.StateOf id) = of_told w id (find (has_id id) w.sessions)
refused_same w (calls.Watch time observer duration names) =
    of_replied w (pass (no_observer w.observers observer) >>= λ x. pass (first_unknown w.image names) >>=
    λ y. Ok (watched w (max w.clock time) observer duration names))
refused_same w (calls.Report time name why) = of_report w (unknown_module w.image name) (max w.clock time) name why
