-- Calls keep a world's scale and the number of its boots (`call_keeps`), and a boot counts one more (`boot_counts`).
use Rattle.std.proofs.Common.{◌≡◌, ℕ, ◌+◌, Bool, true, false, cond, Option, Some, None, Result, Ok, Err, IfOk, max}
use Rattle.std.proofs.Common.{◌∷◌, [], ◌++◌, List, map, find, is_some, ap, ◌∙◌}
use Rattle.std.specs.FinMap as fin
use Rattle.std.specs.List.{list_any}
use Rattle.std.proofs.lemmas.List.{length-append}
use Rattle.apex_base.specs.declared.moves.Move.{Move}
use Rattle.apex_base.specs.declared.moves.Move.TheVariants as step_of
use Rattle.apex_base.specs.declared.numbers.Scale.{Scale}
use Rattle.apex_base.specs.declared.numbers.SessionId.{SessionId}
use Rattle.apex_base.specs.declared.records.Reason.{Reason}
use Rattle.apex_base.specs.declared.records.Reason.TheVariants as reason
use Rattle.apex_base.specs.declared.records.Record.{Record}
use Rattle.apex_base.specs.declared.records.State.{State}
use Rattle.apex_base.specs.declared.refusal.Refusal.{Refusal}
use Rattle.apex_base.specs.declared.refusal.Refusal.TheVariants.{NothingToRevert}
use Rattle.apex_base.specs.Commit.{committed, rollback_id}
use Rattle.apex_base.specs.Modules.{FileMap}
use Rattle.apex_base.specs.Moves.{moved}
use Rattle.apex_base.specs.Results.{◌>>=◌}
use Rattle.apex_base.specs.Sessions.{has_id, session_of}
use Rattle.apex_base.specs.Tables.{without_value}
use Rattle.apex_base.specs.Windows.{is_failing}
use Rattle.apex_world.specs.declared.calls.BootOrder.{BootOrder}
use Rattle.apex_world.specs.declared.calls.Call.{Call}
use Rattle.apex_world.specs.declared.calls.Call.TheVariants as calls
use Rattle.apex_world.specs.declared.calls.Reply.TheVariants as reply
use Rattle.apex_world.specs.declared.modules.Package.{Package}
use Rattle.apex_world.specs.Advance.{move_to, move_found, success_to, success_found, told, reverting}
use Rattle.apex_world.specs.Boot.{boot_world, boot_loop, started, after_loop}
use Rattle.apex_world.specs.Data.{with_entry, value_at, unknown_module, data_full}
use Rattle.apex_world.specs.Report.{committable, reported, counted, at_once, failures_of}
use Rattle.apex_world.specs.Selection.{Mounts}
use Rattle.apex_world.specs.Step.{step}
use Rattle.apex_world.specs.Stepped.{Stepped, replied, answered, done, refused}
use Rattle.apex_world.specs.Submit.{pass, submitted, admitted, within_scale, entered, sessions_full, store_full, image_print}
use Rattle.apex_world.specs.Trigger.{Triggered}
use Rattle.apex_world.specs.Watching.{watched, no_observer, first_unknown}
use Rattle.apex_world.specs.World.{World, boots}

-- a world of this scale that has had so many boots
abbrev pub IsAt : Scale → ℕ → World → Type 0
IsAt scale n w = (w.scale ≡ scale) × (boots w ≡ n)

-- Results

if_bound : {A B : Type 0} (P : B → Type 0) (r : Result A Refusal) (f : A → Result B Refusal)
    → ((x : A) → IfOk (f x) P) → IfOk (r >>= f) P
if_bound P (Ok x) f h = h x
if_bound P (Err e) f h = tt

two_passes : (P : World → Type 0) (v : World) (o p : Option Refusal) → P v
    → IfOk {E = Refusal} (pass o >>= λ x. pass p >>= λ y. Ok v) P
two_passes P v None None h = h
two_passes P v None (Some refusal) h = tt
two_passes P v (Some refusal) p h = tt

module _ (scale : Scale) (n : ℕ) (w : World) (is : IsAt scale n w) where
  replied_at : (r : Result World Refusal) → IfOk r (IsAt scale n) → IsAt scale n (replied w r).world
  replied_at (Ok v) h = h
  replied_at (Err refusal) h = is

  -- Calls

  submit_at : (id : SessionId) (children : List SessionId) (rollback : Bool) (parts : List FileMap)
      → IfOk (submitted w id children rollback parts) (IsAt scale n)
  submit_at id children rollback parts =
      let after = λ (packages : List Package). entered w id children rollback packages in
      if_bound (IsAt scale n) (admitted w id children parts) (λ packages. within_scale (after packages))
      (λ packages. two_passes (IsAt scale n) (after packages) (sessions_full (after packages))
      (store_full (after packages)) is)

  commit_at : (r : Result Record Refusal) → IsAt scale n (answered w (r >>= λ x. Ok (record {
    world = record w { sessions = committed w.sessions x (image_print w.image) };
    reply = reply.Committed (rollback_id x.id);
  }))).world
  commit_at (Ok x) = is
  commit_at (Err refusal) = is

  put_at : (v : World) (o p : Option Refusal) → IsAt scale n v
      → IsAt scale n (replied w (pass o >>= λ x. pass p >>= λ y. Ok v)).world
  put_at v o p h = replied_at (pass o >>= λ x. pass p >>= λ y. Ok v) (two_passes (IsAt scale n) v o p h)

  drop_at : (v : World) (r : Result (List ℕ) Refusal) → IsAt scale n v
      → IsAt scale n (replied w (r >>= λ value. Ok v)).world
  drop_at v (Ok value) h = h
  drop_at v (Err refusal) h = is

  get_at : (r : Result (List ℕ) Refusal)
      → IsAt scale n (answered w (r >>= λ value. Ok (record { world = w; reply = reply.Value value }))).world
  get_at (Ok value) = is
  get_at (Err refusal) = is

  report_at : (o : Option Refusal) (t : Stepped) → IsAt scale n t.world
      → IsAt scale n (answered w (pass o >>= λ known. Ok t)).world
  report_at None t h = h
  report_at (Some refusal) t h = is

  move_to_at : (clock : ℕ) (r : Record) (m : Move) (o : Option State) → IsAt scale n (move_to w clock r m o).world
  move_to_at clock r m None = is
  move_to_at clock r m (Some s) = is

  move_at : (clock : ℕ) (id : SessionId) (m : Move) (o : Option Record) → IsAt scale n (move_found w clock id m o).world
  move_at clock id m None = is
  move_at clock id m (Some r) = move_to_at clock r m (moved r.state m)

  success_to_at : (clock : ℕ) (r : Record) (o : Option State) → IsAt scale n (success_to w clock r o).world
  success_to_at clock r None = is
  success_to_at clock r (Some s) = is

  success_at : (clock : ℕ) (id : SessionId) (o : Option Record) → IsAt scale n (success_found w clock id o).world
  success_at clock id None = is
  success_at clock id (Some r) = success_to_at clock r (moved r.state step_of.Success)

  told_at : (id : SessionId) (o : Option Record) → IsAt scale n (told w id o).world
  told_at id None = is
  told_at id (Some r) = is

  either_at : (b : Bool) (s t : Stepped) → IsAt scale n s.world → IsAt scale n t.world → IsAt scale n (cond b s t).world
  either_at true s t p q = p
  either_at false s t p q = q

  counted_at : (clock : ℕ) (name : List ℕ) (why : Reason) → IsAt scale n (counted w clock name why).world
  counted_at clock name why =
      let moments = failures_of w.failures name ++ clock ∷ [] in
      either_at (is_failing clock moments) (at_once w clock name why)
      (record { world = record w { failures = fin.insert w.failures name moments; clock = clock }; reply = reply.Noted })
      is is

  reported_at : (clock : ℕ) (name : List ℕ) (why : Reason) → IsAt scale n (reported w clock name why).world
  reported_at clock name reason.Unknown = counted_at clock name reason.Unknown
  reported_at clock name reason.NativeCrash = is
  reported_at clock name reason.HealthCheck = is
  reported_at clock name reason.AppCrash = counted_at clock name reason.AppCrash
  reported_at clock name reason.AppNotResponding = counted_at clock name reason.AppNotResponding

  pub call_keeps : (call : Call) → IsAt scale n (step w call).world
  call_keeps (calls.Submit id children rollback parts) =
      replied_at (submitted w id children rollback parts) (submit_at id children rollback parts)
  call_keeps (calls.Ready id) = move_at w.clock id step_of.Ready (session_of w.sessions id)
  call_keeps (calls.Abort id) = move_at w.clock id step_of.Abort (session_of w.sessions id)
  call_keeps (calls.Success time id) = success_at (max w.clock time) id (session_of w.sessions id)
  call_keeps calls.Revert = either_at (list_any (λ r. is_some (moved r.state step_of.Revert)) w.sessions)
      (done (record w { sessions = map reverting w.sessions })) (refused w NothingToRevert) is is
  call_keeps (calls.Commit id) = commit_at (committable w.sessions id)
  call_keeps (calls.Put name key value) =
      let v = with_entry w name key value in put_at v (unknown_module w.image name) (data_full v name) is
  call_keeps (calls.Drop name key) =
      drop_at (record w { contents = without_value w.contents name key }) (value_at w name key) is
  call_keeps (calls.Get name key) = get_at (value_at w name key)
  call_keeps (calls.StateOf id) = told_at id (find (has_id id) w.sessions)
  call_keeps (calls.Watch time observer duration names) =
      let v = watched w (max w.clock time) observer duration names in
      put_at v (no_observer w.observers observer) (first_unknown w.image names) is
  call_keeps (calls.Report time name why) =
      let clock = max w.clock time in
      report_at (unknown_module w.image name) (reported w clock name why) (reported_at clock name why)

-- Boots

after_loop_at : (scale : Scale) (n : ℕ) (w : World) (o : Option Triggered) → IsAt scale n w
    → IsAt scale n (after_loop w o)
after_loop_at scale n w None is = is
after_loop_at scale n w (Some t) is = is

pub boot_counts : (scale : Scale) (n : ℕ) (w : World) (order : BootOrder) (mounts : Mounts) → IsAt scale n w
    → IsAt scale (n + 1) (boot_world w order mounts)
boot_counts scale n w order mounts is =
    let after = started w order mounts in
    let one : boots after ≡ n + 1 = length-append w.eras (w.contents ∷ []) ∙ ap (λ k. k + 1) is.1 in
    after_loop_at scale (n + 1) after (boot_loop order after) (is.0, one)
