-- No call and no boot tells worlds apart that are alike. Callers want `calls_in_parts`,
-- `boots_in_parts`, `calls_alike` and `boots_alike`.
use Rattle.std.proofs.Common.{ℕ, ◌+◌, ◌<◌, ◌^◌, subst, ◌∙◌}
use Rattle.apex_world.specs.declared.calls.BootOrder.{BootOrder}
use Rattle.apex_world.specs.declared.calls.Call.{Call}
use Rattle.apex_world.specs.declared.calls.Call.TheVariants as calls
use Rattle.apex_world.specs.Boot.{boot_world}
use Rattle.world_laws.specs.Invariance.{IsOrderOf, BootsLeadToRunning, CallsKeepRunning}
use Rattle.world_laws.specs.Likeness.{CallsAreAlikeInParts, BootsAreAlikeInParts, CallsAreAlike, BootsAreAlike}
use Rattle.apex_world.specs.Running.{Running}
use Rattle.apex_world.specs.Step.{step}
use Rattle.world_laws.specs.StoredAlike.{AreAlikeInParts, AreSteppedAlike}
use Rattle.apex_world.specs.World.{World}
use Rattle.world_laws.proofs.alike.AlikeLemmas.{in_parts, from_parts, put_alike, drop_alike, get_alike, state_alike}
use Rattle.world_laws.proofs.alike.AlikeLemmas.{watch_alike}
use Rattle.world_laws.proofs.alike.BootAlike.{boot_alike}
use Rattle.world_laws.proofs.alike.CommitsAlike.{commit_alike}
use Rattle.world_laws.proofs.alike.MovesAlike.{ready_alike, abort_alike}
use Rattle.world_laws.proofs.alike.RevertAlike.{revert_alike}
use Rattle.world_laws.proofs.alike.SubmitAlike.{submit_alike}
use Rattle.world_laws.proofs.alike.SuccessAlike.{success_alike}
use Rattle.world_laws.proofs.alike.TriggersAlike.{report_alike}

-- each call, in worlds that are alike in parts
pub step_alike : (w v : World) → AreAlikeInParts w v → Running w → Running v → (call : Call)
    → AreSteppedAlike (step w call) (step v call)
step_alike w v a run run' (calls.Submit id children rollback parts) =
    submit_alike w v a run.lawful run'.lawful id children rollback parts
step_alike w v a run run' (calls.Ready id) = ready_alike w v a run.lawful id
step_alike w v a run run' (calls.Abort id) = abort_alike w v a run.lawful id
step_alike w v a run run' (calls.Success time id) = success_alike w v a run.lawful time id
step_alike w v a run run' calls.Revert = revert_alike w v a run.lawful
step_alike w v a run run' (calls.Commit id) = commit_alike w v a run.lawful id
step_alike w v a run run' (calls.Put name key value) = put_alike w v a name key value
step_alike w v a run run' (calls.Drop name key) = drop_alike w v a name key
step_alike w v a run run' (calls.Get name key) = get_alike w v a name key
step_alike w v a run run' (calls.StateOf id) = state_alike w v a id
step_alike w v a run run' (calls.Watch time observer duration names) =
    watch_alike w v a time observer duration names
step_alike w v a run run' (calls.Report time name why) = report_alike w v a run run' time name why

-- no call tells worlds apart that are alike in parts
pub calls_in_parts : CallsAreAlikeInParts
calls_in_parts w v run run' a call = step_alike w v a run run' call

-- nor does a boot
pub boots_in_parts : BootsAreAlikeInParts
boots_in_parts w v law a order mounts = let b = boot_alike w v a law order mounts in (b.reply, b.world)

-- worlds that are alike are alike in parts, before and after
pub calls_alike : CallsKeepRunning → CallsAreAlike
calls_alike keep w v run run' alike call is =
    let law = (keep w run call is).lawful in
    let law' = (keep v run' call is).lawful in
    let a = step_alike w v (in_parts w v run.lawful run'.lawful alike) run run' call in
    record { reply = a.reply; world = from_parts (step w call).world (step v call).world law law' a.world }

-- an order for one of two worlds that are alike is one for the other
order_alike : (w v : World) → AreAlikeInParts w v → (order : BootOrder) → IsOrderOf w order → IsOrderOf v order
order_alike w v a order is = record {
  scale = is.scale ∙ a.scale;
  is_order = is.is_order;
  print = is.print;
  time = is.time;
  number = subst (λ (n : ℕ). n + 1 < 2 ^ 32) a.stored.boots is.number;
}

-- the same of boots
pub boots_alike : BootsLeadToRunning → BootsAreAlike
boots_alike lead w v law law' alike order is mounts =
    let a = in_parts w v law law' alike in
    let b = boot_alike w v a law order mounts in
    let run = lead w law order is mounts in
    let run' = lead v law' order (order_alike w v a order is) mounts in
    (b.reply, from_parts (boot_world w order mounts) (boot_world v order mounts) run.lawful run'.lawful b.world)
