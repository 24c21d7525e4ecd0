-- The steps of a script can happen to an empty world: `script_can`.
use Rattle.std.proofs.Common.{ℕ, ◌+◌, ◌<◌, List, [], ◌∷◌, ◌++◌, length, refl, subst, sym, arith, ◌∙◌}
use Rattle.std.specs.List.{AllByRecursion}
use Rattle.std.proofs.lemmas.List.Elements.{recursion_from_All}
use Rattle.apex_base.specs.declared.numbers.Scale.{Scale}
use Rattle.apex_world.specs.declared.calls.Call.{Call}
use Rattle.apex_world.specs.declared.script.Lane.{Lane}
use Rattle.apex_world.specs.declared.script.Script.{Script}
use Rattle.apex_world.specs.declared.script.ScriptBoot.{ScriptBoot}
use Rattle.apex_world.specs.declared.script.Segment.{Segment}
use Rattle.apex_world.specs.Orders.{HasOrders, IsOrdered}
use Rattle.apex_world.specs.Selection.{all_mount_but}
use Rattle.apex_world.specs.Turns.{lane_calls}
use Rattle.apex_world.specs.World.{World, boots, empty_world}
use Rattle.device_play.specs.Events.{CanBoot}
use Rattle.device_play.specs.Run.{Planned, CanFollow, plan_world, call_plan, block_plan, segment_plan, boot_plan, boots_plan}
use Rattle.device_play.proofs.Keeping.{IsAt, call_keeps, boot_counts}
use Rattle.device_play.proofs.Runs.{plan_world-append, can_follow-append}

-- the steps can happen to each world of this scale that has had so many boots, and lead to one that has had so many
abbrev Leads : Scale → ℕ → ℕ → List Planned → Type 0
Leads scale n m plan = (w : World) → IsAt scale n w → CanFollow w plan × IsAt scale m (plan_world w plan)

leads-append : (scale : Scale) (n m k : ℕ) (a b : List Planned) → Leads scale n m a → Leads scale m k b
    → Leads scale n k (a ++ b)
leads-append scale n m k a b p q w is =
    let (front, there) = p w is in
    let (rest, end) = q (plan_world w a) there in
    (can_follow-append w a b front rest, subst (IsAt scale k) (sym (plan_world-append w a b)) end)

calls_lead : (scale : Scale) (n b lane k : ℕ) (cs : List Call) → Leads scale n n (call_plan b lane k cs)
calls_lead scale n b lane k [] w is = (tt, is)
calls_lead scale n b lane k (c ∷ cs) w is =
    let (rest, end) = calls_lead scale n b lane (k + 1) cs _ (call_keeps scale n w is c) in
    ((tt, rest), end)

blocks_lead : (scale : Scale) (n b : ℕ) (earlier ls : List Lane) → Leads scale n n (block_plan b earlier ls)
blocks_lead scale n b earlier [] w is = (tt, is)
blocks_lead scale n b earlier (l ∷ ls) w is =
    leads-append scale n n n (call_plan b l.number (length (lane_calls l.number earlier)) l.calls)
    (block_plan b (earlier ++ l ∷ []) ls)
    (calls_lead scale n b l.number (length (lane_calls l.number earlier)) l.calls)
    (blocks_lead scale n b (earlier ++ l ∷ []) ls) w is

segments_lead : (scale : Scale) (n b : ℕ) (earlier : List Lane) (ss : List Segment)
    → Leads scale n n (segment_plan b earlier ss)
segments_lead scale n b earlier [] w is = (tt, is)
segments_lead scale n b earlier (s ∷ ss) w is =
    leads-append scale n n n (block_plan b earlier s.lanes) (segment_plan b (earlier ++ s.lanes) ss)
    (blocks_lead scale n b earlier s.lanes)
    (segments_lead scale n b (earlier ++ s.lanes) ss) w is

boot_leads : (scale : Scale) (n b : ℕ) (boot : ScriptBoot) → IsOrdered scale boot → n < 4000000000
    → Leads scale n (n + 1) (boot_plan b boot)
boot_leads scale n b boot ordered few w is =
    let left : boots w < 4000000000 = omega (arith, is.1, few) in
    let next = boot_counts scale n w boot.order (all_mount_but boot.mounts) is in
    let (rest, end) = segments_lead scale (n + 1) b [] boot.segments _ next in
    let can : CanBoot w boot.order = record {
      scale = ordered.scaled ∙ sym is.0;
      is_order = ordered.order;
      left = left;
    } in
    ((can, rest), end)

boots_lead : (scale : Scale) (n : ℕ) (bs : List ScriptBoot) → AllByRecursion (IsOrdered scale) bs
    → n + length bs < 4000000000 → Leads scale n (n + length bs) (boots_plan n bs)
boots_lead scale n [] ordered few w is = (tt, subst (λ m. IsAt scale m w) (omega arith) is)
boots_lead scale n (b ∷ bs) ordered few w is =
    let rest : Leads scale (n + 1) (n + length (b ∷ bs)) (boots_plan (n + 1) bs) =
    subst (λ m. Leads scale (n + 1) m (boots_plan (n + 1) bs)) (omega arith)
    (boots_lead scale (n + 1) bs ordered.1 (omega (arith, few))) in
    leads-append scale n (n + 1) (n + length (b ∷ bs)) (boot_plan (n + 1) b) (boots_plan (n + 1) bs)
    (boot_leads scale n (n + 1) b ordered.0 (omega (arith, few))) rest w is

pub script_can : (script : Script) → HasOrders script → length script.boots < 4000000000
    → CanFollow (empty_world script.scale) (boots_plan 0 script.boots)
script_can script orders few =
    (boots_lead script.scale 0 script.boots (recursion_from_All (IsOrdered script.scale) script.boots orders)
    (omega (arith, few)) (empty_world script.scale) (refl, refl)).0
