use Rattle.std.proofs.lemmas.Result.{IfOk-at_ok}
use Rattle.apex_world.specs.Orders.{HasOrders}
use Rattle.apex_world.specs.Playable.{IsPlayable}
use Rattle.device_script.proofs.OrderLemmas.{script_orders}
use Rattle.device_script.proofs.PlayableScripts.{HasFewBoots, script_has_few_boots, script_playable}
use Rattle.device_script.proofs.read.read_script.Goals as goal

pub returns-clause-playable : goal.returns-clause-playable
returns-clause-playable c = IfOk-at_ok IsPlayable c.in_ok-read.ensures (script_playable c.args.bytes.now)

pub returns-clause-few_boots : goal.returns-clause-few_boots
returns-clause-few_boots c = IfOk-at_ok HasFewBoots c.in_ok-read.ensures (script_has_few_boots c.args.bytes.now)

pub returns-clause-orders : goal.returns-clause-orders
returns-clause-orders c = IfOk-at_ok HasOrders c.in_ok-read.ensures (script_orders c.args.bytes.now)
