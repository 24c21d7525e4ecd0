use Rattle.std.proofs.Common.{◌≡◌, ◌≤◌, ℕ, [], Bool, List, Decides, sym, ap, subst, ◌∙◌}
use Rattle.std.specs.FinMap as fin
use Rattle.std.specs.Str.{bytes_eq}
use Rattle.apex_base.specs.declared.numbers.Scale.{Scale}
use Rattle.apex_base.specs.declared.records.Record.{Record}
use Rattle.apex_base.specs.Keys.{RowMap}
use Rattle.apex_base.specs.Numbers.{scale_modules, scale_data_weight}
use Rattle.apex_world.specs.Opened.{opened_boots, opened_sessions}
use Rattle.session_check.specs.LawfulSessions.{AreLawfulSessions}
use Rattle.world_check.specs.DataRows.{weights_in, boots_in, counted, same_boot}
use Rattle.world_check.specs.Runs.{are_light, key_weight}
use Rattle.world_check.proofs.DataDecided.{too_heavy, few_data}
use Rattle.world_check.proofs.data.is_lawful_data.Goals as goal

lawful : (m : RowMap) (ss : List Record) → ss ≡ opened_sessions m → AreLawfulSessions (opened_boots m).0 ss
    → AreLawfulSessions (opened_boots m).0 (opened_sessions m)
lawful m ss is law = subst (AreLawfulSessions (opened_boots m).0) is law

light : (m : RowMap) (scale : Scale) (most : ℕ) (b : Bool) → most ≡ scale_data_weight scale
    → b ≡ are_light bytes_eq most [] 0 (weights_in (fin.entries m))
    → are_light bytes_eq (scale_data_weight scale) [] 0 (weights_in (fin.entries m)) ≡ b
light m scale most b is told =
    ap (λ (most : ℕ). are_light bytes_eq most [] 0 (weights_in (fin.entries m))) (sym is) ∙ sym told

pub returns : goal.returns
returns c =
    let m = c.args.rows.now in
    let law = lawful m c.args.sessions.now c.requires.sessions c.requires.lawful in
    let told = light m c.args.scale c.data_weight.result c.are_light.result c.data_weight.ensures c.are_light.ensures in
    let boots : c.in_ok-boots.boots.items ≡ boots_in (opened_sessions m) (fin.entries m) =
    c.in_ok-boots.ensures ∙ ap (λ (ss : List Record). boots_in ss (fin.entries m)) c.requires.sessions in
    let few = subst (λ (most : ℕ). Decides c.are_few.result ((boot : ℕ)
    → key_weight same_boot boot (counted c.in_ok-boots.boots.items) ≤ most)) c.modules.ensures c.are_few.ensures in
    few_data m c.args.scale c.requires.right law c.are_few.result (told ∙ c.if-not-are_light.false)
    (subst (λ (all : List ℕ). Decides c.are_few.result ((boot : ℕ)
    → key_weight same_boot boot (counted all) ≤ scale_modules c.args.scale)) boots few)

pub returns-then-not-are_light : goal.returns-then-not-are_light
returns-then-not-are_light c =
    let m = c.args.rows.now in
    let law = lawful m c.args.sessions.now c.requires.sessions c.requires.lawful in
    let told = light m c.args.scale c.data_weight.result c.are_light.result c.data_weight.ensures c.are_light.ensures in
    too_heavy m c.args.scale c.requires.right law (told ∙ c.if-not-are_light.true)
