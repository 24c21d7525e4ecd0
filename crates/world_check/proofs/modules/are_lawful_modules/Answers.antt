use Rattle.apex_world.specs.Opened.{opened_boots}
use Rattle.package_store.specs.Keeping.{has_part}
use Rattle.std.proofs.Common.{Option, ℕ, is_some, ap, ◌∙◌}
use Rattle.world_check.proofs.ModulesDecided.{answer_decides}
use Rattle.world_check.proofs.Owners.{have_parts}
use Rattle.world_check.proofs.modules.are_lawful_modules.Goals as goal

pub take_sessions-requires : goal.take_sessions-requires
take_sessions-requires c = have_parts (opened_boots c.args.rows.now).0 c.args.sessions.now c.requires.lawful

pub returns : goal.returns
returns c =
    answer_decides (opened_boots c.args.rows.now).0 c.args.rows.now c.args.scale c.args.sessions.now c.requires.lawful
    c.requires.sessions (has_part c.in_ok-kept.kept) c.in_ok-kept.ensures c.file_weight.result c.file_weight.ensures
    c.is_some.result (c.is_some.ensures ∙ ap (λ (o : Option ℕ). is_some o) c.in_ok-left.ensures)
