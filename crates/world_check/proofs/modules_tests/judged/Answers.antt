use Rattle.std.proofs.Common.{sym, subst, ◌∙◌}
use Rattle.apex_base.specs.Sessions.{Ascend}
use Rattle.row_check.proofs.OpenedRecords.{sessions_ascend}
use Rattle.world_check.proofs.modules_tests.judged.Goals as goal

pub are_lawful-requires : goal.are_lawful-requires
are_lawful-requires c =
    subst Ascend (sym (c.as_slice.ensures.value ∙ c.in_ok-sessions.ensures)) (sessions_ascend c.in_ok-rows.rows)
