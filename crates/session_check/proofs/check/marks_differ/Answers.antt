use Rattle.std.proofs.Common.{Decides, List, subst, ◌∙◌}
use Rattle.std.specs.List.{IsDistinct}
use Rattle.std.specs.Ordering.{eq_by_cmp}
use Rattle.std.specs.Prelude.{IfOk}
use Rattle.session_check.specs.declared.marks.Mark.{Mark}
use Rattle.session_check.specs.Marks.{boot_cmp}
use Rattle.session_check.proofs.check.marks_differ.Goals as goal

pub returns : goal.returns
returns c =
    subst (λ (ms : List Mark). IfOk c.are_distinct.result (λ d. Decides d (IsDistinct (eq_by_cmp boot_cmp) ms)))
    (c.as_slice.ensures.value ∙ c.in_ok-marks.ensures) c.are_distinct.ensures
