use Rattle.std.proofs.Common.{Bool, Decides, List, ap, subst, sym, ◌∙◌}
use Rattle.std.specs.List.{list_all}
use Rattle.session_check.specs.declared.marks.Mark.{Mark}
use Rattle.session_check.specs.Before.{is_above, StandLast}
use Rattle.session_check.proofs.Last.{last_decides}
use Rattle.session_check.proofs.check.stand_last_by_marks.Goals as goal

pub returns : goal.returns
returns c =
    let ss = c.args.sessions.now in
    subst (λ (b : Bool). Decides b (StandLast ss))
    (sym (c.are_above.ensures ∙ ap (λ (ms : List Mark). list_all (is_above ms) ss) c.as_slice.ensures.value))
    (last_decides ss c.in_ok-marks.marks.items c.in_ok-marks.ensures)
