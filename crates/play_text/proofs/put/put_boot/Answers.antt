use Rattle.apex_world.specs.Text.{turn_lines}
use Rattle.play_text.proofs.Puts.{put_exit, put_front, put_more}
use Rattle.play_text.proofs.put.put_boot.Goals as goal

pub returns-in_err-put_boot_line : goal.returns-in_err-put_boot_line
unfolding turn_lines
returns-in_err-put_boot_line g c =
    put_exit _ _ _ _ _ _ _ c.from_residual.ensures.1
    (put_front _ _ _ _ _ _ _ (put_front _ _ _ _ _ _ _ (put_front _ _ _ _ _ _ _ c.in_err-put_boot_line.ensures)))

pub returns-in_err-put_changes : goal.returns-in_err-put_changes
unfolding turn_lines
returns-in_err-put_changes g c =
    put_exit _ _ _ _ _ _ _ c.from_residual-in_err-put_changes.ensures.1
    (put_front _ _ _ _ _ _ _ (put_front _ _ _ _ _ _ _
    (put_more _ _ _ _ _ _ _ _ _ _ c.in_ok-put_boot_line.ensures
    (rw c.as_slice.ensures at c.in_err-put_changes.ensures))))

pub returns-in_err-put_picks : goal.returns-in_err-put_picks
unfolding turn_lines
returns-in_err-put_picks g c =
    put_exit _ _ _ _ _ _ _ c.from_residual-in_err-put_picks.ensures.1 (put_front _ _ _ _ _ _ _
    (put_more _ _ _ _ _ _ _ _ _ _ (put_more _ _ _ _ _ _ _ _ _ _ c.in_ok-put_boot_line.ensures
    (rw c.as_slice.ensures at c.in_ok-put_changes.ensures))
    (rw c.as_slice-2.ensures at c.in_err-put_picks.ensures)))

pub returns : goal.returns
unfolding turn_lines
returns g c =
    put_more _ _ _ _ _ _ _ _ _ _
    (put_more _ _ _ _ _ _ _ _ _ _ (put_more _ _ _ _ _ _ _ _ _ _ c.in_ok-put_boot_line.ensures
    (rw c.as_slice.ensures at c.in_ok-put_changes.ensures)) (rw c.as_slice-2.ensures at c.in_ok-put_picks.ensures))
    c.put_loop.ensures
