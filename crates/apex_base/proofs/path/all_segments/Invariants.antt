use Rattle.std.proofs.Common.{◌≡◌, ◌==◌, length}
use Rattle.std.specs.List.{list_all, slice_split}
use Rattle.apex_base.specs.Text.{is_segment}
use Rattle.apex_base.proofs.path.all_segments.Given as goal

-- what is left decides, since the segments so far are ones
abbrev pub invariant-loop-segment : goal.invariant-loop-segment
invariant-loop-segment l =
    list_all is_segment (slice_split (λ b. b == 47) l.rest) ≡ list_all is_segment (slice_split (λ b. b == 47) l.bytes)

abbrev pub decreases-loop-segment : goal.decreases-loop-segment
decreases-loop-segment l = length l.rest
