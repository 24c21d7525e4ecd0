-- A call outside lane blocks is a segment of its own: docs/formats/script.md, "Segments".
use Rattle.std.specs.Prelude.{None, [], ◌∷◌}
use Rattle.apex_world.specs.declared.calls.Call.{Call}
use Rattle.apex_world.specs.declared.calls.Call.TheVariants as calls
use Rattle.apex_world.specs.declared.script.Segment.{Segment}
use Rattle.apex_world.specs.declared.segments.Placed.{Placed}
use Rattle.apex_world.specs.declared.segments.Placed.TheVariants as placed
use Rattle.apex_world.specs.declared.segments.SingleSubmit.{SingleSubmit}
use Rattle.apex_world.specs.declared.segments.SegmentForm.{SegmentForm}
use Rattle.apex_world.specs.declared.segments.SegmentForm.TheVariants.{Submit, Ready, Abort, Success, StateOf, Other, Lanes}
use Rattle.apex_world.specs.Calls.{call_at}

-- a segment of one call on lane 0
abbrev pub plain_segment : Call → Segment
plain_segment call = record { cut = None; lanes = record { number = 0; calls = call ∷ [] } ∷ [] }

abbrev pub single_submit : SingleSubmit → Call
single_submit s = calls.Submit s.id [] s.rollback (s.part ∷ [])

-- the segment that stands in memory so
abbrev pub segment_of : SegmentForm → Segment
segment_of (Submit submit) = plain_segment (single_submit submit.value)
segment_of (Ready id) = plain_segment (calls.Ready id)
segment_of (Abort id) = plain_segment (calls.Abort id)
segment_of (Success id time) = plain_segment (calls.Success time id)
segment_of (StateOf id) = plain_segment (calls.StateOf id)
segment_of (Other call) = plain_segment call.value
segment_of (Lanes segment) = segment.value

-- the segment that is borrowed
abbrev pub segment_at : Placed → Segment
segment_at (placed.Plain call) = plain_segment (call_at call)
segment_at (placed.Lanes segment) = segment.now
