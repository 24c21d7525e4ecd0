-- The segments of a boot, by their forms in memory.
use Rattle.std.proofs.Common.{◌≡◌, ℕ, ◌<◌, List, length, get_or, map, sym, ap, ◌∙◌, arith}
use Rattle.std.proofs.lemmas.List.{get_or-map, length-map}
use Rattle.apex_world.specs.declared.script.Segment.{Segment}
use Rattle.apex_world.specs.declared.segments.SegmentForm.{SegmentForm}
use Rattle.apex_world.specs.Segments.{segment_of}

-- there are as many segments as forms
pub few_of : (steps : List SegmentForm) (xs : List Segment) (i : ℕ) → map segment_of steps ≡ xs → i < length steps
    → i < length xs
few_of steps xs i same lt = omega (arith, lt, ap length same, length-map steps segment_of)

-- and each form is that of its segment
pub step_at : (steps : List SegmentForm) (xs : List Segment) (i : ℕ) (step : SegmentForm) → map segment_of steps ≡ xs
    → i < length steps → step ≡ get_or steps i step → segment_of step ≡ get_or xs i (segment_of step)
step_at steps xs i step same lt here =
    ap segment_of here ∙ sym (get_or-map segment_of steps i step (segment_of step) lt)
    ∙ ap (λ ys. get_or ys i (segment_of step)) same
