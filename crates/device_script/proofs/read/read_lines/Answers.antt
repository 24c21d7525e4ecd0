use Rattle.std.proofs.Common.{Err, sym, ◌∙◌, subst, arith}
use Rattle.device_script.specs.Script.{error_at, ReadsAs}
use Rattle.device_script.proofs.Readings.{reads_on, reads_no_further}
use Rattle.device_script.proofs.read.read_lines.Goals as goal

pub returns-in-Err : goal.returns-in-Err
returns-in-Err c =
    let n = c.loop-line.number in
    let ended = reads_no_further n c.loop-line.draft _ c.in-Err.e c.loop-line.rest.now _ _ c.in-Some.after.now
    (c.in-Some.ensures.parts, c.without_return.ensures) c.in-Err.ensures in
    rw c.error_at.ensures (subst (ReadsAs (Err (error_at n c.in-Err.e))) c.loop-line.invariant.reading ended)

pub loop-line-preserved : goal.loop-line-preserved
loop-line-preserved c = record {
  reading = sym (reads_on c.loop-line.number c.loop-line.draft _ c.loop-line.rest.now _ _ c.in-Some.after.now
      (c.in-Some.ensures.parts, c.without_return.ensures) c.in_default-read_line.ensures)
      ∙ c.loop-line.invariant.reading;
  few = omega (arith, c.in-Some.ensures.shorter);
}
