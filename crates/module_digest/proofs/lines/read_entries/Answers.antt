use Rattle.std.proofs.Common.{◌≡◌, ◌++◌, ◌∷◌, [], arith}
use Rattle.std.proofs.lemmas.List.{take_rest}
use Rattle.std.proofs.lemmas.Grind.{common_steps}
use Rattle.module_digest.proofs.LineLemmas.{stopped, went_on, read_on}
use Rattle.module_digest.proofs.lines.read_entries.Goals as goal

pub returns-in-None : goal.returns-in-None
returns-in-None c =
    stopped c.args.text.now c.loop-front.before.now c.in-Some.front.now c.in-Some.after.now c.loop-front.rest.now
    c.loop-front.line c.loop-front.invariant.bad c.in-Some.ensures.parts c.in-None.ensures.entry

pub loop-front-preserved : goal.loop-front-preserved
loop-front-preserved c = record {
  bad =
      rw take_rest (went_on c.args.text.now c.loop-front.before.now c.in-Some.front.now c.in-Some.after.now
      c.loop-front.rest.now c.loop-front.line c.in-Some-entry_after.entry c.loop-front.invariant.bad
      c.in-Some.ensures.parts c.in-Some-entry_after.ensures.entry);
  read =
      let pushed : c.push.new.self.items ≡ c.loop-front.entries.items ++ c.in-Some-entry_after.entry ∷ [] =
      grind (arith, common_steps, c.push.ensures.items, c.if-is_err.ensures.value) in
      rw pushed (read_on c.args.text.now c.loop-front.before.now c.in-Some.front.now c.in-Some.after.now
      c.loop-front.rest.now c.loop-front.entries.items c.in-Some-entry_after.entry c.loop-front.invariant.read
      c.in-Some.ensures.parts c.in-Some-entry_after.ensures.entry);
  counted = omega (arith, c.in-Some.ensures.shorter, c.loop-front.invariant.counted);
}
