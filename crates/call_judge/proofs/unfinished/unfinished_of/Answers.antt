use Rattle.std.proofs.Common.{◌≡◌, true, false, List, ap, ◌∙◌, rules}
use Rattle.apex_base.specs.declared.records.Record.{Record}
use Rattle.apex_base.specs.Held.{is_unfinished}
use Rattle.call_judge.specs.Unfinished.{under}
use Rattle.call_judge.proofs.NamedSessions.{noted_one, skipped_one}
use Rattle.call_judge.proofs.unfinished.unfinished_of.Goals.{then-is_unfinished+in_ok-add_names, else-is_unfinished}
use Rattle.call_judge.proofs.unfinished.unfinished_of.Goals as goal

pub loop-r-preserved : goal.loop-r-preserved
loop-r-preserved c name =
    let xs : List Record = c.args.sessions.now in
    let r : Record = c.r-item.result in
    elim c.if-is_unfinished.branch [
      | then-is_unfinished+in_ok-add_names b ↦
          let is : is_unfinished r.state ≡ true = search rules in
          ap (λ m. under m name) b.by_name-is
          ∙ noted_one xs c.loop-r.r-index r name c.loop-r-test.true c.r-item.is is (under c.loop-r.by_name name) _
          b.as_slice.result.now b.as_slice.ensures (c.loop-r.invariant name) (b.in_ok-add_names.ensures name)
      | else-is_unfinished b ↦
          let is : is_unfinished r.state ≡ false = search rules in
          ap (λ m. under m name) b.by_name-is ∙ c.loop-r.invariant name
          ∙ skipped_one xs c.loop-r.r-index r name c.loop-r-test.true c.r-item.is is
    ]
