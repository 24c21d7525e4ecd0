use Rattle.std.proofs.Common.{◌≡◌, List, [], sym, ap, subst, ◌∙◌, refl}
use Rattle.apex_base.specs.declared.records.Record.{Record}
use Rattle.apex_base.specs.Members.{In}
use Rattle.std.proofs.lemmas.Result.{IfOk-weaker}
use Rattle.apex_world.specs.declared.calls.Reply.TheVariants.{Refused}
use Rattle.call_judge.proofs.Admitted.{seen, refused_is, over_scale_is, accepted_is, nobody_there}
use Rattle.call_judge.proofs.Entered.{entered_is}
use Rattle.call_judge.proofs.Judgements.{quiet_is}
use Rattle.call_judge.proofs.submitting.judge_submit.Goals as goal

pub admit-requires-clause-childless : goal.admit-requires-clause-childless
admit-requires-clause-childless c =
    let (w, s) = c.requires.stands in
    subst (λ (ss : List Record). (r : Record) → In r ss → r.children ≡ []) (sym s.sessions) s.simple.childless

pub returns-in-Err-Fault-clause-judged : goal.returns-in-Err-Fault-clause-judged
returns-in-Err-Fault-clause-judged c w s =
    let kept = c.args.rows.now in
    let tables = c.args.tables.now in
    let q = c.quiet in
    let had = c.in-Err-Fault.ensures w (seen kept tables w s) in
    quiet_is kept tables w s q.result _ _
    (refused_is w c.args.id c.args.part.now c.in-Err-Fault.refusal (rw c.in-Err-Fault.field-0-is at had))
    refl (q.ensures.reply ∙ ap Refused c.in-Err-Fault.refusal-is) q.ensures.rows q.ensures.patch

pub returns-in-Some-clause-judged : goal.returns-in-Some-clause-judged
returns-in-Some-clause-judged c w s =
    let kept = c.args.rows.now in
    let tables = c.args.tables.now in
    let q = c.quiet-in-Some in
    quiet_is kept tables w s q.result _ _
    (over_scale_is kept tables w s c.args.id c.args.part.now c.in-Ok.p (c.in-Ok.ensures w (seen kept tables w s))
    c.in-Some.refusal (sym c.in-Some.is ∙ (rw (c.weight.ensures.weight, c.content.ensures) at c.over_scale.ensures)))
    refl q.ensures.reply q.ensures.rows q.ensures.patch

pub enter-requires-clause-free : goal.enter-requires-clause-free
enter-requires-clause-free c =
    let kept = c.args.rows.now in
    let tables = c.args.tables.now in
    let (w, s) = c.requires.stands in
    nobody_there kept tables w s c.args.id c.args.part.now c.in-Ok.p (c.in-Ok.ensures w (seen kept tables w s))

pub returns-clause-judged : goal.returns-clause-judged
returns-clause-judged c w s =
    let kept = c.args.rows.now in
    let tables = c.args.tables.now in
    let id = c.args.id in
    let m = c.args.part.now in
    let p = c.in-Ok.p in
    let ok = c.in-Ok.ensures w (seen kept tables w s) in
    let fits = rw (c.weight.ensures.weight, c.content.ensures) at c.over_scale.ensures in
    IfOk-weaker c.enter.result _ _
    (entered_is kept tables w s id m p ok (rw c.content.ensures at c.weight.ensures.whole)
    (accepted_is kept tables w s id m p ok (sym c.in_default.is ∙ fits)))
    c.enter.ensures
