use Rattle.std.proofs.Common.{◌≡◌, sym, ap, subst, ◌∙◌, refl}
use Rattle.std.specs.Prelude.{find, List, []}
use Rattle.apex_base.specs.declared.records.Record.{Record}
use Rattle.apex_base.specs.Members.{In}
use Rattle.apex_base.specs.Sessions.{has_id}
use Rattle.apex_world.specs.declared.calls.Call.TheVariants as calls
use Rattle.apex_world.specs.Advance.{told}
use Rattle.call_judge.proofs.Judgements.{quiet_is}
use Rattle.call_judge.proofs.judging.judge_state.Goals as goal

pub session_with-requires-clause-childless : goal.session_with-requires-clause-childless
session_with-requires-clause-childless c =
    let (w, s) = c.requires.stands in
    subst (λ (ss : List Record). (r : Record) → In r ss → r.children ≡ []) (sym (c.deref.ensures.value ∙ s.sessions))
    s.simple.childless

pub returns-in-None-clause-judged : goal.returns-in-None-clause-judged
returns-in-None-clause-judged c w s =
    let q = c.quiet in
    quiet_is c.args.rows.now c.args.tables.now w s q.result (calls.StateOf c.args.id) _
    (ap (told w c.args.id) (ap (λ (ss : List Record). find (has_id c.args.id) ss) (sym (c.deref.ensures.value ∙ s.sessions))
    ∙ sym c.in-None.ensures)) refl q.ensures.reply q.ensures.rows q.ensures.patch

pub returns-in-Some-clause-judged : goal.returns-in-Some-clause-judged
returns-in-Some-clause-judged c w s =
    let q = c.quiet-in-Some in
    quiet_is c.args.rows.now c.args.tables.now w s q.result (calls.StateOf c.args.id) _
    (ap (told w c.args.id) (ap (λ (ss : List Record). find (has_id c.args.id) ss) (sym (c.deref.ensures.value ∙ s.sessions))
    ∙ sym c.in-Some.ensures)) refl q.ensures.reply q.ensures.rows q.ensures.patch
