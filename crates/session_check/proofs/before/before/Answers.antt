use Rattle.std.proofs.Common.{ℕ, Option, ap, ◌∙◌}
use Rattle.apex_base.specs.declared.records.Record.{Record}
use Rattle.apex_base.specs.Sessions.{session_of}
use Rattle.session_check.specs.Before.{target_in}
use Rattle.session_check.proofs.Earlier.{before_none, before_some}
use Rattle.session_check.proofs.before.before.Goals as goal

pub returns-in-None : goal.returns-in-None
returns-in-None c =
    before_none c.args.sessions.now c.requires.dated c.args.marks.now c.requires.marks c.args.x.now c.args.name.now
    c.in-None.ensures

pub returns-in-Some : goal.returns-in-Some
returns-in-Some c =
    let ss = c.args.sessions.now in
    let name = c.args.name.now in
    c.target_in.ensures
    ∙ ap (λ (o : Option Record). target_in o name)
    (c.session_of.ensures ∙ ap (λ (n : ℕ). session_of ss (record { 0 = n })) c.from.ensures)
    ∙ before_some ss c.requires.dated c.args.marks.now c.requires.marks c.args.x.now name c.in-Some.m c.in-Some.ensures
