use Rattle.std.proofs.Common.{◌≡◌, None, sym, ◌∙◌, rules}
use Rattle.call_judge.proofs.Admitted.{admitted_one}
use Rattle.call_judge.proofs.admitting.admit.Goals as goal

pub is_taken-requires-clause-childless : goal.is_taken-requires-clause-childless
is_taken-requires-clause-childless c = rw c.deref.ensures.value c.requires.childless

pub returns-in-Some : goal.returns-in-Some
returns-in-Some c w seen =
    let refusal = c.part_refusal.ensures w.sessions seen.unfinished in
    let refused = rw (c.get.ensures, c.as_slice.ensures) at refusal in
    let caller = sym c.is_caller_id.ensures ∙ c.if-not-is_caller_id.false in
    let free = sym (rw c.deref.ensures.value at c.is_taken.ensures) ∙ c.if-is_taken.false in
    admitted_one c.args.tables.now w c.args.id c.args.part.now c.in_ok-p.p _ seen caller free c.in_ok-p.ensures
    (sym refused ∙ c.in-Some.is)

pub returns-in-None : goal.returns-in-None
returns-in-None c w seen =
    let refusal = c.part_refusal.ensures w.sessions seen.unfinished in
    let refused = rw (c.get.ensures, c.as_slice.ensures) at refusal in
    let caller = sym c.is_caller_id.ensures ∙ c.if-not-is_caller_id.false in
    let free = sym (rw c.deref.ensures.value at c.is_taken.ensures) ∙ c.if-is_taken.false in
    let none : c.part_refusal.result ≡ None = search rules in
    admitted_one c.args.tables.now w c.args.id c.args.part.now c.in_ok-p.p _ seen caller free c.in_ok-p.ensures
    (sym refused ∙ none)
