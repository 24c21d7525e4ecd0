use Rattle.std.proofs.Common.{length, sym, ◌∙◌, refl}
use Rattle.std.proofs.lemmas.Option.{slice_get_read}
use Rattle.call_judge.proofs.Childless.{found_alone}
use Rattle.call_judge.proofs.sessions.session_with.Goals as goal

pub returns-in-Ok : goal.returns-in-Ok
returns-in-Ok c =
    let xs = c.args.sessions.now in
    let (low, found) = c.in-Ok.ensures.found in
    sym (found_alone c.args.id xs c.requires.ascend c.requires.childless ∙ found
    ∙ slice_get_read xs (length xs) c.in-Ok.place c.index-sessions-place.result refl low c.index-sessions-place.is)

pub returns-in-Err : goal.returns-in-Err
returns-in-Err c =
    sym (found_alone c.args.id c.args.sessions.now c.requires.ascend c.requires.childless ∙ c.in-Err.ensures.found.1)
