use Rattle.std.proofs.Common.{length, Ok, Err, sym, ◌∙◌, refl}
use Rattle.std.proofs.lemmas.Option.{slice_get_read}
use Rattle.apex_base.proofs.Searched.{where_found}
use Rattle.apex_base.proofs.sessions.session_of.Goals as goal

pub returns-in-Ok : goal.returns-in-Ok
returns-in-Ok c =
    let xs = c.args.sessions.now in
    let (low, found) = where_found xs (record { 0 = c.args.number }) c.requires (Ok c.in-Ok.place) c.in-Ok.ensures.range
    c.in-Ok.ensures.found in
    sym (found
    ∙ slice_get_read xs (length xs) c.in-Ok.place c.index-sessions-place.result refl low c.index-sessions-place.is)

pub returns-in-Err : goal.returns-in-Err
returns-in-Err c =
    let xs = c.args.sessions.now in
    sym (where_found xs (record { 0 = c.args.number }) c.requires (Err c.in-Err.field-0) c.in-Err.ensures.range
    c.in-Err.ensures.found).1
