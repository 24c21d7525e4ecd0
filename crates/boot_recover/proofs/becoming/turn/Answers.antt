use Rattle.std.proofs.Common.{◌≡◌, sym, ap, subst, ◌∙◌}
use Rattle.session_record.specs.Room.{HasRoom}
use Rattle.apex_world.specs.Boot.{aged, rebuilt}
use Rattle.world_laws.specs.BootByRows.{activated_by_rows, become_in}
use Rattle.boot_recover.proofs.TurnedSessions.{become_room}
use Rattle.boot_recover.proofs.becoming.turn.Goals as goal

pub returns-clause-room : goal.returns-clause-room
returns-clause-room g c =
    let given = c.args.selection.now in
    let mounts = g.M.Mounter.mounting given.mounter.now in
    let order = given.order.now in
    let r = c.args.r.now in
    let turned : c.age.new.r ≡ become_in mounts given.rows.now order given.number r =
    c.age.ensures ∙ ap (aged order.time) (c.in_ok-activate.ensures
    ∙ ap (activated_by_rows mounts given.rows.now order given.number) (c.rebuild.ensures
    ∙ ap (λ image. rebuilt image c.revert.new.r) c.image.ensures ∙ ap (rebuilt order.image) c.revert.ensures)) in
    subst HasRoom (sym turned) (become_room mounts given.rows.now order given.number r c.requires)
