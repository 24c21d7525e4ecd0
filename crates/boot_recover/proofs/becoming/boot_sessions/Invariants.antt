use Rattle.std.proofs.Common.{◌≡◌, ◌++◌, take, drop, flat_map}
use Rattle.apex_world.specs.Boot.{changed_to}
use Rattle.world_laws.specs.BootByRows.{become_in, sessions_in}
use Rattle.boot_recover.specs.Booted.{record_changes}
use Rattle.boot_recover.proofs.becoming.boot_sessions.Given as goal

-- the sessions so far are turned, and what changed of them is noted
abbrev pub invariant-loop-r : goal.invariant-loop-r
invariant-loop-r g l =
    let given = l.selection in
    let mounts = g.M.Mounter.mounting given.mounter.now in
    let step = become_in mounts given.rows.now given.order.now given.number in
    let before = take l.r-index l.initial.r-items in
    record {
      turned_front : l.r-items ≡ sessions_in mounts given.rows.now given.order.now given.number before
          ++ drop l.r-index l.initial.r-items;
      changed_front : l.noted.changes.items
          ≡ l.initial.noted.changes.items ++ flat_map (λ r. changed_to r (step r)) before;
      written_front : l.noted.rows.items ≡ l.initial.noted.rows.items ++ record_changes step before;
    }
