use Rattle.std.proofs.Common.{◌≡◌, drop}
use Rattle.apex_world.specs.Selection.{all_mount_but}
use Rattle.device_play.proofs.mounts.is_among.Given as goal

-- none of the modules so far is it
abbrev pub invariant-loop-listed : goal.invariant-loop-listed
invariant-loop-listed l = all_mount_but (drop l.listed-index l.modules) l.name l.version l.place
    ≡ all_mount_but l.modules l.name l.version l.place
