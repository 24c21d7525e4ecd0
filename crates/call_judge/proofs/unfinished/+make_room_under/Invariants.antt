use Rattle.std.proofs.Common.{length}
use Rattle.call_judge.proofs.unfinished.+make_room_under.Given as goal

abbrev pub decreases-make_room_under : goal.decreases-make_room_under
decreases-make_room_under l = length l.parts.now
