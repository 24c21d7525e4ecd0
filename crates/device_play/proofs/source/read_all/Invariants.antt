use Rattle.std.proofs.Common.{◌≡◌, ◌≤◌, ◌-◌, [], vec_len}
use Rattle.device_play.specs.Source.{Moved}
use Rattle.device_play.proofs.source.read_all.Given as goal

-- what was read and what is left are all that there was
abbrev pub invariant-loop-text : goal.invariant-loop-text
invariant-loop-text g l = record {
  moved : Moved (g.S.Source.left l.fn.source) (g.S.Source.left l.source) [] l.text.items;
  most : vec_len l.text ≤ 16777217;
  room : vec_len l.buffer ≡ 65536;
  later : g.S.Source.faults l.fn.source ≤ g.S.Source.faults l.source;
}

abbrev pub decreases-loop-text : goal.decreases-loop-text
decreases-loop-text g l = 16777217 - vec_len l.text
