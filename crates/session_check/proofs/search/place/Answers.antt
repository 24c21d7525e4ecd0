use Rattle.std.proofs.Common.{arith, rules}
use Rattle.std.proofs.lemmas.Fn.{always_returns_same}
use Rattle.session_check.specs.Marks.{is_below}
use Rattle.session_check.proofs.Places.{parted}
use Rattle.session_check.proofs.search.place.Goals as goal

pub returns : goal.returns
returns c =
    let name = c.args.name.now in
    let at = c.partition_point.ensures.partitioned (is_below name c.args.boot)
    (always_returns_same _ _ _ (λ a r q k. search rules)) (parted c.args.marks.now c.requires name c.args.boot) in
    record {
      within = c.partition_point.ensures.bound;
      below = λ k d lt. at.0 k d (omega arith) lt;
      above = at.1;
    }
