use Rattle.std.proofs.lemmas.Bool.Decides.{Decides-eqb}
use Rattle.std.proofs.lemmas.Slice.Eq.{strip_prefix_is}
use Rattle.row_check.proofs.RowsWalked.{same_rest}
use Rattle.row_check.proofs.fronts.rest_after.Goals as goal

pub returns : goal.returns
returns c =
    same_rest c.args.front.now c.args.key.now c.strip_prefix.result
    (strip_prefix_is Decides-eqb c.args.key.now c.args.front.now c.strip_prefix.result c.strip_prefix.ensures.cases)
