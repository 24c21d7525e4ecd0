use Rattle.std.proofs.Common.{arith, ap}
use Rattle.std.specs.List.{sum_by}
use Rattle.apex_base.specs.RowSums.{file_row_weight}
use Rattle.row_map.specs.Rows.{shown}
use Rattle.package_store.proofs.Sums.{all_weights}
use Rattle.package_store.proofs.weight.kept_weight.Goals as goal

pub loop-key-init : goal.loop-key-init
loop-key-init c =
    let gives = c.into_iter-key-iterator.ensures.into_iter_gives in
    omega (arith, ap (λ es. sum_by file_row_weight (shown es)) gives.0, all_weights _ gives.5)
