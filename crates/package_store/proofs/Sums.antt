-- What rows weigh, added up in the order of their keys.
use Rattle.std.proofs.Common.{◌≡◌, ℕ, List, ap, sym}
use Rattle.std.specs.Cmp.Lexicographic.{slice_cmp}
use Rattle.std.specs.List.{sum_by}
use Rattle.std.specs.List.Sorted.{IsStrictlySortedBy}
use Rattle.std.specs.Map.{keys_of}
use Rattle.std.specs.Ordering.{nat_cmp}
use Rattle.std.specs.declared.alloc.Global.{Global}
use Rattle.std.specs.declared.vec.Vec.{Vec}
use Rattle.apex_base.specs.RowSums.{file_row_weight, kept_weight}
use Rattle.row_map.specs.Rows.{shown, rows_of}
use Rattle.package_store.proofs.Maps.{ascending, in_order}

-- the weight of rows is the sum over a `BTreeMap` that holds them
pub all_weights : (es : List (Vec ℕ Global × List ℕ))
    → IsStrictlySortedBy (λ (x y : Vec ℕ Global). slice_cmp nat_cmp x.items y.items) (keys_of es)
    → sum_by file_row_weight (shown es) ≡ kept_weight (rows_of es)
all_weights es up = sym (ap (sum_by file_row_weight) (in_order (shown es) (ascending es up)))
