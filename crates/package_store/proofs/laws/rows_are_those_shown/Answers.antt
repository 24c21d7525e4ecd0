use Rattle.std.proofs.Common.{ℕ, List, ap, sym, ◌∙◌}
use Rattle.std.specs.FinMap as fin
use Rattle.std.specs.Cmp.Lexicographic.{slice_cmp}
use Rattle.std.specs.Ordering.{nat_cmp}
use Rattle.package_store.proofs.Maps.{entries_again}
use Rattle.package_store.proofs.laws.rows_are_those_shown.Goals as goal

pub returns : goal.returns
returns c = λ rows entries is.
    ap (λ (es : List (List ℕ × List ℕ)). fin.from_entries {R = slice_cmp nat_cmp} es) (sym is) ∙ entries_again rows
