use Rattle.std.proofs.Common.{◌≡◌, length, sym, ◌∙◌}
use Rattle.std.proofs.lemmas.Bool.{eqb-true, eq-eqb}
use Rattle.std.specs.Cmp.{eq_by_cmp_equiv}
use Rattle.std.specs.Ordering.{eq_by_cmp}
use Rattle.std.specs.Set.{distinct_count}
use Rattle.std.proofs.lemmas.Map.Made.{IsDistinct-from_count, distinct_count-from_IsDistinct}
use Rattle.std.proofs.lemmas.Map.Views.{btree_set_len-from_list}
use Rattle.session_check.proofs.distinct.are_distinct.Goals as goal

pub returns : goal.returns
returns g c =
    let laws = eq_by_cmp_equiv g.met.K.Ord.total in
    let xs = c.args.keys.now in
    let len : c.len.result ≡ distinct_count (eq_by_cmp g.K.Ord.cmp) xs = c.len.ensures.len
    ∙ btree_set_len-from_list g.met.K.Ord.total xs c.in_ok-set.set c.in_ok-set.ensures in (
      λ e. IsDistinct-from_count laws xs (sym len ∙ eqb-true c.len.result (length xs) e),
      λ d. eq-eqb c.len.result (length xs) (len ∙ distinct_count-from_IsDistinct laws xs d),
    )
