use Rattle.std.proofs.Common.{rules, ◌≡◌, List, ap, subst}
use Rattle.std.proofs.lemmas.Fn.{always_returns_same}
use Rattle.std.proofs.lemmas.List.Sorted.{ranks_by}
use Rattle.std.specs.List.Sorted.{IsPermutation}
use Rattle.std.specs.Ordering.{is_lt}
use Rattle.session_check.specs.declared.marks.Mark.{Mark}
use Rattle.session_check.specs.Marks.{mark_cmp}
use Rattle.session_check.proofs.Orders.{mark_total}
use Rattle.session_check.proofs.marks.sorted_marks.Goals as goal

pub returns : goal.returns
returns c = record {
  all = subst (λ (ms : List Mark). IsPermutation ms c.sort_by.new.self.items) c.in_ok-marks.ensures
      c.in_ok-sort_by.ensures.permutation;
  sorted = c.in_ok-sort_by.ensures.sorted (λ m n. is_lt (mark_cmp m n)) (ranks_by mark_total (λ m. m))
      (always_returns_same _ _ _ (λ a r f k.
      let same : r ≡ mark_cmp a.0.now a.1.0.now = search rules in
      (ap is_lt same, search rules)));
}
