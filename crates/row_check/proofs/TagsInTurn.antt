-- Tags that are judged in turn. Callers want `one_more` and `least_here`.
use Rattle.std.proofs.Common.{◌≡◌, ℕ, ◌+◌, Bool, true, false, subst, inl, inr, arith}
use Rattle.std.proofs.lemmas.Bool.{cases_lt}
use Rattle.apex_base.specs.declared.numbers.Scale.{Scale}
use Rattle.apex_base.specs.Keys.{RowMap}
use Rattle.row_check.specs.BadRows.{AgreesAt, IsLeastDifference}
use Rattle.row_check.specs.SettledTags.{Tells}
use Rattle.row_check.specs.WrongTags.{AgreeBelow}

module _ (m : RowMap) (tag : ℕ) (answer : Bool) where
  pub one_more : answer ≡ true → Tells m tag answer → AgreeBelow m tag → AgreeBelow m (tag + 1)
  one_more right told before low l scale = elim (cases_lt low tag) [
    | inl less ↦ before low less scale
    | inr high ↦ subst (λ (t : ℕ). AgreesAt m scale t) (omega (arith, l, high)) (told.right right scale)
  ]

  pub least_here : answer ≡ false → Tells m tag answer → AgreeBelow m tag
      → (scale : Scale) → IsLeastDifference m scale tag
  least_here wrong told before scale = record {
    here = told.wrong wrong scale;
    before = λ low l. before low l scale;
  }
