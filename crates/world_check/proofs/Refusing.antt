-- A test that refuses: `refused`.
use Rattle.std.proofs.Common.{◌≡◌, Bool, false, Decides, sym, ◌∙◌}
use Rattle.std.proofs.lemmas.Bool.{true≢false}

-- where a part is refused, the whole is
pub refused : (Part Whole : Type 0) (b : Bool) → Decides b Part → b ≡ false → (Whole → Part) → Decides false Whole
refused Part Whole b d e part = (λ t. absurd (true≢false (sym t)), λ whole. sym e ∙ d.1 (part whole))
