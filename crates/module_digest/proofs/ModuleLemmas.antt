-- What the files of a module tell of the module.
use Rattle.std.proofs.Common.{◌≡◌, ℕ, ◌≤◌, List, length, Option, Some, sym, subst}
use Rattle.std.specs.Prelude.{IfSome}
use Rattle.std.specs.FinMap as fin
use Rattle.apex_base.specs.Modules.{FileMap, IsModule}

pub short_file : (m : FileMap) (path content : List ℕ) → IsModule m → Some content ≡ fin.get m path
    → length content ≤ 1048576
short_file m path content h is =
    subst (λ (o : Option (List ℕ)). IfSome o (λ c. length c ≤ 1048576)) (sym is) (h.short path)
