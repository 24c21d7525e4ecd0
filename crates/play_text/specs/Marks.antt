-- How a line begins: docs/formats/text.md, "Turns".
use Rattle.std.specs.Prelude.{ℕ, List, ◌++◌, codes}
use Rattle.std.specs.Fmt.{decimal}

-- the boot and the lane of a turn
abbrev pub lane_mark : ℕ → ℕ → List ℕ
lane_mark boot lane = decimal boot ++ codes "." ++ decimal lane ++ codes "."
