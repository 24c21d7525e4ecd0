use Rattle.std.proofs.Common.{◌≡◌, drop}
use Rattle.package_store.specs.Keeping.{has_part}
use Rattle.world_check.specs.RightModules.{less_parts}
use Rattle.world_check.proofs.modules.take_parts.Given as goal

-- what is left once the parts that are left are taken, is what is left in the end
abbrev pub invariant-loop-p : goal.invariant-loop-p
invariant-loop-p l =
    less_parts l.rows (has_part l.kept) l.r.id l.rest (drop l.p-index l.r.parts)
    ≡ less_parts l.rows (has_part l.kept) l.r.id l.left l.r.parts
