use Rattle.std.proofs.Common.{◌≡◌, ℕ, List, cond, None, drop, map}
use Rattle.std.specs.FinMap as fin
use Rattle.row_map.specs.Room.{among}
use Rattle.row_map.proofs.rows.Rows.remove_all.Given as goal

-- the rows without those that are left to delete are the rows without all of them
abbrev pub invariant-loop-key : goal.invariant-loop-key
invariant-loop-key l = record {
  leads : (q : List ℕ) → cond (among q (map (λ key. key.now) (drop l.key-index l.keys))) None (fin.get l.self q)
      ≡ cond (among q (map (λ key. key.now) l.keys)) None (fin.get l.fn.self q);
}
