-- Rows that have what a world has at each key are the rows of that world. Callers want
-- `rows_typed` and `map_is_rows`.
use Rattle.std.proofs.Common.{◌≡◌, ℕ, List, Option, Some, None, ap, ◌∙◌, refl}
use Rattle.std.specs.FinMap as fin
use Rattle.apex_base.specs.Keys.{Key, IsKey, RowMap, key_text}
use Rattle.apex_base.proofs.RowMaps.{rows_found, same_names}
use Rattle.world_laws.specs.BootByRows.{HasTypedKeys}
use Rattle.apex_world.specs.Lawful.{Lawful}
use Rattle.apex_world.specs.Rows.{row_at, row_keys, rows}
use Rattle.apex_world.specs.World.{World}
use Rattle.world_facts.proofs.facts.WorldRows.{world_keys, world_row}

-- each key of a world's rows is that of something
pub rows_typed : (w : World) → Lawful w → HasTypedKeys (rows w)
rows_typed w law q v e = let (k, i, is, has) = rows_found (row_keys w) (row_at w) (world_keys w law) q v e in (k, i, is)

module _ (w : World) (law : Lawful w) (m : RowMap) (typed : HasTypedKeys m)
    (same : (k : Key) → IsKey k → fin.get m (key_text k) ≡ row_at w k) where
  get_if : (q : List ℕ) (a b : Option (List ℕ)) → fin.get m q ≡ a → fin.get (rows w) q ≡ b → a ≡ b
  get_if q (Some v) b e f =
      let (k, i, is) = typed q v e in
      let there = ap (fin.get m) is ∙ same k i in
      let here = ap (fin.get (rows w)) is ∙ world_row w law k i in
      cc (e, f, there, here)
  get_if q None (Some v) e f =
      let (k, i, is, has) = rows_found (row_keys w) (row_at w) (world_keys w law) q v f in
      let there = ap (fin.get m) is ∙ same k i in
      cc (e, there, has)
  get_if q None None e f = refl

  -- they are the same
  pub map_is_rows : m ≡ rows w
  map_is_rows = same_names m (rows w) (λ q. get_if q (fin.get m q) (fin.get (rows w) q) refl refl)
