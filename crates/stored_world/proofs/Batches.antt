-- Batches, and the rows that they lead to. Callers want `none_ascend`, `one_ascends` and `batch_leads`.
use Rattle.std.proofs.Common.{◌≡◌, ℕ, Bool, true, false, List, [], ◌∷◌, Option, Some, None, sym, ap, ◌∙◌, refl, inl, inr}
use Rattle.std.specs.Cmp.Lexicographic.{slice_cmp}
use Rattle.std.specs.Ordering.{nat_cmp}
use Rattle.std.specs.List.Sorted.{IsStrictlySortedBy}
use Rattle.std.specs.FinMap as fin
use Rattle.apex_base.specs.Keys.{Key, IsKey, key_text}
use Rattle.apex_base.specs.Members.{In}
use Rattle.apex_base.proofs.RowMaps.{rows_found}
use Rattle.row_codec.specs.declared.batch.Row.{Row}
use Rattle.row_codec.specs.Batch.{keys_of}
use Rattle.row_map.specs.Rows.{RowMap, changed, changed_at}
use Rattle.row_map.specs.Room.{same_key, in_batch}
use Rattle.row_map.proofs.Maps.{same_rows, key_is, changed_other}
use Rattle.apex_world.specs.Lawful.{Lawful}
use Rattle.apex_world.specs.Rows.{rows, row_at, row_keys}
use Rattle.apex_world.specs.World.{World}
use Rattle.world_facts.proofs.facts.WorldRows.{world_keys, world_row}
use Rattle.stored_world.proofs.BatchRows.{changed_here}

-- no row ascends, and so does one
pub none_ascend : (rows : List Row) → rows ≡ [] → IsStrictlySortedBy (slice_cmp nat_cmp) (keys_of rows)
unfolding IsStrictlySortedBy
none_ascend rows e = rw e tt

pub one_ascends : (rows : List Row) (row : Row) → rows ≡ row ∷ [] → IsStrictlySortedBy (slice_cmp nat_cmp) (keys_of rows)
unfolding IsStrictlySortedBy
one_ascends rows row e = rw e (tt, tt)

-- after one change, a key of which the rest says nothing is as in the other map
step_at : (m n : RowMap) (row : Row) (rest : List Row) (q : List ℕ) (b : Bool) → same_key q row.key ≡ b
    → row.value ≡ fin.get n row.key → (in_batch q (row ∷ rest) ≡ false → fin.get m q ≡ fin.get n q)
    → in_batch q rest ≡ false → fin.get (changed_at m row.key row.value) q ≡ fin.get n q
step_at m n row rest q true e here same none =
    let one = key_is q row.key e in
    ap (fin.get (changed_at m row.key row.value)) one ∙ changed_here m row.key row.value ∙ here
    ∙ ap (fin.get n) (sym one)
step_at m n row rest q false e here same none =
    changed_other m row.key row.value q e ∙ same (rw (e, none) refl)

-- a batch whose rows are those of a map leads to it, where all other rows are there already
changed_value : (n : RowMap) (batch : List Row) (m : RowMap) → ((row : Row) → In row batch → row.value ≡ fin.get n row.key)
    → (q : List ℕ) → (in_batch q batch ≡ false → fin.get m q ≡ fin.get n q) → fin.get (changed m batch) q ≡ fin.get n q
changed_value n [] m each q same = same refl
changed_value n (row ∷ rest) m each q same =
    changed_value n rest (changed_at m row.key row.value) (λ r i. each r (inr i)) q
    (step_at m n row rest q (same_key q row.key) refl (each row (inl refl)) same)

-- a row is that of a key in a world
pub record IsRowOf (v : World) (row : Row) : Type 0 where
  pub key : Key
  pub is_key : IsKey key
  pub spelled : row.key ≡ key_text key
  pub value : row.value ≡ row_at v key

module _ (w v : World) (before : Lawful w) (after : Lawful v) (batch : List Row)
    (each : (row : Row) → In row batch → IsRowOf v row)
    (others : (k : Key) → IsKey k → in_batch (key_text k) batch ≡ false → row_at v k ≡ row_at w k) where
  row_is : (row : Row) → In row batch → row.value ≡ fin.get (rows v) row.key
  row_is row i =
      let of = each row i in
      of.value ∙ sym (world_row v after of.key of.is_key) ∙ ap (fin.get (rows v)) (sym of.spelled)

  -- a key with a row in one of the worlds
  keyed : (k : Key) (q : List ℕ) → IsKey k → q ≡ key_text k → in_batch q batch ≡ false
      → fin.get (rows w) q ≡ fin.get (rows v) q
  keyed k q is e none =
      ap (fin.get (rows w)) e ∙ world_row w before k is
      ∙ sym (others k is (ap (λ (q : List ℕ). in_batch q batch) (sym e) ∙ none))
      ∙ sym (world_row v after k is) ∙ ap (fin.get (rows v)) (sym e)

  stays_if : (q : List ℕ) (a b : Option (List ℕ)) → fin.get (rows w) q ≡ a → fin.get (rows v) q ≡ b
      → in_batch q batch ≡ false → fin.get (rows w) q ≡ fin.get (rows v) q
  stays_if q (Some x) b e f none =
      let (k, is, same, has) = rows_found (row_keys w) (row_at w) (world_keys w before) q x e in keyed k q is same none
  stays_if q None (Some x) e f none =
      let (k, is, same, has) = rows_found (row_keys v) (row_at v) (world_keys v after) q x f in keyed k q is same none
  stays_if q None None e f none = e ∙ sym f

  -- a batch whose rows are those of the world after leads to its rows, where no other row changes
  pub batch_leads : changed (rows w) batch ≡ rows v
  batch_leads = same_rows _ _
      (λ q. changed_value (rows v) batch (rows w) row_is q (stays_if q _ _ refl refl))
