-- A store without rows is that of a world before its first boot: `empty_stored`.
use Rattle.std.proofs.Common.{◌≡◌, ℕ, List, [], ◌∷◌, ◌++◌, length, flat_map, map, sym, ap, ◌∙◌, refl, nat_cmp, arith}
use Rattle.std.specs.Cmp.Lexicographic.{slice_cmp}
use Rattle.std.specs.FinMap as fin
use Rattle.std.specs.FinMap.{len-entries, len-empty}
use Rattle.apex_base.specs.declared.numbers.Scale.{Scale}
use Rattle.apex_base.specs.Keys.{Key, Boots, DataOf, WatchOf, RowMap, rows_by}
use Rattle.apex_base.specs.Tables.{NameMap}
use Rattle.stored_world.specs.Stored.{IsStored}
use Rattle.apex_world.specs.Rows.{rows, row_at, table_keys}
use Rattle.apex_world.specs.World.{empty_world}
use Rattle.world_facts.proofs.facts.EmptyLemmas.{empty_lawful}
use Rattle.world_facts.proofs.facts.PlainLemmas.{empty_plain}

nil_of : {X : Type 0} (xs : List X) → length xs ≡ 0 → xs ≡ []
nil_of [] e = refl
nil_of (x ∷ xs) e = absurd (omega (arith, e))

no_entries : (X : Type 0) → fin.entries {R = slice_cmp nat_cmp} (fin.empty {X = X}) ≡ []
no_entries X =
    nil_of _ (sym (len-entries {R = slice_cmp nat_cmp} (fin.empty {X = X})) ∙ len-empty (slice_cmp nat_cmp) X)

no_keys : (X : Type 0) (key : List ℕ → List ℕ → Key) → table_keys {X = X} key fin.empty ≡ []
no_keys X key =
    ap (λ (es : List (List ℕ × NameMap X)). flat_map (λ e. map (key e.0) (fin.keys e.1)) es) (no_entries (NameMap X))

no_rows : (scale : Scale) → rows (empty_world scale) ≡ fin.empty
no_rows scale =
    let watches = table_keys {X = ℕ} WatchOf fin.empty in
    let none : table_keys DataOf fin.empty ++ watches ≡ [] =
    ap (λ keys. keys ++ watches) (no_keys (List ℕ) DataOf) ∙ no_keys ℕ WatchOf in
    ap (λ keys. rows_by (Boots ∷ keys) (row_at (empty_world scale))) none

pub empty_stored : (kept : RowMap) (scale : Scale) → kept ≡ fin.empty → IsStored kept (empty_world scale)
empty_stored kept scale none = record {
  lawful = empty_lawful scale;
  simple = record { plain = empty_plain scale; childless = λ r h. absurd h };
  stored = none ∙ sym (no_rows scale);
}
