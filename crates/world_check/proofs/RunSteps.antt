-- One row more: what becomes of the boots that were noted. Callers want `boots_pass`, `boots_on` and `boots_more`.
use Rattle.std.proofs.Common.{◌≡◌, ℕ, Bool, true, false, cond, List, [], ◌∷◌, ◌++◌, map, Option, Some, None, sym, ap}
use Rattle.std.proofs.Common.{◌∙◌}
use Rattle.std.specs.Option.{option_map}
use Rattle.std.specs.Str.{bytes_eq}
use Rattle.std.proofs.lemmas.List.{append_assoc}
use Rattle.std.proofs.lemmas.Slice.Eq.{bytes_eq-Decides}
use Rattle.apex_base.specs.declared.records.Record.{Record}
use Rattle.world_check.specs.DataRows.{Row, value_weight, with_some, weights_in, boot_of, Adds}
use Rattle.row_key.specs.Data.{front_of}
use Rattle.world_check.specs.Runs.{run_keys}

module _ (ss : List Record) (last key : List ℕ) where
  weighed_none : (value : List ℕ) (rows : List Row) → front_of key ≡ None
      → weights_in ((key, value) ∷ rows) ≡ weights_in rows
  weighed_none value rows e = ap (λ (o : Option (List ℕ)). with_some (option_map
      (λ (front : List ℕ). (front, value_weight front (key, value))) o) (weights_in rows)) e

  weighed_some : (front value : List ℕ) (rows : List Row) → front_of key ≡ Some front
      → weights_in ((key, value) ∷ rows) ≡ (front, value_weight front (key, value)) ∷ weights_in rows
  weighed_some front value rows e = ap (λ (o : Option (List ℕ)). with_some (option_map
      (λ (front : List ℕ). (front, value_weight front (key, value))) o) (weights_in rows)) e

  abbrev boots_after : List ℕ → List Row → List ℕ
  boots_after k rows = map (boot_of ss) (run_keys bytes_eq k (weights_in rows))

  -- a row without a front
  pub boots_pass : (boots : List ℕ) → front_of key ≡ None → Adds ss last key boots last boots
  boots_pass boots e value rows = ap (λ (xs : List (List ℕ × ℕ)). boots ++ map (boot_of ss) (run_keys bytes_eq last xs))
      (sym (weighed_none value rows e))

  -- a row of the last front
  pub boots_on : (boots front : List ℕ) → front_of key ≡ Some front → bytes_eq last front ≡ true
      → Adds ss last key boots last boots
  boots_on boots front e same value rows =
      ap (λ (k : List ℕ). boots ++ boots_after k rows) ((bytes_eq-Decides last front).0 same) ∙
      ap (λ (ks : List (List ℕ)). boots ++ map (boot_of ss) ks)
      (ap (λ (b : Bool). cond b (run_keys bytes_eq front (weights_in rows))
      (front ∷ run_keys bytes_eq front (weights_in rows))) (sym same)
      ∙ ap (λ (xs : List (List ℕ × ℕ)). run_keys bytes_eq last xs) (sym (weighed_some front value rows e)))

  -- a row of another front
  pub boots_more : (boots front : List ℕ) → front_of key ≡ Some front → bytes_eq last front ≡ false
      → Adds ss last key boots front (boots ++ boot_of ss front ∷ [])
  boots_more boots front e other value rows =
      append_assoc boots (boot_of ss front ∷ []) (boots_after front rows)
      ∙ ap (λ (ks : List (List ℕ)). boots ++ map (boot_of ss) ks)
      (ap (λ (b : Bool). cond b (run_keys bytes_eq front (weights_in rows))
      (front ∷ run_keys bytes_eq front (weights_in rows))) (sym other)
      ∙ ap (λ (xs : List (List ℕ × ℕ)). run_keys bytes_eq last xs) (sym (weighed_some front value rows e)))
