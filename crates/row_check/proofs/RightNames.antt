-- Rows of data and of watches are right if and only if their tests hold. Callers want `data_right` and `watch_right`.
use Rattle.std.proofs.Common.{◌≡◌, ℕ, Bool, true, false, cond, ◌&&◌, List, [], ◌∷◌, Option, Some, None, sym, ap}
use Rattle.std.proofs.Common.{subst}
use Rattle.std.proofs.Common.{◌∙◌, refl}
use Rattle.std.specs.Prelude.{option_and_then, is_some, IfSome}
use Rattle.std.specs.Int.{w64}
use Rattle.std.specs.Option.{option_map}
use Rattle.std.specs.FinMap as fin
use Rattle.apex_base.specs.declared.numbers.Scale.{Scale}
use Rattle.apex_base.specs.Keys.{DataOf, WatchOf, RowMap, data_front, watch_front, key_of, data_key_of, watch_key_of}
use Rattle.apex_base.specs.Reading.{number_at, at_end, eight_text, short_at, short_text}
use Rattle.apex_base.specs.Text.{is_name}
use Rattle.apex_world.specs.Opened.{end_of}
use Rattle.apex_base.proofs.ByteLists.{AreBytes}
use Rattle.session_record.proofs.Steps.{bind_holds}
use Rattle.session_record.proofs.Took.{eight_took}
use Rattle.row_check.specs.BadRows.{opened_rows}
use Rattle.row_check.specs.RightRows.{is_value, is_watch_row}
use Rattle.row_key.specs.Data.{are_names, is_data_row}
use Rattle.row_check.proofs.KeysRead.{same_value, named_value, no_key_row, key_row, short_is}
use Rattle.row_check.proofs.OpenedValues.{contents_value, watch_value}

-- an end that was read is spelled so
end_ended : (value : List ℕ) (n : ℕ × List ℕ) → value ≡ eight_text n.0 n.1
    → IfSome (at_end n.0 n.1) (λ k. value ≡ eight_text k [])
end_ended value (n, []) e = e
end_ended value (n, b ∷ rest) e = tt

end_took : (value : List ℕ) → AreBytes value → IfSome (end_of value) (λ n. value ≡ eight_text n [])
unfolding end_of
end_took value fits =
    bind_holds (number_at w64 value) _ _ _ (eight_took value fits) (λ n t. end_ended value n t.0.is)

watch_if : (a b : Bool) (o : Option ℕ) (value : List ℕ) → IfSome o (λ n. value ≡ eight_text n [])
    → is_value (option_map (λ n. eight_text n []) (cond a (cond b o None) None)) value ≡ ((a && b) && is_some o)
watch_if true true (Some n) value e = subst (λ (v : List ℕ). is_value (Some (eight_text n [])) v ≡ true) (sym e)
    (same_value (eight_text n []))
watch_if true true None value e = refl
watch_if true false o value e = refl
watch_if false b o value e = refl

then_cond : (b : Bool) (value : List ℕ) → option_and_then end_of (cond b (Some value) None)
    ≡ cond b (end_of value) None
then_cond true value = refl
then_cond false value = refl

module _ (m : RowMap) (scale : Scale) (rest value : List ℕ) where
  data_if : (o : Option (List ℕ × List ℕ)) → fin.get m (6 ∷ rest) ≡ Some value → short_at rest ≡ o
      → is_value (fin.get (opened_rows m scale) (6 ∷ rest)) value ≡ are_names o
  unfolding key_of data_key_of
  data_if None e f = ap (λ (o : Option (List ℕ)). is_value o value) (no_key_row m scale (6 ∷ rest) (rw f refl))
  data_if (Some (name, key)) e f =
      let is : rest ≡ short_text name key = short_is rest name key f in
      let there : fin.get m (data_front name key) ≡ Some value =
      ap (λ (r : List ℕ). fin.get m (6 ∷ r)) (sym is) ∙ e in
      ap (λ (o : Option (List ℕ)). is_value o value)
      (key_row m scale (6 ∷ rest) (DataOf name key) tt (ap (λ (r : List ℕ). 6 ∷ r) is)
      ∙ contents_value m name key
      ∙ ap (λ (o : Option (List ℕ)). cond (is_name name) (cond (is_name key) o None) None) there)
      ∙ named_value (is_name name) (is_name key) value

  -- a row of data
  pub data_right : fin.get m (6 ∷ rest) ≡ Some value
      → is_value (fin.get (opened_rows m scale) (6 ∷ rest)) value ≡ is_data_row rest
  data_right e = data_if (short_at rest) e refl

  watch_row_if : (o : Option (List ℕ × List ℕ)) → fin.get m (9 ∷ rest) ≡ Some value → AreBytes value
      → short_at rest ≡ o
      → is_value (fin.get (opened_rows m scale) (9 ∷ rest)) value ≡ (are_names o && is_some (end_of value))
  unfolding key_of watch_key_of
  watch_row_if None e fits f =
      ap (λ (o : Option (List ℕ)). is_value o value) (no_key_row m scale (9 ∷ rest) (rw f refl))
  watch_row_if (Some (observer, name)) e fits f =
      let is : rest ≡ short_text observer name = short_is rest observer name f in
      let there : fin.get m (watch_front observer name) ≡ Some value =
      ap (λ (r : List ℕ). fin.get m (9 ∷ r)) (sym is) ∙ e in
      ap (λ (o : Option (List ℕ)). is_value o value)
      (key_row m scale (9 ∷ rest) (WatchOf observer name) tt (ap (λ (r : List ℕ). 9 ∷ r) is)
      ∙ ap (option_map (λ (n : ℕ). eight_text n [])) (watch_value m observer name
      ∙ ap (λ (o : Option (List ℕ)). cond (is_name observer) (option_and_then end_of (cond (is_name name) o None)) None)
      there ∙ ap (λ (o : Option ℕ). cond (is_name observer) o None) (then_cond (is_name name) value)))
      ∙ watch_if (is_name observer) (is_name name) (end_of value) value (end_took value fits)

  -- a row of a watch
  pub watch_right : fin.get m (9 ∷ rest) ≡ Some value → AreBytes value
      → is_value (fin.get (opened_rows m scale) (9 ∷ rest)) value ≡ is_watch_row rest value
  watch_right e fits = watch_row_if (short_at rest) e fits refl
