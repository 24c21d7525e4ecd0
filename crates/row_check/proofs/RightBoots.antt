-- The row of boots is right if and only if its test holds. Callers want `boots_right` and `boots_took`.
use Rattle.std.proofs.Common.{◌≡◌, ℕ, zero, suc, ◌-◌, ◌≤◌, Bool, true, false, cond, eqb, leb, not, ◌&&◌, List, []}
use Rattle.std.proofs.Common.{◌∷◌, ◌++◌}
use Rattle.std.proofs.Common.{length, drop, Option, Some, None, sym, ap, ◌∙◌, refl, arith}
use Rattle.std.specs.Prelude.{option_and_then, get_or, IfSome}
use Rattle.std.specs.Int.{w32, w64, to_be_bytes}
use Rattle.std.specs.Str.{bytes_eq}
use Rattle.std.specs.FinMap as fin
use Rattle.std.proofs.lemmas.Bool.{leb-true, leb-false}
use Rattle.std.proofs.lemmas.List.{append-nil, length-drop}
use Rattle.std.proofs.lemmas.List.FromFn.{length-map-range_with_len}
use Rattle.std.proofs.lemmas.Slice.Eq.{bytes_eq-Decides}
use Rattle.apex_base.specs.declared.numbers.Scale.{Scale}
use Rattle.apex_base.specs.Keys.{Boots, RowMap, key_of}
use Rattle.apex_base.specs.Reading.{byte_at, number_at, at_end, four_text}
use Rattle.apex_base.specs.Spelling.{moment_at}
use Rattle.apex_base.specs.Windows.{last_five}
use Rattle.apex_world.specs.Opened.{moments_at, boots_of, boots_or_none, opened_boots, opened_sessions, era_of}
use Rattle.apex_world.specs.Opened.{activated_at}
use Rattle.apex_world.specs.Opened.{opened}
use Rattle.apex_world.specs.Rows.{moments_text, boots_text, boots_row}
use Rattle.apex_world.specs.World.{boots}
use Rattle.apex_base.proofs.ByteLists.{AreBytes}
use Rattle.session_record.proofs.Steps.{bind_holds}
use Rattle.session_record.proofs.Took.{byte_took, four_took, moment_took}
use Rattle.row_check.specs.BadRows.{opened_rows}
use Rattle.row_check.specs.RightRows.{is_value, are_boots, is_boots_row}
use Rattle.row_check.proofs.KeysRead.{same_value, no_key_row, key_row}

-- Boots that were read are spelled so

none_left : (bytes : List ℕ) → IfSome (at_end {X = List ℕ} [] bytes) (λ ms. (bytes ≡ moments_text ms) × (length ms ≡ 0))
none_left [] = (refl, refl)
none_left (b ∷ rest) = tt

moments_took : (n : ℕ) (bytes : List ℕ) → AreBytes bytes
    → IfSome (moments_at n bytes) (λ ms. (bytes ≡ moments_text ms) × (length ms ≡ n))
unfolding moments_at
moments_took zero bytes fits = none_left bytes
moments_took (suc n) bytes fits =
    bind_holds (moment_at bytes) _ _ _ (moment_took bytes fits) (λ x t.
    bind_holds (moments_at n x.1) _ _ _ (moments_took n x.1 t.0.rest_fits) (λ ms u. (
      t.0.is ∙ ap (λ (rest : List ℕ). to_be_bytes w64 x.0 ++ rest) u.0
          ∙ ap (λ (xs : List ℕ). xs ++ moments_text ms) (sym (append-nil (to_be_bytes w64 x.0))),
      ap suc u.1,
    )))

pub boots_took : (bytes : List ℕ) → AreBytes bytes → IfSome (boots_of bytes) (λ b. bytes ≡ boots_text b.0 b.1)
unfolding boots_of
boots_took bytes fits =
    bind_holds (number_at w32 bytes) _ _ _ (four_took bytes fits) (λ n t.
    bind_holds (byte_at n.1) _ _ _ (byte_took n.1 t.0.rest_fits) (λ count u.
    bind_holds (moments_at count.0 count.1) _ _ _ (moments_took count.0 count.1 u.0.rest_fits) (λ ms v.
    t.0.is ∙ ap (λ (rest : List ℕ). four_text n.0 rest) (u.0.is ∙ ap (λ (rest : List ℕ). count.0 ∷ rest) v.0
    ∙ ap (λ (k : ℕ). k ∷ moments_text ms) (sym v.1)))))

-- The row that boots make

abbrev pub boots_again : ℕ × List ℕ → Option (List ℕ)
boots_again b = cond (eqb b.0 0) None (Some (boots_text b.0 (last_five b.1)))

few_five : (ms : List ℕ) → length ms ≤ 5 → last_five ms ≡ ms
few_five ms l = let e : length ms - 5 ≡ 0 = omega (arith, l) in ap (λ (n : ℕ). drop n ms) e

counted : (n : ℕ) (ms ms' : List ℕ) → boots_text n ms ≡ boots_text n ms' → length ms ≡ length ms'
counted n ms ms' e = ap (λ (xs : List ℕ). get_or xs 4 0) e

unlike : (c : Bool) (n : ℕ) (ms : List ℕ) → bytes_eq (boots_text n (last_five ms)) (boots_text n ms) ≡ c
    → leb (length ms) 5 ≡ false → c ≡ false
unlike false n ms e l = refl
unlike true n ms e l =
    let same = counted n (last_five ms) ms ((bytes_eq-Decides (boots_text n (last_five ms)) (boots_text n ms)).0 e) in
    let many = leb-false (length ms) 5 l in
    let short = length-drop {A = ℕ} (length ms - 5) ms in
    absurd (omega (arith, same, many, short))

few_if : (b : Bool) (n : ℕ) (ms : List ℕ) → leb (length ms) 5 ≡ b
    → bytes_eq (boots_text n (last_five ms)) (boots_text n ms) ≡ b
few_if true n ms e =
    ap (λ (xs : List ℕ). bytes_eq (boots_text n xs) (boots_text n ms)) (few_five ms (leb-true (length ms) 5 e))
    ∙ same_value (boots_text n ms)
few_if false n ms e = unlike (bytes_eq (boots_text n (last_five ms)) (boots_text n ms)) n ms refl e

some_if : (b : Bool) (n : ℕ) (ms : List ℕ)
    → is_value (cond b None (Some (boots_text n (last_five ms)))) (boots_text n ms)
    ≡ (not b && leb (length ms) 5)
some_if true n ms = refl
some_if false n ms = few_if (leb (length ms) 5) n ms refl

boots_value : (o : Option (ℕ × List ℕ)) (value : List ℕ) → IfSome o (λ b. value ≡ boots_text b.0 b.1)
    → is_value (boots_again (boots_or_none o)) value ≡ are_boots o
boots_value None value h = refl
boots_value (Some (n, ms)) value h =
    ap (λ (v : List ℕ). is_value (boots_again (n, ms)) v) h ∙ some_if (eqb n 0) n ms

module _ (m : RowMap) (scale : Scale) where
  -- as many eras as boots
  pub boots_count : boots (opened m scale) ≡ (opened_boots m).0
  boots_count = length-map-range_with_len (λ (b : ℕ). era_of m (activated_at b (opened_sessions m))) 1
      (opened_boots m).0

  pub row_again : boots_row (opened m scale) ≡ boots_again (opened_boots m)
  row_again = ap (λ (n : ℕ). cond {A = Option (List ℕ)} (eqb n 0) None
      (Some (boots_text n (last_five (opened_boots m).1)))) boots_count

  -- a row of boots
  pub boots_right : (rest value : List ℕ) → fin.get m (1 ∷ rest) ≡ Some value → AreBytes value
      → is_value (fin.get (opened_rows m scale) (1 ∷ rest)) value ≡ is_boots_row rest value
  unfolding key_of
  boots_right [] value e fits =
      ap (λ (o : Option (List ℕ)). is_value o value) (key_row m scale (1 ∷ []) Boots tt refl ∙ row_again
      ∙ ap (λ (o : Option (List ℕ)). boots_again (boots_or_none (option_and_then boots_of o))) e)
      ∙ boots_value (boots_of value) value (boots_took value fits)
  boots_right (b ∷ rest) value e fits =
      ap (λ (o : Option (List ℕ)). is_value o value) (no_key_row m scale (1 ∷ b ∷ rest) refl)
