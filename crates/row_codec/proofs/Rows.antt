-- Rows: what is read was spelled so, and what is spelled so is read.
use Rattle.std.proofs.Common.{◌≡◌, ℕ, zero, suc, ◌^◌, ◌<◌, ◌≤◌, Bool, true, false, cond, eqb, List, [], ◌∷◌, ◌++◌, length, Option, Some, None, refl, sym, ap, subst, ◌∙◌, append_assoc, arith}
use Rattle.std.specs.Prelude.{IfSome}
use Rattle.std.specs.Cmp.Lexicographic.{slice_cmp, nat_list_cmp_total}
use Rattle.std.specs.Int.{w32, to_be_bytes}
use Rattle.std.specs.List.{flat_map, AllByRecursion}
use Rattle.std.specs.List.Sorted.{IsStrictlySortedBy}
use Rattle.std.specs.Ordering.{is_lt, nat_cmp}
use Rattle.std.specs.declared.cmp.Ordering.{Ordering}
use Rattle.std.specs.declared.cmp.Ordering.TheVariants.{Less, Equal, Greater}
use Rattle.std.proofs.lemmas.Bool.{eqb-true}
use Rattle.std.proofs.lemmas.List.{nil_from_length, length-append}
use Rattle.std.proofs.lemmas.List.Concat.{flat_map-cons}
use Rattle.row_codec.specs.declared.batch.Row.{Row}
use Rattle.apex_base.specs.Reading.{◌>>=◌, short_at}
use Rattle.apex_base.proofs.ByteLists.{AreBytes, AreBytes-rest}
use Rattle.row_codec.specs.Batch.{IsRow, keys_of, row_text, value_at, put_at, delete_at, row_at, row_above, rows_of}
use Rattle.row_codec.proofs.Fields.{bind_some, taken_if, Takes, key_takes, key_again, value_takes, value_again}

-- ---- one row

-- the lengths that a row's spelling has room for
pub record HasRoom (row : Row) : Type 0 where
  pub key : length row.key ≤ 255
  pub value : IfSome row.value (λ value. length value < 2 ^ 32)

some_is : {A : Type 0} (x y : A) → Some x ≡ Some y → x ≡ y
some_is x y e = cc

put_takes : (bytes : List ℕ) (x : Row × List ℕ) → AreBytes bytes → put_at bytes ≡ Some x
    → Takes (1 ∷ bytes) (row_text x.0) x.1 × HasRoom x.0
unfolding put_at
put_takes bytes x fits e =
    let a = bind_some (short_at bytes)
    (λ key. value_at key.1 >>= λ value. Some (record { key = key.0; value = Some value.0 }, value.1)) x e in
    let b = bind_some (value_at a.0.1) (λ value. Some (record { key = a.0.0; value = Some value.0 }, value.1)) x a.2 in
    let k = key_takes bytes a.0 fits a.1 in
    let v = value_takes a.0.1 b.0 k.0.rest_fits b.1 in
    let text = to_be_bytes w32 (length b.0.0) ++ b.0.0 in
    let parts : 1 ∷ bytes ≡ (1 ∷ length a.0.0 ∷ a.0.0 ++ text) ++ b.0.1 =
    ap (λ (xs : List ℕ). 1 ∷ xs)
    (k.0.parts ∙ ap (λ (xs : List ℕ). length a.0.0 ∷ a.0.0 ++ xs) v.0.parts
    ∙ ap (λ (xs : List ℕ). length a.0.0 ∷ xs) (sym (append_assoc a.0.0 text b.0.1))) in
    let made : Row × List ℕ = (record { key = a.0.0; value = Some b.0.0 }, b.0.1) in
    subst (λ (y : Row × List ℕ). Takes (1 ∷ bytes) (row_text y.0) y.1 × HasRoom y.0) (some_is made x b.2)
    (record { parts = parts; rest_fits = v.0.rest_fits }, record { key = k.1; value = v.1 })

delete_takes : (bytes : List ℕ) (x : Row × List ℕ) → AreBytes bytes → delete_at bytes ≡ Some x
    → Takes (2 ∷ bytes) (row_text x.0) x.1 × HasRoom x.0
unfolding delete_at
delete_takes bytes x fits e =
    let a = bind_some (short_at bytes) (λ key. Some (record { key = key.0; value = None }, key.1)) x e in
    let k = key_takes bytes a.0 fits a.1 in
    let made : Row × List ℕ = (record { key = a.0.0; value = None }, a.0.1) in
    subst (λ (y : Row × List ℕ). Takes (2 ∷ bytes) (row_text y.0) y.1 × HasRoom y.0) (some_is made x a.2) (
      record { parts = ap (λ (xs : List ℕ). 2 ∷ xs) k.0.parts; rest_fits = k.0.rest_fits },
      record { key = k.1; value = tt },
    )

-- by the first byte
tag_takes : (tag : ℕ) (bytes : List ℕ) (x : Row × List ℕ) (one two : Bool) → eqb tag 1 ≡ one → eqb tag 2 ≡ two
    → AreBytes bytes
    → cond one (put_at bytes) (cond two (delete_at bytes) None) ≡ Some x
    → Takes (tag ∷ bytes) (row_text x.0) x.1 × HasRoom x.0
tag_takes tag bytes x true two f g fits e =
    subst (λ (n : ℕ). Takes (n ∷ bytes) (row_text x.0) x.1 × HasRoom x.0) (sym (eqb-true _ _ f))
    (put_takes bytes x fits e)
tag_takes tag bytes x false true f g fits e =
    subst (λ (n : ℕ). Takes (n ∷ bytes) (row_text x.0) x.1 × HasRoom x.0) (sym (eqb-true _ _ g))
    (delete_takes bytes x fits e)
tag_takes tag bytes x false false f g fits e = absurd cc

row_takes : (bytes : List ℕ) (x : Row × List ℕ) → AreBytes bytes → row_at bytes ≡ Some x
    → Takes bytes (row_text x.0) x.1 × HasRoom x.0
unfolding row_at
row_takes [] x fits e = absurd cc
row_takes (tag ∷ bytes) x fits e =
    tag_takes tag bytes x (eqb tag 1) (eqb tag 2) refl refl (AreBytes-rest tag bytes fits) e

change_again : (key : List ℕ) (value : Option (List ℕ)) (rest : List ℕ) → IfSome value (λ v. length v < 2 ^ 32)
    → row_at (row_text (record { key = key; value = value }) ++ rest)
    ≡ Some (record { key = key; value = value }, rest)
unfolding row_at put_at delete_at
change_again key (Some value) rest fits =
    let digits = to_be_bytes w32 (length value) in
    let regrouped : (key ++ (digits ++ value)) ++ rest ≡ key ++ (digits ++ (value ++ rest)) =
    append_assoc key (digits ++ value) rest ∙ ap (λ (xs : List ℕ). key ++ xs) (append_assoc digits value rest) in
    ap (λ (xs : List ℕ). row_at (1 ∷ length key ∷ xs)) regrouped
    ∙ rw (key_again key (digits ++ (value ++ rest)), value_again value rest fits) refl
change_again key None rest fits = rw (key_again key rest) refl

row_again : (row : Row) (rest : List ℕ) → IfSome row.value (λ v. length v < 2 ^ 32)
    → row_at (row_text row ++ rest) ≡ Some (row, rest)
row_again row rest fits = change_again row.key row.value rest fits

-- ---- rows in order

abbrev pub IsBelow : List ℕ → List ℕ → Type 0
IsBelow a b = slice_cmp nat_cmp a b ≡ Less

abbrev pub AreAbove : List ℕ → List Row → Type 0
AreAbove low rows = AllByRecursion (IsBelow low) (keys_of rows)

is_less : (o : Ordering) → is_lt o ≡ true → o ≡ Less
is_less Less e = refl
is_less Equal e = absurd cc
is_less Greater e = absurd cc

-- what is above some key isn't empty
not_empty : (low key : List ℕ) → IsBelow low key → 1 ≤ length key
not_empty [] [] e = absurd cc
not_empty (x ∷ low) [] e = absurd cc
not_empty low (y ∷ key) e = omega arith

above_empty : (key : List ℕ) → 1 ≤ length key → IsBelow [] key
above_empty [] le = absurd (omega arith)
above_empty (x ∷ key) le = refl

pub all_above_empty : (rows : List Row) → AllByRecursion IsRow rows → AreAbove [] rows
all_above_empty [] fits = tt
all_above_empty (row ∷ rows) fits = (above_empty row.key fits.0.not_empty, all_above_empty rows fits.1)

above_more : (low key : List ℕ) (keys : List (List ℕ)) → IsBelow low key → AllByRecursion (IsBelow key) keys
    → AllByRecursion (IsBelow low) keys
above_more low key [] h all = tt
above_more low key (next ∷ keys) h all =
    (nat_list_cmp_total.trans low key next h all.0, above_more low key keys h all.1)

above_takes : (low bytes : List ℕ) (x : Row × List ℕ) → AreBytes bytes → row_above low bytes ≡ Some x
    → Takes bytes (row_text x.0) x.1 × IsRow x.0 × IsBelow low x.0.key
unfolding row_above
above_takes low bytes x fits e =
    let a = bind_some (row_at bytes) (λ row. cond (is_lt (slice_cmp nat_cmp low row.0.key)) (Some row) None) x e in
    let g = taken_if (is_lt (slice_cmp nat_cmp low a.0.0.key)) a.0 x a.2 in
    let below : IsBelow low a.0.0.key = is_less _ g.0 in
    let t = row_takes bytes a.0 fits a.1 in
    subst (λ (y : Row × List ℕ). Takes bytes (row_text y.0) y.1 × IsRow y.0 × IsBelow low y.0.key) g.1
    (t.0, record { not_empty = not_empty low a.0.0.key below; short = t.1.key; value = t.1.value }, below)

above_again : (low : List ℕ) (row : Row) (rest : List ℕ) → IsRow row → IsBelow low row.key
    → row_above low (row_text row ++ rest) ≡ Some (row, rest)
unfolding row_above
above_again low row rest fits below = rw (row_again row rest fits.value, below) refl

-- ---- all rows

pub record AreRows (low bytes : List ℕ) (n : ℕ) (rows : List Row) : Type 0 where
  pub text : bytes ≡ flat_map row_text rows
  pub count : length rows ≡ n
  pub fit : AllByRecursion IsRow rows
  pub above : AreAbove low rows
  pub ascending : IsStrictlySortedBy (slice_cmp nat_cmp) (keys_of rows)

pub rows_take : (low : List ℕ) (count : ℕ) (bytes : List ℕ) (rows : List Row) → AreBytes bytes
    → rows_of low count bytes ≡ Some rows → AreRows low bytes count rows
unfolding rows_of IsStrictlySortedBy
rows_take low zero bytes rows fits e =
    let g = taken_if (eqb (length bytes) 0) [] rows e in
    let nothing : bytes ≡ [] = nil_from_length bytes (eqb-true _ _ g.0) in
    subst (λ (rs : List Row). AreRows low bytes 0 rs) g.1
    (record { text = nothing; count = refl; fit = tt; above = tt; ascending = tt })
rows_take low (suc count) bytes rows fits e =
    let a = bind_some (row_above low bytes) (λ row. rows_of row.0.key count row.1 >>= λ rs. Some (row.0 ∷ rs)) rows e in
    let b = bind_some (rows_of a.0.0.key count a.0.1) (λ rs. Some (a.0.0 ∷ rs)) rows a.2 in
    let first = above_takes low bytes a.0 fits a.1 in
    let others = rows_take a.0.0.key count a.0.1 b.0 first.0.rest_fits b.1 in
    let text : bytes ≡ flat_map row_text (a.0.0 ∷ b.0) =
    first.0.parts ∙ ap (λ (xs : List ℕ). row_text a.0.0 ++ xs) others.text
    ∙ sym (flat_map-cons row_text a.0.0 b.0) in
    subst (λ (rs : List Row). AreRows low bytes (suc count) rs) (some_is (a.0.0 ∷ b.0) rows b.2) (record {
      text = text;
      count = ap suc others.count;
      fit = (first.1, others.fit);
      above = (first.2, above_more low a.0.0.key (keys_of b.0) first.2 others.above);
      ascending = (others.above, others.ascending);
    })

pub rows_again : (low : List ℕ) (rows : List Row) → AllByRecursion IsRow rows → AreAbove low rows
    → IsStrictlySortedBy (slice_cmp nat_cmp) (keys_of rows)
    → rows_of low (length rows) (flat_map row_text rows) ≡ Some rows
unfolding rows_of IsStrictlySortedBy
rows_again low [] fit above ascending = refl
rows_again low (row ∷ rows) fit above ascending =
    rw (
      flat_map-cons row_text row rows,
      above_again low row (flat_map row_text rows) fit.0 above.0,
      rows_again row.key rows fit.1 ascending.0 ascending.1,
    ) refl

-- ---- how long the text is

change_begins : (key : List ℕ) (value : Option (List ℕ)) → 1 ≤ length (row_text (record { key = key; value = value }))
change_begins key (Some value) = omega arith
change_begins key None = omega arith

pub rows_count : (rows : List Row) → length rows ≤ length (flat_map row_text rows)
rows_count [] = omega arith
rows_count (row ∷ rows) =
    let long : 1 ≤ length (row_text row) = change_begins row.key row.value in
    let more : length rows ≤ length (flat_map row_text rows) = rows_count rows in
    rw flat_map-cons (omega (arith, length-append (row_text row) (flat_map row_text rows)))
