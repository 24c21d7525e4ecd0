-- The rows of the world that rows open to, by what is read from a key. Callers want `no_key_row`, `key_row`, `short_is`
-- and `same_value`.
use Rattle.std.proofs.Common.{◌≡◌, ℕ, ◌≤◌, Bool, true, false, cond, ◌&&◌, ltb, List, [], ◌∷◌, ◌++◌, length, take}
use Rattle.std.proofs.Common.{drop, Option}
use Rattle.std.proofs.Common.{Some, None, sym, ap, ◌∙◌, refl, arith}
use Rattle.std.specs.Str.{bytes_eq}
use Rattle.std.specs.FinMap as fin
use Rattle.std.proofs.lemmas.Bool.{ltb-false}
use Rattle.std.proofs.lemmas.List.{take-append-drop, length-take}
use Rattle.std.proofs.lemmas.Slice.Eq.{bytes_eq-Decides}
use Rattle.apex_base.specs.declared.numbers.Scale.{Scale}
use Rattle.apex_base.specs.Keys.{Key, IsKey, key_text, key_of, RowMap}
use Rattle.apex_base.specs.Reading.{bytes_at, short_at, short_text}
use Rattle.apex_base.proofs.KeyLemmas.{key_again}
use Rattle.apex_world.specs.Opened.{opened}
use Rattle.apex_world.specs.Rows.{row_at}
use Rattle.row_check.specs.BadRows.{opened_rows}
use Rattle.row_check.specs.RightRows.{is_value}
use Rattle.row_check.proofs.OpenedWorld.{opened_row, opened_found}

pub same_value : (v : List ℕ) → bytes_eq v v ≡ true
same_value v = (bytes_eq-Decides v v).1 refl

-- a value of two names, if both are names
pub named_value : (a b : Bool) (v : List ℕ) → is_value (cond a (cond b (Some v) None) None) v ≡ (a && b)
named_value true true v = same_value v
named_value true false v = refl
named_value false b v = refl

module _ (m : RowMap) (scale : Scale) where
  none_if : (q : List ℕ) (o : Option (List ℕ)) → key_of q ≡ None → fin.get (opened_rows m scale) q ≡ o → o ≡ None
  none_if q None e f = refl
  none_if q (Some v) e f = let (t, i, is, has) = opened_found m scale q v f in
      let read : key_of q ≡ Some t = ap key_of is ∙ key_again t i in absurd (cc (e, read))

  -- where no key stands there is no row
  pub no_key_row : (q : List ℕ) → key_of q ≡ None → fin.get (opened_rows m scale) q ≡ None
  no_key_row q e = none_if q (fin.get (opened_rows m scale) q) e refl

  -- where a key stands there is its row
  pub key_row : (q : List ℕ) (k : Key) → IsKey k → q ≡ key_text k
      → fin.get (opened_rows m scale) q ≡ row_at (opened m scale) k
  key_row q k i e = ap (fin.get (opened_rows m scale)) e ∙ opened_row m scale k i

short_if : (b : Bool) (n : ℕ) (bytes name rest : List ℕ) → ltb (length bytes) n ≡ b
    → cond {A = Option (List ℕ × List ℕ)} b None (Some (take n bytes, drop n bytes)) ≡ Some (name, rest)
    → n ∷ bytes ≡ short_text name rest
short_if true n bytes name rest e f = absurd (cc f)
short_if false n bytes name rest e f =
    let parts : ◌≡◌ {A = List ℕ × List ℕ} (take n bytes, drop n bytes) (name, rest) = cc f in
    let name_is : take n bytes ≡ name = ap (λ (p : List ℕ × List ℕ). p.0) parts in
    let rest_is : drop n bytes ≡ rest = ap (λ (p : List ℕ × List ℕ). p.1) parts in
    let long : n ≤ length bytes = ltb-false (length bytes) n e in
    let taken : length (take n bytes) ≡ length name = ap (λ (xs : List ℕ). length xs) name_is in
    let count : n ≡ length name = omega (arith, length-take n bytes, long, taken) in
    ap (λ (k : ℕ). k ∷ bytes) count
    ∙ ap (λ (xs : List ℕ). length name ∷ xs) (sym (take-append-drop n bytes)
    ∙ ap (λ (xs : List ℕ). xs ++ drop n bytes) name_is ∙ ap (λ (xs : List ℕ). name ++ xs) rest_is)

-- a short text that was read stands in front of the rest
pub short_is : (bytes name rest : List ℕ) → short_at bytes ≡ Some (name, rest) → bytes ≡ short_text name rest
unfolding short_at bytes_at
short_is [] name rest e = absurd (cc e)
short_is (n ∷ bytes) name rest e = short_if (ltb (length bytes) n) n bytes name rest refl e
