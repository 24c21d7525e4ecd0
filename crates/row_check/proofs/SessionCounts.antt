-- Where there are as many sessions as rows of tag 2, each of these rows was read as one. Callers want `sessions_told`.
use Rattle.std.proofs.Common.{◌≡◌, ℕ, ◌-◌, ◌≤◌, Bool, true, false, cond, eqb, ◌&&◌, List, [], ◌∷◌, length, Option, Some}
use Rattle.std.proofs.Common.{None, sym, ap, ◌∙◌, refl, arith}
use Rattle.std.specs.FinMap as fin
use Rattle.std.specs.Option.{is_some}
use Rattle.std.proofs.lemmas.Bool.Decides.{nat_tests}
use Rattle.apex_base.specs.declared.records.Record.{Record}
use Rattle.apex_base.specs.Keys.{RowMap}
use Rattle.apex_world.specs.Opened.{opened_sessions}
use Rattle.row_check.specs.RightRows.{StandsAlone, is_right_at, are_right_at, WrongRow}
use Rattle.row_key.specs.Records.{record_in_row}
use Rattle.row_key.specs.RowBytes.{FitRow, FitRows}
use Rattle.row_check.specs.RowSessions.{sessions_in, with_record, left_after_all}
use Rattle.row_check.specs.SettledTags.{Tells}
use Rattle.row_check.proofs.AloneRows.{agrees, differs, head_wrong, later_wrong}
use Rattle.row_check.proofs.SessionLists.{sessions_same}

abbrev Entry : Type 0
Entry = List ℕ × List ℕ

-- there are not enough for more rows
none_left : (es : List Entry) → left_after_all None es ≡ None
none_left [] = refl
none_left (e ∷ es) = none_left es

-- Whether so many are enough for these rows: if so, no more than that are read, and with as many each row is right. If
-- not, and no more are read, one row isn't right.
record Told (n : ℕ) (es : List Entry) : Type 0 where
  few : is_some (left_after_all (Some n) es) ≡ true → length (sessions_in es) ≤ n
  right : is_some (left_after_all (Some n) es) ≡ true → n ≤ length (sessions_in es) → are_right_at 2 es ≡ true
  wrong : is_some (left_after_all (Some n) es) ≡ false → length (sessions_in es) ≤ n → FitRows es → WrongRow 2 es

-- One row more: whether it is of tag 2, whether no session is left for it, and what it is read as

module _ (n : ℕ) (es : List Entry) (more : (k : ℕ) → Told k es) where
  abbrev left : Bool → Bool → Option ℕ
  left own none = left_after_all (cond own (cond none None (Some (n - 1))) (Some n)) es

  few_if : (own none : Bool) (o : Option Record) → eqb n 0 ≡ none → is_some (left own none) ≡ true
      → length (with_record (cond own o None) (sessions_in es)) ≤ n
  few_if false none o zero e = (more n).few e
  few_if true true o zero e = absurd (cc (ap is_some (none_left es), e))
  few_if true false None zero e = let l = (more (n - 1)).few e in grind (arith, nat_tests, l)
  few_if true false (Some r) zero e = let l = (more (n - 1)).few e in grind (arith, nat_tests, l, zero)

  right_if : (own none : Bool) (o : Option Record) → eqb n 0 ≡ none → is_some (left own none) ≡ true
      → n ≤ length (with_record (cond own o None) (sessions_in es))
      → (cond own (is_some o) true && are_right_at 2 es) ≡ true
  right_if false none o zero e l = (more n).right e l
  right_if true true o zero e l = absurd (cc (ap is_some (none_left es), e))
  right_if true false None zero e l = let k = (more (n - 1)).few e in absurd (grind (arith, nat_tests, k, l, zero))
  right_if true false (Some r) zero e l = (more (n - 1)).right e (grind (arith, nat_tests, l, zero))

  wrong_if : (own none : Bool) (o : Option Record) (e : Entry) → eqb n 0 ≡ none
      → is_right_at 2 e.0 e.1 ≡ cond own (is_some o) true → is_some (left own none) ≡ false
      → length (with_record (cond own o None) (sessions_in es)) ≤ n → FitRow e → FitRows es → WrongRow 2 (e ∷ es)
  wrong_if false none o e zero is f l fit fits = later_wrong 2 e es ((more n).wrong f l fits)
  wrong_if true none None e zero is f l fit fits = head_wrong 2 e es fit (sym is)
  wrong_if true true (Some r) e zero is f l fit fits = absurd (grind (arith, nat_tests, l, zero))
  wrong_if true false (Some r) e zero is f l fit fits =
      later_wrong 2 e es ((more (n - 1)).wrong f (grind (arith, nat_tests, l, zero)) fits)

  row_told : (key value : List ℕ) → Told n ((key, value) ∷ es)
  row_told [] value = record {
    few = few_if false (eqb n 0) None refl;
    right = right_if false (eqb n 0) None refl;
    wrong = λ f l fits. wrong_if false (eqb n 0) None ([], value) refl refl f l fits.0 fits.1;
  }
  row_told (tag ∷ rest) value = record {
    few = few_if (eqb tag 2) (eqb n 0) (record_in_row rest value) refl;
    right = right_if (eqb tag 2) (eqb n 0) (record_in_row rest value) refl;
    wrong = λ f l fits.
        wrong_if (eqb tag 2) (eqb n 0) (record_in_row rest value) (tag ∷ rest, value) refl refl f l fits.0 fits.1;
  }

told : (es : List Entry) (n : ℕ) → Told n es
told [] n = record {
  few = λ e. omega arith;
  right = λ e l. refl;
  wrong = λ e l fits. absurd (cc e);
}
told (e ∷ es) n = row_told n es (told es) e.0 e.1

alone : StandsAlone 2
alone = (
  λ e. omega (arith, e),
  λ e. omega (arith, e),
  λ e. omega (arith, e),
  λ e. omega (arith, e),
  λ e. omega (arith, e),
)

-- whether the opened sessions are enough for the rows of tag 2 tells whether these are right
pub sessions_told : (m : RowMap) (ss : List Record) → FitRows (fin.entries m) → ss ≡ opened_sessions m
    → Tells m 2 (is_some (left_after_all (Some (length ss)) (fin.entries m)))
sessions_told m ss fit is =
    let t = told (fin.entries m) (length ss) in
    let same : length ss ≡ length (sessions_in (fin.entries m)) = ap length (is ∙ sym (sessions_same m fit)) in
    record {
      right = λ e scale. agrees m scale 2 alone fit (t.right e (omega (arith, same)));
      wrong = λ e scale. differs m scale 2 alone (t.wrong e (omega (arith, same)) fit);
    }
