-- Whether the rows of files are those of the world that all rows open to. Callers want `files_told`.
use Rattle.std.proofs.Common.{◌≡◌, ℕ, suc, Bool, true, false, cond, eqb, not, ◌&&◌, List, [], ◌∷◌, Option, Some}
use Rattle.std.proofs.Common.{None, sym, ap, ◌∙◌, refl, inl, inr}
use Rattle.std.specs.FinMap as fin
use Rattle.std.proofs.lemmas.Bool.{and_parts, eqb-true}
use Rattle.apex_base.specs.declared.numbers.Scale.{Scale}
use Rattle.apex_base.specs.declared.records.Record.{Record}
use Rattle.apex_base.specs.Held.{kept}
use Rattle.apex_base.specs.Keys.{RowMap}
use Rattle.apex_base.specs.Members.{In}
use Rattle.apex_base.proofs.MemberLemmas.{each_in}
use Rattle.apex_base.proofs.RowMaps.{entry_get, in_entries}
use Rattle.apex_world.specs.Opened.{opened_sessions}
use Rattle.row_codec.specs.declared.batch.Row.{Row}
use Rattle.package_store.specs.Settled.{file_stays}
use Rattle.row_check.specs.BadRows.{opened_rows, DiffersAt}
use Rattle.row_check.specs.FileKeys.{is_file_key, is_file_at, are_files}
use Rattle.row_key.specs.RowBytes.{FitBytes, FitRow, FitRows}
use Rattle.row_check.specs.SettledTags.{Tells, changes_tag}
use Rattle.row_check.proofs.OpenedFiles.{file_again, file_there}
use Rattle.row_check.proofs.SettledChanges.{Settles, stays, moves}

abbrev Entry : Type 0
Entry = List ℕ × List ℕ

each_file : (ss : List Record) (es : List Entry) → are_files ss es ≡ true → (e : Entry) → In e es
    → is_file_at ss e.0 ≡ true
each_file ss [] all e h = absurd h
each_file ss (x ∷ es) all e (inl same) =
    ap (λ (y : Entry). is_file_at ss y.0) (sym same) ∙ (and_parts (is_file_at ss x.0) (are_files ss es) all).0
each_file ss (x ∷ es) all e (inr h) = each_file ss es (and_parts (is_file_at ss x.0) (are_files ss es) all).1 e h

abbrev NoFile : List Record → List Entry → Type 0
NoFile ss es = (e : Entry) × In e es × (is_file_at ss e.0 ≡ false)

no_file_if : (ss : List Record) (x : Entry) (es : List Entry) (b : Bool) → is_file_at ss x.0 ≡ b
    → (b && are_files ss es) ≡ false → (are_files ss es ≡ false → NoFile ss es) → NoFile ss (x ∷ es)
no_file_if ss x es false e f later = (x, inl refl, e)
no_file_if ss x es true e f later = let (y, i, g) = later f in (y, inr i, g)

no_file : (ss : List Record) (es : List Entry) → are_files ss es ≡ false → NoFile ss es
no_file ss [] none = absurd (cc none)
no_file ss (x ∷ es) none = no_file_if ss x es (is_file_at ss x.0) refl none (no_file ss es)

tagged_if : (ss : List Record) (t : ℕ) (rest : List ℕ) (b : Bool) → eqb t 5 ≡ b
    → cond b (is_file_key ss rest) true ≡ false → (t ≡ 5) × (is_file_key ss rest ≡ false)
tagged_if ss t rest true e f = (eqb-true t 5 e, f)
tagged_if ss t rest false e f = absurd (cc f)

tagged : (ss : List Record) (key : List ℕ) → is_file_at ss key ≡ false
    → (rest : List ℕ) × (key ≡ 5 ∷ rest) × (is_file_key ss rest ≡ false)
tagged ss [] f = absurd (cc f)
tagged ss (t ∷ rest) f =
    let (is, g) = tagged_if ss t rest (eqb t 5) refl f in (rest, ap (λ (n : ℕ). n ∷ rest) is, g)

not_both : (a b : Bool) → b ≡ false → (a && b) ≡ false
not_both true b e = e
not_both false b e = refl

none_if : (b : Bool) (v : List ℕ) → b ≡ false → cond {A = Option (List ℕ)} b (Some v) None ≡ None
none_if true v e = absurd (cc e)
none_if false v e = refl

some_if_both : (a b : Bool) (v : List ℕ) → Some v ≡ cond {A = Option (List ℕ)} a (Some v) None → b ≡ true
    → cond {A = Option (List ℕ)} (a && b) (Some v) None ≡ Some v
some_if_both true b v e f = ap (λ (x : Bool). cond {A = Option (List ℕ)} x (Some v) None) f
some_if_both false b v e f = absurd (cc e)

module _ (m : RowMap) (fit : FitRows (fin.entries m)) where
  abbrev ss : List Record
  ss = opened_sessions m

  fits : (rest v : List ℕ) → fin.get m (5 ∷ rest) ≡ Some v → FitBytes rest
  fits rest v e i =
      (each_in FitRow (fin.entries m) fit (5 ∷ rest, v) (in_entries m (5 ∷ rest) v e)).0 (suc i)

  -- where a row is there that fails one of the tests, they differ
  differs_here : (scale : Scale) (rest v : List ℕ) → fin.get m (5 ∷ rest) ≡ Some v
      → (file_stays (kept ss) rest && is_file_key ss rest) ≡ false → DiffersAt m scale 5
  differs_here scale rest v e f =
      let none : fin.get (opened_rows m scale) (5 ∷ rest) ≡ None =
      file_again m scale rest v e (fits rest v e)
      ∙ none_if (file_stays (kept ss) rest && is_file_key ss rest) v f in
      (rest, λ same. absurd (cc (e, none, same)))

  differs_moved : (scale : Scale) (rest : List ℕ) (o : Option (List ℕ)) (b : Bool) → fin.get m (5 ∷ rest) ≡ o
      → file_stays (kept ss) rest ≡ b → (o ≡ cond b o None → ⊥) → DiffersAt m scale 5
  differs_moved scale rest o true e f apart = absurd (apart refl)
  differs_moved scale rest None false e f apart = absurd (apart refl)
  differs_moved scale rest (Some v) false e f apart =
      differs_here scale rest v e (ap (λ (b : Bool). b && is_file_key ss rest) f)

  agrees_if : (scale : Scale) (rest : List ℕ) (o p : Option (List ℕ)) → fin.get m (5 ∷ rest) ≡ o
      → fin.get (opened_rows m scale) (5 ∷ rest) ≡ p → o ≡ cond (file_stays (kept ss) rest) o None
      → are_files ss (fin.entries m) ≡ true → o ≡ p
  agrees_if scale rest None None e f stay all = refl
  agrees_if scale rest None (Some v) e f stay all = absurd (cc (e, file_there m scale rest v f))
  agrees_if scale rest (Some v) p e f stay all =
      let is = each_file ss (fin.entries m) all (5 ∷ rest, v) (in_entries m (5 ∷ rest) v e) in
      sym (sym f ∙ file_again m scale rest v e (fits rest v e)
      ∙ some_if_both (file_stays (kept ss) rest) (is_file_key ss rest) v stay is)

  module _ (changes : List Row) (s : Settles m (opened_sessions m) changes) where
    pub files_told : (b own : Bool) → changes_tag 5 changes ≡ b → own ≡ are_files ss (fin.entries m)
        → Tells m 5 (not b && own)
    files_told true own e f = record {
      right = λ g. absurd (cc g);
      wrong = λ g scale. let (rest, apart) = moves m changes s 5 e in
          differs_moved scale rest (fin.get m (5 ∷ rest)) (file_stays (kept ss) rest) refl refl apart;
    }
    files_told false true e f = record {
      right = λ g scale rest. agrees_if scale rest (fin.get m (5 ∷ rest)) (fin.get (opened_rows m scale) (5 ∷ rest))
          refl refl (stays m changes s 5 e rest) (sym f);
      wrong = λ g. absurd (cc g);
    }
    files_told false false e f = record {
      right = λ g. absurd (cc g);
      wrong = λ g scale. let (row, i, no_key) = no_file ss (fin.entries m) (sym f) in
          let (rest, is, not_own) = tagged ss row.0 no_key in
          differs_here scale rest row.1 (ap (fin.get m) (sym is) ∙ entry_get m row i)
          (not_both (file_stays (kept ss) rest) (is_file_key ss rest) not_own);
    }
