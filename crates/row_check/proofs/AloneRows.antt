-- Rows of the tags that stand for themselves. Callers want `alone_right`, `alone_there`, `agrees` and `differs`.
use Rattle.std.proofs.Common.{◌≡◌, ◌≢◌, ℕ, suc, Bool, true, false, cond, eqb, ◌&&◌, List, [], ◌∷◌, Option, Some, None}
use Rattle.std.proofs.Common.{sym, ap}
use Rattle.std.proofs.Common.{subst, ◌∙◌, refl, inl, inr}
use Rattle.std.specs.Prelude.{option_and_then}
use Rattle.std.specs.FinMap as fin
use Rattle.std.proofs.lemmas.Bool.{and_parts, cases_eq, ne_eqb, eq-eqb, eqb-true}
use Rattle.std.proofs.lemmas.Slice.Eq.{bytes_eq-Decides}
use Rattle.apex_base.specs.declared.numbers.Scale.{Scale}
use Rattle.apex_base.specs.Keys.{Key, Boots, RecordOf, ActiveOf, BackupOf, FileOf, DataOf, SnapshotOf, PreRestoreOf}
use Rattle.apex_base.specs.Keys.{WatchOf}
use Rattle.apex_base.specs.Keys.{RowMap, key_text, key_of, data_front, watch_front}
use Rattle.apex_base.specs.Members.{In}
use Rattle.apex_base.specs.Reading.{eight_text}
use Rattle.apex_base.specs.Sessions.{session_of}
use Rattle.apex_base.specs.Spelling.{record_text}
use Rattle.apex_base.specs.Tables.{value_of}
use Rattle.apex_base.specs.Text.{is_name}
use Rattle.apex_base.proofs.Finding.{some_if, some_of, some_then}
use Rattle.apex_base.proofs.MemberLemmas.{each_in}
use Rattle.apex_base.proofs.RowMaps.{entry_get, in_entries}
use Rattle.apex_world.specs.Opened.{opened, boots_of, boots_or_none, opened_sessions}
use Rattle.apex_world.specs.Opened.{opened_watches, end_of, end_in, value_in}
use Rattle.apex_world.specs.Rows.{row_at}
use Rattle.row_check.specs.BadRows.{opened_rows, AgreesAt, DiffersAt}
use Rattle.row_check.specs.RightRows.{is_value, StandsAlone}
use Rattle.row_check.specs.RightRows.{is_right_row, is_right_at, are_right_at, WrongRow}
use Rattle.row_key.specs.RowBytes.{FitBytes, FitRow, FitRows}
use Rattle.row_check.proofs.KeysRead.{no_key_row}
use Rattle.row_check.proofs.OpenedRecords.{session_in, is_record_in}
use Rattle.row_check.proofs.OpenedValues.{contents_value, watch_value}
use Rattle.row_check.proofs.OpenedWorld.{opened_found}
use Rattle.row_check.proofs.RightBoots.{boots_right, boots_again, row_again}
use Rattle.row_check.proofs.RightNames.{data_right, watch_right}
use Rattle.row_check.proofs.RightRecords.{record_right}

abbrev Entry : Type 0
Entry = List ℕ × List ℕ

-- no key begins with another tag
no_key : (tag : ℕ) (rest : List ℕ) → StandsAlone tag → tag ≢ 1 → tag ≢ 2 → tag ≢ 6 → tag ≢ 9
    → key_of (tag ∷ rest) ≡ None
unfolding key_of
no_key tag rest alone a b c d = rw (
  ne_eqb tag 1 a,
  ne_eqb tag 2 b,
  ne_eqb tag 3 alone.0,
  ne_eqb tag 4 alone.1,
  ne_eqb tag 5 alone.2,
  ne_eqb tag 6 c,
  ne_eqb tag 7 alone.3,
  ne_eqb tag 8 alone.4,
  ne_eqb tag 9 d,
) refl

other_row : (tag : ℕ) (rest value : List ℕ) → tag ≢ 1 → tag ≢ 2 → tag ≢ 6 → tag ≢ 9
    → is_right_row tag rest value ≡ false
other_row tag rest value a b c d = rw (ne_eqb tag 1 a, ne_eqb tag 2 b, ne_eqb tag 6 c, ne_eqb tag 9 d) refl

module _ (m : RowMap) (scale : Scale) where
  abbrev Right : ℕ → List ℕ → List ℕ → Type 0
  Right tag rest value = is_value (fin.get (opened_rows m scale) (tag ∷ rest)) value ≡ is_right_row tag rest value

  -- a row is there again if and only if its test holds
  pub alone_right : (tag : ℕ) (rest value : List ℕ) → StandsAlone tag → fin.get m (tag ∷ rest) ≡ Some value
      → FitBytes rest → FitBytes value → Right tag rest value
  alone_right tag rest value alone e fits fit =
      elim (cases_eq tag 1) [
        | inl s ↦ subst (λ (t : ℕ). Right t rest value) (sym s)
            (boots_right m scale rest value (subst (λ (t : ℕ). fin.get m (t ∷ rest) ≡ Some value) s e) fit)
        | inr a ↦ elim (cases_eq tag 2) [
          | inl s ↦ subst (λ (t : ℕ). Right t rest value) (sym s)
              (record_right m scale rest value (subst (λ (t : ℕ). fin.get m (t ∷ rest) ≡ Some value) s e) fits fit)
          | inr b ↦ elim (cases_eq tag 6) [
            | inl s ↦ subst (λ (t : ℕ). Right t rest value) (sym s)
                (data_right m scale rest value (subst (λ (t : ℕ). fin.get m (t ∷ rest) ≡ Some value) s e))
            | inr c ↦ elim (cases_eq tag 9) [
              | inl s ↦ subst (λ (t : ℕ). Right t rest value) (sym s)
                  (watch_right m scale rest value (subst (λ (t : ℕ). fin.get m (t ∷ rest) ≡ Some value) s e) fit)
              | inr d ↦ ap (λ (o : Option (List ℕ)). is_value o value)
                  (no_key_row m scale (tag ∷ rest) (no_key tag rest alone a b c d))
                  ∙ sym (other_row tag rest value a b c d)
            ]
          ]
        ]
      ]

  boots_there : (o : Option (List ℕ)) (v : List ℕ) → boots_again (boots_or_none (option_and_then boots_of o)) ≡ Some v
      → (u : List ℕ) × (o ≡ Some u)
  boots_there None v e = absurd (cc e)
  boots_there (Some u) v e = (u, refl)

  -- no row of these tags is there again that wasn't there
  there : (tag : ℕ) (rest v : List ℕ) (t : Key) → StandsAlone tag → tag ∷ rest ≡ key_text t
      → row_at (opened m scale) t ≡ Some v → (u : List ℕ) × (fin.get m (key_text t) ≡ Some u)
  there tag rest v Boots alone is e = boots_there (fin.get m (1 ∷ [])) v (sym (row_again m scale) ∙ e)
  there tag rest v (RecordOf id) alone is e =
      let (r, f, g) = some_of record_text (session_of (opened_sessions m) id) v e in
      let (low, same, bytes, h, i) = is_record_in m id r (sym (session_in m id) ∙ f) in
      (bytes, h)
  there tag rest v (ActiveOf name) alone is e = absurd (alone.0 (cc is))
  there tag rest v (BackupOf name) alone is e = absurd (alone.1 (cc is))
  there tag rest v (FileOf id part path) alone is e = absurd (alone.2 (cc is))
  there tag rest v (DataOf name key) alone is e =
      let f = (some_if (is_name name) (value_in m (data_front name) key) v (sym (contents_value m name key) ∙ e)).1 in
      (v, (some_if (is_name key) (fin.get m (data_front name key)) v f).1)
  there tag rest v (SnapshotOf id name key) alone is e = absurd (alone.3 (cc is))
  there tag rest v (PreRestoreOf id name key) alone is e = absurd (alone.4 (cc is))
  there tag rest v (WatchOf observer name) alone is e =
      let (n, f, g) = some_of (λ (n : ℕ). eight_text n []) (value_of (opened_watches m) observer name) v e in
      let h = (some_if (is_name observer) (end_in m observer name) n (sym (watch_value m observer name) ∙ f)).1 in
      let (bytes, i, j) = some_then end_of (value_in m (watch_front observer) name) n h in
      (bytes, (some_if (is_name name) (fin.get m (watch_front observer name)) bytes i).1)

  alone_there : (tag : ℕ) (rest v : List ℕ) → StandsAlone tag → fin.get (opened_rows m scale) (tag ∷ rest) ≡ Some v
      → (u : List ℕ) × (fin.get m (tag ∷ rest) ≡ Some u)
  alone_there tag rest v alone e =
      let (t, i, is, has) = opened_found m scale (tag ∷ rest) v e in
      let (u, f) = there tag rest v t alone is has in
      (u, ap (fin.get m) is ∙ f)

  -- The rows of one tag

  value_is : (o : Option (List ℕ)) (v : List ℕ) → is_value o v ≡ true → o ≡ Some v
  value_is None v e = absurd (cc e)
  value_is (Some u) v e = ap (λ (x : List ℕ). Some x) ((bytes_eq-Decides u v).0 e)

  is_here : (o : Option (List ℕ)) (v : List ℕ) → o ≡ Some v → is_value o v ≡ true
  is_here o v e = ap (λ (o : Option (List ℕ)). is_value o v) e ∙ (bytes_eq-Decides v v).1 refl

  right_here : (tag : ℕ) (rest value : List ℕ) → is_right_at tag (tag ∷ rest) value ≡ is_right_row tag rest value
  right_here tag rest value = ap (λ (b : Bool). cond b (is_right_row tag rest value) true) (eq-eqb tag tag refl)

  each_right : (tag : ℕ) (es : List Entry) → are_right_at tag es ≡ true → (e : Entry) → In e es
      → is_right_at tag e.0 e.1 ≡ true
  each_right tag [] a e h = absurd h
  each_right tag (x ∷ es) a e (inl same) = ap (λ (y : Entry). is_right_at tag y.0 y.1) (sym same)
      ∙ (and_parts (is_right_at tag x.0 x.1) (are_right_at tag es) a).0
  each_right tag (x ∷ es) a e (inr h) =
      each_right tag es (and_parts (is_right_at tag x.0 x.1) (are_right_at tag es) a).1 e h

  agree_if : (tag : ℕ) (rest : List ℕ) (o p : Option (List ℕ)) → fin.get m (tag ∷ rest) ≡ o
      → fin.get (opened_rows m scale) (tag ∷ rest) ≡ p → StandsAlone tag
      → ((value : List ℕ) → o ≡ Some value → p ≡ Some value) → o ≡ p
  agree_if tag rest (Some u) p e f alone right = sym (right u refl)
  agree_if tag rest None None e f alone right = refl
  agree_if tag rest None (Some v) e f alone right =
      let (u, g) = alone_there tag rest v alone f in absurd (cc (e, g))

  -- where each row of a tag is right, both have the same
  pub agrees : (tag : ℕ) → StandsAlone tag → FitRows (fin.entries m) → are_right_at tag (fin.entries m) ≡ true
      → AgreesAt m scale tag
  agrees tag alone fit all rest =
      agree_if tag rest (fin.get m (tag ∷ rest)) (fin.get (opened_rows m scale) (tag ∷ rest)) refl refl alone
      (λ value e.
      let h = in_entries m (tag ∷ rest) value e in
      let fits = each_in FitRow (fin.entries m) fit (tag ∷ rest, value) h in
      value_is (fin.get (opened_rows m scale) (tag ∷ rest)) value
      (alone_right tag rest value alone e (λ i. fits.0 (suc i)) fits.1 ∙ sym (right_here tag rest value)
      ∙ each_right tag (fin.entries m) all (tag ∷ rest, value) h))

  wrong_if : (tag t : ℕ) (b : Bool) (rest value : List ℕ) → eqb t tag ≡ b
      → cond b (is_right_row tag rest value) true ≡ false → (t ≡ tag) × (is_right_row tag rest value ≡ false)
  wrong_if tag t true rest value e f = (eqb-true t tag e, f)
  wrong_if tag t false rest value e f = absurd (cc f)

  -- where a row of a tag isn't right, they differ there
  differs_if : (tag : ℕ) (key value : List ℕ) → StandsAlone tag → fin.get m key ≡ Some value
      → FitBytes key → FitBytes value → is_right_at tag key value ≡ false → DiffersAt m scale tag
  differs_if tag [] value alone e fits fit wrong = absurd (cc wrong)
  differs_if tag (t ∷ rest) value alone e fits fit wrong =
      let (is, not_right) = wrong_if tag t (eqb t tag) rest value refl wrong in
      let here : fin.get m (tag ∷ rest) ≡ Some value = subst (λ (t : ℕ). fin.get m (t ∷ rest) ≡ Some value) is e in
      let none : is_value (fin.get (opened_rows m scale) (tag ∷ rest)) value ≡ false =
      alone_right tag rest value alone here (λ i. fits (suc i)) fit ∙ not_right in (
        rest,
        λ same. absurd (cc (none, is_here (fin.get (opened_rows m scale) (tag ∷ rest)) value (sym same ∙ here))),
      )

  pub differs : (tag : ℕ) → StandsAlone tag → WrongRow tag (fin.entries m) → DiffersAt m scale tag
  differs tag alone w =
      differs_if tag w.row.0 w.row.1 alone (entry_get m w.row w.member) w.fits.0 w.fits.1 w.wrong

-- One row more

pub head_wrong : (tag : ℕ) (row : Entry) (es : List Entry) → FitRow row → false ≡ is_right_at tag row.0 row.1
    → WrongRow tag (row ∷ es)
head_wrong tag row es fits e = record { row = row; member = inl refl; fits = fits; wrong = sym e }

pub later_wrong : (tag : ℕ) (row : Entry) (es : List Entry) → WrongRow tag es → WrongRow tag (row ∷ es)
later_wrong tag row es w = record { row = w.row; member = inr w.member; fits = w.fits; wrong = w.wrong }

pub head_right : (tag : ℕ) (row : Entry) (es : List Entry) → true ≡ is_right_at tag row.0 row.1
    → are_right_at tag es ≡ true → are_right_at tag (row ∷ es) ≡ true
head_right tag row es e f = ap (λ (b : Bool). b && are_right_at tag es) (sym e) ∙ f
