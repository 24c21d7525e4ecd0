-- Where a row isn't one that its session keeps, or a session lacks a value that it keeps, the rows differ from those of
-- the world that they open to. Callers want `row_wrong` and `value_missing`.
use Rattle.std.proofs.Common.{◌≡◌, ◌≢◌, ℕ, suc, ◌<◌, ◌^◌, Bool, true, false, cond, eqb, List, [], ◌∷◌, Option, Some}
use Rattle.std.proofs.Common.{None, drop, sym, ap, subst, ◌∙◌, refl}
use Rattle.std.specs.Prelude.{option_and_then}
use Rattle.std.specs.List.{list_all}
use Rattle.std.specs.Str.{bytes_eq}
use Rattle.std.specs.FinMap as fin
use Rattle.std.proofs.lemmas.Bool.{eqb-true, false≢true}
use Rattle.std.proofs.lemmas.Slice.Eq.{bytes_eq-Decides}
use Rattle.apex_base.specs.declared.numbers.Scale.{Scale}
use Rattle.apex_base.specs.declared.numbers.SessionId.{SessionId}
use Rattle.apex_base.specs.declared.records.Part.{Part}
use Rattle.apex_base.specs.declared.records.Record.{Record}
use Rattle.apex_base.specs.Keys.{RowMap}
use Rattle.apex_base.specs.Members.{In}
use Rattle.apex_base.specs.Reading.{short_text, four_text}
use Rattle.apex_base.specs.Sessions.{names, session_of}
use Rattle.apex_base.proofs.Finding.{some_then}
use Rattle.apex_base.proofs.MemberLemmas.{each_in, in_any}
use Rattle.apex_base.proofs.RowMaps.{entry_get}
use Rattle.apex_base.proofs.SessionLemmas.{of_found, of_in}
use Rattle.apex_world.specs.Opened.{opened_boots, opened_sessions}
use Rattle.row_check.specs.BadRows.{opened_rows, DiffersAt}
use Rattle.row_check.specs.KeptRows.{era_key, era_value, keeps, kept_if, kept_value, kept_row}
use Rattle.row_key.specs.Kept.{IsKeptTag, kept_text}
use Rattle.row_check.specs.KeptRows.{AreEras, HaveBoots}
use Rattle.row_check.specs.RightKept.{place_in, is_kept, is_right_row, WrongRow, has_name_kept, has_kept, have_kept}
use Rattle.row_check.specs.RightRows.{is_value}
use Rattle.row_key.specs.RowBytes.{FitBytes}
use Rattle.row_check.specs.RowFronts.{rows_after}
use Rattle.row_check.proofs.EraParts.{era_front}
use Rattle.row_check.proofs.KeptKeys.{kept_there, kept_differs, opened_keyed}
use Rattle.row_check.proofs.KeptPlaces.{Place, is_value_there, some_fails, place_key, place_again}
use Rattle.row_check.proofs.OpenedRecords.{sessions_ascend, session_id}
use Rattle.row_check.proofs.RowsWalked.{after_get}

abbrev Entry : Type 0
Entry = List ℕ × List ℕ

module _ (m : RowMap) (scale : Scale) (tag : ℕ) (is : IsKeptTag tag) (values : RowMap) where
  abbrev ss : List Record
  ss = opened_sessions m

  abbrev boots : ℕ
  boots = (opened_boots m).0

  -- what a session keeps, where the opened world has a row
  kept_here : (rest value : List ℕ) (id : SessionId) (name key : List ℕ) → id.0 < 2 ^ 32
      → tag ∷ rest ≡ kept_text tag id name key → fin.get (opened_rows m scale) (tag ∷ rest) ≡ Some value
      → kept_row m tag id name key ≡ Some value
  kept_here rest value id name key low h e =
      sym (kept_there m scale tag id name key is low) ∙ ap (fin.get (opened_rows m scale)) (sym h) ∙ e

  -- so its place can be read
  placed : (rest value : List ℕ) → fin.get (opened_rows m scale) (tag ∷ rest) ≡ Some value → place_in ss rest ≢ None
  placed rest value e none =
      let (id, name, key, low, h) = opened_keyed m scale tag rest value is e in
      let (s, f, g) = some_then (kept_value m ss boots tag name key) (session_of ss id) value
      (kept_here rest value id name key low h e) in
      let read : place_in ss rest ≡ Some (s, name, key, short_text name key) =
      ap (λ (xs : List ℕ). place_in ss (drop 1 xs)) h ∙ place_again ss id name key s low f in
      absurd (cc (none, read))

  -- a row of no place isn't there again
  unplaced : (rest value : List ℕ) → fin.get m (tag ∷ rest) ≡ Some value → place_in ss rest ≡ None
      → DiffersAt m scale tag
  unplaced rest value e none = (rest, λ same. placed rest value (sym same ∙ e) none)

  module _ (boots_low : HaveBoots ss) (eras : AreEras m ss boots values) where
    era_is : (s : Record) (name key : List ℕ) → In s ss
        → fin.get values (era_key s.activation name key) ≡ era_value m ss boots s.activation name key
    era_is s name key h =
        eras s.activation name key (each_in (λ (r : Record). r.activation < 2 ^ 32) ss boots_low s h)

    -- a row that its session doesn't keep
    unkept : (p : Place) (rest value : List ℕ) → FitBytes rest → place_in ss rest ≡ Some p
        → fin.get m (tag ∷ rest) ≡ Some value → is_kept ss values tag (Some p) value ≡ false → DiffersAt m scale tag
    unkept p rest value fits read there wrong =
        let key = place_key ss rest p fits read in
        let h = (of_found ss key.id p.0 key.there).0 in
        kept_differs m scale tag key.id p.1 p.2 is key.low (λ e.
        let kept : kept_value m ss boots tag p.1 p.2 p.0 ≡ Some value =
        sym (ap (option_and_then (kept_value m ss boots tag p.1 p.2)) key.there) ∙ sym e
        ∙ ap (λ (xs : List ℕ). fin.get m (tag ∷ xs)) (sym key.is) ∙ there in
        let found : kept_if ss tag p.1 (fin.get values (four_text p.0.activation p.3)) p.0 ≡ Some value =
        ap (λ (under : List ℕ). kept_if ss tag p.1 (fin.get values (four_text p.0.activation under)) p.0) key.under
        ∙ ap (λ (o : Option (List ℕ)). kept_if ss tag p.1 o p.0) (era_is p.0 p.1 p.2 h) ∙ kept in
        absurd (false≢true (sym wrong ∙ is_value_there _ value found)))

    place_if : (o : Option Place) (rest value : List ℕ) → FitBytes rest → place_in ss rest ≡ o
        → fin.get m (tag ∷ rest) ≡ Some value → is_kept ss values tag o value ≡ false → DiffersAt m scale tag
    place_if (Some p) rest value fits read there wrong = unkept p rest value fits read there wrong
    place_if None rest value fits read there wrong = unplaced rest value there read

    own_if : (own : Bool) (t : ℕ) (rest value : List ℕ) → eqb t tag ≡ own → FitBytes rest
        → fin.get m (t ∷ rest) ≡ Some value → cond own (is_kept ss values tag (place_in ss rest) value) true ≡ false
        → DiffersAt m scale tag
    own_if true t rest value e fits there wrong =
        place_if (place_in ss rest) rest value fits refl
        (subst (λ (t : ℕ). fin.get m (t ∷ rest) ≡ Some value) (eqb-true t tag e) there) wrong
    own_if false t rest value e fits there wrong = absurd (cc wrong)

    key_if : (key value : List ℕ) → FitBytes key → fin.get m key ≡ Some value
        → is_right_row ss values tag key value ≡ false → DiffersAt m scale tag
    key_if [] value fits there wrong = absurd (cc wrong)
    key_if (t ∷ rest) value fits there wrong =
        own_if (eqb t tag) t rest value refl (λ i. fits (suc i)) there wrong

    -- where a row isn't right, they differ
    pub row_wrong : WrongRow ss values tag (fin.entries m) → DiffersAt m scale tag
    row_wrong w = key_if w.row.0 w.row.1 w.fits (entry_get m w.row w.member) w.wrong

    -- a value that a session keeps and hasn't
    lacks : (s : Record) (p : Part) (row : Entry) → In s ss → In p s.parts → keeps ss tag s ≡ true
        → In row (rows_after (era_key s.activation p.name []) (fin.entries values))
        → is_value (fin.get m (kept_text tag s.id p.name row.0)) row.1 ≡ false → DiffersAt m scale tag
    lacks s p row h i keeping there wrong =
        kept_differs m scale tag s.id p.name row.0 is (session_id m s h) (λ e.
        let named : names p.name s ≡ true =
        in_any (λ (q : Part). bytes_eq q.name p.name) p s.parts i ((bytes_eq-Decides p.name p.name).1 refl) in
        let value : era_value m ss boots s.activation p.name row.0 ≡ Some row.1 =
        sym (era_is s p.name row.0 h) ∙ ap (fin.get values) (sym (era_front s.activation p.name row.0))
        ∙ after_get (era_key s.activation p.name []) values row there in
        let kept : kept_value m ss boots tag p.name row.0 s ≡ Some row.1 =
        ap (λ (b : Bool). cond b (cond (names p.name s) (era_value m ss boots s.activation p.name row.0) None) None)
        keeping
        ∙ ap (λ (b : Bool). cond b (era_value m ss boots s.activation p.name row.0) None) named ∙ value in
        absurd (false≢true (sym wrong ∙ is_value_there _ row.1 (e
        ∙ ap (option_and_then (kept_value m ss boots tag p.name row.0)) (of_in ss s (sessions_ascend m) h) ∙ kept))))

    keeps_if : (s : Record) (b : Bool) → In s ss → keeps ss tag s ≡ b
        → cond b (list_all (λ (p : Part). has_name_kept ss values tag m s p.name) s.parts) true ≡ false
        → DiffersAt m scale tag
    keeps_if s true h keeping wrong =
        let (p, i, f) = some_fails (λ (p : Part). has_name_kept ss values tag m s p.name) s.parts wrong in
        let (row, j, g) = some_fails (λ (row : Entry). is_value (fin.get m (kept_text tag s.id p.name row.0)) row.1)
        (rows_after (era_key s.activation p.name []) (fin.entries values)) f in
        lacks s p row h i keeping j g
    keeps_if s false h keeping wrong = absurd (cc wrong)

    -- where one is missing, they differ
    pub value_missing : have_kept ss values tag m ss ≡ false → DiffersAt m scale tag
    value_missing wrong =
        let (s, h, f) = some_fails (has_kept ss values tag m) ss wrong in keeps_if s (keeps ss tag s) h refl f
