-- The rows of what sessions keep are right where each row is one that its session keeps, and each value that a session
-- keeps is in its row. Callers want `are_kept`.
use Rattle.std.proofs.Common.{◌≡◌, ℕ, suc, ◌<◌, ◌^◌, Bool, true, cond, List, [], ◌∷◌, ◌++◌, Option, Some, None}
use Rattle.std.proofs.Common.{sym, ap, ◌∙◌, refl, inl, inr}
use Rattle.std.specs.Prelude.{option_and_then}
use Rattle.std.specs.List.{list_all}
use Rattle.std.specs.Str.{bytes_eq}
use Rattle.std.specs.FinMap as fin
use Rattle.std.proofs.lemmas.Bool.{and_parts, eq-eqb}
use Rattle.std.proofs.lemmas.Slice.Eq.{bytes_eq-Decides}
use Rattle.apex_base.specs.declared.numbers.SessionId.{SessionId}
use Rattle.apex_base.specs.declared.records.Part.{Part}
use Rattle.apex_base.specs.declared.records.Record.{Record}
use Rattle.apex_base.specs.Keys.{RowMap, id_text}
use Rattle.apex_base.specs.Members.{In}
use Rattle.apex_base.specs.Reading.{short_text}
use Rattle.apex_base.specs.Sessions.{names, session_of}
use Rattle.apex_base.proofs.Finding.{some_if}
use Rattle.apex_base.proofs.MemberLemmas.{each_in, any_in}
use Rattle.apex_base.proofs.RowMaps.{in_entries}
use Rattle.apex_base.proofs.SessionLemmas.{of_found}
use Rattle.apex_world.specs.Opened.{opened_boots, opened_sessions}
use Rattle.world_facts.proofs.facts.StateFacts.{all_in}
use Rattle.world_facts.proofs.facts.WorldRows.{same_id}
use Rattle.row_check.specs.KeptRows.{era_key, era_value, keeps, kept_if, kept_value, AreKept}
use Rattle.row_key.specs.Kept.{IsKeptTag, kept_text}
use Rattle.row_check.specs.KeptRows.{AreEras, HaveBoots}
use Rattle.row_check.specs.RightKept.{FitKeys, place_in, is_kept, is_right_row, are_right_rows, has_name_kept}
use Rattle.row_check.specs.RightKept.{has_kept, have_kept}
use Rattle.row_check.specs.RightRows.{is_value}
use Rattle.row_key.specs.RowBytes.{FitBytes}
use Rattle.row_check.specs.RowFronts.{rows_after}
use Rattle.row_check.proofs.EraParts.{era_front}
use Rattle.row_check.proofs.KeptPlaces.{Place, value_is, place_key, place_again, no_place}
use Rattle.row_check.proofs.OpenedRecords.{session_id}
use Rattle.row_check.proofs.RowsWalked.{in_after}

abbrev Entry : Type 0
Entry = List ℕ × List ℕ

module _ (m : RowMap) (tag : ℕ) (is : IsKeptTag tag) (values : RowMap) where
  abbrev ss : List Record
  ss = opened_sessions m

  abbrev boots : ℕ
  boots = (opened_boots m).0

  each_right : (es : List Entry) → are_right_rows ss values tag es ≡ true → (e : Entry) → In e es
      → is_right_row ss values tag e.0 e.1 ≡ true
  each_right [] a e h = absurd h
  each_right (x ∷ es) a e (inl same) = ap (λ (y : Entry). is_right_row ss values tag y.0 y.1) (sym same)
      ∙ (and_parts (is_right_row ss values tag x.0 x.1) (are_right_rows ss values tag es) a).0
  each_right (x ∷ es) a e (inr h) =
      each_right es (and_parts (is_right_row ss values tag x.0 x.1) (are_right_rows ss values tag es) a).1 e h

  module _ (low : HaveBoots ss) (eras : AreEras m ss boots values)
      (right : are_right_rows ss values tag (fin.entries m) ≡ true)
      (have : have_kept ss values tag m ss ≡ true) where
    at_row : (rest v : List ℕ) → fin.get m (tag ∷ rest) ≡ Some v → is_kept ss values tag (place_in ss rest) v ≡ true
    at_row rest v e =
        sym (ap (λ (b : Bool). cond b (is_kept ss values tag (place_in ss rest) v) true) (eq-eqb tag tag refl))
        ∙ each_right (fin.entries m) right (tag ∷ rest, v) (in_entries m (tag ∷ rest) v e)

    -- A row's key

    abbrev Keyed : List ℕ → Type 0
    Keyed rest = (id : SessionId) × (name key : List ℕ) × (id.0 < 2 ^ 32) × (tag ∷ rest ≡ kept_text tag id name key)

    keyed_if : (rest v : List ℕ) (o : Option Place) → FitBytes rest → place_in ss rest ≡ o
        → is_kept ss values tag o v ≡ true → Keyed rest
    keyed_if rest v None fits e right = absurd (cc right)
    keyed_if rest v (Some p) fits e right =
        let key = place_key ss rest p fits e in
        (key.id, p.1, p.2, key.low, ap (λ (xs : List ℕ). tag ∷ xs) key.is)

    boot_low : (s : Record) → In s ss → s.activation < 2 ^ 32
    boot_low s h = each_in (λ (r : Record). r.activation < 2 ^ 32) ss low s h

    -- What a session keeps

    -- it keeps what is in its row
    row_kept : (s : Record) (name key v : List ℕ) → In s ss → session_of ss s.id ≡ Some s
        → fin.get m (kept_text tag s.id name key) ≡ Some v → kept_value m ss boots tag name key s ≡ Some v
    row_kept s name key v h found e =
        let there : is_kept ss values tag (Some (s, name, key, short_text name key)) v ≡ true =
        sym (ap (λ (o : Option Place). is_kept ss values tag o v)
        (place_again ss s.id name key s (session_id m s h) found))
        ∙ at_row (id_text s.id ++ short_text name key) v e in
        ap (λ (o : Option (List ℕ)). kept_if ss tag name o s) (sym (eras s.activation name key (boot_low s h)))
        ∙ value_is (kept_if ss tag name (fin.get values (era_key s.activation name key)) s) v there

    -- and what it keeps is in its row
    kept_there : (s : Record) (name key u : List ℕ) → In s ss → kept_value m ss boots tag name key s ≡ Some u
        → fin.get m (kept_text tag s.id name key) ≡ Some u
    kept_there s name key u h e =
        let (keeping, f) = some_if (keeps ss tag s) (cond (names name s) (era_value m ss boots s.activation name key) None)
        u e in
        let (named, value) = some_if (names name s) (era_value m ss boots s.activation name key) u f in
        let (p, i, alike) = any_in (λ (p : Part). bytes_eq p.name name) s.parts named in
        let own : p.name ≡ name = (bytes_eq-Decides p.name name).0 alike in
        let all : list_all (λ (p : Part). has_name_kept ss values tag m s p.name) s.parts ≡ true =
        sym (ap (λ (b : Bool). cond b (list_all (λ (p : Part). has_name_kept ss values tag m s p.name) s.parts) true)
        keeping) ∙ all_in (has_kept ss values tag m) ss s have h in
        let has : has_name_kept ss values tag m s name ≡ true =
        ap (has_name_kept ss values tag m s) (sym own)
        ∙ all_in (λ (p : Part). has_name_kept ss values tag m s p.name) s.parts p all i in
        let there : In (key, u) (rows_after (era_key s.activation name []) (fin.entries values)) =
        in_after (era_key s.activation name []) values key u (ap (fin.get values) (era_front s.activation name key)
        ∙ eras s.activation name key (boot_low s h) ∙ value) in
        value_is (fin.get m (kept_text tag s.id name key)) u
        (all_in (λ (row : Entry). is_value (fin.get m (kept_text tag s.id name row.0)) row.1)
        (rows_after (era_key s.activation name []) (fin.entries values)) (key, u) has there)

    here_if : (s : Record) (name key : List ℕ) (o p : Option (List ℕ)) → In s ss → session_of ss s.id ≡ Some s
        → fin.get m (kept_text tag s.id name key) ≡ o → kept_value m ss boots tag name key s ≡ p → o ≡ p
    here_if s name key (Some v) p h found e f = sym (row_kept s name key v h found e) ∙ f
    here_if s name key None (Some u) h found e f = sym e ∙ kept_there s name key u h f
    here_if s name key None None h found e f = refl

    gone_if : (id : SessionId) (name key : List ℕ) (o : Option (List ℕ)) → id.0 < 2 ^ 32
        → session_of ss id ≡ None → fin.get m (kept_text tag id name key) ≡ o → o ≡ None
    gone_if id name key None low e f = refl
    gone_if id name key (Some v) low e f =
        let right = at_row (id_text id ++ short_text name key) v f in
        let none = ap (λ (o : Option Place). is_kept ss values tag o v) (no_place ss id name key low e) in
        absurd (cc (right, none))

    same_if : (id : SessionId) (name key : List ℕ) (o : Option Record) → id.0 < 2 ^ 32 → session_of ss id ≡ o
        → fin.get m (kept_text tag id name key) ≡ option_and_then (kept_value m ss boots tag name key) o
    same_if id name key None low e = gone_if id name key (fin.get m (kept_text tag id name key)) low e refl
    same_if id name key (Some s) low e =
        let (h, same) = of_found ss id s e in
        let is_id : s.id ≡ id = same_id s.id id same in
        ap (λ (x : SessionId). fin.get m (kept_text tag x name key)) (sym is_id)
        ∙ here_if s name key (fin.get m (kept_text tag s.id name key)) (kept_value m ss boots tag name key s) h
        (ap (session_of ss) is_id ∙ e) refl refl

    -- they are what sessions keep
    pub are_kept : FitKeys (fin.entries m) → AreKept m tag
    are_kept fit = record {
      keyed = λ rest value e.
          let fits = each_in (λ (row : Entry). FitBytes row.0) (fin.entries m) fit (tag ∷ rest, value)
          (in_entries m (tag ∷ rest) value e) in
          keyed_if rest value (place_in ss rest) (λ i. fits (suc i)) refl (at_row rest value e);
      same = λ id name key low.
          same_if id name key (session_of ss id) low refl;
    }
