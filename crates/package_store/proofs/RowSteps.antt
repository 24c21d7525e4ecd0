-- Rows settled one after another. Callers want `starts`, `row_settled` and `ends`.
use Rattle.std.proofs.Common.{◌≡◌, ℕ, Bool, true, false, cond, ◌&&◌, ◌||◌, not, List, [], ◌∷◌, Option, Some, None, ap}
use Rattle.std.proofs.Common.{sym, ◌∙◌, refl}
use Rattle.std.specs.Prelude.{◌==◌}
use Rattle.std.specs.Cmp.Lexicographic.{slice_cmp, nat_list_cmp_total}
use Rattle.std.specs.FinMap as fin
use Rattle.std.specs.FinMap.{get-from_entries}
use Rattle.std.specs.List.Sorted.{IsStrictlySortedBy}
use Rattle.std.specs.Map.{keys_of}
use Rattle.std.specs.Option.{is_some}
use Rattle.std.specs.Ordering.{nat_cmp}
use Rattle.std.specs.Str.{bytes_eq}
use Rattle.std.specs.declared.alloc.Global.{Global}
use Rattle.std.specs.declared.vec.Vec.{Vec}
use Rattle.std.proofs.lemmas.Map.Text.{is_eq-slice_cmp}
use Rattle.std.proofs.lemmas.Slice.Eq.{bytes_eq-Decides}
use Rattle.apex_base.specs.declared.records.Record.{Record}
use Rattle.apex_base.specs.Held.{kept}
use Rattle.apex_base.specs.Keys.{RowMap}
use Rattle.apex_base.proofs.RowMaps.{eq_bytes}
use Rattle.row_map.specs.Rows.{shown, rows_of}
use Rattle.package_store.specs.Named.{Note, resettled, note_row}
use Rattle.apex_base.specs.Settled.{active_of, backup_of}
use Rattle.package_store.specs.Settled.{settled, settled_value, file_stays}
use Rattle.package_store.specs.Spelled.{ChangeMap, change_to}
use Rattle.package_store.proofs.Maps.{not_below, ascending}
use Rattle.package_store.proofs.Noted.{same_itself}
use Rattle.package_store.proofs.RowNotes.{bytes_turned}

-- ---- one row

again : (wanted : Option (List ℕ)) (value : List ℕ)
    → resettled (change_to None wanted) value ≡ change_to (Some value) wanted
again None value = refl
again (Some w) value = ap (λ (b : Bool). cond b None (Some (Some w))) (bytes_turned w value)

same_value : (value : List ℕ) → None ≡ change_to (Some value) (Some value)
same_value value = ap (λ (b : Bool). cond b None (Some (Some value))) (sym (same_itself (Some value)))

row_if : (a b c d : Bool) (active backup : Option (List ℕ)) (value : List ℕ) (n : Note)
    → n ≡ change_to None (cond a active (cond b backup (cond c (cond d None None) None)))
    → cond (a || b) (resettled n value) (cond (c && not d) (Some None) n)
    ≡ change_to (Some value) (cond a active (cond b backup (cond c (cond d (Some value) None) (Some value))))
row_if true b c d active backup value n e = ap (λ (n : Note). resettled n value) e ∙ again active value
row_if false true c d active backup value n e = ap (λ (n : Note). resettled n value) e ∙ again backup value
row_if false false true true active backup value n e = e ∙ same_value value
row_if false false true false active backup value n e = refl
row_if false false false d active backup value n e = e ∙ same_value value

-- what is noted of a row's key once it is seen
row_seen : (records : List Record) (key value : List ℕ) (n : Note) → n ≡ change_to None (settled records key None)
    → note_row (file_stays (kept records)) key value n ≡ change_to (Some value) (settled records key (Some value))
row_seen records [] value n e = e ∙ same_value value
row_seen records (tag ∷ rest) value n e =
    row_if (tag == 3) (tag == 4) (tag == 5) (file_stays (kept records) rest) (active_of records rest)
    (backup_of records rest) value n e

-- ---- all rows

abbrev Rows : Type 0
Rows = List (List ℕ × List ℕ)

-- what is known of a key while these rows are left
abbrev seen : RowMap → Rows → List ℕ → Option (List ℕ)
seen rows rest q = cond (is_some (fin.find (slice_cmp nat_cmp) q rest)) None (fin.get rows q)

-- the rows before those that are left are settled
pub record Settling (records : List Record) (rows : RowMap) (changes : ChangeMap) (rest : Rows) : Type 0 where
  pub noted : (q : List ℕ) → fin.get changes q ≡ change_to (seen rows rest q) (settled records q (seen rows rest q))
  pub there : (q v : List ℕ) → fin.find (slice_cmp nat_cmp) q rest ≡ Some v → fin.get rows q ≡ Some v
  pub up : IsStrictlySortedBy (slice_cmp nat_cmp) (keys_of rest)

unseen : (o : Option (List ℕ)) → cond (is_some o) None o ≡ None
unseen None = refl
unseen (Some v) = refl

module _ (records : List Record) where
  -- at first no row is seen
  pub starts : (es : List (Vec ℕ Global × List ℕ)) (changes : ChangeMap)
      → ((q : List ℕ) → fin.get changes q ≡ change_to None (settled records q None))
      → IsStrictlySortedBy (λ (x y : Vec ℕ Global). slice_cmp nat_cmp x.items y.items) (keys_of es)
      → Settling records (rows_of es) changes (shown es)
  starts es changes noted up =
      let found : (q : List ℕ) → fin.get (rows_of es) q ≡ fin.find (slice_cmp nat_cmp) q (shown es) =
      λ q. get-from_entries nat_list_cmp_total (shown es) q in
      record {
        noted = λ q. noted q ∙ ap (λ (o : Option (List ℕ)). change_to o (settled records q o))
            (sym (ap (λ (o : Option (List ℕ)). cond (is_some (fin.find (slice_cmp nat_cmp) q (shown es))) None o)
            (found q)
            ∙ unseen (fin.find (slice_cmp nat_cmp) q (shown es))));
        there = λ q v e. found q ∙ e;
        up = ascending es up;
      }

  module _ (rows : RowMap) (changes changes' : ChangeMap) (e : List ℕ × List ℕ) (rest : Rows)
      (s : Settling records rows changes (e ∷ rest)) (noted : (q : List ℕ) → fin.get changes' q
      ≡ cond (bytes_eq q e.0) (note_row (file_stays (kept records)) e.0 e.1 (fin.get changes e.0))
      (fin.get changes q)) where
    abbrev row : Note
    row = note_row (file_stays (kept records)) e.0 e.1 (fin.get changes e.0)

    last : fin.find (slice_cmp nat_cmp) e.0 rest ≡ None
    unfolding IsStrictlySortedBy
    last = not_below e.0 rest s.up.0

    first : fin.find (slice_cmp nat_cmp) e.0 (e ∷ rest) ≡ Some e.1
    first = ap (λ (b : Bool). cond b (Some e.1) (fin.find (slice_cmp nat_cmp) e.0 rest)) (eq_bytes e.0)

    up_rest : IsStrictlySortedBy (slice_cmp nat_cmp) (keys_of rest)
    unfolding IsStrictlySortedBy
    up_rest = s.up.1

    others : (q : List ℕ) → bytes_eq q e.0 ≡ false
        → fin.find (slice_cmp nat_cmp) q (e ∷ rest) ≡ fin.find (slice_cmp nat_cmp) q rest
    others q ne =
        ap (λ (b : Bool). cond b (Some e.1) (fin.find (slice_cmp nat_cmp) q rest)) (is_eq-slice_cmp q e.0 ∙ ne)

    noted_if : (b : Bool) (q : List ℕ) → bytes_eq q e.0 ≡ b → fin.get changes' q
        ≡ change_to (seen rows rest q) (settled records q (seen rows rest q))
    noted_if true q eq =
        let same : q ≡ e.0 = (bytes_eq-Decides q e.0).0 eq in
        let before : seen rows (e ∷ rest) e.0 ≡ None =
        ap (λ (o : Option (List ℕ)). cond (is_some o) None (fin.get rows e.0)) first in
        let after : seen rows rest e.0 ≡ Some e.1 =
        ap (λ (o : Option (List ℕ)). cond (is_some o) None (fin.get rows e.0)) last ∙ s.there e.0 e.1 first in
        let old : fin.get changes e.0 ≡ change_to None (settled records e.0 None) =
        s.noted e.0 ∙ ap (λ (o : Option (List ℕ)). change_to o (settled records e.0 o)) before in
        noted q
        ∙ ap (λ (b : Bool). cond b row (fin.get changes q)) eq
        ∙ row_seen records e.0 e.1 (fin.get changes e.0) old
        ∙ ap (λ (o : Option (List ℕ)). change_to o (settled records e.0 o)) (sym after)
        ∙ ap (λ (k : List ℕ). change_to (seen rows rest k) (settled records k (seen rows rest k))) (sym same)
    noted_if false q ne =
        noted q
        ∙ ap (λ (b : Bool). cond b row (fin.get changes q)) ne
        ∙ s.noted q
        ∙ ap (λ (o : Option (List ℕ)). change_to (cond (is_some o) None (fin.get rows q))
        (settled records q (cond (is_some o) None (fin.get rows q)))) (others q ne)

    there_if : (b : Bool) (q v : List ℕ) → bytes_eq q e.0 ≡ b → fin.find (slice_cmp nat_cmp) q rest ≡ Some v
        → fin.get rows q ≡ Some v
    there_if true q v eq found =
        let none : fin.find (slice_cmp nat_cmp) q rest ≡ None =
        ap (λ (k : List ℕ). fin.find (slice_cmp nat_cmp) k rest) ((bytes_eq-Decides q e.0).0 eq) ∙ last in
        absurd (cc (none, found))
    there_if false q v ne found = s.there q v (others q ne ∙ found)

    -- a row more is settled
    pub row_settled : Settling records rows changes' rest
    row_settled = record {
      noted = λ q. noted_if (bytes_eq q e.0) q refl;
      there = λ q v found. there_if (bytes_eq q e.0) q v refl found;
      up = up_rest;
    }

  -- where no row is left each key has its change
  pub ends : (rows : RowMap) (changes : ChangeMap) → Settling records rows changes [] → (q : List ℕ)
      → fin.get changes q ≡ change_to (fin.get rows q) (settled_value rows records q)
  ends rows changes s q = s.noted q
