-- What the rows of a module make of a map of rows, and that they can stand in a batch. Callers want `placed`,
-- `ascends` and `fits`.
use Rattle.std.proofs.Common.{◌≡◌, ℕ, ◌≤◌, Bool, true, false, cond, List, [], ◌∷◌, length, map, Option, Some, None}
use Rattle.std.proofs.Common.{sym, ap, ◌∙◌, refl, arith, inl, inr}
use Rattle.std.specs.Prelude.{IsTrue, nat_le}
use Rattle.std.specs.Cmp.Lexicographic.{slice_cmp}
use Rattle.std.specs.FinMap as fin
use Rattle.std.specs.FinMap.{get-entries}
use Rattle.std.specs.List.{AllByRecursion}
use Rattle.std.specs.List.Sorted.{IsStrictlySortedBy}
use Rattle.std.specs.Map.{keys_of}
use Rattle.std.specs.Ordering.{nat_cmp}
use Rattle.std.specs.declared.cmp.Ordering.TheVariants.{Less}
use Rattle.std.proofs.lemmas.Bool.{and_parts}
use Rattle.std.proofs.lemmas.Bool.Decides.{nat_tests}
use Rattle.apex_base.specs.declared.numbers.SessionId.{SessionId}
use Rattle.apex_base.specs.Keys.{RowMap, file_front}
use Rattle.apex_base.specs.Members.{In}
use Rattle.apex_base.specs.Modules.{FileMap, IsModule}
use Rattle.apex_base.specs.Text.{is_path}
use Rattle.apex_base.proofs.RowMaps.{same_bytes, entry_get}
use Rattle.row_codec.specs.Batch.{IsRow}
use Rattle.row_codec.specs.Batch as batch
use Rattle.row_map.specs.Rows.{changed}
use Rattle.row_key.specs.Files.{path_in}
use Rattle.package_store.specs.Placed.{file_change, file_changes, file_at, or_before, placed_value}
use Rattle.package_store.proofs.Fronts.{file_cmp, same_path, path_there, key_of_path}
use Rattle.package_store.proofs.Maps.{same_key, at_insert, not_below}

module _ (session : SessionId) (part : ℕ) where
  abbrev found : List (List ℕ × List ℕ) → Option (List ℕ) → Option (List ℕ)
  found es None = None
  found es (Some path) = fin.find (slice_cmp nat_cmp) path es

  -- a key of another form than a file's is left as it is
  other_key : (b : Bool) (key path value : List ℕ) (before : Option (List ℕ))
      → same_key key (file_front session part path) ≡ b → path_in session part key ≡ None
      → cond b (Some value) before ≡ before
  other_key true key path value before same none = absurd (cc (
    none,
    ap (path_in session part) (same_bytes key (file_front session part path) same),
    path_there session part path,
  ))
  other_key false key path value before same none = refl

  -- the first file, written before the others
  first_file : (b : Bool) (path : List ℕ) (e : List ℕ × List ℕ) (es : List (List ℕ × List ℕ))
      (before : Option (List ℕ)) → same_key path e.0 ≡ b → fin.find (slice_cmp nat_cmp) e.0 es ≡ None
      → or_before (fin.find (slice_cmp nat_cmp) path es) (cond b (Some e.1) before)
      ≡ or_before (cond b (Some e.1) (fin.find (slice_cmp nat_cmp) path es)) before
  first_file true path e es before same none =
      ap (λ (o : Option (List ℕ)). or_before o (Some e.1))
      (ap (λ (k : List ℕ). fin.find (slice_cmp nat_cmp) k es) (same_bytes path e.0 same) ∙ none)
  first_file false path e es before same none = refl

  placed_by : (es : List (List ℕ × List ℕ)) (rows : RowMap) (key : List ℕ) (o : Option (List ℕ))
      → IsStrictlySortedBy (slice_cmp nat_cmp) (keys_of es) → path_in session part key ≡ o
      → fin.get (changed rows (map (file_change session part) es)) key ≡ or_before (found es o) (fin.get rows key)
  unfolding IsStrictlySortedBy
  placed_by [] rows key None up is = refl
  placed_by [] rows key (Some path) up is = refl
  placed_by (e ∷ es) rows key None up is =
      placed_by es (fin.insert rows (file_front session part e.0) e.1) key None up.1 is
      ∙ at_insert rows (file_front session part e.0) e.1 key
      ∙ other_key _ key e.0 e.1 (fin.get rows key) refl is
  placed_by (e ∷ es) rows key (Some path) up is =
      let same : same_key key (file_front session part e.0) ≡ same_key path e.0 =
      ap (λ (k : List ℕ). same_key k (file_front session part e.0)) (key_of_path session part key path is)
      ∙ same_path session part path e.0 in
      placed_by es (fin.insert rows (file_front session part e.0) e.1) key (Some path) up.1 is
      ∙ ap (or_before (fin.find (slice_cmp nat_cmp) path es)) (at_insert rows (file_front session part e.0) e.1 key
      ∙ ap (λ (b : Bool). cond b (Some e.1) (fin.get rows key)) same)
      ∙ first_file (same_key path e.0) path e es (fin.get rows key) refl (not_below e.0 es up.0)

  found_at : (files : FileMap) (o : Option (List ℕ)) → found (fin.entries files) o ≡ file_at files o
  found_at files None = refl
  found_at files (Some path) = sym (get-entries files path)

  -- each key of the part has the module's file, if there is one, and all else stays
  pub placed : (files : FileMap) (rows : RowMap) (key : List ℕ)
      → IsStrictlySortedBy (slice_cmp nat_cmp) (keys_of (fin.entries files))
      → fin.get (changed rows (file_changes session part files)) key ≡ placed_value rows session part files key
  placed files rows key up =
      placed_by (fin.entries files) rows key (path_in session part key) up refl
      ∙ ap (λ (o : Option (List ℕ)). or_before o (fin.get rows key)) (found_at files (path_in session part key))

  below_files : (path : List ℕ) (es : List (List ℕ × List ℕ))
      → AllByRecursion (λ k. slice_cmp nat_cmp path k ≡ Less) (keys_of es)
      → AllByRecursion (λ k. slice_cmp nat_cmp (file_front session part path) k ≡ Less)
      (batch.keys_of (map (file_change session part) es))
  below_files path [] all = tt
  below_files path (e ∷ es) all = (file_cmp session part path e.0 ∙ all.0, below_files path es all.1)

  -- the rows ascend by key as the files do by path
  pub ascends : (es : List (List ℕ × List ℕ)) → IsStrictlySortedBy (slice_cmp nat_cmp) (keys_of es)
      → IsStrictlySortedBy (slice_cmp nat_cmp) (batch.keys_of (map (file_change session part) es))
  unfolding IsStrictlySortedBy
  ascends [] up = tt
  ascends (e ∷ es) up = (below_files e.0 es up.0, ascends es up.1)

  short_path : (path : List ℕ) → IsTrue (is_path path) → length path ≤ 128
  unfolding is_path
  short_path path is = let few : nat_le (length path) 128 ≡ true = (and_parts _ _ is).0 in grind (arith, nat_tests, few)

  fits_by : (files : FileMap) (es : List (List ℕ × List ℕ)) → IsModule files
      → ((e : List ℕ × List ℕ) → In e es → fin.get files e.0 ≡ Some e.1)
      → AllByRecursion IsRow (map (file_change session part) es)
  fits_by files [] is at = tt
  fits_by files (e ∷ es) is at =
      let there : fin.get files e.0 ≡ Some e.1 = at e (inl refl) in
      let short : length e.0 ≤ 128 = short_path e.0 (rw there at (is.paths e.0)) in
      let few : length e.1 ≤ 1048576 = rw there at (is.short e.0) in (
        record { not_empty = omega arith; short = omega (arith, short); value = omega (arith, few) },
        fits_by files es is (λ x h. at x (inr h)),
      )

  -- the rows of a module can stand in a batch
  pub fits : (files : FileMap) → IsModule files → AllByRecursion IsRow (file_changes session part files)
  fits files is = fits_by files (fin.entries files) is (entry_get files)
