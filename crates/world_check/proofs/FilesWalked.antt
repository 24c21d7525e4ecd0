-- The files of a module among rows, from the first key that may be one of them on. Callers want `FilesLeft`, `starts`,
-- `reads`, `stops`, `ends`, `too_much` and `module_read`.
use Rattle.std.proofs.Common.{◌≡◌, ℕ, Bool, true, false, cond, List, [], ◌∷◌, Option, Some, None, sym, ap, subst}
use Rattle.std.proofs.Common.{◌∙◌, refl}
use Rattle.std.specs.Prelude.{option_and_then}
use Rattle.std.specs.BTreeMap.Range.{entries_between}
use Rattle.std.specs.Cmp.Lexicographic.{slice_cmp}
use Rattle.std.specs.FinMap as fin
use Rattle.std.specs.FinMap.{get-entries}
use Rattle.std.specs.List.{filter, AllByRecursion}
use Rattle.std.specs.List.Sorted.{IsStrictlySortedBy}
use Rattle.std.specs.Map.{keys_of}
use Rattle.std.specs.Ordering.{nat_cmp}
use Rattle.std.specs.declared.alloc.Global.{Global}
use Rattle.std.specs.declared.cmp.Ordering.TheVariants.{Less}
use Rattle.std.specs.declared.ops.Bound.TheVariants.{Included, Unbounded}
use Rattle.std.specs.declared.vec.Vec.{Vec}
use Rattle.std.proofs.lemmas.Bool.{false_from_ne_true}
use Rattle.apex_base.specs.declared.numbers.SessionId.{SessionId}
use Rattle.apex_base.specs.Keys.{RowMap, file_front, ends_of}
use Rattle.apex_base.specs.Modules.{FileMap, IsModule}
use Rattle.apex_base.specs.Text.{is_path, path_of}
use Rattle.apex_base.proofs.Finding.{some_then, some_if}
use Rattle.apex_base.proofs.RowMaps.{same_names, in_ends, tabulated}
use Rattle.apex_world.specs.Opened as world
use Rattle.row_key.specs.Files.{path_in}
use Rattle.package_store.proofs.FilesRead.{HasPaths, Filed, files_in, file_found, begins, passes, has_room, takes}
use Rattle.package_store.proofs.FilesRead as read
use Rattle.package_store.proofs.Fronts.{at_least, front_le, between, path_there, key_of_path}
use Rattle.package_store.proofs.RowsFrom.{Rows, Entry, by_items, range_is_from}
use Rattle.row_map.specs.Rows.{shown}
use Rattle.apex_world.specs.Decided.{is_module}
use Rattle.world_facts.proofs.facts.DecidedTables.{module_decides}
use Rattle.world_check.specs.FilesRead.{with_file, IsTooMuch}
use Rattle.world_check.specs.RightModules.{if_module}

module _ (session : SessionId) (part : ℕ) where
  abbrev front : List ℕ
  front = file_front session part []

  -- Keys of files

  -- a key of a file comes after the front
  path_after : (key path : List ℕ) → path_in session part key ≡ Some path → at_least front key ≡ true
  path_after key path e = ap (at_least front) (key_of_path session part key path e) ∙ front_le front path

  none_if : (key q : List ℕ) (o : Option (List ℕ)) → path_in session part q ≡ o → at_least front key ≡ true
      → path_in session part key ≡ None → slice_cmp nat_cmp key q ≡ Less → o ≡ None
  none_if key q None f e le lt = refl
  none_if key q (Some path) f le e lt =
      let is = key_of_path session part q path f in
      let (tail, begun) = between front key path le (ap (slice_cmp nat_cmp key) (sym is) ∙ lt) in
      let there : path_in session part key ≡ Some tail =
      ap (path_in session part) begun ∙ path_there session part tail in
      absurd (cc (e, there))

  -- after a key behind them none is one of a file
  none_above : (key q : List ℕ) → at_least front key ≡ true → path_in session part key ≡ None
      → slice_cmp nat_cmp key q ≡ Less → path_in session part q ≡ None
  none_above key q le e lt = none_if key q (path_in session part q) refl le e lt

  -- The files among rows

  -- the path of a file's key
  abbrev pub path_at : List ℕ → Option (List ℕ)
  path_at key = option_and_then path_of (path_in session part key)

  some_path : (o : Option (List ℕ)) (path : List ℕ) → option_and_then path_of o ≡ Some path
      → (o ≡ Some path) × (is_path path ≡ true)
  some_path o path e =
      let (q, is, f) = some_then path_of o path e in
      let (named, one) = some_if (is_path q) (Some q) path f in
      let same : q ≡ path = cc one in
      (is ∙ one, ap is_path (sym same) ∙ named)

  file_paths : HasPaths session part is_path path_at
  file_paths = record {
    its_key = λ key path e.
        let (is, named) = some_path (path_in session part key) path e in
        (key_of_path session part key path is, named);
    there = λ path named. ap (option_and_then path_of) (path_there session part path)
        ∙ ap (λ (b : Bool). cond b (Some path) None) named;
  }

  -- the files among all rows are the module that they open to
  all_files : (m : RowMap) → files_in path_at (fin.entries m) ≡ world.opened_files m session part
  all_files m = same_names (files_in path_at (fin.entries m)) (world.opened_files m session part) (λ path.
      file_found file_paths (fin.entries m) path
      ∙ ap (λ (o : Option (List ℕ)). cond (is_path path) o None) (sym (get-entries m (file_front session part path)))
      ∙ sym (tabulated (world.path_in m session part) (ends_of 6 m) path
      (λ v e. in_ends 6 m (file_front session part path) v
      (some_if (is_path path) (fin.get m (file_front session part path)) v e).1)))

  -- Rows before the front have none of them

  none_before : (key : List ℕ) (o : Option (List ℕ)) → path_in session part key ≡ o → at_least front key ≡ false
      → o ≡ None
  none_before key None f e = refl
  none_before key (Some path) f e = absurd (cc (e, path_after key path f))

  from_if : (b : Bool) (e : List ℕ × List ℕ) (es fs : Rows) → at_least front e.0 ≡ b
      → files_in path_at es ≡ files_in path_at fs → files_in path_at (cond b (e ∷ es) es) ≡ files_in path_at (e ∷ fs)
  from_if true e es fs low same = ap (read.with_file (path_at e.0) e.1) same
  from_if false e es fs low same =
      let none = none_before e.0 (path_in session part e.0) refl low in
      same ∙ sym (ap (λ (o : Option (List ℕ)). read.with_file (option_and_then path_of o) e.1 (files_in path_at fs)) none)

  files_from : (es : Rows) → files_in path_at (filter (λ e. at_least front e.0) es) ≡ files_in path_at es
  files_from [] = refl
  files_from (e ∷ es) =
      from_if (at_least front e.0) e (filter (λ e. at_least front e.0) es) es refl (files_from es)

  none_left : (es : Rows) → AllByRecursion (λ key. path_in session part key ≡ None) (keys_of es)
      → files_in path_at es ≡ fin.empty
  none_left [] all = refl
  none_left (e ∷ es) all =
      ap (λ (o : Option (List ℕ)). read.with_file (option_and_then path_of o) e.1 (files_in path_at es)) all.0
      ∙ none_left es all.1

  all_none : (key : List ℕ) (es : Rows) → at_least front key ≡ true → path_in session part key ≡ None
      → AllByRecursion (λ k. slice_cmp nat_cmp key k ≡ Less) (keys_of es)
      → AllByRecursion (λ key. path_in session part key ≡ None) (keys_of es)
  all_none key [] le e all = tt
  all_none key (x ∷ es) le e all = (none_above key x.0 le e all.0, all_none key es le e all.1)

  -- The walk

  -- these files, and those of the rows that are left, are the module; what is left comes after the front
  pub record FilesLeft (whole files : FileMap) (rest : Rows) : Type 0 where
    pub filed : Filed path_at whole files rest
    pub after : AllByRecursion (λ key. at_least front key ≡ true) (keys_of rest)

  pub starts : (m : RowMap) (entries es : List Entry) (start : Vec ℕ Global) (files : FileMap)
      → fin.entries m ≡ shown entries → start.items ≡ front
      → es ≡ entries_between by_items (Included start) Unbounded entries → files ≡ fin.empty
      → FilesLeft (world.opened_files m session part) files (shown es)
  starts m entries es start files all is some none =
      let from = range_is_from front m entries es start all is some in
      let same : files_in path_at (shown es) ≡ world.opened_files m session part =
      ap (λ (rows : Rows). files_in path_at rows) from.are ∙ files_from (fin.entries m) ∙ all_files m in
      record {
        filed = begins path_at (world.opened_files m session part) files (shown es) same none from.up;
        after = from.after;
      }

  module _ (whole files : FileMap) where
    -- where no row is left the files are the module
    pub ends : FilesLeft whole files [] → files ≡ whole
    ends f = read.ends path_at whole files [] f.filed refl

    module _ (e : List ℕ × List ℕ) (es : Rows) (f : FilesLeft whole files (e ∷ es)) where
      -- and so they are before a row of something else
      pub stops : path_in session part e.0 ≡ None → files ≡ whole
      unfolding IsStrictlySortedBy
      stops none = read.ends path_at whole files (e ∷ es) f.filed
          (none_left (e ∷ es) (none, all_none e.0 es f.after.0 none f.filed.up.0))

      key_is : (path : List ℕ) → path_in session part e.0 ≡ Some path → (o : Option (List ℕ)) → path_of path ≡ o
          → path_at e.0 ≡ o
      key_is path its o is = ap (option_and_then path_of) its ∙ is

      reads_if : (path : List ℕ) (its : path_in session part e.0 ≡ Some path) (o : Option (List ℕ)) → path_of path ≡ o
          → (files' : FileMap) → files' ≡ with_file o e.1 files → FilesLeft whole files' es
      reads_if path its None is files' put = record {
        filed = subst (λ (m : FileMap). Filed path_at whole m es) (sym put)
            (passes path_at whole files e es f.filed (key_is path its None is));
        after = f.after.1;
      }
      reads_if path its (Some q) is files' put = record {
        filed = takes file_paths whole files e es f.filed q (key_is path its (Some q) is) files' put;
        after = f.after.1;
      }

      -- a row of a file is read
      pub reads : (path : List ℕ) → path_in session part e.0 ≡ Some path → (files' : FileMap)
          → files' ≡ with_file (path_of path) e.1 files → FilesLeft whole files' es
      reads path its files' put = reads_if path its (path_of path) refl files' put

      -- or it is too much for a module
      pub too_much : (path : List ℕ) → path_in session part e.0 ≡ Some path → IsTooMuch files path e.1
          → IsModule whole → ⊥
      too_much path its much h =
          let is : path_of path ≡ Some path = ap (λ (b : Bool). cond b (Some path) None) much.named in
          much.faulty (has_room file_paths whole files e es f.filed path (key_is path its (Some path) is) h)

-- what was read as a module is the module
pub module_read : (whole files : FileMap) → files ≡ whole → IsModule files → Some files ≡ if_module whole
module_read whole files same is =
    ap (λ (m : FileMap). Some m) same
    ∙ sym (ap (λ (b : Bool). cond b (Some whole) None) ((module_decides whole).1 (subst IsModule same is)))

-- and where it is none, there is none
pub no_module : (whole : FileMap) → (IsModule whole → ⊥) → None ≡ if_module whole
no_module whole none =
    sym (ap (λ (b : Bool). cond b (Some whole) None)
    (false_from_ne_true (is_module whole) (λ e. none ((module_decides whole).0 e))))
