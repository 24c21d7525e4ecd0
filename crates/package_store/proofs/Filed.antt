-- The files of a module among rows, read one row after another. Callers want `filed_paths`, `starts` and `no_module`.
use Rattle.std.proofs.Common.{subst, ◌≡◌, ℕ, true, List, [], sym, ◌∙◌, refl}
use Rattle.std.specs.Cmp.Lexicographic.{slice_cmp, nat_list_cmp_total}
use Rattle.std.specs.FinMap as fin
use Rattle.std.specs.FinMap.{get-from_entries}
use Rattle.std.specs.List.Sorted.{IsStrictlySortedBy}
use Rattle.std.specs.Map.{keys_of}
use Rattle.std.specs.Ordering.{nat_cmp}
use Rattle.std.specs.declared.alloc.Global.{Global}
use Rattle.std.specs.declared.vec.Vec.{Vec}
use Rattle.apex_base.specs.declared.numbers.SessionId.{SessionId}
use Rattle.apex_base.specs.Keys.{file_front, ends_of}
use Rattle.apex_base.specs.Modules.{FileMap, IsModule}
use Rattle.apex_base.specs.RowSums.{module_at}
use Rattle.apex_base.proofs.Maps.{empty_module}
use Rattle.apex_base.proofs.RowMaps.{same_names, in_ends, tabulated}
use Rattle.row_map.specs.Rows.{shown, rows_of}
use Rattle.row_key.specs.Files.{path_in}
use Rattle.package_store.proofs.FilesRead.{HasPaths, Filed, files_in, file_found, begins}
use Rattle.package_store.proofs.Fronts.{path_there, key_of_path}
use Rattle.package_store.proofs.Maps.{ascending}
use Rattle.package_store.proofs.RowsFrom.{Entry}

module _ (session : SessionId) (part : ℕ) where
  -- each key of the part's files has its path, whatever the path is
  pub filed_paths : HasPaths session part (λ path. true) (path_in session part)
  filed_paths = record {
    its_key = λ key path e. (key_of_path session part key path e, refl);
    there = λ path is. path_there session part path;
  }

  -- the files of the part among all rows are its module
  all_filed : (es : List Entry) → files_in (path_in session part) (shown es) ≡ module_at (rows_of es) session part
  all_filed es =
      same_names (files_in (path_in session part) (shown es)) (module_at (rows_of es) session part)
      (λ path. file_found filed_paths (shown es) path
      ∙ sym (get-from_entries nat_list_cmp_total (shown es) (file_front session part path))
      ∙ sym (tabulated (λ path. fin.get (rows_of es) (file_front session part path)) (ends_of 6 (rows_of es)) path
      (λ v e. in_ends 6 (rows_of es) (file_front session part path) v e)))

  -- no rows are a module without files
  pub no_module : (es : List Entry) → es ≡ [] → IsModule (module_at (rows_of es) session part)
  no_module es none = subst (λ (es : List Entry). IsModule (module_at (rows_of es) session part)) (sym none)
      (subst IsModule (all_filed []) empty_module)

  -- at first all rows are left
  pub starts : (whole files : FileMap) (es : List Entry) → whole ≡ module_at (rows_of es) session part
      → IsStrictlySortedBy (λ (x y : Vec ℕ Global). slice_cmp nat_cmp x.items y.items) (keys_of es)
      → files ≡ fin.empty → Filed (path_in session part) whole files (shown es)
  starts whole files es is up none =
      begins (path_in session part) whole files (shown es) (all_filed es ∙ sym is) none (ascending es up)
