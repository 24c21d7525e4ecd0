-- Modules as maps from paths to contents: docs/formats/module.md.
use Rattle.std.specs.Prelude.{ℕ, ◌+◌, ◌≤◌, ◌&&◌, IsTrue, not, nat_le, nat_lt, List, length, map, sum, IfSome, Option}
use Rattle.std.specs.Prelude.{Some, None, if◌then◌else◌}
use Rattle.std.specs.List.Sorted.{IsStrictlySortedBy}
use Rattle.std.specs.Map.{keys_of}
use Rattle.std.specs.Ordering.{nat_cmp}
use Rattle.std.specs.Cmp.Lexicographic.{slice_cmp}
use Rattle.std.specs.FinMap as fin
use Rattle.apex_base.specs.Text.{is_path}
use Rattle.apex_base.specs.declared.module.PutWhy.{PutWhy}
use Rattle.apex_base.specs.declared.module.PutWhy.TheVariants.{Files, Large}

-- files by their paths
abbrev pub FileMap : Type 0
FileMap = fin.FinMap (slice_cmp nat_cmp) (List ℕ)

-- a file weighs its content's length and 256 more
abbrev pub file_weight : List ℕ → ℕ
file_weight content = length content + 256

abbrev pub module_weight : FileMap → ℕ
module_weight m = sum (map (λ f. file_weight f.1) (fin.entries m))

-- why a file can't be put: 64 other files are there, or it is too long
abbrev pub put_fault : FileMap → List ℕ → List ℕ → Option PutWhy
put_fault m path content =
    if not (fin.contains_key m path) && nat_le 64 (fin.len m) then Some Files
    else (if nat_lt 1048576 (length content) then Some (Large (length content))
    else None)

-- at most 64 files of at most 1048576 bytes each, under paths
pub record IsModule (m : FileMap) : Type 0 where
  pub few : fin.len m ≤ 64
  pub short : (path : List ℕ) → IfSome (fin.get m path) (λ content. length content ≤ 1048576)
  pub paths : (path : List ℕ) → IfSome (fin.get m path) (λ content. IsTrue (is_path path))

-- how the files of a module are kept in memory: ascending by path
pub record HoldsModule (entries : List (List ℕ × List ℕ)) : Type 0 where
  pub ascending : IsStrictlySortedBy (slice_cmp nat_cmp) (keys_of entries)
  pub whole : IsModule (fin.from_entries entries)
