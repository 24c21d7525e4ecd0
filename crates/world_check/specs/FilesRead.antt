-- Files that are read into a module, one after another.
use Rattle.std.specs.Prelude.{◌≡◌, ◌≢◌, ℕ, true, List, Option, None, Some}
use Rattle.std.specs.FinMap as fin
use Rattle.apex_base.specs.Modules.{FileMap, put_fault}
use Rattle.apex_base.specs.Text.{is_path}

-- with a file more, if there is a path
abbrev pub with_file : Option (List ℕ) → List ℕ → FileMap → FileMap
with_file None content files = files
with_file (Some path) content files = fin.insert files path content

-- a file that a module can't have beside those that it has
pub record IsTooMuch (files : FileMap) (path content : List ℕ) : Type 0 where
  pub named : is_path path ≡ true
  pub faulty : put_fault files path content ≢ None
