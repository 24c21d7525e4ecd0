-- Changes of rows by their keys, each once.
use Rattle.std.specs.Prelude.{ℕ, List, map, Option, Some, None, if◌then◌else◌, Bool, true, false}
use Rattle.std.specs.Str.{bytes_eq}
use Rattle.std.specs.FinMap as fin
use Rattle.std.specs.declared.vec.Vec.{Vec}
use Rattle.std.specs.declared.alloc.Global.{Global}
use Rattle.apex_base.specs.Tables.{NameMap}
use Rattle.row_codec.specs.declared.batch.Row.{Row}

-- what becomes of keys: a value, or none
abbrev pub ChangeMap : Type 0
ChangeMap = NameMap (Option (List ℕ))

-- the changes that a `BTreeMap` holds
abbrev pub changes_in : List (Vec ℕ Global × Option (List ℕ)) → ChangeMap
changes_in entries = fin.from_entries (map (λ entry. (entry.0.items, entry.1)) entries)

abbrev pub change_of : List ℕ × Option (List ℕ) → Row
change_of entry = record { key = entry.0; value = entry.1 }

-- the changes, ascending by key
abbrev pub listed : ChangeMap → List Row
listed changes = map change_of (fin.entries changes)

-- the same value, or none both times
abbrev pub is_same : Option (List ℕ) → Option (List ℕ) → Bool
is_same None None = true
is_same None (Some b) = false
is_same (Some a) None = false
is_same (Some a) (Some b) = bytes_eq a b

-- what leads from one value of a key to another, if they differ
abbrev pub change_to : Option (List ℕ) → Option (List ℕ) → Option (Option (List ℕ))
change_to before after = if is_same before after then None else Some after
