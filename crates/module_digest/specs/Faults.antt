-- Why a module isn't as its listing says: docs/formats/module.md.
use Rattle.std.specs.Prelude.{ℕ, Bool, List, [], ◌∷◌, codes, Option, Some, None, option_map, option_and_then}
use Rattle.std.specs.Prelude.{if◌then◌else◌}
use Rattle.std.specs.Option.{option_or}
use Rattle.std.specs.List.{list_any}
use Rattle.std.specs.Str.{bytes_eq}
use Rattle.std.specs.FinMap as fin
use Rattle.apex_base.specs.Modules.{FileMap}
use Rattle.apex_base.specs.declared.fault.ModuleFault.{ModuleFault}
use Rattle.apex_base.specs.declared.fault.ModuleFault.TheVariants.{NoListing, BadListing, Unlisted, Absent, Differs}
use Rattle.sha2.specs.Sha256.{sha256}
use Rattle.module_digest.specs.Listing.{listed_files}
use Rattle.module_digest.specs.Lines.{bad_line, entries}
use Rattle.module_digest.specs.declared.lines.Entry.{Entry}

-- a line names the path
abbrev pub is_listed : List Entry → List ℕ → Bool
is_listed es path = list_any (λ e. bytes_eq path e.path) es

-- a file that no line names
abbrev pub unlisted : List Entry → List ℕ × List ℕ → Option ModuleFault
unlisted es f = if is_listed es f.0 then None else Some (Unlisted f.0)

-- a line that names no file
abbrev pub absent : FileMap → Entry → Option ModuleFault
absent m e = if fin.contains_key m e.path then None else Some (Absent e.path)

-- a line whose file has another digest
abbrev pub differs : FileMap → Entry → Option ModuleFault
differs m e = option_and_then (λ content.
    if bytes_eq (sha256 content) e.digest then None else Some (Differs e.path e.digest (sha256 content)))
    (fin.get m e.path)

-- the fault of the first of these that has one
abbrev pub first_fault : {X : Type 0} → (X → Option ModuleFault) → List X → Option ModuleFault
first_fault fault [] = None
first_fault fault (x ∷ xs) = option_or (fault x) (first_fault fault xs)

-- a file that no line names comes before a line that names no file, and that before another digest
abbrev pub entries_fault : FileMap → List Entry → Option ModuleFault
entries_fault m es =
    option_or (first_fault (unlisted es) (listed_files m))
    (option_or (first_fault (absent m) es)
    (first_fault (differs m) es))

-- a bad line comes before these
abbrev pub text_fault : FileMap → List ℕ → Option ModuleFault
text_fault m text = option_or (option_map BadListing (bad_line text)) (entries_fault m (entries text))

-- and that there is no listing comes before all
abbrev pub fault_of : FileMap → Option (List ℕ) → Option ModuleFault
fault_of m None = Some NoListing
fault_of m (Some text) = text_fault m text

-- the first fault of a module and its listing
abbrev pub listing_fault : FileMap → Option ModuleFault
listing_fault m = fault_of m (fin.get m (codes "apex_digests"))
