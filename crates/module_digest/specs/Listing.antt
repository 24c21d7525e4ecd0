-- The listing that a module should have: docs/formats/module.md.
use Rattle.std.specs.Prelude.{ℕ, ◌&&◌, Bool, not, nat_le, Option, Some, None, if◌then◌else◌, List, [], ◌∷◌, ◌++◌}
use Rattle.std.specs.Prelude.{filter, flat_map, codes}
use Rattle.std.specs.Str.{bytes_eq}
use Rattle.std.specs.FinMap as fin
use Rattle.apex_base.specs.Modules.{FileMap}
use Rattle.apex_base.specs.declared.module.PutWhy.{PutWhy}
use Rattle.apex_base.specs.declared.module.PutWhy.TheVariants.{Files}
use Rattle.sha2.specs.Sha256.{sha256}
use Rattle.hex.specs.Hex.{encode_lower}

-- the path of the listing
abbrev pub is_own_path : List ℕ → Bool
is_own_path path = bytes_eq path (codes "apex_digests")

-- the files that it has to name, ascending by path: all but itself
abbrev pub listed_files : FileMap → List (List ℕ × List ℕ)
listed_files m = filter (λ f. not (is_own_path f.0)) (fin.entries m)

-- a file's line: the digest of its content in hexadecimal, a space, its path and a line feed
unfoldable pub listing_line : List ℕ × List ℕ → List ℕ
listing_line f = encode_lower (sha256 f.1) ++ 32 ∷ f.0 ++ 10 ∷ []

-- a listing is the lines of these files
abbrev pub listing : FileMap → List ℕ
listing m = flat_map listing_line (listed_files m)

-- the module with that listing
abbrev pub sealed : FileMap → FileMap
sealed m = fin.insert m (codes "apex_digests") (listing m)

-- why a module can't be sealed: its listing would be the 65th file
abbrev pub seal_fault : FileMap → Option PutWhy
seal_fault m = if not (fin.contains_key m (codes "apex_digests")) && nat_le 64 (fin.len m) then Some Files else None
