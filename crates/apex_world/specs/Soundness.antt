-- What is wrong with a module: docs/formats/module.md (AOSP's page on the APEX file format; the listing is ours).
use Rattle.std.specs.Prelude.{ℕ, Bool, true, false, List, codes, Option, Some, None, Result, Ok, Err, is_ok}
use Rattle.std.specs.Str.{bytes_eq}
use Rattle.std.specs.FinMap as fin
use Rattle.apex_base.specs.declared.fault.ModuleFault.{ModuleFault}
use Rattle.apex_base.specs.declared.fault.ModuleFault.TheVariants.{NoManifest}
use Rattle.apex_base.specs.Modules.{FileMap}
use Rattle.apex_base.specs.Results.{◌>>=◌}
use Rattle.apex_manifest.specs.declared.manifest.Manifest.{Manifest}
use Rattle.apex_manifest.specs.Manifest.{manifest_of, short_manifest}
use Rattle.module_digest.specs.Faults.{listing_fault}
use Rattle.module_digest.specs.Listing.{sealed}

abbrev pub manifest_at : Option (List ℕ) → Result Manifest ModuleFault
manifest_at None = Err NoManifest
manifest_at (Some bytes) = manifest_of bytes

-- what a module's manifest says, or what is wrong with it
abbrev pub manifest_in : FileMap → Result Manifest ModuleFault
manifest_in m = manifest_at (fin.get m (codes "apex_manifest.json"))

-- nothing, or a fault
abbrev pub unless : Option ModuleFault → Manifest → Result Manifest ModuleFault
unless None manifest = Ok manifest
unless (Some fault) manifest = Err fault

-- what a sound module's manifest says, or the module's first fault
abbrev pub checked : FileMap → Result Manifest ModuleFault
checked m = manifest_in m >>= unless (listing_fault m)

-- a module without a fault
abbrev pub is_sound : FileMap → Bool
is_sound m = is_ok (checked m)

-- a module's key: the bytes of its file, if it has one
abbrev pub key_of : FileMap → Option (List ℕ)
key_of m = fin.get m (codes "apex_pubkey")

abbrev pub is_same_key_at : Option (List ℕ) → Option (List ℕ) → Bool
is_same_key_at None None = true
is_same_key_at None (Some b) = false
is_same_key_at (Some a) None = false
is_same_key_at (Some a) (Some b) = bytes_eq a b

-- two modules have one key, or none has any
abbrev pub is_same_key : FileMap → FileMap → Bool
is_same_key a b = is_same_key_at (key_of a) (key_of b)

-- the module of the short form: a manifest and its listing
abbrev pub short_form : List ℕ → ℕ → FileMap
short_form name version = sealed (fin.insert fin.empty (codes "apex_manifest.json") (short_manifest name version))
