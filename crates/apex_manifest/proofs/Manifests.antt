-- The manifest that bytes are, by what the reader of JSON tells.
use Rattle.std.specs.Prelude.{◌≡◌, ℕ, List, Bool, true, false, Some, None, Err, IsUtf8}
use Rattle.std.proofs.Common.{refl}
use Rattle.std.specs.Str.{is_utf8}
use Rattle.std.proofs.lemmas.Str.{IsUtf8-from_is_utf8, is_utf8-from_IsUtf8}
use Rattle.serde_json.specs.Data.{Data}
use Rattle.serde_json.specs.Read.{read}
use Rattle.apex_base.specs.declared.fault.ModuleFault.TheVariants.{NotJson}
use Rattle.apex_manifest.specs.Manifest.{manifest_from, manifest_of}

-- bytes that are read as a value
pub manifest_of-read : (bytes : List ℕ) (value : Data) → IsUtf8 bytes → read bytes ≡ Some value
    → manifest_of bytes ≡ manifest_from value
manifest_of-read bytes value utf8 is = rw (is_utf8-from_IsUtf8 bytes utf8, is) refl

by_test : (bytes : List ℕ) (b : Bool) → is_utf8 bytes ≡ b → (IsUtf8 bytes → read bytes ≡ None)
    → manifest_of bytes ≡ Err NotJson
by_test bytes true e none = rw (e, none (IsUtf8-from_is_utf8 bytes e)) refl
by_test bytes false e none = rw e refl

-- bytes that are refused
pub manifest_of-refused : (bytes : List ℕ) → (IsUtf8 bytes → read bytes ≡ None) → manifest_of bytes ≡ Err NotJson
manifest_of-refused bytes none = by_test bytes (is_utf8 bytes) refl none
