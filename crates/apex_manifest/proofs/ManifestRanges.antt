-- A manifest that was read has a name and a version in range. Callers want `manifest_ranges`.
use Rattle.std.proofs.Common.{◌≡◌, ℕ, ◌&&◌, IsTrue, List, Option, Some, None, Result, Ok, leb}
use Rattle.std.proofs.Common.{subst, refl}
use Rattle.std.specs.Prelude.{ok_or, codes, option_and_then}
use Rattle.std.proofs.lemmas.Bool.{and_parts, leb-true}
use Rattle.serde_json.specs.Data.{Data, Members}
use Rattle.serde_json.specs.Find.{get_member, as_object, as_str, as_number, as_u64}
use Rattle.apex_base.specs.declared.fault.ModuleFault.{ModuleFault}
use Rattle.apex_base.specs.declared.fault.ModuleFault.TheVariants.{NotJson, NoName, BadName, NoVersion, BadVersion}
use Rattle.apex_base.specs.Numbers.{version_of}
use Rattle.apex_base.specs.Ranges.{IsVersion}
use Rattle.apex_base.specs.Results.{◌>>=◌}
use Rattle.apex_base.specs.Text.{is_name, name_of}
use Rattle.apex_base.proofs.Finding.{some_then, some_if}
use Rattle.apex_manifest.specs.declared.manifest.Manifest.{Manifest}
use Rattle.apex_manifest.specs.Manifest.{json_of, name_in, version_in, manifest_from, manifest_of}

some_ok : {A B E : Type 0} (o : Option A) (fault : E) (f : A → Result B E) (y : B) → (ok_or o fault >>= f) ≡ Ok y
    → (x : A) × (o ≡ Some x) × (f x ≡ Ok y)
some_ok (Some x) fault f y e = (x, refl, e)
some_ok None fault f y e = absurd (cc)

name_range : (member : Data) (name : List ℕ) → name_in member ≡ Some name → IsTrue (is_name name)
name_range member name e =
    let (text, f, g) = some_then name_of (as_str member) name e in
    let (is, same) = some_if (is_name text) (Some text) name g in
    let one : text ≡ name = cc in
    subst (λ (n : List ℕ). IsTrue (is_name n)) one is

version_range : (member : Data) (version : ℕ) → version_in member ≡ Some version → IsVersion version
version_range member version e =
    let (n, f, g) = some_then version_of (option_and_then as_u64 (as_number member)) version e in
    let (is, same) = some_if (leb 1 n && leb n 9223372036854775807) (Some n) version g in
    let one : n ≡ version = cc in
    let (low, high) = and_parts (leb 1 n) (leb n 9223372036854775807) is in
    subst IsVersion one (leb-true 1 n low, leb-true n 9223372036854775807 high)

abbrev InRange : Manifest → Type 0
InRange manifest = IsTrue (is_name manifest.name) × IsVersion manifest.version

abbrev with_version : List ℕ → Data → Result Manifest ModuleFault
with_version name member = ok_or (version_in member) BadVersion >>= λ version. Ok (record {
  name = name;
  version = version;
})

abbrev with_name : Members → List ℕ → Result Manifest ModuleFault
with_name members name = ok_or (get_member (codes "version") members) NoVersion >>= with_version name

abbrev of_name : Members → Data → Result Manifest ModuleFault
of_name members member = ok_or (name_in member) BadName >>= with_name members

abbrev of_members : Members → Result Manifest ModuleFault
of_members members = ok_or (get_member (codes "name") members) NoName >>= of_name members

from_range : (value : Data) (manifest : Manifest) → manifest_from value ≡ Ok manifest → InRange manifest
from_range value manifest e =
    let (members, a, e1) = some_ok (as_object value) NotJson of_members manifest e in
    let (member, b, e2) = some_ok (get_member (codes "name") members) NoName (of_name members) manifest e1 in
    let (name, c, e3) = some_ok (name_in member) BadName (with_name members) manifest e2 in
    let (other, d, e4) = some_ok (get_member (codes "version") members) NoVersion (with_version name) manifest e3 in
    let (version, f, e5) = some_ok (version_in other) BadVersion (λ version. Ok (record {
      name = name;
      version = version;
    })) manifest e4 in
    let same : ◌≡◌ {A = Manifest} (record { name = name; version = version }) manifest = cc in
    subst InRange same (name_range member name c, version_range other version f)

-- the name and the version that are read are in range
pub manifest_ranges : (bytes : List ℕ) (manifest : Manifest) → manifest_of bytes ≡ Ok manifest
    → IsTrue (is_name manifest.name) × IsVersion manifest.version
manifest_ranges bytes manifest e =
    let (value, a, f) = some_ok (json_of bytes) NotJson manifest_from manifest e in from_range value manifest f
