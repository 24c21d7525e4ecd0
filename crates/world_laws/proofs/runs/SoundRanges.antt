-- A sound module has a name and a version in range. Callers want `checked_ranges` and `then_ok`.
use Rattle.std.proofs.Common.{◌≡◌, ℕ, IsTrue, List, Option, Some, None, Result, Ok, Err, subst, refl}
use Rattle.std.specs.Prelude.{codes}
use Rattle.std.specs.FinMap as fin
use Rattle.apex_base.specs.declared.fault.ModuleFault.{ModuleFault}
use Rattle.apex_base.specs.Modules.{FileMap}
use Rattle.apex_base.specs.Ranges.{IsVersion}
use Rattle.apex_base.specs.Results.{◌>>=◌}
use Rattle.apex_base.specs.Text.{is_name}
use Rattle.apex_manifest.specs.declared.manifest.Manifest.{Manifest}
use Rattle.apex_manifest.proofs.ManifestRanges.{manifest_ranges}
use Rattle.module_digest.specs.Faults.{listing_fault}
use Rattle.apex_world.specs.Soundness.{manifest_at, manifest_in, unless, checked}

-- where two steps succeed, the first does
pub then_ok : {A B E : Type 0} (o : Result A E) (f : A → Result B E) (y : B) → (o >>= f) ≡ Ok y
    → (x : A) × (o ≡ Ok x) × (f x ≡ Ok y)
then_ok (Ok x) f y e = (x, refl, e)
then_ok (Err fault) f y e = absurd (cc)

-- a name and a version in range
abbrev InRange : Manifest → Type 0
InRange manifest = IsTrue (is_name manifest.name) × IsVersion manifest.version

-- a manifest that is there is in range
at_range : (o : Option (List ℕ)) (manifest : Manifest) → manifest_at o ≡ Ok manifest → InRange manifest
at_range None manifest e = absurd (cc)
at_range (Some bytes) manifest e = manifest_ranges bytes manifest e

-- a module without a fault says what its manifest says
unless_if : (o : Option ModuleFault) (x manifest : Manifest) → unless o x ≡ Ok manifest → x ≡ manifest
unless_if None x manifest e = cc
unless_if (Some fault) x manifest e = absurd (cc)

-- the name and the version of a sound module are in range
pub checked_ranges : (m : FileMap) (manifest : Manifest) → checked m ≡ Ok manifest
    → IsTrue (is_name manifest.name) × IsVersion manifest.version
checked_ranges m manifest e =
    let (x, a, f) = then_ok (manifest_in m) (unless (listing_fault m)) manifest e in
    subst InRange (unless_if (listing_fault m) x manifest f)
    (at_range (fin.get m (codes "apex_manifest.json")) x a)
