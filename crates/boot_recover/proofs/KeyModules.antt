-- Modules that have a key and no other file. Callers want `no_key`, `one_key` and `more_ok`.
use Rattle.std.proofs.Common.{◌≡◌, ℕ, List, Some, None, Result, Ok, Err, ap, ◌∙◌, refl, codes}
use Rattle.std.specs.Prelude.{IfOk}
use Rattle.std.specs.Cmp.Lexicographic.{slice_cmp}
use Rattle.std.specs.Ordering.{nat_cmp}
use Rattle.std.specs.FinMap as fin
use Rattle.std.specs.FinMap.{get-empty}
use Rattle.apex_base.specs.Modules.{FileMap}
use Rattle.apex_world.specs.Soundness.{key_of}
use Rattle.row_map.proofs.Maps.{at_insert}

-- what holds of a result's value holds of it by what follows
pub more_ok : {X Y : Type 0} (P Q : X → Type 0) (r : Result X Y) → IfOk r P → ((x : X) → P x → Q x) → IfOk r Q
more_ok P Q (Ok x) h f = f x h
more_ok P Q (Err y) h f = h

-- without files there is no key
pub no_key : (m : FileMap) → m ≡ fin.empty → key_of m ≡ None
no_key m e = ap key_of e ∙ get-empty (slice_cmp nat_cmp) (codes "apex_pubkey")

-- the file is the key
pub one_key : (m : FileMap) (bytes : List ℕ) → m ≡ fin.insert fin.empty (codes "apex_pubkey") bytes
    → key_of m ≡ Some bytes
one_key m bytes e = ap key_of e ∙ at_insert fin.empty (codes "apex_pubkey") bytes (codes "apex_pubkey")
    ∙ refl
