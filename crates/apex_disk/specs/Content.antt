-- The bytes of a disk in memory: the newest, those of the last sync, and the ranges in which they may differ.
use Rattle.std.specs.Prelude.{◌≡◌, ◌⊎◌, ◌≤◌, ◌<◌, ◌+◌, ℕ, List, [], ◌∷◌, length, get_or}
use Rattle.apex_disk.specs.declared.content.Range.{Range}
use Rattle.apex_disk.specs.declared.content.Content.{Content}

abbrev pub Inside : Range → ℕ → Type 0
Inside range k = (range.at ≤ k) × (k < range.at + range.len)

-- an offset lies in one of the ranges
abbrev pub Covered : List Range → ℕ → Type 0
Covered [] k = ⊥
Covered (range ∷ ranges) k = Inside range k ⊎ Covered ranges k

-- bytes that differ from the synced ones in these ranges alone
pub record Agrees (synced : List ℕ) (ranges : List Range) (bytes : List ℕ) : Type 0 where
  pub long : length bytes ≡ length synced
  pub others : (k : ℕ) → (Covered ranges k → ⊥) → get_or bytes k 0 ≡ get_or synced k 0

abbrev pub Within : ℕ → List Range → Type 0
Within n [] = Unit {0}
Within n (range ∷ ranges) = (range.at + range.len ≤ n) × Within n ranges

pub record IsSound (content : Content) : Type 0 where
  pub agrees : Agrees content.synced.items content.pending.items content.bytes.items
  pub within : Within (length content.bytes.items) content.pending.items

-- what a crash may leave: the newest bytes, or the synced ones with any bytes in the pending ranges
abbrev pub MayLeave : Content → List ℕ → Type 0
MayLeave content c =
    (length c ≡ length content.bytes.items)
    × ((c ≡ content.bytes.items) ⊎ Agrees content.synced.items content.pending.items c)
