-- When each refusal of a store comes, and what opening leaves: docs/formats/batches.md, "A store".
use Rattle.std.specs.Prelude.{◌≡◌, ◌≢◌, ◌⊎◌, ◌≤◌, ◌<◌, ◌-◌, ◌^◌, ℕ, List, Option, None, Result, Ok, Err}
use Rattle.apex_base.specs.declared.numbers.Scale.{Scale}
use Rattle.apex_base.specs.Numbers.{scale_number, scale_device_len}
use Rattle.apex_base.specs.Causes.{Rose}
use Rattle.apex_journal.specs.Journal.{IsBlank, Told}
use Rattle.apex_journal.specs.Refusals.{IsWrongAt, IsOfScale, IsDamaged}
use Rattle.row_store.specs.declared.why.StoreWhy.{StoreWhy}
use Rattle.row_store.specs.declared.why.StoreWhy.TheVariants.{Small, NotAStore, ScaleDiffers, Damaged, BadRows, DiskFault, NoMemory}
use Rattle.row_store.specs.declared.reading.Found.{Found}
use Rattle.row_store.specs.declared.reading.ReadWhy.{ReadWhy}
use Rattle.row_store.specs.declared.reading.ReadWhy.TheVariants.{BadBatch, OutOfMemory}
use Rattle.row_store.specs.Rows.{held_from, nothing}
use Rattle.row_store.specs.Store.{HasBadBatch, StoresOrBlank}

-- Why a device of that length isn't opened, by the bytes that are known. The refusals exclude one another.
abbrev pub WhyRefused : Scale → ℕ → Option (List ℕ) → StoreWhy → Type 0
WhyRefused scale len reads (Small found need) = (found ≡ len) × (need ≡ scale_device_len scale) × (len < need)
WhyRefused scale len reads (NotAStore offset byte) =
    (scale_device_len scale ≤ len) × Told reads (λ file. IsWrongAt file offset byte)
WhyRefused scale len reads (ScaleDiffers found wanted) =
    (scale_device_len scale ≤ len) × (wanted ≡ scale_number scale) × (found ≢ wanted)
    × Told reads (λ file. IsOfScale file found)
WhyRefused scale len reads (Damaged offset) =
    (scale_device_len scale ≤ len) × Told reads (λ file. IsDamaged scale file offset ⊎ HasBadBatch scale file offset)
WhyRefused scale len reads (BadRows tag) = ⊥
WhyRefused scale len reads DiskFault = scale_device_len scale ≤ len
WhyRefused scale len reads NoMemory = scale_device_len scale ≤ len

-- the count of faults rose if and only if the device is named
abbrev pub CountsFault : ℕ → ℕ → StoreWhy → Type 0
CountsFault before now (Small found need) = before ≡ now
CountsFault before now (NotAStore offset byte) = before ≡ now
CountsFault before now (ScaleDiffers found wanted) = before ≡ now
CountsFault before now (Damaged offset) = before ≡ now
CountsFault before now (BadRows tag) = before ≡ now
CountsFault before now DiskFault = Rose before now
CountsFault before now NoMemory = before ≡ now

-- the device was judged, and so nothing was written
abbrev pub IsJudged : StoreWhy → Type 0
IsJudged (Small found need) = Unit {0}
IsJudged (NotAStore offset byte) = Unit {0}
IsJudged (ScaleDiffers found wanted) = Unit {0}
IsJudged (Damaged offset) = Unit {0}
IsJudged (BadRows tag) = Unit {0}
IsJudged DiskFault = ⊥
IsJudged NoMemory = ⊥

-- what a crash at a moment of opening may leave: what it might have left before, or of a blank device an empty store
abbrev pub MayOpen : (List ℕ → Type 0) → Option (List ℕ) → Scale → List ℕ → Type 0
MayOpen images reads scale file = images file ⊎ (Told reads IsBlank × StoresOrBlank scale file nothing)

-- what the records come to, or where the first bad one stands
abbrev pub AreRead : List (List ℕ) → Result Found ReadWhy → Type 0
AreRead records (Ok found) = held_from None records ≡ Ok (record { rows = found.rows; seq = found.seq })
AreRead records (Err (BadBatch at)) = (held_from None records ≡ Err at) × (at < 2 ^ 32)
AreRead records (Err OutOfMemory) = Unit {0}

-- refusals that the records of a half show
abbrev pub IsBadAmong : List (List ℕ) → StoreWhy → Type 0
IsBadAmong records (Small found need) = ⊥
IsBadAmong records (NotAStore offset byte) = ⊥
IsBadAmong records (ScaleDiffers found wanted) = ⊥
IsBadAmong records (Damaged offset) = (4096 ≤ offset) × (held_from None records ≡ Err (offset - 4096))
IsBadAmong records (BadRows tag) = ⊥
IsBadAmong records DiskFault = ⊥
IsBadAmong records NoMemory = Unit {0}

-- refusals of formatting a device that is long enough
abbrev pub IsFormatWhy : StoreWhy → Type 0
IsFormatWhy (Small found need) = ⊥
IsFormatWhy (NotAStore offset byte) = ⊥
IsFormatWhy (ScaleDiffers found wanted) = ⊥
IsFormatWhy (Damaged offset) = ⊥
IsFormatWhy (BadRows tag) = ⊥
IsFormatWhy DiskFault = Unit {0}
IsFormatWhy NoMemory = Unit {0}
