-- When each refusal of a journal comes: docs/formats/journal.md, "Refusals".
use Rattle.std.specs.Prelude.{◌≡◌, ◌≢◌, ◌⊎◌, ◌≤◌, ◌<◌, ◌-◌, ℕ, List, take, get_or, Option, None, IsSome}
use Rattle.apex_base.specs.declared.numbers.Scale.{Scale}
use Rattle.apex_base.specs.Numbers.{scale_number, scale_of_number, scale_device_len}
use Rattle.apex_base.specs.Causes.{Rose}
use Rattle.apex_journal.specs.declared.why.JournalWhy.{JournalWhy}
use Rattle.apex_journal.specs.declared.why.JournalWhy.TheVariants.{Small, Blank, NotAStore, ScaleDiffers, Damaged, DiskFault, NoMemory}
use Rattle.apex_journal.specs.Records.{IsDamagedAt}
use Rattle.apex_journal.specs.Journal.{mark, heading, start_of, half_of, IsBlank, Told}

-- the first byte by which a file with an open gate is no store of any scale
pub record IsWrongAt (file : List ℕ) (offset byte : ℕ) : Type 0 where
  pub behind_the_gate : 1 ≤ offset
  pub before : take offset file ≡ take offset mark
  pub here : get_or file offset 0 ≡ byte
  pub wrong : ((offset < 10) × (byte ≢ get_or mark offset 0)) ⊎ ((offset ≡ 10) × (scale_of_number byte ≡ None))

-- a store of the scale of that number
pub record IsOfScale (file : List ℕ) (number : ℕ) : Type 0 where
  pub named : take 10 file ≡ mark
  pub here : get_or file 10 0 ≡ number
  pub known : IsSome (scale_of_number number)

-- a store of that scale, whose half in use is damaged at this offset of the device
pub record IsDamaged (scale : Scale) (file : List ℕ) (offset : ℕ) : Type 0 where
  pub headed : take 11 file ≡ heading scale
  pub inside : start_of file ≤ offset
  pub here : IsDamagedAt (half_of scale file) (offset - start_of file)

-- Why a device of that length isn't opened, by what it tells. The refusals exclude one another.
abbrev pub WhyClosed : Scale → ℕ → Option (List ℕ) → JournalWhy → Type 0
WhyClosed scale len reads (Small found need) = (found ≡ len) × (need ≡ scale_device_len scale) × (len < need)
WhyClosed scale len reads Blank = (scale_device_len scale ≤ len) × Told reads IsBlank
WhyClosed scale len reads (NotAStore offset byte) =
    (scale_device_len scale ≤ len) × Told reads (λ file. IsWrongAt file offset byte)
WhyClosed scale len reads (ScaleDiffers found wanted) =
    (scale_device_len scale ≤ len) × (wanted ≡ scale_number scale) × (found ≢ wanted)
    × Told reads (λ file. IsOfScale file found)
WhyClosed scale len reads (Damaged offset) =
    (scale_device_len scale ≤ len) × Told reads (λ file. IsDamaged scale file offset)
WhyClosed scale len reads DiskFault = scale_device_len scale ≤ len
WhyClosed scale len reads NoMemory = scale_device_len scale ≤ len

-- the count of faults rose if and only if the device is named
abbrev pub CountsFault : ℕ → ℕ → JournalWhy → Type 0
CountsFault before now (Small found need) = before ≡ now
CountsFault before now Blank = before ≡ now
CountsFault before now (NotAStore offset byte) = before ≡ now
CountsFault before now (ScaleDiffers found wanted) = before ≡ now
CountsFault before now (Damaged offset) = before ≡ now
CountsFault before now DiskFault = Rose before now
CountsFault before now NoMemory = before ≡ now

-- formatting is refused for length, memory and faults alone
abbrev pub WhyUnformatted : Scale → ℕ → JournalWhy → Type 0
WhyUnformatted scale len (Small found need) = (found ≡ len) × (need ≡ scale_device_len scale) × (len < need)
WhyUnformatted scale len Blank = ⊥
WhyUnformatted scale len (NotAStore offset byte) = ⊥
WhyUnformatted scale len (ScaleDiffers found wanted) = ⊥
WhyUnformatted scale len (Damaged offset) = ⊥
WhyUnformatted scale len DiskFault = scale_device_len scale ≤ len
WhyUnformatted scale len NoMemory = scale_device_len scale ≤ len
