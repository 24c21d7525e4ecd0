-- What the bytes of a device stand for: docs/formats/journal.md.
use Rattle.std.specs.Prelude.{◌≡◌, ◌≢◌, ◌⊎◌, ◌≤◌, ◌<◌, ◌+◌, ◌*◌, ◌^◌, ℕ, List, [], ◌∷◌, ◌++◌, length, take, drop, get_or, Option, Some}
use Rattle.apex_base.specs.declared.numbers.Scale.{Scale}
use Rattle.apex_base.specs.declared.numbers.Scale.TheVariants.{Small, Standard}
use Rattle.apex_base.specs.Numbers.{scale_number}
use Rattle.apex_disk.specs.Disk.{IsSettled}
use Rattle.apex_journal.specs.Records.{blocks}

-- how many bytes a half has
abbrev pub half_len : Scale → ℕ
half_len Small = 524288
half_len Standard = 33554432

-- an open gate, APEXPLAY and the format: the first ten bytes of every store
abbrev pub mark : List ℕ
mark = 1 ∷ 65 ∷ 80 ∷ 69 ∷ 88 ∷ 80 ∷ 76 ∷ 65 ∷ 89 ∷ 1 ∷ []

-- the first eleven bytes of a store of that scale
abbrev pub heading : Scale → List ℕ
heading scale = mark ++ scale_number scale ∷ []

abbrev pub IsBlank : List ℕ → Type 0
IsBlank file = get_or file 0 0 ≢ 1

-- where the half in use begins; so far it is always the first
abbrev pub start_of : List ℕ → ℕ
start_of file = 4096

-- the bytes of the half in use
abbrev pub half_of : Scale → List ℕ → List ℕ
half_of scale file = take (half_len scale) (drop (start_of file) file)

-- the bytes that reads give, where they are known, have P
abbrev pub Told : Option (List ℕ) → (List ℕ → Type 0) → Type 0
Told reads P = (file : List ℕ) → reads ≡ Some file → P file

-- the file is a store of that scale, and these are its records
pub record Opens (scale : Scale) (file : List ℕ) (records : List (List ℕ)) : Type 0 where
  pub head : List ℕ
  pub gate : ℕ
  pub rest : List ℕ
  pub is : file ≡ head ++ (blocks records ++ gate ∷ rest)
  pub starts : length head ≡ start_of file
  pub headed : take 11 head ≡ heading scale
  pub closed : gate ≢ 1
  pub within : length (blocks records) + 1 ≤ half_len scale

-- what contracts see of a journal: its device, its scale, where the half in use starts, and how many of its bytes are
-- used
pub record Seen (D : Type 0) : Type 0 where
  pub device : D
  pub scale : Scale
  pub start : ℕ
  pub used : ℕ

-- the half in use lies on the device, and its used bytes in the half
pub record IsInside (len : ℕ) (scale : Scale) (start used : ℕ) : Type 0 where
  pub some : 1 ≤ used
  pub within : used ≤ half_len scale
  pub starts : start ≡ 4096
  pub small : half_len scale < 2 ^ 32
  pub long : 4096 + 2 * half_len scale ≤ len

-- the journal's device has these records, of what it tells, and a crash leaves them
pub record Stands {D : Type 0} (reads : D → Option (List ℕ)) (images : D → List ℕ
    → Type 0) (journal : Seen D) (records : List (List ℕ)) : Type 0 where
  pub opens : Told (reads journal.device) (λ file. Opens journal.scale file records)
  pub starts : Told (reads journal.device) (λ file. journal.start ≡ start_of file)
  pub counts : Told (reads journal.device) (λ file. journal.used ≡ length (blocks records) + 1)
  pub settled : IsSettled (images journal.device) (reads journal.device)

-- the file has these records, or these and one more
abbrev pub WithOrWithout : Scale → List (List ℕ) → List ℕ → List ℕ → Type 0
WithOrWithout scale records piece file = Opens scale file records ⊎ Opens scale file (records ++ piece ∷ [])

-- the file is blank, or a store without records
abbrev pub BlankOrEmpty : Scale → List ℕ → Type 0
BlankOrEmpty scale file = IsBlank file ⊎ Opens scale file []
