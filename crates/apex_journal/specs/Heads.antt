-- What the first bytes of a device tell of its refusal.
use Rattle.std.specs.Prelude.{◌≡◌, ◌≢◌, ◌≤◌, ◌<◌, ◌-◌, ℕ, List, length, take, get_or, Option}
use Rattle.apex_base.specs.declared.numbers.Scale.{Scale}
use Rattle.apex_base.specs.Numbers.{scale_number}
use Rattle.apex_journal.specs.declared.why.JournalWhy.{JournalWhy}
use Rattle.apex_journal.specs.declared.why.JournalWhy.TheVariants.{Small, Blank, NotAStore, ScaleDiffers, Damaged, DiskFault, NoMemory}
use Rattle.apex_journal.specs.Journal.{mark, half_of, IsBlank, Told}
use Rattle.apex_journal.specs.Records.{IsDamagedAt}
use Rattle.apex_journal.specs.Refusals.{IsWrongAt, IsOfScale}

-- the first byte that isn't the mark's
pub record IsFirstWrong (head : List ℕ) (offset byte : ℕ) : Type 0 where
  pub within : offset < length mark
  pub before : take offset head ≡ take offset mark
  pub here : get_or head offset 0 ≡ byte
  pub wrong : byte ≢ get_or mark offset 0

-- this refusal is shown by these bytes alone
abbrev pub IsHeadWhy : Scale → List ℕ → JournalWhy → Type 0
IsHeadWhy scale head Blank = IsBlank head
IsHeadWhy scale head (NotAStore offset byte) = IsWrongAt head offset byte
IsHeadWhy scale head (ScaleDiffers found wanted) = (wanted ≡ scale_number scale) × (found ≢ wanted)
    × IsOfScale head found
IsHeadWhy scale head (Small len need) = ⊥
IsHeadWhy scale head (Damaged offset) = ⊥
IsHeadWhy scale head DiskFault = ⊥
IsHeadWhy scale head NoMemory = ⊥

-- this refusal is shown by the half in use, where the heading is right
abbrev pub IsHalfWhy : Scale → Option (List ℕ) → JournalWhy → Type 0
IsHalfWhy scale reads (Damaged offset) = Told reads (λ file. (4096 ≤ offset)
    × IsDamagedAt (half_of scale file) (offset - 4096))
IsHalfWhy scale reads DiskFault = Unit {0}
IsHalfWhy scale reads NoMemory = Unit {0}
IsHalfWhy scale reads (Small len need) = ⊥
IsHalfWhy scale reads Blank = ⊥
IsHalfWhy scale reads (NotAStore offset byte) = ⊥
IsHalfWhy scale reads (ScaleDiffers found wanted) = ⊥
