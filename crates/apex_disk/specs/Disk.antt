-- What a disk tells, and what a crash may leave of it: docs/device.md.
use Rattle.std.specs.Prelude.{◌≡◌, ◌⊎◌, ℕ, ◌+◌, ◌≤◌, List, ◌++◌, length, take, drop, Option, Some, None, Result, OnErr, OnOk}
use Rattle.apex_base.specs.Causes.{Rose}

-- the file with these bytes at this offset
abbrev pub written : ℕ → List ℕ → List ℕ → List ℕ
written at bytes file = take at file ++ bytes ++ drop (at + length bytes) file

-- n bytes at this offset may have become any, and all others are as they were
pub record Torn (at n : ℕ) (old new : List ℕ) : Type 0 where
  pub bytes : List ℕ
  pub size : length bytes ≡ n
  pub is : new ≡ written at bytes old

-- what reads give after a write that failed: torn, where they are known
abbrev pub TornReads : ℕ → ℕ → Option (List ℕ) → Option (List ℕ) → Type 0
TornReads at n None new = new ≡ None
TornReads at n (Some file) new = (now : List ℕ) × (new ≡ Some now) × Torn at n file now

-- a crash may leave the same as before
pub record SameImages (old new : List ℕ → Type 0) : Type 0 where
  pub fewer : (c : List ℕ) → new c → old c
  pub all : (c : List ℕ) → old c → new c

-- a crash may leave nothing that it couldn't leave before
abbrev pub FewerImages : (List ℕ → Type 0) → (List ℕ → Type 0) → Type 0
FewerImages old new = (c : List ℕ) → new c → old c

-- what a crash may leave is what it could leave before, after such a step
abbrev pub Follows : (List ℕ → List ℕ → Type 0) → (List ℕ → Type 0) → (List ℕ → Type 0) → Type 0
Follows step old new = (c : List ℕ) → new c → (d : List ℕ) × old d × step d c

-- a crash leaves what reads give, and nothing else
abbrev pub IsSettled : (List ℕ → Type 0) → Option (List ℕ) → Type 0
IsSettled images reads = (c : List ℕ) → images c → reads ≡ Some c

-- the power came back to one of the images, where reads are known
abbrev pub GivesOneImage : (List ℕ → Type 0) → Option (List ℕ) → Option (List ℕ) → Type 0
GivesOneImage images None new = new ≡ None
GivesOneImage images (Some file) new = (image : List ℕ) × images image × (new ≡ Some image)

-- Time went on: a crash since a moment may have left what it might have left before, or what it may leave now.
pub record Elapses (before now : ℕ) (past since : ℕ → List ℕ → Type 0) (images : List ℕ → Type 0) : Type 0 where
  pub later : before ≤ now
  pub nothing_else : (t : ℕ) (c : List ℕ) → t ≤ before → since t c → past t c ⊎ images c
  pub keeps : (t : ℕ) (c : List ℕ) → t ≤ before → past t c → since t c

-- The count rose where the call failed, and only there. A count at its last value counts as risen.
pub record CountsFaults {T E : Type 0} (before now : ℕ) (result : Result T E) : Type 0 where
  pub later : before ≤ now
  pub failed : OnErr result (Rose before now)
  pub only : OnOk result (before ≡ now)

-- a disk that is gone stays gone, and no call of it succeeds
pub record StaysGone {T E : Type 0} (old new : Type 0) (result : Result T E) : Type 0 where
  pub stays : old → new
  pub fails : old → OnOk result ⊥

-- at most so many calls and bytes were taken of what was reserved
pub record Takes (calls bytes old_calls old_bytes new_calls new_bytes : ℕ) : Type 0 where
  pub calls_left : old_calls ≤ new_calls + calls
  pub bytes_left : old_bytes ≤ new_bytes + bytes
