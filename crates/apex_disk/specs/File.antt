-- A disk over a file, whose bytes nobody tells: docs/device.md, "The disk over a file".
use Rattle.std.specs.Prelude.{◌≡◌, ℕ, List, [], Bool, false, true, None, Some, Result, IsErr, OnErr}
use Rattle.apex_base.specs.declared.outside.Failed.{Failed}
use Rattle.apex_disk.specs.declared.disk.Entry.{Entry}
use Rattle.apex_disk.specs.declared.arm.Arm.{Arm}
use Rattle.apex_disk.specs.declared.arm.Arm.TheVariants.{Off}
use Rattle.apex_disk.specs.Arm.{after_write, has_stopped}

-- what contracts see of it
pub record FileState : Type 0 where
  pub len : ℕ
  pub faults : ℕ
  -- a sync has failed
  pub lost : Bool
  pub arm : Arm
  pub log : List Entry
  pub spare : ℕ

-- no call was made yet
pub record IsOpened (disk : FileState) : Type 0 where
  pub faults : disk.faults ≡ 0
  pub lost : disk.lost ≡ false
  pub arm : disk.arm ≡ Off
  pub log : disk.log ≡ []

-- the cut stands where it stood, and once the power is off the call fails
pub record HeedsCut (old new : FileState) (result : Result (Unit {0}) Failed) : Type 0 where
  pub arm : new.arm ≡ old.arm
  pub stopped : has_stopped old.arm ≡ true → IsErr result

-- the cut counts the write, which fails where the power goes off in it
pub record CountsWrite (old new : FileState) (result : Result (Unit {0}) Failed) : Type 0 where
  pub arm : new.arm ≡ after_write old.arm
  pub stopped : has_stopped (after_write old.arm) ≡ true → IsErr result

-- a sync that the file fails is the last call that does anything
pub record LosesAtFailure (old new : FileState) (result : Result (Unit {0}) Failed) : Type 0 where
  pub arm : new.arm ≡ old.arm
  pub stopped : has_stopped old.arm ≡ true → IsErr result
  pub lost : has_stopped old.arm ≡ false → OnErr result (new.lost ≡ true)

-- nothing is known of reads
pub none_told : (file : List ℕ) → None ≡ Some file → ⊥
none_told file is = cc
