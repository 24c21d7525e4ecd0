-- A disk in memory, and what each of its calls does: docs/device.md, "The disk in memory".
use Rattle.std.specs.Prelude.{◌≡◌, ◌⊎◌, ◌∷◌, ◌++◌, [], ℕ, List, length, drop, get_or, false, Some, Result, IsOk, IsErr, IsTrue, Vec}
use Rattle.std.specs.declared.alloc.Global.{Global}
use Rattle.std.proofs.Common.{sym, ap}
use Rattle.std.proofs.lemmas.Option.{same_Some}
use mathlib.Core.Logic.{inl, inr}
use Rattle.apex_base.specs.declared.outside.Failed.{Failed}
use Rattle.apex_disk.specs.declared.disk.Entry.{Entry}
use Rattle.apex_disk.specs.declared.meter.Meter.{Meter}
use Rattle.apex_disk.specs.declared.content.Content.{Content}
use Rattle.apex_disk.specs.declared.content.Step.{Step}
use Rattle.apex_disk.specs.declared.content.Step.TheVariants.{Wrote, Synced}
use Rattle.apex_disk.specs.Disk.{written, IsSettled}
use Rattle.apex_disk.specs.declared.arm.Arm.TheVariants.{Off}
use Rattle.apex_disk.specs.Arm.{armed, after_write, has_stopped, pick_of}
use Rattle.apex_disk.specs.Meter.{refuses, called, handed_over}
use Rattle.apex_disk.specs.Pick.{picked}
use Rattle.apex_disk.specs.Content.{Covered, MayLeave}

-- what contracts see of a disk in memory
pub record Mem : Type 0 where
  pub content : Content
  -- each content that it had since the last cycle, and the step that changed it
  pub past : List Content
  pub steps : List Step
  pub meter : Meter
  pub log : List Entry
  pub spare : ℕ

-- one of these contents might have left it
abbrev pub MightHaveLeft : List Content → List ℕ → Type 0
MightHaveLeft [] c = ⊥
MightHaveLeft (content ∷ past) c = MayLeave content c ⊎ MightHaveLeft past c

abbrev pub Since : Mem → ℕ → List ℕ → Type 0
Since disk t c = MayLeave disk.content c ⊎ MightHaveLeft (drop t disk.past) c

-- a disk of these bytes, all of them synced, which a crash leaves as they are; no call was made yet
pub record IsFresh (disk : Mem) (bytes : List ℕ) (fails : Vec ℕ Global) : Type 0 where
  pub newest : disk.content.bytes.items ≡ bytes
  pub synced : disk.content.synced.items ≡ bytes
  pub pending : disk.content.pending.items ≡ []
  pub settled : IsSettled (MayLeave disk.content) (Some bytes)
  pub meter : disk.meter ≡ record { fails = fails; calls = 0; faults = 0; arm = Off }
  pub past : disk.past ≡ []
  pub steps : disk.steps ≡ []
  pub log : disk.log ≡ []

-- the call failed and did nothing but count
pub record IsRefused (old new : Mem) (result : Result (Unit {0}) Failed) : Type 0 where
  pub answer : IsErr result
  pub meter : new.meter ≡ called old.meter
  pub content : new.content ≡ old.content
  pub steps : new.steps ≡ old.steps

-- a read that isn't refused is answered
pub record DoesRead (old new : Mem) (result : Result (Unit {0}) Failed) : Type 0 where
  pub refused : IsTrue (refuses old.meter) → IsRefused old new result
  pub answered : refuses old.meter ≡ false → IsOk result
  pub meter : new.meter ≡ called old.meter
  pub content : new.content ≡ old.content
  pub steps : new.steps ≡ old.steps

-- a write's bytes were handed over, also where the power went off in it
pub record HandsOver (old new : Mem) (at : ℕ) (bytes : List ℕ) (result : Result (Unit {0}) Failed) : Type 0 where
  pub stops : IsTrue (has_stopped (after_write old.meter.arm)) → IsErr result
  pub answered : has_stopped (after_write old.meter.arm) ≡ false → IsOk result
  pub meter : new.meter ≡ handed_over (called old.meter)
  pub newest : new.content.bytes.items ≡ written at bytes old.content.bytes.items
  pub synced : new.content.synced.items ≡ old.content.synced.items
  pub pending : new.content.pending.items ≡ old.content.pending.items ++ record { at = at; len = length bytes } ∷ []
  pub steps : new.steps ≡ old.steps ++ Wrote at (length bytes) ∷ []

pub record DoesWrite (old new : Mem) (at : ℕ) (bytes : List ℕ) (result : Result (Unit {0}) Failed) : Type 0 where
  pub refused : IsTrue (refuses old.meter) → IsRefused old new result
  pub done : refuses old.meter ≡ false → HandsOver old new at bytes result

pub record Syncs (old new : Mem) (result : Result (Unit {0}) Failed) : Type 0 where
  pub answer : IsOk result
  pub meter : new.meter ≡ called old.meter
  pub bytes : new.content.bytes.items ≡ old.content.bytes.items
  pub synced : new.content.synced.items ≡ old.content.bytes.items
  pub pending : new.content.pending.items ≡ []
  pub steps : new.steps ≡ old.steps ++ Synced ∷ []

pub record DoesSync (old new : Mem) (result : Result (Unit {0}) Failed) : Type 0 where
  pub refused : IsTrue (refuses old.meter) → IsRefused old new result
  pub done : refuses old.meter ≡ false → Syncs old new result

pub record DoesArm (old new : Mem) (writes pick : ℕ) : Type 0 where
  pub meter : new.meter ≡ record old.meter { arm = armed old.meter.arm writes pick }
  pub content : new.content ≡ old.content
  pub steps : new.steps ≡ old.steps

-- each byte that may differ is picked, and all of them are synced
pub record DoesCycle (old new : Mem) : Type 0 where
  pub meter : new.meter ≡ record old.meter { arm = Off }
  pub long : length new.content.bytes.items ≡ length old.content.bytes.items
  pub pending_bytes : (k : ℕ) → Covered old.content.pending.items k
      → get_or new.content.bytes.items k 0
      ≡ picked (pick_of old.meter.arm) k (get_or old.content.bytes.items k 0) (get_or old.content.synced.items k 0)
  pub other_bytes : (k : ℕ) → (Covered old.content.pending.items k → ⊥)
      → get_or new.content.bytes.items k 0 ≡ get_or old.content.bytes.items k 0
  pub synced : new.content.synced.items ≡ new.content.bytes.items
  pub pending : new.content.pending.items ≡ []
  pub past : new.past ≡ []
  pub steps : new.steps ≡ []

none_left : (past : List Content) (c : List ℕ) → MightHaveLeft (drop (length past) past) c → ⊥
none_left [] c had = had
none_left (content ∷ past) c had = none_left past c had

-- since the last of them there is what is there now
pub only_content : (disk : Mem) (c : List ℕ) → Since disk (length disk.past) c → MayLeave disk.content c
only_content disk c (inl now) = now
only_content disk c (inr had) = absurd (none_left disk.past c had)

-- what reads give is what a crash may leave too
pub told_left : (content : Content) (file : List ℕ) → Some content.bytes.items ≡ Some file → MayLeave content file
told_left content file is = let same = same_Some content.bytes.items file is in (ap length (sym same), inl (sym same))
