-- When an append is refused, and what a crash in it may leave: docs/formats/journal.md, "Append".
use Rattle.std.specs.Prelude.{◌≡◌, ◌≤◌, ◌<◌, ◌+◌, ℕ, List, Result, Ok, Err}
use Rattle.apex_base.specs.declared.numbers.Scale.{Scale}
use Rattle.apex_base.specs.Causes.{Rose}
use Rattle.apex_journal.specs.declared.why.AppendWhy.{AppendWhy}
use Rattle.apex_journal.specs.declared.why.AppendWhy.TheVariants.{JournalFull, DiskFault, NoMemory}
use Rattle.apex_journal.specs.Journal.{Opens, WithOrWithout}

-- the count of faults rose if and only if the device is named
abbrev pub AppendCounts : ℕ → ℕ → Result (Unit {0}) AppendWhy → Type 0
AppendCounts before now (Ok done) = before ≡ now
AppendCounts before now (Err DiskFault) = Rose before now
AppendCounts before now (Err NoMemory) = before ≡ now
AppendCounts before now (Err (JournalFull used need size)) = before ≡ now

-- the journal is full if and only if the half has no room
abbrev pub IsFullWhere : ℕ → ℕ → ℕ → Result (Unit {0}) AppendWhy → Type 0
IsFullWhere used need size (Ok done) = used + need ≤ size
IsFullWhere used need size (Err DiskFault) = used + need ≤ size
IsFullWhere used need size (Err NoMemory) = used + need ≤ size
IsFullWhere used need size (Err (JournalFull found asked given)) =
    (found ≡ used) × (asked ≡ need) × (given ≡ size) × (size < used + need)

-- nothing was written
abbrev pub IsUnwritten : Result (Unit {0}) AppendWhy → Type 0
IsUnwritten (Ok done) = ⊥
IsUnwritten (Err DiskFault) = ⊥
IsUnwritten (Err NoMemory) = Unit {0}
IsUnwritten (Err (JournalFull used need size)) = Unit {0}

-- no device call was made
abbrev pub IsUntouched : Result (Unit {0}) AppendWhy → Type 0
IsUntouched (Ok done) = ⊥
IsUntouched (Err DiskFault) = ⊥
IsUntouched (Err NoMemory) = ⊥
IsUntouched (Err (JournalFull used need size)) = Unit {0}

-- what a crash at a moment of the call may leave
abbrev pub MayHold : Result (Unit {0}) AppendWhy → Scale → List (List ℕ) → List ℕ → List ℕ → Type 0
MayHold (Ok done) scale records piece file = WithOrWithout scale records piece file
MayHold (Err DiskFault) scale records piece file = WithOrWithout scale records piece file
MayHold (Err NoMemory) scale records piece file = Opens scale file records
MayHold (Err (JournalFull used need size)) scale records piece file = Opens scale file records
