-- When a commit is refused, and what a crash in it may leave: docs/formats/batches.md, "A store".
use Rattle.std.specs.Prelude.{◌≡◌, ◌≤◌, ◌<◌, ◌+◌, ℕ, List, Some, None, Result, Ok, Err}
use Rattle.apex_base.specs.declared.numbers.Scale.{Scale}
use Rattle.apex_base.specs.Causes.{Rose}
use Rattle.row_codec.specs.declared.batch.Row.{Row}
use Rattle.row_store.specs.declared.why.CommitWhy.{CommitWhy}
use Rattle.row_store.specs.declared.why.CommitWhy.TheVariants.{Closed, JournalFull, DiskFault, NoMemory}
use Rattle.row_store.specs.Rows.{Held, next}
use Rattle.row_store.specs.Store.{SeenStore, Stores, StoresEither}

-- the count of faults rose if and only if the device is named
abbrev pub CommitCounts : ℕ → ℕ → Result (Unit {0}) CommitWhy → Type 0
CommitCounts before now (Ok done) = before ≡ now
CommitCounts before now (Err Closed) = before ≡ now
CommitCounts before now (Err (JournalFull used need size)) = before ≡ now
CommitCounts before now (Err DiskFault) = Rose before now
CommitCounts before now (Err NoMemory) = before ≡ now

-- the journal is full if and only if the half has no room
abbrev pub IsFullWhere : ℕ → ℕ → ℕ → Result (Unit {0}) CommitWhy → Type 0
IsFullWhere used need size (Ok done) = used + need ≤ size
IsFullWhere used need size (Err Closed) = Unit {0}
IsFullWhere used need size (Err (JournalFull found asked given)) =
    (found ≡ used) × (asked ≡ need) × (given ≡ size) × (size < used + need)
IsFullWhere used need size (Err DiskFault) = used + need ≤ size
IsFullWhere used need size (Err NoMemory) = Unit {0}

-- what is held afterwards, and the batch that a fault leaves undecided
abbrev pub Commits : {D : Type 0} → List Row → SeenStore D → SeenStore D → Result (Unit {0}) CommitWhy → Type 0
Commits rows old new (Ok done) = (old.pending ≡ None) × (new.held ≡ next old.held rows) × (new.pending ≡ None)
Commits rows old new (Err Closed) = ((old.pending ≡ None) → ⊥) × (new ≡ old)
Commits rows old new (Err (JournalFull used need size)) = (old.pending ≡ None) × (new ≡ old)
Commits rows old new (Err DiskFault) = (old.pending ≡ None) × (new.held ≡ old.held) × (new.pending ≡ Some rows)
Commits rows old new (Err NoMemory) = (old.pending ≡ None) × (new.held ≡ old.held) × (new.pending ≡ None)

-- what a crash at a moment of the call may leave
abbrev pub MayStore : Result (Unit {0}) CommitWhy → Scale → Held → List Row → List ℕ → Type 0
MayStore (Ok done) scale held rows file = StoresEither scale held rows file
MayStore (Err Closed) scale held rows file = Stores scale file held
MayStore (Err (JournalFull used need size)) scale held rows file = Stores scale file held
MayStore (Err DiskFault) scale held rows file = StoresEither scale held rows file
MayStore (Err NoMemory) scale held rows file = Stores scale file held
