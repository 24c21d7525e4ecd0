-- What a store holds, and what batches make of it: docs/formats/batches.md, "A store".
use Rattle.std.specs.Prelude.{◌≡◌, ℕ, ◌+◌, ◌==◌, Bool, true, false, List, [], ◌∷◌, length, map, Option, Some, None, IsSome, Result, Ok, Err, if◌then◌else◌}
use Rattle.std.specs.FinMap as fin
use Rattle.row_codec.specs.declared.batch.Batch.{Batch}
use Rattle.row_codec.specs.declared.batch.Row.{Row}
use Rattle.row_codec.specs.Batch.{batch_of}
use Rattle.apex_journal.specs.Records.{block}
pub use Rattle.row_map.specs.Rows.{RowMap, changed_at, changed}

-- what a store holds: its rows, and the number of its last batch
pub record Held : Type 0 where
  pub rows : RowMap
  pub seq : ℕ

abbrev pub nothing : Held
nothing = record { rows = fin.empty; seq = 0 }

-- after one batch more
abbrev pub after : Held → Batch → Held
after held batch = record { rows = changed held.rows batch.rows; seq = batch.seq }

-- after these rows, under the number that follows
abbrev pub next : Held → List Row → Held
next held rows = after held (record { seq = held.seq + 1; rows = rows })

-- The first batch may have any number, and each other the one after that of the batch before.
abbrev pub may_follow : Option Held → ℕ → Bool
may_follow None seq = true
may_follow (Some held) seq = seq == held.seq + 1

abbrev pub held_by : Option Held → Held
held_by None = nothing
held_by (Some held) = held

-- rows without a number so far are those of no batch
abbrev pub so_far_of : RowMap → Option ℕ → Option Held
so_far_of rows None = None
so_far_of rows (Some seq) = Some (record { rows = rows; seq = seq })

abbrev pub joined : Option Held → Option Batch → Option Held
joined so_far None = None
joined so_far (Some batch) = if may_follow so_far batch.seq then Some (after (held_by so_far) batch) else None

-- what is held after the record, where it is a batch that may follow
abbrev pub held_after : Option Held → List ℕ → Option Held
held_after so_far bytes = joined so_far (batch_of bytes)

-- whether the record was taken, and what is held then
abbrev pub IsTaken : Option Held → List ℕ → Option Held → Bool → Type 0
IsTaken before bytes now true = (held_after before bytes ≡ now) × IsSome now
IsTaken before bytes now false = held_after before bytes ≡ None

abbrev pub farther : ℕ → Result Held ℕ → Result Held ℕ
farther n (Ok held) = Ok held
farther n (Err offset) = Err (n + offset)

abbrev pub unless_bad : Option Held → (Held → Result Held ℕ) → Result Held ℕ
unless_bad None rest = Err 0
unless_bad (Some held) rest = rest held

-- What the records of a half come to, one after another; or where the gate stands of the first that is no batch that
-- may follow.
abbrev pub held_from : Option Held → List (List ℕ) → Result Held ℕ
held_from so_far [] = Ok (held_by so_far)
held_from so_far (bytes ∷ records) =
    unless_bad (held_after so_far bytes) (λ held. farther (length (block bytes)) (held_from (Some held) records))
