use Rattle.std.proofs.Common.{◌≡◌, ◌+◌, None, length}
use Rattle.std.specs.FinMap as fin
use Rattle.apex_journal.specs.Records.{blocks}
use Rattle.row_store.specs.Rows.{held_from, farther, so_far_of}
use Rattle.row_store.proofs.reading.read_records.Given as goal

-- what all records come to is what those that are left come to, after the bytes of the others
abbrev pub invariant-loop-record : goal.invariant-loop-record
invariant-loop-record l = record {
  leads : held_from None l.fn.records.items
      ≡ farther l.at (held_from (so_far_of l.replay.rows l.replay.last) l.record-iterator.rest.items);
  here : l.at + length (blocks l.record-iterator.rest.items) ≡ length (blocks l.fn.records.items);
  none : l.replay.last ≡ None → l.replay.rows ≡ fin.empty;
}
