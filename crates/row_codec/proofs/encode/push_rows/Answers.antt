use Rattle.std.proofs.Common.{◌≡◌, length, take}
use Rattle.std.specs.List.{flat_map}
use Rattle.std.proofs.lemmas.List.Elements.{All-from_recursion}
use Rattle.row_codec.specs.Batch.{IsRow, row_text}
use Rattle.row_codec.proofs.Growth.{kept_front, kept_through}
use Rattle.row_codec.proofs.encode.push_rows.Goals as goal

pub push_row-requires : goal.push_row-requires
push_row-requires c =
    rw c.row-item.is (All-from_recursion IsRow c.args.rows.now c.requires c.loop-row.row-index _ c.loop-row-test.true)

pub returns-in_err-push_row-clause-kept : goal.returns-in_err-push_row-clause-kept
returns-in_err-push_row-clause-kept c =
    let old = c.args.into.now.items in
    let so_far : take (length old) c.loop-row.into.items ≡ old =
    rw c.loop-row.invariant (kept_front old (flat_map row_text (take c.loop-row.row-index c.args.rows.now))) in
    kept_through old c.loop-row.into.items c.push_row.new.into.items so_far c.in_err-push_row.ensures.kept
