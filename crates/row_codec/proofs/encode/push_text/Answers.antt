use Rattle.std.proofs.Common.{◌≡◌, ◌++◌, length, take, ap, ◌∙◌}
use Rattle.std.specs.Int.{w32, w64, to_be_bytes}
use Rattle.std.specs.List.{flat_map}
use Rattle.std.proofs.lemmas.Result.{on_ok_weaker}
use Rattle.row_codec.specs.Batch.{row_text, batch_text}
use Rattle.row_codec.proofs.Growth.{kept_front, kept_through, added_twice, added_behind}
use Rattle.row_codec.proofs.encode.push_text.Goals as goal

-- the number and the count of rows, after what was there
head : (c : goal.After-push_rows)
    → c.extend_from_slice-2.new.self.items
    ≡ c.args.into.now.items ++ (to_be_bytes w64 c.args.seq ++ to_be_bytes w32 (length c.args.rows.now))
head c =
    let old = c.args.into.now.items in
    let one = c.extend_from_slice.new.self.items in
    let seq = to_be_bytes w64 c.args.seq in
    let count = to_be_bytes w32 (length c.args.rows.now) in
    added_twice old one c.extend_from_slice-2.new.self.items seq count
    (c.in_ok-extend_from_slice.ensures.items ∙ ap (λ xs. old ++ xs) c.to_be_bytes.ensures)
    (c.in_ok-extend_from_slice-2.ensures.items ∙ ap (λ xs. one ++ xs) c.to_be_bytes-2.ensures)

pub returns-clause-pushed : goal.returns-clause-pushed
unfolding batch_text
returns-clause-pushed c =
    let rows = flat_map row_text c.args.rows.now in
    on_ok_weaker c.push_rows.result
    (λ e. added_behind c.args.into.now.items c.extend_from_slice-2.new.self.items c.push_rows.new.into.items
    (to_be_bytes w64 c.args.seq) (to_be_bytes w32 (length c.args.rows.now)) rows (head c) e)
    c.push_rows.ensures.pushed

pub returns-clause-kept : goal.returns-clause-kept
returns-clause-kept c =
    let old = c.args.into.now.items in
    let two = c.extend_from_slice-2.new.self.items in
    let so_far : take (length old) two ≡ old =
    rw (head c) (kept_front old (to_be_bytes w64 c.args.seq ++ to_be_bytes w32 (length c.args.rows.now))) in
    kept_through old two c.push_rows.new.into.items so_far c.push_rows.ensures.kept
