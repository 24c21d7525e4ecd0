use Rattle.std.proofs.Common.{◌≡◌, ◌++◌, ◌∷◌, [], sym, ap, subst, ◌∙◌, refl}
use Rattle.std.specs.Cmp.Lexicographic.{slice_cmp}
use Rattle.std.specs.List.Sorted.{IsStrictlySortedBy}
use Rattle.std.specs.Ordering.{nat_cmp}
use Rattle.apex_base.specs.declared.moves.Move.TheVariants as step_of
use Rattle.apex_base.specs.declared.records.Part.{Part}
use Rattle.row_codec.specs.Batch.{keys_of}
use Rattle.session_record.specs.Room.{HasPartNumber}
use Rattle.apex_world.specs.declared.calls.Call.TheVariants as calls
use Rattle.call_judge.specs.Ending.{record_change}
use Rattle.call_judge.specs.Taken.{files_taken, first_of}
use Rattle.call_judge.proofs.Aborts.{abort_done, abort_numbered, own_target, record_below}
use Rattle.stored_world.proofs.Batches.{one_ascends}
use Rattle.call_judge.proofs.Moved.{read_is, moved_from, refused_is, has_room_moved}
use Rattle.call_judge.proofs.TakenFiles.{all_ascend}
use Rattle.call_judge.proofs.ending.judge_abort.Goals as goal

pub returns-in-Err-clause-judged : goal.returns-in-Err-clause-judged
returns-in-Err-clause-judged c w s =
    let q = c.quiet in
    refused_is c.args.rows.now c.args.tables.now w s (calls.Abort c.args.id) w.clock c.args.id step_of.Abort refl
    q.result c.in-Err.why c.in-Err.ensures.refused q.ensures.reply q.ensures.rows q.ensures.patch

pub record_rows-requires : goal.record_rows-requires
record_rows-requires c =
    let m = c.in-Ok.ensures.moves in
    let r = c.index-r.result.now in
    let (w, s) = c.requires.stands in
    has_room_moved c.args.rows.now c.args.tables.now w s c.args.id step_of.Abort
    c.in-Ok.to.0 c.in-Ok.to.1 m c.in_ok-aborted.aborted (moved_from r m.session c.in_ok-aborted.aborted c.in-Ok.to.1
    (read_is c.args.tables.now.sessions.items c.args.id step_of.Abort c.in-Ok.to.0 c.in-Ok.to.1 m r c.index-r.ensures)
    c.in_ok-aborted.ensures)

pub take_files-requires : goal.take_files-requires
take_files-requires c =
    let m = c.in-Ok.ensures.moves in
    let r = c.index-r.result.now in
    let (w, s) = c.requires.stands in
    let read = read_is c.args.tables.now.sessions.items c.args.id step_of.Abort c.in-Ok.to.0 c.in-Ok.to.1 m r
    c.index-r.ensures in
    subst HasPartNumber (sym (c.first_target.ensures ∙ ap (first_of (λ (p : Part). p.target)) c.as_slice.ensures
    ∙ ap own_target read))
    (abort_numbered c.args.rows.now c.args.tables.now w s c.args.id c.in-Ok.to.0 c.in-Ok.to.1 m)

pub returns-clause-judged : goal.returns-clause-judged
returns-clause-judged c w s =
    let m = c.in-Ok.ensures.moves in
    let r = c.index-r.result.now in
    let session = c.in_ok-aborted.aborted in
    let read = read_is c.args.tables.now.sessions.items c.args.id step_of.Abort c.in-Ok.to.0 c.in-Ok.to.1 m r
    c.index-r.ensures in
    let target : c.first_target.result ≡ own_target m.session =
    c.first_target.ensures ∙ ap (first_of (λ (p : Part). p.target)) c.as_slice.ensures ∙ ap own_target read in
    abort_done c.args.rows.now c.args.tables.now w s c.args.id c.in-Ok.to.0 c.in-Ok.to.1 m session
    (moved_from r m.session session c.in-Ok.to.1 read c.in_ok-aborted.ensures) _ refl
    (c.in_ok-take_files.ensures
    ∙ ap (λ rows. rows ++ files_taken c.args.rows.now c.first_target.result) c.in_ok-batch.ensures.rows
    ∙ ap (λ t. record_change session ∷ files_taken c.args.rows.now t) target) c.in_ok-patch.ensures

pub returns-clause-ascending : goal.returns-clause-ascending
returns-clause-ascending c =
    let session = c.in_ok-aborted.aborted in
    subst (λ (rows : _). IsStrictlySortedBy (slice_cmp nat_cmp) (keys_of rows))
    (sym (c.in_ok-take_files.ensures
    ∙ ap (λ rows. rows ++ files_taken c.args.rows.now c.first_target.result) c.in_ok-batch.ensures.rows))
    (all_ascend c.args.rows.now c.first_target.result (record_change session ∷ [])
    (one_ascends (record_change session ∷ []) (record_change session) refl) (record_below session))
