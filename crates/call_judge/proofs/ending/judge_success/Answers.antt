use Rattle.std.proofs.Common.{◌≡◌, List, sym, ap, subst, ◌∙◌, refl}
use Rattle.std.specs.Cmp.Lexicographic.{slice_cmp}
use Rattle.std.specs.List.Sorted.{IsStrictlySortedBy}
use Rattle.std.specs.Ordering.{nat_cmp}
use Rattle.apex_base.specs.declared.moves.Move.TheVariants as step_of
use Rattle.apex_base.specs.declared.records.Record.{Record}
use Rattle.apex_base.specs.Held.{is_success}
use Rattle.row_codec.specs.declared.batch.Row.{Row}
use Rattle.row_codec.specs.Batch.{keys_of}
use Rattle.apex_world.specs.declared.calls.Call.TheVariants as calls
use Rattle.world_facts.proofs.facts.PlainLemmas.{success_plain}
use Rattle.stored_world.proofs.Batches.{none_ascend}
use Rattle.call_judge.proofs.Moved.{read_is, moved_from, refused_is}
use Rattle.call_judge.proofs.SuccessBatches.{success_ascends}
use Rattle.call_judge.proofs.Successes.{success_again, success_done, success_room, held_numbered}
use Rattle.call_judge.proofs.SuccessStates.{time_is}
use Rattle.call_judge.proofs.ending.judge_success.Goals.{then-is_success, else-is_success+in_ok-batch}
use Rattle.call_judge.proofs.ending.judge_success.Goals as goal

pub returns-in-Err-clause-judged : goal.returns-in-Err-clause-judged
returns-in-Err-clause-judged c w s =
    let q = c.quiet in
    refused_is c.args.rows.now c.args.tables.now w s (calls.Success c.args.time c.args.id) _ c.args.id step_of.Success
    (success_plain w s.simple.plain c.args.time c.args.id)
    q.result c.in-Err.why c.in-Err.ensures.refused q.ensures.reply q.ensures.rows q.ensures.patch

pub success_rows-requires-clause-room : goal.success_rows-requires-clause-room
success_rows-requires-clause-room c =
    let m = c.in-Ok.ensures.moves in
    let r = c.index-r.result.now in
    let (w, s) = c.requires.stands in
    let read = read_is c.args.tables.now.sessions.items c.args.id step_of.Success c.in-Ok.to.0 c.in-Ok.to.1 m r
    c.index-r.ensures in
    success_room c.args.rows.now c.args.tables.now w s c.args.id c.in-Ok.to.0 c.in-Ok.to.1 m
    c.in_ok-session.session (moved_from r m.session c.in_ok-session.session c.in-Ok.to.1 read c.in_ok-session.ensures)

pub success_rows-requires-clause-numbered : goal.success_rows-requires-clause-numbered
success_rows-requires-clause-numbered c =
    let m = c.in-Ok.ensures.moves in
    let r = c.index-r.result.now in
    let (w, s) = c.requires.stands in
    let read = read_is c.args.tables.now.sessions.items c.args.id step_of.Success c.in-Ok.to.0 c.in-Ok.to.1 m r
    c.index-r.ensures in
    let tells : is_success m.session.state ≡ c.is_success.result =
    ap (λ (x : Record). is_success x.state) (sym read) ∙ sym c.is_success.ensures in
    held_numbered c.args.rows.now c.args.tables.now w s c.args.id c.in-Ok.to.0 c.in-Ok.to.1 m
    c.in_ok-session.session (moved_from r m.session c.in_ok-session.session c.in-Ok.to.1 read c.in_ok-session.ensures)
    (tells ∙ c.if-is_success.false)

pub returns-clause-judged : goal.returns-clause-judged
returns-clause-judged c w s =
    let m = c.in-Ok.ensures.moves in
    let r = c.index-r.result.now in
    let session = c.in_ok-session.session in
    let read = read_is c.args.tables.now.sessions.items c.args.id step_of.Success c.in-Ok.to.0 c.in-Ok.to.1 m r
    c.index-r.ensures in
    let same = moved_from r m.session session c.in-Ok.to.1 read c.in_ok-session.ensures in
    let is_time = time_is c.args.tables.now.clock c.args.time _ c.later_of-clock.ensures.later
    c.later_of-clock.ensures.range in
    let tells : is_success m.session.state ≡ c.is_success.result =
    ap (λ (x : Record). is_success x.state) (sym read) ∙ sym c.is_success.ensures in
    elim c.if-is_success.branch [
      | then-is_success b ↦ success_again c.args.rows.now c.args.tables.now w s c.args.id
          c.in-Ok.to.0 c.in-Ok.to.1 m session same c.args.time is_time _ c.later_of-clock.result
          (tells ∙ b.if-is_success.true) refl
          (ap (λ v. v.items) b.batch-is ∙ b.new-batch.ensures.items) c.in_ok-patch.ensures c.later_of-clock.ensures.later
      | else-is_success+in_ok-batch b ↦ success_done c.args.rows.now c.args.tables.now w s c.args.id
          c.in-Ok.to.0 c.in-Ok.to.1 m session same c.args.time is_time (tells ∙ b.if-is_success.false) _
          c.later_of-clock.result refl
          (ap (λ v. v.items) b.batch-is ∙ b.in_ok-batch.ensures.rows)
          c.in_ok-patch.ensures c.later_of-clock.ensures.later
    ]

pub returns-clause-ascending : goal.returns-clause-ascending
returns-clause-ascending c =
    elim c.if-is_success.branch [
      | then-is_success b ↦ none_ascend c.if-is_success.batch.items
          (ap (λ v. v.items) b.batch-is ∙ b.new-batch.ensures.items)
      | else-is_success+in_ok-batch b ↦ subst
          (λ (rows : List Row). IsStrictlySortedBy (slice_cmp nat_cmp) (keys_of rows))
          (sym (ap (λ v. v.items) b.batch-is ∙ b.in_ok-batch.ensures.rows))
          (success_ascends c.args.rows.now c.in_ok-session.session)
    ]
