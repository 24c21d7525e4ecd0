use Rattle.std.proofs.Common.{◌≡◌, sym, ap, subst, ◌∙◌, refl}
use Rattle.apex_base.specs.declared.moves.Move.TheVariants as step_of
use Rattle.apex_base.specs.declared.records.Record.{Record}
use Rattle.session_record.specs.Room.{HasRoom}
use Rattle.apex_world.specs.declared.calls.Call.TheVariants as calls
use Rattle.apex_base.specs.Held.{is_staged}
use Rattle.call_judge.specs.declared.judged.Judged.{Judged}
use Rattle.call_judge.specs.declared.judged.Patch.{Patch}
use Rattle.call_judge.specs.Judged.{IsJudged, IsPlaced}
use Rattle.call_judge.specs.Moving.{in_state}
use Rattle.call_judge.proofs.Moved.{has_room_moved, read_is, refused_is}
use Rattle.call_judge.proofs.Readies.{if_done, ready_again, ready_done}
use Rattle.call_judge.proofs.judging.judge_ready.Goals as goal

pub returns-in-Err-clause-judged : goal.returns-in-Err-clause-judged
returns-in-Err-clause-judged c w s =
    let q = c.quiet in
    refused_is c.args.rows.now c.args.tables.now w s (calls.Ready c.args.id) w.clock c.args.id step_of.Ready refl
    q.result c.in-Err.why c.in-Err.ensures.refused q.ensures.reply q.ensures.rows q.ensures.patch

pub returns-then-is_staged-clause-judged : goal.returns-then-is_staged-clause-judged
returns-then-is_staged-clause-judged c w s =
    let m = c.in-Ok.ensures.moves in
    let q = c.quiet-then-is_staged in
    let read = read_is c.args.tables.now.sessions.items c.args.id step_of.Ready c.in-Ok.to.0 c.in-Ok.to.1 m
    c.index-r.result.now c.index-r.ensures in
    let tells : is_staged m.session.state ≡ c.is_staged.result =
    ap (λ (x : Record). is_staged x.state) (sym read) ∙ sym c.is_staged.ensures in
    ready_again c.args.rows.now c.args.tables.now w s c.args.id c.in-Ok.to.0 c.in-Ok.to.1 m q.result
    (tells ∙ c.if-is_staged.true) q.ensures.reply q.ensures.rows q.ensures.patch

pub change_state-requires : goal.change_state-requires
change_state-requires c =
    let m = c.in-Ok.ensures.moves in
    let (w, s) = c.requires.stands in
    let read = read_is c.args.tables.now.sessions.items c.args.id step_of.Ready c.in-Ok.to.0 c.in-Ok.to.1 m
    c.index-r.result.now c.index-r.ensures in
    let h : HasRoom (in_state c.index-r.result.now c.in-Ok.to.1) =
    has_room_moved c.args.rows.now c.args.tables.now w s c.args.id step_of.Ready c.in-Ok.to.0 c.in-Ok.to.1 m
    (in_state c.index-r.result.now c.in-Ok.to.1) (ap (λ (x : Record). in_state x c.in-Ok.to.1) read) in
    record { room = h }

pub returns-clause-judged : goal.returns-clause-judged
returns-clause-judged c w s =
    let m = c.in-Ok.ensures.moves in
    let read = read_is c.args.tables.now.sessions.items c.args.id step_of.Ready c.in-Ok.to.0 c.in-Ok.to.1 m
    c.index-r.result.now c.index-r.ensures in
    let tells : is_staged m.session.state ≡ c.is_staged.result =
    ap (λ (x : Record). is_staged x.state) (sym read) ∙ sym c.is_staged.ensures in
    if_done c.change_state.result c.in-Ok.to.0 (in_state m.session c.in-Ok.to.1)
    (λ (j : Judged). IsJudged j c.args.rows.now w (calls.Ready c.args.id))
    c.change_state.ensures.reply (rw read at c.change_state.ensures.rows) (rw read at c.change_state.ensures.patch)
    (ready_done c.args.rows.now c.args.tables.now w s c.args.id c.in-Ok.to.0 c.in-Ok.to.1 m
    (tells ∙ c.if-is_staged.false))

pub returns-clause-placed : goal.returns-clause-placed
returns-clause-placed c =
    let m = c.in-Ok.ensures.moves in
    let xs = c.args.tables.now.sessions.items in
    let r = c.index-r.result.now in
    if_done c.change_state.result c.in-Ok.to.0 (in_state r c.in-Ok.to.1) (λ (j : Judged). IsPlaced j.patch xs)
    c.change_state.ensures.reply c.change_state.ensures.rows c.change_state.ensures.patch
    (λ j says batch patch. subst (λ (p : Patch). IsPlaced p xs) (sym patch) m.low)
