use Rattle.std.proofs.Common.{◌≡◌, Ok, Err, ap, subst, rules}
use Rattle.device_script.specs.Script.{script_of}
use Rattle.apex_base.specs.Outside.{PutFront}
use Rattle.apex_world.specs.Text.{out}
use Rattle.device_play.specs.declared.play.Played.{Played}
use Rattle.device_play.proofs.PlayedLemmas.{none_in_order, played_put}
use Rattle.device_play.proofs.Statuses.{long_bad_line, long_refused, no_refusal, same_script}
use Rattle.device_play.proofs.play.apex_play.Goals as goal

pub returns-then-not-is_play-clause-turns : goal.returns-then-not-is_play-clause-turns
returns-then-not-is_play-clause-turns g c =
    λ script has. none_in_order script _ (ap (λ (p : Played). p.turns) c.refused.ensures)

pub returns-in-Err-Source-clause-turns : goal.returns-in-Err-Source-clause-turns
returns-in-Err-Source-clause-turns g c =
    λ script has. none_in_order script _ (ap (λ (p : Played). p.turns) c.refused-in-Err-Source.ensures)

pub returns-in-Err-TooLong-clause-turns : goal.returns-in-Err-TooLong-clause-turns
returns-in-Err-TooLong-clause-turns g c =
    λ script has. none_in_order script _ (ap (λ (p : Played). p.turns) c.refused-in-Err-TooLong.ensures)

pub returns-in-Err-NoMemory-clause-turns : goal.returns-in-Err-NoMemory-clause-turns
returns-in-Err-NoMemory-clause-turns g c =
    λ script has. none_in_order script _ (ap (λ (p : Played). p.turns) c.refused-in-Err-NoMemory.ensures)

pub returns-in-Err-NoMemory-read_script-clause-turns : goal.returns-in-Err-NoMemory-read_script-clause-turns
returns-in-Err-NoMemory-read_script-clause-turns g c =
    λ script has. none_in_order script _ (ap (λ (p : Played). p.turns) c.refused-in-Err-NoMemory-read_script.ensures)

pub returns-in-Err-TooLong-clause-bad_line : goal.returns-in-Err-TooLong-clause-bad_line
returns-in-Err-TooLong-clause-bad_line g c =
    rw (c.refused-in-Err-TooLong.ensures, c.too_long.ensures)
    (long_bad_line _ (c.in-Err-TooLong.ensures.long (ap Err c.in-Err-TooLong.field-0-is)))

pub returns-in-Err-TooLong-clause-refused : goal.returns-in-Err-TooLong-clause-refused
returns-in-Err-TooLong-clause-refused g c =
    λ why none. rw (c.refused-in-Err-TooLong.ensures, c.too_long.ensures)
    (long_refused _ why (c.in-Err-TooLong.ensures.long (ap Err c.in-Err-TooLong.field-0-is)) none)

pub returns-clause-text : goal.returns-clause-text
returns-clause-text g c = λ script has.
    let read : script_of c.in-Ok.bytes.items ≡ Ok c.in-Ok-read_script.script = search rules in
    let same = same_script _ _ _ script _ c.in-Ok.ensures.all c.in-Ok.ensures.end has read in
    let old = g.K.Sink.held c.args.sink.now in
    let new = g.K.Sink.held c.play_script.new.sink in
    rw c.into_turns.ensures (subst (λ s. PutFront old new (out s c.play_script.new.self.turns.items)) same
    (played_put _ _ _ _ _ c.play_script.ensures.played))

pub returns-clause-no_script : goal.returns-clause-no_script
returns-clause-no_script g c = λ why none.
    let read : script_of c.in-Ok.bytes.items ≡ Ok c.in-Ok-read_script.script = search rules in
    absurd (no_refusal _ _ _ why _ c.in-Ok.ensures.all c.in-Ok.ensures.end none read)
