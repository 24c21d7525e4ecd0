use Rattle.std.proofs.Common.{◌≡◌, ◌∙◌, subst, refl, []}
use Rattle.apexplay.specs.Streams.{held_of}
use Rattle.apexplay.proofs.Endings.{IsPlayed, IsPut, IsTurned, held_at_first, no_room, run_ends}
use Rattle.apexplay.proofs.play.play.Goals as goal

pub returns-then-is_err-clause-run : goal.returns-then-is_err-clause-run
returns-then-is_err-clause-run g c =
    rw (c.new-source.ensures.reader, c.take_room.ensures.writer, c.new-sink.ensures.writer)
    (no_room c.args.words.now (g.R.Read.remaining c.args.reader) (g.W.Write.contents c.args.writer))

pub returns-clause-run : goal.returns-clause-run
returns-clause-run g c =
    let words = c.args.words.now in
    let remaining = g.R.Read.remaining in
    let contents = g.W.Write.contents in
    let source = c.apex_play-status.new.source in
    let sink = c.apex_play-status.new.sink in
    let last = c.write_rest-status.new.sink in
    let said = c.apex_play-status.ensures in
    let end = c.write_rest-status.ensures in
    let first = c.take_room.new.self in
    let s = c.apex_play-status.result.status in
    let turns = c.apex_play-status.result.turns in
    let over : IsPlayed words (remaining c.new-source.result.reader) (remaining source.reader) (held_of contents first)
    (held_of contents sink) s turns =
    record {
      text = said.text;
      whole_text = said.whole_text;
      emptied = said.emptied;
      in_order = said.turns;
      all_turns = said.all_turns;
      answered = said.answered;
      silent = said.silent;
      no_script = said.no_script;
      usage = said.usage;
      bad_line = said.bad_line;
      refused = said.refused;
      taken = said.taken;
    } in
    let played = subst (λ r. IsPlayed words (remaining r) (remaining source.reader) (held_of contents first)
    (held_of contents sink) s turns) c.new-source.ensures.reader over in
    let written : first.writer ≡ c.args.writer = c.take_room.ensures.writer ∙ c.new-sink.ensures.writer in
    let none : first.gathered.items ≡ [] = c.take_room.ensures.gathered ∙ c.new-sink.ensures.empty in
    let put : IsPut (contents c.args.writer) (contents last.writer) last.gathered.items (held_of contents first)
    (held_of contents sink) (held_of contents last) =
    record {
      start = held_at_first contents first.writer c.args.writer first.gathered.items written none;
      kept = end.kept;
      end = refl;
    } in
    let turned : IsTurned s c.write_rest-status.result = record { refused = end.refused; failed = end.failed } in
    run_ends words (remaining c.args.reader) (remaining source.reader) (contents c.args.writer) (contents last.writer)
    last.gathered.items (held_of contents first) (held_of contents sink) (held_of contents last) s
    c.write_rest-status.result turns played put turned end.written
