use Rattle.std.proofs.Common.{ap, ◌∙◌, rules}
use Rattle.call_judge.specs.Unfinished.{under}
use Rattle.call_judge.proofs.NamedSessions.{room_put}
use Rattle.call_judge.proofs.unfinished.+make_room_under.Goals.{then-is_none+in_ok-insert, else-is_none}
use Rattle.call_judge.proofs.unfinished.+make_room_under.Goals as goal

pub returns-clause-same : goal.returns-clause-same
returns-clause-same t c name =
    elim c.if-is_none.branch [
      | then-is_none+in_ok-insert b ↦ c.make_room_under.ensures.same name ∙ ap (λ m. under m name) b.by_name-is
          ∙ room_put c.args.by_name.now b.insert.new.self c.p-item.result.name (search rules) b.in_ok-insert.ensures.updates.0 name
      | else-is_none b ↦ c.make_room_under.ensures.same name ∙ ap (λ m. under m name) b.by_name-is
    ]
