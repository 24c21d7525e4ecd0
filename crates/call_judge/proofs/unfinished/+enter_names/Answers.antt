use Rattle.std.proofs.Common.{◌-◌, List, Some, take, drop, length, cond, sym, ap, ◌∙◌, rules, subst}
use Rattle.apex_base.specs.declared.records.Part.{Part}
use Rattle.call_judge.specs.Unfinished.{under, has_name, HaveRoom}
use Rattle.call_judge.proofs.NamedSessions.{more_rooms, entered, rest_is}
use Rattle.call_judge.proofs.NamedSessions.{must_be, none_there}
use Rattle.call_judge.proofs.unfinished.+enter_names.Goals as goal

pub enter_names-requires : goal.enter_names-requires
enter_names-requires t c =
    let ps : List Part = c.args.parts.now in
    let all = rest_is ps c.p-item.result c.in-len1-up.len_at_least c.p-item.is in
    let m = c.args.by_name.now in
    let n = c.insert.new.self in
    let k = c.p-item.result.name in
    let rooms = subst (HaveRoom m) all c.requires in
    let put = must_be c.insert.result c.insert.ensures.updates c.insert.ensures.absent (λ none. none_there _ none rooms.0) in
    (search rules, more_rooms m n k (Some c.args.id) put.0 _ rooms.1)

pub returns : goal.returns
returns t c name =
    let ps : List Part = c.args.parts.now in
    let rest = take (length ps - 1) (drop 1 ps) in
    let all = rest_is ps c.p-item.result c.in-len1-up.len_at_least c.p-item.is in
    let m = c.args.by_name.now in
    let k = c.p-item.result.name in
    let rooms = subst (HaveRoom m) all c.requires in
    let put = must_be c.insert.result c.insert.ensures.updates c.insert.ensures.absent (λ none. none_there _ none rooms.0) in
    c.enter_names.ensures name ∙ entered m c.insert.new.self k c.args.id rest put.0 name
    ∙ ap (λ qs. cond (has_name qs name) (Some c.args.id) (under m name)) (sym all)
