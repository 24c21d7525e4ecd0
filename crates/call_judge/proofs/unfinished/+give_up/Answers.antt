use Rattle.std.proofs.Common.{◌-◌, List, take, drop, length, sym, ap, ◌∙◌, rules}
use Rattle.apex_base.specs.declared.records.Part.{Part}
use Rattle.call_judge.specs.Unfinished.{under, has_name, without}
use Rattle.call_judge.proofs.NamedSessions.{given_up, kept_on, rest_is}
use Rattle.call_judge.proofs.unfinished.+give_up.Goals.{then-is_session, else-is_session}
use Rattle.call_judge.proofs.unfinished.+give_up.Goals as goal

pub returns : goal.returns
returns t c name =
    let ps : List Part = c.args.parts.now in
    let rest = take (length ps - 1) (drop 1 ps) in
    let id = c.args.id in
    let k = c.p-item.result.name in
    let all = rest_is ps c.p-item.result c.in-len1-up.len_at_least c.p-item.is in
    let m = c.args.by_name.now in
    c.give_up.ensures name
    ∙ elim c.if-is_session.branch [
      | then-is_session b ↦ ap (λ n. without (has_name rest name) id (under n name)) b.by_name-is
          ∙ given_up m b.remove.new.self k id rest (search rules) b.remove.ensures.updates.0 name
      | else-is_session b ↦ ap (λ n. without (has_name rest name) id (under n name)) b.by_name-is
          ∙ kept_on m m k id rest (search rules) name
    ]
    ∙ ap (λ qs. without (has_name qs name) id (under m name)) (sym all)
