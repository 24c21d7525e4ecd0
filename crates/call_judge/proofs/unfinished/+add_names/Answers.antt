use Rattle.std.proofs.Common.{◌-◌, List, Some, None, take, drop, length, cond, sym, ap, ◌∙◌, rules}
use Rattle.std.specs.Option.{option_or}
use Rattle.apex_base.specs.declared.records.Part.{Part}
use Rattle.call_judge.specs.Unfinished.{under, has_name}
use Rattle.call_judge.proofs.NamedSessions.{added_first, added_again, rest_is}
use Rattle.call_judge.proofs.NamedSessions.{then_on}
use Rattle.call_judge.proofs.unfinished.+add_names.Goals.{then-is_none+in_ok-insert, else-is_none}
use Rattle.call_judge.proofs.unfinished.+add_names.Goals as goal

pub returns : goal.returns
returns t c =
    let ps : List Part = c.args.parts.now in
    let rest = take (length ps - 1) (drop 1 ps) in
    let all = rest_is ps c.p-item.result c.in-len1-up.len_at_least c.p-item.is in
    let m = c.args.by_name.now in
    let id = c.args.id in
    let k = c.p-item.result.name in
    then_on c.add_names.result (λ ensured name.
    ensured name
    ∙ elim c.if-is_none.branch [
      | then-is_none+in_ok-insert b ↦ ap (λ n. option_or (under n name) (cond (has_name rest name) (Some id) None)) b.by_name-is
          ∙ added_first m b.insert.new.self k id rest (search rules) b.in_ok-insert.ensures.updates.0 name
      | else-is_none b ↦ ap (λ n. option_or (under n name) (cond (has_name rest name) (Some id) None)) b.by_name-is
          ∙ added_again m m k id rest (search rules) name
    ]
    ∙ ap (λ qs. option_or (under m name) (cond (has_name qs name) (Some id) None)) (sym all)) c.add_names.ensures
