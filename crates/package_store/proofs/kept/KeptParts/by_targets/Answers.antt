use Rattle.std.proofs.Common.{◌≡◌, List, Bool, false, fold, take, ap, ◌∙◌}
use Rattle.std.proofs.lemmas.List.{take_all}
use Rattle.apex_base.specs.declared.records.Record.{Record}
use Rattle.package_store.specs.Keeping.{keep_held, keep_for}
use Rattle.package_store.proofs.HeldNames.{Lists, lists}
use Rattle.package_store.proofs.KeptModules.{all_kept}
use Rattle.package_store.proofs.kept.KeptParts.by_targets.Goals as goal

pub returns : goal.returns
returns c =
    let records : List Record = c.args.records.now in
    let all : take c.loop-r.r-index records ≡ records =
    take_all c.loop-r.r-index records c.loop-r-test.false in
    let has : Lists records c.args.held.now.entries =
    lists records c.args.held.now c.requires.held c.add_held.ensures.ordered in
    λ session part.
    c.loop-r.invariant session part
    ∙ ap (fold (λ (noted : Bool) (r : Record). fold (keep_for records r session part) noted r.parts)
    (fold (keep_held session part) false c.args.held.now.entries)) all
    ∙ all_kept records session part c.args.held.now.entries has
