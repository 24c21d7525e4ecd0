use Rattle.std.proofs.Common.{ℕ, List, nat_eq, sym, ap, ◌∙◌}
use Rattle.std.proofs.Math.ListN.{drop_of_length-le}
use Rattle.std.specs.Cmp.Lexicographic.{pointwise}
use Rattle.indexmap.specs.IndexSet.{insert_all}
use Rattle.watchdog_window.proofs.Names.{all_names}
use Rattle.watchdog_window.proofs.observers.Observers.of.Goals as goal

pub returns : goal.returns
returns c =
    let rest = drop_of_length-le c.args.names.now c.loop-name-test.false in
    sym (ap (λ (ys : List (List ℕ)). insert_all (pointwise nat_eq) c.loop-name.registered.keys ys) rest) ∙ c.loop-name.invariant
    ∙ all_names c.args.names.now c.requires.distinct
