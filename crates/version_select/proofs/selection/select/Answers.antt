use Rattle.std.proofs.Common.{◌≡◌, map, sym, subst}
use Rattle.std.proofs.lemmas.Result.{IfOk-weaker}
use Rattle.version_select.specs.Kept.{pick_of}
use Rattle.version_select.specs.Selecting.{ArePicks}
use Rattle.version_select.proofs.Picks.{picks_of_kept}
use Rattle.version_select.proofs.selection.select.Goals as goal

pub returns : goal.returns
returns c =
    let candidates = c.args.candidates.now in
    let entries = c.in_ok-choices.choices.entries in
    IfOk-weaker c.picks_of.result (λ picks. picks.items ≡ map pick_of entries)
    (λ picks. ArePicks candidates picks.items)
    (λ picks e. subst (ArePicks candidates) (sym e)
    (picks_of_kept candidates entries c.in_ok-choices.ensures c.picks_of.ensures.ascending)) c.picks_of.ensures.picks
