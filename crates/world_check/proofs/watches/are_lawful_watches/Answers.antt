use Rattle.std.proofs.Common.{ℕ, ◌*◌, Bool, Decides, sym, ap, subst}
use Rattle.apex_world.specs.Opened.{opened}
use Rattle.world_check.specs.LawfulParts.{HasLawfulWatches}
use Rattle.world_check.proofs.WatchCounts.{watches_decided}
use Rattle.world_check.proofs.watches.are_lawful_watches.Goals as goal

pub returns : goal.returns
returns c =
    let m = c.args.rows.now in
    let scale = c.args.scale in
    subst (λ (b : Bool). Decides b (HasLawfulWatches (opened m scale))) (sym c.are_within.ensures)
    (watches_decided m scale c.requires.right (8 * c.modules.result) (ap (λ (n : ℕ). 8 * n) c.modules.ensures))
