use Rattle.std.proofs.Common.{ℕ, ◌≤◌, ◌≡◌, Bool, Decides, sym, subst}
use Rattle.world_check.specs.DataRows.{counted, same_boot}
use Rattle.world_check.specs.Runs.{are_light, key_weight}
use Rattle.world_check.proofs.BootCounts.{few_decided}
use Rattle.world_check.proofs.data.are_few.Goals as goal

pub returns : goal.returns
returns c =
    let before = c.args.boots.items in
    let after = c.sort_unstable.new.self.items in
    let most = c.args.most in
    let told : c.are_few_sorted.result ≡ are_light same_boot most 0 0 (counted after) =
    rw c.as_slice.ensures.value at c.are_few_sorted.ensures in
    subst (λ (b : Bool). Decides b ((boot : ℕ) → key_weight same_boot boot (counted before) ≤ most)) (sym told)
    (few_decided most before after c.sort_unstable.ensures.permutation c.sort_unstable.ensures.sorted)
