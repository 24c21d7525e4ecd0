use Rattle.std.proofs.Common.{◌≡◌, ◌++◌, ◌∷◌, [], ℕ, List, ap, sym, subst, ◌∙◌}
use Rattle.world_check.specs.DataRows.{Adds, boot_of}
use Rattle.world_check.proofs.RunSteps.{boots_on, boots_more}
use Rattle.world_check.proofs.data.add_boot.Goals as goal

pub returns-then-eq : goal.returns-then-eq
returns-then-eq c =
    boots_on c.args.sessions.now c.args.last.now c.args.key.now c.args.boots.now.items c.in-Some.front.now
    (sym c.in-Some.ensures) (sym c.eq.ensures ∙ c.if-eq.true)

pub returns : goal.returns
returns c =
    let ss = c.args.sessions.now in
    let front = c.in-Some.front.now in
    let before = c.args.boots.now.items in
    let items : c.push.new.self.items ≡ before ++ boot_of ss front ∷ [] =
    c.in_ok-push.ensures.items ∙ ap (λ (b : ℕ). before ++ b ∷ []) c.boot_of.ensures in
    subst (λ (after : List ℕ). Adds ss c.args.last.now c.args.key.now before front after) (sym items)
    (boots_more ss c.args.last.now c.args.key.now before front (sym c.in-Some.ensures)
    (sym c.eq.ensures ∙ c.if-eq.false))
