use Rattle.std.proofs.Common.{◌≡◌, ℕ, ap, sym, ◌∙◌, rules}
use Rattle.std.specs.List.{list_any}
use Rattle.apex_base.specs.Held.{is_module}
use Rattle.apex_base.specs.Sessions.{session_of}
use Rattle.row_check.proofs.OwnParts.{own_found, none_own}
use Rattle.row_check.proofs.files.has_own.Goals as goal

pub returns-in-Some : goal.returns-in-Some
returns-in-Some c =
    let is : c.args.id.0 ≡ c.from.result = search rules in
    let own : c.is_own.result ≡ list_any (λ p. is_module c.args.id c.args.part p.target) c.in-Some.r.now.parts =
    rw c.as_slice.ensures at c.is_own.ensures in
    own ∙ own_found c.args.sessions.now c.args.id c.args.part c.requires c.in-Some.r.now
    (ap (λ (n : ℕ). session_of c.args.sessions.now (record { 0 = n })) is ∙ sym c.in-Some.ensures)

pub returns-in-None : goal.returns-in-None
returns-in-None c =
    let is : c.args.id.0 ≡ c.from.result = search rules in
    none_own c.args.sessions.now c.args.id c.args.part c.requires
    (ap (λ (n : ℕ). session_of c.args.sessions.now (record { 0 = n })) is ∙ sym c.in-None.ensures)
