use Rattle.std.proofs.Common.{◌≡◌, Decides, sym, ◌∙◌}
use Rattle.std.proofs.lemmas.Bool.{true≢false}
use Rattle.std.proofs.lemmas.Result.{IfOk-weaker}
use Rattle.apex_world.specs.Decided.{have_rollback_sessions}
use Rattle.session_check.specs.LawfulSessions.{AreLawfulSessions}
use Rattle.session_check.proofs.Lawfulness.{dated, lawful_decides, lawful_apart}
use Rattle.session_check.proofs.check.are_lawful.Goals as goal

pub have_rollback_sessions-requires : goal.have_rollback_sessions-requires
have_rollback_sessions-requires c =
    dated c.args.boots c.args.sessions.now c.requires (c.in_ok-are_apart.ensures.0 c.if-branch.true)

pub returns-then-branch : goal.returns-then-branch
returns-then-branch c =
    IfOk-weaker c.have_rollback_sessions.result (λ b. b ≡ have_rollback_sessions c.args.sessions.now)
    (λ b. Decides b (AreLawfulSessions c.args.boots c.args.sessions.now))
    (lawful_decides c.args.boots c.args.sessions.now c.requires (c.in_ok-are_apart.ensures.0 c.if-branch.true))
    c.have_rollback_sessions.ensures

pub returns-else-branch : goal.returns-else-branch
returns-else-branch c = (
  λ e. absurd (true≢false (sym e)),
  λ l. sym c.if-branch.false ∙ c.in_ok-are_apart.ensures.1 (lawful_apart c.args.boots c.args.sessions.now c.requires l),
)
