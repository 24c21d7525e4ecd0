-- The tests of rollback sessions decide them: `undone_decide`.
use Rattle.std.proofs.Common.{◌≡◌, Bool, true, false, not}
use Rattle.std.proofs.Common.{List, map, Option, Some, None, sym, ap, subst, ◌∙◌, refl}
use Rattle.std.proofs.Common.{Decides}
use Rattle.std.proofs.lemmas.Bool.Decides.{Decides-and}
use Rattle.std.proofs.lemmas.Slice.Eq.{slice_eq-Decides}
use Rattle.apex_base.specs.declared.numbers.SessionId.{SessionId}
use Rattle.apex_base.specs.declared.records.Kind.{Kind}
use Rattle.apex_base.specs.declared.records.Kind.TheVariants.{Plain, WithRollback, RollbackOf}
use Rattle.apex_base.specs.declared.records.Record.{Record}
use Rattle.apex_base.specs.Commit.{rollback_id, part_before}
use Rattle.apex_base.specs.Rollbacks.{is_committed}
use Rattle.apex_base.specs.Sessions.{session_of}
use Rattle.apex_world.specs.Decided.{is_rollback_session, has_undone, is_kind_of, undoes_it}
use Rattle.apex_world.specs.Decided.{have_rollback_sessions}
use Rattle.apex_world.specs.Lawful.{is_verified, IsRollbackSession, HaveRollbackSessions}
use Rattle.world_facts.proofs.facts.DecidedTests.{itself, every, implies_decides}
use Rattle.world_facts.proofs.facts.DecidedTests.{id_decides, part_decides}

-- the test that another fails
not_verified : (b : Bool) → Decides (not b) (b ≡ false)
not_verified true = (λ e. absurd (cc), λ e. absurd (cc))
not_verified false = (λ e. refl, λ e. refl)

-- the test of a rollback session decides that it is that of this one
session_decides : (ss : List Record) (x r : Record)
    → Decides (is_rollback_session ss r (Some x)) (IsRollbackSession ss x r)
session_decides ss x r =
    let d = Decides-and _ _ (itself (is_committed x.rollback))
    (Decides-and _ _ (not_verified (is_verified r.state))
    (Decides-and _ _ (id_decides r.id (rollback_id x.id))
    (Decides-and _ _ (slice_eq-Decides id_decides r.children (map rollback_id x.children) _ refl)
    (slice_eq-Decides part_decides r.parts (map (part_before ss x) x.parts) _ refl)))) in (
      λ e. let (committed, (begun, (id, (children, parts)))) = d.0 e in
          record { committed = committed; begun = begun; id = id; children = children; parts = parts },
      λ h. d.1 (h.committed, (h.begun, (h.id, (h.children, h.parts)))),
    )

-- r is what the rollback of this session makes
abbrev IsOf : List Record → Record → Option Record → Type 0
IsOf ss r o = (x : Record) × (o ≡ Some x) × IsRollbackSession ss x r

-- the same where the other may not be there
of_decides : (ss : List Record) (r : Record) (o : Option Record) → Decides (is_rollback_session ss r o) (IsOf ss r o)
of_decides ss r None = (λ e. absurd (cc), λ h. let e = h.1 in absurd (cc))
of_decides ss r (Some x) =
    let d = session_decides ss x r in (
      λ e. (x, refl, d.0 e),
      λ h. let e = h.1 in let same : h.0 ≡ x = cc in d.1 (subst (λ (x : Record). IsRollbackSession ss x r) same h.2),
    )

-- where a session is of the kind that undoes, it is what that rollback makes
abbrev GoesBack : List Record → Record → Kind → Type 0
GoesBack ss r kind = (id : SessionId) → kind ≡ RollbackOf id → IsOf ss r (session_of ss id)

-- the test of a kind decides that a rollback session goes back
back_decides : (ss : List Record) (r : Record) (kind : Kind) → Decides (has_undone ss r kind) (GoesBack ss r kind)
back_decides ss r Plain = (λ e id k. absurd (cc), λ h. refl)
back_decides ss r WithRollback = (λ e id k. absurd (cc), λ h. refl)
back_decides ss r (RollbackOf y) =
    let d = of_decides ss r (session_of ss y) in (
      λ e id k. let same : y ≡ id = cc in subst (λ (id : SessionId). IsOf ss r (session_of ss id)) same (d.0 e),
      λ h. d.1 (h y refl),
    )

-- the test of the session that a kind undoes
undoing_decides : (x : SessionId) (kind : Kind) → Decides (is_kind_of x kind) (kind ≡ RollbackOf x)
undoing_decides x Plain = (λ e. absurd (cc), λ e. absurd (cc))
undoing_decides x WithRollback = (λ e. absurd (cc), λ e. absurd (cc))
undoing_decides x (RollbackOf y) =
    let d = id_decides x y in
    (λ e. ap (λ (x : SessionId). RollbackOf x) (sym (d.0 e)), λ e. let same : y ≡ x = cc in d.1 (sym same))

-- the test of what undoes a session decides that there is such
undoes_decides : (x : SessionId) (o : Option Record)
    → Decides (undoes_it x o) ((r : Record) × (o ≡ Some r) × (r.kind ≡ RollbackOf x))
undoes_decides x None = (λ e. absurd (cc), λ h. let e = h.1 in absurd (cc))
undoes_decides x (Some r) =
    let d = undoing_decides x r.kind in (
      λ e. (r, refl, d.0 e),
      λ h. let e = h.1 in let same : h.0 ≡ r = cc in d.1 (ap (λ (r : Record). r.kind) (sym same) ∙ h.2),
    )

-- the test of all rollback sessions decides them
pub undone_decide : (ss : List Record) → Decides (have_rollback_sessions ss) (HaveRollbackSessions ss)
undone_decide ss =
    let d = Decides-and _ _ (every _ (λ r. GoesBack ss r r.kind) ss (λ r h. back_decides ss r r.kind))
    (every _ _ ss (λ x h. implies_decides _ _ (itself (is_committed x.rollback))
    (undoes_decides x.id (session_of ss (rollback_id x.id))))) in (
      λ e. let (back, forth) = d.0 e in record { back = λ r id h. back r h id; forth = forth },
      λ h. d.1 (λ r i id. h.back r id i, h.forth),
    )
