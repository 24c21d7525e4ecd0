-- What a commit makes of each session. Callers want `Ways` and what follows from it.
use Rattle.std.proofs.Common.{◌≡◌, Bool, true, false, cond, eqb, Some, sym}
use Rattle.std.proofs.Common.{ap, subst, ◌∙◌, refl}
use Rattle.std.proofs.lemmas.Bool.{false≢true, and_parts, or_right, eqb-true}
use Rattle.apex_base.specs.declared.records.Record.{Record}
use Rattle.apex_base.specs.declared.records.RollbackState.TheVariants.{Committed}
use Rattle.apex_base.specs.Commit.{rollback_id, is_waiting, is_superseded, superseded}
use Rattle.apex_base.specs.Commit.{after_commit}
use Rattle.apex_base.specs.Held.{is_undoable, is_available, is_staged}
use Rattle.apex_base.specs.Sessions.{shares}
use Rattle.world_laws.proofs.alike.AlikeAfter.{IsLike}
use Rattle.world_facts.proofs.facts.KeptLess.{Goes}
use Rattle.world_laws.proofs.alike.MovesAlike.{goes_self}
use Rattle.world_laws.proofs.alike.OrderedAfter.{IsUnder, under_self}
use Rattle.world_laws.proofs.meaning.RollbackStates.{settles_not_enabled}
use Rattle.world_facts.proofs.facts.StateFacts.{waits_no_success}

-- the commit of x leaves a session, or marks x, or fails one that waits
pub data Ways (x r s : Record) : Type 0 where
  Marks : r.id.0 ≡ x.id.0 → s ≡ record r { rollback = Some Committed } → Ways x r s
  GivesWay : is_waiting r.state ≡ true → s ≡ superseded (rollback_id x.id) r → Ways x r s
  Leaves : s ≡ r → Ways x r s

ways_if : (a b : Bool) (x r : Record) → eqb r.id.0 x.id.0 ≡ a → is_superseded x r ≡ b
    → Ways x r (cond a (record r { rollback = Some Committed }) (cond b (superseded (rollback_id x.id) r) r))
ways_if true b x r e f = Marks (eqb-true r.id.0 x.id.0 e) refl
ways_if false true x r e f = GivesWay (and_parts (is_waiting r.state) (shares x r) f).0 refl
ways_if false false x r e f = Leaves refl

-- each session goes one of these ways
pub ways : (x r : Record) → Ways x r (after_commit x r)
ways x r = ways_if (eqb r.id.0 x.id.0) (is_superseded x r) x r refl refl

-- What stays of a session

-- its id, kind, parts and activation boot stay
pub ways_like : (x r s : Record) → Ways x r s → IsLike r s
ways_like x r s (Marks e f) =
    subst (IsLike r) (sym f) (record { id = refl; kind = refl; parts = refl; activation = refl })
ways_like x r s (GivesWay e f) =
    subst (IsLike r) (sym f) (record { id = refl; kind = refl; parts = refl; activation = refl })
ways_like x r s (Leaves f) =
    subst (IsLike r) (sym f) (record { id = refl; kind = refl; parts = refl; activation = refl })

-- it stands only if it stood
pub ways_under : (x r s : Record) → Ways x r s → IsUnder r s
ways_under x r s (Marks e f) = subst (IsUnder r) (sym f) (record {
  id = refl;
  parts = refl;
  activation = refl;
  stands = λ e. e;
  undoable = λ e. e;
})
ways_under x r s (GivesWay e f) = subst (IsUnder r) (sym f) (record {
  id = refl;
  parts = refl;
  activation = refl;
  stands = λ e. absurd (false≢true e);
  undoable = λ e. absurd (false≢true e);
})
ways_under x r s (Leaves f) = subst (IsUnder r) (sym f) (under_self r)

-- no more of its modules is kept
pub ways_goes : (x r s : Record) → Ways x r s → Goes r s
ways_goes x r s (Marks e f) = subst (Goes r) (sym f) (record {
  parts = refl;
  unfinished = λ e. e;
  stays = λ e. (e, refl);
  came = (goes_self r).came;
  available = λ e. absurd (false≢true e);
})
ways_goes x r s (GivesWay e f) = subst (Goes r) (sym f) (record {
  parts = refl;
  unfinished = λ e. absurd (false≢true e);
  stays = λ s. absurd (false≢true (sym (waits_no_success r.state e) ∙ s));
  came = λ e. absurd (false≢true e);
  available = λ e. let was = (settles_not_enabled r.rollback).available e in
      (or_right (is_undoable r.state) (is_available r.rollback) was, refl);
})
ways_goes x r s (Leaves f) = subst (Goes r) (sym f) (goes_self r)

-- it is ready only if it was ready
pub staged_back : (x r s : Record) → Ways x r s → is_staged s.state ≡ true → is_staged r.state ≡ true
staged_back x r s (Marks e f) u = ap (λ (s : Record). is_staged s.state) (sym f) ∙ u
staged_back x r s (GivesWay e f) u = absurd (false≢true (ap (λ (s : Record). is_staged s.state) (sym f) ∙ u))
staged_back x r s (Leaves f) u = ap (λ (s : Record). is_staged s.state) (sym f) ∙ u
