-- The call of a commit keeps a world running. Callers want `committable_eligible` and `commit_running`.
use Rattle.std.proofs.Common.{◌≡◌, ℕ, Bool, true, ◌&&◌, List, [], ◌∷◌, find, Option, Some, None}
use Rattle.std.proofs.Common.{Result, Ok, Err, ap, subst, refl, inl, inr}
use Rattle.std.specs.Prelude.{not}
use Rattle.std.proofs.lemmas.Bool.{and_parts, and_from, false_from_ne_true}
use Rattle.apex_base.specs.declared.numbers.SessionId.{SessionId}
use Rattle.apex_base.specs.declared.records.Part.{Part}
use Rattle.apex_base.specs.declared.records.Record.{Record}
use Rattle.apex_base.specs.declared.refusal.Refusal.{Refusal}
use Rattle.apex_base.specs.Commit.{rollback_id, committed, with_rollback_only, not_available}
use Rattle.apex_base.specs.Commit.{in_use, first_in_use}
use Rattle.apex_base.specs.Held.{is_undoable, is_available}
use Rattle.apex_base.specs.Members.{In}
use Rattle.apex_base.specs.Results.{◌>>=◌}
use Rattle.apex_base.specs.Rollbacks.{is_eligible, is_in_use}
use Rattle.apex_base.specs.Sessions.{names, shares, session_of}
use Rattle.apex_base.proofs.Finding.{finds}
use Rattle.apex_base.proofs.MemberLemmas.{any_in, in_any}
use Rattle.apex_world.specs.declared.calls.Reply.TheVariants as reply
use Rattle.apex_world.specs.Report.{committable, commit}
use Rattle.apex_world.specs.Running.{Running}
use Rattle.apex_world.specs.Stepped.{answered}
use Rattle.apex_world.specs.Submit.{pass, image_print}
use Rattle.apex_world.specs.World.{World}
use Rattle.world_laws.proofs.meaning.CallStays.{chosen}
use Rattle.world_laws.proofs.runs.CommitRuns.{committed_running}

-- What a commit that isn't refused commits

passed : {X : Type 0} (o : Option Refusal) (next : Result X Refusal) (x : X) → (pass o >>= λ u. next) ≡ Ok x
    → (o ≡ None) × (next ≡ Ok x)
passed None next x e = (refl, e)
passed (Some refusal) next x e = absurd (cc)

none_used : (name : List ℕ) (o : Option Record) (rest : Option Refusal) → in_use name o rest ≡ None
    → (o ≡ None) × (rest ≡ None)
none_used name None rest e = (refl, e)
none_used name (Some r) rest e = absurd (cc)

-- no session that can be undone names any of the parts
unused_part : (ss : List Record) (ps : List Part) → first_in_use ss ps ≡ None → (p : Part) → In p ps
    → find (λ (r : Record). is_undoable r.state && names p.name r) ss ≡ None
unused_part ss [] e p h = absurd h
unused_part ss (q ∷ ps) e p h =
    let both = none_used q.name (find (λ (r : Record). is_undoable r.state && names q.name r) ss)
    (first_in_use ss ps) e in
    elim h [
      | inl same ↦ subst (λ (p : Part). find (λ (r : Record). is_undoable r.state && names p.name r) ss ≡ None) same
          both.0
      | inr i ↦ unused_part ss ps both.1 p i
    ]

not_used : (ss : List Record) (x : Record) → first_in_use ss x.parts ≡ None → is_in_use ss x ≡ true → ⊥
not_used ss x e u =
    let (r, h, both) = any_in (λ (r : Record). is_undoable r.state && shares x r) ss u in
    let (undoable, sharing) = and_parts (is_undoable r.state) (shares x r) both in
    let (p, i, n) = any_in (λ (p : Part). names p.name r) x.parts sharing in
    let test : Record → Bool = λ s. is_undoable s.state && names p.name s in
    let (z, f) = finds test ss (in_any test r ss h (and_from (is_undoable r.state) (names p.name r) undoable n)) in
    let none = unused_part ss x.parts e p i in
    absurd (cc (none, f))

free_if : (ss : List Record) (id : SessionId) (x : Record) (o : Result Record Refusal)
    → (o >>= λ r. pass (not_available id r.rollback) >>= λ available. pass (first_in_use ss r.parts) >>=
    λ free. Ok r) ≡ Ok x → first_in_use ss x.parts ≡ None
free_if ss id x (Err refusal) f = absurd (cc)
free_if ss id x (Ok r) f =
    let p = passed (not_available id r.rollback) (pass (first_in_use ss r.parts) >>= λ free. Ok r) x f in
    let q = passed (first_in_use ss r.parts) (Ok r) x p.1 in
    let is : r ≡ x = ok_is r x q.1 in
    subst (λ (x : Record). first_in_use ss x.parts ≡ None) is q.0
  where
    ok_is : (r x : Record) → ◌≡◌ {A = Result Record Refusal} (Ok r) (Ok x) → r ≡ x
    ok_is r x e = cc

-- what can be committed is there, and is eligible
pub committable_eligible : (ss : List Record) (id : SessionId) (x : Record) → committable ss id ≡ Ok x
    → In x ss × (is_eligible ss x ≡ true)
committable_eligible ss id x e =
    let (h, available) = chosen ss id x e in
    let free = free_if ss id x (with_rollback_only id (session_of ss id)) e in (
      h,
      and_from (is_available x.rollback) (not (is_in_use ss x)) available
          (ap not (false_from_ne_true (is_in_use ss x) (not_used ss x free))),
    )

module _ (w : World) (run : Running w) (id : SessionId) where
  commit_if : (o : Result Record Refusal) → committable w.sessions id ≡ o
      → Running (answered w (o >>= λ x. Ok (record {
        world = record w { sessions = committed w.sessions x (image_print w.image) };
        reply = reply.Committed (rollback_id x.id);
      }))).world
  commit_if (Err refusal) e = run
  commit_if (Ok x) e = let (h, f) = committable_eligible w.sessions id x e in committed_running w run x h f

  -- the call of a commit
  pub commit_running : Running (commit w id).world
  commit_running = commit_if (committable w.sessions id) refl
