-- What a boot makes of the sessions of a lawful world: rollback sessions go back to where they went, since no boot
-- changes what a name held before a session that was a success. Callers want `undone_after`.
use Rattle.std.proofs.Common.{◌≡◌, ℕ, Bool, true, false, ◌&&◌, List, [], ◌∷◌, map, Some, sym, ap}
use Rattle.std.proofs.Common.{subst, ◌∙◌, refl}
use Rattle.std.specs.Prelude.{nat_lt}
use Rattle.std.proofs.lemmas.Bool.{false≢true}
use Rattle.apex_base.specs.declared.numbers.SessionId.{SessionId}
use Rattle.apex_base.specs.declared.records.Kind.TheVariants.{RollbackOf}
use Rattle.apex_base.specs.declared.records.Part.{Part}
use Rattle.apex_base.specs.declared.records.Record.{Record}
use Rattle.apex_base.specs.declared.records.State.{State}
use Rattle.apex_base.specs.declared.records.Target.{Target}
use Rattle.apex_base.specs.Commit.{rollback_id, target_version, part_before}
use Rattle.apex_base.specs.Held.{candidate, before, is_success}
use Rattle.apex_base.specs.Members.{In}
use Rattle.apex_base.specs.Rollbacks.{is_committed}
use Rattle.apex_base.specs.Sessions.{session_of}
use Rattle.apex_base.proofs.MemberLemmas.{in_map_back}
use Rattle.apex_world.specs.declared.calls.BootOrder.{BootOrder}
use Rattle.world_facts.specs.Follows.{IsKeptAs}
use Rattle.apex_world.specs.Lawful.{Lawful, IsRollbackSession, HaveRollbackSessions}
use Rattle.apex_world.specs.Selection.{Mounts}
use Rattle.apex_world.specs.World.{World}
use Rattle.world_laws.proofs.runs.BootLaws.{number, turn, after, cause_for, keeps, way, map_found, undone_success}
use Rattle.world_laws.proofs.meaning.BootRollbacks.{settles}
use Rattle.world_laws.proofs.runs.SessionMaps.{latest_map}
use Rattle.world_laws.proofs.runs.BootTurned.{turned_success, turned_from_success, turned_begun}

-- a session that stays counts for the same, and one that is no success for nothing
counts_as : (r s : Record) (n : ℕ) (name : List ℕ) (b : Bool) → is_success r.state ≡ b → s.parts ≡ r.parts
    → (is_success r.state ≡ true → (s.state ≡ r.state) × (s.activation ≡ r.activation))
    → (is_success s.state ≡ true → is_success r.state ≡ true)
    → candidate (is_success s.state && nat_lt s.activation n) name s
    ≡ candidate (is_success r.state && nat_lt r.activation n) name r
counts_as r s n name true e parts stays comes =
    let (f, g) = stays e in
    ap (λ (t : State). candidate (is_success t && nat_lt s.activation n) name s) f
    ∙ ap (λ (a : ℕ). candidate (is_success r.state && nat_lt a n) name (record s { activation = a })) g
    ∙ ap (λ (ps : List Part). candidate (is_success r.state && nat_lt r.activation n) name
    (record r { parts = ps })) parts
counts_as r s n name false e parts stays comes =
    let none : is_success s.state ≡ false = not_so (is_success s.state) (λ f. false≢true (sym e ∙ comes f)) in
    ap (λ (b : Bool). candidate (b && nat_lt s.activation n) name s) none
    ∙ ap (λ (b : Bool). candidate (b && nat_lt r.activation n) name r) (sym e)
  where
    not_so : (b : Bool) → (b ≡ true → ⊥) → b ≡ false
    not_so true d = absurd (d refl)
    not_so false d = refl

-- Boots

module _ (w : World) (law : Lawful w) (order : BootOrder) (mounts : Mounts) where
  abbrev step : Record → Record
  step = turn w law order mounts

  abbrev steps : List Record
  steps = after w law order mounts

  kept : (r : Record) → IsKeptAs r (step r)
  kept r = keeps w law order mounts r

  success_stays : (r : Record) → is_success r.state ≡ true
      → ((step r).state ≡ r.state) × ((step r).activation ≡ r.activation)
  success_stays r e = turned_success (cause_for w law order mounts r) (number w law order mounts) r (step r) e
      (way w law order mounts r)

  success_comes : (r : Record) → is_success (step r).state ≡ true → is_success r.state ≡ true
  success_comes r e = turned_from_success (cause_for w law order mounts r) (number w law order mounts) r (step r) e
      (way w law order mounts r)

  -- what a name held before a success, it held before the boot too
  pub before_same : (x : Record) (name : List ℕ) → is_success x.state ≡ true
      → before steps (step x) name ≡ before w.sessions x name
  before_same x name e =
      let same = (success_stays x e).1 in
      latest_map (λ r. is_success r.state && nat_lt r.activation x.activation)
      (λ r. is_success r.state && nat_lt r.activation (step x).activation) name step w.sessions
      (λ r h. ap (λ (n : ℕ). candidate (is_success (step r).state && nat_lt (step r).activation n) name (step r)) same
      ∙ counts_as r (step r) x.activation name (is_success r.state) refl (kept r).parts (success_stays r)
      (success_comes r))

  part_same : (x : Record) (p : Part) → is_success x.state ≡ true
      → part_before steps (step x) p ≡ part_before w.sessions x p
  part_same x p e = ap (λ (t : Target). record { name = p.name; version = target_version t; target = t })
      (before_same x p.name e)

  parts_same : (x : Record) (ps : List Part) → is_success x.state ≡ true
      → map (part_before steps (step x)) ps ≡ map (part_before w.sessions x) ps
  parts_same x [] e = refl
  parts_same x (p ∷ ps) e =
      ap (λ (q : Part). q ∷ map (part_before steps (step x)) ps) (part_same x p e)
      ∙ ap (λ (qs : List Part). part_before w.sessions x p ∷ qs) (parts_same x ps e)

  committed_same : (r : Record) → is_committed (step r).rollback ≡ is_committed r.rollback
  committed_same r = (settles mounts w.modules order (number w law order mounts) r).committed

  still_undoes : (x r : Record) → is_success x.state ≡ true → IsRollbackSession w.sessions x r
      → IsRollbackSession steps (step x) (step r)
  still_undoes x r e is = record {
    committed = committed_same x ∙ is.committed;
    begun = turned_begun (cause_for w law order mounts r) (number w law order mounts) r (step r) is.begun
        (way w law order mounts r);
    id = (kept r).id ∙ is.id ∙ ap rollback_id (sym (kept x).id);
    children = (kept r).children ∙ is.children ∙ ap (map rollback_id) (sym (kept x).children);
    parts = (kept r).parts ∙ is.parts ∙ sym (parts_same x x.parts e)
        ∙ ap (map (part_before steps (step x))) (sym (kept x).parts);
  }

  back_after : (s : Record) (id : SessionId) → In s steps → s.kind ≡ RollbackOf id
      → (x : Record) × (session_of steps id ≡ Some x) × IsRollbackSession steps x s
  back_after s id h kind =
      let (r, i, e) = in_map_back step s w.sessions h in
      let kind' : r.kind ≡ RollbackOf id = sym (kept r).kind ∙ ap (λ (s : Record). s.kind) e ∙ kind in
      let (x, found, is) = law.undone.back r id i kind' in (
        step x,
        map_found step w.sessions (keeps w law order mounts) id x found,
        subst (IsRollbackSession steps (step x)) e
            (still_undoes x r (undone_success w law order mounts r id x i kind' found) is),
      )

  forth_after : (x : Record) → In x steps → is_committed x.rollback ≡ true
      → (r : Record) × (session_of steps (rollback_id x.id) ≡ Some r) × (r.kind ≡ RollbackOf x.id)
  forth_after x h e =
      let (y, i, f) = in_map_back step x w.sessions h in
      let id : y.id ≡ x.id = sym (kept y).id ∙ ap (λ (s : Record). s.id) f in
      let (r, found, kind) = law.undone.forth y i (sym (committed_same y)
      ∙ ap (λ (s : Record). is_committed s.rollback) f ∙ e) in (
        step r,
        map_found step w.sessions (keeps w law order mounts) (rollback_id x.id) r
            (ap (λ (id : SessionId). session_of w.sessions (rollback_id id)) (sym id) ∙ found),
        (kept r).kind ∙ kind ∙ ap (λ (id : SessionId). RollbackOf id) id,
      )

  pub undone_after : HaveRollbackSessions steps
  undone_after = record { back = back_after; forth = forth_after }
