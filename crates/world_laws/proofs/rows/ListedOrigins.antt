-- Where a boot brings data back from, and whose data it puts by, is found in one pass over the sessions. Callers want
-- `sources_listed` and `snapshots_by_rollbacks`.
use Rattle.std.proofs.Common.{◌≡◌, ℕ, Bool, true, false, cond, eqb, ◌&&◌, ◌||◌, List, [], ◌∷◌, ◌++◌, map, Option}
use Rattle.std.proofs.Common.{Some, None, sym, ap, ◌∙◌, refl, inl, inr}
use Rattle.std.specs.Prelude.{not, find}
use Rattle.std.specs.List.{list_any}
use Rattle.std.specs.Option.{option_map}
use Rattle.std.specs.Str.{bytes_eq}
use Rattle.apex_base.specs.declared.numbers.SessionId.{SessionId}
use Rattle.apex_base.specs.declared.records.Kind.{Kind}
use Rattle.apex_base.specs.declared.records.Kind.TheVariants.{Plain, WithRollback, RollbackOf}
use Rattle.apex_base.specs.declared.records.Part.{Part}
use Rattle.apex_base.specs.declared.records.Record.{Record}
use Rattle.apex_base.specs.declared.records.RollbackState.{RollbackState}
use Rattle.apex_base.specs.declared.records.RollbackState.TheVariants.{Enabling, Available, Committed, Deleted}
use Rattle.apex_base.specs.declared.records.State.TheVariants as state
use Rattle.apex_base.specs.Commit.{rolls_back, rollback_id}
use Rattle.apex_base.specs.Held.{is_available}
use Rattle.apex_base.specs.Keys.{Key, SnapshotOf, PreRestoreOf}
use Rattle.apex_base.specs.Members.{In}
use Rattle.apex_base.specs.Rollbacks.{is_enabling}
use Rattle.apex_base.specs.Sessions.{names, session_of}
use Rattle.apex_base.proofs.SessionLemmas.{of_in, of_map}
use Rattle.apex_world.specs.declared.calls.BootOrder.{BootOrder}
use Rattle.apex_world.specs.Boot.{become}
use Rattle.world_laws.specs.DataOrigins.{Origin, Snapshot, PreRestore, origin_by, named_origins, origins, origin_of}
use Rattle.world_laws.specs.DataOrigins.{key_from, SourcesAreListed, SnapshotsGoByRollbacks}
use Rattle.apex_world.specs.Restore.{became}
use Rattle.apex_world.specs.Rows.{is_staged_session, may_happen}
use Rattle.world_laws.specs.RowsBooted.{brought_by, brought_to, or_key, source_of}
use Rattle.apex_world.specs.Selection.{Mounts, cause_of}
use Rattle.apex_world.specs.World.{World}
use Rattle.world_laws.proofs.alike.BootFades.{turn_staged}
use Rattle.world_laws.proofs.meaning.BootSessions.{become_keeps}
use Rattle.world_laws.proofs.meaning.BootTurns.{turns}

abbrev Named : Type 0
Named = List ℕ × Origin

-- Where data comes from

-- the key that an origin gives
abbrev key_of_origin : Option Origin → List ℕ → List ℕ → Option Key
key_of_origin None name key = None
key_of_origin (Some o) name key = Some (key_from (Some o) name key)

two : (a b : Bool) (x : SessionId) (id : SessionId) (name key : List ℕ)
    → cond a (Some (SnapshotOf x name key)) (cond b (Some (PreRestoreOf id name key)) None)
    ≡ key_of_origin (cond a (Some (Snapshot x)) (cond b (Some (PreRestore id)) None)) name key
two true b x id name key = refl
two false true x id name key = refl
two false false x id name key = refl

brought_origin : (k : Kind) (old new : Record) (name key : List ℕ)
    → brought_by k old new name key ≡ key_of_origin (origin_by k old new) name key
brought_origin Plain old new name key = refl
brought_origin WithRollback old new name key = refl
brought_origin (RollbackOf x) old new name key =
    two (became state.Activated old new) (became state.Reverted old new) x old.id name key

-- the origin of a name, if one of the parts has it
abbrev origin_if : Bool → Option Origin → Option Origin
origin_if b o = cond b o None

-- the key of the first entry of a name, or another key
abbrev key_else : Option Origin → Key → List ℕ → List ℕ → Key
key_else o k name key = or_key (key_of_origin o name key) k

found_if : (b c : Bool) (name key : List ℕ) (o : Origin) (p : Part) (rest : Option Named) (k : Key)
    → key_from (option_map (λ (e : Named). e.1) rest) name key ≡ key_else (origin_if c (Some o)) k name key
    → key_from (option_map (λ (e : Named). e.1) (cond b (Some (p.name, o)) rest)) name key
    ≡ key_else (origin_if (b || c) (Some o)) k name key
found_if true c name key (Snapshot x) p rest k e = refl
found_if true c name key (PreRestore x) p rest k e = refl
found_if false c name key o p rest k e = e

-- the origins of a session's parts come before those of the sessions after it
parts_first : (ps : List Part) (o : Origin) (es : List Named) (name key : List ℕ)
    → key_from (origin_of (map (λ (p : Part). (p.name, o)) ps ++ es) name) name key
    ≡ key_else (origin_if (list_any (λ p. bytes_eq p.name name) ps) (Some o)) (key_from (origin_of es name) name key)
    name key
parts_first [] o es name key = refl
parts_first (p ∷ ps) o es name key =
    found_if (bytes_eq p.name name) (list_any (λ p. bytes_eq p.name name) ps) name key o p
    (find (λ (e : Named). bytes_eq e.0 name) (map (λ (p : Part). (p.name, o)) ps ++ es))
    (key_from (origin_of es name) name key) (parts_first ps o es name key)

none_if : (b : Bool) (k : Key) (name key : List ℕ) → k ≡ key_else (origin_if b None) k name key
none_if true k name key = refl
none_if false k name key = refl

session_first : (ps : List Part) (o : Option Origin) (es : List Named) (name key : List ℕ)
    → key_from (origin_of (named_origins ps o ++ es) name) name key
    ≡ key_else (origin_if (list_any (λ p. bytes_eq p.name name) ps) o) (key_from (origin_of es name) name key) name key
session_first ps None es name key = none_if (list_any (λ p. bytes_eq p.name name) ps)
    (key_from (origin_of es name) name key) name key
session_first ps (Some o) es name key = parts_first ps o es name key

cond_origin : (b : Bool) (o : Option Origin) (name key : List ℕ)
    → key_of_origin (origin_if b o) name key ≡ cond b (key_of_origin o name key) None
cond_origin true o name key = refl
cond_origin false o name key = refl

module _ (f : Record → Record) (after : List Record) (name key : List ℕ) where
  -- sessions that are found afterwards as what they have become
  listed : (rs : List Record) → ((r : Record) → In r rs → session_of after r.id ≡ Some (f r))
      → source_of rs after name key ≡ key_from (origin_of (origins f rs) name) name key
  listed [] found = refl
  listed (r ∷ rs) found =
      let o : Option Origin = origin_by r.kind r (f r) in
      let rest = listed rs (λ s h. found s (inr h)) in
      ap (λ (s : Option Record). or_key (brought_to r s name key) (source_of rs after name key)) (found r (inl refl))
      ∙ ap (λ (k : Option Key). or_key (cond (names name r) k None) (source_of rs after name key))
      (brought_origin r.kind r (f r) name key)
      ∙ ap (λ (k : Option Key). or_key k (source_of rs after name key)) (sym (cond_origin (names name r) o name key))
      ∙ ap (key_else_with (origin_if (names name r) o)) rest
      ∙ sym (session_first r.parts o (origins f rs) name key)
    where
      key_else_with : Option Origin → Key → Key
      key_else_with o k = key_else o k name key

-- each value's source is by that of its name
pub sources_listed : SourcesAreListed
sources_listed f ss same ascend name key =
    listed f (map f ss) name key ss (λ r h. of_map f ss r.id same ∙ ap (option_map f) (of_in ss r ascend h))

-- Whose data is put by

may_if : (ss : List Record) (id : SessionId) (o : Option RollbackState)
    → (is_staged_session (session_of ss (rollback_id id)) ≡ false)
    → may_happen ss id o ≡ (is_enabling o || is_available o)
may_if ss id None none = refl
may_if ss id (Some Enabling) none = refl
may_if ss id (Some Available) none = refl
may_if ss id (Some Committed) none = none
may_if ss id (Some Deleted) none = refl

module _ (mounts : Mounts) (w : World) (order : BootOrder) (b : ℕ) where
  abbrev f : Record → Record
  f r = become mounts w.modules order b r

  not_staged : (o : Option Record) (rest : Bool) → is_staged_session (option_map f o) ≡ rest → rest ≡ false
  not_staged None rest e = sym e
  not_staged (Some r) true e = absurd (turn_staged (cause_of mounts w.modules order.image.modules r.parts) b r (f r)
      (turns mounts w.modules order b r) e)
  not_staged (Some r) false e = refl

  none_staged : (id : SessionId) → is_staged_session (session_of (map f w.sessions) id) ≡ false
  none_staged id =
      ap is_staged_session (of_map f w.sessions id (λ r. (become_keeps mounts w.modules order b r).id))
      ∙ not_staged (session_of w.sessions id) (is_staged_session (option_map f (session_of w.sessions id))) refl

-- what a session keeps goes by its own rollback
pub snapshots_by_rollbacks : SnapshotsGoByRollbacks
snapshots_by_rollbacks w order mounts b s =
    ap (λ (m : Bool). rolls_back s.kind && not (eqb s.activation 0) && m)
    (may_if (map (become mounts w.modules order b) w.sessions) s.id s.rollback
    (none_staged mounts w order b (rollback_id s.id)))
