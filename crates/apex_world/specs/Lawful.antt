-- Which worlds boots and calls can lead to: docs/rows.md, "Lawful worlds". Calls and boots keep each of these.
use Rattle.std.specs.Prelude.{◌≡◌, ◌≢◌, ◌⊎◌, ℕ, ◌+◌, ◌<◌, ◌≤◌, ◌^◌, Bool, true, false, IsTrue, is_some, IfSome, List, [], ◌∷◌, length, map, slice_get, Option, Some, option_and_then, Ok}
use Rattle.std.specs.FinMap as fin
use Rattle.apex_base.specs.declared.numbers.Scale.{Scale}
use Rattle.apex_base.specs.declared.numbers.SessionId.{SessionId}
use Rattle.apex_base.specs.declared.records.Kind.TheVariants.{RollbackOf}
use Rattle.apex_base.specs.declared.records.Part.{Part}
use Rattle.apex_base.specs.declared.records.Record.{Record}
use Rattle.apex_base.specs.declared.records.State.{State}
use Rattle.apex_base.specs.declared.records.State.TheVariants as state
use Rattle.apex_base.specs.declared.records.Target.TheVariants as targets
use Rattle.apex_base.specs.Commit.{rollback_id, rolls_back, target_version, part_before, undoes, is_caller_id}
use Rattle.apex_base.specs.Held.{is_unfinished, is_undoable, is_available, is_standing, is_success, kept}
use Rattle.apex_base.specs.Members.{In, EachPair}
use Rattle.apex_base.specs.Modules.{FileMap, IsModule}
use Rattle.apex_base.specs.Ranges.{IsMillis}
use Rattle.apex_base.specs.Rollbacks.{is_enabling, is_committed}
use Rattle.apex_base.specs.Sessions.{has_id, names, session_of, Ascend}
use Rattle.apex_base.specs.Spelling.{IsRecord}
use Rattle.apex_base.specs.Tables.{Table, value_of}
use Rattle.apex_base.specs.Text.{is_name, is_print}
use Rattle.apex_world.specs.declared.calls.Image.{Image}
use Rattle.apex_world.specs.declared.world.Submission.{Submission}
use Rattle.apex_world.specs.Bounds.{IsWithinScale}
use Rattle.apex_world.specs.Orders.{IsImage}
use Rattle.apex_world.specs.Selection.{submitted_by}
use Rattle.apex_world.specs.Soundness.{checked}
use Rattle.apex_world.specs.World.{World, Contents, boots}

-- 0. Ranges: names are names, numbers are within their types

-- what stands in a table stands under names, and no first name stands for nothing
pub record IsTable {X : Type 0} (t : Table X) : Type 0 where
  pub first : (a b : List ℕ) (x : X) → value_of t a b ≡ Some x → IsTrue (is_name a)
  pub second : (a b : List ℕ) (x : X) → value_of t a b ≡ Some x → IsTrue (is_name b)
  pub some : (a : List ℕ) → IfSome (fin.get t a) (λ m. fin.len m ≢ 0)

-- an image as orders have it
pub record IsRunningImage (scale : Scale) (image : Image) : Type 0 where
  pub print : IsTrue (is_print image.print)
  pub modules : IsImage scale image

pub record AreInRange (w : World) : Type 0 where
  pub sessions : (r : Record) → In r w.sessions → IsRecord r
  pub modules : (s : Submission) → In s w.modules → IsModule s.content
  pub contents : IsTable w.contents
  pub eras : (contents : Contents) → In contents w.eras → IsTable contents
  pub moments : (m : ℕ) → In m w.moments → IsMillis m
  pub watches : IsTable w.watches
  -- an end is a moment and a duration
  pub ends : (observer name : List ℕ) (end : ℕ) → value_of w.watches observer name ≡ Some end → end ≤ 18014398509481982
  pub boots : boots w < 2 ^ 32
  pub clock : IsMillis w.clock
  pub image : IfSome w.image (IsRunningImage w.scale)
  pub observers : length w.observers ≤ 8

-- 1. Ids: sessions ascend, no two of all ids are the same, and what a caller submits has ids of callers

-- the id of a session, and those of its children
abbrev pub ids_of : Record → List SessionId
ids_of r = r.id ∷ r.children

pub record HaveIds (sessions : List Record) : Type 0 where
  pub ascend : Ascend sessions
  pub distinct : (r : Record) → In r sessions → EachPair (λ (a b : SessionId). a.0 ≢ b.0) (ids_of r)
  pub apart : (r s : Record) (id : SessionId) → In r sessions → In s sessions → r.id.0 ≢ s.id.0 → has_id id r ≡ true → has_id id s ≡ true → ⊥
  pub callers : (r : Record) (id : SessionId) → In r sessions → undoes r.kind ≡ false → In id (ids_of r) → IsTrue (is_caller_id id)

-- 2. Parts: one, or as many as children; each name once; an ordinary session's targets are its own modules

-- the targets from part k on
abbrev pub AreOwn : SessionId → ℕ → List Part → Type 0
AreOwn id k [] = Unit {0}
AreOwn id k (p ∷ ps) = ((version : ℕ) × (p.target ≡ targets.Module id k version)) × AreOwn id (k + 1) ps

pub record HasParts (r : Record) : Type 0 where
  pub count : ((r.children ≡ []) × (length r.parts ≡ 1)) ⊎ (length r.children ≡ length r.parts)
  pub few : length r.parts ≤ 16
  pub names : EachPair (λ (p q : Part). p.name ≢ q.name) r.parts
  pub own : undoes r.kind ≡ false → AreOwn r.id 0 r.parts
  pub versions : (p : Part) → In p r.parts → p.version ≡ target_version p.target

-- Sessions that share a name

abbrev pub AllPeers : (Record → Record → Type 0) → List Record → Type 0
AllPeers P sessions = (r s : Record) (name : List ℕ) → In r sessions → In s sessions → r.id.0 ≢ s.id.0 → names name r ≡ true → names name s ≡ true → P r s

-- 3. not both are unfinished
abbrev pub NotBothUnfinished : Record → Record → Type 0
NotBothUnfinished r s = is_unfinished r.state ≡ true → is_unfinished s.state ≡ true → ⊥

-- 4. Activation boots

-- a session that no boot has activated
abbrev pub never_activated : State → Bool
never_activated state.Verified = true
never_activated state.Staged = true
never_activated state.ActivationFailed = true
never_activated state.Aborted = true
never_activated _ = false

pub record HasActivation (boots : ℕ) (r : Record) : Type 0 where
  pub none : never_activated r.state ≡ true → r.activation ≡ 0
  pub some : never_activated r.state ≡ false → 1 ≤ r.activation
  pub most : r.activation ≤ boots

-- two boots activated them, and one that can still be undone was activated after the other, if that stands
pub record AreActivatedApart (r s : Record) : Type 0 where
  pub apart : r.activation ≢ 0 → s.activation ≢ 0 → r.activation ≢ s.activation
  pub above : is_undoable r.state ≡ true → is_standing s.state ≡ true → s.activation < r.activation

-- a rollback session is activated after the session that it undoes
abbrev pub IsActivatedAfter : List Record → Record → Type 0
IsActivatedAfter sessions r = (x : SessionId) (s : Record) → r.kind ≡ RollbackOf x → session_of sessions x ≡ Some s → r.activation ≢ 0 → s.activation < r.activation

pub record HaveActivations (boots : ℕ) (sessions : List Record) : Type 0 where
  pub each : (r : Record) → In r sessions → HasActivation boots r
  pub peers : AllPeers AreActivatedApart sessions
  pub after : (r : Record) → In r sessions → IsActivatedAfter sessions r

-- 5. Causes: a session that failed or was reverted has one, and no other does
abbrev pub has_cause : State → Bool
has_cause state.ActivationFailed = true
has_cause state.Reverted = true
has_cause _ = false

-- 6. Rollbacks

pub record HasRollback (r : Record) : Type 0 where
  pub kind : is_some r.rollback ≡ rolls_back r.kind
  pub enabling : is_enabling r.rollback ≡ true → is_unfinished r.state ≡ true
  pub available : is_available r.rollback ≡ true → is_success r.state ≡ true
  pub committed : is_committed r.rollback ≡ true → is_success r.state ≡ true
  -- there is no moment before the rollback is available
  pub none : is_some r.rollback ≡ false → r.moment ≡ 0
  pub not_yet : is_enabling r.rollback ≡ true → r.moment ≡ 0

-- not both are available
abbrev pub NotBothAvailable : Record → Record → Type 0
NotBothAvailable r s = is_available r.rollback ≡ true → is_available s.rollback ≡ true → ⊥

pub record HaveRollbacks (sessions : List Record) : Type 0 where
  pub each : (r : Record) → In r sessions → HasRollback r
  pub peers : AllPeers NotBothAvailable sessions

-- 7. Rollback sessions: each goes back to before a session whose rollback is committed, and each such session has one

abbrev pub is_verified : State → Bool
is_verified state.Verified = true
is_verified _ = false

-- r is what the rollback of x makes
pub record IsRollbackSession (sessions : List Record) (x r : Record) : Type 0 where
  pub committed : is_committed x.rollback ≡ true
  pub begun : is_verified r.state ≡ false
  pub id : r.id ≡ rollback_id x.id
  pub children : r.children ≡ map rollback_id x.children
  pub parts : r.parts ≡ map (part_before sessions x) x.parts

pub record HaveRollbackSessions (sessions : List Record) : Type 0 where
  pub back : (r : Record) (id : SessionId) → In r sessions → r.kind ≡ RollbackOf id → (x : Record) × (session_of sessions id ≡ Some x) × IsRollbackSession sessions x r
  pub forth : (x : Record) → In x sessions → is_committed x.rollback ≡ true → (r : Record) × (session_of sessions (rollback_id x.id) ≡ Some r) × (r.kind ≡ RollbackOf x.id)

-- 8. Modules: each that is kept is there, is sound, and says its part's name and version

-- a part of a session
abbrev pub part_at_place : List Record → SessionId → ℕ → Option Part
part_at_place sessions session part = option_and_then (λ r. slice_get r.parts part) (session_of sessions session)

pub record IsKept (w : World) (session : SessionId) (part version : ℕ) : Type 0 where
  pub content : FileMap
  pub name : List ℕ
  pub there : submitted_by w.modules session part ≡ Some content
  pub checks : checked content ≡ Ok (record { name = name; version = version })
  pub says : part_at_place w.sessions session part ≡ Some (record { name = name; version = Some version; target = targets.Module session part version })

-- a part was submitted once, by its session
pub record HaveModules (w : World) : Type 0 where
  pub kept : (session : SessionId) (part version : ℕ) → In (targets.Module session part version) (kept w.sessions) → IsKept w session part version
  pub distinct : EachPair (λ (s t : Submission). s.session.0 ≡ t.session.0 → s.part ≢ t.part) w.modules
  pub owned : (s : Submission) → In s w.modules → is_some (part_at_place w.sessions s.session s.part) ≡ true

-- A world that a boot or a call may have led to
pub record Lawful (w : World) : Type 0 where
  pub ranges : AreInRange w
  pub ids : HaveIds w.sessions
  pub parts : (r : Record) → In r w.sessions → HasParts r
  pub alone : AllPeers NotBothUnfinished w.sessions
  pub activations : HaveActivations (boots w) w.sessions
  pub causes : (r : Record) → In r w.sessions → has_cause r.state ≡ is_some r.cause
  pub rollbacks : HaveRollbacks w.sessions
  pub undone : HaveRollbackSessions w.sessions
  pub modules : HaveModules w
  pub bounds : IsWithinScale w
  -- no boot, no moments
  pub begun : boots w ≡ 0 → w.moments ≡ []
