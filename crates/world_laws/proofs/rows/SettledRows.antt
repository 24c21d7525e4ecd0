-- The rows of a world after its sessions have changed, where no more is kept than before. Callers want `KeepsNoMore`,
-- `no_more`, `no_more_self`, `no_more_then`, `snapshot_of`, `restore_of` and `settled`.
use Rattle.std.proofs.Common.{◌≡◌, ◌⊎◌, ℕ, ◌<◌, ◌^◌, Bool, true, false, cond, eqb, ◌&&◌, List, Option, Some, None, sym}
use Rattle.std.proofs.Common.{ap, subst, ◌∙◌, refl, inl, inr}
use Rattle.std.specs.Prelude.{not, option_and_then}
use Rattle.std.specs.FinMap as fin
use Rattle.std.proofs.lemmas.Bool.{and_parts}
use Rattle.apex_base.specs.declared.numbers.SessionId.{SessionId}
use Rattle.apex_base.specs.declared.records.Kind.{Kind}
use Rattle.apex_base.specs.declared.records.Kind.TheVariants.{Plain, WithRollback, RollbackOf}
use Rattle.apex_base.specs.declared.records.Record.{Record}
use Rattle.apex_base.specs.declared.records.Target.{Target}
use Rattle.apex_base.specs.declared.records.Target.TheVariants as targets
use Rattle.apex_base.specs.Commit.{rolls_back, undoes}
use Rattle.apex_base.specs.Held.{kept, is_undoable, is_target}
use Rattle.apex_base.specs.Keys.{Key, Boots, RecordOf, ActiveOf, BackupOf, FileOf, DataOf, SnapshotOf, PreRestoreOf}
use Rattle.apex_base.specs.Keys.{WatchOf, IsKey}
use Rattle.apex_base.specs.Members.{In}
use Rattle.apex_base.specs.Modules.{FileMap}
use Rattle.apex_base.specs.Sessions.{names, session_of}
use Rattle.apex_base.specs.Tables.{value_of}
use Rattle.apex_base.proofs.SessionLemmas.{of_found, of_in}
use Rattle.apex_world.specs.Lawful.{Lawful}
use Rattle.apex_world.specs.Rows.{may_happen, has_snapshot, has_pre_restore, earlier, row_at, rows}
use Rattle.apex_world.specs.Rows.{snapshot_row, pre_restore_row}
use Rattle.world_laws.specs.RowsAfter.{still, passes, settled_row}
use Rattle.apex_world.specs.Selection.{submitted_by}
use Rattle.world_laws.specs.StoredAlike.{KeepsPast}
use Rattle.apex_world.specs.World.{World, Failures, era}
use Rattle.world_laws.proofs.alike.AlikeAfter.{IsLike, NothingNew, PastStays, like_self, names_same, target_in, in_target}
use Rattle.world_facts.proofs.facts.KeptLemmas.{AreOrdered}
use Rattle.world_facts.proofs.facts.KeptLess.{Carries, Nothing, Before, New, kept_less}
use Rattle.world_facts.proofs.facts.WorldRows.{same_id, world_row}

-- each module that is kept was kept, and a session that keeps its past kept it before
pub record KeepsNoMore (ss ss' : List Record) : Type 0 where
  pub modules : (t : Target) → In t (kept ss') → (t ≡ targets.Preinstalled) ⊎ In t (kept ss)
  pub past : PastStays ss ss'

pub no_more_self : (ss : List Record) → KeepsNoMore ss ss
no_more_self ss = record { modules = λ t h. inr h; past = λ s i k. (s, i, k, like_self s) }

like_then : (q r s : Record) → IsLike q r → IsLike r s → IsLike q s
like_then q r s a b = record {
  id = b.id ∙ a.id;
  kind = b.kind ∙ a.kind;
  parts = b.parts ∙ a.parts;
  activation = b.activation ∙ a.activation;
}

-- one change after another
pub no_more_then : (ss mid ss' : List Record) → KeepsNoMore ss mid → KeepsNoMore mid ss' → KeepsNoMore ss ss'
no_more_then ss mid ss' a b = record {
  modules = λ t h. elim (b.modules t h) [
    | inl e ↦ inl e
    | inr i ↦ a.modules t i
  ];
  past = λ s i k.
      let (r, j, l, m) = b.past s i k in
      let (q, n, o, p) = a.past r j l in
      (q, n, o, like_then q r s p m);
}

-- where sessions come from others
pub no_more : (ss ss' : List Record) → AreOrdered ss → AreOrdered ss' → Carries ss ss' → NothingNew ss ss'
    → PastStays ss ss' → KeepsNoMore ss ss'
no_more ss ss' law law' carries new past = record {
  modules = λ t h. elim (kept_less ss ss' law law' carries t h) [
    | Nothing e ↦ inl e
    | Before i ↦ inr i
    | New s p i f j e ↦ elim (new s p i f j) [
      | inl n ↦ inl (e ∙ n)
      | inr k ↦ inr (subst (λ (t : Target). In t (kept ss)) (sym e) k)
    ]
  ];
  past = past;
}

-- Rows that tell of the past

two_kinds : (k : Kind) → rolls_back k ≡ true → undoes k ≡ true → ⊥
two_kinds Plain e f = absurd (cc)
two_kinds WithRollback e f = absurd (cc)
two_kinds (RollbackOf x) e f = absurd (cc)

-- where the test passes
pub if_so : {X : Type 0} (b : Bool) (o : Option X) → b ≡ true → cond b o None ≡ o
if_so true o e = refl
if_so false o e = absurd (cc)

-- sessions of the same names and the same boot have the same past
pub earlier_like : (w : World) (r s : Record) (name key : List ℕ) → IsLike r s
    → earlier w name key s ≡ earlier w name key r
earlier_like w r s name key l =
    ap (λ b. cond b (value_of (era w.eras s.activation) name key) None) (names_same r s name l)
    ∙ ap (λ n. cond (names name r) (value_of (era w.eras n) name key) None) l.activation

module _ (w : World) (law : Lawful w) (ss' : List Record) (past : PastStays w.sessions ss') where
  found_before : (id : SessionId) (r s : Record) → In r w.sessions → IsLike r s → s.id.0 ≡ id.0
      → session_of w.sessions id ≡ Some r
  found_before id r s h l e =
      ap (session_of w.sessions) (sym (same_id r.id id (ap (λ (id : SessionId). id.0) (sym l.id) ∙ e)))
      ∙ of_in w.sessions r law.ids.ascend h

  kept_snapshot : (r s : Record) → IsLike r s → has_snapshot ss' s ≡ true → KeepsPast w.sessions r
      → has_snapshot w.sessions r ≡ true
  kept_snapshot r s l e (inl k) = k
  kept_snapshot r s l e (inr k) =
      let kind = (and_parts (rolls_back s.kind) (not (eqb s.activation 0)) (and_parts
      (rolls_back s.kind && not (eqb s.activation 0)) (may_happen ss' s.id s.rollback) e).0).0 in
      absurd (two_kinds r.kind (ap rolls_back (sym l.kind) ∙ kind)
      (and_parts (undoes r.kind) (is_undoable r.state) k).0)

  kept_restore : (r s : Record) → IsLike r s → has_pre_restore s ≡ true → KeepsPast w.sessions r
      → has_pre_restore r ≡ true
  kept_restore r s l e (inr k) = k
  kept_restore r s l e (inl k) =
      let kind = (and_parts (rolls_back r.kind) (not (eqb r.activation 0)) (and_parts
      (rolls_back r.kind && not (eqb r.activation 0)) (may_happen w.sessions r.id r.rollback) k).0).0 in
      absurd (two_kinds r.kind kind (ap undoes (sym l.kind) ∙ (and_parts (undoes s.kind) (is_undoable s.state) e).0))

  snapshot_if : (id : SessionId) (name key : List ℕ) → id.0 < 2 ^ 32 → (s : Record) → session_of ss' id ≡ Some s
      → (b : Bool) → has_snapshot ss' s ≡ b
      → cond b (earlier w name key s) None ≡ still (rows w) (SnapshotOf id name key) b
  snapshot_if id name key l s f false e = refl
  snapshot_if id name key l s f true e =
      let (i, sid) = of_found ss' id s f in
      let (r, j, k, like) = past s i (inl e) in
      let there = found_before id r s j like sid in
      let before : snapshot_row w id name key ≡ earlier w name key r =
      ap (option_and_then (λ (r : Record). cond (has_snapshot w.sessions r) (earlier w name key r) None)) there
      ∙ if_so (has_snapshot w.sessions r) (earlier w name key r) (kept_snapshot r s like e k) in
      earlier_like w r s name key like ∙ sym (world_row w law (SnapshotOf id name key) l ∙ before)

  -- what a name had before a session that may be taken back
  pub snapshot_of : (id : SessionId) (name key : List ℕ) → id.0 < 2 ^ 32 → (o : Option Record) → session_of ss' id ≡ o
      → option_and_then (λ (r : Record). cond (has_snapshot ss' r) (earlier w name key r) None) o
      ≡ still (rows w) (SnapshotOf id name key) (passes (has_snapshot ss') o)
  snapshot_of id name key l None f = refl
  snapshot_of id name key l (Some s) f = snapshot_if id name key l s f (has_snapshot ss' s) refl

  restore_if : (id : SessionId) (name key : List ℕ) → id.0 < 2 ^ 32 → (s : Record) → session_of ss' id ≡ Some s
      → (b : Bool) → has_pre_restore s ≡ b
      → cond b (earlier w name key s) None ≡ still (rows w) (PreRestoreOf id name key) b
  restore_if id name key l s f false e = refl
  restore_if id name key l s f true e =
      let (i, sid) = of_found ss' id s f in
      let (r, j, k, like) = past s i (inr e) in
      let there = found_before id r s j like sid in
      let before : pre_restore_row w id name key ≡ earlier w name key r =
      ap (option_and_then (λ (r : Record). cond (has_pre_restore r) (earlier w name key r) None)) there
      ∙ if_so (has_pre_restore r) (earlier w name key r) (kept_restore r s like e k) in
      earlier_like w r s name key like ∙ sym (world_row w law (PreRestoreOf id name key) l ∙ before)

  -- what a name had before a rollback session that can be undone
  pub restore_of : (id : SessionId) (name key : List ℕ) → id.0 < 2 ^ 32 → (o : Option Record) → session_of ss' id ≡ o
      → option_and_then (λ (r : Record). cond (has_pre_restore r) (earlier w name key r) None) o
      ≡ still (rows w) (PreRestoreOf id name key) (passes has_pre_restore o)
  restore_of id name key l None f = refl
  restore_of id name key l (Some s) f = restore_if id name key l s f (has_pre_restore s) refl

module _ (w : World) (law : Lawful w) (ss' : List Record) (less : KeepsNoMore w.sessions ss') (clock : ℕ)
    (failures : Failures) where
  abbrev after : World
  after = record w { sessions = ss'; clock = clock; failures = failures }

  -- each file that is kept was kept
  pub was_target : (id : SessionId) (part : ℕ) → is_target (kept ss') id part ≡ true
      → is_target (kept w.sessions) id part ≡ true
  was_target id part e =
      let (version, h) = target_in (kept ss') id part e in
      elim (less.modules (targets.Module id part version) h) [
        | inl f ↦ absurd (cc)
        | inr i ↦ in_target (kept w.sessions) id part version i
      ]

  file_if : (id : SessionId) (part : ℕ) (path : List ℕ) → id.0 < 2 ^ 32 → (b : Bool) → is_target (kept ss') id part ≡ b
      → cond b (option_and_then (λ (m : FileMap). fin.get m path) (submitted_by w.modules id part)) None
      ≡ still (rows w) (FileOf id part path) b
  file_if id part path l true e =
      sym (world_row w law (FileOf id part path) l
      ∙ if_so (is_target (kept w.sessions) id part)
      (option_and_then (λ (m : FileMap). fin.get m path) (submitted_by w.modules id part)) (was_target id part e))
  file_if id part path l false e = refl

  -- the row at each key is what the sessions settle
  pub settled : (k : Key) → IsKey k → row_at after k ≡ settled_row (rows w) ss' k
  settled Boots i = sym (world_row w law Boots i)
  settled (RecordOf id) i = refl
  settled (ActiveOf name) i = refl
  settled (BackupOf name) i = refl
  settled (FileOf id part path) i = file_if id part path i (is_target (kept ss') id part) refl
  settled (DataOf name key) i = sym (world_row w law (DataOf name key) i)
  settled (SnapshotOf id name key) i = snapshot_of w law ss' less.past id name key i (session_of ss' id) refl
  settled (PreRestoreOf id name key) i = restore_of w law ss' less.past id name key i (session_of ss' id) refl
  settled (WatchOf observer name) i = sym (world_row w law (WatchOf observer name) i)
