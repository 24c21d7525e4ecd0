-- The rows of what sessions keep, in the rows of the world that rows open to. Callers want `snapshot_is`,
-- `pre_restore_is`, `kept_agrees`, `unkeyed_differs` and `kept_differs`.
use Rattle.std.proofs.Common.{◌≡◌, ◌≢◌, ℕ, ◌<◌, ◌^◌, cond, List, ◌∷◌, ◌++◌, Option, Some, None, sym, ap, subst}
use Rattle.std.proofs.Common.{◌∙◌, refl, inl, inr}
use Rattle.std.specs.Prelude.{option_and_then}
use Rattle.std.specs.FinMap as fin
use Rattle.apex_base.specs.declared.numbers.Scale.{Scale}
use Rattle.apex_base.specs.declared.numbers.SessionId.{SessionId}
use Rattle.apex_base.specs.declared.records.Record.{Record}
use Rattle.apex_base.specs.Keys.{Key, Boots, RecordOf, ActiveOf, BackupOf, FileOf, DataOf, SnapshotOf, PreRestoreOf}
use Rattle.apex_base.specs.Keys.{WatchOf, IsKey, key_text, RowMap, id_text}
use Rattle.apex_base.specs.Reading.{short_text}
use Rattle.apex_base.specs.Sessions.{names, session_of}
use Rattle.apex_world.specs.Opened.{opened, opened_boots, opened_sessions}
use Rattle.apex_world.specs.Rows.{row_at, has_snapshot, has_pre_restore}
use Rattle.row_check.specs.BadRows.{opened_rows, AgreesAt, DiffersAt}
use Rattle.row_check.specs.KeptRows.{kept_row, AreKept}
use Rattle.row_key.specs.Kept.{IsKeptTag, kept_text}
use Rattle.row_check.proofs.EraValues.{era_has}
use Rattle.row_check.proofs.KeysRead.{key_row}
use Rattle.row_check.proofs.OpenedWorld.{opened_found}

then_same : {A B : Type 0} (f g : A → Option B) (o : Option A) → ((x : A) → f x ≡ g x)
    → option_and_then f o ≡ option_and_then g o
then_same f g None same = refl
then_same f g (Some x) same = same x

module _ (m : RowMap) (scale : Scale) where
  abbrev boot_count : ℕ
  boot_count = (opened_boots m).0

  -- the value of the era is that of the rows that count
  pub snapshot_is : (id : SessionId) (name key : List ℕ)
      → row_at (opened m scale) (SnapshotOf id name key) ≡ kept_row m 7 id name key
  snapshot_is id name key =
      then_same _ _ (session_of (opened_sessions m) id) (λ (r : Record).
      ap (λ (o : Option (List ℕ)). cond (has_snapshot (opened_sessions m) r) (cond (names name r) o None) None)
      (era_has m (opened_sessions m) boot_count r.activation name key))

  pub pre_restore_is : (id : SessionId) (name key : List ℕ)
      → row_at (opened m scale) (PreRestoreOf id name key) ≡ kept_row m 8 id name key
  pre_restore_is id name key =
      then_same _ _ (session_of (opened_sessions m) id) (λ (r : Record).
      ap (λ (o : Option (List ℕ)). cond (has_pre_restore r) (cond (names name r) o None) None)
      (era_has m (opened_sessions m) boot_count r.activation name key))

  -- what the opened world has at a key of these tags
  pub kept_there : (tag : ℕ) (id : SessionId) (name key : List ℕ) → IsKeptTag tag → id.0 < 2 ^ 32
      → fin.get (opened_rows m scale) (kept_text tag id name key) ≡ kept_row m tag id name key
  kept_there tag id name key (inl e) low =
      subst (λ (t : ℕ). fin.get (opened_rows m scale) (kept_text t id name key) ≡ kept_row m t id name key) (sym e)
      (key_row m scale (kept_text 7 id name key) (SnapshotOf id name key) low refl ∙ snapshot_is id name key)
  kept_there tag id name key (inr e) low =
      subst (λ (t : ℕ). fin.get (opened_rows m scale) (kept_text t id name key) ≡ kept_row m t id name key) (sym e)
      (key_row m scale (kept_text 8 id name key) (PreRestoreOf id name key) low refl ∙ pre_restore_is id name key)

  -- A key of these tags is of a session, a name and a key

  abbrev Keyed : ℕ → List ℕ → Type 0
  Keyed tag rest = (id : SessionId) × (name key : List ℕ) × (id.0 < 2 ^ 32) × (tag ∷ rest ≡ kept_text tag id name key)

  keyed_if : (tag : ℕ) (rest : List ℕ) (t : Key) → IsKeptTag tag → IsKey t → tag ∷ rest ≡ key_text t → Keyed tag rest
  keyed_if tag rest Boots (inl e) i is = absurd (cc (e, is))
  keyed_if tag rest Boots (inr e) i is = absurd (cc (e, is))
  keyed_if tag rest (RecordOf id) (inl e) i is = absurd (cc (e, is))
  keyed_if tag rest (RecordOf id) (inr e) i is = absurd (cc (e, is))
  keyed_if tag rest (ActiveOf name) (inl e) i is = absurd (cc (e, is))
  keyed_if tag rest (ActiveOf name) (inr e) i is = absurd (cc (e, is))
  keyed_if tag rest (BackupOf name) (inl e) i is = absurd (cc (e, is))
  keyed_if tag rest (BackupOf name) (inr e) i is = absurd (cc (e, is))
  keyed_if tag rest (FileOf id part path) (inl e) i is = absurd (cc (e, is))
  keyed_if tag rest (FileOf id part path) (inr e) i is = absurd (cc (e, is))
  keyed_if tag rest (DataOf name key) (inl e) i is = absurd (cc (e, is))
  keyed_if tag rest (DataOf name key) (inr e) i is = absurd (cc (e, is))
  keyed_if tag rest (SnapshotOf id name key) (inl e) i is =
      (id, name, key, i, is ∙ ap (λ (t : ℕ). kept_text t id name key) (sym e))
  keyed_if tag rest (SnapshotOf id name key) (inr e) i is = absurd (cc (e, is))
  keyed_if tag rest (PreRestoreOf id name key) (inl e) i is = absurd (cc (e, is))
  keyed_if tag rest (PreRestoreOf id name key) (inr e) i is =
      (id, name, key, i, is ∙ ap (λ (t : ℕ). kept_text t id name key) (sym e))
  keyed_if tag rest (WatchOf observer name) (inl e) i is = absurd (cc (e, is))
  keyed_if tag rest (WatchOf observer name) (inr e) i is = absurd (cc (e, is))

  pub opened_keyed : (tag : ℕ) (rest v : List ℕ) → IsKeptTag tag → fin.get (opened_rows m scale) (tag ∷ rest) ≡ Some v
      → Keyed tag rest
  opened_keyed tag rest v is e =
      let (t, i, same, has) = opened_found m scale (tag ∷ rest) v e in keyed_if tag rest t is i same

  -- The rows of a tag

  agree_at : (tag : ℕ) (rest : List ℕ) → IsKeptTag tag → AreKept m tag → Keyed tag rest
      → fin.get m (tag ∷ rest) ≡ fin.get (opened_rows m scale) (tag ∷ rest)
  agree_at tag rest is are (id, name, key, low, same) =
      ap (fin.get m) same ∙ are.same id name key low ∙ sym (kept_there tag id name key is low)
      ∙ ap (fin.get (opened_rows m scale)) (sym same)

  agree_if : (tag : ℕ) (rest : List ℕ) (o p : Option (List ℕ)) → IsKeptTag tag → AreKept m tag
      → fin.get m (tag ∷ rest) ≡ o → fin.get (opened_rows m scale) (tag ∷ rest) ≡ p
      → fin.get m (tag ∷ rest) ≡ fin.get (opened_rows m scale) (tag ∷ rest)
  agree_if tag rest (Some u) p is are e f = agree_at tag rest is are (are.keyed rest u e)
  agree_if tag rest None (Some v) is are e f = agree_at tag rest is are (opened_keyed tag rest v is f)
  agree_if tag rest None None is are e f = e ∙ sym f

  -- where each row is that of a session, both have the same
  pub kept_agrees : (tag : ℕ) → IsKeptTag tag → AreKept m tag → AgreesAt m scale tag
  kept_agrees tag is are rest =
      agree_if tag rest (fin.get m (tag ∷ rest)) (fin.get (opened_rows m scale) (tag ∷ rest)) is are refl refl

  -- a row of these tags that is of no session, name and key isn't there again
  pub unkeyed_differs : (tag : ℕ) (rest value : List ℕ) → IsKeptTag tag → fin.get m (tag ∷ rest) ≡ Some value
      → ((id : SessionId) (name key : List ℕ) → id.0 < 2 ^ 32 → tag ∷ rest ≢ kept_text tag id name key)
      → DiffersAt m scale tag
  unkeyed_differs tag rest value is e none = (
    rest,
    λ same.
        let (id, name, key, low, h) = opened_keyed tag rest value is (sym same ∙ e) in none id name key low h,
  )

  -- where a session keeps something else, they differ
  pub kept_differs : (tag : ℕ) (id : SessionId) (name key : List ℕ) → IsKeptTag tag → id.0 < 2 ^ 32
      → fin.get m (kept_text tag id name key) ≢ kept_row m tag id name key → DiffersAt m scale tag
  kept_differs tag id name key is low apart =
      (id_text id ++ short_text name key, λ same. apart (same ∙ kept_there tag id name key is low))
