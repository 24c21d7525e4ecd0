-- What rows come to, by what they are of.
use Rattle.std.proofs.Common.{◌≡◌, ℕ, cond, List, None, ap, refl}
use Rattle.std.specs.FinMap as fin
use Rattle.std.proofs.lemmas.Nat.{from_be_bytes-to_be_bytes_4}
use Rattle.apex_base.specs.declared.records.Record.{Record}
use Rattle.apex_base.specs.Held.{kept, is_target}
use Rattle.apex_base.specs.Keys.{Key, Boots, RecordOf, ActiveOf, BackupOf, FileOf, DataOf, SnapshotOf, PreRestoreOf}
use Rattle.apex_base.specs.Keys.{WatchOf, IsKey, RowMap, file_front, key_text}
use Rattle.package_store.specs.Settled.{settled_value, settled_row}

pub settled_at : (rows : RowMap) (records : List Record) (key : Key) → IsKey key
    → settled_value rows records (key_text key) ≡ settled_row rows records key
settled_at rows records Boots h = refl
settled_at rows records (RecordOf id) h = refl
settled_at rows records (ActiveOf name) h = refl
settled_at rows records (BackupOf name) h = refl
settled_at rows records (FileOf session part path) h =
    ap (λ (n : ℕ). cond (is_target (kept records) (record { 0 = n }) part)
    (fin.get rows (file_front session part path)) None) (from_be_bytes-to_be_bytes_4 session.0 h)
settled_at rows records (DataOf name key) h = refl
settled_at rows records (SnapshotOf id name key) h = refl
settled_at rows records (PreRestoreOf id name key) h = refl
settled_at rows records (WatchOf observer name) h = refl
