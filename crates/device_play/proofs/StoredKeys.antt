-- Rows of a world have no empty key: `stored_keyed`.
use Rattle.std.proofs.Common.{◌≡◌, List, ℕ, [], Option, Some, None, ap, ◌∙◌, refl}
use Rattle.std.specs.FinMap as fin
use Rattle.apex_base.specs.Keys.{Key, Boots, RecordOf, ActiveOf, BackupOf, FileOf, DataOf, SnapshotOf, PreRestoreOf}
use Rattle.apex_base.specs.Keys.{WatchOf, RowMap, key_text}
use Rattle.apex_base.proofs.RowMaps.{rows_found}
use Rattle.stored_world.specs.Stored.{IsStored}
use Rattle.apex_world.specs.Lawful.{Lawful}
use Rattle.apex_world.specs.Rows.{row_at, row_keys, rows}
use Rattle.apex_world.specs.World.{World}
use Rattle.world_facts.proofs.facts.WorldRows.{world_keys}

has_text : (t : Key) → [] ≡ key_text t → ⊥
has_text Boots e = absurd (cc e)
has_text (RecordOf id) e = absurd (cc e)
has_text (ActiveOf name) e = absurd (cc e)
has_text (BackupOf name) e = absurd (cc e)
has_text (FileOf id part path) e = absurd (cc e)
has_text (DataOf name key) e = absurd (cc e)
has_text (SnapshotOf id name key) e = absurd (cc e)
has_text (PreRestoreOf id name key) e = absurd (cc e)
has_text (WatchOf observer name) e = absurd (cc e)

keyed_if : (w : World) → Lawful w → (o : Option (List ℕ)) → fin.get (rows w) [] ≡ o → o ≡ None
keyed_if w law None e = refl
keyed_if w law (Some v) e =
    let (t, keyed, same, has) = rows_found (row_keys w) (row_at w) (world_keys w law) [] v e in absurd (has_text t same)

pub stored_keyed : (m : RowMap) (w : World) → IsStored m w → fin.get m [] ≡ None
stored_keyed m w s = ap (λ (rs : RowMap). fin.get rs []) s.stored ∙ keyed_if w s.lawful (fin.get (rows w) []) refl
