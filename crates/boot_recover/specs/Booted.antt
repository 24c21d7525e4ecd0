-- What a boot by rows makes of rows and sessions: docs/rows.md, "After a boot".
use Rattle.std.specs.Prelude.{◌≡◌, ◌==◌, ◌∷◌, [], ℕ, List, Some, flat_map, if◌then◌else◌}
use Rattle.std.specs.Cmp.Lexicographic.{slice_cmp}
use Rattle.std.specs.FinMap as fin
use Rattle.std.specs.List.{AllByRecursion}
use Rattle.std.specs.List.Sorted.{IsStrictlySortedBy}
use Rattle.std.specs.Ordering.{nat_cmp}
use Rattle.apex_base.specs.declared.records.Record.{Record}
use Rattle.apex_base.specs.Keys.{Boots, RecordOf, RowMap, key_text}
use Rattle.apex_base.specs.Moves.{state_number}
use Rattle.apex_base.specs.Spelling.{record_text}
use Rattle.apex_base.specs.Windows.{last_five}
use Rattle.boot_recover.specs.declared.booted.JudgedBoot.{JudgedBoot}
use Rattle.apex_world.specs.declared.calls.BootOrder.{BootOrder}
use Rattle.apex_world.specs.Boot.{boot_reply, boot_world}
use Rattle.apex_world.specs.Rows.{boots_text, rows}
use Rattle.apex_world.specs.Selection.{Mounts}
use Rattle.apex_world.specs.World.{World}
use Rattle.package_store.specs.Settled.{settled_value, IsChange}
use Rattle.row_codec.specs.declared.batch.Row.{Row}
use Rattle.row_codec.specs.Batch.{keys_of}
use Rattle.row_map.specs.Rows.{changed}

-- a record is written where the session's state changed
abbrev pub record_change : Record → Record → List Row
record_change old new =
    if state_number old.state == state_number new.state then []
    else record { key = key_text (RecordOf new.id); value = Some (record_text new) } ∷ []

-- the records that a step of each session changes
abbrev pub record_changes : (Record → Record) → List Record → List Row
record_changes step sessions = flat_map (λ r. record_change r (step r)) sessions

-- the row of boots
abbrev pub boots_change : ℕ → List ℕ → Row
boots_change number moments = record { key = key_text Boots; value = Some (boots_text number (last_five moments)) }

-- changes that lead to what the records of all sessions say
pub record IsSettling (kept : RowMap) (sessions : List Record) (changes : List Row) : Type 0 where
  pub after : (key : List ℕ) → fin.get (changed kept changes) key ≡ settled_value kept sessions key
  pub exact : AllByRecursion (IsChange kept) changes
  pub ascending : IsStrictlySortedBy (slice_cmp nat_cmp) (keys_of changes)

-- the reply, the rows, the sessions and the active set are those after the boot of this world
pub record IsBooted (judged : JudgedBoot) (kept : RowMap) (w : World) (order : BootOrder) (mounts : Mounts) : Type 0 where
  pub reply : judged.reply ≡ boot_reply w order mounts
  pub stored : changed kept judged.rows.items ≡ rows (boot_world w order mounts)
  pub sessions : judged.sessions.items ≡ (boot_world w order mounts).sessions
  pub active : judged.active.items ≡ (boot_world w order mounts).active
