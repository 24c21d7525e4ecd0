-- What a boot is judged to do, of each world of its rows. Callers want `rooms`, `parts_left`, `small_number`,
-- `batch_ascends` and `booted_is`.
use Rattle.std.proofs.Common.{◌≡◌, [], ◌∷◌, ◌++◌, ℕ, ◌+◌, ◌<◌, ◌^◌, List, sym, ap, subst, ◌∙◌}
use Rattle.std.specs.Cmp.Lexicographic.{slice_cmp}
use Rattle.std.specs.List.{AllByRecursion}
use Rattle.std.specs.List.Sorted.{IsStrictlySortedBy}
use Rattle.std.specs.Ordering.{nat_cmp}
use Rattle.apex_base.specs.declared.records.Record.{Record}
use Rattle.apex_base.specs.Keys.{RowMap}
use Rattle.apex_base.specs.Windows.{last_five}
use Rattle.apex_base.proofs.MemberLemmas.{in_each}
use Rattle.row_codec.specs.declared.batch.Row.{Row}
use Rattle.row_codec.specs.Batch.{keys_of}
use Rattle.row_map.specs.Rows.{changed}
use Rattle.package_store.specs.Settled.{HaveParts}
use Rattle.session_record.specs.Room.{HasRoom}
use Rattle.apex_world.specs.declared.calls.BootOrder.{BootOrder}
use Rattle.world_laws.specs.BootByRows.{become_in, sessions_in, active_in, with_moment, reply_in, GoesByRows}
use Rattle.world_laws.specs.Invariance.{IsOrderOf}
use Rattle.apex_world.specs.Opened.{opened_boots, opened_sessions}
use Rattle.world_facts.specs.Plain.{moments_left}
use Rattle.apex_world.specs.Rows.{rows}
use Rattle.apex_world.specs.Selection.{Mounts}
use Rattle.apex_world.specs.World.{World, boots}
use Rattle.world_laws.proofs.alike.OpenedBoots.{boots_same}
use Rattle.world_facts.proofs.facts.OpenedSessions.{same_opened}
use Rattle.world_laws.proofs.rows.QuietBoots.{boots_by_rows}
use Rattle.boot_recover.specs.declared.booted.JudgedBoot.{JudgedBoot}
use Rattle.boot_recover.specs.Booted.{record_changes, boots_change, IsSettling, IsBooted}
use Rattle.stored_world.specs.Stored.{IsStored}
use Rattle.boot_recover.proofs.BatchOrder.{boot_ascends}
use Rattle.boot_recover.proofs.BootBatches.{SettlesByKey, boot_leads}
use Rattle.stored_world.proofs.Room.{has_room}
use Rattle.boot_recover.proofs.TurnedSessions.{become_kept, become_room}

-- what the code makes of rows, the boots and the sessions that they open to
pub record Judges (kept : RowMap) (seen : ℕ × List ℕ) (before : List Record) (order : BootOrder) (mounts : Mounts)
    (settled : List Row) (judged : JudgedBoot) : Type 0 where
  pub reply : judged.reply ≡ reply_in mounts kept order (seen.0 + 1) before seen.1
  pub rows : judged.rows.items ≡ (boots_change (seen.0 + 1) (moments_left order.time (with_moment seen.1 order))
      ∷ record_changes (become_in mounts kept order (seen.0 + 1)) before) ++ settled
  pub sessions : judged.sessions.items ≡ sessions_in mounts kept order (seen.0 + 1) before
  pub active : judged.active.items ≡ active_in mounts kept order (seen.0 + 1) before
  pub settling : IsSettling kept (sessions_in mounts kept order (seen.0 + 1) before) settled

-- sessions that a boot has turned have room again
turned_rooms : (mounts : Mounts) (kept : RowMap) (order : BootOrder) (b : ℕ) (ss : List Record)
    → AllByRecursion HasRoom ss → HaveParts (sessions_in mounts kept order b ss)
turned_rooms mounts kept order b [] room = tt
turned_rooms mounts kept order b (r ∷ rs) room =
    ((become_room mounts kept order b r room.0).numbers, turned_rooms mounts kept order b rs room.1)

module _ (kept : RowMap) (w : World) (s : IsStored kept w) where
  opened_is : opened_sessions kept ≡ w.sessions
  opened_is = ap opened_sessions s.stored ∙ same_opened w s.lawful

  boots_are : opened_boots kept ≡ (boots w, last_five w.moments)
  boots_are = ap opened_boots s.stored ∙ boots_same w s.lawful

  -- the sessions that the rows open to have room for their spelling
  pub rooms : (ss : List Record) → ss ≡ opened_sessions kept → AllByRecursion HasRoom ss
  rooms ss e = subst (AllByRecursion HasRoom) (sym (e ∙ opened_is))
      (in_each HasRoom w.sessions (λ r i. has_room r (s.lawful.ranges.sessions r i)))

  -- and their parts have numbers of one byte after a boot
  pub parts_left : (mounts : Mounts) (order : BootOrder) (b : ℕ) (before after : List Record)
      → before ≡ opened_sessions kept → after ≡ sessions_in mounts kept order b before → HaveParts after
  parts_left mounts order b before after e f =
      subst HaveParts (sym f) (turned_rooms mounts kept order b before (rooms before e))

  -- the number of the next boot is small
  pub small_number : (order : BootOrder) → IsOrderOf w order → (seen : ℕ × List ℕ) → seen ≡ opened_boots kept
      → seen.0 + 1 < 2 ^ 32
  small_number order o seen e =
      subst (λ (n : ℕ). n + 1 < 2 ^ 32) (sym (ap (λ (x : ℕ × List ℕ). x.0) (e ∙ boots_are))) o.number

  -- the rows that it changes ascend by key
  pub batch_ascends : (order : BootOrder) (mounts : Mounts) (seen : ℕ × List ℕ) (before : List Record)
      (settled : List Row) (judged : JudgedBoot) → before ≡ opened_sessions kept
      → Judges kept seen before order mounts settled judged
      → IsStrictlySortedBy (slice_cmp nat_cmp) (keys_of judged.rows.items)
  batch_ascends order mounts seen before settled judged e j =
      let same : Judges (rows w) seen w.sessions order mounts settled judged =
      subst (λ (m : RowMap). Judges m seen w.sessions order mounts settled judged) s.stored
      (subst (λ (ss : List Record). Judges kept seen ss order mounts settled judged) (e ∙ opened_is) j) in
      subst (λ (batch : List Row). IsStrictlySortedBy (slice_cmp nat_cmp) (keys_of batch)) (sym same.rows)
      (boot_ascends w s.lawful (sessions_in mounts (rows w) order (seen.0 + 1) w.sessions) settled same.settling
      (become_in mounts (rows w) order (seen.0 + 1))
      (λ r. (become_kept mounts (rows w) order (seen.0 + 1) r).id) (seen.0 + 1)
      (moments_left order.time (with_moment seen.1 order)))

  module _ (order : BootOrder) (o : IsOrderOf w order) (alone : order.observers ≡ []) (mounts : Mounts)
      (by_key : SettlesByKey) where
    goes : GoesByRows w order mounts
    goes = boots_by_rows w s.lawful order o alone mounts

    booted_rows : (settled : List Row) (judged : JudgedBoot)
        → Judges (rows w) (boots w, last_five w.moments) w.sessions order mounts settled judged
        → IsBooted judged (rows w) w order mounts
    booted_rows settled judged j = record {
      reply = j.reply ∙ sym goes.reply;
      stored = ap (changed (rows w)) j.rows
          ∙ boot_leads w s.lawful s.simple.plain order o alone mounts by_key settled j.settling;
      sessions = j.sessions ∙ sym goes.sessions;
      active = j.active ∙ sym goes.active;
    }

    -- what is made of the rows is what the boot makes of their world
    pub booted_is : (seen : ℕ × List ℕ) (before : List Record) (settled : List Row) (judged : JudgedBoot)
        → seen ≡ opened_boots kept → before ≡ opened_sessions kept
        → Judges kept seen before order mounts settled judged → IsBooted judged kept w order mounts
    booted_is seen before settled judged e f j =
        subst (λ (m : RowMap). IsBooted judged m w order mounts) (sym s.stored)
        (booted_rows settled judged
        (subst (λ (m : RowMap). Judges m (boots w, last_five w.moments) w.sessions order mounts settled judged) s.stored
        (subst (λ (x : ℕ × List ℕ). Judges kept x w.sessions order mounts settled judged) (e ∙ boots_are)
        (subst (λ (ss : List Record). Judges kept seen ss order mounts settled judged) (f ∙ opened_is) j))))
