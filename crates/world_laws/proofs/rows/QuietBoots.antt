-- A boot without observers: nobody acts in a boot loop, and all goes by rows. Callers want `quiet_world`,
-- `quiet_sessions`, `quiet_changes`, `quiet_loop` and `boots_by_rows`.
use Rattle.std.proofs.Common.{◌≡◌, ℕ, ◌+◌, Bool, true, false, List, [], ◌∷◌, ◌++◌, length, map, flat_map, Some, None}
use Rattle.std.proofs.Common.{sym, ap, ◌∙◌, refl, if◌then◌else◌}
use Rattle.std.specs.Option.{option_map}
use Rattle.apex_base.specs.declared.records.Record.{Record}
use Rattle.apex_base.specs.Keys.{Key, Boots, RecordOf, ActiveOf, BackupOf, FileOf, DataOf, SnapshotOf, PreRestoreOf}
use Rattle.apex_base.specs.Keys.{WatchOf, IsKey, RowMap}
use Rattle.apex_base.specs.Members.{In}
use Rattle.apex_base.specs.Sessions.{session_of}
use Rattle.apex_base.specs.Windows.{last_five, is_looping}
use Rattle.apex_base.proofs.MemberLemmas.{in_map}
use Rattle.apex_base.proofs.SessionLemmas.{of_in, ascend_map}
use Rattle.apex_world.specs.declared.calls.BootOrder.{BootOrder}
use Rattle.apex_world.specs.Boot.{become, started, boot_loop, after_loop, boot_world, changed_to, changed_in, changes}
use Rattle.apex_world.specs.Boot.{told_loop, boot_reply}
use Rattle.world_laws.specs.BootByRows.{become_in, sessions_in, active_in, chosen_in, with_moment, reply_in}
use Rattle.world_laws.specs.BootByRows.{row_in, GoesByRows, BootsGoByRows}
use Rattle.world_laws.specs.Invariance.{IsOrderOf}
use Rattle.apex_world.specs.Lawful.{Lawful}
use Rattle.world_facts.specs.Plain.{moments_left, plain_loop}
use Rattle.apex_world.specs.Rows.{row_at, rows, boots_text}
use Rattle.world_laws.specs.RowsBooted.{booted_row}
use Rattle.apex_world.specs.Selection.{Mounts}
use Rattle.apex_world.specs.Trigger.{Triggered, eligible, triggered}
use Rattle.apex_world.specs.World.{World, boots}
use Rattle.world_laws.proofs.rows.BootedRows.{booted_rows}
use Rattle.world_laws.proofs.runs.BootLoops.{boots_running}
use Rattle.world_laws.proofs.runs.BootLaws.{number, turn, after, keeps, number_is}
use Rattle.world_laws.proofs.runs.BootModules.{kept_before}
use Rattle.world_laws.proofs.rows.KeptCases.{become_by_rows, chosen_by_rows}
use Rattle.apex_base.proofs.MomentsAlike.{five_of, looping_alike}
use Rattle.world_laws.proofs.rows.MapsOfRows.{map_is_rows}
use Rattle.world_facts.proofs.facts.PlainLemmas.{map_by, flat_map_by}

-- who acts, where nobody may
abbrev nobody : List Record → Triggered
nobody sessions = record { observer = None; ids = []; sessions = sessions }

-- without observers, a boot is what it is before anybody looks for a boot loop, but that it forgets the moments
module _ (w : World) (order : BootOrder) (alone : order.observers ≡ []) (mounts : Mounts) where
  abbrev v : World
  v = started w order mounts

  abbrev moments : List ℕ
  moments = w.moments ++ order.time ∷ []

  abbrev quiet : World
  quiet = record v { moments = moments_left order.time moments }

  loop_is : boot_loop order v ≡ (if is_looping order.time moments then Some (nobody v.sessions) else None)
  loop_is = ap (λ (t : Triggered). if is_looping order.time moments then Some t else None)
      (ap (triggered v.sessions order.image.print (eligible v.sessions)) alone)

  left_if : (b : Bool) → after_loop v (if b then Some (nobody v.sessions) else None)
      ≡ record v { moments = if b then [] else moments }
  left_if true = refl
  left_if false = refl

  told_if : (b : Bool) → option_map told_loop (if b then Some (nobody v.sessions) else None)
      ≡ (if b then Some (None, []) else None)
  told_if true = refl
  told_if false = refl

  -- the world after it
  pub quiet_world : boot_world w order mounts ≡ quiet
  quiet_world = ap (after_loop v) loop_is ∙ left_if (is_looping order.time moments)

  -- its sessions are what steps 2 to 5 make of them, whether or not it is looping
  pub quiet_sessions : (boot_world w order mounts).sessions
      ≡ map (become mounts w.modules order (length (w.eras ++ w.contents ∷ []))) w.sessions
  quiet_sessions = ap (λ (u : World). u.sessions) quiet_world

  -- it tells of a boot loop in which nobody acts if and only if it is looping
  pub quiet_loop : (boot_reply w order mounts).boot_loop ≡ plain_loop order.time moments
  quiet_loop = ap (option_map told_loop) loop_is ∙ told_if (is_looping order.time moments)

  module _ (law : Lawful w) where
    abbrev step : Record → Record
    step = turn w law order mounts

    found_after : (r : Record) → In r w.sessions → session_of (after w law order mounts) r.id ≡ Some (step r)
    found_after r h =
        ap (session_of (after w law order mounts)) (sym (keeps w law order mounts r).id)
        ∙ of_in (after w law order mounts) (step r)
        (ascend_map step w.sessions (λ r. (keeps w law order mounts r).id) law.ids.ascend) (in_map step r w.sessions h)

    -- it tells of each session whose state changed
    pub quiet_changes : (boot_reply w order mounts).changes ≡ flat_map (λ r. changed_to r (step r)) w.sessions
    quiet_changes =
        ap (changes w.sessions) quiet_sessions
        ∙ flat_map_by (λ r. changed_in r (session_of (after w law order mounts) r.id)) (λ r. changed_to r (step r))
        w.sessions
        (λ r h. ap (changed_in r) (found_after r h))

-- By rows

left_recent : (b : Bool) (xs ys : List ℕ) → last_five xs ≡ last_five ys
    → last_five (if b then [] else xs) ≡ last_five (if b then [] else ys)
left_recent true xs ys e = refl
left_recent false xs ys e = e

module _ (w : World) (law : Lawful w) (order : BootOrder) (o : IsOrderOf w order) (alone : order.observers ≡ [])
    (mounts : Mounts) where
  abbrev n : ℕ
  n = number w law order mounts

  abbrev f : Record → Record
  f = turn w law order mounts

  abbrev g : ℕ → Record → Record
  g b = become_in mounts (rows w) order b

  abbrev after_it : World
  after_it = boot_world w order mounts

  is_next : n ≡ boots w + 1
  is_next = number_is w law order mounts

  each_by_rows : (r : Record) → In r w.sessions → f r ≡ g n r
  each_by_rows r h = become_by_rows w law mounts order n r h

  steps_by_rows : after w law order mounts ≡ sessions_in mounts (rows w) order n w.sessions
  steps_by_rows = map_by f (g n) w.sessions each_by_rows

  sessions_by_rows : after_it.sessions ≡ sessions_in mounts (rows w) order n w.sessions
  sessions_by_rows = quiet_sessions w order alone mounts ∙ steps_by_rows

  active_by_rows : after_it.active ≡ active_in mounts (rows w) order n w.sessions
  active_by_rows =
      ap (λ (u : World). u.active) (quiet_world w order alone mounts)
      ∙ chosen_by_rows w law mounts (after w law order mounts) order.image.modules (kept_before w law order mounts)
      ∙ ap (λ (ss : List Record). chosen_in mounts (rows w) ss order.image.modules) steps_by_rows

  changes_by_rows : (boot_reply w order mounts).changes ≡ flat_map (λ r. changed_to r (g n r)) w.sessions
  changes_by_rows =
      quiet_changes w order alone mounts law
      ∙ flat_map_by (λ r. changed_to r (f r)) (λ r. changed_to r (g n r)) w.sessions
      (λ r h. ap (changed_to r) (each_by_rows r h))

  looping_is : is_looping order.time (w.moments ++ order.time ∷ [])
      ≡ is_looping order.time (with_moment (last_five w.moments) order)
  looping_is = looping_alike order.time (w.moments ++ order.time ∷ []) (with_moment (last_five w.moments) order)
      (five_of w.moments order.time)

  loop_by_rows : (boot_reply w order mounts).boot_loop ≡ plain_loop order.time (with_moment (last_five w.moments) order)
  loop_by_rows = quiet_loop w order alone mounts
      ∙ ap (λ (b : Bool). if b then Some (None, []) else None) looping_is

  moments_by_rows : last_five after_it.moments
      ≡ last_five (moments_left order.time (with_moment (last_five w.moments) order))
  moments_by_rows =
      ap (λ (u : World). last_five u.moments) (quiet_world w order alone mounts)
      ∙ ap (λ (b : Bool). last_five (if b then [] else w.moments ++ order.time ∷ [])) looping_is
      ∙ left_recent (is_looping order.time (with_moment (last_five w.moments) order)) (w.moments ++ order.time ∷ [])
      (with_moment (last_five w.moments) order) (five_of w.moments order.time)

  boots_by_number : boots after_it ≡ n
  boots_by_number = ap (λ (u : World). boots u) (quiet_world w order alone mounts)

  reply_is : boot_reply w order mounts ≡ reply_in mounts (rows w) order n w.sessions (last_five w.moments)
  reply_is = λ i. record {
    number = boots_by_number i;
    changes = changes_by_rows i;
    active = active_by_rows i;
    boot_loop = loop_by_rows i;
  }

  -- the moments matter by the last five alone
  row_recent : (rows : RowMap) (before ss : List Record) (b : ℕ) (xs ys : List ℕ) → last_five xs ≡ last_five ys
      → (k : Key) → booted_row rows before ss order b xs k ≡ booted_row rows before ss order b ys k
  row_recent rows before ss b xs ys e Boots = ap (λ (zs : List ℕ). Some (boots_text b zs)) e
  row_recent rows before ss b xs ys e (RecordOf id) = refl
  row_recent rows before ss b xs ys e (ActiveOf name) = refl
  row_recent rows before ss b xs ys e (BackupOf name) = refl
  row_recent rows before ss b xs ys e (FileOf id part path) = refl
  row_recent rows before ss b xs ys e (DataOf name key) = refl
  row_recent rows before ss b xs ys e (SnapshotOf id name key) = refl
  row_recent rows before ss b xs ys e (PreRestoreOf id name key) = refl
  row_recent rows before ss b xs ys e (WatchOf observer name) = refl

  rows_by_rows : (k : Key) → IsKey k → row_at after_it k
      ≡ row_in mounts (rows w) order n w.sessions (last_five w.moments) k
  rows_by_rows k i =
      booted_rows w law order o mounts k i
      ∙ ap (λ (ss : List Record). booted_row (rows w) w.sessions ss order (boots after_it) after_it.moments k)
      sessions_by_rows
      ∙ ap (λ (b : ℕ). booted_row (rows w) w.sessions (sessions_in mounts (rows w) order n w.sessions) order b
      after_it.moments k) boots_by_number
      ∙ row_recent (rows w) w.sessions (sessions_in mounts (rows w) order n w.sessions) n after_it.moments
      (moments_left order.time (with_moment (last_five w.moments) order)) moments_by_rows k

  next_row : (k : Key) → IsKey k → row_at after_it k
      ≡ row_in mounts (rows w) order (boots w + 1) w.sessions (last_five w.moments) k
  next_row k i = rows_by_rows k i
      ∙ ap (λ (b : ℕ). row_in mounts (rows w) order b w.sessions (last_five w.moments) k) is_next

  goes : GoesByRows w order mounts
  goes = record {
    reply = reply_is ∙ ap (λ (b : ℕ). reply_in mounts (rows w) order b w.sessions (last_five w.moments)) is_next;
    sessions = sessions_by_rows ∙ ap (λ (b : ℕ). sessions_in mounts (rows w) order b w.sessions) is_next;
    active = active_by_rows ∙ ap (λ (b : ℕ). active_in mounts (rows w) order b w.sessions) is_next;
    moments = moments_by_rows;
    number = boots_by_number ∙ is_next;
    image = ap (λ (u : World). u.image) (quiet_world w order alone mounts);
    observers = ap (λ (u : World). u.observers) (quiet_world w order alone mounts) ∙ alone;
    scale = ap (λ (u : World). u.scale) (quiet_world w order alone mounts);
    clock = ap (λ (u : World). u.clock) (quiet_world w order alone mounts);
    failures = ap (λ (u : World). u.failures) (quiet_world w order alone mounts);
    row = next_row;
    map = λ after typed same. map_is_rows after_it (boots_running w law order o mounts).lawful after typed
        (λ k i. same k i ∙ sym (next_row k i));
  }

-- a boot of a lawful world without observers goes by rows
pub boots_by_rows : BootsGoByRows
boots_by_rows w law order o alone mounts = goes w law order o alone mounts
