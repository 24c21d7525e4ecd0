-- The batch of a boot leads to the rows of the world after it. Callers want `boot_leads`.
use Rattle.std.proofs.Common.{◌≡◌, ℕ, ◌+◌, Bool, true, false, cond, eqb, List, [], ◌∷◌, ◌++◌, map, Option, Some, None}
use Rattle.std.proofs.Common.{sym, ap, subst, ◌∙◌, refl, inl, inr}
use Rattle.std.specs.Option.{option_map}
use Rattle.std.proofs.lemmas.Bool.{false≢true, eqb-true, or_parts}
use Rattle.apex_base.specs.declared.numbers.SessionId.{SessionId}
use Rattle.apex_base.specs.declared.records.Record.{Record}
use Rattle.apex_base.specs.Keys.{Key, Boots, RecordOf, ActiveOf, BackupOf, FileOf, DataOf, SnapshotOf, PreRestoreOf}
use Rattle.apex_base.specs.Keys.{WatchOf, IsKey, RowMap, key_text}
use Rattle.apex_base.specs.Members.{In}
use Rattle.apex_base.specs.Moves.{state_number}
use Rattle.apex_base.specs.Sessions.{session_of}
use Rattle.apex_base.specs.Spelling.{record_text}
use Rattle.apex_base.specs.Windows.{last_five}
use Rattle.apex_base.proofs.MemberLemmas.{each_in, in_append, in_flat_map, in_flat_map_back}
use Rattle.apex_base.proofs.SessionLemmas.{of_in, of_found, of_map}
use Rattle.row_codec.specs.declared.batch.Row.{Row}
use Rattle.row_map.specs.Rows.{changed}
use Rattle.row_map.specs.Room.{same_key, in_batch}
use Rattle.row_map.proofs.Maps.{itself}
use Rattle.package_store.specs.Settled.{settled_row, settled_value, IsChange}
use Rattle.apex_world.specs.declared.calls.BootOrder.{BootOrder}
use Rattle.apex_world.specs.Boot.{boot_world}
use Rattle.world_laws.specs.BootByRows.{become_in, with_moment, GoesByRows}
use Rattle.world_laws.specs.Invariance.{IsOrderOf}
use Rattle.apex_world.specs.Lawful.{Lawful}
use Rattle.world_facts.specs.Plain.{IsPlain, moments_left}
use Rattle.apex_world.specs.Rows.{rows, row_at}
use Rattle.apex_world.specs.Selection.{Mounts}
use Rattle.apex_world.specs.World.{World, boots}
use Rattle.world_laws.proofs.runs.BootLoops.{boots_running}
use Rattle.world_laws.proofs.rows.MapsOfRows.{rows_typed}
use Rattle.world_facts.proofs.facts.PlainLemmas.{boot_plain}
use Rattle.world_laws.proofs.rows.QuietBoots.{boots_by_rows}
use Rattle.world_facts.proofs.facts.WorldRows.{record_id, same_id, world_row}
use Rattle.boot_recover.specs.Booted.{record_change, record_changes, boots_change, IsSettling}
use Rattle.stored_world.proofs.Batches.{IsRowOf, batch_leads}
use Rattle.stored_world.proofs.BatchRows.{batch_skips, batch_value, in_batch_append, in_batch_row}
use Rattle.boot_recover.proofs.PlainRows.{same_data, same_snapshot, same_pre_restore, same_watch}
use Rattle.boot_recover.proofs.SettledKeys.{IsOfNames, settled_key}
use Rattle.boot_recover.proofs.TurnedSessions.{become_kept, become_rests}

-- The law of what rows come to, by what they are of
abbrev pub SettlesByKey : Type 0
SettlesByKey = (kept : RowMap) (sessions : List Record) (k : Key) → IsKey k
    → settled_value kept sessions (key_text k) ≡ settled_row kept sessions k

-- a row that is there unless a test passes
only_if : (b : Bool) (row x : Row) → In row (cond b [] (x ∷ [])) → row ≡ x
only_if true row x i = absurd i
only_if false row x (inl e) = sym e
only_if false row x (inr i) = absurd i

there_unless : (b : Bool) (x : Row) → b ≡ false → In x (cond b [] (x ∷ []))
there_unless true x e = absurd (false≢true (sym e))
there_unless false x e = inl refl

module _ (w : World) (law : Lawful w) (plain : IsPlain w) (order : BootOrder) (o : IsOrderOf w order)
    (alone : order.observers ≡ []) (mounts : Mounts) (by_key : SettlesByKey) where
  abbrev v : World
  v = boot_world w order mounts

  abbrev n : ℕ
  n = boots w + 1

  abbrev f : Record → Record
  f = become_in mounts (rows w) order n

  abbrev turned : List Record
  turned = map f w.sessions

  abbrev moments : List ℕ
  moments = moments_left order.time (with_moment (last_five w.moments) order)

  goes : GoesByRows w order mounts
  goes = boots_by_rows w law order o alone mounts

  after_law : Lawful v
  after_law = (boots_running w law order o mounts).lawful

  -- Records

  found_turned : (id : SessionId) → session_of turned id ≡ option_map f (session_of w.sessions id)
  found_turned id = of_map f w.sessions id (λ r. (become_kept mounts (rows w) order n r).id)

  record_written : (row : Row) → In row (record_changes f w.sessions) → IsRowOf v row
  record_written row i =
      let (r, h, j) = in_flat_map_back (λ r. record_change r (f r)) row w.sessions i in
      let same = (become_kept mounts (rows w) order n r).id in
      let is : row ≡ record { key = key_text (RecordOf (f r).id); value = Some (record_text (f r)) } =
      only_if (eqb (state_number r.state) (state_number (f r).state)) row _ j in
      let at_r : session_of turned (f r).id ≡ Some (f r) =
      ap (session_of turned) same ∙ found_turned r.id ∙ ap (option_map f) (of_in w.sessions r law.ids.ascend h) in
      let is_key : IsKey (RecordOf (f r).id) = subst (λ id. IsKey (RecordOf id)) (sym same) (record_id w law r h) in
      record {
        key = RecordOf (f r).id;
        is_key = is_key;
        spelled = ap (λ (x : Row). x.key) is;
        value = ap (λ (x : Row). x.value) is ∙ ap (option_map record_text) (sym at_r)
            ∙ sym (goes.row (RecordOf (f r).id) is_key);
      }

  record_key : (r : Record) (id : SessionId) → In r w.sessions → r.id.0 ≡ id.0 → (b : Bool)
      → eqb (state_number r.state) (state_number (f r).state) ≡ b
      → in_batch (key_text (RecordOf id)) (record_changes f w.sessions) ≡ false → f r ≡ r
  record_key r id h number true e none =
      become_rests mounts (rows w) order n r (plain.sessions r h).rollback (eqb-true _ _ e)
  record_key r id h number false e none =
      let row : Row = record { key = key_text (RecordOf (f r).id); value = Some (record_text (f r)) } in
      let there : In row (record_changes f w.sessions) = in_flat_map (λ r. record_change r (f r)) r row w.sessions h
      (there_unless (eqb (state_number r.state) (state_number (f r).state)) row e) in
      let one : (f r).id ≡ id = (become_kept mounts (rows w) order n r).id ∙ same_id r.id id number in
      absurd (false≢true (sym none ∙ ap (λ (x : SessionId). in_batch (key_text (RecordOf x))
      (record_changes f w.sessions)) (sym one) ∙ in_batch_row row (record_changes f w.sessions) there))

  record_if : (id : SessionId) (found : Option Record) → session_of w.sessions id ≡ found
      → in_batch (key_text (RecordOf id)) (record_changes f w.sessions) ≡ false → option_map f found ≡ found
  record_if id None e none = refl
  record_if id (Some r) e none =
      let (h, number) = of_found w.sessions id r e in
      ap Some (record_key r id h number (eqb (state_number r.state) (state_number (f r).state)) refl none)

  record_stays : (id : SessionId) → IsKey (RecordOf id)
      → in_batch (key_text (RecordOf id)) (record_changes f w.sessions) ≡ false
      → row_at v (RecordOf id) ≡ row_at w (RecordOf id)
  record_stays id i none =
      goes.row (RecordOf id) i
      ∙ ap (option_map record_text) (found_turned id ∙ record_if id (session_of w.sessions id) refl none)

  -- Names and files

  named_row : (k : Key) → IsKey k → IsOfNames k → row_at v k ≡ settled_row (rows w) turned k
  named_row Boots i s = absurd s
  named_row (RecordOf id) i s = absurd s
  named_row (ActiveOf name) i s = goes.row (ActiveOf name) i
  named_row (BackupOf name) i s = goes.row (BackupOf name) i
  named_row (FileOf id part path) i s = goes.row (FileOf id part path) i
  named_row (DataOf name key) i s = absurd s
  named_row (SnapshotOf id name key) i s = absurd s
  named_row (PreRestoreOf id name key) i s = absurd s
  named_row (WatchOf observer name) i s = absurd s

  module _ (settled : List Row) (is : IsSettling (rows w) turned settled) where
    settled_written : (row : Row) → In row settled → IsRowOf v row
    settled_written row i =
        let value : row.value ≡ settled_value (rows w) turned row.key =
        sym (batch_value settled (rows w) row is.ascending i) ∙ is.after row.key in
        let k = settled_key (rows w) (rows_typed w law) turned row.key
        (λ e. each_in (IsChange (rows w)) settled is.exact row i (e ∙ sym value)) in
        record {
          key = k.key;
          is_key = k.is_key;
          spelled = k.spelled;
          value = value ∙ ap (settled_value (rows w) turned) k.spelled ∙ by_key (rows w) turned k.key k.is_key
              ∙ sym (named_row k.key k.is_key k.of_names);
        }

    named_stays : (k : Key) → IsKey k → IsOfNames k → in_batch (key_text k) settled ≡ false → row_at v k ≡ row_at w k
    named_stays k i s none =
        named_row k i s ∙ sym (by_key (rows w) turned k i) ∙ sym (is.after (key_text k))
        ∙ batch_skips settled (rows w) (key_text k) none ∙ world_row w law k i

    abbrev batch : List Row
    batch = (boots_change n moments ∷ record_changes f w.sessions) ++ settled

    boots_written : IsRowOf v (boots_change n moments)
    boots_written = record { key = Boots; is_key = tt; spelled = refl; value = sym (goes.row Boots tt) }

    written : (row : Row) → In row batch → IsRowOf v row
    written row (inl e) = subst (IsRowOf v) e boots_written
    written row (inr i) = elim (in_append row (record_changes f w.sessions) settled i) [
      | inl j ↦ record_written row j
      | inr j ↦ settled_written row j
    ]

    stays_if : (k : Key) → IsKey k → same_key (key_text k) (key_text Boots) ≡ false
        → in_batch (key_text k) (record_changes f w.sessions) ≡ false → in_batch (key_text k) settled ≡ false
        → row_at v k ≡ row_at w k
    stays_if Boots i a b c = absurd (false≢true (sym a ∙ itself (key_text Boots)))
    stays_if (RecordOf id) i a b c = record_stays id i b
    stays_if (ActiveOf name) i a b c = named_stays (ActiveOf name) i tt c
    stays_if (BackupOf name) i a b c = named_stays (BackupOf name) i tt c
    stays_if (FileOf id part path) i a b c = named_stays (FileOf id part path) i tt c
    stays_if (DataOf name key) i a b c = same_data w v plain (boot_plain w plain order alone mounts) name key
    stays_if (SnapshotOf id name key) i a b c =
        same_snapshot w v plain (boot_plain w plain order alone mounts) id name key
    stays_if (PreRestoreOf id name key) i a b c =
        same_pre_restore w v plain (boot_plain w plain order alone mounts) id name key
    stays_if (WatchOf observer name) i a b c =
        same_watch w v plain (boot_plain w plain order alone mounts) observer name

    stays : (k : Key) → IsKey k → in_batch (key_text k) batch ≡ false → row_at v k ≡ row_at w k
    stays k i none =
        let (a, rest) = or_parts (same_key (key_text k) (key_text Boots))
        (in_batch (key_text k) (record_changes f w.sessions ++ settled)) none in
        let (b, c) = or_parts (in_batch (key_text k) (record_changes f w.sessions)) (in_batch (key_text k) settled)
        (sym (in_batch_append (key_text k) (record_changes f w.sessions) settled) ∙ rest) in
        stays_if k i a b c

    -- the boots row, the records that changed and what settling changes lead to the rows after the boot
    pub boot_leads : changed (rows w) batch ≡ rows v
    boot_leads = batch_leads w v law after_law batch written stays
