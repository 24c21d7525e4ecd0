-- What the rows of a world are after a boot, by the rows before it: all but those of data. Callers want `settled_at`.
use Rattle.std.proofs.Common.{◌≡◌, ◌⊎◌, ℕ, ◌<◌, ◌^◌, Bool, true, false, cond, eqb, ◌&&◌, List, []}
use Rattle.std.proofs.Common.{Option, Some, None, sym, ap, ◌∙◌, refl, inl, inr, arith}
use Rattle.std.specs.Prelude.{option_and_then}
use Rattle.std.specs.List.{list_any}
use Rattle.std.specs.Option.{option_map}
use Rattle.std.specs.Str.{bytes_eq}
use Rattle.std.specs.FinMap as fin
use Rattle.std.proofs.lemmas.Bool.{false≢true, ne_eqb, eqb-true, eq-eqb}
use Rattle.apex_base.specs.declared.numbers.SessionId.{SessionId}
use Rattle.apex_base.specs.declared.records.Part.{Part}
use Rattle.apex_base.specs.declared.records.Record.{Record}
use Rattle.apex_base.specs.declared.records.Target.{Target}
use Rattle.apex_base.specs.declared.records.Target.TheVariants as targets
use Rattle.apex_base.specs.Held.{kept, is_module, is_target}
use Rattle.apex_base.specs.Keys.{Key, Boots, RecordOf, ActiveOf, BackupOf, FileOf, DataOf, SnapshotOf, PreRestoreOf}
use Rattle.apex_base.specs.Keys.{WatchOf, IsKey, key_text}
use Rattle.apex_base.specs.Members.{In}
use Rattle.apex_base.specs.Modules.{FileMap}
use Rattle.apex_base.specs.Reading.{eight_text}
use Rattle.apex_base.specs.Sessions.{names, session_of}
use Rattle.apex_base.specs.Tables.{value_of}
use Rattle.apex_base.specs.Windows.{last_five}
use Rattle.apex_base.proofs.MemberLemmas.{any_in, in_any}
use Rattle.apex_base.proofs.SessionLemmas.{of_found}
use Rattle.apex_world.specs.declared.calls.BootOrder.{BootOrder}
use Rattle.apex_world.specs.Boot.{started}
use Rattle.apex_world.specs.Lawful.{Lawful}
use Rattle.apex_world.specs.Opened.{end_of}
use Rattle.apex_world.specs.Rows.{boots_text, boots_row, file_row, snapshot_row, pre_restore_row, watch_row}
use Rattle.apex_world.specs.Rows.{earlier, has_snapshot, has_pre_restore, row_at, rows}
use Rattle.world_laws.specs.RowsAfter.{still}
use Rattle.world_laws.specs.RowsBooted.{past_row, has_name, is_registered_by, lasts_in, booted_row}
use Rattle.apex_world.specs.Selection.{Mounts, submitted_by}
use Rattle.apex_world.specs.Watching.{is_before}
use Rattle.apex_world.specs.World.{World, Contents, era}
use Rattle.world_laws.proofs.alike.BootFades.{era_front, era_last}
use Rattle.world_laws.proofs.runs.BootLaws.{number, number_is}
use Rattle.world_laws.proofs.rows.BootWatchRows.{watch_after}
use Rattle.world_laws.proofs.rows.KeptRows.{Was, KeepsPast, KeepsRows}
use Rattle.world_facts.proofs.facts.OpenedTables.{end_if}
use Rattle.world_facts.proofs.facts.WorldRows.{file_at, data_at, snapshot_at, pre_restore_at, watch_at}

still_if : (b : Bool) (o p : Option (List ℕ)) → (b ≡ true → o ≡ p) → cond b o None ≡ cond b p None
still_if true o p e = e refl
still_if false o p e = refl

module _ (w : World) (law : Lawful w) (order : BootOrder) (mounts : Mounts) where
  abbrev n : ℕ
  n = number w law order mounts

  abbrev row_of : Key → Option (List ℕ)
  row_of k = fin.get (rows w) (key_text k)

  -- the world after a boot, with the sessions and the moments that a boot loop leaves
  module _ (ss : List Record) (ms : List ℕ) (keeps : KeepsRows n w.sessions ss) where
    abbrev u : World
    u = record (started w order mounts) { sessions = ss; moments = ms }

    boots_settled : boots_row u ≡ Some (boots_text n (last_five ms))
    boots_settled = ap (λ (b : Bool). cond b None (Some (boots_text n (last_five ms))))
        (ne_eqb n 0 (λ z. let e = number_is w law order mounts in omega (arith, e, z)))

    -- Files

    module_was : (session : SessionId) (part : ℕ) (t : Target) → is_module session part t ≡ true
        → (t ≡ targets.Preinstalled) ⊎ In t (kept w.sessions) → is_target (kept w.sessions) session part ≡ true
    module_was session part t e (inl f) = absurd (false≢true (ap (is_module session part) (sym f) ∙ e))
    module_was session part t e (inr h) = in_any (is_module session part) t (kept w.sessions) h e

    target_was : (session : SessionId) (part : ℕ) → is_target (kept ss) session part ≡ true
        → is_target (kept w.sessions) session part ≡ true
    target_was session part e =
        let (t, h, f) = any_in (is_module session part) (kept ss) e in
        module_was session part t f (keeps.modules t h)

    file_settled : (session : SessionId) (part : ℕ) (path : List ℕ) → session.0 < 2 ^ 32
        → file_row u session part path
        ≡ still (rows w) (FileOf session part path) (is_target (kept ss) session part)
    file_settled session part path l =
        let file : Option (List ℕ) = option_and_then (λ (m : FileMap). fin.get m path)
        (submitted_by w.modules session part) in
        still_if (is_target (kept ss) session part) file (row_of (FileOf session part path)) (λ e.
        sym (file_at w law session part path l
        ∙ ap (λ (b : Bool). cond b file None) (target_was session part e)))

    -- What sessions keep

    module _ (test test' : Record → Bool) (past : KeepsPast n w.sessions ss test test') (id : SessionId)
        (name key : List ℕ) (k : Key) (was_row : row_of k
        ≡ option_and_then (λ (r : Record). cond (test r) (earlier w name key r) None) (session_of w.sessions id)) where
      -- what was put by is what there was
      now_settled : (s : Record) → s.activation ≡ n
          → earlier u name key s ≡ still (rows w) (DataOf name key) (names name s)
      now_settled s e = still_if (names name s) (value_of (era u.eras s.activation) name key)
          (row_of (DataOf name key)) (λ f.
          ap (λ (c : Contents). value_of c name key)
          (era_last w.eras w.contents s.activation e)
          ∙ sym (data_at w law name key))

      -- what was kept stays
      old_settled : (s : Record) → Was w.sessions test id s → earlier u name key s ≡ row_of k
      old_settled s was =
          let r = was.old in
          let most = (law.activations.each r (of_found w.sessions id r was.found).0).most in
          let same = was.activation in
          ap (λ (c : Contents). cond (names name s) (value_of c name key) None)
          (era_front w.eras w.contents s.activation (omega (arith, most, same))
          ∙ ap (λ (b : ℕ). era w.eras b) was.activation)
          ∙ ap (λ (ps : List Part). cond (list_any (λ p. bytes_eq p.name name) ps)
          (value_of (era w.eras r.activation) name key) None) was.parts
          ∙ ap (λ (b : Bool). cond b (earlier w name key r) None) (sym was.passes)
          ∙ ap (option_and_then (λ (r : Record). cond (test r) (earlier w name key r) None)) (sym was.found)
          ∙ sym was_row

      kept_settled : (b : Bool) (s : Record) → eqb s.activation n ≡ b → (s.activation ≡ n) ⊎ Was w.sessions test id s
          → earlier u name key s
          ≡ cond b (still (rows w) (DataOf name key) (names name s)) (still (rows w) k true)
      kept_settled true s e by = now_settled s (eqb-true s.activation n e)
      kept_settled false s e (inl now) = absurd (false≢true (sym e ∙ eq-eqb s.activation n now))
      kept_settled false s e (inr was) = old_settled s was

      past_if : (b : Bool) (s : Record) → test' s ≡ b → session_of ss id ≡ Some s
          → cond b (earlier u name key s) None ≡ cond b (cond (eqb s.activation n)
          (still (rows w) (DataOf name key) (names name s)) (still (rows w) k true)) None
      past_if true s e found = kept_settled (eqb s.activation n) s refl (past id s found e)
      past_if false s e found = refl

      past_settled : (o : Option Record) → session_of ss id ≡ o
          → option_and_then (λ (r : Record). cond (test' r) (earlier u name key r) None) o
          ≡ past_row (rows w) n test' o name key k
      past_settled None found = refl
      past_settled (Some s) found = past_if (test' s) s refl found

    snapshot_settled : (id : SessionId) (name key : List ℕ) → id.0 < 2 ^ 32 → snapshot_row u id name key
        ≡ past_row (rows w) n (has_snapshot ss) (session_of ss id) name key (SnapshotOf id name key)
    snapshot_settled id name key l =
        past_settled (has_snapshot w.sessions) (has_snapshot ss) keeps.snapshots id name key (SnapshotOf id name key)
        (snapshot_at w law id name key l) (session_of ss id) refl

    pre_restore_settled : (id : SessionId) (name key : List ℕ) → id.0 < 2 ^ 32 → pre_restore_row u id name key
        ≡ past_row (rows w) n has_pre_restore (session_of ss id) name key (PreRestoreOf id name key)
    pre_restore_settled id name key l =
        past_settled has_pre_restore has_pre_restore keeps.pre_restores id name key (PreRestoreOf id name key)
        (pre_restore_at w law id name key l) (session_of ss id) refl

    -- Watches

    abbrev text : ℕ → List ℕ
    text end = eight_text end []

    map_if : (b : Bool) (o : Option ℕ) → option_map text (cond b o None) ≡ cond b (option_map text o) None
    map_if true o = refl
    map_if false o = refl

    watch_settled : (observer name : List ℕ) → watch_row u observer name
        ≡ still (rows w) (WatchOf observer name) (is_registered_by order.observers observer
        && (has_name order.image name && lasts_in (rows w) order.time (WatchOf observer name)))
    watch_settled observer name =
        let was = value_of w.watches observer name in
        let row = watch_at w law observer name in
        let end : option_and_then end_of (row_of (WatchOf observer name)) ≡ was =
        ap (option_and_then end_of) row ∙ end_if was (λ m e. law.ranges.ends observer name m e) in
        let lasts : Option ℕ → Bool = λ o. is_registered_by order.observers observer
        && (has_name order.image name && is_before order.time o) in
        ap (option_map text) (watch_after order w.watches observer name)
        ∙ map_if (lasts was) was
        ∙ ap (λ (o : Option (List ℕ)). cond (lasts was) o None) (sym row)
        ∙ ap (λ (o : Option ℕ). cond (lasts o) (row_of (WatchOf observer name)) None) (sym end)

    abbrev Settled : Key → Type 0
    Settled k = row_at u k ≡ booted_row (rows w) w.sessions ss order n ms k

    -- at each key the row is what it is settled to, if that is so at those of data
    pub settled_at : ((name key : List ℕ) → Settled (DataOf name key)) → (k : Key) → IsKey k → Settled k
    settled_at values Boots i = boots_settled
    settled_at values (RecordOf id) i = refl
    settled_at values (ActiveOf name) i = refl
    settled_at values (BackupOf name) i = refl
    settled_at values (FileOf id part path) i = file_settled id part path i
    settled_at values (DataOf name key) i = values name key
    settled_at values (SnapshotOf id name key) i = snapshot_settled id name key i
    settled_at values (PreRestoreOf id name key) i = pre_restore_settled id name key i
    settled_at values (WatchOf observer name) i = watch_settled observer name
