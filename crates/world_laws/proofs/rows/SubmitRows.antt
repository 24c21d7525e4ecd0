-- The rows after a submit. Callers want `submit_puts`.
use Rattle.std.proofs.Common.{◌≡◌, ◌≢◌, ℕ, ◌+◌, ◌<◌, ◌^◌, Bool, true, false, cond, eqb, ◌&&◌, List, [], ◌∷◌, ◌++◌}
use Rattle.std.proofs.Common.{Option, Some, None, sym, ap, subst, ◌∙◌, refl, inl, inr, arith, zero, suc}
use Rattle.std.specs.Prelude.{find, slice_get, option_and_then}
use Rattle.std.specs.Option.{option_map, option_or}
use Rattle.std.specs.FinMap as fin
use Rattle.std.proofs.lemmas.Bool.{false≢true, eqb-true, ne_eqb, eq-eqb, and_left}
use Rattle.std.proofs.lemmas.List.Folds.{find-append}
use Rattle.apex_base.specs.declared.numbers.SessionId.{SessionId}
use Rattle.apex_base.specs.declared.records.Part.{Part}
use Rattle.apex_base.specs.declared.records.Record.{Record}
use Rattle.apex_base.specs.declared.records.Target.TheVariants as targets
use Rattle.apex_base.specs.Held.{kept, is_target}
use Rattle.apex_base.specs.Keys.{Key, Boots, RecordOf, ActiveOf, BackupOf, FileOf, DataOf, SnapshotOf, PreRestoreOf}
use Rattle.apex_base.specs.Keys.{WatchOf, IsKey}
use Rattle.apex_base.specs.Members.{In}
use Rattle.apex_base.specs.Modules.{FileMap}
use Rattle.apex_base.specs.Sessions.{session_of, with_session}
use Rattle.apex_base.proofs.Finding.{is_there, some_then}
use Rattle.apex_base.proofs.SessionLemmas.{with_any, with_self, of_found}
use Rattle.apex_world.specs.declared.modules.Package.{Package}
use Rattle.apex_world.specs.declared.world.Submission.{Submission}
use Rattle.apex_world.specs.Lawful.{Lawful, part_at_place}
use Rattle.apex_world.specs.Rows.{row_at, rows}
use Rattle.world_laws.specs.RowsAfter.{still, settled_row, package_file, put_row}
use Rattle.apex_world.specs.Selection.{submitted_by}
use Rattle.apex_world.specs.Submit.{id_taken, parts_from, submissions_from, image_print, new_session, entered}
use Rattle.apex_world.specs.World.{World}
use Rattle.world_laws.proofs.alike.AlikeAfter.{target_in, in_target}
use Rattle.world_laws.proofs.alike.EnteredModules.{target_session, own_target}
use Rattle.world_laws.proofs.alike.EnteredSessions.{unused, carries, ordered_after, past_stays}
use Rattle.world_facts.proofs.facts.KeptLemmas.{Own, ordered, keeps}
use Rattle.world_facts.proofs.facts.KeptLess.{Nothing, Before, New, kept_less}
use Rattle.world_laws.proofs.runs.NewParts.{first_found, later_found, newly_submitted}
use Rattle.world_laws.proofs.rows.SettledRows.{if_so, snapshot_of, restore_of}
use Rattle.world_facts.proofs.facts.WorldRows.{same_id, world_row}

-- Modules of packages

-- the module of a part is that of its package
package_there : (id : SessionId) (k : ℕ) (ps : List Package) (n part : ℕ) → part ≡ k + n
    → submitted_by (submissions_from id k ps) id part ≡ option_map (λ (p : Package). p.content) (slice_get ps n)
package_there id k [] n part e = refl
package_there id k (p ∷ ps) zero part e =
    let same : part ≡ k = omega (arith, e) in
    ap (λ (n : ℕ). submitted_by (submissions_from id k (p ∷ ps)) id n) same ∙ first_found id k p ps
package_there id k (p ∷ ps) (suc n) part e =
    later_found id k part p ps (λ f. omega (arith, e, f)) ∙ package_there id (k + 1) ps n part (omega (arith, e))

abbrev part_of_package : SessionId → ℕ → Package → Part
part_of_package id part p =
    record { name = p.name; version = Some p.version; target = targets.Module id part p.version }

-- and its part is there
part_there : (id : SessionId) (k : ℕ) (ps : List Package) (n part : ℕ) (p : Package) → part ≡ k + n
    → slice_get ps n ≡ Some p → In (part_of_package id part p) (parts_from id k ps)
part_there id k [] n part p e f = absurd (cc)
part_there id k (q ∷ ps) zero part p e f =
    let same : q ≡ p = cc in
    let first : k ≡ part = omega (arith, e) in
    inl (ap (part_of_package id k) same ∙ ap (λ (n : ℕ). part_of_package id n p) first)
part_there id k (q ∷ ps) (suc n) part p e f = inr (part_there id (k + 1) ps n part p (omega (arith, e)) f)

-- another session has none of them
none_other : (id session : SessionId) (k : ℕ) (ps : List Package) (part : ℕ) → id.0 ≢ session.0
    → find (λ s. eqb s.session.0 session.0 && eqb s.part part) (submissions_from id k ps) ≡ None
none_other id session k [] part d = refl
none_other id session k (p ∷ ps) part d =
    ap (λ b. cond b (Some (record { session = id; part = k; content = p.content }))
    (find (λ s. eqb s.session.0 session.0 && eqb s.part part) (submissions_from id (k + 1) ps)))
    (and_left (eqb id.0 session.0) (eqb k part) (ne_eqb id.0 session.0 d))
    ∙ none_other id session (k + 1) ps part d

or_none : {X : Type 0} (o : Option X) → option_or o None ≡ o
or_none None = refl
or_none (Some x) = refl

no_file : {X : Type 0} (b : Bool) → cond {A = Option X} b None None ≡ None
no_file true = refl
no_file false = refl

module _ (w : World) (law : Lawful w) (id : SessionId) (children : List SessionId) (rollback : Bool)
    (ps : List Package) (free : id_taken w.sessions [] (id ∷ children) ≡ None) where
  abbrev new : Record
  new = new_session id children rollback ps (image_print w.image)

  abbrev after : List Record
  after = with_session (new_session id children rollback ps (image_print w.image)) w.sessions

  abbrev given : List Submission
  given = submissions_from id 0 ps

  abbrev file_in : List Submission → SessionId → ℕ → List ℕ → Option (List ℕ)
  file_in modules session part path =
      option_and_then (λ (m : FileMap). fin.get m path) (submitted_by modules session part)

  -- the session had submitted nothing
  pub none_before : (s : Submission) → In s w.modules → s.session.0 ≢ id.0
  none_before s h e =
      let (p, f) = is_there (part_at_place w.sessions s.session s.part) (law.modules.owned s h) in
      let (r, g, i) = some_then (λ (r : Record). slice_get r.parts s.part) (session_of w.sessions s.session) p f in
      let (j, is) = of_found w.sessions s.session r g in
      unused w law id children rollback ps free r j (is ∙ e)

  -- Its own files

  submitted_new : (part : ℕ) → submitted_by (w.modules ++ given) id part
      ≡ option_map (λ (p : Package). p.content) (slice_get ps part)
  submitted_new part =
      newly_submitted w.modules given id part none_before ∙ package_there id 0 ps part part (omega arith)

  -- each of its modules is kept
  pub new_kept : (q : Part) → In q (parts_from id 0 ps) → In q.target (kept after)
  new_kept q h = keeps after new q q.target (with_self new w.sessions) h (Own refl refl)

  own_if : (part : ℕ) (path : List ℕ) (o : Option Package) → slice_get ps part ≡ o
      → cond (is_target (kept after) id part) (file_in (w.modules ++ given) id part path) None
      ≡ option_and_then (λ (p : Package). fin.get p.content path) o
  own_if part path None e =
      ap (λ (m : Option FileMap). cond (is_target (kept after) id part)
      (option_and_then (λ (m : FileMap). fin.get m path) m) None)
      (submitted_new part ∙ ap (option_map (λ (p : Package). p.content)) e)
      ∙ no_file (is_target (kept after) id part)
  own_if part path (Some p) e =
      let q = part_of_package id part p in
      let there = new_kept q (part_there id 0 ps part part p (omega arith) e) in
      if_so (is_target (kept after) id part) (file_in (w.modules ++ given) id part path)
      (in_target (kept after) id part p.version there)
      ∙ ap (option_and_then (λ (m : FileMap). fin.get m path))
      (submitted_new part ∙ ap (option_map (λ (p : Package). p.content)) e)

  -- Those of others

  submitted_other : (session : SessionId) (part : ℕ) → id.0 ≢ session.0
      → submitted_by (w.modules ++ given) session part ≡ submitted_by w.modules session part
  submitted_other session part d =
      let test : Submission → Bool = λ s. eqb s.session.0 session.0 && eqb s.part part in
      ap (option_map (λ (s : Submission). s.content)) (find-append test w.modules given
      ∙ ap (option_or (find test w.modules)) (none_other id session 0 ps part d) ∙ or_none (find test w.modules))

  -- no module of another session is kept that wasn't
  pub was_target : (session : SessionId) (part : ℕ) → id.0 ≢ session.0 → is_target (kept after) session part ≡ true
      → is_target (kept w.sessions) session part ≡ true
  was_target session part d e =
      let (version, h) = target_in (kept after) session part e in
      let t = targets.Module session part version in
      elim (kept_less w.sessions after (ordered w law) (ordered_after w law id children rollback ps free)
      (carries w law id children rollback ps free) t h) [
        | Nothing f ↦ absurd (cc)
        | Before i ↦ in_target (kept w.sessions) session part version i
        | New r p i f j g ↦ elim (with_any new w.sessions r i) [
          | inr k ↦ absurd (f.unused r k refl)
          | inl is ↦
              let same : session ≡ id = ap (target_session id) g
              ∙ own_target id 0 ps p (subst (λ (r : Record). In p r.parts) is j) in
              absurd (d (ap (λ (x : SessionId). x.0) (sym same)))
        ]
      ]

  other_if : (session : SessionId) (part : ℕ) (path : List ℕ) → session.0 < 2 ^ 32 → id.0 ≢ session.0 → (b : Bool)
      → is_target (kept after) session part ≡ b
      → cond b (file_in (w.modules ++ given) session part path) None ≡ still (rows w) (FileOf session part path) b
  other_if session part path l d false e = refl
  other_if session part path l d true e =
      ap (option_and_then (λ (m : FileMap). fin.get m path)) (submitted_other session part d)
      ∙ sym (world_row w law (FileOf session part path) l
      ∙ if_so (is_target (kept w.sessions) session part) (file_in w.modules session part path)
      (was_target session part d e))

  file_if : (session : SessionId) (part : ℕ) (path : List ℕ) → session.0 < 2 ^ 32 → (b : Bool) → eqb session.0 id.0 ≡ b
      → cond (is_target (kept after) session part) (file_in (w.modules ++ given) session part path) None
      ≡ cond b (package_file ps part path) (settled_row (rows w) after (FileOf session part path))
  file_if session part path l true e =
      ap (λ (x : SessionId). cond (is_target (kept after) x part) (file_in (w.modules ++ given) x part path) None)
      (same_id session id (eqb-true session.0 id.0 e))
      ∙ own_if part path (slice_get ps part) refl
  file_if session part path l false e =
      other_if session part path l (λ f. false≢true (sym e ∙ eq-eqb session.0 id.0 (sym f)))
      (is_target (kept after) session part) refl

  -- the row at each key
  pub submit_puts : (k : Key) → IsKey k
      → row_at (entered w id children rollback ps) k ≡ put_row (rows w) after id ps k
  submit_puts Boots i = sym (world_row w law Boots i)
  submit_puts (RecordOf x) i = refl
  submit_puts (ActiveOf name) i = refl
  submit_puts (BackupOf name) i = refl
  submit_puts (FileOf session part path) i = file_if session part path i (eqb session.0 id.0) refl
  submit_puts (DataOf name key) i = sym (world_row w law (DataOf name key) i)
  submit_puts (SnapshotOf x name key) i =
      snapshot_of w law after (past_stays w law id children rollback ps free) x name key i (session_of after x) refl
  submit_puts (PreRestoreOf x name key) i =
      restore_of w law after (past_stays w law id children rollback ps free) x name key i (session_of after x) refl
  submit_puts (WatchOf observer name) i = sym (world_row w law (WatchOf observer name) i)
