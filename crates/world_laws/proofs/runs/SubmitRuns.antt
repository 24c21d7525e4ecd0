-- Worlds run on after Submit. Callers want `submit_running`.
use Rattle.std.proofs.Common.{◌≡◌, ℕ, ◌≤◌, Bool, true, false, IsTrue, List}
use Rattle.std.proofs.Common.{Option, Some, None, Result, Ok, Err, sym, ap, subst, ◌∙◌, refl, inl, inr, is_some}
use Rattle.std.proofs.Common.{le_trans, ◌++◌}
use Rattle.std.proofs.lemmas.Bool.{false≢true, leb-true}
use Rattle.apex_base.specs.declared.numbers.SessionId.{SessionId}
use Rattle.apex_base.specs.declared.records.Record.{Record}
use Rattle.apex_base.specs.declared.refusal.Refusal.{Refusal}
use Rattle.apex_base.specs.Members.{In}
use Rattle.apex_base.specs.Modules.{FileMap, IsModule}
use Rattle.apex_base.specs.Numbers.{scale_units, scale_file_weight}
use Rattle.apex_base.specs.Results.{◌>>=◌}
use Rattle.apex_base.specs.Sessions.{with_session}
use Rattle.apex_base.specs.Spelling.{IsRecord}
use Rattle.apex_base.specs.Text.{is_print}
use Rattle.apex_base.proofs.MemberLemmas.{in_append}
use Rattle.apex_base.proofs.SessionLemmas.{with_any}
use Rattle.apex_world.specs.declared.modules.Package.{Package}
use Rattle.apex_world.specs.declared.world.Submission.{Submission}
use Rattle.apex_world.specs.Bounds.{can_be_undone, can_be_rolled_back, is_ready_rollback}
use Rattle.apex_world.specs.Lawful.{Lawful, HasParts, HasRollback, has_cause}
use Rattle.apex_world.specs.Limits.{units, weight}
use Rattle.apex_world.specs.Running.{Running, is_of_image}
use Rattle.apex_world.specs.Step.{submit}
use Rattle.apex_world.specs.Stepped.{replied}
use Rattle.apex_world.specs.Submit.{submissions_from, image_print, new_session, entered, sessions_full, store_full}
use Rattle.apex_world.specs.Submit.{pass, admitted, within_scale}
use Rattle.apex_world.specs.World.{World}
use Rattle.world_laws.proofs.runs.AdmittedLemmas.{IsAdmitted, admitted_is}
use Rattle.world_laws.proofs.runs.DataRuns.{known_if}
use Rattle.world_laws.proofs.runs.NewParts.{submitted_at}
use Rattle.world_laws.proofs.runs.NewPast.{activations_with, undone_with}
use Rattle.world_laws.proofs.runs.NewSession.{rollback_idle, rollback_new, all_with, record_new, parts_new}
use Rattle.world_laws.proofs.runs.NewSession.{ids_with, alone_with, available_with}
use Rattle.world_laws.proofs.runs.SessionBeside.{count_with}
use Rattle.world_laws.proofs.runs.NewModules.{new_printed, modules_with}
use Rattle.world_laws.proofs.runs.RunningLemmas.{ranges_with}

-- the image needs no name of a new session
new_idle : (id : SessionId) (children : List SessionId) (b : Bool) (ps : List Package) (print : List ℕ)
    → (is_of_image (new_session id children b ps print) ≡ false)
    × (is_ready_rollback (new_session id children b ps print)
    ≡ false)
new_idle id children true ps print = (refl, refl)
new_idle id children false ps print = (refl, refl)

module _ (w : World) (run : Running w) (id : SessionId) (children : List SessionId) (rollback : Bool)
    (parts : List FileMap) (ps : List Package) (is : IsAdmitted w id children parts ps)
    (modules : (m : FileMap) → In m parts → IsModule m) where
  abbrev law : Lawful w
  law = run.lawful

  abbrev ss : List Record
  ss = w.sessions

  abbrev print : List ℕ
  print = image_print w.image

  abbrev new : Record
  new = new_session id children rollback ps (image_print w.image)

  abbrev after : List Record
  after = with_session (new_session id children rollback ps (image_print w.image)) w.sessions

  abbrev given : List Submission
  given = submissions_from id 0 ps

  abbrev world : World
  world = entered w id children rollback ps

  -- the fingerprint of the new session is one
  printed : IsTrue (is_print print)
  printed = new_printed w run id children rollback parts ps is modules

  -- the world with the new session is lawful, if it is within its scale
  entered_lawful : units world ≤ scale_units w.scale → weight world ≤ scale_file_weight w.scale → Lawful world
  entered_lawful few light = record {
    ranges = ranges_with w law.ranges after (w.modules ++ given) w.clock
        (all_with w law id children rollback parts ps print is printed IsRecord
        (record_new w law id children rollback parts ps print is printed) law.ranges.sessions)
        (λ s h. elim (in_append s w.modules given h) [
          | inl i ↦ law.ranges.modules s i
          | inr i ↦
              let at = submitted_at id 0 ps s i in
              subst IsModule (sym at.content) (modules at.given.content (is.packages at.given at.among).among)
        ]) law.ranges.clock;
    ids = ids_with w law id children rollback parts ps print is printed;
    parts = all_with w law id children rollback parts ps print is printed HasParts
        (parts_new w law id children rollback parts ps print is printed) law.parts;
    alone = alone_with w law id children rollback parts ps print is printed;
    activations = activations_with w law id children rollback parts ps print is printed;
    causes = all_with w law id children rollback parts ps print is printed (λ r. has_cause r.state ≡ is_some r.cause)
        refl
        law.causes;
    rollbacks = record {
      each = all_with w law id children rollback parts ps print is printed HasRollback
          (rollback_new id children rollback ps print) law.rollbacks.each;
      peers = available_with w law id children rollback parts ps print is printed;
    };
    undone = undone_with w law id children rollback parts ps print is printed;
    modules = modules_with w run id children rollback parts ps is modules;
    bounds = record {
      units = few;
      weight = light;
      contents = law.bounds.contents;
      eras = law.bounds.eras;
      undoable = le_trans (count_with can_be_undone new ss refl) law.bounds.undoable;
      available = le_trans (count_with can_be_rolled_back new ss (rollback_idle rollback).0) law.bounds.available;
      waiting = le_trans (count_with is_ready_rollback new ss (new_idle id children rollback ps print).1)
          law.bounds.waiting;
      watches = law.bounds.watches;
    };
    begun = law.begun;
  }

  -- and it runs
  entered_running : units world ≤ scale_units w.scale → weight world ≤ scale_file_weight w.scale → Running world
  entered_running few light = record {
    lawful = entered_lawful few light;
    image = run.image;
    sessions = λ r name h e n. elim (with_any new ss r h) [
      | inl a ↦ absurd (false≢true (sym (new_idle id children rollback ps print).0
          ∙ ap (λ (r : Record). is_of_image r) (sym a) ∙ e))
      | inr i ↦ run.sessions r name i e n
    ];
    contents = run.contents;
    watches = run.watches;
    observers = run.observers;
    sorted = run.sorted;
    past = run.past;
  }

  -- it is entered if it is within its scale, and else the world stays
  within_by : (o p : Option Refusal) → sessions_full world ≡ o → store_full world ≡ p
      → Running (replied w (pass o >>= λ x. pass p >>= λ y. Ok world)).world
  within_by None None e f = entered_running (leb-true (units world) (scale_units w.scale) (known_if _ _ e))
      (leb-true (weight world) (scale_file_weight w.scale) (known_if _ _ f))
  within_by None (Some refusal) e f = run
  within_by (Some refusal) p e f = run

module _ (w : World) (run : Running w) (id : SessionId) (children : List SessionId) (rollback : Bool)
    (parts : List FileMap) (modules : (m : FileMap) → In m parts → IsModule m) where
  -- a submit that is admitted, or not
  submit_by : (o : Result (List Package) Refusal) → admitted w id children parts ≡ o
      → Running (replied w (o >>= λ packages. within_scale (entered w id children rollback packages))).world
  submit_by (Err refusal) e = run
  submit_by (Ok ps) e =
      within_by w run id children rollback parts ps (admitted_is w id children parts ps e) modules
      (sessions_full (entered w id children rollback ps)) (store_full (entered w id children rollback ps)) refl refl

  -- the call Submit
  pub submit_running : Running (submit w id children rollback parts).world
  submit_running = submit_by (admitted w id children parts) refl
