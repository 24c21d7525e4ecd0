-- What a core does where a submit of one module is accepted. Callers want `entered_is`.
use Rattle.std.proofs.Common.{◌≡◌, ◌<◌, ◌^◌, leb, true, false, ℕ, List, [], ◌∷◌, Ok, None, sym, ap}
use Rattle.std.specs.Str.{bytes_eq}
use Rattle.std.proofs.Common.{subst, ◌∙◌, refl, inl, inr, arith}
use Rattle.std.proofs.lemmas.Bool.{and_parts, leb-true}
use Rattle.apex_base.specs.declared.numbers.SessionId.{SessionId}
use Rattle.apex_base.specs.declared.records.Record.{Record}
use Rattle.apex_base.specs.Keys.{RowMap}
use Rattle.apex_base.specs.Members.{In}
use Rattle.apex_base.specs.Modules.{FileMap, IsModule}
use Rattle.apex_base.specs.Sessions.{names, session_of, with_session}
use Rattle.apex_base.proofs.SessionLemmas.{with_any}
use Rattle.row_map.specs.Rows.{changed}
use Rattle.apex_world.specs.declared.calls.Call.TheVariants as calls
use Rattle.apex_world.specs.declared.modules.Package.{Package}
use Rattle.apex_world.specs.Limits.{units}
use Rattle.world_facts.specs.Plain.{IsPlain}
use Rattle.apex_world.specs.Rows.{rows}
use Rattle.apex_world.specs.Running.{Running}
use Rattle.apex_world.specs.Step.{submit}
use Rattle.apex_world.specs.Stepped.{Stepped, done}
use Rattle.apex_world.specs.Submit.{admitted, entered, image_print}
use Rattle.apex_world.specs.World.{World}
use Rattle.world_laws.proofs.runs.AdmittedLemmas.{admitted_is}
use Rattle.world_laws.proofs.runs.CallsRun.{calls_run}
use Rattle.world_facts.proofs.facts.PlainLemmas.{submit_plain}
use Rattle.world_laws.proofs.rows.SubmitWeight.{submit_units}
use Rattle.world_facts.proofs.facts.WorldRows.{same_name}
use Rattle.call_judge.specs.declared.judged.Judged.{Judged}
use Rattle.call_judge.specs.declared.judged.Patch.{Patch}
use Rattle.call_judge.specs.declared.judged.Patch.TheVariants.{New}
use Rattle.call_judge.specs.declared.tables.Tables.{Tables}
use Rattle.call_judge.specs.Stands.{StandsFor}
use Rattle.stored_world.specs.Stored.{IsSimple}
use Rattle.call_judge.specs.Judged.{IsJudged, RunsOn, patched, clock_after, units_after, unfinished_after}
use Rattle.call_judge.specs.Unfinished.{unfinished_with, entered_to}
use Rattle.call_judge.specs.Submitting.{IsEntered, plain_session, submitted_rows}
use Rattle.call_judge.proofs.Admitted.{free, nobody_there}
use Rattle.call_judge.proofs.EnteredRows.{entered_leads}
use Rattle.call_judge.proofs.Moved.{or_false}
use Rattle.call_judge.proofs.UnfinishedSessions.{entered_left, none_unfinished}

module _ (kept : RowMap) (tables : Tables) (w : World) (s : StandsFor kept tables w) (id : SessionId) (m : FileMap)
    (p : Package) (ok : admitted w id [] (m ∷ []) ≡ Ok (p ∷ [])) (is_module : IsModule m)
    (e : submit w id [] false (m ∷ []) ≡ done (entered w id [] false (p ∷ []))) where
  abbrev next : World
  next = entered w id [] false (p ∷ [])

  abbrev new : Record
  new = plain_session id p (image_print w.image)

  -- a caller's id has its width
  ranged : id.0 < 2 ^ 32
  ranged =
      let caller = (admitted_is w id [] (m ∷ []) (p ∷ []) ok).callers id (inl refl) in
      let low = leb-true id.0 1073741823 (and_parts (leb 1 id.0) (leb id.0 1073741823) caller).1 in
      omega (arith, low)

  run : Running (submit w id [] false (m ∷ [])).world
  run = calls_run w s.running (calls.Submit id [] false (m ∷ [])) (λ x h. elim h [
    | inl same ↦ subst IsModule same is_module
    | inr none ↦ absurd none
  ])

  running : Running next
  running = subst (λ (y : Stepped). Running y.world) e run

  plain : IsPlain next
  plain = subst (λ (y : Stepped). IsPlain y.world) e (submit_plain w s.simple.plain id [] (m ∷ []))

  childless : (r : Record) → In r next.sessions → r.children ≡ []
  childless r h = elim (with_any new w.sessions r h) [
    | inl same ↦ ap (λ (x : Record). x.children) same
    | inr there ↦ s.simple.childless r there
  ]

  -- the tables and the world have one fingerprint
  session_is : plain_session id p tables.image.print ≡ new
  session_is = ap (λ o. plain_session id p (image_print o)) s.image

  leads : changed kept (submitted_rows new p.content) ≡ rows next
  leads =
      ap (λ (k : RowMap). changed k (submitted_rows new p.content)) s.stored
      ∙ entered_leads w s.running.lawful s.simple.plain id p (free kept tables w s id m p ok) ranged plain
      running.lawful

  -- nobody has its id
  nobody : session_of w.sessions id ≡ None
  nobody = ap (λ (ss : List Record). session_of ss id) (sym s.sessions) ∙ nobody_there kept tables w s id m p ok

  -- nor its name, who is unfinished
  nobody_else : (name : List ℕ) → names name new ≡ true → unfinished_with w.sessions name ≡ None
  nobody_else name named =
      let its : p.name ≡ name = same_name p.name name (sym (or_false (bytes_eq p.name name)) ∙ named) in
      ap (λ (a : List ℕ). unfinished_with w.sessions a) (sym its)
      ∙ none_unfinished w.sessions p.name (λ r i u n.
      (admitted_is w id [] (m ∷ []) (p ∷ []) ok).alone p r (inl refl) i u n)

  -- the new session enters
  pub entered_is : (judged : Judged) → IsEntered judged tables (plain_session id p tables.image.print) p.content
      → IsJudged judged kept w (calls.Submit id [] false (m ∷ []))
  entered_is judged way =
      let session = plain_session id p tables.image.print in
      let put : with_session session w.sessions ≡ patched judged.patch w.sessions =
      subst (λ (ss : List Record). with_session session ss ≡ patched (New way.place session) ss) s.sessions way.put
      ∙ ap (λ (q : Patch). patched q w.sessions) (sym way.patch) in
      record {
        reply = way.reply ∙ sym (ap (λ (y : Stepped). y.reply) e);
        running = run;
        simple = subst (λ (y : Stepped). IsSimple y.world) (sym e) (record { plain = plain; childless = childless });
        stored = ap (changed kept) (way.rows ∙ ap (λ (x : Record). submitted_rows x p.content) session_is) ∙ leads
            ∙ sym (ap (λ (y : Stepped). rows y.world) e);
        sessions = sym put ∙ ap (λ (x : Record). with_session x w.sessions) session_is
            ∙ sym (ap (λ (y : Stepped). y.world.sessions) e);
        clock = ap (λ (q : Patch). clock_after q w.clock) way.patch ∙ sym (ap (λ (y : Stepped). y.world.clock) e);
        units = ap (λ (q : Patch). units_after q (units w)) way.patch
            ∙ sym (submit_units w s.running.lawful id [] false (p ∷ []) (free kept tables w s id m p ok))
            ∙ sym (ap (λ (y : Stepped). units y.world) e);
        unfinished = λ name. ap (λ (q : Patch). unfinished_after q name (unfinished_with w.sessions name)) way.patch
            ∙ ap (λ (x : Record). entered_to x name (unfinished_with w.sessions name)) session_is
            ∙ entered_left new w.sessions refl nobody nobody_else name
            ∙ sym (ap (λ (y : Stepped). unfinished_with y.world.sessions name) e);
        rest = subst (λ (y : Stepped). RunsOn w y.world) (sym e)
            (record { scale = refl; image = refl; active = refl });
      }
