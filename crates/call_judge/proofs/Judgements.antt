-- Replies, rows and tables of calls. Callers want `quiet_is`, `found_in` and `is_record`.
use Rattle.std.proofs.Common.{◌≡◌, List, [], Option, Some, sym, ap, subst, ◌∙◌, refl}
use Rattle.apex_base.specs.declared.numbers.SessionId.{SessionId}
use Rattle.apex_base.specs.declared.records.Record.{Record}
use Rattle.apex_base.specs.Keys.{RowMap}
use Rattle.apex_base.specs.Sessions.{session_of}
use Rattle.apex_base.specs.Spelling.{IsRecord}
use Rattle.apex_base.proofs.SessionLemmas.{of_found}
use Rattle.row_map.specs.Rows.{changed}
use Rattle.apex_world.specs.declared.calls.Call.{Call}
use Rattle.apex_world.specs.Limits.{units}
use Rattle.apex_world.specs.Rows.{rows}
use Rattle.apex_world.specs.Running.{Running}
use Rattle.apex_world.specs.Step.{step}
use Rattle.apex_world.specs.Stepped.{Stepped}
use Rattle.apex_world.specs.World.{World}
use Rattle.call_judge.specs.declared.judged.Judged.{Judged}
use Rattle.call_judge.specs.declared.judged.Patch.{Patch}
use Rattle.call_judge.specs.declared.judged.Patch.TheVariants.{Nothing}
use Rattle.call_judge.specs.declared.tables.Tables.{Tables}
use Rattle.call_judge.specs.Stands.{StandsFor}
use Rattle.stored_world.specs.Stored.{IsSimple}
use Rattle.call_judge.specs.Judged.{IsJudged, RunsOn, patched, clock_after, units_after, unfinished_after}
use Rattle.call_judge.specs.Unfinished.{unfinished_with}

module _ (kept : RowMap) (tables : Tables) (w : World) (s : StandsFor kept tables w) where
  -- a call that changes nothing
  pub quiet_is : (judged : Judged) (call : Call) (x : Stepped) → step w call ≡ x → x.world ≡ w → judged.reply ≡ x.reply
      → judged.rows.items ≡ [] → judged.patch ≡ Nothing → IsJudged judged kept w call
  quiet_is judged call x e same says none nothing =
      let world : (step w call).world ≡ w = ap (λ (y : Stepped). y.world) e ∙ same in record {
        reply = says ∙ sym (ap (λ (y : Stepped). y.reply) e);
        stored = ap (changed kept) none ∙ s.stored ∙ ap rows (sym world);
        sessions = ap (λ (p : Patch). patched p w.sessions) nothing ∙ ap (λ (v : World). v.sessions) (sym world);
        clock = ap (λ (p : Patch). clock_after p w.clock) nothing ∙ ap (λ (v : World). v.clock) (sym world);
        units = ap (λ (p : Patch). units_after p (units w)) nothing ∙ ap units (sym world);
        unfinished = λ name. ap (λ (p : Patch). unfinished_after p name (unfinished_with w.sessions name)) nothing
            ∙ ap (λ (v : World). unfinished_with v.sessions name) (sym world);
        running = subst Running (sym world) s.running;
        simple = subst IsSimple (sym world) s.simple;
        rest = subst (RunsOn w) (sym world) (record { scale = refl; image = refl; active = refl });
      }

  -- what is found in the tables
  pub found_in : (id : SessionId) (o : Option Record) → session_of tables.sessions.items id ≡ o → session_of w.sessions id ≡ o
  found_in id o e = ap (λ (ss : List Record). session_of ss id) (sym s.sessions) ∙ e

  pub is_record : (id : SessionId) (r : Record) → session_of tables.sessions.items id ≡ Some r → IsRecord r
  is_record id r e = s.running.lawful.ranges.sessions r (of_found w.sessions id r (found_in id (Some r) e)).0
