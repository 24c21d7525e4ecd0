-- Worlds that are alike, with a new session that a submit makes. Callers want `entered_alike` and `full_alike`.
use Rattle.std.proofs.Common.{◌++◌, ◌≡◌, ◌≢◌, ℕ, Bool, cond, leb, List, [], ◌∷◌, Option}
use Rattle.std.proofs.Common.{Some, None, sym, ap, subst, ◌∙◌, refl, inl, inr}
use Rattle.apex_base.specs.declared.numbers.SessionId.{SessionId}
use Rattle.apex_base.specs.declared.records.Part.{Part}
use Rattle.apex_base.specs.declared.records.Record.{Record}
use Rattle.apex_base.specs.declared.records.Target.TheVariants as targets
use Rattle.apex_base.specs.declared.refusal.Refusal.{Refusal}
use Rattle.apex_base.specs.declared.refusal.Refusal.TheVariants.{StoreFull}
use Rattle.apex_base.specs.Held.{kept}
use Rattle.apex_base.specs.Members.{In}
use Rattle.apex_base.specs.Numbers.{scale_file_weight}
use Rattle.apex_base.specs.Sessions.{with_session}
use Rattle.apex_base.proofs.SessionLemmas.{with_any}
use Rattle.apex_world.specs.declared.modules.Package.{Package}
use Rattle.apex_world.specs.declared.world.Submission.{Submission}
use Rattle.apex_world.specs.Lawful.{Lawful}
use Rattle.apex_world.specs.Limits.{weight}
use Rattle.apex_world.specs.Selection.{submitted_by}
use Rattle.world_laws.specs.StoredAlike.{AreAlikeInParts}
use Rattle.apex_world.specs.Submit.{id_taken, submissions_from, image_print, new_session, entered}
use Rattle.apex_world.specs.Submit.{store_full}
use Rattle.apex_world.specs.World.{World}
use Rattle.world_laws.proofs.alike.AlikeAfter.{no_past_new, target_in, in_target, same_past}
use Rattle.world_laws.proofs.alike.AlikeLemmas.{alike_with, other}
use Rattle.world_facts.proofs.facts.KeptLemmas.{ordered}
use Rattle.world_facts.proofs.facts.KeptLess.{IsFresh, Nothing, Before, New, kept_less}
use Rattle.world_laws.proofs.alike.OpenedModules.{HaveSameFiles, weight_same}
use Rattle.world_laws.proofs.alike.EnteredModules.{submitted_more, weight_more, target_session, own_target, none_if}
use Rattle.world_laws.proofs.alike.EnteredSessions.{unused, carries, ordered_after, past_stays}

module _ (w v : World) (a : AreAlikeInParts w v) (law : Lawful w) (law' : Lawful v) (id : SessionId)
    (children : List SessionId) (rollback : Bool) (ps : List Package)
    (free : id_taken w.sessions [] (id ∷ children) ≡ None) where
  abbrev s : Record
  s = new_session id children rollback ps (image_print w.image)

  abbrev after : List Record
  after = with_session (new_session id children rollback ps (image_print w.image)) w.sessions

  abbrev z : World
  z = other w v a

  abbrev added : List Submission
  added = submissions_from id 0 ps

  none_of : (y : World) → Lawful y → w.sessions ≡ y.sessions → (part : ℕ) → submitted_by y.modules id part ≡ None
  none_of y lawful same part = none_if y lawful id
      (subst (λ (ss : List Record). (r : Record) → In r ss → r.id.0 ≢ id.0) same
      (unused w law id children rollback ps free)) part
      (submitted_by y.modules id part) refl

  -- a new target is of the new session, of which neither world has a module
  own_none : (session : SessionId) (part version : ℕ) (r : Record) (p : Part) → In r after → IsFresh w.sessions r
      → In p r.parts → targets.Module session part version ≡ p.target
      → submitted_by w.modules session part ≡ submitted_by v.modules session part
  own_none session part version r p i f j e =
      elim (with_any s w.sessions r i) [
        | inr k ↦ absurd (f.unused r k refl)
        | inl g ↦
            let same : session ≡ id = ap (target_session id) e
            ∙ own_target id 0 ps p (subst (λ (r : Record). In p r.parts) g j) in
            ap (λ (id : SessionId). submitted_by w.modules id part) same ∙ none_of w law refl part
            ∙ sym (none_of v law' a.stored.sessions part)
            ∙ ap (λ (id : SessionId). submitted_by v.modules id part) (sym same)
      ]

  same_files : HaveSameFiles after w.modules v.modules
  same_files session part k =
      let (version, h) = target_in (kept after) session part k in
      let t = targets.Module session part version in
      elim (kept_less w.sessions after (ordered w law)
      (ordered_after w law id children rollback ps free) (carries w law id children rollback ps free) t h) [
        | Nothing e ↦ absurd (cc)
        | Before i ↦ a.stored.modules session part (in_target (kept w.sessions) session part version i)
        | New r p i f j e ↦ own_none session part version r p i f j e
      ]

  -- the worlds with the new session are alike in parts
  pub entered_alike : AreAlikeInParts (entered w id children rollback ps) (entered z id children rollback ps)
  entered_alike =
      alike_with w v a after (w.modules ++ added) (v.modules ++ added) w.contents w.watches w.clock
      (λ session part k. submitted_more w.modules v.modules added session part (same_files session part k))
      (same_past w v a after (ordered w law) (ordered_after w law id children rollback ps free)
      (carries w law id children rollback ps free)
      (no_past_new w.sessions after (past_stays w law id children rollback ps free)))

  weight_alike : weight (entered w id children rollback ps) ≡ weight (entered z id children rollback ps)
  weight_alike = weight_more after w.modules v.modules added
      (weight_same after w.modules v.modules law.modules.distinct law'.modules.distinct same_files)

  -- and are full alike
  pub full_alike : store_full (entered w id children rollback ps) ≡ store_full (entered z id children rollback ps)
  full_alike = ap (λ (n : ℕ). cond {A = Option Refusal} (leb n (scale_file_weight w.scale)) None (Some (StoreFull n)))
      weight_alike
