-- The rows of a part whose module is kept are the module that was submitted. Callers want `target_kept` and
-- `rows_hold_module`.
use Rattle.std.proofs.Common.{◌≡◌, ℕ, ◌<◌, ◌^◌, Bool, true, cond, eqb, List, Option, Some, None, sym, ap, subst, ◌∙◌}
use Rattle.std.specs.Prelude.{option_and_then}
use Rattle.std.specs.FinMap as fin
use Rattle.std.proofs.lemmas.Bool.{and_parts, eqb-true}
use Rattle.apex_base.specs.declared.numbers.SessionId.{SessionId}
use Rattle.apex_base.specs.declared.records.Target.{Target}
use Rattle.apex_base.specs.declared.records.Target.TheVariants as targets
use Rattle.apex_base.specs.Held.{kept, is_module, is_target}
use Rattle.apex_base.specs.Keys.{file_front, ends_of}
use Rattle.apex_base.specs.Members.{In}
use Rattle.apex_base.specs.Modules.{FileMap}
use Rattle.apex_base.specs.RowSums.{module_at}
use Rattle.apex_base.proofs.MemberLemmas.{any_in}
use Rattle.apex_base.proofs.RowMaps.{same_names, tabulated, in_ends}
use Rattle.apex_world.specs.Lawful.{Lawful, IsKept}
use Rattle.apex_world.specs.Rows.{rows}
use Rattle.apex_world.specs.Selection.{submitted_by}
use Rattle.apex_world.specs.World.{World}
use Rattle.world_facts.proofs.facts.WorldRows.{same_id, submission_of, submitted_id, file_at}

pub this_module : (session : SessionId) (part : ℕ) (t : Target) → is_module session part t ≡ true
    → (version : ℕ) × (t ≡ targets.Module session part version)
this_module session part targets.Preinstalled e = absurd (cc)
this_module session part (targets.Module s p version) e =
    let (a, b) = and_parts (eqb s.0 session.0) (eqb p part) e in (
      version,
      ap (λ (id : SessionId). targets.Module id p version) (same_id s session (eqb-true s.0 session.0 a))
          ∙ ap (λ (n : ℕ). targets.Module session n version) (eqb-true p part b),
    )

module _ (w : World) (law : Lawful w) (session : SessionId) (part : ℕ)
    (is_kept : is_target (kept w.sessions) session part ≡ true) where
  -- the module is one that is kept, of some version
  pub target_kept : (version : ℕ) × IsKept w session part version
  target_kept =
      let (t, h, is) = any_in (is_module session part) (kept w.sessions) is_kept in
      let (version, e) = this_module session part t is in
      (version, law.modules.kept session part version (subst (λ (t : Target). In t (kept w.sessions)) e h))

  pub kept_id : session.0 < 2 ^ 32
  kept_id =
      let (version, k) = target_kept in
      let (s, h, is, p, c) = submission_of w.modules session part k.content k.there in
      subst (λ (id : SessionId). id.0 < 2 ^ 32) is (submitted_id w law s h)

  -- the rows have its files
  pub kept_file : (m : FileMap) → submitted_by w.modules session part ≡ Some m → (path : List ℕ)
      → fin.get (rows w) (file_front session part path) ≡ fin.get m path
  kept_file m e path =
      file_at w law session part path kept_id
      ∙ ap (λ (b : Bool). cond b (option_and_then (λ (m : FileMap). fin.get m path)
      (submitted_by w.modules session part)) None) is_kept
      ∙ ap (λ (o : Option FileMap). option_and_then (λ (m : FileMap). fin.get m path) o) e

  pub rows_hold_module : submitted_by w.modules session part ≡ Some (module_at (rows w) session part)
  rows_hold_module =
      let (version, k) = target_kept in
      let same : k.content ≡ module_at (rows w) session part = same_names _ _ (λ path.
      sym (kept_file k.content k.there path)
      ∙ sym (tabulated (λ (path : List ℕ). fin.get (rows w) (file_front session part path))
      (ends_of 6 (rows w)) path (λ v f. in_ends 6 (rows w) (file_front session part path) v f))) in
      k.there ∙ ap Some same
