-- What a boot leaves of one session, and of all with the boot loop's commits. Callers want `become_keeps`, `boot_loops`
-- and `part_works`.
use Rattle.std.proofs.Common.{◌≡◌, ℕ, Bool, true, false, List, [], ◌∷◌, ◌++◌, length, Option}
use Rattle.std.proofs.Common.{Some, None, sym, ap, ◌∙◌, refl, inl, inr, if◌then◌else◌}
use Rattle.apex_base.specs.declared.numbers.SessionId.{SessionId}
use Rattle.apex_base.specs.declared.records.Case.{Case}
use Rattle.apex_base.specs.declared.records.Cause.{Cause}
use Rattle.apex_base.specs.declared.records.Part.{Part}
use Rattle.apex_base.specs.declared.records.Record.{Record}
use Rattle.apex_base.specs.declared.records.Target.{Target}
use Rattle.apex_base.specs.Members.{In}
use Rattle.apex_base.specs.Windows.{is_looping}
use Rattle.apex_world.specs.declared.calls.BootOrder.{BootOrder}
use Rattle.apex_world.specs.declared.modules.Package.{Package}
use Rattle.apex_world.specs.declared.world.Submission.{Submission}
use Rattle.apex_world.specs.Boot.{booted, become, started, boot_world, after_loop, loop_trigger}
use Rattle.apex_world.specs.Selection.{Mounts, preinstalled, target_case, case_beside, case_of, cause_or, cause_of}
use Rattle.apex_world.specs.Trigger.{eligible}
use Rattle.apex_world.specs.World.{World}
use Rattle.world_laws.proofs.meaning.Lasting.{Lasts, lasts_same}
use Rattle.world_facts.specs.Follows.{IsKeptAs}
use Rattle.world_laws.proofs.meaning.BootRollbacks.{settles}
use Rattle.world_facts.proofs.facts.PlainLemmas.{booted_keeps}
use Rattle.world_laws.proofs.meaning.RollbackIds.{Undone, Carries, undone_map, trigger_undone, available_last}
use Rattle.world_laws.proofs.meaning.RollbackIds.{eligible_available}
use Rattle.world_facts.proofs.facts.LeadsLemmas.{changed, kept_on}

-- What a boot leaves of one session

module _ (mounts : Mounts) (modules : List Submission) (order : BootOrder) (n : ℕ) (r : Record) where
  -- what a boot leaves of a session
  pub become_keeps : IsKeptAs r (become mounts modules order n r)
  become_keeps =
      let last = booted mounts modules order.image n r in
      kept_on r last (become mounts modules order n r) (booted_keeps mounts modules order.image n r) (changed last)

  pub become_carries : Carries r (become mounts modules order n r)
  become_carries =
      let s = settles mounts modules order n r in
      record {
        id = ap (λ (id : SessionId). id.0) become_keeps.id;
        some = λ e. sym s.some ∙ e;
        committed = λ e. s.committed ∙ e;
      }

-- The boot loop

pub record Loops (v after : World) : Type 0 where
  pub contents : after.contents ≡ v.contents
  pub eras : after.eras ≡ v.eras
  pub image : after.image ≡ v.image
  pub active : after.active ≡ v.active
  pub sessions : Lasts v.sessions after.sessions
  pub undone : Undone after.sessions

loops_if : (order : BootOrder) (v : World) → Undone v.sessions → (b : Bool)
    → Loops v (after_loop v (if b then Some (loop_trigger order v.sessions) else None))
loops_if order v u true = record {
  contents = refl;
  eras = refl;
  image = refl;
  active = refl;
  sessions = available_last v.sessions order.image.print (eligible v.sessions) u
      (eligible_available v.sessions) order.observers;
  undone = trigger_undone v.sessions order.image.print (eligible v.sessions) u
      (eligible_available v.sessions) order.observers;
}
loops_if order v u false = record {
  contents = refl;
  eras = refl;
  image = refl;
  active = refl;
  sessions = lasts_same
      v.sessions;
  undone = u;
}

pub boot_loops : (w : World) (order : BootOrder) (mounts : Mounts) → Undone w.sessions
    → Loops (started w order mounts) (boot_world w order mounts)
boot_loops w order mounts u =
    let v = started w order mounts in
    loops_if order v (undone_map (become mounts w.modules order (length (w.eras ++ w.contents ∷ []))) w.sessions
    (become_carries mounts w.modules order (length (w.eras ++ w.contents ∷ []))) u)
    (is_looping order.time v.moments)

-- Parts of a session that works

module _ (mounts : Mounts) (modules : List Submission) (image : List Package) where
  none_or : (name : List ℕ) (case : Option Case) (rest : Option Cause) → cause_or name case rest ≡ None
      → (case ≡ None) × (rest ≡ None)
  none_or name None rest e = (refl, e)
  none_or name (Some case) rest e = absurd (cc)

  works_in : (ps : List Part) → cause_of mounts modules image ps ≡ None → (p : Part) → In p ps
      → case_of mounts modules image p ≡ None
  works_in [] e p h = absurd h
  works_in (q ∷ ps) e p (inl f) = ap (case_of mounts modules image) (sym f)
      ∙ (none_or q.name (case_of mounts modules image q) (cause_of mounts modules image ps) e).0
  works_in (q ∷ ps) e p (inr h) = works_in ps (none_or q.name (case_of mounts modules image q)
      (cause_of mounts modules image ps) e).1 p h

  beside_none : (target : Target) (o : Option Package) → case_beside mounts modules target o ≡ None
      → (m : Package) × (o ≡ Some m) × (target_case mounts modules target m ≡ None)
  beside_none target None e = absurd (cc)
  beside_none target (Some m) e = (m, refl, e)

  -- the image has its name, and its target works beside the image's module
  pub part_works : (ps : List Part) → cause_of mounts modules image ps ≡ None → (p : Part) → In p ps
      → (m : Package) × (preinstalled image p.name ≡ Some m) × (target_case mounts modules p.target m ≡ None)
  part_works ps e p h = beside_none p.target (preinstalled image p.name) (works_in ps e p h)
