-- A boot makes the same of each session, and chooses the same, where modules that are kept are the same. Callers want
-- `become_alike` and `chosen_alike`.
use Rattle.std.proofs.Common.{◌≡◌, ℕ, Bool, true, false, List, [], ◌∷◌, fold, Option, Some, None, sym, ap, ◌∙◌, refl}
use Rattle.std.proofs.Common.{inl, inr}
use Rattle.apex_base.specs.declared.numbers.SessionId.{SessionId}
use Rattle.apex_base.specs.declared.records.Part.{Part}
use Rattle.apex_base.specs.declared.records.Pick.{Pick}
use Rattle.apex_base.specs.declared.records.Record.{Record}
use Rattle.apex_base.specs.declared.records.RollbackState.{RollbackState}
use Rattle.apex_base.specs.declared.records.State.{State}
use Rattle.apex_base.specs.declared.records.State.TheVariants as state
use Rattle.apex_base.specs.declared.records.Target.{Target}
use Rattle.apex_base.specs.declared.records.Target.TheVariants as targets
use Rattle.apex_base.specs.Held.{is_unfinished, is_standing, held, kept}
use Rattle.apex_base.specs.Members.{In}
use Rattle.apex_base.specs.Modules.{FileMap}
use Rattle.apex_world.specs.declared.calls.BootOrder.{BootOrder}
use Rattle.apex_world.specs.declared.calls.Image.{Image}
use Rattle.apex_world.specs.declared.modules.Package.{Package}
use Rattle.apex_world.specs.declared.world.Submission.{Submission}
use Rattle.apex_world.specs.Boot.{rebuilt_in, with_rollback, activated, booted, aged, become, is_same_build}
use Rattle.apex_world.specs.Selection.{Mounts, preinstalled, submitted_by, submitted_case, case_beside, cause_of}
use Rattle.apex_world.specs.Selection.{choice, pick_of, with_pick, chosen}
use Rattle.world_laws.proofs.alike.AlikeAfter.{in_target}
use Rattle.world_facts.proofs.facts.KeptLemmas.{Own, Holds, keeps, keeps_for}
use Rattle.world_facts.proofs.facts.LatestLemmas.{latest_is}
use Rattle.world_laws.proofs.alike.OpenedModules.{HaveSameFiles}

-- a module that a name holds is kept
pub held_kept : (ss : List Record) (name : List ℕ) (session : SessionId) (part version : ℕ)
    → held ss name ≡ targets.Module session part version
    → In (targets.Module session part version) (kept ss)
held_kept ss name session part version e =
    elim (latest_is (λ s. is_standing s.state) name ss) [
      | inl n ↦ absurd (cc (e, n.1))
      | inr (r, p, l, is) ↦ keeps_for ss r name p (targets.Module session part version) l.among l.part
          (λ q same _. Holds l.counts (sym e ∙ ap (held ss) (sym same)))
    ]

module _ (mounts : Mounts) (ms ms' : List Submission) where
  -- a target whose module is the same in both
  abbrev IsServed : Target → Type 0
  IsServed t = (session : SessionId) (part version : ℕ) → t ≡ targets.Module session part version
      → submitted_by ms session part ≡ submitted_by ms' session part

  submitted_alike : (session : SessionId) (part version : ℕ) (m : Package)
      → submitted_by ms session part ≡ submitted_by ms' session part
      → submitted_case mounts (submitted_by ms session part) version m
      ≡ submitted_case mounts (submitted_by ms' session part) version m
  submitted_alike session part version m e = ap (λ (o : Option FileMap). submitted_case mounts o version m) e

  beside_alike : (t : Target) (m : Option Package) → IsServed t → case_beside mounts ms t m ≡ case_beside mounts ms' t m
  beside_alike t None s = refl
  beside_alike targets.Preinstalled (Some m) s = refl
  beside_alike (targets.Module session part version) (Some m) s =
      submitted_alike session part version m (s session part version refl)

  cause_alike : (image : List Package) (ps : List Part) → ((p : Part) → In p ps → IsServed p.target)
      → cause_of mounts ms image ps ≡ cause_of mounts ms' image ps
  cause_alike image [] s = refl
  cause_alike image (p ∷ ps) s =
      rw (
        beside_alike p.target (preinstalled image p.name) (s p (inl refl)),
        cause_alike image ps (λ q h. s q (inr h)),
      ) refl

  choice_alike : (t : Target) (m : Package) → IsServed t → choice mounts ms t m ≡ choice mounts ms' t m
  choice_alike targets.Preinstalled m s = refl
  choice_alike (targets.Module session part version) m s =
      rw (submitted_alike session part version m (s session part version refl)) refl

  picks_alike : (ss : List Record) (image : List Package) (picks : List Pick)
      → ((name : List ℕ) → IsServed (held ss name))
      → fold (λ picks m. with_pick (pick_of mounts ms ss m) picks) picks image
      ≡ fold (λ picks m. with_pick (pick_of mounts ms' ss m) picks) picks image
  picks_alike ss [] picks s = refl
  picks_alike ss (m ∷ image) picks s =
      rw (choice_alike (held ss m.name) m (s m.name)) (picks_alike ss image _ s)

  -- the same is chosen
  pub chosen_alike : (ss : List Record) (image : List Package) → HaveSameFiles ss ms ms'
      → chosen mounts ms ss image ≡ chosen mounts ms' ss image
  chosen_alike ss image same =
      picks_alike ss image [] (λ name session part version e.
      same session part (in_target (kept ss) session part version (held_kept ss name session part version e)))

  -- What a boot makes of a session

  active_alike : (same : Bool) (image : Image) (b : ℕ) (r : Record) (rollback : Option RollbackState)
      → cause_of mounts ms image.modules r.parts ≡ cause_of mounts ms' image.modules r.parts
      → activated mounts ms image b (with_rollback rollback (rebuilt_in state.Activated same
      (record r { state = state.Activated })))
      ≡ activated mounts ms' image b (with_rollback rollback (rebuilt_in state.Activated same
      (record r { state = state.Activated })))
  active_alike true image b r rollback e = rw e refl
  active_alike false image b r rollback e = refl

  booted_in : (image : Image) (b : ℕ) (s : State) (r : Record) → (is_unfinished s ≡ true
      → cause_of mounts ms image.modules r.parts ≡ cause_of mounts ms' image.modules r.parts)
      → booted mounts ms image b (record r { state = s }) ≡ booted mounts ms' image b (record r { state = s })
  booted_in image b state.Verified r e = refl
  booted_in image b state.Staged r e = rw (e refl) refl
  booted_in image b state.Activated r e = active_alike (is_same_build image r) image b r _ (e refl)
  booted_in image b state.ActivationFailed r e = refl
  booted_in image b state.Success r e = refl
  booted_in image b state.RevertInProgress r e = refl
  booted_in image b state.Reverted r e = refl
  booted_in image b state.Aborted r e = refl

  -- it is the same
  pub become_alike : (order : BootOrder) (b : ℕ) (ss : List Record) (r : Record) → HaveSameFiles ss ms ms' → In r ss
      → become mounts ms order b r ≡ become mounts ms' order b r
  become_alike order b ss r same h =
      ap (aged order.time) (booted_in order.image b r.state r (λ u.
      cause_alike order.image.modules r.parts (λ p i session part version e.
      same session part (in_target (kept ss) session part version (keeps ss r p _ h i (Own u (sym e)))))))
