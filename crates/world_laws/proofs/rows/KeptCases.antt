-- What a boot makes of a session, and what it chooses, by rows: a module that is kept is sound, and its key is in the
-- rows. Callers want `kept_module`, `become_by_rows` and `chosen_by_rows`.
use Rattle.std.proofs.Common.{◌≡◌, ◌⊎◌, ℕ, Bool, true, false, cond, List, [], ◌∷◌, fold, Option, Some, None, sym, ap}
use Rattle.std.proofs.Common.{◌∙◌}
use Rattle.std.proofs.Common.{refl, inl, inr, codes}
use Rattle.std.specs.Prelude.{not, nat_lt, is_ok, is_none}
use Rattle.apex_base.specs.declared.numbers.SessionId.{SessionId}
use Rattle.apex_base.specs.declared.records.Case.{Case}
use Rattle.apex_base.specs.declared.records.Case.TheVariants.{BelowPreinstalled, KeyDiffers, Unsound, NoMount}
use Rattle.apex_base.specs.declared.records.Cause.{Cause}
use Rattle.apex_base.specs.declared.records.Part.{Part}
use Rattle.apex_base.specs.declared.records.Pick.{Pick}
use Rattle.apex_base.specs.declared.records.Place.{Place}
use Rattle.apex_base.specs.declared.records.Place.TheVariants.{Data}
use Rattle.apex_base.specs.declared.records.Record.{Record}
use Rattle.apex_base.specs.declared.records.State.{State}
use Rattle.apex_base.specs.declared.records.State.TheVariants as state
use Rattle.apex_base.specs.declared.records.Target.{Target}
use Rattle.apex_base.specs.declared.records.Target.TheVariants as targets
use Rattle.apex_base.specs.Held.{is_unfinished, held, kept}
use Rattle.apex_base.specs.Members.{In}
use Rattle.apex_base.specs.Modules.{FileMap}
use Rattle.apex_world.specs.declared.calls.BootOrder.{BootOrder}
use Rattle.apex_world.specs.declared.modules.Package.{Package}
use Rattle.apex_world.specs.Boot.{rebuilt_in, activated_in, aged, become, is_same_build, rebuilt}
use Rattle.apex_world.specs.Boot.{reverted}
use Rattle.world_laws.specs.BootByRows.{key_in, kept_case, case_in, cause_in, become_in}
use Rattle.world_laws.specs.BootByRows.{choice_in, pick_in, chosen_in}
use Rattle.apex_world.specs.Lawful.{Lawful}
use Rattle.apex_world.specs.Rows.{rows}
use Rattle.apex_world.specs.Selection.{Mounts, preinstalled, submitted_by, data_case, submitted_case}
use Rattle.apex_world.specs.Selection.{case_beside, cause_or, cause_of, fallback, choice, pick_of, with_pick, chosen}
use Rattle.apex_world.specs.Soundness.{is_sound, is_same_key, key_of}
use Rattle.apex_world.specs.World.{World}
use Rattle.world_laws.proofs.alike.AlikeAfter.{in_target}
use Rattle.world_laws.proofs.alike.BootTurnsAlike.{held_kept}
use Rattle.world_facts.proofs.facts.HeldModules.{kept_file}
use Rattle.world_facts.proofs.facts.KeptLemmas.{Own, keeps}

-- a sound module doesn't work for one of three reasons
sound_case : (mounts : Mounts) (content : FileMap) (version : ℕ) (m : Package) → is_sound content ≡ true
    → data_case mounts content version m ≡ kept_case mounts (key_of content) version m
sound_case mounts content version m sound =
    ap (λ (b : Bool). cond (nat_lt version m.version) (Some BelowPreinstalled)
    (cond (not (is_same_key content m.content)) (Some KeyDiffers)
    (cond (not b) (Some Unsound) (cond (mounts m.name version Data) None (Some NoMount))))) sound

module _ (w : World) (law : Lawful w) (mounts : Mounts) where
  -- the file of a kept module's key
  key_there : (session : SessionId) (part version : ℕ) (content : FileMap)
      → In (targets.Module session part version) (kept w.sessions)
      → submitted_by w.modules session part ≡ Some content → key_in (rows w) session part ≡ key_of content
  key_there session part version content h e =
      kept_file w law session part (in_target (kept w.sessions) session part version h) content e (codes "apex_pubkey")

  -- a module that is kept is there and is sound, so it works by its version, its key and its mount
  pub kept_module : (session : SessionId) (part version : ℕ) (m : Package)
      → In (targets.Module session part version) (kept w.sessions)
      → submitted_case mounts (submitted_by w.modules session part) version m
      ≡ kept_case mounts (key_in (rows w) session part) version m
  kept_module session part version m h =
      let k = law.modules.kept session part version h in
      ap (λ (o : Option FileMap). submitted_case mounts o version m) k.there
      ∙ sound_case mounts k.content version m (ap is_ok k.checks)
      ∙ ap (λ (key : Option (List ℕ)). kept_case mounts key version m)
      (sym (key_there session part version k.content h k.there))

  -- a target is the preinstalled module, or a module that is kept
  abbrev IsServed : Target → Type 0
  IsServed t = (session : SessionId) (part version : ℕ) → t ≡ targets.Module session part version
      → In (targets.Module session part version) (kept w.sessions)

  case_same : (t : Target) (m : Option Package) → IsServed t
      → case_beside mounts w.modules t m ≡ case_in mounts (rows w) t m
  case_same t None s = refl
  case_same targets.Preinstalled (Some m) s = refl
  case_same (targets.Module session part version) (Some m) s =
      kept_module session part version m (s session part version refl)

  cause_same : (image : List Package) (ps : List Part) → ((p : Part) → In p ps → IsServed p.target)
      → cause_of mounts w.modules image ps ≡ cause_in mounts (rows w) image ps
  cause_same image [] s = refl
  cause_same image (p ∷ ps) s =
      ap (λ (c : Option Case). cause_or p.name c (cause_of mounts w.modules image ps))
      (case_same p.target (preinstalled image p.name) (s p (inl refl)))
      ∙ ap (cause_or p.name (case_in mounts (rows w) p.target (preinstalled image p.name)))
      (cause_same image ps (λ q h. s q (inr h)))

  choice_same : (t : Target) (m : Package) → IsServed t → choice mounts w.modules t m ≡ choice_in mounts (rows w) t m
  choice_same targets.Preinstalled m s = refl
  choice_same (targets.Module session part version) m s =
      ap (λ (c : Option Case). cond (is_none c) (Some (version, Data)) (fallback mounts m))
      (kept_module session part version m (s session part version refl))

  picks_same : (ss : List Record) (image : List Package) (picks : List Pick)
      → ((name : List ℕ) → IsServed (held ss name))
      → fold (λ picks m. with_pick (pick_of mounts w.modules ss m) picks) picks image
      ≡ fold (λ picks m. with_pick (pick_in mounts (rows w) ss m) picks) picks image
  picks_same ss [] picks s = refl
  picks_same ss (m ∷ image) picks s =
      ap (λ (c : Option (ℕ × Place)). fold (λ picks m. with_pick (pick_of mounts w.modules ss m) picks)
      (with_pick (record { name = m.name; chosen = c }) picks) image)
      (choice_same (held ss m.name) m (s m.name))
      ∙ picks_same ss image (with_pick (pick_in mounts (rows w) ss m) picks) s

  -- where sessions keep no module but what was kept, the same is chosen by rows
  pub chosen_by_rows : (ss : List Record) (image : List Package)
      → ((t : Target) → In t (kept ss) → (t ≡ targets.Preinstalled) ⊎ In t (kept w.sessions))
      → chosen mounts w.modules ss image ≡ chosen_in mounts (rows w) ss image
  chosen_by_rows ss image was =
      picks_same ss image [] (λ name session part version e. elim
      (was (targets.Module session part version) (held_kept ss name session part version e)) [
        | inl f ↦ absurd (cc)
        | inr h ↦ h
      ])

  -- What a boot makes of a session

  abbrev last : BootOrder → ℕ → Record → Option Cause → Record
  last order b s cause = activated_in s.state (is_same_build order.image s) cause b s

  abbrev third : BootOrder → Record → Record
  third order r = rebuilt order.image (reverted r)

  -- a cause matters only to what is unfinished
  last_same : (order : BootOrder) (b : ℕ) (s : State) (r : Record) (c d : Option Cause)
      → (is_unfinished s ≡ true → c ≡ d)
      → last order b (third order (record r { state = s })) c ≡ last order b (third order (record r { state = s })) d
  last_same order b state.Verified r c d e = refl
  last_same order b state.Staged r c d e = ap (last order b (third order (record r { state = state.Staged }))) (e refl)
  last_same order b state.Activated r c d e = ap (last order b (third order (record r { state = state.Activated })))
      (e refl)
  last_same order b state.ActivationFailed r c d e = refl
  last_same order b state.Success r c d e = refl
  last_same order b state.RevertInProgress r c d e = refl
  last_same order b state.Reverted r c d e = refl
  last_same order b state.Aborted r c d e = refl

  third_parts : (order : BootOrder) (s : State) (r : Record) → (third order (record r { state = s })).parts ≡ r.parts
  third_parts order state.Verified r = refl
  third_parts order state.Staged r = refl
  third_parts order state.Activated r = parts_if (is_same_build order.image (record r { state = state.Activated }))
    where
      parts_if : (b : Bool) → (rebuilt_in state.Activated b (record r { state = state.Activated })).parts ≡ r.parts
      parts_if true = refl
      parts_if false = refl
  third_parts order state.ActivationFailed r = refl
  third_parts order state.Success r = refl
  third_parts order state.RevertInProgress r = refl
  third_parts order state.Reverted r = refl
  third_parts order state.Aborted r = refl

  causes_same : (order : BootOrder) (r : Record) → In r w.sessions → is_unfinished r.state ≡ true
      → cause_of mounts w.modules order.image.modules (third order r).parts
      ≡ cause_in mounts (rows w) order.image.modules (third order r).parts
  causes_same order r h u =
      let parts : (third order r).parts ≡ r.parts = third_parts order r.state r in
      ap (cause_of mounts w.modules order.image.modules) parts
      ∙ cause_same order.image.modules r.parts (λ p i session part version e.
      keeps w.sessions r p (targets.Module session part version) h i (Own u (sym e)))
      ∙ ap (cause_in mounts (rows w) order.image.modules) (sym parts)

  -- it is the same by rows
  pub become_by_rows : (order : BootOrder) (b : ℕ) (r : Record) → In r w.sessions
      → become mounts w.modules order b r ≡ become_in mounts (rows w) order b r
  become_by_rows order b r h =
      ap (aged order.time) (last_same order b r.state r
      (cause_of mounts w.modules order.image.modules (third order r).parts)
      (cause_in mounts (rows w) order.image.modules (third order r).parts) (causes_same order r h))
