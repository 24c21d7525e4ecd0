-- The tests of modules that are kept decide them: `modules_decide`.
use Rattle.std.proofs.Common.{◌≡◌, ◌≢◌, ℕ}
use Rattle.std.proofs.Common.{List, Option, Some, None, Ok, is_some, sym, ap, subst, ◌∙◌, refl}
use Rattle.std.proofs.Common.{Decides}
use Rattle.std.proofs.lemmas.Bool.Decides.{Decides-and, Decides-not, Decides-eqb}
use Rattle.apex_base.specs.declared.numbers.SessionId.{SessionId}
use Rattle.apex_base.specs.declared.records.Part.{Part}
use Rattle.apex_base.specs.declared.records.Target.{Target}
use Rattle.apex_base.specs.declared.records.Target.TheVariants as targets
use Rattle.apex_base.specs.Held.{kept}
use Rattle.apex_base.specs.Members.{In}
use Rattle.apex_base.specs.Modules.{FileMap}
use Rattle.apex_world.specs.declared.world.Submission.{Submission}
use Rattle.apex_world.specs.Decided.{says, is_said, is_kept, is_other_part, have_modules}
use Rattle.apex_world.specs.Lawful.{part_at_place, IsKept, HaveModules}
use Rattle.apex_world.specs.Selection.{submitted_by}
use Rattle.apex_world.specs.Soundness.{checked}
use Rattle.apex_world.specs.World.{World}
use Rattle.world_facts.proofs.facts.DecidedTests.{itself, every, pairs_decide}
use Rattle.world_facts.proofs.facts.DecidedTests.{version_decides, target_decides}
use Rattle.world_facts.proofs.facts.DecidedTables.{says_decides}

-- a part and its module, where they are as they have to be
abbrev AreSaid : Option Part → Option FileMap → SessionId → ℕ → ℕ → Type 0
AreSaid o c session part version =
    (content : FileMap) × (name : List ℕ) × (c ≡ Some content)
    × (checked content ≡ Ok (record { name = name; version = version }))
    × (o ≡ Some (record { name = name; version = Some version; target = targets.Module session part version }))

-- the test of a part and its module decides that they fit
said_decides : (o : Option Part) (c : Option FileMap) (session : SessionId) (part version : ℕ)
    → Decides (is_said o c session part version) (AreSaid o c session part version)
said_decides None c session part version = (λ e. absurd (cc), λ h. let e = h.4 in absurd (cc))
said_decides (Some p) None session part version = (λ e. absurd (cc), λ h. let e = h.2 in absurd (cc))
said_decides (Some p) (Some content) session part version =
    let d = Decides-and _ _ (says_decides (checked content) p.name version)
    (Decides-and _ _ (version_decides p.version (Some version))
    (target_decides p.target (targets.Module session part version))) in (
      λ e. let (checks, (says, target)) = d.0 e in (
        content,
        p.name,
        refl,
        checks,
        ap (λ (p : Part). Some p)
            (λ i. record { name = p.name; version = says i; target = target i }),
      ),
      λ h. let (given, name, there, checks, is) = h in
          let same : given ≡ content = cc there in
          let target : Target = targets.Module session part version in
          let one : p ≡ record { name = name; version = Some version; target = target } = cc is in
          let named : p.name ≡ name = ap (λ (p : Part). p.name) one in
          d.1 (
            ap checked (sym same) ∙ checks
                ∙ ap (λ (n : List ℕ). Ok (record { name = n; version = version })) (sym named),
            (ap (λ (p : Part). p.version) one, ap (λ (p : Part). p.target) one),
          ),
    )

-- where a target is a module, that is kept
abbrev IsKeptAs : World → Target → Type 0
IsKeptAs w target = (session : SessionId) (part version : ℕ) → target ≡ targets.Module session part version
    → IsKept w session part version

-- the test of a target decides that its module is kept
kept_decides : (w : World) (target : Target) → Decides (is_kept w target) (IsKeptAs w target)
kept_decides w targets.Preinstalled = (λ e session part version is. absurd (cc), λ h. refl)
kept_decides w (targets.Module s p v) =
    let d = said_decides (part_at_place w.sessions s p) (submitted_by w.modules s p) s p v in (
      λ e session part version is.
          let (content, name, there, checks, says) = d.0 e in
          let here : IsKept w s p v =
          record { content = content; name = name; there = there; checks = checks; says = says } in
          let a : s ≡ session = cc in
          let b : p ≡ part = cc in
          let c : v ≡ version = cc in
          subst (λ (s : SessionId). IsKept w s part version) a (subst (λ (p : ℕ). IsKept w s p version) b
          (subst (λ (v : ℕ). IsKept w s p v) c here)),
      λ h. let k = h s p v refl in d.1 (k.content, k.name, k.there, k.checks, k.says),
    )

-- the test of two submissions decides that they are of two parts
other_part_decides : (s t : Submission) → Decides (is_other_part s t) (s.session.0 ≡ t.session.0 → s.part ≢ t.part)
other_part_decides s t =
    let d = Decides-not _ (Decides-and _ _ (Decides-eqb s.session.0 t.session.0) (Decides-eqb s.part t.part)) in
    (λ e a b. d.0 e (a, b), λ h. d.1 (λ p. h p.0 p.1))

-- the test of all modules decides them
pub modules_decide : (w : World) → Decides (have_modules w) (HaveModules w)
modules_decide w =
    let d = Decides-and _ _ (every (is_kept w) (IsKeptAs w) (kept w.sessions) (λ t h. kept_decides w t))
    (Decides-and _ _ (pairs_decide is_other_part (λ (s t : Submission). s.session.0 ≡ t.session.0 → s.part ≢ t.part)
    other_part_decides w.modules)
    (every _ _ w.modules (λ s h. itself (is_some (part_at_place w.sessions s.session s.part))))) in (
      λ e. let (kept, (distinct, owned)) = d.0 e in
          record { kept = λ s p v i. kept (targets.Module s p v) i s p v refl; distinct = distinct; owned = owned },
      λ h. d.1 (
        λ t i s p v is. h.kept s p v (subst (λ (t : Target). In t (kept w.sessions)) is i),
        (h.distinct, h.owned),
      ),
    )
