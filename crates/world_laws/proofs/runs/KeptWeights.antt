-- Modules weigh no more where what is kept was kept: `weight_less`.
use Rattle.std.proofs.Common.{◌≡◌, ◌⊎◌, ℕ, ◌≤◌, Bool, true, false, cond, List}
use Rattle.std.proofs.Common.{refl, inl, inr, arith}
use Rattle.std.specs.List.{sum_by}
use Rattle.std.proofs.lemmas.Bool.{false≢true}
use Rattle.std.proofs.lemmas.List.Sums.{sum_by-le-sum_by}
use Rattle.apex_base.specs.declared.numbers.SessionId.{SessionId}
use Rattle.apex_base.specs.declared.records.Target.{Target}
use Rattle.apex_base.specs.declared.records.Target.TheVariants as targets
use Rattle.apex_base.specs.Held.{is_module, is_target}
use Rattle.apex_base.specs.Members.{In}
use Rattle.apex_base.specs.Modules.{module_weight}
use Rattle.apex_base.proofs.MemberLemmas.{any_in, in_any}
use Rattle.apex_world.specs.declared.world.Submission.{Submission}
use Rattle.apex_world.specs.Limits.{target_weight}

-- a module that is kept less often weighs no more
target_if : (b c : Bool) (n : ℕ) → (b ≡ true → c ≡ true) → cond b n 0 ≤ cond c n 0
target_if true true n e = omega arith
target_if true false n e = absurd (false≢true (e refl))
target_if false c n e = omega arith

-- what is a module of a part is no preinstalled one
module_is : (session : SessionId) (part : ℕ) (t : Target) → is_module session part t ≡ true
    → (s : SessionId) × (k : ℕ) × (version : ℕ) × (t ≡ targets.Module s k version)
module_is session part targets.Preinstalled e = absurd (cc)
module_is session part (targets.Module s k version) e = (s, k, version, refl)

-- modules weigh no more where what is kept was kept
pub weight_less : (ts us : List Target) (modules : List Submission)
    → ((t : Target) → In t ts → (t ≡ targets.Preinstalled) ⊎ In t us)
    → sum_by (target_weight ts) modules ≤ sum_by (target_weight us) modules
weight_less ts us modules less =
    sum_by-le-sum_by (target_weight ts) (target_weight us) modules (λ s.
    target_if (is_target ts s.session s.part) (is_target us s.session s.part) (module_weight s.content) (λ e.
    let (t, h, f) = any_in (is_module s.session s.part) ts e in
    elim (less t h) [
      | inl none ↦
          let (a, b, c, is) = module_is s.session s.part t f in
          absurd (cc (none, is))
      | inr i ↦ in_any (is_module s.session s.part) t us i f
    ]))
