-- States, kinds, causes and parts: what was read is spelled so.
use Rattle.std.proofs.Common.{◌≡◌, ℕ, ◌^◌, ◌<◌, eqb, List, [], ◌∷◌, Some, None, refl, ap, ◌∙◌}
use Rattle.std.specs.Prelude.{IfSome}
use Rattle.std.specs.Int.{w32, w64}
use Rattle.std.proofs.lemmas.Bool.{eqb-true}
use Rattle.apex_base.specs.declared.records.Case.TheVariants.{NotInImage, BelowPreinstalled, KeyDiffers, Unsound, NoMount}
use Rattle.apex_base.specs.declared.records.Cause.TheVariants as causes
use Rattle.apex_base.specs.declared.records.Kind.TheVariants.{Plain, WithRollback, RollbackOf}
use Rattle.apex_base.specs.declared.records.RollbackState.TheVariants.{Enabling, Available, Committed, Deleted}
use Rattle.apex_base.specs.declared.records.State.TheVariants as state
use Rattle.apex_base.specs.declared.records.Target.TheVariants as targets
use Rattle.apex_base.specs.Moves.{state_number}
use Rattle.apex_base.specs.Numbers.{version_of}
use Rattle.apex_base.specs.Reading.{byte_at, number_at, four_text, eight_text, short_text}
use Rattle.apex_base.specs.Spelling.{state_of_number, state_at, kind_text, kind_of_numbers, kind_at, rollback_number, rollback_of_number, rollback_at, name_at, case_number, case_of_number, cause_text, superseded_at, case_at, cause_at, target_text, module_at, target_at, version_number, version_of_number, part_text, part_at, IsKind, IsCause, IsTarget, IsPart}
use Rattle.apex_base.proofs.ByteLists.{AreBytes, AreBytes-rest}
use Rattle.session_record.proofs.Steps.{bind_holds, Took}
use Rattle.session_record.proofs.Took.{if_holds, taken_holds, chosen_holds, took_as, took_then, byte_took, four_took, eight_took, name_took, version_took, some_version_took}

state_numbered : (n : ℕ) → IfSome (state_of_number n) (λ s. n ≡ state_number s)
state_numbered n =
    chosen_holds n 1 state.Verified _ _ (λ e. e)
    (chosen_holds n 2 state.Staged _ _ (λ e. e)
    (chosen_holds n 3 state.Activated _ _ (λ e. e)
    (chosen_holds n 4 state.ActivationFailed _ _ (λ e. e)
    (chosen_holds n 5 state.Success _ _ (λ e. e)
    (chosen_holds n 6 state.RevertInProgress _ _ (λ e. e)
    (chosen_holds n 7 state.Reverted _ _ (λ e. e)
    (chosen_holds n 8 state.Aborted _ _ (λ e. e) tt)))))))

pub state_took : (bytes : List ℕ) → AreBytes bytes
    → IfSome (state_at bytes) (λ x. Took bytes (state_number x.0 ∷ x.1) x.1)
unfolding state_at
state_took bytes fits =
    bind_holds (byte_at bytes) _ _ _ (byte_took bytes fits) (λ n t.
    bind_holds (state_of_number n.0) _ _ _ (state_numbered n.0) (λ s is.
    took_as bytes (n.0 ∷ n.1) _ n.1 t.0 (ap (λ (k : ℕ). k ∷ n.1) is)))

kind_numbered : (n x : ℕ) (rest : List ℕ) → x < 2 ^ 32
    → IfSome (kind_of_numbers n x) (λ k. (n ∷ four_text x rest ≡ kind_text k rest) × IsKind k)
kind_numbered n x rest low =
    if_holds (eqb n 1) _ _ _ (λ e. taken_holds (eqb x 0) Plain _ (λ f. (rw (eqb-true _ _ e, eqb-true _ _ f) refl, tt)))
    (λ _. if_holds (eqb n 2) _ _ _
    (λ e. taken_holds (eqb x 0) WithRollback _ (λ f. (rw (eqb-true _ _ e, eqb-true _ _ f) refl, tt)))
    (λ _. taken_holds (eqb n 3) (RollbackOf (record { 0 = x })) _ (λ e. (rw (eqb-true _ _ e) refl, low))))

pub kind_took : (bytes : List ℕ) → AreBytes bytes
    → IfSome (kind_at bytes) (λ x. Took bytes (kind_text x.0 x.1) x.1 × IsKind x.0)
unfolding kind_at
kind_took bytes fits =
    bind_holds (byte_at bytes) _ _ _ (byte_took bytes fits) (λ n t.
    bind_holds (number_at w32 n.1) _ _ _ (four_took n.1 t.0.rest_fits) (λ x u.
    bind_holds (kind_of_numbers n.0 x.0) _ _ _ (kind_numbered n.0 x.0 x.1 u.1) (λ k is.
    (took_as bytes _ _ x.1 (took_then bytes n.1 _ x.1 (λ (xs : List ℕ). n.0 ∷ xs) t.0 u.0) is.0, is.1))))

rollback_numbered : (n : ℕ) → IfSome (rollback_of_number n) (λ o. n ≡ rollback_number o)
rollback_numbered n =
    chosen_holds n 0 None _ _ (λ e. e)
    (chosen_holds n 1 (Some Enabling) _ _ (λ e. e)
    (chosen_holds n 2 (Some Available) _ _ (λ e. e)
    (chosen_holds n 3 (Some Committed) _ _ (λ e. e)
    (chosen_holds n 4 (Some Deleted) _ _ (λ e. e) tt))))

pub rollback_took : (bytes : List ℕ) → AreBytes bytes
    → IfSome (rollback_at bytes) (λ x. Took bytes (rollback_number x.0 ∷ x.1) x.1)
unfolding rollback_at
rollback_took bytes fits =
    bind_holds (byte_at bytes) _ _ _ (byte_took bytes fits) (λ n t.
    bind_holds (rollback_of_number n.0) _ _ _ (rollback_numbered n.0) (λ o is.
    took_as bytes (n.0 ∷ n.1) _ n.1 t.0 (ap (λ (k : ℕ). k ∷ n.1) is)))

-- Causes

case_numbered : (n : ℕ) → IfSome (case_of_number n) (λ c. n ≡ case_number c)
case_numbered n =
    chosen_holds n 1 NotInImage _ _ (λ e. e)
    (chosen_holds n 2 BelowPreinstalled _ _ (λ e. e)
    (chosen_holds n 3 KeyDiffers _ _ (λ e. e)
    (chosen_holds n 4 Unsound _ _ (λ e. e)
    (chosen_holds n 5 NoMount _ _ (λ e. e) tt))))

superseded_took : (n : ℕ) (bytes : List ℕ) → AreBytes bytes → n ≡ 3
    → IfSome (superseded_at bytes) (λ x. Took (n ∷ bytes) (cause_text x.0 x.1) x.1 × IsCause x.0)
unfolding superseded_at
superseded_took n bytes fits e =
    bind_holds (number_at w32 bytes) _ _ _ (four_took bytes fits) (λ id t.
    (record { is = ap (λ (k : ℕ). k ∷ bytes) e ∙ ap (λ (xs : List ℕ). 3 ∷ xs) t.0.is; rest_fits = t.0.rest_fits }, t.1))

case_took : (n : ℕ) (bytes : List ℕ) → AreBytes bytes → n ≡ 4
    → IfSome (case_at bytes) (λ x. Took (n ∷ bytes) (cause_text x.0 x.1) x.1 × IsCause x.0)
unfolding case_at
case_took n bytes fits e =
    bind_holds (byte_at bytes) _ _ _ (byte_took bytes fits) (λ k t.
    bind_holds (case_of_number k.0) _ _ _ (case_numbered k.0) (λ case is.
    bind_holds (name_at k.1) _ _ _ (name_took k.1 t.0.rest_fits) (λ name u. (
      record {
        is = ap (λ (k : ℕ). k ∷ bytes) e ∙ ap (λ (xs : List ℕ). 4 ∷ xs) t.0.is
            ∙ ap (λ (m : ℕ). 4 ∷ m ∷ k.1) is ∙ ap (λ (xs : List ℕ). 4 ∷ case_number case ∷ xs) u.0.is;
        rest_fits = u.0.rest_fits;
      },
      u.1,
    ))))

pub cause_took : (bytes : List ℕ) → AreBytes bytes
    → IfSome (cause_at bytes) (λ x. Took bytes (cause_text x.0 x.1) x.1 × IsCause x.0)
unfolding cause_at
cause_took [] fits = tt
cause_took (n ∷ rest) fits =
    let more = AreBytes-rest n rest fits in
    chosen_holds n 0 (None, rest) _ _
    (λ e. (record { is = ap (λ (k : ℕ). k ∷ rest) e; rest_fits = more }, tt))
    (chosen_holds n 1 (Some causes.Reverted, rest) _ _
    (λ e. (record { is = ap (λ (k : ℕ). k ∷ rest) e; rest_fits = more }, tt))
    (chosen_holds n 2 (Some causes.OtherBuild, rest) _ _
    (λ e. (record { is = ap (λ (k : ℕ). k ∷ rest) e; rest_fits = more }, tt))
    (if_holds (eqb n 3) (superseded_at rest) _ _ (λ e. superseded_took n rest more (eqb-true _ _ e))
    (λ _. if_holds (eqb n 4) (case_at rest) None _ (λ e. case_took n rest more (eqb-true _ _ e)) (λ _. tt)))))

-- Targets and parts

module_took : (n : ℕ) (bytes : List ℕ) → AreBytes bytes → n ≡ 1
    → IfSome (module_at bytes) (λ x. Took (n ∷ bytes) (target_text x.0 x.1) x.1 × IsTarget x.0)
unfolding module_at
module_took n bytes fits e =
    bind_holds (number_at w32 bytes) _ _ _ (four_took bytes fits) (λ session t.
    bind_holds (byte_at session.1) _ _ _ (byte_took session.1 t.0.rest_fits) (λ part u.
    bind_holds (number_at w64 part.1) _ _ _ (eight_took part.1 u.0.rest_fits) (λ k v.
    bind_holds (version_of k.0) _ _ _ (version_took k.0) (λ version is.
    rw is.0 (
      record {
        is = ap (λ (k : ℕ). k ∷ bytes) e ∙ ap (λ (xs : List ℕ). 1 ∷ xs) t.0.is
            ∙ ap (λ (xs : List ℕ). 1 ∷ four_text session.0 xs) u.0.is
            ∙ ap (λ (xs : List ℕ). 1 ∷ four_text session.0 (part.0 ∷ xs)) v.0.is;
        rest_fits = v.0.rest_fits;
      },
      (t.1, u.1, is.1),
    )))))

target_took : (bytes : List ℕ) → AreBytes bytes
    → IfSome (target_at bytes) (λ x. Took bytes (target_text x.0 x.1) x.1 × IsTarget x.0)
unfolding target_at
target_took [] fits = tt
target_took (n ∷ rest) fits =
    let more = AreBytes-rest n rest fits in
    if_holds (eqb n 1) (module_at rest) _ _ (λ e. module_took n rest more (eqb-true _ _ e))
    (λ _. chosen_holds n 2 (targets.Preinstalled, rest) None _
    (λ e. (record { is = ap (λ (k : ℕ). k ∷ rest) e; rest_fits = more }, tt)) tt)

pub part_took : (bytes : List ℕ) → AreBytes bytes
    → IfSome (part_at bytes) (λ x. Took bytes (part_text x.0 x.1) x.1 × IsPart x.0)
unfolding part_at
part_took bytes fits =
    bind_holds (name_at bytes) _ _ _ (name_took bytes fits) (λ name t.
    bind_holds (number_at w64 name.1) _ _ _ (eight_took name.1 t.0.rest_fits) (λ n u.
    bind_holds (version_of_number n.0) _ _ _ (some_version_took n.0) (λ version is.
    bind_holds (target_at n.1) _ _ _ (target_took n.1 u.0.rest_fits) (λ target v. (
      record {
        is = t.0.is ∙ ap (λ (xs : List ℕ). short_text name.0 xs) u.0.is
            ∙ ap (λ (k : ℕ). short_text name.0 (eight_text k n.1)) is.0
            ∙ ap (λ (xs : List ℕ). short_text name.0 (eight_text (version_number version) xs)) v.0.is;
        rest_fits = v.0.rest_fits;
      },
      record { name = t.1; version = is.1; target = v.1 },
    )))))
