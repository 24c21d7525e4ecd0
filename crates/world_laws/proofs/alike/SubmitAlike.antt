-- Submits in worlds that are alike. Callers want `submit_alike`.
use Rattle.std.proofs.Common.{◌≡◌, Bool, List, Option, Result, Ok, Err, subst, refl}
use Rattle.apex_base.specs.declared.numbers.SessionId.{SessionId}
use Rattle.apex_base.specs.declared.refusal.Refusal.{Refusal}
use Rattle.apex_base.specs.Modules.{FileMap}
use Rattle.apex_base.specs.Results.{◌>>=◌}
use Rattle.apex_world.specs.declared.modules.Package.{Package}
use Rattle.apex_world.specs.Lawful.{Lawful}
use Rattle.apex_world.specs.Step.{submit}
use Rattle.apex_world.specs.Stepped.{replied}
use Rattle.world_laws.specs.StoredAlike.{AreAlikeInParts, AreSteppedAlike}
use Rattle.apex_world.specs.Submit.{entered, sessions_full, store_full, pass, admitted, within_scale}
use Rattle.apex_world.specs.World.{World}
use Rattle.world_laws.proofs.alike.AlikeLemmas.{other, beside, unchanged, refused_alike, two_tests}
use Rattle.world_laws.proofs.meaning.CallStays.{free}
use Rattle.world_laws.proofs.alike.EnteredAlike.{entered_alike, full_alike}

module _ (w v : World) (a : AreAlikeInParts w v) (law : Lawful w) (law' : Lawful v) (id : SessionId)
    (children : List SessionId) (rollback : Bool) (parts : List FileMap) where
  abbrev z : World
  z = other w v a

  admitted_if : (o : Result (List Package) Refusal) → admitted w id children parts ≡ o → AreSteppedAlike
      (replied w (o >>= λ packages. within_scale (entered w id children rollback packages)))
      (replied z (o >>= λ packages. within_scale (entered z id children rollback packages)))
  admitted_if (Err refusal) e = refused_alike w z refusal (unchanged w v a)
  admitted_if (Ok ps) e =
      let is_free = free w law.ids.ascend id children rollback parts ps e in
      let x = entered w id children rollback ps in
      let y = entered z id children rollback ps in
      subst (λ (o : Option Refusal). AreSteppedAlike (replied w (within_scale x))
      (replied z (pass (sessions_full y) >>= λ few. pass o >>= λ light. Ok y)))
      (full_alike w v a law law' id children rollback ps is_free)
      (two_tests w z x y (sessions_full x) (store_full x) (unchanged w v a)
      (entered_alike w v a law law' id children rollback ps is_free))

  -- a submit
  pub submit_alike : AreSteppedAlike (submit w id children rollback parts) (submit v id children rollback parts)
  submit_alike =
      beside w v a (λ z. submit z id children rollback parts) (admitted_if (admitted w id children parts) refl)
