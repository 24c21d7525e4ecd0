-- The row of a file that a session may have given up. Callers want `freed_row`.
use Rattle.std.proofs.Common.{◌≡◌, ◌⊎◌, ℕ, Bool, true, false, cond, ◌&&◌, List, Option, None, refl, inl, inr}
use Rattle.std.specs.Prelude.{not, option_and_then}
use Rattle.std.specs.FinMap as fin
use Rattle.std.proofs.lemmas.Bool.{false≢true}
use Rattle.apex_base.specs.declared.numbers.SessionId.{SessionId}
use Rattle.apex_base.specs.declared.records.Record.{Record}
use Rattle.apex_base.specs.Held.{kept, is_target}
use Rattle.apex_base.specs.Modules.{FileMap}
use Rattle.apex_world.specs.Rows.{file_row}
use Rattle.world_laws.specs.RowsMoved.{freed}
use Rattle.apex_world.specs.Selection.{submitted_by}
use Rattle.apex_world.specs.World.{World, Failures}

freed_if : {X : Type 0} (a b c : Bool) (o : Option X) → (a ≡ true → b ≡ true)
    → (b ≡ true → (c ≡ true) ⊎ (a ≡ true)) → cond a o None ≡ cond (c && not a) None (cond b o None)
freed_if true true true o less more = refl
freed_if true true false o less more = refl
freed_if true false c o less more = absurd (false≢true (less refl))
freed_if false true true o less more = refl
freed_if false true false o less more =
    elim (more refl) [
      | inl e ↦ absurd (false≢true e)
      | inr e ↦ absurd (false≢true e)
    ]
freed_if false false true o less more = refl
freed_if false false false o less more = refl

-- where what is kept was kept, and what was kept is kept or given up
pub freed_row : (w : World) (ss' : List Record) (clock : ℕ) (failures : Failures) (given_up : Bool)
    (session : SessionId) (part : ℕ) (path : List ℕ)
    → (is_target (kept ss') session part ≡ true → is_target (kept w.sessions) session part ≡ true)
    → (is_target (kept w.sessions) session part ≡ true
    → (given_up ≡ true) ⊎ (is_target (kept ss') session part ≡ true))
    → file_row (record w { sessions = ss'; clock = clock; failures = failures }) session part path
    ≡ freed given_up ss' session part (file_row w session part path)
freed_row w ss' clock failures given_up session part path less more =
    freed_if (is_target (kept ss') session part) (is_target (kept w.sessions) session part) given_up
    (option_and_then (λ (m : FileMap). fin.get m path) (submitted_by w.modules session part)) less more
