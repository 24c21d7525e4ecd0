-- Eras of one boot more, and sessions that wait. Callers want `era_front`, `era_last` and `turn_staged`.
use Rattle.std.proofs.Common.{◌≡◌, ℕ, ◌+◌, ◌-◌, ◌<◌, ◌≤◌, Bool, true, false, cond, eqb, List, [], ◌∷◌, ◌++◌}
use Rattle.std.proofs.Common.{length, Option, sym, ap, ◌∙◌, refl, arith}
use Rattle.std.specs.Prelude.{get_or}
use Rattle.std.specs.FinMap as fin
use Rattle.std.proofs.lemmas.Bool.{false≢true, ne_eqb, eq-eqb}
use Rattle.std.proofs.lemmas.List.{length-append, get_or_append_left, get_or-append-add}
use Rattle.apex_base.specs.declared.records.Cause.{Cause}
use Rattle.apex_base.specs.declared.records.Record.{Record}
use Rattle.apex_base.specs.Held.{is_staged}
use Rattle.apex_world.specs.World.{Contents, era}
use Rattle.world_laws.proofs.meaning.BootTurns.{Turns, Rests, Activates, Remains, Fails, Reverts, rests}
use Rattle.world_facts.proofs.facts.StateFacts.{excluded}

-- Eras of one boot more

era_if : (b : Bool) (eras : List Contents) (c : Contents) (n : ℕ) → eqb n 0 ≡ b → n ≤ length eras
    → cond b fin.empty (get_or (eras ++ c ∷ []) (n - 1) fin.empty) ≡ cond b fin.empty (get_or eras (n - 1) fin.empty)
era_if true eras c n e l = refl
era_if false eras c n e l =
    get_or_append_left eras (c ∷ []) fin.empty (n - 1) (some_before eras n e l)
  where
    some_before : (eras : List Contents) (n : ℕ) → eqb n 0 ≡ false → n ≤ length eras → n - 1 < length eras
    some_before eras n e l = let d : (n ≡ 0 → ⊥) = λ z. false≢true (sym e ∙ eq-eqb n 0 z) in omega (arith, d, l)

-- an era stays
pub era_front : (eras : List Contents) (c : Contents) (n : ℕ) → n ≤ length eras → era (eras ++ c ∷ []) n ≡ era eras n
era_front eras c n l = era_if (eqb n 0) eras c n refl l

-- and the last is the new one
pub era_last : (eras : List Contents) (c : Contents) (n : ℕ) → n ≡ length (eras ++ c ∷ []) → era (eras ++ c ∷ []) n ≡ c
era_last eras c n e =
    let l = length-append eras (c ∷ []) in
    let some : eqb n 0 ≡ false = ne_eqb n 0 (λ z. omega (arith, e, l, z)) in
    let place : n - 1 ≡ length eras + 0 = omega (arith, e, l) in
    ap (λ (b : Bool). cond b fin.empty (get_or (eras ++ c ∷ []) (n - 1) fin.empty)) some
    ∙ ap (λ (i : ℕ). get_or (eras ++ c ∷ []) i fin.empty) place
    ∙ get_or-append-add eras (c ∷ []) 0 fin.empty

-- Sessions that wait

-- no session waits for the next boot just after one
pub turn_staged : (cause : Option Cause) (b : ℕ) (r s : Record) → Turns cause b r s → is_staged s.state ≡ true → ⊥
turn_staged cause b r s (Rests e f g) u = false≢true (sym (excluded rests is_staged refl r.state e)
    ∙ ap is_staged (sym f) ∙ u)
turn_staged cause b r s (Activates e f g h) u = false≢true (sym (ap is_staged f) ∙ u)
turn_staged cause b r s (Remains e f g h) u = false≢true (sym (ap is_staged f) ∙ u)
turn_staged cause b r s (Fails e f g) u = false≢true (sym (ap is_staged f) ∙ u)
turn_staged cause b r s (Reverts e f g) u = false≢true (sym (ap is_staged f) ∙ u)
