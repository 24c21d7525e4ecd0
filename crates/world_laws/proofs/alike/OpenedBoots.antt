-- The row of boots is read again. Callers want `boots_same`.
use Rattle.std.proofs.Common.{◌≡◌, ℕ, ◌-◌, ◌<◌, ◌^◌, Bool, true, false, eqb, List, [], ◌∷◌, ◌++◌, length, drop, Some}
use Rattle.std.proofs.Common.{None, sym, ap, ◌∙◌, refl, inr, arith}
use Rattle.std.specs.Prelude.{option_and_then, zero, suc}
use Rattle.std.specs.Int.{w64, to_be_bytes}
use Rattle.std.specs.List.{AllByRecursion}
use Rattle.std.specs.FinMap as fin
use Rattle.std.proofs.lemmas.Bool.{eqb-true}
use Rattle.std.proofs.lemmas.List.{append-nil, length-drop}
use Rattle.apex_base.specs.Keys.{Boots, key_text}
use Rattle.apex_base.specs.Members.{In}
use Rattle.apex_base.specs.Ranges.{IsMillis}
use Rattle.apex_base.specs.Reading.{eight_text}
use Rattle.apex_base.specs.Windows.{last_five}
use Rattle.apex_base.proofs.MemberLemmas.{in_each}
use Rattle.apex_base.proofs.SpellingLemmas.{four_again, moment_again}
use Rattle.apex_world.specs.Lawful.{Lawful}
use Rattle.apex_world.specs.Opened.{moments_at, boots_of, boots_or_none, opened_boots}
use Rattle.apex_world.specs.Rows.{moments_text, boots_text, rows}
use Rattle.apex_world.specs.World.{World, boots}
use Rattle.world_facts.proofs.facts.WorldRows.{boots_at}

one_text : (m : ℕ) (rest : List ℕ) → eight_text m [] ++ rest ≡ eight_text m rest
one_text m rest = ap (λ (xs : List ℕ). xs ++ rest) (append-nil (to_be_bytes w64 m))

moments_again : (ms : List ℕ) → AllByRecursion IsMillis ms → moments_at (length ms) (moments_text ms) ≡ Some ms
unfolding moments_at
moments_again [] a = refl
moments_again (m ∷ ms) a = rw (
  one_text m (moments_text ms),
  moment_again m (moments_text ms) a.0,
  moments_again ms a.1,
) refl

boots_again : (n : ℕ) (ms : List ℕ) → n < 2 ^ 32 → AllByRecursion IsMillis ms
    → boots_of (boots_text n ms) ≡ Some (n, ms)
unfolding boots_of
boots_again n ms l a = rw (four_again n (length ms ∷ moments_text ms) l, moments_again ms a) refl

pub in_drop : {X : Type 0} (n : ℕ) (x : X) (xs : List X) → In x (drop n xs) → In x xs
in_drop zero x xs h = h
in_drop (suc n) x [] h = h
in_drop (suc n) x (y ∷ ys) h = inr (in_drop n x ys h)

-- of at most five moments, the last five are all
pub short_five : (ms : List ℕ) → last_five (last_five ms) ≡ last_five ms
short_five ms =
    let e : length (last_five ms) - 5 ≡ 0 = omega (arith, length-drop {A = ℕ}) in
    ap (λ (n : ℕ). drop n (last_five ms)) e

module _ (w : World) (law : Lawful w) where
  pub late_millis : (m : ℕ) → In m (last_five w.moments) → IsMillis m
  late_millis m h = law.ranges.moments m (in_drop (length w.moments - 5) m w.moments h)

  boots_if : (b : Bool) → eqb (boots w) 0 ≡ b → opened_boots (rows w) ≡ (boots w, last_five w.moments)
  boots_if true e =
      let none : fin.get (rows w) (key_text Boots) ≡ None = boots_at w law ∙ rw e refl in
      let n = eqb-true (boots w) 0 e in
      let ms : last_five w.moments ≡ [] = ap last_five (law.begun n) in
      ap (λ o. boots_or_none (option_and_then boots_of o)) none ∙ ap (λ (n : ℕ). (n, [])) (sym n)
      ∙ ap (λ (ms : List ℕ). (boots w, ms)) (sym ms)
  boots_if false e =
      let some : fin.get (rows w) (key_text Boots) ≡ Some (boots_text (boots w) (last_five w.moments)) =
      boots_at w law ∙ rw e refl in
      ap (λ o. boots_or_none (option_and_then boots_of o)) some
      ∙ ap boots_or_none (boots_again (boots w) (last_five w.moments) law.ranges.boots
      (in_each IsMillis (last_five w.moments) late_millis))

  pub boots_same : opened_boots (rows w) ≡ (boots w, last_five w.moments)
  boots_same = boots_if (eqb (boots w) 0) refl
