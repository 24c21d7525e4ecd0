-- What tests decide: of propositions, lists, ids, targets and parts. Callers want `every`, `pairs_decide`,
-- `and_then`, `unless_decides`, `implies_decides`, `if_decides`, and the tests of equality.
use Rattle.std.proofs.Common.{◌≡◌, ◌≢◌, ℕ, zero, suc, ◌≤◌, Bool, true, false, cond, not, ◌&&◌, ◌||◌, leb}
use Rattle.std.proofs.Common.{List, [], ◌∷◌, length, Option, Some, None, sym, ap, refl, inl, inr, Decides, arith}
use Rattle.std.proofs.Common.{All, AllPairs}
use Rattle.std.specs.List.{AllByRecursion, list_all}
use Rattle.std.specs.Str.{bytes_eq}
use Rattle.std.proofs.lemmas.Bool.{true≢false, leb-true, le-leb, eqb-true, eq-eqb}
use Rattle.std.proofs.lemmas.Bool.Decides.{Decides-and, Decides-eqb, Decides-not}
use Rattle.std.proofs.lemmas.List.Elements.{All-from_recursion, recursion_from_All}
use Rattle.std.proofs.lemmas.List.Kept.{AllPairs-cons}
use Rattle.std.proofs.lemmas.Slice.Eq.{bytes_eq-Decides}
use Rattle.apex_base.specs.declared.numbers.SessionId.{SessionId}
use Rattle.apex_base.specs.declared.records.Part.{Part}
use Rattle.apex_base.specs.declared.records.Target.{Target}
use Rattle.apex_base.specs.declared.records.Target.TheVariants as targets
use Rattle.apex_base.specs.Members.{In, EachPair, each_pair}
use Rattle.apex_world.specs.Decided.{is_zero, is_same_id, is_same_version, is_same_target, is_same_part}
use Rattle.world_facts.proofs.facts.WorldRows.{same_id}

-- Tests that are put together

-- a test decides that it passes
pub itself : (b : Bool) → Decides b (b ≡ true)
itself b = (λ e. e, λ e. e)

-- the test of an order decides it
pub at_most : (a b : ℕ) → Decides (leb a b) (a ≤ b)
at_most a b = (leb-true a b, le-leb a b)

-- two tests, the second of which counts on the first
pub and_then : {P Q : Type 0} (x y : Bool) → Decides x P → (P → Decides y Q) → Decides (x && y) (P × Q)
and_then true y d k = (λ e. let p = d.0 refl in (p, (k p).0 e), λ h. (k h.0).1 h.1)
and_then false y d k = (λ e. absurd (true≢false (sym e)), λ h. d.1 h.0)

-- a test that counts only where another fails
pub unless_decides : {P Q : Type 0} (x y : Bool) → Decides x P → Decides y Q → Decides (x || y) ((P → ⊥) → Q)
unless_decides true y d k = (λ e n. absurd (n (d.0 refl)), λ h. refl)
unless_decides false y d k = (λ e n. k.0 e, λ h. k.1 (h (λ p. true≢false (sym (d.1 p)))))

-- the same, where the other says nothing else
pub else_decides : {Q : Type 0} (x y : Bool) → Decides y Q → Decides (x || y) (x ≡ false → Q)
else_decides true y k = (λ e f. absurd (true≢false f), λ h. refl)
else_decides false y k = (λ e f. k.0 e, λ h. k.1 (h refl))

-- a test that counts only where another passes
pub implies_decides : {P Q : Type 0} (x y : Bool) → Decides x P → Decides y Q → Decides (not x || y) (P → Q)
implies_decides true y d k = (λ e p. k.0 e, λ h. k.1 (h (d.0 refl)))
implies_decides false y d k = (λ e p. absurd (true≢false (sym (d.1 p))), λ h. refl)

-- one test or another, as a third one says
pub if_decides : {P Q : Type 0} (b x y : Bool) → Decides x P → Decides y Q
    → Decides (cond b x y) ((b ≡ true → P) × (b ≡ false → Q))
if_decides true x y d k = (λ e. (λ t. d.0 e, λ t. absurd (true≢false t)), λ h. d.1 (h.0 refl))
if_decides false x y d k = (λ e. (λ t. absurd (true≢false (sym t)), λ t. k.0 e), λ h. k.1 (h.1 refl))

-- Lists

-- a test of each element, which may know that it is one
pub every : {X : Type 0} (test : X → Bool) (P : X → Type 0) (xs : List X)
    → ((x : X) → In x xs → Decides (test x) (P x)) → Decides (list_all test xs) ((x : X) → In x xs → P x)
every test P [] each = (λ e x h. absurd h, λ f. refl)
every test P (x ∷ xs) each =
    let d = Decides-and _ _ (each x (inl refl)) (every test P xs (λ y h. each y (inr h))) in (
      λ e y h. let p = d.0 e in elim h [
        | inl s ↦ rw (← s) p.0
        | inr i ↦ p.1 y i
      ],
      λ f. d.1 (f x (inl refl), λ y h. f y (inr h)),
    )

-- a test of each element, by recursion
pub all_decide : {X : Type 0} (test : X → Bool) (P : X → Type 0) → ((x : X) → Decides (test x) (P x))
    → (xs : List X) → Decides (list_all test xs) (AllByRecursion P xs)
all_decide test P each [] = (λ e. tt, λ h. refl)
all_decide test P each (x ∷ xs) = Decides-and _ _ (each x) (all_decide test P each xs)

-- a test of each pair
pub pairs_decide : {X : Type 0} (test : X → X → Bool) (P : X → X → Type 0) → ((x y : X) → Decides (test x y) (P x y))
    → (xs : List X) → Decides (each_pair test xs) (EachPair P xs)
pairs_decide test P each [] = (λ e. tt, λ h. refl)
pairs_decide test P each (x ∷ xs) =
    Decides-and _ _ (all_decide (test x) (P x) (each x) xs) (pairs_decide test P each xs)

-- each pair, by index
pub pairs_at : {X : Type 0} (P : X → X → Type 0) (xs : List X) → EachPair P xs → AllPairs P xs
pairs_at P [] h = λ i j d below within. absurd (omega (arith, within))
pairs_at P (x ∷ xs) h = AllPairs-cons P x xs (All-from_recursion (P x) xs h.0) (pairs_at P xs h.1)

-- and the other way round
pub at_pairs : {X : Type 0} (P : X → X → Type 0) (xs : List X) → AllPairs P xs → EachPair P xs
at_pairs P [] h = tt
at_pairs P (x ∷ xs) h =
    let first : All (P x) xs = λ k d within. h zero (suc k) d (omega arith) (omega arith) in
    let rest : AllPairs P xs = λ i j d below within. h (suc i) (suc j) d (omega arith) (omega arith) in
    (recursion_from_All (P x) xs first, at_pairs P xs rest)

-- a list is empty if its length is zero
pub none_decides : {X : Type 0} (xs : List X) → Decides (is_zero (length xs)) (xs ≡ [])
none_decides [] = (λ e. refl, λ e. refl)
none_decides (x ∷ xs) = (
  λ e. absurd (omega (arith, eqb-true (length (x ∷ xs)) 0 e)),
  λ e. absurd (omega (arith, ap length e)),
)

-- Equality

-- the test of equal names
pub name_decides : (a b : List ℕ) → Decides (bytes_eq a b) (a ≡ b)
name_decides a b = bytes_eq-Decides a b

-- and that of different names
pub other_name_decides : (a b : List ℕ) → Decides (not (bytes_eq a b)) (a ≢ b)
other_name_decides a b = Decides-not _ (name_decides a b)

-- the test of equal ids
pub id_decides : (a b : SessionId) → Decides (is_same_id a b) (a ≡ b)
id_decides a b = (λ e. same_id a b (eqb-true a.0 b.0 e), λ e. eq-eqb a.0 b.0 (ap (λ (x : SessionId). x.0) e))

-- the test of equal versions
pub version_decides : (a b : Option ℕ) → Decides (is_same_version a b) (a ≡ b)
version_decides None None = (λ e. refl, λ e. refl)
version_decides None (Some b) = (λ e. absurd (cc), λ e. absurd (cc))
version_decides (Some a) None = (λ e. absurd (cc), λ e. absurd (cc))
version_decides (Some a) (Some b) = (
  λ e. ap (λ (n : ℕ). Some n) (eqb-true a b e),
  λ e. let same : a ≡ b = cc in eq-eqb a b same,
)

-- the test of equal targets
pub target_decides : (t u : Target) → Decides (is_same_target t u) (t ≡ u)
target_decides targets.Preinstalled targets.Preinstalled = (λ e. refl, λ e. refl)
target_decides targets.Preinstalled (targets.Module session part version) = (λ e. absurd (cc), λ e. absurd (cc))
target_decides (targets.Module session part version) targets.Preinstalled = (λ e. absurd (cc), λ e. absurd (cc))
target_decides (targets.Module session part version) (targets.Module s p v) =
    let d = Decides-and _ _ (id_decides session s) (Decides-and _ _ (Decides-eqb part p) (Decides-eqb version v)) in (
      λ e. let (a, b) = d.0 e in let c : part ≡ p = b.0 in let f : version ≡ v = b.1 in cc (a, c, f),
      λ e. let a : session ≡ s = cc in let b : part ≡ p = cc in let c : version ≡ v = cc in d.1 (a, (b, c)),
    )

-- the test of equal parts
pub part_decides : (p q : Part) → Decides (is_same_part p q) (p ≡ q)
part_decides p q =
    let d = Decides-and _ _ (name_decides p.name q.name)
    (Decides-and _ _ (version_decides p.version q.version) (target_decides p.target q.target)) in (
      λ e. let h = d.0 e in λ i. record { name = h.0 i; version = h.1.0 i; target = h.1.1 i },
      λ e. d.1 (ap (λ (p : Part). p.name) e, (ap (λ (p : Part). p.version) e, ap (λ (p : Part). p.target) e)),
    )
