-- Marks in order. Callers want `in_order`, `still_below`, `not_later`, `passed_over` and `none_past`.
use Rattle.std.proofs.Common.{◌≡◌, ◌≢◌, ℕ, zero, suc, ◌<◌, ◌≤◌, Bool, true, false, List, [], ◌∷◌, length, get_or}
use Rattle.std.proofs.Common.{nat_lt, sym, ap, subst, ◌∙◌, refl, inl, inr, ◌⊎◌, arith}
use Rattle.std.proofs.lemmas.Bool.{ltb-true, lt-ltb}
use Rattle.std.proofs.lemmas.Bool.Decides.{nat_tests}
use Rattle.std.proofs.lemmas.List.Sorted.{sorted_far, ranks_by}
use Rattle.std.specs.Cmp.{IsTotalOrder}
use Rattle.std.proofs.lemmas.Cmp.{tied_itself, then_total, on_total, nat_cmp_total}
use Rattle.std.specs.Cmp.Lexicographic.{slice_cmp, nat_list_cmp_total}
use Rattle.std.specs.FinMap.{slice_cmp-IsAntisymmetric, nat_cmp-IsAntisymmetric}
use Rattle.std.specs.List.Sorted.{IsSorted}
use Rattle.std.specs.Ordering.{nat_cmp, ordering_then, ordering_reverse, is_lt}
use Rattle.std.specs.declared.cmp.Ordering.{Ordering}
use Rattle.std.specs.declared.cmp.Ordering.TheVariants.{Less, Equal, Greater}
use Rattle.apex_base.specs.Members.{In}
use Rattle.session_check.specs.declared.marks.Mark.{Mark}
use Rattle.session_check.specs.Marks.{boot_cmp, mark_cmp, is_below, is_below_by}

-- an element stands at some place
pub place_of : {X : Type 0} (x : X) (xs : List X) → In x xs → (k : ℕ) × (k < length xs) × (get_or xs k x ≡ x)
place_of x [] i = absurd i
place_of x (y ∷ ys) (inl e) = (zero, omega arith, e)
place_of x (y ∷ ys) (inr i) = let (k, lt, e) = place_of x ys i in (suc k, omega arith, e)

-- and what stands at a place is an element
pub at_place : {X : Type 0} (xs : List X) (k : ℕ) (d : X) → k < length xs → In (get_or xs k d) xs
at_place [] k d lt = absurd (omega arith)
at_place (x ∷ xs) zero d lt = inl refl
at_place (x ∷ xs) (suc k) d lt = inr (at_place xs k d (omega arith))

abbrev names_cmp : List ℕ → List ℕ → Ordering
names_cmp = slice_cmp nat_cmp

pub same_name : (a b : List ℕ) → names_cmp a b ≡ Equal → a ≡ b
same_name = slice_cmp-IsAntisymmetric nat_cmp-IsAntisymmetric

itself : (a : List ℕ) → names_cmp a a ≡ Equal
itself = tied_itself nat_list_cmp_total

-- the orders of marks are orders
pub boot_total : IsTotalOrder boot_cmp
boot_total = then_total (on_total (λ (m : Mark). m.boot) nat_cmp_total)
    (then_total (on_total (λ (m : Mark). m.session) nat_cmp_total) (on_total (λ (m : Mark). m.name) nat_list_cmp_total))

pub mark_total : IsTotalOrder mark_cmp
mark_total = then_total (on_total (λ (m : Mark). m.name) nat_list_cmp_total)
    (then_total (on_total (λ (m : Mark). m.boot) nat_cmp_total) (on_total (λ (m : Mark). m.session) nat_cmp_total))

-- of two marks in order, the later isn't below the earlier
pub in_order : (marks : List Mark) → IsSorted mark_cmp marks → (i j : ℕ) (d : Mark) → i ≤ j → j < length marks
    → is_lt (mark_cmp (get_or marks j d) (get_or marks i d)) ≡ false
in_order marks up i j d le lt =
    sorted_far (λ m n. is_lt (mark_cmp m n)) (ranks_by mark_total (λ m. m)) marks up i j d le lt

-- where the later of two orders is not below, nor is the first
first_of_two : (o p : Ordering) → is_lt (ordering_then o p) ≡ false → o ≡ Less → ⊥
first_of_two Less p e f = absurd (cc)
first_of_two Equal p e f = absurd (cc)
first_of_two Greater p e f = absurd (cc)

second_of_two : (o p : Ordering) → is_lt (ordering_then o p) ≡ false → o ≡ Equal → is_lt p ≡ false
second_of_two Less p e f = absurd (cc)
second_of_two Equal p e f = e
second_of_two Greater p e f = absurd (cc)

no_less : (a b : ℕ) (p : Ordering) → is_lt (ordering_then (nat_cmp a b) p) ≡ false → b ≤ a
no_less a b p e = grind (arith, nat_tests)

-- two marks of one name, in order
pub not_later : (m n : Mark) → is_lt (mark_cmp n m) ≡ false → n.name ≡ m.name → m.boot ≤ n.boot
not_later m n up same =
    no_less n.boot m.boot _
    (second_of_two (names_cmp n.name m.name) _ up (ap (names_cmp n.name) (sym same) ∙ itself n.name))

-- Names

ordered : (a b : List ℕ) (o : Ordering) → names_cmp a b ≡ o → (o ≡ Less → ⊥) → (b ≡ a) ⊎ (names_cmp b a ≡ Less)
ordered a b Less e n = absurd (n refl)
ordered a b Equal e n = inl (sym (same_name a b e))
ordered a b Greater e n = inr (nat_list_cmp_total.antisymm b a ∙ ap ordering_reverse e)

-- the name of the earlier of two marks is that of the later, or below it
pub upto : (m n : Mark) → is_lt (mark_cmp n m) ≡ false → (m.name ≡ n.name) ⊎ (names_cmp m.name n.name ≡ Less)
upto m n up = ordered n.name m.name (names_cmp n.name m.name) refl (first_of_two (names_cmp n.name m.name) _ up)

-- a name is below another one, and that below a third
below_name : (a b : List ℕ) (o : Ordering) (t : Bool) (name : List ℕ) → names_cmp b name ≡ o → is_below_by o t ≡ true
    → names_cmp a b ≡ Less → names_cmp a name ≡ Less
below_name a b Less t name e f l = nat_list_cmp_total.trans a b name l e
below_name a b Equal t name e f l = ap (names_cmp a) (sym (same_name b name e)) ∙ l
below_name a b Greater t name e f l = absurd (cc)

less_boot : (o : Ordering) (a b boot : ℕ) → b ≤ a → is_below_by o (nat_lt a boot) ≡ true
    → is_below_by o (nat_lt b boot) ≡ true
less_boot Less a b boot le e = refl
less_boot Equal a b boot le e = let l = ltb-true a boot e in lt-ltb b boot (omega arith)
less_boot Greater a b boot le e = absurd (cc)

-- what is below stays below, the earlier the more
pub still_below : (name : List ℕ) (boot : ℕ) (m n : Mark) → is_lt (mark_cmp n m) ≡ false
    → is_below name boot n ≡ true → is_below name boot m ≡ true
still_below name boot m n up b =
    elim (upto m n up) [
      | inl e ↦ subst (λ (a : List ℕ). is_below_by (names_cmp a name) (nat_lt m.boot boot) ≡ true) (sym e)
          (less_boot (names_cmp n.name name) n.boot m.boot boot (not_later m n up (sym e)) b)
      | inr l ↦ ap (λ (o : Ordering). is_below_by o (nat_lt m.boot boot))
          (below_name m.name n.name (names_cmp n.name name) (nat_lt n.boot boot) name refl b l)
    ]

-- a mark of the name is below if and only if it is of an earlier boot
pub below_if : (name : List ℕ) (boot : ℕ) (m : Mark) → m.name ≡ name → is_below name boot m ≡ nat_lt m.boot boot
below_if name boot m e =
    ap (λ (o : Ordering). is_below_by o (nat_lt m.boot boot)) (ap (λ a. names_cmp a name) e ∙ itself name)

-- no mark of the name stands before one that is below, and of another name
pub passed_over : (name : List ℕ) (boot : ℕ) (m n : Mark) → is_lt (mark_cmp n m) ≡ false → m.name ≡ name
    → is_below name boot n ≡ true → n.name ≢ name → ⊥
passed_over name boot m n up e b other =
    elim (upto m n up) [
      | inl f ↦ other (sym f ∙ e)
      | inr l ↦
          let less = below_name m.name n.name (names_cmp n.name name) (nat_lt n.boot boot) name refl b l in
          let same : names_cmp m.name name ≡ Equal = ap (λ a. names_cmp a name) e ∙ itself name in
          absurd (cc)
    ]

-- nor after one that is not below
pub none_past : (name : List ℕ) (boot : ℕ) (m n : Mark) → is_lt (mark_cmp n m) ≡ false → n.name ≡ name
    → is_below name boot m ≡ false → m.name ≢ name → ⊥
none_past name boot m n up e b other =
    elim (upto m n up) [
      | inl f ↦ other (f ∙ e)
      | inr l ↦
          let less : names_cmp m.name name ≡ Less = ap (names_cmp m.name) (sym e) ∙ l in
          let under : is_below name boot m ≡ true = ap (λ (o : Ordering). is_below_by o (nat_lt m.boot boot)) less in
          absurd (cc)
    ]
