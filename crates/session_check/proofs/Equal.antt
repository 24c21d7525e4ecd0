-- Marks and numbers that compare alike are one. Callers want `marks_decide` and `numbers_decide`.
use Rattle.std.proofs.Common.{◌≡◌, ℕ, true, List, ap, refl}
use Rattle.std.proofs.lemmas.Cmp.{tied_itself, nat_cmp_total}
use Rattle.std.specs.Cmp.Lexicographic.{slice_cmp}
use Rattle.std.specs.FinMap.{nat_cmp-IsAntisymmetric}
use Rattle.std.specs.List.{IsDistinct}
use Rattle.std.specs.Ordering.{nat_cmp, ordering_then, is_eq, eq_by_cmp}
use Rattle.std.specs.declared.cmp.Ordering.{Ordering}
use Rattle.std.specs.declared.cmp.Ordering.TheVariants.{Less, Equal, Greater}
use Rattle.session_check.specs.declared.marks.Mark.{Mark}
use Rattle.session_check.specs.Marks.{boot_cmp}
use Rattle.session_check.proofs.Differing.{AllDiffer, distinct_differ, differ_distinct}
use Rattle.session_check.proofs.Orders.{boot_total, same_name}

equal : (o : Ordering) → is_eq o ≡ true → o ≡ Equal
equal Less e = absurd (cc)
equal Equal e = refl
equal Greater e = absurd (cc)

both_equal : (o p : Ordering) → is_eq (ordering_then o p) ≡ true → (o ≡ Equal) × (is_eq p ≡ true)
both_equal Less p e = absurd (cc)
both_equal Equal p e = (refl, e)
both_equal Greater p e = absurd (cc)

-- numbers that compare alike
same_number : (a b : ℕ) → is_eq (nat_cmp a b) ≡ true → a ≡ b
same_number a b e = nat_cmp-IsAntisymmetric a b (equal (nat_cmp a b) e)

-- marks that compare alike
same_mark : (m n : Mark) → eq_by_cmp boot_cmp m n ≡ true → m ≡ n
same_mark m n e =
    let (boots, rest) = both_equal (nat_cmp m.boot n.boot) _ e in
    let (sessions, last) = both_equal (nat_cmp m.session n.session) _ rest in
    let boot = nat_cmp-IsAntisymmetric m.boot n.boot boots in
    let session = nat_cmp-IsAntisymmetric m.session n.session sessions in
    let name = same_name m.name n.name (equal (slice_cmp nat_cmp m.name n.name) last) in
    λ i. record { name = name i; boot = boot i; session = session i }

-- the test of distinct marks
pub marks_differ : (ms : List Mark) → IsDistinct (eq_by_cmp boot_cmp) ms → AllDiffer ms
marks_differ = distinct_differ (eq_by_cmp boot_cmp) same_mark (λ m. ap is_eq (tied_itself boot_total m))

pub differ_marks : (ms : List Mark) → AllDiffer ms → IsDistinct (eq_by_cmp boot_cmp) ms
differ_marks = differ_distinct (eq_by_cmp boot_cmp) same_mark (λ m. ap is_eq (tied_itself boot_total m))

-- and of distinct numbers
pub numbers_differ : (ns : List ℕ) → IsDistinct (eq_by_cmp nat_cmp) ns → AllDiffer ns
numbers_differ = distinct_differ (eq_by_cmp nat_cmp) same_number (λ n. ap is_eq (tied_itself nat_cmp_total n))

pub differ_numbers : (ns : List ℕ) → AllDiffer ns → IsDistinct (eq_by_cmp nat_cmp) ns
differ_numbers = differ_distinct (eq_by_cmp nat_cmp) same_number (λ n. ap is_eq (tied_itself nat_cmp_total n))
