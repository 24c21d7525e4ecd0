-- What the place of a name and a boot among marks tells. Callers want `is_place`, `none_first`, `none_here`,
-- `last_here`, `later_here` and `none_later`.
use Rattle.std.proofs.Common.{◌≡◌, ◌≢◌, ℕ, ◌+◌, ◌-◌, ◌<◌, ◌≤◌, ◌&&◌, Bool, true, false, List, length, get_or, nat_lt}
use Rattle.std.proofs.Common.{sym, ap, subst, ◌∙◌, refl, inl, inr, arith}
use Rattle.std.specs.List.Sorted.{IsSorted, IsPartitionedBy}
use Rattle.std.specs.Str.{bytes_eq}
use Rattle.std.proofs.lemmas.Bool.{ltb-true, ltb-false, lt-ltb, cases_lt}
use Rattle.std.proofs.lemmas.Bool.Decides.{Decides-and, Decides-ltb}
use Rattle.std.proofs.lemmas.List.{get_or_default}
use Rattle.std.specs.Ordering.{is_lt}
use Rattle.std.proofs.lemmas.Slice.Eq.{bytes_eq-Decides}
use Rattle.apex_base.specs.Members.{In}
use Rattle.apex_base.proofs.MemberLemmas.{any_in, in_any}
use Rattle.session_check.specs.declared.marks.Mark.{Mark}
use Rattle.session_check.specs.Marks.{mark_cmp, is_below, has_later, IsPlace, NoneBefore, IsLastBefore}
use Rattle.session_check.proofs.Orders.{place_of, at_place, in_order, still_below, below_if, not_later, passed_over}
use Rattle.session_check.proofs.Orders.{none_past}

-- what isn't true is false
pub not_true : (b : Bool) → (b ≡ true → ⊥) → b ≡ false
not_true true n = absurd (n refl)
not_true false n = refl

-- the names of two lists of bytes that differ
other_name : (a b : List ℕ) → bytes_eq a b ≡ false → a ≢ b
other_name a b e same = let f = (bytes_eq-Decides a b).1 same in absurd (cc)

module _ (marks : List Mark) (up : IsSorted mark_cmp marks) (name : List ℕ) where
  -- what is below stands first
  pub parted : (boot : ℕ) → IsPartitionedBy (is_below name boot) marks
  parted boot i j d le lt b =
      still_below name boot (get_or marks i d) (get_or marks j d) (in_order marks up i j d le lt) b

  module _ (boot next : ℕ) (p : IsPlace marks name boot next) where
    -- a mark that is below stands before the place
    before_place : (n : Mark) (k : ℕ) → k < length marks → get_or marks k n ≡ n → is_below name boot n ≡ true → k < next
    before_place n k lt e b =
        elim (cases_lt k next) [
          | inl l ↦ l
          | inr l ↦ let above = ap (is_below name boot) (sym e) ∙ p.above k n l lt in absurd (cc)
        ]

    earlier : (n : Mark) → n.name ≡ name → n.boot < boot → is_below name boot n ≡ true
    earlier n e l = below_if name boot n e ∙ lt-ltb n.boot boot l

    -- nothing is below
    pub none_first : next ≡ 0 → NoneBefore marks name boot
    none_first none n i e l =
        let (k, lt, f) = place_of n marks i in
        let before = before_place n k lt f (earlier n e l) in
        absurd (omega (arith, before, none))

    -- the mark before the place is no earlier than one that is below
    behind : (m n : Mark) → m ≡ get_or marks (next - 1) m → In n marks → is_below name boot n ≡ true
        → is_lt (mark_cmp m n) ≡ false
    behind m n here i b =
        let (k, lt, f) = place_of n marks i in
        let before = before_place n k lt f b in
        let within = p.within in
        let order = in_order marks up k (next - 1) m (omega (arith, before)) (omega (arith, before, within)) in
        let found : get_or marks k m ≡ n = get_or_default marks k m n lt ∙ f in
        rw found at (subst (λ x. is_lt (mark_cmp x (get_or marks k m)) ≡ false) (sym here) order)

    -- the mark before the place is below
    last_below : (m : Mark) → next ≢ 0 → m ≡ get_or marks (next - 1) m → is_below name boot m ≡ true
    last_below m some here =
        subst (λ x. is_below name boot x ≡ true) (sym here) (p.below (next - 1) m (omega (arith, some)))

    -- the mark before the place is of another name, so there is none before
    pub none_here : (m : Mark) → next ≢ 0 → m ≡ get_or marks (next - 1) m → bytes_eq m.name name ≡ false
        → NoneBefore marks name boot
    none_here m some here other n i e l =
        passed_over name boot n m (behind m n here i (earlier n e l)) e (last_below m some here)
        (other_name m.name name other)

    -- the mark before the place is of the name, so it is the last one before
    pub last_here : (m : Mark) → next ≢ 0 → m ≡ get_or marks (next - 1) m → bytes_eq m.name name ≡ true
        → IsLastBefore marks name boot m
    last_here m some here same =
        let named = (bytes_eq-Decides m.name name).0 same in
        let within = p.within in record {
          among = subst (λ x. In x marks) (sym here) (at_place marks (next - 1) m (omega (arith, some, within)));
          named = named;
          before = ltb-true m.boot boot (sym (below_if name boot m named) ∙ last_below m some here);
          last = λ n i e l. not_later n m (behind m n here i (earlier n e l)) (named ∙ sym e);
        }

  module _ (boot next : ℕ) (p : IsPlace marks name (boot + 1) next) where
    -- a mark of the name that is of a later boot stands from the place on
    from_place : (n : Mark) (k : ℕ) → k < length marks → get_or marks k n ≡ n → n.name ≡ name → boot < n.boot → next ≤ k
    from_place n k lt f e l =
        elim (cases_lt k next) [
          | inl h ↦
              let b = sym (below_if name (boot + 1) n e) ∙ ap (is_below name (boot + 1)) (sym f) ∙ p.below k n h in
              let less = ltb-true n.boot (boot + 1) b in
              absurd (omega (arith, less, l))
          | inr h ↦ h
        ]

    -- a mark that has_later finds
    found_later : has_later marks name boot ≡ true → (n : Mark) × In n marks × (n.name ≡ name) × (boot < n.boot)
    found_later e =
        let (n, i, f) = any_in (λ (m : Mark). bytes_eq m.name name && nat_lt boot m.boot) marks e in
        let d = Decides-and _ _ (bytes_eq-Decides n.name name) (Decides-ltb boot n.boot) in
        let h = d.0 f in
        (n, i, h.0, h.1)

    -- nothing stands from the place on
    pub none_later : length marks ≤ next → false ≡ has_later marks name boot
    none_later past = sym (not_true (has_later marks name boot) (λ e.
        let (n, i, f, l) = found_later e in
        let (k, lt, g) = place_of n marks i in
        let h = from_place n k lt g f l in
        omega (arith, h, lt, past)))

    -- what stands at the place has the name, or no mark of a later boot has
    pub later_here : (m : Mark) (same : Bool) → next < length marks → m ≡ get_or marks next m
        → bytes_eq m.name name ≡ same → same ≡ has_later marks name boot
    later_here m true within here same =
        let named = (bytes_eq-Decides m.name name).0 same in
        let above = subst (λ x. is_below name (boot + 1) x ≡ false) (sym here) (p.above next m (omega arith) within) in
        let least = ltb-false m.boot (boot + 1) (sym (below_if name (boot + 1) m named) ∙ above) in
        let among = subst (λ x. In x marks) (sym here) (at_place marks next m within) in
        let d = Decides-and _ _ (bytes_eq-Decides m.name name) (Decides-ltb boot m.boot) in
        let passes = d.1 (named, omega (arith, least)) in
        sym (in_any (λ (m : Mark). bytes_eq m.name name && nat_lt boot m.boot) m marks among passes)
    later_here m false within here same =
        sym (not_true (has_later marks name boot) (λ e.
        let (n, i, f, l) = found_later e in
        let (k, lt, g) = place_of n marks i in
        let h = from_place n k lt g f l in
        let order = in_order marks up next k m h lt in
        let found : get_or marks k m ≡ n = get_or_default marks k m n lt ∙ g in
        let above = subst (λ x. is_below name (boot + 1) x ≡ false) (sym here) (p.above next m (omega arith) within) in
        none_past name (boot + 1) m n (subst (λ x. is_lt (mark_cmp n x) ≡ false) (sym here) (rw found at order)) f above
        (other_name m.name name same)))
