-- Which sessions and parts marks are of. Callers want `marked`, `is_marked`, `in_permuted` and `mark_name`.
use Rattle.std.proofs.Common.{◌≡◌, Bool, true, false, cond, List, [], map, flat_map, subst, refl}
use Rattle.std.specs.List.Sorted.{IsPermutation}
use Rattle.std.proofs.lemmas.List.Sorted.{Contains-permutation, IsPermutation-sym}
use Rattle.apex_base.specs.declared.records.Part.{Part}
use Rattle.apex_base.specs.declared.records.Record.{Record}
use Rattle.apex_base.specs.Members.{In}
use Rattle.apex_base.proofs.MemberLemmas.{in_map, in_map_back, in_flat_map, in_flat_map_back}
use Rattle.session_check.specs.declared.marks.Mark.{Mark}
use Rattle.session_check.specs.declared.marks.Which.{Which}
use Rattle.session_check.specs.declared.marks.Which.TheVariants.{Unfinished, Available, Activated, Standing, Succeeded}
use Rattle.session_check.specs.Marks.{counts, mark_of, marks_of, AreMarks}
use Rattle.session_check.proofs.Orders.{place_of, at_place}

-- a list in another order has the same elements
pub in_permuted : {X : Type 0} (xs ys : List X) → IsPermutation xs ys → (x : X) → In x xs → In x ys
in_permuted {X} xs ys p x i =
    let (k, lt, e) = Contains-permutation xs ys x p (place_of x xs i) in
    subst (λ (y : X). In y ys) e (at_place ys k x lt)

-- a mark has its part's name
pub mark_name : (which : Which) (r : Record) (p : Part) → (mark_of which r p).name ≡ p.name
mark_name Unfinished r p = refl
mark_name Available r p = refl
mark_name Activated r p = refl
mark_name Standing r p = refl
mark_name Succeeded r p = refl

-- a session that counts, and one of its parts
pub record IsMarkOf (which : Which) (sessions : List Record) (m : Mark) : Type 0 where
  pub session : Record
  pub part : Part
  pub among : In session sessions
  pub counted : counts which session ≡ true
  pub has : In part session.parts
  pub is : mark_of which session part ≡ m

pub marked_if : (b : Bool) (ms : List Mark) (m : Mark) → In m (cond b ms []) → (b ≡ true) × In m ms
marked_if true ms m i = (refl, i)
marked_if false ms m i = absurd i

pub is_marked_if : (b : Bool) (ms : List Mark) (m : Mark) → b ≡ true → In m ms → In m (cond b ms [])
is_marked_if true ms m e i = i
is_marked_if false ms m e i = absurd (cc)

module _ (which : Which) (ss : List Record) where
  -- a mark is of a session that counts
  pub marked : (m : Mark) → In m (flat_map (marks_of which) ss) → IsMarkOf which ss m
  marked m i =
      let (r, j, k) = in_flat_map_back (marks_of which) m ss i in
      let (e, l) = marked_if (counts which r) (map (mark_of which r) r.parts) m k in
      let (p, h, f) = in_map_back (mark_of which r) m r.parts l in
      record { session = r; part = p; among = j; counted = e; has = h; is = f }

  -- the parts of a session that counts are marked
  pub is_marked : (r : Record) (p : Part) → In r ss → counts which r ≡ true → In p r.parts
      → In (mark_of which r p) (flat_map (marks_of which) ss)
  is_marked r p i e h =
      in_flat_map (marks_of which) r (mark_of which r p) ss i
      (is_marked_if (counts which r) (map (mark_of which r) r.parts) (mark_of which r p) e
      (in_map (mark_of which r) p r.parts h))

  module _ (marks : List Mark) (a : AreMarks which ss marks) where
    pub marked_in : (m : Mark) → In m marks → IsMarkOf which ss m
    marked_in m i = marked m (in_permuted marks (flat_map (marks_of which) ss)
        (IsPermutation-sym (flat_map (marks_of which) ss) marks a.all) m i)

    pub is_marked_in : (r : Record) (p : Part) → In r ss → counts which r ≡ true → In p r.parts
        → In (mark_of which r p) marks
    is_marked_in r p i e h =
        in_permuted (flat_map (marks_of which) ss) marks a.all (mark_of which r p) (is_marked r p i e h)
