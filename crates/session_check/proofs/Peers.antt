-- Sessions that share a name, and sessions that share an id, by marks and numbers that differ. Callers want
-- `peers_by_marks`, `marks_by_peers`, `ids_by_numbers` and `numbers_by_ids`.
use Rattle.std.proofs.Common.{◌≡◌, ◌≢◌, ℕ, ◌<◌, Bool, true, false, cond, List, [], ◌∷◌, map, flat_map, sym, ap, subst}
use Rattle.std.proofs.Common.{◌∙◌, refl, inl, inr, arith}
use Rattle.std.specs.Str.{bytes_eq}
use Rattle.std.proofs.lemmas.Slice.Eq.{bytes_eq-Decides}
use Rattle.apex_base.specs.declared.numbers.SessionId.{SessionId}
use Rattle.apex_base.specs.declared.records.Part.{Part}
use Rattle.apex_base.specs.declared.records.Record.{Record}
use Rattle.apex_base.specs.Members.{In, EachPair}
use Rattle.apex_base.specs.Sessions.{has_id, names, Ascend}
use Rattle.apex_base.proofs.MemberLemmas.{any_in, in_any, in_map, in_map_back, each_in, in_each}
use Rattle.apex_world.specs.Lawful.{ids_of}
use Rattle.world_facts.proofs.facts.DecidedIds.{pair_among, pairs_by}
use Rattle.world_facts.proofs.facts.NewIds.{has_in, in_has}
use Rattle.session_check.specs.declared.marks.Mark.{Mark}
use Rattle.session_check.specs.declared.marks.Which.{Which}
use Rattle.session_check.specs.Marks.{counts, mark_of, marks_of, id_numbers}
use Rattle.session_check.proofs.Differing.{AllDiffer, NoneShared, flat_pairs, pairs_flat}
use Rattle.session_check.proofs.Marked.{mark_name, marked_if, is_marked_if}

-- elements that a function tells apart differ after it
differ_mapped : {X Y : Type 0} (f : X → Y) (R : X → X → Type 0) → ((x y : X) → R x y → f x ≢ f y) → (xs : List X)
    → EachPair R xs → AllDiffer (map f xs)
differ_mapped f R by [] d = tt
differ_mapped f R by (x ∷ xs) d = (
  in_each (λ y. f x ≢ y) (map f xs) (λ y i e.
      let (z, j, g) = in_map_back f y xs i in
      by x z (each_in (R x) xs d.0 z j) (e ∙ sym g)),
  differ_mapped f R by xs d.1,
)

-- and the other way round
mapped_differ : {X Y : Type 0} (f : X → Y) (xs : List X) → AllDiffer (map f xs) → EachPair (λ (x y : X). f x ≢ f y) xs
mapped_differ f [] d = tt
mapped_differ f (x ∷ xs) d = (
  in_each (λ y. f x ≢ f y) xs (λ y i. each_in (λ z. f x ≢ z) (map f xs) d.0 (f y) (in_map f y xs i)),
  mapped_differ f xs d.1,
)

-- two sessions of two ids, of a list in which each has nothing in common with each later one
apart_by : {X : Type 0} (f : Record → List X) (ss : List Record)
    → EachPair (λ (r s : Record). NoneShared (f r) (f s)) ss → (r s : Record) → In r ss → In s ss → r.id.0 ≢ s.id.0
    → NoneShared (f r) (f s)
apart_by f ss h r s i j d x k l =
    elim (pair_among (λ (r s : Record). NoneShared (f r) (f s)) ss h r s i j) [
      | inl e ↦ d (ap (λ (r : Record). r.id.0) e)
      | inr o ↦ elim o [
        | inl p ↦ p x k l
        | inr p ↦ p x l k
      ]
    ]

-- and the other way round
by_apart : {X : Type 0} (f : Record → List X) (ss : List Record) → Ascend ss
    → ((r s : Record) → In r ss → In s ss → r.id.0 ≢ s.id.0 → NoneShared (f r) (f s))
    → EachPair (λ (r s : Record). NoneShared (f r) (f s)) ss
by_apart f ss a h = pairs_by (λ (r s : Record). r.id.0 < s.id.0) (λ (r s : Record). NoneShared (f r) (f s)) ss a
    (λ r s i j below. h r s i j (λ same. omega (arith, below, same)))

-- Marks

-- the part that a session has for a name
pub part_named : (name : List ℕ) (r : Record) → names name r ≡ true → (p : Part) × In p r.parts × (p.name ≡ name)
part_named name r e =
    let (p, i, f) = any_in (λ (p : Part). bytes_eq p.name name) r.parts e in (p, i, (bytes_eq-Decides p.name name).0 f)

pub named_part : (name : List ℕ) (r : Record) (p : Part) → In p r.parts → p.name ≡ name → names name r ≡ true
named_part name r p i e = in_any (λ (p : Part). bytes_eq p.name name) p r.parts i ((bytes_eq-Decides p.name name).1 e)

-- two parts of one name have one mark
abbrev AreAlike : Which → Record → Record → Type 0
AreAlike which r s = (p q : Part) → p.name ≡ q.name → mark_of which r p ≡ mark_of which s q

differ_if : (b : Bool) (ms : List Mark) → (b ≡ true → AllDiffer ms) → AllDiffer (cond b ms [])
differ_if true ms d = d refl
differ_if false ms d = tt

module _ (which : Which) (ss : List Record) where
  -- where marks differ, no two sessions that count and share a name have one mark
  pub peers_by_marks : AllDiffer (flat_map (marks_of which) ss) → (r s : Record) (name : List ℕ) → In r ss → In s ss
      → r.id.0 ≢ s.id.0 → names name r ≡ true → names name s ≡ true → counts which r ≡ true → counts which s ≡ true
      → AreAlike which r s → ⊥
  peers_by_marks d r s name i j differ n m c e alike =
      let (p, h, f) = part_named name r n in
      let (q, k, g) = part_named name s m in
      let same = alike p q (f ∙ sym g) in
      apart_by (marks_of which) ss (flat_pairs (marks_of which) ss d).1 r s i j differ (mark_of which r p)
      (is_marked_if (counts which r) (map (mark_of which r) r.parts) (mark_of which r p) c
      (in_map (mark_of which r) p r.parts h))
      (rw same (is_marked_if (counts which s) (map (mark_of which s) s.parts) (mark_of which s q) e
      (in_map (mark_of which s) q s.parts k)))

  -- and where no two have, marks differ
  pub marks_by_peers : Ascend ss → ((r : Record) → In r ss → EachPair (λ (p q : Part). p.name ≢ q.name) r.parts)
      → ((r s : Record) (name : List ℕ) (p q : Part) → In r ss → In s ss → r.id.0 ≢ s.id.0 → names name r ≡ true
      → names name s ≡ true → counts which r ≡ true → counts which s ≡ true → mark_of which r p ≡ mark_of which s q
      → ⊥) → AllDiffer (flat_map (marks_of which) ss)
  marks_by_peers a own none =
      pairs_flat (marks_of which) ss
      (λ r i. differ_if (counts which r) (map (mark_of which r) r.parts) (λ c.
      differ_mapped (mark_of which r) (λ (p q : Part). p.name ≢ q.name)
      (λ p q other e.
      other (sym (mark_name which r p) ∙ ap (λ (m : Mark). m.name) e ∙ mark_name which r q))
      r.parts (own r i)))
      (by_apart (marks_of which) ss a (λ r s i j differ m k l.
      let (c, h) = marked_if (counts which r) (map (mark_of which r) r.parts) m k in
      let (e, t) = marked_if (counts which s) (map (mark_of which s) s.parts) m l in
      let (p, u, f) = in_map_back (mark_of which r) m r.parts h in
      let (q, v, g) = in_map_back (mark_of which s) m s.parts t in
      let same : mark_of which r p ≡ mark_of which s q = f ∙ sym g in
      let name : q.name ≡ p.name = sym (sym (mark_name which r p) ∙ ap (λ (m : Mark). m.name) same
      ∙ mark_name which s q) in
      none r s p.name p q i j differ (named_part p.name r p u refl) (named_part p.name s q v name) c e same))

-- Ids

-- a session has an id if its number is among theirs
number_in : (id : SessionId) (r : Record) → has_id id r ≡ true → In id.0 (id_numbers r)
number_in id r h =
    let (j, i, e) = has_in id r h in
    subst (λ (n : ℕ). In n (id_numbers r)) e (in_map (λ (id : SessionId). id.0) j (ids_of r) i)

in_number : (n : ℕ) (r : Record) → In n (id_numbers r) → has_id (record { 0 = n }) r ≡ true
in_number n r h =
    let (j, i, e) = in_map_back (λ (id : SessionId). id.0) n (ids_of r) h in in_has (record { 0 = n }) r j i e

module _ (ss : List Record) where
  -- where numbers differ, each session has its own ids
  pub own_by_numbers : AllDiffer (flat_map id_numbers ss) → (r : Record) → In r ss
      → EachPair (λ (a b : SessionId). a.0 ≢ b.0) (ids_of r)
  own_by_numbers d r i = mapped_differ (λ (id : SessionId). id.0) (ids_of r) ((flat_pairs id_numbers ss d).0 r i)

  -- and no two have an id in common
  pub apart_by_numbers : AllDiffer (flat_map id_numbers ss) → (r s : Record) (id : SessionId) → In r ss → In s ss
      → r.id.0 ≢ s.id.0 → has_id id r ≡ true → has_id id s ≡ true → ⊥
  apart_by_numbers d r s id i j differ h k =
      apart_by id_numbers ss (flat_pairs id_numbers ss d).1 r s i j differ id.0 (number_in id r h) (number_in id s k)

  -- and the other way round
  pub numbers_by_ids : Ascend ss → ((r : Record) → In r ss → EachPair (λ (a b : SessionId). a.0 ≢ b.0) (ids_of r))
      → ((r s : Record) (id : SessionId) → In r ss → In s ss → r.id.0 ≢ s.id.0 → has_id id r ≡ true
      → has_id id s ≡ true → ⊥) → AllDiffer (flat_map id_numbers ss)
  numbers_by_ids a own none =
      pairs_flat id_numbers ss
      (λ r i. differ_mapped (λ (id : SessionId). id.0) (λ (a b : SessionId). a.0 ≢ b.0) (λ a b other. other) (ids_of r)
      (own r i))
      (by_apart id_numbers ss a (λ r s i j differ n k l.
      none r s (record { 0 = n }) i j differ (in_number n r k) (in_number n s l)))
