-- Sessions that each change by themselves. Callers want `with_as_map`, `same_put`, `sum_map_most`, `sum_map_same`,
-- `latest_map`, `candidate_same`, `candidate_none`, `part_of_target` and `map_alike`.
use Rattle.std.proofs.Common.{◌≡◌, ◌≢◌, ℕ, ◌≤◌, Bool, true, false, cond, eqb, List, [], ◌∷◌, map, find, fold, Option}
use Rattle.std.proofs.Common.{Some, None}
use Rattle.std.proofs.Common.{sym, ap, ◌∙◌, refl, inl, inr, arith}
use Rattle.std.specs.List.{sum_by}
use Rattle.std.specs.Option.{option_map}
use Rattle.std.specs.Str.{bytes_eq}
use Rattle.std.proofs.lemmas.Bool.{cases_order, eqb-true, eq-eqb, ne_eqb}
use Rattle.std.proofs.lemmas.List.Sums.{sum_by-cons}
use Rattle.apex_base.specs.declared.numbers.SessionId.{SessionId}
use Rattle.apex_base.specs.declared.records.Part.{Part}
use Rattle.apex_base.specs.declared.records.Record.{Record}
use Rattle.apex_base.specs.declared.records.Target.{Target}
use Rattle.apex_base.specs.Commit.{target_version}
use Rattle.apex_base.specs.Held.{candidate, later, target_of, latest}
use Rattle.apex_base.specs.Members.{In}
use Rattle.apex_base.specs.Sessions.{names, with_session, Ascend}
use Rattle.apex_base.proofs.SessionLemmas.{with_lt, with_eq}
use Rattle.world_facts.proofs.facts.LatestLemmas.{part_for, names_part}
use Rattle.world_facts.proofs.facts.OpenedSessions.{below_each}
use Rattle.world_facts.proofs.facts.WorldRows.{same_id}

-- A session put in its place among others that change

-- this session in place of the one of its id, and what f makes of each other one
abbrev pub put_for : Record → (Record → Record) → Record → Record
put_for s f r = cond (eqb r.id.0 s.id.0) s (f r)

-- it keeps the id of the one in whose place it comes
same_if : (b : Bool) (s r : Record) (f : Record → Record) → eqb r.id.0 s.id.0 ≡ b → (f r).id ≡ r.id
    → (cond b s (f r)).id ≡ r.id
same_if true s r f e h = same_id s.id r.id (sym (eqb-true r.id.0 s.id.0 e))
same_if false s r f e h = h

-- each keeps its id
pub same_put : (s : Record) (f : Record → Record) → ((r : Record) → (f r).id ≡ r.id) → (r : Record)
    → (put_for s f r).id ≡ r.id
same_put s f same r = same_if (eqb r.id.0 s.id.0) s r f refl (same r)

-- where no other session has its id, each other one becomes what f makes of it
rest_same : (s : Record) (f : Record → Record) (ss : List Record) → ((r : Record) → In r ss → r.id.0 ≢ s.id.0)
    → map (put_for s f) ss ≡ map f ss
rest_same s f [] d = refl
rest_same s f (x ∷ ss) d =
    let e : eqb x.id.0 s.id.0 ≡ false = ne_eqb x.id.0 s.id.0 (d x (inl refl)) in
    let r = rest_same s f ss (λ r h. d r (inr h)) in
    ap (λ b. cond b s (f x) ∷ map (put_for s f) ss) e ∙ ap (λ (rs : List Record). f x ∷ rs) r

-- so the sessions with it in its place are a map
pub with_as_map : (s x : Record) (f : Record → Record) (ss : List Record) → ((r : Record) → (f r).id ≡ r.id)
    → Ascend ss → In x ss → x.id.0 ≡ s.id.0 → with_session s (map f ss) ≡ map (put_for s f) ss
with_as_map s x f [] same a h e = absurd h
with_as_map s x f (y ∷ ss) same a h e =
    let fy : (f y).id.0 ≡ y.id.0 = ap (λ (id : SessionId). id.0) (same y) in
    elim (cases_order y.id.0 s.id.0) [
      | inl g ↦
          with_eq s (f y) (map f ss) (fy ∙ g)
          ∙ ap (λ (rs : List Record). s ∷ rs) (sym (rest_same s f ss (λ r i d.
          let l = below_each y r ss a.0 i in absurd (omega (arith, l, d, g)))))
          ∙ ap (λ b. cond b s (f y) ∷ map (put_for s f) ss) (sym (eq-eqb y.id.0 s.id.0 g))
      | inr o ↦ elim o [
        | inl l ↦
            with_lt s (f y) (map f ss) (omega (arith, fy, l))
            ∙ ap (λ (rs : List Record). f y ∷ rs) (with_as_map s x f ss same a.1 (elim h [
              | inl same ↦ absurd (omega (arith, l, e, ap (λ (r : Record). r.id.0) same))
              | inr i ↦ i
            ]) e)
            ∙ ap (λ b. cond b s (f y) ∷ map (put_for s f) ss) (sym (ne_eqb y.id.0 s.id.0 (λ d. omega (arith, d, l))))
        | inr m ↦ elim h [
          | inl same ↦ absurd (omega (arith, m, e, ap (λ (r : Record). r.id.0) same))
          | inr i ↦ let l = below_each y x ss a.0 i in absurd (omega (arith, m, e, l))
        ]
      ]
    ]

-- Sums

-- a sum over sessions that each count no more is no more
pub sum_map_most : (g : Record → ℕ) (f : Record → Record) (ss : List Record)
    → ((r : Record) → In r ss → g (f r) ≤ g r) → sum_by g (map f ss) ≤ sum_by g ss
sum_map_most g f [] less = omega arith
sum_map_most g f (r ∷ ss) less =
    let first = less r (inl refl) in
    let rest = sum_map_most g f ss (λ r h. less r (inr h)) in
    omega (arith, first, rest, sum_by-cons g (f r) (map f ss), sum_by-cons g r ss)

-- Parts

-- parts of the same targets are the same
pub part_of_target : (p : Part) (t u : Target) → t ≡ u → ◌≡◌ {A = Part} (record {
  name = p.name;
  version = target_version t;
  target = t;
}) (record { name = p.name; version = target_version u; target = u })
part_of_target p t u e = ap (λ (t : Target). record { name = p.name; version = target_version t; target = t }) e

-- what is alike at each element is alike
pub map_alike : {X Y : Type 0} (f g : X → Y) (xs : List X) → ((x : X) → In x xs → f x ≡ g x) → map f xs ≡ map g xs
map_alike f g [] same = refl
map_alike f g (x ∷ xs) same =
    ap (λ y. y ∷ map f xs) (same x (inl refl)) ∙ ap (λ ys. g x ∷ ys) (map_alike f g xs (λ y h. same y (inr h)))

-- What is held

-- where it isn't named, a session has nothing for a name
pub candidate_none : (b : Bool) (name : List ℕ) (r : Record) → names name r ≡ false → candidate b name r ≡ None
candidate_none false name r e = refl
candidate_none true name r e = none (part_for name r) refl
  where
    none : (o : Option Part) → part_for name r ≡ o
        → option_map {U = ℕ × Target} (λ (p : Part). (r.activation, p.target)) o ≡ None
    none None f = refl
    none (Some p) f = absurd (cc (names_part name r p f, e))

-- sessions of the same parts and the same boot have the same for it
pub candidate_same : (b : Bool) (name : List ℕ) (r s : Record) → s.parts ≡ r.parts → s.activation ≡ r.activation
    → candidate b name s ≡ candidate b name r
candidate_same b name r s parts activation =
    ap (λ (ps : List Part). cond b (option_map {U = ℕ × Target} (λ (p : Part). (s.activation, p.target))
    (find (λ p. bytes_eq p.name name) ps)) None) parts
    ∙ ap (λ (n : ℕ). cond b (option_map {U = ℕ × Target} (λ (p : Part). (n, p.target))
    (find (λ p. bytes_eq p.name name) r.parts)) None)
    activation

module _ (test test' : Record → Bool) (name : List ℕ) (f : Record → Record) where
  -- the best of sessions that each have the same for a name is the same
  best_map : (ss : List Record) (b : Option (ℕ × Target))
      → ((r : Record) → In r ss → candidate (test' (f r)) name (f r) ≡ candidate (test r) name r)
      → fold (λ b r. later b (candidate (test' r) name r)) b (map f ss)
      ≡ fold (λ b r. later b (candidate (test r) name r)) b ss
  best_map [] b same = refl
  best_map (x ∷ ss) b same =
      ap (λ (c : Option (ℕ × Target)). fold (λ b r. later b (candidate (test' r) name r)) (later b c) (map f ss))
      (same x (inl refl))
      ∙ best_map ss (later b (candidate (test x) name x)) (λ r h. same r (inr h))

  -- the latest of sessions that each have the same for a name
  pub latest_map : (ss : List Record)
      → ((r : Record) → In r ss → candidate (test' (f r)) name (f r) ≡ candidate (test r) name r)
      → latest test' (map f ss) name ≡ latest test ss name
  latest_map ss same = ap target_of (best_map ss None same)
