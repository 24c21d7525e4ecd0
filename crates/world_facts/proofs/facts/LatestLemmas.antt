-- What the latest of the sessions that count has for a name. Callers want `latest_is`.
use Rattle.std.proofs.Common.{◌≡◌, ℕ, ◌≤◌, Bool, true, false, cond, List, [], ◌∷◌, Option, Some, None, sym, ap, ◌∙◌}
use Rattle.std.proofs.Common.{refl, inl, inr, ◌⊎◌, arith}
use Rattle.std.specs.Prelude.{fold, find, nat_lt}
use Rattle.std.specs.Option.{option_map}
use Rattle.std.specs.Str.{bytes_eq}
use Rattle.std.proofs.lemmas.Bool.{ltb-true, ltb-false}
use Rattle.apex_base.specs.declared.records.Part.{Part}
use Rattle.apex_base.specs.declared.records.Record.{Record}
use Rattle.apex_base.specs.declared.records.Target.{Target}
use Rattle.apex_base.specs.declared.records.Target.TheVariants as targets
use Rattle.apex_base.specs.Held.{candidate, later, target_of, latest}
use Rattle.apex_base.specs.Members.{In}
use Rattle.apex_base.specs.Sessions.{names}
use Rattle.apex_base.proofs.Finding.{found, finds}
use Rattle.apex_base.proofs.MemberLemmas.{in_any}

-- the part that a session has for a name
abbrev pub part_for : List ℕ → Record → Option Part
part_for name r = find (λ p. bytes_eq p.name name) r.parts

pub part_named : (name : List ℕ) (r : Record) → names name r ≡ true → (p : Part) × (part_for name r ≡ Some p)
part_named name r e = finds (λ (p : Part). bytes_eq p.name name) r.parts e

pub named_by : (name : List ℕ) (r : Record) (p : Part) → part_for name r ≡ Some p
    → In p r.parts × (bytes_eq p.name name ≡ true)
named_by name r p e = found (λ (q : Part). bytes_eq q.name name) r.parts p e

pub names_part : (name : List ℕ) (r : Record) (p : Part) → part_for name r ≡ Some p → names name r ≡ true
names_part name r p e = let n = named_by name r p e in in_any (λ (q : Part). bytes_eq q.name name) p r.parts n.0 n.1

abbrev AtMost : Option (ℕ × Target) → Option (ℕ × Target) → Type 0
AtMost None c = Unit {0}
AtMost (Some b) None = ⊥
AtMost (Some b) (Some c) = b.0 ≤ c.0

AtMost-same : (b : Option (ℕ × Target)) → AtMost b b
AtMost-same None = tt
AtMost-same (Some b) = omega arith

AtMost-then : (a b c : Option (ℕ × Target)) → AtMost a b → AtMost b c → AtMost a c
AtMost-then None b c h i = tt
AtMost-then (Some a) None c h i = absurd h
AtMost-then (Some a) (Some b) None h i = absurd i
AtMost-then (Some a) (Some b) (Some c) h i = omega arith

later_if : (t : Bool) (b c : ℕ × Target) → nat_lt b.0 c.0 ≡ t
    → AtMost (Some b) (cond t (Some c) (Some b)) × AtMost (Some c) (cond t (Some c) (Some b))
later_if true b c e = let l = ltb-true b.0 c.0 e in (omega arith, omega arith)
later_if false b c e = let l = ltb-false b.0 c.0 e in (omega arith, omega arith)

later_most : (b c : Option (ℕ × Target)) → AtMost b (later b c) × AtMost c (later b c)
later_most b None = (AtMost-same b, tt)
later_most None (Some c) = (tt, omega arith)
later_most (Some b) (Some c) = later_if (nat_lt b.0 c.0) b c refl

later_one : (t : Bool) (b c : ℕ × Target) → (cond t (Some c) (Some b) ≡ Some b) ⊎ (cond t (Some c) (Some b) ≡ Some c)
later_one true b c = inr refl
later_one false b c = inl refl

later_from : (b c : Option (ℕ × Target)) → (later b c ≡ b) ⊎ (later b c ≡ c)
later_from b None = inl refl
later_from None (Some c) = inr refl
later_from (Some b) (Some c) = later_one (nat_lt b.0 c.0) b c

candidate_if : (r : Record) (counts : Bool) (o : Option Part) (c : ℕ × Target)
    → cond counts (option_map (λ (p : Part). (r.activation, p.target)) o) None ≡ Some c
    → (p : Part) × (o ≡ Some p) × (counts ≡ true) × (c ≡ (r.activation, p.target))
candidate_if r true None c e = absurd (cc)
candidate_if r true (Some p) c e = (p, refl, refl, cc)
candidate_if r false o c e = absurd (cc)

-- a session that counts, and names it with this part
pub record IsLatest (test : Record → Bool) (sessions : List Record) (name : List ℕ) (r : Record)
    (p : Part) : Type 0 where
  pub among : In r sessions
  pub counts : test r ≡ true
  pub part : part_for name r ≡ Some p
  pub most : (s : Record) → In s sessions → test s ≡ true → names name s ≡ true → s.activation ≤ r.activation

abbrev pub NoneCounts : (Record → Bool) → List Record → List ℕ → Type 0
NoneCounts test sessions name = (s : Record) → In s sessions → test s ≡ true → names name s ≡ true → ⊥

module _ (test : Record → Bool) (name : List ℕ) where
  best : Option (ℕ × Target) → List Record → Option (ℕ × Target)
  best b ss = fold (λ b r. later b (candidate (test r) name r)) b ss

  best_above : (b : Option (ℕ × Target)) (ss : List Record) → AtMost b (best b ss)
  unfolding best
  best_above b [] = AtMost-same b
  best_above b (r ∷ ss) = let c = candidate (test r) name r in AtMost-then b (later b c) (best (later b c) ss)
      (later_most b c).0 (best_above (later b c) ss)

  best_most : (b : Option (ℕ × Target)) (ss : List Record) (s : Record) → In s ss
      → AtMost (candidate (test s) name s) (best b ss)
  unfolding best
  best_most b [] s h = absurd h
  best_most b (r ∷ ss) s (inl e) =
      let c = candidate (test r) name r in
      rw (← e) (AtMost-then c (later b c) (best (later b c) ss) (later_most b c).1 (best_above (later b c) ss))
  best_most b (r ∷ ss) s (inr h) = best_most (later b (candidate (test r) name r)) ss s h

  best_from : (b : Option (ℕ × Target)) (ss : List Record)
      → (best b ss ≡ b) ⊎ ((r : Record) × In r ss × (best b ss ≡ candidate (test r) name r))
  unfolding best
  best_from b [] = inl refl
  best_from b (r ∷ ss) =
      let c = candidate (test r) name r in
      elim (best_from (later b c) ss) [
        | inl e ↦ elim (later_from b c) [
          | inl f ↦ inl (e ∙ f)
          | inr f ↦ inr (r, inl refl, e ∙ f)
        ]
        | inr i ↦ inr (i.0, inr i.1, i.2)
      ]

  candidate_is : (r : Record) (c : ℕ × Target) → candidate (test r) name r ≡ Some c
      → (p : Part) × (part_for name r ≡ Some p) × (test r ≡ true) × (c ≡ (r.activation, p.target))
  candidate_is r c e = candidate_if r (test r) (part_for name r) c e

  candidate_of : (r : Record) (p : Part) → test r ≡ true → part_for name r ≡ Some p
      → candidate (test r) name r ≡ Some (r.activation, p.target)
  candidate_of r p e f = rw (e, f) refl

  most_of : (ss : List Record) (b : ℕ) (t : Target) → best None ss ≡ Some (b, t) → (s : Record) → In s ss
      → test s ≡ true → names name s ≡ true → s.activation ≤ b
  most_of ss b t e s h counts named =
      let p = part_named name s named in
      let m = rw (candidate_of s p.0 counts p.1, e) at (best_most None ss s h) in m

  none_of : (ss : List Record) → best None ss ≡ None → NoneCounts test ss name
  none_of ss e s h counts named =
      let p = part_named name s named in
      rw (candidate_of s p.0 counts p.1, e) at (best_most None ss s h)

  best_is : (ss : List Record) (o : Option (ℕ × Target)) → best None ss ≡ o
      → (NoneCounts test ss name × (target_of o ≡ targets.Preinstalled))
      ⊎ ((r : Record) × (p : Part) × IsLatest test ss name r p × (target_of o ≡ p.target))
  best_is ss None e = inl (none_of ss e, refl)
  best_is ss (Some c) e =
      elim (best_from None ss) [
        | inl f ↦ absurd (cc)
        | inr i ↦
            let k = candidate_is i.0 c (sym i.2 ∙ e) in
            inr (
              i.0,
              k.0,
              record {
                among = i.1;
                counts = k.2;
                part = k.1;
                most = λ s h counts named. most_of ss i.0.activation k.0.target (e ∙ ap (λ d. Some d) k.3) s h counts
                    named;
              },
              ap (λ (d : ℕ × Target). d.1) k.3,
            )
      ]

  -- none of them counts, or one of them is the latest
  pub latest_is : (ss : List Record)
      → (NoneCounts test ss name × (latest test ss name ≡ targets.Preinstalled))
      ⊎ ((r : Record) × (p : Part) × IsLatest test ss name r p × (latest test ss name ≡ p.target))
  unfolding best
  latest_is ss = best_is ss (best None ss) refl
