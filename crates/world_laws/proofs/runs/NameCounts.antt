-- Sessions no two of which share a name have no more names than there are. Callers want `names_within`.
use Rattle.std.proofs.Common.{◌≡◌, ◌≢◌, ℕ, ◌≤◌, Bool, true, false, cond, List, [], ◌∷◌, ◌++◌, length, map, flat_map, sym, ap, ◌∙◌, refl, inl, inr, is_some, arith}
use Rattle.std.specs.Str.{bytes_eq}
use Rattle.std.proofs.lemmas.List.{length-append, length-map}
use Rattle.std.proofs.lemmas.List.Sums.{sum_by-cons}
use Rattle.apex_base.specs.declared.numbers.Scale.{Scale}
use Rattle.apex_base.specs.declared.records.Part.{Part}
use Rattle.apex_base.specs.declared.records.Record.{Record}
use Rattle.apex_base.specs.Members.{In, EachPair}
use Rattle.apex_base.specs.Numbers.{scale_modules}
use Rattle.apex_base.specs.Sessions.{names, Ascend}
use Rattle.apex_base.proofs.Finding.{found, is_there}
use Rattle.apex_base.proofs.MemberLemmas.{in_map, in_map_back, in_append, each_in, in_each}
use Rattle.apex_base.proofs.SumLemmas.{length_most}
use Rattle.apex_world.specs.declared.calls.Image.{Image}
use Rattle.apex_world.specs.declared.modules.Package.{Package}
use Rattle.apex_world.specs.Bounds.{name_count}
use Rattle.apex_world.specs.Orders.{IsImage}
use Rattle.apex_world.specs.Selection.{preinstalled}
use Rattle.world_facts.proofs.facts.KeptLemmas.{names_own}
use Rattle.world_facts.proofs.facts.OpenedSessions.{below_each}
use Rattle.world_facts.proofs.facts.WorldRows.{same_name}

abbrev Names : Type 0
Names = List (List ℕ)

abbrev AreDifferent : Names → Type 0
AreDifferent names = EachPair (λ (a b : List ℕ). a ≢ b) names

part_names : List Part → Names
part_names ps = map (λ p. p.name) ps

-- names of parts differ where the parts' names do
part_names_differ : (ps : List Part) → EachPair (λ (p q : Part). p.name ≢ q.name) ps → AreDifferent (part_names ps)
unfolding part_names
part_names_differ [] a = tt
part_names_differ (p ∷ ps) a = (
  in_each (λ (b : List ℕ). p.name ≢ b) (part_names ps) (λ b h e.
      let (q, i, f) = in_map_back (λ (q : Part). q.name) b ps h in
      each_in (λ (q : Part). p.name ≢ q.name) ps a.0 q i (e ∙ sym f)),
  part_names_differ ps a.1,
)

-- two lists of different names, which have none in common
both_differ : (xs ys : Names) → AreDifferent xs → AreDifferent ys → ((a : List ℕ) → In a xs → In a ys → ⊥)
    → AreDifferent (xs ++ ys)
both_differ [] ys a b apart = b
both_differ (x ∷ xs) ys a b apart = (
  in_each (λ (y : List ℕ). x ≢ y) (xs ++ ys) (λ y h e. elim (in_append y xs ys h) [
    | inl i ↦ each_in (λ (y : List ℕ). x ≢ y) xs a.0 y i e
    | inr i ↦ apart y (inl e) i
  ]),
  both_differ xs ys a.1 b (λ y h i. apart y (inr h) i),
)

module _ (test : Record → Bool) where
  -- the names of a session that passes
  names_if : Bool → Record → Names
  names_if b r = cond b (part_names r.parts) []

  passing : List Record → Names
  passing ss = flat_map (λ r. names_if (test r) r) ss

  in_if : (b : Bool) (r : Record) (a : List ℕ) → In a (names_if b r)
      → (b ≡ true) × ((p : Part) × In p r.parts × (p.name ≡ a))
  unfolding names_if part_names
  in_if true r a h = (refl, in_map_back (λ (p : Part). p.name) a r.parts h)
  in_if false r a h = absurd h

  in_passing : (ss : List Record) (a : List ℕ) → In a (passing ss)
      → (r : Record) × In r ss × (test r ≡ true) × ((p : Part) × In p r.parts × (p.name ≡ a))
  unfolding passing
  in_passing [] a h = absurd h
  in_passing (r ∷ ss) a h =
      elim (in_append a (names_if (test r) r) (passing ss) h) [
        | inl i ↦ let k = in_if (test r) r a i in (r, inl refl, k.0, k.1)
        | inr i ↦ let (s, j, e, k) = in_passing ss a i in (s, inr j, e, k)
      ]

  length_if : (b : Bool) (r : Record) → length (names_if b r) ≡ cond b (length r.parts) 0
  unfolding names_if part_names
  length_if true r = length-map r.parts (λ p. p.name)
  length_if false r = refl

  length_passing : (ss : List Record) → name_count test ss ≡ length (passing ss)
  unfolding passing
  length_passing [] = refl
  length_passing (r ∷ ss) =
      let rest = length_passing ss in
      omega (
        arith,
        rest,
        length_if (test r) r,
        length-append (names_if (test r) r) (passing ss),
        sum_by-cons (λ (r : Record). cond (test r) (length r.parts) 0) r ss,
      )

  -- no two sessions that pass share a name, and the names of each differ
  pub record AreApart (ss : List Record) : Type 0 where
    pub each : (r : Record) → In r ss → test r ≡ true → EachPair (λ (p q : Part). p.name ≢ q.name) r.parts
    pub peers : (r s : Record) (name : List ℕ) → In r ss → In s ss → r.id.0 ≢ s.id.0 → names name r ≡ true
        → names name s ≡ true → test r ≡ true → test s ≡ true → ⊥

  if_differ : (b : Bool) (r : Record) → (b ≡ true → EachPair (λ (p q : Part). p.name ≢ q.name) r.parts)
      → AreDifferent (names_if b r)
  unfolding names_if
  if_differ true r a = part_names_differ r.parts (a refl)
  if_differ false r a = tt

  names_it : (r : Record) (p : Part) (a : List ℕ) → In p r.parts → p.name ≡ a → names a r ≡ true
  names_it r p a h e = ap (λ (a : List ℕ). names a r) (sym e) ∙ names_own r p h

  passing_differ : (ss : List Record) → Ascend ss → AreApart ss → AreDifferent (passing ss)
  unfolding passing
  passing_differ [] up law = tt
  passing_differ (r ∷ ss) up law =
      both_differ (names_if (test r) r) (passing ss) (if_differ (test r) r (law.each r (inl refl)))
      (passing_differ ss up.1 (record {
        each = λ s h. law.each s (inr h);
        peers = λ s t name h i. law.peers s t name (inr h) (inr i);
      }))
      (λ a h i.
      let (e, (p, j, f)) = in_if (test r) r a h in
      let (s, k, g, (q, l, m)) = in_passing ss a i in
      let below = below_each r s ss up.0 k in
      law.peers r s a (inl refl) (inr k) (λ same. absurd (omega (arith, same, below))) (names_it r p a j f)
      (names_it s q a l m) e g)

  -- they have at most as many names as there are
  pub names_at_most : (ss : List Record) (all : Names) → Ascend ss → AreApart ss
      → ((r : Record) (name : List ℕ) → In r ss → test r ≡ true → names name r ≡ true → In name all)
      → name_count test ss ≤ length all
  names_at_most ss all up law there =
      let most = length_most (passing ss) all (passing_differ ss up law) (λ a h.
      let (r, i, e, (p, j, f)) = in_passing ss a h in there r a i e (names_it r p a j f)) in
      omega (arith, most, length_passing ss)

abbrev pub image_names : Image → Names
image_names image = map (λ m. m.name) image.modules

-- a name of the image is among its names
pub in_image_names : (image : Image) (name : List ℕ) → is_some (preinstalled image.modules name) ≡ true
    → In name (image_names image)
in_image_names image name e =
    let (m, f) = is_there (preinstalled image.modules name) e in
    let (h, g) = found (λ (m : Package). bytes_eq m.name name) image.modules m f in
    rw (← same_name m.name name g) (in_map (λ (m : Package). m.name) m image.modules h)

-- an image has no more names than the scale has modules
pub few_names : (scale : Scale) (image : Image) → IsImage scale image → length (image_names image) ≤ scale_modules scale
few_names scale image law = let l = law.count in omega (arith, l, length-map image.modules (λ m. m.name))

-- and so sessions no two of which share a name have no more, where the image has each of their names
pub names_within : (test : Record → Bool) (ss : List Record) (scale : Scale) (image : Image) → IsImage scale image
    → Ascend ss → AreApart test ss
    → ((r : Record) (name : List ℕ) → In r ss → test r ≡ true → names name r ≡ true
    → is_some (preinstalled image.modules name) ≡ true) → name_count test ss ≤ scale_modules scale
names_within test ss scale image law up apart there =
    let most = names_at_most test ss (image_names image) up apart (λ r name h e n.
    in_image_names image name (there r name h e n)) in
    let few = few_names scale image law in
    omega (arith, most, few)
