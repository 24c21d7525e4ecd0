-- What names held before each boot. Callers want `put_target`, `put_last`, `all_parts`, `no_targets`, `last_none` and
-- `last_some`.
use Rattle.std.proofs.Common.{◌≡◌, ◌<◌, ◌≤◌, ℕ, Bool, true, false, cond, List, [], ◌∷◌, ◌++◌}
use Rattle.std.proofs.Common.{fold, Option, Some, None, nat_lt, ap, sym, subst, ◌∙◌, refl, inl, inr}
use Rattle.std.proofs.Common.{arith}
use Rattle.std.specs.Prelude.{find, is_some}
use Rattle.std.specs.BTreeMap as tree
use Rattle.std.specs.BTreeMap.{BTreeMap}
use Rattle.std.specs.BTreeMap.Range.{IsRangeOf}
use Rattle.std.specs.Cmp.{tied_itself, nat_cmp_total}
use Rattle.std.specs.Cmp.Lexicographic.{slice_cmp}
use Rattle.std.specs.FinMap.{nat_cmp-IsAntisymmetric}
use Rattle.std.specs.Option.{option_map, option_and_then, option_or}
use Rattle.std.specs.Ordering.{nat_cmp, is_lt, is_eq}
use Rattle.std.specs.Str.{bytes_eq}
use Rattle.std.specs.declared.cmp.Ordering.{Ordering}
use Rattle.std.specs.declared.cmp.Ordering.TheVariants.{Less, Equal, Greater}
use Rattle.std.specs.declared.ops.Bound.TheVariants.{Excluded, Unbounded}
use Rattle.std.proofs.lemmas.Bool.{ltb-true, ltb-false, cases_eq, cases_lt}
use Rattle.std.proofs.lemmas.Bool.Decides.{nat_tests}
use Rattle.std.proofs.lemmas.Map.Text.{is_eq-slice_cmp}
use Rattle.std.proofs.lemmas.Slice.Eq.{bytes_eq-Decides}
use Rattle.apex_base.specs.declared.records.Part.{Part}
use Rattle.apex_base.specs.declared.records.Record.{Record}
use Rattle.apex_base.specs.declared.records.Target.{Target}
use Rattle.apex_base.specs.declared.records.Target.TheVariants.{Preinstalled}
use Rattle.apex_base.specs.Held.{candidate, later, target_of}
use Rattle.package_store.specs.declared.earlier.EarlierTargets.{EarlierTargets}
use Rattle.package_store.specs.Earlier.{target_at, IsLast, with_earlier}
use Rattle.package_store.specs.Latest.{Best, with_part}
use Rattle.package_store.proofs.LatestParts.{with_parts}

abbrev Targets : Type 0
Targets = BTreeMap ℕ Target

abbrev targets_of : EarlierTargets → List ℕ → Option Targets
targets_of earlier name = tree.get (slice_cmp nat_cmp) earlier.by_name name

-- ---- one part more

-- the part's target is put for its name and boot, if none is there
pub record IsPut (old new : EarlierTargets) (name : List ℕ) (boot : ℕ) (target : Target) : Type 0 where
  pub stays : (t : Target) → target_at old name boot ≡ Some t → target_at new name boot ≡ Some t
  pub first : target_at old name boot ≡ None → target_at new name boot ≡ Some target
  pub others : (n : List ℕ) (b : ℕ) → (n ≡ name → b ≡ boot → ⊥) → target_at new n b ≡ target_at old n b

other_name : (a b : List ℕ) → bytes_eq a b ≡ false → b ≡ a → ⊥
other_name a b e same = let f = (bytes_eq-Decides a b).1 (sym same) in absurd (cc)

or_none : (o : Option Target) → option_or o None ≡ o
or_none None = refl
or_none (Some t) = refl

other_boot : (boot b : ℕ) (o : Ordering) (t : Option Target) → nat_cmp boot b ≡ o → (b ≡ boot → ⊥)
    → cond (is_eq o) t None ≡ None
other_boot boot b Less t e differ = refl
other_boot boot b Equal t e differ = absurd (differ (sym (nat_cmp-IsAntisymmetric boot b e)))
other_boot boot b Greater t e differ = refl

module _ (old new : EarlierTargets) (name : List ℕ) (boot : ℕ) (target : Target) (inner : Targets)
    (is : (n : List ℕ) → targets_of new n
    ≡ cond (is_eq (slice_cmp nat_cmp name n)) (Some inner) (targets_of old n))
    (has : (b : ℕ) → tree.get nat_cmp inner b
    ≡ option_or (target_at old name b) (cond (is_eq (nat_cmp boot b)) (Some target) None)) where
  of_name : (n : List ℕ) (same : Bool) → bytes_eq name n ≡ same
      → targets_of new n ≡ cond same (Some inner) (targets_of old n)
  of_name n same e = is n
      ∙ ap (λ (b : Bool). cond b (Some inner) (targets_of old n)) (is_eq-slice_cmp name n ∙ e)

  at_name : (b : ℕ) → target_at new name b
      ≡ option_or (target_at old name b) (cond (is_eq (nat_cmp boot b)) (Some target) None)
  at_name b = ap (option_and_then (λ (ts : Targets). tree.get nat_cmp ts b))
      (of_name name true ((bytes_eq-Decides name name).1 refl)) ∙ has b

  at_boot : target_at new name boot ≡ option_or (target_at old name boot) (Some target)
  at_boot = at_name boot
      ∙ ap (λ (o : Ordering). option_or (target_at old name boot) (cond (is_eq o) (Some target) None))
      (tied_itself nat_cmp_total boot)

  at_other : (n : List ℕ) (b : ℕ) (same : Bool) → bytes_eq name n ≡ same → (n ≡ name → b ≡ boot → ⊥)
      → target_at new n b ≡ target_at old n b
  at_other n b false e differ = ap (option_and_then (λ (ts : Targets). tree.get nat_cmp ts b)) (of_name n false e)
  at_other n b true e differ =
      let here : name ≡ n = (bytes_eq-Decides name n).0 e in
      subst (λ (m : List ℕ). target_at new m b ≡ target_at old m b) here
      (at_name b
      ∙ ap (option_or (target_at old name b))
      (other_boot boot b (nat_cmp boot b) (Some target) refl (differ (sym here)))
      ∙ or_none (target_at old name b))

  pub put_target : IsPut old new name boot target
  put_target = record {
    stays = λ t e. at_boot ∙ ap (λ (o : Option Target). option_or o (Some target)) e;
    first = λ none. at_boot ∙ ap (λ (o : Option Target). option_or o (Some target)) none;
    others = λ n b differ. at_other n b (bytes_eq name n) refl differ;
  }

module _ (old new : EarlierTargets) (boot : ℕ) (p : Part) (put : IsPut old new p.name boot p.target) where
  same_last : (limit : ℕ) (name : List ℕ) (best : Option Best)
      → ((b : ℕ) → b < limit → target_at new name b ≡ target_at old name b)
      → IsLast old limit name best → IsLast new limit name best
  same_last limit name None same last = λ b low. same b low ∙ last b low
  same_last limit name (Some best) same last =
      (last.0, same best.0 last.0 ∙ last.1, λ b above low. same b low ∙ last.2 b above low)

  kept_at : (best : Best) → target_at old p.name best.0 ≡ Some best.1 → target_at new p.name best.0 ≡ Some best.1
  kept_at best there = elim (cases_eq best.0 boot) [
    | inl e ↦ subst (λ (b : ℕ). target_at new p.name b ≡ Some best.1) (sym e)
        (put.stays best.1 (subst (λ (b : ℕ). target_at old p.name b ≡ Some best.1) e there))
    | inr differ ↦ put.others p.name best.0 (λ n e. differ e) ∙ there
  ]

  put_if : (limit : ℕ) (best : Best) (t : Bool) → nat_lt best.0 boot ≡ t → boot < limit
      → IsLast old limit p.name (Some best) → IsLast new limit p.name (cond t (Some (boot, p.target)) (Some best))
  put_if limit best true e low last =
      let less = ltb-true best.0 boot e in (
        low,
        put.first (last.2 boot less low),
        λ b above under. put.others p.name b (λ n f. omega (arith, f, above))
            ∙ last.2 b (omega (arith, less, above)) under,
      )
  put_if limit best false e low last =
      let least = ltb-false best.0 boot e in (
        last.0,
        kept_at best last.1,
        λ b above under. put.others p.name b (λ n f. omega (arith, f, above, least)) ∙ last.2 b above under,
      )

  put_here : (limit : ℕ) (best : Option Best) → boot < limit → IsLast old limit p.name best
      → IsLast new limit p.name (later best (Some (boot, p.target)))
  put_here limit None low last = (
    low,
    put.first (last boot low),
    λ b above under. put.others p.name b (λ n f. omega (arith, f, above)) ∙ last b under,
  )
  put_here limit (Some best) low last = put_if limit best (nat_lt best.0 boot) refl low last

  put_by : (limit : ℕ) (name : List ℕ) (best : Option Best) (low same : Bool) → nat_lt boot limit ≡ low
      → bytes_eq p.name name ≡ same → IsLast old limit name best
      → IsLast new limit name (cond low (cond same (later best (Some (boot, p.target))) best) best)
  put_by limit name best false same e f last =
      let least = ltb-false boot limit e in
      same_last limit name best (λ b low. put.others name b (λ n g. omega (arith, least, low, g))) last
  put_by limit name best true false e f last =
      same_last limit name best (λ b low. put.others name b (λ n g. other_name p.name name f n)) last
  put_by limit name best true true e f last =
      subst (λ (n : List ℕ). IsLast old limit n best → IsLast new limit n (later best (Some (boot, p.target))))
      ((bytes_eq-Decides p.name name).0 f) (put_here limit best (ltb-true boot limit e)) last

  -- what is last is so with the part
  pub put_last : (limit : ℕ) (name : List ℕ) (best : Option Best) → IsLast old limit name best
      → IsLast new limit name (with_earlier boot limit name best p)
  put_last limit name best last = put_by limit name best (nat_lt boot limit) (bytes_eq p.name name) refl refl last

-- ---- all parts of a session

later_none : (best : Option Best) → best ≡ later best None
later_none None = refl
later_none (Some b) = refl

parts_if : (activation : ℕ) (name : List ℕ) (low : Bool) (ps : List Part) (best : Option Best)
    → fold (λ best (p : Part). cond low (with_part activation name best p) best) best ps
    ≡ later best (cond low (option_map (λ (p : Part). (activation, p.target))
    (find (λ (p : Part). bytes_eq p.name name) ps)) None)
parts_if activation name true ps best = with_parts activation name ps best
parts_if activation name false [] best = later_none best
parts_if activation name false (p ∷ ps) best = parts_if activation name false ps best

-- what is found once all parts of a session are seen
pub all_parts : (r : Record) (limit : ℕ) (name : List ℕ) (best : Option Best)
    → fold (with_earlier r.activation limit name) best r.parts
    ≡ later best (candidate (nat_lt r.activation limit) name r)
all_parts r limit name best = parts_if r.activation name (nat_lt r.activation limit) r.parts best

-- ---- the last of the targets before a boot

less_boot : (a b : ℕ) → a < b → nat_cmp a b ≡ Less
less_boot a b low = grind (arith, nat_tests)

boot_less : (a b : ℕ) → nat_cmp a b ≡ Less → a < b
boot_less a b e = grind (arith, nat_tests)

no_later : (a b : ℕ) → is_lt (nat_cmp a b) ≡ false → b ≤ a
no_later a b e = grind (arith, nat_tests)

last_boot : (earlier : EarlierTargets) (limit : ℕ) (name : List ℕ) (b : ℕ) (t : Target) → b < limit
    → target_at earlier name b ≡ Some t
    → ((c : ℕ) → c < limit → is_some (target_at earlier name c) ≡ true → c ≤ b)
    → (best : Option Best) → IsLast earlier limit name best → t ≡ target_of best
last_boot earlier limit name b t low there most None last = let none = last b low in absurd (cc)
last_boot earlier limit name b t low there most (Some best) last = elim (cases_lt best.0 b) [
  | inl less ↦ let none = last.2 b less low in absurd (cc)
  | inr up ↦
      let least = most best.0 last.0 (ap (λ (o : Option Target). is_some o) last.1) in
      let same : best.0 ≡ b = omega (arith, up, least) in
      let found : Some t ≡ Some best.1 = sym there ∙ ap (target_at earlier name) (sym same) ∙ last.1 in
      cc (found)
]

-- there are no targets of the name
pub no_targets : (earlier : EarlierTargets) (limit : ℕ) (name : List ℕ) → targets_of earlier name ≡ None
    → (best : Option Best) → IsLast earlier limit name best → Preinstalled ≡ target_of best
no_targets earlier limit name none None last = refl
no_targets earlier limit name none (Some best) last =
    let nothing = ap (option_and_then (λ (ts : Targets). tree.get nat_cmp ts best.0)) none in
    let some = last.1 in absurd (cc)

module _ (earlier : EarlierTargets) (limit : ℕ) (name : List ℕ) (targets : Targets)
    (are : targets_of earlier name ≡ Some targets) (es : List (ℕ × Target))
    (range : IsRangeOf nat_cmp Unbounded (Excluded limit) targets es) where
  at : (b : ℕ) → target_at earlier name b ≡ tree.get nat_cmp targets b
  at b = ap (option_and_then (λ (ts : Targets). tree.get nat_cmp ts b)) are

  -- none of them is before the limit
  pub last_none : es ≡ [] → (best : Option Best) → IsLast earlier limit name best → Preinstalled ≡ target_of best
  last_none none None last = refl
  last_none none (Some best) last =
      let nothing = range.5 none best.0 (tt, less_boot best.0 limit last.0) in
      let some = sym (at best.0) ∙ last.1 in absurd (cc)

  -- the last of the range is of the last boot
  pub last_some : (e : ℕ × Target) (front : List (ℕ × Target)) → es ≡ front ++ e ∷ []
      → (best : Option Best) → IsLast earlier limit name best → e.1 ≡ target_of best
  last_some e front is best last =
      let entry = range.3 e front is in
      last_boot earlier limit name e.0 e.1 (boot_less e.0 limit entry.0.1) (at e.0 ∙ entry.1)
      (λ c low some.
      no_later e.0 c (range.4 e front is c (tt, less_boot c limit low) (ap (λ (o : Option Target). is_some o)
      (sym (at c)) ∙ some))) best last
