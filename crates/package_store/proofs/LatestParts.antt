-- The latest that sessions have for a name, found part after part. Callers want `put_later`, `put_same`,
-- `put_first` and `with_parts`.
use Rattle.std.proofs.Common.{◌≡◌, ◌<◌, ◌≤◌, ℕ, Bool, true, false, cond, List, [], ◌∷◌, fold, Option, Some, None, ap, sym, ◌∙◌}
use Rattle.std.proofs.Common.{refl, arith}
use Rattle.std.specs.Prelude.{find, nat_lt}
use Rattle.std.specs.Cmp.Lexicographic.{slice_cmp}
use Rattle.std.specs.Option.{option_map}
use Rattle.std.specs.Ordering.{nat_cmp, is_eq}
use Rattle.std.specs.Str.{bytes_eq}
use Rattle.std.proofs.lemmas.Bool.{le-ltb, lt-ltb}
use Rattle.std.proofs.lemmas.Map.Text.{is_eq-slice_cmp}
use Rattle.std.proofs.lemmas.Slice.Eq.{bytes_eq-Decides}
use Rattle.apex_base.specs.declared.records.Part.{Part}
use Rattle.apex_base.specs.Held.{later}
use Rattle.package_store.specs.Latest.{Best, with_part}

-- ---- one part more

later_put : (best c : Best) → best.0 < c.0 → Some c ≡ later (Some best) (Some c)
later_put best c low = ap (λ (t : Bool). cond t (Some c) (Some best)) (sym (lt-ltb best.0 c.0 low))

earlier_stays : (best c : Best) → c.0 ≤ best.0 → Some best ≡ later (Some best) (Some c)
earlier_stays best c high = ap (λ (t : Bool). cond t (Some c) (Some best)) (sym (le-ltb best.0 c.0 high))

module _ (get : List ℕ → Option Best) (activation : ℕ) (p : Part) where
  part_if : (b : Bool) (value : Option Best) (name : List ℕ) → bytes_eq p.name name ≡ b
      → value ≡ later (get p.name) (Some (activation, p.target))
      → cond b value (get name) ≡ cond b (later (get name) (Some (activation, p.target))) (get name)
  part_if true value name e is =
      is ∙ ap (λ (n : List ℕ). later (get n) (Some (activation, p.target))) ((bytes_eq-Decides p.name name).0 e)
  part_if false value name e is = refl

  -- what is put for the part's name is the later one
  put_part : (value : Option Best) (name : List ℕ) → value ≡ later (get p.name) (Some (activation, p.target))
      → cond (is_eq (slice_cmp nat_cmp p.name name)) value (get name) ≡ with_part activation name (get name) p
  put_part value name is =
      ap (λ (b : Bool). cond b value (get name)) (is_eq-slice_cmp p.name name)
      ∙ part_if (bytes_eq p.name name) value name refl is

  -- the part is put where its boot is later
  pub put_later : (best : Best) (name : List ℕ) → Some best ≡ get p.name → best.0 < activation
      → cond (is_eq (slice_cmp nat_cmp p.name name)) (Some (activation, p.target)) (get name)
      ≡ with_part activation name (get name) p
  put_later best name there low = put_part (Some (activation, p.target)) name
      (later_put best (activation, p.target) low
      ∙ ap (λ (o : Option Best). later o (Some (activation, p.target))) there)

  -- and else what is there stays
  pub put_same : (best : Best) (name : List ℕ) → Some best ≡ get p.name → activation ≤ best.0
      → cond (is_eq (slice_cmp nat_cmp p.name name)) (Some best) (get name) ≡ with_part activation name (get name) p
  put_same best name there high = put_part (Some best) name
      (earlier_stays best (activation, p.target) high
      ∙ ap (λ (o : Option Best). later o (Some (activation, p.target))) there)

  -- or it is put where nothing is there
  pub put_first : (name : List ℕ) → None ≡ get p.name
      → cond (is_eq (slice_cmp nat_cmp p.name name)) (Some (activation, p.target)) (get name)
      ≡ with_part activation name (get name) p
  put_first name none = put_part (Some (activation, p.target)) name
      (ap (λ (o : Option Best). later o (Some (activation, p.target))) none)

-- ---- all parts of a session

module _ (activation : ℕ) (name : List ℕ) where
  abbrev best_in : List Part → Option Best
  best_in ps = option_map (λ (p : Part). (activation, p.target)) (find (λ (p : Part). bytes_eq p.name name) ps)

  later_none : (best : Option Best) → best ≡ later best None
  later_none None = refl
  later_none (Some b) = refl

  same_boot : (c : Best) → c.0 ≡ activation → (o : Option Part)
      → later (Some c) (option_map (λ (p : Part). (activation, p.target)) o) ≡ Some c
  same_boot c e None = refl
  same_boot c e (Some p) = ap (λ (t : Bool). cond t (Some (activation, p.target)) (Some c))
      (le-ltb c.0 activation (omega (arith, e)))

  later_if : (t : Bool) (b c : Best) → nat_lt b.0 c.0 ≡ t → c.0 ≡ activation → (o : Option Part)
      → later (cond t (Some c) (Some b)) (option_map (λ (p : Part). (activation, p.target)) o)
      ≡ cond t (Some c) (Some b)
  later_if true b c e is o = same_boot c is o
  later_if false b c e is None = refl
  later_if false b c e is (Some p) =
      ap (λ (t : Bool). cond t (Some (activation, p.target)) (Some b)) (ap (nat_lt b.0) (sym is) ∙ e)

  -- of two parts of one session the first counts
  again : (best : Option Best) (c : Best) → c.0 ≡ activation → (o : Option Part)
      → later (later best (Some c)) (option_map (λ (p : Part). (activation, p.target)) o) ≡ later best (Some c)
  again None c is o = same_boot c is o
  again (Some b) c is o = later_if (nat_lt b.0 c.0) b c refl is o

  parts_if : (b : Bool) (p : Part) (ps : List Part) (best : Option Best)
      → later (cond b (later best (Some (activation, p.target))) best) (best_in ps)
      ≡ later best (option_map (λ (p : Part). (activation, p.target))
      (cond b (Some p) (find (λ (p : Part). bytes_eq p.name name) ps)))
  parts_if true p ps best = again best (activation, p.target) refl (find (λ (p : Part). bytes_eq p.name name) ps)
  parts_if false p ps best = refl

  -- what is found once all parts of a session are seen
  pub with_parts : (ps : List Part) (best : Option Best)
      → fold (with_part activation name) best ps ≡ later best (best_in ps)
  with_parts [] best = later_none best
  with_parts (p ∷ ps) best =
      with_parts ps (with_part activation name best p) ∙ parts_if (bytes_eq p.name name) p ps best
