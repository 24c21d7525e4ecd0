-- The watches that a boot leaves are watches that there were, of its observers and of names of its image. Callers want
-- `watch_left`, `watches_table` and `watches_few`.
use Rattle.std.proofs.Common.{◌≡◌, ◌≢◌, ◌⊎◌, ℕ, ◌≤◌, ◌*◌, ◌&&◌, true, cond, List, [], ◌∷◌, length, map, fold, Option}
use Rattle.std.proofs.Common.{Some, None}
use Rattle.std.proofs.Common.{sym, ap, subst, ◌∙◌, refl, inl, inr, is_some, arith}
use Rattle.std.specs.Prelude.{IfSome}
use Rattle.std.specs.List.{sum_by}
use Rattle.std.specs.Ordering.{nat_cmp}
use Rattle.std.specs.Cmp.Lexicographic.{slice_cmp}
use Rattle.std.specs.FinMap as fin
use Rattle.std.specs.FinMap.{slice_cmp-IsAntisymmetric, nat_cmp-IsAntisymmetric, get-retain_keys, get-empty}
use Rattle.std.specs.FinMap.{len-entries}
use Rattle.std.proofs.Math.Nat.{mul-le-mul_right}
use Rattle.std.proofs.lemmas.Bool.{and_parts}
use Rattle.std.proofs.lemmas.List.{length-map}
use Rattle.std.proofs.lemmas.List.Sums.{sum_by-cons, sum-map}
use Rattle.apex_base.specs.Members.{In}
use Rattle.apex_base.specs.Numbers.{scale_modules}
use Rattle.apex_base.specs.Tables.{NameMap, Table, or_empty, part_of, with_part, value_of}
use Rattle.apex_base.proofs.Finding.{some_if}
use Rattle.apex_base.proofs.MemberLemmas.{in_map}
use Rattle.apex_base.proofs.RowMaps.{entry_get}
use Rattle.apex_base.proofs.TableLemmas.{some_value}
use Rattle.apex_world.specs.declared.calls.BootOrder.{BootOrder}
use Rattle.apex_world.specs.declared.calls.Image.{Image}
use Rattle.apex_world.specs.declared.calls.Observer.{Observer}
use Rattle.apex_world.specs.Bounds.{table_len}
use Rattle.apex_world.specs.Lawful.{IsTable}
use Rattle.apex_world.specs.Orders.{IsOrder}
use Rattle.apex_world.specs.Selection.{preinstalled}
use Rattle.apex_world.specs.Watching.{is_before, lasting, watches_after}
use Rattle.apex_world.specs.World.{Watches}
use Rattle.world_laws.proofs.runs.NameCounts.{image_names, in_image_names, few_names}
use Rattle.world_laws.proofs.runs.NamedMaps.{named_len, part_with, some_with}

-- How many values stand in a table

product_most : (n m k : ℕ) → n ≤ m → n * k ≤ m * k
product_most n m k l = mul-le-mul_right k l

sum_most_by : {X : Type 0} (f : X → ℕ) (k : ℕ) (xs : List X) → ((x : X) → In x xs → f x ≤ k)
    → sum_by f xs ≤ length xs * k
sum_most_by f k [] all = omega arith
sum_most_by f k (x ∷ xs) all =
    let rest = sum_most_by f k xs (λ y h. all y (inr h)) in
    let here = all x (inl refl) in
    omega (arith, rest, here, sum_by-cons f x xs)

-- a table of few first names, each of which has few, has few values
pub table_few : {X : Type 0} (t : Table X) (n k : ℕ) → fin.len t ≤ n
    → ((a : List ℕ) (m : NameMap X) → fin.get t a ≡ Some m → fin.len m ≤ k) → table_len t ≤ n * k
table_few {X} t n k few each =
    let f : List ℕ × NameMap X → ℕ = λ e. fin.len e.1 in
    let all = sum_most_by f k (fin.entries t) (λ e h. each e.0 e.1 (entry_get t e h)) in
    let more = product_most (length (fin.entries t)) n k (let l = len-entries t in omega (arith, few, l)) in
    omega (arith, all, more, sum-map f (fin.entries t))

-- Watches

module _ (order : BootOrder) (watches : Watches) where
  abbrev image : Image
  image = order.image

  -- what is left of the watches of an observer
  abbrev part : List ℕ → NameMap ℕ
  part a = lasting image order.time (part_of watches a)

  abbrev put : Watches → Observer → Watches
  put t o = with_part t o.name (part o.name)

  abbrev pub left : Watches
  left = watches_after order watches

  -- a watch by an observer that the boot registers, of a name of the image, which there was
  pub record IsLeft (os : List Observer) (a b : List ℕ) (end : ℕ) : Type 0 where
    pub by : Observer
    pub among : In by os
    pub called : by.name ≡ a
    pub known : is_some (preinstalled image.modules b) ≡ true
    pub was : value_of watches a b ≡ Some end

  pub lasting_get : (a b : List ℕ) → fin.get (part a) b
      ≡ cond (is_some (preinstalled image.modules b) && is_before order.time (value_of watches a b))
      (value_of watches a b) None
  lasting_get a b = get-retain_keys (part_of watches a) (λ name. is_some (preinstalled image.modules name)
      && is_before order.time (value_of watches a name)) b
      (λ x t. ap (λ (name : List ℕ). is_some (preinstalled image.modules name)
      && is_before order.time (value_of watches a name))
      (sym (slice_cmp-IsAntisymmetric nat_cmp-IsAntisymmetric b x t)))

  lasts : (a b : List ℕ) (end : ℕ) → fin.get (part a) b ≡ Some end
      → (is_some (preinstalled image.modules b) ≡ true) × (value_of watches a b ≡ Some end)
  lasts a b end e =
      let (test, was) = some_if (is_some (preinstalled image.modules b)
      && is_before order.time (value_of watches a b)) (value_of watches a b) end (sym (lasting_get a b) ∙ e) in
      ((and_parts (is_some (preinstalled image.modules b)) (is_before order.time (value_of watches a b)) test).0, was)

  more_left : (o : Observer) (os : List Observer) (a b : List ℕ) (end : ℕ) → IsLeft os a b end
      → IsLeft (o ∷ os) a b end
  more_left o os a b end l =
      record { by = l.by; among = inr l.among; called = l.called; known = l.known; was = l.was }

  fold_left : (os : List Observer) (t : Watches) (a b : List ℕ) (end : ℕ) → value_of (fold put t os) a b ≡ Some end
      → (value_of t a b ≡ Some end) ⊎ IsLeft os a b end
  fold_left [] t a b end e = inl e
  fold_left (o ∷ os) t a b end e =
      elim (fold_left os (put t o) a b end e) [
        | inr l ↦ inr (more_left o os a b end l)
        | inl v ↦ elim (part_with t o.name a (part o.name)) [
          | inr f ↦ inl (ap (λ (m : NameMap ℕ). fin.get m b) (sym f) ∙ v)
          | inl (same, f) ↦
              let (known, was) = lasts o.name b end (ap (λ (m : NameMap ℕ). fin.get m b) (sym f) ∙ v) in
              inr (record {
                by = o;
                among = inl refl;
                called = sym same;
                known = known;
                was = ap (λ (n : List ℕ). value_of watches n b) same ∙ was;
              })
        ]
      ]

  no_watch : (a b : List ℕ) (end : ℕ) → value_of {X = ℕ} fin.empty a b ≡ Some end → ⊥
  no_watch a b end e = absurd (cc (
    e,
    ap (λ (o : Option (NameMap ℕ)). fin.get (or_empty o) b) (get-empty {X = NameMap ℕ} (slice_cmp nat_cmp) a),
    get-empty {X = ℕ} (slice_cmp nat_cmp) b,
  ))

  -- each watch that is left is such a one
  pub watch_left : (a b : List ℕ) (end : ℕ) → value_of left a b ≡ Some end → IsLeft order.observers a b end
  watch_left a b end e =
      elim (fold_left order.observers fin.empty a b end e) [
        | inl none ↦ absurd (no_watch a b end none)
        | inr l ↦ l
      ]

  fold_some : (os : List Observer) (t : Watches) (a : List ℕ) → IfSome (fin.get t a) (λ m. fin.len m ≢ 0)
      → IfSome (fin.get (fold put t os) a) (λ m. fin.len m ≢ 0)
  fold_some [] t a h = h
  fold_some (o ∷ os) t a h = fold_some os (put t o) a (some_with t o.name a (part o.name) h)

  left_some : (a : List ℕ) → IfSome (fin.get left a) (λ m. fin.len m ≢ 0)
  left_some a = fold_some order.observers fin.empty a
      (subst (λ (o : Option (NameMap ℕ)). IfSome o (λ m. fin.len m ≢ 0))
      (sym (get-empty {X = NameMap ℕ} (slice_cmp nat_cmp) a)) tt)

  pub watches_table : IsTable watches → IsTable left
  watches_table law = record {
    first = λ a b x e. law.first a b x (watch_left a b x e).was;
    second = λ a b x e. law.second a b x (watch_left a b x e).was;
    some = left_some;
  }

  -- an observer that watches something is one of the boot's
  left_by : (a : List ℕ) (m : NameMap ℕ) → fin.get left a ≡ Some m
      → In a (map (λ (o : Observer). o.name) order.observers)
  left_by a m e =
      let some : fin.len m ≢ 0 = subst (λ (o : Option (NameMap ℕ)). IfSome o (λ m. fin.len m ≢ 0)) e (left_some a) in
      let (b, x, f) = some_value m some in
      let l = watch_left a b x (ap (λ (o : Option (NameMap ℕ)). fin.get (or_empty o) b) e ∙ f) in
      subst (λ (n : List ℕ). In n (map (λ (o : Observer). o.name) order.observers)) l.called
      (in_map (λ (o : Observer). o.name) l.by order.observers l.among)

  -- at most eight observers watch at most as many names as the scale has modules
  pub watches_few : IsOrder order → table_len left ≤ 8 * scale_modules order.scale
  watches_few law =
      table_few left 8 (scale_modules order.scale)
      (let l = named_len left (map (λ (o : Observer). o.name) order.observers) left_by in
      let few = law.few in
      omega (arith, l, few, length-map order.observers (λ (o : Observer). o.name)))
      (λ a m e.
      let l = named_len m (image_names image) (λ b x f. in_image_names image b
      (watch_left a b x (ap (λ (o : Option (NameMap ℕ)). fin.get (or_empty o) b) e ∙ f)).known) in
      let few = few_names order.scale image law.image in
      omega (arith, l, few))
