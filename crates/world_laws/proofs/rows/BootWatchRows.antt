-- Which watches a boot leaves, exactly. Callers want `watch_after`.
use Rattle.std.proofs.Common.{◌≡◌, ℕ, Bool, true, false, cond, ◌&&◌, ◌||◌, List, [], ◌∷◌, fold, Option, None}
use Rattle.std.proofs.Common.{sym, ap, ◌∙◌, refl}
use Rattle.std.specs.Ordering.{nat_cmp, eq_by_cmp}
use Rattle.std.specs.Cmp.Lexicographic.{slice_cmp}
use Rattle.std.specs.Str.{bytes_eq}
use Rattle.std.specs.FinMap as fin
use Rattle.std.specs.FinMap.{get-empty}
use Rattle.std.proofs.lemmas.Map.Text.{is_eq-slice_cmp}
use Rattle.std.proofs.lemmas.Slice.Eq.{bytes_eq-Decides}
use Rattle.apex_base.specs.Tables.{NameMap, or_empty, part_of, with_part, value_of}
use Rattle.apex_base.proofs.TableLemmas.{whole, part_whole}
use Rattle.apex_world.specs.declared.calls.BootOrder.{BootOrder}
use Rattle.apex_world.specs.declared.calls.Observer.{Observer}
use Rattle.world_laws.specs.RowsBooted.{has_name, is_registered_by}
use Rattle.apex_world.specs.Watching.{is_before, lasting, watches_after}
use Rattle.apex_world.specs.World.{Watches}
use Rattle.world_laws.proofs.runs.BootWatches.{lasting_get}
use Rattle.world_laws.proofs.runs.NamedMaps.{get_with}

same_either : (a b : List ℕ) (c : Bool) → bytes_eq b a ≡ c → bytes_eq a b ≡ c
same_either a b true e = (bytes_eq-Decides a b).1 (sym ((bytes_eq-Decides b a).0 e))
same_either a b false e = either (bytes_eq a b) refl
  where
    either : (c : Bool) → bytes_eq a b ≡ c → c ≡ false
    either true f = absurd (cc (e, (bytes_eq-Decides b a).1 (sym ((bytes_eq-Decides a b).0 f))))
    either false f = refl

whole_if : (b : Bool) (m : NameMap ℕ) (o : Option (NameMap ℕ)) → or_empty (cond b (whole m) o) ≡ cond b m (or_empty o)
whole_if true m o = part_whole m
whole_if false m o = refl

-- a first name has the part that was put, if it is that name, and else its own
part_is : (t : Watches) (a q : List ℕ) (m : NameMap ℕ)
    → part_of (with_part t a m) q ≡ cond (bytes_eq a q) m (part_of t q)
part_is t a q m =
    ap or_empty (get_with t a q m) ∙ whole_if (eq_by_cmp (slice_cmp nat_cmp) q a) m (fin.get t q)
    ∙ ap (λ (b : Bool). cond b m (part_of t q))
    (is_eq-slice_cmp q a ∙ same_either q a (bytes_eq a q) refl)

either : (a b : Bool) (x y : Option ℕ) → cond b x (cond a x y) ≡ cond (a || b) x y
either true true x y = refl
either true false x y = refl
either false b x y = refl

three : (a b : Bool) (o : Option ℕ) → cond a (cond b o None) None ≡ cond (a && b) o None
three true b o = refl
three false b o = refl

module _ (order : BootOrder) (watches : Watches) where
  abbrev part : List ℕ → NameMap ℕ
  part a = lasting order.image order.time (part_of watches a)

  abbrev put : Watches → Observer → Watches
  put t o = with_part t o.name (part o.name)

  own_if : (c : Bool) (o : Observer) (a b : List ℕ) (y : Option ℕ) → bytes_eq o.name a ≡ c
      → cond c (fin.get (part o.name) b) y ≡ cond c (fin.get (part a) b) y
  own_if true o a b y e = ap (λ (n : List ℕ). fin.get (part n) b) ((bytes_eq-Decides o.name a).0 e)
  own_if false o a b y e = refl

  get_if : (c : Bool) (m : NameMap ℕ) (n : NameMap ℕ) (b : List ℕ)
      → fin.get (cond c m n) b ≡ cond c (fin.get m b) (fin.get n b)
  get_if true m n b = refl
  get_if false m n b = refl

  put_value : (t : Watches) (o : Observer) (a b : List ℕ)
      → value_of (put t o) a b ≡ cond (bytes_eq o.name a) (fin.get (part a) b) (value_of t a b)
  put_value t o a b =
      ap (λ (m : NameMap ℕ). fin.get m b) (part_is t o.name a (part o.name))
      ∙ get_if (bytes_eq o.name a) (part o.name) (part_of t a) b
      ∙ own_if (bytes_eq o.name a) o a b (value_of t a b) refl

  fold_value : (os : List Observer) (t : Watches) (a b : List ℕ)
      → value_of (fold put t os) a b ≡ cond (is_registered_by os a) (fin.get (part a) b) (value_of t a b)
  fold_value [] t a b = refl
  fold_value (o ∷ os) t a b =
      fold_value os (put t o) a b
      ∙ ap (λ (y : Option ℕ). cond (is_registered_by os a) (fin.get (part a) b) y) (put_value t o a b)
      ∙ either (bytes_eq o.name a) (is_registered_by os a) (fin.get (part a) b) (value_of t a b)

  no_watch : (a b : List ℕ) → value_of {X = ℕ} fin.empty a b ≡ None
  no_watch a b = ap (λ (o : Option (NameMap ℕ)). fin.get (or_empty o) b)
      (get-empty {X = NameMap ℕ} (slice_cmp nat_cmp) a) ∙ get-empty {X = ℕ} (slice_cmp nat_cmp) b

  -- a watch is there after a boot if it was there, its observer is registered, its name is one of the image, and its
  -- end isn't reached
  pub watch_after : (a b : List ℕ) → value_of (watches_after order watches) a b
      ≡ cond (is_registered_by order.observers a
      && (has_name order.image b && is_before order.time (value_of watches a b)))
      (value_of watches a b) None
  watch_after a b =
      fold_value order.observers fin.empty a b
      ∙ ap (λ (y : Option ℕ). cond (is_registered_by order.observers a) (fin.get (part a) b) y) (no_watch a b)
      ∙ ap (λ (x : Option ℕ). cond (is_registered_by order.observers a) x None) (lasting_get order watches a b)
      ∙ three (is_registered_by order.observers a)
      (has_name order.image b && is_before order.time (value_of watches a b)) (value_of watches a b)
