-- What stands under a name after a boot has restored data. Callers want `image_part`, `restored_all`, `restored_none`.
use Rattle.std.proofs.Common.{◌≡◌, ℕ, Bool, true, false, cond, ◌||◌, List, [], ◌∷◌, fold, Option, Some, None, sym}
use Rattle.std.proofs.Common.{ap, ◌∙◌, refl, inl, inr, is_some, eqb}
use Rattle.std.specs.List.{list_any}
use Rattle.std.specs.Str.{bytes_eq}
use Rattle.std.specs.Ordering.{nat_cmp, eq_by_cmp}
use Rattle.std.specs.Cmp.Lexicographic.{slice_cmp, nat_list_cmp_total}
use Rattle.std.specs.FinMap as fin
use Rattle.std.specs.FinMap.{slice_cmp-IsAntisymmetric, nat_cmp-IsAntisymmetric, get-insert, get-remove}
use Rattle.std.specs.FinMap.{get-retain_keys, empty_of_len}
use Rattle.std.proofs.lemmas.Bool.{eqb-true, false_from_ne_true}
use Rattle.std.proofs.lemmas.Map.Text.{is_eq-slice_cmp}
use Rattle.std.proofs.lemmas.Slice.Eq.{bytes_eq-Decides}
use Rattle.apex_base.specs.declared.records.Part.{Part}
use Rattle.apex_base.specs.declared.records.Record.{Record}
use Rattle.apex_base.specs.Members.{In}
use Rattle.apex_base.specs.Sessions.{names}
use Rattle.apex_base.specs.Tables.{NameMap, or_empty, part_of, with_part}
use Rattle.apex_world.specs.declared.calls.Image.{Image}
use Rattle.apex_world.specs.Restore.{era_for, with_names, restored_to, restored_by, restored, of_image}
use Rattle.apex_world.specs.Selection.{preinstalled}
use Rattle.apex_world.specs.World.{Contents, era}

abbrev Values : Type 0
Values = NameMap (List ℕ)

-- One name of a table

is_self : (a : List ℕ) → eq_by_cmp (slice_cmp nat_cmp) a a ≡ true
is_self a = is_eq-slice_cmp a a ∙ (bytes_eq-Decides a a).1 refl

is_other : (a b : List ℕ) → bytes_eq a b ≡ false → eq_by_cmp (slice_cmp nat_cmp) b a ≡ false
is_other a b e = is_eq-slice_cmp b a ∙ false_from_ne_true (bytes_eq b a)
    (λ t. absurd (cc ((bytes_eq-Decides a b).1 (sym ((bytes_eq-Decides b a).0 t)), e)))

part_if : (t : Contents) (a : List ℕ) (m : Values) (b : Bool) → eqb (fin.len m) 0 ≡ b
    → part_of (cond b (fin.remove t a) (fin.insert t a m)) a ≡ m
part_if t a m true e =
    ap or_empty (get-remove nat_list_cmp_total t a a ∙ ap (λ (b : Bool). cond b None (fin.get t a)) (is_self a))
    ∙ sym (empty_of_len m (eqb-true (fin.len m) 0 e))
part_if t a m false e = ap or_empty (get-insert nat_list_cmp_total t a m a
    ∙ ap (λ (b : Bool). cond b (Some m) (fin.get t a)) (is_self a))

-- what was put under a name stands there
pub part_at : (t : Contents) (a : List ℕ) (m : Values) → part_of (with_part t a m) a ≡ m
part_at t a m = part_if t a m (eqb (fin.len m) 0) refl

other_if : (t : Contents) (a : List ℕ) (m : Values) (q : List ℕ) (b : Bool) → bytes_eq a q ≡ false
    → part_of (cond b (fin.remove t a) (fin.insert t a m)) q ≡ part_of t q
other_if t a m q true e = ap or_empty (get-remove nat_list_cmp_total t a q
    ∙ ap (λ (b : Bool). cond b None (fin.get t q)) (is_other a q e))
other_if t a m q false e = ap or_empty (get-insert nat_list_cmp_total t a m q
    ∙ ap (λ (b : Bool). cond b (Some m) (fin.get t q)) (is_other a q e))

-- and nothing else changes
pub part_other : (t : Contents) (a : List ℕ) (m : Values) (q : List ℕ) → bytes_eq a q ≡ false
    → part_of (with_part t a m) q ≡ part_of t q
part_other t a m q e = other_if t a m q (eqb (fin.len m) 0) e

-- Names of one session

named : (earlier c : Contents) (p : Part) (name : List ℕ) (b : Bool) → bytes_eq p.name name ≡ b
    → part_of (with_part c p.name (part_of earlier p.name)) name ≡ cond b (part_of earlier name) (part_of c name)
named earlier c p name true e = let same = (bytes_eq-Decides p.name name).0 e in ap
    (λ (a : List ℕ). part_of (with_part c a (part_of earlier a)) name) same ∙ part_at c name (part_of earlier name)
named earlier c p name false e = part_other c p.name (part_of earlier p.name) name e

either : (a b : Bool) (x y : Values) → cond b x (cond a x y) ≡ cond (a || b) x y
either true true x y = refl
either true false x y = refl
either false b x y = refl

-- the names of a session have the earlier data, and no other name
names_have : (earlier : Contents) (ps : List Part) (c : Contents) (name : List ℕ)
    → part_of (with_names earlier ps c) name ≡ cond (list_any (λ p. bytes_eq p.name name) ps) (part_of earlier name)
    (part_of c name)
names_have earlier [] c name = refl
names_have earlier (p ∷ ps) c name =
    names_have earlier ps (with_part c p.name (part_of earlier p.name)) name
    ∙ ap (λ (m : Values). cond (list_any (λ p. bytes_eq p.name name) ps) (part_of earlier name) m)
    (named earlier c p name (bytes_eq p.name name) refl)
    ∙ either (bytes_eq p.name name) (list_any (λ p. bytes_eq p.name name) ps) (part_of earlier name) (part_of c name)

-- All sessions

module _ (eras : List Contents) (ss : List Record) (f : Record → Record) (name : List ℕ) where
  -- a session restores the name, to what it had before boot b
  abbrev pub Restores : Record → ℕ → Type 0
  Restores r b = (era_for ss r (f r) (f r).kind ≡ Some b) × (names name (f r) ≡ true)

  one_hit : (r : Record) (b : ℕ) (c : Contents) → Restores r b
      → part_of (restored_by eras ss r (f r) c) name ≡ part_of (era eras b) name
  one_hit r b c h =
      ap (λ (o : Option ℕ). part_of (restored_to eras (f r).parts o c) name) h.0
      ∙ names_have (era eras b) (f r).parts c name
      ∙ ap (λ (t : Bool). cond t (part_of (era eras b) name) (part_of c name)) h.1

  one_if : (r : Record) (c : Contents) (v : Values) (o : Option ℕ) (t : Bool) → names name (f r) ≡ t
      → part_of c name ≡ v → ((b : ℕ) → o ≡ Some b → t ≡ true → part_of (era eras b) name ≡ v)
      → part_of (restored_to eras (f r).parts o c) name ≡ v
  one_if r c v None t e was all = was
  one_if r c v (Some b) true e was all = names_have (era eras b) (f r).parts c name
      ∙ ap (λ (t : Bool). cond t (part_of (era eras b) name) (part_of c name)) e ∙ all b refl refl
  one_if r c v (Some b) false e was all = names_have (era eras b) (f r).parts c name
      ∙ ap (λ (t : Bool). cond t (part_of (era eras b) name) (part_of c name)) e ∙ was

  -- where each session that restores the name restores these values, they stay once they are there
  fold_stays : (xs : List Record) (c : Contents) (v : Values)
      → ((r : Record) (b : ℕ) → In r xs → Restores r b → part_of (era eras b) name ≡ v) → part_of c name ≡ v
      → part_of (fold (λ c r. restored_by eras ss r (f r) c) c xs) name ≡ v
  fold_stays [] c v all was = was
  fold_stays (r ∷ xs) c v all was =
      fold_stays xs (restored_by eras ss r (f r) c) v (λ s b h k. all s b (inr h) k)
      (one_if r c v (era_for ss r (f r) (f r).kind) (names name (f r)) refl was (λ b e n. all r b (inl refl) (e, n)))

  fold_comes : (xs : List Record) (c : Contents) (v : Values) (r : Record) (b : ℕ)
      → ((r : Record) (b : ℕ) → In r xs → Restores r b → part_of (era eras b) name ≡ v) → In r xs → Restores r b
      → part_of (fold (λ c r. restored_by eras ss r (f r) c) c xs) name ≡ v
  fold_comes [] c v r b all h k = absurd h
  fold_comes (x ∷ xs) c v r b all (inl e) k =
      fold_stays xs (restored_by eras ss x (f x) c) v (λ s b h k. all s b (inr h) k)
      (ap (λ (s : Record). part_of (restored_by eras ss s (f s) c) name) e ∙ one_hit r b c k ∙ all r b (inl e) k)
  fold_comes (x ∷ xs) c v r b all (inr h) k = fold_comes xs (restored_by eras ss x (f x) c) v r b
      (λ s b h k. all s b (inr h) k) h k

  -- a name that a session restores, and others to the same boot alone, has the data of before that boot
  pub restored_all : (c : Contents) (r : Record) (b : ℕ) → In r ss → Restores r b
      → ((s : Record) (d : ℕ) → In s ss → Restores s d → d ≡ b)
      → part_of (restored f eras ss c) name ≡ part_of (era eras b) name
  restored_all c r b h k all = fold_comes ss c (part_of (era eras b) name) r b
      (λ s d i l. ap (λ (d : ℕ). part_of (era eras d) name) (all s d i l)) h k

  -- a name that no session restores keeps its data
  pub restored_none : (c : Contents) → ((s : Record) (d : ℕ) → In s ss → Restores s d → ⊥)
      → part_of (restored f eras ss c) name ≡ part_of c name
  restored_none c none = fold_stays ss c (part_of c name) (λ s d i l. absurd (none s d i l)) refl

-- Names of the image

kept_if : (b : Bool) (o : Option Values) → or_empty (cond b o None) ≡ cond b (or_empty o) fin.empty
kept_if true o = refl
kept_if false o = refl

-- a name of the image keeps its data, and another one has none
pub image_part : (image : Image) (c : Contents) (name : List ℕ)
    → part_of (of_image image c) name ≡ cond (is_some (preinstalled image.modules name)) (part_of c name) fin.empty
image_part image c name =
    ap or_empty (get-retain_keys c (λ name. is_some (preinstalled image.modules name)) name
    (λ x t. ap (λ (name : List ℕ). is_some (preinstalled image.modules name))
    (sym (slice_cmp-IsAntisymmetric nat_cmp-IsAntisymmetric name x t))))
    ∙ kept_if (is_some (preinstalled image.modules name)) (fin.get c name)
