-- The data that a boot leaves is within its bounds: what a name has is what it had, or had before some boot, or
-- nothing. Callers want `contents_table`, `contents_little`, `contents_in_image`, `eras_each`.
use Rattle.std.proofs.Common.{◌≡◌, ◌≢◌, ℕ, ◌≤◌, Bool, true, false, cond, IsTrue, List, [], ◌∷◌, ◌++◌, fold, Option}
use Rattle.std.proofs.Common.{Some, None}
use Rattle.std.proofs.Common.{sym, ap, subst, ◌∙◌, refl, inl, inr, is_some, arith}
use Rattle.std.specs.Prelude.{IfSome}
use Rattle.std.specs.Ordering.{nat_cmp}
use Rattle.std.specs.Cmp.Lexicographic.{slice_cmp}
use Rattle.std.specs.FinMap as fin
use Rattle.std.specs.FinMap.{slice_cmp-IsAntisymmetric, nat_cmp-IsAntisymmetric, get-retain_keys, get-empty}
use Rattle.apex_base.specs.declared.records.Part.{Part}
use Rattle.apex_base.specs.declared.records.Record.{Record}
use Rattle.apex_base.specs.Members.{In}
use Rattle.apex_base.specs.Numbers.{scale_data_weight}
use Rattle.apex_base.specs.Tables.{NameMap, or_empty, part_of, with_part}
use Rattle.apex_base.specs.Text.{is_name}
use Rattle.apex_base.proofs.MemberLemmas.{in_append}
use Rattle.apex_world.specs.declared.calls.Image.{Image}
use Rattle.apex_world.specs.Bounds.{HasLittleData}
use Rattle.apex_world.specs.Data.{part_weight}
use Rattle.apex_world.specs.Lawful.{IsTable, Lawful}
use Rattle.apex_world.specs.Orders.{IsImage}
use Rattle.apex_world.specs.Restore.{era_for, with_names, restored_to, restored_by, restored, of_image}
use Rattle.apex_world.specs.Selection.{preinstalled}
use Rattle.apex_world.specs.World.{World, Contents, era, empty_world}
use Rattle.world_facts.proofs.facts.EmptyLemmas.{empty_lawful}
use Rattle.world_laws.proofs.runs.NameCounts.{image_names, in_image_names, few_names}
use Rattle.world_laws.proofs.runs.NamedMaps.{named_len, part_with, some_with}
use Rattle.world_laws.proofs.runs.OpenedEras.{era_has}
use Rattle.world_laws.proofs.meaning.Restored.{image_part}

abbrev Values : Type 0
Values = NameMap (List ℕ)

-- What a name has

module _ (P : Values → Type 0) (name : List ℕ) where
  names_keep : (earlier : Contents) (ps : List Part) (c : Contents) → P (part_of earlier name) → P (part_of c name)
      → P (part_of (with_names earlier ps c) name)
  names_keep earlier [] c before now = now
  names_keep earlier (p ∷ ps) c before now =
      names_keep earlier ps (with_part c p.name (part_of earlier p.name)) before
      (elim (part_with c p.name name (part_of earlier p.name)) [
        | inl (same, f) ↦ subst P (ap (part_of earlier) same ∙ sym f) before
        | inr f ↦ subst P (sym f) now
      ])

  module _ (eras : List Contents) (each : (b : ℕ) → P (part_of (era eras b) name)) where
    one_keeps : (ps : List Part) (o : Option ℕ) (c : Contents) → P (part_of c name)
        → P (part_of (restored_to eras ps o c) name)
    one_keeps ps None c now = now
    one_keeps ps (Some b) c now = names_keep (era eras b) ps c (each b) now

    all_keep : (f : Record → Record) (ss xs : List Record) (c : Contents) → P (part_of c name)
        → P (part_of (fold (λ c r. restored_by eras ss r (f r) c) c xs) name)
    all_keep f ss [] c now = now
    all_keep f ss (r ∷ xs) c now = all_keep f ss xs (restored_by eras ss r (f r) c)
        (one_keeps (f r).parts (era_for ss r (f r) (f r).kind) c now)

    -- what holds of what a name has, has had and of nothing, holds of what it has after a boot
    pub left_has : (f : Record → Record) (ss : List Record) (image : Image) (c : Contents) → P fin.empty
        → P (part_of c name) → P (part_of (of_image image (restored f eras ss c)) name)
    left_has f ss image c none now = subst P (sym (image_part image (restored f eras ss c) name))
        (either (is_some (preinstalled image.modules name)))
      where
        either : (b : Bool) → P (cond b (part_of (restored f eras ss c) name) fin.empty)
        either true = all_keep f ss ss c now
        either false = none

-- No name stands for nothing

abbrev pub AreSome : Contents → Type 0
AreSome c = (a : List ℕ) → IfSome (fin.get c a) (λ m. fin.len m ≢ 0)

names_some : (earlier : Contents) (ps : List Part) (c : Contents) → AreSome c → AreSome (with_names earlier ps c)
names_some earlier [] c some = some
names_some earlier (p ∷ ps) c some = names_some earlier ps (with_part c p.name (part_of earlier p.name))
    (λ a. some_with c p.name a (part_of earlier p.name) (some a))

one_some : (eras : List Contents) (ps : List Part) (o : Option ℕ) (c : Contents) → AreSome c
    → AreSome (restored_to eras ps o c)
one_some eras ps None c some = some
one_some eras ps (Some b) c some = names_some (era eras b) ps c some

all_some : (eras : List Contents) (f : Record → Record) (ss xs : List Record) (c : Contents) → AreSome c
    → AreSome (fold (λ c r. restored_by eras ss r (f r) c) c xs)
all_some eras f ss [] c some = some
all_some eras f ss (r ∷ xs) c some = all_some eras f ss xs (restored_by eras ss r (f r) c)
    (one_some eras (f r).parts (era_for ss r (f r) (f r).kind) c some)

-- the names of the image stay, and no others
pub image_get : (image : Image) (c : Contents) (name : List ℕ)
    → fin.get (of_image image c) name ≡ cond (is_some (preinstalled image.modules name)) (fin.get c name) None
image_get image c name = get-retain_keys c (λ name. is_some (preinstalled image.modules name)) name
    (λ x t. ap (λ (name : List ℕ). is_some (preinstalled image.modules name))
    (sym (slice_cmp-IsAntisymmetric nat_cmp-IsAntisymmetric name x t)))

some_cond : (b : Bool) (o : Option Values) → IfSome o (λ m. fin.len m ≢ 0)
    → IfSome (cond b o None) (λ m. fin.len m ≢ 0)
some_cond true o h = h
some_cond false o h = tt

image_some : (image : Image) (c : Contents) → AreSome c → AreSome (of_image image c)
image_some image c some a = subst (λ (o : Option Values). IfSome o (λ m. fin.len m ≢ 0)) (sym (image_get image c a))
    (some_cond (is_some (preinstalled image.modules a)) (fin.get c a) (some a))

there_cond : {X : Type 0} (b : Bool) (o : Option X) → is_some (cond b o None) ≡ true → b ≡ true
there_cond true o e = refl
there_cond false o e = absurd (cc)

-- a name that has something is one of the image
pub left_in_image : (image : Image) (c : Contents) (name : List ℕ)
    → is_some (fin.get (of_image image c) name) ≡ true → is_some (preinstalled image.modules name) ≡ true
left_in_image image c name e = there_cond (is_some (preinstalled image.modules name)) (fin.get c name)
    (ap is_some (sym (image_get image c name)) ∙ e)

-- Boots

module _ (w : World) (law : Lawful w) (f : Record → Record) (image : Image) where
  abbrev eras : List Contents
  eras = w.eras ++ w.contents ∷ []

  -- the data that a boot leaves
  abbrev pub left : Contents
  left = of_image image (restored f eras w.sessions w.contents)

  abbrev none_lawful : Lawful (empty_world w.scale)
  none_lawful = empty_lawful w.scale

  -- what holds of each era and of the data holds of the eras after the boot
  pub eras_each : (P : Contents → Type 0) → ((c : Contents) → In c w.eras → P c) → P w.contents
      → (c : Contents) → In c eras → P c
  eras_each P all now c h =
      elim (in_append c w.eras (w.contents ∷ []) h) [
        | inl i ↦ all c i
        | inr i ↦ elim i [
          | inl e ↦ subst P e now
          | inr j ↦ absurd j
        ]
      ]

  -- and so of each era by its number
  era_each : (P : Contents → Type 0) → P fin.empty → ((c : Contents) → In c w.eras → P c) → P w.contents
      → (b : ℕ) → P (era eras b)
  era_each P none all now b = era_has P eras b none (eras_each P all now)

  abbrev IsNamed : List ℕ → Values → Type 0
  IsNamed a m = (b x : List ℕ) → fin.get m b ≡ Some x → IsTrue (is_name a) × IsTrue (is_name b)

  table_named : (c : Contents) → IsTable c → (a : List ℕ) → IsNamed a (part_of c a)
  table_named c t a b x e = (t.first a b x e, t.second a b x e)

  nothing_named : (a : List ℕ) → IsNamed a fin.empty
  nothing_named a b x e = absurd (cc (e, get-empty {X = List ℕ} (slice_cmp nat_cmp) b))

  left_named : (a : List ℕ) → IsNamed a (part_of left a)
  left_named a = left_has (IsNamed a) a eras
      (era_each (λ c. IsNamed a (part_of c a)) (table_named fin.empty none_lawful.ranges.contents a)
      (λ c h. table_named c (law.ranges.eras c h) a) (table_named w.contents law.ranges.contents a))
      f w.sessions image w.contents (nothing_named a) (table_named w.contents law.ranges.contents a)

  -- the data that a boot leaves stands under names
  pub contents_table : IsTable left
  contents_table = record {
    first = λ a b x e. (left_named a b x e).0;
    second = λ a b x e. (left_named a b x e).1;
    some = image_some image (restored f eras w.sessions w.contents)
        (all_some eras f w.sessions w.sessions w.contents law.ranges.contents.some);
  }

  abbrev IsLight : Values → Type 0
  IsLight m = part_weight m ≤ scale_data_weight w.scale

  nothing_light : IsLight fin.empty
  nothing_light = subst IsLight (ap or_empty (get-empty {X = Values} (slice_cmp nat_cmp) []))
      (none_lawful.bounds.contents.weight [])

  left_light : (a : List ℕ) → IsLight (part_of left a)
  left_light a = left_has IsLight a eras
      (era_each (λ c. IsLight (part_of c a)) (none_lawful.bounds.contents.weight a)
      (λ c h. (law.bounds.eras c h).weight a) (law.bounds.contents.weight a))
      f w.sessions image w.contents nothing_light (law.bounds.contents.weight a)

  -- it is that of names of the image
  pub contents_in_image : (name : List ℕ) → is_some (fin.get left name) ≡ true
      → is_some (preinstalled image.modules name) ≡ true
  contents_in_image name e = left_in_image image (restored f eras w.sessions w.contents) name e

  -- and so of few names, and weighs little for each
  pub contents_little : IsImage w.scale image → HasLittleData w.scale left
  contents_little law = record {
    names =
        let l = named_len left (image_names image) (λ name m e. in_image_names image name
        (contents_in_image name (ap is_some e))) in
        let few = few_names w.scale image law in
        omega (arith, l, few);
    weight = left_light;
  }
