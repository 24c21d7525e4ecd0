-- Worlds run on after Put and Drop. Callers want `put_running` and `drop_running`.
use Rattle.std.proofs.Common.{◌≡◌, ℕ, ◌≤◌, Bool, true, false, cond, IsTrue, List, Option, Some, None, sym, ap, subst}
use Rattle.std.proofs.Common.{◌∙◌, refl, inl, inr, arith, is_some, Ok}
use Rattle.std.specs.FinMap as fin
use Rattle.std.proofs.lemmas.Bool.{leb-true}
use Rattle.std.proofs.lemmas.List.Sums.{sum-map}
use Rattle.apex_base.specs.declared.refusal.Refusal.{Refusal}
use Rattle.apex_base.specs.Numbers.{scale_data_weight}
use Rattle.apex_base.specs.Results.{◌>>=◌}
use Rattle.apex_base.specs.RowSums.{entry_weight}
use Rattle.apex_base.specs.Tables.{NameMap, Table, part_of, value_of, with_value, without_value}
use Rattle.apex_base.specs.Text.{is_name}
use Rattle.apex_world.specs.Data.{part_weight, data_weight, unknown_module, data_full, with_entry, found, put, drop}
use Rattle.apex_world.specs.Lawful.{IsTable}
use Rattle.apex_world.specs.Running.{Running, runs}
use Rattle.apex_world.specs.Stepped.{replied}
use Rattle.apex_world.specs.Submit.{pass}
use Rattle.apex_world.specs.World.{World, Contents}
use Rattle.world_laws.proofs.runs.NamedMaps.{named_sum, part_with, some_with, there_with, get_removed, value_with}
use Rattle.world_laws.proofs.runs.NamedMaps.{value_without}
use Rattle.world_laws.proofs.runs.RunningLemmas.{with_contents}
use Rattle.world_facts.proofs.facts.WorldRows.{in_part}

-- what doesn't refuse holds
pub known_if : (b : Bool) (refusal : Refusal) → cond b None (Some refusal) ≡ None → b ≡ true
known_if true refusal e = refl
known_if false refusal e = absurd (cc)

-- a name that has a value is there
part_there : {X : Type 0} (t : Table X) (a b : List ℕ) (x : X) → value_of t a b ≡ Some x → is_some (fin.get t a) ≡ true
part_there t a b x e = let (m, f, g) = in_part t a b x e in ap (λ o. is_some o) f

-- Put

module _ (w : World) (run : Running w) (name key value : List ℕ) (named : IsTrue (is_name name))
    (keyed : IsTrue (is_name key)) (known : runs w name ≡ true)
    (light : data_weight (with_value w.contents name key value) name ≤ scale_data_weight w.scale) where
  abbrev put_contents : Contents
  put_contents = with_value w.contents name key value

  -- names are names, and none stands for nothing
  put_table : IsTable put_contents
  put_table = record {
    first = λ a b x e. elim (value_with w.contents name key value a b x e) [
      | inl (same, _, _) ↦ subst (λ (n : List ℕ). IsTrue (is_name n)) (sym same) named
      | inr was ↦ run.lawful.ranges.contents.first a b x was
    ];
    second = λ a b x e. elim (value_with w.contents name key value a b x e) [
      | inl (_, same, _) ↦ subst (λ (n : List ℕ). IsTrue (is_name n)) (sym same) keyed
      | inr was ↦ run.lawful.ranges.contents.second a b x was
    ];
    some = λ a. some_with w.contents name a (fin.insert (part_of w.contents name) key value)
        (run.lawful.ranges.contents.some a);
  }

  -- each name runs
  put_named : (a : List ℕ) → is_some (fin.get put_contents a) ≡ true → runs w a ≡ true
  put_named a e =
      elim (there_with w.contents name a (fin.insert (part_of w.contents name) key value) e) [
        | inl same ↦ ap (runs w) same ∙ known
        | inr was ↦ run.contents a was
      ]

  -- the data of each name is light
  put_light : (a : List ℕ) → data_weight put_contents a ≤ scale_data_weight w.scale
  put_light a =
      elim (part_with w.contents name a (fin.insert (part_of w.contents name) key value)) [
        | inl (same, _) ↦
            subst (λ (n : List ℕ). data_weight put_contents n ≤ scale_data_weight w.scale) (sym same) light
        | inr e ↦
            let l = run.lawful.bounds.contents.weight a in
            omega (arith, l, ap part_weight e)
      ]

  -- the world with a value more runs
  put_done : Running (with_entry w name key value)
  put_done = with_contents w run put_contents put_table put_named put_light

module _ (w : World) (run : Running w) (name key value : List ℕ) (named : IsTrue (is_name name))
    (keyed : IsTrue (is_name key)) where
  -- a put that is refused, or not
  put_by : (o p : Option Refusal) → unknown_module w.image name ≡ o → data_full (with_entry w name key value) name ≡ p
      → Running (replied w (pass o >>= λ x. pass p >>= λ y. Ok (with_entry w name key value))).world
  put_by None None e f =
      put_done w run name key value named keyed (known_if (runs w name) _ e)
      (leb-true (data_weight (with_value w.contents name key value) name) (scale_data_weight w.scale) (known_if _ _ f))
  put_by None (Some refusal) e f = run
  put_by (Some refusal) p e f = run

  -- the call Put
  pub put_running : Running (put w name key value).world
  put_running = put_by (unknown_module w.image name) (data_full (with_entry w name key value) name) refl refl

-- Drop

module _ (w : World) (run : Running w) (name key : List ℕ) where
  abbrev less : Contents
  less = without_value w.contents name key

  -- names are names, and none stands for nothing
  less_table : IsTable less
  less_table = record {
    first = λ a b x e. run.lawful.ranges.contents.first a b x (value_without w.contents name key a b x e);
    second = λ a b x e. run.lawful.ranges.contents.second a b x (value_without w.contents name key a b x e);
    some = λ a. some_with w.contents name a (fin.remove (part_of w.contents name) key)
        (run.lawful.ranges.contents.some a);
  }

  -- each name runs
  less_named : runs w name ≡ true → (a : List ℕ) → is_some (fin.get less a) ≡ true → runs w a ≡ true
  less_named known a e =
      elim (there_with w.contents name a (fin.remove (part_of w.contents name) key) e) [
        | inl same ↦ ap (runs w) same ∙ known
        | inr was ↦ run.contents a was
      ]

  -- a map without a key weighs no more
  less_weight : (m : NameMap (List ℕ)) → part_weight (fin.remove m key) ≤ part_weight m
  less_weight m =
      let g : List ℕ × List ℕ → ℕ = λ e. entry_weight e.0 e.1 in
      let l = named_sum g (fin.remove m key) m (λ k x e. get_removed m key k x e) in
      omega (arith, l, sum-map g (fin.entries (fin.remove m key)), sum-map g (fin.entries m))

  -- the data of each name is light
  less_light : (a : List ℕ) → data_weight less a ≤ scale_data_weight w.scale
  less_light a =
      elim (part_with w.contents name a (fin.remove (part_of w.contents name) key)) [
        | inl (_, e) ↦
            let l = run.lawful.bounds.contents.weight name in
            let less = less_weight (part_of w.contents name) in
            omega (arith, l, less, ap part_weight e)
        | inr e ↦
            let l = run.lawful.bounds.contents.weight a in
            omega (arith, l, ap part_weight e)
      ]

  -- a key that is there, or not
  drop_found : runs w name ≡ true → (o : Option (List ℕ))
      → Running (replied w (found key o >>= λ value. Ok (record w { contents = less }))).world
  drop_found known None = run
  drop_found known (Some value) = with_contents w run less less_table (less_named known) less_light

  -- a drop that is refused, or not
  drop_by : (o : Option Refusal) → unknown_module w.image name ≡ o
      → Running (replied w ((pass o >>= λ known. found key (value_of w.contents name key)) >>=
      λ value. Ok (record w { contents = less }))).world
  drop_by None e = drop_found (known_if (runs w name) _ e) (value_of w.contents name key)
  drop_by (Some refusal) e = run

  -- the call Drop
  pub drop_running : Running (drop w name key).world
  drop_running = drop_by (unknown_module w.image name) refl
