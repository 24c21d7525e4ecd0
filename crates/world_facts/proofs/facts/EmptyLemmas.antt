-- The world before the first boot is lawful: `empty_lawful`.
use Rattle.std.proofs.Common.{◌≡◌, ◌≢◌, ℕ, List, [], ◌∷◌, length, map, sum, Option, Some, None, IfSome, sym, ap, subst, ◌∙◌, refl, arith}
use Rattle.std.specs.FinMap as fin
use Rattle.std.specs.FinMap.{get-empty, len-empty, len-entries}
use Rattle.std.specs.Ordering.{nat_cmp}
use Rattle.std.specs.Cmp.Lexicographic.{slice_cmp}
use Rattle.apex_base.specs.declared.numbers.Scale.{Scale}
use Rattle.apex_base.specs.Tables.{NameMap, or_empty, part_of, value_of}
use Rattle.apex_world.specs.Bounds.{table_len}
use Rattle.apex_world.specs.Data.{part_weight, data_weight}
use Rattle.apex_world.specs.Lawful.{IsTable, Lawful}
use Rattle.apex_world.specs.World.{empty_world}
use Rattle.apex_base.specs.RowSums.{entry_weight}

no_entries : {X : Type 0} → fin.entries (fin.empty {X = X} {R = slice_cmp nat_cmp}) ≡ []
no_entries {X} = none (fin.entries (fin.empty {X = X} {R = slice_cmp nat_cmp})) (sym (len-entries (fin.empty {X =
    X} {R = slice_cmp nat_cmp})) ∙ len-empty (slice_cmp nat_cmp) X)
  where
    none : {A : Type 0} (xs : List A) → length xs ≡ 0 → xs ≡ []
    none [] e = refl
    none (x ∷ xs) e = absurd (omega (arith, e))

part_empty : {X : Type 0} (a : List ℕ) → part_of {X = X} fin.empty a ≡ fin.empty
part_empty {X} a = ap (λ (o : Option (NameMap X)). or_empty o) (get-empty (slice_cmp nat_cmp) a)

none_there : {X : Type 0} (a b : List ℕ) (x : X) → value_of fin.empty a b ≡ Some x → ⊥
none_there {X} a b x e =
    let none : ◌≡◌ {A = Option X} None (Some x) = sym (ap (λ (m : NameMap X). fin.get m b) (part_empty a)
    ∙ get-empty (slice_cmp nat_cmp) b) ∙ e in absurd (cc)

empty_table : {X : Type 0} → IsTable {X = X} fin.empty
empty_table {X} = record {
  first = λ a b x e. absurd (none_there a b x e);
  second = λ a b x e. absurd (none_there a b x e);
  some = λ a. subst (λ (o : Option (NameMap X)). IfSome o
      (λ m. fin.len m ≢ 0)) (sym (get-empty (slice_cmp nat_cmp) a)) tt;
}

no_weight : (name : List ℕ) → data_weight fin.empty name ≡ 0
no_weight name = ap part_weight (part_empty name)
    ∙ ap (λ (es : List (List ℕ × List ℕ)). sum (map (λ e. entry_weight e.0 e.1) es)) no_entries

no_length : (X : Type 0) → table_len {X = X} fin.empty ≡ 0
no_length X = ap (λ (es : List (List ℕ × NameMap X)). sum (map (λ e. fin.len e.1) es)) no_entries

pub empty_lawful : (scale : Scale) → Lawful (empty_world scale)
empty_lawful scale = record {
  ranges = record {
    sessions = λ r h. absurd h;
    modules = λ s h. absurd h;
    contents = empty_table;
    eras = λ c h. absurd h;
    moments = λ m h. absurd h;
    watches = empty_table;
    ends = λ o n end e. absurd (none_there o n end e);
    boots = omega arith;
    clock = omega arith;
    image = tt;
    observers = omega arith;
  };
  ids = record {
    ascend = tt;
    distinct = λ r h. absurd h;
    apart = λ r s id h i d u v. absurd h;
    callers =
        λ r id h e i. absurd h;
  };
  parts = λ r h. absurd h;
  alone = λ r s name h. absurd h;
  activations = record { each = λ r h. absurd h; peers = λ r s name h. absurd h; after = λ r h. absurd h };
  causes = λ r h. absurd h;
  rollbacks = record { each = λ r h. absurd h; peers = λ r s name h. absurd h };
  undone = record { back = λ r id h. absurd h; forth = λ x h. absurd h };
  modules = record { kept = λ s p v h. absurd h; distinct = tt; owned = λ s h. absurd h };
  bounds = record {
    units = omega arith;
    weight = omega arith;
    contents = record {
      names = omega (arith, len-empty (slice_cmp nat_cmp) (NameMap (List ℕ)));
      weight =
          λ name. omega (arith, no_weight name);
    };
    eras = λ c h. absurd h;
    undoable = omega arith;
    available = omega arith;
    waiting = omega arith;
    watches = omega (arith, no_length ℕ);
  };
  begun = λ e. refl;
}
