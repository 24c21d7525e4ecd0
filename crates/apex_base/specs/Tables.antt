-- Values that stand under two names.
use Rattle.std.specs.Prelude.{ℕ, ◌==◌, List, Option, Some, None, if◌then◌else◌}
use Rattle.std.specs.Ordering.{nat_cmp}
use Rattle.std.specs.Cmp.Lexicographic.{slice_cmp}
use Rattle.std.specs.FinMap as fin

-- values by a name
abbrev pub NameMap : Type 0 → Type 0
NameMap X = fin.FinMap (slice_cmp nat_cmp) X

-- values by two names; no first name stands for nothing
abbrev pub Table : Type 0 → Type 0
Table X = NameMap (NameMap X)

abbrev pub or_empty : {X : Type 0} → Option (NameMap X) → NameMap X
or_empty None = fin.empty
or_empty (Some m) = m

-- all that stands under a first name
abbrev pub part_of : {X : Type 0} → Table X → List ℕ → NameMap X
part_of t a = or_empty (fin.get t a)

-- this stands under a first name, and nothing else
abbrev pub with_part : {X : Type 0} → Table X → List ℕ → NameMap X → Table X
with_part t a m = if fin.len m == 0 then fin.remove t a else fin.insert t a m

-- what stands under two names
abbrev pub value_of : {X : Type 0} → Table X → List ℕ → List ℕ → Option X
value_of t a b = fin.get (part_of t a) b

-- the same with a value more, and with one less
abbrev pub with_value : {X : Type 0} → Table X → List ℕ → List ℕ → X → Table X
with_value t a b x = with_part t a (fin.insert (part_of t a) b x)

abbrev pub without_value : {X : Type 0} → Table X → List ℕ → List ℕ → Table X
without_value t a b = with_part t a (fin.remove (part_of t a) b)
