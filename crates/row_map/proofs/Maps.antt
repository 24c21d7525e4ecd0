-- Rows as a finite map, and what its changes make of a key.
use Rattle.std.proofs.Common.{◌≡◌, ℕ, List, true, false, cond, Option, Some, None, ap, ◌∙◌, refl}
use Rattle.std.specs.Cmp.Lexicographic.{slice_cmp, nat_list_cmp_total}
use Rattle.std.specs.Cmp.{tied_itself, eq_by_cmp_equiv}
use Rattle.std.specs.Ordering.{nat_cmp, is_eq}
use Rattle.std.specs.declared.cmp.Ordering.{Ordering}
use Rattle.std.specs.declared.cmp.Ordering.TheVariants.{Less, Equal, Greater}
use Rattle.std.specs.FinMap as fin
use Rattle.std.specs.FinMap.{same_map, slice_cmp-IsAntisymmetric, nat_cmp-IsAntisymmetric, get-insert, get-remove}
use Rattle.row_map.specs.Rows.{RowMap, changed_at}
use Rattle.row_map.specs.Room.{same_key}

pub same_rows : (m n : RowMap) → ((q : List ℕ) → fin.get m q ≡ fin.get n q) → m ≡ n
same_rows = same_map nat_list_cmp_total (slice_cmp-IsAntisymmetric nat_cmp-IsAntisymmetric)

pub at_insert : (m : RowMap) (key value q : List ℕ) → fin.get (fin.insert m key value) q
    ≡ cond (same_key q key) (Some value) (fin.get m q)
at_insert m key value q = get-insert nat_list_cmp_total m key value q

pub at_remove : (m : RowMap) (key q : List ℕ) → fin.get (fin.remove m key) q ≡ cond (same_key q key) None (fin.get m q)
at_remove m key q = get-remove nat_list_cmp_total m key q

equal : (o : Ordering) → is_eq o ≡ true → o ≡ Equal
equal Less e = absurd (cc)
equal Equal e = refl
equal Greater e = absurd (cc)

-- keys that compare alike are one
pub key_is : (q key : List ℕ) → same_key q key ≡ true → q ≡ key
key_is q key e = slice_cmp-IsAntisymmetric nat_cmp-IsAntisymmetric q key (equal _ e)

pub itself : (key : List ℕ) → same_key key key ≡ true
itself key = ap is_eq (tied_itself nat_list_cmp_total key)

pub turned : (q key : List ℕ) → same_key q key ≡ same_key key q
turned q key = (eq_by_cmp_equiv nat_list_cmp_total).symm q key

-- a lower key is another one
pub above : (key q : List ℕ) → slice_cmp nat_cmp key q ≡ Less → same_key q key ≡ false
above key q lt = turned q key ∙ ap is_eq lt

-- other keys stay at a change
pub changed_other : (m : RowMap) (key : List ℕ) (value : Option (List ℕ)) (q : List ℕ) → same_key q key ≡ false
    → fin.get (changed_at m key value) q ≡ fin.get m q
changed_other m key None q ne = at_remove m key q ∙ rw ne refl
changed_other m key (Some value) q ne = at_insert m key value q ∙ rw ne refl
