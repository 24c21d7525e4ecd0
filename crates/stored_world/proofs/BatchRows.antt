-- The rows of batches, and what they lead to. Callers want `changed_here`, `batch_value`, `batch_skips`,
-- `in_batch_row`, `in_batch_append` and `ascend_append`.
use Rattle.std.proofs.Common.{◌≡◌, ◌||◌, ℕ, true, false, List, [], ◌∷◌, ◌++◌, Option, Some, None, sym, ap, ◌∙◌}
use Rattle.std.proofs.Common.{refl, inl, inr}
use Rattle.std.specs.List.{AllByRecursion}
use Rattle.std.specs.List.Sorted.{IsStrictlySortedBy}
use Rattle.std.specs.Cmp.Lexicographic.{slice_cmp}
use Rattle.std.specs.Ordering.{nat_cmp}
use Rattle.std.specs.declared.cmp.Ordering.TheVariants.{Less}
use Rattle.std.specs.FinMap as fin
use Rattle.std.proofs.lemmas.Bool.{or_parts}
use Rattle.std.proofs.Math.Bool.{or-true, or_assoc}
use Rattle.apex_base.specs.Members.{In}
use Rattle.row_codec.specs.declared.batch.Row.{Row}
use Rattle.row_codec.specs.Batch.{keys_of}
use Rattle.row_map.specs.Rows.{RowMap, changed, changed_at}
use Rattle.row_map.specs.Room.{same_key, in_batch}
use Rattle.row_map.proofs.Maps.{at_insert, at_remove, itself, turned, above, changed_other}

-- Keys in a batch

pub in_batch_row : (row : Row) (rows : List Row) → In row rows → in_batch row.key rows ≡ true
in_batch_row row [] i = absurd i
in_batch_row row (r ∷ rs) (inl e) = ap (λ (x : Row). same_key row.key x.key || in_batch row.key rs) e
    ∙ ap (λ b. b || in_batch row.key rs) (itself row.key)
in_batch_row row (r ∷ rs) (inr i) = ap (λ b. same_key row.key r.key || b) (in_batch_row row rs i)
    ∙ or-true (same_key row.key r.key)

pub in_batch_append : (q : List ℕ) (xs ys : List Row) → in_batch q (xs ++ ys) ≡ (in_batch q xs || in_batch q ys)
in_batch_append q [] ys = refl
in_batch_append q (r ∷ rs) ys = ap (λ b. same_key q r.key || b) (in_batch_append q rs ys)
    ∙ sym (or_assoc (same_key q r.key) (in_batch q rs) (in_batch q ys))

-- Values

-- the key that was changed has its new value
pub changed_here : (m : RowMap) (key : List ℕ) (value : Option (List ℕ)) → fin.get (changed_at m key value) key ≡ value
changed_here m key None = at_remove m key key ∙ rw (itself key) refl
changed_here m key (Some value) = at_insert m key value key ∙ rw (itself key) refl

-- at other keys nothing changes
pub batch_skips : (rows : List Row) (m : RowMap) (q : List ℕ) → in_batch q rows ≡ false
    → fin.get (changed m rows) q ≡ fin.get m q
batch_skips [] m q none = refl
batch_skips (r ∷ rs) m q none =
    let (apart, later) = or_parts (same_key q r.key) (in_batch q rs) none in
    batch_skips rs (changed_at m r.key r.value) q later ∙ changed_other m r.key r.value q apart

none_above : (key : List ℕ) (rows : List Row) → AllByRecursion (λ q. slice_cmp nat_cmp key q ≡ Less) (keys_of rows)
    → in_batch key rows ≡ false
none_above key [] up = refl
none_above key (r ∷ rs) up = rw (turned key r.key, above key r.key up.0, none_above key rs up.1) refl

-- a row of a batch whose keys ascend stands there afterwards
pub batch_value : (rows : List Row) (m : RowMap) (row : Row) → IsStrictlySortedBy (slice_cmp nat_cmp) (keys_of rows)
    → In row rows → fin.get (changed m rows) row.key ≡ row.value
unfolding IsStrictlySortedBy
batch_value [] m row up i = absurd i
batch_value (r ∷ rs) m row up (inl e) =
    ap (λ (x : Row). fin.get (changed m (r ∷ rs)) x.key) (sym e)
    ∙ batch_skips rs (changed_at m r.key r.value) r.key (none_above r.key rs up.0)
    ∙ changed_here m r.key r.value ∙ ap (λ (x : Row). x.value) e
batch_value (r ∷ rs) m row up (inr i) = batch_value rs (changed_at m r.key r.value) row up.1 i

-- Order

pub each_append : (P : List ℕ → Type 0) (xs ys : List Row) → AllByRecursion P (keys_of xs)
    → AllByRecursion P (keys_of ys) → AllByRecursion P (keys_of (xs ++ ys))
each_append P [] ys a b = b
each_append P (x ∷ xs) ys a b = (a.0, each_append P xs ys a.1 b)

-- batches after one another ascend, if each key of the first is below all of the second
pub ascend_append : (xs ys : List Row) → IsStrictlySortedBy (slice_cmp nat_cmp) (keys_of xs)
    → IsStrictlySortedBy (slice_cmp nat_cmp) (keys_of ys)
    → ((x : Row) → In x xs → AllByRecursion (λ q. slice_cmp nat_cmp x.key q ≡ Less) (keys_of ys))
    → IsStrictlySortedBy (slice_cmp nat_cmp) (keys_of (xs ++ ys))
unfolding IsStrictlySortedBy
ascend_append [] ys a b below = b
ascend_append (x ∷ xs) ys a b below = (
  each_append (λ q. slice_cmp nat_cmp x.key q ≡ Less) xs ys a.0 (below x (inl refl)),
  ascend_append xs ys a.1 b (λ y i. below y (inr i)),
)
