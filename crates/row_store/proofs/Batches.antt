-- Batches that the tests make.
use Rattle.std.proofs.Common.{◌≡◌, ◌<◌, ◌^◌, ℕ, List, [], ◌∷◌, refl, sym, subst, lit<}
use Rattle.std.specs.Cmp.Lexicographic.{slice_cmp}
use Rattle.std.specs.Ordering.{nat_cmp}
use Rattle.std.specs.List.Sorted.{IsStrictlySortedBy}
use Rattle.row_codec.specs.declared.batch.Row.{Row}
use Rattle.row_codec.specs.Batch.{IsBatch, IsRow}

ascending : (a b c : ℕ) → IsStrictlySortedBy (slice_cmp nat_cmp) ((1 ∷ a ∷ []) ∷ (2 ∷ b ∷ []) ∷ (3 ∷ c ∷ []) ∷ [])
unfolding IsStrictlySortedBy
ascending a b c = ((refl, (refl, tt)), ((refl, tt), (tt, tt)))

pub three_rows : (r s t : Row) (a b c : ℕ) → r.key ≡ 1 ∷ a ∷ [] → s.key ≡ 2 ∷ b ∷ [] → t.key ≡ 3 ∷ c ∷ [] → IsRow r
    → IsRow s → IsRow t
    → (rows : List Row) → rows ≡ r ∷ s ∷ t ∷ [] → (seq : ℕ) → seq < 2 ^ 64 → IsBatch (record { seq = seq; rows = rows })
three_rows r s t a b c first second third is_r is_s is_t rows is seq small =
    subst (λ (rs : List Row). IsBatch (record { seq = seq; rows = rs })) (sym is) (record {
      seq = small;
      count = lit< tt;
      rows = (is_r, (is_s, (is_t, tt)));
      ascending = rw (first, second, third) (ascending a b c);
    })

alone : (key : List ℕ) → IsStrictlySortedBy (slice_cmp nat_cmp) (key ∷ [])
unfolding IsStrictlySortedBy
alone key = (tt, tt)

pub one_row : (r : Row) → IsRow r → (rows : List Row) → rows ≡ r ∷ [] → (seq : ℕ) → seq < 2 ^ 64
    → IsBatch (record { seq = seq; rows = rows })
one_row r is_r rows is seq small =
    subst (λ (rs : List Row). IsBatch (record { seq = seq; rows = rs })) (sym is)
    (record { seq = small; count = lit< tt; rows = (is_r, tt); ascending = alone r.key })
