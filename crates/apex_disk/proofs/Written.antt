-- What a write leaves of a file. Callers want `written_between`, for a file that is split where it is made.
use Rattle.std.proofs.Common.{◌≡◌, ℕ, ◌+◌, ◌≤◌, List, ◌++◌, length, take, drop, sym, ◌∙◌, ap, arith, append_assoc, length-drop, take-append-drop}
use Rattle.std.proofs.lemmas.List.{take_at, drop_at, drop-drop, length-take-le}
use Rattle.apex_disk.specs.Disk.{written, Torn}

-- any range of a file may be left as it is
pub torn_self : (at n : ℕ) (file : List ℕ) → at + n ≤ length file → Torn at n file file
torn_self at n file within =
    let long : length (take n (drop at file)) ≡ n =
    length-take-le n (drop at file) (omega (arith, length-drop at file)) in
    record {
      bytes = take n (drop at file);
      size = long;
      is = sym (
          ap (λ k. take at file ++ take n (drop at file) ++ drop (at + k) file) long
          ∙ append_assoc (take at file) (take n (drop at file)) (drop (at + n) file)
          ∙ ap (λ (l : List ℕ). take at file ++ (take n (drop at file) ++ l)) (sym (drop-drop n at file))
          ∙ ap (λ (l : List ℕ). take at file ++ l) (take-append-drop n (drop at file))
          ∙ take-append-drop at file);
    }

-- what stood there goes, and what stands before and after stays
pub written_between : (at : ℕ) (xs ys zs bytes file : List ℕ) → file ≡ xs ++ (ys ++ zs) → length xs ≡ at
    → length bytes ≡ length ys → written at bytes file ≡ xs ++ (bytes ++ zs)
written_between at xs ys zs bytes file is before long =
    ap (λ f. take at f ++ bytes ++ drop (at + length bytes) f) is
    ∙ ap (λ (l : List ℕ). l ++ bytes ++ drop (at + length bytes) (xs ++ (ys ++ zs))) (take_at xs (ys ++ zs) at before)
    ∙ ap (λ (l : List ℕ). xs ++ bytes ++ l) (sym (drop-drop (length bytes) at (xs ++ (ys ++ zs)))
    ∙ ap (λ (l : List ℕ). drop (length bytes) l) (drop_at xs (ys ++ zs) at before)
    ∙ drop_at ys zs (length bytes) (sym long))
    ∙ append_assoc xs bytes zs
