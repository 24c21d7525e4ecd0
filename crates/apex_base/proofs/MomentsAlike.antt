-- The last five moments decide whether a name fails too often, and whether the device boots too often. Callers want
-- `failing_alike`, `looping_alike`, `moments_alike` and `sorted_more`.
use Rattle.std.proofs.Common.{◌≡◌, ℕ, suc, ◌+◌, ◌-◌, ◌<◌, ◌≤◌, Bool, true, false, cond, leb, ◌&&◌, List, [], ◌∷◌}
use Rattle.std.proofs.Common.{◌++◌, length, drop, sym, ap, subst, ◌∙◌, refl, inl, inr, arith}
use Rattle.std.specs.List.{list_all, AllByRecursion, filter}
use Rattle.std.proofs.lemmas.Bool.{leb-true, leb-false, le-leb}
use Rattle.std.proofs.lemmas.List.{length-append, length-drop, drop-append-le, drop-drop}
use Rattle.apex_base.specs.Members.{In, EachPair}
use Rattle.apex_base.specs.Windows.{last_five, is_since, is_failing, is_looping}
use Rattle.apex_base.proofs.MemberLemmas.{each_in, in_each, in_append}

-- moments in their order
abbrev pub AreSorted : List ℕ → Type 0
AreSorted xs = EachPair (λ (m n : ℕ). m ≤ n) xs

-- a moment that is after each stays after them
pub sorted_more : (xs : List ℕ) (t : ℕ) → AreSorted xs → ((m : ℕ) → In m xs → m ≤ t) → AreSorted (xs ++ t ∷ [])
sorted_more [] t s l = (tt, tt)
sorted_more (x ∷ xs) t s l = (
  in_each (λ (n : ℕ). x ≤ n) (xs ++ t ∷ []) (λ n h. elim (in_append n xs (t ∷ []) h) [
    | inl i ↦ each_in (λ (n : ℕ). x ≤ n) xs s.0 n i
    | inr i ↦ elim i [
      | inl e ↦ subst (λ (n : ℕ). x ≤ n) e (l x (inl refl))
      | inr j ↦ absurd j
    ]
  ]),
  sorted_more xs t s.1 (λ m h. l m (inr h)),
)

-- The last five, with one more

pub five_of : (xs : List ℕ) (t : ℕ) → last_five (xs ++ t ∷ []) ≡ last_five (last_five xs ++ t ∷ [])
five_of xs t =
    let k = length xs - 5 in
    let front : last_five xs ++ t ∷ [] ≡ drop k (xs ++ t ∷ []) =
    sym (drop-append-le k xs (t ∷ []) (omega arith)) in
    let whole : length (xs ++ t ∷ []) ≡ length xs + 1 = length-append xs (t ∷ []) in
    let rest : length (drop k (xs ++ t ∷ [])) ≡ length (xs ++ t ∷ []) - k = length-drop k (xs ++ t ∷ []) in
    let count : k + (length (drop k (xs ++ t ∷ [])) - 5) ≡ length (xs ++ t ∷ []) - 5 = omega (arith, whole, rest) in
    sym (ap last_five front ∙ drop-drop (length (drop k (xs ++ t ∷ [])) - 5) k (xs ++ t ∷ [])
    ∙ ap (λ (n : ℕ). drop n (xs ++ t ∷ [])) count)

-- lists with the same last five have the same last five with one moment more
pub moments_alike : (xs ys : List ℕ) (t : ℕ) → last_five xs ≡ last_five ys
    → last_five (xs ++ t ∷ []) ≡ last_five (ys ++ t ∷ [])
moments_alike xs ys t e = five_of xs t ∙ ap (λ (zs : List ℕ). last_five (zs ++ t ∷ [])) e ∙ sym (five_of ys t)

-- Failures

since_up : (now m n : ℕ) → is_since now 60000 m ≡ true → m ≤ n → is_since now 60000 n ≡ true
since_up now m n e l = let k = leb-true (now - 60000) m e in le-leb (now - 60000) n (omega (arith, k, l))

-- after a moment that counts, each counts
all_count : (now m : ℕ) (xs : List ℕ) → AllByRecursion (λ (n : ℕ). m ≤ n) xs → is_since now 60000 m ≡ true
    → filter (is_since now 60000) xs ≡ xs
all_count now m [] a e = refl
all_count now m (x ∷ xs) a e =
    ap (λ (b : Bool). cond b (x ∷ filter (is_since now 60000) xs) (filter (is_since now 60000) xs))
    (since_up now m x e a.0) ∙ ap (λ (ys : List ℕ). x ∷ ys) (all_count now m xs a.1 e)

first_if : (b : Bool) (now x : ℕ) (xs : List ℕ) → is_since now 60000 x ≡ b → 5 ≤ length xs
    → AllByRecursion (λ (n : ℕ). x ≤ n) xs
    → leb 5 (length (cond b (x ∷ filter (is_since now 60000) xs) (filter (is_since now 60000) xs)))
    ≡ leb 5 (length (filter (is_since now 60000) xs))
first_if false now x xs e l a = refl
first_if true now x xs e l a =
    let all : length (filter (is_since now 60000) xs) ≡ length xs = ap (λ (ys : List ℕ). length ys)
    (all_count now x xs a e) in
    le-leb 5 (length (x ∷ filter (is_since now 60000) xs)) (omega (arith, l, all))
    ∙ sym (le-leb 5 (length (filter (is_since now 60000) xs)) (omega (arith, l, all)))

-- one before five others doesn't matter
five_longer : (x : ℕ) (xs : List ℕ) → 5 ≤ length xs → last_five (x ∷ xs) ≡ last_five xs
five_longer x xs l =
    let e : length (x ∷ xs) - 5 ≡ suc (length xs - 5) = omega (arith, l) in
    ap (λ (n : ℕ). drop n (x ∷ xs)) e

five_all : (xs : List ℕ) → length xs ≤ 5 → last_five xs ≡ xs
five_all xs l =
    let e : length xs - 5 ≡ 0 = omega (arith, l) in
    ap (λ (n : ℕ). drop n xs) e

failing_if : (b : Bool) (now x : ℕ) (xs : List ℕ) → leb 5 (length xs) ≡ b → AreSorted (x ∷ xs)
    → is_failing now xs ≡ is_failing now (last_five xs)
    → is_failing now (x ∷ xs) ≡ is_failing now (last_five (x ∷ xs))
failing_if true now x xs e s rest =
    let l : 5 ≤ length xs = leb-true 5 (length xs) e in
    first_if (is_since now 60000 x) now x xs refl l s.0 ∙ rest ∙ ap (is_failing now) (sym (five_longer x xs l))
failing_if false now x xs e s rest =
    let l : length xs < 5 = leb-false 5 (length xs) e in
    ap (is_failing now) (sym (five_all (x ∷ xs) (omega (arith, l))))

failing_last : (now : ℕ) (xs : List ℕ) → AreSorted xs → is_failing now xs ≡ is_failing now (last_five xs)
failing_last now [] s = refl
failing_last now (x ∷ xs) s = failing_if (leb 5 (length xs)) now x xs refl s (failing_last now xs s.1)

-- five failures within a minute are five of the last
pub failing_alike : (now : ℕ) (xs ys : List ℕ) → AreSorted xs → AreSorted ys → last_five xs ≡ last_five ys
    → is_failing now xs ≡ is_failing now ys
failing_alike now xs ys s t e = failing_last now xs s ∙ ap (is_failing now) e ∙ sym (failing_last now ys t)

-- Boots

count_if : (b : Bool) (xs : List ℕ) → leb 5 (length xs) ≡ b → leb 5 (length xs) ≡ leb 5 (length (last_five xs))
count_if true xs e =
    let l : 5 ≤ length xs = leb-true 5 (length xs) e in
    let m = length-drop (length xs - 5) xs in
    e ∙ sym (le-leb 5 (length (last_five xs)) (omega (arith, l, m)))
count_if false xs e =
    let l : length xs < 5 = leb-false 5 (length xs) e in
    ap (λ (ys : List ℕ). leb 5 (length ys)) (sym (five_all xs (omega (arith, l))))

count_last : (xs : List ℕ) → leb 5 (length xs) ≡ leb 5 (length (last_five xs))
count_last xs = count_if (leb 5 (length xs)) xs refl

abbrev count_near : ℕ → Bool → List ℕ → Bool
count_near now b xs = b && list_all (λ m. leb m now && is_since now 600000 m) xs

looping_last : (now : ℕ) (xs : List ℕ)
    → is_looping now xs ≡ count_near now (leb 5 (length (last_five xs))) (last_five xs)
looping_last now xs = ap (λ (b : Bool). count_near now b (last_five xs)) (count_last xs)

-- five boots within ten minutes are the last
pub looping_alike : (now : ℕ) (xs ys : List ℕ) → last_five xs ≡ last_five ys → is_looping now xs ≡ is_looping now ys
looping_alike now xs ys e =
    looping_last now xs ∙ ap (λ (zs : List ℕ). count_near now (leb 5 (length zs)) zs) e ∙ sym (looping_last now ys)
