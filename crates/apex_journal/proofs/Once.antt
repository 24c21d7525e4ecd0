-- No file has two lists of records, or one and a damage.
use Rattle.std.proofs.Common.{◌≡◌, ◌≢◌, ◌⊎◌, ⊎_elim, ℕ, ◌+◌, ◌-◌, ◌^◌, ◌<◌, ◌≤◌, List, [], ◌∷◌, ◌++◌, length, take, drop, refl, sym, ◌∙◌, ap, arith, lit<, append_assoc, length-append, length-take}
use Rattle.std.proofs.Math.Seq.{take-append-add}
use Rattle.std.proofs.lemmas.List.{take_at, drop_at}
use Rattle.std.proofs.lemmas.Nat.{from_be_bytes-to_be_bytes_4}
use Rattle.std.specs.Int.{to_be_bytes, from_be_bytes, w32}
use Rattle.apex_base.specs.declared.numbers.Scale.{Scale}
use Rattle.apex_base.specs.declared.numbers.Scale.TheVariants.{Small, Standard}
use Rattle.apex_journal.specs.Records.{block, blocks}
use Rattle.apex_journal.specs.Journal.{half_len, half_of, Opens}
use Rattle.apex_journal.specs.Refusals.{IsDamaged}

same_length : (m n : ℕ) → m < 2 ^ 32 → n < 2 ^ 32 → to_be_bytes w32 m ≡ to_be_bytes w32 n → m ≡ n
same_length m n ml nl is = sym (from_be_bytes-to_be_bytes_4 m ml) ∙ ap (λ (l : List ℕ). from_be_bytes w32 l) is
    ∙ from_be_bytes-to_be_bytes_4 n nl

longer_than : (x : List ℕ) (xs : List (List ℕ)) → length (blocks (x ∷ xs)) ≡ 5 + length x + length (blocks xs)
longer_than x xs = omega (arith, length-append (block x) (blocks xs), length-append (to_be_bytes w32 (length x)) x)

-- two rows that begin with a record each have the same first one, and the same after it
one_block : (x y l m k n : List ℕ) → (block x ++ l) ++ k ≡ (block y ++ m) ++ n → length x < 2 ^ 32 → length y < 2 ^ 32
    → (x ≡ y) × (l ++ k ≡ m ++ n)
one_block x y l m k n is xl yl =
    let sizes : to_be_bytes w32 (length x) ≡ to_be_bytes w32 (length y) = ap (λ (l : List ℕ). take 4 (drop 1 l)) is in
    let size : length x ≡ length y = same_length (length x) (length y) xl yl sizes in
    let rest : x ++ (l ++ k) ≡ y ++ (m ++ n) =
    sym (append_assoc x l k) ∙ ap (λ (l : List ℕ). drop 5 l) is ∙ append_assoc y m n in (
      sym (take_at x (l ++ k) (length x) refl) ∙ ap (λ (l : List ℕ). take (length x) l) rest
          ∙ take_at y (m ++ n) (length x) (sym size),
      sym (drop_at x (l ++ k) (length x) refl) ∙ ap (λ (l : List ℕ). drop (length x) l) rest
          ∙ drop_at y (m ++ n) (length x) (sym size),
    )

pub same_records : (xs ys : List (List ℕ)) (g h : ℕ) (s t : List ℕ) → blocks xs ++ g ∷ s ≡ blocks ys ++ h ∷ t → g ≢ 1
    → h ≢ 1
    → length (blocks xs) < 2 ^ 32 → length (blocks ys) < 2 ^ 32 → xs ≡ ys
same_records [] [] g h s t is gc hc xl yl = refl
same_records [] (y ∷ ys) g h s t is gc hc xl yl = absurd (gc (cc))
same_records (x ∷ xs) [] g h s t is gc hc xl yl = absurd (hc (cc))
same_records (x ∷ xs) (y ∷ ys) g h s t is gc hc xl yl =
    let one = one_block x y (blocks xs) (blocks ys) (g ∷ s) (h ∷ t) is
    (omega (arith, longer_than x xs, xl)) (omega (arith, longer_than y ys, yl)) in
    ap (λ (z : List ℕ). z ∷ xs) one.0 ∙ ap (λ (zs : List (List ℕ)). y ∷ zs)
    (same_records xs ys g h s t one.1 gc hc (omega (arith, longer_than x xs, xl)) (omega (arith, longer_than y ys, yl)))

pub half_small : (scale : Scale) → half_len scale < 2 ^ 32
half_small Small = lit< tt
half_small Standard = lit< tt

-- what stands where the half in use begins
behind : (scale : Scale) (file : List ℕ) (xs : List (List ℕ)) (o : Opens scale file xs)
    → drop 4096 file ≡ blocks xs ++ o.gate ∷ o.rest
behind scale file xs o = ap (λ (l : List ℕ). drop 4096 l) o.is
    ∙ drop_at o.head (blocks xs ++ o.gate ∷ o.rest) 4096 o.starts

pub opens_once : (scale : Scale) (file : List ℕ) (xs ys : List (List ℕ)) → Opens scale file xs → Opens scale file ys
    → xs ≡ ys
opens_once scale file xs ys a b =
    same_records xs ys a.gate b.gate a.rest b.rest (sym (behind scale file xs a)
    ∙ behind scale file ys b) a.closed b.closed
    (omega (arith, a.within, half_small scale)) (omega (arith, b.within, half_small scale))

-- after no open gate of a row of records there is too little
whole : (xs ys : List (List ℕ)) (g : ℕ) (s rest : List ℕ) → blocks xs ++ g ∷ s ≡ blocks ys ++ 1 ∷ rest → g ≢ 1
    → length (blocks xs) < 2 ^ 32 → length (blocks ys) < 2 ^ 32
    → (length rest < 4) ⊎ (length rest ≤ 4 + from_be_bytes w32 (take 4 rest)) → ⊥
whole [] [] g s rest is gc xl yl short = gc (cc)
whole [] (y ∷ ys) g s rest is gc xl yl short = gc (cc)
whole (x ∷ xs) [] g s rest is gc xl yl short =
    let long : length rest ≡ 5 + length x + length (blocks xs) + length s =
    omega (arith, ap length is, length-append (blocks (x ∷ xs)) (g ∷ s), longer_than x xs) in
    let size : from_be_bytes w32 (take 4 rest) ≡ length x =
    ap (λ (l : List ℕ). from_be_bytes w32 (take 4 (drop 1 l))) (sym is)
    ∙ from_be_bytes-to_be_bytes_4 (length x) (omega (arith, longer_than x xs, xl)) in
    ⊎_elim (λ few. omega (arith, few, long)) (λ few. omega (arith, few, long, size)) short
whole (x ∷ xs) (y ∷ ys) g s rest is gc xl yl short =
    whole xs ys g s rest (one_block x y (blocks xs) (blocks ys) (g ∷ s) (1 ∷ rest) is
    (omega (arith, longer_than x xs, xl)) (omega (arith, longer_than y ys, yl))).1 gc
    (omega (arith, longer_than x xs, xl)) (omega (arith, longer_than y ys, yl)) short

pub opens_undamaged : (scale : Scale) (file : List ℕ) (xs : List (List ℕ)) (offset : ℕ) → Opens scale file xs
    → IsDamaged scale file offset → ⊥
opens_undamaged scale file xs offset o d =
    let size = half_len scale in
    let k = size - (length (blocks xs) + 1) in
    let all = blocks xs ++ o.gate ∷ [] in
    let wide : length all ≡ length (blocks xs) + 1 = length-append (blocks xs) (o.gate ∷ []) in
    let cut : half_of scale file ≡ blocks xs ++ o.gate ∷ take k o.rest =
    ap (λ (l : List ℕ). take size l) (behind scale file xs o ∙ sym (append_assoc (blocks xs) (o.gate ∷ []) o.rest))
    ∙ ap (λ (n : ℕ). take n (all ++ o.rest)) (omega (arith, o.within, wide))
    ∙ take-append-add all o.rest k ∙ append_assoc (blocks xs) (o.gate ∷ []) (take k o.rest) in
    let few : length (blocks d.here.records) < size =
    omega (
      arith,
      ap length d.here.is,
      length-append (blocks d.here.records) (1 ∷ d.here.rest),
      length-take size (drop 4096 file),
    ) in
    whole xs d.here.records o.gate (take k o.rest) d.here.rest (sym cut ∙ d.here.is) o.closed
    (omega (arith, o.within, half_small scale)) (omega (arith, few, half_small scale)) d.here.runs_over
