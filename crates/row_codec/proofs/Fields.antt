-- Numbers, keys and values: what is read was spelled so, and what is spelled so is read.
use Rattle.std.proofs.Common.{◌≡◌, ℕ, ◌+◌, ◌^◌, ◌<◌, ◌≤◌, Bool, true, false, cond, ltb, List, [], ◌∷◌, ◌++◌, length, take, drop, Option, Some, None, refl, sym, ap, subst, ◌∙◌, append_assoc, arith}
use Rattle.std.specs.Int.{Width, w32, w64, byte_len, from_be_bytes, to_be_bytes}
use Rattle.std.proofs.lemmas.Bool.{ltb-false, le-ltb}
use Rattle.std.proofs.lemmas.List.{take_at, drop_at, take-append-drop, length-append, length-take}
use Rattle.std.proofs.lemmas.Nat.{be_bytes_4, be_bytes_8, from_be_bytes-to_be_bytes_4, from_be_bytes-to_be_bytes_8}
use Rattle.apex_base.specs.Reading.{◌>>=◌, bytes_at, number_at, short_at}
use Rattle.apex_base.proofs.ByteLists.{AreBytes, AreBytes-drop, AreBytes-take, AreBytes-rest}
use Rattle.row_codec.specs.Batch.{value_at}

-- Steps

-- a step that gave something went on
pub bind_some : {A B : Type 0} (o : Option A) (f : A → Option B) (y : B) → (o >>= f) ≡ Some y
    → (x : A) × (o ≡ Some x) × (f x ≡ Some y)
bind_some (Some x) f y e = (x, refl, e)
bind_some None f y e = absurd cc

pub refused_if : {A : Type 0} (b : Bool) (x y : A) → cond b None (Some x) ≡ Some y → (b ≡ false) × (x ≡ y)
refused_if true x y e = absurd cc
refused_if false x y e = (refl, cc)

pub taken_if : {A : Type 0} (b : Bool) (x y : A) → cond b (Some x) None ≡ Some y → (b ≡ true) × (x ≡ y)
taken_if true x y e = (refl, cc)
taken_if false x y e = absurd cc

-- what a reader took from the front, and what is left
pub record Takes (bytes text rest : List ℕ) : Type 0 where
  pub parts : bytes ≡ text ++ rest
  pub rest_fits : AreBytes rest

pub Takes-then : (a x b y c : List ℕ) → Takes a x b → Takes b y c → Takes a (x ++ y) c
Takes-then a x b y c p q = record {
  parts = p.parts ∙ ap (λ (t : List ℕ). x ++ t) q.parts ∙ sym (append_assoc x y c);
  rest_fits = q.rest_fits;
}

pub bytes_take : (n : ℕ) (bytes : List ℕ) (x : List ℕ × List ℕ) → AreBytes bytes → bytes_at n bytes ≡ Some x
    → Takes bytes x.0 x.1 × (length x.0 ≡ n) × AreBytes x.0
unfolding bytes_at
bytes_take n bytes x fits e =
    let g = refused_if (ltb (length bytes) n) (take n bytes, drop n bytes) x e in
    let long : n ≤ length bytes = ltb-false _ _ g.0 in
    let made : Takes bytes (take n bytes) (drop n bytes) =
    record { parts = sym (take-append-drop n bytes); rest_fits = AreBytes-drop n bytes fits } in
    subst (λ (y : List ℕ × List ℕ). Takes bytes y.0 y.1 × (length y.0 ≡ n) × AreBytes y.0) g.1
    (made, omega (arith, length-take n bytes), AreBytes-take n bytes fits)

pub bytes_again : (text rest : List ℕ) → bytes_at (length text) (text ++ rest) ≡ Some (text, rest)
unfolding bytes_at
bytes_again text rest =
    rw (
      le-ltb (length (text ++ rest)) (length text) (omega (arith, length-append text rest)),
      take_at text rest (length text) refl,
      drop_at text rest (length text) refl,
    ) refl

-- Numbers

pub record IsWide (w : Width) (limit : ℕ) : Type 0 where
  pub len : (n : ℕ) → length (to_be_bytes w n) ≡ byte_len w
  pub back : (bytes : List ℕ) → length bytes ≡ byte_len w → AreBytes bytes
      → to_be_bytes w (from_be_bytes w bytes) ≡ bytes
  pub again : (n : ℕ) → n < limit → from_be_bytes w (to_be_bytes w n) ≡ n
  pub below : (bytes : List ℕ) → AreBytes bytes → from_be_bytes w bytes < limit

pub wide32 : IsWide w32 (2 ^ 32)
wide32 = record {
  len = λ n. refl;
  back = λ bytes len fits. be_bytes_4 bytes _ len fits refl;
  again = λ n lt. from_be_bytes-to_be_bytes_4 n lt;
  below = λ bytes fits. omega (arith, fits 0, fits 1, fits 2, fits 3);
}

pub wide64 : IsWide w64 (2 ^ 64)
wide64 = record {
  len = λ n. refl;
  back = λ bytes len fits. be_bytes_8 bytes _ len fits refl;
  again = λ n lt. from_be_bytes-to_be_bytes_8 n lt;
  below = λ bytes fits. omega (arith, fits 0, fits 1, fits 2, fits 3, fits 4, fits 5, fits 6, fits 7);
}

pub number_takes : (w : Width) (limit : ℕ) (wide : IsWide w limit) (bytes : List ℕ) (x : ℕ × List ℕ) → AreBytes bytes
    → number_at w bytes ≡ Some x → Takes bytes (to_be_bytes w x.0) x.1 × (x.0 < limit)
unfolding number_at
number_takes w limit wide bytes x fits e =
    let b = bind_some (bytes_at (byte_len w) bytes) (λ digits. Some (from_be_bytes w digits.0, digits.1)) x e in
    let t = bytes_take (byte_len w) bytes b.0 fits b.1 in
    let same = wide.back b.0.0 t.1 t.2 in
    let made : Takes bytes (to_be_bytes w (from_be_bytes w b.0.0)) b.0.1 = rw same t.0 in
    subst (λ (y : ℕ × List ℕ). Takes bytes (to_be_bytes w y.0) y.1 × (y.0 < limit))
    (some_is (from_be_bytes w b.0.0, b.0.1) x b.2) (made, wide.below b.0.0 t.2)
  where
    some_is : {A : Type 0} (x y : A) → Some x ≡ Some y → x ≡ y
    some_is x y e = cc

pub number_again : (w : Width) (limit : ℕ) (wide : IsWide w limit) (n : ℕ) (rest : List ℕ) → n < limit
    → number_at w (to_be_bytes w n ++ rest) ≡ Some (n, rest)
unfolding number_at
number_again w limit wide n rest lt =
    let front : bytes_at (byte_len w) (to_be_bytes w n ++ rest) ≡ Some (to_be_bytes w n, rest) =
    subst (λ (k : ℕ). bytes_at k (to_be_bytes w n ++ rest) ≡ Some (to_be_bytes w n, rest)) (wide.len n)
    (bytes_again (to_be_bytes w n) rest) in
    rw (front, wide.again n lt) refl

-- Keys and values

pub key_takes : (bytes : List ℕ) (x : List ℕ × List ℕ) → AreBytes bytes → short_at bytes ≡ Some x
    → Takes bytes (length x.0 ∷ x.0) x.1 × (length x.0 ≤ 255)
unfolding short_at
key_takes [] x fits e = absurd cc
key_takes (n ∷ bytes) x fits e =
    let t = bytes_take n bytes x (AreBytes-rest n bytes fits) e in
    let low : n < 256 = fits 0 in
    let parts : n ∷ bytes ≡ (length x.0 ∷ x.0) ++ x.1 =
    ap (λ (m : ℕ). m ∷ bytes) (sym t.1) ∙ ap (λ (xs : List ℕ). length x.0 ∷ xs) t.0.parts in
    (record { parts = parts; rest_fits = t.0.rest_fits }, omega (arith, t.1))

pub key_again : (key rest : List ℕ) → short_at (length key ∷ key ++ rest) ≡ Some (key, rest)
unfolding short_at
key_again key rest = bytes_again key rest

pub value_takes : (bytes : List ℕ) (x : List ℕ × List ℕ) → AreBytes bytes → value_at bytes ≡ Some x
    → Takes bytes (to_be_bytes w32 (length x.0) ++ x.0) x.1 × (length x.0 < 2 ^ 32)
unfolding value_at
value_takes bytes x fits e =
    let b = bind_some (number_at w32 bytes) (λ n. bytes_at n.0 n.1) x e in
    let t = number_takes w32 (2 ^ 32) wide32 bytes b.0 fits b.1 in
    let u = bytes_take b.0.0 b.0.1 x t.0.rest_fits b.2 in
    let both = Takes-then bytes (to_be_bytes w32 b.0.0) b.0.1 x.0 x.1 t.0 u.0 in
    (subst (λ (k : ℕ). Takes bytes (to_be_bytes w32 k ++ x.0) x.1) (sym u.1) both, omega (arith, u.1, t.1))

pub value_again : (value rest : List ℕ) → length value < 2 ^ 32
    → value_at (to_be_bytes w32 (length value) ++ (value ++ rest)) ≡ Some (value, rest)
unfolding value_at
value_again value rest lt =
    rw (number_again w32 (2 ^ 32) wide32 (length value) (value ++ rest) lt) (bytes_again value rest)
