-- Numbers and short texts: what was read is spelled so.
use Rattle.std.proofs.Common.{◌≡◌, ℕ, ◌^◌, ◌<◌, ◌≤◌, ◌&&◌, Bool, true, false, cond, eqb, ltb, leb, IsTrue, List, [], ◌∷◌, ◌++◌, length, take, drop, Option, Some, None, refl, sym, ap, subst, ◌∙◌, arith}
use Rattle.std.specs.Prelude.{IfSome}
use Rattle.std.specs.Int.{w32, w64, from_be_bytes, to_be_bytes}
use Rattle.std.proofs.lemmas.Bool.{eqb-true, leb-true, ltb-false}
use Rattle.std.proofs.lemmas.List.{take-append-drop, length-take}
use Rattle.std.proofs.lemmas.Nat.{be_bytes_4, be_bytes_8}
use Rattle.apex_base.specs.Numbers.{version_of, millis_of}
use Rattle.apex_base.specs.Ranges.{IsVersion, IsMillis}
use Rattle.apex_base.specs.Reading.{byte_at, bytes_at, number_at, four_text, eight_text, short_text, short_at}
use Rattle.apex_base.specs.Spelling.{name_at, print_at, moment_at, version_number, version_of_number}
use Rattle.apex_base.specs.Text.{is_name, is_print, name_of, print_of}
use Rattle.apex_base.proofs.ByteLists.{AreBytes, AreBytes-drop, AreBytes-take, AreBytes-rest}
use Rattle.session_record.proofs.Steps.{bind_holds, Took}

-- Tests

pub if_holds : {A : Type 0} (b : Bool) (o p : Option A) (P : A → Type 0) → (b ≡ true → IfSome o P)
    → (b ≡ false → IfSome p P) → IfSome (cond b o p) P
if_holds true o p P then_holds else_holds = then_holds refl
if_holds false o p P then_holds else_holds = else_holds refl

pub taken_holds : {A : Type 0} (b : Bool) (x : A) (P : A → Type 0) → (b ≡ true → P x) → IfSome (cond b (Some x) None) P
taken_holds true x P then_holds = then_holds refl
taken_holds false x P then_holds = tt

-- one of several numbers
pub chosen_holds : {A : Type 0} (n k : ℕ) (x : A) (rest : Option A) (P : A → Type 0) → (n ≡ k → P x)
    → IfSome rest P → IfSome (cond (eqb n k) (Some x) rest) P
chosen_holds n k x rest P then_holds others =
    if_holds (eqb n k) (Some x) rest P (λ e. then_holds (eqb-true n k e)) (λ e. others)

pub both : (a b : Bool) → a && b ≡ true → (a ≡ true) × (b ≡ true)
both true b e = (refl, e)
both false b e = absurd cc

-- What was read

-- the text in another form
pub took_as : (bytes text other rest : List ℕ) → Took bytes text rest → text ≡ other → Took bytes other rest
took_as bytes text other rest t e = record { is = t.is ∙ e; rest_fits = t.rest_fits }

-- one after another
pub took_then : (bytes rest text last : List ℕ) (front : List ℕ → List ℕ) → Took bytes (front rest) rest
    → Took rest text last → Took bytes (front text) last
took_then bytes rest text last front t u = record { is = t.is ∙ ap front u.is; rest_fits = u.rest_fits }

pub byte_took : (bytes : List ℕ) → AreBytes bytes
    → IfSome (byte_at bytes) (λ x. Took bytes (x.0 ∷ x.1) x.1 × (x.0 < 256))
byte_took [] fits = tt
byte_took (b ∷ rest) fits = (record { is = refl; rest_fits = AreBytes-rest b rest fits }, fits 0)

pub bytes_took : (n : ℕ) (bytes : List ℕ) → AreBytes bytes
    → IfSome (bytes_at n bytes) (λ x. Took bytes (x.0 ++ x.1) x.1 × (length x.0 ≡ n) × AreBytes x.0)
unfolding bytes_at
bytes_took n bytes fits =
    if_holds (ltb (length bytes) n) None (Some (take n bytes, drop n bytes)) _ (λ e. tt)
    (λ e. let long : n ≤ length bytes = ltb-false _ _ e in (
      record { is = sym (take-append-drop n bytes); rest_fits = AreBytes-drop n bytes fits },
      omega (arith, length-take n bytes),
      AreBytes-take n bytes fits,
    ))

pub four_took : (bytes : List ℕ) → AreBytes bytes
    → IfSome (number_at w32 bytes) (λ x. Took bytes (four_text x.0 x.1) x.1 × (x.0 < 2 ^ 32))
unfolding number_at
four_took bytes fits =
    bind_holds (bytes_at 4 bytes) _ _ _ (bytes_took 4 bytes fits) (λ digits t.
    let back : to_be_bytes w32 (from_be_bytes w32 digits.0) ≡ digits.0 = be_bytes_4 digits.0 _ t.1 t.2 refl in (
      took_as bytes (digits.0 ++ digits.1) _ digits.1 t.0 (ap (λ (xs : List ℕ). xs ++ digits.1) (sym back)),
      omega (arith, t.2 0, t.2 1, t.2 2, t.2 3),
    ))

pub eight_took : (bytes : List ℕ) → AreBytes bytes
    → IfSome (number_at w64 bytes) (λ x. Took bytes (eight_text x.0 x.1) x.1 × (x.0 < 2 ^ 64))
unfolding number_at
eight_took bytes fits =
    bind_holds (bytes_at 8 bytes) _ _ _ (bytes_took 8 bytes fits) (λ digits t.
    let back : to_be_bytes w64 (from_be_bytes w64 digits.0) ≡ digits.0 = be_bytes_8 digits.0 _ t.1 t.2 refl in (
      took_as bytes (digits.0 ++ digits.1) _ digits.1 t.0 (ap (λ (xs : List ℕ). xs ++ digits.1) (sym back)),
      omega (arith, t.2 0, t.2 1, t.2 2, t.2 3, t.2 4, t.2 5, t.2 6, t.2 7),
    ))

short_took : (bytes : List ℕ) → AreBytes bytes
    → IfSome (short_at bytes) (λ x. Took bytes (short_text x.0 x.1) x.1)
unfolding short_at
short_took [] fits = tt
short_took (n ∷ bytes) fits = as_short (bytes_at n bytes) (bytes_took n bytes (AreBytes-rest n bytes fits))
  where
    as_short : (o : Option (List ℕ × List ℕ))
        → IfSome o (λ x. Took bytes (x.0 ++ x.1) x.1 × (length x.0 ≡ n) × AreBytes x.0)
        → IfSome o (λ x. Took (n ∷ bytes) (short_text x.0 x.1) x.1)
    as_short None t = tt
    as_short (Some (text, rest)) t = record {
      is = ap (λ (xs : List ℕ). n ∷ xs) t.0.is ∙ ap (λ (k : ℕ). k ∷ text ++ rest) (sym t.1);
      rest_fits = t.0.rest_fits;
    }

pub name_took : (bytes : List ℕ) → AreBytes bytes
    → IfSome (name_at bytes) (λ x. Took bytes (short_text x.0 x.1) x.1 × IsTrue (is_name x.0))
unfolding name_at
name_took bytes fits =
    bind_holds (short_at bytes) _ _ _ (short_took bytes fits) (λ text t.
    bind_holds (name_of text.0) _ (λ name. (name ≡ text.0) × IsTrue (is_name text.0)) _
    (taken_holds (is_name text.0) text.0 _ (λ e. (refl, e))) (λ name is. rw is.0 (t, is.1)))

pub print_took : (bytes : List ℕ) → AreBytes bytes
    → IfSome (print_at bytes) (λ x. Took bytes (short_text x.0 x.1) x.1 × IsTrue (is_print x.0))
unfolding print_at
print_took bytes fits =
    bind_holds (short_at bytes) _ _ _ (short_took bytes fits) (λ text t.
    bind_holds (print_of text.0) _ (λ print. (print ≡ text.0) × IsTrue (is_print text.0)) _
    (taken_holds (is_print text.0) text.0 _ (λ e. (refl, e))) (λ print is. rw is.0 (t, is.1)))

pub moment_took : (bytes : List ℕ) → AreBytes bytes
    → IfSome (moment_at bytes) (λ x. Took bytes (eight_text x.0 x.1) x.1 × IsMillis x.0)
unfolding moment_at
moment_took bytes fits =
    bind_holds (number_at w64 bytes) _ _ _ (eight_took bytes fits) (λ n t.
    bind_holds (millis_of n.0) _ (λ moment. (moment ≡ n.0) × IsMillis n.0) _
    (taken_holds (leb n.0 9007199254740991) n.0 _ (λ e. (refl, leb-true _ _ e))) (λ moment is. rw is.0 (t.0, is.1)))

pub version_took : (n : ℕ) → IfSome (version_of n) (λ v. (v ≡ n) × IsVersion n)
version_took n =
    taken_holds (leb 1 n && leb n 9223372036854775807) n _ (λ e.
    let ranges = both _ _ e in (refl, (leb-true _ _ ranges.0, leb-true _ _ ranges.1)))

-- a version, or 0 for none
pub some_version_took : (n : ℕ)
    → IfSome (version_of_number n) (λ v. (n ≡ version_number v) × IfSome v IsVersion)
some_version_took n =
    chosen_holds n 0 None _ _ (λ e. (e, tt)) (as_version (version_of n) (version_took n))
  where
    as_version : (v : Option ℕ) → IfSome v (λ v. (v ≡ n) × IsVersion n)
        → IfSome (Rattle.apex_base.specs.Spelling.some_version v) (λ v. (n ≡ version_number v) × IfSome v IsVersion)
    as_version None t = tt
    as_version (Some v) t = (sym t.0, subst IsVersion (sym t.0) t.1)
