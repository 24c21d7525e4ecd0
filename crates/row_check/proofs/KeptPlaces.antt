-- What is read from keys of what sessions keep, and tests of all sessions of a boot. Callers want `place_key`,
-- `place_again`, `no_place`, `value_is`, `is_value_there`, `all_in` and `some_fails`.
use Rattle.std.proofs.Common.{◌≡◌, ℕ, ◌<◌, ◌^◌, Bool, true, false, ◌&&◌, List, [], ◌∷◌, ◌++◌, Option, Some, None}
use Rattle.std.proofs.Common.{ap, subst, ◌∙◌, refl, inl, inr}
use Rattle.std.specs.Prelude.{IfSome}
use Rattle.std.specs.Int.{w32}
use Rattle.std.specs.List.{list_all}
use Rattle.std.proofs.lemmas.Slice.Eq.{bytes_eq-Decides}
use Rattle.apex_base.specs.declared.numbers.SessionId.{SessionId}
use Rattle.apex_base.specs.declared.records.Record.{Record}
use Rattle.apex_base.specs.Keys.{id_of, id_text}
use Rattle.apex_base.specs.Members.{In}
use Rattle.apex_base.specs.Reading.{◌>>=◌, number_at, short_at, short_text, four_text}
use Rattle.apex_base.specs.Sessions.{session_of}
use Rattle.apex_base.proofs.SpellingLemmas.{four_again, short_again}
use Rattle.session_record.proofs.Steps.{Took}
use Rattle.session_record.proofs.Took.{four_took}
use Rattle.row_check.specs.RightKept.{place_in}
use Rattle.row_check.specs.RightRows.{is_value}
use Rattle.row_key.specs.RowBytes.{FitBytes}
use Rattle.row_check.proofs.KeysRead.{short_is}

-- Values

pub value_is : (o : Option (List ℕ)) (v : List ℕ) → is_value o v ≡ true → o ≡ Some v
value_is None v e = absurd (cc e)
value_is (Some u) v e = ap (λ (x : List ℕ). Some x) ((bytes_eq-Decides u v).0 e)

pub is_value_there : (o : Option (List ℕ)) (v : List ℕ) → o ≡ Some v → is_value o v ≡ true
is_value_there o v e = ap (λ (o : Option (List ℕ)). is_value o v) e ∙ (bytes_eq-Decides v v).1 refl

-- Tests of each element

fails_if : {X : Type 0} (p : X → Bool) (b : Bool) (y : X) (ys : List X) → p y ≡ b → (b && list_all p ys) ≡ false
    → (list_all p ys ≡ false → (x : X) × In x ys × (p x ≡ false)) → (x : X) × In x (y ∷ ys) × (p x ≡ false)
fails_if p false y ys e f more = (y, inl refl, e)
fails_if p true y ys e f more = let (x, h, g) = more f in (x, inr h, g)

-- where not all pass, one fails
pub some_fails : {X : Type 0} (p : X → Bool) (xs : List X) → list_all p xs ≡ false → (x : X) × In x xs × (p x ≡ false)
some_fails p [] e = absurd (cc e)
some_fails p (y ∷ ys) e = fails_if p (p y) y ys refl e (some_fails p ys)

-- Places

abbrev pub Place : Type 0
Place = Record × List ℕ × List ℕ × List ℕ

-- how a place was read
pub record IsPlace (sessions : List Record) (rest : List ℕ) (p : Place) : Type 0 where
  pub id : ℕ
  pub number : number_at w32 rest ≡ Some (id, p.3)
  pub short : short_at p.3 ≡ Some (p.1, p.2)
  pub there : session_of sessions (id_of id) ≡ Some p.0

-- a step that gave something went on
pub next_is : {A B : Type 0} (o : Option A) (f : A → Option B) (y : B) → (o >>= f) ≡ Some y
    → (x : A) × (o ≡ Some x) × (f x ≡ Some y)
next_is None f y e = absurd (cc e)
next_is (Some x) f y e = (x, refl, e)

module _ (sessions : List Record) where
  place_read : (rest : List ℕ) (p : Place) → place_in sessions rest ≡ Some p → IsPlace sessions rest p
  place_read rest p e =
      let (x, a, f) = next_is (number_at w32 rest) _ p e in
      let (y, b, g) = next_is (short_at x.1) _ p f in
      let (r, c, h) = next_is (session_of sessions (id_of x.0)) _ p g in
      let same : ◌≡◌ {A = Place} (r, y.0, y.1, x.1) p = cc h in
      subst (IsPlace sessions rest) same (record { id = x.0; number = a; short = b; there = c })

  -- the place of a key whose session is there
  pub place_again : (id : SessionId) (name key : List ℕ) (r : Record) → id.0 < 2 ^ 32
      → session_of sessions id ≡ Some r
      → place_in sessions (id_text id ++ short_text name key) ≡ Some (r, name, key, short_text name key)
  place_again id name key r low e =
      rw (four_again id.0 (short_text name key) low, short_again name key, e) refl

  -- and of one whose session isn't
  pub no_place : (id : SessionId) (name key : List ℕ) → id.0 < 2 ^ 32 → session_of sessions id ≡ None
      → place_in sessions (id_text id ++ short_text name key) ≡ None
  no_place id name key low e = rw (four_again id.0 (short_text name key) low, short_again name key, e) refl

  -- the key of a place, if it is bytes
  pub record HasKey (rest : List ℕ) (p : Place) : Type 0 where
    pub id : SessionId
    pub low : id.0 < 2 ^ 32
    pub there : session_of sessions id ≡ Some p.0
    pub under : p.3 ≡ short_text p.1 p.2
    pub is : rest ≡ id_text id ++ short_text p.1 p.2

  pub place_key : (rest : List ℕ) (p : Place) → FitBytes rest → place_in sessions rest ≡ Some p → HasKey rest p
  place_key rest p fits e =
      let read = place_read rest p e in
      let took : Took rest (four_text read.id p.3) p.3 × (read.id < 2 ^ 32) =
      subst (λ (o : Option (ℕ × List ℕ)). IfSome o (λ x. Took rest (four_text x.0 x.1) x.1 × (x.0 < 2 ^ 32)))
      read.number (four_took rest fits) in
      let under : p.3 ≡ short_text p.1 p.2 = short_is p.3 p.1 p.2 read.short in
      record {
        id = id_of read.id;
        low = took.1;
        there = read.there;
        under = under;
        is = took.0.is ∙ ap (four_text read.id) under;
      }
