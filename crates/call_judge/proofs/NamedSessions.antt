-- Sessions by names, one name after another. Callers want `room_put`, `more_room`, `entered`, `added_first`,
-- `added_again`, `given_up`, `kept_on` and `found_more`.
use Rattle.std.proofs.Common.{◌≡◌, ℕ, ◌+◌, ◌-◌, ◌<◌, ◌≤◌, arith, drop, Bool, true, false, cond, ◌&&◌, ◌||◌, List, [], ◌∷◌, ◌++◌, find, take}
use Rattle.std.proofs.Common.{get_or, length, Option, Some, None, is_some, Result, Ok, Err, sym, ap, ◌∙◌, refl}
use Rattle.std.specs.BTreeMap as tree
use Rattle.std.specs.Cmp.Lexicographic.{slice_cmp}
use Rattle.std.specs.Option.{option_map, option_or}
use Rattle.std.specs.Ordering.{nat_cmp, is_eq}
use Rattle.std.specs.Prelude.{option_and_then, OnOk, OnErr}
use Rattle.std.specs.Str.{bytes_eq}
use Rattle.std.proofs.lemmas.List.{take_more, take_all}
use Rattle.std.proofs.lemmas.List.Folds.{find-append}
use Rattle.std.proofs.lemmas.Map.Text.{is_eq-slice_cmp}
use Rattle.std.proofs.lemmas.Slice.Eq.{bytes_eq-Decides}
use Rattle.apex_base.specs.declared.numbers.SessionId.{SessionId}
use Rattle.apex_base.specs.declared.records.Part.{Part}
use Rattle.apex_base.specs.declared.records.Record.{Record}
use Rattle.apex_base.specs.Held.{is_unfinished}
use Rattle.apex_base.specs.Sessions.{names}
use Rattle.call_judge.specs.Unfinished.{ByName, under, has_name, is_session, without, unfinished_with, HaveRoom}

abbrev get : ByName → List ℕ → Option (Option SessionId)
get m name = tree.get (slice_cmp nat_cmp) m name

abbrev flat : Option (Option SessionId) → Option SessionId
flat o = option_and_then (λ id. id) o

-- what stands at each key once one has this value
abbrev pub Puts : ByName → ByName → List ℕ → Option (Option SessionId) → Type 0
Puts m n k v = (q : List ℕ) → get n q ≡ cond (is_eq (slice_cmp nat_cmp k q)) v (get m q)

flat_if : (b : Bool) (v o : Option (Option SessionId)) → flat (cond b v o) ≡ cond b (flat v) (flat o)
flat_if true v o = refl
flat_if false v o = refl

module _ (m n : ByName) (k : List ℕ) where
  pub under_put : (v : Option (Option SessionId)) → Puts m n k v → (q : List ℕ)
      → under n q ≡ cond (bytes_eq k q) (flat v) (under m q)
  under_put v puts q =
      ap flat (puts q) ∙ flat_if (is_eq (slice_cmp nat_cmp k q)) v (get m q)
      ∙ ap (λ (b : Bool). cond b (flat v) (under m q)) (is_eq-slice_cmp k q)

  same_if : (b : Bool) (q : List ℕ) → bytes_eq k q ≡ b → under m k ≡ None → cond b None (under m q) ≡ under m q
  same_if true q e none = sym none ∙ ap (under m) ((bytes_eq-Decides k q).0 e)
  same_if false q e none = refl

  -- room where nothing stood is no session
  pub room_put : None ≡ get m k → Puts m n k (Some None) → (q : List ℕ) → under n q ≡ under m q
  room_put none puts q =
      under_put (Some None) puts q ∙ same_if (bytes_eq k q) q refl (ap flat (sym none))

  there_if : (b : Bool) (v : Option SessionId) (o : Option (Option SessionId)) → is_some o ≡ true
      → is_some (cond b (Some v) o) ≡ true
  there_if true v o e = refl
  there_if false v o e = e

  -- room stays where something is put
  pub more_room : (v : Option SessionId) → Puts m n k (Some v) → (q : List ℕ) → is_some (get m q) ≡ true
      → is_some (get n q) ≡ true
  more_room v puts q there =
      ap is_some (puts q) ∙ there_if (is_eq (slice_cmp nat_cmp k q)) v (get m q) there

  pub more_rooms : (v : Option SessionId) → Puts m n k (Some v) → (ps : List Part) → HaveRoom m ps → HaveRoom n ps
  more_rooms v puts [] rooms = tt
  more_rooms v puts (p ∷ ps) rooms = (more_room v puts p.name rooms.0, more_rooms v puts ps rooms.1)

  -- A new session enters

  twice : (a b : Bool) (x y : Option SessionId) → cond b x (cond a x y) ≡ cond (a || b) x y
  twice true true x y = refl
  twice true false x y = refl
  twice false b x y = refl

  pub entered : (id : SessionId) (rest : List Part) → Puts m n k (Some (Some id)) → (q : List ℕ)
      → cond (has_name rest q) (Some id) (under n q) ≡ cond (bytes_eq k q || has_name rest q) (Some id) (under m q)
  entered id rest puts q =
      ap (λ (o : Option SessionId). cond (has_name rest q) (Some id) o) (under_put (Some (Some id)) puts q)
      ∙ twice (bytes_eq k q) (has_name rest q) (Some id) (under m q)

-- A front element and what follows it

pub rest_is : {X : Type 0} (xs : List X) (x : X) → 1 ≤ length xs → x ≡ get_or xs 0 x
    → xs ≡ x ∷ take (length xs - 1) (drop 1 xs)
rest_is [] x some is = absurd (omega (arith, some))
rest_is (y ∷ ys) x some is =
    let n : length (y ∷ ys) - 1 ≡ length ys = omega arith in
    ap (λ z. z ∷ ys) (sym is) ∙ ap (λ zs. x ∷ zs) (sym (take_all (length (y ∷ ys) - 1) ys (omega (arith, n))))

-- A session is added where none is

or_none : (o : Option SessionId) → option_or o None ≡ o
or_none None = refl
or_none (Some x) = refl

both : (a b : Bool) (x o : Option SessionId)
    → option_or (option_or o (cond a x None)) (cond b x None) ≡ option_or o (cond (a || b) x None)
both a b x (Some y) = refl
both true true None None = refl
both true true (Some y) None = refl
both true false None None = refl
both true false (Some y) None = refl
both false b x None = refl

module _ (m n : ByName) (k : List ℕ) (id : SessionId) (rest : List Part) where
  first_if : (b : Bool) (q : List ℕ) → bytes_eq k q ≡ b → under m k ≡ None
      → cond b (Some id) (under m q) ≡ option_or (under m q) (cond b (Some id) None)
  first_if true q e none =
      ap (λ (o : Option SessionId). option_or o (Some id)) (sym none ∙ ap (under m) ((bytes_eq-Decides k q).0 e))
  first_if false q e none = sym (or_none (under m q))

  -- where none is
  pub added_first : None ≡ under m k → Puts m n k (Some (Some id)) → (q : List ℕ)
      → option_or (under n q) (cond (has_name rest q) (Some id) None)
      ≡ option_or (under m q) (cond (bytes_eq k q || has_name rest q) (Some id) None)
  added_first none puts q =
      ap (λ (o : Option SessionId). option_or o (cond (has_name rest q) (Some id) None))
      (under_put m n k (Some (Some id)) puts q ∙ first_if (bytes_eq k q) q refl (sym none))
      ∙ both (bytes_eq k q) (has_name rest q) (Some id) (under m q)

  some_or : (o x : Option SessionId) → is_some o ≡ true → o ≡ option_or o x
  some_or None x e = absurd (cc)
  some_or (Some y) x e = refl

  again_if : (b : Bool) (q : List ℕ) → bytes_eq k q ≡ b → is_some (under m k) ≡ true
      → under m q ≡ option_or (under m q) (cond b (Some id) None)
  again_if true q e there =
      some_or (under m q) (Some id) (ap (λ (a : List ℕ). is_some (under m a)) (sym ((bytes_eq-Decides k q).0 e)) ∙ there)
  again_if false q e there = sym (or_none (under m q))

  -- where there is one
  pub added_again : is_some (under m k) ≡ true → (q : List ℕ)
      → option_or (under m q) (cond (has_name rest q) (Some id) None)
      ≡ option_or (under m q) (cond (bytes_eq k q || has_name rest q) (Some id) None)
  added_again there q =
      ap (λ (o : Option SessionId). option_or o (cond (has_name rest q) (Some id) None))
      (again_if (bytes_eq k q) q refl there)
      ∙ both (bytes_eq k q) (has_name rest q) (Some id) (under m q)

  -- A session gives its names up

  none_left : (b : Bool) → without b id None ≡ None
  none_left true = refl
  none_left false = refl

  both_if : (t a b : Bool) (o : Option SessionId) → is_session id o ≡ t
      → without b id (cond (a && t) None o) ≡ cond ((a || b) && t) None o
  both_if true true b o e = none_left b
  both_if true false b o e = ap (λ (c : Bool). cond (b && c) None o) e
  both_if false true true o e = ap (λ (c : Bool). cond c None o) e
  both_if false true false o e = refl
  both_if false false b o e = ap (λ (c : Bool). cond (b && c) None o) e

  without_both : (a b : Bool) (o : Option SessionId) → without b id (without a id o) ≡ without (a || b) id o
  without_both a b o = both_if (is_session id o) a b o refl

  at_name : (q : List ℕ) (t : Bool) → bytes_eq k q ≡ true → is_session id (under m k) ≡ t
      → is_session id (under m q) ≡ t
  at_name q t e is = ap (λ (a : List ℕ). is_session id (under m a)) (sym ((bytes_eq-Decides k q).0 e)) ∙ is

  gone_if : (b : Bool) (q : List ℕ) → bytes_eq k q ≡ b → is_session id (under m k) ≡ true
      → cond b None (under m q) ≡ without b id (under m q)
  gone_if true q e is = ap (λ (t : Bool). cond t None (under m q)) (sym (at_name q true e is))
  gone_if false q e is = refl

  -- where the name is its own
  pub given_up : is_session id (under m k) ≡ true → Puts m n k None → (q : List ℕ)
      → without (has_name rest q) id (under n q) ≡ without (bytes_eq k q || has_name rest q) id (under m q)
  given_up is puts q =
      ap (without (has_name rest q) id) (under_put m n k None puts q ∙ gone_if (bytes_eq k q) q refl is)
      ∙ without_both (bytes_eq k q) (has_name rest q) (under m q)

  stays_if : (b : Bool) (q : List ℕ) → bytes_eq k q ≡ b → is_session id (under m k) ≡ false
      → under m q ≡ without b id (under m q)
  stays_if true q e is = ap (λ (t : Bool). cond t None (under m q)) (sym (at_name q false e is))
  stays_if false q e is = refl

  -- where it isn't
  pub kept_on : is_session id (under m k) ≡ false → (q : List ℕ)
      → without (has_name rest q) id (under m q) ≡ without (bytes_eq k q || has_name rest q) id (under m q)
  kept_on is q =
      ap (without (has_name rest q) id) (stays_if (bytes_eq k q) q refl is)
      ∙ without_both (bytes_eq k q) (has_name rest q) (under m q)

-- One session more

abbrev pub test : List ℕ → Record → Bool
test name r = is_unfinished r.state && names name r

one_more : (b : Bool) (r : Record) (o : Option Record)
    → option_map (λ (x : Record). x.id) (option_or o (cond b (Some r) None))
    ≡ option_or (option_map (λ (x : Record). x.id) o) (cond b (Some r.id) None)
one_more true r None = refl
one_more false r None = refl
one_more b r (Some x) = refl

pub found_more : (xs : List Record) (i : ℕ) (r : Record) (name : List ℕ) → i < length xs → r ≡ get_or xs i r
    → unfinished_with (take (i + 1) xs) name
    ≡ option_or (unfinished_with (take i xs) name) (cond (test name r) (Some r.id) None)
found_more xs i r name low at =
    ap (λ (ys : List Record). unfinished_with ys name)
    (take_more xs i r low ∙ ap (λ (x : Record). take i xs ++ x ∷ []) (sym at))
    ∙ ap (option_map (λ (x : Record). x.id)) (find-append (test name) (take i xs) (r ∷ []))
    ∙ one_more (test name r) r (find (test name) (take i xs))

-- an unfinished one more
pub noted_one : (xs : List Record) (i : ℕ) (r : Record) (name : List ℕ) → i < length xs → r ≡ get_or xs i r
    → is_unfinished r.state ≡ true → (before after : Option SessionId) (ps : List Part) → ps ≡ r.parts
    → before ≡ unfinished_with (take i xs) name
    → after ≡ option_or before (cond (has_name ps name) (Some r.id) None)
    → after ≡ unfinished_with (take (i + 1) xs) name
noted_one xs i r name low at is before after ps same so_far more =
    more ∙ ap (λ (o : Option SessionId). option_or o (cond (has_name ps name) (Some r.id) None)) so_far
    ∙ ap (λ (qs : List Part). option_or (unfinished_with (take i xs) name) (cond (has_name qs name) (Some r.id) None)) same
    ∙ ap (λ (b : Bool). option_or (unfinished_with (take i xs) name) (cond (b && names name r) (Some r.id) None)) (sym is)
    ∙ sym (found_more xs i r name low at)

-- a finished one more
pub skipped_one : (xs : List Record) (i : ℕ) (r : Record) (name : List ℕ) → i < length xs → r ≡ get_or xs i r
    → is_unfinished r.state ≡ false → unfinished_with (take i xs) name ≡ unfinished_with (take (i + 1) xs) name
skipped_one xs i r name low at is =
    sym (or_none (unfinished_with (take i xs) name))
    ∙ ap (λ (b : Bool). option_or (unfinished_with (take i xs) name) (cond (b && names name r) (Some r.id) None)) (sym is)
    ∙ sym (found_more xs i r name low at)

-- Results

-- what a success has, where it can't fail
pub must_be : {X Y P Q : Type 0} (r : Result X Y) → OnOk r P → OnErr r Q → (Q → ⊥) → P
must_be (Ok x) has fails never = has
must_be (Err y) has fails never = absurd (never fails)

pub then_on : {X Y P Q : Type 0} (r : Result X Y) → (P → Q) → OnOk r P → OnOk r Q
then_on (Ok x) f has = f has
then_on (Err y) f has = tt

pub none_there : {X : Type 0} (o : Option X) → o ≡ None → is_some o ≡ true → ⊥
none_there None e f = absurd (cc)
none_there (Some x) e f = absurd (cc)
