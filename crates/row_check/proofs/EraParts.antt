-- What names had before boots, put together value by value. Callers want `held_value`, `put_value`, `first_at`,
-- `name_adds`, `parts_or`, `all_or`, `adds_none`, `step_or` and `are_eras`.
use Rattle.std.proofs.Common.{◌≡◌, ℕ, ◌<◌, ◌^◌, Bool, true, false, cond, eqb, ◌&&◌, ◌||◌, List, [], ◌∷◌, ◌++◌, length}
use Rattle.std.proofs.Common.{Option, Some, None, sym, ap, ◌∙◌, refl}
use Rattle.std.specs.Int.{w32, to_be_bytes}
use Rattle.std.specs.List.{filter, list_any}
use Rattle.std.specs.Option.{option_or, is_some}
use Rattle.std.specs.Str.{bytes_eq}
use Rattle.std.specs.Cmp.Lexicographic.{slice_cmp, nat_list_cmp_total}
use Rattle.std.specs.Ordering.{nat_cmp}
use Rattle.std.specs.FinMap as fin
use Rattle.std.specs.FinMap.{get-empty, get-insert}
use Rattle.std.proofs.lemmas.Bool.{eqb-true, eq-eqb}
use Rattle.std.proofs.lemmas.List.{append_assoc, append-nil}
use Rattle.std.proofs.lemmas.Slice.Eq.{bytes_eq-Decides}
use Rattle.apex_base.specs.declared.numbers.SessionId.{SessionId}
use Rattle.apex_base.specs.declared.records.Part.{Part}
use Rattle.apex_base.specs.declared.records.Record.{Record}
use Rattle.apex_base.specs.Keys.{RowMap, id_text}
use Rattle.apex_base.specs.Reading.{number_at, short_at, short_text}
use Rattle.apex_base.specs.Sessions.{names}
use Rattle.apex_base.specs.Text.{is_name}
use Rattle.apex_base.proofs.RowMaps.{same_bytes}
use Rattle.apex_base.proofs.SpellingLemmas.{four_again, short_again}
use Rattle.apex_world.specs.Opened.{activated_at}
use Rattle.row_map.specs.Room.{same_key}
use Rattle.row_check.specs.KeptRows.{counting, first_kept, is_boot, era_key, AreEras}
use Rattle.row_key.specs.Kept.{key_under, kept_text}
use Rattle.row_check.specs.EraSteps.{Adds, kept_of_name, kept_of_parts, kept_of_session, kept_of_all}
use Rattle.row_check.specs.RowFronts.{rows_after}
use Rattle.row_check.proofs.RowsWalked.{same_after, find_after, none_there}

abbrev Rows : Type 0
Rows = List (List ℕ × List ℕ)

abbrev Value : Type 0
Value = Option (List ℕ)

-- The first of two

or_none : (o : Value) → option_or o None ≡ o
or_none None = refl
or_none (Some v) = refl

or_first : (o p : Value) → is_some o ≡ true → o ≡ option_or o p
or_first None p e = absurd (cc e)
or_first (Some v) p e = refl

or_same : (o : Value) → option_or o o ≡ o
or_same None = refl
or_same (Some v) = refl

or_assoc : (a b c : Value) → option_or (option_or a b) c ≡ option_or a (option_or b c)
or_assoc None b c = refl
or_assoc (Some v) b c = refl

is_none : (o : Value) → is_some o ≡ false → o ≡ None
is_none None e = refl
is_none (Some v) e = absurd (cc e)

-- a step of a loop that adds: what is there now, and what is left, is all
pub step_or : (old now x rest more all : Value) → now ≡ option_or old x → option_or x rest ≡ more
    → option_or old more ≡ all → option_or now rest ≡ all
step_or old now x rest more all is joined whole =
    ap (λ (o : Value). option_or o rest) is ∙ or_assoc old x rest ∙ ap (option_or old) joined ∙ whole

-- where nothing is left it is there
pub last_or : (now all : Value) → option_or now None ≡ all → now ≡ all
last_or now all is = sym (or_none now) ∙ is

-- A value is added

held_if : (b : Bool) (m : RowMap) (key value q : List ℕ) → same_key q key ≡ b → is_some (fin.get m key) ≡ true
    → fin.get m q ≡ option_or (fin.get m q) (cond b (Some value) None)
held_if true m key value q same there =
    or_first (fin.get m q) (Some value) (ap (λ (k : List ℕ). is_some (fin.get m k)) (same_bytes q key same) ∙ there)
held_if false m key value q same there = sym (or_none (fin.get m q))

-- where a key has one, nothing changes
pub held_value : (m : RowMap) (key value : List ℕ) → is_some (fin.get m key) ≡ true → (q : List ℕ)
    → fin.get m q ≡ option_or (fin.get m q) (cond (same_key q key) (Some value) None)
held_value m key value there q = held_if (same_key q key) m key value q refl there

put_if : (b : Bool) (m : RowMap) (key value q : List ℕ) → same_key q key ≡ b → is_some (fin.get m key) ≡ false
    → cond b (Some value) (fin.get m q) ≡ option_or (fin.get m q) (cond b (Some value) None)
put_if true m key value q same gone =
    sym (ap (λ (o : Value). option_or o (Some value))
    (ap (λ (k : List ℕ). fin.get m k) (same_bytes q key same) ∙ is_none (fin.get m key) gone))
put_if false m key value q same gone = sym (or_none (fin.get m q))

-- where it has none, it gets it
pub put_value : (m m' : RowMap) (key value stored : List ℕ) → stored ≡ value → is_some (fin.get m key) ≡ false
    → m' ≡ fin.insert m key stored → (q : List ℕ)
    → fin.get m' q ≡ option_or (fin.get m q) (cond (same_key q key) (Some value) None)
put_value m m' key value stored same gone is q =
    ap (λ (m : RowMap). fin.get m q) (is ∙ ap (fin.insert m key) same) ∙ get-insert nat_list_cmp_total m key value q
    ∙ put_if (same_key q key) m key value q refl gone

-- The values of one name

-- what the rows after a front add at a key: the first of them whose key is one
abbrev pub first_at : List ℕ → Rows → List ℕ → Value
first_at front [] q = None
first_at front (row ∷ rows) q =
    option_or (cond (is_name row.0 && same_key q (front ++ row.0)) (Some row.1) None) (first_at front rows q)

and_true : (b : Bool) → (b && true) ≡ b
and_true true = refl
and_true false = refl

and_false : (b : Bool) → (b && false) ≡ false
and_false true = refl
and_false false = refl

named_alike : (b : Bool) (key k : List ℕ) → same_key key k ≡ b → (is_name k && b) ≡ (is_name key && b)
named_alike true key k same = ap (λ (k : List ℕ). is_name k && true) (sym (same_bytes key k same))
named_alike false key k same = and_false (is_name k) ∙ sym (and_false (is_name key))

cond_or : (a b : Bool) (v : List ℕ) (o : Value)
    → option_or (cond (a && b) (Some v) None) (cond a o None) ≡ cond a (cond b (Some v) o) None
cond_or false b v o = refl
cond_or true true v o = refl
cond_or true false v o = refl

no_cond : (b : Bool) → ◌≡◌ {A = Value} None (cond b None None)
no_cond true = refl
no_cond false = refl

at_front : (front key : List ℕ) (es : Rows)
    → first_at front es (front ++ key) ≡ cond (is_name key) (fin.find (slice_cmp nat_cmp) key es) None
at_front front key [] = no_cond (is_name key)
at_front front key (row ∷ rows) =
    ap (λ (b : Bool). option_or (cond (is_name row.0 && b) (Some row.1) None) (first_at front rows (front ++ key)))
    (same_after front key row.0)
    ∙ ap (λ (b : Bool). option_or (cond b (Some row.1) None) (first_at front rows (front ++ key)))
    (named_alike (same_key key row.0) key row.0 refl)
    ∙ ap (option_or (cond (is_name key && same_key key row.0) (Some row.1) None)) (at_front front key rows)
    ∙ cond_or (is_name key) (same_key key row.0) row.1 (fin.find (slice_cmp nat_cmp) key rows)

other_if : (b a : Bool) (front q k v : List ℕ) (o : Value) → same_key q (front ++ k) ≡ b
    → ((k : List ℕ) → q ≡ front ++ k → ⊥) → o ≡ None → option_or (cond (a && b) (Some v) None) o ≡ None
other_if true a front q k v o same none is = absurd (none k (same_bytes q (front ++ k) same))
other_if false a front q k v o same none is =
    ap (λ (b : Bool). option_or (cond b (Some v) None) o) (and_false a) ∙ is

at_other : (front q : List ℕ) (es : Rows) → ((k : List ℕ) → q ≡ front ++ k → ⊥) → first_at front es q ≡ None
at_other front q [] none = refl
at_other front q (row ∷ rows) none =
    other_if (same_key q (front ++ row.0)) (is_name row.0) front q row.0 row.1 (first_at front rows q) refl none
    (at_other front q rows none)

-- Fronts

short_front : (name key : List ℕ) → short_text name [] ++ key ≡ short_text name key
short_front name key = ap (λ (xs : List ℕ). length name ∷ xs ++ key) (append-nil name)

pub era_front : (boot : ℕ) (name key : List ℕ) → era_key boot name [] ++ key ≡ era_key boot name key
era_front boot name key =
    append_assoc (to_be_bytes w32 boot) (short_text name []) key
    ∙ ap (λ (xs : List ℕ). to_be_bytes w32 boot ++ xs) (short_front name key)

pub kept_front : (tag : ℕ) (id : SessionId) (name key : List ℕ)
    → kept_text tag id name [] ++ key ≡ kept_text tag id name key
kept_front tag id name key =
    ap (λ (xs : List ℕ). tag ∷ xs) (append_assoc (id_text id) (short_text name []) key
    ∙ ap (λ (xs : List ℕ). id_text id ++ xs) (short_front name key))

abbrev first_of : Option (ℕ × List ℕ) → ℕ
first_of None = 0
first_of (Some x) = x.0

abbrev rest_of : Option (ℕ × List ℕ) → List ℕ
rest_of None = []
rest_of (Some x) = x.1

abbrev name_of : Option (List ℕ × List ℕ) → List ℕ
name_of None = []
name_of (Some x) = x.0

module _ (a b : ℕ) (own name k key : List ℕ) (low : a < 2 ^ 32) (low' : b < 2 ^ 32) where
  read_alike : era_key a own k ≡ era_key b name key
      → ◌≡◌ {A = Option (ℕ × List ℕ)} (Some (a, short_text own k)) (Some (b, short_text name key))
  read_alike e =
      sym (four_again a (short_text own k) low) ∙ ap (number_at w32) e ∙ four_again b (short_text name key) low'

  same_boot : era_key a own k ≡ era_key b name key → a ≡ b
  same_boot e = ap first_of (read_alike e)

  same_own : era_key a own k ≡ era_key b name key → own ≡ name
  same_own e =
      ap name_of (sym (short_again own k) ∙ ap short_at (ap rest_of (read_alike e)) ∙ short_again name key)

module _ (m : RowMap) (tag : ℕ) (id : SessionId) (a : ℕ) (own : List ℕ) (low : a < 2 ^ 32) where
  abbrev own_rows : Rows
  own_rows = rows_after (kept_text tag id own []) (fin.entries m)

  name_if : (s t : Bool) (b : ℕ) (name key : List ℕ) → b < 2 ^ 32 → eqb a b ≡ s → bytes_eq own name ≡ t
      → first_at (era_key a own []) own_rows (era_key b name key)
      ≡ cond ((s && is_name key) && t) (fin.get m (kept_text tag id name key)) None
  name_if true true b name key low' same alike =
      let is : own ≡ name = (bytes_eq-Decides own name).0 alike in
      ap (λ (n : ℕ). first_at (era_key a own []) own_rows (era_key n name key)) (sym (eqb-true a b same))
      ∙ ap (λ (n : List ℕ). first_at (era_key a own []) own_rows (era_key a n key)) (sym is)
      ∙ ap (first_at (era_key a own []) own_rows) (sym (era_front a own key))
      ∙ at_front (era_key a own []) key own_rows
      ∙ ap (λ (o : Value). cond (is_name key) o None) (find_after (kept_text tag id own []) m key
      ∙ ap (fin.get m) (kept_front tag id own key) ∙ ap (λ (n : List ℕ). fin.get m (kept_text tag id n key)) is)
      ∙ ap (λ (t : Bool). cond t (fin.get m (kept_text tag id name key)) None) (sym (and_true (is_name key)))
  name_if true false b name key low' same alike =
      at_other (era_key a own []) (era_key b name key) own_rows (λ k e.
      let is : own ≡ name = same_own a b own name k key low low' (sym (e ∙ era_front a own k)) in
      absurd (cc (alike, (bytes_eq-Decides own name).1 is)))
      ∙ ap (λ (t : Bool). cond t (fin.get m (kept_text tag id name key)) None) (sym (and_false (is_name key)))
  name_if false t b name key low' same alike =
      at_other (era_key a own []) (era_key b name key) own_rows (λ k e.
      let is : a ≡ b = same_boot a b own name k key low low' (sym (e ∙ era_front a own k)) in
      absurd (cc (same, eq-eqb a b is)))

  -- what the rows of a session add of a name
  pub name_adds : (b : ℕ) (name key : List ℕ) → b < 2 ^ 32
      → first_at (era_key a own []) own_rows (era_key b name key)
      ≡ cond ((eqb a b && is_name key) && bytes_eq own name) (fin.get m (kept_text tag id name key)) None
  name_adds b name key low' = name_if (eqb a b) (bytes_eq own name) b name key low' refl refl

-- The values of sessions

or_tests : (a x y : Bool) (v : Value)
    → option_or (cond (a && x) v None) (cond (a && y) v None) ≡ cond (a && (x || y)) v None
or_tests false x y v = refl
or_tests true false y v = refl
or_tests true true false v = or_none v
or_tests true true true v = or_same v

all_tests : (known named has : Bool) (v rest : Value)
    → option_or (cond known (cond ((true && named) && has) v None) None) (cond (known && named) rest None)
    ≡ cond (known && named) (cond has (option_or v rest) rest) None
all_tests false named has v rest = refl
all_tests true false has v rest = refl
all_tests true true true v rest = refl
all_tests true true false v rest = refl

module _ (m : RowMap) (tag : ℕ) where
  -- of a part, and of those after it
  pub parts_or : (r : Record) (p : Part) (ps : List Part) (boot : ℕ) (name key : List ℕ)
      → option_or (kept_of_name m tag r p.name boot name key) (kept_of_parts m tag r ps boot name key)
      ≡ kept_of_parts m tag r (p ∷ ps) boot name key
  parts_or r p ps boot name key =
      or_tests (eqb r.activation boot && is_name key) (bytes_eq p.name name) (list_any (λ p. bytes_eq p.name name) ps)
      (fin.get m (kept_text tag r.id name key))

  kept_if : (b : Bool) (under : List ℕ) (r : Record) (rs : List Record)
      → first_kept m tag under (cond b (r ∷ rs) rs)
      ≡ cond b (option_or (fin.get m (key_under tag r.id under)) (first_kept m tag under rs)) (first_kept m tag under rs)
  kept_if true under r rs = refl
  kept_if false under r rs = refl

  module _ (boots : ℕ) where
    all_if : (b : Bool) (r : Record) (rs : List Record) (boot : ℕ) (name key : List ℕ) → eqb r.activation boot ≡ b
        → option_or (cond (is_boot boots r.activation) (cond ((b && is_name key) && names name r)
        (fin.get m (kept_text tag r.id name key)) None) None) (kept_of_all m boots tag rs boot name key)
        ≡ cond (is_boot boots boot && is_name key) (first_kept m tag (short_text name key)
        (filter (names name) (cond b (r ∷ activated_at boot rs) (activated_at boot rs)))) None
    all_if true r rs boot name key same =
        ap (λ (n : ℕ). option_or (cond (is_boot boots n) (cond ((true && is_name key) && names name r)
        (fin.get m (kept_text tag r.id name key)) None) None) (kept_of_all m boots tag rs boot name key))
        (eqb-true r.activation boot same)
        ∙ all_tests (is_boot boots boot) (is_name key) (names name r) (fin.get m (kept_text tag r.id name key))
        (first_kept m tag (short_text name key) (counting rs boot name))
        ∙ ap (λ (o : Value). cond (is_boot boots boot && is_name key) o None)
        (sym (kept_if (names name r) (short_text name key) r (counting rs boot name)))
    all_if false r rs boot name key same =
        ap (λ (o : Value). option_or o (kept_of_all m boots tag rs boot name key))
        (sym (no_cond (is_boot boots r.activation)))

    -- of a session, and of those after it
    pub all_or : (r : Record) (rs : List Record) (boot : ℕ) (name key : List ℕ)
        → option_or (kept_of_session m boots tag r boot name key) (kept_of_all m boots tag rs boot name key)
        ≡ kept_of_all m boots tag (r ∷ rs) boot name key
    all_or r rs boot name key = all_if (eqb r.activation boot) r rs boot name key refl

-- where no row has the tag, nothing is kept under it
module _ (m : RowMap) (tag : ℕ) (none : rows_after (tag ∷ []) (fin.entries m) ≡ []) where
  none_kept : (under : List ℕ) (rs : List Record) → first_kept m tag under rs ≡ None
  none_kept under [] = refl
  none_kept under (r ∷ rs) =
      ap (λ (o : Value). option_or o (first_kept m tag under rs))
      (none_there (tag ∷ []) m none (id_text r.id ++ under)) ∙ none_kept under rs

  pub adds_none : (boots : ℕ) (sessions : List Record) (values : RowMap)
      → Adds values values (kept_of_all m boots tag sessions)
  adds_none boots sessions values boot name key low =
      let known = is_boot boots boot && is_name key in
      let kept : kept_of_all m boots tag sessions boot name key ≡ None =
      ap (λ (o : Value). cond known o None) (none_kept (short_text name key) (counting sessions boot name))
      ∙ sym (no_cond known) in
      sym (or_none (fin.get values (era_key boot name key)))
      ∙ ap (option_or (fin.get values (era_key boot name key))) (sym kept)

or_cond : (b : Bool) (o p : Value) → option_or (cond b o None) (cond b p None) ≡ cond b (option_or o p) None
or_cond true o p = refl
or_cond false o p = refl

-- the snapshots, and then the values before a rollback
pub are_eras : (m : RowMap) (sessions : List Record) (boots : ℕ) (none one both : RowMap) → none ≡ fin.empty
    → Adds none one (kept_of_all m boots 7 sessions) → Adds one both (kept_of_all m boots 8 sessions)
    → AreEras m sessions boots both
are_eras m sessions boots none one both empty snapshots pre_restores boot name key low =
    let q = era_key boot name key in
    let seven : fin.get one q ≡ kept_of_all m boots 7 sessions boot name key =
    snapshots boot name key low ∙ ap (λ (o : Value). option_or o (kept_of_all m boots 7 sessions boot name key))
    (ap (λ (m : RowMap). fin.get m q) empty ∙ get-empty (slice_cmp nat_cmp) q) in
    pre_restores boot name key low
    ∙ ap (λ (o : Value). option_or o (kept_of_all m boots 8 sessions boot name key)) seven
    ∙ or_cond (is_boot boots boot && is_name key) (first_kept m 7 (short_text name key) (counting sessions boot name))
    (first_kept m 8 (short_text name key) (counting sessions boot name))
