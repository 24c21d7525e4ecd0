-- What is noted, key by key. Callers want `put_note`, `removed_note`, `left_note`, `gone`, `stays` and `on_ok`.
use Rattle.std.proofs.Common.{◌≡◌, ℕ, Bool, true, false, cond, ◌≤◌, List, [], ◌∷◌, length, suc, ◌-◌, take, drop}
use Rattle.std.proofs.Common.{get_or, arith, Option, Some, None, ap, sym, ◌∙◌, refl}
use Rattle.std.specs.Prelude.{IfOk, OnOk, Result, Ok, Err}
use Rattle.std.specs.FinMap as fin
use Rattle.std.specs.Option.{is_some}
use Rattle.std.specs.Str.{bytes_eq}
use Rattle.std.proofs.lemmas.List.{take_all}
use Rattle.std.proofs.lemmas.Map.Text.{is_eq-slice_cmp}
use Rattle.std.proofs.lemmas.Slice.Eq.{bytes_eq-Decides}
use Rattle.package_store.specs.Named.{Note, or_first, resettled, note_row, is_wanted}
use Rattle.package_store.specs.Spelled.{ChangeMap}
use Rattle.package_store.proofs.Maps.{at_insert, at_remove, turned}

pub on_ok : {X Y P Q : Type 0} (r : Result X Y) → OnOk r P → (P → Q) → OnOk r Q
on_ok (Ok x) p f = f p
on_ok (Err e) p f = tt

pub if_ok : {X Y : Type 0} {P Q : X → Type 0} (r : Result X Y) → IfOk r P → ((x : X) → P x → Q x) → IfOk r Q
if_ok (Ok x) p f = f x p
if_ok (Err e) p f = tt

pub put_note : (m : ChangeMap) (key : List ℕ) (value : Option (List ℕ)) (q : List ℕ)
    → fin.get (fin.insert m key value) q ≡ cond (bytes_eq q key) (Some value) (fin.get m q)
put_note m key value q =
    at_insert m key value q ∙ ap (λ (b : Bool). cond b (Some value) (fin.get m q)) (is_eq-slice_cmp q key)

pub removed_note : (m : ChangeMap) (key q : List ℕ)
    → fin.get (fin.remove m key) q ≡ cond (bytes_eq q key) None (fin.get m q)
removed_note m key q =
    at_remove m key q ∙ ap (λ (b : Bool). cond b None (fin.get m q)) (is_eq-slice_cmp q key)

left_if : (b : Bool) (m : ChangeMap) (key q : List ℕ) → bytes_eq q key ≡ b
    → fin.get m q ≡ cond b (fin.get m key) (fin.get m q)
left_if true m key q e = ap (λ (k : List ℕ). fin.get m k) ((bytes_eq-Decides q key).0 e)
left_if false m key q e = refl

pub left_note : (m : ChangeMap) (key q : List ℕ) → fin.get m q ≡ cond (bytes_eq q key) (fin.get m key) (fin.get m q)
left_note m key q = left_if (bytes_eq q key) m key q refl

-- a value that is there already
pub gone : (noted : Note) (value : List ℕ) → is_wanted noted value ≡ true → resettled noted value ≡ None
gone None value e = absurd (cc)
gone (Some None) value e = absurd (cc)
gone (Some (Some wanted)) value e = rw e refl

-- another is wanted
pub stays : (noted : Note) (value : List ℕ) → is_some noted ≡ true → is_wanted noted value ≡ false
    → resettled noted value ≡ noted
stays None value some e = absurd (cc)
stays (Some None) value some e = refl
stays (Some (Some wanted)) value some e = rw e refl

-- a value that was noted
pub noted : (m m' : ChangeMap) (k key v value : List ℕ) → m' ≡ fin.insert m k (Some v) → k ≡ key → v ≡ value
    → (q : List ℕ) → fin.get m' q ≡ cond (bytes_eq q key) (Some (Some value)) (fin.get m q)
noted m m' k key v value put its is q =
    ap (λ (m : ChangeMap). fin.get m q) put ∙ put_note m k (Some v) q
    ∙ ap (λ (x : List ℕ). cond (bytes_eq q x) (Some (Some v)) (fin.get m q)) its
    ∙ ap (λ (x : List ℕ). cond (bytes_eq q key) (Some (Some x)) (fin.get m q)) is

pub none_if : (n : Note) → is_some n ≡ false → n ≡ None
none_if None e = refl
none_if (Some value) e = absurd (cc)

first_if : (b : Bool) (m : ChangeMap) (key q : List ℕ) (value : Note) → bytes_eq q key ≡ b → fin.get m key ≡ None
    → cond b value (fin.get m q) ≡ cond b (or_first (fin.get m q) value) (fin.get m q)
first_if true m key q value e none =
    ap (λ (n : Note). or_first n value)
    (sym (ap (λ (k : List ℕ). fin.get m k) ((bytes_eq-Decides q key).0 e) ∙ none))
first_if false m key q value e none = refl

-- nothing was noted of the key before
pub first_noted : (m : ChangeMap) (key q : List ℕ) (value : Note) → fin.get m key ≡ None
    → cond (bytes_eq q key) value (fin.get m q) ≡ cond (bytes_eq q key) (or_first (fin.get m q) value) (fin.get m q)
first_noted m key q value none = first_if (bytes_eq q key) m key q value refl none

-- a file's row whose module isn't kept
pub file_gone : (stays : List ℕ → Bool) (key value : List ℕ) (n : Note) → 1 ≤ length key → get_or key 0 0 ≡ 5
    → stays (take (length key - 1) (drop 1 key)) ≡ false → note_row stays key value n ≡ Some None
file_gone stays [] value n long five e = absurd (omega arith)
file_gone stays (tag ∷ rest) value n long five e =
    let is : tag ≡ 5 = five in
    let count : length (tag ∷ rest) ≡ suc (length rest) = refl in
    let all : take (length (tag ∷ rest) - 1) rest ≡ rest =
    take_all (length (tag ∷ rest) - 1) rest (omega (arith, count)) in
    let gone : stays rest ≡ false = ap stays (sym all) ∙ e in
    rw (is, gone) refl

pub bytes_turned : (a b : List ℕ) → bytes_eq a b ≡ bytes_eq b a
bytes_turned a b = sym (is_eq-slice_cmp a b) ∙ turned a b ∙ is_eq-slice_cmp b a
