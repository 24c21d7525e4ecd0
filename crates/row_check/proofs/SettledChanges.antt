-- What the changes that settle rows say of the rows of a tag. Callers want `changed_here`, `settling`, `stays`
-- and `moves`.
use Rattle.std.proofs.Common.{◌≡◌, ◌≢◌, ℕ, Bool, true, false, ◌||◌, List, [], ◌∷◌, Option, Some, None}
use Rattle.std.proofs.Common.{sym, ap, subst, ◌∙◌, refl}
use Rattle.std.specs.FinMap as fin
use Rattle.std.specs.List.{AllByRecursion}
use Rattle.std.proofs.lemmas.Bool.{eqb-true, eq-eqb, or_parts}
use Rattle.apex_base.specs.declared.records.Record.{Record}
use Rattle.apex_base.specs.Keys.{RowMap}
use Rattle.row_codec.specs.declared.batch.Row.{Row}
use Rattle.row_map.specs.Room.{same_key}
use Rattle.row_map.specs.Rows.{changed, changed_at}
use Rattle.row_map.proofs.Maps.{at_insert, at_remove, itself, key_is, changed_other}
use Rattle.apex_world.specs.Opened.{opened_sessions}
use Rattle.package_store.specs.Settled.{IsChange, settled_value}
use Rattle.apex_base.specs.RowSums.{has_tag}
use Rattle.row_check.specs.SettledTags.{changes_tag}

first_true : (a b : Bool) → (a || b) ≡ true → b ≡ false → a ≡ true
first_true true b e f = refl
first_true false b e f = absurd (cc (e, f))

-- the key that was changed has its new value
pub changed_here : (m : RowMap) (key : List ℕ) (value : Option (List ℕ)) → fin.get (changed_at m key value) key ≡ value
changed_here m key None = at_remove m key key ∙ rw (itself key) refl
changed_here m key (Some value) = at_insert m key value key ∙ rw (itself key) refl

module _ (tag : ℕ) where
  other_key : (b : Bool) (key rest : List ℕ) → has_tag tag key ≡ false → same_key (tag ∷ rest) key ≡ b → b ≡ false
  other_key false key rest e f = refl
  other_key true key rest e f =
      let same : tag ∷ rest ≡ key = key_is (tag ∷ rest) key f in
      let has : has_tag tag key ≡ true = ap (has_tag tag) (sym same) ∙ eq-eqb tag tag refl in
      absurd (cc (e, has))

  tagged : (key : List ℕ) → has_tag tag key ≡ true → (rest : List ℕ) × (key ≡ tag ∷ rest)
  tagged [] e = absurd (cc e)
  tagged (first ∷ rest) e = (rest, ap (λ (t : ℕ). t ∷ rest) (eqb-true first tag e))

  -- where no change is one of a row of this tag, its rows stay
  untouched : (m : RowMap) (changes : List Row) → changes_tag tag changes ≡ false → (rest : List ℕ)
      → fin.get (changed m changes) (tag ∷ rest) ≡ fin.get m (tag ∷ rest)
  untouched m [] e rest = refl
  untouched m (c ∷ cs) e rest =
      let (here, later) = or_parts (has_tag tag c.key) (changes_tag tag cs) e in
      untouched (changed_at m c.key c.value) cs later rest
      ∙ changed_other m c.key c.value (tag ∷ rest)
      (other_key (same_key (tag ∷ rest) c.key) c.key rest here refl)

  module _ (old : RowMap) where
    -- a row of this tag has another value
    abbrev Apart : RowMap → Type 0
    Apart m = (rest : List ℕ) × (fin.get old (tag ∷ rest) ≢ fin.get m (tag ∷ rest))

    touched_if : (m : RowMap) (c : Row) (cs : List Row) → IsChange old c → changes_tag tag (c ∷ cs) ≡ true
        → (b : Bool) → changes_tag tag cs ≡ b
        → (changes_tag tag cs ≡ true → Apart (changed (changed_at m c.key c.value) cs))
        → Apart (changed (changed_at m c.key c.value) cs)
    touched_if m c cs change e true f later = later f
    touched_if m c cs change e false f later =
        let (rest, is) = tagged c.key (first_true (has_tag tag c.key) (changes_tag tag cs) e f) in (
          rest,
          λ same. change (ap (fin.get old) is ∙ same ∙ untouched (changed_at m c.key c.value) cs f rest
              ∙ ap (fin.get (changed_at m c.key c.value)) (sym is) ∙ changed_here m c.key c.value),
        )

    -- where each changes something, one of them leaves another value there
    touched_by : (m : RowMap) (changes : List Row) → AllByRecursion (IsChange old) changes
        → changes_tag tag changes ≡ true → Apart (changed m changes)
    touched_by m [] each e = absurd (cc e)
    touched_by m (c ∷ cs) each e = touched_if m c cs each.0 e (changes_tag tag cs) refl
        (touched_by (changed_at m c.key c.value) cs each.1)

  touched : (m : RowMap) (changes : List Row) → AllByRecursion (IsChange m) changes
      → changes_tag tag changes ≡ true
      → (rest : List ℕ) × (fin.get m (tag ∷ rest) ≢ fin.get (changed m changes) (tag ∷ rest))
  touched m changes each e = touched_by m m changes each e

-- with these changes each key has its settled value, and each of them changes something
pub record Settles (m : RowMap) (ss : List Record) (changes : List Row) : Type 0 where
  pub after : (key : List ℕ) → fin.get (changed m changes) key ≡ settled_value m ss key
  pub exact : AllByRecursion (IsChange m) changes

pub settling : (m n : RowMap) (ss : List Record) (changes : List Row) → n ≡ m → ss ≡ opened_sessions m
    → Settles n ss changes → Settles m (opened_sessions m) changes
settling m n ss changes same opened s = subst (λ (ss : List Record). Settles m ss changes) opened
    (subst (λ (x : RowMap). Settles x ss changes) same s)

module _ (m : RowMap) (changes : List Row) (s : Settles m (opened_sessions m) changes) where
  -- where no change is one of a tag's rows, each has its settled value
  pub stays : (tag : ℕ) → changes_tag tag changes ≡ false → (rest : List ℕ)
      → fin.get m (tag ∷ rest) ≡ settled_value m (opened_sessions m) (tag ∷ rest)
  stays tag e rest = sym (untouched tag m changes e rest) ∙ s.after (tag ∷ rest)

  -- else one of them hasn't
  pub moves : (tag : ℕ) → changes_tag tag changes ≡ true
      → (rest : List ℕ) × (fin.get m (tag ∷ rest) ≢ settled_value m (opened_sessions m) (tag ∷ rest))
  moves tag e =
      let (rest, apart) = touched tag m changes s.exact e in
      (rest, λ same. apart (same ∙ sym (s.after (tag ∷ rest))))
