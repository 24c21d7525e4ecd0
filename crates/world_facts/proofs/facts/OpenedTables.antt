-- The rows of a lawful world open to its data and its watches. Callers want `contents_again`, `watches_again` and
-- `front_values`.
use Rattle.std.proofs.Common.{◌≡◌, ℕ, ◌≤◌, Bool, true, false, cond, IsTrue, List, [], ◌∷◌, ◌++◌, length, map, drop}
use Rattle.std.proofs.Common.{Option, Some, None, sym, ap, subst, ◌∙◌, refl, arith}
use Rattle.std.specs.Prelude.{option_and_then}
use Rattle.std.specs.Option.{option_map}
use Rattle.std.specs.FinMap as fin
use Rattle.std.proofs.lemmas.List.{append-nil, take_at, drop_at}
use Rattle.apex_base.specs.Keys.{RowMap, data_front, watch_front, ends_of}
use Rattle.apex_base.specs.Members.{In}
use Rattle.apex_base.specs.Reading.{eight_text}
use Rattle.apex_base.specs.Tables.{NameMap, part_of, value_of}
use Rattle.apex_base.specs.Text.{is_name}
use Rattle.apex_base.proofs.Finding.{filtered, some_if, some_of}
use Rattle.apex_base.proofs.MemberLemmas.{in_map}
use Rattle.apex_base.proofs.RowMaps.{same_names, tabulated, in_ends}
use Rattle.apex_base.proofs.SpellingLemmas.{eight_again}
use Rattle.apex_base.proofs.TableLemmas.{table_again}
use Rattle.apex_world.specs.Lawful.{Lawful}
use Rattle.apex_world.specs.Opened.{name_in, names_in, value_in, values_in, opened_contents, end_of, end_in}
use Rattle.apex_world.specs.Opened.{opened_ends, opened_watches}
use Rattle.apex_world.specs.Rows.{rows}
use Rattle.apex_world.specs.World.{World}
use Rattle.world_facts.proofs.facts.WorldRows.{data_at, watch_at}

-- Keys that begin with a front

-- what follows a front is dropped to
pub drop_front : (tag : ℕ) (name key : List ℕ) → drop (length (tag ∷ length name ∷ name ++ []))
    (tag ∷ length name ∷ name ++ key) ≡ key
drop_front tag name key =
    let e : length (tag ∷ length name ∷ name) ≡ length (tag ∷ length name ∷ name ++ []) =
    ap (λ (xs : List ℕ). length (tag ∷ length name ∷ xs)) (sym (append-nil name)) in
    drop_at (tag ∷ length name ∷ name) key (length (tag ∷ length name ∷ name ++ [])) e

-- the first name of a key is sought
named : (m : RowMap) (tag : ℕ) (name key value : List ℕ) → IsTrue (is_name name)
    → fin.get m (tag ∷ length name ∷ name ++ key) ≡ Some value → In name (names_in m)
named m tag name key value h e =
    filtered is_name name (map name_in (ends_of 1 m)) (subst (λ (n : List ℕ). In n (map name_in (ends_of 1 m)))
    (take_at name key (length name) refl)
    (in_map name_in (length name ∷ name ++ key) (ends_of 1 m)
    (in_ends 1 m (tag ∷ length name ∷ name ++ key) value e))) h

value_if : (b : Bool) (key : List ℕ) (o p : Option (List ℕ)) → is_name key ≡ b → o ≡ p
    → ((x : List ℕ) → p ≡ Some x → IsTrue (is_name key)) → cond b o None ≡ p
value_if true key o p is e named = e
value_if false key o None is e named = refl
value_if false key o (Some x) is e named = absurd (cc (is, named x refl))

-- the values under the keys after a front are those of a map of names, where the rows have them
pub front_values : (m : RowMap) (front : List ℕ → List ℕ) (part : NameMap (List ℕ))
    → ((key : List ℕ) → drop (length (front [])) (front key) ≡ key)
    → ((key : List ℕ) → fin.get m (front key) ≡ fin.get part key)
    → ((key x : List ℕ) → fin.get part key ≡ Some x → IsTrue (is_name key)) → values_in m front ≡ part
front_values m front part drops has named = same_names _ _ (λ key.
    let value : value_in m front key ≡ fin.get part key =
    value_if (is_name key) key (fin.get m (front key)) (fin.get part key) refl (has key) (named key) in
    tabulated (value_in m front) (ends_of (length (front [])) m) key (λ v e.
    subst (λ (k : List ℕ). In k (ends_of (length (front [])) m)) (drops key)
    (in_ends (length (front [])) m (front key) v (has key ∙ sym value ∙ e)))
    ∙ value)

-- and each is what the rows have, under a name
pub front_value : (m : RowMap) (front : List ℕ → List ℕ) (key : List ℕ) → drop (length (front [])) (front key) ≡ key
    → fin.get (values_in m front) key ≡ value_in m front key
front_value m front key drops =
    tabulated (value_in m front) (ends_of (length (front [])) m) key (λ v e.
    subst (λ (k : List ℕ). In k (ends_of (length (front [])) m)) drops
    (in_ends (length (front [])) m (front key) v (some_if (is_name key) (fin.get m (front key)) v e).1))

-- A watch's end

end_again : (n : ℕ) → n ≤ 18014398509481982 → end_of (eight_text n []) ≡ Some n
unfolding end_of
end_again n l = rw (eight_again n [] (omega (arith, l))) refl

pub end_if : (o : Option ℕ) → ((n : ℕ) → o ≡ Some n → n ≤ 18014398509481982)
    → option_and_then end_of (option_map (λ n. eight_text n []) o) ≡ o
end_if None most = refl
end_if (Some n) most = end_again n (most n refl)

module _ (w : World) (law : Lawful w) where
  data_values : (name : List ℕ) → values_in (rows w) (data_front name) ≡ part_of w.contents name
  data_values name = front_values (rows w) (data_front name) (part_of w.contents name)
      (λ key. drop_front 6 name key) (λ key. data_at w law name key)
      (λ key x e. law.ranges.contents.second name key x e)

  pub contents_again : opened_contents (rows w) ≡ w.contents
  contents_again = table_again w.contents (λ name. values_in (rows w) (data_front name))
      (names_in (rows w)) law.ranges.contents.some data_values
      (λ a b x e. named (rows w) 6 a b x (law.ranges.contents.first a b x e) (data_at w law a b ∙ e))

  watch_row_in : (observer name : List ℕ) → end_in (rows w) observer name ≡ value_of w.watches observer name
  watch_row_in observer name =
      ap (option_and_then end_of) (value_if (is_name name) name (fin.get (rows w) (watch_front observer name))
      (option_map (λ n. eight_text n []) (value_of w.watches observer name)) refl
      (watch_at w law observer name) (λ x e. let (n, f, is) =
      some_of (λ (n : ℕ). eight_text n []) (value_of w.watches observer name) x e in
      law.ranges.watches.second observer name n f))
      ∙ end_if (value_of w.watches observer name) (λ n e. law.ranges.ends observer name n e)

  watch_values : (observer : List ℕ) → opened_ends (rows w) observer ≡ part_of w.watches observer
  watch_values observer = same_names _ _ (λ name.
      tabulated (end_in (rows w) observer) (ends_of (length (watch_front observer [])) (rows w)) name (λ v e.
      subst (λ (k : List ℕ). In k (ends_of (length (watch_front observer [])) (rows w))) (drop_front 9 observer name)
      (in_ends (length (watch_front observer [])) (rows w) (watch_front observer name) (eight_text v [])
      (watch_at w law observer name ∙ ap (option_map (λ (n : ℕ). eight_text n []))
      (sym (watch_row_in observer name) ∙ e))))
      ∙ watch_row_in observer name)

  pub watches_again : opened_watches (rows w) ≡ w.watches
  watches_again = table_again w.watches (λ observer. opened_ends (rows w) observer)
      (names_in (rows w)) law.ranges.watches.some watch_values
      (λ a b x e. named (rows w) 9 a b (eight_text x []) (law.ranges.watches.first a b x e) (watch_at w law a b
      ∙ ap (option_map (λ (n : ℕ). eight_text n [])) e))
