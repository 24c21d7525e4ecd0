-- Tables that are put together from parts. Callers want `folded`, `table_again` and `whole`.
use Rattle.std.proofs.Common.{◌≡◌, ◌≢◌, ℕ, Bool, true, false, cond, eqb, List, [], ◌∷◌, length, Option, Some, None}
use Rattle.std.proofs.Common.{sym, ap, subst, ◌∙◌, refl, inl, inr}
use Rattle.std.specs.Prelude.{fold, IfSome}
use Rattle.std.specs.Ordering.{nat_cmp, eq_by_cmp}
use Rattle.std.specs.Cmp.Lexicographic.{slice_cmp, nat_list_cmp_total}
use Rattle.std.specs.FinMap as fin
use Rattle.std.specs.FinMap.{get-empty, get-insert, get-remove, len-empty, len-entries}
use Rattle.std.proofs.lemmas.Bool.{eqb-true, eq-eqb, ne_eqb}
use Rattle.apex_base.specs.Members.{In}
use Rattle.apex_base.specs.Tables.{NameMap, Table, or_empty, part_of, with_part, value_of}
use Rattle.apex_base.proofs.RowMaps.{same_bytes, eq_bytes, same_names, entry_get}

module _ {X : Type 0} where
  -- a part, where it isn't empty
  abbrev pub whole : NameMap X → Option (NameMap X)
  whole m = cond (eqb (fin.len m) 0) None (Some m)

  with_if : (b : Bool) (t : Table X) (a q : List ℕ) (m : NameMap X) → eqb (fin.len m) 0 ≡ b
      → fin.get (cond b (fin.remove t a) (fin.insert t a m)) q
      ≡ cond (eq_by_cmp (slice_cmp nat_cmp) q a) (cond b None (Some m)) (fin.get t q)
  with_if true t a q m e = get-remove nat_list_cmp_total t a q
  with_if false t a q m e = get-insert nat_list_cmp_total t a m q

  get_with : (t : Table X) (a q : List ℕ) (m : NameMap X)
      → fin.get (with_part t a m) q ≡ cond (eq_by_cmp (slice_cmp nat_cmp) q a) (whole m) (fin.get t q)
  get_with t a q m = with_if (eqb (fin.len m) 0) t a q m refl

  module _ (f : List ℕ → NameMap X) where
    abbrev put : Table X → List ℕ → Table X
    put t name = with_part t name (f name)

    stays_if : (b : Bool) (q name : List ℕ) (o : Option (NameMap X)) → eq_by_cmp (slice_cmp nat_cmp) q name ≡ b
        → o ≡ whole (f q) → cond b (whole (f name)) o ≡ whole (f q)
    stays_if true q name o same e = ap (λ (n : List ℕ). whole (f n)) (sym (same_bytes q name same))
    stays_if false q name o same e = e

    stays : (names : List (List ℕ)) (t : Table X) (q : List ℕ) → fin.get t q ≡ whole (f q)
        → fin.get (fold put t names) q ≡ whole (f q)
    stays [] t q e = e
    stays (name ∷ names) t q e = stays names (put t name) q (get_with t name q (f name)
        ∙ stays_if (eq_by_cmp (slice_cmp nat_cmp) q name) q name (fin.get t q) refl e)

    comes : (names : List (List ℕ)) (t : Table X) (q : List ℕ) → In q names → fin.get (fold put t names) q ≡ whole (f q)
    comes [] t q h = absurd h
    comes (name ∷ names) t q (inl same) =
        stays names (put t name) q (subst (λ (n : List ℕ). fin.get (put t n) q ≡ whole (f q)) (sym same)
        (get_with t q q (f q) ∙ ap (λ (b : Bool). cond b (whole (f q)) (fin.get t q)) (eq_bytes q)))
    comes (name ∷ names) t q (inr h) = comes names (put t name) q h

    folded_if : (b : Bool) (names : List (List ℕ)) (q : List ℕ) → eqb (fin.len (f q)) 0 ≡ b
        → (b ≡ false → In q names) → fin.get (fold put fin.empty names) q ≡ cond b None (Some (f q))
    folded_if true names q e all =
        let none : whole (f q) ≡ None = ap (λ (b : Bool). cond {A = Option (NameMap X)} b None (Some (f q))) e in
        stays names fin.empty q (get-empty {X = NameMap X} (slice_cmp nat_cmp) q ∙ sym none) ∙ none
    folded_if false names q e all = comes names fin.empty q (all refl)
        ∙ ap (λ (b : Bool). cond {A = Option (NameMap X)} b None (Some (f q))) e

    -- a table of names has the part of each, where it is of all names that have one
    pub folded : (names : List (List ℕ)) (q : List ℕ) → (fin.len (f q) ≢ 0 → In q names)
        → fin.get (fold put fin.empty names) q ≡ whole (f q)
    folded names q all = folded_if (eqb (fin.len (f q)) 0) names q refl
        (λ e. all (λ z. absurd (cc (e, eq-eqb (fin.len (f q)) 0 z))))

  -- an empty map is that of no names
  pub no_len : (m : NameMap X) → fin.len m ≡ 0 → m ≡ fin.empty
  no_len m e = fin.empty_of_len m e

  whole_if : (b : Bool) (m : NameMap X) → eqb (fin.len m) 0 ≡ b → or_empty (cond b None (Some m)) ≡ m
  whole_if true m e = sym (no_len m (eqb-true (fin.len m) 0 e))
  whole_if false m e = refl

  -- and its part of a name is that
  pub part_whole : (m : NameMap X) → or_empty (whole m) ≡ m
  part_whole m = whole_if (eqb (fin.len m) 0) m refl

  whole_some : (o : Option (NameMap X)) → IfSome o (λ m. fin.len m ≢ 0) → whole (or_empty o) ≡ o
  whole_some None h = ap (λ (n : ℕ). cond {A = Option (NameMap X)} (eqb n 0) None (Some fin.empty))
      (len-empty (slice_cmp nat_cmp) X)
  whole_some (Some m) h = ap (λ (b : Bool). cond {A = Option (NameMap X)} b None (Some m)) (ne_eqb (fin.len m) 0 h)

  first_of : (es : List (List ℕ × X)) → length es ≢ 0 → (e : List ℕ × X) × In e es
  first_of [] d = absurd (d refl)
  first_of (e ∷ es) d = (e, inl refl)

  -- a part that isn't empty has a value
  pub some_value : (m : NameMap X) → fin.len m ≢ 0 → (b : List ℕ) × (x : X) × (fin.get m b ≡ Some x)
  some_value m d =
      let (e, h) = first_of (fin.entries m) (λ z. d (len-entries m ∙ z)) in
      (e.0, e.1, entry_get m e h)

  -- a table that is put together from the parts of another is that
  pub table_again : (t : Table X) (f : List ℕ → NameMap X) (names : List (List ℕ))
      → ((a : List ℕ) → IfSome (fin.get t a) (λ m. fin.len m ≢ 0)) → ((q : List ℕ) → f q ≡ part_of t q)
      → ((a b : List ℕ) (x : X) → value_of t a b ≡ Some x → In a names) → fold (put f) fin.empty names ≡ t
  table_again t f names some same all = same_names _ _ (λ q.
      folded f names q (λ d. let (b, x, e) = some_value (f q) d in
      all q b x (ap (λ (m : NameMap X). fin.get m b) (sym (same q)) ∙ e))
      ∙ ap whole (same q) ∙ whole_some (fin.get t q) (some q))
