-- The map of what all names hold. Callers want `Lists`, `lists`, `have_parts`,
-- `entry_stands`, `stands_entry` and `names_held`.
use Rattle.std.proofs.Common.{◌≡◌, ℕ, Bool, true, false, cond, ◌||◌, ◌&&◌, List, [], ◌∷◌, fold, Option, Some, None}
use Rattle.std.proofs.Common.{ap, sym, subst, ◌∙◌, refl}
use Rattle.std.specs.BTreeMap as tree
use Rattle.std.specs.BTreeMap.{BTreeMap, is_at}
use Rattle.std.specs.Cmp.Lexicographic.{slice_cmp, nat_list_cmp_total}
use Rattle.std.specs.FinMap as fin
use Rattle.std.specs.List.{list_any, AllByRecursion}
use Rattle.std.specs.Map.{lookup}
use Rattle.std.specs.Option.{option_map}
use Rattle.std.specs.Ordering.{nat_cmp}
use Rattle.std.specs.Prelude.{find, is_some, nat_lt}
use Rattle.std.specs.Str.{bytes_eq}
use Rattle.std.proofs.lemmas.List.Elements.{recursion_from_All}
use Rattle.std.proofs.lemmas.Map.Views.{All-found}
use Rattle.std.proofs.lemmas.Slice.Eq.{bytes_eq-Decides}
use Rattle.apex_base.specs.declared.records.Part.{Part}
use Rattle.apex_base.specs.declared.records.Record.{Record}
use Rattle.apex_base.specs.Held.{is_standing, candidate, later, target_of}
use Rattle.apex_base.specs.Members.{In}
use Rattle.apex_base.specs.Settled.{stands_for}
use Rattle.apex_base.proofs.Finding.{is_there}
use Rattle.apex_base.proofs.MemberLemmas.{each_in, in_each, any_in, in_any}
use Rattle.apex_base.proofs.RowMaps.{entry_found}
use Rattle.package_store.specs.Latest.{Best, best_of, AreHeld}
use Rattle.session_record.specs.Room.{HasPartNumber}

pub both_ways : (a b : Bool) → (a ≡ true → b ≡ true) → (b ≡ true → a ≡ true) → a ≡ b
both_ways true b f g = sym (f refl)
both_ways false true f g = absurd (cc (g refl))
both_ways false false f g = refl

-- entries with what each name holds
pub record Lists (records : List Record) (entries : List (List ℕ × Best)) : Type 0 where
  pub each : (e : List ℕ × Best) → In e entries → best_of records e.0 ≡ Some e.1
  pub all : (name : List ℕ) (best : Best) → best_of records name ≡ Some best → In (name, best) entries

found_by : (name : List ℕ) (es : List (List ℕ × Best))
    → fin.find (slice_cmp nat_cmp) name es ≡ lookup (is_at (slice_cmp nat_cmp name)) es
found_by name [] = refl
found_by name (e ∷ es) =
    ap (λ (o : Option Best). cond (is_at (slice_cmp nat_cmp name) e.0) (Some e.1) o) (found_by name es)

-- each entry is found by its name
entry_get : (held : BTreeMap (List ℕ) Best) → tree.IsOrdered (slice_cmp nat_cmp) held
    → (e : List ℕ × Best) → In e held.entries → tree.get (slice_cmp nat_cmp) held e.0 ≡ Some e.1
entry_get held up =
    let P = λ (e : List ℕ × Best). tree.get (slice_cmp nat_cmp) held e.0 ≡ Some e.1 in
    each_in P held.entries (recursion_from_All P held.entries (All-found nat_list_cmp_total held up))

-- the map's entries are such
pub lists : (records : List Record) (held : BTreeMap (List ℕ) Best) → AreHeld records held
    → tree.IsOrdered (slice_cmp nat_cmp) held → Lists records held.entries
lists records held are up = record {
  each = λ e there. sym (are e.0) ∙ entry_get held up e there;
  all = λ name best is. entry_found name best held.entries (found_by name held.entries ∙ are name ∙ is);
}

-- where each target that is found has a part of one byte, so have those of the entries
pub have_parts : (held : BTreeMap (List ℕ) Best) → tree.IsOrdered (slice_cmp nat_cmp) held
    → ((name : List ℕ) → HasPartNumber (target_of (tree.get (slice_cmp nat_cmp) held name)))
    → AllByRecursion (λ (e : List ℕ × Best). HasPartNumber e.1.1) held.entries
have_parts held up parts = in_each (λ (e : List ℕ × Best). HasPartNumber e.1.1) held.entries
    (λ e there. subst (λ (best : Option Best). HasPartNumber (target_of best)) (entry_get held up e there) (parts e.0))

-- ---- a name holds something if and only if a session that stands names it

either_if : (t : Bool) (b c : Best) → is_some (cond t (Some c) (Some b)) ≡ true
either_if true b c = refl
either_if false b c = refl

some_later : (best other : Option Best) → is_some (later best other) ≡ (is_some best || is_some other)
some_later None None = refl
some_later (Some b) None = refl
some_later None (Some c) = refl
some_later (Some b) (Some c) = either_if (nat_lt b.0 c.0) b c

some_if : (b : Bool) (rest : Option Part) (activation : ℕ) (p : Part) (any : Bool)
    → is_some {T = Best} (option_map (λ (p : Part). (activation, p.target)) rest) ≡ any
    → is_some {T = Best} (option_map (λ (p : Part). (activation, p.target)) (cond b (Some p) rest)) ≡ (b || any)
some_if true rest activation p any e = refl
some_if false rest activation p any e = e

module _ (name : List ℕ) where
  some_part : (activation : ℕ) (ps : List Part)
      → is_some {T = Best} (option_map (λ (p : Part). (activation, p.target))
      (find (λ (p : Part). bytes_eq p.name name) ps))
      ≡ list_any (λ (p : Part). bytes_eq p.name name) ps
  some_part activation [] = refl
  some_part activation (p ∷ ps) = some_if (bytes_eq p.name name)
      (find (λ (p : Part). bytes_eq p.name name) ps) activation p
      (list_any (λ (p : Part). bytes_eq p.name name) ps) (some_part activation ps)

  some_candidate : (b : Bool) (r : Record) → is_some (candidate b name r)
      ≡ (b && list_any (λ (p : Part). bytes_eq p.name name) r.parts)
  some_candidate true r = some_part r.activation r.parts
  some_candidate false r = refl

  or_more : (a b c : Bool) → ((a || b) || c) ≡ (a || (b || c))
  or_more true b c = refl
  or_more false b c = refl

  stands_from : (rs : List Record) (best : Option Best)
      → is_some (fold (λ best (r : Record). later best (candidate (is_standing r.state) name r)) best rs)
      ≡ (is_some best || list_any (stands_for name) rs)
  stands_from [] None = refl
  stands_from [] (Some b) = refl
  stands_from (r ∷ rs) best =
      stands_from rs (later best (candidate (is_standing r.state) name r))
      ∙ ap (λ (b : Bool). b || list_any (stands_for name) rs)
      (some_later best (candidate (is_standing r.state) name r)
      ∙ ap (λ (b : Bool). is_some best || b) (some_candidate (is_standing r.state) r))
      ∙ or_more (is_some best) (stands_for name r) (list_any (stands_for name) rs)

stands_best : (records : List Record) (name : List ℕ)
    → is_some (best_of records name) ≡ list_any (stands_for name) records
stands_best records name = stands_from name records None

-- ---- the map's names

module _ (records : List Record) (es : List (List ℕ × Best)) (lists : Lists records es) where
  -- a session stands for each name that the map has
  pub entry_stands : (e : List ℕ × Best) → In e es → list_any (stands_for e.0) records ≡ true
  entry_stands e there =
      sym (stands_best records e.0) ∙ ap (λ (o : Option Best). is_some o) (lists.each e there)

  name_stands : (name : List ℕ) → list_any (λ (e : List ℕ × Best). bytes_eq e.0 name) es ≡ true
      → list_any (stands_for name) records ≡ true
  name_stands name any =
      let (e, there, named) = any_in (λ (e : List ℕ × Best). bytes_eq e.0 name) es any in
      ap (λ (n : List ℕ). list_any (stands_for n) records) (sym ((bytes_eq-Decides e.0 name).0 named))
      ∙ entry_stands e there

  -- where a session stands for a name, the map has what it holds
  pub stands_entry : (name : List ℕ) → list_any (stands_for name) records ≡ true
      → (best : Best) × (best_of records name ≡ Some best) × In (name, best) es
  stands_entry name any =
      let (best, found) = is_there (best_of records name) (stands_best records name ∙ any) in
      (best, found, lists.all name best found)

  -- the names that the map has are those that sessions that stand have
  pub names_held : (name : List ℕ) → list_any (λ (e : List ℕ × Best). bytes_eq e.0 name) es
      ≡ list_any (stands_for name) records
  names_held name = both_ways _ _ (name_stands name) (λ any. let (best, found, there) = stands_entry name any in
      in_any (λ (e : List ℕ × Best). bytes_eq e.0 name) (name, best) es there ((bytes_eq-Decides name name).1 refl))
