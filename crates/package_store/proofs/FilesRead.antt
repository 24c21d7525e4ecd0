-- Rows that are read into the files of a module one after another. Callers want `HasPaths`, `Filed`, `file_found`,
-- `begins`, `passes`, `is_named`, `has_room`, `takes` and `ends`.
use Rattle.std.proofs.Common.{◌≡◌, ℕ, ◌+◌, ◌≤◌, ◌<◌, Bool, true, false, cond, ◌&&◌, not, List, [], ◌∷◌, length}
use Rattle.std.proofs.Common.{Option, Some, None, sym, ap, ◌∙◌, refl, arith}
use Rattle.std.specs.Prelude.{IsTrue, nat_le, nat_lt}
use Rattle.std.specs.Cmp.Lexicographic.{slice_cmp, nat_list_cmp_total}
use Rattle.std.specs.FinMap as fin
use Rattle.std.specs.FinMap.{get-empty, len-insert, len-empty}
use Rattle.std.specs.List.Sorted.{IsStrictlySortedBy}
use Rattle.std.specs.Map.{keys_of}
use Rattle.std.specs.Option.{is_some}
use Rattle.std.specs.Ordering.{nat_cmp}
use Rattle.std.proofs.lemmas.Bool.Decides.{nat_tests}
use Rattle.apex_base.specs.declared.module.PutWhy.TheVariants.{Files, Large}
use Rattle.apex_base.specs.declared.numbers.SessionId.{SessionId}
use Rattle.apex_base.specs.Keys.{file_front}
use Rattle.apex_base.specs.Modules.{FileMap, IsModule, put_fault}
use Rattle.apex_base.specs.Text.{is_path}
use Rattle.apex_base.proofs.RowMaps.{same_bytes, eq_bytes, same_names}
use Rattle.package_store.specs.Placed.{or_before}
use Rattle.package_store.proofs.Fronts.{same_path}
use Rattle.package_store.proofs.Maps.{same_key, at_insert, not_below}
use Rattle.package_store.proofs.RowsFrom.{Rows}

or_none : (o : Option (List ℕ)) → or_before o None ≡ o
or_none None = refl
or_none (Some value) = refl

none_either : (b : Bool) → ◌≡◌ {A = Option (List ℕ)} None (cond b None None)
none_either true = refl
none_either false = refl

at_most : (b : Bool) (n : ℕ) → cond b n (n + 1) ≤ n + 1
at_most true n = omega arith
at_most false n = omega arith

no_fault : (new full long : Bool) (n : ℕ) → full ≡ false → long ≡ false
    → cond (new && full) (Some Files) (cond long (Some (Large n)) None) ≡ None
no_fault true full long n e f = rw (e, f) refl
no_fault false full long n e f = rw f refl

-- with a file more, if there is a path
abbrev pub with_file : Option (List ℕ) → List ℕ → FileMap → FileMap
with_file None content files = files
with_file (Some path) content files = fin.insert files path content

module _ (path_at : List ℕ → Option (List ℕ)) where
  -- the files among these rows, each under the path that its key has
  abbrev pub files_in : Rows → FileMap
  files_in [] = fin.empty
  files_in (e ∷ es) = with_file (path_at e.0) e.1 (files_in es)

  -- these files, and those of the rows that are left, are the module
  pub record Filed (whole files : FileMap) (rest : Rows) : Type 0 where
    pub joined : (path : List ℕ) → or_before (fin.get (files_in rest) path) (fin.get files path) ≡ fin.get whole path
    pub count : fin.len files + fin.len (files_in rest) ≤ fin.len whole
    pub up : IsStrictlySortedBy (slice_cmp nat_cmp) (keys_of rest)

  -- at first no file is there
  pub begins : (whole files : FileMap) (rest : Rows) → files_in rest ≡ whole → files ≡ fin.empty
      → IsStrictlySortedBy (slice_cmp nat_cmp) (keys_of rest) → Filed whole files rest
  begins whole files rest are none up = record {
    joined = λ path. ap (λ (o : Option (List ℕ)). or_before (fin.get (files_in rest) path) o)
        (ap (λ (m : FileMap). fin.get m path) none ∙ get-empty (slice_cmp nat_cmp) path)
        ∙ or_none (fin.get (files_in rest) path) ∙ ap (λ (m : FileMap). fin.get m path) are;
    count = omega (
      arith,
      ap (λ (m : FileMap). fin.len m) none,
      len-empty (slice_cmp nat_cmp) (List ℕ),
      ap (λ (m : FileMap). fin.len m) are,
    );
    up = up;
  }

  module _ (whole files : FileMap) where
    -- where the rows that are left have no file, the files are the module
    pub ends : (rest : Rows) → Filed whole files rest → files_in rest ≡ fin.empty → files ≡ whole
    ends rest f none = same_names files whole (λ path.
        sym (ap (λ (m : FileMap). or_before (fin.get m path) (fin.get files path)) none
        ∙ ap (λ (o : Option (List ℕ)). or_before o (fin.get files path)) (get-empty (slice_cmp nat_cmp) path))
        ∙ f.joined path)

    -- a row of something else leaves the files as they are
    pub passes : (e : List ℕ × List ℕ) (es : Rows) → Filed whole files (e ∷ es) → path_at e.0 ≡ None
        → Filed whole files es
    unfolding IsStrictlySortedBy
    passes e es f none =
        let same : files_in (e ∷ es) ≡ files_in es =
        ap (λ (o : Option (List ℕ)). with_file o e.1 (files_in es)) none in
        record {
          joined = λ path. ap (λ (m : FileMap). or_before (fin.get m path) (fin.get files path)) (sym same)
              ∙ f.joined path;
          count = omega (arith, f.count, ap (λ (m : FileMap). fin.len m) same);
          up = f.up.1;
        }

-- a key has a path if and only if it is that of a file of the part, and the path passes the test
pub record HasPaths (session : SessionId) (part : ℕ) (named : List ℕ → Bool) (path_at : List ℕ → Option (List ℕ))
    : Type 0 where
  pub its_key : (key path : List ℕ) → path_at key ≡ Some path
      → (key ≡ file_front session part path) × (named path ≡ true)
  pub there : (path : List ℕ) → named path ≡ true → path_at (file_front session part path) ≡ Some path

module _ {session : SessionId} {part : ℕ} {named : List ℕ → Bool} {path_at : List ℕ → Option (List ℕ)}
    (paths : HasPaths session part named path_at) where
  abbrev found_in : Rows → List ℕ → Option (List ℕ)
  found_in es path = cond (named path) (fin.find (slice_cmp nat_cmp) (file_front session part path) es) None

  other_row : (is same : Bool) (path key value : List ℕ) (rest : Option (List ℕ)) → named path ≡ is
      → same_key (file_front session part path) key ≡ same → path_at key ≡ None
      → cond is rest None ≡ cond is (cond same (Some value) rest) None
  other_row true true path key value rest n e none =
      let some : path_at key ≡ Some path =
      ap path_at (sym (same_bytes (file_front session part path) key e)) ∙ paths.there path n in
      absurd (cc (none, some))
  other_row true false path key value rest n e none = refl
  other_row false same path key value rest n e none = refl

  named_row : (is same : Bool) (path p value : List ℕ) (rest : Option (List ℕ)) → named path ≡ is
      → named p ≡ true → same_key path p ≡ same
      → cond same (Some value) (cond is rest None) ≡ cond is (cond same (Some value) rest) None
  named_row true same path p value rest n i e = refl
  named_row false true path p value rest n i e = absurd (cc (n, i, ap named (same_bytes path p e)))
  named_row false false path p value rest n i e = refl

  -- what a row adds to the files
  row_more : (e : List ℕ × List ℕ) (es : Rows) (path : List ℕ) (o : Option (List ℕ)) → path_at e.0 ≡ o
      → fin.get (files_in path_at es) path ≡ found_in es path
      → fin.get (with_file o e.1 (files_in path_at es)) path ≡ found_in (e ∷ es) path
  row_more e es path None is more =
      more ∙ other_row (named path) (same_key (file_front session part path) e.0) path e.0 e.1 _ refl refl is
  row_more e es path (Some p) is more =
      let (key, p_named) = paths.its_key e.0 p is in
      let same : same_key path p ≡ same_key (file_front session part path) e.0 =
      sym (same_path session part path p)
      ∙ ap (λ (k : List ℕ). same_key (file_front session part path) k) (sym key) in
      at_insert (files_in path_at es) p e.1 path
      ∙ ap (λ (o : Option (List ℕ)). cond (same_key path p) (Some e.1) o) more
      ∙ named_row (named path) (same_key path p) path p e.1 _ refl p_named refl
      ∙ ap (λ (b : Bool). cond (named path) (cond b (Some e.1)
      (fin.find (slice_cmp nat_cmp) (file_front session part path) es)) None) same

  pub file_found : (es : Rows) (path : List ℕ) → fin.get (files_in path_at es) path ≡ found_in es path
  file_found [] path = get-empty (slice_cmp nat_cmp) path ∙ none_either (named path)
  file_found (e ∷ es) path = row_more e es path (path_at e.0) refl (file_found es path)

  module _ (whole files : FileMap) (e : List ℕ × List ℕ) (es : Rows) (f : Filed path_at whole files (e ∷ es))
      (path : List ℕ) (its : path_at e.0 ≡ Some path) where
    more : files_in path_at (e ∷ es) ≡ fin.insert (files_in path_at es) path e.1
    more = ap (λ (o : Option (List ℕ)). with_file o e.1 (files_in path_at es)) its

    -- no later row has the path
    once : fin.get (files_in path_at es) path ≡ None
    unfolding IsStrictlySortedBy
    once =
        file_found es path
        ∙ ap (λ (k : List ℕ). cond (named path) (fin.find (slice_cmp nat_cmp) k es) None)
        (sym (paths.its_key e.0 path its).0)
        ∙ ap (λ (o : Option (List ℕ)). cond (named path) o None) (not_below e.0 es f.up.0)
        ∙ sym (none_either (named path))

    one_more : fin.len (files_in path_at (e ∷ es)) ≡ fin.len (files_in path_at es) + 1
    one_more =
        ap (λ (m : FileMap). fin.len m) more ∙ len-insert nat_list_cmp_total (files_in path_at es) path e.1
        ∙ ap (λ (o : Option (List ℕ)). cond (is_some o) (fin.len (files_in path_at es))
        (fin.len (files_in path_at es) + 1)) once

    -- a file of it is one of its module
    its_file : fin.get whole path ≡ Some e.1
    its_file =
        sym (f.joined path)
        ∙ ap (λ (o : Option (List ℕ)). or_before o (fin.get files path))
        (ap (λ (m : FileMap). fin.get m path) more ∙ at_insert (files_in path_at es) path e.1 path
        ∙ ap (λ (b : Bool). cond b (Some e.1) (fin.get (files_in path_at es) path)) (eq_bytes path))

    pub is_named : IsModule whole → IsTrue (is_path path)
    is_named h = rw its_file at (h.paths path)

    -- and has room among those so far
    pub has_room : IsModule whole → put_fault files path e.1 ≡ None
    has_room h =
        let short : length e.1 ≤ 1048576 = rw its_file at (h.short path) in
        let few = h.few in
        let low : fin.len files < 64 = omega (arith, f.count, one_more, few) in
        no_fault (not (fin.contains_key files path)) (nat_le 64 (fin.len files)) (nat_lt 1048576 (length e.1))
        (length e.1) (grind (arith, nat_tests, low)) (grind (arith, nat_tests, short))

    takes_at : (b : Bool) (q : List ℕ) → same_key q path ≡ b
        → or_before (fin.get (files_in path_at es) q) (cond b (Some e.1) (fin.get files q))
        ≡ or_before (cond b (Some e.1) (fin.get (files_in path_at es) q)) (fin.get files q)
    takes_at true q same =
        ap (λ (o : Option (List ℕ)). or_before o (Some e.1))
        (ap (λ (k : List ℕ). fin.get (files_in path_at es) k) (same_bytes q path same) ∙ once)
    takes_at false q same = refl

    -- once it is put, the rest is left
    pub takes : (files' : FileMap) → files' ≡ fin.insert files path e.1 → Filed path_at whole files' es
    unfolding IsStrictlySortedBy
    takes files' put = record {
      joined = λ q. ap (λ (o : Option (List ℕ)). or_before (fin.get (files_in path_at es) q) o)
          (ap (λ (m : FileMap). fin.get m q) put ∙ at_insert files path e.1 q)
          ∙ takes_at (same_key q path) q refl
          ∙ ap (λ (o : Option (List ℕ)). or_before o (fin.get files q))
          (sym (at_insert (files_in path_at es) path e.1 q) ∙ ap (λ (m : FileMap). fin.get m q) (sym more))
          ∙ f.joined q;
      count = omega (
        arith,
        f.count,
        one_more,
        ap (λ (m : FileMap). fin.len m) put,
        len-insert nat_list_cmp_total files path e.1,
        at_most (fin.contains_key files path) (fin.len files),
      );
      up = f.up.1;
    }
