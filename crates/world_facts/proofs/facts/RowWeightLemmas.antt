-- The rows of a lawful world weigh what its kept modules and its data weigh. Callers want `file_rows_weigh`,
-- `middle_and_data_weigh` and `own_files`.
use Rattle.std.proofs.Common.{◌≡◌, ◌≢◌, ℕ, Bool, true, false, cond, eqb, ◌&&◌, List, [], ◌∷◌, ◌++◌, map, flat_map}
use Rattle.std.proofs.Common.{Option, Some, None, sym, ap, subst, ◌∙◌, refl, inl, inr, arith, ◌+◌}
use Rattle.std.specs.Prelude.{option_and_then}
use Rattle.std.specs.List.{sum_by}
use Rattle.std.specs.Option.{option_map}
use Rattle.std.specs.Ordering.{nat_cmp}
use Rattle.std.specs.Cmp.Lexicographic.{slice_cmp}
use Rattle.std.specs.FinMap as fin
use Rattle.std.specs.FinMap.{is_sorted}
use Rattle.std.proofs.lemmas.Bool.{and_parts, and_from, eqb-true, eq-eqb}
use Rattle.std.proofs.lemmas.List.Sums.{sum_by-cons, sum_by-append, sum-map}
use Rattle.apex_base.specs.declared.numbers.SessionId.{SessionId}
use Rattle.apex_base.specs.declared.records.Part.{Part}
use Rattle.apex_base.specs.declared.records.Record.{Record}
use Rattle.apex_base.specs.Held.{kept, is_target}
use Rattle.apex_base.specs.Keys.{Key, Boots, RecordOf, ActiveOf, BackupOf, FileOf, DataOf, SnapshotOf, PreRestoreOf}
use Rattle.apex_base.specs.Keys.{WatchOf, key_text, row_of}
use Rattle.apex_base.specs.Members.{In, EachPair}
use Rattle.apex_base.specs.Modules.{FileMap, file_weight}
use Rattle.apex_base.specs.RowSums.{has_tag, file_row_weight, kept_weight}
use Rattle.apex_base.specs.Tables.{Table, part_of}
use Rattle.apex_base.proofs.Finding.{found, finds}
use Rattle.apex_base.proofs.MemberLemmas.{in_append, in_map_back, in_flat_map_back, in_any, each_in}
use Rattle.apex_base.proofs.RowMaps.{below_in, sorted_entries, entry_get}
use Rattle.apex_base.proofs.RowWeights.{AreOnce, AreLight, once_light, once_append, key_weight, rows_weight, light_sum}
use Rattle.apex_world.specs.declared.world.Submission.{Submission}
use Rattle.apex_world.specs.Lawful.{Lawful}
use Rattle.apex_world.specs.Limits.{target_weight, weight}
use Rattle.apex_world.specs.Rows.{row_at, part_keys, name_keys, record_keys, file_keys, table_keys, row_keys, rows}
use Rattle.apex_world.specs.Selection.{submitted_by}
use Rattle.apex_world.specs.World.{World, Contents, era}
use Rattle.world_facts.proofs.facts.WorldRows.{table_back, world_keys}

-- What holds of each key of a session

pub record OfSessions (P : Key → Type 0) : Type 0 where
  pub record_of : (id : SessionId) → P (RecordOf id)
  pub active : (name : List ℕ) → P (ActiveOf name)
  pub backup : (name : List ℕ) → P (BackupOf name)
  pub snapshot : (id : SessionId) (name key : List ℕ) → P (SnapshotOf id name key)
  pub pre_restore : (id : SessionId) (name key : List ℕ) → P (PreRestoreOf id name key)

module _ (P : Key → Type 0) (each : OfSessions P) where
  each_part : (era : Contents) (id : SessionId) (name : List ℕ) (k : Key) → In k (part_keys era id name) → P k
  each_part era id name k h =
      let (key, i, j) = in_flat_map_back (λ (key : List ℕ). SnapshotOf id name key ∷ PreRestoreOf id name key ∷ [])
      k (fin.keys (part_of era name)) h in
      elim j [
        | inl e ↦ subst P e (each.snapshot id name key)
        | inr m ↦ elim m [
          | inl e ↦ subst P e (each.pre_restore id name key)
          | inr n ↦ absurd n
        ]
      ]

  each_name : (eras : List Contents) (r : Record) (name : List ℕ) (k : Key) → In k (name_keys eras r name) → P k
  each_name eras r name k (inl e) = subst P e (each.active name)
  each_name eras r name k (inr (inl e)) = subst P e (each.backup name)
  each_name eras r name k (inr (inr h)) = each_part (era eras r.activation) r.id name k h

  each_record : (eras : List Contents) (r : Record) (k : Key) → In k (record_keys eras r) → P k
  each_record eras r k (inl e) = subst P e (each.record_of r.id)
  each_record eras r k (inr h) = let (p, i, j) = in_flat_map_back
      (λ (p : Part). name_keys eras r p.name) k r.parts h in each_name eras r p.name k j

  pub each_session : (eras : List Contents) (ss : List Record) (k : Key) → In k (flat_map (record_keys eras) ss) → P k
  each_session eras ss k h = let (r, i, j) = in_flat_map_back (record_keys eras) k ss h in each_record eras r k j

-- Modules by their part

abbrev pub AreDistinct : List Submission → Type 0
AreDistinct ms = EachPair (λ (s t : Submission). s.session.0 ≡ t.session.0 → s.part ≢ t.part) ms

one_part : (xs : List Submission) (x y : Submission) → AreDistinct xs → In x xs → In y xs
    → x.session.0 ≡ y.session.0 → x.part ≡ y.part → x ≡ y
one_part [] x y a h i s p = absurd h
one_part (z ∷ xs) x y a (inl e) (inl f) s p = sym e ∙ f
one_part (z ∷ xs) x y a (inl e) (inr i) s p =
    absurd (each_in (λ (t : Submission). z.session.0 ≡ t.session.0
    → z.part ≢ t.part) xs a.0 y i (ap (λ (t : Submission). t.session.0) e
    ∙ s) (ap (λ (t : Submission). t.part) e ∙ p))
one_part (z ∷ xs) x y a (inr h) (inl f) s p =
    absurd (each_in (λ (t : Submission). z.session.0 ≡ t.session.0
    → z.part ≢ t.part) xs a.0 x h (ap (λ (t : Submission). t.session.0) f
    ∙ sym s) (ap (λ (t : Submission). t.part) f ∙ sym p))
one_part (z ∷ xs) x y a (inr h) (inr i) s p = one_part xs x y a.1 h i s p

-- the files of a submission are those that its part has
pub own_files : (ms : List Submission) (x : Submission) → AreDistinct ms → In x ms
    → submitted_by ms x.session x.part ≡ Some x.content
own_files ms x a h =
    let test : Submission → Bool = λ s. eqb s.session.0 x.session.0 && eqb s.part x.part in
    let (y, e) = finds test ms (in_any test x ms h (and_from _ _ (eq-eqb x.session.0 x.session.0 refl)
    (eq-eqb x.part x.part refl))) in
    let (i, is) = found test ms y e in
    let both = and_parts (eqb y.session.0 x.session.0) (eqb y.part x.part) is in
    let one : y ≡ x = one_part ms y x a i h (eqb-true y.session.0 x.session.0 both.0) (eqb-true y.part x.part both.1) in
    ap (λ (o : Option Submission). option_map (λ (s : Submission). s.content) o) e
    ∙ ap (λ (s : Submission). Some s.content) one

-- The rows of files

abbrev is_file : List ℕ → Bool
is_file key = has_tag 5 key

file_light : (k v : List ℕ) → is_file k ≡ false → file_row_weight (k, v) ≡ 0
file_light k v e = rw e refl

sessions_light : OfSessions (λ k. is_file (key_text k) ≡ false)
sessions_light = record {
  record_of = λ id. refl;
  active = λ name. refl;
  backup = λ name. refl;
  snapshot = λ id name key. refl;
  pre_restore = λ id name key. refl;
}

pub table_light : {X : Type 0} (heavy : List ℕ → Bool) (key : List ℕ → List ℕ → Key) (t : Table X)
    → ((a b : List ℕ) → heavy (key_text (key a b)) ≡ false) → (k : Key) → In k (table_keys key t)
    → heavy (key_text k) ≡ false
table_light heavy key t light k h = let (a, b, e) = table_back key t k h in
    subst (λ (k : Key). heavy (key_text k) ≡ false) e (light a b)

abbrev file_key : Submission → List ℕ → Key
file_key s path = FileOf s.session s.part path

abbrev key_session : Key → ℕ
key_session Boots = 0
key_session (RecordOf id) = 0
key_session (ActiveOf name) = 0
key_session (BackupOf name) = 0
key_session (FileOf session part path) = session.0
key_session (DataOf name key) = 0
key_session (SnapshotOf id name key) = 0
key_session (PreRestoreOf id name key) = 0
key_session (WatchOf observer name) = 0

abbrev key_part : Key → ℕ
key_part Boots = 0
key_part (RecordOf id) = 0
key_part (ActiveOf name) = 0
key_part (BackupOf name) = 0
key_part (FileOf session part path) = part
key_part (DataOf name key) = 0
key_part (SnapshotOf id name key) = 0
key_part (PreRestoreOf id name key) = 0
key_part (WatchOf observer name) = 0

-- the last field of a key, and the first name of a key of data
abbrev pub key_last : Key → List ℕ
key_last Boots = []
key_last (RecordOf id) = []
key_last (ActiveOf name) = name
key_last (BackupOf name) = name
key_last (FileOf session part path) = path
key_last (DataOf name key) = key
key_last (SnapshotOf id name key) = key
key_last (PreRestoreOf id name key) = key
key_last (WatchOf observer name) = name

abbrev pub key_first : Key → List ℕ
key_first Boots = []
key_first (RecordOf id) = []
key_first (ActiveOf name) = []
key_first (BackupOf name) = []
key_first (FileOf session part path) = []
key_first (DataOf name key) = name
key_first (SnapshotOf id name key) = name
key_first (PreRestoreOf id name key) = name
key_first (WatchOf observer name) = observer

abbrev pub names_of : {X : Type 0} → List (List ℕ × X) → List (List ℕ)
names_of es = map (λ e. e.0) es

abbrev pub front : World → List Key
front w = flat_map (record_keys w.eras) w.sessions

abbrev pub middle : World → List Key
middle w = flat_map file_keys w.modules

abbrev pub data_keys : World → List Key
data_keys w = table_keys DataOf w.contents

abbrev pub watch_keys : World → List Key
watch_keys w = table_keys WatchOf w.watches

-- keys that are made of different names differ
pub once_map : {X : Type 0} (heavy : List ℕ → Bool) (g : List ℕ × List ℕ → ℕ) (light : (k v : List ℕ)
    → heavy k ≡ false → g (k, v) ≡ 0) (key : List ℕ → Key) → ((a : List ℕ) → key_last (key a) ≡ a)
    → (es : List (List ℕ × X))
    → is_sorted (slice_cmp nat_cmp) es ≡ true → AreOnce heavy g light (map key (names_of es))
once_map heavy g light key last [] b = tt
once_map {X} heavy g light key last (e ∷ es) b = (
  inr (λ t h same.
      let (n, i, is) = in_map_back key t (names_of es) h in
      let (f, j, was) = in_map_back (λ (e : List ℕ × X). e.0) n es i in
      below_in e.0 es f (and_parts _ _ b).0 j (sym (last e.0) ∙ ap key_last (sym same ∙ sym is) ∙ last n ∙ sym was)),
  once_map heavy g light key last es (and_parts _ _ b).1,
)

-- where the heavy rows are those of files or of data, all rows weigh what these do
module _ (w : World) (law : Lawful w) (heavy : List ℕ → Bool) (g : List ℕ × List ℕ → ℕ)
    (light : (k v : List ℕ) → heavy k ≡ false → g (k, v) ≡ 0) (boots_light : heavy (key_text Boots) ≡ false)
    (front_light : AreLight heavy g light (front w)) (watch_light : AreLight heavy g light (watch_keys w)) where
  abbrev weighed : Key → ℕ
  weighed k = key_weight heavy g light (row_at w) k

  once_each : AreOnce heavy g light (middle w) → AreOnce heavy g light (data_keys w)
      → ((k : Key) → In k (middle w) → In k (data_keys w) → heavy (key_text k) ≡ false)
      → AreOnce heavy g light (row_keys w)
  once_each files entries apart =
      let two = once_append heavy g light (front w) (middle w) (once_light heavy g light (front w) front_light) files
      (λ k h i. front_light k h) in
      let three = once_append heavy g light (front w ++ middle w) (data_keys w) two entries
      (λ k h i. elim (in_append k (front w) (middle w) h) [
        | inl l ↦ front_light k l
        | inr l ↦ apart k l i
      ]) in
      let four = once_append heavy g light (front w ++ middle w ++ data_keys w) (watch_keys w) three
      (once_light heavy g light (watch_keys w) watch_light) (λ k h i. watch_light k i) in
      (inl boots_light, four)

  pub middle_and_data_weigh : AreOnce heavy g light (middle w) → AreOnce heavy g light (data_keys w)
      → ((k : Key) → In k (middle w) → In k (data_keys w) → heavy (key_text k) ≡ false)
      → sum_by g (fin.entries (rows w)) ≡ sum_by weighed (middle w) + sum_by weighed (data_keys w)
  middle_and_data_weigh files entries apart =
      let a = rows_weight heavy g light (row_at w) (row_keys w) (world_keys w law).keyed
      (once_each files entries apart) in
      let b = sum_by-cons weighed Boots (front w ++ middle w ++ data_keys w ++ watch_keys w) in
      let c = light_sum heavy g light (row_at w) (Boots ∷ []) (λ k h. elim h [
        | inl e ↦ subst (λ (k : Key). heavy (key_text k) ≡ false) e boots_light
        | inr n ↦ absurd n
      ]) in
      let c' = sum_by-cons weighed Boots [] in
      let d = sum_by-append weighed (front w ++ middle w ++ data_keys w) (watch_keys w) in
      let e = sum_by-append weighed (front w ++ middle w) (data_keys w) in
      let f = sum_by-append weighed (front w) (middle w) in
      let first = light_sum heavy g light (row_at w) (front w) front_light in
      let last = light_sum heavy g light (row_at w) (watch_keys w) watch_light in
      omega (arith, a, b, c, c', d, e, f, first, last)

module _ (w : World) (law : Lawful w) where
  once_files : (ms : List Submission) → AreDistinct ms → AreOnce is_file file_row_weight file_light
      (flat_map file_keys ms)
  once_files [] a = tt
  once_files (s ∷ ms) a =
      once_append is_file file_row_weight file_light (file_keys s) (flat_map file_keys ms)
      (once_map is_file file_row_weight file_light (file_key s) (λ path. refl) (fin.entries s.content)
      (sorted_entries s.content)) (once_files ms a.1) (λ x h i.
      let (path, j, is) = in_map_back (file_key s) x (fin.keys s.content) h in
      let (t, k, l) = in_flat_map_back file_keys x ms i in
      let (path', m, was) = in_map_back (file_key t) x (fin.keys t.content) l in
      let one : file_key s path ≡ file_key t path' = is ∙ sym was in
      absurd (each_in (λ (t : Submission). s.session.0 ≡ t.session.0
      → s.part ≢ t.part) ms a.0 t k (ap key_session one) (ap key_part one)))

  file_value : (s : Submission) (e : List ℕ × List ℕ) → In s w.modules → In e (fin.entries s.content)
      → row_at w (file_key s e.0) ≡ cond (is_target (kept w.sessions) s.session s.part) (Some e.1) None
  file_value s e h i =
      ap (λ (o : Option FileMap). cond (is_target (kept w.sessions) s.session s.part)
      (option_and_then (λ (m : FileMap). fin.get m e.0) o) None) (own_files w.modules s law.modules.distinct h)
      ∙ ap (λ (o : Option (List ℕ)). cond (is_target (kept w.sessions) s.session s.part) o None)
      (entry_get s.content e i)

  file_weight_if : (b : Bool) (s : Submission) (e : List ℕ × List ℕ)
      → sum_by file_row_weight (row_of (file_key s e.0) (cond b (Some e.1) None)) ≡ cond b (file_weight e.1) 0
  file_weight_if true s e = let a = sum_by-cons file_row_weight (key_text (file_key s e.0), e.1) [] in omega (arith, a)
  file_weight_if false s e = refl

  abbrev row_weight : Key → ℕ
  row_weight k = key_weight is_file file_row_weight file_light (row_at w) k

  file_weighs : (s : Submission) (e : List ℕ × List ℕ) → In s w.modules → In e (fin.entries s.content)
      → row_weight (file_key s e.0) ≡ cond (is_target (kept w.sessions) s.session s.part) (file_weight e.1) 0
  file_weighs s e h i = ap (λ (o : Option (List ℕ)). sum_by file_row_weight (row_of (file_key s e.0) o))
      (file_value s e h i) ∙ file_weight_if (is_target (kept w.sessions) s.session s.part) s e

  if_sum : (b : Bool) (es : List (List ℕ × List ℕ)) → sum_by
      (λ (e : List ℕ × List ℕ). cond b (file_weight e.1) 0) es
      ≡ cond b (sum_by (λ (e : List ℕ × List ℕ). file_weight e.1) es) 0
  if_sum true es = refl
  if_sum false [] = refl
  if_sum false (e ∷ es) = let a = sum_by-cons (λ (e : List ℕ × List ℕ). cond false (file_weight e.1) 0) e es in
      let b = if_sum false es in omega (arith, a, b)

  files_sum : (s : Submission) (es : List (List ℕ × List ℕ)) → In s w.modules
      → ((e : List ℕ × List ℕ) → In e es → In e (fin.entries s.content))
      → sum_by row_weight (map (file_key s) (names_of es))
      ≡ sum_by (λ (e : List ℕ × List ℕ). cond (is_target (kept w.sessions) s.session s.part) (file_weight e.1) 0) es
  files_sum s [] h f = refl
  files_sum s (e ∷ es) h f =
      let a = sum_by-cons row_weight (file_key s e.0) (map (file_key s) (names_of es)) in
      let b = sum_by-cons (λ (e : List ℕ × List ℕ). cond (is_target (kept w.sessions) s.session s.part)
      (file_weight e.1) 0) e es in
      let c = file_weighs s e h (f e (inl refl)) in
      let d = files_sum s es h (λ x i. f x (inr i)) in
      omega (arith, a, b, c, d)

  module_sum : (s : Submission) → In s w.modules → sum_by row_weight (file_keys s) ≡ target_weight (kept w.sessions) s
  module_sum s h =
      files_sum s (fin.entries s.content) h (λ e i. i) ∙ if_sum (is_target (kept w.sessions) s.session s.part)
      (fin.entries s.content)
      ∙ ap (λ (n : ℕ). cond (is_target (kept w.sessions) s.session s.part) n 0)
      (sym (sum-map (λ (e : List ℕ × List ℕ). file_weight e.1) (fin.entries s.content)))

  modules_sum : (ms : List Submission) → ((s : Submission) → In s ms → In s w.modules)
      → sum_by row_weight (flat_map file_keys ms) ≡ sum_by (target_weight (kept w.sessions)) ms
  modules_sum [] f = refl
  modules_sum (s ∷ ms) f =
      let a = sum_by-append row_weight (file_keys s) (flat_map file_keys ms) in
      let b = sum_by-cons (target_weight (kept w.sessions)) s ms in
      let c = module_sum s (f s (inl refl)) in
      let d = modules_sum ms (λ t h. f t (inr h)) in
      omega (arith, a, b, c, d)

  front_light : AreLight is_file file_row_weight file_light (front w)
  front_light = each_session (λ k. is_file (key_text k) ≡ false) sessions_light w.eras w.sessions

  data_light : AreLight is_file file_row_weight file_light (data_keys w)
  data_light = table_light is_file DataOf w.contents (λ a b. refl)

  watch_light : AreLight is_file file_row_weight file_light (watch_keys w)
  watch_light = table_light is_file WatchOf w.watches (λ a b. refl)

  -- the rows of files weigh what the kept modules do
  pub file_rows_weigh : kept_weight (rows w) ≡ weight w
  file_rows_weigh =
      let a = middle_and_data_weigh w law is_file file_row_weight file_light refl front_light watch_light
      (once_files w.modules law.modules.distinct)
      (once_light is_file file_row_weight file_light (data_keys w) data_light) (λ k h i. data_light k i) in
      let b = light_sum is_file file_row_weight file_light (row_at w) (data_keys w) data_light in
      let c = modules_sum w.modules (λ s h. h) in
      omega (arith, a, b, c)
