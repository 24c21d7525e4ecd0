-- What the rows of a lawful world have at each key. Callers want `world_keys`, `world_row`, and the rows tag by tag.
use Rattle.std.proofs.Common.{◌≡◌, ℕ, ◌<◌, ◌^◌, Bool, true, cond, eqb, ◌&&◌, ◌++◌, List, [], ◌∷◌, map, flat_map}
use Rattle.std.proofs.Common.{Option, Some, None, sym, ap, subst, ◌∙◌, refl, inl, inr, arith}
use Rattle.std.specs.Prelude.{find, slice_get}
use Rattle.std.specs.Str.{bytes_eq}
use Rattle.std.specs.Ordering.{nat_cmp}
use Rattle.std.specs.Cmp.Lexicographic.{slice_cmp}
use Rattle.std.specs.FinMap as fin
use Rattle.std.specs.FinMap.{get-empty}
use Rattle.std.proofs.lemmas.Bool.{and_parts, eqb-true}
use Rattle.std.proofs.lemmas.Slice.Eq.{bytes_eq-Decides}
use Rattle.apex_base.specs.declared.numbers.SessionId.{SessionId}
use Rattle.apex_base.specs.declared.records.Part.{Part}
use Rattle.apex_base.specs.declared.records.Record.{Record}
use Rattle.apex_base.specs.Keys.{Key, Boots, RecordOf, ActiveOf, BackupOf, FileOf, DataOf, SnapshotOf, PreRestoreOf}
use Rattle.apex_base.specs.Keys.{WatchOf, IsKey, key_text}
use Rattle.apex_base.specs.Members.{In}
use Rattle.apex_base.specs.Modules.{FileMap}
use Rattle.apex_base.specs.Reading.{eight_text}
use Rattle.apex_base.specs.Sessions.{names, session_of}
use Rattle.apex_base.specs.Spelling.{record_text}
use Rattle.apex_base.specs.Tables.{NameMap, Table, or_empty, part_of, value_of}
use Rattle.apex_base.proofs.Finding.{found, some_of, some_then, some_if, is_there}
use Rattle.apex_base.proofs.MemberLemmas.{in_map, in_map_back, in_left, in_right, in_append, in_flat_map}
use Rattle.apex_base.proofs.MemberLemmas.{in_flat_map_back, any_in}
use Rattle.apex_base.proofs.RowMaps.{in_entries, in_keys, AreKeys, rows_at}
use Rattle.apex_base.proofs.SessionLemmas.{of_found}
use Rattle.apex_world.specs.declared.world.Submission.{Submission}
use Rattle.apex_world.specs.Lawful.{Lawful}
use Rattle.apex_world.specs.Rows.{stands_for, is_undoable_for, has_snapshot, has_pre_restore, earlier, boots_row}
use Rattle.apex_world.specs.Rows.{record_row, active_row, backup_row, file_row, data_row, snapshot_row}
use Rattle.apex_world.specs.Rows.{pre_restore_row, watch_row, row_at, part_keys, name_keys, record_keys, file_keys}
use Rattle.apex_world.specs.Rows.{table_keys, row_keys, rows}
use Rattle.apex_world.specs.Selection.{submitted_by}
use Rattle.apex_world.specs.World.{World, Contents, era}

pub same_name : (a b : List ℕ) → bytes_eq a b ≡ true → a ≡ b
same_name a b e = (bytes_eq-Decides a b).0 e

pub same_id : (a b : SessionId) → a.0 ≡ b.0 → a ≡ b
same_id a b e = ap (λ (n : ℕ). record { 0 = n }) e

-- Tables

some_part : {X : Type 0} (o : Option (NameMap X)) (b : List ℕ) (x : X) → fin.get (or_empty o) b ≡ Some x
    → (m : NameMap X) × (o ≡ Some m) × (fin.get m b ≡ Some x)
some_part {X} None b x e = absurd (cc (e, get-empty {X = X} (slice_cmp nat_cmp) b))
some_part (Some m) b x e = (m, refl, e)

-- a value stands in an entry of its first name
pub in_part : {X : Type 0} (t : Table X) (a b : List ℕ) (x : X) → value_of t a b ≡ Some x
    → (m : NameMap X) × (fin.get t a ≡ Some m) × (fin.get m b ≡ Some x)
in_part t a b x e = some_part (fin.get t a) b x e

in_table : {X : Type 0} (key : List ℕ → List ℕ → Key) (t : Table X) (a b : List ℕ) (x : X) → value_of t a b ≡ Some x
    → In (key a b) (table_keys key t)
in_table {X} key t a b x e =
    let (m, f, g) = in_part t a b x e in
    in_flat_map (λ (e : List ℕ × NameMap X). map (key e.0) (fin.keys e.1)) (a, m) (key a b) (fin.entries t)
    (in_entries t a m f)
    (in_map (key a) b (fin.keys m) (in_keys m b x g))

pub table_back : {X : Type 0} (key : List ℕ → List ℕ → Key) (t : Table X) (k : Key) → In k (table_keys key t)
    → (a b : List ℕ) × (key a b ≡ k)
table_back {X} key t k h =
    let (e, i, j) = in_flat_map_back (λ (e : List ℕ × NameMap X). map (key e.0) (fin.keys e.1)) k (fin.entries t) h in
    let (b, l, is) = in_map_back (key e.0) k (fin.keys e.1) j in
    (e.0, b, is)

-- the submission of a part
pub submission_of : (modules : List Submission) (session : SessionId) (part : ℕ) (m : FileMap)
    → submitted_by modules session part ≡ Some m
    → (s : Submission) × In s modules × (s.session ≡ session) × (s.part ≡ part) × (s.content ≡ m)
submission_of modules session part m e =
    let test : Submission → Bool = λ s. eqb s.session.0 session.0 && eqb s.part part in
    let (s, f, is) = some_of (λ (s : Submission). s.content) (find test modules) m e in
    let (h, t) = found test modules s f in
    let (a, b) = and_parts (eqb s.session.0 session.0) (eqb s.part part) t in
    (s, h, same_id s.session session (eqb-true s.session.0 session.0 a), eqb-true s.part part b, is)

-- a session's part of a name
named_part : (name : List ℕ) (r : Record) → names name r ≡ true → (p : Part) × In p r.parts × (p.name ≡ name)
named_part name r e =
    let (p, i, c) = any_in (λ (p : Part). bytes_eq p.name name) r.parts e in
    (p, i, same_name p.name name c)

-- The keys of a world

abbrev sessions_keys : World → List Key
sessions_keys w = flat_map (record_keys w.eras) w.sessions

abbrev modules_keys : World → List Key
modules_keys w = flat_map file_keys w.modules

in_sessions : (w : World) (k : Key) → In k (sessions_keys w) → In k (row_keys w)
in_sessions w k h = inr (in_left k (sessions_keys w ++ modules_keys w ++ table_keys DataOf w.contents)
    (table_keys WatchOf w.watches)
    (in_left k (sessions_keys w ++ modules_keys w) (table_keys DataOf w.contents)
    (in_left k (sessions_keys w) (modules_keys w) h)))

in_modules : (w : World) (k : Key) → In k (modules_keys w) → In k (row_keys w)
in_modules w k h = inr (in_left k (sessions_keys w ++ modules_keys w ++ table_keys DataOf w.contents)
    (table_keys WatchOf w.watches)
    (in_left k (sessions_keys w ++ modules_keys w) (table_keys DataOf w.contents)
    (in_right k (sessions_keys w) (modules_keys w) h)))

in_contents : (w : World) (k : Key) → In k (table_keys DataOf w.contents) → In k (row_keys w)
in_contents w k h = inr (in_left k (sessions_keys w ++ modules_keys w ++ table_keys DataOf w.contents)
    (table_keys WatchOf w.watches)
    (in_right k (sessions_keys w ++ modules_keys w) (table_keys DataOf w.contents) h))

in_watches : (w : World) (k : Key) → In k (table_keys WatchOf w.watches) → In k (row_keys w)
in_watches w k h = inr (in_right k (sessions_keys w ++ modules_keys w ++ table_keys DataOf w.contents)
    (table_keys WatchOf w.watches) h)

of_record : (w : World) (r : Record) (k : Key) → In r w.sessions → In k (record_keys w.eras r) → In k (row_keys w)
of_record w r k h i = in_sessions w k (in_flat_map (record_keys w.eras) r k w.sessions h i)

-- a key of a name that a session has
of_name : (w : World) (r : Record) (name : List ℕ) (k : Key) → In r w.sessions → names name r ≡ true
    → In k (name_keys w.eras r name) → In k (row_keys w)
of_name w r name k h n i =
    let (p, j, e) = named_part name r n in
    of_record w r k h (inr (in_flat_map (λ (p : Part). name_keys w.eras r p.name) p k r.parts j
    (subst (λ (n : List ℕ). In k (name_keys w.eras r n)) (sym e) i)))

-- a key of a value that the name had before a session
of_part : (w : World) (r : Record) (name key v : List ℕ) (k : Key) → In r w.sessions → earlier w name key r ≡ Some v
    → In k (SnapshotOf r.id name key ∷ PreRestoreOf r.id name key ∷ []) → In k (row_keys w)
of_part w r name key v k h e i =
    let (n, f) = some_if (names name r) (value_of (era w.eras r.activation) name key) v e in
    of_name w r name k h n (inr (inr (in_flat_map (λ (key : List ℕ).
    SnapshotOf r.id name key ∷ PreRestoreOf r.id name key ∷ []) key k
    (fin.keys (part_of (era w.eras r.activation) name))
    (in_keys (part_of (era w.eras r.activation) name) key v f) i)))

-- each key that has a value is there
all_keys : (w : World) (k : Key) (v : List ℕ) → row_at w k ≡ Some v → In k (row_keys w)
all_keys w Boots v e = inl refl
all_keys w (RecordOf id) v e =
    let (r, f, is) = some_of record_text (session_of w.sessions id) v e in
    let (h, same) = of_found w.sessions id r f in
    of_record w r (RecordOf id) h (inl (ap RecordOf (same_id r.id id same)))
all_keys w (ActiveOf name) v e =
    let (r, h, b) = any_in (stands_for name) w.sessions (some_if _ _ v e).0 in
    of_name w r name (ActiveOf name) h (and_parts _ _ b).1 (inl refl)
all_keys w (BackupOf name) v e =
    let (r, f, is) = some_of _ (find (is_undoable_for name) w.sessions) v e in
    let (h, b) = found (is_undoable_for name) w.sessions r f in
    of_name w r name (BackupOf name) h (and_parts _ _ b).1 (inr (inl refl))
all_keys w (FileOf session part path) v e =
    let (m, f, is) = some_then (λ (m : FileMap). fin.get m path) (submitted_by w.modules session part) v
    (some_if _ _ v e).1 in
    let (s, h, es, ep, ec) = submission_of w.modules session part m f in
    let there : fin.get s.content path ≡ Some v = ap (λ (m : FileMap). fin.get m path) ec ∙ is in
    let key = in_map (λ (path : List ℕ). FileOf s.session s.part path) path (fin.keys s.content)
    (in_keys s.content path v there) in
    let one : FileOf s.session s.part path ≡ FileOf session part path =
    ap (λ (id : SessionId). FileOf id s.part path) es ∙ ap (λ (n : ℕ). FileOf session n path) ep in
    in_modules w (FileOf session part path) (in_flat_map file_keys s (FileOf session part path) w.modules h
    (subst (λ k. In k (file_keys s)) one key))
all_keys w (DataOf name key) v e = in_contents w (DataOf name key) (in_table DataOf w.contents name key v e)
all_keys w (SnapshotOf id name key) v e =
    let (r, f, is) = some_then (λ (r : Record). cond (has_snapshot w.sessions r) (earlier w name key r) None)
    (session_of w.sessions id) v e in
    let (h, same) = of_found w.sessions id r f in
    of_part w r name key v (SnapshotOf id name key) h (some_if _ _ v is).1
    (inl (ap (λ (id : SessionId). SnapshotOf id name key) (same_id r.id id same)))
all_keys w (PreRestoreOf id name key) v e =
    let (r, f, is) = some_then (λ (r : Record). cond (has_pre_restore r) (earlier w name key r) None)
    (session_of w.sessions id) v e in
    let (h, same) = of_found w.sessions id r f in
    of_part w r name key v (PreRestoreOf id name key) h (some_if _ _ v is).1
    (inr (inl (ap (λ (id : SessionId). PreRestoreOf id name key) (same_id r.id id same))))
all_keys w (WatchOf observer name) v e =
    let (end, f, is) = some_of (λ (end : ℕ). eight_text end []) (value_of w.watches observer name) v e in
    in_watches w (WatchOf observer name) (in_table WatchOf w.watches observer name end f)

-- and each key has numbers of their width

part_keyed : (era : Contents) (id : SessionId) (name : List ℕ) (k : Key) → id.0 < 2 ^ 32
    → In k (part_keys era id name) → IsKey k
part_keyed era id name k l h =
    let (key, i, j) = in_flat_map_back (λ (key : List ℕ). SnapshotOf id name key ∷ PreRestoreOf id name key ∷ []) k
    (fin.keys (part_of era name)) h in
    elim j [
      | inl e ↦ subst IsKey e l
      | inr m ↦ elim m [
        | inl e ↦ subst IsKey e l
        | inr n ↦ absurd n
      ]
    ]

name_keyed : (eras : List Contents) (r : Record) (name : List ℕ) (k : Key) → r.id.0 < 2 ^ 32
    → In k (name_keys eras r name) → IsKey k
name_keyed eras r name k l (inl e) = subst IsKey e tt
name_keyed eras r name k l (inr (inl e)) = subst IsKey e tt
name_keyed eras r name k l (inr (inr h)) = part_keyed (era eras r.activation) r.id name k l h

record_keyed : (eras : List Contents) (r : Record) (k : Key) → r.id.0 < 2 ^ 32 → In k (record_keys eras r) → IsKey k
record_keyed eras r k l (inl e) = subst IsKey e l
record_keyed eras r k l (inr h) =
    let (p, i, j) = in_flat_map_back (λ (p : Part). name_keys eras r p.name) k r.parts h in
    name_keyed eras r p.name k l j

module _ (w : World) (made : (r : Record) → In r w.sessions → r.id.0 < 2 ^ 32)
    (submitted : (s : Submission) → In s w.modules → s.session.0 < 2 ^ 32) where
  keyed : (k : Key) → In k (row_keys w) → IsKey k
  keyed k (inl e) = subst IsKey e tt
  keyed k (inr h) =
      elim (in_append k (sessions_keys w ++ modules_keys w ++ table_keys DataOf w.contents)
      (table_keys WatchOf w.watches) h) [
        | inr i ↦ let (a, b, e) = table_back WatchOf w.watches k i in subst IsKey e tt
        | inl i ↦ elim (in_append k (sessions_keys w ++ modules_keys w) (table_keys DataOf w.contents) i) [
          | inr j ↦ let (a, b, e) = table_back DataOf w.contents k j in subst IsKey e tt
          | inl j ↦ elim (in_append k (sessions_keys w) (modules_keys w) j) [
            | inl l ↦ let (r, m, n) = in_flat_map_back (record_keys w.eras) k w.sessions l in
                record_keyed w.eras r k (made r m) n
            | inr l ↦
                let (s, m, n) = in_flat_map_back file_keys k w.modules l in
                let (path, o, e) = in_map_back (λ (path : List ℕ). FileOf s.session s.part path) k
                (fin.keys s.content) n in
                subst IsKey e (submitted s m)
          ]
        ]
      ]

  -- the keys have each key that has a value, where sessions and modules have ids of their width
  pub wide_keys : AreKeys (row_keys w) (row_at w)
  wide_keys = record { keyed = keyed; all = λ k v i e. all_keys w k v e }

module _ (w : World) (law : Lawful w) where
  pub record_id : (r : Record) → In r w.sessions → r.id.0 < 2 ^ 32
  record_id r h = (law.ranges.sessions r h).id

  -- a submission's session was made
  pub submitted_id : (s : Submission) → In s w.modules → s.session.0 < 2 ^ 32
  submitted_id s h =
      let (p, e) = is_there _ (law.modules.owned s h) in
      let (r, f, is) = some_then (λ (r : Record). slice_get r.parts s.part) (session_of w.sessions s.session) p e in
      let (i, same) = of_found w.sessions s.session r f in
      let l = record_id r i in
      omega (arith, l, same)

  -- the keys of a world have each key that has a value
  pub world_keys : AreKeys (row_keys w) (row_at w)
  world_keys = wide_keys w record_id submitted_id

  -- at each key the rows have its row
  pub world_row : (k : Key) → IsKey k → fin.get (rows w) (key_text k) ≡ row_at w k
  world_row k i = rows_at (row_keys w) (row_at w) world_keys k i

  -- The rows, tag by tag

  pub boots_at : fin.get (rows w) (key_text Boots) ≡ boots_row w
  boots_at = world_row Boots tt

  pub record_at : (id : SessionId) → id.0 < 2 ^ 32 → fin.get (rows w) (key_text (RecordOf id)) ≡ record_row w id
  record_at id l = world_row (RecordOf id) l

  pub active_at : (name : List ℕ) → fin.get (rows w) (key_text (ActiveOf name)) ≡ active_row w name
  active_at name = world_row (ActiveOf name) tt

  pub backup_at : (name : List ℕ) → fin.get (rows w) (key_text (BackupOf name)) ≡ backup_row w name
  backup_at name = world_row (BackupOf name) tt

  pub file_at : (session : SessionId) (part : ℕ) (path : List ℕ) → session.0 < 2 ^ 32
      → fin.get (rows w) (key_text (FileOf session part path)) ≡ file_row w session part path
  file_at session part path l = world_row (FileOf session part path) l

  pub data_at : (name key : List ℕ) → fin.get (rows w) (key_text (DataOf name key)) ≡ data_row w name key
  data_at name key = world_row (DataOf name key) tt

  pub snapshot_at : (id : SessionId) (name key : List ℕ) → id.0 < 2 ^ 32
      → fin.get (rows w) (key_text (SnapshotOf id name key)) ≡ snapshot_row w id name key
  snapshot_at id name key l = world_row (SnapshotOf id name key) l

  pub pre_restore_at : (id : SessionId) (name key : List ℕ) → id.0 < 2 ^ 32
      → fin.get (rows w) (key_text (PreRestoreOf id name key)) ≡ pre_restore_row w id name key
  pre_restore_at id name key l = world_row (PreRestoreOf id name key) l

  pub watch_at : (observer name : List ℕ) → fin.get (rows w) (key_text (WatchOf observer name))
      ≡ watch_row w observer name
  watch_at observer name = world_row (WatchOf observer name) tt
