-- What the rows say whose keys have a front. Callers want `fronted`, `full_front` and `one_front`.
use Rattle.std.proofs.Common.{◌≡◌, ◌⊎◌, ℕ, ◌+◌, ◌<◌, ◌^◌, List, ◌∷◌, ◌++◌, length, Option, Some, None, sym, ap}
use Rattle.std.proofs.Common.{subst, ◌∙◌, refl, inl, inr, arith}
use Rattle.std.specs.FinMap as fin
use Rattle.std.proofs.lemmas.List.{take_at}
use Rattle.apex_base.specs.declared.numbers.Scale.{Scale}
use Rattle.apex_base.specs.declared.numbers.SessionId.{SessionId}
use Rattle.apex_base.specs.Keys.{Key, Boots, RecordOf, ActiveOf, BackupOf, FileOf, DataOf, SnapshotOf, PreRestoreOf}
use Rattle.apex_base.specs.Keys.{WatchOf, IsKey, key_text, RowMap, id_text}
use Rattle.apex_base.specs.Tables.{value_of}
use Rattle.apex_world.specs.Opened.{opened, opened_contents}
use Rattle.apex_world.specs.Rows.{row_at}
use Rattle.row_check.specs.BadRows.{opened_rows}
use Rattle.row_check.specs.KeptRows.{kept_row}
use Rattle.row_key.specs.Kept.{IsKeptTag}
use Rattle.row_check.proofs.KeptKeys.{snapshot_is, pre_restore_is}
use Rattle.row_key.specs.Data.{front_of}
use Rattle.world_check.proofs.KeyForms.{row_found}

-- The fronts of a name's data, and of what a session keeps of it

abbrev pub data_name : List ℕ → List ℕ
data_name name = 6 ∷ length name ∷ name

abbrev pub kept_name : ℕ → SessionId → List ℕ → List ℕ
kept_name tag id name = tag ∷ id_text id ++ length name ∷ name

pub data_front_of : (name key : List ℕ) → front_of (data_name name ++ key) ≡ Some (data_name name)
data_front_of name key =
    let e : length (data_name name) ≡ 1 + 1 + length name = omega arith in
    ap (λ (f : List ℕ). Some f) (take_at (data_name name) key (1 + 1 + length name) e)

pub kept_front_of : (tag : ℕ) (id : SessionId) (name key : List ℕ) → IsKeptTag tag
    → front_of (kept_name tag id name ++ key) ≡ Some (kept_name tag id name)
kept_front_of tag id name key (inl seven) =
    subst (λ (t : ℕ). front_of (kept_name t id name ++ key) ≡ Some (kept_name t id name)) (sym seven)
    (let e : length (kept_name 7 id name) ≡ 5 + 1 + length name = omega arith in
    ap (λ (f : List ℕ). Some f) (take_at (kept_name 7 id name) key (5 + 1 + length name) e))
kept_front_of tag id name key (inr eight) =
    subst (λ (t : ℕ). front_of (kept_name t id name ++ key) ≡ Some (kept_name t id name)) (sym eight)
    (let e : length (kept_name 8 id name) ≡ 5 + 1 + length name = omega arith in
    ap (λ (f : List ℕ). Some f) (take_at (kept_name 8 id name) key (5 + 1 + length name) e))

-- A row of data

pub record IsDataRow (m : RowMap) (q v front : List ℕ) : Type 0 where
  pub name : List ℕ
  pub key : List ℕ
  pub is : q ≡ data_name name ++ key
  pub begins : front ≡ data_name name
  pub value : value_of (opened_contents m) name key ≡ Some v

-- A row of what a session keeps

pub record IsKeptRow (m : RowMap) (q v front : List ℕ) : Type 0 where
  pub tag : ℕ
  pub id : SessionId
  pub name : List ℕ
  pub key : List ℕ
  pub kept : IsKeptTag tag
  pub low : id.0 < 2 ^ 32
  pub is : q ≡ kept_name tag id name ++ key
  pub begins : front ≡ kept_name tag id name
  pub value : kept_row m tag id name key ≡ Some v

abbrev pub IsFronted : RowMap → List ℕ → List ℕ → List ℕ → Type 0
IsFronted m q v front = IsDataRow m q v front ⊎ IsKeptRow m q v front

-- what is found twice is one
pub one_front : (f g : List ℕ) (o : Option (List ℕ)) → o ≡ Some f → o ≡ Some g → f ≡ g
one_front f g None a b = absurd (cc a)
one_front f g (Some h) a b = cc (a, b)

front_at : (q r front known : List ℕ) → q ≡ r → front_of q ≡ Some front → front_of r ≡ Some known → front ≡ known
front_at q r front known is e f = one_front front known (front_of q) e (ap front_of is ∙ f)

no_front : (q r front : List ℕ) → q ≡ r → front_of q ≡ Some front → front_of r ≡ None → ⊥
no_front q r front is e f = absurd (cc (sym e ∙ ap front_of is ∙ f))

module _ (m : RowMap) (scale : Scale) (right : opened_rows m scale ≡ m) where
  kept_as : (tag : ℕ) (id : SessionId) (name key q v front : List ℕ) → IsKeptTag tag → id.0 < 2 ^ 32
      → q ≡ kept_name tag id name ++ key → front_of q ≡ Some front → kept_row m tag id name key ≡ Some v
      → IsKeptRow m q v front
  kept_as tag id name key q v front kept low is f has = record {
    tag = tag;
    id = id;
    name = name;
    key = key;
    kept = kept;
    low = low;
    is = is;
    begins = front_at q (kept_name tag id name ++ key) front (kept_name tag id name) is f
        (kept_front_of tag id name key kept);
    value = has;
  }

  fronted_by : (q v front : List ℕ) (t : Key) → IsKey t → q ≡ key_text t → front_of q ≡ Some front
      → row_at (opened m scale) t ≡ Some v → IsFronted m q v front
  fronted_by q v front Boots i is f has = absurd (no_front q (key_text Boots) front is f refl)
  fronted_by q v front (RecordOf id) i is f has = absurd (no_front q (key_text (RecordOf id)) front is f refl)
  fronted_by q v front (ActiveOf name) i is f has = absurd (no_front q (key_text (ActiveOf name)) front is f refl)
  fronted_by q v front (BackupOf name) i is f has = absurd (no_front q (key_text (BackupOf name)) front is f refl)
  fronted_by q v front (FileOf id part path) i is f has =
      absurd (no_front q (key_text (FileOf id part path)) front is f refl)
  fronted_by q v front (DataOf name key) i is f has = inl (record {
    name = name;
    key = key;
    is = is;
    begins = front_at q (data_name name ++ key) front (data_name name) is f (data_front_of name key);
    value = has;
  })
  fronted_by q v front (SnapshotOf id name key) i is f has =
      inr (kept_as 7 id name key q v front (inl refl) i is f (sym (snapshot_is m scale id name key) ∙ has))
  fronted_by q v front (PreRestoreOf id name key) i is f has =
      inr (kept_as 8 id name key q v front (inr refl) i is f (sym (pre_restore_is m scale id name key) ∙ has))
  fronted_by q v front (WatchOf observer name) i is f has =
      absurd (no_front q (key_text (WatchOf observer name)) front is f refl)

  -- a row with a front is of data, or of what a session keeps
  pub fronted : (q v front : List ℕ) → fin.get m q ≡ Some v → front_of q ≡ Some front → IsFronted m q v front
  fronted q v front e f = let (t, i, is, has) = row_found m scale right q v e in fronted_by q v front t i is f has

-- A front is that of each key that begins with it

pub record IsFull (q front : List ℕ) : Type 0 where
  pub key : List ℕ
  pub is : q ≡ front ++ key
  pub each : (other : List ℕ) → front_of (front ++ other) ≡ Some front

pub full_front : (m : RowMap) (q v front : List ℕ) → IsFronted m q v front → IsFull q front
full_front m q v front (inl row) = record {
  key = row.key;
  is = row.is ∙ ap (λ (f : List ℕ). f ++ row.key) (sym row.begins);
  each = λ other. subst (λ (f : List ℕ). front_of (f ++ other) ≡ Some f) (sym row.begins)
      (data_front_of row.name other);
}
full_front m q v front (inr row) = record {
  key = row.key;
  is = row.is ∙ ap (λ (f : List ℕ). f ++ row.key) (sym row.begins);
  each = λ other. subst (λ (f : List ℕ). front_of (f ++ other) ≡ Some f) (sym row.begins)
      (kept_front_of row.tag row.id row.name other row.kept);
}
