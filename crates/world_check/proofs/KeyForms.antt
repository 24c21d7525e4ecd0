-- What the rows say whose world they are. Callers want `row_found`, `watch_there` and `watch_back`.
use Rattle.std.proofs.Common.{◌≡◌, ℕ, List, [], ◌∷◌, Some, sym, ap, ◌∙◌}
use Rattle.std.specs.Prelude.{option_and_then}
use Rattle.std.specs.Option.{option_map}
use Rattle.std.specs.FinMap as fin
use Rattle.apex_base.specs.declared.numbers.Scale.{Scale}
use Rattle.apex_base.specs.Keys.{Key, Boots, RecordOf, ActiveOf, BackupOf, FileOf, DataOf, SnapshotOf, PreRestoreOf}
use Rattle.apex_base.specs.Keys.{WatchOf, IsKey, key_text, RowMap, watch_front}
use Rattle.apex_base.specs.Reading.{eight_text}
use Rattle.apex_base.specs.Tables.{value_of}
use Rattle.apex_base.specs.Text.{is_name}
use Rattle.apex_base.proofs.Finding.{some_if, some_of, some_then}
use Rattle.apex_world.specs.Opened.{opened, opened_watches, value_in, end_of, end_in}
use Rattle.apex_world.specs.Rows.{row_at}
use Rattle.row_check.specs.BadRows.{opened_rows}
use Rattle.row_check.proofs.OpenedValues.{watch_value}
use Rattle.row_check.proofs.OpenedWorld.{opened_found}

-- Each row is that of a key

pub row_found : (m : RowMap) (scale : Scale) → opened_rows m scale ≡ m → (q v : List ℕ) → fin.get m q ≡ Some v
    → (t : Key) × IsKey t × (q ≡ key_text t) × (row_at (opened m scale) t ≡ Some v)
row_found m scale right q v e = opened_found m scale q v (ap (λ (n : RowMap). fin.get n q) right ∙ e)

-- Watches

-- the end of a watch, and its row
pub record IsWatchRow (m : RowMap) (observer name : List ℕ) (end : ℕ) (v : List ℕ) : Type 0 where
  pub there : fin.get m (watch_front observer name) ≡ Some v
  pub read : end_of v ≡ Some end

pub watch_there : (m : RowMap) (observer name : List ℕ) (end : ℕ) → value_of (opened_watches m) observer name ≡ Some end
    → (v : List ℕ) × IsWatchRow m observer name end v
watch_there m observer name end e =
    let (known, f) = some_if (is_name observer) (end_in m observer name) end (sym (watch_value m observer name) ∙ e) in
    let (v, g, h) = some_then end_of (value_in m (watch_front observer) name) end f in
    let (named, there) = some_if (is_name name) (fin.get m (watch_front observer name)) v g in
    (v, record { there = there; read = h })

-- a row of tag 9 is that of a watch
pub record IsOfWatch (m : RowMap) (q v : List ℕ) : Type 0 where
  pub observer : List ℕ
  pub name : List ℕ
  pub end : ℕ
  pub key : q ≡ watch_front observer name
  pub value : value_of (opened_watches m) observer name ≡ Some end
  pub read : end_of v ≡ Some end

of_watch : (m : RowMap) (observer name q v : List ℕ) → fin.get m q ≡ Some v → q ≡ watch_front observer name
    → option_map (λ (n : ℕ). eight_text n []) (value_of (opened_watches m) observer name) ≡ Some v → IsOfWatch m q v
of_watch m observer name q v e is has =
    let (end, f, g) = some_of (λ (n : ℕ). eight_text n []) (value_of (opened_watches m) observer name) v has in
    let (u, row) = watch_there m observer name end f in
    let same : Some u ≡ Some v = sym row.there ∙ ap (fin.get m) (sym is) ∙ e in
    record {
      observer = observer;
      name = name;
      end = end;
      key = is;
      value = f;
      read = ap (option_and_then end_of) (sym same) ∙ row.read;
    }

module _ (m : RowMap) (scale : Scale) (right : opened_rows m scale ≡ m) where
  watch_by : (rest v : List ℕ) (t : Key) → fin.get m (9 ∷ rest) ≡ Some v → 9 ∷ rest ≡ key_text t
      → row_at (opened m scale) t ≡ Some v → IsOfWatch m (9 ∷ rest) v
  watch_by rest v Boots e is has = absurd (cc is)
  watch_by rest v (RecordOf id) e is has = absurd (cc is)
  watch_by rest v (ActiveOf name) e is has = absurd (cc is)
  watch_by rest v (BackupOf name) e is has = absurd (cc is)
  watch_by rest v (FileOf id part path) e is has = absurd (cc is)
  watch_by rest v (DataOf name key) e is has = absurd (cc is)
  watch_by rest v (SnapshotOf id name key) e is has = absurd (cc is)
  watch_by rest v (PreRestoreOf id name key) e is has = absurd (cc is)
  watch_by rest v (WatchOf observer name) e is has = of_watch m observer name (9 ∷ rest) v e is has

  pub watch_back : (rest v : List ℕ) → fin.get m (9 ∷ rest) ≡ Some v → IsOfWatch m (9 ∷ rest) v
  watch_back rest v e = let (t, i, is, has) = row_found m scale right (9 ∷ rest) v e in watch_by rest v t e is has
