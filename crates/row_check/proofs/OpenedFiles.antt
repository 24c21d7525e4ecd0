-- Rows of files, by the bytes of their keys: one is there again if and only if its module is kept, and a session has it
-- as its own. Callers want `file_again` and `file_there`.
use Rattle.std.proofs.Common.{◌≡◌, ℕ, ◌<◌, ◌^◌, Bool, true, false, cond, ◌&&◌, List, [], ◌∷◌, ◌++◌, Option}
use Rattle.std.proofs.Common.{Some, None, sym, ap, ◌∙◌, refl, arith}
use Rattle.std.specs.Int.{w32, from_be_bytes}
use Rattle.std.specs.FinMap as fin
use Rattle.std.proofs.lemmas.Nat.{be_bytes_4}
use Rattle.apex_base.specs.declared.numbers.Scale.{Scale}
use Rattle.apex_base.specs.declared.numbers.SessionId.{SessionId}
use Rattle.apex_base.specs.declared.records.Record.{Record}
use Rattle.apex_base.specs.Held.{kept, is_target}
use Rattle.apex_base.specs.Keys.{Key, Boots, RecordOf, ActiveOf, BackupOf, FileOf, DataOf, SnapshotOf, PreRestoreOf}
use Rattle.apex_base.specs.Keys.{WatchOf, IsKey, RowMap, file_front, id_of, key_text, key_of, file_key_of}
use Rattle.apex_base.specs.Reading.{number_at, bytes_at}
use Rattle.apex_base.specs.Text.{is_path}
use Rattle.apex_base.proofs.Finding.{some_if}
use Rattle.apex_world.specs.Opened.{opened, opened_sessions, path_in}
use Rattle.apex_world.specs.Rows.{row_at}
use Rattle.package_store.specs.Settled.{file_stays}
use Rattle.apex_base.proofs.ByteLists.{AreBytes-take}
use Rattle.row_check.specs.BadRows.{opened_rows}
use Rattle.row_check.specs.FileKeys.{is_file_key}
use Rattle.row_check.specs.RightRows.{has_own}
use Rattle.row_key.specs.RowBytes.{FitBytes}
use Rattle.row_check.proofs.FileRows.{file_row_is}
use Rattle.row_check.proofs.KeysRead.{no_key_row}
use Rattle.row_check.proofs.OpenedWorld.{opened_found}

value_if : (k o p : Bool) (v : List ℕ) → cond {A = Option (List ℕ)} k (cond o (cond p (Some v) None) None) None
    ≡ cond (k && (p && o)) (Some v) None
value_if true true true v = refl
value_if true true false v = refl
value_if true false true v = refl
value_if true false false v = refl
value_if false o p v = refl

module _ (a b c d : ℕ) (fits : FitBytes (a ∷ b ∷ c ∷ d ∷ [])) where
  abbrev id : SessionId
  id = id_of (from_be_bytes w32 (a ∷ b ∷ c ∷ d ∷ []))

  low : id.0 < 2 ^ 32
  low = omega (arith, fits 0, fits 1, fits 2, fits 3)

  front : (part : ℕ) (path : List ℕ) → 5 ∷ a ∷ b ∷ c ∷ d ∷ part ∷ path ≡ file_front id part path
  front part path =
      ap (λ (xs : List ℕ). 5 ∷ xs ++ part ∷ path) (sym (be_bytes_4 (a ∷ b ∷ c ∷ d ∷ []) id.0 refl fits refl))

module _ (m : RowMap) (scale : Scale) where
  abbrev ss : List Record
  ss = opened_sessions m

  abbrev Again : List ℕ → List ℕ → Type 0
  Again rest v = fin.get (opened_rows m scale) (5 ∷ rest)
      ≡ cond (file_stays (kept ss) rest && is_file_key ss rest) (Some v) None

  -- a file's row
  pub file_again : (rest v : List ℕ) → fin.get m (5 ∷ rest) ≡ Some v → FitBytes rest → Again rest v
  unfolding key_of file_key_of number_at bytes_at
  file_again [] v e fits = no_key_row m scale (5 ∷ []) refl
  file_again (a ∷ []) v e fits = no_key_row m scale (5 ∷ a ∷ []) refl
  file_again (a ∷ b ∷ []) v e fits = no_key_row m scale (5 ∷ a ∷ b ∷ []) refl
  file_again (a ∷ b ∷ c ∷ []) v e fits = no_key_row m scale (5 ∷ a ∷ b ∷ c ∷ []) refl
  file_again (a ∷ b ∷ c ∷ d ∷ []) v e fits = no_key_row m scale (5 ∷ a ∷ b ∷ c ∷ d ∷ []) refl
  file_again (a ∷ b ∷ c ∷ d ∷ part ∷ path) v e fits =
      let four = AreBytes-take 4 (a ∷ b ∷ c ∷ d ∷ part ∷ path) fits in
      let is = front a b c d four part path in
      let there : fin.get m (file_front (id a b c d four) part path) ≡ Some v = ap (fin.get m) (sym is) ∙ e in
      ap (fin.get (opened_rows m scale)) is
      ∙ file_row_is m scale (id a b c d four) part path (low a b c d four)
      ∙ ap (λ (o : Option (List ℕ)). cond (is_target (kept ss) (id a b c d four) part)
      (cond (has_own ss (id a b c d four) part) (cond (is_path path) o None) None) None) there
      ∙ value_if (is_target (kept ss) (id a b c d four) part) (has_own ss (id a b c d four) part) (is_path path) v

  there_if : (rest v : List ℕ) (t : Key) → IsKey t → 5 ∷ rest ≡ key_text t → row_at (opened m scale) t ≡ Some v
      → fin.get (opened_rows m scale) (5 ∷ rest) ≡ Some v → fin.get m (5 ∷ rest) ≡ Some v
  there_if rest v Boots i is has e = absurd (cc is)
  there_if rest v (RecordOf id) i is has e = absurd (cc is)
  there_if rest v (ActiveOf name) i is has e = absurd (cc is)
  there_if rest v (BackupOf name) i is has e = absurd (cc is)
  there_if rest v (FileOf id part path) i is has e =
      let row = sym (file_row_is m scale id part path i) ∙ ap (fin.get (opened_rows m scale)) (sym is) ∙ e in
      let kept_row = (some_if (is_target (kept ss) id part)
      (cond (has_own ss id part) (path_in m id part path) None) v row).1 in
      let own_row = (some_if (has_own ss id part) (path_in m id part path) v kept_row).1 in
      ap (fin.get m) is ∙ (some_if (is_path path) (fin.get m (file_front id part path)) v own_row).1
  there_if rest v (DataOf name key) i is has e = absurd (cc is)
  there_if rest v (SnapshotOf id name key) i is has e = absurd (cc is)
  there_if rest v (PreRestoreOf id name key) i is has e = absurd (cc is)
  there_if rest v (WatchOf observer name) i is has e = absurd (cc is)

  -- no file is there that wasn't
  pub file_there : (rest v : List ℕ) → fin.get (opened_rows m scale) (5 ∷ rest) ≡ Some v
      → fin.get m (5 ∷ rest) ≡ Some v
  file_there rest v e =
      let (t, i, is, has) = opened_found m scale (5 ∷ rest) v e in there_if rest v t i is has e
