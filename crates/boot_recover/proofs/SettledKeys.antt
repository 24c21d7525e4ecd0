-- Which keys settling changes: those of targets that names hold or held, and of files. Callers want `settled_key` and
-- `settled_rows`.
use Rattle.std.proofs.Common.{◌≡◌, ◌≢◌, ℕ, Bool, true, false, cond, eqb, List, [], ◌∷◌, Option, Some, None, sym, ap}
use Rattle.std.proofs.Common.{◌∙◌, refl}
use Rattle.std.specs.FinMap as fin
use Rattle.std.proofs.lemmas.Bool.{eqb-true}
use Rattle.apex_base.specs.declared.records.Record.{Record}
use Rattle.apex_base.specs.Held.{kept}
use Rattle.apex_base.specs.Keys.{Key, Boots, RecordOf, ActiveOf, BackupOf, FileOf, DataOf, SnapshotOf, PreRestoreOf}
use Rattle.apex_base.specs.Keys.{WatchOf, IsKey, RowMap, key_text}
use Rattle.apex_base.specs.Settled.{active_of, backup_of}
use Rattle.package_store.specs.Settled.{file_stays, settled_value}
use Rattle.world_laws.specs.BootByRows.{HasTypedKeys}

-- what settling may change
abbrev pub IsOfNames : Key → Type 0
IsOfNames (ActiveOf name) = Unit {0}
IsOfNames (BackupOf name) = Unit {0}
IsOfNames (FileOf session part path) = Unit {0}
IsOfNames _ = ⊥

-- bytes are such a key
pub record IsSettledKey (q : List ℕ) : Type 0 where
  pub key : Key
  pub is_key : IsKey key
  pub spelled : q ≡ key_text key
  pub of_names : IsOfNames key

first_is : (a b : ℕ) (xs ys : List ℕ) → ◌≡◌ {A = List ℕ} (a ∷ xs) (b ∷ ys) → a ≡ b
first_is a b xs ys e = cc

of_file : (k : Key) (rest : List ℕ) → ◌≡◌ {A = List ℕ} (5 ∷ rest) (key_text k) → IsOfNames k
of_file Boots rest e = absurd (cc (first_is _ _ _ _ e))
of_file (RecordOf id) rest e = absurd (cc (first_is _ _ _ _ e))
of_file (ActiveOf name) rest e = tt
of_file (BackupOf name) rest e = tt
of_file (FileOf id part path) rest e = tt
of_file (DataOf name key) rest e = absurd (cc (first_is _ _ _ _ e))
of_file (SnapshotOf id name key) rest e = absurd (cc (first_is _ _ _ _ e))
of_file (PreRestoreOf id name key) rest e = absurd (cc (first_is _ _ _ _ e))
of_file (WatchOf observer name) rest e = absurd (cc (first_is _ _ _ _ e))

module _ (m : RowMap) (typed : HasTypedKeys m) (records : List Record) where
  same_none : (b : Bool) (o : Option (List ℕ)) → o ≡ None → o ≡ cond b o None
  same_none true o e = refl
  same_none false o e = e

  file_if : (tag : ℕ) (rest : List ℕ) (o : Option (List ℕ)) → tag ≡ 5 → fin.get m (tag ∷ rest) ≡ o
      → fin.get m (tag ∷ rest) ≢ cond (file_stays (kept records) rest) (fin.get m (tag ∷ rest)) None
      → IsSettledKey (tag ∷ rest)
  file_if tag rest None is e ne = absurd (ne (same_none (file_stays (kept records) rest) (fin.get m (tag ∷ rest)) e))
  file_if tag rest (Some v) is e ne =
      let (k, i, same) = typed (tag ∷ rest) v e in record {
        key = k;
        is_key = i;
        spelled = same;
        of_names = of_file k rest (ap (λ (t : ℕ). t ∷ rest) (sym is) ∙ same);
      }

  by_tag : (tag : ℕ) (rest : List ℕ) (a b c : Bool) → eqb tag 3 ≡ a → eqb tag 4 ≡ b → eqb tag 5 ≡ c
      → fin.get m (tag ∷ rest) ≢ cond a (active_of records rest) (cond b (backup_of records rest)
      (cond c (cond (file_stays (kept records) rest) (fin.get m (tag ∷ rest)) None) (fin.get m (tag ∷ rest))))
      → IsSettledKey (tag ∷ rest)
  by_tag tag rest true b c e f g ne = record {
    key = ActiveOf rest;
    is_key = tt;
    spelled = ap (λ (t : ℕ). t ∷ rest) (eqb-true tag 3 e);
    of_names = tt;
  }
  by_tag tag rest false true c e f g ne = record {
    key = BackupOf rest;
    is_key = tt;
    spelled = ap (λ (t : ℕ). t ∷ rest) (eqb-true tag 4 f);
    of_names = tt;
  }
  by_tag tag rest false false true e f g ne = file_if tag rest (fin.get m (tag ∷ rest)) (eqb-true tag 5 g) refl ne
  by_tag tag rest false false false e f g ne = absurd (ne refl)

  -- a key whose value settling changes is of a name or of a file
  pub settled_key : (q : List ℕ) → fin.get m q ≢ settled_value m records q → IsSettledKey q
  settled_key [] ne = absurd (ne refl)
  settled_key (tag ∷ rest) ne = by_tag tag rest (eqb tag 3) (eqb tag 4) (eqb tag 5) refl refl refl ne
