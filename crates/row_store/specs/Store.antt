-- What the bytes of a device hold as rows: docs/formats/batches.md, "A store".
use Rattle.std.specs.Prelude.{◌≡◌, ◌⊎◌, ◌≤◌, ◌-◌, ℕ, List, Option, Some, None, Ok, Err}
use Rattle.apex_base.specs.declared.numbers.Scale.{Scale}
use Rattle.apex_disk.specs.Disk.{IsSettled}
use Rattle.apex_journal.specs.Journal.{IsBlank, Opens, Seen, Stands, Told, start_of}
use Rattle.row_codec.specs.declared.batch.Row.{Row}
use Rattle.row_store.specs.Rows.{Held, held_from, next, nothing}

-- the file is a store of that scale that holds these rows, under this number
pub record Stores (scale : Scale) (file : List ℕ) (held : Held) : Type 0 where
  pub records : List (List ℕ)
  pub opens : Opens scale file records
  pub leads : held_from None records ≡ Ok held

-- the file is a row of records, and the first that is no batch that may follow stands after the gate at this offset
pub record HasBadBatch (scale : Scale) (file : List ℕ) (offset : ℕ) : Type 0 where
  pub records : List (List ℕ)
  pub opens : Opens scale file records
  pub inside : start_of file ≤ offset
  pub here : held_from None records ≡ Err (offset - start_of file)

-- a blank device holds nothing
abbrev pub StoresOrBlank : Scale → List ℕ → Held → Type 0
StoresOrBlank scale file held = (IsBlank file × (held ≡ nothing)) ⊎ Stores scale file held

-- the file holds the old rows, or those and a batch
abbrev pub StoresEither : Scale → Held → List Row → List ℕ → Type 0
StoresEither scale held rows file = Stores scale file held ⊎ Stores scale file (next held rows)

-- what contracts see of a store: its journal, what it holds, and the batch that was under way when the device failed
pub record SeenStore (D : Type 0) : Type 0 where
  pub journal : Seen D
  pub held : Held
  pub pending : Option (List Row)

-- the journal's records come to what is held, where its bytes are known, and a crash leaves them
pub record Keeps {D : Type 0} (reads : D → Option (List ℕ)) (images : D → List ℕ
    → Type 0) (journal : Seen D) (held : Held) : Type 0 where
  pub records : List (List ℕ)
  pub stands : Stands reads images journal records
  pub leads : held_from None records ≡ Ok held

-- what holds of every store: the device has its rows, or after a fault a crash leaves them with or without the batch
abbrev pub Holds : {D : Type 0} → (D → Option (List ℕ)) → (D → List ℕ → Type 0) → Seen D → Held → Option (List Row)
    → Type 0
Holds reads images journal held None = Keeps reads images journal held
Holds reads images journal held (Some rows) = (c : List ℕ) → images journal.device c
    → StoresEither journal.scale held rows c

-- what contracts say of a store whose last commit was no fault
pub record IsStore {D : Type 0} (reads : D → Option (List ℕ)) (images : D → List ℕ
    → Type 0) (store : SeenStore D) : Type 0 where
  pub stores : Told (reads store.journal.device) (λ file. Stores store.journal.scale file store.held)
  pub settled : IsSettled (images store.journal.device) (reads store.journal.device)
