-- A store whose journal has one record more, or may have it.
use Rattle.std.proofs.Common.{◌≡◌, ◌+◌, ◌≤◌, inl, inr, ⊎_elim, ℕ, List, [], ◌∷◌, ◌++◌, length, false, true, Option, Some, None, option_map, Result, Ok, Err, Vec, Global, sym, ap, ◌∙◌, refl, subst, arith}
use Rattle.std.proofs.lemmas.Bool.Decides.{nat_tests}
use Rattle.std.specs.Option.{is_some}
use Rattle.apex_base.specs.declared.numbers.Scale.{Scale}
use Rattle.apex_disk.specs.Moments.{LeavesOnly}
use Rattle.apex_journal.specs.Records.{block}
use Rattle.apex_journal.specs.Journal.{Opens, Seen, Stands, WithOrWithout}
use Rattle.row_codec.specs.declared.batch.Batch.{Batch}
use Rattle.row_codec.specs.declared.batch.Row.{Row}
use Rattle.row_codec.specs.Batch.{batch_of}
use Rattle.row_store.specs.Rows.{Held, after, farther, held_after, held_by, held_from, joined, may_follow, next, unless_bad}
use Rattle.row_store.specs.Store.{Holds, Keeps, Stores, StoresEither}

abbrev held_of : Result Held ℕ → Held → Held
held_of (Ok held) other = held
held_of (Err offset) other = other

at_end : (n : ℕ) (r : Result Held ℕ) (held : Held) → farther n r ≡ Ok held → r ≡ Ok held
at_end n (Ok found) held is = is
at_end n (Err offset) held is = absurd (cc)

follows : (so : Option Held) (held : Held) (n : ℕ) → held_by so ≡ held → n ≡ held.seq + 1 → may_follow so n ≡ true
follows None held n is one_more = refl
follows (Some found) held n is one_more = grind (arith, nat_tests, ap (λ (h : Held). h.seq) is, one_more)

step : (n : ℕ) (so : Option Held) (rest more : Held → Result Held ℕ) (held last : Held)
    → ((h : Held) → rest h ≡ Ok held → more h ≡ Ok last)
    → unless_bad so (λ h. farther n (rest h)) ≡ Ok held → unless_bad so (λ h. farther n (more h)) ≡ Ok last
step n None rest more held last later is = absurd (cc)
step n (Some h) rest more held last later is = ap (farther n) (later h (at_end n (rest h) held is))

-- a batch that follows the last one is held too
pub one_more : (records : List (List ℕ)) (so : Option Held) (held : Held) (piece : List ℕ) (batch : Batch)
    → held_from so records ≡ Ok held
    → batch_of piece ≡ Some batch → batch.seq ≡ held.seq + 1 → held_from so (records ++ piece ∷ [])
    ≡ Ok (after held batch)
one_more [] so held piece batch is spelled number =
    let same : held_by so ≡ held = ap (λ (r : Result Held ℕ). held_of r held) is in
    let taken : held_after so piece ≡ Some (after held batch) = ap (joined so) spelled
    ∙ rw (follows so held batch.seq same number) (ap (λ (h : Held). Some (after h batch)) same) in
    ap (λ (o : Option Held). unless_bad o (λ h. farther (length (block piece)) (held_from (Some h) []))) taken
one_more (bytes ∷ records) so held piece batch is spelled number =
    step (length (block bytes)) (held_after so bytes) (λ h. held_from (Some h) records)
    (λ h. held_from (Some h) (records ++ piece ∷ [])) held (after held batch)
    (λ h found. one_more records (Some h) held piece batch found spelled number) is

module _ {D : Type 0} (reads : D → Option (List ℕ)) (images : D → List ℕ → Type 0) where
  -- no batch is under way
  pub keeps_of : (j : Seen D) (held : Held) (pending : Option (Vec Row Global)) → is_some pending ≡ false
      → Holds reads images j held (option_map (λ rows. rows.items) pending) → Keeps reads images j held
  keeps_of j held None is holds = holds
  keeps_of j held (Some rows) is holds = absurd (cc)

  pub holds_by : (j : Seen D) (held : Held) (pending : Option (Vec Row Global)) → is_some pending ≡ false
      → Keeps reads images j held → Holds reads images j held (option_map (λ rows. rows.items) pending)
  holds_by j held None is keeps = keeps
  holds_by j held (Some rows) is keeps = absurd (cc)

  module _ (moment : D → ℕ) (since : D → ℕ → List ℕ → Type 0) (j j' : Seen D) (held : Held)
      (keeps : Keeps reads images j held) where
    widened : (P Q : List ℕ → Type 0) → LeavesOnly moment since j.device j'.device P → ((c : List ℕ) → P c → Q c)
        → LeavesOnly moment since j.device j'.device Q
    widened P Q left wider = record {
      later = left.later;
      each = λ c at_some. wider c (left.each c at_some);
      before = λ t c le at_some. ⊎_elim (λ was. inl was) (λ p. inr (wider c p)) (left.before t c le at_some);
    }

    stores : (c : List ℕ) → Opens j.scale c keeps.records → Stores j.scale c held
    stores c opens = record { records = keeps.records; opens = opens; leads = keeps.leads }

    -- at each moment the records are as they were
    pub still : LeavesOnly moment since j.device j'.device (λ c. Opens j.scale c keeps.records)
        → LeavesOnly moment since j.device j'.device (λ c. Stores j.scale c held)
    still left = widened (λ c. Opens j.scale c keeps.records) (λ c. Stores j.scale c held) left stores

    pub kept : Stands reads images j' keeps.records → Keeps reads images j' held
    kept stands = record { records = keeps.records; stands = stands; leads = keeps.leads }

    module _ (rows : List Row) (piece : List ℕ) (spelled : batch_of piece
        ≡ Some (record { seq = held.seq + 1; rows = rows })) where
      leads_on : held_from None (keeps.records ++ piece ∷ []) ≡ Ok (next held rows)
      leads_on = one_more keeps.records None held piece (record { seq = held.seq + 1; rows = rows }) keeps.leads
          spelled refl

      -- at each moment they are so, or there is the batch's too
      pub either : LeavesOnly moment since j.device j'.device (WithOrWithout j.scale keeps.records piece)
          → LeavesOnly moment since j.device j'.device (StoresEither j.scale held rows)
      either left = widened (WithOrWithout j.scale keeps.records piece) (StoresEither j.scale held rows) left
          (λ c. ⊎_elim (λ old. inl (stores c old)) (λ new. inr (record {
            records = keeps.records ++ piece ∷ [];
            opens = new;
            leads = leads_on;
          })))

      pub more : Stands reads images j' (keeps.records ++ piece ∷ []) → Keeps reads images j' (next held rows)
      more stands = record { records = keeps.records ++ piece ∷ []; stands = stands; leads = leads_on }

      -- and so it is after a fault
      pub undecided : ((d : D) (t : ℕ) (c : List ℕ) → t ≤ moment d → images d c → since d t c) → j'.scale ≡ j.scale
          → LeavesOnly moment since j.device j'.device (WithOrWithout j.scale keeps.records piece)
          → (c : List ℕ) → images j'.device c → StoresEither j'.scale held rows c
      undecided counts_now same left c is =
          subst (λ (s : Scale). StoresEither s held rows c) (sym same)
          ((either left).each c (counts_now j'.device (moment j.device) c left.later is))

-- a device with the same records and images as before
pub holds_on : {D : Type 0} (reads : D → Option (List ℕ)) (images : D → List ℕ
    → Type 0) (old new : Seen D) (held : Held)
    (pending : Option (List Row)) → ((records : List (List ℕ)) → Stands reads images old records
    → Stands reads images new records)
    → ((c : List ℕ) → images new.device c → images old.device c) → new.scale ≡ old.scale
    → Holds reads images old held pending → Holds reads images new held pending
holds_on reads images old new held None stands fewer scale keeps =
    record { records = keeps.records; stands = stands keeps.records keeps.stands; leads = keeps.leads }
holds_on reads images old new held (Some rows) stands fewer scale holds = λ c left.
    subst (λ (s : Scale). StoresEither s held rows c) (sym scale) (holds c (fewer c left))

pub none_of : (pending : Option (Vec Row Global)) → is_some pending ≡ false → option_map (λ rows. rows.items) pending
    ≡ None
none_of None is = refl
none_of (Some rows) is = absurd (cc)
