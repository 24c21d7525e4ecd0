-- What bytes hold is one.
use Rattle.std.proofs.Common.{◌≡◌, ◌≢◌, ◌+◌, inl, inr, ℕ, List, None, Result, Ok, Err, sym, ap, ◌∙◌, arith}
use Rattle.apex_base.specs.declared.numbers.Scale.{Scale}
use Rattle.apex_journal.specs.Journal.{Opens}
use Rattle.row_codec.specs.declared.batch.Row.{Row}
use Rattle.row_store.specs.Rows.{Held, held_from, next, nothing}
use Rattle.row_store.specs.Store.{HasBadBatch, Stores, StoresEither}

abbrev held_in : Result Held ℕ → Held
held_in (Ok held) = held
held_in (Err offset) = nothing

abbrev bad_in : Result Held ℕ → ℕ
bad_in (Ok held) = 0
bad_in (Err offset) = offset

-- the records of a file are one
abbrev pub RecordsAreOne : Type 0
RecordsAreOne = (scale : Scale) (file : List ℕ) (xs ys : List (List ℕ)) → Opens scale file xs → Opens scale file ys
    → xs ≡ ys

module _ (records_one : RecordsAreOne) (scale : Scale) (file : List ℕ) where
  pub one_held : (a b : Held) → Stores scale file a → Stores scale file b → a ≡ b
  one_held a b s t =
      let same = records_one scale file s.records t.records s.opens t.opens in
      ap held_in (sym s.leads ∙ ap (λ (rs : List (List ℕ)). held_from None rs) same ∙ t.leads)

  pub not_both : (a : Held) (offset : ℕ) → Stores scale file a → HasBadBatch scale file offset → ⊥
  not_both a offset s t =
      let same = records_one scale file s.records t.records s.opens t.opens in
      let both : ◌≡◌ {A = Result Held ℕ} (Ok a) (Err _) = sym s.leads
      ∙ ap (λ (rs : List (List ℕ)). held_from None rs) same ∙ t.here in
      cc

  pub one_place : (x y : ℕ) → HasBadBatch scale file x → HasBadBatch scale file y → x ≡ y
  one_place x y s t =
      let same = records_one scale file s.records t.records s.opens t.opens in
      omega (
        arith,
        s.inside,
        t.inside,
        ap bad_in (sym s.here ∙ ap (λ (rs : List (List ℕ)). held_from None rs) same
            ∙ t.here),
      )

-- which of both it is
module _ (one : (scale : Scale) (file : List ℕ) (a b : Held) → Stores scale file a → Stores scale file b → a ≡ b)
    (scale : Scale) (file : List ℕ) (held found : Held) (rows : List Row) where
  pub told_new : StoresEither scale held rows file → Stores scale file found → found.seq ≡ held.seq + 1
      → found ≡ next held rows
  told_new (inl old) s is = absurd (omega (arith, is, ap (λ (h : Held). h.seq) (one scale file found held s old)))
  told_new (inr new) s is = one scale file found (next held rows) s new

  pub told_old : StoresEither scale held rows file → Stores scale file found → found.seq ≢ held.seq + 1 → found ≡ held
  told_old (inl old) s not = one scale file found held s old
  told_old (inr new) s not = absurd (not (ap (λ (h : Held). h.seq) (one scale file found (next held rows) s new)))
