-- The laws of the spelling.
use Rattle.std.proofs.Common.{◌≡◌, ℕ, ◌^◌, ◌<◌, List, [], ◌++◌, length, Option, Some, None, refl, sym, ap, subst, ◌∙◌, arith}
use Rattle.std.specs.Prelude.{IfSome, IfNone}
use Rattle.std.specs.Int.{w32, w64, to_be_bytes}
use Rattle.std.specs.List.{flat_map}
use Rattle.row_codec.specs.declared.batch.Batch.{Batch}
use Rattle.apex_base.specs.Reading.{◌>>=◌, number_at}
use Rattle.row_codec.specs.Batch.{IsBatch, Spells, row_text, batch_text, rows_of, batch_of}
use Rattle.apex_base.proofs.ByteLists.{AreBytes}
use Rattle.row_codec.proofs.Fields.{bind_some, wide32, wide64, number_takes, number_again}
use Rattle.row_codec.proofs.Rows.{all_above_empty, rows_take, rows_again, rows_count}

some_is : {A : Type 0} (x y : A) → Some x ≡ Some y → x ≡ y
some_is x y e = cc

-- what is read is spelled so
pub batch_takes : (bytes : List ℕ) (batch : Batch) → AreBytes bytes → batch_of bytes ≡ Some batch → Spells bytes batch
unfolding batch_of batch_text
batch_takes bytes batch fits e =
    let a = bind_some (number_at w64 bytes)
    (λ seq. number_at w32 seq.1 >>= λ count. rows_of [] count.0 count.1
    >>= λ rows. Some (record { seq = seq.0; rows = rows })) batch e in
    let b = bind_some (number_at w32 a.0.1)
    (λ count. rows_of [] count.0 count.1 >>= λ rows. Some (record { seq = a.0.0; rows = rows })) batch a.2 in
    let c = bind_some (rows_of [] b.0.0 b.0.1) (λ rows. Some (record { seq = a.0.0; rows = rows })) batch b.2 in
    let s = number_takes w64 (2 ^ 64) wide64 bytes a.0 fits a.1 in
    let n = number_takes w32 (2 ^ 32) wide32 a.0.1 b.0 s.0.rest_fits b.1 in
    let r = rows_take [] b.0.0 b.0.1 c.0 n.0.rest_fits c.1 in
    let rest : a.0.1 ≡ to_be_bytes w32 (length c.0) ++ flat_map row_text c.0 =
    n.0.parts ∙ ap (λ (k : ℕ). to_be_bytes w32 k ++ b.0.1) (sym r.count)
    ∙ ap (λ (xs : List ℕ). to_be_bytes w32 (length c.0) ++ xs) r.text in
    let made : Batch = record { seq = a.0.0; rows = c.0 } in
    subst (λ (y : Batch). Spells bytes y) (some_is made batch c.2) (record {
      is_batch = record { seq = s.1; count = omega (arith, r.count, n.1); rows = r.fit; ascending = r.ascending };
      is_text = s.0.parts ∙ ap (λ (xs : List ℕ). to_be_bytes w64 a.0.0 ++ xs) rest;
    })

-- what is spelled is read again
pub batch_again : (batch : Batch) → IsBatch batch → batch_of (batch_text batch) ≡ Some batch
unfolding batch_of batch_text
batch_again batch fits =
    let text = flat_map row_text batch.rows in
    rw (
      number_again w64 (2 ^ 64) wide64 batch.seq (to_be_bytes w32 (length batch.rows) ++ text) fits.seq,
      number_again w32 (2 ^ 32) wide32 (length batch.rows) text fits.count,
      rows_again [] batch.rows fits.rows (all_above_empty batch.rows fits.rows) fits.ascending,
    ) refl

pub spelled_is_read : (bytes : List ℕ) (batch : Batch) → Spells bytes batch → batch_of bytes ≡ Some batch
spelled_is_read bytes batch spells = ap batch_of spells.is_text ∙ batch_again batch spells.is_batch

pub same_batch : (bytes : List ℕ) (a b : Batch) → Spells bytes a → Spells bytes b → a ≡ b
same_batch bytes a b p q = some_is a b (sym (spelled_is_read bytes a p) ∙ spelled_is_read bytes b q)

-- What the bytes have been read as

pub is_found : (bytes : List ℕ) (found : Option Batch) → AreBytes bytes → found ≡ batch_of bytes
    → IfSome found (Spells bytes)
is_found bytes (Some batch) fits e = batch_takes bytes batch fits (sym e)
is_found bytes None fits e = tt

pub is_none : (bytes : List ℕ) (found : Option Batch) → found ≡ batch_of bytes
    → IfNone found ((batch : Batch) → Spells bytes batch → ⊥)
is_none bytes (Some batch) e = tt
is_none bytes None e = λ batch spells.
    let both : None ≡ Some batch = e ∙ spelled_is_read bytes batch spells in absurd cc

-- How long the text is

pub few_rows : (batch : Batch) → length (batch_text batch) < 2 ^ 32 → length batch.rows < 2 ^ 32
unfolding batch_text
few_rows batch lt = omega (arith, rows_count batch.rows)
