use Rattle.std.proofs.Common.{◌≡◌, arith}
use Rattle.std.specs.Prelude.{IfSome, IfNone}
use Rattle.std.proofs.lemmas.Result.{IfOk-weaker}
use Rattle.row_codec.specs.declared.batch.Batch.{Batch}
use Rattle.row_codec.specs.Batch.{Spells, batch_of}
use Rattle.row_codec.proofs.Batches.{is_found, is_none}
use Rattle.row_codec.proofs.decode.decode_batch.Goals as goal

pub returns-clause-found : goal.returns-clause-found
returns-clause-found c =
    let bytes = c.args.bytes.now in
    IfOk-weaker c.read_batch.result (λ found. found ≡ batch_of bytes) (λ found. IfSome found (Spells bytes))
    (λ found e. is_found bytes found (λ i. omega (arith, c.type_inv.bytes i)) e) c.read_batch.ensures

pub returns-clause-none : goal.returns-clause-none
returns-clause-none c =
    let bytes = c.args.bytes.now in
    IfOk-weaker c.read_batch.result (λ found. found ≡ batch_of bytes)
    (λ found. IfNone found ((batch : Batch) → Spells bytes batch → ⊥)) (λ found e. is_none bytes found e)
    c.read_batch.ensures
