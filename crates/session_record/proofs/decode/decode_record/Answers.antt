use Rattle.std.proofs.Common.{◌≡◌, arith, rules}
use Rattle.std.specs.Prelude.{IfSome, IfNone}
use Rattle.std.proofs.lemmas.Result.{IfOk-weaker}
use Rattle.apex_base.specs.declared.records.Record.{Record}
use Rattle.apex_base.specs.Spelling.{Spells, record_of}
use Rattle.session_record.proofs.TookRecords.{is_found, is_none}
use Rattle.session_record.proofs.decode.decode_record.Goals as goal

pub returns-clause-found : goal.returns-clause-found
returns-clause-found c =
    let bytes = c.args.bytes.now in
    let id = c.args.id in
    IfOk-weaker c.read_record.result (λ found. found ≡ record_of id bytes)
    (λ found. IfSome found (λ r. (r.id ≡ id) × Spells bytes r))
    (λ found e. is_found id bytes found (search rules) (λ i. omega (arith, c.type_inv.bytes i)) e) c.read_record.ensures

pub returns-clause-none : goal.returns-clause-none
returns-clause-none c =
    let bytes = c.args.bytes.now in
    let id = c.args.id in
    IfOk-weaker c.read_record.result (λ found. found ≡ record_of id bytes)
    (λ found. IfNone found ((r : Record) → r.id ≡ id → Spells bytes r → ⊥)) (λ found e. is_none id bytes found e)
    c.read_record.ensures
