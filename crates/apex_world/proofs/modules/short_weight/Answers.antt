use Rattle.std.proofs.Common.{length, ap, arith}
use Rattle.std.specs.Fmt.{decimal}
use Rattle.apex_world.proofs.ShortForms.{short_weighs, short_module, name_short}
use Rattle.apex_world.proofs.modules.short_weight.Goals as goal

pub returns-clause-weight : goal.returns-clause-weight
returns-clause-weight c =
    omega (
      arith,
      short_weighs c.args.name.now c.args.version,
      ap length c.as_bytes.ensures.bytes,
      ap length c.format-digits.ensures.text,
      ap (λ n. length (decimal n)) c.number.ensures.value,
    )

pub returns-clause-small : goal.returns-clause-small
returns-clause-small c =
    omega (
      arith,
      name_short c.args.name.now c.as_bytes.ensures.name,
      ap length c.as_bytes.ensures.bytes,
      c.format-digits.ensures.short,
    )

pub returns-clause-whole : goal.returns-clause-whole
returns-clause-whole c =
    short_module c.args.name.now c.args.version c.as_bytes.ensures.name c.number.ensures.range
