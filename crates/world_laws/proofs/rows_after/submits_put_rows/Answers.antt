use Rattle.world_laws.proofs.runs.AdmittedLemmas.{admitted_is}
use Rattle.world_laws.proofs.rows.SubmitRows.{submit_puts}
use Rattle.world_laws.proofs.rows.SubmitWeight.{submit_weight, submit_units}
use Rattle.world_laws.proofs.rows_after.submits_put_rows.Goals as goal

pub returns : goal.returns
returns c = record {
  rows = λ w law id children rollback parts ps e after k i.
      submit_puts w law id children rollback ps (admitted_is w id children parts ps e).free k i;
  weight = λ w law id children rollback parts ps e.
      submit_weight w law id children rollback ps (admitted_is w id children parts ps e).free;
  units = λ w law id children rollback parts ps e.
      submit_units w law id children rollback ps (admitted_is w id children parts ps e).free;
}
