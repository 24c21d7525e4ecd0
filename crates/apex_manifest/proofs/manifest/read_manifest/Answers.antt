use Rattle.std.proofs.Common.{rules, sym, ◌∙◌}
use Rattle.apex_base.proofs.AnswerLemmas.{as_fault}
use Rattle.apex_manifest.proofs.Manifests.{manifest_of-read, manifest_of-refused}
use Rattle.apex_manifest.proofs.manifest.read_manifest.Goals as goal

pub returns-in-Ok : goal.returns-in-Ok
returns-in-Ok c = record {
  manifest =
      as_fault c.manifest_from.result _ _ (manifest_of-read _ _ c.in-Ok.ensures.ok.0 c.in-Ok.ensures.ok.1
      ∙ sym c.manifest_from.ensures.said)
      c.map_err.ensures.cases;
}

pub returns-else-is_memory : goal.returns-else-is_memory
returns-else-is_memory c = record {
  manifest = manifest_of-refused _
      (c.in-Err.ensures.err (λ memory. let told = c.is_memory.ensures.1 memory in let not = c.if-is_memory.false in
      search rules));
}
