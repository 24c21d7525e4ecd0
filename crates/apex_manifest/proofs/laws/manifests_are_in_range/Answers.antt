use Rattle.apex_manifest.proofs.ManifestRanges.{manifest_ranges}
use Rattle.apex_manifest.proofs.laws.manifests_are_in_range.Goals as goal

pub returns : goal.returns
returns c = record { range = manifest_ranges }
