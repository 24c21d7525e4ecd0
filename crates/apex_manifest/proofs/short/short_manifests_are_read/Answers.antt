use Rattle.apex_manifest.proofs.ShortManifests.{short_manifest-reads}
use Rattle.apex_manifest.proofs.short.short_manifests_are_read.Goals as goal

pub returns : goal.returns
returns c = record { read = short_manifest-reads }
