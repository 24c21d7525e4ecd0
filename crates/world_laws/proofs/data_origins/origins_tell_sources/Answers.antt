use Rattle.world_laws.proofs.rows.ListedOrigins.{sources_listed, snapshots_by_rollbacks}
use Rattle.world_laws.proofs.data_origins.origins_tell_sources.Goals as goal

pub returns : goal.returns
returns c = record { sources = sources_listed; snapshots = snapshots_by_rollbacks }
