use Rattle.package_store.proofs.SettledKeys.{settled_at}
use Rattle.package_store.proofs.laws.settled_by_key.Goals as goal

pub returns : goal.returns
returns c = settled_at
