use Rattle.device_play.proofs.EmptyStores.{empty_stored}
use Rattle.device_play.proofs.device.Device.new.Goals as goal

pub returns : goal.returns
returns c = λ scale. empty_stored _ scale c.new.ensures
