use Rattle.module_digest.proofs.SoundLemmas.{sound_listed}
use Rattle.module_digest.proofs.MadeLemmas.{made_sound}
use Rattle.module_digest.proofs.laws.sound_listing_is_the_listing.Goals as goal

pub returns : goal.returns
returns c = (sound_listed c.args.directory.now _, made_sound c.args.directory.now c.known.ensures)
