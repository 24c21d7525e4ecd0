use Rattle.std.proofs.Common.{refl}
use Rattle.apex_base.proofs.PaddedLemmas.{IsPadded-front}
use Rattle.apex_base.proofs.padded.ShortText.of.Goals as goal

pub invariant_of-result : goal.invariant_of-result
invariant_of-result g c = rw c.copy_from_slice.ensures.after (IsPadded-front _ _ _ c.requires.fits refl)
