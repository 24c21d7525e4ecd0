pub mod DigitLemmas
pub mod FileLemmas
pub mod LineLemmas
pub mod MadeLemmas
pub mod ModuleLemmas
pub mod SealLemmas
pub mod SoundLemmas
pub mod TextLemmas
