pub mod ShortForms
pub mod TurnLemmas
