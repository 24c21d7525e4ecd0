mod Filed
pub mod FilesRead
pub mod Fronts
mod HeldNames
mod KeptModules
mod LastBefore
mod LatestParts
pub mod Maps
mod NameNotes
mod Noted
pub mod Parts
mod Placements
mod RowNotes
mod RowSteps
pub mod RowsFrom
mod SettledKeys
mod Sums
