mod AloneRows
mod EraParts
pub mod EraValues
mod FileRows
pub mod KeptKeys
mod KeptPlaces
pub mod KeyOrder
mod KeysRead
mod MomentLists
mod MomentSteps
mod NameRows
mod OpenedFiles
mod OpenedParts
pub mod OpenedRecords
pub mod OpenedValues
pub mod OpenedWorld
mod OwnParts
mod RightBoots
mod RightKeptRows
mod RightNames
mod RightRecords
mod RowsWalked
mod SessionCounts
mod SessionLists
mod SessionSteps
pub mod SettledChanges
mod SettledFiles
mod SettledNames
mod StrangeTags
mod TagsInTurn
mod WholeRows
mod WrongKeptRows
