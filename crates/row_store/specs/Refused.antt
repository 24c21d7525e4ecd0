-- The journal's refusals, as those of a store.
use Rattle.std.specs.Prelude.{Option, Some, None}
use Rattle.apex_journal.specs.declared.why.JournalWhy.{JournalWhy}
use Rattle.apex_journal.specs.declared.why.JournalWhy.TheVariants as journal
use Rattle.row_store.specs.declared.why.StoreWhy.{StoreWhy}
use Rattle.row_store.specs.declared.why.StoreWhy.TheVariants as store

-- the store's refusal; none of a blank device
abbrev pub store_why_of : JournalWhy → Option StoreWhy
store_why_of (journal.Small len need) = Some (store.Small len need)
store_why_of journal.Blank = None
store_why_of (journal.NotAStore offset byte) = Some (store.NotAStore offset byte)
store_why_of (journal.ScaleDiffers found wanted) = Some (store.ScaleDiffers found wanted)
store_why_of (journal.Damaged offset) = Some (store.Damaged offset)
store_why_of journal.DiskFault = Some store.DiskFault
store_why_of journal.NoMemory = Some store.NoMemory
