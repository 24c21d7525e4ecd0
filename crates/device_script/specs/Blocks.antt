-- Module blocks: docs/formats/script.md, "Module blocks".
use Rattle.std.specs.Prelude.{ℕ, Bool, List, is_none, Result, Ok, Err, if◌then◌else◌}
use Rattle.std.specs.Ordering.{nat_cmp}
use Rattle.std.specs.Cmp.Lexicographic.{slice_cmp}
use Rattle.std.specs.FinMap as fin
use Rattle.apex_base.specs.Modules.{FileMap, put_fault}
use Rattle.module_digest.specs.Listing.{sealed, seal_fault}
use Rattle.device_script.specs.declared.block.Block.{Block}
use Rattle.device_script.specs.declared.fault.LineFault.{LineFault}
use Rattle.device_script.specs.declared.fault.LineFault.TheVariants.{Full}

-- the modules of the blocks so far, by their labels
abbrev pub LabelMap : Type 0
LabelMap = fin.FinMap (slice_cmp nat_cmp) FileMap

-- a block begins without files
abbrev pub begun : ℕ → List ℕ → Block
begun n label = record { label = label; line = n; content = fin.empty }

-- there is room for that file
abbrev pub has_room : FileMap → List ℕ → List ℕ → Bool
has_room m path content = is_none (put_fault m path content)

-- a file is written or replaced
abbrev pub file_put : Block → List ℕ → List ℕ → Result Block LineFault
file_put block path content =
    if has_room block.content path content then Ok (record block { content = fin.insert block.content path content })
    else Err Full

-- a file is removed, if there is one
abbrev pub file_removed : Block → List ℕ → Block
file_removed block path = record block { content = fin.remove block.content path }

-- the listing is written or replaced
abbrev pub listing_put : Block → Result Block LineFault
listing_put block =
    if is_none (seal_fault block.content) then Ok (record block { content = sealed block.content }) else Err Full
