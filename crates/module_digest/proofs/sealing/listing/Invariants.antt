use Rattle.std.proofs.Common.{◌≡◌, ◌++◌, not}
use Rattle.std.specs.List.{filter, flat_map}
use Rattle.module_digest.specs.Listing.{listing, listing_line, is_own_path}
use Rattle.module_digest.proofs.sealing.listing.Given as goal

-- the text and the lines of the files that are left
abbrev pub invariant-loop-path : goal.invariant-loop-path
invariant-loop-path l =
    listing l.directory ≡ l.text.items ++ flat_map listing_line (filter (λ f. not (is_own_path f.0)) l.path-iterator)
