use Rattle.std.proofs.Common.{◌≡◌, ℕ, List, fold}
use Rattle.std.specs.FinMap as fin
use Rattle.std.specs.List.{AllByRecursion}
use Rattle.package_store.specs.Latest.{Best}
use Rattle.package_store.specs.Named.{Note, note_active, note_held}
use Rattle.session_record.specs.Room.{HasPartNumber}
use Rattle.package_store.proofs.naming.active_changes.Given as goal

-- what the names that are left make of what is noted so far; the parts of their targets have numbers of one byte
abbrev pub invariant-loop-name : goal.invariant-loop-name
invariant-loop-name l = ((key : List ℕ)
    → fold (λ (noted : Note) (e : List ℕ × Best). note_active e.0 e.1.1 key noted) (fin.get l.changes key)
    l.name-iterator ≡ note_held l.held.entries key)
    × AllByRecursion (λ (e : List ℕ × Best). HasPartNumber e.1.1) l.name-iterator
