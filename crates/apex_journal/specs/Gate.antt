-- A change after a closed gate: docs/formats/journal.md, "Writing after a closed gate".
use Rattle.std.specs.Prelude.{◌⊎◌, ℕ, ◌+◌, List, [], ◌∷◌, length}
use Rattle.apex_disk.specs.Disk.{written, Torn}

-- the file with these bytes after the gate, which is open
abbrev pub gated : ℕ → List ℕ → List ℕ → List ℕ
gated gate bytes file = written gate (1 ∷ []) (written (gate + 1) bytes file)

-- what a crash may leave: any bytes after the gate, or all of them and any gate
abbrev pub MayBeGated : ℕ → List ℕ → List ℕ → List ℕ → Type 0
MayBeGated gate bytes old new = Torn (gate + 1) (length bytes) old new ⊎ Torn gate 1 (written (gate + 1) bytes old) new
