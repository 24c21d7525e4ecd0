-- The second step of a change after a gate.
use Rattle.std.proofs.Common.{◌≡◌, inr, ◌+◌, ℕ, List, Option, Some, option_map, subst}
use Rattle.apex_disk.specs.Disk.{written, Torn, IsSettled}
use Rattle.apex_journal.specs.Gate.{MayBeGated}
use Rattle.apex_journal.proofs.Told.{told_from}

-- an old image, after what a crash may make of it
abbrev pub From : (List ℕ → Type 0) → (List ℕ → List ℕ → Type 0) → List ℕ → Type 0
From images step c = (d : List ℕ) × images d × step d c

-- a torn gate is torn from a file whose bytes stand after it
pub gate_torn : (old mid : Option (List ℕ)) (images now : List ℕ → Type 0) (gate : ℕ) (bytes : List ℕ)
    → mid ≡ option_map (written (gate + 1) bytes) old → IsSettled now mid → ((f : List ℕ) → old ≡ Some f → images f)
    → (c : List ℕ) → From now (Torn gate 1) c → From images (MayBeGated gate bytes) c
gate_torn old mid images now gate bytes is settled left c torn =
    let from = told_from (written (gate + 1) bytes) old mid torn.0 is (settled torn.0 torn.1) in
    (from.0, left from.0 from.1, inr (subst (λ (f : List ℕ). Torn gate 1 f c) from.2 torn.2))
