-- Rows of data, and of what sessions keep of it, by the front of their keys: docs/rows.md, tags 6, 7 and 8. A front is a
-- key up to the end of its name, so that the rows of one name stand under one front.
use Rattle.std.specs.Prelude.{◌≡◌, ℕ, ◌+◌, ◌++◌, ◌==◌, nat_le, Bool, List, [], ◌∷◌, length, map, drop, Option}
use Rattle.std.specs.Prelude.{Some, None, if◌then◌else◌}
use Rattle.std.specs.Int.{w32}
use Rattle.std.specs.Option.{option_map}
use Rattle.std.specs.Str.{bytes_eq}
use Rattle.apex_base.specs.declared.records.Record.{Record}
use Rattle.apex_base.specs.Keys.{id_of}
use Rattle.apex_base.specs.Reading.{number_at}
use Rattle.apex_base.specs.RowSums.{entry_weight}
use Rattle.apex_base.specs.Sessions.{session_of}
use Rattle.row_key.specs.Data.{front_of}
use Rattle.world_check.specs.Runs.{run_weight, run_keys}

-- Values by their fronts

abbrev pub Row : Type 0
Row = List ℕ × List ℕ

-- the value of a row weighs what the key and the value weigh that a module keeps
abbrev pub value_weight : List ℕ → Row → ℕ
value_weight front row = entry_weight (drop (length front) row.0) row.1

-- the front of a row, and what its value weighs
abbrev pub weighed : Row → Option (List ℕ × ℕ)
weighed row = option_map (λ front. (front, value_weight front row)) (front_of row.0)

abbrev pub with_some : Option (List ℕ × ℕ) → List (List ℕ × ℕ) → List (List ℕ × ℕ)
with_some None xs = xs
with_some (Some x) xs = x ∷ xs

abbrev pub weights_in : List Row → List (List ℕ × ℕ)
weights_in [] = []
weights_in (row ∷ rows) = with_some (weighed row) (weights_in rows)

-- the run that goes on or begins with a row, if it doesn't weigh too much
abbrev pub next_run : ℕ → List ℕ × ℕ → Option (List ℕ × ℕ) → Option (List ℕ × ℕ)
next_run most run None = Some run
next_run most run (Some x) =
    if nat_le (run_weight bytes_eq run.0 run.1 x) most then Some (x.0, run_weight bytes_eq run.0 run.1 x) else None

-- Boots by fronts

abbrev pub activation_of : Option Record → ℕ
activation_of None = 0
activation_of (Some r) = r.activation

abbrev pub activation_at : List Record → Option (ℕ × List ℕ) → ℕ
activation_at sessions None = 0
activation_at sessions (Some id) = activation_of (session_of sessions (id_of id.0))

-- the boot just before which a name had its values, which is that of the session that keeps them; 0 for what it has now
abbrev pub boot_of : List Record → List ℕ → ℕ
boot_of sessions [] = 0
boot_of sessions (tag ∷ rest) = if tag == 6 then 0 else activation_at sessions (number_at w32 rest)

-- the boot of each front
abbrev pub boots_in : List Record → List Row → List ℕ
boots_in sessions rows = map (boot_of sessions) (run_keys bytes_eq [] (weights_in rows))

-- each boot counts once
abbrev pub counted : List ℕ → List (ℕ × ℕ)
counted boots = map (λ b. (b, 1)) boots

abbrev pub same_boot : ℕ → ℕ → Bool
same_boot a b = a == b

-- what is added for a key's row: with its boots and the last front, the boots of all rows are as they were before
abbrev pub Adds : List Record → List ℕ → List ℕ → List ℕ → List ℕ → List ℕ → Type 0
Adds sessions last key before next after =
    (value : List ℕ) (rows : List Row)
    → after ++ map (boot_of sessions) (run_keys bytes_eq next (weights_in rows))
    ≡ before ++ map (boot_of sessions) (run_keys bytes_eq last (weights_in ((key, value) ∷ rows)))
