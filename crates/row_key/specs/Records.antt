-- The record that a row of tag 2 spells: its key is an id, and its value a record.
use Rattle.std.specs.Prelude.{ℕ, ◌==◌, List, [], ◌∷◌, Option, None, if◌then◌else◌}
use Rattle.std.specs.Int.{w32}
use Rattle.apex_base.specs.declared.records.Record.{Record}
use Rattle.apex_base.specs.Keys.{id_of}
use Rattle.apex_base.specs.Reading.{◌>>=◌, number_at, at_end}
use Rattle.apex_base.specs.Spelling.{record_of}

abbrev pub record_if : ℕ × List ℕ → List ℕ → Option Record
record_if id value = at_end (id_of id.0) id.1 >>= (λ id. record_of id value)

-- by the key without its tag
abbrev pub record_in_row : List ℕ → List ℕ → Option Record
record_in_row key value = number_at w32 key >>= (λ id. record_if id value)

-- the record of a row, if it is one of tag 2 that spells one
abbrev pub record_in_entry : List ℕ → List ℕ → Option Record
record_in_entry [] value = None
record_in_entry (tag ∷ key) value = if tag == 2 then record_in_row key value else None
