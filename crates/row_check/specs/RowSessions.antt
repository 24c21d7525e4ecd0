-- The sessions that rows of tag 2 spell, in the order of their keys.
use Rattle.std.specs.Prelude.{ℕ, ◌==◌, ◌-◌, List, [], ◌∷◌, Option, Some, None, if◌then◌else◌}
use Rattle.apex_base.specs.declared.records.Record.{Record}
use Rattle.apex_base.specs.RowSums.{has_tag}
use Rattle.row_key.specs.Records.{record_in_entry}

abbrev pub with_record : Option Record → List Record → List Record
with_record None records = records
with_record (Some r) records = r ∷ records

abbrev pub sessions_in : List (List ℕ × List ℕ) → List Record
sessions_in [] = []
sessions_in (row ∷ rows) = with_record (record_in_entry row.0 row.1) (sessions_in rows)

-- one less, if there is one
abbrev pub one_less : ℕ → Option ℕ
one_less left = if left == 0 then None else Some (left - 1)

-- how many of so many sessions are left where a row of tag 2 takes one, if there are enough
abbrev pub left_after : Option ℕ → List ℕ → Option ℕ
left_after None key = None
left_after (Some left) key = if has_tag 2 key then one_less left else Some left

-- and where all these rows do
abbrev pub left_after_all : Option ℕ → List (List ℕ × List ℕ) → Option ℕ
left_after_all left [] = left
left_after_all left (row ∷ rows) = left_after_all (left_after left row.0) rows
