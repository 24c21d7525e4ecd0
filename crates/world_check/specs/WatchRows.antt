-- Rows of watches, one after another: docs/rows.md, tag 9.
use Rattle.std.specs.Prelude.{ℕ, nat_le, Bool, true, List, [], ◌∷◌, Option, Some, None, if◌then◌else◌}
use Rattle.apex_base.specs.RowSums.{has_tag}
use Rattle.apex_world.specs.Opened.{end_of}
use Rattle.row_check.specs.RowSessions.{one_less}

-- a watch ends at most a duration after a moment; other bytes are no end
abbrev pub is_in_time : Option ℕ → Bool
is_in_time None = true
is_in_time (Some end) = nat_le end 18014398509481982

-- how many watches there may still be after a row, if it is no watch too many and ends in time
abbrev pub left_after : ℕ → List ℕ × List ℕ → Option ℕ
left_after left row =
    if has_tag 9 row.0 then (if is_in_time (end_of row.1) then one_less left else None) else Some left

-- and after many
abbrev pub left_after_all : Option ℕ → List (List ℕ × List ℕ) → Option ℕ
left_after_all None rows = None
left_after_all (Some left) [] = Some left
left_after_all (Some left) (row ∷ rows) = left_after_all (left_after left row) rows
