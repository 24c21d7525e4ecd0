-- What is asked before rollback sessions are looked at: each session is sound, and no two get in each other's way.
use Rattle.std.specs.Prelude.{◌≡◌, ℕ, true, List, flat_map}
use Rattle.std.specs.List.{IsDistinct, list_all}
use Rattle.std.specs.Ordering.{nat_cmp, eq_by_cmp}
use Rattle.apex_base.specs.declared.records.Record.{Record}
use Rattle.apex_world.specs.Decided.{is_after_undone}
use Rattle.session_check.specs.declared.marks.Which.{Which}
use Rattle.session_check.specs.declared.marks.Which.TheVariants.{Unfinished, Available, Activated}
use Rattle.session_check.specs.Before.{StandLast}
use Rattle.session_check.specs.Marks.{boot_cmp, marks_of, id_numbers}
use Rattle.session_check.specs.Sound.{is_sound}

-- no two ids are the same
abbrev pub IdsDiffer : List Record → Type 0
IdsDiffer sessions = IsDistinct (eq_by_cmp nat_cmp) (flat_map id_numbers sessions)

-- no two marks are the same
abbrev pub MarksDiffer : Which → List Record → Type 0
MarksDiffer which sessions = IsDistinct (eq_by_cmp boot_cmp) (flat_map (marks_of which) sessions)

pub record AreApart (boots : ℕ) (sessions : List Record) : Type 0 where
  pub sound : list_all (is_sound boots) sessions ≡ true
  pub after : list_all (λ r. is_after_undone sessions r.activation r.kind) sessions ≡ true
  pub ids : IdsDiffer sessions
  pub unfinished : MarksDiffer Unfinished sessions
  pub available : MarksDiffer Available sessions
  pub activated : MarksDiffer Activated sessions
  pub last : StandLast sessions
