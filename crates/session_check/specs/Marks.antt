-- Marks of sessions: a name and the boot that activated the session, for each part of a session that counts.
use Rattle.std.specs.Prelude.{ℕ, ◌≡◌, ◌<◌, ◌≤◌, ◌&&◌, nat_lt, Bool, true, false, not, List, [], map, flat_map, length}
use Rattle.std.specs.Prelude.{slice_index_or, if◌then◌else◌}
use Rattle.std.specs.Cmp.Lexicographic.{slice_cmp}
use Rattle.std.specs.List.{list_any}
use Rattle.std.specs.List.Sorted.{IsPermutation, IsSorted}
use Rattle.std.specs.Ordering.{nat_cmp, ordering_then}
use Rattle.std.specs.Str.{bytes_eq}
use Rattle.std.specs.declared.cmp.Ordering.{Ordering}
use Rattle.std.specs.declared.cmp.Ordering.TheVariants.{Less, Equal, Greater}
use Rattle.apex_base.specs.declared.records.Part.{Part}
use Rattle.apex_base.specs.declared.records.Record.{Record}
use Rattle.apex_base.specs.Held.{is_unfinished, is_available, is_standing, is_success}
use Rattle.apex_base.specs.Members.{In}
use Rattle.apex_world.specs.Decided.{is_zero}
use Rattle.apex_world.specs.Lawful.{ids_of}
use Rattle.session_check.specs.declared.marks.Mark.{Mark}
use Rattle.session_check.specs.declared.marks.Which.{Which}
use Rattle.session_check.specs.declared.marks.Which.TheVariants.{Unfinished, Available, Activated, Standing, Succeeded}

-- which sessions count
abbrev pub counts : Which → Record → Bool
counts Unfinished r = is_unfinished r.state
counts Available r = is_available r.rollback
counts Activated r = not (is_zero r.activation)
counts Standing r = is_standing r.state
counts Succeeded r = is_success r.state

-- the boot and the session in a mark, where these matter
abbrev pub mark_of : Which → Record → Part → Mark
mark_of Unfinished r p = record { name = p.name; boot = 0; session = 0 }
mark_of Available r p = record { name = p.name; boot = 0; session = 0 }
mark_of Activated r p = record { name = p.name; boot = r.activation; session = 0 }
mark_of Standing r p = record { name = p.name; boot = r.activation; session = 0 }
mark_of Succeeded r p = record { name = p.name; boot = r.activation; session = r.id.0 }

abbrev pub marks_of : Which → Record → List Mark
marks_of which r = if counts which r then map (mark_of which r) r.parts else []

-- the numbers of the ids that a session has
abbrev pub id_numbers : Record → List ℕ
id_numbers r = map (λ id. id.0) (ids_of r)

-- Whether two marks are one: boots first, since they are cheap to compare
abbrev pub boot_cmp : Mark → Mark → Ordering
boot_cmp m n =
    ordering_then (nat_cmp m.boot n.boot)
    (ordering_then (nat_cmp m.session n.session) (slice_cmp nat_cmp m.name n.name))

-- Marks in order

-- by name, then by boot, then by session
abbrev pub mark_cmp : Mark → Mark → Ordering
mark_cmp m n =
    ordering_then (slice_cmp nat_cmp m.name n.name)
    (ordering_then (nat_cmp m.boot n.boot) (nat_cmp m.session n.session))

-- the marks of these sessions, in order
pub record AreMarks (which : Which) (sessions : List Record) (marks : List Mark) : Type 0 where
  pub all : IsPermutation (flat_map (marks_of which) sessions) marks
  pub sorted : IsSorted mark_cmp marks

abbrev pub is_below_by : Ordering → Bool → Bool
is_below_by Less before = true
is_below_by Equal before = before
is_below_by Greater before = false

-- a mark comes before those of a name and a boot
abbrev pub is_below : List ℕ → ℕ → Mark → Bool
is_below name boot m = is_below_by (slice_cmp nat_cmp m.name name) (nat_lt m.boot boot)

-- so many marks come before those of a name and a boot
pub record IsPlace (marks : List Mark) (name : List ℕ) (boot next : ℕ) : Type 0 where
  pub within : next ≤ length marks
  pub below : (k : ℕ) (d : Mark) → k < next → is_below name boot (slice_index_or marks k d) ≡ true
  pub above : (k : ℕ) (d : Mark) → next ≤ k → k < length marks → is_below name boot (slice_index_or marks k d) ≡ false

-- no mark of the name is of an earlier boot
abbrev pub NoneBefore : List Mark → List ℕ → ℕ → Type 0
NoneBefore marks name boot = (m : Mark) → In m marks → m.name ≡ name → m.boot < boot → ⊥

-- the mark of the name that is of the last boot before this one
pub record IsLastBefore (marks : List Mark) (name : List ℕ) (boot : ℕ) (m : Mark) : Type 0 where
  pub among : In m marks
  pub named : m.name ≡ name
  pub before : m.boot < boot
  pub last : (n : Mark) → In n marks → n.name ≡ name → n.boot < boot → n.boot ≤ m.boot

-- a mark of the name is of a later boot
abbrev pub has_later : List Mark → List ℕ → ℕ → Bool
has_later marks name boot = list_any (λ m. bytes_eq m.name name && nat_lt boot m.boot) marks
