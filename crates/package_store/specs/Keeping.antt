-- Which modules are kept, noted one after another.
use Rattle.std.specs.Prelude.{ℕ, ◌||◌, Bool, true, List, [], ◌∷◌, if◌then◌else◌}
use Rattle.std.specs.BTreeSet as sorted
use Rattle.std.specs.Int.{w32, from_be_bytes}
use Rattle.std.specs.Ordering.{nat_cmp, ordering_then}
use Rattle.std.specs.declared.cmp.Ordering.{Ordering}
use Rattle.apex_base.specs.declared.numbers.SessionId.{SessionId}
use Rattle.apex_base.specs.declared.records.Part.{Part}
use Rattle.apex_base.specs.declared.records.Record.{Record}
use Rattle.apex_base.specs.Held.{is_unfinished, is_undoable, is_available, is_module, before}
use Rattle.package_store.specs.declared.kept.KeptParts.{KeptParts}
use Rattle.package_store.specs.Latest.{Best}

-- how the parts of sessions are ordered
abbrev pub part_cmp : ℕ × ℕ → ℕ × ℕ → Ordering
part_cmp a b = ordering_then (nat_cmp a.0 b.0) (nat_cmp a.1 b.1)

-- the module that this part of a session submitted is noted
abbrev pub has_part : KeptParts → SessionId → ℕ → Bool
has_part kept session part = sorted.contains part_cmp kept.parts (session.0, part)

-- whether it is noted once what a name holds was noted
abbrev pub keep_held : SessionId → ℕ → Bool → List ℕ × Best → Bool
keep_held session part noted entry = is_module session part entry.1.1 || noted

-- once a session's own module of one of its names was noted, if the session is unfinished
abbrev pub keep_own : Record → SessionId → ℕ → Bool → Part → Bool
keep_own r session part noted p = if is_unfinished r.state then is_module session part p.target || noted else noted

-- and then what the name held before, if the session can be undone or rolled back
abbrev pub keep_for : List Record → Record → SessionId → ℕ → Bool → Part → Bool
keep_for records r session part noted p =
    if is_undoable r.state || is_available r.rollback
    then is_module session part (before records r p.name) || keep_own r session part noted p
    else keep_own r session part noted p

-- a file's row stays
abbrev pub stays_among : KeptParts → List ℕ → Bool
stays_among kept (a ∷ b ∷ c ∷ d ∷ part ∷ path) =
    has_part kept (record { 0 = from_be_bytes w32 (a ∷ b ∷ c ∷ d ∷ []) }) part
stays_among kept _ = true
