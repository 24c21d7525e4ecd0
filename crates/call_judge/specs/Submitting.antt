-- A submit of one module by the tables of a core: docs/calls.md, "Submit".
use Rattle.std.specs.Prelude.{◌≡◌, ◌≤◌, ℕ, false, nat_le, List, [], ◌∷◌, length, insert, Option, Some, None}
use Rattle.std.specs.Prelude.{Result, Ok, Err, if◌then◌else◌}
use Rattle.std.specs.Cmp.Lexicographic.{slice_cmp}
use Rattle.std.specs.List.Sorted.{IsStrictlySortedBy}
use Rattle.std.specs.Ordering.{nat_cmp}
use Rattle.apex_base.specs.declared.numbers.Scale.{Scale}
use Rattle.apex_base.specs.declared.numbers.SessionId.{SessionId}
use Rattle.apex_base.specs.declared.records.Pick.{Pick}
use Rattle.apex_base.specs.declared.records.Record.{Record}
use Rattle.apex_base.specs.declared.refusal.Refusal.{Refusal}
use Rattle.apex_base.specs.declared.refusal.Refusal.TheVariants.{SessionsFull, StoreFull}
use Rattle.apex_base.specs.declared.why.Why.{Why}
use Rattle.apex_base.specs.Keys.{RecordOf, key_text}
use Rattle.apex_base.specs.Modules.{FileMap}
use Rattle.apex_base.specs.Numbers.{scale_units, scale_file_weight}
use Rattle.apex_base.specs.Sessions.{with_session}
use Rattle.apex_base.specs.Spelling.{record_text}
use Rattle.apex_world.specs.declared.calls.Image.{Image}
use Rattle.apex_world.specs.declared.calls.Reply.TheVariants as reply
use Rattle.apex_world.specs.declared.modules.Package.{Package}
use Rattle.apex_world.specs.Submit.{or_else, not_preinstalled, key_differs, overlap, downgrade, new_session}
use Rattle.apex_world.specs.World.{World}
use Rattle.package_store.specs.Placed.{file_changes}
use Rattle.row_codec.specs.declared.batch.Row.{Row}
use Rattle.row_codec.specs.Batch.{keys_of}
use Rattle.call_judge.specs.declared.judged.Judged.{Judged}
use Rattle.call_judge.specs.declared.judged.Patch.TheVariants.{New}
use Rattle.call_judge.specs.declared.tables.Tables.{Tables}
use Rattle.call_judge.specs.Unfinished.{AreUnfinished}

-- the tables show what a part is judged beside
pub record Show (tables : Tables) (w : World) : Type 0 where
  pub sessions : tables.sessions.items ≡ w.sessions
  pub unfinished : AreUnfinished tables.unfinished w.sessions
  pub image : Some tables.image ≡ w.image
  pub active : tables.active ≡ w.active

-- the first refusal that a part meets beside what runs
abbrev pub part_refusal : Option Image → List Record → List Pick → Package → Option Refusal
part_refusal image sessions active p =
    or_else (not_preinstalled image p)
    (or_else (key_differs image p) (or_else (overlap sessions p) (downgrade active image p)))

-- an answer for the one part of a list
abbrev pub one_part : Result Package (Why Refusal) → Result (List Package) (Why Refusal)
one_part (Ok p) = Ok (p ∷ [])
one_part (Err why) = Err why

-- more units, or a greater weight, than a scale allows

abbrev pub too_many : Scale → ℕ → Option Refusal
too_many scale units = if nat_le units (scale_units scale) then None else Some (SessionsFull units)

abbrev pub too_heavy : Scale → ℕ → Option Refusal
too_heavy scale weight = if nat_le weight (scale_file_weight scale) then None else Some (StoreFull weight)

-- the new session of a submit of one module
abbrev pub plain_session : SessionId → Package → List ℕ → Record
plain_session id p print = new_session id [] false (p ∷ []) print

-- its record's row, and those of the files
abbrev pub submitted_rows : Record → FileMap → List Row
submitted_rows session files =
    record { key = key_text (RecordOf session.id); value = Some (record_text session) }
    ∷ file_changes session.id 0 files

-- the reply, the rows and the patch with which it enters
pub record IsEntered (judged : Judged) (tables : Tables) (session : Record) (files : FileMap) : Type 0 where
  pub reply : judged.reply ≡ reply.Done
  pub rows : judged.rows.items ≡ submitted_rows session files
  pub ascending : IsStrictlySortedBy (slice_cmp nat_cmp) (keys_of judged.rows.items)
  pub place : ℕ
  pub patch : judged.patch ≡ New place session
  pub placed : place ≤ length tables.sessions.items
  pub put : with_session session tables.sessions.items ≡ insert tables.sessions.items place session
