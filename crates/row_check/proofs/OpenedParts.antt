-- The targets of sessions that rows open to have parts of one byte, where the rows are bytes. Callers want
-- `have_parts`.
use Rattle.std.proofs.Common.{◌≡◌, ℕ, List, subst}
use Rattle.std.specs.Prelude.{IfSome}
use Rattle.std.specs.FinMap as fin
use Rattle.apex_base.specs.declared.records.Record.{Record}
use Rattle.apex_base.specs.declared.records.Target.{Target}
use Rattle.apex_base.specs.declared.records.Target.TheVariants as targets
use Rattle.apex_base.specs.Keys.{RecordOf, RowMap, key_text}
use Rattle.apex_base.specs.Members.{In}
use Rattle.apex_base.specs.Spelling.{IsPart, IsTarget, Spells}
use Rattle.apex_base.proofs.MemberLemmas.{each_in, in_each}
use Rattle.apex_base.proofs.RowMaps.{in_entries}
use Rattle.apex_world.specs.Opened.{opened_sessions}
use Rattle.session_record.specs.Room.{HasPartNumber}
use Rattle.package_store.specs.Settled.{HaveParts}
use Rattle.session_record.proofs.TookRecords.{record_took}
use Rattle.row_key.specs.RowBytes.{FitRow, FitRows}
use Rattle.row_check.proofs.OpenedRecords.{is_record_in, session_row}

one_byte : (t : Target) → IsTarget t → HasPartNumber t
one_byte targets.Preinstalled is = tt
one_byte (targets.Module session part version) is = is.1

module _ (m : RowMap) (fit : FitRows (fin.entries m)) where
  spelled : (r : Record) → In r (opened_sessions m) → (bytes : List ℕ) × Spells bytes r
  spelled r h =
      let (low, same, bytes, f, g) = is_record_in m r.id r (session_row m r h) in
      let fits = each_in FitRow (fin.entries m) fit (key_text (RecordOf r.id), bytes)
      (in_entries m (key_text (RecordOf r.id)) bytes f) in
      let took = subst (λ o. IfSome o (λ s. (s.id ≡ r.id) × Spells bytes s)) g (record_took r.id bytes low fits.1) in
      (bytes, took.1)

  pub have_parts : HaveParts (opened_sessions m)
  have_parts = in_each _ (opened_sessions m) (λ r h.
      let (bytes, spells) = spelled r h in
      in_each _ r.parts (λ p i. one_byte p.target (each_in IsPart r.parts spells.is_record.parts p i).target))
