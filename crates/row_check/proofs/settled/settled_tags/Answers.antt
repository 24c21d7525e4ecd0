use Rattle.std.proofs.Common.{◌≡◌, not, ◌&&◌, sym, subst, refl}
use Rattle.std.specs.FinMap as fin
use Rattle.apex_base.specs.Sessions.{Ascend}
use Rattle.apex_world.specs.Opened.{opened_sessions}
use Rattle.row_map.specs.Rows.{rows_of}
use Rattle.package_store.specs.Settled.{HaveParts}
use Rattle.row_check.specs.FileKeys.{are_files}
use Rattle.row_check.specs.SettledTags.{Tells, changes_tag}
use Rattle.row_check.proofs.OpenedParts.{have_parts}
use Rattle.row_check.proofs.OpenedRecords.{sessions_ascend}
use Rattle.row_check.proofs.SettledFiles.{files_told}
use Rattle.row_check.proofs.SettledChanges.{Settles, settling}
use Rattle.row_check.proofs.SettledNames.{active_told, backup_told}
use Rattle.row_check.proofs.settled.settled_tags.Goals as goal

pub are_files-own-requires : goal.are_files-own-requires
are_files-own-requires c = subst Ascend (sym c.requires) (sessions_ascend c.args.rows.now)

pub settle-requires : goal.settle-requires
settle-requires c = subst HaveParts (sym c.requires) (have_parts c.args.rows.now c.are_files-own.ensures.fits)

-- the changes settle the rows by the sessions that these open to
settles : (c : goal.After-drop-changes)
    → Settles c.args.rows.now (opened_sessions c.args.rows.now) c.in_ok-changes.changes.items
settles c =
    let entries = c.by_key.result.now.entries in
    let same : rows_of entries ≡ c.args.rows.now =
    c.rows_are_those_shown.ensures c.args.rows.now entries c.by_key.ensures in
    settling c.args.rows.now (rows_of entries) c.args.sessions.now c.in_ok-changes.changes.items same c.requires
    (record { after = c.in_ok-changes.ensures.after; exact = c.in_ok-changes.ensures.exact })

pub returns-clause-active : goal.returns-clause-active
returns-clause-active c =
    active_told c.args.rows.now c.in_ok-changes.changes.items (settles c) c.changes_tag.result
    (sym (rw c.deref.ensures.value at c.changes_tag.ensures))

pub returns-clause-backup : goal.returns-clause-backup
returns-clause-backup c =
    backup_told c.args.rows.now c.in_ok-changes.changes.items (settles c) c.changes_tag-2.result
    (sym (rw c.deref-2.ensures.value at c.changes_tag-2.ensures))

pub returns-clause-files : goal.returns-clause-files
returns-clause-files c =
    let changes = c.in_ok-changes.changes.items in
    let own : c.are_files-own.result ≡ are_files (opened_sessions c.args.rows.now) (fin.entries c.args.rows.now) =
    rw c.requires at c.are_files-own.ensures.files in
    let both : c.are_right_files.result ≡ (not (changes_tag 5 changes) && c.are_files-own.result) =
    rw c.deref-3.ensures.value at c.are_right_files.ensures in
    subst (Tells c.args.rows.now 5) (sym both)
    (files_told c.args.rows.now c.are_files-own.ensures.fits changes (settles c) (changes_tag 5 changes)
    c.are_files-own.result refl own)
