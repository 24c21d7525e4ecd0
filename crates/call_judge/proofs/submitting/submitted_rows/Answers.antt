use Rattle.std.proofs.Common.{◌≡◌, List, ◌++◌, ap, subst, ◌∙◌}
use Rattle.std.proofs.IntoIterSteps.{All-taken}
use Rattle.std.specs.Cmp.Lexicographic.{slice_cmp}
use Rattle.std.specs.List.Sorted.{IsStrictlySortedBy}
use Rattle.std.specs.Ordering.{nat_cmp}
use Rattle.package_store.specs.Placed.{file_changes}
use Rattle.row_codec.specs.declared.batch.Row.{Row}
use Rattle.row_codec.specs.Batch.{keys_of}
use Rattle.call_judge.proofs.FileBatches.{record_ascends, joined}
use Rattle.call_judge.proofs.submitting.submitted_rows.Goals as goal

pub returns-clause-rows : goal.returns-clause-rows
returns-clause-rows c =
    let ran = c.in_ok-extend.ensures.ran in
    let first = c.in_ok-rows.rows.items in
    let all : c.extend.new.self.items ≡ first ++ c.in_ok-files.files.items =
    ran.3.0 ∙ ap (λ (rows : List Row). first ++ rows) (All-taken ran.0 ran.1 ran.4 ∙ ran.2.0) in
    joined c.args.session.now c.args.content.now c.get.result.now first c.in_ok-files.files.items _ _
    (c.get.ensures ∙ c.in_ok-directory.ensures) c.in_ok-rows.ensures.rows c.in_ok-files.ensures.rows all

pub returns-clause-ascending : goal.returns-clause-ascending
returns-clause-ascending c =
    record_ascends c.args.session.now c.args.content.now c.extend.new.self.items (returns-clause-rows c)
    (subst (λ (rows : List Row). IsStrictlySortedBy (slice_cmp nat_cmp) (keys_of rows))
    (c.in_ok-files.ensures.rows
    ∙ ap (file_changes c.args.session.now.id 0) (c.get.ensures ∙ c.in_ok-directory.ensures))
    c.in_ok-files.ensures.ascending)
