use Rattle.std.proofs.Common.{◌≡◌, ◌∙◌, true, false, List, sym, subst}
use Rattle.std.proofs.lemmas.Result.{IfOk-weaker}
use Rattle.std.specs.FinMap as fin
use Rattle.apex_base.specs.declared.records.Record.{Record}
use Rattle.apex_base.specs.Sessions.{Ascend}
use Rattle.apex_world.specs.Opened.{opened_boots, opened_sessions}
use Rattle.row_check.specs.KeptRows.{AreEras, HaveBoots}
use Rattle.row_check.specs.RightKept.{are_right_rows, WrongRow, have_kept}
use Rattle.row_check.proofs.KeptKeys.{kept_agrees}
use Rattle.row_check.proofs.OpenedRecords.{sessions_ascend}
use Rattle.row_check.proofs.RightKeptRows.{are_kept}
use Rattle.row_check.proofs.WrongKeptRows.{row_wrong, value_missing}
use Rattle.row_check.proofs.kept.is_right_kept.Goals as goal

pub are_right_rows-requires-clause-ascend : goal.are_right_rows-requires-clause-ascend
are_right_rows-requires-clause-ascend c =
    subst (λ (ss : List Record). Ascend ss) (sym c.requires.sessions) (sessions_ascend c.args.opening.now.rows.now)

pub have_kept-requires-clause-ascend : goal.have_kept-requires-clause-ascend
have_kept-requires-clause-ascend c =
    subst (λ (ss : List Record). Ascend ss) (sym c.requires.sessions) (sessions_ascend c.args.opening.now.rows.now)

pub returns-then-not-branch : goal.returns-then-not-branch
returns-then-not-branch c =
    let m = c.args.opening.now.rows.now in
    let tag = c.args.opening.now.tag in
    let values = c.args.opening.now.values.now in
    let eras : AreEras m (opened_sessions m) (opened_boots m).0 values = rw (← c.requires.sessions) c.requires.eras in
    let low : HaveBoots (opened_sessions m) = rw (← c.requires.sessions) c.requires.boots in
    let wrong : WrongRow (opened_sessions m) values tag (fin.entries m) =
    rw (← c.requires.sessions) (c.in_ok-are_right_rows.ensures.wrong c.if-not-branch.true) in
    record {
      right = λ e scale. absurd (cc e);
      wrong = λ e scale. row_wrong m scale tag c.requires.tag values low eras wrong;
    }

pub returns : goal.returns
returns c =
    let m = c.args.opening.now.rows.now in
    let tag = c.args.opening.now.tag in
    let values = c.args.opening.now.values.now in
    let eras : AreEras m (opened_sessions m) (opened_boots m).0 values = rw (← c.requires.sessions) c.requires.eras in
    let low : HaveBoots (opened_sessions m) = rw (← c.requires.sessions) c.requires.boots in
    let rows = c.in_ok-are_right_rows.ensures.right c.if-not-branch.false in
    let right : are_right_rows (opened_sessions m) values tag (fin.entries m) ≡ true =
    rw (← c.requires.sessions) rows.1 in
    IfOk-weaker c.have_kept.result _ _ (λ have is. record {
      right = λ e scale.
          let all : have_kept (opened_sessions m) values tag m (opened_sessions m) ≡ true =
          rw (← c.requires.sessions) (sym is ∙ e) in
          kept_agrees m scale tag c.requires.tag (are_kept m tag c.requires.tag values low eras right all rows.0);
      wrong = λ e scale.
          let missing : have_kept (opened_sessions m) values tag m (opened_sessions m) ≡ false =
          rw (← c.requires.sessions) (sym is ∙ e) in
          value_missing m scale tag c.requires.tag values low eras missing;
    }) c.have_kept.ensures
