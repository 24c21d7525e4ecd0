use Rattle.std.proofs.Common.{ℕ, List, Decides, sym, ap, subst, ◌∙◌, refl}
use Rattle.std.proofs.lemmas.Result.{IfOk-weaker}
use Rattle.apex_base.specs.Sessions.{Ascend}
use Rattle.apex_world.specs.Lawful.{Lawful}
use Rattle.apex_world.specs.Opened.{opened, opened_boots, opened_sessions}
use Rattle.row_check.proofs.OpenedRecords.{sessions_ascend}
use Rattle.session_check.specs.LawfulSessions.{AreLawfulSessions}
use Rattle.world_check.specs.LawfulParts.{HasLawfulModules}
use Rattle.world_check.proofs.Refusing.{refused}
use Rattle.world_check.proofs.WholeWorlds.{counts_of, data_of, lawful_whole, modules_of, opened_count, sessions_of, watches_of}
use Rattle.world_check.proofs.check.is_lawful.Goals as goal

pub are_lawful-requires : goal.are_lawful-requires
are_lawful-requires c =
    subst Ascend (sym (c.as_slice-sessions.ensures.value ∙ c.requires.sessions)) (sessions_ascend c.args.rows.now)

pub returns-then-not-branch : goal.returns-then-not-branch
returns-then-not-branch c =
    let same = c.as_slice-sessions.ensures.value ∙ c.requires.sessions in
    let count = ap (λ (b : ℕ × List ℕ). b.0) c.requires.boots in
    refused _ _ c.in_ok-are_lawful.field-0 (c.in_ok-are_lawful.ensures) c.if-not-branch.true (λ law.
    rw (same, count) (sessions_of c.args.rows.now c.args.scale law))

pub returns-then-not-are_lawful_counts : goal.returns-then-not-are_lawful_counts
returns-then-not-are_lawful_counts c =
    let same = c.as_slice-sessions.ensures.value ∙ c.requires.sessions in
    let count = ap (λ (b : ℕ × List ℕ). b.0) c.requires.boots in
    let last = ap (λ (b : ℕ × List ℕ). b.1) c.requires.boots in
    let w = opened c.args.rows.now c.args.scale in
    refused _ _ c.are_lawful_counts.result
    (c.are_lawful_counts.ensures w refl (sym same) (opened_count c.args.rows.now c.args.scale ∙ sym count) (sym last))
    c.if-not-are_lawful_counts.true (counts_of w)

pub returns-then-not-are_lawful_watches : goal.returns-then-not-are_lawful_watches
returns-then-not-are_lawful_watches c =
    refused _ _ c.are_lawful_watches.result c.are_lawful_watches.ensures c.if-not-are_lawful_watches.true
    (watches_of (opened c.args.rows.now c.args.scale))

pub returns-then-not-branch-2 : goal.returns-then-not-branch-2
returns-then-not-branch-2 c =
    refused _ _ c.in_ok-is_lawful_data.field-0 c.in_ok-is_lawful_data.ensures c.if-not-branch-2.true
    (data_of (opened c.args.rows.now c.args.scale))

pub are_lawful_modules-requires-clause-lawful : goal.are_lawful_modules-requires-clause-lawful
are_lawful_modules-requires-clause-lawful c =
    let count = ap (λ (b : ℕ × List ℕ). b.0) c.requires.boots in
    rw (← count) (c.in_ok-are_lawful.ensures.0 c.if-not-branch.false)

pub returns : goal.returns
returns c =
    let m = c.args.rows.now in
    let scale = c.args.scale in
    let w = opened m scale in
    let same = c.as_slice-sessions.ensures.value ∙ c.requires.sessions in
    let count = ap (λ (b : ℕ × List ℕ). b.0) c.requires.boots in
    let last = ap (λ (b : ℕ × List ℕ). b.1) c.requires.boots in
    let sessions : AreLawfulSessions (opened_boots m).0 (opened_sessions m) =
    rw (← same, ← count) (c.in_ok-are_lawful.ensures.0 c.if-not-branch.false) in
    let counts =
    (c.are_lawful_counts.ensures w refl (sym same) (opened_count m scale ∙ sym count) (sym last)).0
    c.if-not-are_lawful_counts.false in
    let watches = c.are_lawful_watches.ensures.0 c.if-not-are_lawful_watches.false in
    let stored = c.in_ok-is_lawful_data.ensures.0 c.if-not-branch-2.false in
    IfOk-weaker c.are_lawful_modules.result (λ lawful. Decides lawful (HasLawfulModules w)) (λ lawful. Decides lawful (Lawful w))
    (λ lawful d. (
      λ e. lawful_whole m scale c.requires.right sessions (d.0 e) stored watches counts,
      λ law. d.1 (modules_of w law),
    )) c.are_lawful_modules.ensures
