use Rattle.apex_world.specs.Opened.{opened_files}
use Rattle.row_key.specs.Files.{path_in}
use Rattle.row_map.specs.Rows.{shown}
use Rattle.std.proofs.Common.{◌≡◌, ◌∷◌, ℕ, List, None, Some, ap, sym, subst, ◌∙◌}
use Rattle.world_check.proofs.FilesWalked.{FilesLeft, starts, reads, stops, ends, too_much, module_read, no_module}
use Rattle.world_check.proofs.modules.module_in.Goals.{In-Some, In-Some-path_in, in-None, in-Some+in_default}
use Rattle.world_check.proofs.modules.module_in.Goals as goal

pub loop-key-init : goal.loop-key-init
loop-key-init c =
    let session = c.args.session in
    let part = c.args.part in
    let whole = opened_files c.args.rows.now session part in
    subst (λ es. FilesLeft session part whole c.new-files.result (shown es))
    (sym c.into_iter-key-iterator.ensures.into_iter_gives)
    (starts session part c.args.rows.now c.by_key.result.now.entries c.range-key-items.result c.in_ok-start.start
    c.new-files.result c.by_key.ensures
    (c.in_ok-start.ensures.items_if_clones_equal (λ x y e. e) ∙ c.file_front.ensures)
    (c.range-key-items.ensures.between tt) c.new-files.ensures)

-- the rows from one on are left
left : (c : In-Some) → FilesLeft c.args.session c.args.part
    (opened_files c.args.rows.now c.args.session c.args.part) c.loop-key.files
    ((c.in-Some.key.now.items, c.in-Some.content.now) ∷ shown c.next.new.self)
left c =
    let whole = opened_files c.args.rows.now c.args.session c.args.part in
    subst (λ es. FilesLeft c.args.session c.args.part whole c.loop-key.files (shown es)) c.in-Some.ensures.steps
    c.loop-key.invariant

-- and the key of the first is that of a file of the module
named : (c : In-Some-path_in)
    → path_in c.args.session c.args.part c.in-Some.key.now.items ≡ Some c.in-Some-path_in.path.now
named c = ap (path_in c.args.session c.args.part) (sym c.deref.ensures.value) ∙ sym c.in-Some-path_in.ensures

pub returns-then-not-branch : goal.returns-then-not-branch
returns-then-not-branch c =
    let session = c.args.session in
    let part = c.args.part in
    let whole = opened_files c.args.rows.now session part in
    let f = left (goal.at.returns-then-not-branch c).In-Some in
    let its = named (goal.at.returns-then-not-branch c).In-Some-path_in in
    no_module whole (too_much session part whole c.loop-key.files _ _ f c.in-Some-path_in.path.now its
    (c.in_ok-add_file.ensures.full c.if-not-branch.true))

pub loop-key-preserved : goal.loop-key-preserved
loop-key-preserved c =
    let session = c.args.session in
    let part = c.args.part in
    let whole = opened_files c.args.rows.now session part in
    let f = left (goal.at.loop-key-preserved c).In-Some in
    let its = named (goal.at.loop-key-preserved c).In-Some-path_in in
    reads session part whole c.loop-key.files _ _ f c.in-Some-path_in.path.now its c.add_file.new.files
    (c.in_ok-add_file.ensures.put c.if-not-branch.false)

pub returns : goal.returns
returns c =
    let session = c.args.session in
    let part = c.args.part in
    let files = c.loop-key.files in
    let whole = opened_files c.args.rows.now session part in
    elim c.match-next.branch [
      | in-None b ↦
          module_read whole files
          (ends session part whole files (subst (λ es. FilesLeft session part whole files (shown es))
          b.in-None.ensures.steps.0 c.loop-key.invariant))
          c.known_module.ensures
      | in-Some+in_default b ↦
          let row : List ℕ × List ℕ = (b.in-Some.key.now.items, b.in-Some.content.now) in
          let rest = shown c.next.new.self in
          let f : FilesLeft session part whole files (row ∷ rest) =
          subst (λ es. FilesLeft session part whole files (shown es)) b.in-Some.ensures.steps c.loop-key.invariant in
          let none : path_in session part row.0 ≡ None =
          ap (path_in session part) (sym b.deref.ensures.value) ∙ sym b.in_default.ensures in
          module_read whole files (stops session part whole files row rest f none) c.known_module.ensures
    ]
