use Rattle.std.proofs.Common.{◌≡◌, [], ◌∷◌, None, Some, ap, sym, subst, ◌∙◌, refl}
use Rattle.apex_base.specs.RowSums.{module_at}
use Rattle.row_map.specs.Rows.{rows_of, shown}
use Rattle.row_key.specs.Files.{path_in}
use Rattle.package_store.proofs.Filed.{filed_paths, starts}
use Rattle.package_store.proofs.FilesRead.{Filed, passes, takes, is_named, has_room, ends}
use Rattle.package_store.proofs.reading.module_of.Goals.{In-Some, In-Some-path_in}
use Rattle.package_store.proofs.reading.module_of.Goals as goal

pub loop-key-init : goal.loop-key-init
loop-key-init c =
    let whole = module_at (rows_of c.args.rows.now.entries) c.args.session c.args.part in
    let gives = c.into_iter-key-iterator.ensures.into_iter_gives in
    subst (λ es. Filed (path_in c.args.session c.args.part) whole c.new-files.result (shown es)) (sym gives.0)
    (starts c.args.session c.args.part whole c.new-files.result c.args.rows.now.entries refl gives.5
    c.new-files.ensures)

-- the rows from one on are filed after those before it
filed : (c : In-Some) → Filed (path_in c.args.session c.args.part)
    (module_at (rows_of c.args.rows.now.entries) c.args.session c.args.part) c.loop-key.files
    ((c.in-Some.key.now.items, c.in-Some.content.now) ∷ shown c.next.new.self)
filed c =
    let whole = module_at (rows_of c.args.rows.now.entries) c.args.session c.args.part in
    subst (λ es. Filed (path_in c.args.session c.args.part) whole c.loop-key.files (shown es)) c.in-Some.ensures.steps
    c.loop-key.invariant

-- and its key is that of a file of the module
named : (c : In-Some-path_in)
    → path_in c.args.session c.args.part c.in-Some.key.now.items ≡ Some c.in-Some-path_in.path.now
named c = ap (path_in c.args.session c.args.part) (sym c.deref.ensures.value) ∙ sym c.in-Some-path_in.ensures

pub add_file-requires-clause-named : goal.add_file-requires-clause-named
add_file-requires-clause-named c =
    let whole = module_at (rows_of c.args.rows.now.entries) c.args.session c.args.part in
    let f = filed (goal.at.add_file-requires-clause-named c).In-Some in
    let its = named (goal.at.add_file-requires-clause-named c).In-Some-path_in in
    is_named (filed_paths c.args.session c.args.part) whole c.loop-key.files _ _ f c.in-Some-path_in.path.now its c.requires

pub add_file-requires-clause-fits : goal.add_file-requires-clause-fits
add_file-requires-clause-fits c =
    let whole = module_at (rows_of c.args.rows.now.entries) c.args.session c.args.part in
    let f = filed (goal.at.add_file-requires-clause-fits c).In-Some in
    let its = named (goal.at.add_file-requires-clause-fits c).In-Some-path_in in
    (has_room (filed_paths c.args.session c.args.part) whole c.loop-key.files _ _ f c.in-Some-path_in.path.now its c.requires)

pub loop-key-preserved : goal.loop-key-preserved
loop-key-preserved c =
    let whole = module_at (rows_of c.args.rows.now.entries) c.args.session c.args.part in
    let f = filed (goal.at.loop-key-preserved c).In-Some in
    let none : path_in c.args.session c.args.part c.in-Some.key.now.items ≡ None =
    ap (path_in c.args.session c.args.part) (sym c.deref.ensures.value) ∙ sym c.in_default.ensures in
    passes (path_in c.args.session c.args.part) whole c.loop-key.files _ _ f none

pub loop-key-preserved-in-Continue-1 : goal.loop-key-preserved-in-Continue-1
loop-key-preserved-in-Continue-1 c =
    let whole = module_at (rows_of c.args.rows.now.entries) c.args.session c.args.part in
    let f = filed (goal.at.loop-key-preserved-in-Continue-1 c).In-Some in
    let its = named (goal.at.loop-key-preserved-in-Continue-1 c).In-Some-path_in in
    takes (filed_paths c.args.session c.args.part) whole c.loop-key.files _ _ f c.in-Some-path_in.path.now its
    c.add_file.new.files c.in_ok-add_file.ensures

pub returns : goal.returns
returns c =
    let whole = module_at (rows_of c.args.rows.now.entries) c.args.session c.args.part in
    ends (path_in c.args.session c.args.part) whole c.loop-key.files []
    (subst (λ es. Filed (path_in c.args.session c.args.part) whole c.loop-key.files (shown es)) c.in-None.ensures.steps.0
    c.loop-key.invariant) refl
