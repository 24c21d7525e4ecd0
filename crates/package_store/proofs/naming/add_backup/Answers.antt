use Rattle.std.proofs.Common.{◌≡◌, [], ◌∷◌, List, ℕ, None, Some, ap, sym, subst, ◌∙◌}
use Rattle.std.specs.FinMap as fin
use Rattle.std.specs.Option.{is_some}
use Rattle.apex_base.specs.declared.records.Target.{Target}
use Rattle.apex_base.specs.Held.{before}
use Rattle.apex_base.specs.Spelling.{target_text}
use Rattle.session_record.specs.Room.{HasPartNumber}
use Rattle.package_store.proofs.Parts.{before_part}
use Rattle.package_store.proofs.RowNotes.{on_ok, noted, none_if, first_noted}
use Rattle.package_store.proofs.naming.add_backup.Goals as goal

pub target_row-requires : goal.target_row-requires
target_row-requires c =
    let records = c.requires.0 in
    subst HasPartNumber (sym (c.before-2.ensures records c.requires.2))
    (before_part records c.args.r.now c.args.name.now c.requires.1)

pub returns : goal.returns
returns c =
    let name = c.args.name.now in
    let old = c.args.changes.now in
    let none : fin.get old (4 ∷ name) ≡ None =
    none_if (fin.get old (4 ∷ name)) (ap (λ (k : List ℕ). is_some (fin.get old k))
    (sym c.in_ok-key.ensures ∙ sym c.deref.ensures.value) ∙ sym c.has.ensures ∙ c.if-has.false) in
    on_ok c.put.result c.put.ensures
    (λ put records are q.
    let text = target_text (before records c.args.r.now name) [] in
    let spelled = c.in_ok-value.ensures
    ∙ ap (λ (t : Target). target_text t []) (c.before-2.ensures records are) in
    noted old c.put.new.self c.in_ok-key.key.items (4 ∷ name) c.in_ok-value.value text put c.in_ok-key.ensures spelled q
    ∙ first_noted old (4 ∷ name) q (Some (Some text)) none)
