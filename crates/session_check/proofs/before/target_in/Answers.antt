use Rattle.std.proofs.Common.{List, Option, Bor, find, ap, sym, ◌∙◌}
use Rattle.std.specs.Option.{option_copied}
use Rattle.std.specs.Str.{bytes_eq}
use Rattle.apex_base.specs.declared.records.Part.{Part}
use Rattle.apex_base.specs.declared.records.Record.{Record}
use Rattle.session_check.specs.Before.{target_of_part, target_in}
use Rattle.session_check.proofs.before.target_in.Goals as goal

pub returns-in-Some : goal.returns-in-Some
returns-in-Some c =
    let name = c.args.name.now in
    c.target_of.ensures
    ∙ ap target_of_part (c.part_of.ensures
    ∙ ap (λ (ps : List Part). find (λ (p : Part). bytes_eq p.name name) ps) c.as_slice.ensures)
    ∙ sym (ap (λ (r : Option (Bor Record)). target_in (option_copied r) name) c.in-Some.is)
