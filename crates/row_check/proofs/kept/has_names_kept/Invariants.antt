use Rattle.std.proofs.Common.{◌≡◌, drop}
use Rattle.std.specs.List.{list_all}
use Rattle.apex_base.specs.declared.records.Part.{Part}
use Rattle.row_check.specs.RightKept.{has_name_kept}
use Rattle.row_check.proofs.kept.has_names_kept.Given as goal

-- all are there where those of the rest are
abbrev pub invariant-loop-p : goal.invariant-loop-p
invariant-loop-p l =
    list_all (λ (p : Part). has_name_kept l.opening.sessions.now l.opening.values.now l.opening.tag l.opening.rows.now
    l.r p.name) (drop l.p-index l.r.parts)
    ≡ list_all (λ (p : Part). has_name_kept l.opening.sessions.now l.opening.values.now l.opening.tag
    l.opening.rows.now l.r p.name) l.r.parts
