use Rattle.std.proofs.Common.{rules, Some, ap, sym, ◌∙◌}
use Rattle.std.specs.Prelude.{OnOk, Result, Ok, Err}
use Rattle.std.specs.BTreeMap.{Updates}
use Rattle.std.specs.Ordering.{nat_cmp}
use Rattle.std.specs.Cmp.Lexicographic.{slice_cmp}
use Rattle.std.specs.FinMap.{gets}
use Rattle.apex_base.specs.Modules.{put_fault}
use Rattle.apex_base.proofs.Maps.{put_holds, same_files}
use Rattle.apex_base.proofs.module.Module.put.Goals as goal

on_ok : {X Y P Q : Type 0} (r : Result X Y) → OnOk r P → (P → Q) → OnOk r Q
on_ok (Ok x) p f = f p
on_ok (Err e) p f = tt

pub invariant_of-self : goal.invariant_of-self
invariant_of-self c =
    let free = ap (λ m. put_fault m c.args.path c.args.bytes) c.self.view_is
    ∙ sym (rw c.as_slice.ensures at c.put_fault.ensures) ∙ c.in_default.is in
    put_holds c.insert.result _ _ c.args.path c.args.bytes c.self.invariant c.known.ensures free
    c.insert.ensures.ordered
    (on_ok {P = Updates (slice_cmp nat_cmp) c.self.inside.files c.insert.new.self c.args.path (Some c.args.bytes)} _
    c.insert.ensures.updates (λ u. same_files _ _ (λ q. let e = u.0 q in grind (gets, rules)))) c.insert.ensures.err

pub returns-in-Ok-clause-put : goal.returns-in-Ok-clause-put
returns-in-Ok-clause-put c = same_files _ _ (λ q. grind (gets, rules))
