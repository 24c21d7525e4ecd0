use Rattle.std.proofs.Common.{ℕ, Option, ap, ◌∙◌}
use Rattle.apex_base.specs.declared.records.Place.{Place}
use Rattle.apex_base.specs.declared.records.Target.{Target}
use Rattle.apex_base.specs.Held.{target_of}
use Rattle.world_laws.specs.BootByRows.{choice_in}
use Rattle.boot_recover.proofs.choosing.Selection.pick.Goals as goal

pub returns : goal.returns
returns g c sessions are =
    let mounts = g.M.Mounter.mounting c.args.self.now.mounter.now in
    let m = c.args.m.now in
    ap (λ (x : Option (ℕ × Place)). record { name = m.name; chosen = x })
    (c.in_ok-chosen.ensures
    ∙ ap (λ (t : Target). choice_in mounts c.args.self.now.rows.now t m)
    (c.target_of_name-target.ensures ∙ ap target_of (are m.name)))
