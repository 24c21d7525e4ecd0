use Rattle.std.proofs.Common.{◌≡◌, sym, ap, subst, ◌∙◌, refl}
use Rattle.apex_base.specs.declared.why.Why.TheVariants.{NoMemory}
use Rattle.apex_world.specs.Boot.{boot_world}
use Rattle.apex_world.specs.Limits.{units_of}
use Rattle.apex_world.specs.Opened.{opened}
use Rattle.apex_core.specs.Core.{Kept}
use Rattle.call_judge.specs.Stands.{StandsFor}
use Rattle.boot_recover.specs.Refused.{AreRefused}
use Rattle.boot_recover.proofs.Bootable.{if_error, not_refused, order_of}
use Rattle.call_judge.specs.Unfinished.{AreUnfinished}
use Rattle.apex_core.proofs.BootTables.{few_units, light_rows, stands_booted}
use Rattle.apex_core.proofs.manager.Core.boot.Goals as goal

pub judge_boot-requires-clause-stored : goal.judge_boot-requires-clause-stored
judge_boot-requires-clause-stored g c = λ κs within.
    let good = c.in_ok-opened.ensures.good in (
      opened c.args.rows c.args.order.now.scale,
      (good.stored, order_of c.args.rows c.args.order.now c.requires.order good),
    )

pub returns-in_err-opened-clause-bad : goal.returns-in_err-opened-clause-bad
returns-in_err-opened-clause-bad g c =
    if_error c.from_residual.result c.in_err-opened.field-0.0 (AreRefused c.args.rows c.args.order.now.scale)
    c.from_residual.ensures.1 c.in_err-opened.ensures.bad

pub returns-in_err-opened-clause-welcome : goal.returns-in_err-opened-clause-welcome
returns-in_err-opened-clause-welcome g c w s o left =
    if_error c.from_residual.result c.in_err-opened.field-0.0 (λ why. why ≡ NoMemory) c.from_residual.ensures.1
    (not_refused c.args.rows w s c.args.order.now.scale o.scale left c.in_err-opened.field-0.0
    c.in_err-opened.ensures.bad)

pub kept_weight-weight-requires : goal.kept_weight-weight-requires
kept_weight-weight-requires g c =
    let w = opened c.args.rows c.args.order.now.scale in
    let good = c.in_ok-opened.ensures.good in
    let s = good.stored in
    let o = order_of c.args.rows c.args.order.now c.requires.order good in
    light_rows c.args.rows w s c.args.order.now o c.requires.alone (g.M.Mounter.mounting c.args.mounter.now)
    c.in_ok-judged.judged (c.in_ok-judged.ensures.judged w s o) c.change_all.new.self c.by_key.result.now.entries
    c.in_ok-change_all.ensures.changed (c.rows_are_those_shown.ensures c.change_all.new.self _ c.by_key.ensures)

pub units_of-units-requires : goal.units_of-units-requires
units_of-units-requires g c =
    let w = opened c.args.rows c.args.order.now.scale in
    let good = c.in_ok-opened.ensures.good in
    let s = good.stored in
    let o = order_of c.args.rows c.args.order.now c.requires.order good in
    few_units c.args.rows w s c.args.order.now o c.requires.alone (g.M.Mounter.mounting c.args.mounter.now)
    c.in_ok-judged.judged (c.in_ok-judged.ensures.judged w s o) c.deref.result.now c.deref.ensures.value

pub of-requires : goal.of-requires
of-requires g c =
    let w = opened c.args.rows c.args.order.now.scale in
    let good = c.in_ok-opened.ensures.good in
    let s = good.stored in
    let o = order_of c.args.rows c.args.order.now c.requires.order good in
    let mounts = g.M.Mounter.mounting c.args.mounter.now in (
      boot_world w c.args.order.now mounts,
      stands_booted c.args.rows w s c.args.order.now o c.requires.alone mounts c.in_ok-judged.judged
          (c.in_ok-judged.ensures.judged w s o) c.change_all.new.self c.by_key.result.now.entries
          c.in_ok-change_all.ensures.changed
          (c.rows_are_those_shown.ensures c.change_all.new.self _ c.by_key.ensures) _ (record {
            scale = refl;
            sessions = refl;
            unfinished = subst (AreUnfinished c.in_ok-unfinished.unfinished) c.deref-2.ensures.value c.in_ok-unfinished.ensures;
            units = c.units_of-units.ensures ∙ ap units_of c.deref.ensures.value;
            weight = c.kept_weight-weight.ensures;
            image = c.in_ok-image.ensures;
            active = c.active_set.ensures;
            clock = refl;
          }),
    )

pub returns-clause-stands : goal.returns-clause-stands
returns-clause-stands g c w s o =
    let mounts = g.M.Mounter.mounting c.args.mounter.now in
    subst (λ (core : Kept). StandsFor core.rows core.tables (boot_world w c.args.order.now mounts)) (sym c.of.ensures)
    (stands_booted c.args.rows w s c.args.order.now o c.requires.alone mounts c.in_ok-judged.judged
    (c.in_ok-judged.ensures.judged w s o) c.change_all.new.self c.by_key.result.now.entries
    c.in_ok-change_all.ensures.changed
    (c.rows_are_those_shown.ensures c.change_all.new.self _ c.by_key.ensures) _ (record {
      scale = refl;
      sessions = refl;
      unfinished = subst (AreUnfinished c.in_ok-unfinished.unfinished) c.deref-2.ensures.value c.in_ok-unfinished.ensures;
      units = c.units_of-units.ensures ∙ ap units_of c.deref.ensures.value;
      weight = c.kept_weight-weight.ensures;
      image = c.in_ok-image.ensures;
      active = c.active_set.ensures;
      clock = refl;
    }))
