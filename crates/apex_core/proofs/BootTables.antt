-- What a boot that was judged leaves. Callers want `few_units`, `light_rows` and `stands_booted`.
use Rattle.std.proofs.Common.{◌≡◌, ◌≤◌, ◌<◌, ◌^◌, [], ℕ, ◌+◌, List, Some, sym, ap, subst, ◌∙◌, arith}
use Rattle.std.specs.declared.alloc.Global.{Global}
use Rattle.std.specs.declared.vec.Vec.{Vec}
use Rattle.apex_base.specs.declared.numbers.Scale.{Scale}
use Rattle.apex_base.specs.declared.numbers.Scale.TheVariants.{Small, Standard}
use Rattle.apex_base.specs.declared.records.Record.{Record}
use Rattle.apex_base.specs.Keys.{RowMap}
use Rattle.apex_base.specs.Members.{In}
use Rattle.apex_base.specs.Numbers.{scale_units, scale_file_weight}
use Rattle.apex_base.specs.RowSums.{kept_weight}
use Rattle.apex_base.proofs.MemberLemmas.{in_map_back}
use Rattle.row_map.specs.Rows.{changed, rows_of}
use Rattle.apex_world.specs.declared.calls.BootOrder.{BootOrder}
use Rattle.apex_world.specs.Boot.{boot_world}
use Rattle.world_laws.specs.BootByRows.{become_in, GoesByRows}
use Rattle.world_laws.specs.Invariance.{IsOrderOf}
use Rattle.apex_world.specs.Limits.{units_of, weight}
use Rattle.apex_world.specs.Rows.{rows}
use Rattle.apex_world.specs.Running.{Running}
use Rattle.apex_world.specs.Selection.{Mounts}
use Rattle.apex_world.specs.World.{World, boots}
use Rattle.world_laws.proofs.runs.BootLoops.{boots_running}
use Rattle.world_facts.proofs.facts.PlainLemmas.{boot_plain}
use Rattle.world_laws.proofs.rows.QuietBoots.{boots_by_rows}
use Rattle.world_facts.proofs.facts.RowWeightLemmas.{file_rows_weigh}
use Rattle.boot_recover.specs.declared.booted.JudgedBoot.{JudgedBoot}
use Rattle.call_judge.specs.declared.tables.Tables.{Tables}
use Rattle.boot_recover.specs.Booted.{IsBooted}
use Rattle.call_judge.specs.Stands.{StandsFor}
use Rattle.stored_world.specs.Stored.{IsSimple, IsStored}
use Rattle.call_judge.specs.Unfinished.{AreUnfinished, unfinished_with}
use Rattle.boot_recover.proofs.TurnedSessions.{become_kept}

small_units : (scale : Scale) (n : ℕ) → n ≤ scale_units scale → n < 2 ^ 32
small_units Small n low = omega (arith, low)
small_units Standard n low = omega (arith, low)

small_weight : (scale : Scale) (n : ℕ) → n ≤ scale_file_weight scale → n < 2 ^ 64
small_weight Small n low = omega (arith, low)
small_weight Standard n low = omega (arith, low)

-- the tables after a boot of this order
pub record HasBooted (judged : JudgedBoot) (order : BootOrder) (light : ℕ) (tables : Tables) : Type 0 where
  pub scale : tables.scale ≡ order.scale
  pub sessions : tables.sessions.items ≡ judged.sessions.items
  pub unfinished : AreUnfinished tables.unfinished judged.sessions.items
  pub units : tables.units ≡ units_of judged.sessions.items
  pub weight : tables.weight ≡ light
  pub image : tables.image ≡ order.image
  pub active : tables.active ≡ judged.active.items
  pub clock : tables.clock ≡ order.time

module _ (kept : RowMap) (w : World) (s : IsStored kept w) (order : BootOrder) (o : IsOrderOf w order)
    (alone : order.observers ≡ []) (mounts : Mounts) (judged : JudgedBoot)
    (b : IsBooted judged kept w order mounts) where
  abbrev v : World
  v = boot_world w order mounts

  running : Running v
  running = boots_running w s.lawful order o mounts

  goes : GoesByRows w order mounts
  goes = boots_by_rows w s.lawful order o alone mounts

  childless : (x : Record) → In x v.sessions → x.children ≡ []
  childless x i =
      let (r, h, e) = in_map_back (become_in mounts (rows w) order (boots w + 1)) x w.sessions
      (subst (λ (ss : List Record). In x ss) goes.sessions i) in
      ap (λ (y : Record). y.children) (sym e)
      ∙ (become_kept mounts (rows w) order (boots w + 1) r).children ∙ s.simple.childless r h

  simple : IsSimple v
  simple = record { plain = boot_plain w s.simple.plain order alone mounts; childless = childless }

  -- the sessions have few units
  pub few_units : (ss : List Record) → ss ≡ judged.sessions.items → units_of ss < 2 ^ 32
  few_units ss e =
      small_units v.scale (units_of ss) (subst (λ (xs : List Record). units_of xs ≤ scale_units v.scale)
      (sym (e ∙ b.sessions)) running.lawful.bounds.units)

  module _ (after : RowMap) (entries : List (Vec ℕ Global × List ℕ)) (is : after ≡ changed kept judged.rows.items)
      (same : rows_of entries ≡ after) where
    weighs : kept_weight (rows_of entries) ≡ weight v
    weighs = ap kept_weight (same ∙ is ∙ b.stored) ∙ file_rows_weigh v running.lawful

    -- and the rows weigh little
    pub light_rows : kept_weight (rows_of entries) < 2 ^ 64
    light_rows = small_weight v.scale (kept_weight (rows_of entries))
        (subst (λ (n : ℕ). n ≤ scale_file_weight v.scale) (sym weighs) running.lawful.bounds.weight)

    -- rows and tables stand for the world after the boot
    pub stands_booted : (tables : Tables) → HasBooted judged order (kept_weight (rows_of entries)) tables
        → StandsFor after tables v
    stands_booted tables t = record {
      running = running;
      simple = simple;
      stored = is ∙ b.stored;
      scale = t.scale ∙ o.scale ∙ sym goes.scale;
      sessions = t.sessions ∙ b.sessions;
      unfinished = λ name. t.unfinished name ∙ ap (λ (ss : List Record). unfinished_with ss name) b.sessions;
      units = t.units ∙ ap units_of b.sessions;
      weight = t.weight ∙ weighs;
      image = ap Some t.image ∙ sym goes.image;
      active = t.active ∙ b.active;
      clock = t.clock ∙ sym goes.clock;
    }
