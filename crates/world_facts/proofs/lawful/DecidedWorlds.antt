-- The test of lawful worlds decides them: `lawful_decides`.
use Rattle.std.proofs.Common.{◌≡◌, ℕ, ◌*◌, ◌≤◌}
use Rattle.std.proofs.Common.{List, length, map, sum, Option, Some, None, IfSome, ap, Decides, arith}
use Rattle.std.specs.FinMap as fin
use Rattle.std.proofs.lemmas.Bool.Decides.{Decides-and, Decides-eqb, Decides-ltb}
use Rattle.apex_base.specs.declared.numbers.Scale.{Scale}
use Rattle.apex_base.specs.Modules.{IsModule}
use Rattle.apex_base.specs.Numbers.{scale_modules, scale_file_weight, scale_data_weight, scale_units}
use Rattle.apex_base.specs.Ranges.{IsMillis}
use Rattle.apex_base.specs.RowSums.{entry_weight}
use Rattle.apex_base.specs.Spelling.{IsRecord}
use Rattle.apex_base.specs.Tables.{NameMap, or_empty}
use Rattle.apex_base.proofs.RowWeights.{no_entries}
use Rattle.apex_world.specs.Bounds.{name_count, can_be_undone, can_be_rolled_back, is_ready_rollback, table_len}
use Rattle.apex_world.specs.Bounds.{HasLittleData, IsWithinScale}
use Rattle.apex_world.specs.Data.{part_weight}
use Rattle.apex_world.specs.Decided.{is_record, is_table, is_millis, are_in_range, has_parts, has_its_cause}
use Rattle.apex_world.specs.Decided.{has_little_data, is_within_scale, is_lawful}
use Rattle.apex_world.specs.Lawful.{IsTable, AreInRange, HasParts, Lawful}
use Rattle.apex_world.specs.Limits.{units, weight}
use Rattle.apex_world.specs.World.{World, Contents, boots}
use Rattle.world_facts.proofs.facts.DecidedIds.{ids_decide, parts_decide}
use Rattle.world_facts.proofs.lawful.DecidedModules.{modules_decide}
use Rattle.world_facts.proofs.facts.DecidedPeers.{alone_decides, activations_decide, cause_decides, rollbacks_decide}
use Rattle.world_facts.proofs.lawful.DecidedRecords.{record_decides, millis_decides}
use Rattle.world_facts.proofs.facts.DecidedRollbacks.{undone_decide}
use Rattle.world_facts.proofs.facts.DecidedTables.{module_decides, table_decides, ends_decide, image_decides, values_decide}
use Rattle.world_facts.proofs.facts.DecidedTests.{at_most, and_then, every, none_decides, implies_decides}

-- two facts as a pair
both : {P Q : Type 0} → P → Q → P × Q
both p q = (p, q)

-- Ranges

-- the test of all ranges decides them
pub ranges_decide : (w : World) → Decides (are_in_range w) (AreInRange w)
ranges_decide w =
    let d = Decides-and _ _ (every is_record IsRecord w.sessions (λ r h. record_decides r))
    (Decides-and _ _ (every _ (λ s. IsModule s.content) w.modules (λ s h. module_decides s.content))
    (Decides-and _ _ (table_decides w.contents)
    (Decides-and _ _ (every is_table IsTable w.eras (λ t h. table_decides t))
    (Decides-and _ _ (every is_millis IsMillis w.moments (λ m h. millis_decides m))
    (Decides-and _ _ (table_decides w.watches)
    (Decides-and _ _ (ends_decide w.watches)
    (Decides-and _ _ (Decides-ltb (boots w) 4294967296)
    (Decides-and _ _ (millis_decides w.clock)
    (Decides-and _ _ (image_decides w.scale w.image)
    (at_most (length w.observers) 8)))))))))) in (
      λ e. let (sessions, (modules, (contents, (eras, (moments, (watches, last)))))) = d.0 e in
          let (ends, (boots, (clock, (image, observers)))) = last in
          record {
            sessions = sessions;
            modules = modules;
            contents = contents;
            eras = eras;
            moments = moments;
            watches = watches;
            ends = ends;
            boots = boots;
            clock = clock;
            image = image;
            observers = observers;
          },
      λ h.
          let last = both h.ends (both h.boots (both h.clock (both h.image h.observers))) in
          d.1 (h.sessions, (h.modules, (h.contents, (h.eras, (h.moments, (h.watches, last)))))),
    )

-- Bounds

-- no data weighs nothing
no_weight : part_weight fin.empty ≡ 0
no_weight = ap (λ (es : List (List ℕ × List ℕ)). sum (map (λ e. entry_weight e.0 e.1) es)) no_entries

-- a bound on the weight of what is there is a bound on the weight under a name
weighs_at_most : (most : ℕ) (o : Option (NameMap (List ℕ))) → IfSome o (λ m. part_weight m ≤ most)
    → part_weight (or_empty o) ≤ most
weighs_at_most most None h = omega (arith, no_weight)
weighs_at_most most (Some m) h = h

-- and the other way round
at_most_weighs : (most : ℕ) (o : Option (NameMap (List ℕ))) → part_weight (or_empty o) ≤ most
    → IfSome o (λ m. part_weight m ≤ most)
at_most_weighs most None h = tt
at_most_weighs most (Some m) h = h

-- the test of data decides that it is little
little_data_decides : (scale : Scale) (contents : Contents)
    → Decides (has_little_data scale contents) (HasLittleData scale contents)
little_data_decides scale contents =
    let most : ℕ = scale_data_weight scale in
    let d = Decides-and _ _ (at_most (fin.len contents) (scale_modules scale))
    (values_decide _ (λ (m : NameMap (List ℕ)). part_weight m ≤ most) (λ m. at_most (part_weight m) most) contents) in (
      λ e. let (few, light) = d.0 e in
          record { names = few; weight = λ name. weighs_at_most most (fin.get contents name) (light name) },
      λ h. d.1 (h.names, λ name. at_most_weighs most (fin.get contents name) (h.weight name)),
    )

-- the test of bounds decides that a world is within its scale
pub scale_decides : (w : World) → Decides (is_within_scale w) (IsWithinScale w)
scale_decides w =
    let d = Decides-and _ _ (at_most (units w) (scale_units w.scale))
    (Decides-and _ _ (at_most (weight w) (scale_file_weight w.scale))
    (Decides-and _ _ (little_data_decides w.scale w.contents)
    (Decides-and _ _ (every _ (HasLittleData w.scale) w.eras (λ c h. little_data_decides w.scale c))
    (Decides-and _ _ (at_most (name_count can_be_undone w.sessions) (scale_modules w.scale))
    (Decides-and _ _ (at_most (name_count can_be_rolled_back w.sessions) (scale_modules w.scale))
    (Decides-and _ _ (at_most (name_count is_ready_rollback w.sessions) (scale_modules w.scale))
    (at_most (table_len w.watches) (8 * scale_modules w.scale)))))))) in (
      λ e. let (units, (weight, (contents, (eras, (undoable, (available, (waiting, watches))))))) = d.0 e in
          record {
            units = units;
            weight = weight;
            contents = contents;
            eras = eras;
            undoable = undoable;
            available = available;
            waiting = waiting;
            watches = watches;
          },
      λ h. d.1 (h.units, (h.weight, (h.contents, (h.eras, (h.undoable, (h.available, (h.waiting, h.watches))))))),
    )

-- Lawful worlds

-- the test of lawful worlds decides that a world is one
pub lawful_decides : (w : World) → Decides (is_lawful w) (Lawful w)
lawful_decides w =
    let d = Decides-and _ _ (ranges_decide w)
    (and_then _ _ (ids_decide w.sessions) (λ ids.
    Decides-and _ _ (every has_parts HasParts w.sessions (λ r h. parts_decide r))
    (Decides-and _ _ (alone_decides w.sessions ids.ascend)
    (Decides-and _ _ (activations_decide (boots w) w.sessions ids.ascend)
    (Decides-and _ _ (every has_its_cause _ w.sessions (λ r h. cause_decides r))
    (Decides-and _ _ (rollbacks_decide w.sessions ids.ascend)
    (Decides-and _ _ (undone_decide w.sessions)
    (Decides-and _ _ (modules_decide w)
    (Decides-and _ _ (scale_decides w)
    (implies_decides _ _ (Decides-eqb (boots w) 0) (none_decides w.moments))))))))))) in (
      λ e. let (ranges, (ids, (parts, (alone, (activations, (causes, last)))))) = d.0 e in
          let (rollbacks, (undone, (modules, (bounds, begun)))) = last in
          record {
            ranges = ranges;
            ids = ids;
            parts = parts;
            alone = alone;
            activations = activations;
            causes = causes;
            rollbacks = rollbacks;
            undone = undone;
            modules = modules;
            bounds = bounds;
            begun = begun;
          },
      λ h.
          let last = both h.rollbacks (both h.undone (both h.modules (both h.bounds h.begun))) in
          d.1 (h.ranges, (h.ids, (h.parts, (h.alone, (h.activations, (h.causes, last)))))),
    )
