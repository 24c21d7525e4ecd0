-- A world runs on where each session changes by itself as `Turns` says, and no two rollbacks of a name are available.
-- Callers want `turned_running`.
use Rattle.std.proofs.Common.{◌≡◌, ℕ, ◌≤◌, Bool, true, false, cond, ◌||◌, List, length, map, Option, sym, ap, ◌∙◌}
use Rattle.std.proofs.Common.{refl, inl, inr, arith, is_some, le_trans}
use Rattle.std.proofs.lemmas.Bool.{false≢true, or_left, or_right}
use Rattle.apex_base.specs.declared.records.Cause.{Cause}
use Rattle.apex_base.specs.declared.records.Part.{Part}
use Rattle.apex_base.specs.declared.records.Record.{Record}
use Rattle.apex_base.specs.declared.records.Target.TheVariants as targets
use Rattle.apex_base.specs.Held.{kept}
use Rattle.apex_base.specs.Members.{In}
use Rattle.apex_base.specs.Numbers.{scale_modules}
use Rattle.apex_base.specs.Ranges.{IsMillis}
use Rattle.apex_base.specs.Sessions.{names}
use Rattle.apex_base.specs.Spelling.{IsRecord}
use Rattle.apex_world.specs.declared.calls.Image.{Image}
use Rattle.apex_world.specs.Bounds.{name_count, can_be_undone, can_be_rolled_back, is_ready_rollback}
use Rattle.apex_world.specs.Lawful.{Lawful, HaveModules, AllPeers, NotBothUnfinished, NotBothAvailable, HasParts}
use Rattle.apex_world.specs.Lawful.{HasRollback, has_cause}
use Rattle.apex_world.specs.Limits.{kind_units, units_of, weight_of}
use Rattle.apex_world.specs.Running.{Running, runs, is_activated, is_of_image}
use Rattle.apex_world.specs.Submit.{in_running}
use Rattle.apex_world.specs.World.{World}
use Rattle.world_laws.proofs.runs.NameCounts.{names_within}
use Rattle.world_laws.proofs.runs.RunningLemmas.{ranges_with, image_of}
use Rattle.world_laws.proofs.runs.SessionMaps.{sum_map_most}
use Rattle.world_laws.proofs.runs.KeptWeights.{weight_less}
use Rattle.world_laws.proofs.runs.TurnedLemmas.{from, peers_from, same_names, ascend, same_place, ids_after}
use Rattle.world_laws.proofs.runs.TurnedLemmas.{activations_after}
use Rattle.world_laws.proofs.runs.TurnedLemmas.{was_kept}
use Rattle.world_laws.proofs.runs.TurnedRollbacks.{undone_after}
use Rattle.world_laws.proofs.runs.TurnedSessions.{Turns, parts_as, record_as}

-- a session that passes less often has no more names that count
count_if : (b c : Bool) (n m : ℕ) → n ≡ m → (b ≡ true → c ≡ true) → cond b n 0 ≤ cond c m 0
count_if true true n m e f = omega (arith, e)
count_if true false n m e f = absurd (false≢true (f refl))
count_if false c n m e f = omega arith

-- of what passes, no more names
count_less : (test : Record → Bool) (g : Record → Record) (ss : List Record)
    → ((r : Record) → In r ss → (g r).parts ≡ r.parts) → ((r : Record) → In r ss → test (g r) ≡ true → test r ≡ true)
    → name_count test (map g ss) ≤ name_count test ss
count_less test g ss parts less = sum_map_most (λ r. cond (test r) (length r.parts) 0) g ss (λ r h.
    count_if (test (g r)) (test r) (length (g r).parts) (length r.parts)
    (ap (λ (ps : List Part). length ps) (parts r h))
    (less r h))

module _ (w : World) (run : Running w) (g : Record → Record) (same : (r : Record) → (g r).id ≡ r.id)
    (turn : (r : Record) → In r w.sessions → Turns r (g r)) (apart : AllPeers NotBothAvailable (map g w.sessions))
    (clock : ℕ) (later : w.clock ≤ clock) (millis : IsMillis clock) where
  abbrev ss : List Record
  ss = w.sessions

  abbrev after : List Record
  after = map g w.sessions

  abbrev world : World
  world = record w { sessions = map g w.sessions; clock = clock }

  law : Lawful w
  law = run.lawful

  -- what holds of what each becomes holds of all
  each_has : (P : Record → Type 0) → ((r : Record) → In r ss → P (g r)) → (s : Record) → In s after → P s
  each_has P each = from w law g same turn P each

  -- the modules are as they have to be
  modules_after : HaveModules world
  modules_after = record {
    kept = λ session part version h. elim (was_kept w law g same turn (targets.Module session part version) h) [
      | inl none ↦ absurd (cc none)
      | inr i ↦
          let k = law.modules.kept session part version i in
          record {
            content = k.content;
            name = k.name;
            there = k.there;
            checks = k.checks;
            says = same_place w law g same turn session part ∙ k.says;
          }
    ];
    distinct = law.modules.distinct;
    owned = λ s h. ap (λ o. is_some o) (same_place w law g same turn s.session s.part) ∙ law.modules.owned s h;
  }

  -- the parts are as they have to be
  parts_after : (s : Record) → In s after → HasParts s
  parts_after = each_has HasParts (λ r h. parts_as r (g r) (turn r h).kept (law.parts r h))

  -- the names of sessions that the image has run
  imaged_after : (s : Record) (name : List ℕ) → In s after → is_of_image s ≡ true → names name s ≡ true
      → runs w name ≡ true
  imaged_after s name h = each_has (λ s. is_of_image s ≡ true → names name s ≡ true → runs w name ≡ true) (λ r i e n.
      run.sessions r name i ((turn r i).imaged e) (sym (same_names w law g same turn r name i) ∙ n)) s h

  -- those of available rollbacks are no more than those of the image
  available_few : name_count can_be_rolled_back after ≤ scale_modules w.scale
  available_few =
      let (image, e, is) = image_of w run in
      names_within can_be_rolled_back after w.scale image is.modules (ascend w law g same turn) (record {
        each = λ s h _. (parts_after s h).names;
        peers = λ r s name h i d n m a b. apart r s name h i d n m a b;
      }) (λ s name h a n.
      ap (λ (o : Option Image). is_some (in_running o name)) (sym e)
      ∙ imaged_after s name h (or_right (is_activated s.state) (can_be_rolled_back s || is_ready_rollback s)
      (or_left (can_be_rolled_back s) (is_ready_rollback s) a)) n)

  -- modules weigh no more
  weight_after : weight_of after w.modules ≤ weight_of ss w.modules
  weight_after = weight_less (kept after) (kept ss) w.modules (was_kept w law g same turn)

  -- sessions have no more units
  units_after : units_of after ≤ units_of ss
  units_after = sum_map_most (λ r. kind_units r.kind) g ss (λ r h.
      let e = ap kind_units (turn r h).kept.kind in omega (arith, e))

  -- the world is lawful
  turned_lawful : Lawful world
  turned_lawful = record {
    ranges = ranges_with w law.ranges after w.modules clock (each_has IsRecord (λ r h.
        let t = turn r h in record_as r (g r) t.kept t.cause t.activation t.moment (law.ranges.sessions r h)))
        law.ranges.modules millis;
    ids = ids_after w law g same turn;
    parts = parts_after;
    alone = peers_from w law g same turn NotBothUnfinished (λ r s name h i d n m a b.
        law.alone r s name h i d n m ((turn r h).unfinished a) ((turn s i).unfinished b));
    activations = activations_after w law g same turn;
    causes = each_has (λ s. has_cause s.state ≡ is_some s.cause) (λ r h.
        (turn r h).failed ∙ law.causes r h ∙ ap (λ (c : Option Cause). is_some c) (sym (turn r h).cause));
    rollbacks = record { each = each_has HasRollback (λ r h. (turn r h).rollback); peers = apart };
    undone = undone_after w law g same turn;
    modules = modules_after;
    bounds = record {
      units = le_trans units_after law.bounds.units;
      weight = le_trans weight_after law.bounds.weight;
      contents = law.bounds.contents;
      eras = law.bounds.eras;
      undoable = le_trans (count_less can_be_undone g ss (λ r h. (turn r h).kept.parts) (λ r h. (turn r h).undoable))
          law.bounds.undoable;
      available = available_few;
      waiting = le_trans (count_less is_ready_rollback g ss (λ r h. (turn r h).kept.parts) (λ r h. (turn r h).ready))
          law.bounds.waiting;
      watches = law.bounds.watches;
    };
    begun = law.begun;
  }

  -- and it runs
  pub turned_running : Running (record w { sessions = map g w.sessions; clock = clock })
  turned_running = record {
    lawful = turned_lawful;
    image = run.image;
    sessions = imaged_after_all;
    contents = run.contents;
    watches = run.watches;
    observers = run.observers;
    sorted = run.sorted;
    past = λ name m h. le_trans (run.past name m h) later;
  }
    where
      imaged_after_all : (s : Record) (name : List ℕ) → In s after → is_of_image s ≡ true → names name s ≡ true
          → runs world name ≡ true
      imaged_after_all = imaged_after
