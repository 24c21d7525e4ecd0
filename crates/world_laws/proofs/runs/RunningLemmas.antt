-- What runs, and running worlds with other data or other watches. Callers want `image_of`, `runs_in`,
-- `ranges_with`, `with_contents` and `with_watches`.
use Rattle.std.proofs.Common.{◌≡◌, ◌≢◌, ℕ, ◌*◌, ◌≤◌, true, List, length, map, Option, Some, sym, ap, subst, ◌∙◌, refl}
use Rattle.std.proofs.Common.{arith}
use Rattle.std.proofs.Common.{mul-le-mul_right, le_trans, is_some}
use Rattle.std.specs.Prelude.{IfSome}
use Rattle.std.specs.Str.{bytes_eq}
use Rattle.std.specs.FinMap as fin
use Rattle.std.specs.FinMap.{len-entries}
use Rattle.std.proofs.lemmas.List.{length-map}
use Rattle.std.proofs.lemmas.List.Elements.{All-from_recursion}
use Rattle.std.proofs.lemmas.List.Sums.{sum-map, sum_by-le}
use Rattle.apex_base.specs.declared.records.Record.{Record}
use Rattle.apex_base.specs.declared.records.Target.TheVariants as targets
use Rattle.apex_base.specs.Held.{kept}
use Rattle.apex_base.specs.Members.{In, EachPair}
use Rattle.apex_base.specs.Modules.{IsModule}
use Rattle.apex_base.specs.Numbers.{scale_modules, scale_data_weight}
use Rattle.apex_base.specs.Ranges.{IsMillis}
use Rattle.apex_base.specs.Spelling.{IsRecord}
use Rattle.apex_base.specs.Tables.{NameMap, or_empty, value_of}
use Rattle.apex_base.proofs.Finding.{is_there}
use Rattle.apex_base.proofs.MemberLemmas.{in_map, any_in, in_each}
use Rattle.apex_base.proofs.RowMaps.{entry_get}
use Rattle.apex_base.proofs.TableLemmas.{some_value}
use Rattle.apex_world.specs.declared.calls.Image.{Image}
use Rattle.apex_world.specs.declared.calls.Observer.{Observer}
use Rattle.apex_world.specs.declared.world.Submission.{Submission}
use Rattle.apex_world.specs.Bounds.{HasLittleData, table_len}
use Rattle.apex_world.specs.Data.{data_weight}
use Rattle.apex_world.specs.Lawful.{AreInRange, Lawful, IsTable, IsRunningImage, HaveModules, part_at_place}
use Rattle.apex_world.specs.Running.{Running, runs, is_registered}
use Rattle.apex_world.specs.Selection.{submitted_by}
use Rattle.apex_world.specs.Submit.{in_running}
use Rattle.apex_world.specs.World.{World, Contents, Watches}
use Rattle.world_laws.proofs.runs.NameCounts.{image_names, in_image_names, few_names}
use Rattle.world_laws.proofs.runs.NamedMaps.{named_len}
use Rattle.world_facts.proofs.facts.WorldRows.{same_name}

-- the image that runs
pub image_of : (w : World) → Running w → (image : Image) × (w.image ≡ Some image) × IsRunningImage w.scale image
image_of w run =
    let (image, e) = is_there w.image run.image in
    (image, e, subst (λ (o : Option Image). IfSome o (IsRunningImage w.scale)) e run.lawful.ranges.image)

-- a name that runs is among its names
pub runs_in : (w : World) (image : Image) (name : List ℕ) → w.image ≡ Some image → runs w name ≡ true
    → In name (image_names image)
runs_in w image name e h =
    in_image_names image name (ap (λ (o : Option Image). is_some (in_running o name)) (sym e) ∙ h)

-- the same modules of the same sessions
pub modules_again : (w : World) → Lawful w → (v : World) → v.sessions ≡ w.sessions → v.modules ≡ w.modules
    → HaveModules v
modules_again w law v sessions modules = record {
  kept = λ session part version h.
      let k = law.modules.kept session part version
      (subst (λ (ss : List Record). In (targets.Module session part version) (kept ss)) sessions h) in
      record {
        content = k.content;
        name = k.name;
        there = ap (λ (ms : List Submission). submitted_by ms session part) modules ∙ k.there;
        checks = k.checks;
        says = ap (λ (ss : List Record). part_at_place ss session part) sessions ∙ k.says;
      };
  distinct = subst (λ (ms : List Submission). EachPair (λ (s t : Submission). s.session.0 ≡ t.session.0
      → s.part ≢ t.part) ms) (sym modules) law.modules.distinct;
  owned = λ s h. ap (λ (ss : List Record). is_some (part_at_place ss s.session s.part)) sessions
      ∙ law.modules.owned s (subst (λ (ms : List Submission). In s ms) modules h);
}

-- a world with other sessions, other modules and another clock is within its ranges, if these are
pub ranges_with : (w : World) → AreInRange w → (ss : List Record) (ms : List Submission) (clock : ℕ)
    → ((r : Record) → In r ss → IsRecord r) → ((s : Submission) → In s ms → IsModule s.content) → IsMillis clock
    → AreInRange (record w { sessions = ss; modules = ms; clock = clock })
ranges_with w ranges ss ms clock records files millis = record {
  sessions = records;
  modules = files;
  contents = ranges.contents;
  eras = ranges.eras;
  moments = ranges.moments;
  watches = ranges.watches;
  ends = ranges.ends;
  boots = ranges.boots;
  clock = millis;
  image = ranges.image;
  observers = ranges.observers;
}

module _ (w : World) (run : Running w) where
  -- a map of names that run has few names
  pub few_run : {X : Type 0} (m : NameMap X)
      → ((name : List ℕ) (x : X) → fin.get m name ≡ Some x → runs w name ≡ true) → fin.len m ≤ scale_modules w.scale
  few_run m all =
      let (image, e, is) = image_of w run in
      let l = named_len m (image_names image) (λ name x f. runs_in w image name e (all name x f)) in
      let few = few_names w.scale image is.modules in
      omega (arith, l, few)

  -- and a table of registered observers has few values
  module _ (t : Watches) (table : IsTable t)
      (run_all : (observer name : List ℕ) (end : ℕ) → value_of t observer name ≡ Some end → runs w name ≡ true)
      (registered : (observer name : List ℕ) (end : ℕ) → value_of t observer name ≡ Some end
      → is_registered w observer ≡ true) where
    -- a value of a part of a table is one of the table
    at_part : (observer : List ℕ) (m : NameMap ℕ) → fin.get t observer ≡ Some m → (name : List ℕ) (end : ℕ)
        → fin.get m name ≡ Some end → value_of t observer name ≡ Some end
    at_part observer m e name end f = ap (λ (o : Option (NameMap ℕ)). fin.get (or_empty o) name) e ∙ f

    -- a name that watches is that of an observer
    in_observers : (observer : List ℕ) (m : NameMap ℕ) → fin.get t observer ≡ Some m
        → In observer (map (λ (o : Observer). o.name) w.observers)
    in_observers observer m e =
        let some = subst (λ (o : Option (NameMap ℕ)). IfSome o (λ m. fin.len m ≢ 0)) e (table.some observer) in
        let (name, end, f) = some_value m some in
        let (o, h, g) = any_in (λ (o : Observer). bytes_eq o.name observer) w.observers
        (registered observer name end (at_part observer m e name end f)) in
        rw (← same_name o.name observer g) (in_map (λ (o : Observer). o.name) o w.observers h)

    -- there are at most eight watches for each module that an image may have
    pub few_watches : table_len t ≤ 8 * scale_modules w.scale
    few_watches =
        let first = named_len t (map (λ (o : Observer). o.name) w.observers) in_observers in
        let eight = run.lawful.ranges.observers in
        let each = sum_by-le (λ (e : List ℕ × NameMap ℕ). fin.len e.1) (scale_modules w.scale) (fin.entries t)
        (All-from_recursion (λ (e : List ℕ × NameMap ℕ). fin.len e.1 ≤ scale_modules w.scale) (fin.entries t)
        (in_each (λ (e : List ℕ × NameMap ℕ). fin.len e.1 ≤ scale_modules w.scale) (fin.entries t) (λ e h.
        few_run e.1 (λ name end f. run_all e.0 name end (at_part e.0 e.1 (entry_get t e h) name end f))))) in
        let all : length (fin.entries t) ≤ 8 = omega (
          arith,
          first,
          eight,
          len-entries t,
          length-map w.observers (λ (o : Observer). o.name),
        ) in
        let most = mul-le-mul_right (scale_modules w.scale) all in
        omega (arith, each, most, sum-map (λ (e : List ℕ × NameMap ℕ). fin.len e.1) (fin.entries t))

  -- the world with other data and other watches at a later moment is lawful, if they are within their ranges and bounds
  lawful_with : (c : Contents) (t : Watches) (clock : ℕ) → IsTable c → IsTable t
      → ((observer name : List ℕ) (end : ℕ) → value_of t observer name ≡ Some end → end ≤ 18014398509481982)
      → IsMillis clock → HasLittleData w.scale c → table_len t ≤ 8 * scale_modules w.scale
      → Lawful (record w { contents = c; watches = t; clock = clock })
  lawful_with c t clock within table ends millis little few = record {
    ranges = record {
      sessions = run.lawful.ranges.sessions;
      modules = run.lawful.ranges.modules;
      contents = within;
      eras = run.lawful.ranges.eras;
      moments = run.lawful.ranges.moments;
      watches = table;
      ends = ends;
      boots = run.lawful.ranges.boots;
      clock = millis;
      image = run.lawful.ranges.image;
      observers = run.lawful.ranges.observers;
    };
    ids = run.lawful.ids;
    parts = run.lawful.parts;
    alone = run.lawful.alone;
    activations = run.lawful.activations;
    causes = run.lawful.causes;
    rollbacks = run.lawful.rollbacks;
    undone = run.lawful.undone;
    modules = modules_again w run.lawful (record w { contents = c; watches = t; clock = clock }) refl refl;
    bounds = record {
      units = run.lawful.bounds.units;
      weight = run.lawful.bounds.weight;
      contents = little;
      eras = run.lawful.bounds.eras;
      undoable = run.lawful.bounds.undoable;
      available = run.lawful.bounds.available;
      waiting = run.lawful.bounds.waiting;
      watches = few;
    };
    begun = run.lawful.begun;
  }

  -- with other data of names that run it runs
  module _ (c : Contents) (table : IsTable c)
      (named : (name : List ℕ) → is_some (fin.get c name) ≡ true → runs w name ≡ true)
      (weight : (name : List ℕ) → data_weight c name ≤ scale_data_weight w.scale) where
    little : HasLittleData w.scale c
    little = record {
      names = few_run c (λ name m e. named name (ap (λ (o : Option (NameMap (List ℕ))). is_some o) e));
      weight = weight;
    }

    pub with_contents : Running (record w { contents = c })
    with_contents = record {
      lawful = lawful_with c w.watches w.clock table run.lawful.ranges.watches run.lawful.ranges.ends
          run.lawful.ranges.clock little run.lawful.bounds.watches;
      image = run.image;
      sessions = run.sessions;
      contents = named;
      watches = run.watches;
      observers = run.observers;
      sorted = run.sorted;
      past = run.past;
    }

  -- and with other watches of registered observers and of names that run, at a later moment
  module _ (t : Watches) (clock : ℕ) (table : IsTable t)
      (ends : (observer name : List ℕ) (end : ℕ) → value_of t observer name ≡ Some end → end ≤ 18014398509481982)
      (run_all : (observer name : List ℕ) (end : ℕ) → value_of t observer name ≡ Some end → runs w name ≡ true)
      (registered : (observer name : List ℕ) (end : ℕ) → value_of t observer name ≡ Some end
      → is_registered w observer ≡ true) (later : w.clock ≤ clock) (millis : IsMillis clock) where
    pub with_watches : Running (record w { watches = t; clock = clock })
    with_watches = record {
      lawful = lawful_with w.contents t clock run.lawful.ranges.contents table ends millis run.lawful.bounds.contents
          (few_watches t table run_all registered);
      image = run.image;
      sessions = run.sessions;
      contents = run.contents;
      watches = run_all;
      observers = registered;
      sorted = run.sorted;
      past = λ name m h. le_trans (run.past name m h) later;
    }
