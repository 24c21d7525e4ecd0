-- A boot leads from a lawful world to one that runs, before anybody looks for a boot loop: `started_running`.
use Rattle.std.proofs.Common.{IsTrue, ◌*◌, ◌≡◌, ◌⊎◌, ℕ, ◌≤◌, ◌<◌, ◌^◌, true, List, [], ◌∷◌, ◌++◌, length, map, Some}
use Rattle.std.proofs.Common.{sym, ap, subst, ◌∙◌, refl, inl, inr, arith}
use Rattle.std.specs.List.{AllByRecursion}
use Rattle.std.specs.Str.{bytes_eq}
use Rattle.std.specs.Ordering.{nat_cmp}
use Rattle.std.specs.Cmp.Lexicographic.{slice_cmp}
use Rattle.std.specs.FinMap.{get-empty}
use Rattle.std.proofs.lemmas.List.Sums.{sum_by-cons}
use Rattle.apex_base.specs.declared.numbers.Scale.{Scale}
use Rattle.apex_base.specs.declared.numbers.SessionId.{SessionId}
use Rattle.apex_base.specs.declared.records.Part.{Part}
use Rattle.apex_base.specs.declared.records.Record.{Record}
use Rattle.apex_base.specs.Members.{In, EachPair}
use Rattle.apex_base.specs.Numbers.{scale_modules}
use Rattle.apex_base.specs.Ranges.{IsMillis}
use Rattle.apex_base.specs.Sessions.{names}
use Rattle.apex_base.specs.Spelling.{IsId, IsKind, IsPart, IsRecord}
use Rattle.apex_base.specs.Tables.{value_of}
use Rattle.apex_base.specs.Text.{is_print}
use Rattle.apex_base.proofs.MemberLemmas.{in_map, in_append, in_any}
use Rattle.apex_world.specs.declared.calls.BootOrder.{BootOrder}
use Rattle.apex_world.specs.declared.calls.Observer.{Observer}
use Rattle.apex_world.specs.Boot.{started}
use Rattle.apex_world.specs.Bounds.{HasLittleData, table_len, IsWithinScale}
use Rattle.world_laws.specs.Invariance.{IsOrderOf}
use Rattle.apex_world.specs.Lawful.{Lawful, AreInRange, IsTable}
use Rattle.apex_world.specs.Limits.{kind_units, units_of}
use Rattle.apex_world.specs.Report.{failures_or, failures_of}
use Rattle.apex_world.specs.Running.{runs, is_registered, is_of_image, Running}
use Rattle.apex_world.specs.Selection.{Mounts}
use Rattle.apex_world.specs.World.{World}
use Rattle.world_laws.proofs.runs.BootCounts.{is_image, of_steps, image_named, undoable_few, available_few, waiting_few}
use Rattle.world_laws.proofs.runs.BootData.{contents_table, contents_little, contents_in_image, eras_each}
use Rattle.world_laws.proofs.runs.BootWatches.{watch_left, watches_table, watches_few}
use Rattle.world_laws.proofs.runs.BootLaws.{number, turn, after, keeps, number_is}
use Rattle.world_laws.proofs.runs.BootLaws.{ids_after, parts_after, alone_after, activations_after, causes_after}
use Rattle.world_laws.proofs.runs.BootLaws.{rollbacks_after}
use Rattle.world_laws.proofs.runs.BootCauses.{causes_made, cause_of_parts}
use Rattle.world_laws.proofs.runs.BootModules.{modules_after, weight_after}
use Rattle.world_laws.proofs.runs.BootUndone.{undone_after}
use Rattle.world_facts.proofs.facts.KeptLemmas.{eq_name}

-- sessions that keep their kinds count the same units
units_map : (f : Record → Record) (ss : List Record) → ((r : Record) → (f r).kind ≡ r.kind)
    → units_of (map f ss) ≡ units_of ss
units_map f [] same = refl
units_map f (r ∷ ss) same =
    let rest = units_map f ss same in
    let here : kind_units (f r).kind ≡ kind_units r.kind = ap kind_units (same r) in
    omega (
      arith,
      rest,
      here,
      sum_by-cons (λ (r : Record). kind_units r.kind) (f r) (map f ss),
      sum_by-cons (λ (r : Record). kind_units r.kind) r ss,
    )

module _ (w : World) (law : Lawful w) (order : BootOrder) (o : IsOrderOf w order) (mounts : Mounts) where
  abbrev step : Record → Record
  step = turn w law order mounts

  abbrev steps : List Record
  steps = after w law order mounts

  -- the world before the boot loop
  abbrev booted : World
  booted = started w order mounts

  -- Ranges

  few_boots : number w law order mounts < 2 ^ 32
  few_boots = let l = o.number in let n = number_is w law order mounts in omega (arith, l, n)

  record_after : (r : Record) → In r w.sessions → IsRecord (step r)
  record_after r h =
      let was = law.ranges.sessions r h in
      let k = keeps w law order mounts r in
      let made = causes_made mounts w.modules order (number w law order mounts) r in
      record {
        id = subst IsId (sym k.id) was.id;
        kind = subst IsKind (sym k.kind) was.kind;
        moment = subst IsMillis (sym made.moment) was.moment;
        activation =
            let l = few_boots in
            let m = ((activations_after w law order mounts).each (step r) (in_map step r w.sessions h)).most in
            omega (arith, l, m);
        print = subst (λ (p : List ℕ). IsTrue (is_print p)) (sym k.print) was.print;
        cause = made.is was.cause (cause_of_parts mounts w.modules order.image.modules r.parts was.parts);
        parts = subst (AllByRecursion IsPart) (sym k.parts) was.parts;
        few = subst (λ (ps : List Part). length ps < 256) (sym k.parts) was.few;
        children = subst (AllByRecursion IsId) (sym k.children) was.children;
        count = subst (λ (ps : List Part). ((step r).children ≡ []) ⊎ (length (step r).children ≡ length ps))
            (sym k.parts) (subst (λ (cs : List SessionId). (cs ≡ []) ⊎ (length cs ≡ length r.parts)) (sym k.children)
            was.count);
      }

  moments_after : (m : ℕ) → In m (w.moments ++ order.time ∷ []) → IsMillis m
  moments_after m h =
      elim (in_append m w.moments (order.time ∷ []) h) [
        | inl i ↦ law.ranges.moments m i
        | inr i ↦ elim i [
          | inl e ↦ subst IsMillis e o.time
          | inr j ↦ absurd j
        ]
      ]

  ranges_after : AreInRange booted
  ranges_after = record {
    sessions = of_steps w law order o mounts IsRecord record_after;
    modules = law.ranges.modules;
    contents = contents_table w law step order.image;
    eras = eras_each w law step order.image (λ c. IsTable c) law.ranges.eras law.ranges.contents;
    moments = moments_after;
    watches = watches_table order w.watches law.ranges.watches;
    ends = λ a b end e. law.ranges.ends a b end (watch_left order w.watches a b end e).was;
    boots = few_boots;
    clock = o.time;
    image = record { print = o.print; modules = is_image w law order o mounts };
    observers = o.is_order.few;
  }

  bounds_after : IsWithinScale booted
  bounds_after = record {
    units = let l = law.bounds.units in
        omega (arith, l, units_map step w.sessions (λ r. (keeps w law order mounts r).kind));
    weight = let l = law.bounds.weight in omega (arith, l, weight_after w law order mounts);
    contents = contents_little w law step order.image (is_image w law order o mounts);
    eras = eras_each w law step order.image (HasLittleData w.scale) law.bounds.eras law.bounds.contents;
    undoable = undoable_few w law order o mounts;
    available = available_few w law order o mounts;
    waiting = waiting_few w law order o mounts;
    watches = subst (λ (s : Scale). table_len booted.watches ≤ 8 * scale_modules s) o.scale
        (watches_few order w.watches o.is_order);
  }

  started_lawful : Lawful booted
  started_lawful = record {
    ranges = ranges_after;
    ids = ids_after w law order mounts;
    parts = parts_after w law order mounts;
    alone = alone_after w law order mounts;
    activations = activations_after w law order mounts;
    causes = causes_after w law order mounts;
    rollbacks = rollbacks_after w law order mounts;
    undone = undone_after w law order mounts;
    modules = modules_after w law order mounts;
    bounds = bounds_after;
    begun = λ e. let n = number_is w law order mounts in absurd (omega (arith, e, n));
  }

  no_failures : (name : List ℕ) → failures_of booted.failures name ≡ []
  no_failures name = ap failures_or (get-empty {X = List ℕ} (slice_cmp nat_cmp) name)

  registered : (observer name : List ℕ) (end : ℕ) → value_of booted.watches observer name ≡ Some end
      → is_registered booted observer ≡ true
  registered observer name end e =
      let l = watch_left order w.watches observer name end e in
      in_any (λ (o : Observer). bytes_eq o.name observer) l.by order.observers l.among
      (ap (λ (n : List ℕ). bytes_eq n observer) l.called ∙ eq_name observer)

  pub started_running : Running booted
  started_running = record {
    lawful = started_lawful;
    image = refl;
    sessions = λ s name h. of_steps w law order o mounts
        (λ (s : Record). is_of_image s ≡ true → names name s ≡ true → runs booted name ≡ true)
        (λ r i. image_named w law order o mounts r name) s h;
    contents = contents_in_image w law step order.image;
    watches = λ observer name end e. (watch_left order w.watches observer name end e).known;
    observers = registered;
    sorted = λ name. subst (EachPair (λ (m n : ℕ). m ≤ n)) (sym (no_failures name)) tt;
    past = λ name m h. absurd (subst (In m) (no_failures name) h);
  }
