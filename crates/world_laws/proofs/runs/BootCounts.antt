-- After a boot the image has each name of a session that is activated or can be rolled back, and so these names are
-- few. Callers want `image_named`, `undoable_few`, `available_few` and `waiting_few`.
use Rattle.std.proofs.Common.{◌≡◌, ℕ, ◌≤◌, ◌||◌, Bool, true, List}
use Rattle.std.proofs.Common.{sym, ap, subst, ◌∙◌, inl, inr, is_some}
use Rattle.std.specs.List.{list_all}
use Rattle.std.specs.Str.{bytes_eq}
use Rattle.std.proofs.lemmas.Bool.{and_parts, or_cases}
use Rattle.std.proofs.lemmas.Slice.Eq.{bytes_eq-Decides}
use Rattle.apex_base.specs.declared.numbers.Scale.{Scale}
use Rattle.apex_base.specs.declared.records.Part.{Part}
use Rattle.apex_base.specs.declared.records.Record.{Record}
use Rattle.apex_base.specs.declared.records.State.TheVariants as state
use Rattle.apex_base.specs.Members.{In}
use Rattle.apex_base.specs.Numbers.{scale_modules}
use Rattle.apex_base.specs.Sessions.{names}
use Rattle.apex_base.proofs.MemberLemmas.{in_map_back, any_in}
use Rattle.apex_world.specs.declared.calls.BootOrder.{BootOrder}
use Rattle.apex_world.specs.Boot.{reverted, is_same_build, started}
use Rattle.apex_world.specs.Bounds.{name_count, can_be_undone, can_be_rolled_back, is_ready_rollback}
use Rattle.world_laws.specs.Invariance.{IsOrderOf}
use Rattle.apex_world.specs.Lawful.{Lawful}
use Rattle.apex_world.specs.Orders.{IsImage}
use Rattle.apex_base.specs.Commit.{undoes}
use Rattle.apex_base.specs.Held.{is_staged}
use Rattle.apex_world.specs.Running.{is_activated, is_of_image}
use Rattle.apex_world.specs.Selection.{Mounts, preinstalled}
use Rattle.apex_world.specs.World.{World}
use Rattle.world_laws.proofs.runs.BootLaws.{number, turn, after, cause_for, keeps, way, names_kept}
use Rattle.world_laws.proofs.runs.BootLaws.{ids_after, parts_after, alone_after, rollbacks_after}
use Rattle.world_laws.proofs.meaning.BootRollbacks.{settled_available}
use Rattle.world_laws.proofs.meaning.BootSessions.{part_works}
use Rattle.world_laws.proofs.runs.BootTurned.{activated_is, turned_staged}
use Rattle.world_laws.proofs.meaning.BootTurns.{undoable_turned, activated_works}
use Rattle.world_laws.proofs.runs.NameCounts.{names_within}
use Rattle.world_facts.proofs.facts.PlainLemmas.{reverted_keeps}
use Rattle.world_facts.proofs.facts.StateFacts.{all_in, undoable_unfinished}

module _ (w : World) (law : Lawful w) (order : BootOrder) (o : IsOrderOf w order) (mounts : Mounts) where
  abbrev step : Record → Record
  step = turn w law order mounts

  abbrev steps : List Record
  steps = after w law order mounts

  abbrev booted : World
  booted = started w order mounts

  abbrev in_image : List ℕ → Bool
  in_image name = is_some (preinstalled order.image.modules name)

  pub is_image : IsImage w.scale order.image
  is_image = subst (λ (s : Scale). IsImage s order.image) o.scale o.is_order.image

  -- what holds of what the boot makes of each session holds of each session after it
  pub of_steps : (P : Record → Type 0) → ((r : Record) → In r w.sessions → P (step r)) → (s : Record) → In s steps → P s
  of_steps P all s h = let (r, i, e) = in_map_back step s w.sessions h in subst P e (all r i)

  -- Names of the image

  -- the image has the names of a session that is activated
  activated_named : (r : Record) (name : List ℕ) → (step r).state ≡ state.Activated → names name (step r) ≡ true
      → in_image name ≡ true
  activated_named r name e n =
      let named = sym (names_kept name r (step r) (keeps w law order mounts r)) ∙ n in
      let (p, h, g) = any_in (λ (p : Part). bytes_eq p.name name) r.parts named in
      let (m, found, works) = part_works mounts w.modules order.image.modules r.parts
      (activated_works (cause_for w law order mounts r) (number w law order mounts) r (step r) e
      (way w law order mounts r)) p h in
      ap in_image (sym ((bytes_eq-Decides p.name name).0 g)) ∙ ap is_some found

  undoable_named : (r : Record) (name : List ℕ) → can_be_undone (step r) ≡ true → names name (step r) ≡ true
      → in_image name ≡ true
  undoable_named r name u n = activated_named r name (undoable_turned (cause_for w law order mounts r)
      (number w law order mounts) r (step r) u (way w law order mounts r)) n

  -- and those of a session that can be rolled back
  available_named : (r : Record) (name : List ℕ) → can_be_rolled_back (step r) ≡ true → names name (step r) ≡ true
      → in_image name ≡ true
  available_named r name a n =
      let named = sym (names_kept name r (step r) (keeps w law order mounts r)) ∙ n in
      let (p, h, g) = any_in (λ (p : Part). bytes_eq p.name name) r.parts named in
      let all = (and_parts (is_same_build order.image (reverted r))
      (list_all (λ (p : Part). in_image p.name) (reverted r).parts)
      (settled_available mounts w.modules order (number w law order mounts) r a)).1 in
      let here = all_in (λ (p : Part). in_image p.name) (reverted r).parts p all
      (subst (λ (ps : List Part). In p ps) (sym (reverted_keeps r.state r).0.parts) h) in
      ap in_image (sym ((bytes_eq-Decides p.name name).0 g)) ∙ here

  -- no session that a rollback made is ready after a boot
  none_ready : (r : Record) → is_ready_rollback (step r) ≡ true → ⊥
  none_ready r e = turned_staged (cause_for w law order mounts r) (number w law order mounts) r (step r)
      (and_parts (undoes (step r).kind) (is_staged (step r).state) e).1 (way w law order mounts r)

  pub image_named : (r : Record) (name : List ℕ) → is_of_image (step r) ≡ true → names name (step r) ≡ true
      → in_image name ≡ true
  image_named r name e n =
      elim (or_cases (is_activated (step r).state) (can_be_rolled_back (step r) || is_ready_rollback (step r)) e) [
        | inl a ↦ activated_named r name (activated_is (step r).state a) n
        | inr b ↦ elim (or_cases (can_be_rolled_back (step r)) (is_ready_rollback (step r)) b) [
          | inl a ↦ available_named r name a n
          | inr c ↦ absurd (none_ready r c)
        ]
      ]

  -- Counts

  pub undoable_few : name_count can_be_undone steps ≤ scale_modules w.scale
  undoable_few = names_within can_be_undone steps w.scale order.image is_image (ids_after w law order mounts).ascend
      (record {
        each = λ r h e. (parts_after w law order mounts r h).names;
        peers = λ r s name h i d n m u v. alone_after w law order mounts r s name h i d n m
            (undoable_unfinished r.state u) (undoable_unfinished s.state v);
      })
      (λ s name h. of_steps (λ (s : Record). can_be_undone s ≡ true → names name s ≡ true → in_image name ≡ true)
      (λ r i. undoable_named r name) s h)

  pub available_few : name_count can_be_rolled_back steps ≤ scale_modules w.scale
  available_few = names_within can_be_rolled_back steps w.scale order.image is_image
      (ids_after w law order mounts).ascend
      (record {
        each = λ r h e. (parts_after w law order mounts r h).names;
        peers = λ r s name h i d n m u v. (rollbacks_after w law order mounts).peers r s name h i d n m u v;
      })
      (λ s name h. of_steps (λ (s : Record). can_be_rolled_back s ≡ true → names name s ≡ true → in_image name ≡ true)
      (λ r i. available_named r name) s h)

  not_ready : (s : Record) → In s steps → is_ready_rollback s ≡ true → ⊥
  not_ready = of_steps (λ (s : Record). is_ready_rollback s ≡ true → ⊥) (λ r i. none_ready r)

  pub waiting_few : name_count is_ready_rollback steps ≤ scale_modules w.scale
  waiting_few = names_within is_ready_rollback steps w.scale order.image is_image (ids_after w law order mounts).ascend
      (record {
        each = λ r h e. (parts_after w law order mounts r h).names;
        peers = λ r s name h i d n m u v. not_ready r h u;
      })
      (λ s name h e n. absurd (not_ready s h e))
