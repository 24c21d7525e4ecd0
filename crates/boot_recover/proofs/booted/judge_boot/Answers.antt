use Rattle.std.proofs.Common.{◌≡◌, ◌∷◌, [], ◌++◌, ◌+◌, ℕ, List, ap, sym, subst, ◌∙◌, flat_map, arith}
use Rattle.package_store.specs.Latest.{AreHeld}
use Rattle.apex_base.specs.declared.records.Record.{Record}
use Rattle.row_codec.specs.declared.batch.Row.{Row}
use Rattle.apex_world.specs.declared.calls.Changed.{Changed}
use Rattle.apex_world.specs.Boot.{changed_to}
use Rattle.world_laws.specs.BootByRows.{become_in, sessions_in, chosen_in}
use Rattle.world_laws.specs.BootByRows.{with_moment}
use Rattle.world_facts.specs.Plain.{moments_left}
use Rattle.boot_recover.specs.declared.booted.JudgedBoot.{JudgedBoot}
use Rattle.boot_recover.specs.Booted.{record_changes, boots_change, IsSettling}
use Rattle.boot_recover.proofs.BootJudged.{Judges, rooms, parts_left, small_number, batch_ascends, booted_is}
use Rattle.boot_recover.proofs.booted.judge_boot.Given as given
use Rattle.boot_recover.proofs.booted.judge_boot.Goals as goal

pub overflow_add-number : goal.overflow_add-number
overflow_add-number g c =
    let (w, (s, o)) = c.requires.stored in
    let low = small_number c.args.rows.now w s c.args.order.now o _ c.requires.boots in
    omega (arith, low)

pub boot_sessions-requires-after_bounds : goal.boot_sessions-requires-after_bounds
boot_sessions-requires-after_bounds g c κs within =
    let (w, (s, o)) = c.requires.stored in
    rooms c.args.rows.now w s c.args.opened.sessions.items c.requires.sessions

pub choose-requires-after_bounds : goal.choose-requires-after_bounds
choose-requires-after_bounds g c κs within =
    let (w, (s, o)) = c.requires.stored in (
      c.deref-2.result.now,
      (
        parts_left c.args.rows.now w s (g.M.Mounter.mounting c.args.mounter.now) c.args.order.now
            (c.args.opened.boots.count + 1) c.args.opened.sessions.items c.deref-2.result.now c.requires.sessions
            (c.deref-2.ensures.value ∙ c.in_ok-boot_sessions.ensures.sessions),
        c.in_ok-held.ensures,
      ),
    )

pub with_settled-requires-clause-held : goal.with_settled-requires-clause-held
with_settled-requires-clause-held g c =
    subst (λ (ss : List Record). AreHeld ss c.in_ok-held.held)
    (c.deref-2.ensures.value ∙ sym c.deref-3.ensures.value) c.in_ok-held.ensures

pub with_settled-requires-clause-parts : goal.with_settled-requires-clause-parts
with_settled-requires-clause-parts g c =
    let (w, (s, o)) = c.requires.stored in
    parts_left c.args.rows.now w s (g.M.Mounter.mounting c.args.mounter.now) c.args.order.now
    (c.args.opened.boots.count + 1) c.args.opened.sessions.items c.deref-3.result.now c.requires.sessions
    (c.deref-3.ensures.value ∙ c.in_ok-boot_sessions.ensures.sessions)

-- what is judged
abbrev judged : (g : given.Over) → goal.After-drop-moments-2 g → JudgedBoot
judged g c = record {
  reply = record {
    number = c.args.opened.boots.count + 1;
    changes = c.of.result;
    active = c.of-2.result;
    boot_loop = c.in_ok-boot_loop.boot_loop;
  };
  rows = c.in_ok-batch.batch;
  sessions = c.boot_sessions.new.sessions;
  active = c.in_ok-active.active;
}

judges : (g : given.Over) (c : goal.After-drop-moments-2 g)
    → (settled : List Row) × Judges c.args.rows.now (c.args.opened.boots.count, c.args.opened.boots.moments.items)
    c.args.opened.sessions.items c.args.order.now (g.M.Mounter.mounting c.args.mounter.now) settled (judged g c)
judges g c =
    let mounts = g.M.Mounter.mounting c.args.mounter.now in
    let kept = c.args.rows.now in
    let order = c.args.order.now in
    let count = c.args.opened.boots.count in
    let recent = c.args.opened.boots.moments.items in
    let before = c.args.opened.sessions.items in
    let after : c.boot_sessions.new.sessions.items ≡ sessions_in mounts kept order (count + 1) before =
    c.in_ok-boot_sessions.ensures.sessions in
    let (settled, (are, settling)) = c.in_ok-batch.ensures in
    let first : Row = boots_change (count + 1) (moments_left order.time (with_moment recent order)) in
    let noted : c.in_ok-noted.noted.rows.items ≡ first ∷ [] =
    c.in_ok-noted.ensures.rows ∙ ap (λ (ms : List ℕ). boots_change (count + 1) ms ∷ [])
    (c.deref.ensures.value ∙ c.in_ok-boot_loop.ensures.moments) in
    let picked : c.in_ok-active.active.items ≡ chosen_in mounts kept (sessions_in mounts kept order (count + 1) before)
    order.image.modules = c.in_ok-active.ensures c.deref-2.result.now c.in_ok-held.ensures
    ∙ ap (λ (ss : List Record). chosen_in mounts kept ss order.image.modules) (c.deref-2.ensures.value ∙ after) in
    let told = c.of-2.ensures ∙ c.in_ok-told.ensures.items_if_clones_equal (λ x y e. e) ∙ c.deref-4.ensures.value
    ∙ picked in
    let changed = flat_map (λ (r : Record). changed_to r (become_in mounts kept order (count + 1) r)) before in
    let changes = c.of.ensures ∙ c.in_ok-boot_sessions.ensures.changes
    ∙ ap (λ (xs : List Changed). xs ++ changed) c.in_ok-noted.ensures.changes in (
      settled,
      record {
        reply = λ i. record {
          number = count + 1;
          changes = changes i;
          active = told i;
          boot_loop = c.in_ok-boot_loop.ensures.told i;
        };
        rows = are ∙ ap (λ (xs : List Row). xs ++ settled) (c.in_ok-boot_sessions.ensures.rows
            ∙ ap (λ (xs : List Row). xs ++ record_changes (become_in mounts kept order (count + 1)) before) noted);
        sessions = after;
        active = picked;
        settling = subst (λ (ss : List Record). IsSettling kept ss settled) (c.deref-3.ensures.value ∙ after) settling;
      },
    )

pub returns-clause-judged : goal.returns-clause-judged
returns-clause-judged g c w s o =
    let (settled, j) = judges g c in
    booted_is c.args.rows.now w s c.args.order.now o c.requires.alone (g.M.Mounter.mounting c.args.mounter.now)
    c.settled_by_key.ensures _ _ settled (judged g c) c.requires.boots c.requires.sessions j

pub returns-clause-ascending : goal.returns-clause-ascending
returns-clause-ascending g c =
    let (w, (s, o)) = c.requires.stored in
    let (settled, j) = judges g c in
    batch_ascends c.args.rows.now w s c.args.order.now (g.M.Mounter.mounting c.args.mounter.now) _ _ settled
    (judged g c) c.requires.sessions j
