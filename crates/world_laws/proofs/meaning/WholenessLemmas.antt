-- The law of wholeness: `wholeness` and `one_active`.
use Rattle.std.proofs.Common.{◌≡◌, ◌≢◌, ℕ, suc, ◌<◌, List, [], ◌∷◌, length, sym, ap, subst, ◌∙◌, refl, inl, inr, arith}
use Rattle.std.specs.Prelude.{slice_index_or}
use Rattle.std.specs.List.{AllPairs}
use Rattle.std.proofs.lemmas.Bool.{cases_order}
use Rattle.apex_base.specs.declared.records.Pick.{Pick}
use Rattle.apex_base.specs.Members.{In}
use Rattle.apex_world.specs.declared.calls.BootOrder.{BootOrder}
use Rattle.apex_world.specs.declared.calls.Call.{Call}
use Rattle.apex_world.specs.declared.modules.Package.{Package}
use Rattle.apex_world.specs.Boot.{started, boot_world}
use Rattle.apex_world.specs.Lawful.{Lawful}
use Rattle.apex_world.specs.Orders.{IsOrder}
use Rattle.apex_world.specs.Selection.{Mounts, pick_of}
use Rattle.apex_world.specs.Step.{step}
use Rattle.world_laws.specs.Wholeness.{IsWhole, called, Wholeness, AreOnce, OneActive}
use Rattle.apex_world.specs.World.{World}
use Rattle.world_laws.proofs.meaning.BootSessions.{boot_loops}
use Rattle.world_laws.proofs.meaning.ChosenLemmas.{chosen_back}
use Rattle.world_laws.proofs.meaning.RollbackIds.{Undone, lawful_undone}
use Rattle.world_laws.proofs.meaning.WholeBoot.{started_whole}
use Rattle.world_laws.proofs.meaning.WholeCalls.{lasts_goes, goes_whole, step_goes}

-- a call keeps a lawful world whole
pub step_whole : (w : World) → Lawful w → IsWhole w → (call : Call) → IsWhole (step w call).world
step_whole w law whole call = goes_whole w (step w call).world (step_goes w (lawful_undone w law) call) whole

-- and so do all calls
pub calls_whole : (calls : List Call) (w : World) → Undone w.sessions → IsWhole w → IsWhole (called w calls)
calls_whole [] w u whole = whole
calls_whole (call ∷ calls) w u whole =
    let g = step_goes w u call in
    calls_whole calls (step w call).world g.sessions.undone (goes_whole w (step w call).world g whole)

-- and so does the boot loop
pub boot_whole : (w : World) (order : BootOrder) (mounts : Mounts) → Lawful w → IsWhole (boot_world w order mounts)
boot_whole w order mounts law =
    let v = started w order mounts in
    let after = boot_world w order mounts in
    let loops = boot_loops w order mounts (lawful_undone w law) in
    goes_whole v after (record {
      active = loops.active;
      image = loops.image;
      sessions = lasts_goes v.sessions
          after.sessions loops.sessions loops.undone;
    }) (started_whole w order mounts law)

pub wholeness : Wholeness
wholeness w order mounts calls law = calls_whole calls (boot_world w order mounts)
    (boot_loops w order mounts (lawful_undone w law)).undone (boot_whole w order mounts law)

-- The active set has each name once

in_index : {X : Type 0} (x : X) (xs : List X) → In x xs → (d : X)
    → (i : ℕ) × (i < length xs) × (slice_index_or xs i d ≡ x)
in_index x [] h d = absurd h
in_index x (y ∷ ys) (inl e) d = (0, omega arith, e)
in_index x (y ∷ ys) (inr h) d = let (i, l, e) = in_index x ys h d in (suc i, omega (arith, l), e)

one_module : (ms : List Package) → AllPairs (λ m n. m.name ≢ n.name) ms → (m n : Package) → In m ms → In n ms
    → m.name ≡ n.name → m ≡ n
one_module ms apart m n h k e =
    let (i, l, f) = in_index m ms h m in
    let (j, o, g) = in_index n ms k m in
    elim (cases_order i j) [
      | inl s ↦ sym f ∙ ap (λ (i : ℕ). slice_index_or ms i m) s ∙ g
      | inr p ↦ elim p [
        | inl s ↦ absurd (apart i j m s o (ap (λ (m : Package). m.name) f ∙ e ∙ ap (λ (m : Package). m.name) (sym g)))
        | inr s ↦ absurd (apart j i m s l (ap (λ (m : Package). m.name) g ∙ sym e
            ∙ ap (λ (m : Package). m.name) (sym f)))
      ]
    ]

calls_active : (calls : List Call) (w : World) → Undone w.sessions → (called w calls).active ≡ w.active
calls_active [] w u = refl
calls_active (call ∷ calls) w u = let g = step_goes w u call in calls_active calls
    (step w call).world g.sessions.undone ∙ g.active

module _ (w : World) (order : BootOrder) (mounts : Mounts) where
  abbrev v : World
  v = started w order mounts

  started_once : IsOrder order → AreOnce v.active
  started_once is p q h i e =
      let (m, j, f) = chosen_back mounts w.modules v.sessions order.image.modules p h in
      let (n, k, g) = chosen_back mounts w.modules v.sessions order.image.modules q i in
      let same : m.name ≡ n.name = ap (λ (p : Pick). p.name) f ∙ e ∙ ap (λ (p : Pick). p.name) (sym g) in
      sym f ∙ ap (pick_of mounts w.modules v.sessions) (one_module order.image.modules is.image.names m n j k same) ∙ g

pub one_active : OneActive
one_active w order mounts calls law is =
    let loops = boot_loops w order mounts (lawful_undone w law) in
    subst AreOnce (sym (calls_active calls (boot_world w order mounts) loops.undone ∙ loops.active))
    (started_once w order mounts is)
