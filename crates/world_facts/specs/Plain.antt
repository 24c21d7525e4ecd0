-- Worlds of plain sessions alone: no rollback, no data, no watch and no observer. In these a success and a boot are
-- less than in others: what is left of them is defined here, and a lemma says that it is the same (`proofs/PlainLemmas`).
use Rattle.std.specs.Prelude.{◌≡◌, ℕ, List, [], ◌∷◌, ◌++◌, length, map, flat_map, Option, Some, None, if◌then◌else◌}
use Rattle.std.specs.FinMap as fin
use Rattle.apex_base.specs.declared.numbers.SessionId.{SessionId}
use Rattle.apex_base.specs.declared.records.Kind.TheVariants.{Plain}
use Rattle.apex_base.specs.declared.records.Record.{Record}
use Rattle.apex_base.specs.Members.{In}
use Rattle.apex_base.specs.Sessions.{Ascend}
use Rattle.apex_base.specs.Windows.{is_looping}
use Rattle.apex_world.specs.declared.calls.BootOrder.{BootOrder}
use Rattle.apex_world.specs.declared.calls.BootReply.{BootReply}
use Rattle.apex_world.specs.declared.calls.Changed.{Changed}
use Rattle.apex_world.specs.declared.calls.Image.{Image}
use Rattle.apex_world.specs.declared.world.Submission.{Submission}
use Rattle.apex_world.specs.Boot.{counted, booted, selected, running, changed_to}
use Rattle.apex_world.specs.Selection.{Mounts}
use Rattle.apex_world.specs.World.{World}

-- a session that was submitted without a rollback
pub record IsPlainSession (r : Record) : Type 0 where
  pub kind : r.kind ≡ Plain
  pub rollback : r.rollback ≡ None

-- sessions ascend by id, and none has a rollback; nobody keeps data, watches or is registered
pub record IsPlain (w : World) : Type 0 where
  pub ascend : Ascend w.sessions
  pub sessions : (r : Record) → In r w.sessions → IsPlainSession r
  pub contents : w.contents ≡ fin.empty
  pub watches : w.watches ≡ fin.empty
  pub observers : w.observers ≡ []

-- Boots without observers

-- steps 2 to 4 of a boot, of all sessions
abbrev pub plain_settled : Mounts → Image → World → World
plain_settled mounts image w = record w { sessions = map (booted mounts w.modules image (length w.eras)) w.sessions }

abbrev pub plain_started : World → BootOrder → Mounts → World
plain_started w order mounts = running order (selected mounts order.image (plain_settled mounts order.image (counted w)))

-- the fifth boot within ten minutes forgets the moments; nobody acts
abbrev pub moments_left : ℕ → List ℕ → List ℕ
moments_left t moments = if is_looping t moments then [] else moments

abbrev pub plain_boot_world : World → BootOrder → Mounts → World
plain_boot_world w order mounts = record (plain_started w order mounts) { moments = moments_left order.time (w.moments ++ order.time ∷ []) }

-- the sessions whose state a boot of this number changes
abbrev pub plain_changes : Mounts → List Submission → Image → ℕ → List Record → List Changed
plain_changes mounts modules image b sessions = flat_map (λ r. changed_to r (booted mounts modules image b r)) sessions

abbrev pub plain_loop : ℕ → List ℕ → Option (Option (List ℕ) × List SessionId)
plain_loop t moments = if is_looping t moments then Some (None, []) else None

abbrev pub plain_boot_reply : World → BootOrder → Mounts → BootReply
plain_boot_reply w order mounts = let after = plain_started w order mounts in record {
  number = length after.eras;
  changes = plain_changes mounts w.modules order.image (length after.eras) w.sessions;
  active = after.active;
  boot_loop = plain_loop order.time (w.moments ++ order.time ∷ []);
}
