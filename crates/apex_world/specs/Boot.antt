-- What a boot does, a definition a step: docs/boot.md (AOSP's apexd.cpp and apexd_session.cpp).
use Rattle.std.specs.Prelude.{ℕ, ◌&&◌, ◌==◌, Bool, is_some, List, [], ◌∷◌, ◌++◌, length, map, flat_map, Option, Some, None, if◌then◌else◌, ◌≡◌, refl, codes, true}
use Rattle.std.specs.List.{list_all}
use Rattle.std.specs.Option.{option_map}
use Rattle.std.specs.Str.{bytes_eq}
use Rattle.std.specs.FinMap as fin
use Rattle.apex_base.specs.declared.numbers.SessionId.{SessionId}
use Rattle.apex_base.specs.declared.records.Record.{Record}
use Rattle.apex_base.specs.declared.records.Cause.{Cause}
use Rattle.apex_base.specs.declared.records.Cause.TheVariants as causes
use Rattle.apex_base.specs.declared.records.RollbackState.{RollbackState}
use Rattle.apex_base.specs.declared.records.State.{State}
use Rattle.apex_base.specs.declared.records.State.TheVariants as state
use Rattle.apex_base.specs.Moves.{state_number}
use Rattle.apex_base.specs.Rollbacks.{given_up, not_enabled, no_longer, is_expired}
use Rattle.apex_base.specs.Sessions.{session_of}
use Rattle.apex_base.specs.Windows.{is_looping}
use Rattle.apex_world.specs.declared.calls.Changed.{Changed}
use Rattle.apex_world.specs.declared.calls.Image.{Image}
use Rattle.apex_world.specs.declared.calls.BootOrder.{BootOrder}
use Rattle.apex_world.specs.declared.calls.BootReply.{BootReply}
use Rattle.apex_world.specs.declared.world.Submission.{Submission}
use Rattle.apex_world.specs.Restore.{restored, of_image}
use Rattle.apex_world.specs.Selection.{Mounts, preinstalled, cause_of, chosen}
use Rattle.apex_world.specs.Trigger.{Triggered, eligible, triggered}
use Rattle.apex_world.specs.Watching.{watches_after}
use Rattle.apex_world.specs.World.{World, empty_world}
use Rattle.apex_base.specs.declared.numbers.Scale.TheVariants.{Small}

-- a session that ends in a state with a cause
abbrev pub ended : State → Cause → Record → Record
ended s cause r = record r { state = s; cause = Some cause }

-- 1. the boot is counted: the data as it stands is its era
abbrev pub counted : World → World
counted w = record w { eras = w.eras ++ w.contents ∷ [] }

-- 2. a revert that was asked for is completed
abbrev pub reverted_in : State → Record → Record
reverted_in state.RevertInProgress r = ended state.Reverted causes.Reverted r
reverted_in _ r = r

abbrev pub reverted : Record → Record
reverted r = reverted_in r.state r

-- 3. an activated session of another build is reverted
abbrev pub rebuilt_in : State → Bool → Record → Record
rebuilt_in state.Activated same r = if same then r else ended state.Reverted causes.OtherBuild r
rebuilt_in _ same r = r

abbrev pub is_same_build : Image → Record → Bool
is_same_build image r = bytes_eq r.print image.print

-- and a rollback of another build, or of a name that the image lacks, is deleted
abbrev pub keeps_rollback : Image → Record → Bool
keeps_rollback image r = is_same_build image r && list_all (λ p. is_some (preinstalled image.modules p.name)) r.parts

abbrev pub with_rollback : Option RollbackState → Record → Record
with_rollback rollback r = record r { rollback = rollback }

abbrev pub rebuilt : Image → Record → Record
rebuilt image r = with_rollback (if keeps_rollback image r then r.rollback else given_up r.rollback) (rebuilt_in r.state (is_same_build image r) r)

-- 4. a staged session of this build is activated in whole, or fails
abbrev pub activated_by : Option Cause → ℕ → Record → Record
activated_by None b r = record r { state = state.Activated; activation = b }
activated_by (Some cause) b r = ended state.ActivationFailed cause r

-- and an activated session stays so only while it works
abbrev pub kept_by : Option Cause → Record → Record
kept_by None r = r
kept_by (Some cause) r = ended state.Reverted cause r

abbrev pub activated_in : State → Bool → Option Cause → ℕ → Record → Record
activated_in state.Staged same cause b r = if same then activated_by cause b r else ended state.ActivationFailed causes.OtherBuild r
activated_in state.Activated same cause b r = kept_by cause r
activated_in _ same cause b r = r

abbrev pub activated : Mounts → List Submission → Image → ℕ → Record → Record
activated mounts modules image b r = activated_in r.state (is_same_build image r) (cause_of mounts modules image.modules r.parts) b r

-- what steps 2 to 4 of boot b make of a session; none of them looks at another one
abbrev pub booted : Mounts → List Submission → Image → ℕ → Record → Record
booted mounts modules image b r = activated mounts modules image b (rebuilt image (reverted r))

-- 5. a rollback isn't kept for a session that has failed, nor for longer than it lives
abbrev pub kept_in : State → Option RollbackState → Option RollbackState
kept_in state.ActivationFailed rollback = not_enabled rollback
kept_in state.Reverted rollback = not_enabled rollback
kept_in _ rollback = rollback

abbrev pub aged : ℕ → Record → Record
aged t r = with_rollback (if is_expired t r then no_longer r.rollback else kept_in r.state r.rollback) r

-- what steps 2 to 5 of boot b make of a session
abbrev pub become : Mounts → List Submission → BootOrder → ℕ → Record → Record
become mounts modules order b r = aged order.time (booted mounts modules order.image b r)

-- and the data and the watches follow
abbrev pub settled : Mounts → BootOrder → World → World
settled mounts order w = record w {
  sessions = map (become mounts w.modules order (length w.eras)) w.sessions;
  contents = of_image order.image (restored (become mounts w.modules order (length w.eras)) w.eras w.sessions w.contents);
  watches = watches_after order w.watches;
}

-- 6. the active set is what is chosen now
abbrev pub selected : Mounts → Image → World → World
selected mounts image w = record w { active = chosen mounts w.modules w.sessions image.modules }

-- 7. the image runs, the clock stands at the boot's moment, and no failure is counted
abbrev pub running : BootOrder → World → World
running order w = record w {
  image = Some order.image;
  observers = order.observers;
  clock = order.time;
  failures = fin.empty;
  moments = w.moments ++ order.time ∷ [];
}

-- the world before anybody looks for a boot loop
abbrev pub started : World → BootOrder → Mounts → World
started w order mounts = running order (selected mounts order.image (settled mounts order (counted w)))

-- a boot loop: every observer may act, for every rollback
abbrev pub loop_trigger : BootOrder → List Record → Triggered
loop_trigger order sessions = triggered sessions order.image.print (eligible sessions) order.observers

abbrev pub boot_loop : BootOrder → World → Option Triggered
boot_loop order w = if is_looping order.time w.moments then Some (loop_trigger order w.sessions) else None

-- the boots that led to it are forgotten
abbrev pub after_loop : World → Option Triggered → World
after_loop w None = w
after_loop w (Some t) = record w { sessions = t.sessions; moments = [] }

-- the world after a boot
abbrev pub boot_world : World → BootOrder → Mounts → World
boot_world w order mounts = let after = started w order mounts in after_loop after (boot_loop order after)

-- a session is reported where its state changed
abbrev pub changed_to : Record → Record → List Changed
changed_to old new = if state_number old.state == state_number new.state then [] else record { id = new.id; state = new.state; cause = new.cause } ∷ []

abbrev pub changed_in : Record → Option Record → List Changed
changed_in old None = []
changed_in old (Some new) = changed_to old new

-- the sessions that there were and whose state is another, ascending by id
abbrev pub changes : List Record → List Record → List Changed
changes before after = flat_map (λ r. changed_in r (session_of after r.id)) before

-- who acted in a boot loop, and the sessions that it made
abbrev pub told_loop : Triggered → Option (List ℕ) × List SessionId
told_loop t = (t.observer, t.ids)

abbrev pub boot_reply : World → BootOrder → Mounts → BootReply
boot_reply w order mounts = let after = boot_world w order mounts in record {
  number = length after.eras;
  changes = changes w.sessions after.sessions;
  active = after.active;
  boot_loop = option_map told_loop (boot_loop order (started w order mounts));
}

-- Worked values: the fifth boot without a module, a second after the first: it is reported, and the moments are forgotten

abbrev pub example_order : ℕ → BootOrder
example_order t = record { scale = Small; image = record { print = codes "P"; modules = [] }; observers = []; time = t }

abbrev pub four_boots : World
four_boots = record (empty_world Small) { moments = 0 ∷ 250 ∷ 500 ∷ 750 ∷ [] }

pub fifth_boot : (boot_reply four_boots (example_order 1000) (λ name version place. true)).boot_loop ≡ Some (None, [])
fifth_boot = refl

pub forgotten : (boot_world four_boots (example_order 1000) (λ name version place. true)).moments ≡ []
forgotten = refl

pub too_late : (boot_world four_boots (example_order 600001) (λ name version place. true)).moments ≡ 0 ∷ 250 ∷ 500 ∷ 750 ∷ 600001 ∷ []
too_late = refl
