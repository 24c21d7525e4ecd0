-- What a boot makes of sessions and of the active set, by rows: docs/rows.md, "After a boot". A module that is kept is there
-- and is sound, so a boot looks at its key alone.
use Rattle.std.specs.Prelude.{◌≡◌, ℕ, ◌+◌, true, not, nat_lt, is_none, codes, List, [], ◌∷◌, ◌++◌, map, flat_map, fold, Option, Some, None, if◌then◌else◌, refl}
use Rattle.std.specs.FinMap as fin
use Rattle.apex_base.specs.declared.numbers.SessionId.{SessionId}
use Rattle.apex_base.specs.declared.records.Case.{Case}
use Rattle.apex_base.specs.declared.records.Case.TheVariants.{NotInImage, BelowPreinstalled, KeyDiffers, NoMount}
use Rattle.apex_base.specs.declared.records.Cause.{Cause}
use Rattle.apex_base.specs.declared.records.Part.{Part}
use Rattle.apex_base.specs.declared.records.Pick.{Pick}
use Rattle.apex_base.specs.declared.records.Place.{Place}
use Rattle.apex_base.specs.declared.records.Place.TheVariants.{Data}
use Rattle.apex_base.specs.declared.records.Record.{Record}
use Rattle.apex_base.specs.declared.records.Target.{Target}
use Rattle.apex_base.specs.declared.records.Target.TheVariants as targets
use Rattle.apex_base.specs.Held.{held}
use Rattle.apex_base.specs.Keys.{Key, FileOf, IsKey, RowMap, key_text}
use Rattle.apex_base.specs.Windows.{last_five}
use Rattle.apex_world.specs.declared.calls.BootOrder.{BootOrder}
use Rattle.apex_world.specs.declared.calls.BootReply.{BootReply}
use Rattle.apex_world.specs.declared.modules.Package.{Package}
use Rattle.apex_world.specs.Boot.{reverted, rebuilt, activated_in, is_same_build, aged, changed_to, boot_world, boot_reply}
use Rattle.world_laws.specs.Invariance.{IsOrderOf}
use Rattle.apex_world.specs.Lawful.{Lawful}
use Rattle.world_facts.specs.Plain.{moments_left, plain_loop}
use Rattle.apex_world.specs.Rows.{rows, row_at}
use Rattle.world_laws.specs.RowsBooted.{booted_row}
use Rattle.apex_world.specs.Selection.{Mounts, preinstalled, preinstalled_case, cause_or, fallback, with_pick}
use Rattle.apex_world.specs.Soundness.{key_of, is_same_key_at}
use Rattle.apex_world.specs.World.{World, boots}

-- Sessions

-- the key of the module that a part of a session submitted
abbrev pub key_in : RowMap → SessionId → ℕ → Option (List ℕ)
key_in rows session part = fin.get rows (key_text (FileOf session part (codes "apex_pubkey")))

-- why a module that is kept doesn't work beside the preinstalled one, by its key
abbrev pub kept_case : Mounts → Option (List ℕ) → ℕ → Package → Option Case
kept_case mounts key version m =
    if nat_lt version m.version then Some BelowPreinstalled
    else (if not (is_same_key_at key (key_of m.content)) then Some KeyDiffers
    else (if mounts m.name version Data then None
    else Some NoMount))

abbrev pub target_case_in : Mounts → RowMap → Target → Package → Option Case
target_case_in mounts rows targets.Preinstalled m = preinstalled_case mounts m
target_case_in mounts rows (targets.Module session part version) m = kept_case mounts (key_in rows session part) version m

abbrev pub case_in : Mounts → RowMap → Target → Option Package → Option Case
case_in mounts rows target None = Some NotInImage
case_in mounts rows target (Some m) = target_case_in mounts rows target m

-- why a session doesn't work: the case of its first part that doesn't
abbrev pub cause_in : Mounts → RowMap → List Package → List Part → Option Cause
cause_in mounts rows image [] = None
cause_in mounts rows image (p ∷ ps) = cause_or p.name (case_in mounts rows p.target (preinstalled image p.name)) (cause_in mounts rows image ps)

-- what steps 2 to 5 of boot b make of a session
abbrev pub activated_by_rows : Mounts → RowMap → BootOrder → ℕ → Record → Record
activated_by_rows mounts rows order b r = activated_in r.state (is_same_build order.image r) (cause_in mounts rows order.image.modules r.parts) b r

abbrev pub become_in : Mounts → RowMap → BootOrder → ℕ → Record → Record
become_in mounts rows order b r = aged order.time (activated_by_rows mounts rows order b (rebuilt order.image (reverted r)))

abbrev pub sessions_in : Mounts → RowMap → BootOrder → ℕ → List Record → List Record
sessions_in mounts rows order b sessions = map (become_in mounts rows order b) sessions

-- The active set

abbrev pub choice_in : Mounts → RowMap → Target → Package → Option (ℕ × Place)
choice_in mounts rows targets.Preinstalled m = fallback mounts m
choice_in mounts rows (targets.Module session part version) m =
    if is_none (kept_case mounts (key_in rows session part) version m) then Some (version, Data) else fallback mounts m

abbrev pub pick_in : Mounts → RowMap → List Record → Package → Pick
pick_in mounts rows sessions m = record { name = m.name; chosen = choice_in mounts rows (held sessions m.name) m }

abbrev pub chosen_in : Mounts → RowMap → List Record → List Package → List Pick
chosen_in mounts rows sessions image = fold (λ picks m. with_pick (pick_in mounts rows sessions m) picks) [] image

-- what boot b chooses
abbrev pub active_in : Mounts → RowMap → BootOrder → ℕ → List Record → List Pick
active_in mounts rows order b sessions = chosen_in mounts rows (sessions_in mounts rows order b sessions) order.image.modules

-- The reply

-- the last moments, and this boot's
abbrev pub with_moment : List ℕ → BootOrder → List ℕ
with_moment recent order = recent ++ order.time ∷ []

abbrev pub reply_in : Mounts → RowMap → BootOrder → ℕ → List Record → List ℕ → BootReply
reply_in mounts rows order b sessions recent = record {
  number = b;
  changes = flat_map (λ r. changed_to r (become_in mounts rows order b r)) sessions;
  active = active_in mounts rows order b sessions;
  boot_loop = plain_loop order.time (with_moment recent order);
}

-- each key of the rows is that of something
abbrev pub HasTypedKeys : RowMap → Type 0
HasTypedKeys rows = (q v : List ℕ) → fin.get rows q ≡ Some v → (k : Key) × IsKey k × (q ≡ key_text k)

-- the row at a key after boot b without observers
abbrev pub row_in : Mounts → RowMap → BootOrder → ℕ → List Record → List ℕ → Key → Option (List ℕ)
row_in mounts rows order b sessions recent k =
    booted_row rows sessions (sessions_in mounts rows order b sessions) order b (moments_left order.time (with_moment recent order)) k

-- a boot goes by the rows, the sessions and the last five moments
pub record GoesByRows (w : World) (order : BootOrder) (mounts : Mounts) : Type 0 where
  pub reply : boot_reply w order mounts ≡ reply_in mounts (rows w) order (boots w + 1) w.sessions (last_five w.moments)
  pub sessions : (boot_world w order mounts).sessions ≡ sessions_in mounts (rows w) order (boots w + 1) w.sessions
  pub active : (boot_world w order mounts).active ≡ active_in mounts (rows w) order (boots w + 1) w.sessions
  pub moments : last_five (boot_world w order mounts).moments ≡ last_five (moments_left order.time (with_moment (last_five w.moments) order))
  pub number : boots (boot_world w order mounts) ≡ boots w + 1
  pub image : (boot_world w order mounts).image ≡ Some order.image
  pub observers : (boot_world w order mounts).observers ≡ []
  pub scale : (boot_world w order mounts).scale ≡ w.scale
  pub clock : (boot_world w order mounts).clock ≡ order.time
  pub failures : (boot_world w order mounts).failures ≡ fin.empty
  pub row : (k : Key) → IsKey k → row_at (boot_world w order mounts) k
      ≡ row_in mounts (rows w) order (boots w + 1) w.sessions (last_five w.moments) k
  -- and rows that have these are those of the world
  pub map : (after : RowMap) → HasTypedKeys after
      → ((k : Key) → IsKey k → fin.get after (key_text k) ≡ row_in mounts (rows w) order (boots w + 1) w.sessions (last_five w.moments) k)
      → after ≡ rows (boot_world w order mounts)

-- so does each without observers
abbrev pub BootsGoByRows : Type 0
BootsGoByRows = (w : World) → Lawful w → (order : BootOrder) → IsOrderOf w order → order.observers ≡ [] → (mounts : Mounts) → GoesByRows w order mounts

-- Worked value: a module that is older than the preinstalled one

abbrev pub example : Package
example = record { name = codes "a"; version = 5; content = fin.empty }

pub too_old : kept_case (λ name version place. true) None 4 example ≡ Some BelowPreinstalled
too_old = refl
