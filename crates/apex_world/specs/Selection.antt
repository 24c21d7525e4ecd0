-- Which module of a name works, and which a boot chooses: docs/boot.md, "Selection"
-- (AOSP's apexd.cpp, SelectApexForActivation).
use Rattle.std.specs.Prelude.{ℕ, ◌&&◌, ◌==◌, Bool, true, false, not, nat_lt, is_none, List, [], ◌∷◌, Option, Some, None, find, fold, if◌then◌else◌, ◌≡◌, refl, codes}
use Rattle.std.specs.List.{list_any}
use Rattle.std.specs.Option.{option_map}
use Rattle.std.specs.Ordering.{is_lt, nat_cmp}
use Rattle.std.specs.Cmp.Lexicographic.{slice_cmp}
use Rattle.std.specs.Str.{bytes_eq}
use Rattle.apex_base.specs.declared.numbers.SessionId.{SessionId}
use Rattle.apex_base.specs.declared.records.Record.{Record}
use Rattle.apex_base.specs.declared.records.Part.{Part}
use Rattle.apex_base.specs.declared.records.Pick.{Pick}
use Rattle.apex_base.specs.declared.records.Place.{Place}
use Rattle.apex_base.specs.declared.records.Place.TheVariants.{Data, Pre}
use Rattle.apex_base.specs.declared.records.Case.{Case}
use Rattle.apex_base.specs.declared.records.Case.TheVariants.{NotInImage, BelowPreinstalled, KeyDiffers, Unsound, NoMount}
use Rattle.apex_base.specs.declared.records.Cause.{Cause}
use Rattle.apex_base.specs.declared.records.Cause.TheVariants as causes
use Rattle.apex_base.specs.declared.records.Target.{Target}
use Rattle.apex_base.specs.declared.records.Target.TheVariants as targets
use Rattle.apex_base.specs.Held.{held}
use Rattle.apex_base.specs.Modules.{FileMap}
use Rattle.apex_world.specs.declared.modules.Package.{Package}
use Rattle.apex_world.specs.declared.world.Submission.{Submission}
use Rattle.apex_world.specs.Soundness.{is_sound, is_same_key}
use Rattle.std.specs.FinMap as fin

-- whether a module of this name, version and place mounts
abbrev pub Mounts : Type 0
Mounts = List ℕ → ℕ → Place → Bool

-- the module of a name among those of an image
abbrev pub preinstalled : List Package → List ℕ → Option Package
preinstalled modules name = find (λ m. bytes_eq m.name name) modules

-- the module that a part of a session submitted
abbrev pub submitted_by : List Submission → SessionId → ℕ → Option FileMap
submitted_by modules session part = option_map (λ s. s.content) (find (λ s. (s.session.0 == session.0) && (s.part == part)) modules)

-- why the preinstalled module doesn't work, by the first case that holds
abbrev pub preinstalled_case : Mounts → Package → Option Case
preinstalled_case mounts m = if not (is_sound m.content) then Some Unsound else (if mounts m.name m.version Pre then None else Some NoMount)

-- why a data module of a version doesn't work beside the preinstalled one
abbrev pub data_case : Mounts → FileMap → ℕ → Package → Option Case
data_case mounts given version m =
    if nat_lt version m.version then Some BelowPreinstalled
    else (if not (is_same_key given m.content) then Some KeyDiffers
    else (if not (is_sound given) then Some Unsound
    else (if mounts m.name version Data then None
    else Some NoMount)))

-- a module that nobody submitted is none
abbrev pub submitted_case : Mounts → Option FileMap → ℕ → Package → Option Case
submitted_case mounts None version m = Some Unsound
submitted_case mounts (Some given) version m = data_case mounts given version m

abbrev pub target_case : Mounts → List Submission → Target → Package → Option Case
target_case mounts modules targets.Preinstalled m = preinstalled_case mounts m
target_case mounts modules (targets.Module session part version) m = submitted_case mounts (submitted_by modules session part) version m

abbrev pub case_beside : Mounts → List Submission → Target → Option Package → Option Case
case_beside mounts modules target None = Some NotInImage
case_beside mounts modules target (Some m) = target_case mounts modules target m

-- why a part doesn't work with an image
abbrev pub case_of : Mounts → List Submission → List Package → Part → Option Case
case_of mounts modules image p = case_beside mounts modules p.target (preinstalled image p.name)

abbrev pub cause_or : List ℕ → Option Case → Option Cause → Option Cause
cause_or name None rest = rest
cause_or name (Some case) rest = Some (causes.Part name case)

-- why a session doesn't work: the case of its first part that doesn't
abbrev pub cause_of : Mounts → List Submission → List Package → List Part → Option Cause
cause_of mounts modules image [] = None
cause_of mounts modules image (p ∷ ps) = cause_or p.name (case_of mounts modules image p) (cause_of mounts modules image ps)

-- the preinstalled module where it works, else nothing: the name is missing
abbrev pub fallback : Mounts → Package → Option (ℕ × Place)
fallback mounts m = if is_none (preinstalled_case mounts m) then Some (m.version, Pre) else None

-- the held data module where it works, else the fallback
abbrev pub choice : Mounts → List Submission → Target → Package → Option (ℕ × Place)
choice mounts modules targets.Preinstalled m = fallback mounts m
choice mounts modules (targets.Module session part version) m = if is_none (submitted_case mounts (submitted_by modules session part) version m) then Some (version, Data) else fallback mounts m

-- what is chosen for the name of a preinstalled module
abbrev pub pick_of : Mounts → List Submission → List Record → Package → Pick
pick_of mounts modules sessions m = record { name = m.name; chosen = choice mounts modules (held sessions m.name) m }

-- a pick among others, after those of lesser names
abbrev pub with_pick : Pick → List Pick → List Pick
with_pick p [] = p ∷ []
with_pick p (q ∷ qs) = if is_lt (slice_cmp nat_cmp q.name p.name) then q ∷ with_pick p qs else p ∷ q ∷ qs

-- what is chosen for each name of the image, ascending by name
abbrev pub chosen : Mounts → List Submission → List Record → List Package → List Pick
chosen mounts modules sessions image = fold (λ picks m. with_pick (pick_of mounts modules sessions m) picks) [] image

abbrev pub is_same_place : Place → Place → Bool
is_same_place Data Data = true
is_same_place Data Pre = false
is_same_place Pre Data = false
is_same_place Pre Pre = true

-- all modules mount but those of a list
abbrev pub all_mount_but : List (Place × List ℕ × ℕ) → Mounts
all_mount_but modules name version place = not (list_any (λ m. is_same_place m.0 place && bytes_eq m.1 name && (m.2 == version)) modules)

-- Worked values: beside an image that has no module of the name, or one of a greater version

abbrev pub example : ℕ → Package
example version = record { name = codes "a"; version = version; content = fin.empty }

abbrev pub all_mount : Mounts
all_mount name version place = true

pub not_there : case_beside all_mount [] targets.Preinstalled None ≡ Some NotInImage
not_there = refl

pub too_old : data_case all_mount fin.empty 4 (example 5) ≡ Some BelowPreinstalled
too_old = refl
