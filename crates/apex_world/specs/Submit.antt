-- Which submits are refused, and why: docs/calls.md, "Submit". A refusal is a definition of its own, in the order
-- in which they are judged.
use Rattle.std.specs.Prelude.{ℕ, ◌+◌, ◌==◌, ◌&&◌, ◌||◌, Bool, true, false, nat_le, nat_lt, is_some, List, [], ◌∷◌, ◌++◌, length, Option, Some, None, Result, Ok, Err, find, option_and_then, if◌then◌else◌, ◌≡◌, refl}
use Rattle.std.specs.List.{list_any}
use Rattle.std.specs.Option.{option_map}
use Rattle.std.specs.Str.{bytes_eq}
use Rattle.apex_base.specs.declared.numbers.SessionId.{SessionId}
use Rattle.apex_base.specs.declared.fault.ModuleFault.{ModuleFault}
use Rattle.apex_base.specs.declared.records.Kind.{Kind}
use Rattle.apex_base.specs.declared.records.Kind.TheVariants.{Plain, WithRollback}
use Rattle.apex_base.specs.declared.records.Part.{Part}
use Rattle.apex_base.specs.declared.records.Pick.{Pick}
use Rattle.apex_base.specs.declared.records.Record.{Record}
use Rattle.apex_base.specs.declared.records.RollbackState.{RollbackState}
use Rattle.apex_base.specs.declared.records.RollbackState.TheVariants.{Enabling}
use Rattle.apex_base.specs.declared.records.State.TheVariants as state
use Rattle.apex_base.specs.declared.records.Target.TheVariants as targets
use Rattle.apex_base.specs.declared.refusal.Refusal.{Refusal}
use Rattle.apex_base.specs.declared.refusal.Refusal.TheVariants.{IdRange, IdTaken, Parts, Module, TwiceNamed, NotPreinstalled, KeyDiffers, Overlap, Downgrade, SessionsFull, StoreFull}
use Rattle.apex_base.specs.Commit.{is_caller_id}
use Rattle.apex_base.specs.Held.{is_unfinished}
use Rattle.apex_base.specs.Modules.{FileMap}
use Rattle.apex_base.specs.Numbers.{scale_units, scale_file_weight}
use Rattle.apex_base.specs.Results.{◌>>=◌}
use Rattle.apex_manifest.specs.declared.manifest.Manifest.{Manifest}
use Rattle.apex_world.specs.declared.calls.Image.{Image}
use Rattle.apex_world.specs.declared.modules.Package.{Package}
use Rattle.apex_world.specs.declared.world.Submission.{Submission}
use Rattle.apex_world.specs.Limits.{units, weight}
use Rattle.apex_world.specs.Selection.{preinstalled}
use Rattle.apex_world.specs.Sessions.{has_id, names, with_session}
use Rattle.apex_world.specs.Soundness.{checked, is_same_key}
use Rattle.apex_world.specs.World.{World, empty_world}
use Rattle.apex_base.specs.declared.numbers.Scale.TheVariants.{Small}

-- 1. the first id that no caller may give

abbrev pub id_range : List SessionId → Option Refusal
id_range [] = None
id_range (id ∷ ids) = if is_caller_id id then id_range ids else Some (IdRange id)

-- 2. the first id that a session or a child ever had, or that stands earlier in the call

abbrev pub is_taken : List Record → SessionId → Bool
is_taken sessions id = list_any (has_id id) sessions

abbrev pub id_taken : List Record → List SessionId → List SessionId → Option Refusal
id_taken sessions earlier [] = None
id_taken sessions earlier (id ∷ ids) =
    if is_taken sessions id || list_any (λ e. e.0 == id.0) earlier then Some (IdTaken id) else id_taken sessions (id ∷ earlier) ids

-- 3. no part, more than 16, more than one without children, or another number than that of the children

abbrev pub is_count : List SessionId → ℕ → Bool
is_count [] parts = parts == 1
is_count (child ∷ children) parts = (length (child ∷ children) == parts) && nat_le parts 16

abbrev pub wrong_count : List SessionId → List FileMap → Option Refusal
wrong_count children parts = if is_count children (length parts) then None else Some (Parts (length parts))

-- 4. the first part, counted from 1, whose module isn't sound; else each has a name and a version

abbrev pub package_of : ℕ → FileMap → Result Manifest ModuleFault → Result Package Refusal
package_of part m (Ok manifest) = Ok (record { name = manifest.name; version = manifest.version; content = m })
package_of part m (Err fault) = Err (Module part fault)

abbrev pub packages_from : ℕ → List FileMap → Result (List Package) Refusal
packages_from part [] = Ok []
packages_from part (m ∷ ms) = do
  p ← package_of part m (checked m)
  ps ← packages_from (part + 1) ms
  Ok (p ∷ ps)

-- 5. the first part whose name an earlier part has

abbrev pub twice_named : List Package → List Package → Option Refusal
twice_named earlier [] = None
twice_named earlier (p ∷ ps) = if list_any (λ e. bytes_eq e.name p.name) earlier then Some (TwiceNamed p.name) else twice_named (p ∷ earlier) ps

-- 6 to 9 are each reported of the first part that they hold of

abbrev pub or_else : Option Refusal → Option Refusal → Option Refusal
or_else None next = next
or_else (Some refusal) next = Some refusal

abbrev pub first_of : (Package → Option Refusal) → List Package → Option Refusal
first_of judged [] = None
first_of judged (p ∷ ps) = or_else (judged p) (first_of judged ps)

-- 6. the running image has no module of this name

abbrev pub in_running : Option Image → List ℕ → Option Package
in_running image name = option_and_then (λ i. preinstalled i.modules name) image

abbrev pub not_preinstalled : Option Image → Package → Option Refusal
not_preinstalled image p = if is_some (in_running image p.name) then None else Some (NotPreinstalled p.name)

-- 7. its module has another key

abbrev pub differs_from : Package → Option Package → Option Refusal
differs_from p None = None
differs_from p (Some m) = if is_same_key p.content m.content then None else Some (KeyDiffers p.name)

abbrev pub key_differs : Option Image → Package → Option Refusal
key_differs image p = differs_from p (in_running image p.name)

-- 8. an unfinished session names it

abbrev pub overlaps : Package → Option Record → Option Refusal
overlaps p None = None
overlaps p (Some r) = Some (Overlap p.name r.id)

abbrev pub overlap : List Record → Package → Option Refusal
overlap sessions p = overlaps p (find (λ r. is_unfinished r.state && names p.name r) sessions)

-- 9. the active module is newer, or the preinstalled one where none is active

abbrev pub active_version : List Pick → List ℕ → Option ℕ
active_version active name = option_and_then (λ p. option_map (λ c. c.0) p.chosen) (find (λ p. bytes_eq p.name name) active)

abbrev pub preinstalled_version : Option Image → List ℕ → Option ℕ
preinstalled_version image name = option_map (λ m. m.version) (in_running image name)

abbrev pub or_version : Option ℕ → Option ℕ → Option ℕ
or_version None other = other
or_version (Some version) other = Some version

abbrev pub below : Package → Option ℕ → Option Refusal
below p None = None
below p (Some version) = if nat_lt p.version version then Some (Downgrade p.name version p.version) else None

abbrev pub downgrade : List Pick → Option Image → Package → Option Refusal
downgrade active image p = below p (or_version (active_version active p.name) (preinstalled_version image p.name))

-- The new session

-- the parts of session id, the first of which is part k
abbrev pub parts_from : SessionId → ℕ → List Package → List Part
parts_from id k [] = []
parts_from id k (p ∷ ps) = record { name = p.name; version = Some p.version; target = targets.Module id k p.version } ∷ parts_from id (k + 1) ps

-- their modules
abbrev pub submissions_from : SessionId → ℕ → List Package → List Submission
submissions_from id k [] = []
submissions_from id k (p ∷ ps) = record { session = id; part = k; content = p.content } ∷ submissions_from id (k + 1) ps

abbrev pub kind_of : Bool → Kind
kind_of true = WithRollback
kind_of false = Plain

abbrev pub rollback_of : Bool → Option RollbackState
rollback_of true = Some Enabling
rollback_of false = None

-- the fingerprint of the running image
abbrev pub image_print : Option Image → List ℕ
image_print None = []
image_print (Some image) = image.print

-- a new session of a build
abbrev pub new_session : SessionId → List SessionId → Bool → List Package → List ℕ → Record
new_session id children rollback parts print = record {
  id = id;
  children = children;
  kind = kind_of rollback;
  parts = parts_from id 0 parts;
  print = print;
  state = state.Verified;
  cause = None;
  activation = 0;
  rollback = rollback_of rollback;
  moment = 0;
}

-- the world with it
abbrev pub entered : World → SessionId → List SessionId → Bool → List Package → World
entered w id children rollback parts = record w {
  sessions = with_session (new_session id children rollback parts (image_print w.image)) w.sessions;
  modules = w.modules ++ submissions_from id 0 parts;
}

-- 10 and 11. that world has more units, or a greater weight, than its scale allows

abbrev pub sessions_full : World → Option Refusal
sessions_full w = if nat_le (units w) (scale_units w.scale) then None else Some (SessionsFull (units w))

abbrev pub store_full : World → Option Refusal
store_full w = if nat_le (weight w) (scale_file_weight w.scale) then None else Some (StoreFull (weight w))

-- A submit

-- going on, where nothing refuses
abbrev pub pass : Option Refusal → Result (Unit {0}) Refusal
pass None = Ok tt
pass (Some refusal) = Err refusal

-- the parts with their names and versions, or the first refusal of 1 to 9
abbrev pub admitted : World → SessionId → List SessionId → List FileMap → Result (List Package) Refusal
admitted w id children parts = do
  in_range ← pass (id_range (id ∷ children))
  free ← pass (id_taken w.sessions [] (id ∷ children))
  counted ← pass (wrong_count children parts)
  packages ← packages_from 1 parts
  once ← pass (twice_named [] packages)
  known ← pass (first_of (not_preinstalled w.image) packages)
  signed ← pass (first_of (key_differs w.image) packages)
  alone ← pass (first_of (overlap w.sessions) packages)
  newer ← pass (first_of (downgrade w.active w.image) packages)
  Ok packages

-- the world where it is within its scale, or the first refusal of 10 and 11
abbrev pub within_scale : World → Result World Refusal
within_scale w = do
  few ← pass (sessions_full w)
  light ← pass (store_full w)
  Ok w

-- the world with the new session, or why there is none
abbrev pub submitted : World → SessionId → List SessionId → Bool → List FileMap → Result World Refusal
submitted w id children rollback parts = admitted w id children parts >>= λ packages. within_scale (entered w id children rollback packages)

-- Worked values: an id that no caller may give is refused before the number of parts

abbrev pub submit_of : ℕ → List FileMap → Result World Refusal
submit_of id parts = submitted (empty_world Small) (record { 0 = id }) [] false parts

pub no_id : submit_of 0 [] ≡ Err (IdRange (record { 0 = 0 }))
no_id = refl

pub no_parts : submit_of 1 [] ≡ Err (Parts 0)
no_parts = refl
