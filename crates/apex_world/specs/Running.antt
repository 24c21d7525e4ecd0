-- Which worlds calls meet: those that a boot led to, and calls after it.
use Rattle.std.specs.Prelude.{◌≡◌, ℕ, ◌≤◌, ◌||◌, Bool, true, false, is_some, List, Some, [], ◌∷◌, map, refl, codes, None}
use Rattle.std.specs.List.{list_any}
use Rattle.std.specs.Str.{bytes_eq}
use Rattle.std.specs.FinMap as fin
use Rattle.apex_base.specs.declared.numbers.Scale.TheVariants.{Small}
use Rattle.apex_base.specs.declared.records.Kind.TheVariants.{WithRollback}
use Rattle.apex_base.specs.declared.records.Record.{Record}
use Rattle.apex_base.specs.declared.records.RollbackState.TheVariants.{Available}
use Rattle.apex_base.specs.declared.records.State.{State}
use Rattle.apex_base.specs.declared.records.State.TheVariants as state
use Rattle.apex_base.specs.Members.{In, EachPair}
use Rattle.apex_base.specs.Sessions.{names}
use Rattle.apex_base.specs.Tables.{value_of}
use Rattle.apex_world.specs.Bounds.{can_be_rolled_back, is_ready_rollback}
use Rattle.apex_world.specs.Lawful.{Lawful}
use Rattle.apex_world.specs.Report.{commit, failures_of}
use Rattle.apex_world.specs.Submit.{in_running}
use Rattle.apex_world.specs.World.{World, empty_world}

abbrev pub is_activated : State → Bool
is_activated state.Activated = true
is_activated _ = false

-- a session whose names the running image has
abbrev pub is_of_image : Record → Bool
is_of_image r = is_activated r.state || (can_be_rolled_back r || is_ready_rollback r)

-- the running image has the name
abbrev pub runs : World → List ℕ → Bool
runs w name = is_some (in_running w.image name)

abbrev pub is_registered : World → List ℕ → Bool
is_registered w observer = list_any (λ o. bytes_eq o.name observer) w.observers

pub record Running (w : World) : Type 0 where
  pub lawful : Lawful w
  -- an image runs, so that what a commit makes has a fingerprint
  pub image : is_some w.image ≡ true
  pub sessions : (r : Record) (name : List ℕ) → In r w.sessions → is_of_image r ≡ true → names name r ≡ true → runs w name ≡ true
  pub contents : (name : List ℕ) → is_some (fin.get w.contents name) ≡ true → runs w name ≡ true
  pub watches : (observer name : List ℕ) (end : ℕ) → value_of w.watches observer name ≡ Some end → runs w name ≡ true
  pub observers : (observer name : List ℕ) (end : ℕ) → value_of w.watches observer name ≡ Some end → is_registered w observer ≡ true
  -- counted failures stand in their order, none after the clock
  pub sorted : (name : List ℕ) → EachPair (λ m n. m ≤ n) (failures_of w.failures name)
  pub past : (name : List ℕ) (m : ℕ) → In m (failures_of w.failures name) → m ≤ w.clock

-- Worked values: the clause on the image is needed. A session without parts that can be rolled back, and no image: the
-- world is lawful, and a commit would make a session whose fingerprint is none

abbrev pub without_parts : Record
without_parts = record {
  id = record { 0 = 1 };
  children = [];
  kind = WithRollback;
  parts = [];
  print = codes "P";
  state = state.Success;
  cause = None;
  activation = 1;
  rollback = Some Available;
  moment = 0;
}

abbrev pub without_image : World
without_image = record (empty_world Small) { sessions = without_parts ∷ []; eras = fin.empty ∷ [] }

pub makes_no_fingerprint : map (λ r. r.print) (commit without_image (record { 0 = 1 })).world.sessions ≡ codes "P" ∷ [] ∷ []
makes_no_fingerprint = refl
