-- The world that rows open to is lawful if and only if it is so part by part: `lawful_whole` and the lemmas after it.
use Rattle.std.proofs.Common.{◌≡◌, ℕ, sym, subst, arith}
use Rattle.std.proofs.lemmas.List.FromFn.{length-map-range_with_len}
use Rattle.apex_base.specs.declared.numbers.Scale.{Scale}
use Rattle.apex_base.specs.Keys.{RowMap}
use Rattle.apex_world.specs.Lawful.{Lawful, HaveActivations}
use Rattle.apex_world.specs.Opened.{activated_at, era_of, opened, opened_boots, opened_sessions}
use Rattle.apex_world.specs.World.{World, boots}
use Rattle.row_check.specs.BadRows.{opened_rows}
use Rattle.session_check.specs.LawfulSessions.{AreLawfulSessions}
use Rattle.world_check.specs.LawfulParts.{HasLawfulCounts, HasLawfulData, HasLawfulModules, HasLawfulWatches}
use Rattle.world_check.proofs.OpenedRanges.{opened_low, opened_moment, opened_record}
use Rattle.world_check.proofs.OpenedTableRanges.{contents_table, era_table, watches_table}

-- a lawful world is lawful in each part

pub modules_of : (w : World) → Lawful w → HasLawfulModules w
modules_of w law = record { ranges = law.ranges.modules; modules = law.modules; weight = law.bounds.weight }

pub data_of : (w : World) → Lawful w → HasLawfulData w
data_of w law = record { contents = law.bounds.contents; eras = law.bounds.eras }

pub watches_of : (w : World) → Lawful w → HasLawfulWatches w
watches_of w law = record { ends = law.ranges.ends; few = law.bounds.watches }

pub counts_of : (w : World) → Lawful w → HasLawfulCounts w
counts_of w law = record {
  units = law.bounds.units;
  undoable = law.bounds.undoable;
  available = law.bounds.available;
  waiting = law.bounds.waiting;
  begun = law.begun;
}

sessions_in : (w : World) → Lawful w → AreLawfulSessions (boots w) w.sessions
sessions_in w law = record {
  ids = law.ids;
  parts = law.parts;
  alone = law.alone;
  activations = law.activations;
  causes = law.causes;
  rollbacks = law.rollbacks;
  undone = law.undone;
}

module _ (m : RowMap) (scale : Scale) where
  -- there are as many eras as boots
  pub opened_count : boots (opened m scale) ≡ (opened_boots m).0
  opened_count =
      length-map-range_with_len (λ (b : ℕ). era_of m (activated_at b (opened_sessions m))) 1 (opened_boots m).0

  pub sessions_of : Lawful (opened m scale) → AreLawfulSessions (opened_boots m).0 (opened_sessions m)
  sessions_of law = subst (λ (n : ℕ). AreLawfulSessions n (opened_sessions m)) opened_count
      (sessions_in (opened m scale) law)

  -- and all parts make it lawful
  pub lawful_whole : opened_rows m scale ≡ m → AreLawfulSessions (opened_boots m).0 (opened_sessions m)
      → HasLawfulModules (opened m scale)
      → HasLawfulData (opened m scale) → HasLawfulWatches (opened m scale) → HasLawfulCounts (opened m scale)
      → Lawful (opened m scale)
  lawful_whole right sessions modules stored watches counts =
      let are = opened_record m scale right sessions in
      record {
        ranges = record {
          sessions = are;
          modules = modules.ranges;
          contents = contents_table m;
          eras = era_table m (opened_sessions m) are (opened_boots m).0;
          moments = opened_moment m;
          watches = watches_table m;
          ends = watches.ends;
          boots = let low = opened_low m scale right in omega (arith, low, opened_count);
          clock = omega arith;
          image = tt;
          observers = omega arith;
        };
        ids = sessions.ids;
        parts = sessions.parts;
        alone = sessions.alone;
        activations = subst (λ (n : ℕ). HaveActivations n (opened_sessions m)) (sym opened_count) sessions.activations;
        causes = sessions.causes;
        rollbacks = sessions.rollbacks;
        undone = sessions.undone;
        modules = modules.modules;
        bounds = record {
          units = counts.units;
          weight = modules.weight;
          contents = stored.contents;
          eras = stored.eras;
          undoable = counts.undoable;
          available = counts.available;
          waiting = counts.waiting;
          watches = watches.few;
        };
        begun = counts.begun;
      }
