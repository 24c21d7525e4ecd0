-- Units and names are counted. Callers want `counts_there` and `counts_back`.
use Rattle.std.proofs.Common.{◌≡◌, ℕ, List, [], length}
use Rattle.apex_base.specs.declared.numbers.Scale.{Scale}
use Rattle.apex_base.specs.declared.records.Record.{Record}
use Rattle.apex_world.specs.World.{World}
use Rattle.world_check.specs.declared.counts.Counted.TheVariants.{Units, Undoable, Available, Waiting}
use Rattle.world_check.specs.Counted.{AreFew}
use Rattle.world_check.specs.LawfulParts.{HasLawfulCounts}

-- what is tested of these sessions, so many boots and these moments
pub record AreCounted (scale : Scale) (sessions : List Record) (boots : ℕ) (moments : List ℕ) : Type 0 where
  pub begun : boots ≡ 0 → moments ≡ []
  pub units : AreFew Units scale sessions
  pub undoable : AreFew Undoable scale sessions
  pub available : AreFew Available scale sessions
  pub waiting : AreFew Waiting scale sessions

module _ (scale : Scale) (sessions : List Record) (boots : ℕ) (moments : List ℕ) (w : World) (scaled : w.scale ≡ scale)
    (same : w.sessions ≡ sessions) (count : length w.eras ≡ boots) (last : w.moments ≡ moments) where
  pub counts_there : AreCounted scale sessions boots moments → HasLawfulCounts w
  counts_there h = record {
    units = rw (same, scaled) h.units;
    undoable = rw (same, scaled) h.undoable;
    available = rw (same, scaled) h.available;
    waiting = rw (same, scaled) h.waiting;
    begun = rw (count, last) h.begun;
  }

  pub counts_back : HasLawfulCounts w → AreCounted scale sessions boots moments
  counts_back h = record {
    begun = rw (← count, ← last) h.begun;
    units = rw (← same, ← scaled) h.units;
    undoable = rw (← same, ← scaled) h.undoable;
    available = rw (← same, ← scaled) h.available;
    waiting = rw (← same, ← scaled) h.waiting;
  }
