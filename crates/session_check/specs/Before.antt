-- What names held before a session was activated, by marks.
use Rattle.std.specs.Prelude.{◌≡◌, ◌≢◌, ◌≤◌, ℕ, ◌||◌, Bool, true, not, List, find, Option, None, Some}
use Rattle.std.specs.List.{list_all}
use Rattle.std.specs.Str.{bytes_eq}
use Rattle.apex_base.specs.declared.records.Part.{Part}
use Rattle.apex_base.specs.declared.records.Record.{Record}
use Rattle.apex_base.specs.declared.records.Target.{Target}
use Rattle.apex_base.specs.declared.records.Target.TheVariants.{Preinstalled}
use Rattle.apex_base.specs.Held.{is_success, is_standing, is_undoable}
use Rattle.apex_base.specs.Members.{In}
use Rattle.apex_base.specs.Sessions.{names, Ascend}
use Rattle.apex_world.specs.Lawful.{AllPeers}
use Rattle.session_check.specs.declared.marks.Mark.{Mark}
use Rattle.session_check.specs.Marks.{has_later}

-- two sessions were activated by two boots, if they were activated
abbrev pub DifferInBoots : Record → Record → Type 0
DifferInBoots r s = r.activation ≢ 0 → s.activation ≢ 0 → r.activation ≢ s.activation

-- sessions whose activation boots tell which was activated last
pub record AreDated (sessions : List Record) : Type 0 where
  pub ascend : Ascend sessions
  pub activated : (r : Record) → In r sessions → is_success r.state ≡ true → r.activation ≢ 0
  pub apart : AllPeers DifferInBoots sessions

abbrev pub target_of_part : Option Part → Target
target_of_part None = Preinstalled
target_of_part (Some p) = p.target

-- the target that a session has for a name, if there is the session and it has the name
abbrev pub target_in : Option Record → List ℕ → Target
target_in None name = Preinstalled
target_in (Some r) name = target_of_part (find (λ p. bytes_eq p.name name) r.parts)

-- a session that can be undone was activated last of those that stand
abbrev pub is_above : List Mark → Record → Bool
is_above marks r = not (is_undoable r.state) || list_all (λ p. not (has_later marks p.name r.activation)) r.parts

-- a session that can be undone is not activated before one that stands and shares a name
abbrev pub StandLast : List Record → Type 0
StandLast sessions = (r s : Record) (name : List ℕ) → In r sessions → In s sessions
    → names name r ≡ true → names name s ≡ true
    → is_undoable r.state ≡ true → is_standing s.state ≡ true → s.activation ≤ r.activation
