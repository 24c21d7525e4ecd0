-- What all names hold, looked for in one walk over the sessions.
use Rattle.std.specs.Prelude.{ℕ, ◌≡◌, List, fold, Option, Some, None, if◌then◌else◌}
use Rattle.std.specs.BTreeMap as tree
use Rattle.std.specs.BTreeMap.{BTreeMap}
use Rattle.std.specs.Cmp.Lexicographic.{slice_cmp}
use Rattle.std.specs.Ordering.{nat_cmp}
use Rattle.std.specs.Str.{bytes_eq}
use Rattle.apex_base.specs.declared.records.Part.{Part}
use Rattle.apex_base.specs.declared.records.Record.{Record}
use Rattle.apex_base.specs.declared.records.Target.{Target}
use Rattle.apex_base.specs.Held.{is_standing, candidate, later}

-- an activation boot and a target
abbrev pub Best : Type 0
Best = ℕ × Target

-- the latest that the sessions that stand have for a name
abbrev pub best_of : List Record → List ℕ → Option Best
best_of records name = fold (λ best r. later best (candidate (is_standing r.state) name r)) None records

-- the map has it for each name
abbrev pub AreHeld : List Record → BTreeMap (List ℕ) Best → Type 0
AreHeld records held = (name : List ℕ) → tree.get (slice_cmp nat_cmp) held name ≡ best_of records name

-- what is found for a name once a part of a session that this boot activated is seen
abbrev pub with_part : ℕ → List ℕ → Option Best → Part → Option Best
with_part activation name best p =
    if bytes_eq p.name name then later best (Some (activation, p.target)) else best
