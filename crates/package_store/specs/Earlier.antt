-- What names held before each boot, looked up by name and boot.
use Rattle.std.specs.Prelude.{ℕ, ◌≡◌, ◌<◌, ◌&&◌, ◌||◌, Bool, true, nat_lt, List, fold, Option, Some, None, if◌then◌else◌}
use Rattle.std.specs.BTreeMap as tree
use Rattle.std.specs.BTreeMap.{BTreeMap}
use Rattle.std.specs.Cmp.Lexicographic.{slice_cmp}
use Rattle.std.specs.List.{AllByRecursion}
use Rattle.std.specs.Option.{option_and_then, option_or}
use Rattle.std.specs.Ordering.{nat_cmp, is_eq}
use Rattle.apex_base.specs.declared.records.Part.{Part}
use Rattle.apex_base.specs.declared.records.Record.{Record}
use Rattle.apex_base.specs.declared.records.Target.{Target}
use Rattle.apex_base.specs.Held.{is_success, is_undoable, is_available, candidate, later}
use Rattle.package_store.specs.declared.earlier.EarlierTargets.{EarlierTargets}
use Rattle.package_store.specs.Latest.{Best, with_part}

-- the target that is there for a name and a boot
abbrev pub target_at : EarlierTargets → List ℕ → ℕ → Option Target
target_at earlier name boot =
    option_and_then (λ targets. tree.get nat_cmp targets boot) (tree.get (slice_cmp nat_cmp) earlier.by_name name)

-- of the sessions that succeeded, and were activated before this boot: the latest boot, and its target for a name
abbrev pub best_before : List Record → ℕ → List ℕ → Option Best
best_before records limit name =
    fold (λ best r. later best (candidate (is_success r.state && nat_lt r.activation limit) name r)) None records

-- of what is there for a name, this is of the last boot before the limit
abbrev pub IsLast : EarlierTargets → ℕ → List ℕ → Option Best → Type 0
IsLast earlier limit name None = (boot : ℕ) → boot < limit → target_at earlier name boot ≡ None
IsLast earlier limit name (Some best) = (best.0 < limit) × (target_at earlier name best.0 ≡ Some best.1)
    × ((boot : ℕ) → best.0 < boot → boot < limit → target_at earlier name boot ≡ None)

-- it is what the sessions have, for each limit and name
abbrev pub AreEarlier : List Record → EarlierTargets → Type 0
AreEarlier records earlier =
    (limit : ℕ) (name : List ℕ) → IsLast earlier limit name (best_before records limit name)

-- it is asked what the session's names held before it
abbrev pub looks_back : Record → Bool
looks_back r = is_undoable r.state || is_available r.rollback

-- it is what the sessions have, if one of them looks back
abbrev pub AreEnough : List Record → EarlierTargets → Type 0
AreEnough records earlier = AllByRecursion (λ r. looks_back r ≡ true → AreEarlier records earlier) records

-- a target is put for a boot, if none was there
abbrev pub IsFirst : BTreeMap ℕ Target → BTreeMap ℕ Target → ℕ → Target → Type 0
IsFirst old new boot target = (b : ℕ) → tree.get nat_cmp new b
    ≡ option_or (tree.get nat_cmp old b) (if is_eq (nat_cmp boot b) then Some target else None)

-- what is found for a name once a part is seen, of a session that succeeded and that this boot activated
abbrev pub with_earlier : ℕ → ℕ → List ℕ → Option Best → Part → Option Best
with_earlier activation limit name best p =
    if nat_lt activation limit then with_part activation name best p else best
