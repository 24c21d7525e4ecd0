-- From which rows a device can be booted, and why others are refused: docs/rows.md, "A core".
use Rattle.std.specs.Prelude.{◌≡◌, ◌⊎◌, ◌<◌, ℕ, ◌==◌, ◌&&◌, Bool, true, false, not, [], ◌∷◌, List, Option, Some, None}
use Rattle.std.specs.Prelude.{if◌then◌else◌, IsTrue}
use Rattle.std.specs.FinMap as fin
use Rattle.std.specs.List.{list_all}
use Rattle.apex_base.specs.declared.numbers.Scale.{Scale}
use Rattle.apex_base.specs.declared.numbers.SessionId.{SessionId}
use Rattle.apex_base.specs.declared.records.Kind.{Kind}
use Rattle.apex_base.specs.declared.records.Kind.TheVariants.{Plain, WithRollback, RollbackOf}
use Rattle.apex_base.specs.declared.records.Record.{Record}
use Rattle.apex_base.specs.declared.why.Why.{Why}
use Rattle.apex_base.specs.declared.why.Why.TheVariants.{Fault, NoMemory}
use Rattle.apex_base.specs.Keys.{RowMap}
use Rattle.apex_base.specs.Ranges.{IsMillis}
use Rattle.apex_base.specs.Text.{is_print}
use Rattle.apex_world.specs.declared.calls.BootOrder.{BootOrder}
use Rattle.apex_world.specs.Lawful.{Lawful}
use Rattle.apex_world.specs.Opened.{opened}
use Rattle.apex_world.specs.Orders.{IsOrder}
use Rattle.apex_world.specs.World.{World, boots}
use Rattle.row_check.specs.declared.opened.BadRows.{BadRows}
use Rattle.row_check.specs.BadRows.{IsLeastDifference, opened_rows}
use Rattle.stored_world.specs.Stored.{IsStored}

-- an order that can be booted with, whatever the rows: the parts of `IsOrderOf` that don't speak of a world
pub record IsAnOrder (order : BootOrder) : Type 0 where
  pub is_order : IsOrder order
  pub print : IsTrue (is_print order.image.print)
  pub time : IsMillis order.time

-- a device that had this many boots isn't booted again
abbrev pub HasBootsLeft : World → Type 0
HasBootsLeft w = boots w < 4000000000

-- What is in no world to which the calls and the boots built so far lead. This goes as calls are built.

abbrev pub is_plain : Kind → Bool
is_plain Plain = true
is_plain WithRollback = false
is_plain (RollbackOf x) = false

abbrev pub is_childless : List SessionId → Bool
is_childless [] = true
is_childless (child ∷ children) = false

abbrev pub are_simple : List Record → Bool
are_simple sessions = list_all (λ r. is_plain r.kind && is_childless r.children) sessions

-- the least tag of rows that no such world has: of sessions with rollbacks or children, of data, of watches. A world
-- without the first has no rows of tags 7 and 8
abbrev pub unbuilt_tag : World → Option ℕ
unbuilt_tag w =
    if not (are_simple w.sessions) then Some 2
    else if not (fin.len w.contents == 0) then Some 6
    else if not (fin.len w.watches == 0) then Some 9
    else None

-- Rows that can be booted from: those of a lawful and simple world, which is the one that they open to

pub record AreBootable (m : RowMap) (scale : Scale) : Type 0 where
  pub stored : IsStored m (opened m scale)
  pub left : HasBootsLeft (opened m scale)

-- Rows that can't, for one of three reasons. Each of them rules out those before it

-- 1. `IsLeastDifference`: they aren't the rows of the world that they open to. The tag is the least at which they differ

-- 2. they are, but that world isn't lawful, or had its last boot. The tag is 0
pub record AreUnlawful (m : RowMap) (scale : Scale) : Type 0 where
  pub right : opened_rows m scale ≡ m
  pub unlawful : ¬ (Lawful (opened m scale) × HasBootsLeft (opened m scale))

-- 3. they are, and that world is lawful and has boots left, but isn't one of those built so far
pub record AreUnbuilt (m : RowMap) (scale : Scale) (tag : ℕ) : Type 0 where
  pub right : opened_rows m scale ≡ m
  pub lawful : Lawful (opened m scale)
  pub left : HasBootsLeft (opened m scale)
  pub unbuilt : unbuilt_tag (opened m scale) ≡ Some tag

abbrev pub AreRefused : RowMap → Scale → Why BadRows → Type 0
AreRefused m scale (Fault bad) =
    IsLeastDifference m scale bad.tag ⊎ (((bad.tag ≡ 0) × AreUnlawful m scale) ⊎ AreUnbuilt m scale bad.tag)
AreRefused m scale NoMemory = Unit {0}
