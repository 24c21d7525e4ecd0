-- The world that calls and boots speak of: docs/glossary.md, "World".
use Rattle.std.specs.Prelude.{ℕ, ◌-◌, ◌==◌, List, [], length, get_or, Option, None, if◌then◌else◌}
use Rattle.std.specs.FinMap as fin
use Rattle.apex_base.specs.declared.numbers.Scale.{Scale}
use Rattle.apex_base.specs.declared.records.Pick.{Pick}
use Rattle.apex_base.specs.declared.records.Record.{Record}
use Rattle.apex_base.specs.Tables.{NameMap, Table}
use Rattle.apex_world.specs.declared.calls.Image.{Image}
use Rattle.apex_world.specs.declared.calls.Observer.{Observer}
use Rattle.apex_world.specs.declared.world.Submission.{Submission}

-- what modules keep: bytes, by the module's name and a key
abbrev pub Contents : Type 0
Contents = Table (List ℕ)

-- until when a name is watched: a moment, by the observer and the name
abbrev pub Watches : Type 0
Watches = Table ℕ

-- the moments of a name's counted failures
abbrev pub Failures : Type 0
Failures = NameMap (List ℕ)

pub record World : Type 0 where
  pub scale : Scale
  -- all sessions ever made, ascending by id
  pub sessions : List Record
  -- every module that was ever submitted
  pub modules : List Submission
  -- the data of modules, and the data just before each boot: era b is the b-th
  pub contents : Contents
  pub eras : List Contents
  -- the moments of boots since the last boot-loop trigger
  pub moments : List ℕ
  pub watches : Watches
  -- what runs since the last boot
  pub image : Option Image
  pub observers : List Observer
  pub active : List Pick
  pub clock : ℕ
  -- the failures that were counted since the boot, or since the name's last trigger
  pub failures : Failures

-- before the first boot
abbrev pub empty_world : Scale → World
empty_world scale = record {
  scale = scale;
  sessions = [];
  modules = [];
  contents = fin.empty;
  eras = [];
  moments = [];
  watches = fin.empty;
  image = None;
  observers = [];
  active = [];
  clock = 0;
  failures = fin.empty;
}

-- the number of boots
abbrev pub boots : World → ℕ
boots w = length w.eras

-- the data just before boot b, from 1
abbrev pub era : List Contents → ℕ → Contents
era eras b = if b == 0 then fin.empty else get_or eras (b - 1) fin.empty
