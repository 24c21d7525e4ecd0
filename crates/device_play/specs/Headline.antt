-- What a run of the program promises.
use Rattle.std.specs.Prelude.{◌≡◌, ℕ, List, [], ◌∷◌, codes, Option, Some, None, Ok, Err, string_bytes, String}
use Rattle.std.specs.declared.alloc.Global.{Global}
use Rattle.apex_world.specs.declared.script.Script.{Script}
use Rattle.device_script.specs.declared.fault.ScriptWhy.{ScriptWhy}
use Rattle.device_script.specs.declared.fault.ScriptWhy.TheVariants.{Bad}
use Rattle.device_script.specs.Script.{script_of}
use Rattle.device_play.specs.declared.status.Status.{Status}
use Rattle.device_play.specs.declared.status.Status.TheVariants as status

-- the number that the program exits with
abbrev pub status_number : Status → ℕ
status_number status.Done = 0
status_number status.Usage = 1
status_number (status.Script line why) = 2
status_number status.SourceFault = 3
status_number status.SinkFault = 4
status_number status.Memory = 5

-- the words are the command `play`
abbrev pub Plays : List (String Global) → Type 0
Plays [] = ⊥
Plays (word ∷ []) = string_bytes word ≡ codes "play"
Plays (word ∷ other ∷ rest) = ⊥

-- a source that tells its bytes has this script
abbrev pub HasScript : Option (List ℕ) → Script → Type 0
HasScript None script = ⊥
HasScript (Some bytes) script = script_of bytes ≡ Ok script

-- a source that tells its bytes has no script, and this is why
abbrev pub HasNoScript : Option (List ℕ) → ScriptWhy → Type 0
HasNoScript None why = ⊥
HasNoScript (Some bytes) why = script_of bytes ≡ Err why

-- where the bytes are no script, the status says so with their first bad line, unless the words are no command,
-- the source failed or memory ran out
abbrev pub IsRefused : Status → ScriptWhy → Type 0
IsRefused status.Done why = ⊥
IsRefused status.Usage why = Unit {0}
IsRefused (status.Script line fault) why = why ≡ Bad line fault
IsRefused status.SourceFault why = Unit {0}
IsRefused status.SinkFault why = ⊥
IsRefused status.Memory why = Unit {0}

-- where the status says that the bytes are no script, they are none, and this is their first bad line
abbrev pub HasBadLine : Option (List ℕ) → Status → Type 0
HasBadLine None s = Unit {0}
HasBadLine (Some bytes) status.Done = Unit {0}
HasBadLine (Some bytes) status.Usage = Unit {0}
HasBadLine (Some bytes) (status.Script line fault) = script_of bytes ≡ Err (Bad line fault)
HasBadLine (Some bytes) status.SourceFault = Unit {0}
HasBadLine (Some bytes) status.SinkFault = Unit {0}
HasBadLine (Some bytes) status.Memory = Unit {0}

-- a status at which nothing was put, and there are no turns
abbrev pub IsSilent : Status → Type 0
IsSilent status.Done = ⊥
IsSilent status.Usage = Unit {0}
IsSilent (status.Script line fault) = Unit {0}
IsSilent status.SourceFault = Unit {0}
IsSilent status.SinkFault = ⊥
IsSilent status.Memory = ⊥
