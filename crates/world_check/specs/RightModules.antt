-- Whether the modules that are kept are right, and what they weigh, part by part: docs/rows.md, tag 5.
use Rattle.std.specs.Prelude.{ℕ, ◌-◌, ◌==◌, ◌&&◌, Bool, nat_le, List, [], ◌∷◌, Option, None, Some, option_and_then}
use Rattle.std.specs.Prelude.{if◌then◌else◌}
use Rattle.apex_base.specs.declared.numbers.SessionId.{SessionId}
use Rattle.apex_base.specs.declared.records.Part.{Part}
use Rattle.apex_base.specs.declared.records.Record.{Record}
use Rattle.apex_base.specs.declared.records.Target.{Target}
use Rattle.apex_base.specs.declared.records.Target.TheVariants.{Preinstalled, Module}
use Rattle.apex_base.specs.Keys.{RowMap}
use Rattle.apex_base.specs.Modules.{FileMap, module_weight}
use Rattle.apex_world.specs.Decided.{is_module, says}
use Rattle.apex_world.specs.Opened.{opened_files}
use Rattle.apex_world.specs.Soundness.{checked}

-- what is left of a weight once so much is taken, if there is as much
abbrev pub less : ℕ → ℕ → Option ℕ
less weight left = if nat_le weight left then Some (left - weight) else None

-- the files, if a module may have them
abbrev pub if_module : FileMap → Option FileMap
if_module content = if is_module content then Some content else None

-- once a module is taken, if it is sound, and says this name and version
abbrev pub less_module : List ℕ → ℕ → ℕ → FileMap → Option ℕ
less_module name version left content =
    if says (checked content) name version then less (module_weight content) left else None

module _ (rows : RowMap) (is_kept : SessionId → ℕ → Bool) where
  -- once the module of a part is taken, if its session submitted it, and it is kept
  abbrev pub less_target : SessionId → List ℕ → ℕ → Target → Option ℕ
  less_target id name left Preinstalled = Some left
  less_target id name left (Module session part version) =
      if (session.0 == id.0) && is_kept session part
      then option_and_then (less_module name version left) (if_module (opened_files rows session part))
      else Some left

  abbrev pub less_parts : SessionId → ℕ → List Part → Option ℕ
  less_parts id left [] = Some left
  less_parts id left (p ∷ ps) =
      option_and_then (λ rest. less_parts id rest ps) (less_target id p.name left p.target)

  -- once all modules are taken
  abbrev pub less_sessions : ℕ → List Record → Option ℕ
  less_sessions left [] = Some left
  less_sessions left (r ∷ rs) = option_and_then (λ rest. less_sessions rest rs) (less_parts r.id left r.parts)
