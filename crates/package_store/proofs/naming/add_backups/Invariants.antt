use Rattle.std.proofs.Common.{◌≡◌, ℕ, List, fold, take}
use Rattle.std.specs.FinMap as fin
use Rattle.apex_base.specs.declared.records.Part.{Part}
use Rattle.apex_base.specs.declared.records.Record.{Record}
use Rattle.package_store.specs.Earlier.{AreEarlier}
use Rattle.package_store.specs.Named.{note_backup}
use Rattle.package_store.proofs.naming.add_backups.Given as goal

-- what is noted for the names so far
abbrev pub invariant-loop-p : goal.invariant-loop-p
invariant-loop-p l = (records : List Record) → AreEarlier records l.earlier → (key : List ℕ) → fin.get l.changes key
    ≡ fold (λ noted (p : Part). note_backup records l.r p.name key noted) (fin.get l.fn.changes key)
    (take l.p-index l.r.parts)
