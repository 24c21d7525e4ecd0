-- Whether a module is kept, by the sessions of its name alone: docs/sessions.md, "Kept".
use Rattle.std.specs.Prelude.{◌≡◌, ℕ, ◌&&◌, ◌||◌, Bool, true, false, List, Some, None}
use Rattle.std.specs.List.{list_any}
use Rattle.std.specs.Str.{bytes_eq}
use Rattle.apex_base.specs.declared.numbers.SessionId.{SessionId}
use Rattle.apex_base.specs.declared.records.Part.{Part}
use Rattle.apex_base.specs.declared.records.Record.{Record}
use Rattle.apex_base.specs.declared.records.Target.TheVariants as targets
use Rattle.apex_base.specs.Commit.{is_waiting, undoes}
use Rattle.apex_base.specs.Held.{is_unfinished, is_undoable, is_available, held, before, kept, is_module, is_target}
use Rattle.apex_base.specs.Keys.{FileOf}
use Rattle.apex_base.specs.Members.{In}
use Rattle.apex_base.specs.Sessions.{names, session_of}
use Rattle.apex_base.specs.Settled.{stands_for}
use Rattle.apex_world.specs.Advance.{abort}
use Rattle.apex_world.specs.Lawful.{Lawful}
use Rattle.apex_world.specs.Rows.{row_at}
use Rattle.world_laws.specs.RowsMoved.{has_target}
use Rattle.apex_world.specs.World.{World}

-- a session that isn't finished has the module as its part of a name
abbrev pub has_own : List ℕ → SessionId → ℕ → Record → Bool
has_own name session part r =
    is_unfinished r.state && list_any (λ p. bytes_eq p.name name && is_module session part p.target) r.parts

-- a name held it before a session that can be undone or rolled back
abbrev pub had_before : List Record → List ℕ → SessionId → ℕ → Record → Bool
had_before sessions name session part r =
    (is_undoable r.state || is_available r.rollback) && names name r && is_module session part (before sessions r name)

-- a module is kept for a name
abbrev pub is_kept_for : List Record → List ℕ → SessionId → ℕ → Bool
is_kept_for sessions name session part =
    list_any (has_own name session part) sessions
    || (list_any (stands_for name) sessions && is_module session part (held sessions name))
    || list_any (had_before sessions name session part) sessions

-- the module that a part has is kept if it is kept for the name of that part
abbrev pub ModulesAreKeptByName : Type 0
ModulesAreKeptByName =
    (w : World) → Lawful w → (r : Record) (p : Part) (session : SessionId) (part version : ℕ) → In r w.sessions
    → In p r.parts → p.target ≡ targets.Module session part version
    → is_target (kept w.sessions) session part ≡ is_kept_for w.sessions p.name session part

-- nobody else keeps the modules of a session that no rollback made and no boot activated: an abort takes them all away
abbrev pub AbortedFilesGo : Type 0
AbortedFilesGo =
    (w : World) → Lawful w → (id : SessionId) (r : Record) → session_of w.sessions id ≡ Some r
    → is_waiting r.state ≡ true → undoes r.kind ≡ false → (session : SessionId) (part : ℕ) (path : List ℕ)
    → has_target r session part ≡ true → row_at (abort w id).world (FileOf session part path) ≡ None
