-- The text of a run: docs/formats/text.md.
use Rattle.std.specs.Prelude.{ℕ, List, [], ◌∷◌, ◌++◌, length, Option, Some, None, codes, flat_map, ◌≡◌, refl}
use Rattle.std.specs.Fmt.{decimal}
use Rattle.hex.specs.Hex.{encode_lower}
use Rattle.apex_base.specs.declared.numbers.SessionId.{SessionId}
use Rattle.apex_base.specs.declared.fault.ModuleFault.{ModuleFault}
use Rattle.apex_base.specs.declared.fault.ModuleFault.TheVariants as faults
use Rattle.apex_base.specs.declared.records.Case.{Case}
use Rattle.apex_base.specs.declared.records.Case.TheVariants as case
use Rattle.apex_base.specs.declared.records.Cause.{Cause}
use Rattle.apex_base.specs.declared.records.Cause.TheVariants as causes
use Rattle.apex_base.specs.declared.records.Pick.{Pick}
use Rattle.apex_base.specs.declared.records.Place.{Place}
use Rattle.apex_base.specs.declared.records.Place.TheVariants.{Data, Pre}
use Rattle.apex_base.specs.declared.records.RollbackState.{RollbackState}
use Rattle.apex_base.specs.declared.records.RollbackState.TheVariants as rollbacks
use Rattle.apex_base.specs.declared.records.State.{State}
use Rattle.apex_base.specs.declared.records.State.TheVariants as state
use Rattle.apex_base.specs.declared.refusal.Refusal.{Refusal}
use Rattle.apex_base.specs.declared.refusal.Refusal.TheVariants as refusals
use Rattle.apex_world.specs.declared.calls.Changed.{Changed}
use Rattle.apex_world.specs.declared.calls.Reply.{Reply}
use Rattle.apex_world.specs.declared.calls.Reply.TheVariants as replies
use Rattle.apex_world.specs.declared.script.Script.{Script}
use Rattle.apex_world.specs.declared.turns.TurnRow.{TurnRow}
use Rattle.apex_world.specs.declared.turns.Fate.{Fate}
use Rattle.apex_world.specs.declared.turns.Fate.TheVariants as fates
use Rattle.apex_world.specs.World.{World, empty_world}
use Rattle.apex_world.specs.declared.turns.Shown.{Shown}
use Rattle.apex_world.specs.declared.turns.Shown.TheVariants.{Booted, Replied, Fated}
use Rattle.apex_world.specs.Fold.{turn}

-- Words

abbrev pub state_text : State → List ℕ
state_text state.Verified = codes "VERIFIED"
state_text state.Staged = codes "STAGED"
state_text state.Activated = codes "ACTIVATED"
state_text state.ActivationFailed = codes "ACTIVATION_FAILED"
state_text state.Success = codes "SUCCESS"
state_text state.RevertInProgress = codes "REVERT_IN_PROGRESS"
state_text state.Reverted = codes "REVERTED"
state_text state.Aborted = codes "ABORTED"

abbrev pub rollback_text : RollbackState → List ℕ
rollback_text rollbacks.Enabling = codes "ENABLING"
rollback_text rollbacks.Available = codes "AVAILABLE"
rollback_text rollbacks.Committed = codes "COMMITTED"
rollback_text rollbacks.Deleted = codes "DELETED"

abbrev pub case_text : Case → List ℕ
case_text case.NotInImage = codes "not-in-image"
case_text case.BelowPreinstalled = codes "below-preinstalled"
case_text case.KeyDiffers = codes "key-differs"
case_text case.Unsound = codes "unsound"
case_text case.NoMount = codes "no-mount"

unfoldable pub cause_text : Cause → List ℕ
cause_text causes.Reverted = codes "reverted"
cause_text causes.OtherBuild = codes "other-build"
cause_text (causes.Superseded id) = codes "superseded " ++ decimal id.0
cause_text (causes.Part name case) = codes "part " ++ name ++ codes " " ++ case_text case

-- what is wrong with a module
unfoldable pub fault_text : ModuleFault → List ℕ
fault_text faults.NoManifest = codes "no-manifest"
fault_text faults.NotJson = codes "not-json"
fault_text faults.NoName = codes "no-name"
fault_text faults.BadName = codes "bad-name"
fault_text faults.NoVersion = codes "no-version"
fault_text faults.BadVersion = codes "bad-version"
fault_text faults.NoListing = codes "no-listing"
fault_text (faults.BadListing line) = codes "bad-listing " ++ decimal line
fault_text (faults.Unlisted path) = codes "unlisted " ++ path
fault_text (faults.Absent path) = codes "absent " ++ path
fault_text (faults.Differs path listed actual) = codes "differs " ++ path ++ codes " " ++ encode_lower listed ++ codes " " ++ encode_lower actual

unfoldable pub refusal_text : Refusal → List ℕ
refusal_text (refusals.IdRange id) = codes "id-range " ++ decimal id.0
refusal_text (refusals.IdTaken id) = codes "id-taken " ++ decimal id.0
refusal_text (refusals.Parts count) = codes "parts " ++ decimal count
refusal_text (refusals.Module part fault) = codes "part " ++ decimal part ++ codes " " ++ fault_text fault
refusal_text (refusals.TwiceNamed name) = codes "twice-named " ++ name
refusal_text (refusals.NotPreinstalled name) = codes "not-preinstalled " ++ name
refusal_text (refusals.KeyDiffers name) = codes "key-differs " ++ name
refusal_text (refusals.Overlap name id) = codes "overlap " ++ name ++ codes " " ++ decimal id.0
refusal_text (refusals.Downgrade name active given) = codes "downgrade " ++ name ++ codes " " ++ decimal active ++ codes " " ++ decimal given
refusal_text (refusals.SessionsFull units) = codes "sessions-full " ++ decimal units
refusal_text (refusals.StoreFull weight) = codes "store-full " ++ decimal weight
refusal_text (refusals.NoSession id) = codes "no-session " ++ decimal id.0
refusal_text (refusals.BadState s) = codes "bad-state " ++ state_text s
refusal_text refusals.NothingToRevert = codes "nothing-to-revert"
refusal_text (refusals.NoRollback id) = codes "no-rollback " ++ decimal id.0
refusal_text (refusals.NotAvailable s) = codes "rollback-state " ++ rollback_text s
refusal_text (refusals.UnknownModule name) = codes "unknown-module " ++ name
refusal_text (refusals.DataFull weight) = codes "data-full " ++ decimal weight
refusal_text (refusals.NoKey key) = codes "no-key " ++ key
refusal_text (refusals.NoObserver name) = codes "no-observer " ++ name

-- Lines

-- bytes in lower-case hexadecimal, or - for none
abbrev pub value_text : List ℕ → List ℕ
value_text [] = codes "-"
value_text (b ∷ bs) = encode_lower (b ∷ bs)

abbrev pub rollback_words : Option RollbackState → List ℕ
rollback_words None = []
rollback_words (Some s) = codes " rollback " ++ rollback_text s

-- the observer that acts, or - for none
abbrev pub observer_text : Option (List ℕ) → List ℕ
observer_text None = codes "-"
observer_text (Some name) = name

abbrev pub id_words : List SessionId → List ℕ
id_words ids = flat_map (λ id. codes " " ++ decimal id.0) ids

unfoldable pub reply_text : Reply → List ℕ
reply_text replies.Done = codes "ok"
reply_text (replies.Committed id) = codes "committed " ++ decimal id.0
reply_text (replies.Value bytes) = codes "value " ++ value_text bytes
reply_text (replies.State s rollback) = codes "state " ++ state_text s ++ rollback_words rollback
reply_text replies.Noted = codes "noted"
reply_text (replies.Triggered observer ids) = codes "triggered " ++ observer_text observer ++ id_words ids
reply_text (replies.Refused refusal) = codes "refused " ++ refusal_text refusal

-- a turn that shows its fate alone; an answered one always shows its answer
abbrev pub fate_text : Fate → List ℕ
fate_text fates.Answered = []
fate_text fates.Kept = codes "fault kept"
fate_text fates.Lost = codes "fault lost"
fate_text fates.Open = codes "fault open"
fate_text fates.Closed = codes "closed"
fate_text fates.NoMemory = codes "no memory"
fate_text fates.Full = codes "full"

abbrev pub cause_words : Option Cause → List ℕ
cause_words None = []
cause_words (Some cause) = codes " " ++ cause_text cause

unfoldable pub change_line : Changed → List ℕ
change_line c = codes "session " ++ decimal c.id.0 ++ codes " " ++ state_text c.state ++ cause_words c.cause ++ codes "\n"

abbrev pub place_text : Place → List ℕ
place_text Data = codes " data"
place_text Pre = codes " pre"

abbrev pub pick_text : List ℕ → Option (ℕ × Place) → List ℕ
pick_text name None = codes "missing " ++ name ++ codes "\n"
pick_text name (Some c) = codes "active " ++ name ++ codes " " ++ decimal c.0 ++ place_text c.1 ++ codes "\n"

unfoldable pub pick_line : Pick → List ℕ
pick_line p = pick_text p.name p.chosen

abbrev pub loop_text : Option (Option (List ℕ) × List SessionId) → List ℕ
loop_text None = []
loop_text (Some t) = codes "loop " ++ observer_text t.0 ++ id_words t.1 ++ codes "\n"

-- the place of a turn, with a space after it
unfoldable pub turn_mark : TurnRow → List ℕ
turn_mark row = decimal row.boot ++ codes "." ++ decimal row.lane ++ codes "." ++ decimal row.step ++ codes " "

unfoldable pub boot_line : TurnRow → ℕ → List ℕ
boot_line row number = turn_mark row ++ codes "boot " ++ decimal number ++ codes "\n"

unfoldable pub reply_line : TurnRow → Reply → List ℕ
reply_line row reply = turn_mark row ++ reply_text reply ++ codes "\n"

unfoldable pub fate_line : TurnRow → List ℕ
fate_line row = turn_mark row ++ fate_text row.fate ++ codes "\n"

-- the lines of a turn
unfoldable pub turn_lines : TurnRow → Shown → List ℕ
turn_lines row (Booted reply) = boot_line row reply.number ++ flat_map change_line reply.changes ++ flat_map pick_line reply.active ++ loop_text reply.boot_loop
turn_lines row (Replied reply) = reply_line row reply
turn_lines row Fated = fate_line row

-- The text

-- the lines of the turns, from a world on
abbrev pub lines_from : Script → World → List TurnRow → List ℕ
lines_from script w [] = []
lines_from script w (row ∷ rows) = turn_lines row (turn script w row).shown ++ lines_from script (turn script w row).world rows

unfoldable pub end_line : List TurnRow → List ℕ
end_line rows = codes "end " ++ decimal (length rows) ++ codes "\n"

-- the text of a run from a world on
abbrev pub text : World → Script → List TurnRow → List ℕ
text w script rows = lines_from script w rows ++ end_line rows

-- what `play` writes: the text of the turns, from an empty device on
abbrev pub out : Script → List TurnRow → List ℕ
out script rows = text (empty_world script.scale) script rows

-- Worked values: the answer to a question for a state, a name whose module is missing, and a boot loop at which nobody acts

pub state_told : reply_text (replies.State state.Success (Some rollbacks.Available)) ≡ codes "state SUCCESS rollback AVAILABLE"
unfolding reply_text
state_told = refl

pub missing : pick_line (record { name = codes "a"; chosen = None }) ≡ codes "missing a\n"
unfolding pick_line
missing = refl

pub nobody_acts : loop_text (Some (None, [])) ≡ codes "loop -\n"
nobody_acts = refl
