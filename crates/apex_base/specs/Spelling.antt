-- A session's record, and its one spelling in bytes: docs/rows.md, "A record". The spelling leaves out the id, which
-- the key of its row has.
use Rattle.std.specs.Prelude.{◌≡◌, ◌⊎◌, ℕ, zero, suc, ◌<◌, ◌^◌, ◌==◌, IsTrue, List, [], ◌∷◌, length, map, Option, Some, None, IfSome, if◌then◌else◌, refl, codes, ◌++◌}
use Rattle.std.specs.Int.{w32, w64}
use Rattle.std.specs.List.{AllByRecursion, list_all}
use Rattle.apex_base.specs.declared.numbers.SessionId.{SessionId}
use Rattle.apex_base.specs.declared.records.Case.{Case}
use Rattle.apex_base.specs.declared.records.Case.TheVariants.{NotInImage, BelowPreinstalled, KeyDiffers, Unsound, NoMount}
use Rattle.apex_base.specs.declared.records.Cause.{Cause}
use Rattle.apex_base.specs.declared.records.Cause.TheVariants as causes
use Rattle.apex_base.specs.declared.records.Kind.{Kind}
use Rattle.apex_base.specs.declared.records.Kind.TheVariants.{Plain, WithRollback, RollbackOf}
use Rattle.apex_base.specs.declared.records.Part.{Part}
use Rattle.apex_base.specs.declared.records.Record.{Record}
use Rattle.apex_base.specs.declared.records.RollbackState.{RollbackState}
use Rattle.apex_base.specs.declared.records.RollbackState.TheVariants.{Enabling, Available, Committed, Deleted}
use Rattle.apex_base.specs.declared.records.State.{State}
use Rattle.apex_base.specs.declared.records.State.TheVariants as state
use Rattle.apex_base.specs.declared.records.Target.{Target}
use Rattle.apex_base.specs.declared.records.Target.TheVariants as targets
use Rattle.apex_base.specs.Moves.{state_number}
use Rattle.apex_base.specs.Numbers.{version_of, millis_of}
use Rattle.apex_base.specs.Ranges.{IsVersion, IsMillis}
use Rattle.apex_base.specs.Reading.{◌>>=◌, byte_at, bytes_at, number_at, four_text, eight_text, short_text, short_at, at_end}
use Rattle.apex_base.specs.Text.{is_short_text, is_name, is_print, name_of, print_of}

-- States and kinds

abbrev pub state_of_number : ℕ → Option State
state_of_number n =
    if n == 1 then Some state.Verified
    else (if n == 2 then Some state.Staged
    else (if n == 3 then Some state.Activated
    else (if n == 4 then Some state.ActivationFailed
    else (if n == 5 then Some state.Success
    else (if n == 6 then Some state.RevertInProgress
    else (if n == 7 then Some state.Reverted
    else (if n == 8 then Some state.Aborted
    else None)))))))

unfoldable pub state_at : List ℕ → Option (State × List ℕ)
state_at bytes = do
  n ← byte_at bytes
  s ← state_of_number n.0
  Some (s, n.1)

-- a kind's number, and the session that it undoes, 0 for none
abbrev pub kind_text : Kind → List ℕ → List ℕ
kind_text Plain rest = 1 ∷ four_text 0 rest
kind_text WithRollback rest = 2 ∷ four_text 0 rest
kind_text (RollbackOf x) rest = 3 ∷ four_text x.0 rest

abbrev pub kind_of_numbers : ℕ → ℕ → Option Kind
kind_of_numbers kind x =
    if kind == 1 then (if x == 0 then Some Plain else None)
    else (if kind == 2 then (if x == 0 then Some WithRollback else None)
    else (if kind == 3 then Some (RollbackOf (record { 0 = x }))
    else None))

unfoldable pub kind_at : List ℕ → Option (Kind × List ℕ)
kind_at bytes = do
  n ← byte_at bytes
  x ← number_at w32 n.1
  kind ← kind_of_numbers n.0 x.0
  Some (kind, x.1)

abbrev pub rollback_number : Option RollbackState → ℕ
rollback_number None = 0
rollback_number (Some Enabling) = 1
rollback_number (Some Available) = 2
rollback_number (Some Committed) = 3
rollback_number (Some Deleted) = 4

abbrev pub rollback_of_number : ℕ → Option (Option RollbackState)
rollback_of_number n =
    if n == 0 then Some None
    else (if n == 1 then Some (Some Enabling)
    else (if n == 2 then Some (Some Available)
    else (if n == 3 then Some (Some Committed)
    else (if n == 4 then Some (Some Deleted)
    else None))))

unfoldable pub rollback_at : List ℕ → Option (Option RollbackState × List ℕ)
rollback_at bytes = do
  n ← byte_at bytes
  rollback ← rollback_of_number n.0
  Some (rollback, n.1)

-- Names, fingerprints and moments, which have to be such

unfoldable pub name_at : List ℕ → Option (List ℕ × List ℕ)
name_at bytes = do
  text ← short_at bytes
  name ← name_of text.0
  Some (name, text.1)

unfoldable pub print_at : List ℕ → Option (List ℕ × List ℕ)
print_at bytes = do
  text ← short_at bytes
  print ← print_of text.0
  Some (print, text.1)

unfoldable pub moment_at : List ℕ → Option (ℕ × List ℕ)
moment_at bytes = do
  n ← number_at w64 bytes
  moment ← millis_of n.0
  Some (moment, n.1)

-- Causes

abbrev pub case_number : Case → ℕ
case_number NotInImage = 1
case_number BelowPreinstalled = 2
case_number KeyDiffers = 3
case_number Unsound = 4
case_number NoMount = 5

abbrev pub case_of_number : ℕ → Option Case
case_of_number n =
    if n == 1 then Some NotInImage
    else (if n == 2 then Some BelowPreinstalled
    else (if n == 3 then Some KeyDiffers
    else (if n == 4 then Some Unsound
    else (if n == 5 then Some NoMount
    else None))))

abbrev pub cause_text : Option Cause → List ℕ → List ℕ
cause_text None rest = 0 ∷ rest
cause_text (Some causes.Reverted) rest = 1 ∷ rest
cause_text (Some causes.OtherBuild) rest = 2 ∷ rest
cause_text (Some (causes.Superseded id)) rest = 3 ∷ four_text id.0 rest
cause_text (Some (causes.Part name case)) rest = 4 ∷ case_number case ∷ short_text name rest

unfoldable pub superseded_at : List ℕ → Option (Option Cause × List ℕ)
superseded_at bytes = do
  id ← number_at w32 bytes
  Some (Some (causes.Superseded (record { 0 = id.0 })), id.1)

unfoldable pub case_at : List ℕ → Option (Option Cause × List ℕ)
case_at bytes = do
  n ← byte_at bytes
  case ← case_of_number n.0
  name ← name_at n.1
  Some (Some (causes.Part name.0 case), name.1)

unfoldable pub cause_at : List ℕ → Option (Option Cause × List ℕ)
cause_at [] = None
cause_at (n ∷ rest) =
    if n == 0 then Some (None, rest)
    else (if n == 1 then Some (Some causes.Reverted, rest)
    else (if n == 2 then Some (Some causes.OtherBuild, rest)
    else (if n == 3 then superseded_at rest
    else (if n == 4 then case_at rest
    else None))))

-- Targets and parts

abbrev pub target_text : Target → List ℕ → List ℕ
target_text targets.Preinstalled rest = 2 ∷ rest
target_text (targets.Module session part version) rest = 1 ∷ four_text session.0 (part ∷ eight_text version rest)

unfoldable pub module_at : List ℕ → Option (Target × List ℕ)
module_at bytes = do
  session ← number_at w32 bytes
  part ← byte_at session.1
  n ← number_at w64 part.1
  version ← version_of n.0
  Some (targets.Module (record { 0 = session.0 }) part.0 version, n.1)

unfoldable pub target_at : List ℕ → Option (Target × List ℕ)
target_at [] = None
target_at (n ∷ rest) = if n == 1 then module_at rest else (if n == 2 then Some (targets.Preinstalled, rest) else None)

-- a version of None is 0
abbrev pub version_number : Option ℕ → ℕ
version_number None = 0
version_number (Some n) = n

abbrev pub some_version : Option ℕ → Option (Option ℕ)
some_version None = None
some_version (Some n) = Some (Some n)

abbrev pub version_of_number : ℕ → Option (Option ℕ)
version_of_number n = if n == 0 then Some None else some_version (version_of n)

abbrev pub part_text : Part → List ℕ → List ℕ
part_text p rest = short_text p.name (eight_text (version_number p.version) (target_text p.target rest))

unfoldable pub part_at : List ℕ → Option (Part × List ℕ)
part_at bytes = do
  name ← name_at bytes
  n ← number_at w64 name.1
  version ← version_of_number n.0
  target ← target_at n.1
  Some (record { name = name.0; version = version; target = target.0 }, target.1)

-- each part stands after the id of its child, which is 0 where there are no children
abbrev pub parts_text : List SessionId → List Part → List ℕ → List ℕ
parts_text cs [] rest = rest
parts_text [] (p ∷ ps) rest = four_text 0 (part_text p (parts_text [] ps rest))
parts_text (c ∷ cs) (p ∷ ps) rest = four_text c.0 (part_text p (parts_text cs ps rest))

unfoldable pub parts_at : ℕ → List ℕ → Option (List (ℕ × Part) × List ℕ)
parts_at zero bytes = Some ([], bytes)
parts_at (suc n) bytes = do
  child ← number_at w32 bytes
  part ← part_at child.1
  parts ← parts_at n part.1
  Some ((child.0, part.0) ∷ parts.0, parts.1)

-- as many children as parts, or none
abbrev pub children_of : ℕ → ℕ → List (ℕ × Part) → Option (List SessionId)
children_of count parts xs =
    if count == 0 then (if list_all (λ x. x.0 == 0) xs then Some [] else None)
    else (if count == parts then Some (map (λ x. record { 0 = x.0 }) xs)
    else None)

-- Records

unfoldable pub record_text : Record → List ℕ
record_text r =
    state_number r.state ∷ kind_text r.kind (rollback_number r.rollback ∷ eight_text r.moment (four_text r.activation (short_text r.print
    (cause_text r.cause (length r.parts ∷ length r.children ∷ parts_text r.children r.parts [])))))

-- the record of an id that all of the bytes spell
unfoldable pub record_of : SessionId → List ℕ → Option Record
record_of id bytes = do
  phase ← state_at bytes
  kind ← kind_at phase.1
  rollback ← rollback_at kind.1
  moment ← moment_at rollback.1
  activation ← number_at w32 moment.1
  print ← print_at activation.1
  cause ← cause_at print.1
  count ← byte_at cause.1
  few ← byte_at count.1
  parts ← parts_at count.0 few.1
  children ← children_of few.0 count.0 parts.0
  at_end (record { id = id; children = children; kind = kind.0; parts = map (λ x. x.1) parts.0; print = print.0; state = phase.0; cause = cause.0; activation = activation.0; rollback = rollback.0; moment = moment.0 }) parts.1

-- What has a spelling

abbrev pub IsId : SessionId → Type 0
IsId id = id.0 < 2 ^ 32

abbrev pub IsKind : Kind → Type 0
IsKind Plain = Unit {0}
IsKind WithRollback = Unit {0}
IsKind (RollbackOf x) = IsId x

abbrev pub IsCause : Option Cause → Type 0
IsCause None = Unit {0}
IsCause (Some causes.Reverted) = Unit {0}
IsCause (Some causes.OtherBuild) = Unit {0}
IsCause (Some (causes.Superseded id)) = IsId id
IsCause (Some (causes.Part name case)) = IsTrue (is_name name)

abbrev pub IsTarget : Target → Type 0
IsTarget targets.Preinstalled = Unit {0}
IsTarget (targets.Module session part version) = IsId session × (part < 256) × IsVersion version

pub record IsPart (p : Part) : Type 0 where
  pub name : IsTrue (is_name p.name)
  pub version : IfSome p.version IsVersion
  pub target : IsTarget p.target

-- numbers and texts within their ranges, and as many children as parts, or none
pub record IsRecord (r : Record) : Type 0 where
  pub id : IsId r.id
  pub kind : IsKind r.kind
  pub moment : IsMillis r.moment
  pub activation : r.activation < 2 ^ 32
  pub print : IsTrue (is_print r.print)
  pub cause : IsCause r.cause
  pub parts : AllByRecursion IsPart r.parts
  pub few : length r.parts < 256
  pub children : AllByRecursion IsId r.children
  pub count : (r.children ≡ []) ⊎ (length r.children ≡ length r.parts)

-- these bytes spell that record
pub record Spells (bytes : List ℕ) (r : Record) : Type 0 where
  pub is_record : IsRecord r
  pub is_text : bytes ≡ record_text r

-- Worked values: a session of one part that succeeded and can be rolled back, in its bytes and back; and bytes that
-- spell no record, since a state has another number

abbrev pub example_id : SessionId
example_id = record { 0 = 5 }

abbrev pub example : Record
example = record {
  id = example_id;
  children = [];
  kind = WithRollback;
  parts = record { name = codes "a"; version = Some 2; target = targets.Module example_id 0 2 } ∷ [];
  print = codes "P";
  state = state.Success;
  cause = None;
  activation = 2;
  rollback = Some Available;
  moment = 2000;
}

-- state, kind, rollback, moment, activation boot, fingerprint, cause, and the numbers of parts and children
abbrev pub example_front : List ℕ
example_front =
    5 ∷ 2 ∷ 0 ∷ 0 ∷ 0 ∷ 0 ∷ 2 ∷ 0 ∷ 0 ∷ 0 ∷ 0 ∷ 0 ∷ 0 ∷ 7 ∷ 208 ∷ 0 ∷ 0 ∷ 0 ∷ 2 ∷ 1 ∷ 80 ∷ 0 ∷ 1 ∷ 0 ∷ []

-- no child, name, version, target
abbrev pub example_part : List ℕ
example_part = 0 ∷ 0 ∷ 0 ∷ 0 ∷ 1 ∷ 97 ∷ 0 ∷ 0 ∷ 0 ∷ 0 ∷ 0 ∷ 0 ∷ 0 ∷ 2 ∷ 1 ∷ 0 ∷ 0 ∷ 0 ∷ 5 ∷ 0 ∷ 0 ∷ 0 ∷ 0 ∷ 0 ∷ 0 ∷ 0 ∷ 0 ∷ 2 ∷ []

pub example_spelled : record_text example ≡ example_front ++ example_part
unfolding record_text
example_spelled = refl

pub example_read : record_of example_id (example_front ++ example_part) ≡ Some example
unfolding record_of state_at kind_at rollback_at moment_at number_at bytes_at print_at cause_at parts_at part_at name_at short_at target_at module_at is_short_text
example_read = refl

pub no_such_state : record_of example_id (9 ∷ example_part) ≡ None
unfolding record_of state_at
no_such_state = refl
