-- What a record is spelled by is bytes. Callers want `record_fit`, `boots_fit` and `fit_bytes`.
use Rattle.std.proofs.Common.{◌≡◌, ℕ, zero, suc, ◌<◌, Bool, true, IsTrue, List, [], ◌∷◌, ◌++◌, length}
use Rattle.std.proofs.Common.{get_or, Option, Some, None, inl, inr, arith, leb}
use Rattle.std.specs.Int.{w32, w64, to_be_bytes, bytes_high_first, byte_at}
use Rattle.std.specs.List.{AllByRecursion, list_all}
use Rattle.std.proofs.lemmas.Bool.{and_parts, leb-true}
use Rattle.std.proofs.lemmas.Bool.Decides.{nat_tests}
use Rattle.apex_base.specs.declared.numbers.SessionId.{SessionId}
use Rattle.apex_base.specs.declared.records.Case.{Case}
use Rattle.apex_base.specs.declared.records.Case.TheVariants.{NotInImage, BelowPreinstalled, KeyDiffers, Unsound, NoMount}
use Rattle.apex_base.specs.declared.records.Cause.{Cause}
use Rattle.apex_base.specs.declared.records.Cause.TheVariants as causes
use Rattle.apex_base.specs.declared.records.Kind.{Kind}
use Rattle.apex_base.specs.declared.records.Kind.TheVariants.{Plain, WithRollback, RollbackOf}
use Rattle.apex_base.specs.declared.records.Part.{Part}
use Rattle.apex_base.specs.declared.records.Record.{Record}
use Rattle.apex_base.specs.declared.records.RollbackState.{RollbackState}
use Rattle.apex_base.specs.declared.records.RollbackState.TheVariants.{Enabling, Available, Committed, Deleted}
use Rattle.apex_base.specs.declared.records.State.{State}
use Rattle.apex_base.specs.declared.records.State.TheVariants as state
use Rattle.apex_base.specs.declared.records.Target.{Target}
use Rattle.apex_base.specs.declared.records.Target.TheVariants as targets
use Rattle.apex_base.specs.Moves.{state_number}
use Rattle.apex_base.specs.Reading.{four_text, eight_text, short_text}
use Rattle.apex_base.specs.Spelling.{kind_text, rollback_number, case_number, cause_text, target_text, part_text}
use Rattle.apex_base.specs.Spelling.{version_number, parts_text, record_text}
use Rattle.apex_base.specs.Text.{is_name_byte, is_print_byte, is_short_text, is_name, is_print}
use Rattle.apex_world.specs.Rows.{moments_text, boots_text}
use Rattle.session_record.specs.Room.{HasPartNumber, HasRoom}

abbrev pub Fit : List ℕ → Type 0
Fit bytes = AllByRecursion (λ b. b < 256) bytes

-- each byte of them fits
pub fit_bytes : (bytes : List ℕ) → Fit bytes → (i : ℕ) → get_or bytes i 0 < 256
fit_bytes [] fit i = omega arith
fit_bytes (b ∷ bytes) fit zero = fit.0
fit_bytes (b ∷ bytes) fit (suc i) = fit_bytes bytes fit.1 i

fit_append : (xs ys : List ℕ) → Fit xs → Fit ys → Fit (xs ++ ys)
fit_append [] ys fit more = more
fit_append (x ∷ xs) ys fit more = (fit.0, fit_append xs ys fit.1 more)

-- Numbers

one_byte : (i n : ℕ) → byte_at i n < 256
one_byte zero n = omega arith
one_byte (suc i) n = omega arith

number_fit : (k n : ℕ) → Fit (bytes_high_first k n)
number_fit zero n = tt
number_fit (suc k) n = (one_byte k n, number_fit k n)

four_fit : (n : ℕ) (rest : List ℕ) → Fit rest → Fit (four_text n rest)
four_fit n rest fit = fit_append (to_be_bytes w32 n) rest (number_fit 4 n) fit

eight_fit : (n : ℕ) (rest : List ℕ) → Fit rest → Fit (eight_text n rest)
eight_fit n rest fit = fit_append (to_be_bytes w64 n) rest (number_fit 8 n) fit

-- so many boots, and their moments
moments_fit : (ms : List ℕ) → Fit (moments_text ms)
moments_fit [] = tt
moments_fit (m ∷ ms) = fit_append (eight_text m []) (moments_text ms) (eight_fit m [] tt) (moments_fit ms)

pub boots_fit : (n : ℕ) (ms : List ℕ) → length ms < 256 → Fit (boots_text n ms)
boots_fit n ms few = four_fit n (length ms ∷ moments_text ms) (few, moments_fit ms)

-- Names and fingerprints

print_byte : (b : ℕ) → is_print_byte b ≡ true → b < 256
print_byte b e = let most = leb-true b 126 (and_parts (leb 33 b) (leb b 126) e).1 in omega (arith, most)

name_byte : (b : ℕ) → is_name_byte b ≡ true → b < 256
name_byte b e = grind (arith, nat_tests, e)

all_fit : (pass : ℕ → Bool) → ((b : ℕ) → pass b ≡ true → b < 256) → (bytes : List ℕ) → list_all pass bytes ≡ true
    → Fit bytes
all_fit pass low [] e = tt
all_fit pass low (b ∷ bytes) e =
    let t = and_parts (pass b) (list_all pass bytes) e in (low b t.0, all_fit pass low bytes t.1)

text_fit : (pass : ℕ → Bool) → ((b : ℕ) → pass b ≡ true → b < 256) → (text rest : List ℕ)
    → IsTrue (is_short_text pass text) → Fit rest → Fit (short_text text rest)
unfolding is_short_text
text_fit pass low text rest e fit =
    let t = and_parts _ (list_all pass text) e in
    let most = leb-true (length text) 64 (and_parts _ (leb (length text) 64) t.0).1 in
    (omega (arith, most), fit_append text rest (all_fit pass low text t.1) fit)

name_fit : (name rest : List ℕ) → IsTrue (is_name name) → Fit rest → Fit (short_text name rest)
name_fit name rest = text_fit is_name_byte name_byte name rest

print_fit : (print rest : List ℕ) → IsTrue (is_print print) → Fit rest → Fit (short_text print rest)
print_fit print rest = text_fit is_print_byte print_byte print rest

-- Fields

state_fit : (s : State) → state_number s < 256
state_fit state.Verified = omega arith
state_fit state.Staged = omega arith
state_fit state.Activated = omega arith
state_fit state.ActivationFailed = omega arith
state_fit state.Success = omega arith
state_fit state.RevertInProgress = omega arith
state_fit state.Reverted = omega arith
state_fit state.Aborted = omega arith

kind_fit : (k : Kind) (rest : List ℕ) → Fit rest → Fit (kind_text k rest)
kind_fit Plain rest fit = (omega arith, four_fit 0 rest fit)
kind_fit WithRollback rest fit = (omega arith, four_fit 0 rest fit)
kind_fit (RollbackOf x) rest fit = (omega arith, four_fit x.0 rest fit)

rollback_fit : (o : Option RollbackState) → rollback_number o < 256
rollback_fit None = omega arith
rollback_fit (Some Enabling) = omega arith
rollback_fit (Some Available) = omega arith
rollback_fit (Some Committed) = omega arith
rollback_fit (Some Deleted) = omega arith

case_fit : (c : Case) → case_number c < 256
case_fit NotInImage = omega arith
case_fit BelowPreinstalled = omega arith
case_fit KeyDiffers = omega arith
case_fit Unsound = omega arith
case_fit NoMount = omega arith

-- a cause that speaks of a part names it
abbrev pub NamesPart : Option Cause → Type 0
NamesPart (Some (causes.Part name case)) = IsTrue (is_name name)
NamesPart _ = Unit {0}

cause_fit : (c : Option Cause) (rest : List ℕ) → NamesPart c → Fit rest → Fit (cause_text c rest)
cause_fit None rest named fit = (omega arith, fit)
cause_fit (Some causes.Reverted) rest named fit = (omega arith, fit)
cause_fit (Some causes.OtherBuild) rest named fit = (omega arith, fit)
cause_fit (Some (causes.Superseded id)) rest named fit = (omega arith, four_fit id.0 rest fit)
cause_fit (Some (causes.Part name case)) rest named fit = (omega arith, (case_fit case, name_fit name rest named fit))

target_fit : (t : Target) (rest : List ℕ) → HasPartNumber t → Fit rest → Fit (target_text t rest)
target_fit targets.Preinstalled rest small fit = (omega arith, fit)
target_fit (targets.Module session part version) rest small fit =
    (omega arith, four_fit session.0 (part ∷ eight_text version rest) (small, eight_fit version rest fit))

-- Parts and records

abbrev pub HasName : Part → Type 0
HasName p = IsTrue (is_name p.name)

part_fit : (p : Part) (rest : List ℕ) → HasName p → HasPartNumber p.target → Fit rest → Fit (part_text p rest)
part_fit p rest named small fit =
    name_fit p.name (eight_text (version_number p.version) (target_text p.target rest)) named
    (eight_fit (version_number p.version) (target_text p.target rest) (target_fit p.target rest small fit))

parts_fit : (cs : List SessionId) (ps : List Part) → AllByRecursion HasName ps
    → AllByRecursion (λ p. HasPartNumber p.target) ps → Fit (parts_text cs ps [])
parts_fit cs [] named small = tt
parts_fit [] (p ∷ ps) named small =
    four_fit 0 (part_text p (parts_text [] ps [])) (part_fit p (parts_text [] ps []) named.0 small.0
    (parts_fit [] ps named.1 small.1))
parts_fit (c ∷ cs) (p ∷ ps) named small =
    four_fit c.0 (part_text p (parts_text cs ps [])) (part_fit p (parts_text cs ps []) named.0 small.0
    (parts_fit cs ps named.1 small.1))

-- the texts of a record are such
pub record HasTexts (r : Record) : Type 0 where
  pub printed : IsTrue (is_print r.print)
  pub caused : NamesPart r.cause
  pub named : AllByRecursion HasName r.parts

few_children : (r : Record) → HasRoom r → length r.children < 256
few_children r room = let few = room.few in elim room.count [
  | inl none ↦ rw none (omega arith)
  | inr same ↦ omega (arith, few, same)
]

pub record_fit : (r : Record) → HasRoom r → HasTexts r → Fit (record_text r)
unfolding record_text
record_fit r room has =
    let parts = parts_fit r.children r.parts has.named room.numbers in
    let counts = length r.parts ∷ length r.children ∷ parts_text r.children r.parts [] in
    let cause = cause_text r.cause counts in
    let print = short_text r.print cause in
    let boot = four_text r.activation print in
    let fit = print_fit r.print cause has.printed
    (cause_fit r.cause counts has.caused (room.few, (few_children r room, parts))) in (
      state_fit r.state,
      kind_fit r.kind (rollback_number r.rollback ∷ eight_text r.moment boot)
          (rollback_fit r.rollback, eight_fit r.moment boot (four_fit r.activation print fit)),
    )
