-- What is spelled is read again, so that no bytes spell two records of one id. Callers want `record_again` and
-- `same_record`.
use Rattle.std.proofs.Common.{◌≡◌, ◌⊎◌, ℕ, ◌<◌, ◌^◌, Bool, true, cond, eqb, IsTrue, List, [], ◌∷◌, ◌++◌, length, map, Option, Some, None, IfSome, sym, ap, ◌∙◌, refl, inl, inr, arith}
use Rattle.std.specs.Int.{w32, w64, to_be_bytes}
use Rattle.std.specs.List.{AllByRecursion, list_all}
use Rattle.std.proofs.lemmas.Bool.{le-ltb, ne_eqb, eq-eqb, le-leb}
use Rattle.std.proofs.lemmas.List.{length-append, take_at, drop_at}
use Rattle.std.proofs.lemmas.Nat.{from_be_bytes-to_be_bytes_4, from_be_bytes-to_be_bytes_8}
use Rattle.apex_base.specs.declared.numbers.SessionId.{SessionId}
use Rattle.apex_base.specs.declared.records.Case.{Case}
use Rattle.apex_base.specs.declared.records.Case.TheVariants.{NotInImage, BelowPreinstalled, KeyDiffers, Unsound, NoMount}
use Rattle.apex_base.specs.declared.records.Cause.{Cause}
use Rattle.apex_base.specs.declared.records.Cause.TheVariants as causes
use Rattle.apex_base.specs.declared.records.Kind.{Kind}
use Rattle.apex_base.specs.declared.records.Kind.TheVariants.{Plain, WithRollback, RollbackOf}
use Rattle.apex_base.specs.declared.records.Part.{Part}
use Rattle.apex_base.specs.declared.records.Record.{Record}
use Rattle.apex_base.specs.declared.records.RollbackState.{RollbackState}
use Rattle.apex_base.specs.declared.records.RollbackState.TheVariants.{Enabling, Available, Committed, Deleted}
use Rattle.apex_base.specs.declared.records.State.{State}
use Rattle.apex_base.specs.declared.records.State.TheVariants as state
use Rattle.apex_base.specs.declared.records.Target.{Target}
use Rattle.apex_base.specs.declared.records.Target.TheVariants as targets
use Rattle.apex_base.specs.Moves.{state_number}
use Rattle.apex_base.specs.Numbers.{version_of, millis_of}
use Rattle.apex_base.specs.Ranges.{IsVersion, IsMillis}
use Rattle.apex_base.specs.Reading.{bytes_at, number_at, four_text, eight_text, short_text, short_at}
use Rattle.apex_base.specs.Spelling.{state_at, kind_text, kind_at, rollback_number, rollback_at, name_at, print_at, moment_at, case_number, cause_text, superseded_at, case_at, cause_at, target_text, module_at, target_at, version_number, version_of_number, part_text, part_at, parts_text, parts_at, children_of, record_text, record_of, IsId, IsKind, IsCause, IsTarget, IsPart, IsRecord, Spells}
use Rattle.apex_base.specs.Text.{is_name, is_print}

-- Numbers and texts

some_if : {X : Type 0} (b : Bool) (x : X) → IsTrue b → cond b (Some x) None ≡ Some x
some_if {X} b x h = ap (λ (b : Bool). cond {A = Option X} b (Some x) None) h

pub bytes_again : (n : ℕ) (xs rest : List ℕ) → length xs ≡ n → bytes_at n (xs ++ rest) ≡ Some (xs, rest)
unfolding bytes_at
bytes_again n xs rest e = rw (
  le-ltb (length (xs ++ rest)) n (omega (arith, length-append xs rest, e)),
  take_at xs rest n e,
  drop_at xs rest n e,
) refl

pub four_again : (n : ℕ) (rest : List ℕ) → n < 2 ^ 32 → number_at w32 (four_text n rest) ≡ Some (n, rest)
unfolding number_at
four_again n rest l = rw (bytes_again 4 (to_be_bytes w32 n) rest refl, from_be_bytes-to_be_bytes_4 n l) refl

pub eight_again : (n : ℕ) (rest : List ℕ) → n < 2 ^ 64 → number_at w64 (eight_text n rest) ≡ Some (n, rest)
unfolding number_at
eight_again n rest l = rw (bytes_again 8 (to_be_bytes w64 n) rest refl, from_be_bytes-to_be_bytes_8 n l) refl

pub short_again : (xs rest : List ℕ) → short_at (short_text xs rest) ≡ Some (xs, rest)
unfolding short_at
short_again xs rest = bytes_again (length xs) xs rest refl

pub name_again : (name rest : List ℕ) → IsTrue (is_name name) → name_at (short_text name rest) ≡ Some (name, rest)
unfolding name_at
name_again name rest h = rw (short_again name rest, some_if (is_name name) name h) refl

pub print_again : (print rest : List ℕ) → IsTrue (is_print print)
    → print_at (short_text print rest) ≡ Some (print, rest)
unfolding print_at
print_again print rest h = rw (short_again print rest, some_if (is_print print) print h) refl

millis_again : (n : ℕ) → IsMillis n → millis_of n ≡ Some n
millis_again n l = rw (le-leb n 9007199254740991 l) refl

pub moment_again : (n : ℕ) (rest : List ℕ) → IsMillis n → moment_at (eight_text n rest) ≡ Some (n, rest)
unfolding moment_at
moment_again n rest l = rw (eight_again n rest (omega (arith, l)), millis_again n l) refl

version_again : (n : ℕ) → IsVersion n → version_of n ≡ Some n
version_again n (low, high) = rw (le-leb 1 n low, le-leb n 9223372036854775807 high) refl

-- States, kinds and rollbacks

pub state_again : (s : State) (rest : List ℕ) → state_at (state_number s ∷ rest) ≡ Some (s, rest)
unfolding state_at
state_again state.Verified rest = refl
state_again state.Staged rest = refl
state_again state.Activated rest = refl
state_again state.ActivationFailed rest = refl
state_again state.Success rest = refl
state_again state.RevertInProgress rest = refl
state_again state.Reverted rest = refl
state_again state.Aborted rest = refl

pub rollback_again : (o : Option RollbackState) (rest : List ℕ)
    → rollback_at (rollback_number o ∷ rest) ≡ Some (o, rest)
unfolding rollback_at
rollback_again None rest = refl
rollback_again (Some Enabling) rest = refl
rollback_again (Some Available) rest = refl
rollback_again (Some Committed) rest = refl
rollback_again (Some Deleted) rest = refl

pub kind_again : (k : Kind) (rest : List ℕ) → IsKind k → kind_at (kind_text k rest) ≡ Some (k, rest)
unfolding kind_at
kind_again Plain rest f = rw (four_again 0 rest (omega arith)) refl
kind_again WithRollback rest f = rw (four_again 0 rest (omega arith)) refl
kind_again (RollbackOf x) rest f = rw (four_again x.0 rest f) refl

-- Causes

case_again : (c : Case) (name rest : List ℕ) → IsTrue (is_name name)
    → case_at (case_number c ∷ short_text name rest) ≡ Some (Some (causes.Part name c), rest)
unfolding case_at
case_again NotInImage name rest h = rw (name_again name rest h) refl
case_again BelowPreinstalled name rest h = rw (name_again name rest h) refl
case_again KeyDiffers name rest h = rw (name_again name rest h) refl
case_again Unsound name rest h = rw (name_again name rest h) refl
case_again NoMount name rest h = rw (name_again name rest h) refl

pub cause_again : (c : Option Cause) (rest : List ℕ) → IsCause c → cause_at (cause_text c rest) ≡ Some (c, rest)
unfolding cause_at superseded_at
cause_again None rest f = refl
cause_again (Some causes.Reverted) rest f = refl
cause_again (Some causes.OtherBuild) rest f = refl
cause_again (Some (causes.Superseded id)) rest f = rw (four_again id.0 rest f) refl
cause_again (Some (causes.Part name case)) rest f = case_again case name rest f

-- Targets and parts

pub target_again : (t : Target) (rest : List ℕ) → IsTarget t → target_at (target_text t rest) ≡ Some (t, rest)
unfolding target_at module_at
target_again targets.Preinstalled rest f = refl
target_again (targets.Module session part version) rest (s, p, v) =
    rw (
      four_again session.0 (part ∷ eight_text version rest) s,
      eight_again version rest (omega (arith, v.1)),
      version_again version v,
    ) refl

version_fits : (v : Option ℕ) → IfSome v IsVersion → version_number v < 2 ^ 64
version_fits None f = omega arith
version_fits (Some n) f = omega (arith, f.1)

number_again : (v : Option ℕ) → IfSome v IsVersion → version_of_number (version_number v) ≡ Some v
number_again None f = refl
number_again (Some n) f = rw (ne_eqb n 0 (λ e. omega (arith, f.0, e)), version_again n f) refl

pub part_again : (p : Part) (rest : List ℕ) → IsPart p → part_at (part_text p rest) ≡ Some (p, rest)
unfolding part_at
part_again p rest f =
    rw (
      name_again p.name (eight_text (version_number p.version) (target_text p.target rest)) f.name,
      eight_again (version_number p.version) (target_text p.target rest) (version_fits p.version f.version),
      number_again p.version f.version,
      target_again p.target rest f.target,
    ) refl

-- each part with the id of its child
abbrev with_children : List SessionId → List Part → List (ℕ × Part)
with_children cs [] = []
with_children [] (p ∷ ps) = (0, p) ∷ with_children [] ps
with_children (c ∷ cs) (p ∷ ps) = (c.0, p) ∷ with_children cs ps

parts_again : (cs : List SessionId) (ps : List Part) (rest : List ℕ) → AllByRecursion IsPart ps → AllByRecursion IsId cs
    → parts_at (length ps) (parts_text cs ps rest) ≡ Some (with_children cs ps, rest)
unfolding parts_at
parts_again cs [] rest f g = refl
parts_again [] (p ∷ ps) rest f g = rw (
  four_again 0 (part_text p (parts_text [] ps rest)) (omega arith),
  part_again p (parts_text [] ps rest) f.0,
  parts_again [] ps rest f.1 tt,
) refl
parts_again (c ∷ cs) (p ∷ ps) rest f g = rw (
  four_again c.0 (part_text p (parts_text cs ps rest)) g.0,
  part_again p (parts_text cs ps rest) f.0,
  parts_again cs ps rest f.1 g.1,
) refl

parts_left : (cs : List SessionId) (ps : List Part) → map (λ (x : ℕ × Part). x.1) (with_children cs ps) ≡ ps
parts_left cs [] = refl
parts_left [] (p ∷ ps) = ap (λ (qs : List Part). p ∷ qs) (parts_left [] ps)
parts_left (c ∷ cs) (p ∷ ps) = ap (λ (qs : List Part). p ∷ qs) (parts_left cs ps)

none_given : (ps : List Part) → list_all (λ (x : ℕ × Part). eqb x.0 0) (with_children [] ps) ≡ true
none_given [] = refl
none_given (p ∷ ps) = none_given ps

all_given : (cs : List SessionId) (ps : List Part) → length cs ≡ length ps
    → map (λ (x : ℕ × Part). record { 0 = x.0 }) (with_children cs ps) ≡ cs
all_given [] [] e = refl
all_given [] (p ∷ ps) e = absurd (omega arith)
all_given (c ∷ cs) [] e = absurd (omega arith)
all_given (c ∷ cs) (p ∷ ps) e = ap (λ (ds : List SessionId). c ∷ ds) (all_given cs ps (omega arith))

children_again : (cs : List SessionId) (ps : List Part) → (cs ≡ []) ⊎ (length cs ≡ length ps)
    → children_of (length cs) (length ps) (with_children cs ps) ≡ Some cs
children_again [] ps f = rw (none_given ps) refl
children_again (c ∷ cs) ps (inl e) = absurd (cc)
children_again (c ∷ cs) ps (inr e) = rw (
  ne_eqb (length (c ∷ cs)) 0 (λ e. omega arith),
  eq-eqb (length (c ∷ cs)) (length ps) e,
  all_given (c ∷ cs) ps e,
) refl

-- Records

-- what is spelled is read again
pub record_again : (r : Record) → IsRecord r → record_of r.id (record_text r) ≡ Some r
unfolding record_text record_of
record_again r f =
    let ps = parts_text r.children r.parts [] in
    rw (
      state_again r.state _,
      kind_again r.kind (rollback_number r.rollback ∷ eight_text r.moment (four_text r.activation (short_text r.print
          (cause_text r.cause (length r.parts ∷ length r.children ∷ ps))))) f.kind,
      rollback_again r.rollback _,
      moment_again r.moment _ f.moment,
      four_again r.activation _ f.activation,
      print_again r.print _ f.print,
      cause_again r.cause _ f.cause,
      parts_again r.children r.parts [] f.parts f.children,
      children_again r.children r.parts f.count,
      parts_left r.children r.parts,
    ) refl

some_is : {A : Type 0} (x y : A) → Some x ≡ Some y → x ≡ y
some_is x y e = cc

-- no bytes spell two records of one id
pub same_record : (bytes : List ℕ) (r s : Record) → r.id ≡ s.id → Spells bytes r → Spells bytes s → r ≡ s
same_record bytes r s e p q =
    some_is r s (sym (ap (record_of r.id) p.is_text ∙ record_again r p.is_record)
    ∙ ap (λ (id : SessionId). record_of id bytes) e ∙ ap (record_of s.id) q.is_text ∙ record_again s q.is_record)
