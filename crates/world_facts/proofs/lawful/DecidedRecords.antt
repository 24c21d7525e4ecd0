-- The tests of a record's ranges decide them. Callers want `record_decides` and `millis_decides`.
use Rattle.std.proofs.Common.{◌≡◌, ℕ, Bool, true, false, cond, length, Option, Some, None}
use Rattle.std.proofs.Common.{is_some, IfSome, refl, Decides}
use Rattle.std.proofs.lemmas.Bool.Decides.{Decides-at, Decides-and, Decides-or, Decides-eqb, Decides-ltb}
use Rattle.apex_base.specs.declared.numbers.SessionId.{SessionId}
use Rattle.apex_base.specs.declared.records.Cause.{Cause}
use Rattle.apex_base.specs.declared.records.Cause.TheVariants as causes
use Rattle.apex_base.specs.declared.records.Kind.{Kind}
use Rattle.apex_base.specs.declared.records.Kind.TheVariants.{Plain, WithRollback, RollbackOf}
use Rattle.apex_base.specs.declared.records.Part.{Part}
use Rattle.apex_base.specs.declared.records.Record.{Record}
use Rattle.apex_base.specs.declared.records.Target.{Target}
use Rattle.apex_base.specs.declared.records.Target.TheVariants as targets
use Rattle.apex_base.specs.Ranges.{IsVersion, IsMillis}
use Rattle.apex_base.specs.Spelling.{IsId, IsKind, IsCause, IsTarget, IsPart, IsRecord}
use Rattle.apex_base.specs.Text.{is_name, is_print}
use Rattle.apex_world.specs.Decided.{fits_width, is_kind, is_cause, is_version, is_millis, is_some_version}
use Rattle.apex_world.specs.Decided.{is_good_target, is_good_part, is_record}
use Rattle.world_facts.proofs.facts.DecidedTests.{itself, at_most, all_decide, none_decides}

-- Numbers

-- the test of the width of an id
width_decides : (id : SessionId) → Decides (fits_width id) (IsId id)
width_decides id = Decides-ltb id.0 4294967296

-- what is there if a test passes is there if it does
there_if : {X : Type 0} (b : Bool) (x : X) → is_some (cond b (Some x) None) ≡ b
there_if true x = refl
there_if false x = refl

-- the test of the range of a version
version_range_decides : (n : ℕ) → Decides (is_version n) (IsVersion n)
version_range_decides n = Decides-at _ _ (there_if _ n) (Decides-and _ _ (at_most 1 n) (at_most n 9223372036854775807))

-- the test of the range of a moment
pub millis_decides : (n : ℕ) → Decides (is_millis n) (IsMillis n)
millis_decides n = Decides-at _ _ (there_if _ n) (at_most n 9007199254740991)

-- the same where there may be no version
some_version_range_decides : (o : Option ℕ) → Decides (is_some_version o) (IfSome o IsVersion)
some_version_range_decides None = (λ e. tt, λ h. refl)
some_version_range_decides (Some n) = version_range_decides n

-- Parts of a record

-- the test of the ids in a kind
kind_decides : (kind : Kind) → Decides (is_kind kind) (IsKind kind)
kind_decides Plain = (λ e. tt, λ h. refl)
kind_decides WithRollback = (λ e. tt, λ h. refl)
kind_decides (RollbackOf x) = width_decides x

-- the test of the ids and names in a cause
cause_decides : (cause : Option Cause) → Decides (is_cause cause) (IsCause cause)
cause_decides None = (λ e. tt, λ h. refl)
cause_decides (Some causes.Reverted) = (λ e. tt, λ h. refl)
cause_decides (Some causes.OtherBuild) = (λ e. tt, λ h. refl)
cause_decides (Some (causes.Superseded id)) = width_decides id
cause_decides (Some (causes.Part name case)) = itself (is_name name)

-- the test of the numbers in a target
target_range_decides : (target : Target) → Decides (is_good_target target) (IsTarget target)
target_range_decides targets.Preinstalled = (λ e. tt, λ h. refl)
target_range_decides (targets.Module session part version) =
    let d = Decides-and _ _ (width_decides session)
    (Decides-and _ _ (Decides-ltb part 256) (version_range_decides version)) in
    (λ e. let h = d.0 e in (h.0, h.1.0, h.1.1), λ h. d.1 (h.0, (h.1, h.2)))

-- the test of the name and numbers in a part
part_range_decides : (p : Part) → Decides (is_good_part p) (IsPart p)
part_range_decides p =
    let d = Decides-and _ _ (itself (is_name p.name))
    (Decides-and _ _ (some_version_range_decides p.version) (target_range_decides p.target)) in (
      λ e. let h = d.0 e in record { name = h.0; version = h.1.0; target = h.1.1 },
      λ h. d.1 (h.name, (h.version, h.target)),
    )

-- Records

-- the test of a record decides that it is one
pub record_decides : (r : Record) → Decides (is_record r) (IsRecord r)
record_decides r =
    let d = Decides-and _ _ (width_decides r.id)
    (Decides-and _ _ (kind_decides r.kind)
    (Decides-and _ _ (millis_decides r.moment)
    (Decides-and _ _ (Decides-ltb r.activation 4294967296)
    (Decides-and _ _ (itself (is_print r.print))
    (Decides-and _ _ (cause_decides r.cause)
    (Decides-and _ _ (all_decide is_good_part IsPart part_range_decides r.parts)
    (Decides-and _ _ (Decides-ltb (length r.parts) 256)
    (Decides-and _ _ (all_decide fits_width IsId width_decides r.children)
    (Decides-or _ _ (none_decides r.children) (Decides-eqb (length r.children) (length r.parts))))))))))) in (
      λ e. let (id, (kind, (moment, (activation, (print, (cause, (parts, (few, (children, count))))))))) = d.0 e in
          record {
            id = id;
            kind = kind;
            moment = moment;
            activation = activation;
            print = print;
            cause = cause;
            parts = parts;
            few = few;
            children = children;
            count = count;
          },
      λ h. d.1
          (h.id, (h.kind, (h.moment, (h.activation, (h.print, (h.cause, (h.parts, (h.few, (h.children, h.count))))))))),
    )
