-- What is read as a record has names, whatever the numbers that are read: `read_texts`.
use Rattle.std.proofs.Common.{ℕ, zero, suc, eqb, IsTrue, List, [], ◌∷◌, map, Some, None}
use Rattle.std.specs.Prelude.{IfSome}
use Rattle.std.specs.Int.{w32, w64}
use Rattle.std.specs.List.{AllByRecursion}
use Rattle.apex_base.specs.declared.numbers.SessionId.{SessionId}
use Rattle.apex_base.specs.declared.records.Cause.TheVariants as causes
use Rattle.apex_base.specs.declared.records.Part.{Part}
use Rattle.apex_base.specs.Reading.{byte_at, number_at, short_at}
use Rattle.apex_base.specs.Spelling.{name_at, print_at, moment_at, state_at, kind_at, rollback_at, cause_at, case_at}
use Rattle.apex_base.specs.Spelling.{case_of_number, superseded_at, version_of_number, target_at, part_at, parts_at}
use Rattle.apex_base.specs.Spelling.{children_of, record_of}
use Rattle.apex_base.specs.Text.{is_name, is_print, name_of, print_of}
use Rattle.row_check.proofs.OpenedRecords.{any_holds, end_holds}
use Rattle.session_record.proofs.Steps.{bind_holds}
use Rattle.session_record.proofs.Took.{if_holds, taken_holds, chosen_holds}
use Rattle.world_check.proofs.FitTexts.{NamesPart, HasName, HasTexts}

name_read : (bytes : List ℕ) → IfSome (name_at bytes) (λ x. IsTrue (is_name x.0))
unfolding name_at
name_read bytes =
    any_holds (short_at bytes) _ _ (λ text. bind_holds (name_of text.0) _ (λ name. IsTrue (is_name name)) _
    (taken_holds (is_name text.0) text.0 _ (λ e. e)) (λ name named. named))

print_read : (bytes : List ℕ) → IfSome (print_at bytes) (λ x. IsTrue (is_print x.0))
unfolding print_at
print_read bytes =
    any_holds (short_at bytes) _ _ (λ text. bind_holds (print_of text.0) _ (λ print. IsTrue (is_print print)) _
    (taken_holds (is_print text.0) text.0 _ (λ e. e)) (λ print printed. printed))

superseded_read : (bytes : List ℕ) → IfSome (superseded_at bytes) (λ x. NamesPart x.0)
unfolding superseded_at
superseded_read bytes = any_holds (number_at w32 bytes) _ _ (λ id. tt)

case_read : (bytes : List ℕ) → IfSome (case_at bytes) (λ x. NamesPart x.0)
unfolding case_at
case_read bytes =
    any_holds (byte_at bytes) _ _ (λ n. any_holds (case_of_number n.0) _ _ (λ case.
    bind_holds (name_at n.1) _ _ _ (name_read n.1) (λ name named. named)))

cause_read : (bytes : List ℕ) → IfSome (cause_at bytes) (λ x. NamesPart x.0)
unfolding cause_at
cause_read [] = tt
cause_read (n ∷ rest) =
    chosen_holds n 0 (None, rest) _ _ (λ e. tt)
    (chosen_holds n 1 (Some causes.Reverted, rest) _ _ (λ e. tt)
    (chosen_holds n 2 (Some causes.OtherBuild, rest) _ _ (λ e. tt)
    (if_holds (eqb n 3) (superseded_at rest) _ _ (λ e. superseded_read rest)
    (λ _. if_holds (eqb n 4) (case_at rest) None _ (λ e. case_read rest) (λ _. tt)))))

part_read : (bytes : List ℕ) → IfSome (part_at bytes) (λ x. HasName x.0)
unfolding part_at
part_read bytes =
    bind_holds (name_at bytes) _ _ _ (name_read bytes) (λ name named. any_holds (number_at w64 name.1) _ _ (λ n.
    any_holds (version_of_number n.0) _ _ (λ version. any_holds (target_at n.1) _ _ (λ target. named))))

parts_read : (n : ℕ) (bytes : List ℕ)
    → IfSome (parts_at n bytes) (λ x. AllByRecursion HasName (map (λ (y : ℕ × Part). y.1) x.0))
unfolding parts_at
parts_read zero bytes = tt
parts_read (suc n) bytes =
    any_holds (number_at w32 bytes) _ _ (λ child.
    bind_holds (part_at child.1) _ _ _ (part_read child.1) (λ part named.
    bind_holds (parts_at n part.1) _ _ _ (parts_read n part.1) (λ parts more. (named, more))))

pub read_texts : (id : SessionId) (bytes : List ℕ) → IfSome (record_of id bytes) HasTexts
unfolding record_of
read_texts id bytes =
    any_holds (state_at bytes) _ _ (λ phase. any_holds (kind_at phase.1) _ _ (λ kind.
    any_holds (rollback_at kind.1) _ _ (λ rollback. any_holds (moment_at rollback.1) _ _ (λ moment.
    any_holds (number_at w32 moment.1) _ _ (λ activation.
    bind_holds (print_at activation.1) _ _ _ (print_read activation.1) (λ print printed.
    bind_holds (cause_at print.1) _ _ _ (cause_read print.1) (λ cause caused.
    any_holds (byte_at cause.1) _ _ (λ count. any_holds (byte_at count.1) _ _ (λ few.
    bind_holds (parts_at count.0 few.1) _ _ _ (parts_read count.0 few.1) (λ parts named.
    any_holds (children_of few.0 count.0 parts.0) _ _ (λ children.
    end_holds _ parts.1 _ (record { printed = printed; caused = caused; named = named }))))))))))))
