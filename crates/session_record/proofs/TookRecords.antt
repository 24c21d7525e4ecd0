-- Records: what was read is spelled so.
use Rattle.std.proofs.Common.{◌≡◌, ◌⊎◌, ℕ, zero, suc, ◌^◌, ◌<◌, ◌&&◌, Bool, true, false, eqb, List, [], ◌∷◌, length, map, Option, Some, None, refl, inl, inr, sym, ap, subst, ◌∙◌, arith}
use Rattle.std.specs.Prelude.{IfSome, IfNone}
use Rattle.std.specs.Int.{w32}
use Rattle.std.specs.List.{AllByRecursion, list_all}
use Rattle.std.proofs.lemmas.Bool.{eqb-true}
use Rattle.apex_base.specs.declared.numbers.SessionId.{SessionId}
use Rattle.apex_base.specs.declared.records.Part.{Part}
use Rattle.apex_base.specs.declared.records.Record.{Record}
use Rattle.apex_base.specs.Moves.{state_number}
use Rattle.apex_base.specs.Reading.{byte_at, number_at, four_text, eight_text, short_text, at_end}
use Rattle.apex_base.specs.Spelling.{state_at, kind_text, kind_at, rollback_number, rollback_at, print_at, moment_at, cause_text, cause_at, part_text, part_at, parts_text, parts_at, children_of, record_text, record_of, IsId, IsPart, Spells}
use Rattle.apex_base.proofs.SpellingLemmas.{record_again}
use Rattle.apex_base.proofs.ByteLists.{AreBytes}
use Rattle.session_record.proofs.Steps.{bind_holds, Took}
use Rattle.session_record.proofs.Took.{if_holds, taken_holds, byte_took, four_took, print_took, moment_took}
use Rattle.session_record.proofs.TookFields.{state_took, kind_took, rollback_took, cause_took, part_took}

-- parts, each after the id of its child
abbrev pairs_text : List (ℕ × Part) → List ℕ → List ℕ
pairs_text [] rest = rest
pairs_text (x ∷ xs) rest = four_text x.0 (part_text x.1 (pairs_text xs rest))

record TookParts (n : ℕ) (bytes : List ℕ) (xs : List (ℕ × Part)) (rest : List ℕ) : Type 0 where
  count : length xs ≡ n
  text : Took bytes (pairs_text xs rest) rest
  ids : AllByRecursion (λ x. x.0 < 2 ^ 32) xs
  parts : AllByRecursion (λ x. IsPart x.1) xs

parts_took : (n : ℕ) (bytes : List ℕ) → AreBytes bytes
    → IfSome (parts_at n bytes) (λ x. TookParts n bytes x.0 x.1)
unfolding parts_at
parts_took zero bytes fits =
    let text : Took bytes bytes bytes = record { is = refl; rest_fits = fits } in
    record { count = refl; text = text; ids = tt; parts = tt }
parts_took (suc n) bytes fits =
    bind_holds (number_at w32 bytes) _ _ _ (four_took bytes fits) (λ id t.
    bind_holds (part_at id.1) _ _ _ (part_took id.1 t.0.rest_fits) (λ part u.
    bind_holds (parts_at n part.1) _ _ _ (parts_took n part.1 u.0.rest_fits) (λ more v.
    record {
      count = ap suc v.count;
      text = record {
        is = t.0.is ∙ ap (λ (xs : List ℕ). four_text id.0 xs) u.0.is
            ∙ ap (λ (xs : List ℕ). four_text id.0 (part_text part.0 xs)) v.text.is;
        rest_fits = v.text.rest_fits;
      };
      ids = (t.1, v.ids);
      parts = (u.1, v.parts);
    })))

abbrev parts_of : List (ℕ × Part) → List Part
parts_of xs = map (λ x. x.1) xs

abbrev ids_of : List (ℕ × Part) → List SessionId
ids_of xs = map (λ x. record { 0 = x.0 }) xs

-- the children among the parts
record AreChildren (few : ℕ) (xs : List (ℕ × Part)) (rest : List ℕ) (cs : List SessionId) : Type 0 where
  count : few ≡ length cs
  text : pairs_text xs rest ≡ parts_text cs (parts_of xs) rest
  ids : AllByRecursion IsId cs
  as_many : (cs ≡ []) ⊎ (length cs ≡ length (parts_of xs))

both : (a b : Bool) → a && b ≡ true → (a ≡ true) × (b ≡ true)
both true b e = (refl, e)
both false b e = absurd cc

zero_text : (xs : List (ℕ × Part)) (rest : List ℕ) → list_all (λ x. eqb x.0 0) xs ≡ true
    → pairs_text xs rest ≡ parts_text [] (parts_of xs) rest
zero_text [] rest e = refl
zero_text ((id, p) ∷ xs) rest e =
    let tests = both (eqb id 0) (list_all (λ x. eqb x.0 0) xs) e in
    rw (eqb-true _ _ tests.0) (ap (λ (t : List ℕ). four_text 0 (part_text p t)) (zero_text xs rest tests.1))

child_text : (xs : List (ℕ × Part)) (rest : List ℕ) → pairs_text xs rest ≡ parts_text (ids_of xs) (parts_of xs) rest
child_text [] rest = refl
child_text ((id, p) ∷ xs) rest = ap (λ (t : List ℕ). four_text id (part_text p t)) (child_text xs rest)

child_ids : (xs : List (ℕ × Part)) → AllByRecursion (λ x. x.0 < 2 ^ 32) xs → AllByRecursion IsId (ids_of xs)
child_ids [] h = tt
child_ids (x ∷ xs) h = (h.0, child_ids xs h.1)

ids_count : (xs : List (ℕ × Part)) → length (ids_of xs) ≡ length xs
ids_count [] = refl
ids_count (x ∷ xs) = ap suc (ids_count xs)

parts_count : (xs : List (ℕ × Part)) → length (parts_of xs) ≡ length xs
parts_count [] = refl
parts_count (x ∷ xs) = ap suc (parts_count xs)

parts_are : (xs : List (ℕ × Part)) → AllByRecursion (λ x. IsPart x.1) xs → AllByRecursion IsPart (parts_of xs)
parts_are [] h = tt
parts_are (x ∷ xs) h = (h.0, parts_are xs h.1)

children_took : (few count : ℕ) (xs : List (ℕ × Part)) (rest : List ℕ) → length xs ≡ count
    → AllByRecursion (λ x. x.0 < 2 ^ 32) xs → IfSome (children_of few count xs) (AreChildren few xs rest)
children_took few count xs rest e ids =
    if_holds (eqb few 0) _ _ _
    (λ f. taken_holds (list_all (λ x. eqb x.0 0) xs) [] _ (λ g.
    record { count = eqb-true _ _ f; text = zero_text xs rest g; ids = tt; as_many = inl refl }))
    (λ _. taken_holds (eqb few count) (ids_of xs) _ (λ f. record {
      count = eqb-true _ _ f ∙ sym e ∙ sym (ids_count xs);
      text = child_text xs rest;
      ids = child_ids xs ids;
      as_many = inr (ids_count xs ∙ sym (parts_count xs));
    }))

at_end_holds : {X : Type 0} (x : X) (rest : List ℕ) (P : X → Type 0) → (rest ≡ [] → P x) → IfSome (at_end x rest) P
at_end_holds x [] P h = h refl
at_end_holds x (b ∷ rest) P h = tt

-- what was read has the id and is spelled so
pub record_took : (id : SessionId) (bytes : List ℕ) → IsId id → AreBytes bytes
    → IfSome (record_of id bytes) (λ r. (r.id ≡ id) × Spells bytes r)
unfolding record_of record_text
record_took id bytes is_id fits =
    bind_holds (state_at bytes) _ _ _ (state_took bytes fits) (λ phase a.
    bind_holds (kind_at phase.1) _ _ _ (kind_took phase.1 a.rest_fits) (λ kind b.
    bind_holds (rollback_at kind.1) _ _ _ (rollback_took kind.1 b.0.rest_fits) (λ rollback c.
    bind_holds (moment_at rollback.1) _ _ _ (moment_took rollback.1 c.rest_fits) (λ moment d.
    bind_holds (number_at w32 moment.1) _ _ _ (four_took moment.1 d.0.rest_fits) (λ activation e.
    bind_holds (print_at activation.1) _ _ _ (print_took activation.1 e.0.rest_fits) (λ print f.
    bind_holds (cause_at print.1) _ _ _ (cause_took print.1 f.0.rest_fits) (λ cause g.
    bind_holds (byte_at cause.1) _ _ _ (byte_took cause.1 g.0.rest_fits) (λ count h.
    bind_holds (byte_at count.1) _ _ _ (byte_took count.1 h.0.rest_fits) (λ few i.
    bind_holds (parts_at count.0 few.1) _ _ _ (parts_took count.0 few.1 i.0.rest_fits) (λ parts j.
    bind_holds (children_of few.0 count.0 parts.0) _ _ _
    (children_took few.0 count.0 parts.0 parts.1 j.count j.ids) (λ children k.
    at_end_holds _ parts.1 _ (λ ended. (
      refl,
      record {
        is_record = record {
          id = is_id;
          kind = b.1;
          moment = d.1;
          activation = e.1;
          print = f.1;
          cause = g.1;
          parts = parts_are parts.0 j.parts;
          few = omega (arith, h.1, j.count, parts_count parts.0);
          children = k.ids;
          count = k.as_many;
        };
        is_text =
            let tail : few.1 ≡ parts_text children (parts_of parts.0) [] =
            j.text.is ∙ k.text ∙ ap (λ (t : List ℕ). parts_text children (parts_of parts.0) t) ended in
            let numbers : cause.1
            ≡ length (parts_of parts.0) ∷ length children ∷ parts_text children (parts_of parts.0) [] =
            h.0.is ∙ ap (λ (t : List ℕ). count.0 ∷ t) i.0.is
            ∙ rw (← j.count, k.count, ← parts_count parts.0)
            (ap (λ (t : List ℕ). length (parts_of parts.0) ∷ length children ∷ t) tail) in
            a.is
            ∙ ap (λ (t : List ℕ). state_number phase.0 ∷ t) (b.0.is
            ∙ ap (λ (t : List ℕ). kind_text kind.0 t) (c.is
            ∙ ap (λ (t : List ℕ). rollback_number rollback.0 ∷ t) (d.0.is
            ∙ ap (λ (t : List ℕ). eight_text moment.0 t) (e.0.is
            ∙ ap (λ (t : List ℕ). four_text activation.0 t) (f.0.is
            ∙ ap (λ (t : List ℕ). short_text print.0 t) (g.0.is
            ∙ ap (λ (t : List ℕ). cause_text cause.0 t) numbers))))));
      },
    )))))))))))))

pub read_is_spelled : (id : SessionId) (bytes : List ℕ) (r : Record) → IsId id → AreBytes bytes
    → record_of id bytes ≡ Some r → (r.id ≡ id) × Spells bytes r
read_is_spelled id bytes r is_id fits e =
    subst (λ (o : Option Record). IfSome o (λ r. (r.id ≡ id) × Spells bytes r)) e (record_took id bytes is_id fits)

-- What the bytes have been read as

pub is_found : (id : SessionId) (bytes : List ℕ) (found : Option Record) → IsId id → AreBytes bytes
    → found ≡ record_of id bytes → IfSome found (λ r. (r.id ≡ id) × Spells bytes r)
is_found id bytes found is_id fits e =
    subst (λ (o : Option Record). IfSome o (λ r. (r.id ≡ id) × Spells bytes r)) (sym e)
    (record_took id bytes is_id fits)

pub is_none : (id : SessionId) (bytes : List ℕ) (found : Option Record) → found ≡ record_of id bytes
    → IfNone found ((r : Record) → r.id ≡ id → Spells bytes r → ⊥)
is_none id bytes (Some r) e = tt
is_none id bytes None e = λ r named spells.
    let again : record_of r.id (record_text r) ≡ Some r = record_again r spells.is_record in
    let read : record_of id bytes ≡ Some r =
    ap (λ (i : SessionId). record_of i bytes) (sym named) ∙ ap (record_of r.id) spells.is_text ∙ again in
    let none : None ≡ Some r = e ∙ read in absurd cc
