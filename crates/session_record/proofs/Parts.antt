-- The parts and the children that were read one after the other are those of the record's definition.
use Rattle.std.proofs.Common.{◌≡◌, ℕ, zero, suc, Bool, true, false, cond, eqb, List, [], ◌∷◌, map, length, Option, Some, None, refl, sym, ap, ◌∙◌, arith}
use Rattle.std.specs.Prelude.{◌||◌}
use Rattle.std.specs.Int.{w32}
use Rattle.std.specs.List.{list_all}
use Rattle.std.specs.Option.{option_map}
use Rattle.std.proofs.lemmas.Bool.{eqb-true}
use Rattle.apex_base.specs.declared.numbers.SessionId.{SessionId}
use Rattle.apex_base.specs.declared.records.Part.{Part}
use Rattle.apex_base.specs.declared.records.Record.{Record}
use Rattle.apex_base.specs.Reading.{◌>>=◌, number_at, at_end}
use Rattle.apex_base.specs.Spelling.{part_at, parts_at, children_of}
use Rattle.session_record.specs.declared.front.Front.{Front}
use Rattle.session_record.specs.Units.{is_count, unit_at, with_child, units_at}
use Rattle.session_record.proofs.Fronts.{record_with, rest_of}

abbrev Pairs : Type 0
Pairs = List (ℕ × Part)

-- the children and parts, where each id before a part is 0
abbrev all_zero : Pairs × List ℕ → Option ((List SessionId × List Part) × List ℕ)
all_zero parts = cond (list_all (λ x. eqb x.0 0) parts.0) (Some (([], map (λ x. x.1) parts.0), parts.1)) None

-- each id is a child's
abbrev all_children : Pairs × List ℕ → (List SessionId × List Part) × List ℕ
all_children parts = ((map (λ x. record { 0 = x.0 }) parts.0, map (λ x. x.1) parts.0), parts.1)

abbrev more_units : Option SessionId → Part → Option ((List SessionId × List Part) × List ℕ)
    → Option ((List SessionId × List Part) × List ℕ)
more_units child part more =
    more >>= λ found. Some ((with_child child found.0.0, part ∷ found.0.1), found.1)

abbrev unit_of : Option SessionId → Part × List ℕ → Option ((Option SessionId × Part) × List ℕ)
unit_of child p = Some ((child, p.0), p.1)

abbrev child_id : ℕ → Option SessionId
child_id id = Some (record { 0 = id })

abbrev more_parts : ℕ → Part → Option (Pairs × List ℕ) → Option (Pairs × List ℕ)
more_parts id part more = more >>= λ found. Some ((id, part) ∷ found.0, found.1)

zero_judged : (all : Bool) (part : Part) (parts : List Part) (rest : List ℕ)
    → more_units None part (cond all (Some (([], parts), rest)) None) ≡ cond all (Some (([], part ∷ parts), rest)) None
zero_judged true part parts rest = refl
zero_judged false part parts rest = refl

zero_more : (id : ℕ) (part : Part) (more : Option (Pairs × List ℕ)) → eqb id 0 ≡ true
    → more_units None part (more >>= all_zero) ≡ (more_parts id part more >>= all_zero)
zero_more id part None e = refl
zero_more id part (Some (xs, rest)) e =
    rw e (zero_judged (list_all (λ x. eqb x.0 0) xs) part (map (λ x. x.1) xs) rest)

not_zero : (id : ℕ) (part : Part) (more : Option (Pairs × List ℕ)) → eqb id 0 ≡ false
    → None ≡ (more_parts id part more >>= all_zero)
not_zero id part None e = refl
not_zero id part (Some (xs, rest)) e = rw e refl

zero_by_part : (n id : ℕ) (zero : Bool) (part : Option (Part × List ℕ)) → eqb id 0 ≡ zero
    → ((bytes : List ℕ) → units_at 0 n bytes ≡ (parts_at n bytes >>= all_zero))
    → ((cond zero (Some None) None >>= λ child. part >>= unit_of child)
    >>= λ one. more_units one.0.0 one.0.1 (units_at 0 n one.1))
    ≡ ((part >>= λ p. more_parts id p.0 (parts_at n p.1)) >>= all_zero)
zero_by_part n id true None e more = refl
zero_by_part n id false None e more = refl
zero_by_part n id true (Some (p, rest)) e more = rw (more rest) (zero_more id p (parts_at n rest) e)
zero_by_part n id false (Some (p, rest)) e more = not_zero id p (parts_at n rest) e

zero_by_id : (n : ℕ) (id : Option (ℕ × List ℕ))
    → ((bytes : List ℕ) → units_at 0 n bytes ≡ (parts_at n bytes >>= all_zero))
    → ((id >>= λ x. cond (eqb x.0 0) (Some None) None >>= λ child. part_at x.1 >>= unit_of child)
    >>= λ one. more_units one.0.0 one.0.1 (units_at 0 n one.1))
    ≡ ((id >>= λ x. part_at x.1 >>= λ p. more_parts x.0 p.0 (parts_at n p.1)) >>= all_zero)
zero_by_id n None more = refl
zero_by_id n (Some (id, rest)) more = zero_by_part n id (eqb id 0) (part_at rest) refl more

-- where the session has no children
zero_units : (n : ℕ) (bytes : List ℕ) → units_at 0 n bytes ≡ (parts_at n bytes >>= all_zero)
unfolding units_at unit_at parts_at
zero_units zero bytes = refl
zero_units (suc n) bytes = zero_by_id n (number_at w32 bytes) (zero_units n)

child_more : (id : ℕ) (part : Part) (more : Option (Pairs × List ℕ))
    → more_units (Some (record { 0 = id })) part (option_map all_children more)
    ≡ option_map all_children (more_parts id part more)
child_more id part None = refl
child_more id part (Some (xs, rest)) = refl

child_by_part : (few n id : ℕ) (part : Option (Part × List ℕ))
    → ((bytes : List ℕ) → units_at few n bytes ≡ option_map all_children (parts_at n bytes))
    → ((part >>= unit_of (child_id id))
    >>= λ one. more_units one.0.0 one.0.1 (units_at few n one.1))
    ≡ option_map all_children (part >>= λ p. more_parts id p.0 (parts_at n p.1))
child_by_part few n id None more = refl
child_by_part few n id (Some (p, rest)) more = rw (more rest) (child_more id p (parts_at n rest))

child_by_id : (few n : ℕ) (id : Option (ℕ × List ℕ))
    → ((bytes : List ℕ) → units_at few n bytes ≡ option_map all_children (parts_at n bytes))
    → ((id >>= λ x. part_at x.1 >>= unit_of (child_id x.0))
    >>= λ one. more_units one.0.0 one.0.1 (units_at few n one.1))
    ≡ option_map all_children (id >>= λ x. part_at x.1 >>= λ p. more_parts x.0 p.0 (parts_at n p.1))
child_by_id few n None more = refl
child_by_id few n (Some (id, rest)) more = child_by_part few n id (part_at rest) more

-- where it has some
child_units : (few n : ℕ) (bytes : List ℕ) → eqb few 0 ≡ false
    → units_at few n bytes ≡ option_map all_children (parts_at n bytes)
unfolding units_at unit_at parts_at
child_units few zero bytes e = refl
child_units few (suc n) bytes e =
    rw e (child_by_id few n (number_at w32 bytes) (λ rest. child_units few n rest e))

-- The record

uncounted_by : (id : SessionId) (f : Front) (parts : Option (Pairs × List ℕ)) → eqb f.children 0 ≡ false
    → eqb f.children f.parts ≡ false
    → (parts >>= λ xs. children_of f.children f.parts xs.0
    >>= λ cs. at_end (record_with id f (cs, map (λ x. x.1) xs.0)) xs.1) ≡ None
uncounted_by id f None e g = refl
uncounted_by id f (Some (xs, rest)) e g = rw (e, g) refl

-- the record of other numbers of children is none
pub uncounted : (id : SessionId) (f : Front) (bytes : List ℕ) → is_count f.children f.parts ≡ false
    → rest_of id f bytes ≡ None
uncounted id f bytes e = by_tests (eqb f.children 0) (eqb f.children f.parts) refl refl e
  where
    by_tests : (zero same : Bool) → eqb f.children 0 ≡ zero → eqb f.children f.parts ≡ same → zero || same ≡ false
        → rest_of id f bytes ≡ None
    by_tests true same a b e = absurd cc
    by_tests false true a b e = absurd cc
    by_tests false false a b e = uncounted_by id f (parts_at f.parts bytes) a b

abbrev finished : SessionId → Front → Option ((List SessionId × List Part) × List ℕ) → Option Record
finished id f units = units >>= λ units. at_end (record_with id f units.0) units.1

zero_chosen : (id : SessionId) (f : Front) (all : Bool) (parts : List Part) (rest : List ℕ)
    → (cond all (Some []) None >>= λ cs. at_end (record_with id f (cs, parts)) rest)
    ≡ finished id f (cond all (Some (([], parts), rest)) None)
zero_chosen id f true parts rest = refl
zero_chosen id f false parts rest = refl

zero_finished : (id : SessionId) (f : Front) (parts : Option (Pairs × List ℕ)) → eqb f.children 0 ≡ true
    → (parts >>= λ xs. children_of f.children f.parts xs.0
    >>= λ cs. at_end (record_with id f (cs, map (λ x. x.1) xs.0)) xs.1) ≡ finished id f (parts >>= all_zero)
zero_finished id f None e = refl
zero_finished id f (Some (xs, rest)) e =
    rw e (zero_chosen id f (list_all (λ x. eqb x.0 0) xs) (map (λ x. x.1) xs) rest)

child_finished : (id : SessionId) (f : Front) (parts : Option (Pairs × List ℕ)) → eqb f.children 0 ≡ false
    → eqb f.children f.parts ≡ true
    → (parts >>= λ xs. children_of f.children f.parts xs.0
    >>= λ cs. at_end (record_with id f (cs, map (λ x. x.1) xs.0)) xs.1) ≡ finished id f (option_map all_children parts)
child_finished id f None e g = refl
child_finished id f (Some (xs, rest)) e g = rw (e, g) refl

units_finish : (id : SessionId) (f : Front) (bytes : List ℕ) → is_count f.children f.parts ≡ true
    → rest_of id f bytes ≡ finished id f (units_at f.children f.parts bytes)
units_finish id f bytes e = by_tests (eqb f.children 0) (eqb f.children f.parts) refl refl e
  where
    by_tests : (zero same : Bool) → eqb f.children 0 ≡ zero → eqb f.children f.parts ≡ same → zero || same ≡ true
        → rest_of id f bytes ≡ finished id f (units_at f.children f.parts bytes)
    by_tests true same a b e =
        zero_finished id f (parts_at f.parts bytes) a
        ∙ ap (finished id f) (sym (zero_units f.parts bytes)
        ∙ ap (λ (few : ℕ). units_at few f.parts bytes) (sym (eqb-true _ _ a)))
    by_tests false true a b e =
        child_finished id f (parts_at f.parts bytes) a b
        ∙ ap (finished id f) (sym (child_units f.children f.parts bytes a))
    by_tests false false a b e = absurd cc

at_end_empty : {X : Type 0} (x : X) (rest : List ℕ) → true ≡ eqb (length rest) 0 → at_end x rest ≡ Some x
at_end_empty x [] e = refl
at_end_empty x (b ∷ rest) e = absurd (omega (arith, eqb-true _ _ (sym e)))

at_end_more : {X : Type 0} (x : X) (rest : List ℕ) → false ≡ eqb (length rest) 0 → at_end x rest ≡ None
at_end_more x [] e = absurd cc
at_end_more x (b ∷ rest) e = refl

-- where a part can't be read
pub no_units : (id : SessionId) (f : Front) (bytes : List ℕ) → is_count f.children f.parts ≡ true
    → None ≡ units_at f.children f.parts bytes → rest_of id f bytes ≡ None
no_units id f bytes e g = units_finish id f bytes e ∙ ap (finished id f) (sym g)

-- where bytes are left behind the last part
pub bytes_left : (id : SessionId) (f : Front) (bytes : List ℕ) (units : List SessionId × List Part) (rest : List ℕ)
    → is_count f.children f.parts ≡ true → Some (units, rest) ≡ units_at f.children f.parts bytes
    → false ≡ eqb (length rest) 0 → rest_of id f bytes ≡ None
bytes_left id f bytes units rest e g h =
    units_finish id f bytes e ∙ ap (finished id f) (sym g) ∙ at_end_more (record_with id f units) rest h

-- where all is read
pub all_read : (id : SessionId) (f : Front) (bytes : List ℕ) (units : List SessionId × List Part) (rest : List ℕ)
    → is_count f.children f.parts ≡ true → Some (units, rest) ≡ units_at f.children f.parts bytes
    → true ≡ eqb (length rest) 0 → rest_of id f bytes ≡ Some (record_with id f units)
all_read id f bytes units rest e g h =
    units_finish id f bytes e ∙ ap (finished id f) (sym g) ∙ at_end_empty (record_with id f units) rest h
