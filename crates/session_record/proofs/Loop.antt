-- Reading parts one after the other.
use Rattle.std.proofs.Common.{◌≡◌, ℕ, suc, ◌-◌, ◌+◌, ◌≤◌, ◌<◌, List, [], ◌∷◌, ◌++◌, Option, Some, None, refl, sym, ap, ◌∙◌, append_assoc, arith}
use Rattle.std.specs.Option.{option_map}
use Rattle.std.proofs.lemmas.List.{append-nil}
use Rattle.apex_base.specs.Reading.{◌>>=◌}
use Rattle.apex_base.specs.declared.numbers.SessionId.{SessionId}
use Rattle.apex_base.specs.declared.records.Part.{Part}
use Rattle.session_record.specs.Units.{unit_at, with_child, units_at}

-- what was read before, and what is still read
abbrev pub with_front : List SessionId → List Part → Option ((List SessionId × List Part) × List ℕ)
    → Option ((List SessionId × List Part) × List ℕ)
with_front cs ps more = option_map (λ found. ((cs ++ found.0.0, ps ++ found.0.1), found.1)) more

abbrev pub before_more : Option SessionId → Part → Option ((List SessionId × List Part) × List ℕ)
    → Option ((List SessionId × List Part) × List ℕ)
before_more child part more =
    more >>= λ found. Some ((with_child child found.0.0, part ∷ found.0.1), found.1)

children_regroup : (cs : List SessionId) (child : Option SessionId) (rest : List SessionId)
    → cs ++ with_child child rest ≡ (cs ++ with_child child []) ++ rest
children_regroup cs None rest = ap (λ (xs : List SessionId). xs ++ rest) (sym (append-nil cs))
children_regroup cs (Some c) rest = sym (append_assoc cs (c ∷ []) rest)

regroup : (cs : List SessionId) (ps : List Part) (child : Option SessionId) (part : Part)
    (more : Option ((List SessionId × List Part) × List ℕ))
    → with_front cs ps (before_more child part more)
    ≡ with_front (cs ++ with_child child []) (ps ++ part ∷ []) more
regroup cs ps child part (Some ((ds, qs), rest)) =
    rw (children_regroup cs child ds, append_assoc ps (part ∷ []) qs) refl
regroup cs ps child part None = refl

pub next_unit : (cs : List SessionId) (ps : List Part) (few count i : ℕ) (bytes : List ℕ)
    (child : Option SessionId) (part : Part) (after : List ℕ) (total : Option ((List SessionId × List Part) × List ℕ))
    → i < count → unit_at few bytes ≡ Some ((child, part), after)
    → with_front cs ps (units_at few (count - i) bytes) ≡ total
    → with_front (cs ++ with_child child []) (ps ++ part ∷ []) (units_at few (count - (i + 1)) after) ≡ total
unfolding units_at
next_unit cs ps few count i bytes child part after total lt h so_far =
    let k : count - i ≡ suc (count - (i + 1)) = omega arith in
    let one : with_front cs ps (units_at few (count - i) bytes)
    ≡ with_front (cs ++ with_child child []) (ps ++ part ∷ []) (units_at few (count - (i + 1)) after) =
    rw (k, h) (regroup cs ps child part (units_at few (count - (i + 1)) after)) in
    sym one ∙ so_far

pub no_unit : (cs : List SessionId) (ps : List Part) (few count i : ℕ) (bytes : List ℕ)
    (total : Option ((List SessionId × List Part) × List ℕ))
    → i < count → unit_at few bytes ≡ None
    → with_front cs ps (units_at few (count - i) bytes) ≡ total → None ≡ total
unfolding units_at
no_unit cs ps few count i bytes total lt h so_far =
    let k : count - i ≡ suc (count - (i + 1)) = omega arith in
    let one : with_front cs ps (units_at few (count - i) bytes) ≡ None = rw (k, h) refl in
    sym one ∙ so_far

pub none_left : (cs : List SessionId) (ps : List Part) (few count i : ℕ) (bytes : List ℕ)
    (total : Option ((List SessionId × List Part) × List ℕ))
    → count ≤ i → with_front cs ps (units_at few (count - i) bytes) ≡ total → Some ((cs, ps), bytes) ≡ total
unfolding units_at
none_left cs ps few count i bytes total le so_far =
    let k : count - i ≡ 0 = omega arith in
    let one : with_front cs ps (units_at few (count - i) bytes) ≡ Some ((cs, ps), bytes) =
    rw (k, append-nil cs, append-nil ps) refl in
    sym one ∙ so_far
