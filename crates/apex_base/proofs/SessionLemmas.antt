-- Sessions by their ids, in a list that ascends.
use Rattle.std.proofs.Common.{◌≡◌, ◌≢◌, ◌⊎◌, ◌<◌, List, [], ◌∷◌, map, Some, None, sym, ap, ◌∙◌, refl, inl, inr, arith}
use Rattle.std.specs.List.{AllByRecursion}
use Rattle.std.specs.Option.{option_map}
use Rattle.std.proofs.lemmas.Bool.{cases_order, lt-ltb, le-ltb, eq-eqb, ne_eqb}
use Rattle.apex_base.specs.declared.numbers.SessionId.{SessionId}
use Rattle.apex_base.specs.declared.records.Record.{Record}
use Rattle.apex_base.specs.Members.{In}
use Rattle.apex_base.specs.Sessions.{session_of, with_session, Ascend}

abbrev below : Record → List Record → Type 0
below r ss = AllByRecursion (λ s. r.id.0 < s.id.0) ss

below_less : (r s : Record) (ss : List Record) → r.id.0 < s.id.0 → below s ss → below r ss
below_less r s [] l a = tt
below_less r s (x ∷ ss) l a = let m = a.0 in (omega arith, below_less r s ss l a.1)

below_same : (x s : Record) (ss : List Record) → x.id.0 ≡ s.id.0 → below x ss → below s ss
below_same x s [] e a = tt
below_same x s (y ∷ ss) e a = let m = a.0 in (omega arith, below_same x s ss e a.1)

below_in : (x : Record) (ss : List Record) (r : Record) → below x ss → In r ss → x.id.0 < r.id.0
below_in x [] r a h = absurd h
below_in x (y ∷ ss) r a (inl e) = rw (← e) a.0
below_in x (y ∷ ss) r a (inr h) = below_in x ss r a.1 h

-- A session put in its place: after the first, in its place, or before it

pub with_lt : (s r : Record) (rs : List Record) → r.id.0 < s.id.0 → with_session s (r ∷ rs) ≡ r ∷ with_session s rs
with_lt s r rs l = rw (lt-ltb r.id.0 s.id.0 l) refl

pub with_eq : (s r : Record) (rs : List Record) → r.id.0 ≡ s.id.0 → with_session s (r ∷ rs) ≡ s ∷ rs
with_eq s r rs e = rw (le-ltb r.id.0 s.id.0 (omega arith), eq-eqb r.id.0 s.id.0 e) refl

pub with_gt : (s r : Record) (rs : List Record) → s.id.0 < r.id.0 → with_session s (r ∷ rs) ≡ s ∷ r ∷ rs
with_gt s r rs l = rw (le-ltb r.id.0 s.id.0 (omega arith), ne_eqb r.id.0 s.id.0 (λ e. omega arith)) refl

below_with : (r s : Record) (ss : List Record) → r.id.0 < s.id.0 → below r ss → below r (with_session s ss)
below_with r s [] l a = (l, tt)
below_with r s (x ∷ ss) l a =
    elim (cases_order x.id.0 s.id.0) [
      | inl e ↦ rw (with_eq s x ss e) (l, a.1)
      | inr o ↦ elim o [
        | inl m ↦ rw (with_lt s x ss m) (a.0, below_with r s ss l a.1)
        | inr m ↦ rw (with_gt s x ss m) (l, (a.0, a.1))
      ]
    ]

pub ascend_with : (s : Record) (ss : List Record) → Ascend ss → Ascend (with_session s ss)
ascend_with s [] a = (tt, tt)
ascend_with s (x ∷ ss) a =
    elim (cases_order x.id.0 s.id.0) [
      | inl e ↦ rw (with_eq s x ss e) (below_same x s ss e a.0, a.1)
      | inr o ↦ elim o [
        | inl m ↦ rw (with_lt s x ss m) (below_with x s ss m a.0, ascend_with s ss a.1)
        | inr m ↦ rw (with_gt s x ss m) ((m, below_less s x ss m a.0), (a.0, a.1))
      ]
    ]

-- it is there
pub with_self : (s : Record) (ss : List Record) → In s (with_session s ss)
with_self s [] = inl refl
with_self s (x ∷ ss) =
    elim (cases_order x.id.0 s.id.0) [
      | inl e ↦ rw (with_eq s x ss e) (inl refl)
      | inr o ↦ elim o [
        | inl m ↦ rw (with_lt s x ss m) (inr (with_self s ss))
        | inr m ↦ rw (with_gt s x ss m) (inl refl)
      ]
    ]

-- each session of another id stays
pub with_others : (s : Record) (ss : List Record) (r : Record) → In r ss → r.id.0 ≢ s.id.0 → In r (with_session s ss)
with_others s [] r h d = absurd h
with_others s (x ∷ ss) r h d =
    elim (cases_order x.id.0 s.id.0) [
      | inl e ↦ elim h [
        | inl f ↦ absurd (d (ap (λ (r : Record). r.id.0) (sym f) ∙ e))
        | inr i ↦ rw (with_eq s x ss e) (inr i)
      ]
      | inr o ↦ elim o [
        | inl m ↦ elim h [
          | inl f ↦ rw (with_lt s x ss m) (inl f)
          | inr i ↦ rw (with_lt s x ss m) (inr (with_others s ss r i d))
        ]
        | inr m ↦ rw (with_gt s x ss m) (inr h)
      ]
    ]

-- and whatever is there is one of these
pub with_any : (s : Record) (ss : List Record) (r : Record) → In r (with_session s ss) → (r ≡ s) ⊎ In r ss
with_any s [] r (inl e) = inl (sym e)
with_any s [] r (inr h) = absurd h
with_any s (x ∷ ss) r h =
    elim (cases_order x.id.0 s.id.0) [
      | inl e ↦ elim (rw (with_eq s x ss e) at h) [
        | inl f ↦ inl (sym f)
        | inr i ↦ inr (inr i)
      ]
      | inr o ↦ elim o [
        | inl m ↦ elim (rw (with_lt s x ss m) at h) [
          | inl f ↦ inr (inl f)
          | inr i ↦ elim (with_any s ss r i) [
            | inl f ↦ inl f
            | inr j ↦ inr (inr j)
          ]
        ]
        | inr m ↦ elim (rw (with_gt s x ss m) at h) [
          | inl f ↦ inl (sym f)
          | inr i ↦ inr i
        ]
      ]
    ]

-- Looking for an id

pub of_lt : (id : SessionId) (r : Record) (rs : List Record) → r.id.0 < id.0 → session_of (r ∷ rs) id ≡ session_of rs id
of_lt id r rs l = rw (lt-ltb r.id.0 id.0 l) refl

pub of_eq : (id : SessionId) (r : Record) (rs : List Record) → r.id.0 ≡ id.0 → session_of (r ∷ rs) id ≡ Some r
of_eq id r rs e = rw (le-ltb r.id.0 id.0 (omega arith), eq-eqb r.id.0 id.0 e) refl

pub of_gt : (id : SessionId) (r : Record) (rs : List Record) → id.0 < r.id.0 → session_of (r ∷ rs) id ≡ None
of_gt id r rs l = rw (le-ltb r.id.0 id.0 (omega arith), ne_eqb r.id.0 id.0 (λ e. omega arith)) refl

-- what is found is there, and has the id
pub of_found : (ss : List Record) (id : SessionId) (r : Record) → session_of ss id ≡ Some r → In r ss × (r.id.0 ≡ id.0)
of_found [] id r e = absurd (cc)
of_found (x ∷ ss) id r e =
    elim (cases_order x.id.0 id.0) [
      | inl f ↦ let g : x ≡ r = cc (of_eq id x ss f, e) in (inl g, ap (λ (r : Record). r.id.0) (sym g) ∙ f)
      | inr o ↦ elim o [
        | inl m ↦ let (i, j) = of_found ss id r (sym (of_lt id x ss m) ∙ e) in (inr i, j)
        | inr m ↦ absurd (cc (of_gt id x ss m, e))
      ]
    ]

-- what is there is found
pub of_in : (ss : List Record) (r : Record) → Ascend ss → In r ss → session_of ss r.id ≡ Some r
of_in [] r a h = absurd h
of_in (x ∷ ss) r a (inl e) = of_eq r.id x ss (ap (λ (r : Record). r.id.0) e) ∙ ap (λ (r : Record). Some r) e
of_in (x ∷ ss) r a (inr h) = of_lt r.id x ss (below_in x ss r a.0 h) ∙ of_in ss r a.1 h

-- a session that is found can be put in its place
pub with_found : (ss : List Record) (id : SessionId) (r : Record) → session_of ss id ≡ Some r → with_session r ss ≡ ss
with_found [] id r e = absurd (cc)
with_found (x ∷ ss) id r e =
    elim (cases_order x.id.0 id.0) [
      | inl f ↦ let g : x ≡ r = cc (of_eq id x ss f, e) in with_eq r x ss (ap (λ (r : Record). r.id.0) g)
          ∙ ap (λ (r : Record). r ∷ ss) (sym g)
      | inr o ↦ elim o [
        | inl m ↦
            let h : session_of ss id ≡ Some r = sym (of_lt id x ss m) ∙ e in
            let same = (of_found ss id r h).1 in
            with_lt r x ss (omega (arith, m, same)) ∙ ap (λ (ss : List Record). x ∷ ss) (with_found ss id r h)
        | inr m ↦ absurd (cc (of_gt id x ss m, e))
      ]
    ]

-- Sessions that keep their ids

below_map : (f : Record → Record) (r : Record) (ss : List Record) → ((r : Record) → (f r).id ≡ r.id) → below r ss
    → below (f r) (map f ss)
below_map f r [] same a = tt
below_map f r (s ∷ ss) same a =
    let l = a.0 in
    let e : (f r).id.0 ≡ r.id.0 = ap (λ (id : SessionId). id.0) (same r) in
    let g : (f s).id.0 ≡ s.id.0 = ap (λ (id : SessionId). id.0) (same s) in
    (omega (arith, l, e, g), below_map f r ss same a.1)

pub ascend_map : (f : Record → Record) (ss : List Record) → ((r : Record) → (f r).id ≡ r.id) → Ascend ss
    → Ascend (map f ss)
ascend_map f [] same a = tt
ascend_map f (r ∷ ss) same a = (below_map f r ss same a.0, ascend_map f ss same a.1)

-- Looking for a session after one was put in its place, or after all have changed by themselves

-- a session that was put in its place is found
pub of_with : (s : Record) (ss : List Record) (id : SessionId) → s.id.0 ≡ id.0
    → session_of (with_session s ss) id ≡ Some s
of_with s [] id e = of_eq id s [] e
of_with s (x ∷ ss) id e =
    elim (cases_order x.id.0 s.id.0) [
      | inl f ↦ ap (λ (rs : List Record). session_of rs id) (with_eq s x ss f) ∙ of_eq id s ss e
      | inr o ↦ elim o [
        | inl l ↦ ap (λ (rs : List Record). session_of rs id) (with_lt s x ss l)
            ∙ of_lt id x (with_session s ss) (omega (arith, l, e)) ∙ of_with s ss id e
        | inr l ↦ ap (λ (rs : List Record). session_of rs id) (with_gt s x ss l) ∙ of_eq id s (x ∷ ss) e
      ]
    ]

-- what is found of another id is what was found
pub of_other : (s : Record) (ss : List Record) (id : SessionId) → s.id.0 ≢ id.0
    → session_of (with_session s ss) id ≡ session_of ss id
of_other s [] id d =
    elim (cases_order s.id.0 id.0) [
      | inl e ↦ absurd (d e)
      | inr o ↦ elim o [
        | inl l ↦ of_lt id s [] l
        | inr l ↦ of_gt id s [] l
      ]
    ]
of_other s (x ∷ ss) id d =
    elim (cases_order x.id.0 s.id.0) [
      | inl f ↦ ap (λ (rs : List Record). session_of rs id) (with_eq s x ss f) ∙ elim (cases_order s.id.0 id.0) [
        | inl e ↦ absurd (d e)
        | inr o ↦ elim o [
          | inl l ↦ of_lt id s ss l ∙ sym (of_lt id x ss (omega (arith, l, f)))
          | inr l ↦ of_gt id s ss l ∙ sym (of_gt id x ss (omega (arith, l, f)))
        ]
      ]
      | inr o ↦ elim o [
        | inl m ↦ ap (λ (rs : List Record). session_of rs id) (with_lt s x ss m) ∙ elim (cases_order x.id.0 id.0) [
          | inl e ↦ of_eq id x (with_session s ss) e ∙ sym (of_eq id x ss e)
          | inr p ↦ elim p [
            | inl l ↦ of_lt id x (with_session s ss) l ∙ of_other s ss id d ∙ sym (of_lt id x ss l)
            | inr l ↦ of_gt id x (with_session s ss) l ∙ sym (of_gt id x ss l)
          ]
        ]
        | inr m ↦ ap (λ (rs : List Record). session_of rs id) (with_gt s x ss m) ∙ elim (cases_order s.id.0 id.0) [
          | inl e ↦ absurd (d e)
          | inr p ↦ elim p [
            | inl l ↦ of_lt id s (x ∷ ss) l
            | inr l ↦ of_gt id s (x ∷ ss) l ∙ sym (of_gt id x ss (omega (arith, l, m)))
          ]
        ]
      ]
    ]

-- sessions that keep their ids are found where they were
pub of_map : (f : Record → Record) (ss : List Record) (id : SessionId) → ((r : Record) → (f r).id ≡ r.id)
    → session_of (map f ss) id ≡ option_map f (session_of ss id)
of_map f [] id same = refl
of_map f (x ∷ ss) id same =
    let e : (f x).id.0 ≡ x.id.0 = ap (λ (i : SessionId). i.0) (same x) in
    elim (cases_order x.id.0 id.0) [
      | inl g ↦ of_eq id (f x) (map f ss) (e ∙ g) ∙ ap (option_map f) (sym (of_eq id x ss g))
      | inr o ↦ elim o [
        | inl l ↦ of_lt id (f x) (map f ss) (omega (arith, l, e)) ∙ of_map f ss id same
            ∙ ap (option_map f) (sym (of_lt id x ss l))
        | inr l ↦ of_gt id (f x) (map f ss) (omega (arith, l, e)) ∙ ap (option_map f) (sym (of_gt id x ss l))
      ]
    ]
