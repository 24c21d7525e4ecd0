-- Which session is unfinished and has a name, once one session moved or is new. Callers want `left_moved` and
-- `entered_left`.
use Rattle.std.proofs.Common.{◌≡◌, ℕ, Bool, true, false, cond, ◌&&◌, List, [], ◌∷◌, find, Option, Some, None, sym}
use Rattle.std.proofs.Common.{ap, subst, ◌∙◌, refl, inl, inr, eqb, eqb-true}
use Rattle.std.specs.Prelude.{not}
use Rattle.std.specs.List.{list_any}
use Rattle.std.specs.Option.{option_map}
use Rattle.std.specs.Str.{bytes_eq}
use Rattle.std.proofs.lemmas.Bool.{cases_order, false≢true, false_from_ne_true, and_parts, eq-eqb}
use Rattle.apex_base.specs.declared.moves.Move.{Move}
use Rattle.apex_base.specs.declared.moves.Move.TheVariants as by
use Rattle.apex_base.specs.declared.numbers.SessionId.{SessionId}
use Rattle.apex_base.specs.declared.records.Part.{Part}
use Rattle.apex_base.specs.declared.records.Record.{Record}
use Rattle.apex_base.specs.declared.records.RollbackState.{RollbackState}
use Rattle.apex_base.specs.declared.records.State.{State}
use Rattle.apex_base.specs.declared.records.State.TheVariants as state
use Rattle.apex_base.specs.Held.{is_unfinished}
use Rattle.apex_base.specs.Members.{In}
use Rattle.apex_base.specs.Moves.{moved}
use Rattle.apex_base.specs.Sessions.{names, session_of, with_session}
use Rattle.apex_base.proofs.Finding.{found, finds}
use Rattle.apex_base.proofs.MemberLemmas.{in_any}
use Rattle.apex_base.proofs.SessionLemmas.{of_found, of_lt, of_eq, of_gt, with_lt, with_eq, with_gt, with_any, with_self}
use Rattle.apex_world.specs.Lawful.{Lawful}
use Rattle.apex_world.specs.World.{World}
use Rattle.world_facts.proofs.facts.OpenedSessions.{one_session}
use Rattle.world_facts.proofs.facts.WorldRows.{same_id as equal_id}
use Rattle.call_judge.specs.Unfinished.{unfinished_with, is_session, left_to, entered_to}
use Rattle.call_judge.proofs.NamedSessions.{test}

-- an unfinished session was so before
pub never_again : (a b : State) (m : Move) → moved a m ≡ Some b → is_unfinished b ≡ true → is_unfinished a ≡ true
never_again state.Verified b m e u = refl
never_again state.Staged b m e u = refl
never_again state.Activated b m e u = refl
never_again state.RevertInProgress b m e u = refl
never_again state.Success b by.Success e u = absurd (false≢true (ap is_unfinished (success_is b e) ∙ u))
  where
    success_is : (b : State) → Some state.Success ≡ Some b → state.Success ≡ b
    success_is b e = cc
never_again state.Success b by.Ready e u = absurd (cc)
never_again state.Success b by.Abort e u = absurd (cc)
never_again state.Success b by.Revert e u = absurd (cc)
never_again state.Success b by.Activate e u = absurd (cc)
never_again state.Success b by.Fail e u = absurd (cc)
never_again state.Success b by.Undo e u = absurd (cc)
never_again state.ActivationFailed b by.Ready e u = absurd (cc)
never_again state.ActivationFailed b by.Abort e u = absurd (cc)
never_again state.ActivationFailed b by.Success e u = absurd (cc)
never_again state.ActivationFailed b by.Revert e u = absurd (cc)
never_again state.ActivationFailed b by.Activate e u = absurd (cc)
never_again state.ActivationFailed b by.Fail e u = absurd (cc)
never_again state.ActivationFailed b by.Undo e u = absurd (cc)
never_again state.Reverted b by.Ready e u = absurd (cc)
never_again state.Reverted b by.Abort e u = absurd (cc)
never_again state.Reverted b by.Success e u = absurd (cc)
never_again state.Reverted b by.Revert e u = absurd (cc)
never_again state.Reverted b by.Activate e u = absurd (cc)
never_again state.Reverted b by.Fail e u = absurd (cc)
never_again state.Reverted b by.Undo e u = absurd (cc)
never_again state.Aborted b by.Ready e u = absurd (cc)
never_again state.Aborted b by.Abort e u = absurd (cc)
never_again state.Aborted b by.Success e u = absurd (cc)
never_again state.Aborted b by.Revert e u = absurd (cc)
never_again state.Aborted b by.Activate e u = absurd (cc)
never_again state.Aborted b by.Fail e u = absurd (cc)
never_again state.Aborted b by.Undo e u = absurd (cc)

-- What is found

abbrev id_of : Option Record → Option SessionId
id_of o = option_map (λ (x : Record). x.id) o

id_if : (b : Bool) (s x : Record) (o : Option Record) → s.id ≡ x.id → id_of (cond b (Some s) o) ≡ id_of (cond b (Some x) o)
id_if true s x o e = ap (λ (i : SessionId). Some i) e
id_if false s x o e = refl

front_if : (b : Bool) (x : Record) (o p : Option Record) → id_of o ≡ id_of p
    → id_of (cond b (Some x) o) ≡ id_of (cond b (Some x) p)
front_if true x o p e = refl
front_if false x o p e = e

none_or : {P : Type 0} (o : Option Record) (r : Record) → o ≡ None → o ≡ Some r → P
none_or None r e f = absurd (cc)
none_or (Some s) r e f = absurd (cc)

-- a session takes the place of one that passes the same test
ids_kept : (t : Record → Bool) (r s : Record) (ss : List Record) → session_of ss s.id ≡ Some r → s.id ≡ r.id
    → t s ≡ t r → id_of (find t (with_session s ss)) ≡ id_of (find t ss)
ids_kept t r s [] e i same = absurd (cc)
ids_kept t r s (x ∷ ss) e i same = elim (cases_order x.id.0 s.id.0) [
  | inl f ↦
      let here : x ≡ r = (let g = sym (of_eq s.id x ss f) ∙ e in cc) in
      ap (λ (xs : List Record). id_of (find t xs)) (with_eq s x ss f)
      ∙ ap (λ (b : Bool). id_of (cond b (Some s) (find t ss))) (same ∙ ap t (sym here))
      ∙ id_if (t x) s x (find t ss) (i ∙ ap (λ (y : Record). y.id) (sym here))
  | inr o ↦ elim o [
    | inl l ↦ ap (λ (xs : List Record). id_of (find t xs)) (with_lt s x ss l)
        ∙ front_if (t x) x (find t (with_session s ss)) (find t ss)
        (ids_kept t r s ss (sym (of_lt s.id x ss l) ∙ e) i same)
    | inr l ↦ none_or (session_of (x ∷ ss) s.id) r (of_gt s.id x ss l) e
  ]
]

skipped : (b : Bool) (s : Record) (o : Option Record) → b ≡ false → cond b (Some s) o ≡ o
skipped true s o e = absurd (cc)
skipped false s o e = refl

passed_by : (b : Bool) (x : Record) (o p : Option Record) → o ≡ p → cond b (Some x) o ≡ cond b (Some x) p
passed_by true x o p e = refl
passed_by false x o p e = e

some_twice : {P : Type 0} (x : Record) → Some x ≡ None → P
some_twice x e = absurd (cc)

first_none : (b : Bool) (x : Record) (o : Option Record) → cond b (Some x) o ≡ None → (b ≡ false) × (o ≡ None)
first_none true x o e = some_twice x e
first_none false x o e = (refl, e)

-- a new session doesn't pass the test
new_skipped : (t : Record → Bool) (s : Record) (ss : List Record) → session_of ss s.id ≡ None → t s ≡ false
    → find t (with_session s ss) ≡ find t ss
new_skipped t s [] free no_pass = skipped (t s) s None no_pass
new_skipped t s (x ∷ ss) free no_pass = elim (cases_order x.id.0 s.id.0) [
  | inl f ↦ none_or (session_of (x ∷ ss) s.id) x free (of_eq s.id x ss f)
  | inr o ↦ elim o [
    | inl l ↦ ap (find t) (with_lt s x ss l)
        ∙ passed_by (t x) x (find t (with_session s ss)) (find t ss)
        (new_skipped t s ss (sym (of_lt s.id x ss l) ∙ free) no_pass)
    | inr l ↦ ap (find t) (with_gt s x ss l) ∙ skipped (t s) s (find t (x ∷ ss)) no_pass
  ]
]

-- or it alone does
new_found : (t : Record → Bool) (s : Record) (ss : List Record) → session_of ss s.id ≡ None → t s ≡ true
    → find t ss ≡ None → find t (with_session s ss) ≡ Some s
new_found t s [] free passes none = ap (λ (b : Bool). cond b (Some s) None) passes
new_found t s (x ∷ ss) free passes none = elim (cases_order x.id.0 s.id.0) [
  | inl f ↦ none_or (session_of (x ∷ ss) s.id) x free (of_eq s.id x ss f)
  | inr o ↦ elim o [
    | inl l ↦
        let (fails, rest) = first_none (t x) x (find t ss) none in
        ap (find t) (with_lt s x ss l) ∙ skipped (t x) x (find t (with_session s ss)) fails
        ∙ new_found t s ss (sym (of_lt s.id x ss l) ∙ free) passes rest
    | inr l ↦ ap (find t) (with_gt s x ss l) ∙ ap (λ (b : Bool). cond b (Some s) (find t (x ∷ ss))) passes
  ]
]

find_nobody : (t : Record → Bool) (xs : List Record) → ((x : Record) → In x xs → t x ≡ false) → find t xs ≡ None
find_nobody t [] none = refl
find_nobody t (x ∷ xs) none =
    skipped (t x) x (find t xs) (none x (inl refl)) ∙ find_nobody t xs (λ y i. none y (inr i))

-- where no unfinished session has the name, there is none
pub none_unfinished : (ss : List Record) (name : List ℕ)
    → ((r : Record) → In r ss → is_unfinished r.state ≡ true → names name r ≡ true → ⊥)
    → unfinished_with ss name ≡ None
none_unfinished ss name apart =
    ap id_of (find_nobody (test name) ss (λ r i. false_from_ne_true (test name r) (λ e.
    let (u, n) = and_parts (is_unfinished r.state) (names name r) e in apart r i u n)))

-- A new session

entered_if : (t : Record → Bool) (b : Bool) (s : Record) (ss : List Record) → t s ≡ b → session_of ss s.id ≡ None
    → (b ≡ true → id_of (find t ss) ≡ None)
    → cond b (Some s.id) (id_of (find t ss)) ≡ id_of (find t (with_session s ss))
entered_if t true s ss e free alone =
    sym (ap id_of (new_found t s ss free e (nobody_of (find t ss) (alone refl))))
  where
    nobody_of : (o : Option Record) → id_of o ≡ None → o ≡ None
    nobody_of None e = refl
    nobody_of (Some x) e = absurd (cc)
entered_if t false s ss e free alone = sym (ap id_of (new_skipped t s ss free e))

-- a new session has its names, where nobody had them
pub entered_left : (s : Record) (ss : List Record) → is_unfinished s.state ≡ true → session_of ss s.id ≡ None
    → ((name : List ℕ) → names name s ≡ true → unfinished_with ss name ≡ None) → (name : List ℕ)
    → entered_to s name (unfinished_with ss name) ≡ unfinished_with (with_session s ss) name
entered_left s ss unfinished free alone name =
    entered_if (test name) (names name s) s ss (ap (λ (b : Bool). b && names name s) unfinished) free (alone name)

-- A session that moved

and_no : (b : Bool) → (b && false) ≡ false
and_no true = refl
and_no false = refl

module _ (w v : World) (law : Lawful w) (later : Lawful v) (r s : Record) (h : In r w.sessions)
    (there : session_of w.sessions s.id ≡ Some r) (same_id : s.id ≡ r.id) (parts : s.parts ≡ r.parts)
    (put : v.sessions ≡ with_session s w.sessions)
    (never : is_unfinished s.state ≡ true → is_unfinished r.state ≡ true) where
  number : s.id.0 ≡ r.id.0
  number = ap (λ (i : SessionId). i.0) same_id

  self : In s v.sessions
  self = subst (In s) (sym put) (with_self s w.sessions)

  names_too : (name : List ℕ) (n : Bool) → names name s ≡ n → names name r ≡ n
  names_too name n e = ap (λ (ps : List Part). list_any (λ (p : Part). bytes_eq p.name name) ps) (sym parts) ∙ e

  -- what is found stays
  stays : (name : List ℕ) → test name s ≡ test name r → unfinished_with w.sessions name ≡ unfinished_with v.sessions name
  stays name e =
      sym (ap (λ (xs : List Record). unfinished_with xs name) put ∙ ids_kept (test name) r s w.sessions there same_id e)

  module _ (name : List ℕ) (named : names name s ≡ true) (done : is_unfinished s.state ≡ false) where
    own_name : names name r ≡ true
    own_name = names_too name true named

    -- nobody else has the name
    nobody : is_unfinished r.state ≡ true → (x : Record) → In x v.sessions → test name x ≡ true → ⊥
    nobody was x i passes =
        let (u, n) = and_parts (is_unfinished x.state) (names name x) passes in
        let apart : x ≡ s → ⊥ = λ e. false≢true (sym (ap (λ (y : Record). is_unfinished y.state) e ∙ done) ∙ u) in
        elim (with_any s w.sessions x (subst (In x) put i)) [
          | inl e ↦ apart e
          | inr j ↦ law.alone x r name j h
              (λ e. apart (one_session v.sessions x s later.ids.ascend i self (e ∙ sym number))) n own_name u was
        ]

    its_if : (x : Record) (b : Bool) → eqb x.id.0 s.id.0 ≡ b → In x w.sessions → test name x ≡ true
        → is_unfinished r.state ≡ true → b ≡ true
    its_if x true e i passes was = refl
    its_if x false e i passes was =
        let (u, n) = and_parts (is_unfinished x.state) (names name x) passes in
        absurd (law.alone x r name i h
        (λ f. false≢true (sym e ∙ eq-eqb x.id.0 s.id.0 (f ∙ sym number))) n own_name u was)

    -- it had the name
    had_it : is_unfinished r.state ≡ true → is_session s.id (unfinished_with w.sessions name) ≡ true
    had_it was =
        let passes : test name r ≡ true =
        ap (λ (b : Bool). b && names name r) was ∙ own_name in
        let (x, e) = finds (test name) w.sessions (in_any (test name) r w.sessions h passes) in
        let (i, p) = found (test name) w.sessions x e in
        ap (λ (o : Option Record). is_session s.id (id_of o)) e ∙ its_if x (eqb x.id.0 s.id.0) refl i p was

    gone : is_unfinished r.state ≡ true → unfinished_with v.sessions name ≡ None
    gone was = ap id_of (find_nobody (test name) v.sessions
        (λ x i. false_from_ne_true (test name x) (λ e. nobody was x i e)))

    other_if : (x : Record) (b : Bool) → eqb x.id.0 s.id.0 ≡ b → In x w.sessions → test name x ≡ true
        → is_unfinished r.state ≡ false → b ≡ false
    other_if x false e i passes was = refl
    other_if x true e i passes was =
        let (u, n) = and_parts (is_unfinished x.state) (names name x) passes in
        let one : x ≡ r = one_session w.sessions x r law.ids.ascend i h (eqb-true _ _ e ∙ number) in
        absurd (false≢true (sym (ap (λ (y : Record). is_unfinished y.state) one ∙ was) ∙ u))

    others : is_unfinished r.state ≡ false → (o : Option Record) → find (test name) w.sessions ≡ o
        → is_session s.id (id_of o) ≡ false
    others was None e = refl
    others was (Some x) e =
        let (i, p) = found (test name) w.sessions x e in other_if x (eqb x.id.0 s.id.0) refl i p was

    done_if : (q : Bool) → is_unfinished r.state ≡ q
        → cond (is_session s.id (unfinished_with w.sessions name)) None (unfinished_with w.sessions name)
        ≡ unfinished_with v.sessions name
    done_if true e =
        ap (λ (b : Bool). cond b None (unfinished_with w.sessions name)) (had_it e) ∙ sym (gone e)
    done_if false e =
        ap (λ (b : Bool). cond b None (unfinished_with w.sessions name)) (others e (find (test name) w.sessions) refl)
        ∙ stays name (ap (λ (b : Bool). b && names name s) done ∙ sym (ap (λ (b : Bool). b && names name r) e))

  left_if : (u n : Bool) (name : List ℕ) → is_unfinished s.state ≡ u → names name s ≡ n
      → cond ((not u && n) && is_session s.id (unfinished_with w.sessions name)) None (unfinished_with w.sessions name)
      ≡ unfinished_with v.sessions name
  left_if true n name e f =
      stays name (ap (λ (b : Bool). b && names name s) e ∙ f
      ∙ sym (ap (λ (b : Bool). b && names name r) (never e) ∙ names_too name n f))
  left_if false true name e f = done_if name f e (is_unfinished r.state) refl
  left_if false false name e f =
      stays name (ap (λ (b : Bool). is_unfinished s.state && b) f ∙ and_no (is_unfinished s.state)
      ∙ sym (ap (λ (b : Bool). is_unfinished r.state && b) (names_too name false f) ∙ and_no (is_unfinished r.state)))

  -- each name is left to its unfinished session
  pub left : (name : List ℕ)
      → left_to s name (unfinished_with w.sessions name) ≡ unfinished_with v.sessions name
  left name = left_if (is_unfinished s.state) (names name s) name refl refl

-- after a move of a session
pub left_moved : (w v : World) → Lawful w → Lawful v → (id : SessionId) (r s : Record) (b : State)
    (rollback : Option RollbackState) (m : Move) → session_of w.sessions id ≡ Some r
    → s ≡ record r { state = b; rollback = rollback } → moved r.state m ≡ Some b
    → v.sessions ≡ with_session s w.sessions → (name : List ℕ)
    → left_to s name (unfinished_with w.sessions name) ≡ unfinished_with v.sessions name
left_moved w v law later id r s b rollback m there same goes put =
    let (h, number) = of_found w.sessions id r there in
    let its : s.id ≡ r.id = ap (λ (x : Record). x.id) same in
    left w v law later r s h (ap (session_of w.sessions) (its ∙ equal_id r.id id number) ∙ there) its
    (ap (λ (x : Record). x.parts) same) put
    (λ u. never_again r.state b m goes (ap is_unfinished (sym (ap (λ (x : Record). x.state) same)) ∙ u))
