-- No session has the id that a commit will give: calls and boots keep what makes this so. Callers want `Undone`,
-- `lawful_undone`, `clear_available`, and that each change keeps it.
use Rattle.std.proofs.Common.{◌≡◌, ◌≢◌, ◌⊎◌, ℕ, ◌+◌, ◌<◌, ◌≤◌, ◌&&◌, Bool, true, false, cond, List, [], ◌∷◌, map}
use Rattle.std.proofs.Common.{Option, Some, None, sym, ap, subst, ◌∙◌, refl, inl, inr, is_some, eqb, leb, arith}
use Rattle.std.proofs.lemmas.Bool.{and_parts, cases_eq, false≢true, eqb-true, eq-eqb, leb-true}
use Rattle.apex_base.specs.declared.numbers.SessionId.{SessionId}
use Rattle.apex_base.specs.declared.records.Kind.{Kind}
use Rattle.apex_base.specs.declared.records.Kind.TheVariants.{Plain, WithRollback, RollbackOf}
use Rattle.apex_base.specs.declared.records.Record.{Record}
use Rattle.apex_base.specs.declared.records.RollbackState.{RollbackState}
use Rattle.apex_base.specs.declared.records.RollbackState.TheVariants as rollbacks
use Rattle.apex_base.specs.Commit.{is_superseded, superseded, rollback_id, rollback_session, rolls_back, after_commit, undoes}
use Rattle.apex_base.specs.Commit.{committed}
use Rattle.apex_base.specs.Held.{is_available}
use Rattle.apex_base.specs.Members.{In}
use Rattle.apex_base.specs.Rollbacks.{is_committed, is_eligible, not_enabled}
use Rattle.apex_base.specs.Sessions.{with_session, names, Ascend}
use Rattle.apex_base.proofs.MemberLemmas.{in_map, in_map_back, in_filter}
use Rattle.apex_base.proofs.SessionLemmas.{with_any, with_self, with_others, of_found, of_in}
use Rattle.apex_world.specs.declared.calls.Observer.{Observer}
use Rattle.apex_world.specs.declared.calls.ObserverKind.{ObserverKind}
use Rattle.apex_world.specs.declared.calls.ObserverKind.TheVariants.{Fixed, Rollback}
use Rattle.apex_world.specs.Lawful.{Lawful, IsRollbackSession}
use Rattle.apex_world.specs.Trigger.{eligible, eligible_for, acted, acting_among, commits, commit_all, triggered}
use Rattle.apex_world.specs.World.{World}
use Rattle.world_laws.proofs.meaning.Lasting.{Clear, Lasts, trigger_lasts}

pub record Undone (ss : List Record) : Type 0 where
  -- what callers submit has small ids
  pub small : (x : Record) → In x ss → is_some x.rollback ≡ true → x.id.0 < 1073741824
  -- a session of another id was made by the rollback of one
  pub comes : (r : Record) → In r ss → 1073741824 ≤ r.id.0 → (x : Record) × In x ss × (r.id.0 ≡ x.id.0 + 1073741824)
  -- and that rollback is committed
  pub fresh : (r x : Record) → In r ss → In x ss → x.id.0 < 1073741824 → r.id.0 ≡ x.id.0 + 1073741824
      → is_committed x.rollback ≡ true

available_some : (o : Option RollbackState) → is_available o ≡ true → (is_some o ≡ true) × (is_committed o ≡ false)
available_some None e = absurd (cc)
available_some (Some rollbacks.Enabling) e = absurd (cc)
available_some (Some rollbacks.Available) e = (refl, refl)
available_some (Some rollbacks.Committed) e = absurd (cc)
available_some (Some rollbacks.Deleted) e = absurd (cc)

-- the id of a commit of an available rollback is free
pub clear_available : (ss : List Record) (x : Record) → Undone ss → In x ss → is_available x.rollback ≡ true
    → Clear ss x
clear_available ss x u h a r i e =
    let (some, not_yet) = available_some x.rollback a in
    absurd (false≢true (sym not_yet ∙ u.fresh r x i h (u.small x h some) e))

abbrev id_of : ℕ → SessionId
id_of n = record { 0 = n }

pub available_small : (ss : List Record) (x : Record) → Undone ss → In x ss → is_available x.rollback ≡ true
    → x.id.0 < 1073741824
available_small ss x u h a = u.small x h (available_some x.rollback a).0

-- two sessions of one id are one
pub only_one : (ss : List Record) (x y : Record) → Ascend ss → In x ss → In y ss → x.id.0 ≡ y.id.0 → x ≡ y
only_one ss x y a h i e =
    let same : x.id ≡ y.id = ap (λ (n : ℕ). id_of n) e in
    let found = of_in ss x a h in
    let found' = of_in ss y a i in
    cc (found, found', same)

-- Lawful worlds

rolls_no_undo : (k : Kind) → rolls_back k ≡ true → undoes k ≡ false
rolls_no_undo Plain e = absurd (cc)
rolls_no_undo WithRollback e = refl
rolls_no_undo (RollbackOf x) e = absurd (cc)

module _ (w : World) (law : Lawful w) where
  callers_small : (r : Record) → In r w.sessions → undoes r.kind ≡ false → r.id.0 < 1073741824
  callers_small r h e =
      let (low, high) = and_parts (leb 1 r.id.0) (leb r.id.0 1073741823) (law.ids.callers r r.id h e (inl refl)) in
      let m = leb-true r.id.0 1073741823 high in
      omega (arith, m)

  -- a session of another id than callers have is one that a rollback made
  made : (r : Record) (k : Kind) → In r w.sessions → r.kind ≡ k → 1073741824 ≤ r.id.0
      → (x : Record) × In x w.sessions × IsRollbackSession w.sessions x r
  made r Plain h e l = let m = callers_small r h (ap undoes e) in absurd (omega (arith, m, l))
  made r WithRollback h e l = let m = callers_small r h (ap undoes e) in absurd (omega (arith, m, l))
  made r (RollbackOf id) h e l = let (x, found, is) = law.undone.back r id h e in
      (x, (of_found w.sessions id x found).0, is)

  lawful_fresh : (r x : Record) → In r w.sessions → In x w.sessions → r.id.0 ≡ x.id.0 + 1073741824
      → is_committed x.rollback ≡ true
  lawful_fresh r x h i e =
      let (y, j, is) = made r r.kind h refl (omega (arith, e)) in
      let f : r.id.0 ≡ y.id.0 + 1073741824 = ap (λ (id : SessionId). id.0) is.id in
      let same = only_one w.sessions y x law.ids.ascend j i (omega (arith, e, f)) in
      ap (λ (r : Record). is_committed r.rollback) (sym same) ∙ is.committed

  pub lawful_undone : Undone w.sessions
  lawful_undone = record {
    small = λ x h e. callers_small x h (rolls_no_undo x.kind (sym (law.rollbacks.each x h).kind ∙ e));
    comes = λ r h l. let (y, j, is) = made r r.kind h refl l in (y, j, ap (λ (id : SessionId). id.0) is.id);
    fresh = λ r x h i l e. lawful_fresh r x h i e;
  }

-- Sessions that change

-- a session keeps its id, gets no rollback, and keeps a committed one
pub record Carries (r s : Record) : Type 0 where
  pub id : s.id.0 ≡ r.id.0
  pub some : is_some s.rollback ≡ true → is_some r.rollback ≡ true
  pub committed : is_committed r.rollback ≡ true → is_committed s.rollback ≡ true

pub undone_follow : (ss after : List Record) → ((s : Record) → In s after → (r : Record) × In r ss × Carries r s)
    → ((r : Record) → In r ss → (s : Record) × In s after × (s.id.0 ≡ r.id.0)) → Undone ss → Undone after
undone_follow ss after back forth u = record {
  small = λ s h e. let (r, i, c) = back s h in let m = u.small r i (c.some e) in let same = c.id in omega
      (arith, m, same);
  comes = λ s h l.
      let (r, i, c) = back s h in
      let same = c.id in
      let (x, j, e) = u.comes r i (omega (arith, l, same)) in
      let (y, k, f) = forth x j in
      (y, k, omega (arith, same, e, f));
  fresh = λ s y h i l e.
      let (r, j, c) = back s h in
      let (x, k, d) = back y i in
      let same = c.id in
      let same' = d.id in
      d.committed (u.fresh r x j k (omega (arith, l, same')) (omega (arith, e, same, same')));
}

pub undone_map : (f : Record → Record) (ss : List Record) → ((r : Record) → Carries r (f r)) → Undone ss
    → Undone (map f ss)
undone_map f ss carries u = undone_follow ss (map f ss)
    (λ s h. let (r, i, e) = in_map_back f s ss h in (r, i, subst (Carries r) e (carries r)))
    (λ r h. (f r, in_map f r ss h, (carries r).id)) u

carries_same : (r : Record) → Carries r r
carries_same r = record { id = refl; some = λ e. e; committed = λ e. e }

pub undone_with : (s r : Record) (ss : List Record) → In r ss → Carries r s → Undone ss → Undone (with_session s ss)
undone_with s r ss h c u = undone_follow ss (with_session s ss)
    (λ t i. elim (with_any s ss t i) [
      | inl e ↦ (r, h, subst (Carries r) (sym e) c)
      | inr j ↦ (t, j, carries_same t)
    ])
    (λ t i. elim (cases_eq t.id.0 s.id.0) [
      | inl e ↦ (s, with_self s ss, sym e)
      | inr d ↦ (t, with_others s ss t i d, refl)
    ]) u

-- a session of a new small id, whose rollback isn't committed
pub undone_new : (s : Record) (ss : List Record) → s.id.0 < 1073741824 → ((r : Record) → In r ss → r.id.0 ≢ s.id.0)
    → Undone ss → Undone (with_session s ss)
undone_new s ss low free u = record {
  small = λ x h e. elim (with_any s ss x h) [
    | inl f ↦ let same : x.id.0 ≡ s.id.0 = ap (λ (r : Record). r.id.0) f in omega (arith, low, same)
    | inr i ↦ u.small x i e
  ];
  comes = λ r h l. elim (with_any s ss r h) [
    | inl f ↦ let same : r.id.0 ≡ s.id.0 = ap (λ (r : Record). r.id.0) f in absurd (omega (arith, low, same, l))
    | inr i ↦ let (x, j, e) = u.comes r i l in (x, with_others s ss x j (free x j), e)
  ];
  fresh = λ r x h i l e. elim (with_any s ss r h) [
    | inl f ↦ let same : r.id.0 ≡ s.id.0 = ap (λ (r : Record). r.id.0) f in absurd (omega (arith, low, same, e))
    | inr j ↦ elim (with_any s ss x i) [
      | inl f ↦
          let same : x.id.0 ≡ s.id.0 = ap (λ (r : Record). r.id.0) f in
          let (y, k, g) = u.comes r j (omega (arith, e)) in
          absurd (free y k (omega (arith, e, g, same)))
      | inr k ↦ u.fresh r x j k l e
    ]
  ];
}

-- Commits

pub record Marks (x r s : Record) : Type 0 where
  pub id : s.id.0 ≡ r.id.0
  pub some : is_some s.rollback ≡ true → (is_some r.rollback ≡ true) ⊎ (r.id.0 ≡ x.id.0)
  pub committed : is_committed r.rollback ≡ true → is_committed s.rollback ≡ true
  pub this : r.id.0 ≡ x.id.0 → is_committed s.rollback ≡ true

given_some : (o : Option RollbackState) → is_some (not_enabled o) ≡ true → is_some o ≡ true
given_some None e = e
given_some (Some rollbacks.Enabling) e = refl
given_some (Some rollbacks.Available) e = refl
given_some (Some rollbacks.Committed) e = refl
given_some (Some rollbacks.Deleted) e = refl

given_committed : (o : Option RollbackState) → is_committed o ≡ true → is_committed (not_enabled o) ≡ true
given_committed None e = e
given_committed (Some rollbacks.Enabling) e = absurd (cc)
given_committed (Some rollbacks.Available) e = absurd (cc)
given_committed (Some rollbacks.Committed) e = e
given_committed (Some rollbacks.Deleted) e = absurd (cc)

other_marks : (b : Bool) (x r : Record) → r.id.0 ≢ x.id.0 → Marks x r (cond b (superseded (rollback_id x.id) r) r)
other_marks true x r d = record {
  id = refl;
  some = λ e. inl
      (given_some r.rollback e);
  committed = λ e. given_committed r.rollback e;
  this = λ e. absurd (d e);
}
other_marks false x r d = record { id = refl; some = λ e. inl e; committed = λ e. e; this = λ e. absurd (d e) }

marks_if : (b : Bool) (x r : Record) → eqb r.id.0 x.id.0 ≡ b
    → Marks x r (cond b (record r { rollback = Some rollbacks.Committed })
    (cond (is_superseded x r) (superseded (rollback_id x.id) r) r))
marks_if true x r e = record {
  id = refl;
  some = λ f. inr
      (eqb-true r.id.0 x.id.0 e);
  committed = λ f. refl;
  this = λ f. refl;
}
marks_if false x r e = other_marks (is_superseded x r) x r (λ f. absurd (false≢true (sym e ∙ eq-eqb r.id.0 x.id.0 f)))

marks : (x r : Record) → Marks x r (after_commit x r)
marks x r = marks_if (eqb r.id.0 x.id.0) x r refl

-- a session has x's id
abbrev pub IsThere : List Record → Record → Type 0
IsThere ss x = (y : Record) × In y ss × (y.id.0 ≡ x.id.0)

module _ (ss : List Record) (x : Record) (print : List ℕ) where
  abbrev new : Record
  new = rollback_session ss x print

  abbrev rest : List Record
  rest = map (after_commit x) ss

  rest_back : (s : Record) → In s rest → (r : Record) × In r ss × Marks x r s
  rest_back s h = let (r, i, e) = in_map_back (after_commit x) s ss h in (r, i, subst (Marks x r) e (marks x r))

  -- each id stays
  pub there_after : (y : Record) → IsThere ss y → IsThere (committed ss x print) y
  there_after y (r, h, e) =
      let s = after_commit x r in
      let i : In s rest = in_map (after_commit x) r ss h in
      let f = (marks x r).id in
      elim (cases_eq s.id.0 new.id.0) [
        | inl g ↦ (new, with_self new rest, omega (arith, e, f, g))
        | inr d ↦ (s, with_others new rest s i d, omega (arith, e, f))
      ]

  module _ (u : Undone ss) (low : x.id.0 < 1073741824) (there : IsThere ss x) where
    small_rest : (s : Record) → In s rest → is_some s.rollback ≡ true → s.id.0 < 1073741824
    small_rest s h e =
        let (r, i, m) = rest_back s h in
        let same = m.id in
        elim (m.some e) [
          | inl f ↦ let l = u.small r i f in omega (arith, l, same)
          | inr f ↦ omega (arith, low, same, f)
        ]

    comes_rest : (s : Record) → In s rest → 1073741824 ≤ s.id.0
        → (y : Record) × In y (committed ss x print) × (s.id.0 ≡ y.id.0 + 1073741824)
    comes_rest s h l =
        let (r, i, m) = rest_back s h in
        let same = m.id in
        let (y, j, e) = u.comes r i (omega (arith, l, same)) in
        let (z, k, f) = there_after y (y, j, refl) in
        (z, k, omega (arith, same, e, f))

    comes_new : (y : Record) × In y (committed ss x print) × (new.id.0 ≡ y.id.0 + 1073741824)
    comes_new = let (y, h, e) = there_after x there in (y, h, omega (arith, e))

    fresh_rest : (s y : Record) → In s rest → In y rest → y.id.0 < 1073741824 → s.id.0 ≡ y.id.0 + 1073741824
        → is_committed y.rollback ≡ true
    fresh_rest s y h i l e =
        let (r, j, m) = rest_back s h in
        let (z, k, n) = rest_back y i in
        let same = m.id in
        let same' = n.id in
        n.committed (u.fresh r z j k (omega (arith, l, same')) (omega (arith, e, same, same')))

    fresh_new : (y : Record) → In y rest → new.id.0 ≡ y.id.0 + 1073741824 → is_committed y.rollback ≡ true
    fresh_new y h e = let (z, k, n) = rest_back y h in let same = n.id in n.this (omega (arith, e, same))

    pub undone_commit : Undone (committed ss x print)
    undone_commit = record {
      small = λ s h e. elim (with_any new rest s h) [
        | inl f ↦ absurd (false≢true (sym (ap (λ (r : Record). is_some r.rollback) f) ∙ e))
        | inr i ↦ small_rest s i e
      ];
      comes = λ s h l. elim (with_any new rest s h) [
        | inl f ↦ let (y, i, e) = comes_new in (y, i, ap (λ (r : Record). r.id.0) f ∙ e)
        | inr i ↦ comes_rest s i l
      ];
      fresh = λ s y h i l e. elim (with_any new rest y i) [
        | inl f ↦ let same : y.id.0 ≡ x.id.0 + 1073741824 = ap (λ (r : Record). r.id.0) f in absurd
            (omega (arith, l, same))
        | inr j ↦ elim (with_any new rest s h) [
          | inl f ↦ fresh_new y j (sym (ap (λ (r : Record). r.id.0) f) ∙ e)
          | inr k ↦ fresh_rest s y k j l e
        ]
      ];
    }

pub undone_all : (print : List ℕ) (xs ss : List Record) → Undone ss
    → ((x : Record) → In x xs → (x.id.0 < 1073741824) × IsThere ss x) → Undone (commit_all print ss xs)
undone_all print [] ss u all = u
undone_all print (x ∷ xs) ss u all =
    let (low, there) = all x (inl refl) in
    undone_all print xs (committed ss x print) (undone_commit ss x print u low there)
    (λ y h. let (l, t) = all y (inr h) in (l, there_after ss x print y t))

-- Triggers

-- rollbacks that are available
abbrev pub AreAvailable : List Record → List Record → Type 0
AreAvailable ss xs = (x : Record) → In x xs → In x ss × (is_available x.rollback ≡ true)

pub eligible_available : (ss : List Record) → AreAvailable ss (eligible ss)
eligible_available ss x h = let (i, e) = in_filter (is_eligible ss) x ss h in
    (i, (and_parts (is_available x.rollback) _ e).0)

pub named_available : (name : List ℕ) (ss : List Record) → AreAvailable ss (eligible_for name ss)
named_available name ss x h =
    let (i, e) = in_filter (λ x. is_eligible ss x && names name x) x ss h in
    (i, (and_parts (is_available x.rollback) _ (and_parts (is_eligible ss x) (names name x) e).0).0)

module _ (ss : List Record) (print : List ℕ) (xs : List Record) (u : Undone ss) (available : AreAvailable ss xs) where
  kind_undone : (k : ObserverKind) → Undone (commit_all print ss (commits xs k))
  kind_undone (Fixed level) = u
  kind_undone Rollback = undone_all print xs ss u
      (λ x h. let (i, a) = available x h in (u.small x i (available_some x.rollback a).0, (x, i, refl)))

  acted_undone : (o : Option Observer) → Undone (acted ss print xs o).sessions
  acted_undone None = u
  acted_undone (Some o) = kind_undone o.kind

  pub trigger_undone : (os : List Observer) → Undone (triggered ss print xs os).sessions
  trigger_undone os = acted_undone (acting_among xs os)

  -- a trigger leaves each session that lasts, and what is held
  pub available_last : (os : List Observer) → Lasts ss (triggered ss print xs os).sessions
  available_last os = trigger_lasts ss print xs os (λ x h. let (i, a) = available x h in clear_available ss x u i a)
