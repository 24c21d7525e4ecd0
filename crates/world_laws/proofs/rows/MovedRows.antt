-- Sessions after one has moved that no boot has activated: what names hold, what is kept, and what rows say. Callers
-- want `as_map`, `keeps_on`, `own_other`, `has_else` and `taken`.
use Rattle.std.proofs.Common.{◌≡◌, ◌≢◌, ◌⊎◌, ℕ, Bool, true, false, cond, eqb, ◌&&◌, ◌||◌, List, map, Option, Some}
use Rattle.std.proofs.Common.{sym, ap, subst, ◌∙◌, refl, inl, inr}
use Rattle.std.specs.Prelude.{not}
use Rattle.std.specs.Option.{option_map}
use Rattle.std.proofs.lemmas.Bool.{false≢true, false_from_ne_true, and_left, and_right, or_cases, eqb-true, eq-eqb}
use Rattle.std.proofs.lemmas.Bool.{ne_eqb, cases_eq}
use Rattle.apex_base.specs.declared.numbers.SessionId.{SessionId}
use Rattle.apex_base.specs.declared.records.Kind.TheVariants.{RollbackOf}
use Rattle.apex_base.specs.declared.records.Part.{Part}
use Rattle.apex_base.specs.declared.records.Record.{Record}
use Rattle.apex_base.specs.declared.records.RollbackState.{RollbackState}
use Rattle.apex_base.specs.declared.records.State.{State}
use Rattle.apex_base.specs.declared.records.Target.{Target}
use Rattle.apex_base.specs.Commit.{rollback_id, rolls_back}
use Rattle.apex_base.specs.Held.{is_unfinished, is_undoable, is_standing, is_success, is_available, before, kept, is_staged}
use Rattle.apex_base.specs.Members.{In}
use Rattle.apex_base.specs.Rollbacks.{is_committed}
use Rattle.apex_base.specs.Sessions.{session_of, with_session}
use Rattle.apex_base.specs.Spelling.{record_text}
use Rattle.apex_base.proofs.MemberLemmas.{in_map, map_same}
use Rattle.apex_base.proofs.SessionLemmas.{of_found, of_with, of_other}
use Rattle.apex_world.specs.Lawful.{Lawful}
use Rattle.apex_world.specs.Rows.{may_happen, has_snapshot, record_row}
use Rattle.apex_world.specs.World.{World}
use Rattle.world_laws.proofs.alike.AlikeAfter.{IsLike, like_self}
use Rattle.world_facts.proofs.facts.KeptLemmas.{KeptAs, Own, Holds, Backs, keeps, undoable_stands, success_stands}
use Rattle.world_facts.proofs.facts.KeptLemmas.{stands_activated}
use Rattle.world_laws.proofs.alike.MovesAlike.{IsEarlyMove}
use Rattle.world_facts.proofs.facts.OpenedSessions.{one_session}
use Rattle.world_laws.proofs.runs.SessionMaps.{put_for, same_put, with_as_map}
use Rattle.world_laws.proofs.rows.TurnedLists.{by_answer, held_same, before_same, has_same}
use Rattle.world_laws.proofs.rows.TurnedLists.{staged_same, may_same}

-- A session put in its place

-- in its place stands the new one
pub put_self : (s : Record) (f : Record → Record) (r : Record) → r.id.0 ≡ s.id.0 → put_for s f r ≡ s
put_self s f r e = ap (λ b. cond b s (f r)) (eq-eqb r.id.0 s.id.0 e)

-- and in each other place what becomes of the other
pub put_other : (s : Record) (f : Record → Record) (r : Record) → r.id.0 ≢ s.id.0 → put_for s f r ≡ f r
put_other s f r d = ap (λ b. cond b s (f r)) (ne_eqb r.id.0 s.id.0 d)

-- tests that say the same
pub tests_agree : (b c : Bool) → (b ≡ true → c ≡ true) → (c ≡ true → b ≡ true) → b ≡ c
tests_agree true c f g = sym (f refl)
tests_agree false true f g = g refl
tests_agree false false f g = refl

-- a session that no boot has activated keeps no past
pub never_snapshot : (ss : List Record) (s : Record) → s.activation ≡ 0 → has_snapshot ss s ≡ false
never_snapshot ss s e =
    and_left (rolls_back s.kind && not (eqb s.activation 0)) (may_happen ss s.id s.rollback)
    (and_right (rolls_back s.kind) (not (eqb s.activation 0)) (ap not (eq-eqb s.activation 0 e)))

module _ (w : World) (law : Lawful w) (r : Record) (h : In r w.sessions) (t : State) (o : Option RollbackState)
    (early : IsEarlyMove r.state t) where
  abbrev pub r' : Record
  r' = record r { state = t; rollback = o }

  abbrev itself : Record → Record
  itself x = x

  abbrev pub g : Record → Record
  g = put_for (record r { state = t; rollback = o }) (λ x. x)

  abbrev ss : List Record
  ss = w.sessions

  abbrev pub after : List Record
  after = map (put_for (record r { state = t; rollback = o }) (λ x. x)) w.sessions

  -- the sessions afterwards, each by itself
  pub as_map : with_session r' w.sessions ≡ after
  as_map =
      ap (with_session r') (sym (map_same itself ss (λ x i. refl)))
      ∙ with_as_map r' r itself ss (λ x. refl) law.ids.ascend h refl

  pub ids : (x : Record) → (g x).id ≡ x.id
  ids = same_put r' itself (λ x. refl)

  -- a session is the one that moves, or stays
  pub either : (x : Record) → In x ss → ((x ≡ r) × (g x ≡ r')) ⊎ ((x.id.0 ≢ r.id.0) × (g x ≡ x))
  either x i =
      elim (cases_eq x.id.0 r.id.0) [
        | inl e ↦ inl (one_session ss x r law.ids.ascend i h e, put_self r' itself x e)
        | inr d ↦ inr (d, put_other r' itself x d)
      ]

  pub like : (x : Record) → In x ss → IsLike x (g x)
  like x i =
      elim (either x i) [
        | inl (e, f) ↦ subst (IsLike x) (sym f) (subst (λ (y : Record). IsLike y r') (sym e)
            (record { id = refl; kind = refl; parts = refl; activation = refl }))
        | inr (d, f) ↦ subst (IsLike x) (sym f) (like_self x)
      ]

  -- a test of states that holds neither before nor after the move
  state_same : (test : State → Bool) → test r.state ≡ false → test t ≡ false → (x : Record) → In x ss
      → test (g x).state ≡ test x.state
  state_same test e f x i =
      elim (either x i) [
        | inl (same, is) ↦ ap (λ (y : Record). test y.state) is ∙ f
            ∙ sym (ap (λ (y : Record). test y.state) same ∙ e)
        | inr (d, is) ↦ ap (λ (y : Record). test y.state) is
      ]

  not_standing : is_standing r.state ≡ false
  not_standing = false_from_ne_true (is_standing r.state)
      (λ e. absurd (false≢true (sym (stands_activated r.state e) ∙ early.never)))

  not_undoable : is_undoable r.state ≡ false
  not_undoable = false_from_ne_true (is_undoable r.state)
      (λ e. absurd (false≢true (sym not_standing ∙ undoable_stands r.state e)))

  not_success : is_success t ≡ false
  not_success = false_from_ne_true (is_success t) (λ e. absurd (false≢true (sym early.stands ∙ success_stands t e)))

  pub standing : (x : Record) → In x ss → is_standing (g x).state ≡ is_standing x.state
  standing = state_same is_standing not_standing early.stands

  pub undoable : (x : Record) → In x ss → is_undoable (g x).state ≡ is_undoable x.state
  undoable = state_same is_undoable not_undoable early.undoable

  success : (x : Record) → In x ss → is_success (g x).state ≡ is_success x.state
  success = state_same is_success early.success not_success

  never : r.activation ≡ 0
  never = (law.activations.each r h).none early.never

  -- What names hold, and held

  pub before_is : (x : Record) (name : List ℕ) → In x ss → before after (g x) name ≡ before ss x name
  before_is x name i = before_same ss g like x name i (λ q j n. inl (success q j))

  -- What is kept

  unavailable : is_available r.rollback ≡ true → ⊥
  unavailable a = false≢true (sym early.success ∙ (law.rollbacks.each r h).available a)

  -- what a session keeps that doesn't move, or that isn't its own, it keeps on
  pub keeps_on : (Q : Type 0) (x : Record) (p : Part) (y : Target) → In x ss → In p x.parts → KeptAs ss x p y
      → (is_unfinished x.state ≡ true → y ≡ p.target → Q ⊎ In y (kept after)) → Q ⊎ In y (kept after)
  keeps_on Q x p y i j way own =
      let l = like x i in
      let there = in_map g x ss i in
      let part : In p (g x).parts = subst (In p) (sym l.parts) j in
      elim way [
        | Own u e ↦ own u e
        | Holds s e ↦ inr (keeps after (g x) p y there part
            (Holds (standing x i ∙ s) (e ∙ sym (held_same ss g like p.name standing))))
        | Backs b e ↦ elim (either x i) [
          | inl (same, is) ↦ elim (or_cases _ _ b) [
            | inl u ↦ absurd (false≢true (sym not_undoable ∙ ap (λ (q : Record). is_undoable q.state) (sym same) ∙ u))
            | inr a ↦ absurd (unavailable (ap (λ (q : Record). is_available q.rollback) (sym same) ∙ a))
          ]
          | inr (d, is) ↦
              let may = ap (λ (q : Record). is_undoable q.state || is_available q.rollback) is ∙ b in
              inr (keeps after (g x) p y there part (Backs may (e ∙ sym (before_is x p.name i))))
        ]
      ]

  -- an unfinished session that stays keeps its own
  pub own_other : (x : Record) (p : Part) (y : Target) → In x ss → In p x.parts → x.id.0 ≢ r.id.0
      → is_unfinished x.state ≡ true → y ≡ p.target → In y (kept after)
  own_other x p y i j d u e =
      let is = put_other r' itself x d in
      keeps after (g x) p y (in_map g x ss i) (subst (In p) (sym (like x i).parts) j)
      (Own (ap (λ (q : Record). is_unfinished q.state) is ∙ u) e)

  -- Rows that are the same whatever the move

  pub record_after : (id : SessionId) → option_map record_text (session_of (with_session r' ss) id)
      ≡ cond (eqb id.0 r.id.0) (Some (record_text r')) (record_row w id)
  record_after id =
      by_answer (eqb id.0 r.id.0)
      (λ e. ap (option_map record_text) (of_with r' ss id (sym (eqb-true id.0 r.id.0 e)))
      ∙ ap (λ b. cond b (Some (record_text r')) (record_row w id)) (sym e))
      (λ e. ap (option_map record_text) (of_other r' ss id (λ f. false≢true (sym e ∙ eq-eqb id.0 r.id.0 (sym f))))
      ∙ ap (λ b. cond b (Some (record_text r')) (record_row w id)) (sym e))

  -- A rollback session that may wait

  -- what a session keeps of the past, if the one that moves isn't the session that takes it back
  pub has_else : (x : Record) → session_of ss x.id ≡ Some x
      → ((z : Record) → is_committed x.rollback ≡ true → session_of ss (rollback_id x.id) ≡ Some z → z ≡ r → ⊥)
      → In x ss × (has_snapshot after (g x) ≡ has_snapshot ss x)
  has_else x f apart =
      let (i, e) = of_found ss x.id x f in
      elim (either x i) [
        | inl (same, is) ↦
            let zero : x.activation ≡ 0 = ap (λ (q : Record). q.activation) same ∙ never in
            (i, never_snapshot after (g x) ((like x i).activation ∙ zero) ∙ sym (never_snapshot ss x zero))
        | inr (d, is) ↦ (
          i,
          has_same ss g like x i (ap (λ (q : Record). may_happen after q.id q.rollback) is
              ∙ may_same ss g like ids x.id x.rollback (λ c.
              staged_same ss g like ids (rollback_id x.id) (λ z found.
              elim (either z (of_found ss (rollback_id x.id) z found).0) [
                | inl (one, gone) ↦ absurd (apart z (ap is_committed c) found one)
                | inr (d, gone) ↦ ap (λ (q : Record). is_staged q.state) gone
              ]))),
        )
      ]

  -- a session that takes one back is that of its rollback
  pub taken : (x z : Record) → In x ss → is_committed x.rollback ≡ true
      → session_of ss (rollback_id x.id) ≡ Some z → z ≡ r → r.kind ≡ RollbackOf x.id
  taken x z i c found one =
      let (q, f, kind) = law.undone.forth x i c in
      let same : q ≡ z = cc in
      ap (λ (q : Record). q.kind) (sym (same ∙ one)) ∙ kind
