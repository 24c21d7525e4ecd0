-- Sessions after one has succeeded, and what names held before. Callers want `as_map`, `ids`, `either`, `like`,
-- `standing`, `staged`, `none_beside` and `before_is`.
use Rattle.std.proofs.Common.{◌≡◌, ◌≢◌, ◌⊎◌, ℕ, Bool, true, false, cond, ◌&&◌, List, map}
use Rattle.std.proofs.Common.{Option, Some, None, sym, ap, subst, ◌∙◌, refl, inl, inr}
use Rattle.std.proofs.lemmas.Bool.{cases_eq}
use Rattle.apex_base.specs.declared.numbers.SessionId.{SessionId}
use Rattle.apex_base.specs.declared.records.Record.{Record}
use Rattle.apex_base.specs.declared.records.RollbackState.{RollbackState}
use Rattle.apex_base.specs.declared.records.RollbackState.TheVariants.{Enabling, Available, Committed, Deleted}
use Rattle.apex_base.specs.declared.records.State.{State}
use Rattle.apex_base.specs.declared.records.State.TheVariants as state
use Rattle.apex_base.specs.Held.{is_unfinished, is_standing, is_success, is_available, before, is_staged}
use Rattle.apex_base.specs.Members.{In}
use Rattle.apex_base.specs.Rollbacks.{is_enabling, no_longer}
use Rattle.apex_base.specs.Sessions.{names, shares}
use Rattle.apex_world.specs.Advance.{succeeding, outdated_by, after_success}
use Rattle.apex_world.specs.Lawful.{Lawful}
use Rattle.world_laws.specs.RowsMoved.{outdates}
use Rattle.apex_world.specs.World.{World}
use Rattle.world_laws.proofs.alike.AlikeAfter.{IsLike}
use Rattle.world_laws.proofs.rows.MovedRows.{put_self, put_other}
use Rattle.world_facts.proofs.facts.OpenedSessions.{one_session}
use Rattle.world_laws.proofs.runs.SessionMaps.{put_for, same_put, with_as_map}
use Rattle.world_laws.proofs.alike.SuccessAlike.{succeeding_like, succeeding_state, outdated}
use Rattle.world_laws.proofs.rows.TurnedLists.{before_same}

longer_same : (x : Record) (o : Option RollbackState) → x.rollback ≡ o → is_available o ≡ false
    → record x { rollback = no_longer o } ≡ x
longer_same x None e a = ap (λ (p : Option RollbackState). record x { rollback = p }) (sym e)
longer_same x (Some Enabling) e a = ap (λ (p : Option RollbackState). record x { rollback = p }) (sym e)
longer_same x (Some Available) e a = absurd (cc)
longer_same x (Some Committed) e a = ap (λ (p : Option RollbackState). record x { rollback = p }) (sym e)
longer_same x (Some Deleted) e a = ap (λ (p : Option RollbackState). record x { rollback = p }) (sym e)

outdated_if : (b : Bool) (x : Record) → (b && is_available x.rollback) ≡ false
    → cond b (record x { rollback = no_longer x.rollback }) x ≡ x
outdated_if true x e = longer_same x x.rollback refl e
outdated_if false x e = refl

-- a session whose rollback isn't outdated stays as it is
pub not_outdated : (r x : Record) → outdates r x ≡ false → outdated_by r x ≡ x
not_outdated r x e = outdated_if (shares x r) x e

module _ (w : World) (law : Lawful w) (clock : ℕ) (r : Record) (h : In r w.sessions)
    (active : r.state ≡ state.Activated) where
  abbrev ss : List Record
  ss = w.sessions

  abbrev pub now : Record
  now = succeeding clock r

  abbrev pub g : Record → Record
  g = put_for (succeeding clock r) (outdated_by r)

  abbrev pub after : List Record
  after = map (put_for (succeeding clock r) (outdated_by r)) w.sessions

  others_id : (x : Record) → (outdated_by r x).id ≡ x.id
  others_id x = (outdated r x).like.id

  now_like : IsLike r now
  now_like = succeeding_like (is_enabling r.rollback) clock r

  now_state : now.state ≡ state.Success
  now_state = succeeding_state (is_enabling r.rollback) clock r

  number : now.id.0 ≡ r.id.0
  number = ap (λ (id : SessionId). id.0) now_like.id

  -- the sessions afterwards, each by itself
  pub as_map : after_success clock r ss ≡ after
  as_map = with_as_map now r (outdated_by r) ss others_id law.ids.ascend h (sym number)

  -- each keeps its id
  pub ids : (x : Record) → (g x).id ≡ x.id
  ids = same_put now (outdated_by r) others_id

  -- a session is the one that succeeds, or another
  pub either : (x : Record) → In x ss → ((x ≡ r) × (g x ≡ now)) ⊎ ((x.id.0 ≢ r.id.0) × (g x ≡ outdated_by r x))
  either x i =
      elim (cases_eq x.id.0 r.id.0) [
        | inl e ↦ inl (one_session ss x r law.ids.ascend i h e, put_self now (outdated_by r) x (e ∙ sym number))
        | inr d ↦ inr (d, put_other now (outdated_by r) x (λ e. d (e ∙ number)))
      ]

  -- each keeps its id, kind, parts and boot
  pub like : (x : Record) → In x ss → IsLike x (g x)
  like x i =
      elim (either x i) [
        | inl (e, f) ↦ subst (IsLike x) (sym f) (subst (λ (y : Record). IsLike y now) (sym e) now_like)
        | inr (d, f) ↦ subst (IsLike x) (sym f) (outdated r x).like
      ]

  pub now_is : (x : Record) → g x ≡ now → (g x).state ≡ state.Success
  now_is x is = ap (λ (q : Record). q.state) is ∙ now_state

  pub other_state : (x : Record) → g x ≡ outdated_by r x → (g x).state ≡ x.state
  other_state x is = ap (λ (q : Record). q.state) is ∙ (outdated r x).state

  -- a test that says the same of both states
  state_same : (test : State → Bool) → test state.Success ≡ test state.Activated → (x : Record) → In x ss
      → test (g x).state ≡ test x.state
  state_same test e x i =
      elim (either x i) [
        | inl (same, is) ↦ ap test (now_is x is) ∙ e ∙ sym (ap (λ (q : Record). test q.state) same ∙ ap test active)
        | inr (d, is) ↦ ap test (other_state x is)
      ]

  -- the same sessions stand
  pub standing : (x : Record) → In x ss → is_standing (g x).state ≡ is_standing x.state
  standing = state_same is_standing refl

  -- and the same are ready
  pub staged : (x : Record) → In x ss → is_staged (g x).state ≡ is_staged x.state
  staged = state_same is_staged refl

  -- no other session of a name of it is unfinished
  pub none_beside : (x : Record) (name : List ℕ) → In x ss → x.id.0 ≢ r.id.0 → names name x ≡ true
      → names name r ≡ true → is_unfinished x.state ≡ true → ⊥
  none_beside x name i d n m u = law.alone x r name i h d n m u (ap is_unfinished active)

  -- names that it lacks held the same before each session
  pub before_is : (x : Record) (name : List ℕ) → In x ss → (names name r ≡ true → ⊥)
      → before after (g x) name ≡ before ss x name
  before_is x name i none =
      before_same ss g like x name i (λ q j n. elim (either q j) [
        | inl (same, is) ↦ absurd (none (ap (names name) (sym same) ∙ n))
        | inr (d, is) ↦ inl (ap is_success (other_state q is))
      ])
