-- What names hold and held, and what is kept of the past, after sessions that each changed by themselves and kept their
-- ids, kinds, parts and activation boots. Callers want `held_same`, `active_same`, `before_same`, `backup_same`,
-- `has_same`, `restores_same`, `found_after`, `staged_same` and `may_same`.
use Rattle.std.proofs.Common.{◌≡◌, ◌⊎◌, ℕ, Bool, true, false, cond, eqb, ◌&&◌, List, [], ◌∷◌, map, find, Option, Some}
use Rattle.std.proofs.Common.{None, sym, ap, ◌∙◌, refl, inl, inr}
use Rattle.std.specs.Prelude.{not, nat_lt}
use Rattle.std.specs.List.{list_any}
use Rattle.std.specs.Option.{option_map}
use Rattle.std.proofs.lemmas.Bool.{and_parts, and_right}
use Rattle.apex_base.specs.declared.numbers.SessionId.{SessionId}
use Rattle.apex_base.specs.declared.records.Record.{Record}
use Rattle.apex_base.specs.declared.records.RollbackState.{RollbackState}
use Rattle.apex_base.specs.declared.records.RollbackState.TheVariants.{Enabling, Available, Committed, Deleted}
use Rattle.apex_base.specs.declared.records.Target.{Target}
use Rattle.apex_base.specs.Commit.{rollback_id, rolls_back, undoes}
use Rattle.apex_base.specs.Held.{is_undoable, is_standing, is_success, candidate, held, before, is_staged}
use Rattle.apex_base.specs.Members.{In}
use Rattle.apex_base.specs.Sessions.{names, session_of}
use Rattle.apex_base.specs.Settled.{stands_for, active_of, is_undoable_for, backup_of}
use Rattle.apex_base.specs.Spelling.{target_text}
use Rattle.apex_base.proofs.Finding.{found}
use Rattle.apex_world.specs.Rows.{is_staged_session, may_happen, has_snapshot, has_pre_restore}
use Rattle.world_laws.proofs.alike.AlikeAfter.{IsLike, names_same}
use Rattle.apex_base.proofs.SessionLemmas.{of_map}
use Rattle.world_laws.proofs.runs.SessionMaps.{candidate_none, candidate_same, latest_map}

-- Tests of elements that each changed

pub any_same : {X : Type 0} (t u : X → Bool) (g : X → X) (xs : List X) → ((x : X) → In x xs → t (g x) ≡ u x)
    → list_any t (map g xs) ≡ list_any u xs
any_same t u g [] same = refl
any_same t u g (x ∷ xs) same =
    let here = same x (inl refl) in
    let rest = any_same t u g xs (λ y h. same y (inr h)) in
    cc (here, rest)

pub find_same : {X : Type 0} (t u : X → Bool) (g : X → X) (xs : List X) → ((x : X) → In x xs → t (g x) ≡ u x)
    → find t (map g xs) ≡ option_map g (find u xs)
find_same t u g [] same = refl
find_same t u g (x ∷ xs) same =
    ap (λ b. cond b (Some (g x)) (find t (map g xs))) (same x (inl refl))
    ∙ find_if (u x) g x (find t (map g xs)) (find u xs) (find_same t u g xs (λ y h. same y (inr h)))
  where
    find_if : {X : Type 0} (b : Bool) (g : X → X) (x : X) (o p : Option X) → o ≡ option_map g p
        → cond b (Some (g x)) o ≡ option_map g (cond b (Some x) p)
    find_if true g x o p e = refl
    find_if false g x o p e = e

-- what is so of either answer
pub by_answer : {P : Type 0} (b : Bool) → (b ≡ true → P) → (b ≡ false → P) → P
by_answer true yes_so no_so = yes_so refl
by_answer false yes_so no_so = no_so refl

module _ (ss : List Record) (g : Record → Record) (like : (r : Record) → In r ss → IsLike r (g r)) where
  abbrev after : List Record
  after = map g ss

  -- Where the same sessions stand, names hold the same

  pub held_same : (name : List ℕ) → ((r : Record) → In r ss → is_standing (g r).state ≡ is_standing r.state)
      → held after name ≡ held ss name
  held_same name same =
      latest_map (λ r. is_standing r.state) (λ r. is_standing r.state) name g ss (λ r h.
      ap (λ b. candidate b name (g r)) (same r h)
      ∙ candidate_same (is_standing r.state) name r (g r) (like r h).parts (like r h).activation)

  pub active_same : (name : List ℕ) → ((r : Record) → In r ss → is_standing (g r).state ≡ is_standing r.state)
      → active_of after name ≡ active_of ss name
  active_same name same =
      ap (λ b. cond b (Some (target_text (held after name) [])) None)
      (any_same (stands_for name) (stands_for name) g ss (λ r h.
      ap (λ b. b && names name (g r)) (same r h)
      ∙ ap (λ b. is_standing r.state && b) (names_same r (g r) name (like r h))))
      ∙ ap (λ t. cond (list_any (stands_for name) ss) (Some (target_text t [])) None) (held_same name same)

  -- Where the same sessions were a success before one, names held the same before it

  abbrev pub SuccessSame : Record → List ℕ → Type 0
  SuccessSame x name = (r : Record) → In r ss → names name r ≡ true
      → (is_success (g r).state ≡ is_success r.state) ⊎ (nat_lt r.activation x.activation ≡ false)

  counts_same : (x r : Record) → In x ss → In r ss
      → (is_success (g r).state ≡ is_success r.state) ⊎ (nat_lt r.activation x.activation ≡ false)
      → (is_success (g r).state && nat_lt (g r).activation (g x).activation)
      ≡ (is_success r.state && nat_lt r.activation x.activation)
  counts_same x r h i way =
      let lower : nat_lt (g r).activation (g x).activation ≡ nat_lt r.activation x.activation =
      ap (λ n. nat_lt n (g x).activation) (like r i).activation ∙ ap (nat_lt r.activation) (like x h).activation in
      elim way [
        | inl e ↦ ap (λ b. b && nat_lt (g r).activation (g x).activation) e ∙ ap (λ b. is_success r.state && b) lower
        | inr e ↦ and_right (is_success (g r).state) (nat_lt (g r).activation (g x).activation) (lower ∙ e)
            ∙ sym (and_right (is_success r.state) (nat_lt r.activation x.activation) e)
      ]

  pub before_same : (x : Record) (name : List ℕ) → In x ss → SuccessSame x name
      → before after (g x) name ≡ before ss x name
  before_same x name h same =
      let test : Record → Bool = λ r. is_success r.state && nat_lt r.activation x.activation in
      let test' : Record → Bool = λ r. is_success r.state && nat_lt r.activation (g x).activation in
      latest_map test test' name g ss (λ r i. by_answer (names name r)
      (λ n. ap (λ b. candidate b name (g r)) (counts_same x r h i (same r i n))
      ∙ candidate_same (test r) name r (g r) (like r i).parts (like r i).activation)
      (λ n. candidate_none (test' (g r)) name (g r) (names_same r (g r) name (like r i) ∙ n)
      ∙ sym (candidate_none (test r) name r n)))

  backup_if : (name : List ℕ) (o : Option Record) → find (is_undoable_for name) ss ≡ o
      → ((x : Record) → In x ss → names name x ≡ true → before after (g x) name ≡ before ss x name)
      → option_map (λ r. target_text (before after r name) []) (option_map g o)
      ≡ option_map (λ r. target_text (before ss r name) []) o
  backup_if name None e same = refl
  backup_if name (Some x) e same =
      let (h, both) = found (is_undoable_for name) ss x e in
      ap (λ (t : Target). Some (target_text t [])) (same x h (and_parts (is_undoable x.state) (names name x) both).1)

  -- where the same sessions can be undone
  pub backup_same : (name : List ℕ)
      → ((r : Record) → In r ss → names name r ≡ true → is_undoable (g r).state ≡ is_undoable r.state)
      → ((x : Record) → In x ss → names name x ≡ true → before after (g x) name ≡ before ss x name)
      → backup_of after name ≡ backup_of ss name
  backup_same name undoable same =
      ap (option_map (λ r. target_text (before after r name) []))
      (find_same (is_undoable_for name) (is_undoable_for name) g ss (λ r h. by_answer (names name r)
      (λ n. ap (λ b. b && names name (g r)) (undoable r h n)
      ∙ ap (λ b. is_undoable r.state && b) (names_same r (g r) name (like r h)))
      (λ n. and_right (is_undoable (g r).state) (names name (g r)) (names_same r (g r) name (like r h) ∙ n)
      ∙ sym (and_right (is_undoable r.state) (names name r) n))))
      ∙ backup_if name (find (is_undoable_for name) ss) refl same

  -- Where the same rollbacks may happen, the same is kept of the past

  pub has_same : (r : Record) → In r ss → may_happen after (g r).id (g r).rollback ≡ may_happen ss r.id r.rollback
      → has_snapshot after (g r) ≡ has_snapshot ss r
  has_same r h e =
      ap (λ k. rolls_back k && not (eqb (g r).activation 0) && may_happen after (g r).id (g r).rollback) (like r h).kind
      ∙ ap (λ n. rolls_back r.kind && not (eqb n 0) && may_happen after (g r).id (g r).rollback) (like r h).activation
      ∙ ap (λ b. rolls_back r.kind && not (eqb r.activation 0) && b) e

  pub restores_same : (r : Record) → In r ss → is_undoable (g r).state ≡ is_undoable r.state
      → has_pre_restore (g r) ≡ has_pre_restore r
  restores_same r h e =
      ap (λ k. undoes k && is_undoable (g r).state) (like r h).kind ∙ ap (λ b. undoes r.kind && b) e

  module _ (ids : (r : Record) → (g r).id ≡ r.id) where
    -- a session is found in its new state
    pub found_after : (id : SessionId) → session_of after id ≡ option_map g (session_of ss id)
    found_after id = of_map g ss id ids

    staged_if : (o : Option Record) → ((z : Record) → o ≡ Some z → is_staged (g z).state ≡ is_staged z.state)
        → is_staged_session (option_map g o) ≡ is_staged_session o
    staged_if None same = refl
    staged_if (Some z) same = same z refl

    pub staged_same : (id : SessionId)
        → ((z : Record) → session_of ss id ≡ Some z → is_staged (g z).state ≡ is_staged z.state)
        → is_staged_session (session_of after id) ≡ is_staged_session (session_of ss id)
    staged_same id same = ap is_staged_session (found_after id) ∙ staged_if (session_of ss id) same

    -- a rollback that is the same may happen as before, unless it is committed
    pub may_same : (id : SessionId) (o : Option RollbackState) → (o ≡ Some Committed
        → is_staged_session (session_of after (rollback_id id)) ≡ is_staged_session (session_of ss (rollback_id id)))
        → may_happen after id o ≡ may_happen ss id o
    may_same id None same = refl
    may_same id (Some Enabling) same = refl
    may_same id (Some Available) same = refl
    may_same id (Some Committed) same = same refl
    may_same id (Some Deleted) same = refl
