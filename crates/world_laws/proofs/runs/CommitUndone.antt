-- Rollback sessions after a commit: each goes back to before a session whose rollback is committed, and what names held
-- before a session stays. Callers want `before_after` and `commit_undone`.
use Rattle.std.proofs.Common.{◌≡◌, ◌≢◌, ℕ, Bool, true, ◌&&◌, List, [], ◌∷◌, map, fold, Option, Some, None, sym, ap}
use Rattle.std.proofs.Common.{subst, ◌∙◌, refl, inl, inr}
use Rattle.std.specs.Prelude.{nat_lt}
use Rattle.std.proofs.lemmas.Bool.{cases_order, cases_eq, false≢true}
use Rattle.apex_base.specs.declared.numbers.SessionId.{SessionId}
use Rattle.apex_base.specs.declared.records.Kind.TheVariants.{RollbackOf}
use Rattle.apex_base.specs.declared.records.Part.{Part}
use Rattle.apex_base.specs.declared.records.Record.{Record}
use Rattle.apex_base.specs.declared.records.RollbackState.TheVariants as rollbacks
use Rattle.apex_base.specs.declared.records.Target.{Target}
use Rattle.apex_base.specs.Commit.{rollback_id, target_version, part_before, committed, after_commit}
use Rattle.apex_base.specs.Held.{is_success, is_available, candidate, later, target_of, latest, before}
use Rattle.apex_base.specs.Members.{In}
use Rattle.apex_base.specs.Rollbacks.{is_committed}
use Rattle.apex_base.specs.Sessions.{session_of, with_session}
use Rattle.apex_base.proofs.MemberLemmas.{in_map_back}
use Rattle.apex_base.proofs.SessionLemmas.{of_in, with_lt, with_gt, of_with}
use Rattle.apex_world.specs.Lawful.{Lawful, IsRollbackSession, HaveRollbackSessions, is_verified}
use Rattle.apex_world.specs.World.{World}
use Rattle.world_laws.proofs.runs.SessionMaps.{latest_map}
use Rattle.world_laws.proofs.runs.CommitOne.{CommitsTo, Taken, GivesWay, Stays, Leaves, leaves, made, others, members}
use Rattle.world_laws.proofs.runs.CommitOne.{commits_to, made_apart, same_number, found_after}
use Rattle.world_laws.proofs.runs.CommitParts.{new_ids}
use Rattle.world_laws.proofs.runs.CommitPeers.{waits_never}
use Rattle.world_laws.proofs.runs.CommitRollbacks.{still_committed, was_committed}
use Rattle.world_facts.proofs.facts.OpenedSessions.{one_session}

-- The latest of sessions that change

module _ (name : List ℕ) where
  abbrev best : (Record → Bool) → Option (ℕ × Target) → List Record → Option (ℕ × Target)
  best test b ss = fold (λ b r. later b (candidate (test r) name r)) b ss

  best_beside : (test : Record → Bool) (s : Record) (ss : List Record) (b : Option (ℕ × Target))
      → candidate (test s) name s ≡ None → ((r : Record) → In r ss → r.id.0 ≢ s.id.0)
      → best test b (with_session s ss) ≡ best test b ss
  best_beside test s [] b e apart = ap (later b) e
  best_beside test s (x ∷ ss) b e apart =
      elim (cases_order x.id.0 s.id.0) [
        | inl f ↦ absurd (apart x (inl refl) f)
        | inr o ↦ elim o [
          | inl l ↦ ap (best test b) (with_lt s x ss l)
              ∙ best_beside test s ss (later b (candidate (test x) name x)) e (λ r h. apart r (inr h))
          | inr l ↦ ap (best test b) (with_gt s x ss l)
              ∙ ap (λ (c : Option (ℕ × Target)). best test (later b c) (x ∷ ss)) e
        ]
      ]

  -- a session that is none of them changes nothing
  pub latest_beside : (test : Record → Bool) (s : Record) (ss : List Record) → candidate (test s) name s ≡ None
      → ((r : Record) → In r ss → r.id.0 ≢ s.id.0) → latest test (with_session s ss) name ≡ latest test ss name
  latest_beside test s ss e apart = ap target_of (best_beside test s ss None e apart)

-- a commit makes no success, and undoes none
pub success_same : (r s : Record) → Leaves r s → is_success s.state ≡ is_success r.state
success_same r s l =
    elim l.goes [
      | inl g ↦ ap is_success g
      | inr (wait, g) ↦ ap is_success g ∙ sym (waits_never r.state wait).1
    ]

-- the successes that were activated before a session
abbrev until : Record → Record → Bool
until z r = is_success r.state && nat_lt r.activation z.activation

candidate_same : (name : List ℕ) (z z' r s : Record) → z'.activation ≡ z.activation → Leaves r s
    → candidate (until z' s) name s ≡ candidate (until z r) name r
candidate_same name z z' r s e l = rw (success_same r s l, l.activation, l.kept.parts, e) refl

module _ (w : World) (law : Lawful w) (x : Record) (h : In x w.sessions) (e : is_available x.rollback ≡ true)
    (print : List ℕ) where
  abbrev new : Record
  new = made w.sessions x print

  abbrev after : List Record
  after = committed w.sessions x print

  -- what names held before a session
  pub before_after : (z z' : Record) (name : List ℕ) → z'.activation ≡ z.activation
      → before after z' name ≡ before w.sessions z name
  before_after z z' name same =
      latest_beside name (until z') new (others w.sessions x print) refl (λ s i f.
      let (r, j, g) = in_map_back (after_commit x) s w.sessions i in
      made_apart w.sessions x print (new_ids w law x h e) r j
      (sym (same_number w.sessions x print (new_ids w law x h e) r) ∙ ap (λ (r : Record). r.id.0) g ∙ f))
      ∙ latest_map (until z) (until z') name (after_commit x) w.sessions (λ r i.
      candidate_same name z z' r (after_commit x r) same (leaves x r (after_commit x r) (commits_to x r)))

  parts_before : (z z' : Record) (ps : List Part) → z'.activation ≡ z.activation
      → map (part_before w.sessions z) ps ≡ map (part_before after z') ps
  parts_before z z' [] same = refl
  parts_before z z' (p ∷ ps) same =
      ap (λ (t : Target). record { name = p.name; version = target_version t; target = t }
      ∷ map (part_before w.sessions z) ps) (sym (before_after z z' p.name same))
      ∙ ap (λ (qs : List Part). part_before after z' p ∷ qs) (parts_before z z' ps same)

  -- a rollback session stays one
  still_undone : (r s z : Record) → CommitsTo x r s → IsRollbackSession w.sessions z r
      → IsRollbackSession after (after_commit x z) s
  still_undone r s z c is =
      let l = leaves x r s c in
      let m = leaves x z (after_commit x z) (commits_to x z) in
      record {
        committed = still_committed x z (after_commit x z) (commits_to x z) is.committed;
        begun = elim l.goes [
          | inl g ↦ ap is_verified g ∙ is.begun
          | inr (wait, g) ↦ ap is_verified g
        ];
        id = l.kept.id ∙ is.id ∙ ap rollback_id (sym m.kept.id);
        children = l.kept.children ∙ is.children ∙ ap (map rollback_id) (sym m.kept.children);
        parts = l.kept.parts ∙ is.parts ∙ parts_before z (after_commit x z) z.parts m.activation
            ∙ ap (map (part_before after (after_commit x z))) (sym m.kept.parts);
      }

  x_taken : (s : Record) → CommitsTo x x s → s ≡ record x { rollback = Some rollbacks.Committed }
  x_taken s (Taken d f) = f
  x_taken s (GivesWay d wait f) = absurd (d refl)
  x_taken s (Stays d g f) = absurd (d refl)

  new_undone : IsRollbackSession after (after_commit x x) new
  new_undone =
      let m = leaves x x (after_commit x x) (commits_to x x) in
      record {
        committed = ap (λ (r : Record). is_committed r.rollback) (x_taken (after_commit x x) (commits_to x x));
        begun = refl;
        id = ap rollback_id (sym m.kept.id);
        children = ap (map rollback_id) (sym m.kept.children);
        parts = parts_before x (after_commit x x) x.parts m.activation
            ∙ ap (map (part_before after (after_commit x x))) (sym m.kept.parts);
      }

  abbrev GoesBack : Record → Type 0
  GoesBack s = (id : SessionId) → s.kind ≡ RollbackOf id
      → (z : Record) × (session_of after id ≡ Some z) × IsRollbackSession after z s

  of_kind : (id id' : SessionId) → RollbackOf id ≡ RollbackOf id' → id ≡ id'
  of_kind id id' k = cc

  new_goes_back : GoesBack new
  new_goes_back id k = (
    after_commit x x,
    found_after w.sessions x print (new_ids w law x h e) id x
        (ap (session_of w.sessions) (sym (of_kind x.id id k)) ∙ of_in w.sessions x law.ids.ascend h),
    new_undone,
  )

  abbrev GoesForth : Record → Type 0
  GoesForth s = (r : Record) × (session_of after (rollback_id s.id) ≡ Some r) × (r.kind ≡ RollbackOf s.id)

  still_forth : (r s : Record) → In r w.sessions → CommitsTo x r s → is_committed s.rollback ≡ true → GoesForth s
  still_forth r s i c f =
      let l = leaves x r s c in
      elim (cases_eq r.id.0 x.id.0) [
        | inl same ↦
            let id : s.id ≡ x.id = l.kept.id
            ∙ ap (λ (r : Record). r.id) (one_session w.sessions r x law.ids.ascend i h same) in (
              new,
              of_with new (others w.sessions x print) (rollback_id s.id)
                  (ap (λ (id : SessionId). (rollback_id id).0) (sym id)),
              ap (λ (id : SessionId). RollbackOf id) (sym id),
            )
        | inr d ↦
            let (y, there, kind) = law.undone.forth r i (was_committed x r s c d f) in (
              after_commit x y,
              found_after w.sessions x print (new_ids w law x h e) (rollback_id s.id) y
                  (ap (λ (id : SessionId). session_of w.sessions (rollback_id id)) l.kept.id ∙ there),
              (leaves x y (after_commit x y) (commits_to x y)).kept.kind ∙ kind
                  ∙ ap (λ (id : SessionId). RollbackOf id) (sym l.kept.id),
            )
      ]

  -- each committed rollback has its session, and each such session goes back to before the one that it undoes
  pub commit_undone : HaveRollbackSessions after
  commit_undone = record {
    back = λ s id i k. elim (members w.sessions x print s i) [
      | inl f ↦ subst GoesBack (sym f) new_goes_back id k
      | inr (r, j, c) ↦
          let (z, there, is) = law.undone.back r id j (sym (leaves x r s c).kept.kind ∙ k) in (
            after_commit x z,
            found_after w.sessions x print (new_ids w law x h e) id z there,
            still_undone r s z c is,
          )
    ];
    forth = λ s i f. elim (members w.sessions x print s i) [
      | inl g ↦ absurd (false≢true (ap (λ (r : Record). is_committed r.rollback) (sym g) ∙ f))
      | inr (r, j, c) ↦ still_forth r s j c f
    ];
  }
