-- Rollback sessions where each session changes by itself as `Turns` says: `undone_after`.
use Rattle.std.proofs.Common.{◌≡◌, ◌≢◌, ℕ, true, false, ◌&&◌, List, map}
use Rattle.std.proofs.Common.{Some, sym, ap, ◌∙◌, inl, inr, arith}
use Rattle.std.specs.Prelude.{nat_lt}
use Rattle.std.proofs.lemmas.Bool.{false≢true, le-ltb, cases_Bool, and_right}
use Rattle.apex_base.specs.declared.numbers.SessionId.{SessionId}
use Rattle.apex_base.specs.declared.records.Kind.TheVariants.{RollbackOf}
use Rattle.apex_base.specs.declared.records.Record.{Record}
use Rattle.apex_base.specs.Commit.{rollback_id, part_before}
use Rattle.apex_base.specs.Held.{is_standing, is_success, candidate, before}
use Rattle.apex_base.specs.Members.{In}
use Rattle.apex_base.specs.Rollbacks.{is_committed}
use Rattle.apex_base.specs.Sessions.{names, session_of}
use Rattle.apex_base.proofs.SessionLemmas.{of_found}
use Rattle.apex_world.specs.Lawful.{Lawful, HaveRollbackSessions}
use Rattle.apex_world.specs.Lawful.{IsRollbackSession}
use Rattle.apex_world.specs.World.{World}
use Rattle.world_facts.proofs.facts.KeptLemmas.{success_stands, stands_as, names_own, undoable_no_success}
use Rattle.world_facts.proofs.facts.OpenedSessions.{one_session}
use Rattle.world_laws.proofs.runs.SessionMaps.{latest_map, candidate_same, candidate_none, part_of_target, map_alike}
use Rattle.world_laws.proofs.runs.TurnedSessions.{Turns}
use Rattle.world_laws.proofs.runs.TurnedLemmas.{same_names, found_some, from}

module _ (w : World) (law : Lawful w) (g : Record → Record) (same : (r : Record) → (g r).id ≡ r.id)
    (turn : (r : Record) → In r w.sessions → Turns r (g r)) where
  abbrev ss : List Record
  ss = w.sessions

  abbrev after : List Record
  after = map g w.sessions

  -- What a name held before a session whose rollback is committed

  -- a session that succeeds now was activated after one whose rollback is committed
  none_below : (r x : Record) (name : List ℕ) → In r ss → In x ss → is_committed x.rollback ≡ true
      → names name r ≡ true → names name x ≡ true → is_success (g r).state ≡ true → is_success r.state ≡ false
      → nat_lt r.activation x.activation ≡ false
  none_below r x name h i c n m f e =
      let stands : is_standing r.state ≡ true = sym (turn r h).standing ∙ success_stands (g r).state f in
      let success = (law.rollbacks.each x i).committed c in
      elim (stands_as r.state stands) [
        | inr s ↦ absurd (false≢true (sym e ∙ s))
        | inl u ↦
            let apart : r.id.0 ≢ x.id.0 = λ d. undoable_no_success r.state u.0
            (ap (λ (z : Record). is_success z.state) (one_session ss r x law.ids.ascend h i d) ∙ success) in
            let l = (law.activations.peers r x name h i apart n m).above u.0 (success_stands x.state success) in
            le-ltb r.activation x.activation (omega (arith, l))
      ]

  -- so the same sessions count as activated before that one
  same_test : (r x : Record) (name : List ℕ) → In r ss → In x ss → is_committed x.rollback ≡ true
      → names name r ≡ true → names name x ≡ true
      → (is_success (g r).state && nat_lt (g r).activation (g x).activation)
      ≡ (is_success r.state && nat_lt r.activation x.activation)
  same_test r x name h i c n m =
      ap (λ k. is_success (g r).state && nat_lt k (g x).activation) (turn r h).activation
      ∙ ap (λ k. is_success (g r).state && nat_lt r.activation k) (turn x i).activation
      ∙ elim (cases_Bool (is_success r.state)) [
        | inl e ↦ ap (λ b. b && nat_lt r.activation x.activation) ((turn r h).success e ∙ sym e)
        | inr e ↦ elim (cases_Bool (is_success (g r).state)) [
          | inl f ↦
              let none = none_below r x name h i c n m f e in
              and_right (is_success (g r).state) (nat_lt r.activation x.activation) none
              ∙ sym (and_right (is_success r.state) (nat_lt r.activation x.activation) none)
          | inr f ↦ ap (λ b. b && nat_lt r.activation x.activation) (f ∙ sym e)
        ]
      ]

  -- and what a name held before it stays
  same_before : (x : Record) (name : List ℕ) → In x ss → is_committed x.rollback ≡ true → names name x ≡ true
      → before after (g x) name ≡ before ss x name
  same_before x name i c m =
      latest_map (λ r. is_success r.state && nat_lt r.activation x.activation)
      (λ r. is_success r.state && nat_lt r.activation (g x).activation) name g ss (λ r h.
      elim (cases_Bool (names name r)) [
        | inr e ↦ candidate_none _ name (g r) (same_names w law g same turn r name h ∙ e)
            ∙ sym (candidate_none _ name r e)
        | inl n ↦
            ap (λ b. candidate b name (g r)) (same_test r x name h i c n m)
            ∙ candidate_same _ name r (g r) (turn r h).kept.parts (turn r h).activation
      ])

  -- each rollback session goes back to where it went
  back_after : (r : Record) (id : SessionId) → In r ss → (g r).kind ≡ RollbackOf id
      → (x : Record) × (session_of after id ≡ Some x) × IsRollbackSession after x (g r)
  back_after r id h k =
      let t = turn r h in
      let (x, found, back) = law.undone.back r id h (sym t.kept.kind ∙ k) in
      let i = (of_found ss id x found).0 in
      let u = turn x i in (
        g x,
        found_some w law g same turn id x found,
        record {
          committed = u.committed ∙ back.committed;
          begun = t.begun back.begun;
          id = same r ∙ back.id ∙ ap rollback_id (sym (same x));
          children = t.kept.children ∙ back.children ∙ ap (map rollback_id) (sym u.kept.children);
          parts = t.kept.parts ∙ back.parts
              ∙ map_alike (part_before ss x) (part_before after (g x)) x.parts (λ p j.
              part_of_target p (before ss x p.name) (before after (g x) p.name)
              (sym (same_before x p.name i back.committed (names_own x p j))))
              ∙ ap (map (part_before after (g x))) (sym u.kept.parts);
        },
      )

  -- and each session whose rollback is committed has one
  forth_after : (x : Record) → In x ss → is_committed (g x).rollback ≡ true
      → (r : Record) × (session_of after (rollback_id (g x).id) ≡ Some r) × (r.kind ≡ RollbackOf (g x).id)
  forth_after x i c =
      let (q, found, kind) = law.undone.forth x i (sym (turn x i).committed ∙ c) in
      let there = (of_found ss (rollback_id x.id) q found).0 in (
        g q,
        ap (λ (id : SessionId). session_of after (rollback_id id)) (same x)
            ∙ found_some w law g same turn (rollback_id x.id) q found,
        (turn q there).kept.kind ∙ kind ∙ ap (λ id. RollbackOf id) (sym (same x)),
      )

  -- rollback sessions are as they have to be
  pub undone_after : HaveRollbackSessions after
  undone_after = record {
    back = λ s id h. from w law g same turn (λ s. s.kind ≡ RollbackOf id
        → (x : Record) × (session_of after id ≡ Some x) × IsRollbackSession after x s) (λ r i. back_after r id i) s h;
    forth = λ s h. from w law g same turn (λ s. is_committed s.rollback ≡ true
        → (r : Record) × (session_of after (rollback_id s.id) ≡ Some r) × (r.kind ≡ RollbackOf s.id)) forth_after s h;
  }
