-- What is kept after a commit, and how much that is. Callers want `commit_modules` and `commit_bounds`.
use Rattle.std.proofs.Common.{◌≡◌, ◌≢◌, ℕ, ◌+◌, ◌≤◌, Bool, true, false, cond, is_some, List, [], ◌∷◌, length, map}
use Rattle.std.proofs.Common.{Option, Some, sym, ap, subst, ◌∙◌, refl, inl, inr, ◌⊎◌, arith}
use Rattle.std.specs.Prelude.{option_and_then, slice_get}
use Rattle.std.specs.List.{sum_by}
use Rattle.std.proofs.lemmas.Bool.{cases_order, or_right, false≢true}
use Rattle.std.proofs.lemmas.List.Sums.{sum_by-cons, sum_by-le-sum_by}
use Rattle.apex_base.specs.declared.numbers.SessionId.{SessionId}
use Rattle.apex_base.specs.declared.records.Part.{Part}
use Rattle.apex_base.specs.declared.records.Record.{Record}
use Rattle.apex_base.specs.declared.records.Target.{Target}
use Rattle.apex_base.specs.declared.records.Target.TheVariants as targets
use Rattle.apex_base.specs.Commit.{part_before, committed, after_commit}
use Rattle.apex_base.specs.Held.{is_unfinished, is_undoable, is_standing, is_available, kept, is_module}
use Rattle.apex_base.specs.Held.{is_target}
use Rattle.apex_base.specs.Members.{In}
use Rattle.apex_base.specs.Modules.{module_weight}
use Rattle.apex_base.specs.Numbers.{scale_modules}
use Rattle.apex_base.specs.Sessions.{session_of, with_session}
use Rattle.apex_base.proofs.Finding.{some_then, is_there}
use Rattle.apex_base.proofs.MemberLemmas.{in_map_back, any_in, in_any}
use Rattle.apex_world.specs.Bounds.{name_count, can_be_undone, can_be_rolled_back, is_ready_rollback, IsWithinScale}
use Rattle.apex_world.specs.Lawful.{Lawful, HaveModules, part_at_place}
use Rattle.apex_world.specs.Limits.{kind_units, units_of, target_weight, weight_of}
use Rattle.apex_world.specs.World.{World}
use Rattle.world_laws.proofs.runs.CommitOne.{CommitsTo, leaves, made, others, members, was_so, commits_to, made_apart}
use Rattle.world_laws.proofs.runs.CommitOne.{same_number, stays_there, found_after}
use Rattle.world_laws.proofs.runs.CommitParts.{new_ids, commit_ids}
use Rattle.world_laws.proofs.runs.CommitPeers.{commit_activations}
use Rattle.world_laws.proofs.runs.CommitRollbacks.{was_available}
use Rattle.world_laws.proofs.runs.CommitUndone.{success_same}
use Rattle.apex_base.proofs.SessionLemmas.{with_lt, with_gt}
use Rattle.world_facts.proofs.facts.KeptLemmas.{AreOrdered, Backs, ordered, stands_as, stands_activated, keeps}
use Rattle.world_facts.proofs.facts.KeptLess.{Goes, IsFresh, Carries, Nothing, Before, New, kept_less}

-- Sums over sessions

-- what counts by the first test counts by the second
pub if_at_most : (b c : Bool) (n : ℕ) → (b ≡ true → c ≡ true) → cond b n 0 ≤ cond c n 0
if_at_most true c n more = rw (more refl) (omega arith)
if_at_most false c n more = omega arith

module _ (g : Record → ℕ) where
  -- one session more
  pub sum_with : (s : Record) (ss : List Record) → ((r : Record) → In r ss → r.id.0 ≢ s.id.0)
      → sum_by g (with_session s ss) ≡ g s + sum_by g ss
  sum_with s [] apart = sum_by-cons g s []
  sum_with s (x ∷ ss) apart =
      elim (cases_order x.id.0 s.id.0) [
        | inl f ↦ absurd (apart x (inl refl) f)
        | inr o ↦ elim o [
          | inl l ↦
              let rest = sum_with s ss (λ r h. apart r (inr h)) in
              ap (sum_by g) (with_lt s x ss l) ∙ omega (
                arith,
                rest,
                sum_by-cons g x (with_session s ss),
                sum_by-cons g x ss,
              )
          | inr l ↦ ap (sum_by g) (with_gt s x ss l) ∙ sum_by-cons g s (x ∷ ss)
        ]
      ]

  -- each session counts at most as much as before
  pub sum_map : (f : Record → Record) (ss : List Record) → ((r : Record) → In r ss → g (f r) ≤ g r)
      → sum_by g (map f ss) ≤ sum_by g ss
  sum_map f [] less = omega arith
  sum_map f (x ∷ ss) less =
      let here = less x (inl refl) in
      let rest = sum_map f ss (λ r h. less r (inr h)) in
      omega (arith, here, rest, sum_by-cons g (f x) (map f ss), sum_by-cons g x ss)

module _ (w : World) (law : Lawful w) (x : Record) (h : In x w.sessions) (e : is_available x.rollback ≡ true)
    (print : List ℕ) where
  abbrev new : Record
  new = made w.sessions x print

  abbrev after : List Record
  after = committed w.sessions x print

  -- What is kept was kept

  goes : (r s : Record) → CommitsTo x r s → Goes r s
  goes r s c =
      let l = leaves x r s c in
      record {
        parts = l.kept.parts;
        unfinished = was_so r s l is_unfinished refl;
        stays = λ f. (success_same r s l ∙ f, l.activation);
        came = λ f. elim (stands_as r.state (was_so r s l is_standing refl f)) [
          | inl (u, v) ↦ inl v
          | inr u ↦ inr u
        ];
        available = λ f. (
          or_right (is_undoable r.state) (is_available r.rollback) (was_available x r s c f),
          l.activation,
        );
      }

  new_fresh : IsFresh w.sessions new
  new_fresh = record {
    unused = made_apart w.sessions x print (new_ids w law x h e);
    idle = refl;
    unavailable = refl;
  }

  carries : Carries w.sessions after
  carries = record {
    back = λ s i. elim (members w.sessions x print s i) [
      | inl f ↦ inr (subst (IsFresh w.sessions) (sym f) new_fresh)
      | inr (r, j, c) ↦ inl (r, j, goes r s c)
    ];
    forth = λ r i. (
      after_commit x r,
      stays_there w.sessions x print (new_ids w law x h e) r i,
      goes r (after_commit x r) (commits_to x r),
    );
  }

  -- sessions are ordered as before
  pub commit_ordered : AreOrdered after
  commit_ordered =
      let a = commit_activations w law x h e print in
      record {
        ascend = (commit_ids w law x h e print).ascend;
        peers = a.peers;
        active = λ r i s z. let l = (a.each r i).some (stands_activated r.state s) in absurd (omega (arith, l, z));
      }

  -- the new session's targets were kept for the session that it undoes
  new_kept : (s : Record) (p : Part) (t : Target) → In s after → IsFresh w.sessions s → In p s.parts → t ≡ p.target
      → In t (kept w.sessions)
  new_kept s p t i fresh j f =
      elim (members w.sessions x print s i) [
        | inr (r, k, c) ↦ absurd (fresh.unused r k
            (sym (ap (λ (id : SessionId). id.0) (leaves x r s c).kept.id)))
        | inl g ↦
            let (q, k, is) = in_map_back (part_before w.sessions x) p x.parts
            (subst (λ (s : Record). In p s.parts) g j) in
            keeps w.sessions x q t h k (Backs (or_right (is_undoable x.state) (is_available x.rollback) e)
            (f ∙ ap (λ (p : Part). p.target) (sym is)))
      ]

  -- what is kept after a commit is no module, or was kept
  pub kept_before : (t : Target) → In t (kept after) → (t ≡ targets.Preinstalled) ⊎ In t (kept w.sessions)
  kept_before t i =
      elim (kept_less w.sessions after (ordered w law) commit_ordered carries t i) [
        | Nothing f ↦ inl f
        | Before j ↦ inr j
        | New s p j fresh k f ↦ inr (new_kept s p t j fresh k f)
      ]

  -- a part of a session stays in its place
  place_after : (session : SessionId) (part : ℕ) (p : Part) → part_at_place w.sessions session part ≡ Some p
      → part_at_place after session part ≡ Some p
  place_after session part p f =
      let (r, there, is) = some_then (λ (r : Record). slice_get r.parts part) (session_of w.sessions session) p f in
      ap (λ (o : Option Record). option_and_then (λ (r : Record). slice_get r.parts part) o)
      (found_after w.sessions x print (new_ids w law x h e) session r there)
      ∙ ap (λ (ps : List Part). slice_get ps part) (leaves x r (after_commit x r) (commits_to x r)).kept.parts ∙ is

  -- each module that is kept is there
  pub commit_modules : HaveModules (record w { sessions = after })
  commit_modules = record {
    kept = λ session part version i. elim (kept_before (targets.Module session part version) i) [
      | inl f ↦ absurd (cc)
      | inr j ↦
          let k = law.modules.kept session part version j in
          record {
            content = k.content;
            name = k.name;
            there = k.there;
            checks = k.checks;
            says = place_after session part _ k.says;
          }
    ];
    distinct = law.modules.distinct;
    owned = λ s i. let (p, f) = is_there (part_at_place w.sessions s.session s.part) (law.modules.owned s i) in
        ap (λ (o : Option Part). is_some o) (place_after s.session s.part p f);
  }

  -- Weight

  target_before : (session : SessionId) (part : ℕ) → is_target (kept after) session part ≡ true
      → is_target (kept w.sessions) session part ≡ true
  target_before session part f =
      let (t, i, is) = any_in (is_module session part) (kept after) f in
      elim (kept_before t i) [
        | inl g ↦ absurd (false≢true (ap (is_module session part) (sym g) ∙ is))
        | inr j ↦ in_any (is_module session part) t (kept w.sessions) j is
      ]

  -- what is kept weighs at most as much as before
  weight_less : weight_of after w.modules ≤ weight_of w.sessions w.modules
  weight_less = sum_by-le-sum_by (target_weight (kept after)) (target_weight (kept w.sessions)) w.modules (λ s.
      if_at_most (is_target (kept after) s.session s.part) (is_target (kept w.sessions) s.session s.part)
      (module_weight s.content) (target_before s.session s.part))

  -- Sums over the sessions

  sum_less : (g : Record → ℕ) → g new ≡ 0 → ((r s : Record) → CommitsTo x r s → g s ≤ g r)
      → sum_by g after ≤ sum_by g w.sessions
  sum_less g none less =
      let all = sum_map g (after_commit x) w.sessions (λ r i. less r (after_commit x r) (commits_to x r)) in
      let more = sum_with g new (others w.sessions x print) (λ s i f.
      let (r, j, is) = in_map_back (after_commit x) s w.sessions i in
      made_apart w.sessions x print (new_ids w law x h e) r j
      (sym (same_number w.sessions x print (new_ids w law x h e) r) ∙ ap (λ (r : Record). r.id.0) is ∙ f)) in
      omega (arith, none, all, more)

  -- the session that is made counts no unit
  units_less : units_of after ≤ units_of w.sessions
  units_less = sum_less (λ r. kind_units r.kind) refl (λ r s c.
      let same : kind_units s.kind ≡ kind_units r.kind = ap kind_units (leaves x r s c).kept.kind in
      omega (arith, same))

  counts_less : (test : Record → Bool) → test new ≡ false
      → ((r s : Record) → CommitsTo x r s → test s ≡ true → test r ≡ true)
      → name_count test after ≤ name_count test w.sessions
  counts_less test none less = sum_less (λ r. cond (test r) (length r.parts) 0)
      (ap (λ (b : Bool). cond b (length new.parts) 0) none) (λ r s c.
      let most = if_at_most (test s) (test r) (length s.parts) (less r s c) in
      let same = ap (λ (ps : List Part). cond (test r) (length ps) 0) (leaves x r s c).kept.parts in
      omega (arith, most, same))

  -- all that is bounded is within the scale
  pub commit_bounds : name_count is_ready_rollback after ≤ scale_modules w.scale
      → IsWithinScale (record w { sessions = after })
  commit_bounds waiting =
      let b = law.bounds in
      record {
        units = let l = b.units in let m = units_less in omega (arith, l, m);
        weight = let l = b.weight in let m = weight_less in omega (arith, l, m);
        contents = b.contents;
        eras = b.eras;
        undoable =
            let l = b.undoable in
            let m = counts_less can_be_undone refl (λ r s c. was_so r s (leaves x r s c) is_undoable refl) in
            omega (arith, l, m);
        available =
            let l = b.available in
            let m = counts_less can_be_rolled_back refl (λ r s c. was_available x r s c) in
            omega (arith, l, m);
        waiting = waiting;
        watches = b.watches;
      }
