-- What is kept after a success, and which files are given up. Callers want `still_target`.
use Rattle.std.proofs.Common.{◌≡◌, ◌≢◌, ◌⊎◌, ℕ, ◌≤◌, Bool, true, cond, ◌&&◌, ◌||◌, List, [], ◌∷◌, map, find}
use Rattle.std.proofs.Common.{Some, sym, ap, subst, ◌∙◌, inl, inr, arith}
use Rattle.std.specs.Str.{bytes_eq}
use Rattle.std.proofs.lemmas.Bool.{false≢true, false_from_ne_true, and_from, or_cases, or_left, or_right, cases_eq}
use Rattle.apex_base.specs.declared.numbers.SessionId.{SessionId}
use Rattle.apex_base.specs.declared.records.Part.{Part}
use Rattle.apex_base.specs.declared.records.Record.{Record}
use Rattle.apex_base.specs.declared.records.State.TheVariants as state
use Rattle.apex_base.specs.declared.records.Target.{Target}
use Rattle.apex_base.specs.declared.records.Target.TheVariants as targets
use Rattle.apex_base.specs.Held.{is_unfinished, is_undoable, is_standing, is_available, held, before, kept}
use Rattle.apex_base.specs.Held.{is_target}
use Rattle.apex_base.specs.Members.{In, EachPair}
use Rattle.apex_base.specs.Sessions.{names, shares}
use Rattle.apex_base.proofs.MemberLemmas.{in_map, in_any, each_in}
use Rattle.apex_world.specs.Advance.{succeeding, outdated_by}
use Rattle.apex_world.specs.Lawful.{Lawful}
use Rattle.world_laws.specs.RowsMoved.{outdates, goes_back_to, gives_up_file}
use Rattle.apex_world.specs.World.{World}
use Rattle.world_laws.proofs.alike.AlikeAfter.{IsLike, target_in, in_target}
use Rattle.world_facts.proofs.facts.KeptLemmas.{Own, Holds, Backs, kept_back, keeps, names_own, eq_name, ordered, same_latest}
use Rattle.world_facts.proofs.facts.OpenedSessions.{one_session}
use Rattle.world_laws.proofs.runs.SessionMaps.{put_for}
use Rattle.world_laws.proofs.runs.OutdatedRollbacks.{sharing}
use Rattle.world_laws.proofs.rows.TurnedLists.{by_answer, held_same}
use Rattle.world_facts.proofs.facts.WorldRows.{same_name}
use Rattle.world_laws.proofs.rows.SucceededSessions.{not_outdated, either, like, now_is, other_state, standing, none_beside}
use Rattle.world_laws.proofs.rows.SucceededSessions.{before_is}
use Rattle.world_facts.proofs.facts.StateFacts.{undoable_unfinished}

-- of parts with different names, the one of a name is found by it
part_found : (ps : List Part) (p : Part) → EachPair (λ (p q : Part). p.name ≢ q.name) ps → In p ps
    → find (λ q. bytes_eq q.name p.name) ps ≡ Some p
part_found [] p d h = absurd h
part_found (q ∷ ps) p d (inl e) =
    ap (λ b. cond b (Some q) (find (λ q. bytes_eq q.name p.name) ps))
    (ap (λ (x : Part). bytes_eq x.name p.name) e ∙ eq_name p.name)
    ∙ ap (λ (x : Part). Some x) e
part_found (q ∷ ps) p d (inr h) =
    ap (λ b. cond b (Some q) (find (λ q. bytes_eq q.name p.name) ps))
    (false_from_ne_true (bytes_eq q.name p.name)
    (λ e. absurd (each_in (λ (x : Part). q.name ≢ x.name) ps d.0 p h (same_name q.name p.name e))))
    ∙ part_found ps p d.1 h

module _ (w : World) (law : Lawful w) (clock : ℕ) (r : Record) (h : In r w.sessions)
    (active : r.state ≡ state.Activated) where
  abbrev ss : List Record
  ss = w.sessions

  abbrev g : Record → Record
  g = put_for (succeeding clock r) (outdated_by r)

  abbrev after : List Record
  after = map (put_for (succeeding clock r) (outdated_by r)) w.sessions

  from : (x : Record) → In x ss → ((x ≡ r) × (g x ≡ succeeding clock r))
      ⊎ ((x.id.0 ≢ r.id.0) × (g x ≡ outdated_by r x))
  from x i = either w law clock r h active x i

  likes : (x : Record) → In x ss → IsLike x (g x)
  likes x i = like w law clock r h active x i

  stands : (x : Record) → In x ss → is_standing (g x).state ≡ is_standing x.state
  stands x i = standing w law clock r h active x i

  now_is_so : (x : Record) → g x ≡ succeeding clock r → (g x).state ≡ state.Success
  now_is_so x is = now_is w law clock r h active x is

  other_so : (x : Record) → g x ≡ outdated_by r x → (g x).state ≡ x.state
  other_so x is = other_state w law clock r h active x is

  lower : (s : Record) (name : List ℕ) → In s ss → names name r ≡ true → names name s ≡ true
      → is_standing s.state ≡ true → s.activation ≤ r.activation
  lower s name i n m stands =
      elim (cases_eq r.id.0 s.id.0) [
        | inl e ↦
            let same = ap (λ (q : Record). q.activation) (one_session ss r s law.ids.ascend h i e) in
            omega (arith, same)
        | inr d ↦
            let l = (law.activations.peers r s name h i d n m).above (ap is_undoable active) stands in
            omega (arith, l)
      ]

  -- its own targets are held
  own_held : (p : Part) → In p r.parts → held ss p.name ≡ p.target
  own_held p i =
      same_latest ss (ordered w law) (λ s. is_standing s.state) p.name r p (record {
        among = h;
        counts = ap is_standing active;
        part = part_found r.parts p (law.parts r h).names i;
        most = λ s j c n. lower s p.name j (names_own r p i) n c;
      }) (λ s e. e)

  -- what the names of a session held before it
  abbrev pub befores : Record → List Target
  befores x = map (λ (p : Part). before w.sessions x p.name) x.parts

  -- where a target went that was kept: it was one to go back to, or it is kept
  pub data Went (y : Target) : Type 0 where
    Back : In y (befores r) → Went y
    Outdated : (x : Record) → In x w.sessions → outdates r x ≡ true → In y (befores x) → Went y
    Stays : In y (kept after) → Went y

  backs : (x : Record) (p : Part) (y : Target) → In x ss → In p x.parts → x.id.0 ≢ r.id.0 → g x ≡ outdated_by r x
      → (is_undoable x.state || is_available x.rollback) ≡ true → y ≡ before ss x p.name → Went y
  backs x p y i j d is b e =
      let there = in_map g x ss i in
      let part : In p (g x).parts = subst (In p) (sym (likes x i).parts) j in
      let n = names_own x p j in
      elim (or_cases (is_undoable x.state) (is_available x.rollback) b) [
        | inl u ↦ Stays (keeps after (g x) p y there part
            (Backs (or_left (is_undoable (g x).state) (is_available (g x).rollback)
            (ap is_undoable (other_so x is) ∙ u))
            (e ∙ sym (before_is w law clock r h active x p.name i
            (λ m. none_beside w law clock r h active x p.name i d n m (undoable_unfinished x.state u))))))
        | inr a ↦ by_answer (shares x r)
            (λ s. Outdated x i (and_from (shares x r) (is_available x.rollback) s a)
            (subst (λ (y : Target). In y (befores x)) (sym e)
            (in_map (λ (p : Part). before w.sessions x p.name) p x.parts j)))
            (λ s.
            let same : g x ≡ x = is ∙ not_outdated r x (ap (λ b. b && is_available x.rollback) s) in
            Stays (keeps after (g x) p y there part
            (Backs (ap (λ (q : Record). is_undoable q.state || is_available q.rollback) same ∙ b)
            (e ∙ sym (before_is w law clock r h active x p.name i
            (λ m. false≢true (sym s ∙ sharing x r p.name n m)))))))
      ]

  went : (y : Target) → In y (kept ss) → Went y
  went y k =
      let (x, p, i, j, way) = kept_back ss y k in
      let there = in_map g x ss i in
      let part : In p (g x).parts = subst (In p) (sym (likes x i).parts) j in
      elim way [
        | Holds s e ↦ Stays (keeps after (g x) p y there part
            (Holds (stands x i ∙ s) (e ∙ sym (held_same ss g likes p.name stands))))
        | Own u e ↦ elim (from x i) [
          | inl (same, is) ↦
              let mine = own_held p (subst (λ (q : Record). In p q.parts) same j) in
              Stays (keeps after (g x) p y there part
              (Holds (ap is_standing (now_is_so x is)) (e ∙ sym (held_same ss g likes p.name stands ∙ mine))))
          | inr (d, is) ↦ Stays (keeps after (g x) p y there part (Own (ap is_unfinished (other_so x is) ∙ u) e))
        ]
        | Backs b e ↦ elim (from x i) [
          | inl (same, is) ↦ Back (subst (λ (y : Target). In y (befores r)) (sym (e
              ∙ ap (λ (q : Record). before ss q p.name) same))
              (in_map (λ (p : Part). before w.sessions r p.name) p r.parts
              (subst (λ (q : Record). In p q.parts) same j)))
          | inr (d, is) ↦ backs x p y i j d is b e
        ]
      ]

  -- a file that was kept is kept, or given up
  pub still_target : (session : SessionId) (part : ℕ) → is_target (kept ss) session part ≡ true
      → (gives_up_file ss r session part ≡ true) ⊎ (is_target (kept after) session part ≡ true)
  still_target session part e =
      let (version, k) = target_in (kept ss) session part e in
      let test : Record → Bool = λ s. outdates r s && goes_back_to ss s session part in
      elim (went (targets.Module session part version) k) [
        | Back i ↦ inl (or_left (goes_back_to ss r session part) _ (in_target (befores r) session part version i))
        | Outdated x i o j ↦ inl (or_right (goes_back_to ss r session part) _ (in_any test x ss i
            (and_from (outdates r x) (goes_back_to ss x session part) o
            (in_target (befores x) session part version j))))
        | Stays i ↦ inr (in_target (kept after) session part version i)
      ]
