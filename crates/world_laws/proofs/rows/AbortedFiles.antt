-- An abort takes all modules of a session away that no rollback made. Callers want `aborted_files_go`.
use Rattle.std.proofs.Common.{◌≡◌, ◌≢◌, ◌⊎◌, ℕ, true, false, ◌&&◌, List, map, Some, None, cond, sym, ap}
use Rattle.std.proofs.Common.{◌∙◌, inl, inr}
use Rattle.std.specs.Prelude.{not, nat_lt, Bool}
use Rattle.std.proofs.lemmas.Bool.{false≢true, false_from_ne_true, and_parts, and_from}
use Rattle.std.proofs.lemmas.Bool.{cases_eq}
use Rattle.apex_base.specs.declared.numbers.SessionId.{SessionId}
use Rattle.apex_base.specs.declared.records.Part.{Part}
use Rattle.apex_base.specs.declared.records.Record.{Record}
use Rattle.apex_base.specs.declared.records.Target.TheVariants as targets
use Rattle.apex_base.specs.Commit.{is_waiting, undoes}
use Rattle.apex_base.specs.Held.{is_unfinished, is_standing, is_success, latest}
use Rattle.apex_base.specs.Held.{kept, is_target}
use Rattle.apex_base.specs.Keys.{FileOf}
use Rattle.apex_base.specs.Members.{In}
use Rattle.apex_base.specs.Sessions.{session_of, with_session}
use Rattle.apex_base.proofs.MemberLemmas.{in_map_back}
use Rattle.apex_base.proofs.SessionLemmas.{ascend_with, with_any, with_self, of_found}
use Rattle.apex_world.specs.Advance.{abort}
use Rattle.apex_world.specs.Lawful.{Lawful}
use Rattle.apex_world.specs.Rows.{row_at}
use Rattle.world_laws.specs.RowsMoved.{aborted, has_target}
use Rattle.apex_world.specs.World.{World}
use Rattle.world_laws.proofs.rows.AbortRows.{abort_rows}
use Rattle.world_laws.proofs.alike.AlikeAfter.{target_in}
use Rattle.world_facts.proofs.facts.KeptLemmas.{Own, Holds, Backs, kept_back, success_stands}
use Rattle.world_facts.proofs.facts.LatestLemmas.{named_by, latest_is}
use Rattle.world_facts.proofs.facts.OpenedSessions.{one_session}
use Rattle.world_facts.proofs.facts.OwnTargets.{own_at, target_session}
use Rattle.world_facts.proofs.facts.PartOwners.{owned}
use Rattle.world_facts.proofs.facts.StateFacts.{waits_no_success}

module _ (w : World) (law : Lawful w) (r : Record) (h : In r w.sessions) (waits : is_waiting r.state ≡ true)
    (ordinary : undoes r.kind ≡ false) where
  abbrev after : List Record
  after = with_session (aborted r) w.sessions

  -- a session afterwards is the one that is aborted, or another
  from : (z : Record) → In z after → (z ≡ aborted r) ⊎ (In z w.sessions × (z.id.0 ≢ r.id.0))
  from z i =
      elim (cases_eq z.id.0 r.id.0) [
        | inl e ↦ inl (one_session after z (aborted r) (ascend_with (aborted r) w.sessions law.ids.ascend) i
            (with_self (aborted r) w.sessions) e)
        | inr d ↦ elim (with_any (aborted r) w.sessions z i) [
          | inl e ↦ absurd (d (ap (λ (z : Record). z.id.0) e))
          | inr j ↦ inr (j, d)
        ]
      ]

  -- no other session has a module of it
  not_other : (z : Record) (q : Part) (session : SessionId) (part version : ℕ) → In z w.sessions → z.id.0 ≢ r.id.0
      → In q z.parts → session.0 ≡ r.id.0 → q.target ≡ targets.Module session part version → ⊥
  not_other z q session part version i d j e f =
      let (o, by) = owned w law z q i j session part version f in
      let number : o.owner.id.0 ≡ r.id.0 = o.id ∙ e in
      elim by [
        | inl same ↦ d (ap (λ (z : Record). z.id.0) (sym same) ∙ number)
        | inr success ↦
            let one : o.owner ≡ r = one_session w.sessions o.owner r law.ids.ascend o.among h number in
            false≢true (sym (waits_no_success r.state waits) ∙ ap (λ (z : Record). is_success z.state) (sym one) ∙ success)
      ]

  -- nor one afterwards that isn't finished, or stands
  not_after : (z : Record) (q : Part) (session : SessionId) (part version : ℕ) → In z after → In q z.parts
      → (is_unfinished z.state ≡ true) ⊎ (is_standing z.state ≡ true) → session.0 ≡ r.id.0
      → q.target ≡ targets.Module session part version → ⊥
  not_after z q session part version i j counts e f =
      elim (from z i) [
        | inr (k, d) ↦ not_other z q session part version k d j e f
        | inl is ↦ elim counts [
          | inl u ↦ false≢true (ap (λ (z : Record). is_unfinished z.state) (sym is) ∙ u)
          | inr s ↦ false≢true (ap (λ (z : Record). is_standing z.state) (sym is) ∙ s)
        ]
      ]

  not_latest : (test : Record → Bool) (name : List ℕ) (session : SessionId) (part version : ℕ)
      → ((z : Record) → test z ≡ true → is_standing z.state ≡ true) → session.0 ≡ r.id.0
      → targets.Module session part version ≡ latest test after name → ⊥
  not_latest test name session part version stands e f =
      elim (latest_is test name after) [
        | inl none ↦ absurd (cc (none.1, f))
        | inr (z, q, l, is) ↦ not_after z q session part version l.among (named_by name z q l.part).0
            (inr (stands z l.counts)) e (sym is ∙ sym f)
      ]

  not_kept : (session : SessionId) (part : ℕ) → session.0 ≡ r.id.0 → is_target (kept after) session part ≡ true → ⊥
  not_kept session part e k =
      let (v, i) = target_in (kept after) session part k in
      let (x, q, j, l, way) = kept_back after (targets.Module session part v) i in
      elim way [
        | Own u f ↦ not_after x q session part v j l (inl u) e (sym f)
        | Holds s f ↦ not_latest (λ z. is_standing z.state) q.name session part v (λ z c. c) e f
        | Backs b f ↦ not_latest (λ z. is_success z.state && nat_lt z.activation x.activation) q.name session part v
            (λ z c. success_stands z.state (and_parts _ _ c).0) e f
      ]

  own_session : (session : SessionId) (part : ℕ) → has_target r session part ≡ true → session.0 ≡ r.id.0
  own_session session part e =
      let (v, i) = target_in (map (λ (p : Part). p.target) r.parts) session part e in
      let (p, j, is) = in_map_back (λ (p : Part). p.target) (targets.Module session part v) r.parts i in
      let (k, u, f) = own_at r.id 0 r.parts p ((law.parts r h).own ordinary) j in
      ap target_session (sym is ∙ f)

  gone : (session : SessionId) (part : ℕ) → has_target r session part ≡ true
      → (has_target r session part && not (is_target (kept after) session part)) ≡ true
  gone session part e =
      and_from (has_target r session part) (not (is_target (kept after) session part)) e
      (ap not (false_from_ne_true (is_target (kept after) session part)
      (λ k. absurd (not_kept session part (own_session session part e) k))))

-- an abort takes them all away
pub aborted_files_go : (w : World) → Lawful w → (id : SessionId) (r : Record) → session_of w.sessions id ≡ Some r
    → is_waiting r.state ≡ true → undoes r.kind ≡ false → (session : SessionId) (part : ℕ) (path : List ℕ)
    → has_target r session part ≡ true → row_at (abort w id).world (FileOf session part path) ≡ None
aborted_files_go w law id r f waits ordinary session part path e =
    abort_rows w law id r f waits (FileOf session part path)
    ∙ ap (λ b. cond b None (row_at w (FileOf session part path)))
    (gone w law r (of_found w.sessions id r f).0 waits ordinary session part e)
