-- Sessions with a new one that a submit makes: they stay in their order, and keep no more of the past. Callers want
-- `unused`, `fresh`, `carries`, `ordered_after` and `past_stays`.
use Rattle.std.proofs.Common.{◌≡◌, ◌≢◌, Bool, true, false, eqb, ◌&&◌, List, [], ◌∷◌, Option}
use Rattle.std.proofs.Common.{Some, None, sym, ap, subst, ◌∙◌, refl, inl, inr}
use Rattle.std.specs.Prelude.{not}
use Rattle.std.proofs.lemmas.Bool.{false≢true, and_parts, and_from}
use Rattle.apex_base.specs.declared.numbers.SessionId.{SessionId}
use Rattle.apex_base.specs.declared.records.Record.{Record}
use Rattle.apex_base.specs.declared.records.RollbackState.{RollbackState}
use Rattle.apex_base.specs.declared.records.RollbackState.TheVariants.{Enabling, Available, Committed, Deleted}
use Rattle.apex_base.specs.Commit.{rollback_id, rolls_back}
use Rattle.apex_base.specs.Held.{is_available, is_staged}
use Rattle.apex_base.specs.Members.{In}
use Rattle.apex_base.specs.Sessions.{session_of, with_session}
use Rattle.apex_base.proofs.SessionLemmas.{with_any, with_others, of_found, of_in}
use Rattle.apex_world.specs.declared.modules.Package.{Package}
use Rattle.world_facts.specs.Follows.{IsNew}
use Rattle.apex_world.specs.Lawful.{Lawful}
use Rattle.apex_world.specs.Rows.{is_staged_session, may_happen}
use Rattle.world_laws.specs.StoredAlike.{KeepsPast}
use Rattle.apex_world.specs.Submit.{id_taken, rollback_of, image_print, new_session}
use Rattle.apex_world.specs.World.{World}
use Rattle.world_laws.proofs.alike.AlikeAfter.{PastStays, like_self}
use Rattle.world_facts.proofs.facts.KeptLemmas.{AreOrdered, ordered}
use Rattle.world_facts.proofs.facts.KeptLess.{IsFresh, Carries}
use Rattle.world_facts.proofs.facts.LeadsLemmas.{new_id}
use Rattle.world_laws.proofs.alike.MovesAlike.{goes_self}
use Rattle.world_facts.proofs.facts.NewIds.{submit_new}
use Rattle.world_laws.proofs.alike.OrderedAfter.{ordered_new}
use Rattle.world_facts.proofs.facts.WorldRows.{same_id}
use Rattle.world_laws.proofs.alike.StagedSome.{staged_some}

unavailable : (rollback : Bool) → is_available (rollback_of rollback) ≡ false
unavailable true = refl
unavailable false = refl

module _ (w : World) (law : Lawful w) (id : SessionId) (children : List SessionId) (rollback : Bool)
    (ps : List Package) (free : id_taken w.sessions [] (id ∷ children) ≡ None) where
  abbrev s : Record
  s = new_session id children rollback ps (image_print w.image)

  abbrev after : List Record
  after = with_session s w.sessions

  is_new : IsNew w.sessions s
  is_new = submit_new w.sessions s free

  -- nobody had its id
  pub unused : (r : Record) → In r w.sessions → r.id.0 ≢ id.0
  unused r h = new_id w.sessions s r is_new h

  -- it stands for nothing
  pub fresh : IsFresh w.sessions s
  fresh = record { unused = unused; idle = refl; unavailable = unavailable rollback }

  -- each session comes from one before, or is the new one
  pub carries : Carries w.sessions after
  carries = record {
    back = λ r i. elim (with_any s w.sessions r i) [
      | inl e ↦ inr (subst (IsFresh w.sessions) (sym e) fresh)
      | inr j ↦ inl (r, j, goes_self r)
    ];
    forth = λ r i. (r, with_others s w.sessions r i (unused r i), goes_self r);
  }

  -- the order stays
  pub ordered_after : AreOrdered after
  ordered_after =
      ordered_new s w.sessions (ordered w law) (record { activation = refl; stands = refl; undoable = refl })

  -- What a session keeps of the past

  staged_before : (x : SessionId) → is_staged_session (session_of after x) ≡ true
      → is_staged_session (session_of w.sessions x) ≡ true
  staged_before x e =
      let (y, f, g) = staged_some (session_of after x) e in
      let (i, yid) = of_found after x y f in
      elim (with_any s w.sessions y i) [
        | inl h ↦ absurd (false≢true (ap (λ (y : Record). is_staged y.state) (sym h) ∙ g))
        | inr j ↦ ap is_staged_session (ap (session_of w.sessions) (sym (same_id y.id x yid))
            ∙ of_in w.sessions y law.ids.ascend j) ∙ g
      ]

  may_before : (x : SessionId) (o : Option RollbackState) → may_happen after x o ≡ true
      → may_happen w.sessions x o ≡ true
  may_before x None m = absurd (cc)
  may_before x (Some Enabling) m = refl
  may_before x (Some Available) m = refl
  may_before x (Some Committed) m = staged_before (rollback_id x) m
  may_before x (Some Deleted) m = absurd (cc)

  keeps_before : (r : Record) → KeepsPast after r → KeepsPast w.sessions r
  keeps_before r (inl k) =
      let (first, m) =
      and_parts (rolls_back r.kind && not (eqb r.activation 0)) (may_happen after r.id r.rollback) k in
      inl (and_from (rolls_back r.kind && not (eqb r.activation 0)) (may_happen w.sessions r.id r.rollback) first
      (may_before r.id r.rollback m))
  keeps_before r (inr k) = inr k

  never : (b : Bool) → (b && false) ≡ true → ⊥
  never true e = false≢true e
  never false e = false≢true e

  new_nothing : KeepsPast after s → ⊥
  new_nothing (inl k) = never (rolls_back s.kind) (and_parts (rolls_back s.kind && false)
      (may_happen after s.id s.rollback) k).0
  new_nothing (inr k) = never _ k

  -- what keeps its past kept it before
  pub past_stays : PastStays w.sessions after
  past_stays r i k =
      elim (with_any s w.sessions r i) [
        | inl e ↦ absurd (new_nothing (subst (KeepsPast after) e k))
        | inr j ↦ (r, j, keeps_before r k, like_self r)
      ]
