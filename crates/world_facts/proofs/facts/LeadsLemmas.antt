-- How sessions lead to sessions: all by themselves, one among others, a new one, and one step after another.
use Rattle.std.proofs.Common.{◌≡◌, ◌≢◌, ℕ, ◌||◌, eqb, List, ◌∷◌, map, Option, sym, ap, subst, ◌∙◌, refl, inl, inr}
use Rattle.std.specs.List.{list_any}
use Rattle.std.proofs.lemmas.Bool.{cases_eq, eq-eqb, or_left, false≢true}
use Rattle.apex_base.specs.declared.numbers.SessionId.{SessionId}
use Rattle.apex_base.specs.declared.records.Cause.{Cause}
use Rattle.apex_base.specs.declared.records.Record.{Record}
use Rattle.apex_base.specs.declared.records.RollbackState.{RollbackState}
use Rattle.apex_base.specs.declared.records.State.{State}
use Rattle.apex_base.specs.Members.{In}
use Rattle.apex_base.specs.Sessions.{has_id, with_session, Ascend}
use Rattle.apex_base.proofs.MemberLemmas.{in_map, in_map_back}
use Rattle.apex_base.proofs.SessionLemmas.{ascend_with, with_self, with_others, with_any, ascend_map}
use Rattle.world_facts.specs.Follows.{IsKeptAs, IsNew, Leads}
use Rattle.apex_world.specs.Lawful.{ids_of}

pub same : (r : Record) → IsKeptAs r r
same r = record { id = refl; children = refl; kind = refl; parts = refl; print = refl }

-- a session is kept whatever its state, its cause, its activation, its rollback and its moment become
pub changed : {s : State} {cause : Option Cause} {activation : ℕ} {rollback : Option RollbackState} {moment : ℕ}
    (r : Record) → IsKeptAs r (record r {
      state = s;
      cause = cause;
      activation = activation;
      rollback = rollback;
      moment = moment;
    })
changed r = record { id = refl; children = refl; kind = refl; parts = refl; print = refl }

pub kept_on : (r s t : Record) → IsKeptAs r s → IsKeptAs s t → IsKeptAs r t
kept_on r s t k l = record {
  id = l.id ∙ k.id;
  children = l.children ∙ k.children;
  kind = l.kind
      ∙ k.kind;
  parts = l.parts ∙ k.parts;
  print = l.print ∙ k.print;
}

-- a session that is kept has the ids that it had
pub same_ids : (id : SessionId) (r s : Record) → IsKeptAs r s → has_id id s ≡ has_id id r
same_ids id r s k =
    ap (λ (x : SessionId). eqb x.0 id.0 || list_any (λ (c : SessionId). eqb c.0 id.0) s.children) k.id
    ∙ ap (λ (cs : List SessionId). eqb r.id.0 id.0 || list_any (λ (c : SessionId). eqb c.0 id.0) cs) k.children

-- a new session has another id than each other one
pub new_id : (ss : List Record) (s r : Record) → IsNew ss s → In r ss → r.id.0 ≢ s.id.0
new_id ss s r fresh h e =
    absurd (false≢true (sym (fresh r s.id h (inl refl))
    ∙ or_left (eqb r.id.0 s.id.0) (list_any
    (λ (c : SessionId). eqb c.0 s.id.0) r.children) (eq-eqb r.id.0 s.id.0 e)))

module _ (P : Record → Record → Type 0) (same_as : (r : Record) → P r r) where
  pub leads_same : (ss : List Record) → Ascend ss → Leads P ss ss
  leads_same ss a = record { ascend = a; forth = λ r h. (r, h, same_as r); back = λ s h. inl (s, h, same_as s) }

  -- one session changes
  pub leads_one : (ss : List Record) (r s : Record) → Ascend ss → In r ss → s.id ≡ r.id → P r s → ((t : Record)
      → In t ss → t.id.0 ≡ r.id.0 → t ≡ r) → Leads P ss (with_session s ss)
  leads_one ss r s a h e p only = record {
    ascend = ascend_with s ss a;
    forth = λ t i. elim (cases_eq t.id.0 s.id.0) [
      | inl f ↦ (
        s,
        with_self s ss,
        subst (λ (t : Record). P t s) (sym (only t i (f
            ∙ ap (λ (id : SessionId). id.0) e))) p,
      )
      | inr d ↦ (t, with_others s ss t i d, same_as t)
    ];
    back = λ t i. elim (with_any s ss t i) [
      | inl f ↦ inl (r, h, subst (P r) (sym f) p)
      | inr j ↦ inl (t, j, same_as t)
    ];
  }

  -- one session is new
  pub leads_new : (ss : List Record) (s : Record) → Ascend ss → IsNew ss s → Leads P ss (with_session s ss)
  leads_new ss s a fresh = record {
    ascend = ascend_with s ss a;
    forth = λ t i. (t, with_others s ss t i (new_id ss s t fresh i), same_as t);
    back = λ t i. elim (with_any s ss t i) [
      | inl f ↦ inr (subst (IsNew ss) (sym f) fresh)
      | inr j ↦ inl (t, j, same_as t)
    ];
  }

-- each session changes by itself
pub leads_map : (P : Record → Record → Type 0) (f : Record → Record) (ss : List Record) → Ascend ss → ((r : Record)
    → (f r).id ≡ r.id) → ((r : Record) → In r ss → P r (f r)) → Leads P ss (map f ss)
leads_map P f ss a id p = record {
  ascend = ascend_map f ss id a;
  forth = λ r h. (f r, in_map f r ss h, p r h);
  back = λ s h. let (r, i, e) = in_map_back f s ss h in inl (r, i, subst (P r) e (p r i));
}

-- what is new to later sessions is new to earlier ones
new_before : (P : Record → Record → Type 0) → ((r s : Record) → P r s → IsKeptAs r s)
    → (before mid : List Record) (s : Record) → Leads P before mid → IsNew mid s → IsNew before s
new_before P kept before mid s l fresh r id h i = let (m, j, p) = l.forth r h in sym (same_ids id r m (kept r m p))
    ∙ fresh m id j i

module _ (P Q R : Record → Record → Type 0) (kept : (r s : Record) → P r s → IsKeptAs r s) (kept' : (r s : Record)
    → Q r s → IsKeptAs r s) (join : (r s t : Record) → P r s → Q s t → R r t) where
  new_as : (before : List Record) (s t : Record) → IsNew before s → IsKeptAs s t → IsNew before t
  new_as before s t fresh k r id h i = fresh r id h (subst (In id) (ids_as s t k) i)
    where
      ids_as : (s t : Record) → IsKeptAs s t → ids_of t ≡ ids_of s
      ids_as s t k = ap (λ (x : SessionId). x ∷ t.children) k.id ∙ ap (λ (cs : List SessionId). s.id ∷ cs) k.children

  -- one step, and then another
  pub leads_then : (before mid after : List Record) → Leads P before mid → Leads Q mid after → Leads R before after
  leads_then before mid after l m = record {
    ascend = m.ascend;
    forth = λ r h. let (s, i, p) = l.forth r h in let (t, j, q) = m.forth s i in (t, j, join r s t p q);
    back = λ t h. elim (m.back t h) [
      | inr fresh ↦ inr (new_before P kept before mid t l fresh)
      | inl (s, i, q) ↦ elim (l.back s i) [
        | inl (r, j, p) ↦ inl (r, j, join r s t p q)
        | inr fresh ↦ inr (new_as before s t fresh (kept' s t q))
      ]
    ];
  }

-- the same sessions, of which more is said
pub leads_as : (P Q : Record → Record → Type 0) (before after : List Record) → ((r s : Record) → P r s → Q r s)
    → Leads P before after → Leads Q before after
leads_as P Q before after turn l = record {
  ascend = l.ascend;
  forth = λ r h. let (s, i, p) = l.forth r h in (s, i, turn r s p);
  back = λ s h. elim (l.back s h) [
    | inl (r, i, p) ↦ inl (r, i, turn r s p)
    | inr fresh ↦ inr fresh
  ];
}
