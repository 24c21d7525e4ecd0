-- A lawful world's sessions with a new one: its ranges, ids and parts. Callers want `record_new`, `parts_new`,
-- `rollback_new`, `all_with`, `peers_with`, `ids_with`, `alone_with` and `available_with`.
use Rattle.std.proofs.Common.{◌≡◌, ◌≢◌, ℕ, ◌<◌, ◌^◌, Bool, true, false, leb, IsTrue, List, []}
use Rattle.std.proofs.Common.{◌∷◌, sym, ap, subst, ◌∙◌, refl, inl, inr, arith}
use Rattle.std.specs.Str.{bytes_eq}
use Rattle.std.proofs.lemmas.Bool.{false≢true, and_parts, leb-true}
use Rattle.apex_base.specs.declared.numbers.SessionId.{SessionId}
use Rattle.apex_base.specs.declared.records.Kind.TheVariants.{RollbackOf}
use Rattle.apex_base.specs.declared.records.Part.{Part}
use Rattle.apex_base.specs.declared.records.Record.{Record}
use Rattle.apex_base.specs.Held.{is_unfinished, is_available}
use Rattle.apex_base.specs.Members.{In, EachPair}
use Rattle.apex_base.specs.Modules.{FileMap}
use Rattle.apex_base.specs.Rollbacks.{is_committed}
use Rattle.apex_base.specs.Sessions.{has_id, names, with_session}
use Rattle.apex_base.specs.Spelling.{IsId, IsKind, IsRecord}
use Rattle.apex_base.specs.Text.{is_print}
use Rattle.apex_base.proofs.MemberLemmas.{any_in, in_each}
use Rattle.apex_base.proofs.SessionLemmas.{ascend_with, with_any}
use Rattle.apex_world.specs.declared.modules.Package.{Package}
use Rattle.world_facts.specs.Follows.{IsNew}
use Rattle.apex_world.specs.Lawful.{Lawful, HaveIds, HasParts, HasRollback}
use Rattle.apex_world.specs.Lawful.{AllPeers, NotBothUnfinished, NotBothAvailable, ids_of}
use Rattle.apex_base.specs.Commit.{undoes}
use Rattle.apex_world.specs.Submit.{kind_of, rollback_of, parts_from, new_session}
use Rattle.apex_world.specs.World.{World}
use Rattle.world_laws.proofs.runs.AdmittedIds.{ids_differ}
use Rattle.world_laws.proofs.runs.AdmittedLemmas.{IsAdmitted}
use Rattle.world_facts.proofs.facts.LeadsLemmas.{new_id}
use Rattle.world_facts.proofs.facts.NewIds.{has_in, submit_new}
use Rattle.world_laws.proofs.runs.NewParts.{parts_range, parts_length, named_back, parts_differ, parts_own, parts_versions}
use Rattle.world_facts.proofs.facts.WorldRows.{same_id, same_name}

-- The kind and the rollback of a new session

-- it undoes nothing
pub kind_ordinary : (b : Bool) → undoes (kind_of b) ≡ false
kind_ordinary true = refl
kind_ordinary false = refl

-- its kind is in range
kind_range : (b : Bool) → IsKind (kind_of b)
kind_range true = tt
kind_range false = tt

-- its rollback is neither available nor committed
pub rollback_idle : (b : Bool) → (is_available (rollback_of b) ≡ false) × (is_committed (rollback_of b) ≡ false)
rollback_idle true = (refl, refl)
rollback_idle false = (refl, refl)

-- it is no rollback session
pub not_undoing : (b : Bool) (id : SessionId) → kind_of b ≡ RollbackOf id → ⊥
not_undoing b id e = false≢true (sym (kind_ordinary b) ∙ ap undoes e)

-- its rollback is as it has to be
pub rollback_new : (id : SessionId) (children : List SessionId) (b : Bool) (ps : List Package) (print : List ℕ)
    → HasRollback (new_session id children b ps print)
rollback_new id children true ps print = record {
  kind = refl;
  enabling = λ e. refl;
  available = λ e. absurd (false≢true e);
  committed = λ e. absurd (false≢true e);
  none = λ e. refl;
  not_yet = λ e. refl;
}
rollback_new id children false ps print = record {
  kind = refl;
  enabling = λ e. refl;
  available = λ e. absurd (false≢true e);
  committed = λ e. absurd (false≢true e);
  none = λ e. refl;
  not_yet = λ e. refl;
}

module _ (w : World) (law : Lawful w) (id : SessionId) (children : List SessionId) (rollback : Bool)
    (parts : List FileMap) (ps : List Package) (print : List ℕ) (is : IsAdmitted w id children parts ps)
    (printed : IsTrue (is_print print)) where
  abbrev ss : List Record
  ss = w.sessions

  abbrev new : Record
  new = new_session id children rollback ps print

  abbrev after : List Record
  after = with_session (new_session id children rollback ps print) w.sessions

  -- nobody has had its ids
  pub fresh : IsNew ss new
  fresh = submit_new ss new is.free

  -- each other session has another id
  pub other_id : (r : Record) → In r ss → r.id.0 ≢ id.0
  other_id r h = new_id ss new r fresh h

  -- what holds of all, with a new one
  pub all_with : (P : Record → Type 0) → P new → ((r : Record) → In r ss → P r) → (s : Record) → In s after → P s
  all_with P first each s h =
      elim (with_any new ss s h) [
        | inl e ↦ subst P (sym e) first
        | inr i ↦ each s i
      ]

  -- what holds of all that share a name, with a new one
  pub peers_with : (P : Record → Record → Type 0) → AllPeers P ss
      → ((r : Record) (name : List ℕ) → In r ss → names name r ≡ true → names name new ≡ true → P r new × P new r)
      → AllPeers P after
  peers_with P old beside r s name h i d n m =
      elim (with_any new ss r h) [
        | inl e ↦ elim (with_any new ss s i) [
          | inl f ↦ absurd (d (ap (λ (x : Record). x.id.0) (e ∙ sym f)))
          | inr j ↦ subst (λ (x : Record). P x s) (sym e) (beside s name j m (ap (names name) (sym e) ∙ n)).1
        ]
        | inr k ↦ elim (with_any new ss s i) [
          | inl f ↦ subst (P r) (sym f) (beside r name k n (ap (names name) (sym f) ∙ m)).0
          | inr j ↦ old r s name k j d n m
        ]
      ]

  -- Ids and ranges

  -- the ids of callers are in range
  caller : (i : SessionId) → In i (id ∷ children) → i.0 < 2 ^ 32
  caller i h =
      let (low, high) = and_parts (leb 1 i.0) (leb i.0 1073741823) (is.callers i h) in
      let l = leb-true i.0 1073741823 high in
      omega (arith, l)

  -- the new session is in range
  pub record_new : IsRecord new
  record_new =
      let few = is.few in
      let count = parts_length id 0 ps in
      record {
        id = caller id (inl refl);
        kind = kind_range rollback;
        moment = omega arith;
        activation = omega arith;
        print = printed;
        cause = tt;
        parts = parts_range id 0 ps (caller id (inl refl)) (omega (arith, few)) (λ p h.
            ((is.packages p h).name, (is.packages p h).version));
        few = omega (arith, few, count);
        children = in_each IsId children (λ i h. caller i (inr h));
        count = elim is.count [
          | inl (none, one) ↦ inl none
          | inr all ↦ inr (all ∙ sym count)
        ];
      }

  -- its parts are as they have to be
  pub parts_new : HasParts new
  parts_new =
      let few = is.few in
      let count = parts_length id 0 ps in
      record {
        count = elim is.count [
          | inl (none, one) ↦ inl (none, count ∙ one)
          | inr all ↦ inr (all ∙ sym count)
        ];
        few = omega (arith, few, count);
        names = parts_differ id 0 ps is.once;
        own = λ e. parts_own id 0 ps;
        versions = λ q h. parts_versions id 0 ps q h;
      }

  -- it shares no id
  not_shared : (s : Record) (i : SessionId) → In s ss → has_id i new ≡ true → has_id i s ≡ true → ⊥
  not_shared s i h e f =
      let (j, k, same) = has_in i new e in
      false≢true (sym (fresh s j h k) ∙ ap (λ (i : SessionId). has_id i s) (same_id j i same) ∙ f)

  -- the ids with its own are as they have to be
  pub ids_with : HaveIds after
  ids_with = record {
    ascend = ascend_with new ss law.ids.ascend;
    distinct = all_with (λ s. EachPair (λ (a b : SessionId). a.0 ≢ b.0) (ids_of s))
        (ids_differ ss [] (id ∷ children) is.free)
        law.ids.distinct;
    apart = λ r s i h j d e f. elim (with_any new ss r h) [
      | inl a ↦ elim (with_any new ss s j) [
        | inl b ↦ d (ap (λ (x : Record). x.id.0) (a ∙ sym b))
        | inr k ↦ not_shared s i k (ap (has_id i) (sym a) ∙ e) f
      ]
      | inr l ↦ elim (with_any new ss s j) [
        | inl b ↦ not_shared r i l (ap (has_id i) (sym b) ∙ f) e
        | inr k ↦ law.ids.apart r s i l k d e f
      ]
    ];
    callers = λ r i h e j. elim (with_any new ss r h) [
      | inl a ↦ is.callers i (subst (λ (x : Record). In i (ids_of x)) a j)
      | inr k ↦ law.ids.callers r i k e j
    ];
  }

  -- a name of the new session is that of a package
  pub package_named : (name : List ℕ) → names name new ≡ true → (p : Package) × In p ps × (p.name ≡ name)
  package_named name n =
      let (q, h, e) = any_in (λ (q : Part). bytes_eq q.name name) (parts_from id 0 ps) n in
      let (p, i, f) = named_back id 0 ps q h in
      (p, i, f ∙ same_name q.name name e)

  -- no two unfinished sessions share a name
  pub alone_with : AllPeers NotBothUnfinished after
  alone_with =
      let none : (r : Record) (name : List ℕ) → In r ss → names name r ≡ true → names name new ≡ true
      → is_unfinished r.state ≡ true → ⊥ = λ r name h n m u.
      let (p, i, e) = package_named name m in
      is.alone p r i h u (ap (λ (a : List ℕ). names a r) e ∙ n) in
      peers_with NotBothUnfinished law.alone (λ r name h n m. (λ u v. none r name h n m u, λ u v. none r name h n m v))

  -- no two rollbacks of a name are available
  pub available_with : AllPeers NotBothAvailable after
  available_with = peers_with NotBothAvailable law.rollbacks.peers (λ r name h n m. (
    λ a b. false≢true (sym (rollback_idle rollback).0 ∙ b),
    λ a b. false≢true (sym (rollback_idle rollback).0 ∙ a),
  ))
