-- The ids, parts and ranges of sessions after a commit. Callers want `commit_ids`, `commit_parts`, `commit_ranges`.
use Rattle.std.proofs.Common.{◌≡◌, ◌≢◌, ℕ, ◌≤◌, true, false, leb, IsTrue, is_some, IfSome, List}
use Rattle.std.proofs.Common.{[], ◌∷◌, map, Option, Some, None, sym, ap, subst, ◌∙◌, refl, inl, inr, arith}
use Rattle.std.specs.Prelude.{◌&&◌, nat_lt}
use Rattle.std.specs.List.{AllByRecursion}
use Rattle.std.proofs.lemmas.Bool.{and_parts, false≢true, leb-true}
use Rattle.std.proofs.lemmas.List.{length-map}
use Rattle.apex_base.specs.declared.numbers.SessionId.{SessionId}
use Rattle.apex_base.specs.declared.records.Kind.{Kind}
use Rattle.apex_base.specs.declared.records.Kind.TheVariants.{Plain, WithRollback, RollbackOf}
use Rattle.apex_base.specs.declared.records.Part.{Part}
use Rattle.apex_base.specs.declared.records.Record.{Record}
use Rattle.apex_base.specs.declared.records.RollbackState.{RollbackState}
use Rattle.apex_base.specs.declared.records.RollbackState.TheVariants as rollbacks
use Rattle.apex_base.specs.declared.records.Target.{Target}
use Rattle.apex_base.specs.declared.records.Target.TheVariants as targets
use Rattle.apex_base.specs.Commit.{rollback_id, rolls_back, target_version, part_before, committed, undoes, is_caller_id}
use Rattle.apex_base.specs.Held.{is_available, is_success, before}
use Rattle.apex_base.specs.Members.{In, EachPair}
use Rattle.apex_base.specs.Ranges.{IsVersion}
use Rattle.apex_base.specs.Sessions.{has_id}
use Rattle.apex_base.specs.Spelling.{IsId, IsCause, IsTarget, IsPart, IsRecord}
use Rattle.apex_base.specs.Text.{is_print}
use Rattle.apex_base.proofs.MemberLemmas.{each_in, in_map_back}
use Rattle.world_facts.specs.Follows.{IsKeptAs}
use Rattle.apex_world.specs.Lawful.{Lawful, HaveIds, HasParts, ids_of}
use Rattle.apex_world.specs.World.{World}
use Rattle.world_laws.proofs.runs.CommitOne.{CommitsTo, Taken, GivesWay, Stays, Leaves, leaves, made, members}
use Rattle.world_laws.proofs.meaning.CommitStays.{commit_follows}
use Rattle.world_facts.proofs.facts.LatestLemmas.{named_by, latest_is}
use Rattle.world_facts.proofs.facts.LeadsLemmas.{same_ids}
use Rattle.world_facts.proofs.facts.NewIds.{has_in, AreNew, rollback_new}
use Rattle.world_facts.proofs.facts.WorldRows.{same_id}

-- Lists that are mapped

-- what each element has, its image has
pub each_of_map : {X Y : Type 0} (f : X → Y) (P : X → Type 0) (Q : Y → Type 0) (xs : List X)
    → ((x : X) → In x xs → P x → Q (f x)) → AllByRecursion P xs → AllByRecursion Q (map f xs)
each_of_map f P Q [] more a = tt
each_of_map f P Q (x ∷ xs) more a =
    (more x (inl refl) a.0, each_of_map f P Q xs (λ y h. more y (inr h)) a.1)

-- what each pair of elements has, their images have
pub pairs_of_map : {X Y : Type 0} (f : X → Y) (P : X → X → Type 0) (Q : Y → Y → Type 0)
    → ((x y : X) → P x y → Q (f x) (f y)) → (xs : List X) → EachPair P xs → EachPair Q (map f xs)
pairs_of_map f P Q more [] a = tt
pairs_of_map f P Q more (x ∷ xs) a =
    (each_of_map f (P x) (Q (f x)) xs (λ y h p. more x y p) a.0, pairs_of_map f P Q more xs a.1)

-- A session whose rollback is available

-- an available rollback is one
pub available_some : (o : Option RollbackState) → is_available o ≡ true → is_some o ≡ true
available_some None e = absurd (cc)
available_some (Some rollbacks.Enabling) e = refl
available_some (Some rollbacks.Available) e = refl
available_some (Some rollbacks.Committed) e = refl
available_some (Some rollbacks.Deleted) e = refl

submitted_kind : (k : Kind) → rolls_back k ≡ true → undoes k ≡ false
submitted_kind Plain e = absurd (cc)
submitted_kind WithRollback e = refl
submitted_kind (RollbackOf x) e = absurd (cc)

module _ (w : World) (law : Lawful w) (x : Record) (h : In x w.sessions) (e : is_available x.rollback ≡ true) where
  -- it was submitted with a rollback
  pub rolls : rolls_back x.kind ≡ true
  rolls = sym (law.rollbacks.each x h).kind ∙ available_some x.rollback e

  -- its ids are those of callers
  pub low_ids : (id : SessionId) → In id (ids_of x) → id.0 ≤ 1073741823
  low_ids id i =
      let t : IsTrue (is_caller_id id) = law.ids.callers x id h (submitted_kind x.kind rolls) i in
      leb-true id.0 1073741823 (and_parts (leb 1 id.0) (leb id.0 1073741823) t).1

  -- nobody has had the ids that its rollback gives
  pub new_ids : AreNew w.sessions x
  new_ids = rollback_new w.sessions law.ids law.undone x h e

-- Ranges

version_ranged : (t : Target) → IsTarget t → IfSome (target_version t) IsVersion
version_ranged targets.Preinstalled i = tt
version_ranged (targets.Module session part version) i = i.2

record_after : (r s : Record) → Leaves r s → IsCause s.cause → IsRecord r → IsRecord s
record_after r s l cause is = record {
  id = rw l.kept.id is.id;
  kind = rw l.kept.kind is.kind;
  moment = rw l.moment is.moment;
  activation = rw l.activation is.activation;
  print = rw l.kept.print is.print;
  cause = cause;
  parts = rw l.kept.parts is.parts;
  few = rw l.kept.parts is.few;
  children = rw l.kept.children is.children;
  count = rw (l.kept.children, l.kept.parts) is.count;
}

cause_after : (x r s : Record) → CommitsTo x r s → IsId (rollback_id x.id) → IsCause r.cause → IsCause s.cause
cause_after x r s (Taken e f) new c = subst (λ (s : Record). IsCause s.cause) (sym f) c
cause_after x r s (GivesWay d e f) new c = subst (λ (s : Record). IsCause s.cause) (sym f) new
cause_after x r s (Stays d e f) new c = subst (λ (s : Record). IsCause s.cause) (sym f) c

parts_after : (r s : Record) → IsKeptAs r s → HasParts r → HasParts s
parts_after r s k p = record {
  count = rw (k.children, k.parts) p.count;
  few = rw k.parts p.few;
  names = rw k.parts p.names;
  own = rw (k.kind, k.id, k.parts) p.own;
  versions = rw k.parts p.versions;
}

module _ (w : World) (law : Lawful w) (x : Record) (h : In x w.sessions) (e : is_available x.rollback ≡ true)
    (print : List ℕ) where
  abbrev new : Record
  new = made w.sessions x print

  abbrev after : List Record
  after = committed w.sessions x print

  new_number : (id : SessionId) → In id (ids_of x) → IsId (rollback_id id)
  new_number id i = let low = low_ids w law x h e id i in omega (arith, low)

  before_ranged : (name : List ℕ) → IsTarget (before w.sessions x name)
  before_ranged name =
      elim (latest_is (λ r. is_success r.state && nat_lt r.activation x.activation) name w.sessions) [
        | inl n ↦ subst IsTarget (sym n.1) tt
        | inr (r, p, l, is) ↦
            let among = (named_by name r p l.part).0 in
            subst IsTarget (sym is) (each_in IsPart r.parts (law.ranges.sessions r l.among).parts p among).target
      ]

  new_ranged : IsTrue (is_print print) → IsRecord new
  new_ranged printed =
      let is = law.ranges.sessions x h in
      record {
        id = new_number x.id (inl refl);
        kind = is.id;
        moment = omega arith;
        activation = omega arith;
        print = printed;
        cause = tt;
        parts = each_of_map (part_before w.sessions x) IsPart IsPart x.parts (λ p i ranged. record {
          name = ranged.name;
          version = version_ranged (before w.sessions x p.name) (before_ranged p.name);
          target = before_ranged p.name;
        }) is.parts;
        few = let few = is.few in omega (arith, few, length-map x.parts (part_before w.sessions x));
        children = each_of_map rollback_id IsId IsId x.children (λ id i ranged. new_number id (inr i)) is.children;
        count = elim is.count [
          | inl none ↦ inl (ap (map rollback_id) none)
          | inr same ↦ inr (length-map x.children rollback_id ∙ same ∙ sym (length-map x.parts
              (part_before w.sessions x)))
        ];
      }

  -- each session is in its ranges
  pub commit_ranges : IsTrue (is_print print) → (s : Record) → In s after → IsRecord s
  commit_ranges printed s i =
      elim (members w.sessions x print s i) [
        | inl f ↦ subst IsRecord (sym f) (new_ranged printed)
        | inr (r, j, c) ↦
            let is = law.ranges.sessions r j in
            record_after r s (leaves x r s c) (cause_after x r s c (new_number x.id (inl refl)) is.cause) is
      ]

  -- Parts

  new_parts : HasParts new
  new_parts =
      let is = law.parts x h in
      record {
        count = elim is.count [
          | inl (none, one) ↦ inl (
            ap (map rollback_id) none,
            length-map x.parts (part_before w.sessions x) ∙ one,
          )
          | inr same ↦ inr (length-map x.children rollback_id ∙ same ∙ sym (length-map x.parts
              (part_before w.sessions x)))
        ];
        few = let few = is.few in omega (arith, few, length-map x.parts (part_before w.sessions x));
        names = pairs_of_map (part_before w.sessions x) (λ (p q : Part). p.name ≢ q.name)
            (λ (p q : Part). p.name ≢ q.name) (λ p q d. d) x.parts is.names;
        own = λ f. absurd (false≢true (sym f));
        versions = λ p i. let (q, j, f) = in_map_back (part_before w.sessions x) p x.parts i in
            subst (λ (p : Part). p.version ≡ target_version p.target) f refl;
      }

  -- each session has its parts
  pub commit_parts : (s : Record) → In s after → HasParts s
  commit_parts s i =
      elim (members w.sessions x print s i) [
        | inl f ↦ subst HasParts (sym f) new_parts
        | inr (r, j, c) ↦ parts_after r s (leaves x r s c).kept (law.parts r j)
      ]

  -- Ids

  ids_after : (r s : Record) → IsKeptAs r s → ids_of s ≡ ids_of r
  ids_after r s k = rw (k.id, k.children) refl

  new_unlike : (s : Record) (id : SessionId) → In s w.sessions → has_id id new ≡ true → has_id id s ≡ true → ⊥
  new_unlike s id i f g =
      let (j, k, same) = has_in id new f in
      false≢true (sym (new_ids w law x h e s j i k) ∙ ap (λ (id : SessionId). has_id id s) (same_id j id same) ∙ g)

  abbrev AreApart : Record → Record → Type 0
  AreApart r s = (id : SessionId) → r.id.0 ≢ s.id.0 → has_id id r ≡ true → has_id id s ≡ true → ⊥

  commit_apart : (r s : Record) → In r after → In s after → AreApart r s
  commit_apart r s i j id d f g =
      elim (members w.sessions x print r i) [
        | inl a ↦ elim (members w.sessions x print s j) [
          | inl b ↦ d (ap (λ (r : Record). r.id.0) (a ∙ sym b))
          | inr (v, k, c) ↦ new_unlike v id k (ap (has_id id) (sym a) ∙ f)
              (sym (same_ids id v s (leaves x v s c).kept) ∙ g)
        ]
        | inr (u, l, c) ↦
            let f' = sym (same_ids id u r (leaves x u r c).kept) ∙ f in
            elim (members w.sessions x print s j) [
              | inl b ↦ new_unlike u id l (ap (has_id id) (sym b) ∙ g) f'
              | inr (v, k, c') ↦ law.ids.apart u v id l k (λ same. d (ap (λ (a : SessionId). a.0)
                  (leaves x u r c).kept.id ∙ same ∙ sym (ap (λ (a : SessionId). a.0) (leaves x v s c').kept.id))) f'
                  (sym (same_ids id v s (leaves x v s c').kept) ∙ g)
            ]
      ]

  -- ids are those of callers or of their rollbacks, and no two are the same
  pub commit_ids : HaveIds after
  commit_ids = record {
    ascend = (commit_follows w.sessions x print law.ids.ascend (new_ids w law x h e)).ascend;
    distinct = λ s i. elim (members w.sessions x print s i) [
      | inl f ↦ subst (λ (r : Record). EachPair (λ (a b : SessionId). a.0 ≢ b.0) (ids_of r)) (sym f)
          (pairs_of_map rollback_id (λ (a b : SessionId). a.0 ≢ b.0) (λ (a b : SessionId). a.0 ≢ b.0)
          (λ a b d same. d (omega (arith, same))) (ids_of x) (law.ids.distinct x h))
      | inr (r, j, c) ↦ subst (λ (ids : List SessionId). EachPair (λ (a b : SessionId). a.0 ≢ b.0) ids)
          (sym (ids_after r s (leaves x r s c).kept)) (law.ids.distinct r j)
    ];
    apart = λ r s id i j d f g. commit_apart r s i j id d f g;
    callers = λ s id i f j. elim (members w.sessions x print s i) [
      | inl g ↦ absurd (false≢true (sym f ∙ ap (λ (r : Record). undoes r.kind) g))
      | inr (r, k, c) ↦ law.ids.callers r id k (ap undoes (sym (leaves x r s c).kept.kind) ∙ f)
          (subst (λ (ids : List SessionId). In id ids) (ids_after r s (leaves x r s c).kept) j)
    ];
  }
