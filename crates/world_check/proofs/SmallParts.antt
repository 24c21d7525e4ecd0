-- The targets of lawful sessions have part numbers of one byte, so that their records have room: `have_room`. A session
-- that was submitted has its own modules. One that a rollback made has those of sessions that were activated earlier.
use Rattle.std.proofs.Common.{◌≡◌, ℕ, zero, suc, ◌+◌, ◌<◌, ◌≤◌, true, false, List, [], ◌∷◌, length, map, Some, sym}
use Rattle.std.proofs.Common.{subst, refl, inl, inr, arith, ltb, ◌&&◌}
use Rattle.std.specs.Prelude.{nat_lt}
use Rattle.std.specs.List.{AllByRecursion}
use Rattle.std.proofs.lemmas.Bool.{and_parts, ltb-true}
use Rattle.apex_base.specs.declared.numbers.SessionId.{SessionId}
use Rattle.apex_base.specs.declared.records.Kind.{Kind}
use Rattle.apex_base.specs.declared.records.Kind.TheVariants.{Plain, WithRollback, RollbackOf}
use Rattle.apex_base.specs.declared.records.Part.{Part}
use Rattle.apex_base.specs.declared.records.Record.{Record}
use Rattle.apex_base.specs.Commit.{part_before, undoes}
use Rattle.apex_base.specs.Held.{before, is_success}
use Rattle.apex_base.specs.Members.{In}
use Rattle.apex_base.specs.Sessions.{session_of}
use Rattle.apex_base.proofs.MemberLemmas.{in_map_back, each_in, in_each}
use Rattle.apex_base.proofs.SessionLemmas.{of_found}
use Rattle.apex_world.specs.Lawful.{AreOwn}
use Rattle.world_facts.proofs.facts.LatestLemmas.{named_by, latest_is}
use Rattle.world_facts.proofs.facts.StateFacts.{success_activated}
use Rattle.session_check.specs.LawfulSessions.{AreLawfulSessions}
use Rattle.session_record.specs.Room.{HasPartNumber, HasRoom}

abbrev HasSmall : Part → Type 0
HasSmall p = HasPartNumber p.target

abbrev AreSmall : Record → Type 0
AreSmall r = AllByRecursion HasSmall r.parts

own_small : (id : SessionId) (k : ℕ) (ps : List Part) → AreOwn id k ps → k + length ps ≤ 256
    → AllByRecursion HasSmall ps
own_small id k [] own few = tt
own_small id k (p ∷ ps) own few =
    let low : k < 256 = omega (arith, few) in
    let rest : k + 1 + length ps ≤ 256 = omega (arith, few) in
    (subst HasPartNumber (sym own.0.1) low, own_small id (k + 1) ps own.1 rest)

module _ (boots : ℕ) (ss : List Record) (law : AreLawfulSessions boots ss) where
  -- the sessions that succeeded, of those that were activated before x
  abbrev AreEarlierSmall : Record → Type 0
  AreEarlierSmall x = (y : Record) → In y ss → is_success y.state ≡ true → y.activation < x.activation → AreSmall y

  before_small : (x : Record) (name : List ℕ) → AreEarlierSmall x → HasPartNumber (before ss x name)
  before_small x name earlier =
      elim (latest_is (λ r. is_success r.state && nat_lt r.activation x.activation) name ss) [
        | inl none ↦ subst HasPartNumber (sym none.1) tt
        | inr (y, p, latest, is) ↦
            let t = and_parts (is_success y.state) (ltb y.activation x.activation) latest.counts in
            let small = earlier y latest.among t.0 (ltb-true y.activation x.activation t.1) in
            subst HasPartNumber (sym is) (each_in HasSmall y.parts small p (named_by name y p latest.part).0)
      ]

  gone_back : (x : Record) → AreEarlierSmall x → AllByRecursion HasSmall (map (part_before ss x) x.parts)
  gone_back x earlier = in_each HasSmall (map (part_before ss x) x.parts) (λ q h.
      let (p, i, e) = in_map_back (part_before ss x) q x.parts h in
      subst HasSmall e (before_small x p.name earlier))

  submitted_small : (r : Record) → In r ss → undoes r.kind ≡ false → AreSmall r
  submitted_small r i e =
      let parts = law.parts r i in
      let few = parts.few in
      own_small r.id 0 r.parts (parts.own e) (omega (arith, few))

  small_if : (r : Record) → In r ss → ((id : SessionId) (x : Record) → r.kind ≡ RollbackOf id
      → session_of ss id ≡ Some x → AreEarlierSmall x) → (k : Kind) → r.kind ≡ k → AreSmall r
  small_if r i earlier Plain e = submitted_small r i (rw e refl)
  small_if r i earlier WithRollback e = submitted_small r i (rw e refl)
  small_if r i earlier (RollbackOf id) e =
      let (x, f, is) = law.undone.back r id i e in
      subst (AllByRecursion HasSmall) (sym is.parts) (gone_back x (earlier id x e f))

  abbrev TakesBackBy : ℕ → Record → Type 0
  TakesBackBy n r = (id : SessionId) (x : Record) → r.kind ≡ RollbackOf id → session_of ss id ≡ Some x
      → x.activation ≤ n

  -- what y takes back was activated before y
  by_before : (n : ℕ) (y : Record) → In y ss → is_success y.state ≡ true → y.activation ≤ suc n → TakesBackBy n y
  by_before n y j s most id x e f =
      let some = (law.activations.each y j).some (success_activated y.state s) in
      let less = law.activations.after y j id x e f (λ z. omega (arith, some, z)) in
      omega (arith, most, less)

  small_by : (n : ℕ) (r : Record) → In r ss → TakesBackBy n r → AreSmall r
  small_by zero r i by =
      small_if r i (λ id x e f y j s l. let most = by id x e f in absurd (omega (arith, most, l))) r.kind refl
  small_by (suc n) r i by = small_if r i (λ id x e f y j s l.
      let most = by id x e f in
      small_by n y j (by_before n y j s (omega (arith, most, l)))) r.kind refl

  pub have_room : (r : Record) → In r ss → HasRoom r
  have_room r i =
      let few = (law.parts r i).few in record {
        few = omega (arith, few);
        numbers = small_by boots r i (λ id x e f.
            (law.activations.each x (of_found ss id x f).0).most);
        count = elim (law.parts r i).count [
          | inl one ↦ inl one.0
          | inr same ↦ inr same
        ];
      }
