-- The world that a boot of a lawful world leads to is whole, before its boot loop: `started_whole`.
use Rattle.std.proofs.Common.{◌≡◌, ◌≢◌, ℕ, suc, zero, ◌+◌, ◌<◌, ◌≤◌, ◌&&◌, true, false, List, [], ◌∷◌, ◌++◌}
use Rattle.std.proofs.Common.{length, map, Option, Some, None, sym, ap, subst, ◌∙◌, refl, inl, inr, arith}
use Rattle.std.specs.Prelude.{nat_lt}
use Rattle.std.specs.Option.{option_map}
use Rattle.std.specs.Str.{bytes_eq}
use Rattle.std.proofs.lemmas.Bool.{and_parts, cases_eq, ltb-true}
use Rattle.std.proofs.lemmas.List.{length-append}
use Rattle.std.proofs.lemmas.Slice.Eq.{bytes_eq-Decides}
use Rattle.apex_base.specs.declared.numbers.SessionId.{SessionId}
use Rattle.apex_base.specs.declared.records.Cause.{Cause}
use Rattle.apex_base.specs.declared.records.Kind.{Kind}
use Rattle.apex_base.specs.declared.records.Kind.TheVariants.{Plain, WithRollback, RollbackOf}
use Rattle.apex_base.specs.declared.records.Part.{Part}
use Rattle.apex_base.specs.declared.records.Pick.{Pick}
use Rattle.apex_base.specs.declared.records.Place.TheVariants.{Data}
use Rattle.apex_base.specs.declared.records.Record.{Record}
use Rattle.apex_base.specs.declared.records.State.TheVariants as state
use Rattle.apex_base.specs.declared.records.Target.{Target}
use Rattle.apex_base.specs.declared.records.Target.TheVariants as targets
use Rattle.apex_base.specs.Commit.{part_before, undoes}
use Rattle.apex_base.specs.Held.{is_standing, is_success, is_undoable, is_unfinished, held, before}
use Rattle.apex_base.specs.Members.{In, EachPair}
use Rattle.apex_base.specs.Sessions.{names, session_of}
use Rattle.apex_base.proofs.MemberLemmas.{in_map, in_map_back, in_any, each_in}
use Rattle.apex_base.proofs.SessionLemmas.{of_in, of_map}
use Rattle.apex_world.specs.declared.calls.BootOrder.{BootOrder}
use Rattle.apex_world.specs.declared.modules.Package.{Package}
use Rattle.apex_world.specs.Boot.{become, started}
use Rattle.apex_world.specs.Lawful.{Lawful, AreOwn}
use Rattle.apex_world.specs.Selection.{Mounts, preinstalled, target_case, cause_of, choice, pick_of}
use Rattle.world_laws.specs.Wholeness.{IsActiveFrom, IsOnData, IsWhole}
use Rattle.apex_world.specs.World.{World, boots}
use Rattle.world_laws.proofs.meaning.BootSessions.{become_keeps, part_works}
use Rattle.world_laws.proofs.meaning.BootTurns.{Turns, Rests, Activates, Remains, Fails, Reverts, turns, activated_works}
use Rattle.world_laws.proofs.meaning.BootTurns.{success_states, undoable_turned}
use Rattle.world_laws.proofs.meaning.ChosenLemmas.{chosen_in, chosen_back, chosen_from, choice_works, choice_data}
use Rattle.apex_base.proofs.Finding.{found}
use Rattle.world_facts.proofs.facts.LatestLemmas.{IsLatest, named_by, names_part, latest_is}
use Rattle.world_laws.proofs.meaning.RollbackIds.{only_one}
use Rattle.world_facts.proofs.facts.StateFacts.{undoable_unfinished}

-- Parts

-- parts of one name are one
one_part : (ps : List Part) (p q : Part) → EachPair (λ (p q : Part). p.name ≢ q.name) ps → In p ps → In q ps
    → p.name ≡ q.name → p ≡ q
one_part [] p q a h i e = absurd h
one_part (x ∷ ps) p q a (inl f) (inl g) e = sym f ∙ g
one_part (x ∷ ps) p q a (inl f) (inr i) e = absurd
    (each_in (λ (q : Part). x.name ≢ q.name) ps a.0 q i (ap (λ (p : Part). p.name) f ∙ e))
one_part (x ∷ ps) p q a (inr h) (inl g) e = absurd
    (each_in (λ (q : Part). x.name ≢ q.name) ps a.0 p h (ap (λ (p : Part). p.name) g ∙ sym e))
one_part (x ∷ ps) p q a (inr h) (inr i) e = one_part ps p q a.1 h i e

-- an ordinary session's targets are its own modules
own_in : (id : SessionId) (k : ℕ) (ps : List Part) (p : Part) → AreOwn id k ps → In p ps
    → (part : ℕ) × (version : ℕ) × (p.target ≡ targets.Module id part version)
own_in id k [] p own h = absurd h
own_in id k (q ∷ ps) p own (inl e) = let (version, f) = own.0 in (k, version, ap (λ (p : Part). p.target) (sym e) ∙ f)
own_in id k (q ∷ ps) p own (inr h) = own_in id (k + 1) ps p own.1 h

abbrev session_in : Target → Option SessionId
session_in targets.Preinstalled = None
session_in (targets.Module session part version) = Some session

same_session : (s t : SessionId) (k l v u : ℕ) → targets.Module s k v ≡ targets.Module t l u → s ≡ t
same_session s t k l v u e = let f : ◌≡◌ {A = Option SessionId} (Some s) (Some t) = ap session_in e in cc

-- Successes

module _ (w : World) (law : Lawful w) where
  -- what a name held before x, where it is a module, is the target of a success from before x
  pub record IsFromBefore (x : Record) (target : Target) : Type 0 where
    pub session : Record
    pub part : Part
    pub among : In session w.sessions
    pub success : is_success session.state ≡ true
    pub earlier : session.activation < x.activation
    pub here : In part session.parts
    pub is : part.target ≡ target

  from_before : (x : Record) (name : List ℕ) (s : SessionId) (k v : ℕ)
      → before w.sessions x name ≡ targets.Module s k v → IsFromBefore x (targets.Module s k v)
  from_before x name s k v e =
      elim (latest_is (λ r. is_success r.state && nat_lt r.activation x.activation) name w.sessions) [
        | inl (none, f) ↦ let g : ◌≡◌ {A = Option SessionId} None (Some s) = ap session_in (sym f ∙ e) in absurd (cc)
        | inr (y, q, is, f) ↦
            let (success, lt) = and_parts (is_success y.state) (nat_lt y.activation x.activation) is.counts in
            record {
              session = y;
              part = q;
              among = is.among;
              success = success;
              earlier = ltb-true y.activation
                  x.activation lt;
              here = (named_by name y q is.part).0;
              is = sym f ∙ e;
            }
      ]

  abbrev Succeeded : SessionId → Type 0
  Succeeded s = (r : Record) × (session_of w.sessions s ≡ Some r) × (is_success r.state ≡ true)

  -- the targets of a rollback session are those from before the session that it undoes
  undone_from : (r : Record) (id : SessionId) (p : Part) (s : SessionId) (k v : ℕ) → In r w.sessions
      → r.kind ≡ RollbackOf id → In p r.parts → p.target ≡ targets.Module s k v
      → (x : Record) × (session_of w.sessions id ≡ Some x) × IsFromBefore x (targets.Module s k v)
  undone_from r id p s k v h kind i e =
      let (x, there, is) = law.undone.back r id h kind in
      let j : In p (map (part_before w.sessions x) x.parts) = subst (λ (ps : List Part). In p ps) is.parts i in
      let (q, l, f) = in_map_back (part_before w.sessions x) p x.parts j in
      (x, there, from_before x q.name s k v (ap (λ (p : Part). p.target) f ∙ e))

  own_session : (r : Record) (p : Part) (s : SessionId) (k v : ℕ) → In r w.sessions → undoes r.kind ≡ false
      → In p r.parts → p.target ≡ targets.Module s k v → r.id ≡ s
  own_session r p s k v h kind i e =
      let (part, version, f) = own_in r.id 0 r.parts p ((law.parts r h).own kind) i in
      same_session r.id s part k version v (sym f ∙ e)

  success_kind : (n : ℕ) (y : Record) (k : Kind) → y.kind ≡ k → y.activation < n → In y w.sessions
      → is_success y.state ≡ true → (p : Part) (s : SessionId) (part v : ℕ) → In p y.parts
      → p.target ≡ targets.Module s part v → Succeeded s
  success_kind zero y k kind l h e p s part v i f = absurd (omega (arith, l))
  success_kind (suc n) y Plain kind l h e p s part v i f = (
    y,
    ap (session_of w.sessions) (sym (own_session y p s part v h (ap undoes kind) i f))
        ∙ of_in w.sessions y law.ids.ascend h,
    e,
  )
  success_kind (suc n) y WithRollback kind l h e p s part v i f = (
    y,
    ap (session_of w.sessions) (sym (own_session y p s part v h (ap undoes kind) i f))
        ∙ of_in w.sessions y law.ids.ascend h,
    e,
  )
  success_kind (suc n) y (RollbackOf id) kind l h e p s part v i f =
      let (x, there, b) = undone_from y id p s part v h kind i f in
      let some = (law.activations.each y h).some (success_states y.state e).1 in
      let after = law.activations.after y h id x kind there (λ g. omega (arith, g, some)) in
      let lower = b.earlier in
      success_kind n b.session b.session.kind refl (omega (arith, l, after, lower)) b.among b.success b.part s part v
      b.here b.is

  -- the module that is the target of a success was submitted by a success
  pub success_submits : (y : Record) (p : Part) (s : SessionId) (part v : ℕ) → In y w.sessions
      → is_success y.state ≡ true → In p y.parts → p.target ≡ targets.Module s part v → Succeeded s
  success_submits y p s part v h e i f = success_kind (suc y.activation) y y.kind refl (omega arith) h e p s part v i f

-- Turns of two sessions

-- what isn't unfinished and stands after the boot stood before it
rests_standing : (cause : Option Cause) (b : ℕ) (s t : Record) → (is_unfinished s.state ≡ true → ⊥)
    → is_standing t.state ≡ true → Turns cause b s t → (is_standing s.state ≡ true) × (t.activation ≡ s.activation)
rests_standing cause b s t quiet e (Rests f g a) = (ap is_standing (sym g) ∙ e, a)
rests_standing cause b s t quiet e (Activates f g a c) = absurd (quiet (ap is_unfinished f))
rests_standing cause b s t quiet e (Remains f g a c) = absurd (quiet (ap is_unfinished f))
rests_standing cause b s t quiet e (Fails f g a) = absurd (quiet (ap is_unfinished f))
rests_standing cause b s t quiet e (Reverts f g a) = absurd (quiet (undoable_unfinished s.state f))

greatest_if : (n b : ℕ) (r s r' s' : Record) (c d : Option Cause) → s.activation ≤ n → n < b
    → (is_unfinished r.state ≡ true → is_unfinished s.state ≡ true → ⊥)
    → (is_undoable r.state ≡ true → is_standing s.state ≡ true → s.activation < r.activation)
    → r'.state ≡ state.Activated → is_standing s'.state ≡ true → Turns c b r r' → Turns d b s s'
    → s'.activation < r'.activation
greatest_if n b r s r' s' c d most late alone above e st (Rests f g a) t = absurd (cc)
greatest_if n b r s r' s' c d most late alone above e st (Activates f g a w) t =
    let (stood, same) = rests_standing d b s s' (alone (ap is_unfinished f)) st t in omega (arith, most, late, same, a)
greatest_if n b r s r' s' c d most late alone above e st (Remains f g a w) t =
    let (stood, same) = rests_standing d b s s' (alone (ap is_unfinished f)) st t in
    let less = above (ap is_undoable f) stood in
    omega (arith, less, same, a)
greatest_if n b r s r' s' c d most late alone above e st (Fails f g a) t = absurd (cc)
greatest_if n b r s r' s' c d most late alone above e st (Reverts f g a) t = absurd (cc)

-- a success stays one
success_stands : (cause : Option Cause) (b : ℕ) (r s : Record) → r.state ≡ state.Success → Turns cause b r s
    → is_standing s.state ≡ true
success_stands cause b r s e (Rests f g a) = ap is_standing (g ∙ e)
success_stands cause b r s e (Activates f g a c) = absurd (cc)
success_stands cause b r s e (Remains f g a c) = absurd (cc)
success_stands cause b r s e (Fails f g a) = absurd (cc)
success_stands cause b r s e (Reverts f g a) = absurd (cc)

-- The boot

module _ (w : World) (order : BootOrder) (mounts : Mounts) (law : Lawful w) where
  abbrev number : ℕ
  number = length (w.eras ++ w.contents ∷ [])

  abbrev f : Record → Record
  f r = become mounts w.modules order number r

  abbrev v : World
  v = started w order mounts

  abbrev cause : Record → Option Cause
  cause r = cause_of mounts w.modules order.image.modules r.parts

  turn_of : (r : Record) → Turns (cause r) number r (f r)
  turn_of r = turns mounts w.modules order number r

  keeps_parts : (r : Record) → (f r).parts ≡ r.parts
  keeps_parts r = (become_keeps mounts w.modules order number r).parts

  keeps_id : (r : Record) → (f r).id ≡ r.id
  keeps_id r = (become_keeps mounts w.modules order number r).id

  keeps_names : (name : List ℕ) (r : Record) → names name (f r) ≡ names name r
  keeps_names name r = ap (λ (ps : List Part). names name (record r { parts = ps })) (keeps_parts r)

  later_boot : boots w < number
  later_boot = let e = length-append w.eras (w.contents ∷ []) in omega (arith, e)

  found_after : (s : SessionId) (r : Record) → session_of w.sessions s ≡ Some r → session_of v.sessions s ≡ Some (f r)
  found_after s r e = of_map f w.sessions s keeps_id ∙ ap (option_map f) e

  -- an activated session was activated after each other one that stands and shares a name with it
  greatest : (name : List ℕ) (r s : Record) → In r w.sessions → In s w.sessions → (f r).state ≡ state.Activated
      → is_standing (f s).state ≡ true → r.id.0 ≢ s.id.0 → names name r ≡ true → names name s ≡ true
      → (f s).activation < (f r).activation
  greatest name r s h i e st d n m =
      greatest_if (boots w) number r s (f r) (f s) (cause r) (cause s) (law.activations.each s i).most later_boot
      (law.alone r s name h i d n m) (law.activations.peers r s name h i d n m).above e st (turn_of r) (turn_of s)

  own_if : (r : Record) (p : Part) → In r w.sessions → (f r).state ≡ state.Activated → In p r.parts
      → names p.name r ≡ true → (s : Record) (q : Part) → In s w.sessions
      → IsLatest (λ r. is_standing r.state) v.sessions p.name (f s) q → q.target ≡ p.target
  own_if r p h e i n s q j is =
      let (there, named) = named_by p.name (f s) q is.part in
      elim (cases_eq r.id.0 s.id.0) [
        | inl g ↦
            let one = only_one w.sessions r s law.ids.ascend h j g in
            let k : In q r.parts = subst (λ (ps : List Part). In q ps) (keeps_parts s
            ∙ ap (λ (r : Record). r.parts) (sym one)) there in
            ap (λ (p : Part). p.target) (one_part r.parts q p (law.parts r h).names k i
            ((bytes_eq-Decides q.name p.name).0 named))
        | inr d ↦
            let less = greatest p.name r s h j e is.counts d n (sym (keeps_names p.name s)
            ∙ names_part p.name (f s) q is.part) in
            let most = is.most (f r) (in_map f r w.sessions h) (ap is_standing e) (keeps_names p.name r ∙ n) in
            absurd (omega (arith, less, most))
      ]

  -- it holds its names
  own_held : (r : Record) (p : Part) → In r w.sessions → (f r).state ≡ state.Activated → In p r.parts
      → held v.sessions p.name ≡ p.target
  own_held r p h e i =
      let n : names p.name r ≡ true = in_any (λ (q : Part). bytes_eq q.name p.name) p r.parts i
      ((bytes_eq-Decides p.name p.name).1 refl) in
      elim (latest_is (λ r. is_standing r.state) p.name v.sessions) [
        | inl (none, g) ↦ absurd (none (f r) (in_map f r w.sessions h) (ap is_standing e) (keeps_names p.name r ∙ n))
        | inr (s', q, is, g) ↦
            let (s, j, k) = in_map_back f s' w.sessions is.among in
            g ∙ own_if r p h e i n s q j (subst (λ (s : Record). IsLatest
            (λ r. is_standing r.state) v.sessions p.name s q) (sym k) is)
      ]

  -- Modules on data

  abbrev Submits : SessionId → Type 0
  Submits s = (r : Record) × (session_of v.sessions s ≡ Some r) × (is_standing r.state ≡ true)

  submits_kind : (r : Record) (k : Kind) → r.kind ≡ k → In r w.sessions → is_standing (f r).state ≡ true
      → (p : Part) (s : SessionId) (part version : ℕ) → In p r.parts → p.target ≡ targets.Module s part version
      → Submits s
  submits_kind r Plain kind h st p s part version i e = (
    f r,
    found_after s r (ap (session_of w.sessions)
        (sym (own_session w law r p s part version h (ap undoes kind) i e))
        ∙ of_in w.sessions r law.ids.ascend h),
    st,
  )
  submits_kind r WithRollback kind h st p s part version i e = (
    f r,
    found_after s r (ap (session_of w.sessions)
        (sym (own_session w law r p s part version h (ap undoes kind) i e))
        ∙ of_in w.sessions r law.ids.ascend h),
    st,
  )
  submits_kind r (RollbackOf id) kind h st p s part version i e =
      let (x, there, b) = undone_from w law r id p s part version h kind i e in
      let (y, found, success) = success_submits w law b.session b.part s part version b.among b.success b.here b.is in (
        f y,
        found_after s y found,
        success_stands (cause y) number y (f y) (success_states y.state success).0
            (turn_of y),
      )

  submits : (name : List ℕ) (s : SessionId) (part version : ℕ) → held v.sessions name ≡ targets.Module s part version
      → Submits s
  submits name s part version e =
      elim (latest_is (λ r. is_standing r.state) name v.sessions) [
        | inl (none, g) ↦ let same : ◌≡◌ {A = Option SessionId} None (Some s) = ap session_in (sym g ∙ e) in absurd (cc)
        | inr (r', q, is, g) ↦
            let (r, j, k) = in_map_back f r' w.sessions is.among in
            let st : is_standing (f r).state ≡ true = ap (λ (r : Record). is_standing r.state) k ∙ is.counts in
            let i : In q r.parts = subst (λ (ps : List Part). In q ps) (ap (λ (r : Record). r.parts) (sym k)
            ∙ keeps_parts r) (named_by name r' q is.part).0 in
            submits_kind r r.kind refl j st q s part version i (sym g ∙ e)
      ]

  modules_whole : (name : List ℕ) (version : ℕ) → In (record { name = name; chosen = Some (version, Data) }) v.active
      → IsOnData v name version
  modules_whole name version h =
      let (m, i, e) = chosen_back mounts w.modules v.sessions order.image.modules
      (record { name = name; chosen = Some (version, Data) }) h in
      let (s, part, t) = choice_data mounts w.modules (held v.sessions m.name) m version
      (ap (λ (p : Pick). p.chosen) e) in
      let holds = ap (held v.sessions) (sym (ap (λ (p : Pick). p.name) e)) ∙ t in
      let (r, there, st) = submits name s part version holds in
      record { session = s; part = part; submitter = r; holds = holds; found = there; stands = st }

  -- Parts of activated sessions

  picked : (t : Target) (name : List ℕ) (m : Package) → held v.sessions name ≡ t
      → preinstalled order.image.modules name ≡ Some m → target_case mounts w.modules t m ≡ None
      → In (record { name = name; chosen = chosen_from t m }) v.active
  picked t name m holds there works =
      let (i, named) = found (λ m. bytes_eq m.name name) order.image.modules m there in
      let same : m.name ≡ name = (bytes_eq-Decides m.name name).0 named in
      let chosen : choice mounts w.modules (held v.sessions m.name) m ≡ chosen_from t m =
      ap (λ (t : Target). choice mounts w.modules t m) (ap (held v.sessions) same ∙ holds)
      ∙ choice_works mounts w.modules t m works in
      let pick : ◌≡◌ {A = Pick} (pick_of mounts w.modules v.sessions m)
      (record { name = name; chosen = chosen_from t m }) = λ i. record { name = same i; chosen = chosen i } in
      subst (λ (p : Pick). In p v.active) pick (chosen_in mounts w.modules v.sessions order.image.modules m i)

  active_from : (t : Target) (name : List ℕ) (m : Package) → held v.sessions name ≡ t
      → preinstalled order.image.modules name ≡ Some m → target_case mounts w.modules t m ≡ None → IsActiveFrom v name t
  active_from targets.Preinstalled name m holds there works =
      (m.version, ap (option_map (λ m. m.version)) there, picked targets.Preinstalled name m holds there works)
  active_from (targets.Module s part version) name m holds there works =
      (picked (targets.Module s part version) name m holds there works, holds)

  parts_whole : (r : Record) (p : Part) → In r v.sessions → is_undoable r.state ≡ true → In p r.parts
      → IsActiveFrom v p.name p.target
  parts_whole r' p h e i =
      let (r, j, k) = in_map_back f r' w.sessions h in
      let st = undoable_turned (cause r) number r (f r) (ap (λ (r : Record). is_undoable r.state) k ∙ e) (turn_of r) in
      let l : In p r.parts = subst (λ (ps : List Part). In p ps) (ap (λ (r : Record). r.parts) (sym k)
      ∙ keeps_parts r) i in
      let (m, there, works) = part_works mounts w.modules order.image.modules r.parts
      (activated_works (cause r) number r (f r) st (turn_of r)) p l in
      active_from p.target p.name m (own_held r p j st l) there works

  -- before the boot loop
  pub started_whole : IsWhole v
  started_whole = record { parts = parts_whole; modules = modules_whole }
