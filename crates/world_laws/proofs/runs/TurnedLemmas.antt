-- Sessions that each change by themselves as `Turns` says: their ids, activations, and what is kept. Callers want
-- `from`, `peers_from`, `same_names`, `ascend`, `found_some`, `same_place`, `ids_after`, `activations_after` and
-- `was_kept`.
use Rattle.std.proofs.Common.{◌≡◌, ◌≢◌, ◌⊎◌, ℕ, true, List, ◌∷◌, map}
use Rattle.std.proofs.Common.{Option, Some, None, sym, ap, subst, ◌∙◌, refl, inl, inr, arith}
use Rattle.std.specs.Prelude.{slice_get, option_and_then}
use Rattle.std.specs.List.{list_any}
use Rattle.std.specs.Option.{option_map}
use Rattle.std.specs.Str.{bytes_eq}
use Rattle.apex_base.specs.declared.numbers.SessionId.{SessionId}
use Rattle.apex_base.specs.declared.records.Kind.TheVariants.{RollbackOf}
use Rattle.apex_base.specs.declared.records.Part.{Part}
use Rattle.apex_base.specs.declared.records.Record.{Record}
use Rattle.apex_base.specs.declared.records.Target.{Target}
use Rattle.apex_base.specs.declared.records.Target.TheVariants as targets
use Rattle.apex_base.specs.Held.{is_standing, kept}
use Rattle.apex_base.specs.Members.{In, EachPair}
use Rattle.apex_base.specs.Sessions.{has_id, names, session_of, Ascend}
use Rattle.apex_base.proofs.MemberLemmas.{in_map, in_map_back}
use Rattle.apex_base.proofs.SessionLemmas.{of_found, ascend_map, of_map}
use Rattle.apex_world.specs.Lawful.{Lawful, HaveIds, HaveActivations, ids_of, AllPeers}
use Rattle.apex_world.specs.Lawful.{AreActivatedApart, HasActivation}
use Rattle.apex_world.specs.Lawful.{part_at_place}
use Rattle.apex_base.specs.Commit.{undoes}
use Rattle.apex_world.specs.World.{World, boots}
use Rattle.world_facts.proofs.facts.KeptLemmas.{AreOrdered, ordered}
use Rattle.world_facts.proofs.facts.KeptLess.{Goes, IsFresh, Carries, Nothing, Before, New, kept_less}
use Rattle.world_facts.proofs.facts.LeadsLemmas.{same_ids}
use Rattle.world_laws.proofs.runs.TurnedSessions.{Turns, turn_goes}

module _ (w : World) (law : Lawful w) (g : Record → Record) (same : (r : Record) → (g r).id ≡ r.id)
    (turn : (r : Record) → In r w.sessions → Turns r (g r)) where
  abbrev ss : List Record
  ss = w.sessions

  abbrev after : List Record
  after = map g w.sessions

  -- each keeps the number of its id
  same_number : (r : Record) → (g r).id.0 ≡ r.id.0
  same_number r = ap (λ (id : SessionId). id.0) (same r)

  -- what holds of what each becomes holds of all
  pub from : (P : Record → Type 0) → ((r : Record) → In r ss → P (g r)) → (s : Record) → In s after → P s
  from P each s h = let (r, i, e) = in_map_back g s ss h in subst P e (each r i)

  -- each keeps its names
  pub same_names : (r : Record) (name : List ℕ) → In r ss → names name (g r) ≡ names name r
  same_names r name h = ap (λ (ps : List Part). list_any (λ p. bytes_eq p.name name) ps) (turn r h).kept.parts

  -- what holds of what two of a name become holds of all
  pub peers_from : (P : Record → Record → Type 0)
      → ((r s : Record) (name : List ℕ) → In r ss → In s ss → r.id.0 ≢ s.id.0 → names name r ≡ true
      → names name s ≡ true → P (g r) (g s)) → AllPeers P after
  peers_from P each r' s' name h i d n m =
      let (r, j, e) = in_map_back g r' ss h in
      let (s, k, f) = in_map_back g s' ss i in
      subst (P r') f (subst (λ (x : Record). P x (g s)) e (each r s name j k
      (λ c. d (ap (λ (x : Record). x.id.0) (sym e) ∙ same_number r ∙ c ∙ sym (same_number s)
      ∙ ap (λ (x : Record). x.id.0) f))
      (sym (same_names r name j) ∙ ap (names name) e ∙ n) (sym (same_names s name k) ∙ ap (names name) f ∙ m)))

  -- they ascend
  pub ascend : Ascend after
  ascend = ascend_map g ss same law.ids.ascend

  -- what is found
  found_at : (id : SessionId) → session_of after id ≡ option_map g (session_of ss id)
  found_at id = of_map g ss id same

  -- what a session became is found
  pub found_some : (id : SessionId) (r : Record) → session_of ss id ≡ Some r → session_of after id ≡ Some (g r)
  found_some id r e = found_at id ∙ ap (option_map g) e

  -- a part of what is found is the part that was there
  place_if : (part : ℕ) (o : Option Record) → ((r : Record) → o ≡ Some r → In r ss)
      → option_and_then (λ (r : Record). slice_get r.parts part) (option_map g o)
      ≡ option_and_then (λ (r : Record). slice_get r.parts part) o
  place_if part None there = refl
  place_if part (Some r) there = ap (λ (ps : List Part). slice_get ps part) (turn r (there r refl)).kept.parts

  -- each part stands where it stood
  pub same_place : (session : SessionId) (part : ℕ) → part_at_place after session part ≡ part_at_place ss session part
  same_place session part =
      ap (option_and_then (λ (r : Record). slice_get r.parts part)) (found_at session)
      ∙ place_if part (session_of ss session) (λ r e. (of_found ss session r e).0)

  -- Ids

  -- each keeps its ids and those of its children
  same_ids_of : (r : Record) → In r ss → ids_of (g r) ≡ ids_of r
  same_ids_of r h =
      ap (λ (x : SessionId). x ∷ (g r).children) (same r)
      ∙ ap (λ (cs : List SessionId). r.id ∷ cs) (turn r h).kept.children

  -- the ids are as they have to be
  pub ids_after : HaveIds after
  ids_after = record {
    ascend = ascend;
    distinct = from (λ s. EachPair (λ (a b : SessionId). a.0 ≢ b.0) (ids_of s)) (λ r h.
        subst (EachPair (λ (a b : SessionId). a.0 ≢ b.0)) (sym (same_ids_of r h)) (law.ids.distinct r h));
    apart = λ r' s' id h i d e f.
        let (r, j, is) = in_map_back g r' ss h in
        let (s, k, was) = in_map_back g s' ss i in
        law.ids.apart r s id j k
        (λ c. d (ap (λ (x : Record). x.id.0) (sym is) ∙ same_number r ∙ c ∙ sym (same_number s)
        ∙ ap (λ (x : Record). x.id.0) was))
        (sym (same_ids id r (g r) (turn r j).kept) ∙ ap (has_id id) is ∙ e)
        (sym (same_ids id s (g s) (turn s k).kept) ∙ ap (has_id id) was ∙ f);
    callers = λ s' id h e i.
        let (r, j, is) = in_map_back g s' ss h in
        law.ids.callers r id j (ap undoes (sym (turn r j).kept.kind) ∙ ap (λ (x : Record). undoes x.kind) is ∙ e)
        (subst (In id) (same_ids_of r j) (subst (λ (x : Record). In id (ids_of x)) (sym is) i));
  }

  -- Activations

  -- sessions that share a name were activated apart
  apart_after : AllPeers AreActivatedApart after
  apart_after = peers_from AreActivatedApart (λ r s name h i d n m.
      let p = law.activations.peers r s name h i d n m in
      let a = (turn r h).activation in
      let b = (turn s i).activation in
      record {
        apart = λ x y z. p.apart (λ e. x (a ∙ e)) (λ e. y (b ∙ e)) (sym a ∙ z ∙ b);
        above = λ x y.
            let l = p.above ((turn r h).undoable x) (sym (turn s i).standing ∙ y) in
            omega (arith, l, a, b);
      })

  -- activations are as they have to be
  pub activations_after : HaveActivations (boots w) after
  activations_after = record {
    each = from (HasActivation (boots w)) (λ r h.
        let t = turn r h in
        let a = law.activations.each r h in
        let n = t.activation in
        record {
          none = λ e. n ∙ a.none (sym t.never ∙ e);
          some = λ e. let l = a.some (sym t.never ∙ e) in omega (arith, l, n);
          most = let l = a.most in omega (arith, l, n);
        });
    peers = apart_after;
    after = λ s' h x y k f z.
        let (r, j, is) = in_map_back g s' ss h in
        let kind : r.kind ≡ RollbackOf x = sym (turn r j).kept.kind ∙ ap (λ (s : Record). s.kind) is ∙ k in
        let (q, found, back) = law.undone.back r x j kind in
        let one : ◌≡◌ {A = Option Record} (Some (g q)) (Some y) = sym (found_some x q found) ∙ f in
        let yes : g q ≡ y = cc in
        let a = (turn r j).activation in
        let b = (turn q (of_found ss x q found).0).activation in
        let c : (g r).activation ≡ s'.activation = ap (λ (s : Record). s.activation) is in
        let d : (g q).activation ≡ y.activation = ap (λ (s : Record). s.activation) yes in
        let l = law.activations.after r j x q kind found (λ e. z (sym c ∙ a ∙ e)) in
        omega (arith, l, a, b, c, d);
  }

  -- What is kept

  -- sessions are in their order
  ordered_after : AreOrdered after
  ordered_after = record {
    ascend = ascend;
    peers = apart_after;
    active = from (λ s. is_standing s.state ≡ true → s.activation ≡ 0 → ⊥) (λ r h e z.
        (ordered w law).active r h (sym (turn r h).standing ∙ e) (sym (turn r h).activation ∙ z));
  }

  -- each goes on
  carries_after : Carries ss after
  carries_after = record {
    back = λ s h. let (r, i, e) = in_map_back g s ss h in inl (r, i, subst (Goes r) e (turn_goes r (g r) (turn r i)));
    forth = λ r h. (g r, in_map g r ss h, turn_goes r (g r) (turn r h));
  }

  -- none is new
  not_fresh : (s : Record) → In s after → IsFresh ss s → ⊥
  not_fresh s h fresh = let (r, i, e) = in_map_back g s ss h in
      fresh.unused r i (sym (same_number r) ∙ ap (λ (x : Record). x.id.0) e)

  -- what is kept was kept
  pub was_kept : (t : Target) → In t (kept after) → (t ≡ targets.Preinstalled) ⊎ In t (kept ss)
  was_kept t h =
      elim (kept_less ss after (ordered w law) ordered_after carries_after t h) [
        | Nothing e ↦ inl e
        | Before i ↦ inr i
        | New s p i fresh j e ↦ absurd (not_fresh s i fresh)
      ]
