-- What sessions keep of the past after a boot: what they kept before it, and what there was just before the boot where
-- it activated them. Callers want `number_alike`, `past_before` and `past_booted`.
use Rattle.std.proofs.Common.{◌≡◌, ◌⊎◌, ℕ, ◌+◌, true, eqb, ◌&&◌, List, [], ◌∷◌, ◌++◌}
use Rattle.std.proofs.Common.{length, map, Option, Some, None, sym, ap, subst, ◌∙◌, refl, inl, inr, arith}
use Rattle.std.specs.Prelude.{not}
use Rattle.std.proofs.lemmas.Bool.{false≢true, and_parts, and_from}
use Rattle.std.proofs.lemmas.List.{length-append}
use Rattle.apex_base.specs.declared.numbers.SessionId.{SessionId}
use Rattle.apex_base.specs.declared.records.Record.{Record}
use Rattle.apex_base.specs.declared.records.RollbackState.{RollbackState}
use Rattle.apex_base.specs.declared.records.RollbackState.TheVariants.{Enabling, Available, Committed, Deleted}
use Rattle.apex_base.specs.Commit.{rollback_id, rolls_back, undoes}
use Rattle.apex_base.specs.Held.{is_undoable, is_staged}
use Rattle.apex_base.specs.Members.{In}
use Rattle.apex_base.specs.Sessions.{names, session_of}
use Rattle.apex_base.specs.Tables.{value_of}
use Rattle.apex_base.proofs.MemberLemmas.{in_map_back}
use Rattle.apex_base.proofs.SessionLemmas.{of_found}
use Rattle.apex_world.specs.declared.calls.BootOrder.{BootOrder}
use Rattle.apex_world.specs.Boot.{become}
use Rattle.apex_world.specs.Lawful.{Lawful}
use Rattle.apex_world.specs.Rows.{is_staged_session, may_happen}
use Rattle.apex_world.specs.Selection.{Mounts, cause_of}
use Rattle.world_laws.specs.StoredAlike.{KeepsPast, AreAlikeInParts}
use Rattle.apex_world.specs.World.{World, Contents, era}
use Rattle.world_laws.proofs.alike.BootAges.{IsYoung, IsOld}
use Rattle.world_laws.proofs.alike.BootOrdered.{turn, keeps, ages, names_back}
use Rattle.world_laws.proofs.alike.BootFades.{era_front, era_last, turn_staged}
use Rattle.world_laws.proofs.alike.StagedSome.{staged_some}
use Rattle.world_laws.proofs.meaning.BootRollbacks.{settles}
use Rattle.world_laws.proofs.meaning.RollbackStates.{Fades}

module _ (w : World) (law : Lawful w) (order : BootOrder) (mounts : Mounts) where
  abbrev number : ℕ
  number = length (w.eras ++ w.contents ∷ [])

  abbrev f : Record → Record
  f r = become mounts w.modules order number r

  abbrev mid : List Record
  mid = map f w.sessions

  none_staged : (id : SessionId) → is_staged_session (session_of mid id) ≡ true → ⊥
  none_staged id e =
      let (z, found, s) = staged_some (session_of mid id) e in
      let (i, same) = of_found mid id z found in
      let (q, j, is) = in_map_back f z w.sessions i in
      turn_staged (cause_of mounts w.modules order.image.modules q.parts) number q (f q) (turn w law order mounts q)
      (ap (λ (z : Record). is_staged z.state) is ∙ s)

  may_before : (id id' : SessionId) (o : Option RollbackState) → may_happen mid id' o ≡ true
      → may_happen w.sessions id o ≡ true
  may_before id id' None m = absurd (cc)
  may_before id id' (Some Enabling) m = refl
  may_before id id' (Some Available) m = refl
  may_before id id' (Some Committed) m = absurd (none_staged (rollback_id id') m)
  may_before id id' (Some Deleted) m = absurd (cc)

  may_faded : (id id' : SessionId) (o p : Option RollbackState) → Fades o p → may_happen mid id' p ≡ true
      → may_happen w.sessions id o ≡ true
  may_faded id id' o p (inl e) m = may_before id id' o (ap (may_happen mid id') (sym e) ∙ m)
  may_faded id id' o p (inr e) m = absurd (false≢true (ap (may_happen mid id') (sym e) ∙ m))

  -- a session that this boot didn't activate keeps what it kept
  keeps_old : (r : Record) → IsOld r (f r) → KeepsPast mid (f r) → KeepsPast w.sessions r
  keeps_old r old (inl k) =
      let l = keeps w law order mounts r in
      let (first, m) = and_parts (rolls_back (f r).kind && not (eqb (f r).activation 0))
      (may_happen mid (f r).id (f r).rollback) k in
      inl (and_from (rolls_back r.kind && not (eqb r.activation 0)) (may_happen w.sessions r.id r.rollback)
      (ap (λ n. rolls_back r.kind && not (eqb n 0)) (sym old.activation)
      ∙ ap (λ k. rolls_back k && not (eqb (f r).activation 0)) (sym l.kind) ∙ first)
      (may_faded r.id (f r).id r.rollback (f r).rollback ((settles mounts w.modules order number r).fades) m))
  keeps_old r old (inr k) =
      let l = keeps w law order mounts r in
      let (kind, u) = and_parts (undoes (f r).kind) (is_undoable (f r).state) k in
      inr (and_from (undoes r.kind) (is_undoable r.state) (ap undoes (sym l.kind) ∙ kind) (old.undoable u))

-- the earlier data that sessions keep is the same after a boot of worlds that are alike
module _ (w v : World) (a : AreAlikeInParts w v) (law : Lawful w) (order : BootOrder) (mounts : Mounts) where
  abbrev eras : List Contents
  eras = w.eras ++ w.contents ∷ []

  abbrev eras' : List Contents
  eras' = v.eras ++ w.contents ∷ []

  -- both worlds have the same number of boots afterwards
  pub number_alike : length eras ≡ length eras'
  number_alike =
      length-append w.eras (w.contents ∷ []) ∙ ap (λ (n : ℕ). n + 1) a.stored.boots
      ∙ sym (length-append v.eras (w.contents ∷ []))

  -- what a session kept before the boot is kept by the same eras
  pub past_before : (r : Record) (name key : List ℕ) → In r w.sessions → KeepsPast w.sessions r → names name r ≡ true
      → value_of (era eras r.activation) name key ≡ value_of (era eras' r.activation) name key
  past_before r name key h k n =
      let most = (law.activations.each r h).most in
      let same = a.stored.boots in
      ap (λ (c : Contents). value_of c name key) (era_front w.eras w.contents r.activation most)
      ∙ a.stored.past r name key h k n
      ∙ ap (λ (c : Contents). value_of c name key)
      (sym (era_front v.eras w.contents r.activation (omega (arith, most, same))))

  past_by : (r : Record) (name key : List ℕ) → In r w.sessions
      → KeepsPast (mid w law order mounts) (f w law order mounts r)
      → names name (f w law order mounts r) ≡ true
      → IsYoung (length eras) r (f w law order mounts r) ⊎ IsOld r (f w law order mounts r)
      → value_of (era eras (f w law order mounts r).activation) name key
      ≡ value_of (era eras' (f w law order mounts r).activation) name key
  past_by r name key h k n (inl young) =
      ap (λ (c : Contents). value_of c name key)
      (era_last w.eras w.contents (f w law order mounts r).activation young.activation
      ∙ sym (era_last v.eras w.contents (f w law order mounts r).activation (young.activation ∙ number_alike)))
  past_by r name key h k n (inr old) =
      subst (λ (b : ℕ). value_of (era eras b) name key ≡ value_of (era eras' b) name key) (sym old.activation)
      (past_before r name key h (keeps_old w law order mounts r old k) (names_back w law order mounts name r n))

  -- what a session keeps of the past is the same in both worlds afterwards
  pub past_booted : (s : Record) (name key : List ℕ) → In s (mid w law order mounts)
      → KeepsPast (mid w law order mounts) s
      → names name s ≡ true
      → value_of (era eras s.activation) name key ≡ value_of (era eras' s.activation) name key
  past_booted s name key i k n =
      let (r, j, e) = in_map_back (f w law order mounts) s w.sessions i in
      subst (λ (s : Record). value_of (era eras s.activation) name key ≡ value_of (era eras' s.activation) name key) e
      (past_by r name key j (subst (KeepsPast (mid w law order mounts)) (sym e) k) (ap (names name) e ∙ n)
      (ages w law order mounts r))
