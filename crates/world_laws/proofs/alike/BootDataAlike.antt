-- A boot restores the same data in worlds that are alike. Callers want `restored_alike`.
use Rattle.std.proofs.Common.{◌≡◌, ℕ, true, eqb, ◌&&◌, List, [], ◌∷◌, ◌++◌, length, map, fold}
use Rattle.std.proofs.Common.{Option, Some, None, sym, ap, subst, ◌∙◌, refl, inl, inr, arith, is_some}
use Rattle.std.specs.Prelude.{not}
use Rattle.std.specs.List.{list_any}
use Rattle.std.specs.Str.{bytes_eq}
use Rattle.std.proofs.lemmas.Bool.{and_from, ne_eqb}
use Rattle.apex_base.specs.declared.numbers.SessionId.{SessionId}
use Rattle.apex_base.specs.declared.records.Cause.{Cause}
use Rattle.apex_base.specs.declared.records.Kind.TheVariants.{RollbackOf}
use Rattle.apex_base.specs.declared.records.Part.{Part}
use Rattle.apex_base.specs.declared.records.Record.{Record}
use Rattle.apex_base.specs.declared.records.RollbackState.{RollbackState}
use Rattle.apex_base.specs.declared.records.RollbackState.TheVariants.{Enabling, Available, Committed, Deleted}
use Rattle.apex_base.specs.declared.records.State.TheVariants as state
use Rattle.apex_base.specs.Commit.{rolls_back, part_before, undoes}
use Rattle.apex_base.specs.Held.{is_undoable, is_staged}
use Rattle.apex_base.specs.Members.{In}
use Rattle.apex_base.specs.Rollbacks.{is_committed}
use Rattle.apex_base.specs.Sessions.{names, session_of}
use Rattle.apex_base.specs.Tables.{part_of, with_part, value_of}
use Rattle.apex_base.proofs.MemberLemmas.{any_in, in_any, in_map_back}
use Rattle.apex_base.proofs.RowMaps.{same_names}
use Rattle.apex_base.proofs.SessionLemmas.{of_found, of_in}
use Rattle.apex_world.specs.declared.calls.BootOrder.{BootOrder}
use Rattle.apex_world.specs.Boot.{become}
use Rattle.apex_world.specs.Lawful.{Lawful, IsRollbackSession}
use Rattle.apex_world.specs.Restore.{era_for, with_names, restored_to, restored_by, restored}
use Rattle.apex_world.specs.Rows.{is_staged_session, may_happen, has_snapshot}
use Rattle.apex_world.specs.Selection.{Mounts, cause_of}
use Rattle.world_laws.specs.StoredAlike.{AreAlikeInParts}
use Rattle.apex_world.specs.World.{World, Contents, era}
use Rattle.world_laws.proofs.alike.BootOrdered.{turn, keeps, names_back}
use Rattle.world_laws.proofs.alike.BootPast.{past_before}
use Rattle.world_laws.proofs.meaning.BootTurns.{Turns, Rests, Activates, Remains, Fails, Reverts, reverted_undoable}
use Rattle.world_laws.proofs.meaning.BootTurns.{success_states}
use Rattle.world_facts.proofs.facts.KeptLemmas.{names_own}
use Rattle.world_laws.proofs.meaning.RollbackDataLemmas.{restoring, era_activated, era_reverted}

-- Data of names that both eras have alike

names_alike : (earlier earlier' : Contents) (ps : List Part) (c : Contents)
    → ((p : Part) → In p ps → part_of earlier p.name ≡ part_of earlier' p.name)
    → with_names earlier ps c ≡ with_names earlier' ps c
names_alike earlier earlier' [] c same = refl
names_alike earlier earlier' (p ∷ ps) c same =
    ap (λ m. with_names earlier ps (with_part c p.name m)) (same p (inl refl))
    ∙ names_alike earlier earlier' ps (with_part c p.name (part_of earlier' p.name)) (λ q h. same q (inr h))

to_alike : (eras eras' : List Contents) (ps : List Part) (o : Option ℕ) (c : Contents)
    → ((b : ℕ) (p : Part) → o ≡ Some b → In p ps → part_of (era eras b) p.name ≡ part_of (era eras' b) p.name)
    → restored_to eras ps o c ≡ restored_to eras' ps o c
to_alike eras eras' ps None c same = refl
to_alike eras eras' ps (Some b) c same = names_alike (era eras b) (era eras' b) ps c (λ p h. same b p refl h)

-- sessions one after another
fold_alike : (eras eras' : List Contents) (ss : List Record) (f g : Record → Record) (xs : List Record) (c : Contents)
    → ((r : Record) (c : Contents) → In r xs → restored_by eras ss r (f r) c ≡ restored_by eras' ss r (g r) c)
    → fold (λ c r. restored_by eras ss r (f r) c) c xs ≡ fold (λ c r. restored_by eras' ss r (g r) c) c xs
fold_alike eras eras' ss f g [] c same = refl
fold_alike eras eras' ss f g (r ∷ xs) c same =
    ap (λ d. fold (λ c r. restored_by eras ss r (f r) c) d xs) (same r c (inl refl))
    ∙ fold_alike eras eras' ss f g xs (restored_by eras' ss r (g r) c) (λ s d h. same s d (inr h))

-- What is restored is kept

-- a session that a boot activates was ready
pub was_staged : (cause : Option Cause) (b : ℕ) (r s : Record) → (r.state ≡ state.Activated → ⊥)
    → s.state ≡ state.Activated → Turns cause b r s → is_staged r.state ≡ true
was_staged cause b r s d e (Rests f g h) = absurd (d (sym g ∙ e))
was_staged cause b r s d e (Activates f g h i) = ap is_staged f
was_staged cause b r s d e (Remains f g h i) = absurd (d f)
was_staged cause b r s d e (Fails f g h) = absurd (cc)
was_staged cause b r s d e (Reverts f g h) = absurd (cc)

committed_some : (o : Option RollbackState) → is_committed o ≡ true → (o ≡ Some Committed) × (is_some o ≡ true)
committed_some None e = absurd (cc)
committed_some (Some Enabling) e = absurd (cc)
committed_some (Some Available) e = absurd (cc)
committed_some (Some Committed) e = (refl, refl)
committed_some (Some Deleted) e = absurd (cc)

-- a rollback session has the names of the session that it undoes
names_undone : (ss : List Record) (x : Record) (ps qs : List Part) (name : List ℕ) → qs ≡ map (part_before ss x) ps
    → list_any (λ p. bytes_eq p.name name) qs ≡ true → list_any (λ p. bytes_eq p.name name) ps ≡ true
names_undone ss x ps qs name e n =
    let (q, h, f) = any_in (λ (p : Part). bytes_eq p.name name) qs n in
    let (p, i, g) = in_map_back (part_before ss x) q ps (subst (λ (qs : List Part). In q qs) e h) in
    in_any (λ (p : Part). bytes_eq p.name name) p ps i (ap (λ (p : Part). bytes_eq p.name name) g ∙ f)

module _ (w : World) (law : Lawful w) where
  -- a session whose rollback is ready keeps its past
  pub keeps_snapshot : (x r : Record) → In x w.sessions → In r w.sessions → IsRollbackSession w.sessions x r
      → is_staged r.state ≡ true → has_snapshot w.sessions x ≡ true
  keeps_snapshot x r h i back s =
      let (is, some) = committed_some x.rollback back.committed in
      let laws = law.rollbacks.each x h in
      let begun = (law.activations.each x h).some (success_states x.state (laws.committed back.committed)).1 in
      let active : not (eqb x.activation 0) ≡ true = ap not (ne_eqb x.activation 0 (λ z. omega (arith, begun, z))) in
      let may : may_happen w.sessions x.id x.rollback ≡ true = ap (may_happen w.sessions x.id) is
      ∙ ap is_staged_session (ap (session_of w.sessions) (sym back.id) ∙ of_in w.sessions r law.ids.ascend i) ∙ s in
      and_from (rolls_back x.kind && not (eqb x.activation 0)) (may_happen w.sessions x.id x.rollback)
      (and_from (rolls_back x.kind) (not (eqb x.activation 0)) (sym laws.kind ∙ some) active) may

module _ (w v : World) (a : AreAlikeInParts w v) (law : Lawful w) (order : BootOrder) (mounts : Mounts) where
  abbrev eras : List Contents
  eras = w.eras ++ w.contents ∷ []

  abbrev eras' : List Contents
  eras' = v.eras ++ w.contents ∷ []

  abbrev f : Record → Record
  f r = become mounts w.modules order (length eras) r

  abbrev cause : Record → Option Cause
  cause r = cause_of mounts w.modules order.image.modules r.parts

  abbrev of_era : ℕ → List ℕ → List ℕ → Type 0
  of_era b name key = value_of (era eras b) name key ≡ value_of (era eras' b) name key

  -- the era of the session that is rolled back
  activated_value : (r : Record) (x : SessionId) (b : ℕ) (name key : List ℕ) → In r w.sessions → r.kind ≡ RollbackOf x
      → (r.state ≡ state.Activated → ⊥) → (f r).state ≡ state.Activated
      → era_for w.sessions r (f r) (f r).kind ≡ Some b → names name r ≡ true → of_era b name key
  activated_value r x b name key h kind d g e n =
      let (s, found, back) = law.undone.back r x h kind in
      let i = (of_found w.sessions x s found).0 in
      let staged = was_staged (cause r) (length eras) r (f r) d g (turn w law order mounts r) in
      let same : ◌≡◌ {A = Option ℕ} (Some s.activation) (Some b) =
      sym (era_activated w order mounts law r x s kind found d g) ∙ e in
      let is : s.activation ≡ b = cc in
      subst (λ (b : ℕ). of_era b name key) is
      (past_before w v a law order mounts s name key i (inl (keeps_snapshot w law s r i h back staged))
      (names_undone w.sessions s s.parts r.parts name back.parts n))

  -- the era of the rollback session itself
  reverted_value : (r : Record) (x : SessionId) (b : ℕ) (name key : List ℕ) → In r w.sessions → r.kind ≡ RollbackOf x
      → (r.state ≡ state.Reverted → ⊥) → (f r).state ≡ state.Reverted
      → era_for w.sessions r (f r) (f r).kind ≡ Some b → names name r ≡ true → of_era b name key
  reverted_value r x b name key h kind d g e n =
      let undoable = reverted_undoable (cause r) (length eras) r (f r) d g (turn w law order mounts r) in
      let same : ◌≡◌ {A = Option ℕ} (Some r.activation) (Some b) =
      sym (era_reverted w order mounts law r x kind d g) ∙ e in
      let is : r.activation ≡ b = cc in
      subst (λ (b : ℕ). of_era b name key) is
      (past_before w v a law order mounts r name key h
      (inr (and_from (undoes r.kind) (is_undoable r.state) (ap undoes kind) undoable)) n)

  restored_value : (r : Record) (b : ℕ) (name key : List ℕ) → In r w.sessions
      → era_for w.sessions r (f r) (f r).kind ≡ Some b → names name r ≡ true → of_era b name key
  restored_value r b name key h e n =
      let is = restoring w.sessions r (f r) (f r).kind b e in
      let kind : r.kind ≡ RollbackOf is.of = sym (keeps w law order mounts r).kind ∙ is.kind in
      elim is.went [
        | inl (d, g) ↦ activated_value r is.of b name key h kind d g e n
        | inr (d, g) ↦ reverted_value r is.of b name key h kind d g e n
      ]

  -- what a boot restores is the same
  pub restored_alike : (g : Record → Record) → ((r : Record) → In r w.sessions → f r ≡ g r) → (c : Contents)
      → restored f eras w.sessions c ≡ restored g eras' w.sessions c
  restored_alike g same c =
      fold_alike eras eras' w.sessions f g w.sessions c (λ r c h.
      to_alike eras eras' (f r).parts (era_for w.sessions r (f r) (f r).kind) c (λ b p e i.
      same_names (part_of (era eras b) p.name) (part_of (era eras' b) p.name) (λ key.
      restored_value r b p.name key h e (names_back w law order mounts p.name r (names_own (f r) p i))))
      ∙ ap (λ (s : Record). restored_by eras' w.sessions r s c) (same r h))
