-- The law of a rollback's data: `rollback_data`.
use Rattle.std.proofs.Common.{◌≡◌, ◌≢◌, ◌⊎◌, ℕ, ◌≤◌, Bool, true, false, cond, not, List, [], ◌∷◌, ◌++◌, length}
use Rattle.std.proofs.Common.{Option, Some, None, sym, ap, ◌∙◌, refl, inl, inr, is_some, eqb, arith}
use Rattle.std.specs.List.{list_any}
use Rattle.std.specs.Option.{option_map}
use Rattle.std.specs.Str.{bytes_eq}
use Rattle.std.specs.FinMap as fin
use Rattle.std.proofs.lemmas.Bool.{and_parts, cases_eq, false≢true, eqb-true, eq-eqb}
use Rattle.std.proofs.lemmas.List.{length-append}
use Rattle.std.proofs.lemmas.Slice.Eq.{bytes_eq-Decides}
use Rattle.apex_base.specs.declared.numbers.SessionId.{SessionId}
use Rattle.apex_base.specs.declared.records.Cause.{Cause}
use Rattle.apex_base.specs.declared.records.Kind.{Kind}
use Rattle.apex_base.specs.declared.records.Kind.TheVariants.{Plain, WithRollback, RollbackOf}
use Rattle.apex_base.specs.declared.records.Part.{Part}
use Rattle.apex_base.specs.declared.records.Record.{Record}
use Rattle.apex_base.specs.declared.records.State.{State}
use Rattle.apex_base.specs.declared.records.State.TheVariants as state
use Rattle.apex_base.specs.Held.{is_unfinished}
use Rattle.apex_base.specs.Members.{In}
use Rattle.apex_base.specs.Moves.{state_number}
use Rattle.apex_base.specs.Sessions.{names, session_of}
use Rattle.apex_base.specs.Tables.{part_of}
use Rattle.apex_base.proofs.MemberLemmas.{any_in, in_map_back}
use Rattle.apex_base.proofs.SessionLemmas.{of_found, of_in, of_map}
use Rattle.apex_world.specs.declared.calls.BootOrder.{BootOrder}
use Rattle.apex_world.specs.declared.calls.Image.{Image}
use Rattle.apex_world.specs.Boot.{become, started, boot_world}
use Rattle.apex_world.specs.Lawful.{Lawful}
use Rattle.apex_world.specs.Restore.{became, era_for, restored}
use Rattle.world_laws.specs.RollbackData.{WentTo, HasDataOf, IsRestoredBy, RestoresData, RollbackData}
use Rattle.apex_world.specs.Running.{runs}
use Rattle.apex_world.specs.Selection.{Mounts, preinstalled, cause_of}
use Rattle.apex_world.specs.Submit.{in_running}
use Rattle.apex_world.specs.World.{World, Contents, boots, era}
use Rattle.world_laws.proofs.meaning.BootSessions.{Loops, boot_loops, become_keeps, part_works}
use Rattle.world_laws.proofs.meaning.BootTurns.{Turns, turns, moved_unfinished, activated_works, reverted_keeps, success_states}
use Rattle.world_laws.proofs.meaning.BootTurns.{reverted_undoable}
use Rattle.world_laws.proofs.meaning.Lasting.{lasts}
use Rattle.world_laws.proofs.meaning.Restored.{Restores, restored_all, restored_none, image_part}
use Rattle.world_laws.proofs.meaning.RollbackIds.{lawful_undone, only_one}
use Rattle.world_facts.proofs.facts.StateFacts.{undoable_activated}

-- A session that went to a state

pub number_activated : (s : State) → state_number s ≡ 3 → s ≡ state.Activated
number_activated state.Verified e = absurd (omega (arith, e))
number_activated state.Staged e = absurd (omega (arith, e))
number_activated state.Activated e = refl
number_activated state.ActivationFailed e = absurd (omega (arith, e))
number_activated state.Success e = absurd (omega (arith, e))
number_activated state.RevertInProgress e = absurd (omega (arith, e))
number_activated state.Reverted e = absurd (omega (arith, e))
number_activated state.Aborted e = absurd (omega (arith, e))

pub number_reverted : (s : State) → state_number s ≡ 7 → s ≡ state.Reverted
number_reverted state.Verified e = absurd (omega (arith, e))
number_reverted state.Staged e = absurd (omega (arith, e))
number_reverted state.Activated e = absurd (omega (arith, e))
number_reverted state.ActivationFailed e = absurd (omega (arith, e))
number_reverted state.Success e = absurd (omega (arith, e))
number_reverted state.RevertInProgress e = absurd (omega (arith, e))
number_reverted state.Reverted e = refl
number_reverted state.Aborted e = absurd (omega (arith, e))

module _ (s : State) (only : (t : State) → state_number t ≡ state_number s → t ≡ s) (old new : Record) where
  went_if : (b : Bool) → eqb (state_number old.state) (state_number s) ≡ b → old.state ≢ s → not b ≡ true
  went_if true e d = absurd (d (only old.state (eqb-true (state_number old.state) (state_number s) e)))
  went_if false e d = refl

  pub is_became : old.state ≢ s → new.state ≡ s → became s old new ≡ true
  is_became d e =
      let went = went_if (eqb (state_number old.state) (state_number s)) refl d in
      let is : eqb (state_number new.state) (state_number s) ≡ true = eq-eqb (state_number new.state) (state_number s)
      (ap state_number e) in
      rw (is, went) refl

  pub became_is : became s old new ≡ true → (old.state ≢ s) × (new.state ≡ s)
  became_is e =
      let (is, went) = and_parts (eqb (state_number new.state) (state_number s))
      (not (eqb (state_number old.state) (state_number s))) e in (
        λ f. absurd (false≢true (sym (ap not (eq-eqb (state_number old.state) (state_number s) (ap state_number f)))
            ∙ went)),
        only new.state (eqb-true (state_number new.state) (state_number s) is),
      )

-- Which sessions restore

-- a session that a rollback made, which went to one of the two states
pub record IsRestoring (old new : Record) (k : Kind) : Type 0 where
  pub of : SessionId
  pub kind : k ≡ RollbackOf of
  pub went : ((old.state ≢ state.Activated) × (new.state ≡ state.Activated))
      ⊎ ((old.state ≢ state.Reverted) × (new.state ≡ state.Reverted))

restoring_if : (old new : Record) (x : SessionId) (o : Option ℕ) (a r : Bool) (b : ℕ)
    → became state.Activated old new ≡ a → became state.Reverted old new ≡ r
    → cond a o (cond r (Some new.activation) None) ≡ Some b → IsRestoring old new (RollbackOf x)
restoring_if old new x o true r b e f g = record {
  of = x;
  kind = refl;
  went = inl
      (became_is state.Activated number_activated old new e);
}
restoring_if old new x o false true b e f g = record {
  of = x;
  kind = refl;
  went = inr
      (became_is state.Reverted number_reverted old new f);
}
restoring_if old new x o false false b e f g = absurd (cc)

pub restoring : (ss : List Record) (old new : Record) (k : Kind) (b : ℕ) → era_for ss old new k ≡ Some b
    → IsRestoring old new k
restoring ss old new Plain b e = absurd (cc)
restoring ss old new WithRollback b e = absurd (cc)
restoring ss old new (RollbackOf x) b e =
    restoring_if old new x (option_map (λ r. r.activation) (session_of ss x)) (became state.Activated old new)
    (became state.Reverted old new) b refl refl e

restoring_unfinished : (cause : Option Cause) (b : ℕ) (r s : Record) (k : Kind) → IsRestoring r s k
    → Turns cause b r s → is_unfinished r.state ≡ true
restoring_unfinished cause b r s k is t =
    elim is.went [
      | inl (d, e) ↦ moved_unfinished cause b r s state.Activated d e t
      | inr (d, e) ↦ moved_unfinished cause b r s state.Reverted d e t
    ]

-- The boot of a lawful world

module _ (w : World) (order : BootOrder) (mounts : Mounts) (law : Lawful w) where
  abbrev number : ℕ
  number = length (w.eras ++ w.contents ∷ [])

  abbrev f : Record → Record
  f r = become mounts w.modules order number r

  abbrev v : World
  v = started w order mounts

  abbrev after : World
  after = boot_world w order mounts

  loops : Loops v after
  loops = boot_loops w order mounts (lawful_undone w law)

  abbrev cause : Record → Option Cause
  cause r = cause_of mounts w.modules order.image.modules r.parts

  turn_of : (r : Record) → Turns (cause r) number r (f r)
  turn_of r = turns mounts w.modules order number r

  keeps_kind : (r : Record) → (f r).kind ≡ r.kind
  keeps_kind r = (become_keeps mounts w.modules order number r).kind

  pub keeps_names : (name : List ℕ) (r : Record) → names name (f r) ≡ names name r
  keeps_names name r = ap (λ (ps : List Part). list_any (λ p. bytes_eq p.name name) ps)
      (become_keeps mounts w.modules order number r).parts

  keeps_id : (r : Record) → (f r).id ≡ r.id
  keeps_id r = (become_keeps mounts w.modules order number r).id

  -- what went to a state in all of the boot did so before the boot loop
  pub goes_back : (s : State) → lasts s ≡ true → (r : Record) → In r w.sessions → WentTo s r after → (f r).state ≡ s
  goes_back s l r h went =
      let t = went.after_it in
      let (i, same) = of_found after.sessions r.id t went.found in
      let (u, j, is) = loops.sessions.back t i (ap lasts went.is ∙ l) in
      let (q, k, e) = in_map_back f u w.sessions j in
      let id : q.id.0 ≡ r.id.0 = ap (λ (id : SessionId). id.0) (sym (keeps_id q) ∙ ap (λ (r : Record). r.id) e
      ∙ sym is.id) ∙ same in
      let one = only_one w.sessions q r law.ids.ascend k h id in
      ap (λ (r : Record). (f r).state) (sym one) ∙ ap (λ (r : Record). r.state) e ∙ sym is.state ∙ went.is

  -- and what did so stays so
  goes_forth : (s : State) → lasts s ≡ true → (r : Record) → In r w.sessions → r.state ≢ s → (f r).state ≡ s
      → WentTo s r after
  goes_forth s l r h d e =
      let there : session_of v.sessions r.id ≡ Some (f r) = of_map f w.sessions r.id keeps_id
      ∙ ap (option_map f) (of_in w.sessions r law.ids.ascend h) in
      let (t, found, is) = loops.sessions.forth (f r) r.id there (ap lasts e ∙ l) in
      record { after_it = t; was = d; found = found; is = is.state ∙ e }

  abbrev Back : List ℕ → Record → ℕ → Type 0
  Back name r b = Restores (w.eras ++ w.contents ∷ []) w.sessions f name r b

  restorer : (name : List ℕ) (r : Record) (b : ℕ) → Back name r b → IsRestoring r (f r) (f r).kind
  restorer name r b k = restoring w.sessions r (f r) (f r).kind b k.0

  -- no two sessions restore one name
  one_restores : (name : List ℕ) (r s : Record) (b d : ℕ) → In r w.sessions → In s w.sessions → Back name r b
      → Back name s d → d ≡ b
  one_restores name r s b d h i k l =
      elim (cases_eq r.id.0 s.id.0) [
        | inl e ↦
            let one = only_one w.sessions r s law.ids.ascend h i e in
            let same : ◌≡◌ {A = Option ℕ} (Some b) (Some d) = sym k.0
            ∙ ap (λ (r : Record). era_for w.sessions r (f r) (f r).kind) one ∙ l.0 in
            cc
        | inr e ↦ absurd (law.alone r s name h i e (sym (keeps_names name r) ∙ k.1) (sym (keeps_names name s) ∙ l.1)
            (restoring_unfinished (cause r) number r (f r) (f r).kind (restorer name r b k) (turn_of r))
            (restoring_unfinished (cause s) number s (f s) (f s).kind (restorer name s d l) (turn_of s)))
      ]

  abbrev in_image : List ℕ → Bool
  in_image name = is_some (preinstalled order.image.modules name)

  pub runs_is : (name : List ℕ) → runs after name ≡ in_image name
  runs_is name = ap (λ (i : Option Image). is_some (in_running i name)) loops.image

  data_is : (name : List ℕ) → part_of after.contents name ≡ cond (in_image name)
      (part_of (restored f (w.eras ++ w.contents ∷ []) w.sessions w.contents) name) fin.empty
  data_is name =
      ap (λ (c : Contents). part_of c name) loops.contents
      ∙ image_part order.image (restored f (w.eras ++ w.contents ∷ []) w.sessions w.contents) name

  kept_data : (name : List ℕ) → in_image name ≡ true
      → part_of after.contents name ≡ part_of (restored f (w.eras ++ w.contents ∷ []) w.sessions w.contents) name
  kept_data name e = data_is name ∙ ap (λ (b : Bool). cond b
      (part_of (restored f (w.eras ++ w.contents ∷ []) w.sessions w.contents) name) fin.empty) e

  -- a name that a session restores has the data of the era
  has_data : (name : List ℕ) (r : Record) (b : ℕ) → In r w.sessions → Back name r b → in_image name ≡ true → 1 ≤ b
      → b ≤ boots w → HasDataOf after b name
  has_data name r b h k e low high = record {
    begun = low;
    earlier = let n = length-append w.eras (w.contents ∷ []) in let m = ap
        (λ (eras : List Contents). length eras) loops.eras in omega (arith, high, n, m);
    same = kept_data name e
        ∙ restored_all (w.eras ++ w.contents ∷ []) w.sessions f name w.contents r b h k
        (λ s d i l. one_restores name r s b d h i k l)
        ∙ ap (λ (eras : List Contents). part_of (era eras b) name) (sym loops.eras);
  }

  -- the names of what is activated are names of the image
  named_in_image : (name : List ℕ) (r : Record) → (f r).state ≡ state.Activated → names name r ≡ true
      → in_image name ≡ true
  named_in_image name r e n =
      let (p, h, g) = any_in (λ p. bytes_eq p.name name) r.parts n in
      let (m, found, works) = part_works mounts w.modules order.image.modules r.parts
      (activated_works (cause r) number r (f r) e (turn_of r)) p h in
      ap in_image (sym ((bytes_eq-Decides p.name name).0 g)) ∙ ap is_some found

  pub era_activated : (r : Record) (x : SessionId) (s : Record) → r.kind ≡ RollbackOf x
      → session_of w.sessions x ≡ Some s → r.state ≢ state.Activated → (f r).state ≡ state.Activated
      → era_for w.sessions r (f r) (f r).kind ≡ Some s.activation
  era_activated r x s kind found d e =
      ap (era_for w.sessions r (f r)) (keeps_kind r ∙ kind)
      ∙ ap (λ (b : Bool). cond b (option_map (λ r. r.activation) (session_of w.sessions x))
      (cond (became state.Reverted r (f r)) (Some (f r).activation) None))
      (is_became state.Activated number_activated r (f r) d e)
      ∙ ap (option_map (λ r. r.activation)) found

  not_became : (r : Record) → (f r).state ≡ state.Reverted → (b : Bool) → became state.Activated r (f r) ≡ b → b ≡ false
  not_became r e true g = absurd (cc ((became_is state.Activated number_activated r (f r) g).1, e))
  not_became r e false g = refl

  pub era_reverted : (r : Record) (x : SessionId) → r.kind ≡ RollbackOf x → r.state ≢ state.Reverted
      → (f r).state ≡ state.Reverted → era_for w.sessions r (f r) (f r).kind ≡ Some r.activation
  era_reverted r x kind d e =
      ap (era_for w.sessions r (f r)) (keeps_kind r ∙ kind)
      ∙ ap (λ (b : Bool). cond b (option_map (λ r. r.activation) (session_of w.sessions x))
      (cond (became state.Reverted r (f r)) (Some (f r).activation) None))
      (not_became r e (became state.Activated r (f r)) refl)
      ∙ ap (λ (b : Bool). cond b (Some (f r).activation) None) (is_became state.Reverted number_reverted r (f r) d e)
      ∙ ap (λ (n : ℕ). Some n) (reverted_keeps (cause r) number r (f r) e (turn_of r))

  activated_data : (r : Record) (id : SessionId) (name : List ℕ) → In r w.sessions → r.kind ≡ RollbackOf id
      → WentTo state.Activated r after → names name r ≡ true
      → (x : Record) × (session_of w.sessions id ≡ Some x) × HasDataOf after x.activation name
  activated_data r id name h kind went n =
      let (x, found, is) = law.undone.back r id h kind in
      let e = goes_back state.Activated refl r h went in
      let among = (of_found w.sessions id x found).0 in
      let each = law.activations.each x among in
      let begun = each.some (success_states x.state ((law.rollbacks.each x among).committed is.committed)).1 in (
        x,
        found,
        has_data name r x.activation h (era_activated r id x kind found went.was e, keeps_names name r ∙ n)
            (named_in_image name r e n) begun each.most,
      )

  reverted_data : (r : Record) (id : SessionId) (name : List ℕ) → In r w.sessions → r.kind ≡ RollbackOf id
      → WentTo state.Reverted r after → names name r ≡ true → runs after name ≡ true → HasDataOf after r.activation name
  reverted_data r id name h kind went n run =
      let e = goes_back state.Reverted refl r h went in
      let each = law.activations.each r h in
      let begun = each.some (undoable_activated r.state
      (reverted_undoable (cause r) number r (f r) went.was e (turn_of r))) in
      has_data name r r.activation h (era_reverted r id kind went.was e, keeps_names name r ∙ n) (sym (runs_is name)
      ∙ run) begun each.most

  -- what the boot restores was restored by such a session
  restored_by_it : (name : List ℕ) (r : Record) (b : ℕ) → In r w.sessions → Back name r b
      → (x : SessionId) × IsRestoredBy after name r x
  restored_by_it name r b h k =
      let is = restorer name r b k in (
        is.of,
        (
          sym (keeps_kind r) ∙ is.kind,
          sym (keeps_names name r) ∙ k.1,
          elim is.went [
            | inl (d, e) ↦ inl (goes_forth state.Activated refl r h d e)
            | inr (d, e) ↦ inr (goes_forth state.Reverted refl r h d e)
          ],
        ),
      )

  other_data : (name : List ℕ) → runs after name ≡ true
      → ((r : Record) (id : SessionId) → In r w.sessions → IsRestoredBy after name r id → ⊥)
      → part_of after.contents name ≡ part_of w.contents name
  other_data name run none =
      kept_data name (sym (runs_is name) ∙ run)
      ∙ restored_none (w.eras ++ w.contents ∷ []) w.sessions f name w.contents
      (λ r b h k. let (x, is) = restored_by_it name r b h k in none r x h is)

  no_data : (name : List ℕ) → runs after name ≡ false → part_of after.contents name ≡ fin.empty
  no_data name e = data_is name ∙ ap (λ (b : Bool). cond b
      (part_of (restored f (w.eras ++ w.contents ∷ []) w.sessions w.contents) name) fin.empty) (sym (runs_is name) ∙ e)

  pub restores_data : RestoresData w after
  restores_data = record {
    activated = activated_data;
    reverted = reverted_data;
    others = other_data;
    removed =
        no_data;
  }

pub rollback_data : RollbackData
rollback_data w order mounts law = restores_data w order mounts law
