-- What a new session that is VERIFIED leaves of the rows of others. Callers want `active_same`, `backup_same` and
-- `still_target`.
use Rattle.std.proofs.Common.{◌≡◌, ◌≢◌, ℕ, Bool, true, cond, ◌||◌, ◌&&◌, List, [], ◌∷◌, Option, Some, None, sym}
use Rattle.std.proofs.Common.{ap, ◌∙◌, refl, inl, inr}
use Rattle.std.specs.Prelude.{find, nat_lt}
use Rattle.std.specs.List.{list_any}
use Rattle.std.specs.Option.{option_map}
use Rattle.std.proofs.lemmas.Bool.{cases_order}
use Rattle.apex_base.specs.declared.numbers.SessionId.{SessionId}
use Rattle.apex_base.specs.declared.records.Record.{Record}
use Rattle.apex_base.specs.declared.records.Target.{Target}
use Rattle.apex_base.specs.declared.records.Target.TheVariants as targets
use Rattle.apex_base.specs.Held.{is_standing, is_success, held, before, kept, is_target}
use Rattle.apex_base.specs.Members.{In}
use Rattle.apex_base.specs.Sessions.{with_session}
use Rattle.apex_base.specs.Settled.{stands_for, active_of, is_undoable_for, backup_of}
use Rattle.apex_base.specs.Spelling.{target_text}
use Rattle.apex_base.proofs.SessionLemmas.{with_others, with_lt, with_gt}
use Rattle.apex_world.specs.declared.modules.Package.{Package}
use Rattle.apex_world.specs.Submit.{new_session}
use Rattle.world_laws.proofs.alike.AlikeAfter.{target_in, in_target}
use Rattle.world_facts.proofs.facts.KeptLemmas.{Own, Holds, Backs, kept_back, keeps}
use Rattle.world_laws.proofs.runs.SessionBeside.{latest_with}

-- a function of sessions, one after another, to which a new session adds nothing
fold_with : {X : Type 0} (f : List Record → X) (step : Record → X → X) (s : Record)
    → ((r : Record) (ss : List Record) → f (r ∷ ss) ≡ step r (f ss)) → ((x : X) → step s x ≡ x) → (ss : List Record)
    → ((r : Record) → In r ss → r.id.0 ≢ s.id.0) → f (with_session s ss) ≡ f ss
fold_with f step s next none [] apart = next s [] ∙ none (f [])
fold_with f step s next none (r ∷ ss) apart =
    elim (cases_order r.id.0 s.id.0) [
      | inl e ↦ absurd (apart r (inl refl) e)
      | inr o ↦ elim o [
        | inl l ↦ ap f (with_lt s r ss l) ∙ next r (with_session s ss)
            ∙ ap (step r) (fold_with f step s next none ss (λ x h. apart x (inr h))) ∙ sym (next r ss)
        | inr l ↦ ap f (with_gt s r ss l) ∙ next s (r ∷ ss) ∙ none (f (r ∷ ss))
      ]
    ]

same_text : (o : Option Record) (f g : Record → Target) → ((r : Record) → f r ≡ g r)
    → option_map (λ r. target_text (f r) []) o ≡ option_map (λ r. target_text (g r) []) o
same_text None f g e = refl
same_text (Some r) f g e = ap (λ (t : Target). Some (target_text t [])) (e r)

module _ (id : SessionId) (children : List SessionId) (rollback : Bool) (ps : List Package) (print : List ℕ)
    (ss : List Record) (apart : (r : Record) → In r ss → r.id.0 ≢ id.0) where
  abbrev new : Record
  new = new_session id children rollback ps print

  abbrev after : List Record
  after = with_session (new_session id children rollback ps print) ss

  held_same : (name : List ℕ) → held after name ≡ held ss name
  held_same name = latest_with (λ r. is_standing r.state) name new refl ss apart

  before_same : (x : Record) (name : List ℕ) → before after x name ≡ before ss x name
  before_same x name = latest_with (λ r. is_success r.state && nat_lt r.activation x.activation) name new refl ss apart

  -- names hold what they held
  pub active_same : (name : List ℕ) → active_of after name ≡ active_of ss name
  active_same name =
      ap (λ (b : Bool). cond b (Some (target_text (held after name) [])) None)
      (fold_with (list_any (stands_for name)) (λ r b. stands_for name r || b) new (λ r ss. refl) (λ b. refl) ss apart)
      ∙ ap (λ (t : Target). cond (list_any (stands_for name) ss) (Some (target_text t [])) None) (held_same name)

  -- and what they held before
  pub backup_same : (name : List ℕ) → backup_of after name ≡ backup_of ss name
  backup_same name =
      ap (option_map (λ r. target_text (before after r name) []))
      (fold_with (find (is_undoable_for name)) (λ r o. cond (is_undoable_for name r) (Some r) o) new (λ r ss. refl)
      (λ o. refl) ss apart)
      ∙ same_text (find (is_undoable_for name) ss) (λ r. before after r name) (λ r. before ss r name)
      (λ r. before_same r name)

  still_kept : (t : Target) → In t (kept ss) → In t (kept after)
  still_kept t h =
      let (r, p, i, j, way) = kept_back ss t h in
      let there = with_others new ss r i (apart r i) in
      elim way [
        | Own u e ↦ keeps after r p t there j (Own u e)
        | Holds s e ↦ keeps after r p t there j (Holds s (e ∙ sym (held_same p.name)))
        | Backs b e ↦ keeps after r p t there j (Backs b (e ∙ sym (before_same r p.name)))
      ]

  -- modules that were kept still are
  pub still_target : (session : SessionId) (part : ℕ) → is_target (kept ss) session part ≡ true
      → is_target (kept after) session part ≡ true
  still_target session part e =
      let (version, h) = target_in (kept ss) session part e in
      in_target (kept after) session part version (still_kept (targets.Module session part version) h)
