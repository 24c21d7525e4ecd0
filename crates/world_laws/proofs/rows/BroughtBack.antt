-- Where a boot brings the values of a name back from. Callers want `Brings`, `brings_to`, `some_brought` and `sourced`.
use Rattle.std.proofs.Common.{◌≡◌, ◌⊎◌, ℕ, Bool, true, false, cond, List, [], ◌∷◌}
use Rattle.std.proofs.Common.{Option, Some, None, sym, ap, ◌∙◌, refl, inl, inr, is_some}
use Rattle.apex_base.specs.declared.numbers.SessionId.{SessionId}
use Rattle.apex_base.specs.declared.records.Kind.{Kind}
use Rattle.apex_base.specs.declared.records.Kind.TheVariants.{Plain, WithRollback, RollbackOf}
use Rattle.apex_base.specs.declared.records.Record.{Record}
use Rattle.apex_base.specs.declared.records.State.TheVariants as state
use Rattle.apex_base.specs.Keys.{Key, DataOf, SnapshotOf, PreRestoreOf}
use Rattle.apex_base.specs.Members.{In}
use Rattle.apex_base.specs.Sessions.{names, session_of}
use Rattle.apex_base.proofs.Finding.{some_if}
use Rattle.apex_world.specs.Restore.{became}
use Rattle.world_laws.specs.RowsBooted.{brought_by, brought_to, or_key, source_of}

-- a session brings it back, by its activation or by its reversion
pub record Brings (old new : Record) (name key : List ℕ) (k : Key) : Type 0 where
  pub of : SessionId
  pub kind : old.kind ≡ RollbackOf of
  pub by : ((became state.Activated old new ≡ true) × (SnapshotOf of name key ≡ k))
      ⊎ ((became state.Reverted old new ≡ true) × (PreRestoreOf old.id name key ≡ k))

brings_if : (a b : Bool) (x : SessionId) (old new : Record) (name key : List ℕ) (k : Key) → old.kind ≡ RollbackOf x
    → became state.Activated old new ≡ a → became state.Reverted old new ≡ b
    → cond a (Some (SnapshotOf x name key)) (cond b (Some (PreRestoreOf old.id name key)) None) ≡ Some k
    → Brings old new name key k
brings_if true b x old new name key k kind e f g = record { of = x; kind = kind; by = inl (e, cc) }
brings_if false true x old new name key k kind e f g = record { of = x; kind = kind; by = inr (f, cc) }
brings_if false false x old new name key k kind e f g = absurd (cc)

brings_by : (kind : Kind) (old new : Record) (name key : List ℕ) (k : Key) → old.kind ≡ kind
    → brought_by kind old new name key ≡ Some k → Brings old new name key k
brings_by Plain old new name key k same e = absurd (cc)
brings_by WithRollback old new name key k same e = absurd (cc)
brings_by (RollbackOf x) old new name key k same e =
    brings_if (became state.Activated old new) (became state.Reverted old new) x old new name key k same refl refl e

pub brings_to : (old : Record) (o : Option Record) (name key : List ℕ) (k : Key) → brought_to old o name key ≡ Some k
    → (new : Record) × (o ≡ Some new) × (names name old ≡ true) × Brings old new name key k
brings_to old None name key k e = absurd (cc)
brings_to old (Some new) name key k e =
    let (named, by) = some_if (names name old) (brought_by old.kind old new name key) k e in
    (new, refl, named, brings_by old.kind old new name key k refl by)

some_of_two : (a b : Bool) (k l : Key) → (a ≡ true) ⊎ (b ≡ true)
    → is_some (cond a (Some k) (cond b (Some l) None)) ≡ true
some_of_two true b k l h = refl
some_of_two false true k l h = refl
some_of_two false false k l (inl e) = absurd (cc)
some_of_two false false k l (inr e) = absurd (cc)

-- a session that went to one of the two states brings it back
pub some_brought : (old new : Record) (o : Option Record) (x : SessionId) (name key : List ℕ) → o ≡ Some new
    → names name old ≡ true → old.kind ≡ RollbackOf x
    → (became state.Activated old new ≡ true) ⊎ (became state.Reverted old new ≡ true)
    → is_some (brought_to old o name key) ≡ true
some_brought old new o x name key found named kind by =
    ap (λ (o : Option Record). is_some (brought_to old o name key)) found
    ∙ ap (λ (b : Bool). is_some (cond b (brought_by old.kind old new name key) None)) named
    ∙ ap (λ (k : Kind). is_some (brought_by k old new name key)) kind
    ∙ some_of_two (became state.Activated old new) (became state.Reverted old new) (SnapshotOf x name key)
    (PreRestoreOf old.id name key) by

module _ (after : List Record) (name key : List ℕ) where
  abbrev pub brought : Record → Option Key
  brought r = brought_to r (session_of after r.id) name key

  -- one of these sessions brings a value back from there
  abbrev pub IsBrought : List Record → Key → Type 0
  IsBrought rs k = (r : Record) × In r rs × (brought r ≡ Some k)

  -- or it stays
  abbrev pub IsStill : List Record → Key → Type 0
  IsStill rs k = (k ≡ DataOf name key) × ((r : Record) → In r rs → brought r ≡ None)

  source_if : (x : Record) (rs : List Record) (o : Option Key) (k : Key) → brought x ≡ o → IsBrought rs k ⊎ IsStill rs k
      → IsBrought (x ∷ rs) (or_key o k) ⊎ IsStill (x ∷ rs) (or_key o k)
  source_if x rs (Some l) k e rest = inl (x, inl refl, e)
  source_if x rs None k e (inl (r, h, f)) = inl (r, inr h, f)
  source_if x rs None k e (inr (f, none)) = inr (
    f,
    λ r h. elim h [
      | inl same ↦ ap brought (sym same) ∙ e
      | inr i ↦ none r i
    ],
  )

  -- which of the two it is
  pub sourced : (rs : List Record) → IsBrought rs (source_of rs after name key)
      ⊎ IsStill rs (source_of rs after name key)
  sourced [] = inr (refl, λ r h. absurd h)
  sourced (x ∷ rs) = source_if x rs (brought x) (source_of rs after name key) refl (sourced rs)
