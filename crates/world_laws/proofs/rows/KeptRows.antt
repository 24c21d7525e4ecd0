-- What sessions keep of modules and of data after a change, they kept before it, but for what boot n puts by. Callers
-- want `KeepsRows`, `keeps_all` and `keeps_on`.
use Rattle.std.proofs.Common.{◌≡◌, ◌⊎◌, ℕ, Bool, true, List, Some}
use Rattle.std.proofs.Common.{◌∙◌, refl, inl, inr}
use Rattle.apex_base.specs.declared.numbers.SessionId.{SessionId}
use Rattle.apex_base.specs.declared.records.Record.{Record}
use Rattle.apex_base.specs.declared.records.Target.{Target}
use Rattle.apex_base.specs.declared.records.Target.TheVariants as targets
use Rattle.apex_base.specs.Held.{kept}
use Rattle.apex_base.specs.Members.{In}
use Rattle.apex_base.specs.Sessions.{session_of}
use Rattle.apex_world.specs.Rows.{has_snapshot, has_pre_restore}

-- a session passed a test before, with the id, the parts and the activation boot that it has now
pub record Was (ss : List Record) (test : Record → Bool) (id : SessionId) (s : Record) : Type 0 where
  pub old : Record
  pub found : session_of ss id ≡ Some old
  pub parts : s.parts ≡ old.parts
  pub activation : s.activation ≡ old.activation
  pub passes : test old ≡ true

-- each session that passes the second test passed the first before, or was activated by boot n
abbrev pub KeepsPast : ℕ → List Record → List Record → (Record → Bool) → (Record → Bool) → Type 0
KeepsPast n ss ss' test test' = (id : SessionId) (s : Record) → session_of ss' id ≡ Some s → test' s ≡ true
    → (s.activation ≡ n) ⊎ Was ss test id s

pub record KeepsRows (n : ℕ) (ss ss' : List Record) : Type 0 where
  pub modules : (t : Target) → In t (kept ss') → (t ≡ targets.Preinstalled) ⊎ In t (kept ss)
  pub snapshots : KeepsPast n ss ss' (has_snapshot ss) (has_snapshot ss')
  pub pre_restores : KeepsPast n ss ss' has_pre_restore has_pre_restore

past_same : (n : ℕ) (ss : List Record) (test : Record → Bool) → KeepsPast n ss ss test test
past_same n ss test id s e p = inr (record { old = s; found = e; parts = refl; activation = refl; passes = p })

was_on : (n : ℕ) (ss ts : List Record) (test test' : Record → Bool) (id : SessionId) (u : Record)
    → KeepsPast n ss ts test test' → Was ts test' id u → (u.activation ≡ n) ⊎ Was ss test id u
was_on n ss ts test test' id u a was =
    elim (a id was.old was.found was.passes) [
      | inl now ↦ inl (was.activation ∙ now)
      | inr older ↦ inr (record {
        old = older.old;
        found = older.found;
        parts = was.parts ∙ older.parts;
        activation = was.activation ∙ older.activation;
        passes = older.passes;
      })
    ]

past_on : (n : ℕ) (ss ts us : List Record) (test test' test'' : Record → Bool) → KeepsPast n ss ts test test'
    → KeepsPast n ts us test' test'' → KeepsPast n ss us test test''
past_on n ss ts us test test' test'' a b id u e p =
    elim (b id u e p) [
      | inl now ↦ inl now
      | inr was ↦ was_on n ss ts test test' id u a was
    ]

-- sessions that don't change keep all
pub keeps_all : (n : ℕ) (ss : List Record) → KeepsRows n ss ss
keeps_all n ss = record {
  modules = λ t h. inr h;
  snapshots = past_same n ss (has_snapshot ss);
  pre_restores = past_same n ss has_pre_restore;
}

-- one change after another
pub keeps_on : (n : ℕ) (ss ts us : List Record) → KeepsRows n ss ts → KeepsRows n ts us → KeepsRows n ss us
keeps_on n ss ts us a b = record {
  modules = λ t h. elim (b.modules t h) [
    | inl e ↦ inl e
    | inr i ↦ a.modules t i
  ];
  snapshots = past_on n ss ts us (has_snapshot ss) (has_snapshot ts) (has_snapshot us) a.snapshots b.snapshots;
  pre_restores = past_on n ss ts us has_pre_restore has_pre_restore has_pre_restore a.pre_restores b.pre_restores;
}
