-- Worlds that are alike stay so where their sessions change alike, and nothing is kept that wasn't. Callers want
-- `alike_after`.
use Rattle.std.proofs.Common.{◌≡◌, ◌⊎◌, ℕ, true, List, sym, ap, subst, ◌∙◌, refl, inl, inr}
use Rattle.std.specs.List.{list_any}
use Rattle.std.specs.Str.{bytes_eq}
use Rattle.std.proofs.lemmas.Bool.{and_from, eq-eqb}
use Rattle.apex_base.specs.declared.numbers.SessionId.{SessionId}
use Rattle.apex_base.specs.declared.records.Part.{Part}
use Rattle.apex_base.specs.declared.records.Record.{Record}
use Rattle.apex_base.specs.declared.records.Target.{Target}
use Rattle.apex_base.specs.declared.records.Target.TheVariants as targets
use Rattle.apex_base.specs.Held.{kept, is_module, is_target}
use Rattle.apex_base.specs.Members.{In}
use Rattle.apex_base.specs.Sessions.{names}
use Rattle.apex_base.specs.Tables.{value_of}
use Rattle.apex_base.proofs.MemberLemmas.{any_in, in_any}
use Rattle.apex_world.specs.Selection.{submitted_by}
use Rattle.world_laws.specs.StoredAlike.{KeepsPast, AreAlikeInParts}
use Rattle.apex_world.specs.World.{World, era}
use Rattle.world_laws.proofs.alike.AlikeLemmas.{alike_with, other}
use Rattle.world_facts.proofs.facts.HeldModules.{this_module}
use Rattle.world_facts.proofs.facts.KeptLemmas.{AreOrdered}
use Rattle.world_facts.proofs.facts.KeptLess.{IsFresh, Carries, Comes, Nothing, Before, New, kept_less}

pub target_in : (ts : List Target) (session : SessionId) (part : ℕ) → is_target ts session part ≡ true
    → (version : ℕ) × In (targets.Module session part version) ts
target_in ts session part e =
    let (t, h, is) = any_in (is_module session part) ts e in
    let (version, f) = this_module session part t is in
    (version, subst (λ (t : Target). In t ts) f h)

pub in_target : (ts : List Target) (session : SessionId) (part version : ℕ)
    → In (targets.Module session part version) ts
    → is_target ts session part ≡ true
in_target ts session part version h =
    in_any (is_module session part) (targets.Module session part version) ts h
    (and_from _ _ (eq-eqb session.0 session.0 refl) (eq-eqb part part refl))

-- the targets of new sessions are kept already, or Preinstalled
abbrev pub NothingNew : List Record → List Record → Type 0
NothingNew ss ss' = (s : Record) (p : Part) → In s ss' → IsFresh ss s → In p s.parts
    → (p.target ≡ targets.Preinstalled) ⊎ In p.target (kept ss)

-- what nothing changes of a session, with its activation boot
pub record IsLike (r s : Record) : Type 0 where
  pub id : s.id ≡ r.id
  pub kind : s.kind ≡ r.kind
  pub parts : s.parts ≡ r.parts
  pub activation : s.activation ≡ r.activation

-- a session that keeps its past has kept it before
abbrev pub PastStays : List Record → List Record → Type 0
PastStays ss ss' = (s : Record) → In s ss' → KeepsPast ss' s → (r : Record) × In r ss × KeepsPast ss r × IsLike r s

-- what a session keeps of the past, one has kept before
abbrev pub NoPastNew : List Record → List Record → Type 0
NoPastNew ss ss' = (s : Record) (name : List ℕ) → In s ss' → KeepsPast ss' s → names name s ≡ true
    → (r : Record) × In r ss × KeepsPast ss r × (names name r ≡ true) × (r.activation ≡ s.activation)

-- a session is like itself
pub like_self : (r : Record) → IsLike r r
like_self r = record { id = refl; kind = refl; parts = refl; activation = refl }

pub names_same : (r s : Record) (name : List ℕ) → IsLike r s → names name s ≡ names name r
names_same r s name l = ap (λ ps. list_any (λ p. bytes_eq p.name name) ps) l.parts

pub no_past_new : (ss ss' : List Record) → PastStays ss ss' → NoPastNew ss ss'
no_past_new ss ss' past s name h k n =
    let (r, i, j, l) = past s h k in
    (r, i, j, sym (names_same r s name l) ∙ n, sym l.activation)

module _ (w v : World) (a : AreAlikeInParts w v) (ss' : List Record) (law : AreOrdered w.sessions)
    (law' : AreOrdered ss') (f : Carries w.sessions ss') where
  was_kept : NothingNew w.sessions ss' → (session : SessionId) (part version : ℕ)
      → Comes w.sessions ss' (targets.Module session part version)
      → In (targets.Module session part version) (kept w.sessions)
  was_kept new session part version (Nothing e) = absurd (cc)
  was_kept new session part version (Before h) = h
  was_kept new session part version (New s p h i j e) =
      elim (new s p h i j) [
        | inl n ↦ absurd (cc (e, n))
        | inr k ↦ subst (λ (t : Target). In t (kept w.sessions)) (sym e) k
      ]

  pub same_modules : NothingNew w.sessions ss' → (session : SessionId) (part : ℕ)
      → is_target (kept ss') session part ≡ true
      → submitted_by w.modules session part ≡ submitted_by v.modules session part
  same_modules new session part k =
      let (version, h) = target_in (kept ss') session part k in
      let before =
      was_kept new session part version (kept_less w.sessions ss' law law' f (targets.Module session part version) h) in
      a.stored.modules session part (in_target (kept w.sessions) session part version before)

  pub same_past : NoPastNew w.sessions ss' → (s : Record) (name key : List ℕ) → In s ss' → KeepsPast ss' s
      → names name s ≡ true
      → value_of (era w.eras s.activation) name key ≡ value_of (era v.eras s.activation) name key
  same_past past s name key h k n =
      let (r, i, l, m, e) = past s name h k n in
      subst (λ (b : ℕ). value_of (era w.eras b) name key ≡ value_of (era v.eras b) name key) e
      (a.stored.past r name key i l m)

  -- the worlds with the changed sessions, and another clock, are alike in parts
  pub alike_after : NothingNew w.sessions ss' → NoPastNew w.sessions ss' → (clock : ℕ)
      → AreAlikeInParts (record w { sessions = ss'; clock = clock })
      (record (other w v a) { sessions = ss'; clock = clock })
  alike_after new past clock =
      alike_with w v a ss' w.modules v.modules w.contents w.watches clock (same_modules new) (same_past past)
