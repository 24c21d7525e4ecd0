-- Whose module a part of a lawful session has: an ordinary session submitted it, as the part of that number, of the same
-- name and version. Callers want `owned`, `kept_owned`, `place_of` and `have_parts`.
use Rattle.std.proofs.Common.{◌≡◌, ℕ, List, Option}
use Rattle.std.proofs.Common.{Some, sym, ap, ◌∙◌, refl, inl, inr, arith}
use Rattle.std.specs.Prelude.{slice_get, option_and_then}
use Rattle.std.proofs.lemmas.Option.{slice_get_within}
use Rattle.apex_base.specs.declared.numbers.SessionId.{SessionId}
use Rattle.apex_base.specs.declared.records.Part.{Part}
use Rattle.apex_base.specs.declared.records.Record.{Record}
use Rattle.apex_base.specs.declared.records.Target.{Target}
use Rattle.apex_base.specs.declared.records.Target.TheVariants as targets
use Rattle.apex_base.specs.Commit.{target_version}
use Rattle.apex_base.specs.Held.{kept}
use Rattle.apex_base.specs.Members.{In}
use Rattle.apex_base.specs.Sessions.{session_of}
use Rattle.apex_base.proofs.MemberLemmas.{in_each}
use Rattle.apex_base.proofs.SessionLemmas.{of_in}
use Rattle.apex_world.specs.Lawful.{part_at_place}
use Rattle.world_facts.proofs.facts.KeptLemmas.{kept_part}
use Rattle.world_facts.proofs.facts.ModulesOpened.{got_in}
use Rattle.world_facts.proofs.facts.PartOwners.{Owner, owned_in}
use Rattle.world_facts.proofs.facts.WorldRows.{same_id}
use Rattle.session_record.specs.Room.{HasPartNumber}
use Rattle.package_store.specs.Settled.{HaveParts}
use Rattle.session_check.specs.LawfulSessions.{AreLawfulSessions}

module _ (n : ℕ) (ss : List Record) (law : AreLawfulSessions n ss) where
  -- the module of each part
  pub owned : (r : Record) (p : Part) → In r ss → In p r.parts → (session : SessionId) (part version : ℕ)
      → p.target ≡ targets.Module session part version → Owner ss p.name session part version
  owned r p h i session part version is =
      (owned_in n ss law.ids.ascend law.parts law.activations law.undone r p h i session part version is).0

  -- and each module that is kept
  pub kept_owned : (session : SessionId) (part version : ℕ) → In (targets.Module session part version) (kept ss)
      → (name : List ℕ) × Owner ss name session part version
  kept_owned session part version h =
      elim (kept_part ss (targets.Module session part version) h) [
        | inl e ↦ absurd (cc e)
        | inr (r, p, i, j, e) ↦ (p.name, owned r p i j session part version (sym e))
      ]

  -- the part that it is
  pub place_of : (name : List ℕ) (session : SessionId) (part version : ℕ) → Owner ss name session part version
      → part_at_place ss session part
      ≡ Some (record { name = name; version = Some version; target = targets.Module session part version })
  place_of name session part version o =
      let found : session_of ss session ≡ Some o.owner =
      ap (session_of ss) (sym (same_id o.owner.id session o.id)) ∙ of_in ss o.owner law.ids.ascend o.among in
      let there = got_in o.owner.parts part o.own o.there in
      let versions : o.own.version ≡ Some version =
      (law.parts o.owner o.among).versions o.own there ∙ ap target_version o.target in
      let is : o.own ≡ record { name = name; version = Some version; target = targets.Module session part version } =
      λ i. record { name = o.named i; version = versions i; target = o.target i } in
      ap (λ (s : Option Record). option_and_then (λ (r : Record). slice_get r.parts part) s) found ∙ o.there
      ∙ ap (λ (p : Part). Some p) is

  low_part : (r : Record) (p : Part) (t : Target) → In r ss → In p r.parts → p.target ≡ t → HasPartNumber t
  low_part r p targets.Preinstalled h i e = tt
  low_part r p (targets.Module session part version) h i e =
      let own = owned r p h i session part version e in
      let within = slice_get_within own.owner.parts part own.own own.there in
      let few = (law.parts own.owner own.among).few in
      omega (arith, within, few)

  -- each part's number is a byte
  pub have_parts : HaveParts ss
  have_parts = in_each _ ss (λ r h. in_each _ r.parts (λ p i. low_part r p p.target h i refl))
