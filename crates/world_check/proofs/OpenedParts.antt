-- The modules that rows open to, where sessions are lawful: that of a part that is kept is there, and no part has two.
-- Callers want `own_there`, `part_found` and `distinct_modules`.
use Rattle.std.proofs.Common.{◌≡◌, ℕ, true, false, List, Some, sym, ap, subst, ◌∙◌, refl, inl}
use Rattle.std.proofs.lemmas.Bool.{eq-eqb}
use Rattle.apex_base.specs.declared.numbers.SessionId.{SessionId}
use Rattle.apex_base.specs.declared.records.Part.{Part}
use Rattle.apex_base.specs.declared.records.Record.{Record}
use Rattle.apex_base.specs.declared.records.Target.{Target}
use Rattle.apex_base.specs.declared.records.Target.TheVariants as targets
use Rattle.apex_base.specs.Held.{kept, is_target}
use Rattle.apex_base.specs.Keys.{RowMap}
use Rattle.apex_base.specs.Members.{In}
use Rattle.apex_world.specs.declared.world.Submission.{Submission}
use Rattle.apex_world.specs.Opened.{opened_files, opened_module}
use Rattle.apex_base.specs.Commit.{undoes}
use Rattle.apex_world.specs.Selection.{submitted_by}
use Rattle.world_facts.proofs.facts.ModulesOpened.{got_in, mods, part_modules, module_of, is_opened, mods_there, mod_found}
use Rattle.world_facts.proofs.facts.ModulesOpened.{modules_distinct}
use Rattle.world_facts.proofs.facts.OpenedSessions.{one_session}
use Rattle.world_facts.proofs.facts.PartOwners.{Owner}
use Rattle.world_facts.proofs.facts.RowWeightLemmas.{AreDistinct}
use Rattle.session_check.specs.LawfulSessions.{AreLawfulSessions}
use Rattle.world_check.proofs.Owners.{owned}

module _ (m : RowMap) (ss : List Record) where
  -- The module of a part that is kept

  module _ (name : List ℕ) (session : SessionId) (part version : ℕ) (o : Owner ss name session part version)
      (is_kept : is_target (kept ss) session part ≡ true) where
    pub own_there : In (module_of m ss session part) (part_modules m ss o.owner.id o.own)
    own_there =
        let here : In (module_of m ss session part)
        (opened_module m ss o.owner.id (targets.Module session part version)) =
        rw (eq-eqb session.0 o.owner.id.0 (sym o.id), is_kept) (inl refl) in
        subst (λ (t : Target). In (module_of m ss session part) (opened_module m ss o.owner.id t)) (sym o.target) here

    pub part_found : submitted_by (mods m ss) session part ≡ Some (opened_files m session part)
    part_found =
        mod_found m ss session part (mods_there m ss o.owner o.own (module_of m ss session part) o.among
        (got_in o.owner.parts part o.own o.there) own_there)

  module _ (n : ℕ) (law : AreLawfulSessions n ss) where
    -- the session of a rollback submitted nothing
    not_own : (r : Record) (p : Part) (s : Submission) → In r ss → In p r.parts → undoes r.kind ≡ true
        → In s (part_modules m ss r.id p) → ⊥
    not_own r p s h i e k =
        let o = is_opened m ss r.id p.target s k in
        let own = owned n ss law r p h i s.session s.part o.version o.target in
        let one : own.owner ≡ r =
        one_session ss own.owner r law.ids.ascend own.among h
        (own.id ∙ ap (λ (id : SessionId). id.0) o.session) in
        let ordinary : undoes r.kind ≡ false = ap (λ (r : Record). undoes r.kind) (sym one) ∙ own.ordinary in
        absurd (cc (e, ordinary))

    -- no part stands twice
    pub distinct_modules : AreDistinct (mods m ss)
    distinct_modules = modules_distinct m ss (λ r h e. (law.parts r h).own e) not_own law.ids.ascend
