-- Whether a module is kept, by the sessions of its name alone. Callers want `kept_by_name` and `aborted_files_go`.
use Rattle.std.proofs.Common.{◌≡◌, ℕ, true, ◌&&◌, ◌||◌, List, sym, ap}
use Rattle.std.proofs.Common.{◌∙◌, refl, inl, inr}
use Rattle.std.specs.Prelude.{nat_lt, Bool}
use Rattle.std.specs.List.{list_any}
use Rattle.std.specs.Str.{bytes_eq}
use Rattle.std.proofs.lemmas.Bool.{and_parts, and_from, or_cases, or_left, or_right}
use Rattle.std.proofs.lemmas.Bool.{eq-eqb}
use Rattle.apex_base.specs.declared.numbers.SessionId.{SessionId}
use Rattle.apex_base.specs.declared.records.Part.{Part}
use Rattle.apex_base.specs.declared.records.Record.{Record}
use Rattle.apex_base.specs.declared.records.Target.{Target}
use Rattle.apex_base.specs.declared.records.Target.TheVariants as targets
use Rattle.apex_base.specs.Held.{is_unfinished, is_undoable, is_standing, is_success, is_available, latest, held, before}
use Rattle.apex_base.specs.Held.{kept, is_module, is_target}
use Rattle.apex_base.specs.Members.{In}
use Rattle.apex_base.specs.Sessions.{names}
use Rattle.apex_base.specs.Settled.{stands_for}
use Rattle.apex_base.proofs.MemberLemmas.{any_in, in_any}
use Rattle.world_laws.specs.KeptByName.{has_own, had_before, is_kept_for}
use Rattle.apex_world.specs.Lawful.{Lawful}
use Rattle.apex_world.specs.World.{World}
use Rattle.world_laws.proofs.alike.AlikeAfter.{target_in}
use Rattle.world_facts.proofs.facts.KeptLemmas.{Own, Holds, Backs, kept_back, keeps, names_own, eq_name}
use Rattle.world_facts.proofs.facts.LatestLemmas.{part_named, named_by, latest_is}
use Rattle.world_laws.proofs.rows.MovedRows.{tests_agree}
use Rattle.world_facts.proofs.facts.PartOwners.{same_part_name}
use Rattle.world_facts.proofs.facts.WorldRows.{same_name}

is_own : (session : SessionId) (part version : ℕ) (t : Target) → t ≡ targets.Module session part version
    → is_module session part t ≡ true
is_own session part version t e =
    ap (is_module session part) e ∙ and_from _ _ (eq-eqb session.0 session.0 refl) (eq-eqb part part refl)

-- the part that a session has of a name
own_part : (r : Record) (name : List ℕ) → names name r ≡ true → (p : Part) × In p r.parts × (p.name ≡ name)
own_part r name n =
    let (p, e) = part_named name r n in
    let (i, same) = named_by name r p e in
    (p, i, same_name p.name name same)

module _ (w : World) (law : Lawful w) (r : Record) (p : Part) (session : SessionId) (part version : ℕ)
    (h : In r w.sessions) (i : In p r.parts) (is : p.target ≡ targets.Module session part version) where
  abbrev ss : List Record
  ss = w.sessions

  -- a part that has the module has the name
  named_so : (s : Record) (q : Part) (v : ℕ) → In s ss → In q s.parts → q.target ≡ targets.Module session part v
      → q.name ≡ p.name
  named_so s q v j k e = same_part_name w law s r q p session part v version j h k i e is

  -- and so has a name that holds it or held it
  latest_so : (test : Record → Bool) (name : List ℕ) (v : ℕ)
      → targets.Module session part v ≡ latest test ss name → name ≡ p.name
  latest_so test name v e =
      elim (latest_is test name ss) [
        | inl none ↦ absurd (cc (none.1, e))
        | inr (s, q, l, f) ↦
            let (j, n) = named_by name s q l.part in
            sym (same_name q.name name n) ∙ named_so s q v l.among j (sym f ∙ sym e)
      ]

  forth : is_target (kept ss) session part ≡ true → is_kept_for ss p.name session part ≡ true
  forth e =
      let (v, k) = target_in (kept ss) session part e in
      let (x, q, j, l, way) = kept_back ss (targets.Module session part v) k in
      elim way [
        | Own u f ↦
            let same = named_so x q v j l (sym f) in
            or_left _ _ (or_left (list_any (has_own p.name session part) ss) _
            (in_any (has_own p.name session part) x ss j (and_from (is_unfinished x.state) _ u
            (in_any (λ (q : Part). bytes_eq q.name p.name && is_module session part q.target) q x.parts l
            (and_from (bytes_eq q.name p.name) (is_module session part q.target)
            (ap (λ (a : List ℕ). bytes_eq a p.name) same ∙ eq_name p.name) (is_own session part v q.target (sym f)))))))
        | Holds s f ↦
            let same : q.name ≡ p.name = latest_so (λ r. is_standing r.state) q.name v f in
            or_left _ _ (or_right (list_any (has_own p.name session part) ss) _
            (and_from (list_any (stands_for p.name) ss) (is_module session part (held ss p.name))
            (in_any (stands_for p.name) x ss j (and_from (is_standing x.state) (names p.name x) s
            (ap (λ (a : List ℕ). names a x) (sym same) ∙ names_own x q l)))
            (is_own session part v (held ss p.name) (ap (held ss) (sym same) ∙ sym f))))
        | Backs b f ↦
            let same : q.name ≡ p.name =
            latest_so (λ s. is_success s.state && nat_lt s.activation x.activation) q.name v f in
            or_right (list_any (has_own p.name session part) ss
            || (list_any (stands_for p.name) ss && is_module session part (held ss p.name))) _
            (in_any (had_before ss p.name session part) x ss j
            (and_from ((is_undoable x.state || is_available x.rollback) && names p.name x) _
            (and_from (is_undoable x.state || is_available x.rollback) (names p.name x) b
            (ap (λ (a : List ℕ). names a x) (sym same) ∙ names_own x q l))
            (is_own session part v (before ss x p.name) (ap (before ss x) (sym same) ∙ sym f))))
      ]

  kept_as_target : (x : Record) (t : Target) → In t (kept ss) → is_module session part t ≡ true
      → is_target (kept ss) session part ≡ true
  kept_as_target x t k e = in_any (is_module session part) t (kept ss) k e

  own_back : list_any (has_own p.name session part) ss ≡ true → is_target (kept ss) session part ≡ true
  own_back e =
      let (x, j, both) = any_in (has_own p.name session part) ss e in
      let (u, some) = and_parts (is_unfinished x.state) _ both in
      let (q, l, pair) = any_in (λ (q : Part). bytes_eq q.name p.name && is_module session part q.target) x.parts some in
      kept_as_target x q.target (keeps ss x q q.target j l (Own u refl))
      (and_parts (bytes_eq q.name p.name) (is_module session part q.target) pair).1

  held_back : (list_any (stands_for p.name) ss && is_module session part (held ss p.name)) ≡ true
      → is_target (kept ss) session part ≡ true
  held_back e =
      let (some, m) = and_parts (list_any (stands_for p.name) ss) (is_module session part (held ss p.name)) e in
      let (x, j, both) = any_in (stands_for p.name) ss some in
      let (s, n) = and_parts (is_standing x.state) (names p.name x) both in
      let (q, l, same) = own_part x p.name n in
      kept_as_target x (held ss p.name) (keeps ss x q (held ss p.name) j l (Holds s (ap (held ss) (sym same)))) m

  before_back : list_any (had_before ss p.name session part) ss ≡ true → is_target (kept ss) session part ≡ true
  before_back e =
      let (x, j, both) = any_in (had_before ss p.name session part) ss e in
      let (front, m) = and_parts ((is_undoable x.state || is_available x.rollback) && names p.name x)
      (is_module session part (before ss x p.name)) both in
      let (b, n) = and_parts (is_undoable x.state || is_available x.rollback) (names p.name x) front in
      let (q, l, same) = own_part x p.name n in
      kept_as_target x (before ss x p.name)
      (keeps ss x q (before ss x p.name) j l (Backs b (ap (before ss x) (sym same)))) m

  back : is_kept_for ss p.name session part ≡ true → is_target (kept ss) session part ≡ true
  back e =
      elim (or_cases (list_any (has_own p.name session part) ss
      || (list_any (stands_for p.name) ss && is_module session part (held ss p.name))) _ e) [
        | inl f ↦ elim (or_cases (list_any (has_own p.name session part) ss) _ f) [
          | inl a ↦ own_back a
          | inr a ↦ held_back a
        ]
        | inr f ↦ before_back f
      ]

  -- a module is kept if it is kept for its name
  pub kept_by_name : is_target (kept ss) session part ≡ is_kept_for ss p.name session part
  kept_by_name = tests_agree (is_target (kept ss) session part) (is_kept_for ss p.name session part) forth back
