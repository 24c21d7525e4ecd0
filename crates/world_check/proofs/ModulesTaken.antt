-- What is left once modules are taken tells that each is right and what they weigh. Callers want `sessions_taken` and
-- `sessions_take`.
use Rattle.std.proofs.Common.{◌≡◌, ℕ, ◌+◌, ◌-◌, Bool, true, false, cond, eqb, leb, ◌&&◌, List, [], ◌∷◌}
use Rattle.std.proofs.Common.{flat_map, Some, None, Ok, sym, ap, subst, ◌∙◌, refl, inl, inr, arith}
use Rattle.std.specs.Prelude.{option_and_then}
use Rattle.std.specs.List.{sum_by}
use Rattle.std.proofs.lemmas.Bool.{and_parts, leb-true, le-leb}
use Rattle.std.proofs.lemmas.List.Sums.{sum_by-cons, sum_by-append}
use Rattle.apex_base.specs.declared.numbers.SessionId.{SessionId}
use Rattle.apex_base.specs.declared.records.Part.{Part}
use Rattle.apex_base.specs.declared.records.Record.{Record}
use Rattle.apex_base.specs.declared.records.Target.{Target}
use Rattle.apex_base.specs.declared.records.Target.TheVariants as targets
use Rattle.apex_base.specs.Held.{kept, is_target}
use Rattle.apex_base.specs.Keys.{RowMap}
use Rattle.apex_base.specs.Members.{In}
use Rattle.apex_base.specs.Modules.{FileMap, IsModule, module_weight}
use Rattle.apex_base.proofs.Finding.{some_then, some_if}
use Rattle.apex_world.specs.declared.world.Submission.{Submission}
use Rattle.apex_world.specs.Decided.{is_module, says}
use Rattle.apex_world.specs.Limits.{target_weight}
use Rattle.apex_world.specs.Opened.{opened_files, opened_module}
use Rattle.apex_world.specs.Soundness.{checked}
use Rattle.world_facts.proofs.facts.DecidedTables.{module_decides, says_decides}
use Rattle.world_facts.proofs.facts.ModulesOpened.{part_modules, module_of}
use Rattle.world_check.specs.RightModules.{less, if_module, less_module, less_target, less_parts, less_sessions}

some_is : {A : Type 0} (x y : A) → Some x ≡ Some y → x ≡ y
some_is x y e = cc

-- a weight is taken

less_is : (weight left rest : ℕ) → less weight left ≡ Some rest → weight + rest ≡ left
less_is weight left rest e =
    let (low, f) = some_if (leb weight left) (Some (left - weight)) rest e in
    let most = leb-true weight left low in
    let is : left - weight ≡ rest = some_is (left - weight) rest f in
    omega (arith, most, is)

is_less : (weight left rest : ℕ) → weight + rest ≡ left → less weight left ≡ Some rest
is_less weight left rest e =
    let is : left - weight ≡ rest = omega (arith, e) in
    ap (λ (b : Bool). cond b (Some (left - weight)) None) (le-leb weight left (omega (arith, e)))
    ∙ ap (λ (n : ℕ). Some n) is

-- a module is taken

abbrev Says : List ℕ → ℕ → FileMap → Type 0
Says name version content = checked content ≡ Ok (record { name = name; version = version })

module_taken : (name : List ℕ) (version left rest : ℕ) (c : FileMap)
    → option_and_then (less_module name version left) (if_module c) ≡ Some rest
    → IsModule c × Says name version c × (module_weight c + rest ≡ left)
module_taken name version left rest c e =
    let (content, f, g) = some_then (less_module name version left) (if_module c) rest e in
    let (is, same) = some_if (is_module c) (Some c) content f in
    let one : content ≡ c = sym (some_is c content same) in
    let h : less_module name version left c ≡ Some rest =
    ap (less_module name version left) (sym one) ∙ g in
    let (said, i) = some_if (says (checked c) name version) (less (module_weight c) left) rest h in (
      (module_decides c).0 is,
      (says_decides (checked c) name version).0 said,
      less_is (module_weight c) left rest i,
    )

module_take : (name : List ℕ) (version left rest : ℕ) (c : FileMap) → IsModule c → Says name version c
    → module_weight c + rest ≡ left → option_and_then (less_module name version left) (if_module c) ≡ Some rest
module_take name version left rest c is said e =
    ap (λ (b : Bool). option_and_then (less_module name version left) (cond b (Some c) None))
    ((module_decides c).1 is)
    ∙ ap (λ (b : Bool). cond b (less (module_weight c) left) None) ((says_decides (checked c) name version).1 said)
    ∙ is_less (module_weight c) left rest e

module _ (m : RowMap) (ss : List Record) where
  -- a module is within its limits, is sound, and says this name and the target's version
  abbrev pub IsRight : List ℕ → Target → Submission → Type 0
  IsRight name t s =
      IsModule s.content
      × ((version : ℕ) → t ≡ targets.Module s.session s.part version → Says name version s.content)

  abbrev pub weigh : List Submission → ℕ
  weigh ms = sum_by (target_weight (kept ss)) ms

  abbrev kept_part : SessionId → ℕ → Bool
  kept_part = is_target (kept ss)

  -- The module of a target

  one_weighs : (session : SessionId) (part : ℕ) → is_target (kept ss) session part ≡ true
      → weigh (module_of m ss session part ∷ []) ≡ module_weight (opened_files m session part)
  one_weighs session part e =
      let weight : target_weight (kept ss) (module_of m ss session part) ≡ module_weight (opened_files m session part) =
      ap (λ (b : Bool). cond b (module_weight (opened_files m session part)) 0) e in
      omega (arith, weight, sum_by-cons (target_weight (kept ss)) (module_of m ss session part) [])

  abbrev TargetTaken : (name : List ℕ) (t : Target) (left rest : ℕ) → List Submission → Type 0
  TargetTaken name t left rest ms = ((s : Submission) → In s ms → IsRight name t s) × (weigh ms + rest ≡ left)

  taken_if : (b : Bool) (id : SessionId) (name : List ℕ) (left rest : ℕ) (session : SessionId) (part version : ℕ)
      → (eqb session.0 id.0 && is_target (kept ss) session part) ≡ b
      → cond b (option_and_then (less_module name version left) (if_module (opened_files m session part))) (Some left)
      ≡ Some rest
      → TargetTaken name (targets.Module session part version) left rest (cond b (module_of m ss session part ∷ []) [])
  taken_if true id name left rest session part version e f =
      let is_kept = (and_parts (eqb session.0 id.0) (is_target (kept ss) session part) e).1 in
      let (is, said, weighs) = module_taken name version left rest (opened_files m session part) f in (
        λ s h. elim h [
          | inl same ↦ subst (IsRight name (targets.Module session part version)) same (
            is,
            λ v g. let same_version : version ≡ v = cc g in
                subst (λ (n : ℕ). Says name n (opened_files m session part)) same_version said,
          )
          | inr none ↦ absurd none
        ],
        omega (arith, one_weighs session part is_kept, weighs),
      )
  taken_if false id name left rest session part version e f =
      let same : left ≡ rest = some_is left rest f in
      (λ s h. absurd h, omega (arith, same))

  pub target_taken : (id : SessionId) (name : List ℕ) (left : ℕ) (t : Target) (rest : ℕ)
      → less_target m kept_part id name left t ≡ Some rest → TargetTaken name t left rest (opened_module m ss id t)
  target_taken id name left targets.Preinstalled rest e =
      let same : left ≡ rest = some_is left rest e in
      (λ s h. absurd h, omega (arith, same))
  target_taken id name left (targets.Module session part version) rest e =
      taken_if (eqb session.0 id.0 && is_target (kept ss) session part) id name left rest session part version refl e

  take_if : (b : Bool) (id : SessionId) (name : List ℕ) (left rest : ℕ) (session : SessionId) (part version : ℕ)
      → (eqb session.0 id.0 && is_target (kept ss) session part) ≡ b
      → TargetTaken name (targets.Module session part version) left rest (cond b (module_of m ss session part ∷ []) [])
      → cond b (option_and_then (less_module name version left) (if_module (opened_files m session part))) (Some left)
      ≡ Some rest
  take_if true id name left rest session part version e f =
      let is_kept = (and_parts (eqb session.0 id.0) (is_target (kept ss) session part) e).1 in
      let (is, said) = f.0 (module_of m ss session part) (inl refl) in
      module_take name version left rest (opened_files m session part) is (said version refl)
      (omega (arith, one_weighs session part is_kept, f.1))
  take_if false id name left rest session part version e f =
      let same : left ≡ rest = omega (arith, f.1) in
      ap (λ (n : ℕ). Some n) same

  pub target_take : (id : SessionId) (name : List ℕ) (left : ℕ) (t : Target) (rest : ℕ)
      → TargetTaken name t left rest (opened_module m ss id t) → less_target m kept_part id name left t ≡ Some rest
  target_take id name left targets.Preinstalled rest f =
      let same : left ≡ rest = omega (arith, f.1) in
      ap (λ (n : ℕ). Some n) same
  target_take id name left (targets.Module session part version) rest f =
      take_if (eqb session.0 id.0 && is_target (kept ss) session part) id name left rest session part version refl f

  -- Those of a session

  abbrev pub AreRight : SessionId → List Part → Type 0
  AreRight id ps = (p : Part) → In p ps → (s : Submission) → In s (part_modules m ss id p) → IsRight p.name p.target s

  abbrev pub PartsTaken : (id : SessionId) (left rest : ℕ) → List Part → Type 0
  PartsTaken id left rest ps = AreRight id ps × (weigh (flat_map (part_modules m ss id) ps) + rest ≡ left)

  parts_taken : (id : SessionId) (left : ℕ) (ps : List Part) (rest : ℕ)
      → less_parts m kept_part id left ps ≡ Some rest → PartsTaken id left rest ps
  parts_taken id left [] rest e =
      let same : left ≡ rest = some_is left rest e in
      (λ p h. absurd h, omega (arith, same))
  parts_taken id left (p ∷ ps) rest e =
      let (mid, f, g) = some_then (λ (rest : ℕ). less_parts m kept_part id rest ps)
      (less_target m kept_part id p.name left p.target) rest e in
      let one = target_taken id p.name left p.target mid f in
      let more = parts_taken id mid ps rest g in (
        λ q h. elim h [
          | inl same ↦ subst (λ (q : Part). (s : Submission) → In s (part_modules m ss id q)
              → IsRight q.name q.target s) same one.0
          | inr i ↦ more.0 q i
        ],
        omega (
          arith,
          one.1,
          more.1,
          sum_by-append (target_weight (kept ss)) (part_modules m ss id p) (flat_map (part_modules m ss id) ps),
        ),
      )

  parts_take : (id : SessionId) (left : ℕ) (ps : List Part) (rest : ℕ) → PartsTaken id left rest ps
      → less_parts m kept_part id left ps ≡ Some rest
  parts_take id left [] rest f =
      let same : left ≡ rest = omega (arith, f.1) in
      ap (λ (n : ℕ). Some n) same
  parts_take id left (p ∷ ps) rest f =
      let mid = weigh (flat_map (part_modules m ss id) ps) + rest in
      let one = target_take id p.name left p.target mid (
        f.0 p (inl refl),
        omega (
          arith,
          f.1,
          sum_by-append (target_weight (kept ss)) (part_modules m ss id p) (flat_map (part_modules m ss id) ps),
        ),
      ) in
      ap (option_and_then (λ (rest : ℕ). less_parts m kept_part id rest ps)) one
      ∙ parts_take id mid ps rest (λ q h. f.0 q (inr h), refl)

  -- Those of all sessions

  abbrev pub AllRight : List Record → Type 0
  AllRight rs = (r : Record) → In r rs → AreRight r.id r.parts

  abbrev session_modules : Record → List Submission
  session_modules r = flat_map (part_modules m ss r.id) r.parts

  abbrev pub SessionsTaken : (left rest : ℕ) → List Record → Type 0
  SessionsTaken left rest rs = AllRight rs × (weigh (flat_map session_modules rs) + rest ≡ left)

  pub sessions_taken : (left : ℕ) (rs : List Record) (rest : ℕ) → less_sessions m kept_part left rs ≡ Some rest
      → SessionsTaken left rest rs
  sessions_taken left [] rest e =
      let same : left ≡ rest = some_is left rest e in
      (λ r h. absurd h, omega (arith, same))
  sessions_taken left (r ∷ rs) rest e =
      let (mid, f, g) = some_then (λ (rest : ℕ). less_sessions m kept_part rest rs)
      (less_parts m kept_part r.id left r.parts) rest e in
      let one = parts_taken r.id left r.parts mid f in
      let more = sessions_taken mid rs rest g in (
        λ s h. elim h [
          | inl same ↦ subst (λ (s : Record). AreRight s.id s.parts) same one.0
          | inr i ↦ more.0 s i
        ],
        omega (
          arith,
          one.1,
          more.1,
          sum_by-append (target_weight (kept ss)) (session_modules r) (flat_map session_modules rs),
        ),
      )

  pub sessions_take : (left : ℕ) (rs : List Record) (rest : ℕ) → SessionsTaken left rest rs
      → less_sessions m kept_part left rs ≡ Some rest
  sessions_take left [] rest f =
      let same : left ≡ rest = omega (arith, f.1) in
      ap (λ (n : ℕ). Some n) same
  sessions_take left (r ∷ rs) rest f =
      let mid = weigh (flat_map session_modules rs) + rest in
      let one = parts_take r.id left r.parts mid (
        f.0 r (inl refl),
        omega (
          arith,
          f.1,
          sum_by-append (target_weight (kept ss)) (session_modules r) (flat_map session_modules rs),
        ),
      ) in
      ap (option_and_then (λ (rest : ℕ). less_sessions m kept_part rest rs)) one
      ∙ sessions_take mid rs rest (λ s h. f.0 s (inr h), refl)
