-- The modules that rows open to, by any sessions: each is that of a part that is kept, and no part has two where each
-- ordinary session has its own parts, and that of a rollback none. Callers want `got_in`, `is_opened`, `mods_back`,
-- `mods_there`, `mod_found` and `modules_distinct`.
use Rattle.std.proofs.Common.{◌≡◌, ◌≢◌, ℕ, zero, suc, ◌+◌, ◌≤◌, Bool, true, false, cond, eqb, ◌&&◌, List, [], ◌∷◌}
use Rattle.std.proofs.Common.{◌++◌, flat_map, Option, Some, sym, ap, subst, ◌∙◌, refl, inl, inr, arith}
use Rattle.std.specs.Prelude.{slice_get}
use Rattle.std.specs.Option.{option_map}
use Rattle.std.proofs.lemmas.Bool.{and_parts, and_from, eqb-true, eq-eqb}
use Rattle.apex_base.specs.declared.numbers.SessionId.{SessionId}
use Rattle.apex_base.specs.declared.records.Part.{Part}
use Rattle.apex_base.specs.declared.records.Record.{Record}
use Rattle.apex_base.specs.declared.records.Target.{Target}
use Rattle.apex_base.specs.declared.records.Target.TheVariants as targets
use Rattle.apex_base.specs.Held.{kept, is_target}
use Rattle.apex_base.specs.Keys.{RowMap}
use Rattle.apex_base.specs.Members.{In}
use Rattle.apex_base.specs.Modules.{FileMap}
use Rattle.apex_base.specs.Sessions.{Ascend}
use Rattle.apex_base.proofs.Finding.{found, finds}
use Rattle.apex_base.proofs.MemberLemmas.{in_append, in_flat_map, in_flat_map_back, in_any, each_in, in_each}
use Rattle.apex_world.specs.declared.world.Submission.{Submission}
use Rattle.apex_world.specs.Lawful.{AreOwn}
use Rattle.apex_world.specs.Opened.{opened_files, opened_module, opened_modules}
use Rattle.apex_base.specs.Commit.{undoes}
use Rattle.apex_world.specs.Selection.{submitted_by}
use Rattle.world_facts.proofs.facts.OpenedSessions.{below_each}
use Rattle.world_facts.proofs.facts.OwnTargets.{target_part}
use Rattle.world_facts.proofs.facts.RowWeightLemmas.{AreDistinct}
use Rattle.world_facts.proofs.facts.WorldRows.{same_id}

-- what stands at a place is there
pub got_in : {X : Type 0} (xs : List X) (k : ℕ) (x : X) → slice_get xs k ≡ Some x → In x xs
got_in [] k x e = absurd (cc)
got_in (y ∷ ys) zero x e = inl (cc)
got_in (y ∷ ys) (suc k) x e = inr (got_in ys k x e)

distinct_append : (xs ys : List Submission) → AreDistinct xs → AreDistinct ys
    → ((x y : Submission) → In x xs → In y ys → x.session.0 ≡ y.session.0 → x.part ≢ y.part) → AreDistinct (xs ++ ys)
distinct_append [] ys a b apart = b
distinct_append (x ∷ xs) ys a b apart = (
  in_each (λ (y : Submission). x.session.0 ≡ y.session.0
      → x.part ≢ y.part) (xs ++ ys) (λ y h. elim (in_append y xs ys h) [
        | inl i ↦ each_in (λ (y : Submission). x.session.0 ≡ y.session.0 → x.part ≢ y.part) xs a.0 y i
        | inr i ↦ apart x y (inl refl) i
      ]),
  distinct_append xs ys a.1 b (λ u v h i. apart u v (inr h) i),
)

none_distinct : (ms : List Submission) → ((s : Submission) → In s ms → ⊥) → AreDistinct ms
none_distinct [] d = tt
none_distinct (s ∷ ms) d = absurd (d s (inl refl))

distinct_if : (b : Bool) (s : Submission) → AreDistinct (cond b (s ∷ []) [])
distinct_if true s = (tt, tt)
distinct_if false s = tt

module _ (m : RowMap) (ss : List Record) where
  abbrev pub mods : List Submission
  mods = opened_modules m ss

  abbrev pub part_modules : SessionId → Part → List Submission
  part_modules id p = opened_module m ss id p.target

  abbrev pub module_of : SessionId → ℕ → Submission
  module_of session part = record { session = session; part = part; content = opened_files m session part }

  -- What an opened module is

  pub record IsOpened (id : SessionId) (t : Target) (s : Submission) : Type 0 where
    pub session : s.session ≡ id
    pub content : s.content ≡ opened_files m s.session s.part
    pub kept : is_target (kept ss) s.session s.part ≡ true
    pub version : ℕ
    pub target : t ≡ targets.Module s.session s.part version

  opened_if : (b : Bool) (id session : SessionId) (part version : ℕ) (s : Submission)
      → (eqb session.0 id.0 && is_target (kept ss) session part) ≡ b
      → In s (cond b (module_of session part ∷ []) []) → IsOpened id (targets.Module session part version) s
  opened_if true id session part version s e (inl f) =
      let (same, k) = and_parts (eqb session.0 id.0) (is_target (kept ss) session part) e in
      subst (IsOpened id (targets.Module session part version)) f
      (record {
        session = same_id session id (eqb-true session.0 id.0 same);
        content = refl;
        kept = k;
        version = version;
        target = refl;
      })
  opened_if true id session part version s e (inr h) = absurd h
  opened_if false id session part version s e h = absurd h

  pub is_opened : (id : SessionId) (t : Target) (s : Submission) → In s (opened_module m ss id t) → IsOpened id t s
  is_opened id targets.Preinstalled s h = absurd h
  is_opened id (targets.Module session part version) s h =
      opened_if (eqb session.0 id.0 && is_target (kept ss) session part) id session part version s refl h

  -- the part that it is of
  pub mods_back : (s : Submission) → In s mods → (r : Record) × (p : Part) × In r ss × In p r.parts
      × In s (part_modules r.id p)
  mods_back s h =
      let (r, i, j) = in_flat_map_back (λ (r : Record). flat_map (part_modules r.id) r.parts) s ss h in
      let (p, k, l) = in_flat_map_back (part_modules r.id) s r.parts j in
      (r, p, i, k, l)

  pub mods_there : (r : Record) (p : Part) (s : Submission) → In r ss → In p r.parts → In s (part_modules r.id p)
      → In s mods
  mods_there r p s h i j =
      in_flat_map (λ (r : Record). flat_map (part_modules r.id) r.parts) r s ss h
      (in_flat_map (part_modules r.id) p s r.parts i j)

  pub content_of : (s : Submission) → In s mods → s.content ≡ opened_files m s.session s.part
  content_of s h = let (r, p, i, j, k) = mods_back s h in (is_opened r.id p.target s k).content

  -- and it is found, where it is one of them
  pub mod_found : (session : SessionId) (part : ℕ) → In (module_of session part) mods
      → submitted_by mods session part ≡ Some (opened_files m session part)
  mod_found session part there =
      let test : Submission → Bool = λ s. eqb s.session.0 session.0 && eqb s.part part in
      let any = in_any test (module_of session part) mods there
      (and_from _ _ (eq-eqb session.0 session.0 refl) (eq-eqb part part refl)) in
      let (s, g) = finds test mods any in
      let (h, t) = found test mods s g in
      let both = and_parts (eqb s.session.0 session.0) (eqb s.part part) t in
      let a : s.session ≡ session = same_id s.session session (eqb-true s.session.0 session.0 both.0) in
      let b : s.part ≡ part = eqb-true s.part part both.1 in
      ap (λ (o : Option Submission). option_map (λ (s : Submission). s.content) o) g
      ∙ ap (λ (c : FileMap). Some c) (content_of s h ∙ ap (λ (id : SessionId). opened_files m id s.part) a
      ∙ ap (λ (k : ℕ). opened_files m session k) b)

  -- No part stands twice

  one_module : (id : SessionId) (t : Target) → AreDistinct (opened_module m ss id t)
  one_module id targets.Preinstalled = tt
  one_module id (targets.Module session part version) =
      distinct_if (eqb session.0 id.0 && is_target (kept ss) session part) (module_of session part)

  own_part : (id : SessionId) (k version : ℕ) (p : Part) (s : Submission) → p.target ≡ targets.Module id k version
      → In s (part_modules id p) → s.part ≡ k
  own_part id k version p s e h =
      let o = is_opened id p.target s h in
      ap target_part (sym o.target ∙ e)

  session_modules : (id : SessionId) (k : ℕ) (ps : List Part) → AreOwn id k ps
      → AreDistinct (flat_map (part_modules id) ps) × ((x : Submission) → In x (flat_map (part_modules id) ps)
      → k ≤ x.part)
  session_modules id k [] a = (tt, λ x h. absurd h)
  session_modules id k (p ∷ ps) a =
      let (rest, rests) = session_modules id (k + 1) ps a.1 in (
        distinct_append (part_modules id p) (flat_map (part_modules id) ps) (one_module id p.target) rest
            (λ x y h i same e.
            let j = own_part id k a.0.0 p x a.0.1 h in
            let l = rests y i in
            omega (arith, j, l, e)),
        λ x h. elim (in_append x (part_modules id p) (flat_map (part_modules id) ps) h) [
          | inl i ↦ let j = own_part id k a.0.0 p x a.0.1 i in omega (arith, j)
          | inr i ↦ let l = rests x i in omega (arith, l)
        ],
      )

  module_session : (r : Record) (s : Submission) → In s (flat_map (part_modules r.id) r.parts) → s.session.0 ≡ r.id.0
  module_session r s h =
      let (p, j, l) = in_flat_map_back (part_modules r.id) s r.parts h in
      ap (λ (id : SessionId). id.0) (is_opened r.id p.target s l).session

  module _ (own : (r : Record) → In r ss → undoes r.kind ≡ false → AreOwn r.id 0 r.parts)
      (none : (r : Record) (p : Part) (s : Submission) → In r ss → In p r.parts → undoes r.kind ≡ true
      → In s (part_modules r.id p) → ⊥) where
    record_if : (b : Bool) (r : Record) → undoes r.kind ≡ b → In r ss
        → AreDistinct (flat_map (part_modules r.id) r.parts)
    record_if false r e h = (session_modules r.id 0 r.parts (own r h e)).0
    record_if true r e h = none_distinct _ (λ s i.
        let (p, j, l) = in_flat_map_back (part_modules r.id) s r.parts i in
        none r p s h j e l)

    all_modules : (rs : List Record) → Ascend rs → ((r : Record) → In r rs → In r ss)
        → AreDistinct (flat_map (λ (r : Record). flat_map (part_modules r.id) r.parts) rs)
    all_modules [] a own = tt
    all_modules (r ∷ rs) a own =
        distinct_append (flat_map (part_modules r.id) r.parts)
        (flat_map (λ (r : Record). flat_map (part_modules r.id) r.parts) rs)
        (record_if (undoes r.kind) r refl (own r (inl refl))) (all_modules rs a.1 (λ s h. own s (inr h)))
        (λ x y h i same.
        let (s, j, k) = in_flat_map_back (λ (r : Record). flat_map (part_modules r.id) r.parts) y rs i in
        let u = module_session r x h in
        let v = module_session s y k in
        let l = below_each r s rs a.0 j in
        absurd (omega (arith, u, v, l, same)))

    pub modules_distinct : Ascend ss → AreDistinct mods
    modules_distinct a = all_modules ss a (λ r h. h)
