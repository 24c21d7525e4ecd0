-- The rows of files, in the rows of the world that rows open to. Callers want `file_row_is`.
use Rattle.std.proofs.Common.{◌≡◌, ℕ, ◌<◌, ◌^◌, Bool, true, false, cond, eqb, ◌&&◌}
use Rattle.std.proofs.Common.{List, [], ◌∷◌, flat_map, Option, Some, None}
use Rattle.std.proofs.Common.{sym, ap, subst, ◌∙◌, refl, inl, inr}
use Rattle.std.specs.Prelude.{option_and_then, find}
use Rattle.std.specs.List.{list_any}
use Rattle.std.specs.Option.{option_map}
use Rattle.std.specs.FinMap as fin
use Rattle.std.proofs.lemmas.Bool.{and_parts, and_from, eqb-true, eq-eqb}
use Rattle.apex_base.specs.declared.numbers.Scale.{Scale}
use Rattle.apex_base.specs.declared.numbers.SessionId.{SessionId}
use Rattle.apex_base.specs.declared.records.Part.{Part}
use Rattle.apex_base.specs.declared.records.Record.{Record}
use Rattle.apex_base.specs.declared.records.Target.{Target}
use Rattle.apex_base.specs.declared.records.Target.TheVariants as targets
use Rattle.apex_base.specs.Held.{kept, is_module, is_target}
use Rattle.apex_base.specs.Keys.{FileOf, RowMap, file_front, ends_of}
use Rattle.apex_base.specs.Members.{In}
use Rattle.apex_base.specs.Modules.{FileMap}
use Rattle.apex_base.specs.Text.{is_path}
use Rattle.apex_base.proofs.Finding.{found, finds, some_if}
use Rattle.apex_base.proofs.MemberLemmas.{in_flat_map, in_flat_map_back, any_in, in_any}
use Rattle.apex_base.proofs.RowMaps.{tabulated, in_ends}
use Rattle.apex_world.specs.declared.world.Submission.{Submission}
use Rattle.apex_world.specs.Opened.{path_in, opened_files, opened_module, opened_modules, opened_sessions}
use Rattle.apex_world.specs.Selection.{submitted_by}
use Rattle.world_facts.proofs.facts.WorldRows.{same_id}
use Rattle.row_check.specs.BadRows.{opened_rows}
use Rattle.row_check.specs.RightRows.{has_own}
use Rattle.row_check.proofs.KeysRead.{key_row}

module _ (m : RowMap) (ss : List Record) (id : SessionId) (part : ℕ) where
  abbrev test : Submission → Bool
  test s = eqb s.session.0 id.0 && eqb s.part part

  abbrev own : Record → Bool
  own r = eqb r.id.0 id.0 && list_any (λ p. is_module id part p.target) r.parts

  abbrev of_record : SessionId → Part → List Submission
  of_record r p = opened_module m ss r p.target

  -- an opened module is the one that its session submitted
  record IsOwn (r : SessionId) (t : Target) (s : Submission) : Type 0 where
    content : s.content ≡ opened_files m s.session s.part
    version : ℕ
    target : t ≡ targets.Module s.session s.part version
    session : s.session.0 ≡ r.0

  own_if : (b : Bool) (r session : SessionId) (k version : ℕ) (s : Submission)
      → (eqb session.0 r.0 && is_target (kept ss) session k) ≡ b
      → In s (cond b (record { session = session; part = k; content = opened_files m session k } ∷ []) [])
      → IsOwn r (targets.Module session k version) s
  own_if true r session k version s e (inl f) =
      subst (IsOwn r (targets.Module session k version)) f
      (record {
        content = refl;
        version = version;
        target = refl;
        session = eqb-true session.0 r.0 (and_parts (eqb session.0 r.0) (is_target (kept ss) session k) e).0;
      })
  own_if true r session k version s e (inr h) = absurd h
  own_if false r session k version s e h = absurd h

  is_own : (r : SessionId) (t : Target) (s : Submission) → In s (opened_module m ss r t) → IsOwn r t s
  is_own r targets.Preinstalled s h = absurd h
  is_own r (targets.Module session k version) s h =
      own_if (eqb session.0 r.0 && is_target (kept ss) session k) r session k version s refl h

  own_found : (s : Submission) → In s (opened_modules m ss) → test s ≡ true
      → (s.content ≡ opened_files m id part) × (list_any own ss ≡ true)
  own_found s h t =
      let (r, i, j) = in_flat_map_back (λ (r : Record). flat_map (of_record r.id) r.parts) s ss h in
      let (p, k, l) = in_flat_map_back (of_record r.id) s r.parts j in
      let o = is_own r.id p.target s l in
      let (e, f) = and_parts (eqb s.session.0 id.0) (eqb s.part part) t in
      let a : s.session ≡ id = same_id s.session id (eqb-true s.session.0 id.0 e) in
      let b : s.part ≡ part = eqb-true s.part part f in
      let named : is_module id part p.target ≡ true = ap (is_module id part) o.target ∙ t in (
        o.content ∙ ap (λ (x : SessionId). opened_files m x s.part) a ∙ ap (λ (n : ℕ). opened_files m id n) b,
        in_any own r ss i (and_from (eqb r.id.0 id.0) (list_any (λ p. is_module id part p.target) r.parts)
            (eq-eqb r.id.0 id.0 (sym o.session ∙ ap (λ (x : SessionId). x.0) a))
            (in_any (λ (p : Part). is_module id part p.target) p r.parts k named)),
      )

  there : (r : SessionId) (t : Target) → is_target (kept ss) id part ≡ true → r.0 ≡ id.0
      → is_module id part t ≡ true → (s : Submission) × In s (opened_module m ss r t) × (test s ≡ true)
  there r targets.Preinstalled k same e = absurd (cc e)
  there r (targets.Module session n version) k same e =
      let (a, b) = and_parts (eqb session.0 id.0) (eqb n part) e in
      let is_id : session ≡ id = same_id session id (eqb-true session.0 id.0 a) in
      let is_part : n ≡ part = eqb-true n part b in
      let both : (eqb session.0 r.0 && is_target (kept ss) session n) ≡ true =
      and_from (eqb session.0 r.0) (is_target (kept ss) session n)
      (eq-eqb session.0 r.0 (ap (λ (x : SessionId). x.0) is_id ∙ sym same))
      (ap (λ (x : SessionId). is_target (kept ss) x n) is_id ∙ ap (λ (j : ℕ). is_target (kept ss) id j) is_part ∙ k) in
      (record { session = session; part = n; content = opened_files m session n }, rw both (inl refl), e)

  own_there : is_target (kept ss) id part ≡ true → list_any own ss ≡ true → list_any test (opened_modules m ss) ≡ true
  own_there k e =
      let (r, i, t) = any_in own ss e in
      let (f, g) = and_parts (eqb r.id.0 id.0) (list_any (λ p. is_module id part p.target) r.parts) t in
      let (p, j, h) = any_in (λ (p : Part). is_module id part p.target) r.parts g in
      let (s, l, u) = there r.id p.target k (eqb-true r.id.0 id.0 f) h in
      in_any test s (opened_modules m ss)
      (in_flat_map (λ (r : Record). flat_map (of_record r.id) r.parts) r s ss i
      (in_flat_map (of_record r.id) p s r.parts j l)) u

  files_if : (o : Option Submission) (b : Bool) → find test (opened_modules m ss) ≡ o → list_any own ss ≡ b
      → is_target (kept ss) id part ≡ true
      → option_map (λ s. s.content) o ≡ cond {A = Option FileMap} b (Some (opened_files m id part)) None
  files_if (Some s) b e f k =
      let (h, t) = found test (opened_modules m ss) s e in
      let (c, d) = own_found s h t in
      ap (λ (x : FileMap). Some x) c
      ∙ ap (λ (x : Bool). cond {A = Option FileMap} x (Some (opened_files m id part)) None) (sym d ∙ f)
  files_if None false e f k = refl
  files_if None true e f k =
      let (s, g) = finds test (opened_modules m ss) (own_there k f) in absurd (cc (e, g))

  path_here : (path : List ℕ) → fin.get (opened_files m id part) path ≡ path_in m id part path
  path_here path = tabulated (path_in m id part) (ends_of 6 m) path (λ v e.
      in_ends 6 m (file_front id part path) v (some_if (is_path path) (fin.get m (file_front id part path)) v e).1)

  own_path : (b : Bool) (path : List ℕ)
      → option_and_then (λ f. fin.get f path) (cond {A = Option FileMap} b (Some (opened_files m id part)) None)
      ≡ cond b (path_in m id part path) None
  own_path true path = path_here path
  own_path false path = refl

  kept_if : (b : Bool) (path : List ℕ) → is_target (kept ss) id part ≡ b
      → cond b (option_and_then (λ f. fin.get f path) (submitted_by (opened_modules m ss) id part)) None
      ≡ cond b (cond (list_any own ss) (path_in m id part path) None) None
  kept_if false path k = refl
  kept_if true path k =
      ap (option_and_then (λ (f : FileMap). fin.get f path))
      (files_if (find test (opened_modules m ss)) (list_any own ss) refl refl k)
      ∙ own_path (list_any own ss) path

-- a file is there where its module is kept, and its session has it as its own
pub file_row_is : (m : RowMap) (scale : Scale) (id : SessionId) (part : ℕ) (path : List ℕ) → id.0 < 2 ^ 32
    → fin.get (opened_rows m scale) (file_front id part path)
    ≡ cond (is_target (kept (opened_sessions m)) id part)
    (cond (has_own (opened_sessions m) id part) (path_in m id part path) None) None
file_row_is m scale id part path low =
    key_row m scale (file_front id part path) (FileOf id part path) low refl
    ∙ kept_if m (opened_sessions m) id part (is_target (kept (opened_sessions m)) id part) path refl
