-- The rows of a lawful world open to its kept modules. Callers want `modules_kept`, `modules_distinct`, `modules_owned`
-- and `weight_again`.
use Rattle.std.proofs.Common.{◌≡◌, ◌≢◌, ℕ, ◌≤◌, Bool, true, false, cond, IsTrue, List, Option, Some, None, sym, ap}
use Rattle.std.proofs.Common.{subst, ◌∙◌, refl, inl, inr, arith}
use Rattle.std.specs.Prelude.{is_some, slice_get, IfSome}
use Rattle.std.specs.FinMap as fin
use Rattle.std.proofs.lemmas.Bool.{eq-eqb}
use Rattle.apex_base.specs.declared.numbers.SessionId.{SessionId}
use Rattle.apex_base.specs.declared.records.Part.{Part}
use Rattle.apex_base.specs.declared.records.Record.{Record}
use Rattle.apex_base.specs.declared.records.Target.TheVariants as targets
use Rattle.apex_base.specs.Held.{kept, is_target}
use Rattle.apex_base.specs.Keys.{file_front, ends_of}
use Rattle.apex_base.specs.Members.{In}
use Rattle.apex_base.specs.Modules.{FileMap, module_weight}
use Rattle.apex_base.specs.Sessions.{session_of}
use Rattle.apex_base.specs.Text.{is_path}
use Rattle.apex_base.proofs.Finding.{some_then}
use Rattle.apex_base.proofs.RowMaps.{same_names, tabulated, in_ends}
use Rattle.apex_base.proofs.SessionLemmas.{of_found}
use Rattle.apex_base.proofs.SumLemmas.{Matched, sum_most, pairs_map}
use Rattle.apex_world.specs.declared.world.Submission.{Submission}
use Rattle.apex_world.specs.Lawful.{Lawful, part_at_place}
use Rattle.apex_world.specs.Limits.{target_weight, weight_of}
use Rattle.apex_world.specs.Opened.{path_in, opened_files}
use Rattle.apex_world.specs.Rows.{rows}
use Rattle.apex_world.specs.Selection.{submitted_by}
use Rattle.apex_world.specs.World.{World}
use Rattle.world_facts.proofs.facts.HeldModules.{target_kept, kept_file}
use Rattle.world_facts.proofs.facts.ModulesOpened as opened
use Rattle.world_facts.proofs.facts.ModulesOpened.{got_in}
use Rattle.world_facts.proofs.facts.OwnTargets.{not_own}
use Rattle.world_facts.proofs.facts.RowWeightLemmas.{AreDistinct, own_files}
use Rattle.world_facts.proofs.facts.WorldRows.{submission_of}

path_if : (b : Bool) (path : List ℕ) (o p : Option (List ℕ)) → is_path path ≡ b → o ≡ p
    → IfSome p (λ x. IsTrue (is_path path)) → cond b o None ≡ p
path_if true path o p is e is_named = e
path_if false path o None is e is_named = refl
path_if false path o (Some x) is e is_named = absurd (cc (is, is_named))

-- Lists of modules that have the files of what is kept

abbrev pub HaveSameFiles : List Record → List Submission → List Submission → Type 0
HaveSameFiles ss ms ms' = (session : SessionId) (part : ℕ) → is_target (kept ss) session part ≡ true
    → submitted_by ms session part ≡ submitted_by ms' session part

abbrev place : Submission → ℕ × ℕ
place s = (s.session.0, s.part)

matched_if : (ss : List Record) (ms' : List Submission) (b : Bool) (x : Submission)
    → is_target (kept ss) x.session x.part ≡ b → (b ≡ true → submitted_by ms' x.session x.part ≡ Some x.content)
    → Matched (target_weight (kept ss)) place x ms'
matched_if ss ms' false x e f = inl (rw e refl)
matched_if ss ms' true x e f =
    let (y, h, es, ep, ec) = submission_of ms' x.session x.part x.content (f refl) in
    let key : is_target (kept ss) y.session y.part ≡ true =
    ap (λ (id : SessionId). is_target (kept ss) id y.part) es
    ∙ ap (λ (n : ℕ). is_target (kept ss) x.session n) ep ∙ e in
    let same : place x ≡ place y = ap (λ (id : SessionId). (id.0, x.part)) (sym es)
    ∙ ap (λ (n : ℕ). (y.session.0, n)) (sym ep) in
    inr (y, h, same, rw (e, key) (ap module_weight (sym ec)))

half : (ss : List Record) (ms ms' : List Submission) → AreDistinct ms → HaveSameFiles ss ms ms'
    → weight_of ss ms ≤ weight_of ss ms'
half ss ms ms' a same =
    sum_most (target_weight (kept ss)) place ms ms'
    (pairs_map (λ (s t : Submission). s.session.0 ≡ t.session.0
    → s.part ≢ t.part) (λ (s t : Submission). place s ≢ place t)
    (λ x y d e. d (ap (λ (p : ℕ × ℕ). p.0) e) (ap (λ (p : ℕ × ℕ). p.1) e)) ms a)
    (λ x h. matched_if ss ms' (is_target (kept ss) x.session x.part) x refl (λ e. sym (same x.session x.part e)
    ∙ own_files ms x a h))

-- they weigh the same
pub weight_same : (ss : List Record) (ms ms' : List Submission) → AreDistinct ms → AreDistinct ms'
    → HaveSameFiles ss ms ms' → weight_of ss ms ≡ weight_of ss ms'
weight_same ss ms ms' a b same = let l = half ss ms ms' a same in
    let m = half ss ms' ms b (λ session part e. sym (same session part e)) in omega (arith, l, m)

module _ (w : World) (law : Lawful w) where
  abbrev pub mods : List Submission
  mods = opened.mods (rows w) w.sessions

  abbrev module_of : SessionId → ℕ → Submission
  module_of session part = opened.module_of (rows w) w.sessions session part

  pub mods_back : (s : Submission) → In s mods → (r : Record) × (p : Part) × In r w.sessions × In p r.parts
      × opened.IsOpened (rows w) w.sessions r.id p.target s
  mods_back s h =
      let (r, p, i, j, k) = opened.mods_back (rows w) w.sessions s h in
      (r, p, i, j, opened.is_opened (rows w) w.sessions r.id p.target s k)

  -- The modules that are kept

  files_same : (session : SessionId) (part : ℕ) → is_target (kept w.sessions) session part ≡ true
      → (content : FileMap) → submitted_by w.modules session part ≡ Some content
      → opened_files (rows w) session part ≡ content
  files_same session part k content e =
      let (s, h, es, ep, ec) = submission_of w.modules session part content e in
      let sound = law.ranges.modules s h in
      same_names _ _ (λ path.
      let file = kept_file w law session part k content e path in
      let value : path_in (rows w) session part path ≡ fin.get content path =
      path_if (is_path path) path (fin.get (rows w) (file_front session part path)) (fin.get content path) refl file
      (subst (λ (m : FileMap). IfSome (fin.get m path) (λ x. IsTrue (is_path path))) ec (sound.paths path)) in
      tabulated (path_in (rows w) session part) (ends_of 6 (rows w)) path
      (λ v f. in_ends 6 (rows w) (file_front session part path) v (file ∙ sym value ∙ f)) ∙ value)

  mod_there : (session : SessionId) (part : ℕ) → is_target (kept w.sessions) session part ≡ true
      → In (module_of session part) mods
  mod_there session part k =
      let (version, is) = target_kept w law session part k in
      let (r, f, g) = some_then (λ (r : Record). slice_get r.parts part) (session_of w.sessions session)
      (record { name = is.name; version = Some version; target = targets.Module session part version }) is.says in
      let (h, same) = of_found w.sessions session r f in
      opened.mods_there (rows w) w.sessions r (record {
        name = is.name;
        version = Some version;
        target = targets.Module session part version;
      }) (module_of session part) h (got_in r.parts part _ g) (rw (eq-eqb session.0 r.id.0 (sym same), k) (inl refl))

  -- each is opened as it was submitted
  pub modules_kept : HaveSameFiles w.sessions mods w.modules
  modules_kept session part k =
      let (version, is) = target_kept w law session part k in
      opened.mod_found (rows w) w.sessions session part (mod_there session part k)
      ∙ ap (λ (m : FileMap). Some m) (files_same session part k is.content is.there) ∙ sym is.there

  -- and each has a session that was made
  pub modules_owned : (s : Submission) → In s mods → is_some (part_at_place w.sessions s.session s.part) ≡ true
  modules_owned s h =
      let (r, p, i, j, o) = mods_back s h in
      let (version, is) = target_kept w law s.session s.part o.kept in
      ap (λ (o : Option Part). is_some o) is.says

  pub modules_distinct : AreDistinct mods
  modules_distinct = opened.modules_distinct (rows w) w.sessions (λ r h e. (law.parts r h).own e)
      (λ r p s h j e i.
      let o = opened.is_opened (rows w) w.sessions r.id p.target s i in
      not_own w law r p s.session s.part o.version h j e o.target (ap (λ (id : SessionId). id.0) o.session))
      law.ids.ascend

  pub weight_again : weight_of w.sessions mods ≡ weight_of w.sessions w.modules
  weight_again = weight_same w.sessions mods w.modules modules_distinct law.modules.distinct modules_kept
