-- What the rows of the world that rows open to have at each key. Callers want `opened_row` and `opened_found`.
use Rattle.std.proofs.Common.{◌≡◌, ℕ, ◌<◌, ◌^◌, Bool, true, false, cond, eqb, ◌&&◌, List, [], ◌∷◌, Some, sym, ap}
use Rattle.std.proofs.Common.{◌∙◌, refl, inl, inr, flat_map, arith}
use Rattle.std.specs.FinMap as fin
use Rattle.std.proofs.lemmas.Bool.{and_parts, eqb-true}
use Rattle.apex_base.specs.declared.numbers.Scale.{Scale}
use Rattle.apex_base.specs.declared.numbers.SessionId.{SessionId}
use Rattle.apex_base.specs.declared.records.Part.{Part}
use Rattle.apex_base.specs.declared.records.Record.{Record}
use Rattle.apex_base.specs.declared.records.Target.{Target}
use Rattle.apex_base.specs.declared.records.Target.TheVariants as targets
use Rattle.apex_base.specs.Held.{kept, is_target}
use Rattle.apex_base.specs.Keys.{Key, IsKey, key_text, RowMap}
use Rattle.apex_base.specs.Members.{In}
use Rattle.apex_base.proofs.MemberLemmas.{in_flat_map_back}
use Rattle.apex_base.proofs.RowMaps.{AreKeys, rows_at, rows_found}
use Rattle.apex_world.specs.declared.world.Submission.{Submission}
use Rattle.apex_world.specs.Opened.{opened_files, opened_module, opened_modules, opened_sessions, opened}
use Rattle.apex_world.specs.Rows.{row_at, row_keys, rows}
use Rattle.world_facts.proofs.facts.WorldRows.{wide_keys}
use Rattle.row_check.proofs.OpenedRecords.{session_id}

module _ (m : RowMap) (scale : Scale) where
  abbrev of_session : List Record → Record → Part → List Submission
  of_session ss r p = opened_module m ss r.id p.target

  module_if : (b : Bool) (id session : SessionId) (part : ℕ) (ss : List Record) (s : Submission)
      → (eqb session.0 id.0 && is_target (kept ss) session part) ≡ b
      → In s (cond b (record { session = session; part = part; content = opened_files m session part } ∷ []) [])
      → s.session.0 ≡ id.0
  module_if true id session part ss s e (inl f) =
      ap (λ (s : Submission). s.session.0) (sym f)
      ∙ eqb-true session.0 id.0 (and_parts (eqb session.0 id.0) (is_target (kept ss) session part) e).0
  module_if true id session part ss s e (inr h) = absurd h
  module_if false id session part ss s e h = absurd h

  module_session : (ss : List Record) (id : SessionId) (t : Target) (s : Submission)
      → In s (opened_module m ss id t) → s.session.0 ≡ id.0
  module_session ss id targets.Preinstalled s h = absurd h
  module_session ss id (targets.Module session part version) s h =
      module_if (eqb session.0 id.0 && is_target (kept ss) session part) id session part ss s refl h

  submitted : (s : Submission) → In s (opened_modules m (opened_sessions m)) → s.session.0 < 2 ^ 32
  submitted s h =
      let ss = opened_sessions m in
      let (r, i, j) = in_flat_map_back (λ (r : Record). flat_map (of_session ss r) r.parts) s ss h in
      let (p, k, l) = in_flat_map_back (of_session ss r) s r.parts j in
      let same = module_session ss r.id p.target s l in
      let low = session_id m r i in
      omega (arith, same, low)

  keys : AreKeys (row_keys (opened m scale)) (row_at (opened m scale))
  keys = wide_keys (opened m scale) (λ r h. session_id m r h) submitted

  -- at each key they have its row
  pub opened_row : (k : Key) → IsKey k → fin.get (rows (opened m scale)) (key_text k) ≡ row_at (opened m scale) k
  opened_row k i = rows_at (row_keys (opened m scale)) (row_at (opened m scale)) keys k i

  -- and each row is that of a key
  pub opened_found : (q v : List ℕ) → fin.get (rows (opened m scale)) q ≡ Some v
      → (t : Key) × IsKey t × (q ≡ key_text t) × (row_at (opened m scale) t ≡ Some v)
  opened_found q v e = rows_found (row_keys (opened m scale)) (row_at (opened m scale)) keys q v e
