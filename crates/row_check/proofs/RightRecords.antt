-- Rows of sessions are right if and only if their values spell records. Callers want `record_right`.
use Rattle.std.proofs.Common.{◌≡◌, ℕ, ◌<◌, ◌^◌, Bool, true, cond, List, [], ◌∷◌, Option, Some, None, sym}
use Rattle.std.proofs.Common.{ap}
use Rattle.std.proofs.Common.{subst, ◌∙◌, refl}
use Rattle.std.specs.Prelude.{option_and_then, is_some, IfSome}
use Rattle.std.specs.Int.{w32, to_be_bytes}
use Rattle.std.specs.Option.{option_map}
use Rattle.std.specs.FinMap as fin
use Rattle.std.proofs.lemmas.Bool.{lt-ltb}
use Rattle.std.proofs.lemmas.List.{append-nil}
use Rattle.apex_base.specs.declared.numbers.Scale.{Scale}
use Rattle.apex_base.specs.declared.numbers.SessionId.{SessionId}
use Rattle.apex_base.specs.declared.records.Record.{Record}
use Rattle.apex_base.specs.Keys.{RecordOf, RowMap, id_text, id_of, key_text, key_of, record_key_of}
use Rattle.apex_base.specs.Reading.{◌>>=◌, number_at, at_end, four_text}
use Rattle.apex_base.specs.Spelling.{record_text, record_of, Spells}
use Rattle.apex_world.specs.Opened.{record_in}
use Rattle.apex_base.proofs.ByteLists.{AreBytes}
use Rattle.session_record.proofs.Steps.{Took}
use Rattle.session_record.proofs.Took.{four_took}
use Rattle.session_record.proofs.TookRecords.{record_took}
use Rattle.row_check.specs.BadRows.{opened_rows}
use Rattle.row_check.specs.RightRows.{is_value, is_record_row}
use Rattle.row_check.proofs.KeysRead.{same_value, no_key_row, key_row}
use Rattle.row_check.proofs.OpenedRecords.{session_in}

spelled_if : (id : SessionId) (o : Option Record) (value : List ℕ) → IfSome o (λ r. (r.id ≡ id) × Spells value r)
    → is_value (option_map record_text o) value ≡ is_some o
spelled_if id None value h = refl
spelled_if id (Some r) value h = subst (λ (v : List ℕ). is_value (Some (record_text r)) v ≡ true) (sym h.1.is_text)
    (same_value (record_text r))

module _ (m : RowMap) where
  -- what the row of an id spells
  pub record_here : (id : SessionId) (value : List ℕ) → id.0 < 2 ^ 32
      → fin.get m (key_text (RecordOf id)) ≡ Some value → record_in m id ≡ record_of id value
  record_here id value l e =
      ap (λ (b : Bool). cond b (option_and_then (record_of id) (fin.get m (key_text (RecordOf id)))) None)
      (lt-ltb id.0 4294967296 l) ∙ ap (option_and_then (record_of id)) e

-- an id that was read is the whole key
pub id_is : (rest : List ℕ) (n : ℕ) → AreBytes rest → number_at w32 rest ≡ Some (n, [])
    → (rest ≡ id_text (id_of n)) × (n < 2 ^ 32)
id_is rest n fits e =
    let t : Took rest (four_text n []) [] × (n < 2 ^ 32) =
    subst (λ (o : Option (ℕ × List ℕ)). IfSome o (λ x. Took rest (four_text x.0 x.1) x.1 × (x.0 < 2 ^ 32))) e
    (four_took rest fits) in
    (t.0.is ∙ append-nil (to_be_bytes w32 n), t.1)

module _ (m : RowMap) (scale : Scale) (rest value : List ℕ) where
  record_if : (o : Option (ℕ × List ℕ)) → fin.get m (2 ∷ rest) ≡ Some value → AreBytes rest → AreBytes value
      → number_at w32 rest ≡ o → is_value (fin.get (opened_rows m scale) (2 ∷ rest)) value
      ≡ is_some (o >>= (λ id. at_end (id_of id.0) id.1 >>= (λ id. record_of id value)))
  unfolding key_of record_key_of
  record_if None e fits fit f =
      ap (λ (o : Option (List ℕ)). is_value o value) (no_key_row m scale (2 ∷ rest) (rw f refl))
  record_if (Some (n, b ∷ more)) e fits fit f =
      ap (λ (o : Option (List ℕ)). is_value o value) (no_key_row m scale (2 ∷ rest) (rw f refl))
  record_if (Some (n, [])) e fits fit f =
      let (is, low) = id_is rest n fits f in
      let there : fin.get m (key_text (RecordOf (id_of n))) ≡ Some value =
      ap (λ (r : List ℕ). fin.get m (2 ∷ r)) (sym is) ∙ e in
      ap (λ (o : Option (List ℕ)). is_value o value)
      (key_row m scale (2 ∷ rest) (RecordOf (id_of n)) low (ap (λ (r : List ℕ). 2 ∷ r) is)
      ∙ ap (option_map record_text) (session_in m (id_of n) ∙ record_here m (id_of n) value low there))
      ∙ spelled_if (id_of n) (record_of (id_of n) value) value (record_took (id_of n) value low fit)

  -- a row of a session
  pub record_right : fin.get m (2 ∷ rest) ≡ Some value → AreBytes rest → AreBytes value
      → is_value (fin.get (opened_rows m scale) (2 ∷ rest)) value ≡ is_record_row rest value
  record_right e fits fit = record_if (number_at w32 rest) e fits fit refl
