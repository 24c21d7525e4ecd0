-- What rows open to is in range, where they are the rows of that world: `opened_record`, `opened_moment` and
-- `opened_low`.
use Rattle.std.proofs.Common.{◌≡◌, ℕ, zero, suc, ◌<◌, ◌^◌, leb, eqb, Bool, true, false, cond, List, [], length}
use Rattle.std.proofs.Common.{Option, Some, None, sym, ap, subst, ◌∙◌, refl, arith}
use Rattle.std.specs.Prelude.{IfSome, option_and_then}
use Rattle.std.specs.Int.{w32, w64}
use Rattle.std.specs.List.{AllByRecursion}
use Rattle.std.specs.Option.{option_map}
use Rattle.std.specs.FinMap as fin
use Rattle.std.proofs.lemmas.Bool.{leb-true}
use Rattle.std.proofs.lemmas.List.{length-drop}
use Rattle.apex_base.specs.declared.numbers.Scale.{Scale}
use Rattle.apex_base.specs.declared.records.Record.{Record}
use Rattle.apex_base.specs.Keys.{Boots, RecordOf, RowMap, key_text}
use Rattle.apex_base.specs.Members.{In}
use Rattle.apex_base.specs.Numbers.{millis_of}
use Rattle.apex_base.specs.Ranges.{IsMillis}
use Rattle.apex_base.specs.Reading.{byte_at, number_at, four_text}
use Rattle.apex_base.specs.Spelling.{IsRecord, moment_at, record_text}
use Rattle.apex_base.specs.Windows.{last_five}
use Rattle.apex_base.proofs.MemberLemmas.{each_in}
use Rattle.apex_base.proofs.SessionLemmas.{of_in}
use Rattle.apex_world.specs.Opened.{moments_at, boots_of, boots_or_none, opened_boots, opened_sessions, opened}
use Rattle.apex_world.specs.Rows.{boots_row, boots_text}
use Rattle.apex_world.specs.World.{boots}
use Rattle.row_check.specs.BadRows.{opened_rows}
use Rattle.row_check.proofs.OpenedRecords.{any_holds, end_holds, is_record_in, session_row, sessions_ascend}
use Rattle.row_check.proofs.OpenedWorld.{opened_row}
use Rattle.session_check.specs.LawfulSessions.{AreLawfulSessions}
use Rattle.apex_base.proofs.ByteLists.{AreBytes}
use Rattle.session_record.proofs.Steps.{bind_holds, Took}
use Rattle.session_record.proofs.Took.{taken_holds, four_took}
use Rattle.session_record.proofs.TookRecords.{read_is_spelled}
use Rattle.world_check.proofs.FitTexts.{HasTexts, boots_fit, record_fit, fit_bytes}
use Rattle.world_check.proofs.ReadTexts.{read_texts}
use Rattle.world_check.proofs.SmallParts.{have_room}

-- Sessions

module _ (m : RowMap) (scale : Scale) (right : opened_rows m scale ≡ m)
    (law : AreLawfulSessions (opened_boots m).0 (opened_sessions m)) where
  -- a session's row is its spelling
  row_spells : (r : Record) (bytes : List ℕ) → In r (opened_sessions m)
      → fin.get m (key_text (RecordOf r.id)) ≡ Some bytes → bytes ≡ record_text r
  row_spells r bytes h e =
      let low = (is_record_in m r.id r (session_row m r h)).0 in
      let there : fin.get m (key_text (RecordOf r.id)) ≡ Some (record_text r) =
      ap (λ (rows : RowMap). fin.get rows (key_text (RecordOf r.id))) (sym right)
      ∙ opened_row m scale (RecordOf r.id) low
      ∙ ap (option_map record_text) (of_in (opened_sessions m) r (sessions_ascend m) h) in
      cc (e, there)

  pub opened_record : (r : Record) → In r (opened_sessions m) → IsRecord r
  opened_record r h =
      let (low, same, bytes, there, read) = is_record_in m r.id r (session_row m r h) in
      let text = row_spells r bytes h there in
      let texts : HasTexts r = subst (λ (o : Option Record). IfSome o HasTexts) read (read_texts r.id bytes) in
      let fit = record_fit r (have_room (opened_boots m).0 (opened_sessions m) law r h) texts in
      (read_is_spelled r.id bytes r low (rw text (fit_bytes (record_text r) fit)) read).1.is_record

-- Moments

moment_read : (bytes : List ℕ) → IfSome (moment_at bytes) (λ x. IsMillis x.0)
unfolding moment_at
moment_read bytes =
    any_holds (number_at w64 bytes) _ _ (λ n. bind_holds (millis_of n.0) _ IsMillis _
    (taken_holds (leb n.0 9007199254740991) n.0 _ (λ e. leb-true _ _ e)) (λ moment is. is))

moments_read : (n : ℕ) (bytes : List ℕ) → IfSome (moments_at n bytes) (AllByRecursion IsMillis)
unfolding moments_at
moments_read zero bytes = end_holds [] bytes (AllByRecursion IsMillis) tt
moments_read (suc n) bytes =
    bind_holds (moment_at bytes) _ _ _ (moment_read bytes) (λ moment is.
    bind_holds (moments_at n moment.1) _ _ _ (moments_read n moment.1) (λ more are. (is, are)))

boots_read : (bytes : List ℕ) → IfSome (boots_of bytes) (λ b. AllByRecursion IsMillis b.1)
unfolding boots_of
boots_read bytes =
    any_holds (number_at w32 bytes) _ _ (λ n. any_holds (byte_at n.1) _ _ (λ count.
    bind_holds (moments_at count.0 count.1) _ _ _ (moments_read count.0 count.1) (λ moments are. are)))

boots_or : (o : Option (ℕ × List ℕ)) → IfSome o (λ b. AllByRecursion IsMillis b.1)
    → AllByRecursion IsMillis (boots_or_none o).1
boots_or None are = tt
boots_or (Some b) are = are

row_read : (o : Option (List ℕ)) → IfSome (option_and_then boots_of o) (λ b. AllByRecursion IsMillis b.1)
row_read None = tt
row_read (Some bytes) = boots_read bytes

pub opened_moment : (m : RowMap) (moment : ℕ) → In moment (opened_boots m).1 → IsMillis moment
opened_moment m moment h =
    each_in IsMillis (opened_boots m).1 (boots_or _ (row_read (fin.get m (key_text Boots)))) moment h

-- The number of boots

low_boots : (bytes : List ℕ) → AreBytes bytes → IfSome (boots_of bytes) (λ b. b.0 < 2 ^ 32)
unfolding boots_of
low_boots bytes fits =
    bind_holds (number_at w32 bytes) _ (λ n. n.0 < 2 ^ 32) _
    (if_some (λ (n : ℕ × List ℕ). Took bytes (four_text n.0 n.1) n.1) (λ n. n.0 < 2 ^ 32) (number_at w32 bytes)
    (four_took bytes fits)) (λ n low. any_holds (byte_at n.1) _ _ (λ count.
    any_holds (moments_at count.0 count.1) _ _ (λ moments. low)))
  where
    if_some : {A : Type 0} (P Q : A → Type 0) (o : Option A) → IfSome o (λ x. P x × Q x) → IfSome o Q
    if_some P Q None h = tt
    if_some P Q (Some x) h = h.1

few_moments : (ms : List ℕ) → length (last_five ms) < 256
few_moments ms = omega (arith, length-drop {A = ℕ})

module _ (m : RowMap) (scale : Scale) (right : opened_rows m scale ≡ m) where
  -- the row of boots spells them
  boots_here : fin.get m (key_text Boots) ≡ boots_row (opened m scale)
  boots_here = ap (λ (rows : RowMap). fin.get rows (key_text Boots)) (sym right) ∙ opened_row m scale Boots tt

  spelled : (b : Bool) (bytes : List ℕ) (n : ℕ) (ms : List ℕ)
      → Some bytes ≡ cond b None (Some (boots_text n (last_five ms))) → AreBytes bytes
  spelled true bytes n ms e = absurd (cc)
  spelled false bytes n ms e =
      let same : bytes ≡ boots_text n (last_five ms) = cc in
      rw same (fit_bytes (boots_text n (last_five ms)) (boots_fit n (last_five ms) (few_moments ms)))

  low_or : (o : Option (ℕ × List ℕ)) → IfSome o (λ b. b.0 < 2 ^ 32) → (boots_or_none o).0 < 2 ^ 32
  low_or None low = omega arith
  low_or (Some b) low = low

  low_row : (o : Option (List ℕ)) → fin.get m (key_text Boots) ≡ o
      → (boots_or_none (option_and_then boots_of o)).0 < 2 ^ 32
  low_row None e = omega arith
  low_row (Some bytes) e =
      let w = opened m scale in
      low_or (boots_of bytes) (low_boots bytes (spelled (eqb (boots w) 0) bytes (boots w) w.moments
      (sym e ∙ boots_here)))

  pub opened_low : (opened_boots m).0 < 2 ^ 32
  opened_low = low_row (fin.get m (key_text Boots)) refl
