-- The session of an id, among those that rows open to, is what its row spells. Callers want `session_in`,
-- `sessions_ascend`, `is_record_in` and `session_id`.
use Rattle.std.proofs.Common.{◌≡◌, ℕ, ◌<◌, ◌^◌, ltb, List, [], ◌∷◌, Option, Some, None, sym, ap, subst, ◌∙◌, refl}
use Rattle.std.specs.Prelude.{option_and_then, IfSome}
use Rattle.std.specs.Int.{w32}
use Rattle.std.specs.FinMap as fin
use Rattle.std.proofs.lemmas.Bool.{ltb-true}
use Rattle.apex_base.specs.declared.numbers.SessionId.{SessionId}
use Rattle.apex_base.specs.declared.records.Record.{Record}
use Rattle.apex_base.specs.Keys.{RecordOf, key_text, RowMap}
use Rattle.apex_base.specs.Members.{In}
use Rattle.apex_base.specs.Reading.{◌>>=◌, at_end, byte_at, number_at}
use Rattle.apex_base.specs.Sessions.{session_of, Ascend}
use Rattle.apex_base.specs.Spelling.{record_of, state_at, kind_at, rollback_at, moment_at, print_at, cause_at}
use Rattle.apex_base.specs.Spelling.{parts_at, children_of}
use Rattle.apex_base.proofs.Finding.{some_if, some_then}
use Rattle.apex_base.proofs.SessionLemmas.{of_found, of_in}
use Rattle.apex_world.specs.Opened.{record_in, opened_sessions}
use Rattle.world_facts.proofs.facts.WorldRows.{same_id}
use Rattle.world_facts.proofs.facts.PlacedSessions.{in_ids, opened_ascend, opened_known, opened_there}

-- What is read has the id that it is read for

pub any_holds : {A B : Type 0} (o : Option A) (f : A → Option B) (Q : B → Type 0) → ((x : A) → IfSome (f x) Q)
    → IfSome (o >>= f) Q
any_holds None f Q all = tt
any_holds (Some x) f Q all = all x

pub end_holds : {X : Type 0} (x : X) (rest : List ℕ) (Q : X → Type 0) → Q x → IfSome (at_end x rest) Q
end_holds x [] Q h = h
end_holds x (b ∷ rest) Q h = tt

pub read_id : (id : SessionId) (bytes : List ℕ) → IfSome (record_of id bytes) (λ r. r.id ≡ id)
unfolding record_of
read_id id bytes =
    any_holds (state_at bytes) _ _ (λ phase. any_holds (kind_at phase.1) _ _ (λ kind.
    any_holds (rollback_at kind.1) _ _ (λ rollback. any_holds (moment_at rollback.1) _ _ (λ moment.
    any_holds (number_at w32 moment.1) _ _ (λ activation. any_holds (print_at activation.1) _ _ (λ print.
    any_holds (cause_at print.1) _ _ (λ cause. any_holds (byte_at cause.1) _ _ (λ count.
    any_holds (byte_at count.1) _ _ (λ few. any_holds (parts_at count.0 few.1) _ _ (λ parts.
    any_holds (children_of few.0 count.0 parts.0) _ _ (λ children. end_holds _ parts.1 _ refl)))))))))))

module _ (m : RowMap) where
  -- what a row spells, and its bytes
  pub is_record_in : (id : SessionId) (r : Record) → record_in m id ≡ Some r
      → (id.0 < 2 ^ 32) × (r.id ≡ id) × (bytes : List ℕ) × (fin.get m (key_text (RecordOf id)) ≡ Some bytes)
      × (record_of id bytes ≡ Some r)
  is_record_in id r e =
      let (low, f) = some_if (ltb id.0 4294967296) (option_and_then (record_of id)
      (fin.get m (key_text (RecordOf id)))) r e in
      let (bytes, g, h) = some_then (record_of id) (fin.get m (key_text (RecordOf id))) r f in (
        ltb-true id.0 4294967296 low,
        subst (λ (o : Option Record). IfSome o (λ r. r.id ≡ id)) h (read_id id bytes),
        bytes,
        g,
        h,
      )

  -- a session that its own row spells
  abbrev Own : Record → Type 0
  Own r = record_in m r.id ≡ Some r

  own : (id : SessionId) (r : Record) → record_in m id ≡ Some r → Own r
  own id r e = ap (record_in m) (is_record_in id r e).1 ∙ e

  one_own : (r s : Record) → Own r → Own s → r.id.0 ≡ s.id.0 → r ≡ s
  one_own r s a b e = let same : Some r ≡ Some s = sym a ∙ ap (record_in m) (same_id r.id s.id e) ∙ b in cc same

  -- they ascend, and each is what its own row spells
  pub sessions_ascend : Ascend (opened_sessions m)
  sessions_ascend = opened_ascend m

  pub session_row : (r : Record) → In r (opened_sessions m) → record_in m r.id ≡ Some r
  session_row r h = opened_known m Own one_own own r h

  pub session_id : (r : Record) → In r (opened_sessions m) → r.id.0 < 2 ^ 32
  session_id r h = (is_record_in r.id r (session_row r h)).0

  pub session_there : (id : SessionId) (r : Record) → record_in m id ≡ Some r → In r (opened_sessions m)
  session_there id r e =
      let (l, same, bytes, f, g) = is_record_in id r e in
      opened_there m Own one_own own id r (in_ids m id bytes l f) e

  session_if : (id : SessionId) (o p : Option Record) → session_of (opened_sessions m) id ≡ o → record_in m id ≡ p
      → o ≡ p
  session_if id (Some r) p e f =
      let (h, same) = of_found (opened_sessions m) id r e in
      let there : record_in m id ≡ Some r = ap (record_in m) (sym (same_id r.id id same)) ∙ session_row r h in
      sym there ∙ f
  session_if id None None e f = refl
  session_if id None (Some r) e f =
      let h = session_there id r f in
      let there : session_of (opened_sessions m) id ≡ Some r =
      ap (λ (x : SessionId). session_of (opened_sessions m) x) (sym (is_record_in id r f).1)
      ∙ of_in (opened_sessions m) r sessions_ascend h in
      absurd (cc (e, there))

  -- the session of an id is what the row of that id spells
  pub session_in : (id : SessionId) → session_of (opened_sessions m) id ≡ record_in m id
  session_in id = session_if id (session_of (opened_sessions m) id) (record_in m id) refl refl
