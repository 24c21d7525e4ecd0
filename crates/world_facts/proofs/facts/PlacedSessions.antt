-- The sessions of rows, put in their places one after another. Callers want `in_ids`, `opened_ascend`, `opened_known`
-- and `opened_there`.
use Rattle.std.proofs.Common.{◌≡◌, ℕ, ◌<◌, ◌^◌, List, [], ◌∷◌, drop, Option, Some, None, sym, ap, subst, ◌∙◌, refl}
use Rattle.std.proofs.Common.{inl, inr}
use Rattle.std.specs.Prelude.{fold}
use Rattle.std.specs.Int.{w32, from_be_bytes}
use Rattle.std.specs.FinMap as fin
use Rattle.std.proofs.lemmas.Bool.{cases_eq}
use Rattle.std.proofs.lemmas.Nat.{from_be_bytes-to_be_bytes_4}
use Rattle.apex_base.specs.declared.numbers.SessionId.{SessionId}
use Rattle.apex_base.specs.declared.records.Record.{Record}
use Rattle.apex_base.specs.Keys.{RecordOf, key_text, RowMap}
use Rattle.apex_base.specs.Members.{In}
use Rattle.apex_base.specs.Sessions.{with_session, Ascend}
use Rattle.apex_base.proofs.MemberLemmas.{in_map}
use Rattle.apex_base.proofs.RowMaps.{in_ends}
use Rattle.apex_base.proofs.SessionLemmas.{ascend_with, with_self, with_others, with_any}
use Rattle.apex_world.specs.Opened.{record_in, with_some, ids_in, opened_sessions}

module _ (m : RowMap) where
  -- an id that has a row is among the ids of the rows
  pub in_ids : (id : SessionId) (bytes : List ℕ) → id.0 < 2 ^ 32 → fin.get m (key_text (RecordOf id)) ≡ Some bytes
      → In id (ids_in m)
  in_ids id bytes l e =
      subst (λ (id : SessionId). In id (ids_in m))
      (ap (λ (n : ℕ). record { 0 = n }) (from_be_bytes-to_be_bytes_4 id.0 l))
      (in_map (λ (bytes : List ℕ). record { 0 = from_be_bytes w32 bytes })
      (drop 1 (key_text (RecordOf id))) _ (in_ends 1 m (key_text (RecordOf id)) bytes e))

  abbrev next : List Record → SessionId → List Record
  next ss id = with_some (record_in m id) ss

  ascend_some : (o : Option Record) (ss : List Record) → Ascend ss → Ascend (with_some o ss)
  ascend_some None ss h = h
  ascend_some (Some r) ss h = ascend_with r ss h

  ascends : (ids : List SessionId) (ss : List Record) → Ascend ss → Ascend (fold next ss ids)
  ascends [] ss h = h
  ascends (id ∷ ids) ss h = ascends ids (next ss id) (ascend_some (record_in m id) ss h)

  -- they ascend
  pub opened_ascend : Ascend (opened_sessions m)
  opened_ascend = ascends (ids_in m) [] tt

  -- what is known of each session of a row, where it tells sessions of one id apart, is known of those that are opened
  module _ (Known : Record → Type 0) (one : (r s : Record) → Known r → Known s → r.id.0 ≡ s.id.0 → r ≡ s)
      (known : (id : SessionId) (r : Record) → record_in m id ≡ Some r → Known r) where
    back_some : (o : Option Record) (ss : List Record) (r : Record) → ((s : Record) → o ≡ Some s → Known s)
        → ((s : Record) → In s ss → Known s) → In r (with_some o ss) → Known r
    back_some None ss r new old i = old r i
    back_some (Some s) ss r new old i =
        elim (with_any s ss r i) [
          | inl e ↦ subst Known (sym e) (new s refl)
          | inr j ↦ old r j
        ]

    backs : (ids : List SessionId) (ss : List Record) (r : Record) → ((s : Record) → In s ss → Known s)
        → In r (fold next ss ids) → Known r
    backs [] ss r old i = old r i
    backs (id ∷ ids) ss r old i = backs ids (next ss id) r
        (λ s j. back_some (record_in m id) ss s (λ t e. known id t e) old j) i

    stays_some : (o : Option Record) (ss : List Record) (r : Record) → ((s : Record) → o ≡ Some s → Known s) → Known r
        → In r ss → In r (with_some o ss)
    stays_some None ss r new h i = i
    stays_some (Some s) ss r new h i =
        elim (cases_eq r.id.0 s.id.0) [
          | inl e ↦ subst (λ (x : Record). In x (with_session s ss)) (sym (one r s h (new s refl) e)) (with_self s ss)
          | inr d ↦ with_others s ss r i d
        ]

    stays : (ids : List SessionId) (ss : List Record) (r : Record) → Known r → In r ss → In r (fold next ss ids)
    stays [] ss r h i = i
    stays (id ∷ ids) ss r h i = stays ids (next ss id) r h
        (stays_some (record_in m id) ss r (λ s e. known id s e) h i)

    comes : (ids : List SessionId) (ss : List Record) (id : SessionId) (r : Record) → In id ids
        → record_in m id ≡ Some r → In r (fold next ss ids)
    comes [] ss id r h e = absurd h
    comes (x ∷ ids) ss id r (inl same) e =
        let at_x : record_in m x ≡ Some r = ap (record_in m) same ∙ e in
        stays ids (next ss x) r (known x r at_x) (subst (λ (o : Option Record). In r (with_some o ss)) (sym at_x)
        (with_self r ss))
    comes (x ∷ ids) ss id r (inr h) e = comes ids (next ss x) id r h e

    pub opened_known : (r : Record) → In r (opened_sessions m) → Known r
    opened_known r h = backs (ids_in m) [] r (λ s i. absurd i) h

    -- and a session of a row is opened
    pub opened_there : (id : SessionId) (r : Record) → In id (ids_in m) → record_in m id ≡ Some r
        → In r (opened_sessions m)
    opened_there id r h e = comes (ids_in m) [] id r h e
