-- The sessions that rows of tag 2 spell are those that the rows open to. Callers want `sessions_same`.
use Rattle.std.proofs.Common.{◌≡◌, ◌⊎◌, ℕ, suc, ◌<◌, ◌^◌, true, eqb, List, [], ◌∷◌, Option, Some}
use Rattle.std.proofs.Common.{None, sym, ap, subst}
use Rattle.std.proofs.Common.{◌∙◌, refl, inl, inr}
use Rattle.std.specs.Prelude.{IfSome}
use Rattle.std.specs.Int.{w32}
use Rattle.std.specs.Ordering.{nat_cmp}
use Rattle.std.specs.Cmp.Lexicographic.{slice_cmp}
use Rattle.std.specs.declared.cmp.Ordering.TheVariants.{Less}
use Rattle.std.specs.FinMap as fin
use Rattle.std.specs.FinMap.{is_sorted}
use Rattle.std.proofs.lemmas.Bool.{and_parts, eqb-true}
use Rattle.std.proofs.lemmas.Nat.{from_be_bytes-to_be_bytes_4}
use Rattle.apex_base.specs.declared.numbers.SessionId.{SessionId}
use Rattle.apex_base.specs.declared.records.Record.{Record}
use Rattle.apex_base.specs.Keys.{RecordOf, RowMap, key_text, id_text, id_of}
use Rattle.apex_base.specs.Members.{In}
use Rattle.apex_base.specs.Reading.{number_at}
use Rattle.apex_base.specs.Sessions.{Ascend}
use Rattle.apex_base.specs.Spelling.{record_of}
use Rattle.apex_base.proofs.Finding.{some_if}
use Rattle.apex_base.proofs.MemberLemmas.{each_in, in_each}
use Rattle.apex_base.proofs.RowMaps.{sorted_entries, entry_get, in_entries}
use Rattle.apex_base.proofs.SpellingLemmas.{four_again}
use Rattle.apex_world.specs.Opened.{opened_sessions}
use Rattle.world_facts.proofs.facts.OpenedSessions.{same_members}
use Rattle.row_key.specs.Records.{record_in_row, record_if, record_in_entry}
use Rattle.row_key.specs.RowBytes.{FitBytes, FitRow, FitRows}
use Rattle.row_check.specs.RowSessions.{sessions_in, with_record}
use Rattle.row_check.proofs.KeptPlaces.{next_is}
use Rattle.row_check.proofs.KeyOrder.{id_less, below_less}
use Rattle.row_check.proofs.OpenedRecords.{read_id, is_record_in, session_row, session_there, sessions_ascend}
use Rattle.row_check.proofs.RightRecords.{id_is, record_here}

abbrev Entry : Type 0
Entry = List ℕ × List ℕ

-- What a row of tag 2 is

record IsRecordRow (key value : List ℕ) (r : Record) : Type 0 where
  is : key ≡ key_text (RecordOf r.id)
  low : r.id.0 < 2 ^ 32
  spells : record_of r.id value ≡ Some r

row_if : (rest value : List ℕ) (r : Record) (id : ℕ × List ℕ) → FitBytes rest → number_at w32 rest ≡ Some id
    → record_if id value ≡ Some r → IsRecordRow (2 ∷ rest) value r
row_if rest value r (n, b ∷ more) fits e f = absurd (cc f)
row_if rest value r (n, []) fits e f =
    let (is, low) = id_is rest n fits e in
    let same : r.id ≡ id_of n =
    subst (λ (o : Option Record). IfSome o (λ r. r.id ≡ id_of n)) f (read_id (id_of n) value) in
    record {
      is = ap (λ (xs : List ℕ). 2 ∷ xs) (is ∙ ap id_text (sym same));
      low = subst (λ (id : SessionId). id.0 < 2 ^ 32) (sym same) low;
      spells = ap (λ (id : SessionId). record_of id value) same ∙ f;
    }

record_row : (key value : List ℕ) (r : Record) → FitBytes key → record_in_entry key value ≡ Some r
    → IsRecordRow key value r
record_row [] value r fits e = absurd (cc e)
record_row (tag ∷ rest) value r fits e =
    let (t, f) = some_if (eqb tag 2) (record_in_row rest value) r e in
    let (id, g, h) = next_is (number_at w32 rest) (λ id. record_if id value) r f in
    subst (λ (tag : ℕ). IsRecordRow (tag ∷ rest) value r) (sym (eqb-true tag 2 t))
    (row_if rest value r id (λ i. fits (suc i)) g h)

-- Members

back_if : (o : Option Record) (r : Record) (rest : List Record) → In r (with_record o rest) → (o ≡ Some r) ⊎ In r rest
back_if None r rest h = inr h
back_if (Some s) r rest (inl e) = inl (ap (λ (x : Record). Some x) e)
back_if (Some s) r rest (inr h) = inr h

list_back : (es : List Entry) (r : Record) → In r (sessions_in es)
    → (e : Entry) × In e es × (record_in_entry e.0 e.1 ≡ Some r)
list_back [] r h = absurd h
list_back (e ∷ es) r h =
    elim (back_if (record_in_entry e.0 e.1) r (sessions_in es) h) [
      | inl f ↦ (e, inl refl, f)
      | inr i ↦ let (f, j, g) = list_back es r i in (f, inr j, g)
    ]

in_here : (o : Option Record) (r : Record) (rest : List Record) → o ≡ Some r → In r (with_record o rest)
in_here o r rest e = subst (λ (o : Option Record). In r (with_record o rest)) (sym e) (inl refl)

in_later : (o : Option Record) (r : Record) (rest : List Record) → In r rest → In r (with_record o rest)
in_later None r rest h = h
in_later (Some s) r rest h = inr h

in_list : (es : List Entry) (e : Entry) (r : Record) → In e es → record_in_entry e.0 e.1 ≡ Some r
    → In r (sessions_in es)
in_list [] e r h f = absurd h
in_list (x ∷ es) e r (inl same) f = in_here (record_in_entry x.0 x.1) r (sessions_in es)
    (ap (λ (y : Entry). record_in_entry y.0 y.1) same ∙ f)
in_list (x ∷ es) e r (inr h) f = in_later (record_in_entry x.0 x.1) r (sessions_in es) (in_list es e r h f)

-- They ascend

keys_less : (key key' value value' : List ℕ) (r s : Record) → FitBytes key → FitBytes key' → IsRecordRow key value r
    → IsRecordRow key' value' s → slice_cmp nat_cmp key key' ≡ Less → r.id.0 < s.id.0
keys_less key key' value value' r s fits fits' p q less =
    let fit : FitBytes (id_text r.id) = λ i. (rw p.is at fits) (suc i) in
    let fit' : FitBytes (id_text s.id) = λ i. (rw q.is at fits') (suc i) in
    let below : slice_cmp nat_cmp (id_text r.id) (id_text s.id) ≡ Less = rw (p.is, q.is) at less in
    let l = id_less (id_text r.id) (id_text s.id) refl refl fit fit' below in
    let a = from_be_bytes-to_be_bytes_4 r.id.0 p.low in
    let b = from_be_bytes-to_be_bytes_4 s.id.0 q.low in
    rw (← a, ← b) l

ascend_if : (o : Option Record) (rest : List Record) → Ascend rest
    → ((r s : Record) → o ≡ Some r → In s rest → r.id.0 < s.id.0) → Ascend (with_record o rest)
ascend_if None rest up below = up
ascend_if (Some r) rest up below = (in_each (λ (s : Record). r.id.0 < s.id.0) rest (λ s h. below r s refl h), up)

ascending : (es : List Entry) → is_sorted (slice_cmp nat_cmp) es ≡ true → FitRows es → Ascend (sessions_in es)
ascending [] sorted fit = tt
ascending (e ∷ es) sorted fit =
    ascend_if (record_in_entry e.0 e.1) (sessions_in es) (ascending es (and_parts _ _ sorted).1 fit.1) (λ r s f h.
    let (g, i, is) = list_back es s h in
    let fits = each_in FitRow es fit.1 g i in
    keys_less e.0 g.0 e.1 g.1 r s fit.0.0 fits.0 (record_row e.0 e.1 r fit.0.0 f) (record_row g.0 g.1 s fits.0 is)
    (below_less e.0 es g (and_parts _ _ sorted).0 i))

module _ (m : RowMap) (fit : FitRows (fin.entries m)) where
  there : (r : Record) → In r (sessions_in (fin.entries m)) → In r (opened_sessions m)
  there r h =
      let (e, i, f) = list_back (fin.entries m) r h in
      let fits = each_in FitRow (fin.entries m) fit e i in
      let p = record_row e.0 e.1 r fits.0 f in
      let here : fin.get m (key_text (RecordOf r.id)) ≡ Some e.1 = ap (fin.get m) (sym p.is) ∙ entry_get m e i in
      session_there m r.id r (record_here m r.id e.1 p.low here ∙ p.spells)

  back : (r : Record) → In r (opened_sessions m) → In r (sessions_in (fin.entries m))
  back r h =
      let (low, same, bytes, f, g) = is_record_in m r.id r (session_row m r h) in
      in_list (fin.entries m) (key_text (RecordOf r.id), bytes) r
      (in_entries m (key_text (RecordOf r.id)) bytes f) (rw (four_again r.id.0 [] low) g)

  -- the sessions of the rows are those that the rows open to
  pub sessions_same : sessions_in (fin.entries m) ≡ opened_sessions m
  sessions_same = same_members _ _ (ascending (fin.entries m) (sorted_entries m) fit) (sessions_ascend m) there back
