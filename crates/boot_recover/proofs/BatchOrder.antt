-- The batch of a boot ascends by key: the row of boots, records by their ids, names and files. Callers want
-- `boot_ascends`.
use Rattle.std.proofs.Common.{◌≡◌, ◌*◌, ◌/◌, ◌%◌, ◌+◌, ◌<◌, ◌^◌, ℕ, Bool, true, false, cond, eqb, List, [], ◌∷◌, ◌++◌}
use Rattle.std.proofs.Common.{Some, sym}
use Rattle.std.proofs.Common.{subst, ◌∙◌, refl, inl, inr, arith}
use Rattle.std.specs.Int.{w32, to_be_bytes}
use Rattle.std.specs.Cmp.Lexicographic.{slice_cmp}
use Rattle.std.specs.List.{AllByRecursion}
use Rattle.std.specs.List.Sorted.{IsStrictlySortedBy}
use Rattle.std.specs.Ordering.{nat_cmp, ordering_then}
use Rattle.std.specs.declared.cmp.Ordering.{Ordering}
use Rattle.std.specs.declared.cmp.Ordering.TheVariants.{Less, Equal}
use Rattle.std.proofs.lemmas.Bool.{cases_order, lt-ltb, le-ltb, eq-eqb}
use Rattle.std.proofs.lemmas.Nat.{from_be_bytes-to_be_bytes_4}
use Rattle.apex_base.specs.declared.numbers.SessionId.{SessionId}
use Rattle.apex_base.specs.declared.records.Record.{Record}
use Rattle.apex_base.specs.Keys.{Key, Boots, RecordOf, ActiveOf, BackupOf, FileOf, DataOf, SnapshotOf, PreRestoreOf}
use Rattle.apex_base.specs.Keys.{WatchOf, key_text}
use Rattle.apex_base.specs.Members.{In}
use Rattle.apex_base.specs.Moves.{state_number}
use Rattle.apex_base.specs.Sessions.{Ascend}
use Rattle.apex_base.specs.Spelling.{record_text}
use Rattle.apex_base.proofs.MemberLemmas.{in_each, each_in, in_map, in_map_back}
use Rattle.row_codec.specs.declared.batch.Row.{Row}
use Rattle.row_codec.specs.Batch.{keys_of}
use Rattle.package_store.specs.Settled.{IsChange}
use Rattle.apex_world.specs.Lawful.{Lawful}
use Rattle.apex_world.specs.Rows.{rows}
use Rattle.apex_world.specs.World.{World}
use Rattle.world_laws.proofs.rows.MapsOfRows.{rows_typed}
use Rattle.world_facts.proofs.facts.WorldRows.{record_id}
use Rattle.boot_recover.specs.Booted.{record_change, record_changes, boots_change, IsSettling}
use Rattle.stored_world.proofs.BatchRows.{batch_value, each_append, ascend_append}
use Rattle.boot_recover.proofs.SettledKeys.{IsOfNames, settled_key}

-- Ids

-- the first elements decide, or the rest where they are the same
decided : (x y : ℕ) (o : Ordering) → (y < x → ⊥) → (x ≡ y → o ≡ Less) → ordering_then (nat_cmp x y) o ≡ Less
decided x y o not more =
    elim (cases_order x y) [
      | inl e ↦ rw (le-ltb x y (omega (arith, e)), eq-eqb x y e, more e) refl
      | inr apart ↦ elim apart [
        | inl l ↦ rw (lt-ltb x y l) refl
        | inr l ↦ absurd (not l)
      ]
    ]

four_less : (a b c d e f g h : ℕ) → b < 256 → c < 256 → d < 256 → f < 256 → g < 256 → h < 256
    → a * 16777216 + b * 65536 + c * 256 + d < e * 16777216 + f * 65536 + g * 256 + h
    → slice_cmp nat_cmp (a ∷ b ∷ c ∷ d ∷ []) (e ∷ f ∷ g ∷ h ∷ []) ≡ Less
four_less a b c d e f g h b' c' d' f' g' h' less =
    decided a e _ (λ l. omega (arith, l, less, f', g', h'))
    (λ p. decided b f _ (λ l. omega (arith, l, less, p, g', h'))
    (λ q. decided c g _ (λ l. omega (arith, l, less, p, q, h'))
    (λ r. decided d h Equal (λ l. omega (arith, l, less, p, q, r))
    (λ s. absurd (omega (arith, less, p, q, r, s))))))

-- the key of a lower id is lower
id_below : (m n : ℕ) → m < n → n < 2 ^ 32 → slice_cmp nat_cmp (to_be_bytes w32 m) (to_be_bytes w32 n) ≡ Less
id_below m n l low =
    four_less (m / 16777216 % 256) (m / 65536 % 256) (m / 256 % 256) (m % 256) (n / 16777216 % 256)
    (n / 65536 % 256) (n / 256 % 256) (n % 256) (omega arith) (omega arith) (omega arith) (omega arith) (omega arith)
    (omega arith)
    (omega (arith, l, from_be_bytes-to_be_bytes_4 m (omega (arith, l, low)), from_be_bytes-to_be_bytes_4 n low))

-- Records

abbrev Above : List ℕ → List ℕ → Type 0
Above key q = slice_cmp nat_cmp key q ≡ Less

one_of : (b : Bool) (x : Row) → IsStrictlySortedBy (slice_cmp nat_cmp) (keys_of (cond b [] (x ∷ [])))
unfolding IsStrictlySortedBy
one_of true x = tt
one_of false x = (tt, tt)

above_if : (P : List ℕ → Type 0) (b : Bool) (x : Row) (rows : List Row) → P x.key → AllByRecursion P (keys_of rows)
    → AllByRecursion P (keys_of (cond b [] (x ∷ []) ++ rows))
above_if P true x rows p more = more
above_if P false x rows p more = (p, more)

key_if : (P : List ℕ → Type 0) (b : Bool) (x row : Row) → P x.key → In row (cond b [] (x ∷ [])) → P row.key
key_if P true x row p i = absurd i
key_if P false x row p (inl e) = subst (λ (y : Row). P y.key) e p
key_if P false x row p (inr i) = absurd i

module _ (f : Record → Record) (kept : (r : Record) → (f r).id ≡ r.id) where
  abbrev same_state : Record → Bool
  same_state r = eqb (state_number r.state) (state_number (f r).state)

  abbrev written : Record → Row
  written r = record { key = key_text (RecordOf (f r).id); value = Some (record_text (f r)) }

  -- records of greater ids stand above
  records_above : (r : Record) (ss : List Record) → AllByRecursion (λ s. r.id.0 < s.id.0) ss
      → AllByRecursion (λ s. s.id.0 < 2 ^ 32) ss
      → AllByRecursion (Above (key_text (RecordOf r.id))) (keys_of (record_changes f ss))
  records_above r [] up low = tt
  records_above r (s ∷ ss) up low = above_if (Above (key_text (RecordOf r.id))) (same_state s) (written s)
      (record_changes f ss)
      (subst (λ (id : SessionId). Above (key_text (RecordOf r.id)) (key_text (RecordOf id))) (sym (kept s))
      (id_below r.id.0 s.id.0 up.0 low.0))
      (records_above r ss up.1 low.1)

  records_ascend : (ss : List Record) → Ascend ss → AllByRecursion (λ s. s.id.0 < 2 ^ 32) ss
      → IsStrictlySortedBy (slice_cmp nat_cmp) (keys_of (record_changes f ss))
  unfolding IsStrictlySortedBy
  records_ascend [] a low = tt
  records_ascend (r ∷ rs) a low =
      ascend_append (record_change r (f r)) (record_changes f rs) (one_of (same_state r) (written r))
      (records_ascend rs a.1 low.1)
      (λ x i. key_if (λ q. AllByRecursion (Above q) (keys_of (record_changes f rs))) (same_state r) (written r) x
      (subst (λ (id : SessionId). AllByRecursion (Above (key_text (RecordOf id))) (keys_of (record_changes f rs)))
      (sym (kept r)) (records_above r rs a.0 low.1)) i)

  -- a key below those of records
  above_records : (P : List ℕ → Type 0) → ((id : SessionId) → P (key_text (RecordOf id))) → (ss : List Record)
      → AllByRecursion P (keys_of (record_changes f ss))
  above_records P p [] = tt
  above_records P p (s ∷ ss) = above_if P (same_state s) (written s) (record_changes f ss) (p (f s).id)
      (above_records P p ss)

-- Names and files

named_above : (k : Key) (id : SessionId) → IsOfNames k → Above (key_text (RecordOf id)) (key_text k)
named_above Boots id s = absurd s
named_above (RecordOf x) id s = absurd s
named_above (ActiveOf name) id s = refl
named_above (BackupOf name) id s = refl
named_above (FileOf x part path) id s = refl
named_above (DataOf name key) id s = absurd s
named_above (SnapshotOf x name key) id s = absurd s
named_above (PreRestoreOf x name key) id s = absurd s
named_above (WatchOf observer name) id s = absurd s

named_last : (k : Key) → IsOfNames k → Above (key_text Boots) (key_text k)
named_last Boots s = absurd s
named_last (RecordOf x) s = absurd s
named_last (ActiveOf name) s = refl
named_last (BackupOf name) s = refl
named_last (FileOf x part path) s = refl
named_last (DataOf name key) s = absurd s
named_last (SnapshotOf x name key) s = absurd s
named_last (PreRestoreOf x name key) s = absurd s
named_last (WatchOf observer name) s = absurd s

module _ (w : World) (law : Lawful w) (turned : List Record) (settled : List Row)
    (is : IsSettling (rows w) turned settled) where
  settled_above : (P : List ℕ → Type 0) → ((k : Key) → IsOfNames k → P (key_text k))
      → AllByRecursion P (keys_of settled)
  settled_above P p = in_each P (keys_of settled) (λ q h.
      let (row, i, e) = in_map_back (λ (r : Row). r.key) q settled h in
      let value = sym (batch_value settled (rows w) row is.ascending i) ∙ is.after row.key in
      let k = settled_key (rows w) (rows_typed w law) turned row.key
      (λ same. each_in (IsChange (rows w)) settled is.exact row i (same ∙ sym value)) in
      subst P (sym k.spelled ∙ e) (p k.key k.of_names))

  module _ (f : Record → Record) (kept : (r : Record) → (f r).id ≡ r.id) (b : ℕ) (moments : List ℕ) where
    rest_ascends : IsStrictlySortedBy (slice_cmp nat_cmp) (keys_of (record_changes f w.sessions ++ settled))
    rest_ascends = ascend_append (record_changes f w.sessions) settled
        (records_ascend f kept w.sessions law.ids.ascend
        (in_each (λ (s : Record). s.id.0 < 2 ^ 32) w.sessions (λ r i. record_id w law r i))) is.ascending
        (λ x i. each_in (λ q. AllByRecursion (Above q) (keys_of settled)) (keys_of (record_changes f w.sessions))
        (above_records f kept (λ q. AllByRecursion (Above q) (keys_of settled))
        (λ id. settled_above (Above (key_text (RecordOf id))) (λ k s. named_above k id s)) w.sessions)
        x.key (in_map (λ (r : Row). r.key) x (record_changes f w.sessions) i))

    -- the row of boots stands first, then records, then what settling changes
    pub boot_ascends : IsStrictlySortedBy (slice_cmp nat_cmp)
        (keys_of ((boots_change b moments ∷ record_changes f w.sessions) ++ settled))
    unfolding IsStrictlySortedBy
    boot_ascends = (
      each_append (Above (key_text Boots)) (record_changes f w.sessions) settled
          (above_records f kept (Above (key_text Boots)) (λ id. refl) w.sessions)
          (settled_above (Above (key_text Boots)) named_last),
      rest_ascends,
    )
