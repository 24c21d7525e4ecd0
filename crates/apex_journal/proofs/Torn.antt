-- What a crash leaves of a file in each of the two steps of an append.
use Rattle.std.proofs.Common.{◌≡◌, inl, inr, ℕ, ◌+◌, ◌*◌, ◌≤◌, List, [], ◌∷◌, ◌++◌, length, take, drop, refl, sym, ◌∙◌, ap, subst, arith, append_assoc, length-append, take-append-drop}
use Rattle.std.proofs.lemmas.List.{length-take-le, append-nil}
use Rattle.std.proofs.lemmas.Bool.{cases_eq}
use Rattle.std.proofs.lemmas.Grind.{flat_map-append}
use Rattle.std.specs.Int.{to_be_bytes, w32}
use Rattle.apex_disk.specs.Disk.{written, Torn}
use Rattle.apex_disk.proofs.Written.{written_between}
use Rattle.apex_journal.specs.Records.{framed, block, blocks}
use Rattle.apex_base.specs.declared.numbers.Scale.{Scale}
use Rattle.apex_journal.specs.Gate.{gated, MayBeGated}
use Rattle.apex_journal.specs.Journal.{half_len, Opens, WithOrWithout}

pub length-framed : (piece : List ℕ) → length (framed piece ++ 0 ∷ []) ≡ length piece + 5
length-framed piece = omega (
  arith,
  length-append (framed piece) (0 ∷ []),
  length-append (to_be_bytes w32 (length piece)) piece,
)

one : (bytes : List ℕ) → length bytes ≡ 1 → (b : ℕ) × (bytes ≡ b ∷ [])
one [] short = absurd (omega arith)
one (b ∷ []) is = (b, refl)
one (a ∷ b ∷ bytes) long = absurd (omega arith)

module _ (scale : Scale) (used : ℕ) (file : List ℕ) (records : List (List ℕ)) (o : Opens scale file records)
    (counts : used ≡ length (blocks records) + 1) where
  pub room : (n : ℕ) → 4096 + 2 * half_len scale ≤ length file → used + n ≤ half_len scale → n ≤ length o.rest
  room n long fits =
      omega (
        arith,
        ap length o.is,
        length-append o.head (blocks records ++ o.gate ∷ o.rest),
        length-append (blocks records) (o.gate ∷ o.rest),
        o.starts,
        counts,
      )

  -- the file with these bytes after the closed gate
  abbrev pub staged : List ℕ → List ℕ
  staged bytes = o.head ++ (blocks records ++ o.gate ∷ (bytes ++ drop (length bytes) o.rest))

  pub behind : (at : ℕ) (bytes : List ℕ) → at ≡ 4096 + used → length bytes ≤ length o.rest
      → written at bytes file ≡ staged bytes
  behind at bytes here fits =
      let xs = o.head ++ (blocks records ++ o.gate ∷ []) in
      let n = length bytes in
      let long : length xs ≡ at = omega (
        arith,
        length-append o.head (blocks records ++ o.gate ∷ []),
        length-append (blocks records) (o.gate ∷ []),
        o.starts,
        counts,
      ) in
      let split : file ≡ xs ++ (take n o.rest ++ drop n o.rest) = o.is
      ∙ ap (λ (l : List ℕ). o.head ++ (blocks records ++ o.gate ∷ l)) (sym (take-append-drop n o.rest))
      ∙ sym (simp append_assoc) in
      written_between at xs (take n o.rest) (drop n o.rest) bytes file split long (sym (length-take-le n o.rest fits))
      ∙ simp append_assoc

  -- after a closed gate any bytes are no record
  pub torn_behind : (at n : ℕ) (c : List ℕ) → at ≡ 4096 + used → n ≤ length o.rest → Torn at n file c
      → Opens scale c records
  torn_behind at n c here fits torn = record {
    head = o.head;
    gate = o.gate;
    rest = torn.bytes ++ drop (length torn.bytes) o.rest;
    is = torn.is ∙ behind at torn.bytes here (omega (arith, torn.size));
    starts = o.starts;
    headed = o.headed;
    closed = o.closed;
    within = o.within;
  }

  pub at_gate : (at b : ℕ) (bytes : List ℕ) → at + 1 ≡ 4096 + used → written at (b ∷ []) (staged bytes)
      ≡ o.head ++ (blocks records ++ b ∷ (bytes ++ drop (length bytes) o.rest))
  at_gate at b bytes here =
      let xs = o.head ++ blocks records in
      let tail = bytes ++ drop (length bytes) o.rest in
      written_between at xs (o.gate ∷ []) tail (b ∷ []) (staged bytes) (sym (simp append_assoc)) (omega (
        arith,
        length-append o.head (blocks records),
        o.starts,
        counts,
      )) refl
      ∙ simp append_assoc

  module _ (piece : List ℕ) (fits : used + (length piece + 5) ≤ half_len scale) where
    abbrev pub bytes : List ℕ
    bytes = framed piece ++ 0 ∷ []

    abbrev tail : List ℕ
    tail = drop (length bytes) o.rest

    regroup : (blocks records ++ block piece) ++ 0 ∷ tail ≡ blocks records ++ 1 ∷ (bytes ++ tail)
    regroup = append_assoc (blocks records) (block piece) (0 ∷ tail)
        ∙ ap (λ (l : List ℕ). blocks records ++ 1 ∷ l) (sym (append_assoc (framed piece) (0 ∷ []) tail))

    pub longer : length (blocks (records ++ piece ∷ [])) ≡ length (blocks records) + (length piece + 5)
    longer =
        omega (
          arith,
          ap length (flat_map-append block records (piece ∷ [])),
          length-append (blocks records) (block piece ++ []),
          ap length (append-nil (block piece)),
          length-append (to_be_bytes w32 (length piece)) piece,
        )

    -- an open gate before a whole record
    pub opened : (c : List ℕ) → c ≡ o.head ++ (blocks records ++ 1 ∷ (bytes ++ tail))
        → Opens scale c (records ++ piece ∷ [])
    opened c is =
        let more : blocks (records ++ piece ∷ []) ≡ blocks records ++ block piece =
        flat_map-append block records (piece ∷ [])
        ∙ ap (λ (l : List ℕ). blocks records ++ l) (append-nil (block piece)) in
        record {
          head = o.head;
          gate = 0;
          rest = tail;
          is = is ∙ ap (λ (l : List ℕ). o.head ++ l) (sym (ap (λ (l : List ℕ). l ++ 0 ∷ tail) more ∙ regroup));
          starts = o.starts;
          headed = o.headed;
          closed = omega arith;
          within = omega (arith, longer, counts, fits);
        }

    pub torn_gate : (at : ℕ) (c : List ℕ) → at + 1 ≡ 4096 + used → Torn at 1 (staged bytes) c
        → WithOrWithout scale records piece c
    torn_gate at c here torn =
        let b = one torn.bytes torn.size in
        let is : c ≡ o.head ++ (blocks records ++ b.0 ∷ (bytes ++ tail)) = torn.is
        ∙ ap (λ (l : List ℕ). written at l (staged bytes)) b.1 ∙ at_gate at b.0 bytes here in
        elim (cases_eq b.0 1) [
          | inl is_open ↦ inr (opened c (is
              ∙ ap (λ (k : ℕ). o.head ++ (blocks records ++ k ∷ (bytes ++ tail))) is_open))
          | inr shut ↦ inl (record {
            head = o.head;
            gate = b.0;
            rest = bytes ++ tail;
            is = is;
            starts = o.starts;
            headed = o.headed;
            closed = shut;
            within = o.within;
          })
        ]

    -- what a crash may leave of an append
    pub append_torn : (gate : ℕ) (c : List ℕ) → gate + 1 ≡ 4096 + used → length bytes ≤ length o.rest
        → MayBeGated gate bytes file c
        → WithOrWithout scale records piece c
    append_torn gate c here room (inl torn) = inl (torn_behind (gate + 1) (length bytes) c here room torn)
    append_torn gate c here room (inr torn) =
        torn_gate gate c here (subst (λ (f : List ℕ). Torn gate 1 f c) (behind (gate + 1) bytes here room) torn)

    -- and what it leaves when it is done
    pub append_done : (gate : ℕ) → gate + 1 ≡ 4096 + used → length bytes ≤ length o.rest
        → Opens scale (gated gate bytes file) (records ++ piece ∷ [])
    append_done gate here room =
        opened (gated gate bytes file) (ap (λ (l : List ℕ). written gate (1 ∷ []) l)
        (behind (gate + 1) bytes here room) ∙ at_gate gate 1 bytes here)
