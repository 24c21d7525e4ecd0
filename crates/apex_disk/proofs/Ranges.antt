-- Lists of bytes that differ in some ranges alone.
use Rattle.std.proofs.Common.{◌≡◌, ◌⊎◌, inl, inr, ⊎_elim, ℕ, ◌+◌, ◌-◌, ◌≤◌, ◌<◌, List, [], ◌∷◌, ◌++◌, length, take, drop, get_or, refl, sym, ◌∙◌, ap, subst, arith, length-append, length-take, length-drop, take-append-drop}
use Rattle.std.proofs.lemmas.Bool.{cases_lt}
use Rattle.std.proofs.lemmas.List.{places, drop_more, length-take-le, drop-drop, ext_get_or}
use Rattle.apex_disk.specs.Disk.{written, Torn}
use Rattle.apex_disk.specs.Content.{Inside, Covered, Agrees, Within}
use Rattle.apex_disk.specs.declared.content.Range.{Range}
use Rattle.apex_disk.proofs.Written.{written_between}

pub length-written : (at : ℕ) (b f : List ℕ) → at + length b ≤ length f → length (written at b f) ≡ length f
length-written at b f fits = omega (
  arith,
  length-append (take at f ++ b) (drop (at + length b) f),
  length-append (take at f) b,
  length-take at f,
  length-drop (at + length b) f,
)

pub written_inside : (at k : ℕ) (b f : List ℕ) → at + length b ≤ length f → at ≤ k → k < at + length b
    → get_or (written at b f) k 0 ≡ get_or b (k - at) 0
written_inside at k b f fits low high = grind (arith, places)

pub written_below : (at k : ℕ) (b f : List ℕ) → at + length b ≤ length f → k < at
    → get_or (written at b f) k 0 ≡ get_or f k 0
written_below at k b f fits low = grind (arith, places)

pub written_above : (at k : ℕ) (b f : List ℕ) → at + length b ≤ length f → at + length b ≤ k
    → get_or (written at b f) k 0 ≡ get_or f k 0
written_above at k b f fits high = grind (arith, places)

-- a range is brought to what the other list has there
pub brought : (ranges : List Range) (r : Range) (from to : List ℕ) → Agrees to (r ∷ ranges) from
    → r.at + r.len ≤ length from → Agrees (written r.at (take r.len (drop r.at from)) to) ranges from
brought ranges r from to agrees within =
    let part = take r.len (drop r.at from) in
    let size : length part ≡ r.len = length-take-le r.len (drop r.at from) (omega (arith, length-drop r.at from)) in
    let fits : r.at + length part ≤ length to = omega (arith, agrees.long) in
    record {
      long = agrees.long ∙ sym (length-written r.at part to fits);
      others = λ k not. elim (cases_lt k r.at) [
        | inl low ↦ agrees.others k (λ covered. ⊎_elim (λ (i : Inside r k). absurd (omega (arith, low, i.0))) not
            covered) ∙ sym (written_below r.at k part to fits low)
        | inr from_at ↦ elim (cases_lt k (r.at + r.len)) [
          | inl inside ↦ sym (written_inside r.at k part to fits from_at (omega (arith, size))
              ∙ at_part k from_at inside)
          | inr above ↦ agrees.others k (λ covered. ⊎_elim (λ (i : Inside r k). absurd (omega (arith, above, i.1)))
              not covered) ∙ sym (written_above r.at k part to fits (omega (arith, size)))
        ]
      ];
    }
  where
    at_part : (k : ℕ) → r.at ≤ k → k < r.at + r.len → get_or (take r.len (drop r.at from)) (k - r.at) 0
        ≡ get_or from k 0
    at_part k low high = grind (arith, places)

pub all_brought : (from to : List ℕ) → Agrees to [] from → to ≡ from
all_brought from to agrees = ext_get_or 0 to from (sym agrees.long) (λ k lt. sym (agrees.others k (λ none. none)))

pub covered_left : (ranges : List Range) (r : Range) (k : ℕ) → Covered ranges k → Covered (ranges ++ r ∷ []) k
covered_left [] r k none = absurd none
covered_left (x ∷ ranges) r k (inl here) = inl here
covered_left (x ∷ ranges) r k (inr there) = inr (covered_left ranges r k there)

pub covered_last : (ranges : List Range) (r : Range) (k : ℕ) → Inside r k → Covered (ranges ++ r ∷ []) k
covered_last [] r k here = inl here
covered_last (x ∷ ranges) r k here = inr (covered_last ranges r k here)

pub covered_or : (ranges : List Range) (r : Range) (k : ℕ) → Covered (ranges ++ r ∷ []) k → Covered ranges k
    ⊎ Inside r k
covered_or [] r k (inl here) = inr here
covered_or [] r k (inr none) = absurd none
covered_or (x ∷ ranges) r k (inl here) = inl (inl here)
covered_or (x ∷ ranges) r k (inr there) = ⊎_elim (λ c. inl (inr c)) (λ i. inr i) (covered_or ranges r k there)

pub within_push : (n : ℕ) (ranges : List Range) (r : Range) → Within n ranges → r.at + r.len ≤ n
    → Within n (ranges ++ r ∷ [])
within_push n [] r within fits = (fits, tt)
within_push n (x ∷ ranges) r within fits = (within.0, within_push n ranges r within.1 fits)

-- one range more, in which any bytes are written
pub agrees_push : (ranges : List Range) (r : Range) (synced bytes new : List ℕ) → Agrees synced ranges bytes
    → length new ≡ r.len → r.at + r.len ≤ length bytes → Agrees synced (ranges ++ r ∷ []) (written r.at new bytes)
agrees_push ranges r synced bytes new agrees size fits =
    let room : r.at + length new ≤ length bytes = omega (arith, size) in
    record {
      long = length-written r.at new bytes room ∙ agrees.long;
      others = λ k not.
          let was = agrees.others k (λ covered. not (covered_left ranges r k covered)) in
          elim (cases_lt k r.at) [
            | inl low ↦ written_below r.at k new bytes room low ∙ was
            | inr from_at ↦ elim (cases_lt k (r.at + r.len)) [
              | inl inside ↦ absurd (not (covered_last ranges r k (from_at, inside)))
              | inr above ↦ written_above r.at k new bytes room (omega (arith, size)) ∙ was
            ]
          ];
    }

-- what differs in one range more is what differs in the others, with some bytes in it
pub torn_back : (ranges : List Range) (r : Range) (synced c : List ℕ) → Agrees synced (ranges ++ r ∷ []) c
    → r.at + r.len ≤ length synced → (d : List ℕ) × Agrees synced ranges d × Torn r.at r.len d c
torn_back ranges r synced c agrees fits =
    let old = take r.len (drop r.at synced) in
    let new = take r.len (drop r.at c) in
    let old_size : length old ≡ r.len =
    length-take-le r.len (drop r.at synced) (omega (arith, length-drop r.at synced)) in
    let new_size : length new ≡ r.len =
    length-take-le r.len (drop r.at c) (omega (arith, agrees.long, length-drop r.at c)) in
    let room : r.at + length old ≤ length c = omega (arith, old_size, agrees.long) in
    let d = written r.at old c in
    let split : c ≡ take r.at c ++ (new ++ drop (r.at + r.len) c) =
    sym (take-append-drop r.at c) ∙ ap (λ (l : List ℕ). take r.at c ++ l) (sym (take-append-drop r.len (drop r.at c))
    ∙ ap (λ (l : List ℕ). new ++ l) (drop-drop r.len r.at c)) in
    let front : length (take r.at c) ≡ r.at = length-take-le r.at c (omega (arith, agrees.long)) in
    let there : d ≡ take r.at c ++ (old ++ drop (r.at + r.len) c) =
    written_between r.at (take r.at c) new (drop (r.at + r.len) c) old c split front (old_size ∙ sym new_size) in
    let back : written r.at new d ≡ take r.at c ++ (new ++ drop (r.at + r.len) c) =
    written_between r.at (take r.at c) old (drop (r.at + r.len) c) new d there front (new_size ∙ sym old_size) in (
      d,
      record {
        long = length-written r.at old c room ∙ agrees.long;
        others = λ k not. elim (cases_lt k r.at) [
          | inl low ↦ written_below r.at k old c room low
              ∙ agrees.others k (λ covered. ⊎_elim not (λ (i : Inside r k). absurd (omega (arith, low, i.0)))
              (covered_or ranges r k covered))
          | inr from_at ↦ elim (cases_lt k (r.at + r.len)) [
            | inl inside ↦ written_inside r.at k old c room from_at (omega (arith, old_size)) ∙ at_old k from_at inside
            | inr above ↦ written_above r.at k old c room (omega (arith, old_size))
                ∙ agrees.others k (λ covered. ⊎_elim not (λ (i : Inside r k). absurd (omega (arith, above, i.1)))
                (covered_or ranges r k covered))
          ]
        ];
      },
      record { bytes = new; size = new_size; is = split ∙ sym back },
    )
  where
    at_old : (k : ℕ) → r.at ≤ k → k < r.at + r.len → get_or (take r.len (drop r.at synced)) (k - r.at) 0
        ≡ get_or synced k 0
    at_old k low high = grind (arith, places)

-- a loop's step
pub bring_step : (ranges : List Range) (i n : ℕ) (r d : Range) (from to new : List ℕ) → i < length ranges
    → r ≡ get_or ranges i d → n ≡ r.len → Agrees to (drop i ranges) from → Within (length from) (drop i ranges)
    → new ≡ written r.at (take n (drop r.at from)) to → Agrees new (drop (i + 1) ranges) from
    × Within (length from) (drop (i + 1) ranges)
bring_step ranges i n r d from to new lt is size agrees within after =
    let rest : drop i ranges ≡ r ∷ drop (i + 1) ranges = drop_more ranges i d lt
    ∙ ap (λ (x : Range). x ∷ drop (i + 1) ranges) (sym is) in
    let here = subst (λ (l : List Range). Agrees to l from) rest agrees in
    let all = subst (λ (l : List Range). Within (length from) l) rest within in (
      subst (λ (l : List ℕ). Agrees l (drop (i + 1) ranges) from) (sym (after
          ∙ ap (λ (k : ℕ). written r.at (take k (drop r.at from)) to) size))
          (brought (drop (i + 1) ranges) r from to here all.0),
      all.1,
    )

-- a write of these bytes keeps what is kept
pub handed : (at : ℕ) (new bytes synced after : List ℕ) (pending later : List Range) → Agrees synced pending bytes
    → Within (length bytes) pending → at + length new ≤ length bytes
    → after ≡ written at new bytes → later ≡ pending ++ record { at = at; len = length new } ∷ []
    → Agrees synced later after × Within (length after) later
handed at new bytes synced after pending later agrees within fits is more =
    let r : Range = record { at = at; len = length new } in
    let long : length after ≡ length bytes = ap length is ∙ length-written at new bytes fits in (
      rw (is, more) (agrees_push pending r synced bytes new agrees refl fits),
      rw (long, more) (within_push (length bytes) pending r within fits),
    )
