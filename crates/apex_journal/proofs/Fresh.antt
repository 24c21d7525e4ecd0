-- What a crash leaves of a blank file in each of the two steps of a format.
use Rattle.std.proofs.Common.{◌≡◌, inl, inr, ℕ, ◌+◌, ◌≤◌, lit≤, subst, Option, Some, option_map, List, [], ◌∷◌, ◌++◌, length, take, drop, get_or, refl, sym, ◌∙◌, ap, arith, append_assoc, length-append, take-append-drop}
use Rattle.std.proofs.lemmas.Bool.{cases_eq}
use Rattle.std.proofs.lemmas.List.{take-take, take_at, get_or_at, take_more, take_all, length-take-le}
use Rattle.apex_disk.specs.Disk.{written, Torn}
use Rattle.apex_disk.proofs.Written.{written_between}
use Rattle.apex_base.specs.declared.numbers.Scale.{Scale}
use Rattle.apex_base.specs.declared.numbers.Scale.TheVariants.{Small, Standard}
use Rattle.apex_base.specs.Numbers.{scale_number, scale_device_len}
use Rattle.apex_disk.specs.Disk.{FewerImages, Elapses}
use Rattle.apex_disk.specs.Moments.{LeavesOnly}
use Rattle.apex_disk.proofs.Moments.{started, goes_on, andthen}
use Rattle.apex_journal.specs.Gate.{gated, MayBeGated}
use Rattle.apex_journal.specs.Header.{IsHeader}
use Rattle.apex_journal.specs.Journal.{mark, heading, half_len, Opens, IsBlank, BlankOrEmpty, Told}
use Rattle.apex_journal.proofs.Gates.{From}
use Rattle.apex_journal.proofs.Told.{told_from}

-- the file after its first byte
behind_first : (v d : List ℕ) → 1 + length v ≤ length d → (x : ℕ) × (zs : List ℕ) × (get_or d 0 0 ≡ x)
    × (written 1 v d ≡ x ∷ (v ++ zs))
behind_first v [] fits = absurd (omega arith)
behind_first v (x ∷ r) fits =
    let n = length v in (
      x,
      drop n r,
      refl,
      written_between 1 (x ∷ []) (take n r) (drop n r) v (x ∷ r)
          (ap (λ (l : List ℕ). x ∷ l) (sym (take-append-drop n r))) refl (sym (length-take-le n r (omega arith))),
    )

pub still_blank : (n : ℕ) (d c : List ℕ) → 1 + n ≤ length d → IsBlank d → Torn 1 n d c → IsBlank c
still_blank n d c fits blank torn =
    let s = behind_first torn.bytes d (omega (arith, torn.size)) in
    λ is. blank (s.2 ∙ sym (ap (λ (l : List ℕ). get_or l 0 0) (torn.is ∙ s.3)) ∙ is)

one : (bytes : List ℕ) → length bytes ≡ 1 → (b : ℕ) × (bytes ≡ b ∷ [])
one [] short = absurd (omega arith)
one (b ∷ []) is = (b, refl)
one (a ∷ b ∷ bytes) long = absurd (omega arith)

half_some : (scale : Scale) → 1 ≤ half_len scale
half_some Small = lit≤ tt
half_some Standard = lit≤ tt

module _ (scale : Scale) (v d : List ℕ) (headed : IsHeader scale v) (fits : 4097 ≤ length d) where
  first_byte : (b : ℕ) → (zs : List ℕ) × (written 0 (b ∷ []) (written 1 v d) ≡ b ∷ (v ++ zs))
  first_byte b =
      let f = behind_first v d (omega (arith, headed.long)) in
      (f.1, written_between 0 [] (f.0 ∷ []) (v ++ f.1) (b ∷ []) (written 1 v d) f.3 refl refl)

  no_records : (zs c : List ℕ) → c ≡ 1 ∷ (v ++ zs) → Opens scale c []
  no_records zs c is =
      let parts : v ≡ take 4095 v ++ 0 ∷ [] =
      sym (take_all 4096 v (omega (arith, headed.long))) ∙ take_more v 4095 0 (omega (arith, headed.long))
      ∙ ap (λ (k : ℕ). take 4095 v ++ k ∷ []) headed.closed in
      record {
        head = 1 ∷ take 4095 v;
        gate = 0;
        rest = zs;
        is = is ∙ ap (λ (l : List ℕ). 1 ∷ (l ++ zs)) parts
            ∙ ap (λ (l : List ℕ). 1 ∷ l) (append_assoc (take 4095 v) (0 ∷ []) zs);
        starts = omega (arith, length-take-le 4095 v (omega (arith, headed.long)));
        headed = ap (λ (l : List ℕ). 1 ∷ l) (take-take 10 4095 v (omega arith) ∙ headed.named);
        closed = omega arith;
        within = half_some scale;
      }

  torn_first : (c : List ℕ) → Torn 0 1 (written 1 v d) c → BlankOrEmpty scale c
  torn_first c torn =
      let b = one torn.bytes torn.size in
      let f = first_byte b.0 in
      let is : c ≡ b.0 ∷ (v ++ f.0) = torn.is ∙ ap (λ (l : List ℕ). written 0 l (written 1 v d)) b.1 ∙ f.1 in
      elim (cases_eq b.0 1) [
        | inl is_open ↦ inr (no_records f.0 c (is ∙ ap (λ (k : ℕ). k ∷ (v ++ f.0)) is_open))
        | inr shut ↦ inl (λ e. shut (sym (ap (λ (l : List ℕ). get_or l 0 0) is) ∙ e))
      ]

  -- what a crash may leave of a format
  pub format_torn : (c : List ℕ) → IsBlank d → MayBeGated 0 v d c → BlankOrEmpty scale c
  format_torn c blank (inl torn) = inl (still_blank (length v) d c (omega (arith, headed.long)) blank torn)
  format_torn c blank (inr torn) = torn_first c torn

  -- and what it leaves when it is done
  pub format_done : Opens scale (gated 0 v d) []
  format_done = let f = first_byte 1 in no_records f.0 (gated 0 v d) f.1

pub header_of : (scale : Scale) (zs v : List ℕ) → length zs ≡ 4085
    → v ≡ ((drop 1 mark ++ scale_number scale ∷ []) ++ zs) ++ 0 ∷ [] → IsHeader scale v
header_of scale zs v long is = record {
  long = ap length is ∙ omega (
    arith,
    long,
    length-append (drop 1 (heading scale) ++ zs) (0 ∷ []),
    length-append (drop 1 (heading scale)) zs,
  );
  named = ap (λ (l : List ℕ). take 10 l) is
      ∙ ap (λ (l : List ℕ). take 10 l) (append_assoc (drop 1 (heading scale)) zs (0 ∷ []))
      ∙ take_at (drop 1 (heading scale)) (zs ++ 0 ∷ []) 10 refl;
  closed = ap (λ (l : List ℕ). get_or l 4095 0) is
      ∙ get_or_at (drop 1 (heading scale) ++ zs) 0 [] 0 4095 (omega (
        arith,
        long,
        length-append (drop 1 (heading scale)) zs,
      ));
}

pub room_for_header : (scale : Scale) → 4097 ≤ scale_device_len scale
room_for_header Small = lit≤ tt
room_for_header Standard = lit≤ tt

-- The run of a format, over any disk.
module _ {D : Type 0} (reads : D → Option (List ℕ)) (images : D → List ℕ → Type 0) (moment : D → ℕ) (since : D → ℕ
    → List ℕ → Type 0)
    (only_now : (d : D) (c : List ℕ) → since d (moment d) c → images d c)
    (old d1 d2 : D) (blank : (c : List ℕ) → images old c → IsBlank c) (fewer : FewerImages (images old) (images d1))
    (wide : (c : List ℕ) → images d1 c → 4097 ≤ length c) (scale : Scale) (v : List ℕ) (headed : IsHeader scale v) where
  pub format_runs : Elapses (moment old) (moment d1) (since old) (since d1) (images d1)
      → LeavesOnly moment since d1 d2 (From (images d1) (MayBeGated 0 v))
      → LeavesOnly moment since old d2 (BlankOrEmpty scale)
  format_runs time step =
      let P : List ℕ → Type 0 = BlankOrEmpty scale in
      let before = goes_on moment since old old d1 P _
      (started moment since old P (λ c left. inl (blank c (only_now old c left)))) time
      (λ c left. inl (blank c (fewer c left))) in
      andthen moment since old d1 d2 P (From (images d1) (MayBeGated 0 v)) P before step (λ c p. p)
      (λ c r. format_torn scale v r.0 headed (wide r.0 r.1) c (blank r.0 (fewer r.0 r.1)) r.2)

  pub format_opens : ((f : List ℕ) → reads d1 ≡ Some f → images d1 f) → reads d2 ≡ option_map (gated 0 v) (reads d1)
      → Told (reads d2) (λ file. Opens scale file [])
  format_opens left is f told =
      let from = told_from (gated 0 v) (reads d1) (reads d2) f is told in
      subst (λ (g : List ℕ). Opens scale g []) (sym from.2)
      (format_done scale v from.0 headed (wide from.0 (left from.0 from.1)))
