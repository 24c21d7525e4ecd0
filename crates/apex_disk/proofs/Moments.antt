-- How a run of a disk's calls goes on. Callers want all three: `started` before the first call, `goes_on` for one call
-- more, `andthen` for one run after another.
use Rattle.std.proofs.Common.{inl, inr, ⊎_elim, ℕ, List, arith}
use Rattle.apex_disk.specs.Disk.{Elapses}
use Rattle.apex_disk.specs.Moments.{LeavesOnly}

module _ {D : Type 0} (moment : D → ℕ) (images_since : D → ℕ → List ℕ → Type 0) where
  pub started : (old : D) (P : List ℕ → Type 0) → ((c : List ℕ) → images_since old (moment old) c → P c)
      → LeavesOnly moment images_since old old P
  started old P here = record { later = omega arith; each = here; before = λ t c le left. inl left }

  pub goes_on : (old mid new : D) (P images : List ℕ → Type 0) → LeavesOnly moment images_since old mid P
      → Elapses (moment mid) (moment new) (images_since mid) (images_since new) images
      → ((c : List ℕ) → images c → P c) → LeavesOnly moment images_since old new P
  goes_on old mid new P images so_far time here = record {
    later = omega (arith, so_far.later, time.later);
    each = λ c left. ⊎_elim (so_far.each c) (here c) (time.nothing_else (moment old) c so_far.later left);
    before = λ t c le left.
        ⊎_elim (so_far.before t c le) (λ now. inr (here c now))
        (time.nothing_else t c (omega (arith, le, so_far.later)) left);
  }

  pub andthen : (old mid new : D) (P Q R : List ℕ → Type 0) → LeavesOnly moment images_since old mid P
      → LeavesOnly moment images_since mid new Q → ((c : List ℕ) → P c → R c) → ((c : List ℕ) → Q c → R c)
      → LeavesOnly moment images_since old new R
  andthen old mid new P Q R first second pr qr = record {
    later = omega (arith, first.later, second.later);
    each = λ c left. ⊎_elim (λ was. pr c (first.each c was)) (qr c) (second.before (moment old) c first.later left);
    before = λ t c le left.
        ⊎_elim (λ was. ⊎_elim (λ earlier. inl earlier) (λ p. inr (pr c p)) (first.before t c le was))
        (λ q. inr (qr c q)) (second.before t c (omega (arith, le, first.later)) left);
  }
