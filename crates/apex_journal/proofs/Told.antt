-- What a device tells, from one call to the next.
use Rattle.std.proofs.Common.{◌≡◌, inl, inr, ⊎_elim, List, ℕ, Option, Some, None, option_map, refl, sym, ◌∙◌, subst}
use Rattle.apex_disk.specs.Moments.{LeavesOnly}
use Rattle.std.specs.Option.{IfSome}
use Rattle.std.proofs.lemmas.Option.{same_Some}

-- what reads give after a change is a change of what they gave before
pub told_from : (w : List ℕ → List ℕ) (old new : Option (List ℕ)) (f : List ℕ) → new ≡ option_map w old → new ≡ Some f
    → (g : List ℕ) × (old ≡ Some g) × (f ≡ w g)
told_from w None new f is told = let e : None ≡ Some f = sym is ∙ told in absurd (cc)
told_from w (Some g) new f is told = let e : Some (w g) ≡ Some f = sym is ∙ told in (g, refl, (cc))

-- what is said of the bytes that reads give holds of them
pub told_at : (o : Option (List ℕ)) (P : List ℕ → Type 0) (f : List ℕ) → o ≡ Some f → IfSome o P → P f
told_at None P f is h = absurd (cc)
told_at (Some x) P f is h = subst P (same_Some x f is) h

-- and what follows from it holds of them too
pub told_all : (o : Option (List ℕ)) (P Q : List ℕ → Type 0) → IfSome o P → ((f : List ℕ) → P f → Q f) → IfSome o Q
told_all None P Q h step = h
told_all (Some x) P Q h step = step x h

-- two changes after one another are one
pub told_twice : (w v : List ℕ → List ℕ) (old : Option (List ℕ))
    → option_map v (option_map w old) ≡ option_map (λ f. v (w f)) old
told_twice w v None = refl
told_twice w v (Some f) = refl

-- a run that leaves what has P leaves what has Q
pub widened : {D : Type 0} (moment : D → ℕ) (images_since : D → ℕ → List ℕ → Type 0) (old new : D) (P Q : List ℕ
    → Type 0)
    → LeavesOnly moment images_since old new P → ((c : List ℕ) → P c → Q c) → LeavesOnly moment images_since old new Q
widened moment images_since old new P Q run wider = record {
  later = run.later;
  each = λ c left. wider c (run.each c left);
  before = λ t c le left. ⊎_elim (λ was. inl was) (λ p. inr (wider c p)) (run.before t c le left);
}
