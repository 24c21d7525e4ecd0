-- Steps of reading, one after the other.
use Rattle.std.proofs.Common.{◌≡◌, ℕ, List, Option, Some, None, refl}
use Rattle.std.specs.Prelude.{IfSome}
use Rattle.apex_base.specs.Reading.{◌>>=◌}
use Rattle.apex_base.proofs.ByteLists.{AreBytes}

-- two steps and a third are one step and two
pub bind_then : {A B C : Type 0} (o : Option A) (f : A → Option C) (g : A → Option B) (h : B → Option C)
    → ((x : A) → f x ≡ (g x >>= h)) → (o >>= f) ≡ ((o >>= g) >>= h)
bind_then None f g h e = refl
bind_then (Some x) f g h e = e x

-- what holds of what is read, if what was read before held
pub bind_holds : {A B : Type 0} (o : Option A) (f : A → Option B) (P : A → Type 0) (Q : B → Type 0)
    → IfSome o P → ((x : A) → P x → IfSome (f x) Q) → IfSome (o >>= f) Q
bind_holds None f P Q p next = tt
bind_holds (Some x) f P Q p next = next x p

-- the bytes are this text, and what follows the part that was read are bytes too
pub record Took (bytes text rest : List ℕ) : Type 0 where
  pub is : bytes ≡ text
  pub rest_fits : AreBytes rest
