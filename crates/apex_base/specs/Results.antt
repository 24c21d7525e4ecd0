-- Steps, one after another: the first error is that of all.
use Rattle.std.specs.Prelude.{Option, Some, None, Result, Ok, Err}

infixl 10 ◌>>=◌
abbrev pub ◌>>=◌ : {A B E : Type 0} → Result A E → (A → Result B E) → Result B E
Ok x >>= next = next x
Err e >>= next = Err e

-- a step that goes on if there is no fault
abbrev pub pass : {F : Type 0} → Option F → Result (Unit {0}) F
pass None = Ok tt
pass (Some fault) = Err fault
