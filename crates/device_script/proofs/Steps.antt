-- What holds of a value that steps of reading give.
use Rattle.std.proofs.Common.{ℕ, Bool, true, false, cond, Result, Ok, Err}
use Rattle.std.specs.Prelude.{IfOk}
use Rattle.device_script.specs.declared.fault.LineFault.{LineFault}
use Rattle.apex_base.specs.Results.{◌>>=◌}
use Rattle.device_script.specs.Script.{at_line}

-- of what the first test gives and of what the second does, and a fault has no value
pub tested_ok : {T E : Type 0} (a b : Bool) (r s : Result T E) (e : E) (P : T → Type 0) → IfOk r P → IfOk s P
    → IfOk (cond a r (cond b s (Err e))) P
tested_ok true b r s e P p q = p
tested_ok false true r s e P p q = q
tested_ok false false r s e P p q = tt

-- of the next step, whatever the first gives
pub from_ok : {A B E : Type 0} (r : Result A E) (next : A → Result B E) (P : B → Type 0) → ((x : A) → IfOk (next x) P)
    → IfOk (r >>= next) P
from_ok (Ok x) next P step = step x
from_ok (Err e) next P step = tt

-- of one step, and so of the next
pub next_ok : {A B E : Type 0} (r : Result A E) (next : A → Result B E) (Q : A → Type 0) (P : B → Type 0) → IfOk r Q
    → ((x : A) → Q x → IfOk (next x) P) → IfOk (r >>= next) P
next_ok (Ok x) next Q P q step = step x q
next_ok (Err e) next Q P q step = tt

-- of a step, and so of the step with the number of its line
pub at_line_ok : {T : Type 0} (n : ℕ) (r : Result T LineFault) (P : T → Type 0) → IfOk r P → IfOk (at_line n r) P
at_line_ok n (Ok x) P p = p
at_line_ok n (Err e) P p = tt
