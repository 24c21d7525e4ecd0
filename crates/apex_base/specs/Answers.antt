-- How an answer meets its definition. If memory ran out, nothing is said.
use Rattle.std.specs.Prelude.{◌≡◌, Result, Ok, Err}
use Rattle.apex_base.specs.declared.why.Why.{Why}
use Rattle.apex_base.specs.declared.why.Why.TheVariants.{Fault, NoMemory}

-- the answer is the value, or the fault, that the definition says
abbrev pub Answers : {T F : Type 0} → Result T (Why F) → Result T F → Type 0
Answers (Ok x) said = said ≡ Ok x
Answers (Err (Fault fault)) said = said ≡ Err fault
Answers (Err NoMemory) said = Unit {0}

-- so is what was changed in place
abbrev pub Becomes : {T D F : Type 0} → Result T (Why F) → D → Result D F → Type 0
Becomes (Ok x) new said = said ≡ Ok new
Becomes (Err (Fault fault)) new said = said ≡ Err fault
Becomes (Err NoMemory) new said = Unit {0}

-- the error is this fault
abbrev pub IsFault : {F : Type 0} → Why F → F → Type 0
IsFault (Fault reported) fault = reported ≡ fault
IsFault NoMemory fault = Unit {0}
