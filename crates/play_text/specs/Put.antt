-- What a call that puts lines leaves in the sink.
use Rattle.std.specs.Prelude.{ℕ, ◌≤◌, List, Option, Result, IsErrOf}
use Rattle.apex_base.specs.Causes.{Rose}
use Rattle.apex_base.specs.Outside.{Puts}
use Rattle.play_text.specs.declared.put.PutFailed.{PutFailed}
use Rattle.play_text.specs.declared.put.PutFailed.TheVariants.{Sink}

-- the count of faults never falls, and the sink's fault is answered only where it rose
pub record HasSinkCause {T : Type 0} (result : Result T PutFailed) (count count' : ℕ) : Type 0 where
  pub later : count ≤ count'
  pub cause : IsErrOf result Sink → Rose count count'

-- the text was put, or a front of it where the call failed
pub record HasPut {T : Type 0} (result : Result T PutFailed) (held held' : Option (List ℕ)) (count count' : ℕ)
    (text : List ℕ) : Type 0 where
  pub put : Puts held held' result text
  pub faults : HasSinkCause result count count'

-- the same of a sink, by what it tells of its bytes and its faults
abbrev pub HasPutLines : {S T : Type 0} → (S → Option (List ℕ)) → (S → ℕ) → Result T PutFailed → S → S → List ℕ → Type 0
HasPutLines held faults result old new text = HasPut result (held old) (held new) (faults old) (faults new) text
