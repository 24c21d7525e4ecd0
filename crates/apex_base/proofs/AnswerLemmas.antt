-- Answers whose fault was put into `Why`, as by `map_err(Why::Fault)`.
use Rattle.std.proofs.Common.{◌≡◌, Result, Ok, Err}
use Rattle.std.specs.Prelude.{MatchResult, IsErrAnd}
use Rattle.apex_base.specs.Answers.{Answers}
use Rattle.apex_base.specs.declared.why.Why.{Why}
use Rattle.apex_base.specs.declared.why.Why.TheVariants.{Fault}

pub as_fault : {T F : Type 0} (said wanted : Result T F) (result : Result T (Why F)) → wanted ≡ said
    → MatchResult said (λ x. result ≡ Ok x) (λ e. IsErrAnd result (λ why. why ≡ Fault e)) → Answers result wanted
as_fault (Ok x) wanted result e h = rw h e
as_fault (Err f) wanted (Ok x) e h = absurd h
as_fault (Err f) wanted (Err why) e h = rw h e
