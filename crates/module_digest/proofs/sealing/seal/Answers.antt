use Rattle.std.proofs.Common.{◌≡◌, Result, Ok, Err}
use Rattle.std.specs.Prelude.{IsErrAnd, IfErr}
use Rattle.module_digest.proofs.SealLemmas.{sound_after, refused_as}
use Rattle.module_digest.proofs.sealing.seal.Goals as goal

pub returns-clause-sound : goal.returns-clause-sound
returns-clause-sound c =
    sound_after c.args.directory.now c.put.new.self c.listing.result c.in-Ok.text c.in_ok-put.ensures.put
    c.listing.ensures c.in-Ok.ensures c.known-2.ensures

if_err : {T E : Type 0} (r : Result T E) (e : E) (P : E → Type 0) → IsErrAnd r (λ f. f ≡ e) → P e → IfErr r P
if_err (Ok x) e P is p = absurd is
if_err (Err f) e P is p = rw is p

pub returns-in_err-put-clause-refused : goal.returns-in_err-put-clause-refused
returns-in_err-put-clause-refused c =
    if_err c.from_residual.result c.in_err-put.field-0.0 _ c.from_residual.ensures.1 (λ other.
    refused_as c.args.directory.now c.listing.result c.in-Ok.text c.in_err-put.field-0.0 c.known.ensures
    c.listing.ensures c.in-Ok.ensures (c.in_err-put.ensures.refused other))
