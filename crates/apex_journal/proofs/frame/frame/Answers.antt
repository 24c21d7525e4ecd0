use Rattle.std.proofs.Common.{◌≡◌, ◌∷◌, [], ◌++◌, ℕ, List, drop, ap, ◌∙◌, arith}
use Rattle.std.proofs.lemmas.List.{with_items_is}
use Rattle.std.specs.Vec.{with_items}
use Rattle.apex_journal.specs.Records.{framed}
use Rattle.apex_journal.proofs.frame.frame.Goals as goal

pub returns : goal.returns
returns c =
    let is : (with_items c.args.bytes c.write_len.new.bytes).items ≡ framed (drop 4 c.args.bytes.items) =
    with_items_is c.args.bytes c.write_len.new.bytes (omega arith) ∙ c.write_len.ensures
    ∙ ap (λ (l : List ℕ). framed (drop 4 l)) c.deref_mut.ensures.value in
    c.in_ok-push.ensures.items ∙ ap (λ (l : List ℕ). l ++ 0 ∷ []) is
