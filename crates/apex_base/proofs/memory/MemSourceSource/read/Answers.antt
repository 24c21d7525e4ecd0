use Rattle.std.proofs.Common.{sym, arith}
use Rattle.std.proofs.lemmas.Grind.{common_steps}
use Rattle.std.proofs.lemmas.List.{take_rest, drop-drop}
use Rattle.apex_base.proofs.SourceLemmas.{TookFront-read}
use Rattle.apex_base.proofs.memory.MemSourceSource.read.Goals as goal

pub returns-clause-taken : goal.returns-clause-taken
returns-clause-taken c =
    TookFront-read _ _ _ _ _ (grind (arith, common_steps, take_rest)) (grind (arith, common_steps, take_rest))
    (sym (drop-drop c.min-n.result c.args.self.now.at c.args.self.now.bytes.items))
