use Rattle.std.proofs.Common.{sym, inl, inr}
use Rattle.module_digest.proofs.LineLemmas.{entry_kept, entry_dropped}
use Rattle.module_digest.proofs.lines.entry_after.Goals as goal
use Rattle.module_digest.proofs.lines.entry_after.Goals.{else-is_below-via-then-is_below+else-not-is_own_path}
use Rattle.module_digest.proofs.lines.entry_after.Goals.{else-is_below-via-else-is_below}

pub returns-then-not-is_own_path-clause-entry : goal.returns-then-not-is_own_path-clause-entry
returns-then-not-is_own_path-clause-entry c =
    let path = c.as_bytes-path.ensures.bytes in
    entry_kept _ c.args.line.now c.in_ok-entry.entry c.in_ok-entry.ensures.entry
    (sym (rw path at c.if-is_below.ensures)) (sym (rw path at c.if-not-is_own_path.ensures))

pub returns-else-is_below-clause-entry : goal.returns-else-is_below-clause-entry
returns-else-is_below-clause-entry c =
    let path = c.as_bytes-path.ensures.bytes in
    elim c.else-is_below.branch [
      | else-is_below-via-then-is_below+else-not-is_own_path w ↦
          entry_dropped _ c.args.line.now c.in_ok-entry.entry c.in_ok-entry.ensures.entry
          (inr (sym (rw path at w.if-not-is_own_path.ensures)))
      | else-is_below-via-else-is_below w ↦
          entry_dropped _ c.args.line.now c.in_ok-entry.entry c.in_ok-entry.ensures.entry
          (inl (sym (rw path at w.if-is_below.ensures)))
    ]
