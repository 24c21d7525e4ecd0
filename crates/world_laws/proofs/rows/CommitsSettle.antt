-- Commits and triggers keep no more. Callers want `commit_no_more`, `commits_no_more` and `trigger_no_more`.
use Rattle.std.proofs.Common.{ℕ, ◌<◌, List, [], ◌∷◌, Option}
use Rattle.std.proofs.Common.{Some, None, refl, inl, inr, arith}
use Rattle.apex_base.specs.declared.records.Record.{Record}
use Rattle.apex_base.specs.Commit.{committed}
use Rattle.apex_base.specs.Members.{In}
use Rattle.apex_base.specs.Sessions.{Ascend}
use Rattle.apex_base.proofs.MemberLemmas.{each_in}
use Rattle.apex_world.specs.declared.calls.Observer.{Observer}
use Rattle.apex_world.specs.declared.calls.ObserverKind.{ObserverKind}
use Rattle.apex_world.specs.declared.calls.ObserverKind.TheVariants.{Fixed, Rollback}
use Rattle.apex_world.specs.Trigger.{acting_among, commits, commit_all, acted, triggered}
use Rattle.world_laws.proofs.alike.CommitTurns.{CanCommit, carries_commit, nothing_commit, ordered_commit, can_after}
use Rattle.world_laws.proofs.alike.CommitTurns as turns
use Rattle.world_facts.proofs.facts.KeptLemmas.{AreOrdered}
use Rattle.world_laws.proofs.rows.SettledRows.{KeepsNoMore, no_more, no_more_self, no_more_then}

-- Commits, one after another

-- one commit
pub commit_no_more : (ss : List Record) → AreOrdered ss → (x : Record) → CanCommit ss x → (print : List ℕ)
    → KeepsNoMore ss (committed ss x print)
commit_no_more ss law x can print =
    no_more ss (committed ss x print) law (ordered_commit ss law x can print) (carries_commit ss law x can print)
    (nothing_commit ss law x can print) (turns.past_stays ss law x can print)

-- any number of them, each of another session
pub commits_no_more : (print : List ℕ) (xs ss : List Record) → AreOrdered ss → Ascend xs
    → ((x : Record) → In x xs → CanCommit ss x) → KeepsNoMore ss (commit_all print ss xs)
commits_no_more print [] ss law b can = no_more_self ss
commits_no_more print (x ∷ xs) ss law b can =
    let here = can x (inl refl) in
    let mid = committed ss x print in
    no_more_then ss mid (commit_all print mid xs) (commit_no_more ss law x here print)
    (commits_no_more print xs mid (ordered_commit ss law x here print) b.1 (λ y h.
    let l = each_in (λ (s : Record). x.id.0 < s.id.0) xs b.0 y h in
    can_after ss law x here print y (can y (inr h)) (λ e. omega (arith, l, e))))

module _ (ss : List Record) (law : AreOrdered ss) (print : List ℕ) (xs : List Record) (ascend : Ascend xs)
    (can : (x : Record) → In x xs → CanCommit ss x) where
  kind_no_more : (k : ObserverKind) → KeepsNoMore ss (commit_all print ss (commits xs k))
  kind_no_more (Fixed level) = no_more_self ss
  kind_no_more Rollback = commits_no_more print xs ss law ascend can

  acted_no_more : (o : Option Observer) → KeepsNoMore ss (acted ss print xs o).sessions
  acted_no_more None = no_more_self ss
  acted_no_more (Some o) = kind_no_more o.kind

  -- a trigger, whoever acts
  pub trigger_no_more : (observers : List Observer) → KeepsNoMore ss (triggered ss print xs observers).sessions
  trigger_no_more observers = acted_no_more (acting_among xs observers)
