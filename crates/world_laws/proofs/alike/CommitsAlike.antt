-- Commits in worlds that are alike. Callers want `commits_alike` and `commit_alike`.
use Rattle.std.proofs.Common.{◌≡◌, ℕ, ◌<◌, true, List, [], ◌∷◌, Result, Ok, Err, sym, ◌∙◌, refl, inl, inr, arith}
use Rattle.std.proofs.lemmas.Bool.{false≢true}
use Rattle.apex_base.specs.declared.numbers.SessionId.{SessionId}
use Rattle.apex_base.specs.declared.records.Record.{Record}
use Rattle.apex_base.specs.declared.refusal.Refusal.{Refusal}
use Rattle.apex_base.specs.Commit.{rollback_id, committed}
use Rattle.apex_base.specs.Held.{is_available}
use Rattle.apex_base.specs.Members.{In}
use Rattle.apex_base.specs.Results.{◌>>=◌}
use Rattle.apex_base.specs.Sessions.{Ascend}
use Rattle.apex_base.proofs.MemberLemmas.{each_in}
use Rattle.apex_world.specs.declared.calls.Reply.TheVariants as reply
use Rattle.apex_world.specs.Lawful.{Lawful}
use Rattle.apex_world.specs.Report.{committable, commit}
use Rattle.apex_world.specs.Stepped.{answered}
use Rattle.world_laws.specs.StoredAlike.{AreAlikeInParts, AreSteppedAlike}
use Rattle.apex_world.specs.Submit.{image_print}
use Rattle.apex_world.specs.Trigger.{commit_all}
use Rattle.apex_world.specs.World.{World}
use Rattle.world_laws.proofs.alike.AlikeAfter.{alike_after}
use Rattle.world_laws.proofs.alike.AlikeLemmas.{other, beside, unchanged, refused_alike}
use Rattle.world_laws.proofs.meaning.CallStays.{chosen}
use Rattle.world_laws.proofs.alike.CommitTurns.{CanCommit, carries_commit, nothing_commit, past_commit, ordered_commit}
use Rattle.world_laws.proofs.alike.CommitTurns.{can_after}
use Rattle.world_facts.proofs.facts.KeptLemmas.{AreOrdered, ordered}
use Rattle.world_facts.proofs.facts.NewIds.{rollback_new, in_has}

-- one commit
once_alike : (w v : World) (a : AreAlikeInParts w v) → AreOrdered w.sessions → (x : Record) → CanCommit w.sessions x
    → (print : List ℕ) → AreAlikeInParts (record w { sessions = committed w.sessions x print })
    (record (other w v a) { sessions = committed w.sessions x print })
once_alike w v a law x can print =
    alike_after w v a (committed w.sessions x print) law (ordered_commit w.sessions law x can print)
    (carries_commit w.sessions law x can print) (nothing_commit w.sessions law x can print)
    (past_commit w.sessions law x can print) w.clock

-- and any number of them, one after another
pub commits_alike : (print : List ℕ) (xs : List Record) (w v : World) (a : AreAlikeInParts w v) → AreOrdered w.sessions
    → Ascend xs → ((x : Record) → In x xs → CanCommit w.sessions x)
    → AreAlikeInParts (record w { sessions = commit_all print w.sessions xs })
    (record (other w v a) { sessions = commit_all print w.sessions xs })
commits_alike print [] w v a law b can = unchanged w v a
commits_alike print (x ∷ xs) w v a law b can =
    let here = can x (inl refl) in
    let ss = committed w.sessions x print in
    commits_alike print xs (record w { sessions = ss }) (record (other w v a) { sessions = ss })
    (once_alike w v a law x here print) (ordered_commit w.sessions law x here print) b.1
    (λ y h.
    let l = each_in (λ (s : Record). x.id.0 < s.id.0) xs b.0 y h in
    can_after w.sessions law x here print y (can y (inr h)) (λ e. omega (arith, l, e)))

-- what is available can be committed
pub can_commit : (w : World) → Lawful w → (x : Record) → In x w.sessions → is_available x.rollback ≡ true
    → CanCommit w.sessions x
can_commit w law x h e = record {
  among = h;
  success = (law.rollbacks.each x h).available e;
  available = e;
  unused = λ r i f. absurd (false≢true (sym (rollback_new w.sessions law.ids law.undone x h e r (rollback_id x.id) i
      (inl refl)) ∙ in_has (rollback_id x.id) r r.id (inl refl) f));
}

module _ (w v : World) (a : AreAlikeInParts w v) (law : Lawful w) where
  commit_if : (id : SessionId) (o : Result Record Refusal) → committable w.sessions id ≡ o
      → AreSteppedAlike
      (answered w (o >>= λ x. Ok (record {
        world = record w { sessions = committed w.sessions x (image_print w.image) };
        reply = reply.Committed (rollback_id x.id);
      })))
      (answered (other w v a) (o >>= λ x. Ok (record {
        world = record (other w v a) { sessions = committed w.sessions x (image_print w.image) };
        reply = reply.Committed (rollback_id x.id);
      })))
  commit_if id (Err refusal) e = refused_alike w (other w v a) refusal (unchanged w v a)
  commit_if id (Ok x) e =
      let (h, f) = chosen w.sessions id x e in
      record {
        reply = refl;
        world = once_alike w v a (ordered w law) x (can_commit w law x h f) (image_print w.image);
      }

  -- the call
  pub commit_alike : (id : SessionId) → AreSteppedAlike (commit w id) (commit v id)
  commit_alike id = beside w v a (λ z. commit z id) (commit_if id (committable w.sessions id) refl)
