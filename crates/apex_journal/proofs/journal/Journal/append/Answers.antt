use Rattle.std.proofs.Common.{◌++◌, ◌∷◌, [], List, ℕ, subst}
use Rattle.std.specs.Prelude.{OnOk}
use Rattle.apex_disk.specs.Moments.{LeavesOnly}
use Rattle.apex_journal.specs.Journal.{Stands}
use Rattle.apex_journal.specs.Appends.{MayHold}
use Rattle.apex_journal.proofs.journal.Journal.append.Goals as goal

pub returns-clause-appended : goal.returns-clause-appended
returns-clause-appended g c =
    subst (λ (piece : List ℕ). OnOk c.append_in_place.result ((records : List (List ℕ))
    → Stands g.D.Disk.reads g.D.Disk.images c.args.self.now records
    → Stands g.D.Disk.reads g.D.Disk.images c.append_in_place.new.self (records ++ piece ∷ [])))
    c.in-Ok.ensures.record c.append_in_place.ensures.appended

pub returns-clause-any_moment : goal.returns-clause-any_moment
returns-clause-any_moment g c =
    subst (λ (piece : List ℕ). (records : List (List ℕ)) → Stands g.D.Disk.reads g.D.Disk.images c.args.self.now records
    → LeavesOnly g.D.Disk.moment g.D.Disk.images_since c.args.self.now.device c.append_in_place.new.self.device
    (MayHold c.append_in_place.result c.args.self.now.scale records piece))
    c.in-Ok.ensures.record c.append_in_place.ensures.any_moment
