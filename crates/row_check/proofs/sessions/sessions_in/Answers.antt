use Rattle.std.proofs.Common.{◌≡◌, ◌++◌, ◌∷◌, Some}
use Rattle.std.specs.FinMap as fin
use Rattle.row_map.specs.Rows.{shown}
use Rattle.row_key.specs.RowBytes.{FitRow, FitRows}
use Rattle.row_check.specs.RowSessions.{sessions_in}
use Rattle.row_key.specs.Records.{record_in_entry}
use Rattle.row_check.proofs.SessionSteps.{one_pushed}
use Rattle.row_check.proofs.sessions.sessions_in.Goals as goal

pub loop-key-preserved-in-Continue-branch-3 : goal.loop-key-preserved-in-Continue-branch-3
loop-key-preserved-in-Continue-branch-3 c =
    let key = c.in-Some.key.now.items in
    let value = c.in-Some.value.now in
    let all = sessions_in (fin.entries c.args.rows.now) in
    let step : c.loop-key.key-iterator ≡ (c.in-Some.key.now, value) ∷ c.next.new.self = c.in-Some.ensures.steps in
    let found : Some c.in-Some-2.found ≡ record_in_entry key value =
    rw (← c.in-Some-2.is, ← c.as_slice.ensures.value, ← c.as_slice-in-loop-key.ensures) c.in_ok-found.ensures.found in
    let before : c.loop-key.sessions.items ++ sessions_in ((key, value) ∷ shown c.next.new.self) ≡ all =
    rw step at c.loop-key.invariant.0 in
    let fits : FitRows ((key, value) ∷ shown c.next.new.self) → FitRows (fin.entries c.args.rows.now) =
    rw step at c.loop-key.invariant.1 in
    let fit : FitRow (key, value) =
    rw (← c.as_slice.ensures.value, ← c.as_slice-in-loop-key.ensures) c.in_ok-found.ensures.fits in (
      rw c.in_ok-push.ensures.items (one_pushed c.loop-key.sessions.items all key value (shown c.next.new.self)
          c.in-Some-2.found found before),
      λ rest. fits (fit, rest),
    )
