-- A session that waits for the next boot, found by its id.
use Rattle.std.proofs.Common.{◌≡◌, true, Option, Some, None, refl}
use Rattle.apex_base.specs.declared.records.Record.{Record}
use Rattle.apex_world.specs.Rows.{is_staged_session}
use Rattle.apex_base.specs.Held.{is_staged}

-- it is there
pub staged_some : (o : Option Record) → is_staged_session o ≡ true
    → (z : Record) × (o ≡ Some z) × (is_staged z.state ≡ true)
staged_some None e = absurd (cc)
staged_some (Some z) e = (z, refl, e)
