-- What a format writes after the store's gate: docs/formats/journal.md, "Format".
use Rattle.std.specs.Prelude.{◌≡◌, ℕ, List, length, take, drop, get_or}
use Rattle.apex_base.specs.declared.numbers.Scale.{Scale}
use Rattle.apex_journal.specs.Journal.{heading}

-- the rest of the heading, and a closed gate at the start of the first half
pub record IsHeader (scale : Scale) (bytes : List ℕ) : Type 0 where
  pub long : length bytes ≡ 4096
  pub named : take 10 bytes ≡ drop 1 (heading scale)
  pub closed : get_or bytes 4095 0 ≡ 0
