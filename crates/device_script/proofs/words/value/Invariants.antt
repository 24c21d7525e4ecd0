use Rattle.std.proofs.Common.{◌≡◌, ◌≤◌, true, take}
use Rattle.std.specs.List.{list_all}
use Rattle.device_script.specs.Words.{decimal_value, is_digit}
use Rattle.device_script.proofs.words.value.Given as goal

-- the bytes so far are digits, and spell the number
abbrev pub invariant-loop-b : goal.invariant-loop-b
invariant-loop-b l = record {
  digits : list_all is_digit (take l.b-index l.digits) ≡ true;
  value : l.n ≡ decimal_value (take l.b-index l.digits);
  small : l.n ≤ 18446744073709551615;
}
