-- Texts in hexadecimal whose digits are judged before they are read.
use Rattle.std.proofs.Common.{◌≡◌, ℕ, false, List, None, Result, Ok, Err, refl, sym, ◌∙◌}
use Rattle.std.specs.List.{list_all}
use Rattle.std.specs.Result.{result_ok}
use Rattle.std.proofs.lemmas.Bool.{false≢true}
use Rattle.std.proofs.lemmas.List.Sums.{list_all-from_AllPass}
use Rattle.hex.specs.Hex.{decode_of, is_hex_digit}
use Rattle.hex.specs.declared.error.FromHexError.{FromHexError}
use Rattle.hex.proofs.HexLemmas.{decode_of-ok}

-- where a byte is no digit, nothing is spelled
pub none_spelled : (digits : List ℕ) → list_all is_hex_digit digits ≡ false → result_ok (decode_of digits) ≡ None
none_spelled digits bad = by_answer (decode_of digits) refl
  where
    by_answer : (read : Result (List ℕ) FromHexError) → decode_of digits ≡ read → result_ok read ≡ None
    by_answer (Err e) is = refl
    by_answer (Ok bytes) is =
        absurd (false≢true (sym bad ∙ list_all-from_AllPass is_hex_digit digits (decode_of-ok digits bytes is).1))
