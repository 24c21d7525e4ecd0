-- Lines of a listing.
use Rattle.std.proofs.Common.{◌≡◌, ℕ, ◌+◌, ◌<◌, ◌≤◌, Bool, true, false, cond, ◌&&◌, List, [], ◌∷◌, ◌++◌, append_assoc}
use Rattle.std.proofs.Common.{length, take, drop, slice_index, Option, Some, None, refl, sym, Err, ap, ◌∙◌, arith, inl}
use Rattle.std.proofs.Common.{inr, ◌⊎◌}
use Rattle.std.specs.Prelude.{nat_lt, MatchResult}
use Rattle.std.specs.List.{list_all, slice_split}
use Rattle.std.specs.Ordering.{is_lt, nat_cmp}
use Rattle.std.specs.Cmp.Lexicographic.{slice_cmp}
use Rattle.std.proofs.lemmas.List.{length-take-le}
use Rattle.std.proofs.lemmas.List.Splits.{length-slice_split}
use Rattle.std.proofs.lemmas.Option.{cond_some}
use Rattle.std.proofs.lemmas.Bool.Decides.{nat_tests}
use Rattle.apex_base.specs.Text.{is_path, path_of}
use Rattle.apex_base.specs.declared.fault.ModuleFault.TheVariants.{BadListing}
use Rattle.hex.specs.Hex.{decode_sized}
use Rattle.module_digest.specs.declared.lines.Entry.{Entry}
use Rattle.module_digest.specs.Listing.{is_own_path}
use Rattle.module_digest.specs.Lines.{is_lower_digit, is_line, said, is_good, entry, entry_of, entry_after, parts}
use Rattle.module_digest.specs.Lines.{bad_line, bad_line_from, entries, entries_read, said_by}
use Rattle.module_digest.proofs.DigitLemmas.{SpellsDigest, digest_spelt}

-- the digits of a line spell what it says
spelt : (line bytes : List ℕ) (result : Option Entry) → SpellsDigest (take 64 line) bytes
    → MatchResult (decode_sized (take 64 line) 32) (λ digest. result ≡ Some (entry (drop 65 line) digest))
    (λ e. result ≡ None) → result ≡ Some (said line)
unfolding said
spelt line bytes result s h = rw s.reads (rw s.reads at h)

pub entry_read : (line path : List ℕ) (result : Option Entry) → 65 < length line
    → list_all is_lower_digit (take 64 line) ≡ true → slice_index line 64 ≡ 32 → Some path ≡ path_of (drop 65 line)
    → MatchResult (decode_sized (take 64 line) 32) (λ digest. result ≡ Some (entry path digest)) (λ e. result ≡ None)
    → result ≡ entry_of line
unfolding is_line
entry_read line path result long digits space reads h =
    let read = cond_some (is_path (drop 65 line)) (drop 65 line) path (sym reads) in
    let full : length (take 64 line) ≡ 64 = length-take-le 64 line (omega arith) in
    let same : result ≡ Some (said line) = spelt line _ result (digest_spelt _ full digits).1 (rw read.1 h) in
    let more : nat_lt 65 (length line) ≡ true = grind (arith, nat_tests) in
    let good : is_line line ≡ true = rw (more, digits, space, read.0) refl in
    same ∙ sym (ap (λ b. cond b (Some (said line)) None) good)

cond_none : {A : Type 0} (b : Bool) (x : A) → None ≡ cond b (Some x) None → b ≡ false
cond_none true x h = cc
cond_none false x h = refl

and_false : (a : Bool) → (a && false) ≡ false
and_false true = refl
and_false false = refl

pub entry_unread : (line : List ℕ) → None ≡ path_of (drop 65 line) → None ≡ entry_of line
unfolding is_line
entry_unread line h =
    let none : is_path (drop 65 line) ≡ false = cond_none _ (drop 65 line) h in
    rw (none, and_false) refl

-- parts are never none
some_part : (p : ℕ → Bool) (xs : List ℕ) → 1 ≤ length (slice_split p xs)
some_part p xs = omega (arith, length-slice_split p xs)

bad_step : (before line : List ℕ) (n : ℕ) (rest : List (List ℕ)) → 1 ≤ length rest
    → bad_line_from before n (line ∷ rest) ≡ cond (is_good before line) (bad_line_from (drop 65 line) (n + 1) rest)
    (Some n)
bad_step before line n [] h = absurd (omega arith)
bad_step before line n (next ∷ rest) h = refl

said_step : (line : List ℕ) (rest : List (List ℕ)) → 1 ≤ length rest → said_by (line ∷ rest) ≡ said line ∷ said_by rest
said_step line [] h = absurd (omega arith)
said_step line (next ∷ rest) h = refl

-- a line before a line feed
pub bad_more : (before line : List ℕ) (n : ℕ) (behind : List ℕ)
    → bad_line_from before n (line ∷ parts behind)
    ≡ cond (is_good before line) (bad_line_from (drop 65 line) (n + 1) (parts behind)) (Some n)
bad_more before line n behind = bad_step before line n (parts behind) (some_part _ behind)

pub said_more : (line behind : List ℕ) → said_by (line ∷ parts behind) ≡ said line ∷ said_by (parts behind)
said_more line behind = said_step line (parts behind) (some_part _ behind)

pub said-path : (line : List ℕ) → (said line).path ≡ drop 65 line
unfolding said
said-path line = refl

-- a line of the right form, after a line with that path
pub entry_kept : (before line : List ℕ) (e : Entry) → Some e ≡ entry_of line
    → is_lt (slice_cmp nat_cmp before e.path) ≡ true → is_own_path e.path ≡ false → Some e ≡ entry_after before line
unfolding is_good said
entry_kept before line e h below other =
    let read = cond_some (is_line line) (said line) e (sym h) in
    let path : drop 65 line ≡ e.path = ap (λ (s : Entry). s.path) read.1 in
    let good : is_good before line ≡ true = rw (read.0, path, below, other) refl in
    ap Some (sym read.1) ∙ sym (ap (λ b. cond b (Some (said line)) None) good)

pub entry_dropped : (before line : List ℕ) (e : Entry) → Some e ≡ entry_of line
    → (is_lt (slice_cmp nat_cmp before e.path) ≡ false) ⊎ (is_own_path e.path ≡ true) → None ≡ entry_after before line
unfolding is_good said
entry_dropped before line e h (inl below) =
    let read = cond_some (is_line line) (said line) e (sym h) in
    let path : drop 65 line ≡ e.path = ap (λ (s : Entry). s.path) read.1 in
    let good : is_good before line ≡ false = rw (read.0, path, below) refl in
    sym (ap (λ b. cond b (Some (said line)) None) good)
entry_dropped before line e h (inr own) =
    let read = cond_some (is_line line) (said line) e (sym h) in
    let path : drop 65 line ≡ e.path = ap (λ (s : Entry). s.path) read.1 in
    let good : is_good before line ≡ false = rw (path, own, and_false) refl in
    sym (ap (λ b. cond b (Some (said line)) None) good)

-- a line that is no good is the first bad one
pub stopped : (text before line behind rest : List ℕ) (n : ℕ) → bad_line text ≡ bad_line_from before n (parts rest)
    → parts rest ≡ line ∷ parts behind → None ≡ entry_after before line → entries_read text ≡ Err (BadListing n)
stopped text before line behind rest n so_far cut none =
    let bad : is_good before line ≡ false = cond_none _ (said line) none in
    rw (so_far, cut, bad_more, bad) refl

-- a good line
pub went_on : (text before line behind rest : List ℕ) (n : ℕ) (e : Entry)
    → bad_line text ≡ bad_line_from before n (parts rest) → parts rest ≡ line ∷ parts behind
    → Some e ≡ entry_after before line → bad_line text ≡ bad_line_from (drop 65 line) (n + 1) (parts behind)
went_on text before line behind rest n e so_far cut kept =
    let good = cond_some (is_good before line) (said line) e (sym kept) in
    rw (so_far, cut, bad_more, good.0) refl

pub read_on : (text before line behind rest : List ℕ) (seen : List Entry) (e : Entry)
    → entries text ≡ seen ++ said_by (parts rest) → parts rest ≡ line ∷ parts behind → Some e ≡ entry_after before line
    → entries text ≡ (seen ++ e ∷ []) ++ said_by (parts behind)
read_on text before line behind rest seen e so_far cut kept =
    let good = cond_some (is_good before line) (said line) e (sym kept) in
    so_far ∙ rw (cut, said_more, good.1, append_assoc) refl
