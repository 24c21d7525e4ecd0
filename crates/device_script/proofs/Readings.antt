-- A reading, a line further.
use Rattle.std.proofs.Common.{◌≡◌, ℕ, ◌+◌, ◌==◌, List, ◌∷◌, Ok, Err, sym, ap, ◌∙◌, subst}
use Rattle.std.specs.List.{slice_split}
use Rattle.std.specs.Str.Lines.{lines, strip_carriage_return}
use Rattle.device_script.specs.declared.draft.Draft.{Draft}
use Rattle.device_script.specs.declared.fault.LineFault.{LineFault}
use Rattle.apex_base.specs.declared.why.Why.{Why}
use Rattle.apex_base.specs.declared.why.Why.TheVariants as why
use Rattle.apex_base.specs.Results.{◌>>=◌}
use Rattle.device_script.specs.Script.{line_read, lines_read, at_line, error_at, ReadsAs}
use Rattle.apex_base.specs.Answers.{Becomes}
use Rattle.device_script.proofs.LineLemmas.{lines_first}

-- bytes begin with a line, whose carriage return is dropped, and a line feed
abbrev pub Begins : List ℕ → List ℕ → List ℕ → List ℕ → Type 0
Begins bytes line kept behind =
    (slice_split (λ b. b == 10) bytes ≡ line ∷ slice_split (λ b. b == 10) behind) × (kept ≡ strip_carriage_return line)

-- the lines of such bytes
lines_begin : (bytes line kept behind : List ℕ) → Begins bytes line kept behind → lines bytes ≡ kept ∷ lines behind
lines_begin bytes line kept behind begins =
    lines_first bytes line behind begins.0 ∙ ap (λ l. l ∷ lines behind) (sym begins.1)

-- if the first line enters the draft, the lines after it are read
pub reads_on : (n : ℕ) (d e : Draft) (bytes line kept behind : List ℕ) → Begins bytes line kept behind
    → line_read d n kept ≡ Ok e → lines_read n d (lines bytes) ≡ lines_read (n + 1) e (lines behind)
reads_on n d e bytes line kept behind begins read = ap (lines_read n d) (lines_begin bytes line kept behind begins)
    ∙ ap (λ r. at_line n r >>= λ f. lines_read (n + 1) f (lines behind)) read

-- if the first line doesn't enter the draft, the reading ends with its fault
by_error : (n : ℕ) (d new : Draft) (e : Why LineFault) (l : List ℕ) (ls : List (List ℕ))
    → Becomes {T = Unit {0}} (Err e) new (line_read d n l)
    → ReadsAs {T = Draft} (Err (error_at n e)) (lines_read n d (l ∷ ls))
by_error n d new (why.Fault fault) l ls h = ap (λ r. at_line n r >>= λ f. lines_read (n + 1) f ls) h
by_error n d new why.NoMemory l ls h = tt

-- the same of the bytes
pub reads_no_further : (n : ℕ) (d new : Draft) (e : Why LineFault) (bytes line kept behind : List ℕ)
    → Begins bytes line kept behind → Becomes {T = Unit {0}} (Err e) new (line_read d n kept)
    → ReadsAs {T = Draft} (Err (error_at n e)) (lines_read n d (lines bytes))
reads_no_further n d new e bytes line kept behind begins h =
    subst (λ ls. ReadsAs {T = Draft} (Err (error_at n e)) (lines_read n d ls))
    (sym (lines_begin bytes line kept behind begins)) (by_error n d new e kept (lines behind) h)
