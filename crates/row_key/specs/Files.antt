-- What the key of a file says: docs/rows.md, tag 5.
use Rattle.std.specs.Prelude.{ℕ, List, [], ◌∷◌, take, drop, Option, Some, None, if◌then◌else◌}
use Rattle.std.specs.Int.{w32, from_be_bytes}
use Rattle.std.specs.Str.{bytes_eq}
use Rattle.apex_base.specs.declared.numbers.SessionId.{SessionId}
use Rattle.apex_base.specs.Keys.{file_front}

-- the path of a key, if it is that of a file of this part of a session
abbrev pub path_in : SessionId → ℕ → List ℕ → Option (List ℕ)
path_in session part key = if bytes_eq (take 6 key) (file_front session part []) then Some (drop 6 key) else None

-- the session, the part and the path, by the key without its tag, if it is long enough for a session and a part
abbrev pub file_at : List ℕ → Option (SessionId × ℕ × List ℕ)
file_at (a ∷ b ∷ c ∷ d ∷ part ∷ path) =
    Some (record { 0 = from_be_bytes w32 (a ∷ b ∷ c ∷ d ∷ []) }, part, path)
file_at _ = None
