-- Short texts: names, fingerprints and paths. docs/formats/script.md, "Words".
use Rattle.std.specs.Prelude.{ℕ, ◌&&◌, ◌||◌, ◌==◌, Bool, not, nat_le, List, length, codes, Option, Some, None}
use Rattle.std.specs.Prelude.{if◌then◌else◌}
use Rattle.std.specs.List.{list_all, slice_split}
use Rattle.std.specs.Str.{bytes_eq}

-- a letter, a digit, a low line or a full stop
abbrev pub is_name_byte : ℕ → Bool
is_name_byte b =
    (nat_le 65 b && nat_le b 90) || (nat_le 97 b && nat_le b 122) || (nat_le 48 b && nat_le b 57)
    || (b == 95) || (b == 46)

-- a printable byte other than a space
abbrev pub is_print_byte : ℕ → Bool
is_print_byte b = nat_le 33 b && nat_le b 126

-- 1 to 64 bytes that pass
unfoldable pub is_short_text : (ℕ → Bool) → List ℕ → Bool
is_short_text pass bytes = not (length bytes == 0) && nat_le (length bytes) 64 && list_all pass bytes

abbrev pub is_name : List ℕ → Bool
is_name bytes = is_short_text is_name_byte bytes

abbrev pub is_print : List ℕ → Bool
is_print bytes = is_short_text is_print_byte bytes

-- the name that the bytes spell
abbrev pub name_of : List ℕ → Option (List ℕ)
name_of bytes = if is_name bytes then Some bytes else None

-- the fingerprint that the bytes spell
abbrev pub print_of : List ℕ → Option (List ℕ)
print_of bytes = if is_print bytes then Some bytes else None

-- a part of a path, between slashes
abbrev pub is_segment : List ℕ → Bool
is_segment bytes = not (length bytes == 0) && not (bytes_eq bytes (codes ".")) && not (bytes_eq bytes (codes ".."))
    && list_all is_print_byte bytes

-- segments, joined by slashes
unfoldable pub is_path : List ℕ → Bool
is_path bytes = nat_le (length bytes) 128 && list_all is_segment (slice_split (λ b. b == 47) bytes)

-- the path that the bytes spell
abbrev pub path_of : List ℕ → Option (List ℕ)
path_of bytes = if is_path bytes then Some bytes else None
