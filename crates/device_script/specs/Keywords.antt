-- The first words of lines: docs/formats/script.md, "Lines".
use Rattle.std.specs.Prelude.{ℕ, ◌==◌, List, [], ◌∷◌, filter, length, codes, Option, Some, None, if◌then◌else◌}
use Rattle.std.specs.Str.{bytes_eq}
use Rattle.device_script.specs.declared.keyword.Keyword.{Keyword}
use Rattle.device_script.specs.declared.keyword.Keyword.TheVariants as keyword

-- each first word of the format, and what its line is; Later if such lines aren't read yet
unfoldable pub keywords : List (List ℕ × Keyword)
keywords =
    -- calls
    (codes "submit", keyword.Submit) ∷ (codes "ready", keyword.Ready) ∷ (codes "abort", keyword.Abort)
    ∷ (codes "success", keyword.Success) ∷ (codes "state", keyword.State)
    ∷ (codes "group", keyword.Later) ∷ (codes "revert", keyword.Later) ∷ (codes "commit", keyword.Later)
    ∷ (codes "put", keyword.Later) ∷ (codes "drop", keyword.Later) ∷ (codes "get", keyword.Later)
    ∷ (codes "watch", keyword.Later) ∷ (codes "report", keyword.Later)
    -- scale, images and boots
    ∷ (codes "scale", keyword.Scale) ∷ (codes "image", keyword.Image) ∷ (codes "pre", keyword.Pre)
    ∷ (codes "boot", keyword.Boot) ∷ (codes "observer", keyword.Later) ∷ (codes "nomount", keyword.Later)
    ∷ (codes "mount", keyword.Later)
    -- lanes
    ∷ (codes "cut", keyword.Later) ∷ (codes "lane", keyword.Later) ∷ (codes "end", keyword.Later)
    ∷ (codes "then", keyword.Later)
    -- module blocks
    ∷ (codes "module", keyword.Module) ∷ (codes "file", keyword.File) ∷ (codes "text", keyword.Text)
    ∷ (codes "remove", keyword.Remove) ∷ (codes "seal", keyword.Seal) ∷ (codes "done", keyword.Done)
    ∷ []

-- what a table has for a word
abbrev pub look_up : List (List ℕ × Keyword) → List ℕ → Option Keyword
look_up [] word = None
look_up (row ∷ rows) word = if bytes_eq word row.0 then Some row.1 else look_up rows word

-- what a line with this first word is
abbrev pub keyword_of : List ℕ → Option Keyword
keyword_of word = look_up keywords word

-- the rows of words of one length
abbrev pub of_length : ℕ → List (List ℕ × Keyword) → List (List ℕ × Keyword)
of_length n rows = filter (λ row. length row.0 == n) rows
