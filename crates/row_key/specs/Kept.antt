-- Keys of what sessions keep of the data of names: docs/rows.md, tags 7 and 8.
use Rattle.std.specs.Prelude.{◌≡◌, ◌⊎◌, ℕ, List, ◌∷◌, ◌++◌}
use Rattle.apex_base.specs.declared.numbers.SessionId.{SessionId}
use Rattle.apex_base.specs.Keys.{id_text}
use Rattle.apex_base.specs.Reading.{short_text}

-- the tags of what sessions keep: snapshots, and values before a rollback
abbrev pub IsKeptTag : ℕ → Type 0
IsKeptTag tag = (tag ≡ 7) ⊎ (tag ≡ 8)

-- a key of what a session keeps, by what follows the session in it
abbrev pub key_under : ℕ → SessionId → List ℕ → List ℕ
key_under tag id under = tag ∷ id_text id ++ under

-- that is a name and a key
abbrev pub kept_text : ℕ → SessionId → List ℕ → List ℕ → List ℕ
kept_text tag id name key = key_under tag id (short_text name key)
