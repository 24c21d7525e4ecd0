-- What the adapters tell of the bytes of their streams.
use Rattle.std.specs.Prelude.{ℕ, List, Option}
use Rattle.std.specs.Io.KnownBytes.{append_known}
use Rattle.apexplay.specs.declared.streams.Reading.{Reading}
use Rattle.apexplay.specs.declared.streams.Writing.{Writing}

-- what the reader still has, where it tells it
abbrev pub left_of : {R : Type 0} → (R → Option (List ℕ)) → Reading R → Option (List ℕ)
left_of remaining source = remaining source.reader

-- what the writer holds, where it tells it, and then what is gathered
abbrev pub held_of : {W : Type 0} → (W → Option (List ℕ)) → Writing W → Option (List ℕ)
held_of contents sink = append_known (contents sink.writer) sink.gathered.items
