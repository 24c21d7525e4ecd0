-- The line on standard error: the repository's README, exit statuses.
use Rattle.std.specs.Prelude.{ℕ, List, [], ◌∷◌, ◌++◌, codes, Option, Some, None, IfSome}
use Rattle.std.specs.Io.KnownBytes.{Appends}
use Rattle.device_play.specs.declared.status.Status.{Status}
use Rattle.device_play.specs.declared.status.Status.TheVariants as status

-- the line that says why a run ended; none is known for a bad line of a script, since no clause tells how its fault is
-- printed
abbrev pub line_of : Status → Option (List ℕ)
line_of status.Done = Some []
line_of status.Usage = Some (codes "apexplay: usage" ++ (10 ∷ []))
line_of (status.Script line why) = None
line_of status.SourceFault = Some (codes "apexplay: source fault" ++ (10 ∷ []))
line_of status.SinkFault = Some (codes "apexplay: sink fault" ++ (10 ∷ []))
line_of status.Memory = Some (codes "apexplay: no memory" ++ (10 ∷ []))

-- a writer that tells its bytes has gained the line
abbrev pub HasLine : Option (List ℕ) → Option (List ℕ) → Status → Type 0
HasLine before after s = IfSome (line_of s) (Appends before after)
