-- One row more of the sessions that rows spell.
use Rattle.std.proofs.Common.{◌≡◌, ℕ, List, [], ◌∷◌, ◌++◌, Some, ap, ◌∙◌}
use Rattle.std.proofs.lemmas.List.{append_assoc}
use Rattle.apex_base.specs.declared.records.Record.{Record}
use Rattle.row_check.specs.RowSessions.{sessions_in, with_record}
use Rattle.row_key.specs.Records.{record_in_entry}

pub one_pushed : (done all : List Record) (key value : List ℕ) (rest : List (List ℕ × List ℕ)) (r : Record)
    → Some r ≡ record_in_entry key value → done ++ sessions_in ((key, value) ∷ rest) ≡ all
    → (done ++ (r ∷ [])) ++ sessions_in rest ≡ all
one_pushed done all key value rest r e f =
    append_assoc done (r ∷ []) (sessions_in rest)
    ∙ ap (λ o. done ++ with_record o (sessions_in rest)) e ∙ f
