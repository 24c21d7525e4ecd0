-- The run of an append, over any disk.
use Rattle.std.proofs.Common.{◌≡◌, inl, ℕ, ◌+◌, ◌*◌, ◌≤◌, List, [], ◌∷◌, ◌++◌, length, Option, Some, option_map, sym, ◌∙◌, ap, subst, arith}
use Rattle.apex_disk.specs.Disk.{IsSettled, FewerImages, Elapses}
use Rattle.apex_disk.specs.Moments.{LeavesOnly}
use Rattle.apex_disk.proofs.Moments.{started, goes_on, andthen}
use Rattle.apex_journal.specs.Records.{framed}
use Rattle.apex_journal.specs.Gate.{gated, MayBeGated}
use Rattle.apex_journal.specs.Journal.{half_len, Opens, Seen, Stands, WithOrWithout}
use Rattle.apex_journal.proofs.Told.{told_from}
use Rattle.apex_journal.proofs.Gates.{From}
use Rattle.apex_journal.proofs.Torn.{length-framed, room, longer, append_torn, append_done}

module _ {D : Type 0} (reads : D → Option (List ℕ)) (images : D → List ℕ → Type 0) (moment : D → ℕ) (since : D → ℕ
    → List ℕ → Type 0)
    (length_of : D → ℕ) (only_now : (d : D) (c : List ℕ) → since d (moment d) c → images d c)
    (reads_long : (d : D) (f : List ℕ) → reads d ≡ Some f → length f ≡ length_of d)
    (j : Seen D) (records : List (List ℕ)) (stands : Stands reads images j records) (d1 : D) (same : reads d1
    ≡ reads j.device)
    (fewer : FewerImages (images j.device) (images d1)) where
  -- a call that changes no bytes leaves the records
  pub kept : Elapses (moment j.device) (moment d1) (since j.device) (since d1) (images d1)
      → LeavesOnly moment since j.device d1 (λ c. Opens j.scale c records)
  kept time =
      let P : List ℕ → Type 0 = λ c. Opens j.scale c records in
      let here : (c : List ℕ) → images j.device c → P c = λ c left. stands.opens c (stands.settled c left) in
      goes_on moment since j.device j.device d1 P _
      (started moment since j.device P (λ c left. here c (only_now j.device c left))) time
      (λ c left. here c (fewer c left))

  -- and the journal stands for them
  pub stands_on : Stands reads images (record j { device = d1 }) records
  stands_on = record {
    opens = λ f told. stands.opens f (sym same ∙ told);
    starts = λ f told. stands.starts f (sym same ∙ told);
    counts = λ f told. stands.counts f (sym same ∙ told);
    settled = λ f left. same ∙ stands.settled f (fewer f left);
  }

  module _ (piece : List ℕ) (bytes : List ℕ) (is_framed : bytes ≡ framed piece ++ 0 ∷ []) (gate : ℕ) (here : gate + 1
      ≡ 4096 + j.used)
      (wide : 4096 + 2 * half_len j.scale ≤ length_of j.device) (fits : j.used + (length piece + 5) ≤ half_len
      j.scale) where
    fits_behind : (f : List ℕ) (told : reads j.device ≡ Some f)
        → length (framed piece ++ 0 ∷ []) ≤ length (stands.opens f told).rest
    fits_behind f told =
        room j.scale j.used f records (stands.opens f told) (stands.counts f told) (length (framed piece ++ 0 ∷ []))
        (omega (arith, wide, reads_long j.device f told)) (omega (arith, fits, length-framed piece))

    pub append_runs : (d2 : D) → LeavesOnly moment since j.device d1 (λ c. Opens j.scale c records)
        → LeavesOnly moment since d1 d2 (From (images d1) (MayBeGated gate bytes))
        → LeavesOnly moment since j.device d2 (WithOrWithout j.scale records piece)
    append_runs d2 before step =
        andthen moment since j.device d1 d2 (λ c. Opens j.scale c records) (From (images d1) (MayBeGated gate bytes))
        (WithOrWithout j.scale records piece) before step (λ c o. inl o)
        (λ c r.
        let told : reads j.device ≡ Some r.0 = stands.settled r.0 (fewer r.0 r.1) in
        append_torn j.scale j.used r.0 records (stands.opens r.0 told) (stands.counts r.0 told) piece fits gate c here
        (fits_behind r.0 told) (subst (λ (b : List ℕ). MayBeGated gate b r.0 c) is_framed r.2))

    pub append_stands : (d2 : D) (used : ℕ) → used ≡ j.used + (length piece + 5)
        → reads d2 ≡ option_map (gated gate bytes) (reads d1)
        → IsSettled (images d2) (reads d2)
        → Stands reads images (record { device = d2; scale = j.scale; start = j.start; used = used })
        (records ++ piece ∷ [])
    append_stands d2 used used_is is settled = record {
      opens = λ f told.
          let from = before f told in
          subst (λ (g : List ℕ). Opens j.scale g (records ++ piece ∷ [])) (sym (from.2
          ∙ ap (λ (b : List ℕ). gated gate b from.0) is_framed))
          (append_done j.scale j.used from.0 records (stands.opens from.0 from.1) (stands.counts from.0 from.1) piece
          fits gate here (fits_behind from.0 from.1));
      starts = λ f told. let from = before f told in stands.starts from.0 from.1;
      counts = λ f told.
          let from = before f told in
          omega (
            arith,
            used_is,
            stands.counts from.0 from.1,
            longer j.scale j.used from.0 records (stands.opens from.0 from.1) (stands.counts from.0 from.1) piece
                fits,
          );
      settled = settled;
    }
      where
        before : (f : List ℕ) → reads d2 ≡ Some f → (g : List ℕ) × (reads j.device ≡ Some g) × (f ≡ gated gate bytes g)
        before f told =
            let from = told_from (gated gate bytes) (reads d1) (reads d2) f is told in
            (from.0, sym same ∙ from.1, from.2)
