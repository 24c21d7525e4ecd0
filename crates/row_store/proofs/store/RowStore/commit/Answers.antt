use Rattle.std.proofs.Common.{◌≡◌, ◌+◌, ℕ, List, Some, None, option_map, Result, Ok, Err, false, Vec, Global, Bor, map, drop, sym, ap, ◌∙◌, refl, subst, rules}
use Rattle.std.specs.Option.{is_some}
use Rattle.apex_disk.specs.Moments.{LeavesOnly}
use Rattle.apex_journal.specs.declared.why.AppendWhy.{AppendWhy}
use Rattle.apex_journal.specs.declared.why.AppendWhy.TheVariants as append
use Rattle.apex_journal.specs.Journal.{Seen}
use Rattle.apex_journal.specs.Appends.{IsUntouched, IsUnwritten, MayHold}
use Rattle.row_codec.specs.declared.batch.Row.{Row}
use Rattle.row_codec.specs.Batch.{batch_of}
use Rattle.row_store.specs.Rows.{RowMap, Held, changed, next}
use Rattle.row_map.specs.Room.{Back}
use Rattle.row_store.specs.Store.{Keeps, SeenStore, StoresEither, Stores}
use Rattle.row_store.proofs.Commits.{keeps_of, holds_by, none_of, still, kept, either, more, undecided}
use Rattle.row_map.proofs.Rooms.{table_after, back_is}
use Rattle.row_store.proofs.store.RowStore.commit.Goals as goal

pub invariant_of-self-in-Ok-append_in_place : goal.invariant_of-self-in-Ok-append_in_place
invariant_of-self-in-Ok-append_in_place g c =
    let none : is_some c.self.inside.pending ≡ false = sym c.is_some.ensures ∙ c.if-is_some.false in
    let held : Held = record { rows = c.self.inside.rows; seq = c.self.inside.seq } in
    let keeps = keeps_of g.D.Disk.reads g.D.Disk.images c.self.inside.journal held c.self.inside.pending none
    c.self.invariant in
    let table : c.change_all.new.self ≡ changed c.self.inside.rows c.args.rows.items =
    table_after c.args.rows.items c.deref-2.result.now c.self.inside.rows c.make_room.new.self c.change_all.new.self
    c.change_all.result c.deref-2.ensures.value
    c.in-Ok-make_room.ensures.agrees c.in-Ok-make_room.ensures.room
    (c.change_all.ensures.takes_none c.requires.ascending) c.change_all.ensures.changed in
    let spelled : batch_of (drop 4 c.in-Ok.bytes.items)
    ≡ Some (record { seq = c.self.inside.seq + 1; rows = c.args.rows.items }) =
    c.in-Ok.ensures.read
    ∙ ap (λ (rs : List Row). Some (record { seq = c.self.inside.seq + 1; rows = rs })) c.deref.ensures.value in
    holds_by g.D.Disk.reads g.D.Disk.images c.append_in_place.new.self _ c.self.inside.pending none
    (subst (λ (m : RowMap). Keeps g.D.Disk.reads g.D.Disk.images c.append_in_place.new.self (record {
      rows = m;
      seq =
          c.self.inside.seq + 1;
    })) (sym table)
    (more g.D.Disk.reads g.D.Disk.images g.D.Disk.moment g.D.Disk.images_since c.self.inside.journal
    c.append_in_place.new.self held keeps
    c.args.rows.items (drop 4 c.in-Ok.bytes.items) spelled (c.in-Ok-append_in_place.ensures.appended keeps.records
    keeps.stands)))

pub returns-in-Ok-append_in_place-clause-commits : goal.returns-in-Ok-append_in_place-clause-commits
returns-in-Ok-append_in_place-clause-commits g c =
    let none : is_some c.self.inside.pending ≡ false = sym c.is_some.ensures ∙ c.if-is_some.false in
    let table : c.change_all.new.self ≡ changed c.self.inside.rows c.args.rows.items =
    table_after c.args.rows.items c.deref-2.result.now c.self.inside.rows c.make_room.new.self c.change_all.new.self
    c.change_all.result c.deref-2.ensures.value
    c.in-Ok-make_room.ensures.agrees c.in-Ok-make_room.ensures.room
    (c.change_all.ensures.takes_none c.requires.ascending) c.change_all.ensures.changed in
    subst (λ (m : SeenStore g.row.D.Denot). (m.pending ≡ None)
    × (◌≡◌ {A = Held} (record { rows = c.change_all.new.self; seq = c.self.inside.seq + 1 })
    (next m.held c.args.rows.items))
    × (option_map (λ (rows : Vec Row Global). rows.items) c.self.inside.pending ≡ None)) c.self.view_is (
      none_of c.self.inside.pending none,
      ap (λ (m : RowMap). record { rows = m; seq = c.self.inside.seq + 1 }) table,
      none_of c.self.inside.pending none,
    )

pub returns-in-Ok-append_in_place-clause-any_moment : goal.returns-in-Ok-append_in_place-clause-any_moment
returns-in-Ok-append_in_place-clause-any_moment g c =
    let none : is_some c.self.inside.pending ≡ false = sym c.is_some.ensures ∙ c.if-is_some.false in
    let held : Held = record { rows = c.self.inside.rows; seq = c.self.inside.seq } in
    let keeps = keeps_of g.D.Disk.reads g.D.Disk.images c.self.inside.journal held c.self.inside.pending none
    c.self.invariant in
    let spelled : batch_of (drop 4 c.in-Ok.bytes.items)
    ≡ Some (record { seq = c.self.inside.seq + 1; rows = c.args.rows.items }) =
    c.in-Ok.ensures.read
    ∙ ap (λ (rs : List Row). Some (record { seq = c.self.inside.seq + 1; rows = rs })) c.deref.ensures.value in
    let is : c.append_in_place.result ≡ Ok tt = search rules in
    subst (λ (m : SeenStore g.row.D.Denot). m.pending ≡ None
    → LeavesOnly g.D.Disk.moment g.D.Disk.images_since m.journal.device c.append_in_place.new.self.device
    (StoresEither m.journal.scale m.held c.args.rows.items)) c.self.view_is
    (λ _. either g.D.Disk.reads g.D.Disk.images g.D.Disk.moment g.D.Disk.images_since c.self.inside.journal
    c.append_in_place.new.self held keeps
    c.args.rows.items (drop 4 c.in-Ok.bytes.items) spelled
    (subst (λ (r : Result (Unit {0}) AppendWhy). LeavesOnly g.D.Disk.moment g.D.Disk.images_since
    c.self.inside.journal.device c.append_in_place.new.self.device
    (MayHold r c.self.inside.journal.scale keeps.records (drop 4 c.in-Ok.bytes.items)))
    is (c.append_in_place.ensures.any_moment keeps.records keeps.stands)))

pub returns-in-Err-DiskFault-clause-any_moment : goal.returns-in-Err-DiskFault-clause-any_moment
returns-in-Err-DiskFault-clause-any_moment g c =
    let none : is_some c.self.inside.pending ≡ false = sym c.is_some.ensures ∙ c.if-is_some.false in
    let held : Held = record { rows = c.self.inside.rows; seq = c.self.inside.seq } in
    let keeps = keeps_of g.D.Disk.reads g.D.Disk.images c.self.inside.journal held c.self.inside.pending none
    c.self.invariant in
    let spelled : batch_of (drop 4 c.in-Ok.bytes.items)
    ≡ Some (record { seq = c.self.inside.seq + 1; rows = c.args.rows.items }) =
    c.in-Ok.ensures.read
    ∙ ap (λ (rs : List Row). Some (record { seq = c.self.inside.seq + 1; rows = rs })) c.deref.ensures.value in
    let is : c.append_in_place.result ≡ Err append.DiskFault = search rules in
    subst (λ (m : SeenStore g.row.D.Denot). m.pending ≡ None
    → LeavesOnly g.D.Disk.moment g.D.Disk.images_since m.journal.device c.append_in_place.new.self.device
    (StoresEither m.journal.scale m.held c.args.rows.items)) c.self.view_is
    (λ _. either g.D.Disk.reads g.D.Disk.images g.D.Disk.moment g.D.Disk.images_since c.self.inside.journal
    c.append_in_place.new.self held keeps
    c.args.rows.items (drop 4 c.in-Ok.bytes.items) spelled
    (subst (λ (r : Result (Unit {0}) AppendWhy). LeavesOnly g.D.Disk.moment g.D.Disk.images_since
    c.self.inside.journal.device c.append_in_place.new.self.device
    (MayHold r c.self.inside.journal.scale keeps.records (drop 4 c.in-Ok.bytes.items)))
    is (c.append_in_place.ensures.any_moment keeps.records keeps.stands)))

pub returns-in-Err-NoMemory-clause-any_moment : goal.returns-in-Err-NoMemory-clause-any_moment
returns-in-Err-NoMemory-clause-any_moment g c =
    let none : is_some c.self.inside.pending ≡ false = sym c.is_some.ensures ∙ c.if-is_some.false in
    let held : Held = record { rows = c.self.inside.rows; seq = c.self.inside.seq } in
    let keeps = keeps_of g.D.Disk.reads g.D.Disk.images c.self.inside.journal held c.self.inside.pending none
    c.self.invariant in
    let is : c.append_in_place.result ≡ Err append.NoMemory = search rules in
    subst (λ (m : SeenStore g.row.D.Denot). m.pending ≡ None
    → LeavesOnly g.D.Disk.moment g.D.Disk.images_since m.journal.device c.append_in_place.new.self.device
    (λ f. Stores m.journal.scale f m.held)) c.self.view_is
    (λ _. still g.D.Disk.reads g.D.Disk.images g.D.Disk.moment g.D.Disk.images_since c.self.inside.journal
    c.append_in_place.new.self held keeps
    (subst (λ (r : Result (Unit {0}) AppendWhy). LeavesOnly g.D.Disk.moment g.D.Disk.images_since
    c.self.inside.journal.device c.append_in_place.new.self.device
    (MayHold r c.self.inside.journal.scale keeps.records (drop 4 c.in-Ok.bytes.items)))
    is (c.append_in_place.ensures.any_moment keeps.records keeps.stands)))

pub invariant_of-self-in-JournalFull-1 : goal.invariant_of-self-in-JournalFull-1
invariant_of-self-in-JournalFull-1 g c =
    let none : is_some c.self.inside.pending ≡ false = sym c.is_some.ensures ∙ c.if-is_some.false in
    let held : Held = record { rows = c.self.inside.rows; seq = c.self.inside.seq } in
    let keeps = keeps_of g.D.Disk.reads g.D.Disk.images c.self.inside.journal held c.self.inside.pending none
    c.self.invariant in
    let back : c.remove_all.new.self ≡ c.self.inside.rows =
    back_is (map (λ (key : Bor (List ℕ)). key.now) c.in-Ok-make_room.added.items) c.self.inside.rows
    c.make_room.new.self c.remove_all.new.self c.in-Ok-make_room.ensures.back
    (subst (λ (keys : List (Bor (List ℕ))). Back (map (λ (key : Bor (List ℕ)). key.now) keys) c.remove_all.new.self
    c.make_room.new.self) c.deref-in-Err-JournalFull.ensures.value c.remove_all.ensures) in
    let is : c.append_in_place.result
    ≡ Err (append.JournalFull c.in-Err-JournalFull.used c.in-Err-JournalFull.need c.in-Err-JournalFull.size) =
    search rules in
    let same : c.append_in_place.new.self ≡ c.self.inside.journal =
    c.append_in_place.ensures.untouched (subst IsUntouched (sym is) tt) in
    holds_by g.D.Disk.reads g.D.Disk.images c.append_in_place.new.self _ c.self.inside.pending none
    (subst (λ (m : RowMap). Keeps g.D.Disk.reads g.D.Disk.images c.append_in_place.new.self (record {
      rows = m;
      seq =
          c.self.inside.seq;
    })) (sym back)
    (subst (λ (j : Seen g.row.D.Denot). Keeps g.D.Disk.reads g.D.Disk.images j held) (sym same) keeps))

pub invariant_of-self-in-NoMemory-1 : goal.invariant_of-self-in-NoMemory-1
invariant_of-self-in-NoMemory-1 g c =
    let none : is_some c.self.inside.pending ≡ false = sym c.is_some.ensures ∙ c.if-is_some.false in
    let held : Held = record { rows = c.self.inside.rows; seq = c.self.inside.seq } in
    let keeps = keeps_of g.D.Disk.reads g.D.Disk.images c.self.inside.journal held c.self.inside.pending none
    c.self.invariant in
    let back : c.remove_all-in-Err-NoMemory.new.self ≡ c.self.inside.rows =
    back_is (map (λ (key : Bor (List ℕ)). key.now) c.in-Ok-make_room.added.items) c.self.inside.rows
    c.make_room.new.self c.remove_all-in-Err-NoMemory.new.self c.in-Ok-make_room.ensures.back
    (subst (λ (keys : List (Bor (List ℕ))). Back (map (λ (key : Bor (List ℕ)). key.now) keys)
    c.remove_all-in-Err-NoMemory.new.self c.make_room.new.self) c.deref-in-Err-NoMemory.ensures.value
    c.remove_all-in-Err-NoMemory.ensures) in
    let is : c.append_in_place.result ≡ Err append.NoMemory = search rules in
    holds_by g.D.Disk.reads g.D.Disk.images c.append_in_place.new.self _ c.self.inside.pending none
    (subst (λ (m : RowMap). Keeps g.D.Disk.reads g.D.Disk.images c.append_in_place.new.self (record {
      rows = m;
      seq =
          c.self.inside.seq;
    })) (sym back)
    (kept g.D.Disk.reads g.D.Disk.images g.D.Disk.moment g.D.Disk.images_since c.self.inside.journal
    c.append_in_place.new.self held keeps
    (c.append_in_place.ensures.unchanged (subst IsUnwritten (sym is) tt) keeps.records keeps.stands)))

pub invariant_of-self-in-Err-DiskFault : goal.invariant_of-self-in-Err-DiskFault
invariant_of-self-in-Err-DiskFault g c =
    let none : is_some c.self.inside.pending ≡ false = sym c.is_some.ensures ∙ c.if-is_some.false in
    let held : Held = record { rows = c.self.inside.rows; seq = c.self.inside.seq } in
    let keeps = keeps_of g.D.Disk.reads g.D.Disk.images c.self.inside.journal held c.self.inside.pending none
    c.self.invariant in
    let spelled : batch_of (drop 4 c.in-Ok.bytes.items)
    ≡ Some (record { seq = c.self.inside.seq + 1; rows = c.args.rows.items }) =
    c.in-Ok.ensures.read
    ∙ ap (λ (rs : List Row). Some (record { seq = c.self.inside.seq + 1; rows = rs })) c.deref.ensures.value in
    let back : c.remove_all-in-Err-DiskFault.new.self ≡ c.self.inside.rows =
    back_is (map (λ (key : Bor (List ℕ)). key.now) c.in-Ok-make_room.added.items) c.self.inside.rows
    c.make_room.new.self c.remove_all-in-Err-DiskFault.new.self c.in-Ok-make_room.ensures.back
    (subst (λ (keys : List (Bor (List ℕ))). Back (map (λ (key : Bor (List ℕ)). key.now) keys)
    c.remove_all-in-Err-DiskFault.new.self c.make_room.new.self) c.deref-in-Err-DiskFault.ensures.value
    c.remove_all-in-Err-DiskFault.ensures) in
    let is : c.append_in_place.result ≡ Err append.DiskFault = search rules in
    subst (λ (m : RowMap). (f : List ℕ) → g.D.Disk.images c.append_in_place.new.self.device f
    → StoresEither c.append_in_place.new.self.scale (record { rows = m; seq = c.self.inside.seq })
    c.args.rows.items f) (sym back)
    (undecided g.D.Disk.reads g.D.Disk.images g.D.Disk.moment g.D.Disk.images_since c.self.inside.journal
    c.append_in_place.new.self held keeps
    c.args.rows.items (drop 4 c.in-Ok.bytes.items) spelled g.met.D.Disk.counts_now c.append_in_place.ensures.scale
    (subst (λ (r : Result (Unit {0}) AppendWhy). LeavesOnly g.D.Disk.moment g.D.Disk.images_since
    c.self.inside.journal.device c.append_in_place.new.self.device
    (MayHold r c.self.inside.journal.scale keeps.records (drop 4 c.in-Ok.bytes.items)))
    is (c.append_in_place.ensures.any_moment keeps.records keeps.stands)))

pub returns-in-Err-JournalFull-clause-commits : goal.returns-in-Err-JournalFull-clause-commits
returns-in-Err-JournalFull-clause-commits g c =
    let none : is_some c.self.inside.pending ≡ false = sym c.is_some.ensures ∙ c.if-is_some.false in
    let back : c.remove_all.new.self ≡ c.self.inside.rows =
    back_is (map (λ (key : Bor (List ℕ)). key.now) c.in-Ok-make_room.added.items) c.self.inside.rows
    c.make_room.new.self c.remove_all.new.self c.in-Ok-make_room.ensures.back
    (subst (λ (keys : List (Bor (List ℕ))). Back (map (λ (key : Bor (List ℕ)). key.now) keys) c.remove_all.new.self
    c.make_room.new.self) c.deref-in-Err-JournalFull.ensures.value c.remove_all.ensures) in
    let is : c.append_in_place.result
    ≡ Err (append.JournalFull c.in-Err-JournalFull.used c.in-Err-JournalFull.need c.in-Err-JournalFull.size) =
    search rules in
    let same : c.append_in_place.new.self ≡ c.self.inside.journal =
    c.append_in_place.ensures.untouched (subst IsUntouched (sym is) tt) in (
      ap (λ (m : SeenStore g.row.D.Denot). m.pending) (sym c.self.view_is) ∙ none_of c.self.inside.pending none,
      ap (λ (m : RowMap). record {
        journal = c.append_in_place.new.self;
        held =
            record { rows = m; seq = c.self.inside.seq };
        pending =
            option_map (λ (rows : Vec Row Global). rows.items) c.self.inside.pending;
      }) back
          ∙ ap (λ (j : Seen g.row.D.Denot). record {
            journal = j;
            held =
                record { rows = c.self.inside.rows; seq = c.self.inside.seq };
            pending =
                option_map (λ (rows : Vec Row Global). rows.items) c.self.inside.pending;
          }) same
          ∙ c.self.view_is,
    )

pub returns-in-Err-DiskFault-clause-commits : goal.returns-in-Err-DiskFault-clause-commits
returns-in-Err-DiskFault-clause-commits g c =
    let none : is_some c.self.inside.pending ≡ false = sym c.is_some.ensures ∙ c.if-is_some.false in
    let back : c.remove_all-in-Err-DiskFault.new.self ≡ c.self.inside.rows =
    back_is (map (λ (key : Bor (List ℕ)). key.now) c.in-Ok-make_room.added.items) c.self.inside.rows
    c.make_room.new.self c.remove_all-in-Err-DiskFault.new.self c.in-Ok-make_room.ensures.back
    (subst (λ (keys : List (Bor (List ℕ))). Back (map (λ (key : Bor (List ℕ)). key.now) keys)
    c.remove_all-in-Err-DiskFault.new.self c.make_room.new.self) c.deref-in-Err-DiskFault.ensures.value
    c.remove_all-in-Err-DiskFault.ensures) in
    let same : ◌≡◌ {A = Held} (record { rows = c.remove_all-in-Err-DiskFault.new.self; seq = c.self.inside.seq })
    c.args.self.now.held =
    ap (λ (m : RowMap). record { rows = m; seq = c.self.inside.seq }) back
    ∙ ap (λ (m : SeenStore g.row.D.Denot). m.held) c.self.view_is in (
      ap (λ (m : SeenStore g.row.D.Denot). m.pending) (sym c.self.view_is) ∙ none_of c.self.inside.pending none,
      same,
      refl,
    )

pub returns-in-Err-NoMemory-clause-commits : goal.returns-in-Err-NoMemory-clause-commits
returns-in-Err-NoMemory-clause-commits g c =
    let none : is_some c.self.inside.pending ≡ false = sym c.is_some.ensures ∙ c.if-is_some.false in
    let back : c.remove_all-in-Err-NoMemory.new.self ≡ c.self.inside.rows =
    back_is (map (λ (key : Bor (List ℕ)). key.now) c.in-Ok-make_room.added.items) c.self.inside.rows
    c.make_room.new.self c.remove_all-in-Err-NoMemory.new.self c.in-Ok-make_room.ensures.back
    (subst (λ (keys : List (Bor (List ℕ))). Back (map (λ (key : Bor (List ℕ)). key.now) keys)
    c.remove_all-in-Err-NoMemory.new.self c.make_room.new.self) c.deref-in-Err-NoMemory.ensures.value
    c.remove_all-in-Err-NoMemory.ensures) in
    let same : ◌≡◌ {A = Held} (record { rows = c.remove_all-in-Err-NoMemory.new.self; seq = c.self.inside.seq })
    c.args.self.now.held =
    ap (λ (m : RowMap). record { rows = m; seq = c.self.inside.seq }) back
    ∙ ap (λ (m : SeenStore g.row.D.Denot). m.held) c.self.view_is in (
      ap (λ (m : SeenStore g.row.D.Denot). m.pending) (sym c.self.view_is) ∙ none_of c.self.inside.pending none,
      same,
      none_of c.self.inside.pending none,
    )
