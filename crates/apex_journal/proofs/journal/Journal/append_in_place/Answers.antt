use Rattle.std.proofs.Common.{◌+◌, ◌-◌, ◌∙◌, ◌++◌, ◌∷◌, [], ◌≡◌, ◌≤◌, List, ℕ, length, drop, length-drop, subst, arith}
use Rattle.apex_disk.specs.Moments.{LeavesOnly}
use Rattle.apex_journal.specs.Records.{framed}
use Rattle.apex_journal.specs.Journal.{half_len, Stands, WithOrWithout}
use Rattle.apex_journal.proofs.Appends.{kept, stands_on, append_runs, append_stands}
use Rattle.apex_journal.proofs.journal.Journal.append_in_place.Given as given
use Rattle.apex_journal.proofs.journal.Journal.append_in_place.Goals.{After-write_behind_gate}
use Rattle.apex_journal.proofs.journal.Journal.append_in_place.Goals as goal

pub returns-then-is_err-clause-unchanged : goal.returns-then-is_err-clause-unchanged
returns-then-is_err-clause-unchanged g c = λ unwritten.
    subst (λ j. (records : List (List ℕ)) → Stands g.D.Disk.reads g.D.Disk.images j records
    → Stands g.D.Disk.reads g.D.Disk.images (record {
      device = c.reserve.new.self;
      scale = c.self.inside.scale;
      start = c.self.inside.start;
      used = c.self.inside.used;
    }) records)
    c.self.view_is
    (λ records stands. stands_on g.D.Disk.reads g.D.Disk.images g.D.Disk.moment g.D.Disk.images_since
    g.D.Disk.length_of g.met.D.Disk.only_now
    (λ d f is. g.met.D.Disk.images_long d f (g.met.D.Disk.reads_left d f is)) (record {
      device = c.self.inside.disk;
      scale = c.self.inside.scale;
      start = c.self.inside.start;
      used = c.self.inside.used;
    })
    records stands c.reserve.new.self c.reserve.ensures.reads c.reserve.ensures.images.fewer)

-- the bytes that are written are the framed piece, they fit, and they stand where the records end
bytes : (g : given.Over) (c : After-write_behind_gate g)
    → c.deref.result.now ≡ framed (drop 4 c.args.bytes.items) ++ 0 ∷ []
bytes g c = c.deref.ensures.value ∙ c.in-Ok.ensures

fits : (g : given.Over) (c : After-write_behind_gate g)
    → c.self.inside.used + (length (drop 4 c.args.bytes.items) + 5) ≤ half_len c.self.inside.scale
fits g c = omega (arith, c.half_len-size.ensures.len, length-drop 4 c.args.bytes.items, c.requires)

here : (g : given.Over) (c : After-write_behind_gate g)
    → c.self.inside.start + c.self.inside.used - 1 + 1 ≡ 4096 + c.self.inside.used
here g c = omega (arith, c.self.invariant.starts, c.self.invariant.some)

-- at any moment the records stand with the piece or without it
runs : (g : given.Over) (c : After-write_behind_gate g) → (records : List (List ℕ))
    → Stands g.D.Disk.reads g.D.Disk.images c.args.self.now records
    → LeavesOnly g.D.Disk.moment g.D.Disk.images_since c.args.self.now.device c.write_behind_gate.new.disk
    (WithOrWithout c.args.self.now.scale records (drop 4 c.args.bytes.items))
runs g c =
    subst (λ j. (records : List (List ℕ)) → Stands g.D.Disk.reads g.D.Disk.images j records
    → LeavesOnly g.D.Disk.moment g.D.Disk.images_since j.device c.write_behind_gate.new.disk
    (WithOrWithout j.scale records (drop 4 c.args.bytes.items)))
    c.self.view_is
    (λ records stands.
    append_runs g.D.Disk.reads g.D.Disk.images g.D.Disk.moment g.D.Disk.images_since g.D.Disk.length_of
    g.met.D.Disk.only_now
    (λ d f is. g.met.D.Disk.images_long d f (g.met.D.Disk.reads_left d f is)) (record {
      device = c.self.inside.disk;
      scale = c.self.inside.scale;
      start = c.self.inside.start;
      used = c.self.inside.used;
    })
    records stands c.reserve.new.self c.reserve.ensures.reads c.reserve.ensures.images.fewer
    (drop 4 c.args.bytes.items) c.deref.result.now (bytes g c) (c.self.inside.start + c.self.inside.used - 1) (here g c)
    c.self.invariant.long (fits g c) c.write_behind_gate.new.disk
    (kept g.D.Disk.reads g.D.Disk.images g.D.Disk.moment g.D.Disk.images_since g.D.Disk.length_of g.met.D.Disk.only_now
    (λ d f is. g.met.D.Disk.images_long d f (g.met.D.Disk.reads_left d f is)) (record {
      device = c.self.inside.disk;
      scale = c.self.inside.scale;
      start = c.self.inside.start;
      used = c.self.inside.used;
    })
    records stands c.reserve.new.self c.reserve.ensures.reads c.reserve.ensures.images.fewer c.reserve.ensures.time)
    c.write_behind_gate.ensures.any_moment)

pub returns-in-Err-clause-any_moment : goal.returns-in-Err-clause-any_moment
returns-in-Err-clause-any_moment g c = runs g (goal.at.returns-in-Err-clause-any_moment g c).After-write_behind_gate

pub returns-clause-any_moment : goal.returns-clause-any_moment
returns-clause-any_moment g c = runs g (goal.at.returns-clause-any_moment g c).After-write_behind_gate

pub returns-clause-appended : goal.returns-clause-appended
returns-clause-appended g c =
    subst (λ j. (records : List (List ℕ)) → Stands g.D.Disk.reads g.D.Disk.images j records
    → Stands g.D.Disk.reads g.D.Disk.images (record {
      device = c.write_behind_gate.new.disk;
      scale =
          c.self.inside.scale;
      start = c.self.inside.start;
      used = c.self.inside.used + (c.len.result + 1);
    })
    (records ++ (drop 4 c.args.bytes.items) ∷ []))
    c.self.view_is
    (λ records stands.
    let wrote = (goal.at.returns-clause-appended g c).After-write_behind_gate in
    append_stands g.D.Disk.reads g.D.Disk.images g.D.Disk.moment g.D.Disk.images_since g.D.Disk.length_of
    g.met.D.Disk.only_now
    (λ d f is. g.met.D.Disk.images_long d f (g.met.D.Disk.reads_left d f is)) (record {
      device = c.self.inside.disk;
      scale = c.self.inside.scale;
      start = c.self.inside.start;
      used = c.self.inside.used;
    })
    records stands c.reserve.new.self c.reserve.ensures.reads c.reserve.ensures.images.fewer
    (drop 4 c.args.bytes.items) c.deref.result.now (bytes g wrote) (c.self.inside.start + c.self.inside.used - 1)
    (here g wrote)
    c.self.invariant.long (fits g wrote) c.write_behind_gate.new.disk
    (c.self.inside.used + (c.len.result + 1)) (omega (
      arith,
      length-drop 4 c.args.bytes.items,
      c.requires,
      c.len.ensures,
    )) c.in-Ok-write_behind_gate.ensures.written c.in-Ok-write_behind_gate.ensures.settled)
