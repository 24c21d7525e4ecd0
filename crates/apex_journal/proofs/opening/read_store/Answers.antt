use Rattle.std.proofs.Common.{◌≡◌, ◌≤◌, ◌∙◌, sym, take, arith}
use Rattle.apex_base.specs.Numbers.{scale_device_len}
use Rattle.apex_journal.specs.Journal.{heading, Told}
use Rattle.apex_journal.proofs.Told.{told_at}
use Rattle.apex_journal.proofs.Heads.{front}
use Rattle.apex_journal.proofs.Opened.{store_found, store_refused}
use Rattle.apex_journal.proofs.opening.read_store.Goals as goal

pub returns-clause-found : goal.returns-clause-found
returns-clause-found g c =
    let fits : scale_device_len c.args.scale ≤ g.D.Disk.length_of c.args.disk.now =
    omega (arith, c.len-len.ensures, c.device_len-need.ensures) in
    let named : Told (g.D.Disk.reads c.args.disk.now) (λ file. take 11 file ≡ heading c.args.scale) = λ f told.
    sym (front 12 11 c.sync_and_read.new.head f (told_at _ (λ file. c.sync_and_read.new.head ≡ take 12 file) f
    (c.reserve.ensures.reads ∙ told) c.in-Ok.ensures.head) (omega arith)) ∙ c.in-Ok-judge.ensures in
    store_found c.args.scale (g.D.Disk.length_of c.args.disk.now) (g.D.Disk.reads c.args.disk.now)
    (g.D.Disk.reads c.sync_and_read.new.disk)
    (c.sync_and_read.ensures.reads ∙ c.reserve.ensures.reads) fits named
    (λ f told. g.met.D.Disk.images_long c.args.disk.now f (g.met.D.Disk.reads_left c.args.disk.now f told))
    c.read_in_use.result c.read_in_use.ensures.found

pub returns-clause-refused : goal.returns-clause-refused
returns-clause-refused g c =
    let fits : scale_device_len c.args.scale ≤ g.D.Disk.length_of c.args.disk.now =
    omega (arith, c.len-len.ensures, c.device_len-need.ensures) in
    let named : Told (g.D.Disk.reads c.args.disk.now) (λ file. take 11 file ≡ heading c.args.scale) = λ f told.
    sym (front 12 11 c.sync_and_read.new.head f (told_at _ (λ file. c.sync_and_read.new.head ≡ take 12 file) f
    (c.reserve.ensures.reads ∙ told) c.in-Ok.ensures.head) (omega arith)) ∙ c.in-Ok-judge.ensures in
    store_refused c.args.scale (g.D.Disk.length_of c.args.disk.now) (g.D.Disk.reads c.args.disk.now)
    (g.D.Disk.reads c.sync_and_read.new.disk)
    (c.sync_and_read.ensures.reads ∙ c.reserve.ensures.reads) fits named c.read_in_use.result
    c.read_in_use.ensures.refused
