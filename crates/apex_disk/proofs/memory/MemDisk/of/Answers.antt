use Rattle.std.proofs.Common.{◌≡◌, refl, ap, rules}
use Rattle.apex_disk.proofs.Kept.{told, settled}
use Rattle.apex_disk.proofs.memory.MemDisk.of.Goals as goal

pub returns : goal.returns
returns c =
    let same : c.in_ok-to_vec.field-0.items ≡ c.args.bytes.items = search rules in
    record {
      newest = refl;
      synced = same;
      pending = c.new.ensures.items;
      settled = settled (record { bytes = c.args.bytes; synced = c.in_ok-to_vec.field-0; pending = c.new.result })
          c.new.ensures.items same;
      meter = c.of.ensures;
      past = ap told c.new-2.ensures.items;
      steps = c.new-3.ensures.items;
      log = c.new-4.ensures.items;
    }
