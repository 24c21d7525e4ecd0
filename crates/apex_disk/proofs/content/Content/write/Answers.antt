use Rattle.std.proofs.Common.{◌≡◌, ◌∙◌, ap, List, ℕ, arith}
use Rattle.std.proofs.lemmas.List.{with_items_is}
use Rattle.std.specs.Vec.{with_items}
use Rattle.apex_disk.specs.Disk.{written}
use Rattle.apex_disk.proofs.Ranges.{handed}
use Rattle.apex_disk.proofs.content.Content.write.Goals as goal

pub returns-clause-sound : goal.returns-clause-sound
returns-clause-sound c =
    let is : (with_items c.args.self.now.bytes c.overwrite.new.bytes).items
    ≡ written c.args.at c.args.new.now c.args.self.now.bytes.items =
    with_items_is c.args.self.now.bytes c.overwrite.new.bytes (omega arith) ∙ c.overwrite.ensures
    ∙ ap (λ (l : List ℕ). written c.args.at c.args.new.now l) c.deref_mut.ensures.value in
    let s = handed c.args.at c.args.new.now c.args.self.now.bytes.items c.args.self.now.synced.items _
    c.args.self.now.pending.items _ c.requires.sound.agrees c.requires.sound.within c.requires.range is
    c.push_reserved.ensures.items in
    record { agrees = s.0; within = s.1 }
