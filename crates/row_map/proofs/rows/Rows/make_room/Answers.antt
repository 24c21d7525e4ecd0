use Rattle.std.proofs.Common.{List, ℕ, Bor, map, subst}
use Rattle.row_map.specs.Room.{Back}
use Rattle.row_map.proofs.Rooms.{back_is}
use Rattle.row_map.proofs.rows.Rows.make_room.Goals as goal

pub returns-clause-unchanged : goal.returns-clause-unchanged
returns-clause-unchanged c =
    let keys : List (Bor (List ℕ)) → List (List ℕ) = λ ks. map (λ (k : Bor (List ℕ)). k.now) ks in
    back_is (keys c.add_all.new.added.items) c.args.self.now c.add_all.new.self c.remove_all.new.self
    c.add_all.ensures.back
    (subst (λ (ks : List (Bor (List ℕ))). Back (keys ks) c.remove_all.new.self c.add_all.new.self)
    c.deref.ensures.value c.remove_all.ensures)
