use Rattle.std.proofs.Common.{◌≡◌, [], ◌∷◌, ◌+◌, ℕ, List, None, Bor, cond, get_or, drop, map, sym, subst}
use Rattle.std.proofs.lemmas.List.{get_or_default}
use Rattle.std.specs.FinMap as fin
use Rattle.row_map.specs.Rows.{RowMap}
use Rattle.row_map.specs.Room.{among}
use Rattle.row_map.proofs.Rooms.{drop_here, removed_one}
use Rattle.row_map.proofs.rows.Rows.remove_all.Goals as goal

pub loop-key-preserved : goal.loop-key-preserved
loop-key-preserved c =
    let i = c.loop-key.key-index in
    let xs = c.args.keys.now in
    let k : Bor (List ℕ) = get_or xs i (record { ref_ptr = (0, 0); now = [] }) in
    let all = map (λ (k : Bor (List ℕ)). k.now) xs in
    let rest = map (λ (k : Bor (List ℕ)). k.now) (drop (i + 1) xs) in
    let split : drop i xs ≡ k ∷ drop (i + 1) xs =
    drop_here xs i k c.loop-key-test.true (get_or_default xs i _ _ c.loop-key-test.true) in
    let before = subst (λ (ks : List (Bor (List ℕ))). (q : List ℕ)
    → cond (among q (map (λ (k : Bor (List ℕ)). k.now) ks)) None (fin.get c.loop-key.self q)
    ≡ cond (among q all) None (fin.get c.args.self.now q)) split c.loop-key.invariant.leads in
    record {
      leads = subst (λ (m : RowMap). (q : List ℕ) → cond (among q rest) None (fin.get m q)
          ≡ cond (among q all) None (fin.get c.args.self.now q)) (sym c.remove.ensures)
          (removed_one all rest k.now c.loop-key.self c.args.self.now before);
    }
