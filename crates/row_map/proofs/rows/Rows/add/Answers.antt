use Rattle.std.proofs.Common.{◌≡◌, ◌∷◌, [], ◌++◌, ℕ, List, None, Bor, rules, map, ap, ◌∙◌}
use Rattle.std.proofs.lemmas.List.{map-append}
use Rattle.std.specs.FinMap as fin
use Rattle.row_map.proofs.Rooms.{adds_new, adds_none, covers_new}
use Rattle.row_map.proofs.rows.Rows.add.Goals as goal

pub returns-in_err-put-clause-adds : goal.returns-in_err-put-clause-adds
returns-in_err-put-clause-adds c =
    let none : fin.get c.args.self.now c.args.row.now.key ≡ None = grind rules in
    let noted : map (λ (k : Bor (List ℕ)). k.now) c.push.new.self.items
    ≡ map (λ (k : Bor (List ℕ)). k.now) c.args.added.now.items ++ c.args.row.now.key ∷ [] =
    ap (λ (l : List (Bor (List ℕ))). map (λ (k : Bor (List ℕ)). k.now) l) c.in_ok-push.ensures.items
    ∙ map-append (λ (k : Bor (List ℕ)). k.now) c.args.added.now.items (c.as_slice-key.result ∷ [])
    ∙ ap (λ (k : List ℕ). map (λ (k : Bor (List ℕ)). k.now) c.args.added.now.items ++ k ∷ []) c.as_slice-key.ensures in
    adds_none c.args.row.now c.args.self.now _ c.put.new.self _ none c.in_err-put.ensures.unchanged noted

pub returns-in_ok-put-clause-adds : goal.returns-in_ok-put-clause-adds
returns-in_ok-put-clause-adds c =
    let none : fin.get c.args.self.now c.args.row.now.key ≡ None = grind rules in
    let copied : c.in_ok-copy.copy.items ≡ c.args.row.now.key = grind rules in
    let noted : map (λ (k : Bor (List ℕ)). k.now) c.push.new.self.items
    ≡ map (λ (k : Bor (List ℕ)). k.now) c.args.added.now.items ++ c.args.row.now.key ∷ [] =
    ap (λ (l : List (Bor (List ℕ))). map (λ (k : Bor (List ℕ)). k.now) l) c.in_ok-push.ensures.items
    ∙ map-append (λ (k : Bor (List ℕ)). k.now) c.args.added.now.items (c.as_slice-key.result ∷ [])
    ∙ ap (λ (k : List ℕ). map (λ (k : Bor (List ℕ)). k.now) c.args.added.now.items ++ k ∷ []) c.as_slice-key.ensures in
    adds_new c.args.row.now c.new.result c.args.self.now _ c.put.new.self _ none
    (c.in_ok-put.ensures.put ∙ ap (λ (k : List ℕ). fin.insert c.args.self.now k c.new.result) copied) noted

pub returns-in_ok-put-clause-covers : goal.returns-in_ok-put-clause-covers
returns-in_ok-put-clause-covers c =
    let copied : c.in_ok-copy.copy.items ≡ c.args.row.now.key = grind rules in
    covers_new c.args.row.now c.new.result c.args.self.now c.put.new.self
    (c.in_ok-put.ensures.put ∙ ap (λ (k : List ℕ). fin.insert c.args.self.now k c.new.result) copied)
