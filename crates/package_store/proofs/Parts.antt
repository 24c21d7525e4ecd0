-- Targets whose parts have numbers of one byte: where those of all sessions do, so do those that names hold. Callers
-- want `held_part` and `before_part`.
use Rattle.std.proofs.Common.{ℕ, Bool, true, false, cond, ◌&&◌, List, [], ◌∷◌, fold, Option, Some, None}
use Rattle.std.specs.Prelude.{find, nat_lt}
use Rattle.std.specs.List.{AllByRecursion}
use Rattle.std.specs.Option.{option_map}
use Rattle.std.specs.Str.{bytes_eq}
use Rattle.apex_base.specs.declared.records.Part.{Part}
use Rattle.apex_base.specs.declared.records.Record.{Record}
use Rattle.apex_base.specs.declared.records.Target.{Target}
use Rattle.apex_base.specs.Held.{is_standing, is_success, candidate, later, target_of, held, before}
use Rattle.session_record.specs.Room.{HasPartNumber}
use Rattle.package_store.specs.Settled.{HaveParts}

abbrev Best : Type 0
Best = Option (ℕ × Target)

later_if : (b : Bool) (x y : ℕ × Target) → HasPartNumber x.1 → HasPartNumber y.1 → HasPartNumber (target_of (cond b (Some x) (Some y)))
later_if true x y h k = h
later_if false x y h k = k

later_part : (best : Best) (c : ℕ × Target) → HasPartNumber (target_of best) → HasPartNumber c.1
    → HasPartNumber (target_of (later best (Some c)))
later_part None c h k = k
later_part (Some b) c h k = later_if (nat_lt b.0 c.0) c b k h

here_or : (b : Bool) (best : Best) (activation : ℕ) (p : Part) (rest : Option Part) → HasPartNumber (target_of best)
    → HasPartNumber p.target
    → HasPartNumber (target_of (later best (option_map (λ (p : Part). (activation, p.target)) rest)))
    → HasPartNumber (target_of (later best (option_map (λ (p : Part). (activation, p.target)) (cond b (Some p) rest))))
here_or true best activation p rest h k more = later_part best (activation, p.target) h k
here_or false best activation p rest h k more = more

found_part : (best : Best) (activation : ℕ) (name : List ℕ) (ps : List Part) → HasPartNumber (target_of best)
    → AllByRecursion (λ (p : Part). HasPartNumber p.target) ps
    → HasPartNumber (target_of (later best (option_map (λ (p : Part). (activation, p.target))
    (find (λ (p : Part). bytes_eq p.name name) ps))))
found_part best activation name [] h all = h
found_part best activation name (p ∷ ps) h all =
    here_or (bytes_eq p.name name) best activation p (find (λ (p : Part). bytes_eq p.name name) ps) h all.0
    (found_part best activation name ps h all.1)

step_part : (b : Bool) (best : Best) (name : List ℕ) (r : Record) → HasPartNumber (target_of best)
    → AllByRecursion (λ (p : Part). HasPartNumber p.target) r.parts
    → HasPartNumber (target_of (later best (candidate b name r)))
step_part true best name r h all = found_part best r.activation name r.parts h all
step_part false best name r h all = h

latest_part : (counts : Record → Bool) (name : List ℕ) (ss : List Record) (best : Best) → HasPartNumber (target_of best)
    → HaveParts ss
    → HasPartNumber (target_of (fold (λ (best : Best) (r : Record). later best (candidate (counts r) name r)) best ss))
latest_part counts name [] best h all = h
latest_part counts name (r ∷ ss) best h all =
    latest_part counts name ss (later best (candidate (counts r) name r))
    (step_part (counts r) best name r h all.0) all.1

pub held_part : (ss : List Record) (name : List ℕ) → HaveParts ss → HasPartNumber (held ss name)
held_part ss name all = latest_part (λ (r : Record). is_standing r.state) name ss None tt all

pub before_part : (ss : List Record) (x : Record) (name : List ℕ) → HaveParts ss → HasPartNumber (before ss x name)
before_part ss x name all = latest_part (λ (r : Record). is_success r.state && nat_lt r.activation x.activation) name
    ss None tt all
