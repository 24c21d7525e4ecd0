use Rattle.std.proofs.Common.{◌≡◌, ℕ, List, fold, None, sym, ap, subst, ◌∙◌}
use Rattle.std.specs.Cmp.Lexicographic.{slice_cmp}
use Rattle.std.specs.FinMap as fin
use Rattle.std.specs.FinMap.{get-empty}
use Rattle.std.specs.List.{AllByRecursion}
use Rattle.std.specs.Ordering.{nat_cmp}
use Rattle.package_store.specs.Latest.{Best}
use Rattle.package_store.specs.Named.{Note, note_active}
use Rattle.session_record.specs.Room.{HasPartNumber}
use Rattle.package_store.specs.Spelled.{ChangeMap}
use Rattle.package_store.proofs.HeldNames.{have_parts}
use Rattle.package_store.proofs.naming.active_changes.Goals as goal

pub loop-name-init : goal.loop-name-init
loop-name-init c =
    let gives = c.into_iter-name-iterator.ensures.into_iter_gives in
    let noting = λ (key : List ℕ) (n : Note) (es : List (List ℕ × Best)).
    fold (λ (noted : Note) (e : List ℕ × Best). note_active e.0 e.1.1 key noted) n es in
    let empty : (key : List ℕ) → fin.get c.new-changes.result key ≡ None =
    λ key. ap (λ (m : ChangeMap). fin.get m key) c.new-changes.ensures ∙ get-empty (slice_cmp nat_cmp) key in (
      λ key. ap (noting key (fin.get c.new-changes.result key)) gives.0
          ∙ ap (λ (n : Note). noting key n c.args.held.now.entries) (empty key),
      subst (AllByRecursion (λ (e : List ℕ × Best). HasPartNumber e.1.1)) (sym gives.0)
          (have_parts c.args.held.now gives.5 c.requires),
    )
