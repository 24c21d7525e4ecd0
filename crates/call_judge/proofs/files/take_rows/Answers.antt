use Rattle.std.proofs.Common.{◌≡◌, ◌∷◌, ◌++◌, [], List, ℕ, true, false, eqb, sym, ap, subst, ◌∙◌}
use Rattle.std.specs.FinMap as fin
use Rattle.std.specs.List.{starts_with}
use Rattle.row_map.specs.Rows.{shown}
use Rattle.call_judge.specs.Taken.{deletion}
use Rattle.call_judge.proofs.RowRange.{Left, starts, takes, ends, stops}
use Rattle.call_judge.proofs.files.take_rows.Goals.{in-None, in-Some+then-not-starts_with}
use Rattle.call_judge.proofs.files.take_rows.Goals as goal

pub loop-key-init : goal.loop-key-init
loop-key-init c =
    let old = c.args.batch.now.items in
    subst (λ es. Left c.args.front.now old (fin.keys c.args.rows.now) old (shown es))
    (sym c.into_iter-key-iterator.ensures.into_iter_gives)
    (starts c.args.front.now old c.args.rows.now c.by_key.result.now.entries c.range-key-items.result
    c.in_ok-start.start c.by_key.ensures (c.in_ok-start.ensures.items_if_clones_equal (λ x y e. e))
    (c.range-key-items.ensures.between tt))

pub loop-key-preserved : goal.loop-key-preserved
loop-key-preserved c =
    let front = c.args.front.now in
    let row : List ℕ × List ℕ = (c.in-Some.key.now.items, c.in-Some.field-0-1.now) in
    let l = subst (λ es. Left front c.args.batch.now.items (fin.keys c.args.rows.now) c.loop-key.batch.items (shown es))
    c.in-Some.ensures.steps c.loop-key.invariant in
    let begins : starts_with eqb row.0 front ≡ true =
    ap (λ key. starts_with eqb key front) (sym c.deref.ensures.value) ∙ sym c.starts_with.ensures.value
    ∙ c.if-not-starts_with.false in
    let key : c.of-key.result ≡ row.0 =
    c.of-key.ensures ∙ c.in_ok-to_vec.ensures.items_if_clones_equal (λ x y e. e) ∙ c.as_slice.ensures.value in
    takes front c.args.batch.now.items (fin.keys c.args.rows.now) c.loop-key.batch.items row (shown c.next.new.self) l
    c.push.new.self.items begins (c.in_ok-push.ensures.items ∙ ap (λ k. c.loop-key.batch.items ++ deletion k ∷ []) key)

pub returns : goal.returns
returns c =
    let front = c.args.front.now in
    let old = c.args.batch.now.items in
    let keys = fin.keys c.args.rows.now in
    elim c.match-next.branch [
      | in-None b ↦ ends front old keys c.loop-key.batch.items
          (subst (λ es. Left front old keys c.loop-key.batch.items (shown es)) b.in-None.ensures.steps.0
          c.loop-key.invariant)
      | in-Some+then-not-starts_with b ↦
          let row : List ℕ × List ℕ = (b.in-Some.key.now.items, b.in-Some.field-0-1.now) in
          let begins : starts_with eqb row.0 front ≡ false =
          ap (λ key. starts_with eqb key front) (sym b.deref.ensures.value) ∙ sym b.starts_with.ensures.value
          ∙ b.if-not-starts_with.true in
          stops front old keys c.loop-key.batch.items row (shown c.next.new.self)
          (subst (λ es. Left front old keys c.loop-key.batch.items (shown es)) b.in-Some.ensures.steps
          c.loop-key.invariant) begins
    ]
