use Rattle.world_check.proofs.Counting.{counts_back, counts_there}
use Rattle.world_check.proofs.Refusing.{refused}
use Rattle.world_check.proofs.counts.are_lawful_counts.Goals as goal

pub returns-then-not-has_begun : goal.returns-then-not-has_begun
returns-then-not-has_begun c = λ w scaled same count last.
    refused _ _ c.has_begun.result c.has_begun.ensures c.if-not-has_begun.true
    (λ h. (counts_back c.args.scale _ _ _ w scaled same count last h).begun)

pub returns-then-not-are_few : goal.returns-then-not-are_few
returns-then-not-are_few c = λ w scaled same count last.
    refused _ _ c.are_few.result c.are_few.ensures c.if-not-are_few.true
    (λ h. (counts_back c.args.scale _ _ _ w scaled same count last h).units)

pub returns-then-not-are_few-2 : goal.returns-then-not-are_few-2
returns-then-not-are_few-2 c = λ w scaled same count last.
    refused _ _ c.are_few-2.result c.are_few-2.ensures c.if-not-are_few-2.true
    (λ h. (counts_back c.args.scale _ _ _ w scaled same count last h).undoable)

pub returns-then-not-are_few-3 : goal.returns-then-not-are_few-3
returns-then-not-are_few-3 c = λ w scaled same count last.
    refused _ _ c.are_few-3.result c.are_few-3.ensures c.if-not-are_few-3.true
    (λ h. (counts_back c.args.scale _ _ _ w scaled same count last h).available)

pub returns : goal.returns
returns c = λ w scaled same count last. (
  λ e. counts_there c.args.scale c.args.sessions.now c.args.boots.now.count c.args.boots.now.moments.items w scaled same
      count last (record {
        begun = c.has_begun.ensures.0 c.if-not-has_begun.false;
        units = c.are_few.ensures.0 c.if-not-are_few.false;
        undoable = c.are_few-2.ensures.0 c.if-not-are_few-2.false;
        available = c.are_few-3.ensures.0 c.if-not-are_few-3.false;
        waiting = c.are_few-4.ensures.0 e;
      }),
  λ h. c.are_few-4.ensures.1 (counts_back c.args.scale _ _ _ w scaled same count last h).waiting,
)
