-- The words are passed in order.
use Rattle.std.proofs.Common.{rules}
use Rattle.h3_requests.proofs.WaitingWords.{all_left, passed, first_found}
use Rattle.h3_requests.proofs.waiting.words.next_far.Goals as goal

pub loop-number-init : goal.loop-number-init
loop-number-init c = all_left c.args.far.now.entries c.args.from _ (search rules) c.range-number-items.ensures.ordered

pub loop-number-preserved : goal.loop-number-preserved
loop-number-preserved c = passed c.args.far.now.entries c.args.from c.loop-number.number-iterator (c.in-Some.number.now, c.in-Some.word.now) c.next.new.self (search rules) (search rules) c.loop-number.invariant

pub returns-then-waiting-ne0 : goal.returns-then-waiting-ne0
returns-then-waiting-ne0 c =
    first_found c.args.far.now.entries c.args.from c.loop-number.number-iterator (c.in-Some.number.now, c.in-Some.word.now) c.next.new.self (search rules) c.if-waiting-ne0.true (search rules) c.loop-number.invariant
