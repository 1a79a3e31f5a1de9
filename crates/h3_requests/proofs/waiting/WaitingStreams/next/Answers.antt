-- It is the lowest bit of the first word of its class that has one there.
use Rattle.std.proofs.Common.{arith, ◌+◌, ◌-◌, ◌*◌, ◌/◌, ◌%◌, ◌^◌, refl, rules}
use Rattle.h3_requests.specs.Waiting.{waiting_at, words_in}
use Rattle.h3_requests.proofs.Classed.{first_of_class, none_of_class, past_all}
use Rattle.h3_requests.proofs.LeastBit.{first_here, first_later, lies_in, none_later}
use Rattle.h3_requests.proofs.waiting.WaitingStreams.next.Goals as goal

pub returns-then-from-gt-LAST : goal.returns-then-from-gt-LAST
returns-then-from-gt-LAST c = past_all (waiting_at c.args.self.now) c.args.class c.args.from (omega (arith, c.if-from-gt-LAST.true))

pub stream_at-requires : goal.stream_at-requires
stream_at-requires c = lies_in c.waiting_in.result ((c.args.from + 3) / 4 % 64) (omega (arith, c.if-here-ne0.true)) (search rules) (search rules)

pub returns-then-here-ne0 : goal.returns-then-here-ne0
returns-then-here-ne0 c =
    first_here (words_in (waiting_at c.args.self.now) c.args.class) c.args.from c.waiting_in.result (c.waiting_in.result / 2 ^ ((c.args.from + 3) / 4 % 64)) ((c.args.from + 3) / 4 % 64) ((c.args.from + 3) / 4 / 64) c.stream_at.result
    refl refl c.waiting_in.ensures (search rules) refl (omega (arith, c.if-here-ne0.true)) (search rules) c.stream_at.ensures.some c.stream_at.ensures.none

pub returns-in_default : goal.returns-in_default
returns-in_default c =
    none_later (words_in (waiting_at c.args.self.now) c.args.class) c.args.from c.waiting_in.result (c.waiting_in.result / 2 ^ ((c.args.from + 3) / 4 % 64)) ((c.args.from + 3) / 4 % 64) ((c.args.from + 3) / 4 / 64)
    refl refl c.waiting_in.ensures refl c.if-here-ne0.false
    (none_of_class (waiting_at c.args.self.now) c.args.class ((c.args.from + 3) / 4 / 64 + 1) (search rules))

pub returns : goal.returns
returns c =
    first_later (words_in (waiting_at c.args.self.now) c.args.class) c.args.from c.waiting_in.result (c.waiting_in.result / 2 ^ ((c.args.from + 3) / 4 % 64)) ((c.args.from + 3) / 4 % 64) ((c.args.from + 3) / 4 / 64)
    (c.in-Some.later - c.args.class * (2 ^ 54 + 1)) c.in-Some.word c.stream_at-2.result
    refl refl c.waiting_in.ensures refl c.if-here-ne0.false
    (first_of_class (waiting_at c.args.self.now) c.args.class ((c.args.from + 3) / 4 / 64 + 1) (c.in-Some.later, c.in-Some.word) (search rules)) c.stream_at-2.ensures.some c.stream_at-2.ensures.none
