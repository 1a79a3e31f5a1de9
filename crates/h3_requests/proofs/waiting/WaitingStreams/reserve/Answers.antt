-- Its bit is set in its word, where memory was there for it.
use Rattle.h3_requests.specs.Waiting.{places_at, waiting_at}
use Rattle.h3_requests.proofs.Classed.{placed_if, same_places, still_if}
use Rattle.h3_requests.proofs.waiting.WaitingStreams.reserve.Goals as goal

pub returns-clause-placed : goal.returns-clause-placed
returns-clause-placed c =
    placed_if c.add_places.result (places_at c.args.self.now) (places_at c.add_places.new.self) c.args.class c.into_inner-number.result c.word_of.result c.bit_of.result c.args.id c.into_inner-number.ensures.value
    c.into_inner-number.ensures.bound c.if-number-ne0.false c.word_of.ensures c.bit_of.ensures c.add_places.ensures.ok

pub returns-clause-kept : goal.returns-clause-kept
returns-clause-kept c =
    still_if c.add_places.result (places_at c.args.self.now) (places_at c.add_places.new.self) c.args.class c.into_inner-number.result c.word_of.result c.bit_of.result c.args.id c.into_inner-number.ensures.value
    c.into_inner-number.ensures.bound c.if-number-ne0.false c.word_of.ensures c.bit_of.ensures c.add_places.ensures.ok c.add_places.ensures.err

pub returns-clause-same : goal.returns-clause-same
returns-clause-same c = same_places (waiting_at c.args.self.now) (waiting_at c.add_places.new.self) c.add_places.ensures.waiting
