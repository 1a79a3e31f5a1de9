-- Its place is cleared in its word, and on which streams something waits is read in the same words.
use Rattle.std.specs.Prelude.{false}
use Rattle.h3_requests.specs.Waiting.{has_place, places_at, waiting_at}
use Rattle.h3_requests.proofs.Classed.{clear_place, others_keep, same_places}
use Rattle.h3_requests.proofs.waiting.WaitingStreams.release.Goals as goal

pub returns-clause-same : goal.returns-clause-same
returns-clause-same c = same_places (waiting_at c.args.self.now) (waiting_at c.take_places.new.self) c.take_places.ensures.waiting

pub returns-clause-places : goal.returns-clause-places
returns-clause-places c =
    others_keep c.args.class c.args.id false (has_place c.args.self.now) (has_place c.take_places.new.self)
    (clear_place (places_at c.args.self.now) (places_at c.take_places.new.self) c.args.class c.into_inner-number.result c.word_of.result c.bit_of.result c.args.id c.into_inner-number.ensures.value c.into_inner-number.ensures.bound
    c.if-number-ne0.false c.word_of.ensures c.bit_of.ensures c.take_places.ensures.places)
