-- Its bit is set in its word.
use Rattle.h3_requests.specs.Waiting.{places_at, waiting_at}
use Rattle.h3_requests.proofs.Bits.{of_number}
use Rattle.h3_requests.proofs.Classed.{of_stream, same_places, set_place}
use Rattle.h3_requests.proofs.waiting.WaitingStreams.put.Goals as goal
use Rattle.std.proofs.Common.{ap, sym, ◌∙◌}
use Rattle.std.specs.Prelude.{◌%◌}

pub returns-clause-put : goal.returns-clause-put
returns-clause-put c =
    set_place (waiting_at c.args.self.now) (waiting_at c.add_waiting.new.self) c.args.class c.into_inner-number.result c.word_of.result c.bit_of.result c.args.id c.into_inner-number.ensures.value c.into_inner-number.ensures.bound
    (ap (λ s. s % 4) c.into_inner-number.ensures.value ∙ of_stream (places_at c.args.self.now) c.args.class c.args.id c.requires.place) c.word_of.ensures c.bit_of.ensures c.add_waiting.ensures.waiting

pub returns-clause-places : goal.returns-clause-places
returns-clause-places c = same_places (places_at c.args.self.now) (places_at c.add_waiting.new.self) c.add_waiting.ensures.places
