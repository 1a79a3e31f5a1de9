use Rattle.std.proofs.Common.{refl, sym, subst}
use Rattle.h3_wire.specs.Streams.{stream_part, PollsData}
use Rattle.h3_wire.specs.Asking.{ReadsOnce, fails, cut_short}
use Rattle.h3_wire.proofs.Rounds.{takes_once, refused_once, short_of, polls_taken}
use Rattle.h3_wire.specs.Source.{done}
use Rattle.h3_wire.proofs.Reading.{adds_none}
use Rattle.h3_wire.proofs.frame.FrameStream.poll_payload.Goals as goal

pub returns-then-not-has_data-clause-asked : goal.returns-then-not-has_data-clause-asked
returns-then-not-has_data-clause-asked g c = done _ _ refl

pub returns-then-not-has_data-clause-pieces : goal.returns-then-not-has_data-clause-pieces
returns-then-not-has_data-clause-pieces g c = adds_none g.S.RecvStream.answers _ _ _ _ refl refl

pub returns-in-Err-clause-once : goal.returns-in-Err-clause-once
returns-in-Err-clause-once g c = fails c.in-Err.e (sym c.if-not-has_data.ensures) c.in-Err.ensures.asks refl c.ask.ensures.payload c.ask.ensures.decoder

pub returns-then-ends_short-clause-once : goal.returns-then-ends_short-clause-once
returns-then-ends_short-clause-once g c =
    cut_short c.in-Ok.received (sym c.if-not-has_data.ensures) c.in-Ok.ensures.asks
    (short_of c.in-Ok.received (stream_part c.ask.new.self) (sym c.if-ends_short.ensures.is) c.ask.ensures.payload)
    refl c.ask.ensures.payload c.ask.ensures.decoder

pub returns-in-Ok-take_data-clause-once : goal.returns-in-Ok-take_data-clause-once
returns-in-Ok-take_data-clause-once g c =
    subst (λ a. ReadsOnce g.S.RecvStream.answers c.args.self.now a c.take_data.new.self) (sym c.data_answer.ensures)
    (takes_once g.S.RecvStream.answers c.args.self.now c.ask.new.self c.take_data.new.self c.in-Ok.received (sym c.if-not-has_data.ensures) c.in-Ok.ensures.asks c.ask.ensures.payload c.ask.ensures.decoder
    (short_of c.in-Ok.received (stream_part c.ask.new.self) (sym c.if-ends_short.ensures.is) c.ask.ensures.payload)
    c.in-Ok-take_data.taken c.in-Ok-take_data.ensures.first c.take_data.ensures.decoder)

pub returns-in-Err-take_data-clause-once : goal.returns-in-Err-take_data-clause-once
returns-in-Err-take_data-clause-once g c =
    refused_once g.S.RecvStream.answers c.args.self.now c.ask.new.self c.take_data.new.self c.in-Ok.received (sym c.if-not-has_data.ensures) c.in-Ok.ensures.asks c.ask.ensures.payload c.ask.ensures.decoder
    (short_of c.in-Ok.received (stream_part c.ask.new.self) (sym c.if-ends_short.ensures.is) c.ask.ensures.payload)
    c.in-Err-take_data.e c.in-Err-take_data.ensures.memory c.in-Err-take_data.ensures.none

pub returns-in-Ok-take_data-clause-polls : goal.returns-in-Ok-take_data-clause-polls
returns-in-Ok-take_data-clause-polls g c =
    subst (λ a. PollsData g.S.RecvStream.rest g.S.RecvStream.answers a c.args.self.now c.take_data.new.self) (sym c.data_answer.ensures)
    (polls_taken g.S.RecvStream.rest g.S.RecvStream.answers c.args.self.now c.ask.new.self c.take_data.new.self c.in-Ok.received c.in-Ok-take_data.taken
    c.ask.ensures.all c.ask.ensures.payload (sym c.if-not-has_data.ensures) c.in-Ok.ensures.tells c.in-Ok-take_data.ensures.takes c.take_data.ensures.source c.take_data.ensures.is_eos
    (c.if-ends_short.ensures.whole refl))
