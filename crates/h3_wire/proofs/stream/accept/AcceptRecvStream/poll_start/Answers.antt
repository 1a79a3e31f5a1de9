use Rattle.std.proofs.Common.{length, arith, refl, rules, sym, ◌∙◌, ap, inl, inr, Ok, Err, Some}
use Rattle.h3_wire.specs.declared.quic.Poll.TheVariants.{Ready, Pending}
use Rattle.h3_frames.specs.declared.frame.errors.FrameStreamError.TheVariants as stream
use Rattle.h3_wire.specs.declared.stream.Received.TheVariants as received
use Rattle.h3_wire.specs.declared.stream.accept.PollTypeError.TheVariants as failed
use Rattle.h3_wire.specs.Starting.{starts, stops, reads_on}
use Rattle.h3_wire.specs.Source.{done}
use Rattle.h3_wire.proofs.GivenPieces.{passes_then, rest_passes, adds_passes}
use Rattle.h3_frames.specs.PieceLaws.{rest_same}
use Rattle.h3_wire.proofs.Accepts.{takes_on, takes_no_more, asks_on, asked_on}
use Rattle.h3_wire.proofs.stream.accept.AcceptRecvStream.poll_start.Goals as goal

pub loop-self-init : goal.loop-self-init
loop-self-init g c = record { same = λ more. refl; fewer = omega arith; is_eos = refl; pieces = rest_passes g.S.RecvStream.answers _ _ _ _ refl (rest_same _ _ refl); rounds = λ answer new h. h; asked = done _ _ refl }

pub loop-self-preserved : goal.loop-self-preserved
loop-self-preserved g c =
    let rest = g.S.RecvStream.rest in
    let none = takes_no_more rest c.loop-self.self c.take_start.new.self c.take_start.ensures.source c.take_start.ensures.is_eos c.take_start.ensures.fewer in
    let told = rw c.in-Ok-More.field-0-is at c.in-Ok-More.ensures.tells in
    record {
      same = asks_on rest c.args.self.now c.loop-self.self c.take_start.new.self c.ask.new.self c.loop-self.invariant.same
          (takes_on rest c.loop-self.self c.take_start.new.self c.take_start.ensures.source c.take_start.ensures.is_eos c.take_start.ensures.same) c.ask.ensures.all c.ask.ensures.kind c.ask.ensures.id;
      fewer = omega (arith, none, c.loop-self.invariant.fewer, ap length c.ask.ensures.all);
      is_eos = told.1 ∙ c.take_start.ensures.is_eos ∙ c.loop-self.invariant.is_eos;
      pieces = passes_then g.S.RecvStream.answers _ _ _ _ _ _ (passes_then g.S.RecvStream.answers _ _ _ _ _ _ c.loop-self.invariant.pieces (rest_passes g.S.RecvStream.answers _ _ _ _ c.take_start.ensures.source c.take_start.ensures.rest)) (adds_passes g.S.RecvStream.answers _ _ _ _ c.ask.ensures.pieces);
      rounds = λ answer new h. c.loop-self.invariant.rounds answer new
          (reads_on c.loop-self.self c.take_start.new.self c.ask.new.self new (Ok received.More) answer c.take_start.ensures.starts (sym c.take_start.ensures.resolved ∙ c.if-take_start.false)
          (rw c.in-Ok-More.field-0-is at c.in-Ok-More.ensures.asks) c.ask.ensures.kind c.ask.ensures.id refl h);
      asked = asked_on g.S.RecvStream.answers _ _ _ _ c.loop-self.invariant.asked c.take_start.ensures.source c.ask.ensures.asked;
    }

pub returns-in-Ok-End-clause-same : goal.returns-in-Ok-End-clause-same
returns-in-Ok-End-clause-same g c =
    let rest = g.S.RecvStream.rest in
    asks_on rest c.args.self.now c.loop-self.self c.take_start.new.self c.ask.new.self c.loop-self.invariant.same
    (takes_on rest c.loop-self.self c.take_start.new.self c.take_start.ensures.source c.take_start.ensures.is_eos c.take_start.ensures.same) c.ask.ensures.all c.ask.ensures.kind c.ask.ensures.id

pub returns-in-Ok-End-clause-asked : goal.returns-in-Ok-End-clause-asked
returns-in-Ok-End-clause-asked g c = asked_on g.S.RecvStream.answers _ _ _ _ c.loop-self.invariant.asked c.take_start.ensures.source c.ask.ensures.asked

pub returns-in-Ok-Nothing-clause-same : goal.returns-in-Ok-Nothing-clause-same
returns-in-Ok-Nothing-clause-same g c =
    let rest = g.S.RecvStream.rest in
    asks_on rest c.args.self.now c.loop-self.self c.take_start.new.self c.ask.new.self c.loop-self.invariant.same
    (takes_on rest c.loop-self.self c.take_start.new.self c.take_start.ensures.source c.take_start.ensures.is_eos c.take_start.ensures.same) c.ask.ensures.all c.ask.ensures.kind c.ask.ensures.id

pub returns-in-Ok-Nothing-clause-asked : goal.returns-in-Ok-Nothing-clause-asked
returns-in-Ok-Nothing-clause-asked g c = asked_on g.S.RecvStream.answers _ _ _ _ c.loop-self.invariant.asked c.take_start.ensures.source c.ask.ensures.asked

pub returns-in-Err-Quic-clause-same : goal.returns-in-Err-Quic-clause-same
returns-in-Err-Quic-clause-same g c =
    let rest = g.S.RecvStream.rest in
    asks_on rest c.args.self.now c.loop-self.self c.take_start.new.self c.ask.new.self c.loop-self.invariant.same
    (takes_on rest c.loop-self.self c.take_start.new.self c.take_start.ensures.source c.take_start.ensures.is_eos c.take_start.ensures.same) c.ask.ensures.all c.ask.ensures.kind c.ask.ensures.id

pub returns-in-Err-Quic-clause-asked : goal.returns-in-Err-Quic-clause-asked
returns-in-Err-Quic-clause-asked g c = asked_on g.S.RecvStream.answers _ _ _ _ c.loop-self.invariant.asked c.take_start.ensures.source c.ask.ensures.asked

pub returns-in-Err-OutOfMemory : goal.returns-in-Err-OutOfMemory
returns-in-Err-OutOfMemory g c =
    let rest = g.S.RecvStream.rest in
    let none = takes_no_more g.S.RecvStream.rest c.loop-self.self c.take_start.new.self c.take_start.ensures.source c.take_start.ensures.is_eos c.take_start.ensures.fewer in
    record {
      same = asks_on rest c.args.self.now c.loop-self.self c.take_start.new.self c.ask.new.self c.loop-self.invariant.same
          (takes_on rest c.loop-self.self c.take_start.new.self c.take_start.ensures.source c.take_start.ensures.is_eos c.take_start.ensures.same) c.ask.ensures.all c.ask.ensures.kind c.ask.ensures.id;
      fewer = omega (arith, none, c.loop-self.invariant.fewer, ap length c.ask.ensures.all);
      polls = search rules;
      rounds = c.loop-self.invariant.rounds _ _
          (stops c.loop-self.self c.take_start.new.self c.ask.new.self (Err stream.OutOfMemory) (Ready (Err failed.OutOfMemory)) c.take_start.ensures.starts (sym c.take_start.ensures.resolved ∙ c.if-take_start.false)
          (rw c.in-Err-OutOfMemory.field-0-is at c.in-Err-OutOfMemory.ensures.asks) c.ask.ensures.kind c.ask.ensures.id refl);
      pieces = passes_then g.S.RecvStream.answers _ _ _ _ _ _ (passes_then g.S.RecvStream.answers _ _ _ _ _ _ c.loop-self.invariant.pieces (rest_passes g.S.RecvStream.answers _ _ _ _ c.take_start.ensures.source c.take_start.ensures.rest)) (adds_passes g.S.RecvStream.answers _ _ _ _ c.ask.ensures.pieces);
      asked = asked_on g.S.RecvStream.answers _ _ _ _ c.loop-self.invariant.asked c.take_start.ensures.source c.ask.ensures.asked;
      ended = elim c.ask.ensures.ended [
        | inl same ↦ inl (same ∙ c.take_start.ensures.is_eos ∙ c.loop-self.invariant.is_eos)
        | inr told ↦ inr told
      ];
    }

pub returns-in-Ok-End-clause-pieces : goal.returns-in-Ok-End-clause-pieces
returns-in-Ok-End-clause-pieces g c = passes_then g.S.RecvStream.answers _ _ _ _ _ _ (passes_then g.S.RecvStream.answers _ _ _ _ _ _ c.loop-self.invariant.pieces (rest_passes g.S.RecvStream.answers _ _ _ _ c.take_start.ensures.source c.take_start.ensures.rest)) (adds_passes g.S.RecvStream.answers _ _ _ _ c.ask.ensures.pieces)

pub returns-in-Ok-Nothing-clause-pieces : goal.returns-in-Ok-Nothing-clause-pieces
returns-in-Ok-Nothing-clause-pieces g c = passes_then g.S.RecvStream.answers _ _ _ _ _ _ (passes_then g.S.RecvStream.answers _ _ _ _ _ _ c.loop-self.invariant.pieces (rest_passes g.S.RecvStream.answers _ _ _ _ c.take_start.ensures.source c.take_start.ensures.rest)) (adds_passes g.S.RecvStream.answers _ _ _ _ c.ask.ensures.pieces)

pub returns-in-Err-Quic-clause-pieces : goal.returns-in-Err-Quic-clause-pieces
returns-in-Err-Quic-clause-pieces g c = passes_then g.S.RecvStream.answers _ _ _ _ _ _ (passes_then g.S.RecvStream.answers _ _ _ _ _ _ c.loop-self.invariant.pieces (rest_passes g.S.RecvStream.answers _ _ _ _ c.take_start.ensures.source c.take_start.ensures.rest)) (adds_passes g.S.RecvStream.answers _ _ _ _ c.ask.ensures.pieces)

pub returns-then-take_start-clause-pieces : goal.returns-then-take_start-clause-pieces
returns-then-take_start-clause-pieces g c = passes_then g.S.RecvStream.answers _ _ _ _ _ _ c.loop-self.invariant.pieces (rest_passes g.S.RecvStream.answers _ _ _ _ c.take_start.ensures.source c.take_start.ensures.rest)

pub returns-then-take_start-clause-fewer : goal.returns-then-take_start-clause-fewer
returns-then-take_start-clause-fewer g c =
    let none = takes_no_more g.S.RecvStream.rest c.loop-self.self c.take_start.new.self c.take_start.ensures.source c.take_start.ensures.is_eos c.take_start.ensures.fewer in
    omega (arith, none, c.loop-self.invariant.fewer)

pub returns-in-Ok-End-clause-fewer : goal.returns-in-Ok-End-clause-fewer
returns-in-Ok-End-clause-fewer g c =
    let none = takes_no_more g.S.RecvStream.rest c.loop-self.self c.take_start.new.self c.take_start.ensures.source c.take_start.ensures.is_eos c.take_start.ensures.fewer in
    omega (arith, none, c.loop-self.invariant.fewer, ap length c.ask.ensures.all)

pub returns-in-Ok-Nothing-clause-fewer : goal.returns-in-Ok-Nothing-clause-fewer
returns-in-Ok-Nothing-clause-fewer g c =
    let none = takes_no_more g.S.RecvStream.rest c.loop-self.self c.take_start.new.self c.take_start.ensures.source c.take_start.ensures.is_eos c.take_start.ensures.fewer in
    omega (arith, none, c.loop-self.invariant.fewer, ap length c.ask.ensures.all)

pub returns-in-Err-Quic-clause-fewer : goal.returns-in-Err-Quic-clause-fewer
returns-in-Err-Quic-clause-fewer g c =
    let none = takes_no_more g.S.RecvStream.rest c.loop-self.self c.take_start.new.self c.take_start.ensures.source c.take_start.ensures.is_eos c.take_start.ensures.fewer in
    omega (arith, none, c.loop-self.invariant.fewer, ap length c.ask.ensures.all)

pub returns-then-take_start-clause-rounds : goal.returns-then-take_start-clause-rounds
returns-then-take_start-clause-rounds g c = c.loop-self.invariant.rounds _ _ (starts c.loop-self.self c.take_start.new.self c.take_start.ensures.starts (sym c.take_start.ensures.resolved ∙ c.if-take_start.true))

pub returns-in-Ok-End-clause-rounds : goal.returns-in-Ok-End-clause-rounds
returns-in-Ok-End-clause-rounds g c = c.loop-self.invariant.rounds _ _
    (stops c.loop-self.self c.take_start.new.self c.ask.new.self (Ok received.End) (Ready (Err failed.EndOfStream)) c.take_start.ensures.starts (sym c.take_start.ensures.resolved ∙ c.if-take_start.false)
    (rw c.in-Ok-End.field-0-is at c.in-Ok-End.ensures.asks) c.ask.ensures.kind c.ask.ensures.id refl)

pub returns-in-Ok-Nothing-clause-rounds : goal.returns-in-Ok-Nothing-clause-rounds
returns-in-Ok-Nothing-clause-rounds g c = c.loop-self.invariant.rounds _ _
    (stops c.loop-self.self c.take_start.new.self c.ask.new.self (Ok received.Nothing) Pending c.take_start.ensures.starts (sym c.take_start.ensures.resolved ∙ c.if-take_start.false)
    (rw c.in-Ok-Nothing.field-0-is at c.in-Ok-Nothing.ensures.asks) c.ask.ensures.kind c.ask.ensures.id refl)

pub returns-in-Err-Quic-clause-rounds : goal.returns-in-Err-Quic-clause-rounds
returns-in-Err-Quic-clause-rounds g c = c.loop-self.invariant.rounds _ _
    (stops c.loop-self.self c.take_start.new.self c.ask.new.self (Err (stream.Quic c.in-Err-Quic.e)) (Ready (Err c.as_type_error.result)) c.take_start.ensures.starts (sym c.take_start.ensures.resolved ∙ c.if-take_start.false)
    (rw c.in-Err-Quic.field-0-is at c.in-Err-Quic.ensures.asks) c.ask.ensures.kind c.ask.ensures.id (ap (λ x. Some (Ready (Err x))) (sym c.as_type_error.ensures)))
