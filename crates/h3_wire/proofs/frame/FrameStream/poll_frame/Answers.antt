use Rattle.std.proofs.Common.{arith, ◌∙◌, refl, subst, inl, inr, None}
use Rattle.h3_wire.specs.Asking.{goes_on}
use Rattle.h3_wire.specs.Source.{done}
use Rattle.h3_wire.proofs.Asking.{asked_then}
use Rattle.h3_wire.proofs.GivenPieces.{passes_then, rest_passes}
use Rattle.h3_frames.specs.PieceLaws.{rest_same}
use Rattle.h3_wire.specs.Streams.{AsksFirst, poll_error}
use Rattle.h3_wire.proofs.Reading.{no_error_first}
use Rattle.h3_wire.proofs.frame.FrameStream.poll_frame.Goals as goal

pub loop-answer-init : goal.loop-answer-init
loop-answer-init g c = record { same = refl; fewer = omega arith; payload = refl; is_eos = refl; first = λ _. inl refl; pieces = rest_passes g.S.RecvStream.answers _ _ _ _ refl (rest_same _ _ refl); rounds = λ answer new h. h; asked = done _ _ refl }

pub returns-in-Some-clause-asked : goal.returns-in-Some-clause-asked
returns-in-Some-clause-asked g c = asked_then _ _ _ _ c.loop-answer.invariant.asked c.read_frame.ensures.asked

pub loop-answer-preserved : goal.loop-answer-preserved
loop-answer-preserved g c = record {
  same = c.in_default.ensures.polls.0 ∙ c.loop-answer.invariant.same;
  fewer = omega (arith, c.read_frame.ensures.fewer, c.loop-answer.invariant.fewer);
  payload = c.in_default.ensures.polls.2 ∙ c.loop-answer.invariant.payload;
  is_eos = c.in_default.ensures.polls.3 ∙ c.loop-answer.invariant.is_eos;
  first = λ e. elim (c.loop-answer.invariant.first e) [
    | inl same ↦ inr (subst (λ s. AsksFirst g.S.RecvStream.answers s None) same (c.in_default.ensures.first (c.loop-answer.invariant.is_eos ∙ e)))
    | inr a ↦ inr a
  ];
  pieces = passes_then g.S.RecvStream.answers _ _ _ _ _ _ c.loop-answer.invariant.pieces c.read_frame.ensures.pieces;
  rounds = λ answer new h.
      let r = c.in_default.ensures.round in
      c.loop-answer.invariant.rounds answer new (goes_on c.loop-answer.self c.read_frame.new.self new r.0 r.1 answer r.2 r.3 h);
  asked = asked_then _ _ _ _ c.loop-answer.invariant.asked c.read_frame.ensures.asked;
}

pub returns-in-Some-clause-ended : goal.returns-in-Some-clause-ended
returns-in-Some-clause-ended g c = elim c.read_frame.ensures.ended [
  | inl same ↦ inl (same ∙ c.loop-answer.invariant.is_eos)
  | inr told ↦ inr told
]

pub returns-in-Some-clause-pieces : goal.returns-in-Some-clause-pieces
returns-in-Some-clause-pieces g c = passes_then g.S.RecvStream.answers _ _ _ _ _ _ c.loop-answer.invariant.pieces c.read_frame.ensures.pieces

pub returns-in-Some-clause-first : goal.returns-in-Some-clause-first
returns-in-Some-clause-first g c = λ e. elim (c.loop-answer.invariant.first e) [
  | inl same ↦ subst (λ s. AsksFirst g.S.RecvStream.answers s (poll_error c.in-Some.answer)) same (c.in-Some.ensures.first (c.loop-answer.invariant.is_eos ∙ e))
  | inr a ↦ no_error_first g.S.RecvStream.answers _ _ a
]

pub returns-in-Some-clause-rounds : goal.returns-in-Some-clause-rounds
returns-in-Some-clause-rounds g c = c.loop-answer.invariant.rounds c.in-Some.answer c.read_frame.new.self c.in-Some.ensures.round
