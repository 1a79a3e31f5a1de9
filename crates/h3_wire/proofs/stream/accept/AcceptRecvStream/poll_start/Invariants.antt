use Rattle.std.proofs.Common.{◌≡◌, ◌≤◌, ℕ, List, ◌++◌, length, Result}
use Rattle.h3_wire.specs.declared.quic.Poll.{Poll}
use Rattle.h3_wire.specs.declared.stream.accept.PollTypeError.{PollTypeError}
use Rattle.h3_wire.specs.Starting.{StartRounds}
use Rattle.h3_wire.specs.Source.{Asked, coming}
use Rattle.h3_wire.specs.Given.{PassesPieces}
use Rattle.h3_wire.specs.Accepting.{Accepting, start_from, all_left}
use Rattle.h3_wire.proofs.stream.accept.AcceptRecvStream.poll_start.Given as goal

-- more bytes came, and they end no type or id; what the other rounds answer, all of them do
abbrev pub invariant-loop-self : goal.invariant-loop-self
invariant-loop-self g l = record {
  same : (more : List ℕ) → start_from l.self.kind l.self.id (all_left g.S.RecvStream.rest l.self ++ more) ≡ start_from l.fn.self.kind l.fn.self.id (all_left g.S.RecvStream.rest l.fn.self ++ more);
  fewer : length (all_left g.S.RecvStream.rest l.self) ≤ length (all_left g.S.RecvStream.rest l.fn.self);
  is_eos : l.self.is_eos ≡ l.fn.self.is_eos;
  pieces : PassesPieces g.S.RecvStream.answers l.fn.self.source l.fn.self.pieces l.self.source l.self.pieces;
  rounds : (answer : Poll (Result (Unit {0}) PollTypeError)) (new : Accepting g.row.S.Denot) → StartRounds g.S.RecvStream.answers l.self answer new → StartRounds g.S.RecvStream.answers l.fn.self answer new;
  asked : Asked g.S.RecvStream.answers l.fn.self.source l.self.source;
}

abbrev pub decreases-loop-self : goal.decreases-loop-self
decreases-loop-self g l = length (coming l.self.is_eos (g.S.RecvStream.rest l.self.source))
