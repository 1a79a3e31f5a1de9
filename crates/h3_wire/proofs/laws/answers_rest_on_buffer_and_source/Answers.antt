use Rattle.h3_wire.proofs.Asking.{one_frame, one_piece, buffered_is_function}
use Rattle.h3_wire.proofs.Starting.{one_start}
use Rattle.h3_wire.proofs.laws.answers_rest_on_buffer_and_source.Goals as goal

pub returns : goal.returns
returns g c = record {
  frame = λ one. one_frame g.S.RecvStream.answers one;
  piece = λ one. one_piece g.S.RecvStream.answers one;
  start = λ one. one_start g.S.RecvStream.answers one;
  buffered = λ one. buffered_is_function g.S.RecvStream.answers one;
}
