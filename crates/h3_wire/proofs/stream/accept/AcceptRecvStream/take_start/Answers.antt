use Rattle.std.proofs.Common.{refl}
use Rattle.h3_frames.specs.PieceLaws.{rest_is}
use Rattle.h3_wire.proofs.stream.accept.AcceptRecvStream.take_start.Goals as goal

pub returns-clause-starts : goal.returns-clause-starts
returns-clause-starts g c = record {
  kind = c.take_type_and_id.ensures.kind;
  id = c.take_type_and_id.ensures.id;
  buffered = c.take_type_and_id.ensures.buffered;
  pieces = rest_is _ _ _ refl c.take_type_and_id.ensures.rest;
  source = c.take_type_and_id.ensures.source;
  is_eos = c.take_type_and_id.ensures.is_eos;
}
