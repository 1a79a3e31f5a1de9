-- What a block holds, once what was lent of it is given back.
use Rattle.std.specs.Borrow.{Fml, Lends, MutBor}
use Rattle.h3_connection.specs.State.{RequestState}
use Rattle.h3_requests.specs.contracts.boxed.BoxedStream.{the_row}
use Rattle.h3_requests.specs.contracts.stream.RequestStream.{the_row as stream_row}

-- the stream is the last one that was written
abbrev pub LendsWhole : MutBor RequestState → MutBor RequestState → Fml
LendsWhole b r = Lends the_row stream_row b r (λ x. x)
