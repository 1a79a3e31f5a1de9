-- What a row of streams becomes, once a stream that was lent is given back.
use Rattle.std.specs.Prelude.{ℕ, ◌/◌, ◌%◌, Some}
use Rattle.std.specs.Borrow.{Fml, Lends, MutBor}
use Rattle.std.specs.Vec.{with_item}
use Rattle.h3_connection.specs.State.{RequestState}
use Rattle.h3_requests.specs.contracts.stream.RequestStream.{the_row as stream_row}
use Rattle.h3_requests.specs.contracts.under_way.row.Place.{the_row as place_row}
use Rattle.h3_requests.specs.contracts.under_way.row.Row.{the_row}
use Rattle.h3_requests.specs.declared.under_way.row.Place.{Place}
use Rattle.h3_requests.specs.declared.under_way.row.Row.{Row}

-- the place has the last stream that was written
abbrev pub LendsPlaced : MutBor Place → MutBor RequestState → Fml
LendsPlaced p r = Lends place_row stream_row p r (λ x. record p.now { stream = Some x })

-- the row with this stream in the place of this id
abbrev pub with_stream : Row → ℕ → RequestState → Row
with_stream s id x = record s { places = with_item s.places (id / 4 % 128) (record { id = id; stream = Some x }) }

-- the stream of this id is the last one that was written
abbrev pub LendsHeld : MutBor Row → ℕ → MutBor RequestState → Fml
LendsHeld s id r = Lends the_row stream_row s r (with_stream s.now id)
