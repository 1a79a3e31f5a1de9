-- It is no id that a GOAWAY names.
use Rattle.std.specs.Prelude.{is_some}
use Rattle.h3_connection.specs.Lasts.{last_id}
use Rattle.h3_connection.specs.StreamSets.{stream_at}
use Rattle.h3_proto.specs.StreamIds.{is_request_stream}
use Rattle.h3_connection.specs.Shutdown.{is_named}
use Rattle.h3_session.proofs.Draining.{not_rejected}
use Rattle.h3_session.proofs.laws.nothing_below_a_goaway_is_rejected.Goals as goal

pub returns : goal.returns
returns c = λ e id below.
    not_rejected e.announced.choices.extensions.requests_rejected (is_some e.closed) (is_some (stream_at e.incoming id)) (is_request_stream id) e.side (is_named (last_id e.own.goaways) id) below
