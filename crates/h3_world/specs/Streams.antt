-- The streams by their ids (RFC 9000, section 2.1).
use Rattle.std.specs.Prelude.{ℕ, ◌-◌, Bool, ◌&&◌, ◌||◌, length, slice_get, slice_set, nat_lt, ◌==◌, if◌then◌else◌, unwrap_or}
use Rattle.h3_proto.specs.StreamIds.{is_request_stream, index_of}
use Rattle.h3_proto.specs.declared.stream.Side.{Side}
use Rattle.h3_proto.specs.declared.stream.Side.TheVariants.{Client, Server}
use Rattle.h3_connection.specs.OwnIds.{control_id, encoder_id, decoder_id, is_own}
use Rattle.h3_world.specs.Setup.{Setup, announced_at}
use Rattle.h3_world.specs.Flow.{Flow, bytes_waiting}
use Rattle.h3_world.specs.World.{World, Exchange, no_exchange, party}
use Rattle.h3_world.specs.OwnStreams.{control_stream, encoder_stream, decoder_stream}

-- what went over a request stream, and nothing under any other id
abbrev pub exchange : World → ℕ → Exchange
exchange w id = if is_request_stream id then unwrap_or (slice_get w.exchanges (index_of id)) no_exchange else no_exchange

abbrev pub with_exchange : World → ℕ → Exchange → World
with_exchange w id e = record w { exchanges = slice_set w.exchanges (index_of id) e }

-- what the side writes on a request stream
abbrev pub flow : World → Side → ℕ → Flow
flow w Client id = (exchange w id).request
flow w Server id = (exchange w id).response

abbrev pub with_flow : World → Side → ℕ → Flow → World
with_flow w Client id f = with_exchange w id (record (exchange w id) { request = f })
with_flow w Server id f = with_exchange w id (record (exchange w id) { response = f })

-- A client has opened the id, or a server has got something on it.
abbrev pub is_open : World → Side → ℕ → Bool
is_open w Client id = is_request_stream id && nat_lt (index_of id) (length w.exchanges)
is_open w Server id = is_request_stream id && nat_lt (index_of id) (length w.exchanges) && (exchange w id).request.seen

-- the side has bytes to hand over under this id
abbrev pub has_outgoing : World → Side → ℕ → Bool
has_outgoing w side id = is_own side id || is_open w side id

-- how many bytes wait on a stream of the side
abbrev pub waiting : Setup → World → Side → ℕ → ℕ
waiting setup w side id =
    let p = party w side in
    if id == control_id side then length (control_stream (announced_at setup side) p) - p.own.control_taken else (
    if id == encoder_id side then length (encoder_stream p) - p.own.encoder_taken else (
    if id == decoder_id side then length (decoder_stream p) - p.own.decoder_taken else
    bytes_waiting (flow w side id)))
