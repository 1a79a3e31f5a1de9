-- What can be read of an endpoint.
use Rattle.std.specs.Prelude.{ℕ, ◌^◌, ◌-◌, Bool, false, ◌||◌, List, length, Option, unwrap_or, option_map, is_some}
use Rattle.h3_field.specs.Field.{section_size}
use Rattle.h3_table.specs.Table.{table}
use Rattle.h3_proto.specs.Settings.{value_of}
use Rattle.h3_connection.specs.OtherSettings.{setting_in}
use Rattle.h3_connection.specs.OwnIds.{is_own}
use Rattle.h3_connection.specs.StreamSets.{stream_at}
use Rattle.h3_connection.specs.Delivering.{incoming_at}
use Rattle.h3_connection.specs.Endpoint.{EndpointHistory, heads_waiting, bytes_waiting}
use Rattle.h3_connection.specs.declared.event.PeerLimits.{PeerLimits}
use Rattle.h3_connection.specs.declared.event.TableSizes.{TableSizes}

abbrev pub has_outgoing : EndpointHistory → ℕ → Bool
has_outgoing e id = is_own e.side id || is_some (stream_at e.outgoing id)

abbrev pub waiting : EndpointHistory → ℕ → ℕ
waiting e id = length (bytes_waiting e id)

abbrev pub is_finished : EndpointHistory → ℕ → Bool
is_finished e id = unwrap_or (option_map (λ o. o.is_finished) (stream_at e.outgoing id)) false

abbrev pub is_reset : EndpointHistory → ℕ → Bool
is_reset e id = unwrap_or (option_map (λ o. o.is_reset) (stream_at e.outgoing id)) false

abbrev pub limits_of : List (ℕ × ℕ) → PeerLimits
limits_of pairs = record { capacity = unwrap_or (value_of 1 pairs) 0; blocked = unwrap_or (value_of 7 pairs) 0; section = unwrap_or (value_of 6 pairs) (2 ^ 62 - 1) }

-- a setting of the peer, also one of no meaning that is kept
abbrev pub peer_setting : EndpointHistory → ℕ → Option ℕ
peer_setting e id = setting_in e.peer.settings e.peer.others id

-- unknown until the peer's settings came
abbrev pub peer_limits : EndpointHistory → Option PeerLimits
peer_limits e = option_map limits_of e.peer.settings

abbrev pub table_sizes : EndpointHistory → TableSizes
table_sizes e =
    record { sending = section_size (table e.encoder.capacity e.encoder.inserted); receiving = section_size e.decoding.decoder.table.entries }

abbrev pub waiting_heads : EndpointHistory → ℕ
waiting_heads e = heads_waiting e.decoding.decoder e.incoming

abbrev pub block_tries : EndpointHistory → ℕ → ℕ
block_tries e id = (incoming_at e id).tries
