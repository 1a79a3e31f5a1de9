-- What an end shows: the other side's limits, the sizes of both tables, and how many streams wait.
use Rattle.std.specs.Prelude.{ℕ, ◌&&◌, count_by, nat_lt, is_none, take, Option, option_map}
use Rattle.h3_field.specs.Field.{section_size}
use Rattle.h3_table.specs.Table.{table}
use Rattle.h3_proto.specs.declared.stream.Side.{Side}
use Rattle.h3_proto.specs.declared.stream.Side.TheVariants.{Client, Server}
use Rattle.h3_connection.specs.OwnIds.{other}
use Rattle.h3_connection.specs.Shown.{limits_of}
use Rattle.h3_connection.specs.declared.event.PeerLimits.{PeerLimits}
use Rattle.h3_connection.specs.declared.event.TableSizes.{TableSizes}
use Rattle.h3_world.specs.Setup.{Setup}
use Rattle.h3_world.specs.Flow.{Flow}
use Rattle.h3_world.specs.World.{World, Exchange, party}
use Rattle.h3_world.specs.Came.{settings_known, insertions_came}

abbrev pub limits_shown : Setup → World → Side → Option PeerLimits
limits_shown setup w side = option_map limits_of (settings_known setup w side)

-- The size of what the side's decoder holds: the table of the other side's encoder behind as many insertions as came (RFC 9204, section 3.2).
abbrev pub receiving_size : World → Side → ℕ
receiving_size w side =
    let writer = party w (other side) in
    section_size (table writer.encoder.capacity (take (insertions_came writer) writer.encoder.inserted))

-- the sizes of the entries that the side's encoder holds, and of those that its decoder holds (RFC 9204, section 3.2.1)
abbrev pub sizes_shown : World → Side → TableSizes
sizes_shown w side =
    let encoder = (party w side).encoder in
    record { sending = section_size (table encoder.capacity encoder.inserted); receiving = receiving_size w side }

-- what the side receives of an exchange
abbrev pub incoming : Side → Exchange → Flow
incoming Client e = e.response
incoming Server e = e.request

-- how many streams wait at the side for insertions (RFC 9204, section 2.1.2)
abbrev pub streams_waiting : World → Side → ℕ
streams_waiting w side =
    count_by (λ e. nat_lt (insertions_came (party w (other side))) (incoming side e).waits_for && is_none (incoming side e).fault) w.exchanges
