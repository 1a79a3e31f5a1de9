-- Two new endpoints stand in the empty world.
use Rattle.std.proofs.Common.{◌≡◌, Bool, true, false, refl, ℕ, arith, ap, ◌∙◌, ◌+◌, [], None}
use Rattle.std.specs.Prelude.{◌&&◌, nat_lt, nat_le, length, if◌then◌else◌}
use Rattle.std.proofs.lemmas.Grind.{common_steps}
use Rattle.h3_proto.specs.StreamIds.{is_request_stream, index_of}
use Rattle.h3_proto.specs.declared.stream.Side.TheVariants.{Client, Server}
use Rattle.h3_world.specs.Streams.{is_open, exchange, flow}
use Rattle.h3_world.specs.World.{empty_world, no_exchange}
use Rattle.h3_proto.specs.declared.stream.Side.{Side}
use Rattle.h3_world.specs.Setup.{IsMadeSetup, JudgesPlainly, Setup, TakesAnyLength, announced_at}
use Rattle.h3_connection.specs.OwnIds.{other}
use Rattle.h3_connection.specs.PeerReading.{none_read}
use Rattle.h3_connection.specs.OtherSettings.{most_others}
use Rattle.h3_connection.specs.Updates.{most_updates}
use Rattle.h3_connection.specs.Endpoint.{new_endpoint}
use Rattle.std.specs.List.{AllByRecursion}
use Rattle.h3_world.specs.Ends.{new_ends}
use Rattle.h3_world.specs.Sound.{IsSoundWorld}
use Rattle.h3_headline.specs.ControlLaws.{length_settings}
use Rattle.h3_headline.specs.PeerStreams.{settings_frame_of}
use Rattle.h3_headline.specs.Standing.{HasControl, IsReadable, Stands, StandsAt, are_settings_there, replies_unread}

and_false : (b : Bool) → (b && false) ≡ false
and_false true = refl
and_false false = refl

none_below : (n : ℕ) → nat_lt n 0 ≡ false
none_below n = grind (arith, common_steps)

-- no stream is open
none_at_client : (setup : Setup) (id : ℕ) → is_open (empty_world setup) Client id ≡ false
none_at_client setup id = ap (λ b. is_request_stream id && b) (none_below (index_of id)) ∙ and_false (is_request_stream id)

none_open : (setup : Setup) (side : Side) (id : ℕ) → is_open (empty_world setup) side id ≡ false
none_open setup Client id = none_at_client setup id
none_open setup Server id = ap (λ b. b && (exchange (empty_world setup) id).request.seen) (none_at_client setup id)

-- no settings are there before any byte
above_none : (n : ℕ) → nat_le (1 + n) 0 ≡ false
above_none n = grind (arith, common_steps)

no_settings : (setup : Setup) (side : Side) → are_settings_there setup side 0 ≡ false
no_settings setup side = ap (λ n. nat_le n 0) (length_settings (announced_at setup side)) ∙ above_none (length (settings_frame_of (announced_at setup side)))

control_at : (setup : Setup) (side : Side) → HasControl setup side 0 [] None None (none_read (most_updates (announced_at setup side)) (most_others (announced_at setup side)))
control_at setup side =
    let none = no_settings setup (other side) in
    record {
      stream_is = refl;
      is_on = refl;
      settings = rw none refl;
      goaways_are = refl;
      most_pushes = refl;
      updates = refl;
      others = rw none refl;
      unread = rw none refl;
    }

decoder_at : (setup : Setup) (side : Side) → [] ≡ replies_unread (are_settings_there setup (other side) 0) 0 []
decoder_at setup side = rw (no_settings setup (other side)) refl

-- One new endpoint.
pub begins_at : (setup : Setup) (side : Side) → TakesAnyLength (announced_at setup side) → (announced_at setup side).remembered ≡ None → StandsAt setup (empty_world setup) side (new_endpoint side (announced_at setup side))
begins_at setup Client any none =
    record {
      side_is = refl;
      announced = refl;
      any = any;
      remembered = none;
      no_fault = refl;
      nothing_kept = refl;
      own = refl;
      encoder = refl;
      control = control_at setup Client;
      encoder_stream = record { stream_is = refl; is_on = refl; decoder = refl; unread = refl };
      decoder_stream = record { stream_is = refl; is_on = refl; left = decoder_at setup Client };
      no_others = λ id other. refl;
      outgoing = λ id. rw (none_open setup Client id) refl;
      incoming = λ id. rw (none_open setup Client id) tt;
      distinct = tt;
    }
begins_at setup Server any none =
    record {
      side_is = refl;
      announced = refl;
      any = any;
      remembered = none;
      no_fault = refl;
      nothing_kept = refl;
      own = refl;
      encoder = refl;
      control = control_at setup Server;
      encoder_stream = record { stream_is = refl; is_on = refl; decoder = refl; unread = refl };
      decoder_stream = record { stream_is = refl; is_on = refl; left = decoder_at setup Server };
      no_others = λ id other. refl;
      outgoing = λ id. rw (none_open setup Server id) refl;
      incoming = λ id. rw (none_open setup Server id) tt;
      distinct = tt;
    }

-- nothing was sent on any stream
nothing_sent : (setup : Setup) (side : Side) (id : ℕ) → AllByRecursion (IsReadable setup (other side)) (flow (empty_world setup) side id).sent
nothing_sent setup Client id = by (is_request_stream id)
  where
    by : (request : Bool) → AllByRecursion (IsReadable setup Server) (if request then no_exchange else no_exchange).request.sent
    by true = tt
    by false = tt
nothing_sent setup Server id = by (is_request_stream id)
  where
    by : (request : Bool) → AllByRecursion (IsReadable setup Client) (if request then no_exchange else no_exchange).response.sent
    by true = tt
    by false = tt

-- Both of them.
pub begins : (setup : Setup) → IsMadeSetup setup → JudgesPlainly setup → IsSoundWorld setup (empty_world setup) → Stands setup (empty_world setup) (new_ends setup)
begins setup made plain sound =
    record {
      at_client = begins_at setup Client (plain Client).1 (made.sides Client).remembered;
      at_server = begins_at setup Server (plain Server).1 (made.sides Server).remembered;
      next_id = refl;
      few = omega arith;
      sound = sound;
      client_writes = record { goaways = tt; instructions = tt; replies = tt; updates = refl };
      server_writes = record { goaways = tt; instructions = tt; replies = tt; updates = refl };
      requests = λ id. nothing_sent setup Client id;
      responses = λ id. nothing_sent setup Server id;
    }
