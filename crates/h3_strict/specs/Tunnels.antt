-- What stands of tunnels (RFC 9110, section 9.3.6; RFC 9114, section 4.4) between two ends that judge alike, whatever the server knows: behind what may begin
-- one a strict end sends no trailer, and no receiver counts a tunnel where none may have begun.
use Rattle.std.specs.Prelude.{◌≡◌, ◌⊎◌, ℕ, Bool, true, false, List, [], take, ◌||◌, ◌==◌, Some, None, codes, slice_index, unwrap_or}
use Rattle.std.specs.List.{list_any}
use Rattle.h3_messages.specs.Content.{is_interim_status}
use Rattle.h3_messages.specs.Messages.{is_connect, value_of}
use Rattle.h3_messages.specs.declared.content.Content.{Content}
use Rattle.h3_messages.specs.declared.content.Content.TheVariants.{Tunnel, Unanswered}
use Rattle.h3_proto.specs.declared.stream.Side.{Side}
use Rattle.h3_proto.specs.declared.stream.Side.TheVariants.{Client, Server}
use Rattle.h3_qpack.specs.Sizes.{last_value}
use Rattle.h3_connection.specs.Delivering.{incoming_at}
use Rattle.h3_connection.specs.Incoming.{Incoming}
use Rattle.h3_connection.specs.Outgoing.{Outgoing, takes_end}
use Rattle.h3_connection.specs.Sending.{outgoing_at}
use Rattle.h3_connection.specs.declared.place.Place.TheVariants.{BeforeHead}
use Rattle.h3_world.specs.Ends.{Ends, end_at}
use Rattle.h3_world.specs.Flow.{Flow, Part, Section}
use Rattle.h3_world.specs.Flow.Part.{Head as HeadPart, Trailer}
use Rattle.h3_world.specs.Setup.{Setup, announced_at}
use Rattle.h3_world.specs.Streams.{flow}
use Rattle.h3_world.specs.World.{World}
use Rattle.h3_headline.specs.Standing.{place_after}
use Rattle.h3_strict.specs.Tallies.{asked_in, has_head}

-- A response with such a status may begin a tunnel, or is an interim one.
abbrev pub tunnels : List ℕ → Bool
tunnels status = is_interim_status status || (slice_index status 0 == 50)

abbrev pub may_begin : Section → Bool
may_begin s = tunnels (value_of (codes ":status") s.fields) || tunnels (unwrap_or (last_value (codes ":status") s.fields) [])

abbrev pub opens_tunnel : Part → Bool
opens_tunnel (HeadPart s) = may_begin s
opens_tunnel _ = false

-- a request that asks for one
abbrev pub asks_tunnel : Part → Bool
asks_tunnel (HeadPart s) = is_connect s.fields
asks_tunnel _ = false

abbrev pub trails : Part → Bool
trails (Trailer s) = true
trails _ = false

abbrev pub is_tunnel : Content → Bool
is_tunnel Tunnel = true
is_tunnel _ = false

-- a tunnel, or what becomes one once it is answered
abbrev pub may_be_tunnel : Content → Bool
may_be_tunnel Tunnel = true
may_be_tunnel Unanswered = true
may_be_tunnel _ = false

abbrev pub marked : Side → Content → Bool
marked Client content = is_tunnel content
marked Server content = may_be_tunnel content

-- no trailer was sent, and none will be
pub record NoTrailer (parts : List Part) (o : Outgoing) : Type 0 where
  pub content : takes_end o ≡ true → o.content ≡ Tunnel
  pub none : list_any trails parts ≡ false

-- the request asks for something else
pub record AsksOther (request : List Part) : Type 0 where
  pub has : has_head request ≡ true
  pub apart : asked_in request ≡ Tunnel → ⊥

-- its client awaits a tunnel, which may have begun if its head was read
pub record AwaitsTunnel (request : List Part) (f : Flow) : Type 0 where
  pub has : has_head request ≡ true
  pub asked : asked_in request ≡ Tunnel
  pub stands : (place_after (take f.parts_out f.sent) ≡ BeforeHead) ⊎ (list_any opens_tunnel f.sent ≡ true)

-- One exchange: what was sent of the request, the flow of its response, what both senders count, and both receivers.
pub record TunnelAt (q : List Part) (f : Flow) (oc os : Outgoing) (is ic : Incoming) : Type 0 where
  pub request : list_any asks_tunnel q ≡ true → NoTrailer q oc
  pub response : list_any opens_tunnel f.sent ≡ true → AsksOther q ⊎ NoTrailer f.sent os
  pub knows : (c : Content) → is.response ≡ Some c → (has_head q ≡ true) × (c ≡ asked_in q)
  pub server : is.fault ≡ None → marked Server is.content ≡ true → list_any asks_tunnel q ≡ true
  pub client : ic.fault ≡ None → marked Client ic.content ≡ true → AwaitsTunnel q f

-- All exchanges of both ends.
abbrev pub Tunnels : World → Ends → Type 0
Tunnels w ends = (id : ℕ) → TunnelAt (flow w Client id).sent (flow w Server id) (outgoing_at ends.client id) (outgoing_at ends.server id) (incoming_at ends.server id) (incoming_at ends.client id)

pub record TunnelsStand (setup : Setup) (w : World) (ends : Ends) : Type 0 where
  pub tunnels : Tunnels w ends
  pub announced : (side : Side) → (end_at ends side).announced ≡ announced_at setup side

-- No receiver counts a tunnel, unless it was given up: so it is where neither end asks for strict messages.
pub record AreBare (setup : Setup) (ends : Ends) : Type 0 where
  pub bare : (side : Side) (id : ℕ) → (incoming_at (end_at ends side) id).fault ≡ None → marked side (incoming_at (end_at ends side) id).content ≡ true → ⊥
  pub announced : (side : Side) → (end_at ends side).announced ≡ announced_at setup side

-- the one or the other
abbrev pub StandsSo : Bool → Setup → World → Ends → Type 0
StandsSo true setup w ends = TunnelsStand setup w ends
StandsSo false setup w ends = AreBare setup ends
