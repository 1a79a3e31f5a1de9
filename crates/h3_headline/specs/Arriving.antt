-- What comes of a request stream, and what its receiver is after it.
use Rattle.std.proofs.Common.{ℕ, ◌+◌, true, if◌then◌else◌, Some, ◌≡◌, None, List, ◌++◌, false, Bool, [], drop, length, Option}
use Rattle.h3_world.specs.Flow.{Flow, flow_bytes}
use Rattle.std.specs.Prelude.{is_some, ◌==◌}
use Rattle.h3_connection.specs.declared.event.StreamFault.{StreamFault}
use Rattle.h3_proto.specs.declared.stream.Side.{Side}
use Rattle.h3_connection.specs.Endpoint.{EndpointHistory, Own, bytes_waiting}
use Rattle.h3_connection.specs.OwnIds.{other}
use Rattle.h3_connection.specs.Order.{default_precedence}
use Rattle.h3_connection.specs.StreamSets.{HaveDistinctIds, stream_at}
use Rattle.h3_world.specs.Setup.{Setup}
use Rattle.h3_world.specs.World.{World, party, Party}
use Rattle.h3_world.specs.Streams.{flow, is_open}
use Rattle.h3_world.specs.Order.{outgoing_of}
use Rattle.h3_field.specs.Instruction.{DecoderInstruction}
use Rattle.h3_proto.specs.declared.stream.Side.TheVariants.{Server}
use Rattle.h3_messages.specs.declared.content.Content.TheVariants.{Unsaid}
use Rattle.h3_connection.specs.Incoming.{nothing_came}
use Rattle.h3_connection.specs.Outgoing.{nothing_sent, OwnPart, Outgoing}
use Rattle.h3_connection.specs.Shown as shown
use Rattle.h3_world.specs.Flow as flows
use Rattle.h3_connection.specs.declared.arrival.Arrival.TheVariants.{EndCame}
use Rattle.h3_connection.specs.Keeping.{arrives}
use Rattle.h3_connection.specs.declared.arrival.Arrival.{Arrival}
use Rattle.h3_connection.specs.Delivering.{taken}
use Rattle.h3_connection.specs.declared.event.Refusal.{Refusal}
use Rattle.h3_headline.specs.Calls.{Both}
use Rattle.h3_headline.specs.Standing.{HasControlOf, HasDecoderStreamOf, HasEncoderStreamOf, ReceivesAt, ReceivesFlow, StandsAt}

-- the flow after so many bytes of it came
abbrev pub come : Flow → ℕ → Flow
come f count = record f { delivered = f.delivered + count; seen = true }

-- The end comes.
abbrev pub ended_flow : Flow → Flow
ended_flow f = record f { seen = true; ended = true }

-- Its reset comes: the stream is given up, unless it was before.
abbrev pub reset_flow : Flow → Flow
reset_flow f = record f { seen = true; reset_came = true }

abbrev pub flow_given_up : Flow → StreamFault → Flow
flow_given_up f fault = if is_some f.fault then reset_flow f else record (reset_flow f) { fault = Some fault; waits_for = 0 }

-- An endpoint that differs in its request streams, its encoder and what it wrote stands where what it has of the other side's own
-- streams is as before.
pub record Moves (setup : Setup) (v : World) (side : Side) (e f : EndpointHistory) : Type 0 where
  pub same : f ≡ record e { incoming = f.incoming; outgoing = f.outgoing; own = f.own; encoder = f.encoder; sent = f.sent; next_id = f.next_id }
  pub own : f.own ≡ (party v side).own
  pub encoder : f.encoder ≡ (party v side).encoder
  pub control : HasControlOf setup side (party v (other side)).own e
  pub encoder_stream : HasEncoderStreamOf setup side (party v (other side)).own e
  pub decoder_stream : HasDecoderStreamOf setup side (party v (other side)).own e
  pub outgoing : (id : ℕ) → stream_at f.outgoing id ≡ (if is_open v side id then Some (outgoing_of (flow v side id)) else None)
  pub incoming : (id : ℕ) → ReceivesAt (is_open v side id) (flow v (other side) id) (stream_at f.incoming id)
  pub distinct : HaveDistinctIds f.incoming

-- what a side wrote, where its decoder writes more
abbrev pub saying : Own → List DecoderInstruction → Own
saying own more = record own { replies = own.replies ++ more }

-- The worlds differ in what the side receives on one stream, which is open to it then, and in what its decoder wrote.
pub record Receives (w v : World) (side : Side) (id : ℕ) (more : List DecoderInstruction) (g : Flow) : Type 0 where
  pub here : party v side ≡ record (party w side) { own = saying (party w side).own more }
  pub there : party v (other side) ≡ party w (other side)
  pub to_it : (i : ℕ) → flow v (other side) i ≡ (if id == i then g else flow w (other side) i)
  pub from_it : (i : ℕ) → flow v side i ≡ flow w side i
  pub open_here : (i : ℕ) → is_open v side i ≡ (if id == i then true else is_open w side i)
  pub open_there : (i : ℕ) → is_open v (other side) i ≡ is_open w (other side) i

-- A stream that is not open at a side and that the other side has: the server's, of whose request it has seen nothing.
pub record IsUnseen (w : World) (side : Side) (id : ℕ) : Type 0 where
  pub server : side ≡ Server
  pub unsent : outgoing_of (flow w side id) ≡ nothing_sent
  pub unseen : (flow w (other side) id).seen ≡ false
  pub kept : ReceivesFlow (flow w (other side) id) nothing_came

abbrev pub made : List OwnPart → ℕ → Bool → Bool → Outgoing
made parts taken finished reset = record { parts = parts; taken = taken; content = Unsaid; is_finished = finished; is_reset = reset; end_taken = false; precedence = default_precedence }

abbrev pub with_replies : Own → List DecoderInstruction → Own
with_replies o replies = record o { replies = replies }

-- It is cut off.
abbrev pub cut : Flow → Flow
cut f = record f { is_reset = true }

abbrev pub left_to_send : Flow → List ℕ
left_to_send f = if f.is_reset then [] else drop f.delivered (flow_bytes f)

-- What the sender of an open stream has of it.
pub record Sends (setup : Setup) (w : World) (side : Side) (id : ℕ) (e : EndpointHistory) : Type 0 where
  pub stream : stream_at e.outgoing id ≡ Some (outgoing_of (flow w side id))
  pub left : bytes_waiting e id ≡ left_to_send (flow w side id)
  pub waits : shown.waiting e id ≡ flows.bytes_waiting (flow w side id)

abbrev pub owning : Party → Own → Party
owning p own = record p { own = own }

abbrev pub with_own : EndpointHistory → Own → EndpointHistory
with_own e own = record e { own = own }

-- The end came.
pub record EndComes (setup : Setup) (v : World) (side : Side) (id : ℕ) (er ew : EndpointHistory) : Type 0 where
  pub after : EndpointHistory
  pub arrived : arrives er (EndCame id) ≡ (None, after)
  pub reader : StandsAt setup v side after
  pub writer : StandsAt setup v (other side) ew

-- What comes is taken by the reader, behind which the writer stands as given.
pub record Comes (setup : Setup) (w v : World) (side : Side) (er ew : EndpointHistory) (a : Arrival) : Type 0 where
  pub after : EndpointHistory
  pub arrived : arrives er a ≡ (None, after)
  pub both : Both setup v side after ew
  pub count : length v.exchanges ≡ length w.exchanges

abbrev pub losing : Flow → StreamFault → Flow
losing f fault = record f { fault = Some fault; waits_for = 0 }

abbrev pub found_none : EndpointHistory → Option Refusal × EndpointHistory
found_none e = (None, e)
