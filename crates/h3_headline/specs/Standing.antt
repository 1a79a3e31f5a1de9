-- An endpoint stands in a world: what it keeps is what was sent, delivered and handed out there.
use Rattle.std.specs.Prelude.{◌-◌, List, fold, ℕ, [], Option, Some, None, ◌≡◌, zero, suc, ◌+◌, ◌++◌, length, drop, flat_map, ◌<◌, take, true, is_some, Bool, false, ◌==◌, if◌then◌else◌, nat_le, filter, ◌^◌, ◌∷◌, ◌&&◌, ◌*◌, ◌≤◌}
use Rattle.h3_connection.specs.declared.place.Place.{Place}
use Rattle.h3_connection.specs.declared.place.Place.TheVariants.{InBody, AfterTrailer, BeforeHead}
use Rattle.h3_world.specs.Flow.{Part, Flow, part_bytes, Section, flow_bytes}
use Rattle.h3_world.specs.Flow.Part.{Interim, Head, Body, Trailer, End}
use Rattle.h3_frames.specs.Encoded.{frame_encoding}
use Rattle.h3_connection.specs.Incoming.{Incoming}
use Rattle.std.specs.List.{AllByRecursion, concat}
use Rattle.h3_messages.specs.declared.content.Content.TheVariants.{Unsaid}
use Rattle.h3_world.specs.Order.{next_part, is_over, outgoing_of, section_of_part}
use Rattle.h3_world.specs.Streams.{flow, is_open}
use Rattle.h3_connection.specs.OwnIds.{other, control_id, encoder_id, decoder_id, is_own}
use Rattle.h3_connection.specs.Unidirectional.{Unidirectional, Role, untold}
use Rattle.h3_connection.specs.Unidirectional.Role.{Untold, Control, Encoder, Decoder}
use Rattle.h3_proto.specs.declared.stream.Side.{Side}
use Rattle.h3_world.specs.Setup.{Setup, TakesAnyLength, announced_at, takes_any}
use Rattle.h3_world.specs.OwnStreams.{settings_bytes}
use Rattle.h3_qpack.specs.WholeInstructions.{rest_in, whole_in}
use Rattle.h3_connection.specs.Endpoint.{goaway_encoding, EndpointHistory, Own, first_decoder}
use Rattle.h3_field.specs.Instruction.{DecoderInstruction, decoder_bytes, EncoderInstruction, encoder_bytes}
use Rattle.h3_proto.specs.Pairs.{payload_of}
use Rattle.h3_proto.specs.Settings.{is_known}
use Rattle.h3_connection.specs.PeerReading.{Peer, is_above, is_no_goaway}
use Rattle.h3_qpack.specs.DecoderState.{decoder_after_all}
use Rattle.h3_connection.specs.declared.setup.Announced.{Announced}
use Rattle.h3_connection.specs.OtherSettings.{OtherSettings, most_others, no_others, with_told}
use Rattle.h3_connection.specs.OwnUpdates.{OwnUpdate}
use Rattle.h3_connection.specs.Updates.{most_updates, no_updates}
use Rattle.h3_connection.specs.Listeners.{Decoding}
use Rattle.h3_connection.specs.StreamSets.{stream_at, HaveDistinctIds}
use Rattle.h3_world.specs.World.{World, party}
use Rattle.h3_field.specs.InstructionAnswer.{IsReply}
use Rattle.h3_qpack.specs.Encodings.{IsWrittenInstruction}
use Rattle.h3_header.specs.Head.{has_pseudo, trailer_head}
use Rattle.h3_header.specs.Reads.{AcceptsAll, head_of_fields}
use Rattle.h3_connection.specs.Pulling.{is_client, is_for, is_interim}
use Rattle.h3_proto.specs.declared.stream.Side.TheVariants.{Client, Server}
use Rattle.h3_world.specs.Ends.{Ends}
use Rattle.h3_world.specs.Sound.{IsSoundWorld}

-- where a message is behind a part (RFC 9114, section 4.1)
abbrev pub place_behind : Place → Part → Place
place_behind place (Interim s) = place
place_behind place (Head s) = InBody
place_behind place (Body bytes own) = place
place_behind place (Trailer s) = AfterTrailer
place_behind place End = place

abbrev pub place_after : List Part → Place
place_after parts = fold place_behind BeforeHead parts

-- a section that was read out of its frame
abbrev pub section_frame : Option (List ℕ) → List ℕ
section_frame None = []
section_frame (Some bytes) = frame_encoding 1 bytes

-- The reader is in front of the next part, or so many bytes before the end of a piece of the body whose type and length it has read.
abbrev pub StandsBefore : Flow → ℕ → Option Part → List ℕ → Type 0
StandsBefore f zero part left = (f.body_out ≡ 0) × (left ≡ flat_map part_bytes (drop f.parts_out f.sent))
StandsBefore f (suc n) (Some (Body bytes own)) left =
    (suc n ≡ length (drop f.body_out bytes)) × (left ≡ drop f.body_out bytes ++ flat_map part_bytes (drop (f.parts_out + 1) f.sent))
StandsBefore f (suc n) _ left = ⊥

-- A section that was read and not decoded is the next part's, for whose insertions the last pull waited. It was tried once.
abbrev pub WaitsIn : Flow → Incoming → Option (List ℕ) → Option Section → Type 0
WaitsIn f i None part = f.waits_for ≡ 0
WaitsIn f i (Some bytes) None = ⊥
WaitsIn f i (Some bytes) (Some s) = (f.waits_for ≡ s.count) × (0 < s.count) × (bytes ≡ s.encoded) × (i.tries ≡ 1)

abbrev pub HasBytes : List ℕ → Type 0
HasBytes piece = 0 < length piece

-- What is kept of a flow that was not given up: what is unread here and undelivered there are the bytes of the parts that are not
-- handed out.
pub record ReadsFlow (f : Flow) (i : Incoming) : Type 0 where
  pub unread : StandsBefore f i.body_left (next_part f) (section_frame i.section ++ concat i.unread ++ drop f.delivered (flow_bytes f))
  pub waits : WaitsIn f i i.section (section_of_part (next_part f))
  -- no piece is empty
  pub pieces : AllByRecursion HasBytes i.unread
  pub place : i.place ≡ place_after (take f.parts_out f.sent)
  -- any content may come, as it does where messages are judged plainly
  pub content : i.content ≡ Unsaid

-- Nothing is kept of one that was given up.
pub record KeepsNothing (i : Incoming) : Type 0 where
  pub unread : i.unread ≡ []
  pub section : i.section ≡ None
  pub waits : i.waits_for ≡ 0

-- What an endpoint keeps of a flow that it receives.
pub record ReceivesFlow (f : Flow) (i : Incoming) : Type 0 where
  pub fault : i.fault ≡ f.fault
  pub ended : i.ended ≡ f.ended
  pub was_reset : i.was_reset ≡ f.reset_came
  pub is_over : i.is_over ≡ is_over f
  pub waits_for : i.waits_for ≡ f.waits_for
  pub reads : f.fault ≡ None → ReadsFlow f i
  pub given_up : is_some f.fault ≡ true → KeepsNothing i

-- a receiver for each stream that is open at the side, and for no other
abbrev pub ReceivesAt : Bool → Flow → Option Incoming → Type 0
ReceivesAt true f (Some i) = ReceivesFlow f i
ReceivesAt true f None = ⊥
ReceivesAt false f (Some i) = ⊥
ReceivesAt false f None = Unit {0}

-- An own stream of the other side, of which so many bytes came: its role is told by the first.
abbrev pub IsPeerStream : ℕ → Role → Option Unidirectional → Type 0
IsPeerStream came role None = came ≡ 0
IsPeerStream came role (Some o) = o ≡ record untold { role = if came == 0 then Untold [] else role }

abbrev pub came_on : ℕ → ℕ → Option ℕ
came_on came id = if came == 0 then None else Some id

-- whether so much came of the writer's control stream that its settings are known
abbrev pub are_settings_there : Setup → Side → ℕ → Bool
are_settings_there setup writer came = nat_le (length (settings_bytes (announced_at setup writer))) came

-- what came of the first GOAWAY frame that is not whole, or of the settings before they came
abbrev pub control_left : Setup → Side → ℕ → List ℕ → List ℕ
control_left setup writer came goaways =
    if are_settings_there setup writer came then rest_in goaway_encoding (came - length (settings_bytes (announced_at setup writer))) goaways
    else drop 1 (take came (settings_bytes (announced_at setup writer)))

-- of the first decoder instruction that is not whole, or all that came of them before the settings
abbrev pub replies_unread : Bool → ℕ → List DecoderInstruction → List ℕ
replies_unread knows came replies = if knows then rest_in decoder_bytes (came - 1) replies else take (came - 1) (flat_map decoder_bytes replies)

-- the settings that have a meaning, which alone are kept
abbrev pub with_meaning : List (ℕ × ℕ) → List (ℕ × ℕ)
with_meaning pairs = filter (λ p. is_known p.0) pairs

-- of how much of what the other side says an endpoint keeps: of updates, and of settings of no meaning
abbrev pub most_kept : Announced → ℕ × ℕ
most_kept a = (most_updates a, most_others a)

-- what is kept of the settings of no meaning, of so many at most, once the settings of this side came
abbrev pub others_once : Bool → ℕ → Announced → OtherSettings
others_once there most a = if there then with_told (no_others most) (frame_encoding 4 (payload_of a.settings)) else no_others most

-- What the endpoint of a side has of the control stream of the other side, of which so many bytes came and on which these GOAWAY
-- frames were written: the stream, whether it is read, and what it said.
pub record HasControl (setup : Setup) (side : Side) (came : ℕ) (goaways : List ℕ) (stream : Option Unidirectional) (on : Option ℕ) (peer : Peer) : Type 0 where
  pub stream_is : IsPeerStream came Control stream
  pub is_on : on ≡ came_on came (control_id (other side))
  pub settings : peer.settings ≡ (if are_settings_there setup (other side) came then Some (with_meaning (announced_at setup (other side)).settings) else None)
  pub goaways_are : peer.goaways ≡ take (whole_in goaway_encoding (came - length (settings_bytes (announced_at setup (other side)))) goaways) goaways
  pub most_pushes : peer.most_pushes ≡ None
  -- no side writes PRIORITY_UPDATE
  pub updates : peer.updates ≡ no_updates (most_updates (announced_at setup side))
  pub others : peer.others ≡ others_once (are_settings_there setup (other side) came) (most_others (announced_at setup side)) (announced_at setup (other side))
  pub unread : peer.unread ≡ control_left setup (other side) came goaways

-- of its encoder stream, on which these instructions were written
pub record HasEncoderStream (setup : Setup) (side : Side) (came : ℕ) (instructions : List EncoderInstruction) (stream : Option Unidirectional) (on : Option ℕ) (decoding : Decoding) : Type 0 where
  pub stream_is : IsPeerStream came Encoder stream
  pub is_on : on ≡ came_on came (encoder_id (other side))
  pub decoder : decoder_after_all (Some (first_decoder (announced_at setup side))) (take (whole_in encoder_bytes (came - 1) instructions) instructions) ≡ Some decoding.decoder
  pub unread : decoding.unread ≡ rest_in encoder_bytes (came - 1) instructions

-- of its decoder stream, on which these were written. It is read once the settings are known.
pub record HasDecoderStream (side : Side) (knows : Bool) (came : ℕ) (replies : List DecoderInstruction) (stream : Option Unidirectional) (on : Option ℕ) (unread : List ℕ) : Type 0 where
  pub stream_is : IsPeerStream came Decoder stream
  pub is_on : on ≡ came_on came (decoder_id (other side))
  pub left : unread ≡ replies_unread knows came replies

-- the same of all that the other side wrote
abbrev pub HasControlOf : Setup → Side → Own → EndpointHistory → Type 0
HasControlOf setup side own e = HasControl setup side own.control_taken own.goaways (stream_at e.unidirectional (control_id (other side))) e.control_on e.peer

abbrev pub HasEncoderStreamOf : Setup → Side → Own → EndpointHistory → Type 0
HasEncoderStreamOf setup side own e = HasEncoderStream setup side own.encoder_taken own.instructions (stream_at e.unidirectional (encoder_id (other side))) e.encoder_on e.decoding

abbrev pub HasDecoderStreamOf : Setup → Side → Own → EndpointHistory → Type 0
HasDecoderStreamOf setup side own e =
    HasDecoderStream side (are_settings_there setup (other side) own.control_taken) own.decoder_taken own.replies (stream_at e.unidirectional (decoder_id (other side))) e.decoder_on e.decoder_unread

-- The endpoint of a side stands in the world.
pub record StandsAt (setup : Setup) (w : World) (side : Side) (e : EndpointHistory) : Type 0 where
  pub side_is : e.side ≡ side
  pub announced : e.announced ≡ announced_at setup side
  -- it takes what is sent, however long
  pub any : TakesAnyLength (announced_at setup side)
  -- it remembers no settings of an earlier connection
  pub remembered : (announced_at setup side).remembered ≡ None
  pub no_fault : e.closed ≡ None
  pub nothing_kept : e.kept ≡ []
  pub own : e.own ≡ (party w side).own
  pub encoder : e.encoder ≡ (party w side).encoder
  pub control : HasControlOf setup side (party w (other side)).own e
  pub encoder_stream : HasEncoderStreamOf setup side (party w (other side)).own e
  pub decoder_stream : HasDecoderStreamOf setup side (party w (other side)).own e
  -- nothing came of other unidirectional streams
  pub no_others : (id : ℕ) → is_own (other side) id ≡ false → stream_at e.unidirectional id ≡ None
  pub outgoing : (id : ℕ) → stream_at e.outgoing id ≡ (if is_open w side id then Some (outgoing_of (flow w side id)) else None)
  pub incoming : (id : ℕ) → ReceivesAt (is_open w side id) (flow w (other side) id) (stream_at e.incoming id)
  pub distinct : HaveDistinctIds e.incoming

-- what stands on a control stream beside its settings and GOAWAY frames
abbrev pub more_of : Own → List OwnUpdate × List (ℕ × ℕ)
more_of own = (own.updates, own.further)

-- GOAWAY frames as a side may write them behind an earlier one: a server names request streams, and none is above the one before it.
abbrev pub AreGoaways : Side → Option ℕ → List ℕ → Type 0
AreGoaways side before [] = Unit {0}
AreGoaways side before (id ∷ ids) =
    (id < 2 ^ 62) × (is_no_goaway (other side) id ≡ false) × (is_above id before ≡ false) × AreGoaways side (Some id) ids

-- It writes no update of a priority, and announces no further settings.
abbrev pub WritesNoMore : Own → Type 0
WritesNoMore own = more_of own ≡ ([], [])

-- What a side wrote on its own streams is what writers take.
pub record IsWritable (side : Side) (own : Own) : Type 0 where
  pub goaways : AreGoaways side None own.goaways
  pub instructions : AllByRecursion IsWrittenInstruction own.instructions
  pub replies : AllByRecursion IsReply own.replies
  pub updates : WritesNoMore own

-- A section is read as the kind of part that it was sent as (RFC 9114, sections 4.1 and 4.3), by who takes any protocol or the two names
-- alone: a head is for that side, and an interim one has such a status, and no other; a trailer has no pseudo-header fields; and each reads as
-- a header.
abbrev pub IsReadableBy : Bool → Side → Part → Type 0
IsReadableBy any reader (Interim s) =
    (is_client reader ≡ true) × (is_for reader (head_of_fields s.fields) ≡ true) × (is_interim (head_of_fields s.fields).status ≡ true) × AcceptsAll any (trailer_head []) s.fields
IsReadableBy any reader (Head s) =
    (is_for reader (head_of_fields s.fields) ≡ true) × ((is_client reader && is_interim (head_of_fields s.fields).status) ≡ false) × AcceptsAll any (trailer_head []) s.fields
IsReadableBy any reader (Trailer s) = (has_pseudo (head_of_fields s.fields) ≡ false) × AcceptsAll any (trailer_head []) s.fields
IsReadableBy any reader (Body bytes own) = Unit {0}
IsReadableBy any reader End = Unit {0}

-- the same by what the side announced
abbrev pub IsReadable : Setup → Side → Part → Type 0
IsReadable setup reader = IsReadableBy (takes_any (announced_at setup reader)) reader

-- what the side sends is so to the other side
abbrev pub AreReadable : Setup → World → Side → Type 0
AreReadable setup w side = (id : ℕ) → AllByRecursion (IsReadable setup (other side)) (flow w side id).sent

-- Both do, the client's next request is the world's, the ids of request streams are below 2^62 (RFC 9000, section 2.1), and the
-- world is sound.
pub record Stands (setup : Setup) (w : World) (ends : Ends) : Type 0 where
  pub at_client : StandsAt setup w Client ends.client
  pub at_server : StandsAt setup w Server ends.server
  pub next_id : ends.client.next_id ≡ 4 * length w.exchanges
  pub few : 4 * length w.exchanges ≤ 2 ^ 62
  pub sound : IsSoundWorld setup w
  pub client_writes : IsWritable Client w.client.own
  pub server_writes : IsWritable Server w.server.own
  pub requests : AreReadable setup w Client
  pub responses : AreReadable setup w Server
