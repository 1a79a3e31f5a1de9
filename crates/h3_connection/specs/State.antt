-- What an endpoint stores, and which histories that stands for.
use Rattle.std.specs.Prelude.{if◌then◌else◌, ◌≡◌, ℕ, Bool, List, [], length, Option, Some, None, option_map, ◌≤◌, flat_map, ◌++◌, true, false, unwrap_or, All, IsSome, IfSome}
use Rattle.h3_coding.specs.Encodings.{encoding}
use Rattle.h3_messages.specs.declared.content.Content.{Content}
use Rattle.h3_messages.specs.declared.content.Content.TheVariants.{Unsaid}
use Rattle.h3_field.specs.Instruction.{encoder_bytes, decoder_bytes}
use Rattle.std.specs.Map.{lookup}
use Rattle.std.specs.BTreeMap.{is_at}
use Rattle.std.specs.Ordering.{nat_cmp}
use Rattle.h3_proto.specs.declared.stream.Side.{Side}
use Rattle.h3_qpack.specs.EncoderState.{encoder_state}
use Rattle.h3_connection.specs.Incoming.{Incoming}
use Rattle.h3_connection.specs.KeptGoaways.{keeps_last, kept_peer}
use Rattle.h3_connection.specs.Lasts.{last_id}
use Rattle.h3_connection.specs.Listeners.{Decoding, Encoding}
use Rattle.h3_connection.specs.Unidirectional.{Unidirectional, untold, is_critical}
use Rattle.h3_connection.specs.Outgoing.{Outgoing, OwnPart, is_unsent, last_is_trailer, written_part}
use Rattle.h3_connection.specs.WaitingPieces.{pieces_waiting}
use Rattle.h3_frames.specs.Outgoing.{Outgoing as Piece}
use Rattle.h3_connection.specs.OwnIds.{control_id, encoder_id, decoder_id}
use Rattle.h3_connection.specs.PeerReading.{Peer}
use Rattle.h3_connection.specs.Arrivals.{Arrival, stream_of}
use Rattle.h3_connection.specs.StreamSets.{Streams, HaveDistinctIds, stream_at}
use Rattle.h3_connection.specs.Endpoint.{EndpointHistory, own_waiting, kind_of}
use Rattle.h3_connection.specs.OwnSettings.{control_start}
use Rattle.h3_connection.specs.OwnUpdates.{OwnUpdate, control_frames}
use Rattle.h3_connection.specs.Endpoint.Kind.{Request, PeerUnidirectional}
use Rattle.h3_connection.specs.declared.setup.Announced.{Announced}
use Rattle.h3_connection.specs.Order.{default_precedence}
use Rattle.h3_connection.specs.declared.order.Precedence.{Precedence}
use Rattle.h3_connection.specs.declared.order.SendOrder.{SendOrder}
use Rattle.h3_connection.specs.declared.place.SendPlace.{SendPlace}
use Rattle.h3_connection.specs.declared.place.SendPlace.TheVariants.{NothingSent, HeadSent, TrailerSent}

-- the waiting bytes of a request stream, and where its message is
pub record OutgoingState : Type 0 where
  pub pieces : List Piece
  pub place : SendPlace
  -- how much content is still to be sent
  pub content : Content
  pub is_finished : Bool
  pub is_reset : Bool
  pub end_taken : Bool
  pub precedence : Precedence

-- nothing was sent
abbrev pub nothing_waits : OutgoingState
nothing_waits = record { pieces = []; place = NothingSent; content = Unsaid; is_finished = false; is_reset = false; end_taken = false; precedence = default_precedence }

-- a request stream, both ways
pub record RequestState : Type 0 where
  pub incoming : Incoming
  pub outgoing : OutgoingState

-- the own unidirectional streams: what waits on each
pub record OwnState : Type 0 where
  pub control : List ℕ
  pub encoder : List ℕ
  pub decoder : List ℕ

-- what a contract sees of an `Endpoint`
pub record EndpointState : Type 0 where
  pub side : Side
  pub announced : Announced
  pub closed : Option ℕ
  pub next_id : ℕ
  pub requests : Streams RequestState
  pub unidirectional : Streams Unidirectional
  pub control_on : Option ℕ
  pub encoder_on : Option ℕ
  pub decoder_on : Option ℕ
  pub peer : Peer
  pub decoding : Decoding
  pub encoding : Encoding
  pub own : OwnState
  pub last_goaway : Option ℕ
  pub kept : List Arrival
  pub sent : ℕ
  pub order : SendOrder

abbrev pub place_of : List OwnPart → SendPlace
place_of parts = if is_unsent parts then NothingSent else (if last_is_trailer parts then TrailerSent else HeadSent)

pub record IsOfOutgoing (o : Outgoing) (w : OutgoingState) : Type 0 where
  pub pieces : w.pieces ≡ pieces_waiting o
  pub place : w.place ≡ place_of o.parts
  pub content : w.content ≡ o.content
  pub is_finished : w.is_finished ≡ o.is_finished
  pub is_reset : w.is_reset ≡ o.is_reset
  pub end_taken : w.end_taken ≡ o.end_taken
  pub precedence : w.precedence ≡ o.precedence
  pub taken : o.is_reset ≡ false → o.taken ≤ length (flat_map written_part o.parts)

-- a stream of a map, as `BTreeMap` finds it
abbrev pub kept_at : {X : Type 0} → Streams X → ℕ → Option X
kept_at streams id = lookup (is_at (nat_cmp id)) streams

abbrev pub SameAt : {X Y : Type 0} → (X → Y → Type 0) → Option X → Option Y → Type 0
SameAt same None None = Unit {0}
SameAt same (Some x) (Some y) = same x y
SameAt same None (Some y) = ⊥
SameAt same (Some x) None = ⊥

-- of each own text no more was taken than there is
pub record TakesWhatIsThere (e : EndpointHistory) : Type 0 where
  pub control : e.own.control_taken ≤ length (control_start e.announced.settings e.own.further ++ control_frames 0 e.own.goaways e.own.updates)
  pub encoder : e.own.encoder_taken ≤ length (encoding 2 ++ flat_map encoder_bytes e.own.instructions)
  pub decoder : e.own.decoder_taken ≤ length (encoding 3 ++ flat_map decoder_bytes e.own.replies)

-- what is kept of the own streams is what this history has not handed over
pub record OwnStands (own : OwnState) (e : EndpointHistory) : Type 0 where
  pub control : own.control ≡ own_waiting e (control_id e.side)
  pub encoder : own.encoder ≡ own_waiting e (encoder_id e.side)
  pub decoder : own.decoder ≡ own_waiting e (decoder_id e.side)
  pub taken : TakesWhatIsThere e

-- what comes on a request stream is kept only where that is open
abbrev pub KeepsOpen : Side → Streams Incoming → Arrival → Type 0
KeepsOpen side streams a = kind_of side (stream_of a) ≡ Request → IsSome (stream_at streams (stream_of a))

-- a stream of the peer that told to be its control, encoder or decoder stream
abbrev pub IsToldPeer : Side → Streams Unidirectional → ℕ → Type 0
IsToldPeer side streams id = (kind_of side id ≡ PeerUnidirectional) × (is_critical (unwrap_or (stream_at streams id) untold).role ≡ true)

-- an update that stands after no more than so many GOAWAY frames
abbrev pub IsBehind : ℕ → OwnUpdate → Type 0
IsBehind written u = u.behind ≤ written

-- What every history has in common that calls made: no other one is stood for.
pub record IsReached (e : EndpointHistory) : Type 0 where
  -- no table is used before the peer's settings came
  pub unlearned : e.peer.settings ≡ None → (e.encoder.capacity ≡ 0) × (e.encoder.inserted ≡ [])
  -- nothing is unread of a stream that did not come
  pub control : e.control_on ≡ None → e.peer.unread ≡ []
  pub encoder : e.encoder_on ≡ None → e.decoding.unread ≡ []
  pub decoder : e.decoder_on ≡ None → e.decoder_unread ≡ []
  -- what is read as one of the connection's streams told to be one
  pub told_control : IfSome e.control_on (IsToldPeer e.side e.unidirectional)
  pub told_encoder : IfSome e.encoder_on (IsToldPeer e.side e.unidirectional)
  pub told_decoder : IfSome e.decoder_on (IsToldPeer e.side e.unidirectional)
  -- a request stream of which something is kept is open
  pub kept : All (KeepsOpen e.side e.incoming) e.kept
  -- each update that was written stands after GOAWAY frames that were
  pub own_updates : All (IsBehind (length e.own.goaways)) e.own.updates

-- What is stored is what this history leaves.
pub record StandsFor (s : EndpointState) (e : EndpointHistory) : Type 0 where
  pub side : s.side ≡ e.side
  pub announced : s.announced ≡ e.announced
  pub closed : s.closed ≡ e.closed
  pub next_id : s.next_id ≡ e.next_id
  pub incoming : (id : ℕ) → option_map (λ r. r.incoming) (kept_at s.requests id) ≡ stream_at e.incoming id
  pub outgoing : (id : ℕ) → SameAt IsOfOutgoing (stream_at e.outgoing id) (option_map (λ r. r.outgoing) (kept_at s.requests id))
  pub unidirectional : (id : ℕ) → kept_at s.unidirectional id ≡ stream_at e.unidirectional id
  -- so that the streams that wait are counted alike
  pub distinct : HaveDistinctIds e.incoming
  pub control_on : s.control_on ≡ e.control_on
  pub encoder_on : s.encoder_on ≡ e.encoder_on
  pub decoder_on : s.decoder_on ≡ e.decoder_on
  -- of the ids of its GOAWAY frames the last one alone may be kept
  pub peer : s.peer ≡ kept_peer (keeps_last e.announced.choices) e.peer
  pub decoding : s.decoding ≡ e.decoding
  pub encoder : s.encoding.encoder ≡ encoder_state e.encoder
  pub decoder_unread : s.encoding.unread ≡ e.decoder_unread
  pub own : OwnStands s.own e
  pub last_goaway : s.last_goaway ≡ last_id e.own.goaways
  pub kept : s.kept ≡ e.kept
  pub sent : s.sent ≡ e.sent
  pub order : s.order ≡ e.order
  pub reached : IsReached e
