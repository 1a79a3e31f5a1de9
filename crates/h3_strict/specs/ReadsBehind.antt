-- An end in front of what it reads next, beside the one behind: what it holds of its peer's own streams and what comes follow what that one read.
use Rattle.std.specs.Prelude.{◌≡◌, ◌⊎◌, ℕ, true, false, List, [], ◌++◌, drop, take, None, if◌then◌else◌, ◌==◌}
use Rattle.h3_proto.specs.declared.stream.Side.{Side}
use Rattle.h3_connection.specs.declared.arrival.Arrival.{Arrival}
use Rattle.h3_connection.specs.declared.arrival.Arrival.TheVariants.{BytesCame, EndCame, ResetCame}
use Rattle.h3_connection.specs.Endpoint.{EndpointHistory, kind_of}
use Rattle.h3_connection.specs.Endpoint.Kind.{Request}
use Rattle.h3_connection.specs.OwnIds.{control_id, decoder_id, encoder_id, is_own, other}
use Rattle.h3_connection.specs.PeerReading.{with_unread}
use Rattle.h3_world.specs.Ends.{Ends, end_at}
use Rattle.h3_world.specs.OwnStreams.{control_stream, decoder_stream, encoder_stream}
use Rattle.h3_world.specs.Pulling.{own_delivered}
use Rattle.h3_world.specs.Setup.{Setup, announced_at}
use Rattle.h3_world.specs.World.{World, party}
use Rattle.h3_headline.specs.Standing.{Stands}
use Rattle.h3_strict.specs.PlainEnds.{plain_setup}

-- what is held of the peer's control, encoder and decoder streams, and was not read
pub record Held : Type 0 where
  pub control : List ℕ
  pub encoder : List ℕ
  pub decoder : List ℕ

abbrev pub held_of : Side → Held → ℕ → List ℕ
held_of writer held id =
    if id == control_id writer then held.control else (
    if id == encoder_id writer then held.encoder else (
    if id == decoder_id writer then held.decoder else []))

-- all bytes of an own stream of the writer
abbrev pub own_text : Setup → World → Side → ℕ → List ℕ
own_text setup w writer id =
    if id == control_id writer then control_stream (announced_at (plain_setup setup) writer) (party w writer) else (
    if id == encoder_id writer then encoder_stream (party w writer) else (
    if id == decoder_id writer then decoder_stream (party w writer) else []))

-- What comes is what its writer sent, behind what is held: so many bytes of its own stream behind those that came, or bytes of a request.
abbrev pub Follows : Setup → World → Side → EndpointHistory → Held → Arrival → Type 0
Follows setup w writer reader held (BytesCame id bytes) =
    (is_own writer id ≡ true → (count : ℕ) × (held_of writer held id ++ bytes ≡ take count (drop (own_delivered w writer id) (own_text setup w writer id)))) × (is_own writer id ≡ false → kind_of reader.side id ≡ Request)
Follows setup w writer reader held (EndCame id) = Unit {0}
Follows setup w writer reader held (ResetCame id code) = Unit {0}

-- the decoder stream is what comes
abbrev pub IsOfDecoder : Side → Arrival → Type 0
IsOfDecoder writer (BytesCame id bytes) = id ≡ decoder_id writer
IsOfDecoder writer (EndCame id) = Unit {0}
IsOfDecoder writer (ResetCame id code) = Unit {0}

pub record ReadsBehind (setup : Setup) (w : World) (side : Side) (e : EndpointHistory) (a : Arrival) : Type 0 where
  pub behind : Ends
  pub stands : Stands (plain_setup setup) w behind
  pub held : Held
  pub side_is : e.side ≡ side
  pub announced : e.announced ≡ announced_at setup side
  pub unidirectional : e.unidirectional ≡ (end_at behind side).unidirectional
  pub peer : e.peer ≡ with_unread (end_at behind side).peer ((end_at behind side).peer.unread ++ held.control)
  pub encoder_unread : e.decoding.unread ≡ (end_at behind side).decoding.unread ++ held.encoder
  pub decoder_unread : e.decoder_unread ≡ (end_at behind side).decoder_unread ++ held.decoder
  pub follows : Follows setup w (other side) e held a
  -- nothing is held of a stream that has not told its type
  pub control_untold : (party w (other side)).own.control_taken ≡ 0 → held.control ≡ []
  pub encoder_untold : (party w (other side)).own.encoder_taken ≡ 0 → held.encoder ≡ []
  pub decoder_untold : (party w (other side)).own.decoder_taken ≡ 0 → held.decoder ≡ []
  -- before the settings came, bytes of the decoder stream are held for what comes next of it alone
  pub early : (end_at behind side).peer.settings ≡ None → (held.decoder ≡ []) ⊎ IsOfDecoder (other side) a
