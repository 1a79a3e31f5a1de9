-- What an endpoint sends of content behind a head that says how long that is (RFC 9114, section 4.1.2).
use Rattle.std.specs.Prelude.{◌≡◌, ℕ, ◌+◌, ◌≤◌, true, List, length, Some, None}
use Rattle.h3_field.specs.Field.{Field}
use Rattle.h3_header.specs.Head.{Head, head_fields}
use Rattle.h3_messages.specs.OwnMessages.{IsSentOf}
use Rattle.h3_messages.specs.declared.content.Content.{Content}
use Rattle.h3_messages.specs.declared.content.Content.TheVariants.{Exactly}
use Rattle.h3_proto.specs.declared.stream.Side.{Side}
use Rattle.h3_connection.specs.Endpoint.{EndpointHistory}
use Rattle.h3_connection.specs.OwnIds.{other}
use Rattle.h3_connection.specs.Sending.{content_of_own, finish, known_of, outgoing_at, send_body, send_head, send_trailer}
use Rattle.h3_connection.specs.StreamSets.{stream_at}
use Rattle.h3_connection.specs.StrictMessages.{content_of_head}

-- how much content is still to be sent on a stream
abbrev pub left_to_send : EndpointHistory → ℕ → Content
left_to_send e id = (outgoing_at e id).content

-- So many bytes were sent behind a head that says so many: by bodies that were accepted, and between them whatever leaves what is still to be
-- sent.
pub data SendsContent (id all : ℕ) : ℕ → EndpointHistory → Type 0 where
  Begins : {e : EndpointHistory} → left_to_send e id ≡ Exactly all → SendsContent id all 0 e
  Stays : {n : ℕ} {e f : EndpointHistory} → SendsContent id all n e → left_to_send f id ≡ left_to_send e id → SendsContent id all n f
  Sends : {n : ℕ} {e : EndpointHistory} (bytes : List ℕ) → SendsContent id all n e → (send_body e id bytes).0 ≡ None → SendsContent id all (n + length bytes) (send_body e id bytes).1

-- No more is sent than was said, and the end, and a trailer, go out behind exactly as much.
pub record IsSentAsSaid (id all n : ℕ) (e : EndpointHistory) : Type 0 where
  pub within : n ≤ all
  pub ends : (finish e id).0 ≡ None → n ≡ all
  pub trails : (trailer : Head) → (send_trailer e id trailer).0 ≡ None → n ≡ all

abbrev pub SendsAsMuchAsSaid : Type 0
SendsAsMuchAsSaid = (id all n : ℕ) (e : EndpointHistory) → SendsContent id all n e → IsSentAsSaid id all n e

-- Behind a head that a strict endpoint sends, as much is to be sent as that says: of a response, where it is known what was asked.
abbrev pub HeadsSayTheirContent : Type 0
HeadsSayTheirContent =
    (e : EndpointHistory) (id : ℕ) (head : Head) → e.announced.choices.strict_messages ≡ true → (send_head e id head).0 ≡ None
    → left_to_send (send_head e id head).1 id ≡ content_of_own e.side (known_of (stream_at e.incoming id)) (head_fields head)

-- It is as much as a strict peer expects behind it, or none where the peer takes any: none is sent with TRACE (RFC 9110, 9.3.8) and with 205
-- (15.3.6).
abbrev pub PeersExpectAsMuch : Type 0
PeersExpectAsMuch = (side : Side) (awaited : Content) (fields : List Field) → IsSentOf (content_of_own side (Some awaited) fields) (content_of_head (other side) awaited fields)
