-- What is handed out of a response to HEAD, which has no content whatever its content-length says (RFC 9110, section 9.3.2; RFC 9114, section 4.1.2).
use Rattle.std.specs.Prelude.{◌≡◌, ℕ, true, List, [], codes, Some, None}
use Rattle.h3_header.specs.Head.{Head}
use Rattle.h3_messages.specs.declared.content.Content.TheVariants.{NoContent}
use Rattle.h3_proto.specs.declared.stream.Side.TheVariants.{Client}
use Rattle.h3_qpack.specs.DecoderState.{DecoderState}
use Rattle.h3_connection.specs.Delivering.{kept, with_end}
use Rattle.h3_connection.specs.Endpoint.{EndpointHistory}
use Rattle.h3_connection.specs.Incoming.{Incoming, awaits_head}
use Rattle.h3_connection.specs.Pulling.{pull_stream}
use Rattle.h3_connection.specs.Sending.{send_head}
use Rattle.h3_connection.specs.StreamSets.{stream_at}
use Rattle.h3_connection.specs.declared.event.Item.TheVariants as item
use Rattle.h3_connection.specs.declared.event.Pull.{Pull}
use Rattle.h3_connection.specs.declared.event.Pull.TheVariants as pull
use Rattle.h3_connection.specs.declared.place.Place.TheVariants.{BeforeHead}
use Rattle.h3_connection.specs.declared.setup.Announced.{Announced}

-- a receiver in front of the head of such a response
pub record AwaitsNoContent (i : Incoming) : Type 0 where
  pub content : i.content ≡ NoContent
  pub place : i.place ≡ BeforeHead
  pub none : i.body_left ≡ 0

-- One that was such a receiver: pulls of a client with any table, and between them more came.
pub data Awaited (own : Announced) (id : ℕ) : Incoming → Type 0 where
  Begins : {i : Incoming} → AwaitsNoContent i → Awaited own id i
  Comes : {i : Incoming} (piece : List ℕ) → Awaited own id i → Awaited own id (kept i piece)
  Ends : {i : Incoming} → Awaited own id i → Awaited own id (with_end i)
  Pulls : {i : Incoming} (r : DecoderState) → Awaited own id i → Awaited own id (pull_stream Client own id r i).incoming

-- no byte of content, nor of a session
abbrev pub HasNoBytes : Pull → Type 0
HasNoBytes (pull.Item (item.Body bytes)) = bytes ≡ []
HasNoBytes (pull.Item (item.Raw bytes)) = ⊥
HasNoBytes _ = Unit {0}

abbrev pub HandsOutNoContent : Type 0
HandsOutNoContent = (own : Announced) (id : ℕ) (r : DecoderState) (i : Incoming) → Awaited own id i → HasNoBytes (pull_stream Client own id r i).answer

-- Where a client that asks for strict messages sends a request of HEAD, its receiver awaits no content.
abbrev pub RemembersHead : Type 0
RemembersHead =
    (e : EndpointHistory) (id : ℕ) (head : Head) (i : Incoming) → e.side ≡ Client → e.announced.choices.strict_messages ≡ true → head.method ≡ Some (codes "HEAD")
    → (send_head e id head).0 ≡ None → stream_at e.incoming id ≡ Some i → awaits_head i ≡ true → stream_at (send_head e id head).1.incoming id ≡ Some (record i { content = NoContent })
