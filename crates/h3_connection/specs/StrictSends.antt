-- What an endpoint that asks for strict messages sends breaks no rule for a peer that asks for them: the peer's own judgement takes its list
-- (RFC 9114, sections 4.1.2 and 4.2 to 4.5).
use Rattle.std.specs.Prelude.{◌≡◌, ℕ, true, None}
use Rattle.h3_header.specs.Head.{Head, head_fields}
use Rattle.h3_connection.specs.Announcing.{connects}
use Rattle.h3_connection.specs.Remembering.{settings_known}
use Rattle.h3_connection.specs.Endpoint.{EndpointHistory}
use Rattle.h3_connection.specs.OwnIds.{other}
use Rattle.h3_connection.specs.Sending.{send_head, send_trailer}
use Rattle.h3_connection.specs.StrictMessages.{broken_rule}
use Rattle.h3_connection.specs.StrictSending.{peer_connects}
use Rattle.h3_connection.specs.declared.place.Place.TheVariants.{BeforeHead, InBody}
use Rattle.h3_connection.specs.declared.setup.Announced.{Announced}

-- the endpoint asks for strict messages, and the peer announced extended CONNECT where its settings say so
pub record IsStrictTo (e : EndpointHistory) (peer : Announced) : Type 0 where
  pub strict : e.announced.choices.strict_messages ≡ true
  pub knows : peer_connects (settings_known e.announced e.peer.settings) ≡ true → connects peer ≡ true

abbrev pub SendsWellFormedHeads : Type 0
SendsWellFormedHeads =
    (e : EndpointHistory) (peer : Announced) (id : ℕ) (head : Head) → IsStrictTo e peer → (send_head e id head).0 ≡ None → broken_rule (other e.side) peer BeforeHead (head_fields head) ≡ None

abbrev pub SendsWellFormedTrailers : Type 0
SendsWellFormedTrailers =
    (e : EndpointHistory) (peer : Announced) (id : ℕ) (trailer : Head) → IsStrictTo e peer → (send_trailer e id trailer).0 ≡ None → broken_rule (other e.side) peer InBody (head_fields trailer) ≡ None
