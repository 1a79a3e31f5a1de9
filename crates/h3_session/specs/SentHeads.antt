-- What a head that is sent says of content, as one walk over its list tells it.
use Rattle.std.specs.Prelude.{◌≡◌, ℕ, Bool, true, false, List, Option, None}
use Rattle.h3_field.specs.Field.{Field}
use Rattle.h3_messages.specs.Content.{awaited_by}
use Rattle.h3_messages.specs.OwnMessages.{content_of_own_request, violation_of_own_request, violation_of_own_response, violation_of_own_trailer}
use Rattle.h3_messages.specs.ResponseSaid.{response_said}
use Rattle.h3_connection.specs.Remembering.{settings_known}
use Rattle.h3_connection.specs.State.{EndpointState}
use Rattle.h3_connection.specs.StrictSending.{peer_connects}
use Rattle.h3_connection.specs.declared.place.SendPlace.{SendPlace}
use Rattle.h3_connection.specs.declared.place.SendPlace.TheVariants.{HeadSent, NothingSent, TrailerSent}
use Rattle.h3_connection.specs.declared.setup.Announced.{Announced}
use Rattle.h3_proto.specs.declared.stream.Side.{Side}
use Rattle.h3_proto.specs.declared.stream.Side.TheVariants.{Client, Server}
use Rattle.h3_messages.specs.Judging.{broken_by, said_by}
use Rattle.h3_messages.specs.declared.judging.Judgment.{Judgment}
use Rattle.h3_messages.specs.declared.said.Said.{Said}
use Rattle.h3_messages.specs.declared.said.Said.TheVariants.{Nothing, Request, Response}
use Rattle.h3_messages.specs.declared.section.Rules.{Rules}
use Rattle.h3_messages.specs.declared.section.Section.{Section}
use Rattle.h3_messages.specs.declared.violation.Violation.{Violation}

-- by the side that sends it: a client sends requests, and a server responses
abbrev pub IsSaidBy : Side → List Field → Said → Type 0
IsSaidBy side fields Nothing = ⊥
IsSaidBy side fields (Request awaited content) = (side ≡ Client) × (awaited ≡ awaited_by fields) × (content ≡ content_of_own_request fields)
IsSaidBy side fields (Response said) = (side ≡ Server) × (said ≡ response_said fields)

-- where rules are asked
abbrev pub IsSaid : Side → Announced → List Field → Said → Type 0
IsSaid side own fields Nothing = own.choices.strict_messages ≡ false
IsSaid side own fields (Request awaited content) = (own.choices.strict_messages ≡ true) × IsSaidBy side fields (Request awaited content)
IsSaid side own fields (Response said) = (own.choices.strict_messages ≡ true) × IsSaidBy side fields (Response said)

-- a response that opens a tunnel, and says a length
abbrev pub says_length_of_tunnel : Said → Bool
says_length_of_tunnel (Response said) = said.says_tunnel_length
says_length_of_tunnel _ = false

-- what a list breaks as a head, whatever was asked
abbrev pub violation_of_own_list : Side → Option (List (ℕ × ℕ)) → List Field → Option Violation
violation_of_own_list Client settings fields = violation_of_own_request (peer_connects settings) fields
violation_of_own_list Server settings fields = violation_of_own_response fields

-- a walk told of a head the rule that its list breaks, and what it says, by the peer's settings
abbrev pub IsReadOf : Side → Option (List (ℕ × ℕ)) → List Field → Judgment → Type 0
IsReadOf side settings fields read = (read.violation ≡ violation_of_own_list side settings fields) × IsSaidBy side fields read.said

-- What a list was told to break and to say, in the place of a head or of a trailer, by whether rules are asked.
abbrev pub IsReadWhere : Bool → SendPlace → Side → Option (List (ℕ × ℕ)) → List Field → Judgment → Type 0
IsReadWhere false place side settings fields read = (read.violation ≡ None) × (read.said ≡ Nothing)
IsReadWhere true TrailerSent side settings fields read = (read.violation ≡ violation_of_own_trailer fields) × (read.said ≡ Nothing)
IsReadWhere true HeadSent side settings fields read = IsReadOf side settings fields read
IsReadWhere true NothingSent side settings fields read = IsReadOf side settings fields read

abbrev pub IsReadAt : SendPlace → EndpointState → List Field → Judgment → Type 0
IsReadAt place s fields read = IsReadWhere s.announced.choices.strict_messages place s.side (settings_known s.announced s.peer.settings) fields read

-- by which rules an endpoint sends
abbrev pub sent_rules : EndpointState → Rules
sent_rules s =
    record {
      is_sent = true;
      strict_messages = s.announced.choices.strict_messages;
      any_protocol = s.announced.choices.extensions.any_protocol;
      extended_connect = peer_connects (settings_known s.announced s.peer.settings);
    }

-- what a list was judged as
abbrev pub IsJudgedAs : Section → EndpointState → List Field → Judgment → Type 0
IsJudgedAs section s fields it = (it.violation ≡ broken_by section (sent_rules s) fields) × (it.said ≡ said_by section (sent_rules s) fields)
