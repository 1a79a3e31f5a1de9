-- Which rule of well-formed messages a list breaks that an endpoint is to send, where it asks for strict messages: as the other side would judge it
-- (RFC 9114, sections 4.1.2 and 4.2 to 4.5), and by the rules that bind a sender alone. One that asks for none sends any list.
use Rattle.std.specs.Prelude.{ℕ, Bool, true, false, List, ◌∷◌, if◌then◌else◌, option_map, Option, Some, None}
use Rattle.h3_field.specs.Field.{Field}
use Rattle.h3_header.specs.Head.{Head}
use Rattle.h3_header.specs.HeadTests.{takes_protocol}
use Rattle.h3_messages.specs.Content.{is_exceeded, left_behind, may_end, takes_trailer}
use Rattle.h3_messages.specs.declared.content.Content.{Content}
use Rattle.h3_messages.specs.OwnMessages.{violation_of_own_answer, violation_of_own_request, violation_of_own_trailer}
use Rattle.h3_messages.specs.declared.violation.Violation.{Violation}
use Rattle.h3_proto.specs.Config.{is_enabled}
use Rattle.h3_proto.specs.declared.stream.Side.{Side}
use Rattle.h3_proto.specs.declared.stream.Side.TheVariants.{Client, Server}
use Rattle.h3_connection.specs.StrictMessages.{malformation_by}
use Rattle.h3_connection.specs.declared.event.Malformation.{Malformation}
use Rattle.h3_connection.specs.declared.event.Malformation.TheVariants as malformation
use Rattle.h3_connection.specs.declared.event.Refusal.{Refusal}
use Rattle.h3_connection.specs.declared.event.Refusal.TheVariants as refusal
use Rattle.h3_connection.specs.declared.setup.Announced.{Announced}

-- The peer said that it takes requests of extended CONNECT (RFC 9220, section 3). A client sends :protocol behind that setting alone (RFC 8441,
-- section 3), so not before the peer's settings came.
abbrev pub peer_connects : Option (List (ℕ × ℕ)) → Bool
peer_connects None = false
peer_connects (Some pairs) = is_enabled 8 pairs

-- A client sends heads of requests, and a server those of responses. A server knows what was asked once it read the request's head.
abbrev pub violation_of_own_head : Side → Option (List (ℕ × ℕ)) → Option Content → List Field → Option Violation
violation_of_own_head Client settings known fields = violation_of_own_request (peer_connects settings) fields
violation_of_own_head Server settings known fields = violation_of_own_answer known fields

-- The value of `:protocol` is one that the endpoint takes itself (RFC 8441, section 4): any token where it takes any, or one of the two names.
abbrev pub broken_protocol : Announced → Head → Option Malformation
broken_protocol own head = if takes_protocol own.choices.extensions.any_protocol head.protocol then None else Some malformation.Value

abbrev pub broken_head : Side → Announced → Option (List (ℕ × ℕ)) → Option Content → List Field → Option Malformation
broken_head side own settings known fields =
    if own.choices.strict_messages then option_map malformation_by (violation_of_own_head side settings known fields) else None

abbrev pub broken_trailer : Announced → List Field → Option Malformation
broken_trailer own fields = if own.choices.strict_messages then option_map malformation_by (violation_of_own_trailer fields) else None

-- so many bytes more are more content than the head says (RFC 9114, section 4.1.2)
abbrev pub passes_content : Content → ℕ → Bool
passes_content content size = is_exceeded (left_behind content size)

-- a trailer comes behind all content that the head says (RFC 9114, section 4.1.2), and in a tunnel none comes (section 4.4)
abbrev pub early_trailer : Content → Option Malformation
early_trailer content = if takes_trailer content then (if may_end content then None else Some malformation.ContentLength) else Some malformation.Connect

-- the rule that is broken refuses the list, and where none is the rules behind
abbrev pub unless_malformed : Option Malformation → List (Bool × Refusal) → List (Bool × Refusal)
unless_malformed None later = later
unless_malformed (Some why) later = (true, refusal.Malformed why) ∷ later
