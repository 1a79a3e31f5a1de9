-- Which rule of well-formed messages a field list breaks at an endpoint that asks for them (RFC 9114, sections 4.1.2 and 4.2 to 4.5), and how much
-- content follows it. One that does not asks for none, and for any content.
use Rattle.std.specs.Prelude.{ℕ, List, [], if◌then◌else◌, option_map, unwrap_or, Option, Some, None}
use Rattle.h3_field.specs.Field.{Field}
use Rattle.h3_messages.specs.Content.{awaited_by, content_of_request, content_behind_response, content_behind_status, may_end, until_answered}
use Rattle.h3_messages.specs.declared.content.Content.{Content}
use Rattle.h3_messages.specs.Messages.{violation_of_request, violation_of_response, violation_of_trailer}
use Rattle.h3_messages.specs.declared.violation.Violation.{Violation}
use Rattle.h3_messages.specs.declared.violation.Violation.TheVariants as violation
use Rattle.h3_proto.specs.declared.stream.Side.{Side}
use Rattle.h3_proto.specs.declared.stream.Side.TheVariants.{Client, Server}
use Rattle.h3_connection.specs.Announcing.{connects}
use Rattle.h3_connection.specs.declared.event.Malformation.{Malformation}
use Rattle.h3_connection.specs.declared.event.Malformation.TheVariants as malformation
use Rattle.h3_connection.specs.declared.place.Place.{Place}
use Rattle.h3_connection.specs.declared.place.Place.TheVariants.{BeforeHead}
use Rattle.h3_connection.specs.declared.setup.Announced.{Announced}

abbrev pub malformation_by : Violation → Malformation
malformation_by violation.PseudoOrder = malformation.PseudoOrder
malformation_by violation.RepeatedPseudo = malformation.RepeatedPseudo
malformation_by violation.WrongPseudo = malformation.WrongPseudo
malformation_by violation.MissingPseudo = malformation.MissingPseudo
malformation_by violation.ConnectionField = malformation.ConnectionField
malformation_by violation.Protocol = malformation.Protocol
malformation_by violation.Connect = malformation.Connect
malformation_by violation.Scheme = malformation.Scheme
malformation_by violation.Authority = malformation.Authority
malformation_by violation.Path = malformation.Path
malformation_by violation.Status = malformation.Status
malformation_by violation.ContentLength = malformation.ContentLength
malformation_by violation.TrailerField = malformation.TrailerField
malformation_by violation.Value = malformation.Value

-- a server reads requests, and a client responses
abbrev pub violation_of_head : Side → Announced → List Field → Option Violation
violation_of_head Client own fields = violation_of_response fields
violation_of_head Server own fields = violation_of_request (connects own) fields

-- behind the head comes a trailer
abbrev pub violation_at : Side → Announced → Place → List Field → Option Violation
violation_at side own BeforeHead fields = violation_of_head side own fields
violation_at side own _ fields = violation_of_trailer fields

abbrev pub broken_rule : Side → Announced → Place → List Field → Option Malformation
broken_rule side own place fields =
    if own.choices.strict_messages then option_map malformation_by (violation_at side own place fields) else None

-- What content is expected behind the head of a request, and behind that of a response, where this was awaited in front of it
abbrev pub content_of_head : Side → Content → List Field → Content
content_of_head Client awaited fields = content_behind_response awaited fields
content_of_head Server awaited fields = content_of_request fields

-- as its reader counts: a server that reads CONNECT has not answered it
abbrev pub content_read : Side → Content → List Field → Content
content_read Client awaited fields = content_behind_response awaited fields
content_read Server awaited fields = until_answered (content_of_request fields)

-- a trailer says nothing of it
abbrev pub content_behind : Side → Place → Content → List Field → Content
content_behind side BeforeHead content fields = content_read side content fields
content_behind side _ content fields = content

abbrev pub content_at : Side → Announced → Place → Content → List Field → Content
content_at side own place content fields = if own.choices.strict_messages then content_behind side place content fields else content

-- A request's head says what its response may have as content, and a trailer nothing of it
abbrev pub response_of_head : Side → Option Content → List Field → Option Content
response_of_head Client known fields = known
response_of_head Server known fields = Some (awaited_by fields)

abbrev pub response_behind : Side → Place → Option Content → List Field → Option Content
response_behind side BeforeHead known fields = response_of_head side known fields
response_behind side _ known fields = known

abbrev pub response_at : Side → Announced → Place → Option Content → List Field → Option Content
response_at side own place known fields = if own.choices.strict_messages then response_behind side place known fields else known

-- Of a section that is too large only the last status is known: that of a response tells whether content may follow
abbrev pub content_behind_large : Side → Place → Content → Option (List ℕ) → Content
content_behind_large Client BeforeHead content status = content_behind_status content (unwrap_or status []) []
content_behind_large side place content status = content

abbrev pub large_content_at : Side → Announced → Place → Content → Option (List ℕ) → Content
large_content_at side own place content status = if own.choices.strict_messages then content_behind_large side place content status else content

-- A trailer comes behind all content that the head says (RFC 9114, section 4.1.2). In front of a head no content is expected
abbrev pub if_whole : Content → Option Malformation → Option Malformation
if_whole content broken = if may_end content then broken else Some malformation.ContentLength
