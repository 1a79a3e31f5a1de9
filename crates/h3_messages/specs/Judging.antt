-- What a list is as a section of a message that came, or of one that is to be sent: the rule that it breaks, and what it says of content.
use Rattle.std.specs.Prelude.{◌≡◌, ◌<◌, Bool, ◌&&◌, List, length, if◌then◌else◌, Option, Some, None}
use Rattle.h3_field.specs.Field.{Field}
use Rattle.h3_header.specs.HeadRead.{HeadRefusal, IsNone, head_by}
use Rattle.h3_messages.specs.Content.{awaited_by, content_of_request}
use Rattle.h3_messages.specs.Messages.{violation_of_request, violation_of_response, violation_of_trailer}
use Rattle.h3_messages.specs.Outline.{refusal_by}
use Rattle.h3_messages.specs.OwnMessages.{content_of_own_request, has_no_trailer_field, is_own_length_misplaced, is_trace, or_broken, says_content}
use Rattle.h3_messages.specs.ResponseSaid.{said_of_response}
use Rattle.h3_messages.specs.declared.content.Content.{Content}
use Rattle.h3_messages.specs.declared.reading.ListError.{ListError}
use Rattle.h3_messages.specs.declared.said.Said.{Said}
use Rattle.h3_messages.specs.declared.said.Said.TheVariants as said
use Rattle.h3_messages.specs.declared.section.Rules.{Rules}
use Rattle.h3_messages.specs.declared.section.Section.{Section}
use Rattle.h3_messages.specs.declared.section.Section.TheVariants.{Request, Response, Trailer}
use Rattle.h3_messages.specs.declared.violation.Violation.{Violation}
use Rattle.h3_messages.specs.declared.violation.Violation.TheVariants.{ContentLength, TrailerField}

-- by the rules of its reader
abbrev pub violation_of_reader : Section → (extended_connect : Bool) → List Field → Option Violation
violation_of_reader Request extended_connect fields = violation_of_request extended_connect fields
violation_of_reader Response extended_connect fields = violation_of_response fields
violation_of_reader Trailer extended_connect fields = violation_of_trailer fields

-- behind those its sender's
abbrev pub violation_of_sender : Option Violation → Section → List Field → Option Violation
violation_of_sender earlier Request fields = or_broken earlier (is_trace fields && says_content fields) ContentLength
violation_of_sender earlier Response fields = or_broken earlier (is_own_length_misplaced fields) ContentLength
violation_of_sender earlier Trailer fields = or_broken earlier (has_no_trailer_field fields) TrailerField

abbrev pub violation_by : Section → Rules → List Field → Option Violation
violation_by section rules fields =
    if rules.is_sent then violation_of_sender (violation_of_reader section rules.extended_connect fields) section fields
    else violation_of_reader section rules.extended_connect fields

-- where rules are asked
abbrev pub broken_by : Section → Rules → List Field → Option Violation
broken_by section rules fields = if rules.strict_messages then violation_by section rules fields else None

abbrev pub content_of_request_by : (is_sent : Bool) → List Field → Content
content_of_request_by is_sent fields = if is_sent then content_of_own_request fields else content_of_request fields

abbrev pub said_by_section : Section → (is_sent : Bool) → List Field → Said
said_by_section Request is_sent fields = said.Request (awaited_by fields) (content_of_request_by is_sent fields)
said_by_section Response is_sent fields = said.Response (said_of_response is_sent fields)
said_by_section Trailer is_sent fields = said.Nothing

abbrev pub said_by : Section → Rules → List Field → Said
said_by section rules fields = if rules.strict_messages then said_by_section section rules.is_sent fields else said.Nothing

-- Why a list is no header was told, or that memory was refused for one of many fields.
abbrev pub IsUnread : Bool → List Field → ListError → Type 0
IsUnread any fields e = ((why : HeadRefusal) → refusal_by e ≡ Some why → head_by any fields ≡ IsNone why) × (refusal_by e ≡ None → 24576 < length fields)
