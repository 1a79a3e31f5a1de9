-- What a list of fields is in the place of a head or a trailer, or why it is none there.
use Rattle.std.specs.Prelude.{◌≡◌, not, if◌then◌else◌, Option, Some, None}
use Rattle.h3_header.specs.Head.{Head}
use Rattle.h3_header.specs.HeadRead.{HeadRead, IsHead, IsNone}
use Rattle.h3_messages.specs.Outline.{is_outline_of, outline_of}
use Rattle.h3_messages.specs.declared.section.Section.{Section}
use Rattle.h3_messages.specs.declared.section.Section.TheVariants.{Request, Response, Trailer}
use Rattle.h3_proto.specs.declared.stream.Side.{Side}
use Rattle.h3_proto.specs.declared.stream.Side.TheVariants.{Client, Server}
use Rattle.h3_connection.specs.Pulling.{is_interim}
use Rattle.h3_connection.specs.Refusals.{or_later}
use Rattle.h3_connection.specs.declared.event.Refusal.{Refusal}
use Rattle.h3_connection.specs.declared.event.Refusal.TheVariants as refusal
use Rattle.h3_connection.specs.declared.place.SendPlace.{SendPlace}
use Rattle.h3_connection.specs.declared.place.SendPlace.TheVariants.{NothingSent, HeadSent}
use Rattle.h3_connection.specs.declared.setup.Announced.{Announced}
use Rattle.h3_session.specs.Refused.{protocol_refused, side_refused, pseudo_refused}
use Rattle.h3_session.specs.SendingLists.{malformed}

-- a side sends requests, or responses
abbrev pub head_section : Side → Section
head_section Client = Request
head_section Server = Response

-- one that is another section
abbrev pub misplaced : Section → Refusal
misplaced Request = refusal.WrongSide
misplaced Response = refusal.WrongSide
misplaced Trailer = refusal.PseudoInTrailer

abbrev pub section_refused : Section → Head → Option Refusal
section_refused section head = if not (is_outline_of section (outline_of head)) then Some (misplaced section) else None

-- a list as a section, and a header
abbrev pub list_refusal : Section → HeadRead → Option Refusal
list_refusal section (IsHead head) = section_refused section head
list_refusal section (IsNone why) = Some (malformed why)

abbrev pub header_refused : Announced → Section → Head → Option Refusal
header_refused own section head = or_later (protocol_refused own head) (section_refused section head)

-- the size and the stream apart
abbrev pub head_list_refusal : Side → HeadRead → Option Refusal
head_list_refusal side (IsHead head) = side_refused side head
head_list_refusal side (IsNone why) = Some (malformed why)

abbrev pub trailer_list_refusal : HeadRead → Option Refusal
trailer_list_refusal (IsHead trailer) = pseudo_refused trailer
trailer_list_refusal (IsNone why) = Some (malformed why)

-- a head that this side sends, and the place of the message behind it
abbrev pub IsHeadAt : Side → HeadRead → SendPlace → Type 0
IsHeadAt side (IsHead head) place = (side_refused side head ≡ None) × (place ≡ (if is_interim head.status then NothingSent else HeadSent))
IsHeadAt side (IsNone why) place = ⊥

abbrev pub IsTrailer : HeadRead → Type 0
IsTrailer (IsHead trailer) = pseudo_refused trailer ≡ None
IsTrailer (IsNone why) = ⊥
