-- Which sends are in order, by the events before and their answers alone (RFC 9114, section 4.1).
use Rattle.std.specs.Prelude.{ℕ, Bool, true, false, not, ◌&&◌, List, nat_le, option_map, unwrap_or}
use Rattle.std.specs.List.{list_any}
use Rattle.h3_field.specs.Field.{Field, section_size}
use Rattle.h3_header.specs.Head.{head_fields}
use Rattle.h3_header.specs.HeadTests.{is_protocol_by}
use Rattle.h3_faithful.specs.Reading.{header_in, is_pseudo, is_sent_by}
use Rattle.h3_proto.specs.StreamIds.{is_request_stream}
use Rattle.h3_proto.specs.declared.stream.Side.{Side}
use Rattle.h3_proto.specs.declared.stream.Side.TheVariants.{Client}
use Rattle.h3_connection.specs.Announcing.{section_of}
use Rattle.h3_connection.specs.OwnIds.{other}
use Rattle.h3_world.specs.Setup.{Setup, announced_at}
use Rattle.h3_world.specs.declared.event.Answer.{Answer}
use Rattle.h3_world.specs.declared.event.Answer.TheVariants as answer
use Rattle.h3_world.specs.declared.event.Event.{Event}
use Rattle.h3_world.specs.declared.event.Event.TheVariants as event
use Rattle.h3_headline.specs.Changes.{goes_away, resets_on}
use Rattle.h3_headline.specs.Messages.{MessageContent, any_of, finished_in, is_on}
use Rattle.h3_headline.specs.Messages.MessageContent.{FieldSection}
use Rattle.h3_headline.specs.Messages.SectionKind.{OfHead, OfTrailer}

-- The request stream is open at the side: it opened it, or bytes came on it.
abbrev pub opens : Side → ℕ → Event → Answer → Bool
opens side id (event.OpenRequest acting) (answer.Opened i) = is_on side id acting i
opens side id (event.Deliver acting i count) (answer.Delivered n) = is_on (other side) id acting i && is_request_stream i
opens side id _ _ = false

-- It is open there, and was neither finished nor reset.
abbrev pub goes_on : Side → ℕ → List Event → List Answer → Bool
goes_on side id events answers = any_of (opens side id) events answers && not (any_of (finished_in side id) events answers) && not (any_of (resets_on side id) events answers)

abbrev pub is_head_section : MessageContent → Bool
is_head_section (FieldSection OfHead as_list fields) = true
is_head_section _ = false

abbrev pub is_trailer_section : MessageContent → Bool
is_trailer_section (FieldSection OfTrailer as_list fields) = true
is_trailer_section _ = false

-- The other side takes a section of that size (RFC 9114, section 4.2.2).
abbrev pub takes_size : Setup → Side → List Field → Bool
takes_size setup side fields = nat_le (section_size fields) (section_of (announced_at setup (other side)))

abbrev pub is_between : List MessageContent → Bool
is_between before = list_any is_head_section before && not (list_any is_trailer_section before)

-- The event sends what is next on the side's stream, after these contents, as the other side takes it.
abbrev pub is_next : Setup → Side → ℕ → List MessageContent → Event → Bool
is_next setup side id before (event.Head acting i head) =
    is_on side id acting i && (not (list_any is_head_section before) && is_sent_by side head && takes_size setup side (head_fields head))
is_next setup side id before (event.Fields acting i fields) =
    is_on side id acting i && (not (list_any is_head_section before) && is_sent_by side (header_in fields) && takes_size setup side fields)
is_next setup side id before (event.Body acting i bytes) = is_on side id acting i && is_between before
is_next setup side id before (event.Trailer acting i trailer) =
    is_on side id acting i && (is_between before && not (list_any is_pseudo (head_fields trailer)) && takes_size setup side (head_fields trailer))
is_next setup side id before (event.TrailerFields acting i fields) =
    is_on side id acting i && (is_between before && not (list_any is_pseudo fields) && takes_size setup side fields)
is_next setup side id before (event.Finish acting i) = is_on side id acting i && list_any is_head_section before
is_next setup side id before _ = false

-- The side may not read itself what it is to send: a list, or a head by a protocol that the side does not take (RFC 8441, section 4).
abbrev pub may_be_unread : Setup → Event → Bool
may_be_unread setup (event.Fields side id fields) = true
may_be_unread setup (event.TrailerFields side id fields) = true
may_be_unread setup (event.Head side id head) =
    unwrap_or (option_map (λ text. not (is_protocol_by (announced_at setup side).choices.extensions.any_protocol text)) head.protocol) false
may_be_unread setup _ = false

-- A client that asks for a strict connection begins no request once its server goes away (RFC 9114, section 5.2).
abbrev pub begins_late : Setup → List Event → List Answer → Event → Bool
begins_late setup before given (event.Head Client id head) = setup.client.choices.extensions.strict_connection && any_of goes_away before given
begins_late setup before given (event.Fields Client id fields) = setup.client.choices.extensions.strict_connection && any_of goes_away before given
begins_late setup before given _ = false
