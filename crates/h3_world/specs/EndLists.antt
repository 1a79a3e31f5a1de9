-- Lists of fields that an endpoint sends as they are, in their order (RFC 9114, sections 4.1 to 4.3).
use Rattle.std.specs.Prelude.{ℕ, List, Option}
use Rattle.h3_field.specs.Field.{Field}
use Rattle.h3_header.specs.Reads.{head_of_fields}
use Rattle.h3_connection.specs.Endpoint.{EndpointHistory}
use Rattle.h3_connection.specs.Outgoing.OwnPart.{OwnTrailer}
use Rattle.h3_connection.specs.Refusals.{refusal_of_head, refusal_of_trailer}
use Rattle.h3_connection.specs.Sections.{written_section}
use Rattle.h3_connection.specs.Sending.{does, unless_closed, outgoing_at, sender_at, appended, asked, counted, encoded, fields_cost, head_part, broken_head_at}
use Rattle.h3_connection.specs.StrictSending.{broken_trailer, early_trailer}
use Rattle.h3_connection.specs.declared.event.Refusal.{Refusal}
use Rattle.h3_world.specs.Lists.{unreadable}
use Rattle.h3_world.specs.Setup.{takes_any}

-- A head that is sent as this list: as the header that it reads as, unless it reads as none.
abbrev pub fields_refusal : EndpointHistory → ℕ → List Field → Option Refusal
fields_refusal e id fields =
    unless_closed e
    (refusal_of_head (sender_at e id) (unreadable (takes_any e.announced) fields) (broken_head_at e id fields) (head_of_fields fields) fields)

abbrev pub after_fields : EndpointHistory → ℕ → List Field → EndpointHistory
after_fields e id fields =
    asked (counted (appended (encoded e id fields) id (head_part (head_of_fields fields) (written_section e.encoder id fields))) (fields_cost fields)) id fields

abbrev pub send_fields : EndpointHistory → ℕ → List Field → Option Refusal × EndpointHistory
send_fields e id fields = does (fields_refusal e id fields) e (after_fields e id fields)

-- And a trailer.
abbrev pub trailer_fields_refusal : EndpointHistory → ℕ → List Field → Option Refusal
trailer_fields_refusal e id fields =
    unless_closed e
    (refusal_of_trailer (sender_at e id) (unreadable (takes_any e.announced) fields) (early_trailer (outgoing_at e id).content) (broken_trailer e.announced fields) (head_of_fields fields) fields)

abbrev pub after_trailer_fields : EndpointHistory → ℕ → List Field → EndpointHistory
after_trailer_fields e id fields = counted (appended (encoded e id fields) id (OwnTrailer (written_section e.encoder id fields))) (fields_cost fields)

abbrev pub send_trailer_fields : EndpointHistory → ℕ → List Field → Option Refusal × EndpointHistory
send_trailer_fields e id fields = does (trailer_fields_refusal e id fields) e (after_trailer_fields e id fields)
