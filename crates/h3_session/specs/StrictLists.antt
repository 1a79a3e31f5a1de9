-- A list that a strict endpoint sends breaks no rule for a peer that asks for strict messages (RFC 9114, sections 4.1.2 and 4.2 to 4.5).
use Rattle.std.specs.Prelude.{◌≡◌, ℕ, List, None}
use Rattle.h3_field.specs.Field.{Field}
use Rattle.h3_connection.specs.Endpoint.{EndpointHistory}
use Rattle.h3_connection.specs.OwnIds.{other}
use Rattle.h3_connection.specs.StrictMessages.{broken_rule}
use Rattle.h3_connection.specs.StrictSends.{IsStrictTo}
use Rattle.h3_connection.specs.declared.place.Place.TheVariants.{BeforeHead, InBody}
use Rattle.h3_connection.specs.declared.setup.Announced.{Announced}
use Rattle.h3_session.specs.SendingLists.{send_fields, send_trailer_fields}

abbrev pub SendsWellFormedLists : Type 0
SendsWellFormedLists =
    (e : EndpointHistory) (peer : Announced) (id : ℕ) (fields : List Field) → IsStrictTo e peer → (send_fields e id fields).0 ≡ None → broken_rule (other e.side) peer BeforeHead fields ≡ None

abbrev pub SendsWellFormedTrailerLists : Type 0
SendsWellFormedTrailerLists =
    (e : EndpointHistory) (peer : Announced) (id : ℕ) (fields : List Field) → IsStrictTo e peer → (send_trailer_fields e id fields).0 ≡ None → broken_rule (other e.side) peer InBody fields ≡ None
