-- What an answer of a pull says, whatever its heads and trailers are kept as.
use Rattle.std.specs.Prelude.{◌≡◌, ℕ, Bool, true, false, ◌&&◌, if◌then◌else◌, List, Option, Some, None, IfSome}
use Rattle.h3_field.specs.Field.{Field}
use Rattle.h3_header.specs.Head.{Head}
use Rattle.h3_proto.specs.declared.stream.Side.{Side}
use Rattle.h3_connection.specs.Pulling.{is_client, is_interim}
use Rattle.h3_connection.specs.declared.event.Fault.{Fault}
use Rattle.h3_connection.specs.declared.event.Item.{Item}
use Rattle.h3_connection.specs.declared.event.Item.TheVariants as item
use Rattle.h3_connection.specs.declared.event.Pull.{Pull}
use Rattle.h3_connection.specs.declared.event.Pull.TheVariants as pull
use Rattle.h3_connection.specs.declared.place.Place.{Place}
use Rattle.h3_connection.specs.declared.place.Place.TheVariants.{BeforeHead}
use Rattle.h3_incoming.specs.declared.answer.Plain.{Plain}
use Rattle.h3_incoming.specs.declared.answer.Plain.TheVariants as plain
use Rattle.h3_incoming.specs.declared.answer.MessageKind.{MessageKind}
use Rattle.h3_incoming.specs.declared.answer.MessageKind.TheVariants as kind

-- one without a head or trailer
abbrev pub plain_pull : Plain → Pull
plain_pull (plain.Body bytes) = pull.Item (item.Body bytes)
plain_pull (plain.Raw bytes) = pull.Item (item.Raw bytes)
plain_pull (plain.Session session) = pull.Item (item.Session session)
plain_pull (plain.TooLarge size) = pull.Item (item.TooLarge size)
plain_pull plain.End = pull.Item item.End
plain_pull plain.Pending = pull.Pending
plain_pull (plain.Waiting count) = pull.Waiting count
plain_pull (plain.Fault fault) = pull.Fault fault
plain_pull plain.NoMessages = pull.NoMessages

-- whether it has one
abbrev pub has_header : Pull → Bool
has_header (pull.Item (item.Interim h)) = true
has_header (pull.Item (item.Head h)) = true
has_header (pull.Item (item.Trailer h)) = true
has_header _ = false

abbrev pub fault_told : Pull → Option Fault
fault_told (pull.Fault fault) = Some fault
fault_told _ = None

-- what a head or trailer is at a place: a client reads interim heads too
abbrev pub kind_at : Side → Place → Option ℕ → MessageKind
kind_at side BeforeHead status = if is_client side && is_interim status then kind.Interim else kind.Head
kind_at side _ status = kind.Trailer

abbrev pub item_of : MessageKind → Head → Item
item_of kind.Interim h = item.Interim h
item_of kind.Head h = item.Head h
item_of kind.Trailer h = item.Trailer h

abbrev pub message_at : Side → Place → Head → Item
message_at side place h = item_of (kind_at side place h.status) h

-- What is kept as a list is this one.
abbrev pub Lists : Option (List Field) → Option (List Field) → Type 0
Lists listed came = IfSome listed (λ l. came ≡ Some l)
