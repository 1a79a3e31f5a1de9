-- What a side sent on a request stream, and what the other side was handed out of it, by the events and their answers alone.
use Rattle.std.specs.Prelude.{ℕ, List, Bool, false, ◌==◌, [], true, if◌then◌else◌, ◌∷◌, map, ◌&&◌, ◌++◌, ◌||◌, Option, option_map, codes}
use Rattle.h3_field.specs.Field.{Field}
use Rattle.h3_connection.specs.declared.event.Item.TheVariants as item
use Rattle.h3_proto.specs.declared.stream.Side.{Side}
use Rattle.h3_proto.specs.declared.stream.Side.TheVariants.{Client, Server}
use Rattle.h3_world.specs.declared.event.Answer.{Answer}
use Rattle.h3_world.specs.declared.event.Answer.TheVariants as answer
use Rattle.h3_qpack.specs.Sizes.{last_value}
use Rattle.h3_header.specs.Head.{head_fields}
use Rattle.h3_header.specs.Reads.{status_number}
use Rattle.h3_connection.specs.Pulling.{is_interim}
use Rattle.h3_world.specs.declared.event.Event.{Event}
use Rattle.h3_world.specs.declared.event.Event.TheVariants as event
use Rattle.h3_connection.specs.declared.event.Pull.TheVariants as pull
use Rattle.h3_connection.specs.declared.lists.ListItem.TheVariants as listed
use Rattle.h3_connection.specs.declared.lists.ListPull.TheVariants as list

pub data SectionKind : Type 0 where
  OfInterim : SectionKind
  OfHead : SectionKind
  OfTrailer : SectionKind

-- What a message carries, in order (RFC 9114, section 4.1). A body is its bytes, since it is handed out in any pieces.
pub data MessageContent : Type 0 where
  -- a section of these fields, as a list or as a header
  FieldSection : (kind : SectionKind) (as_list : Bool) (fields : List Field) → MessageContent
  Byte : (byte : ℕ) → MessageContent
  -- in the place of a field section above the reader's limit, its size
  TooLarge : (size : ℕ) → MessageContent
  -- what belongs to no message of a request
  Foreign : MessageContent

-- the call is the side's, on the stream
abbrev pub is_on : Side → ℕ → Side → ℕ → Bool
is_on Client id Client i = i == id
is_on Server id Server i = i == id
is_on side id acting i = false

abbrev pub is_done : Answer → Bool
is_done answer.Done = true
is_done _ = false

-- the status of a list of fields: its last one
abbrev pub status_in : List Field → Option ℕ
status_in fields = option_map status_number (last_value (codes ":status") fields)

-- a head with this status
abbrev pub head_section : Option ℕ → Bool → List Field → MessageContent
head_section status as_list fields = FieldSection (if is_interim status then OfInterim else OfHead) as_list fields

-- what an event sends on the stream, where it was accepted
abbrev pub sent_in : Side → ℕ → Event → Answer → List MessageContent
sent_in side id (event.Head s i head) a = if is_done a && is_on side id s i then head_section head.status false (head_fields head) ∷ [] else []
sent_in side id (event.Fields s i fields) a = if is_done a && is_on side id s i then head_section (status_in fields) true fields ∷ [] else []
sent_in side id (event.Body s i bytes) a = if is_done a && is_on side id s i then map Byte bytes else []
sent_in side id (event.Trailer s i trailer) a = if is_done a && is_on side id s i then FieldSection OfTrailer false (head_fields trailer) ∷ [] else []
sent_in side id (event.TrailerFields s i fields) a = if is_done a && is_on side id s i then FieldSection OfTrailer true fields ∷ [] else []
sent_in side id _ a = []

-- whether it completes the message
abbrev pub finished_in : Side → ℕ → Event → Answer → Bool
finished_in side id (event.Finish acting i) a = is_done a && is_on side id acting i
finished_in side id _ a = false

-- what an answer hands out
abbrev pub contents_of : Answer → List MessageContent
contents_of (answer.Pulled (pull.Item (item.Interim head))) = FieldSection OfInterim false (head_fields head) ∷ []
contents_of (answer.Pulled (pull.Item (item.Head head))) = FieldSection OfHead false (head_fields head) ∷ []
contents_of (answer.Pulled (pull.Item (item.Body bytes))) = map Byte bytes
contents_of (answer.Pulled (pull.Item (item.Trailer trailer))) = FieldSection OfTrailer false (head_fields trailer) ∷ []
contents_of (answer.Pulled (pull.Item (item.TooLarge size))) = TooLarge size ∷ []
contents_of (answer.Pulled (pull.Item item.End)) = []
contents_of (answer.Pulled (pull.Item i)) = Foreign ∷ []
contents_of (answer.Listed (list.Item (listed.Interim fields))) = FieldSection OfInterim true fields ∷ []
contents_of (answer.Listed (list.Item (listed.Head fields))) = FieldSection OfHead true fields ∷ []
contents_of (answer.Listed (list.Item (listed.Body bytes))) = map Byte bytes
contents_of (answer.Listed (list.Item (listed.Trailer fields))) = FieldSection OfTrailer true fields ∷ []
contents_of (answer.Listed (list.Item (listed.TooLarge size))) = TooLarge size ∷ []
contents_of (answer.Listed (list.Item listed.End)) = []
contents_of (answer.Listed (list.Item i)) = Foreign ∷ []
contents_of _ = []

-- whether it is the end
abbrev pub is_end_of : Answer → Bool
is_end_of (answer.Pulled (pull.Item item.End)) = true
is_end_of (answer.Listed (list.Item listed.End)) = true
is_end_of _ = false

-- the side pulls from the stream
abbrev pub pulls_on : Side → ℕ → Event → Bool
pulls_on side id (event.Pull acting i) = is_on side id acting i
pulls_on side id (event.PullFields acting i) = is_on side id acting i
pulls_on side id _ = false

-- what an event hands out of the stream, and whether that is the end
abbrev pub pulled_in : Side → ℕ → Event → Answer → List MessageContent
pulled_in side id e a = if pulls_on side id e then contents_of a else []

abbrev pub ended_in : Side → ℕ → Event → Answer → Bool
ended_in side id e a = pulls_on side id e && is_end_of a

-- over all events and their answers
abbrev pub all_of : (Event → Answer → List MessageContent) → List Event → List Answer → List MessageContent
all_of f [] answers = []
all_of f (e ∷ events) [] = []
all_of f (e ∷ events) (a ∷ answers) = f e a ++ all_of f events answers

abbrev pub any_of : (Event → Answer → Bool) → List Event → List Answer → Bool
any_of f [] answers = false
any_of f (e ∷ events) [] = false
any_of f (e ∷ events) (a ∷ answers) = f e a || any_of f events answers

-- what the side sent on the stream, and whether it has finished
abbrev pub sent : Side → ℕ → List Event → List Answer → List MessageContent
sent side id events answers = all_of (sent_in side id) events answers

abbrev pub has_finished : Side → ℕ → List Event → List Answer → Bool
has_finished side id events answers = any_of (finished_in side id) events answers

-- what the side was handed out of the stream, and whether the end was among it
abbrev pub pulled : Side → ℕ → List Event → List Answer → List MessageContent
pulled side id events answers = all_of (pulled_in side id) events answers

abbrev pub has_pulled_end : Side → ℕ → List Event → List Answer → Bool
has_pulled_end side id events answers = any_of (ended_in side id) events answers

-- the others begin so
abbrev pub IsFrontOf : (MessageContent → MessageContent → Type 0) → List MessageContent → List MessageContent → Type 0
IsFrontOf R [] sent = Unit {0}
IsFrontOf R (c ∷ handed) (d ∷ sent) = R c d × IsFrontOf R handed sent
IsFrontOf R (c ∷ handed) [] = ⊥
