-- Where an endpoint asks for strict messages, each head and trailer that a pull hands out was read from a list that breaks no rule of well-formed
-- messages (RFC 9114, sections 4.1.2 and 4.2 to 4.5).
use Rattle.std.specs.Prelude.{◌≡◌, ℕ, true, List, None}
use Rattle.h3_field.specs.Field.{Field}
use Rattle.h3_header.specs.Head.{Head}
use Rattle.h3_header.specs.HeadRead.{IsHead, head_by}
use Rattle.h3_messages.specs.Messages.{violation_of_trailer}
use Rattle.h3_proto.specs.declared.stream.Side.{Side}
use Rattle.h3_qpack.specs.DecoderState.{DecoderState}
use Rattle.h3_connection.specs.Incoming.{Incoming}
use Rattle.h3_connection.specs.Pulling.{pull_stream}
use Rattle.h3_connection.specs.StrictMessages.{violation_of_head}
use Rattle.h3_connection.specs.declared.event.Item.TheVariants as item
use Rattle.h3_connection.specs.declared.event.Pull.{Pull}
use Rattle.h3_connection.specs.declared.event.Pull.TheVariants as pull
use Rattle.h3_connection.specs.declared.setup.Announced.{Announced}

-- the list of a head of the other side
abbrev pub IsWellFormedHead : Side → Announced → Head → Type 0
IsWellFormedHead side own h = (fields : List Field) × (head_by own.choices.extensions.any_protocol fields ≡ IsHead h) × (violation_of_head side own fields ≡ None)

abbrev pub IsWellFormedTrailer : Announced → Head → Type 0
IsWellFormedTrailer own h = (fields : List Field) × (head_by own.choices.extensions.any_protocol fields ≡ IsHead h) × (violation_of_trailer fields ≡ None)

abbrev pub IsWellFormed : Side → Announced → Pull → Type 0
IsWellFormed side own (pull.Item (item.Interim h)) = IsWellFormedHead side own h
IsWellFormed side own (pull.Item (item.Head h)) = IsWellFormedHead side own h
IsWellFormed side own (pull.Item (item.Trailer h)) = IsWellFormedTrailer own h
IsWellFormed side own _ = Unit {0}

abbrev pub PullsWellFormed : Type 0
PullsWellFormed =
    (side : Side) (own : Announced) (id : ℕ) (r : DecoderState) (i : Incoming) → own.choices.strict_messages ≡ true → IsWellFormed side own (pull_stream side own id r i).answer
