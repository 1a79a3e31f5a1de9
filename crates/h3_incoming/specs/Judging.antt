-- What a decoded field section is at its place.
use Rattle.std.specs.Prelude.{ℕ, Bool, List}
use Rattle.h3_field.specs.Instruction.{DecoderInstruction}
use Rattle.h3_messages.specs.Outline.{is_request_outline, is_response_outline}
use Rattle.h3_messages.specs.declared.outline.Outline.{Outline}
use Rattle.h3_proto.specs.declared.stream.Side.{Side}
use Rattle.h3_proto.specs.declared.stream.Side.TheVariants.{Client, Server}
use Rattle.h3_connection.specs.Incoming.{Incoming}
use Rattle.h3_connection.specs.Pulling.{Pulled, malformed}
use Rattle.h3_connection.specs.declared.event.Pull.{Pull}
use Rattle.h3_incoming.specs.declared.judge.Judged.{Judged}
use Rattle.h3_incoming.specs.declared.judge.Judged.TheVariants as judged

-- what a pull makes of it, whose answer was written
abbrev pub judged_as : ℕ → Incoming → List DecoderInstruction → Pull → Judged → Pulled
judged_as id i replies answer (judged.HandsOut place expected known) =
    record { answer = answer; incoming = record i { place = place; content = expected; response = known }; replies = replies }
judged_as id i replies answer (judged.Malformed why known) = malformed id why (record i { response = known }) replies

-- a side reads such heads: a client those of responses, and a server those of requests
abbrev pub is_read_outline : Side → Outline → Bool
is_read_outline Client o = is_response_outline o
is_read_outline Server o = is_request_outline o
