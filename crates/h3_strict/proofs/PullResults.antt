-- What a pull leads to, and what it leaves of an end that gives a message up.
use Rattle.std.proofs.Common.{◌≡◌, ℕ, List, [], ◌∷◌, ◌++◌, refl}
use Rattle.h3_field.specs.Instruction.{DecoderInstruction}
use Rattle.h3_field.specs.Instruction.DecoderInstruction.{CancelStream}
use Rattle.h3_proto.specs.declared.stream.Side.{Side}
use Rattle.h3_connection.specs.Coming.{fields_behind}
use Rattle.h3_connection.specs.Delivering.{with_incoming}
use Rattle.h3_connection.specs.Endpoint.{EndpointHistory, replied}
use Rattle.h3_connection.specs.Incoming.{Incoming, given_up}
use Rattle.h3_connection.specs.declared.event.Malformation.{Malformation}
use Rattle.h3_connection.specs.declared.event.Pull.{Pull}
use Rattle.h3_connection.specs.declared.event.StreamFault.TheVariants.{Malformed}
use Rattle.h3_connection.specs.Lists.{listed_pull}
use Rattle.h3_world.specs.Ends.{Ends, end_at, was_listed, was_pulled, with_end}
use Rattle.h3_world.specs.declared.event.Answer.{Answer}
use Rattle.h3_world.specs.declared.event.Answer.TheVariants as answer

-- what a pull leads to
pub pulled_is : (ends : Ends) (side : Side) (x : Pull × EndpointHistory) → was_pulled ends side x ≡ (answer.Pulled x.0, with_end ends side x.1)
pulled_is ends side (a, e) = refl

pub listed_is : (ends : Ends) (side : Side) (id : ℕ) (x : Pull × EndpointHistory) → was_listed ends side id x ≡ (answer.Listed (listed_pull (fields_behind (end_at ends side).kept (end_at ends side) id) x.0), with_end ends side x.1)
listed_is ends side id (a, e) = refl

-- what a pull leaves of an end that finds a message malformed
abbrev pub gone_end : EndpointHistory → ℕ → Incoming → Malformation → List DecoderInstruction → EndpointHistory
gone_end e id j why replies = replied (with_incoming e id (given_up j (Malformed why))) (replies ++ CancelStream id ∷ [])
