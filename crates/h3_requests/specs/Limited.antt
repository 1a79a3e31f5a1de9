-- What a pull answers among the other streams: one too many that would wait is a fault.
use Rattle.std.specs.Prelude.{◌≡◌, ℕ, Bool, List, if◌then◌else◌, option_map, nat_lt}
use Rattle.h3_field.specs.Instruction.{DecoderInstruction}
use Rattle.h3_qpack.specs.DecoderState.{DecoderState}
use Rattle.h3_proto.specs.declared.stream.Side.{Side}
use Rattle.h3_connection.specs.Calls.{Sets}
use Rattle.h3_connection.specs.Endpoint.{heads_waiting}
use Rattle.h3_connection.specs.Incoming.{Incoming}
use Rattle.h3_connection.specs.Pulling.{Pulled, is_client, just, pull_stream}
use Rattle.h3_connection.specs.Sending.{if_too_many}
use Rattle.h3_connection.specs.State.{RequestState, kept_at}
use Rattle.h3_connection.specs.StreamSets.{Streams, HaveDistinctIds, stream_at, set_stream}
use Rattle.h3_connection.specs.declared.event.Pull.{Pull}
use Rattle.h3_connection.specs.declared.event.Pull.TheVariants as answer
use Rattle.h3_connection.specs.declared.setup.Announced.{Announced}
use Rattle.h3_incoming.specs.Gives.{Gives}
use Rattle.h3_incoming.specs.Resuming.{Resumes}

-- these are the receivers of the streams, as a history has them
pub record AreReceivers (receivers : Streams Incoming) (streams : Streams RequestState) : Type 0 where
  pub same : (q : ℕ) → option_map (λ r. r.incoming) (kept_at streams q) ≡ stream_at receivers q
  pub distinct : HaveDistinctIds receivers

-- what was pulled, or the fault where a stream too many would wait then (RFC 9204, section 2.1.2)
abbrev pub limited : Announced → ℕ → DecoderState → Streams Incoming → Pulled → Pulled
limited own id r receivers p = if_too_many (nat_lt own.limits.blocked (heads_waiting r (set_stream receivers id p.incoming))) p

-- The stream was pulled within that limit, and the other streams stay.
pub record PullsWithin (side : Side) (own : Announced) (id : ℕ) (r : DecoderState) (old new : Streams RequestState) (before after : RequestState) (answer : Pull) (replies written : List ℕ) : Type 0 where
  pub sets : Sets old new id (record before { incoming = after.incoming })
  pub gives : (receivers : Streams Incoming) → AreReceivers receivers old → Gives (limited own id r receivers (pull_stream side own id r before.incoming)) answer after.incoming replies written

-- The stream goes on as if it had not been pulled, and the other streams stay.
pub record ResumesThere (own : Announced) (old new : Streams RequestState) (id : ℕ) (before after : RequestState) : Type 0 where
  pub sets : Sets old new id (record before { incoming = after.incoming })
  pub resumes : Resumes own before.incoming after.incoming

-- The pull of a stream that is over changes nothing of it: it answers what is settled, or the fault where too many streams wait.
pub record AnswersOver (i : Incoming) (are_too_many : Bool) (answer : Pull) : Type 0 where
  pub given : Pull
  pub settled : (side : Side) (own : Announced) (id : ℕ) (r : DecoderState) → pull_stream side own id r i ≡ just given i
  pub judged : (replies : List DecoderInstruction)
      → if_too_many are_too_many (record { answer = given; incoming = i; replies = replies }) ≡ record { answer = answer; incoming = i; replies = replies }

-- what a pull answers of a request stream that is not open
abbrev pub unopened_answer : Side → Pull
unopened_answer side = if is_client side then answer.NoMessages else answer.Pending
