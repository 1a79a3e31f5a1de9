-- What two stored endpoints answer to an event, by the histories that they stand for.
use Rattle.std.specs.Prelude.{◌≡◌, ℕ, not, ◌&&◌, List, ◌++◌, length, take, nat_lt, ◌==◌, if◌then◌else◌, Bool, true, false, Option, Some, None, Result, Ok, Err}
use Rattle.std.specs.List.{list_any}
use Rattle.h3_connection.specs.Answers.{call_refused, body_refused, delivery_refused}
use Rattle.h3_connection.specs.Endpoint.{EndpointHistory, bytes_waiting}
use Rattle.h3_connection.specs.Keeping.{arrives}
use Rattle.h3_connection.specs.Sending as sender
use Rattle.h3_connection.specs.Shown.{has_outgoing, waiting, is_finished, is_reset, peer_limits, table_sizes, waiting_heads}
use Rattle.h3_connection.specs.State.{EndpointState, StandsFor}
use Rattle.h3_connection.specs.declared.arrival.Arrival.TheVariants.{BytesCame, EndCame, ResetCame}
use Rattle.h3_connection.specs.declared.event.DeliverError.{DeliverError}
use Rattle.h3_connection.specs.declared.event.DeliverError.TheVariants as deliver_error
use Rattle.h3_connection.specs.declared.event.Refusal.{Refusal}
use Rattle.h3_world.specs.declared.event.Event.{Event}
use Rattle.h3_world.specs.declared.event.Answer.{Answer}
use Rattle.h3_world.specs.declared.event.Answer.TheVariants as answer
use Rattle.h3_world.specs.Delivering.{reset_code}
use Rattle.h3_world.specs.Ends.{Ends, ends_after, answers_of_ends}
use Rattle.h3_world.specs.Headline.{is_out_of_memory}

-- success, or why the call was refused
abbrev pub answer_of : Answer → Option Refusal → Answer
answer_of success None = success
answer_of success (Some r) = answer.Refused r

-- what the calls of an end answer
abbrev pub done_answer : Result Unit Refusal → Answer
done_answer result = answer_of answer.Done (call_refused result)

abbrev pub body_answer : Result Unit (Refusal × List ℕ) → Answer
body_answer result = answer_of answer.Done (body_refused result)

abbrev pub told_answer : Result Unit DeliverError → Answer
told_answer result = answer_of answer.Done (delivery_refused result)

abbrev pub opened_answer : Result ℕ Refusal → Answer
opened_answer (Ok id) = answer.Opened id
opened_answer (Err r) = answer.Refused r

-- What goes from a writer to a reader: the answer, and both after it.
pub record Carried : Type 0 where
  pub given : Answer
  pub writer : EndpointHistory
  pub reader : EndpointHistory

abbrev pub nothing_goes : Answer → EndpointHistory → EndpointHistory → Carried
nothing_goes given w r = record { given = given; writer = w; reader = r }

abbrev pub bytes_taken : EndpointHistory → EndpointHistory → ℕ → ℕ → Option Refusal × EndpointHistory → Carried
bytes_taken w r id count (None, after) = record { given = answer.Delivered count; writer = sender.advance w id count; reader = after }
bytes_taken w r id count (Some refused, after) = record { given = answer.Refused refused; writer = w; reader = after }

abbrev pub bytes_go : EndpointHistory → EndpointHistory → ℕ → ℕ → Carried
bytes_go w r id count =
    if not (has_outgoing w id) then nothing_goes answer.NoStream w r else (
    if nat_lt (waiting w id) count then nothing_goes (answer.Short (waiting w id)) w r else
    bytes_taken w r id count (arrives r (BytesCame id (take count (bytes_waiting w id)))))

abbrev pub told : EndpointHistory → Option Refusal × EndpointHistory → Carried
told w (None, after) = record { given = answer.Done; writer = w; reader = after }
told w (Some refused, after) = record { given = answer.Refused refused; writer = w; reader = after }

abbrev pub end_goes : EndpointHistory → EndpointHistory → ℕ → Carried
end_goes w r id =
    if not (has_outgoing w id) then nothing_goes answer.NoStream w r else (
    if not (is_finished w id && (waiting w id == 0)) then nothing_goes answer.Early w r else told w (arrives r (EndCame id)))

abbrev pub reset_goes : EndpointHistory → EndpointHistory → ℕ → Carried
reset_goes w r id =
    if not (has_outgoing w id) then nothing_goes answer.NoStream w r else (
    if not (is_reset w id) then nothing_goes answer.Early w r else told w (arrives r (ResetCame id reset_code)))

-- It goes so between what is stored, unless memory was refused.
abbrev pub Carries : (EndpointHistory → EndpointHistory → Carried) → EndpointState → EndpointState → Answer → EndpointState → EndpointState → Type 0
Carries goes writer reader given writer_after reader_after =
    (w r : EndpointHistory) → StandsFor writer w → StandsFor reader r → is_out_of_memory given ≡ false →
    (given ≡ (goes w r).given) × StandsFor writer_after (goes w r).writer × StandsFor reader_after (goes w r).reader

-- The first bytes that wait on the stream were appended.
abbrev pub CopiesOutgoing : EndpointState → ℕ → ℕ → List ℕ → List ℕ → Type 0
CopiesOutgoing s id count before after = (e : EndpointHistory) → StandsFor s e → after ≡ before ++ take count (bytes_waiting e id)

-- The answer shows the limits that the peer set, both tables, and how many streams wait.
abbrev pub Shown : EndpointState → Answer → Type 0
Shown s given = (e : EndpointHistory) → StandsFor s e → given ≡ answer.Shown (peer_limits e) (table_sizes e) (waiting_heads e)

-- The answers are those of the ends that these endpoints stood for, and the endpoints now stand for the ends after them.
pub record RunsTo (ends : Ends) (events : List Event) (answers : List Answer) (client server : EndpointState) : Type 0 where
  pub answered_so : answers ≡ answers_of_ends ends events
  pub client_stands : StandsFor client (ends_after ends events).client
  pub server_stands : StandsFor server (ends_after ends events).server

-- Each event is answered; and the answers, up to the first that tells of refused memory, are those of these ends.
pub record AnswersEach (ends : Ends) (events : List Event) (answers : List Answer) : Type 0 where
  pub as_many : length answers ≡ length events
  pub until_memory : (n : ℕ) → list_any is_out_of_memory (take n answers) ≡ false → take n answers ≡ answers_of_ends ends (take n events)

-- a delivery that failed
abbrev pub failed : DeliverError → Result Unit DeliverError
failed e = Err e

-- what was offered was taken, be it read or not
abbrev pub is_stored : Result Unit DeliverError → Bool
is_stored (Ok done) = true
is_stored (Err deliver_error.Kept) = true
is_stored (Err (deliver_error.Refused r)) = false
is_stored (Err (deliver_error.OutOfMemory bytes)) = false
