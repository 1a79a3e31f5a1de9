-- Events of two endpoints, side by side.
use Rattle.std.proofs.Common.{◌≡◌, ℕ, Bool, true, false, Option, Some, None, refl, subst}
use Rattle.std.specs.Prelude.{not, ◌&&◌, nat_lt, take, ◌==◌, if◌then◌else◌}
use Rattle.h3_proto.specs.declared.stream.Side.TheVariants.{Client, Server}
use Rattle.h3_connection.specs.Endpoint.{EndpointHistory, bytes_waiting}
use Rattle.h3_connection.specs.Keeping.{arrives}
use Rattle.h3_connection.specs.Shown.{has_outgoing, waiting, is_finished, is_reset}
use Rattle.h3_connection.specs.State.{EndpointState, StandsFor}
use Rattle.h3_connection.specs.declared.arrival.Arrival.TheVariants.{BytesCame, EndCame, ResetCame}
use Rattle.h3_connection.specs.declared.event.Refusal.{Refusal}
use Rattle.h3_world.specs.Delivering.{reset_code}
use Rattle.h3_world.specs.Ends.{Ends, answered, done, was_offered, delivery, end_delivery, reset_delivery}
use Rattle.h3_world.specs.Headline.{is_out_of_memory}
use Rattle.h3_world.specs.declared.event.Answer.{Answer}
use Rattle.h3_world.specs.declared.event.Event.{Event}
use Rattle.h3_world.specs.declared.event.Answer.TheVariants as answer
use Rattle.h3_session.specs.Running.{answer_of, Carried, nothing_goes, bytes_taken, told, bytes_go, end_goes, reset_goes}

-- The answer is that of two histories which the endpoints stand for, and what they hold then stands for the histories after it;
-- unless memory was refused.
abbrev pub AnswersEvent : Event → EndpointState → EndpointState → Answer → EndpointState → EndpointState → Type 0
AnswersEvent event client server given client_after server_after =
    (ends : Ends) → StandsFor client ends.client → StandsFor server ends.server → is_out_of_memory given ≡ false →
    (given ≡ (answered ends event).0) × StandsFor client_after (answered ends event).1.client × StandsFor server_after (answered ends event).1.server

-- a call of one end: the answer, and what both stand for then
abbrev pub Ended : Answer → EndpointState → EndpointState → Answer × Ends → Type 0
Ended given client server x = (given ≡ x.0) × StandsFor client x.1.client × StandsFor server x.1.server

client_by : (ends : Ends) (client server : EndpointState) (success : Answer) (refused : Option Refusal) (after : EndpointHistory) → StandsFor client after → StandsFor server ends.server
    → Ended (answer_of success refused) client server (done ends Client success (refused, after))
client_by ends client server success None after c s = (refl, c, s)
client_by ends client server success (Some r) after c s = (refl, c, s)

server_by : (ends : Ends) (client server : EndpointState) (success : Answer) (refused : Option Refusal) (after : EndpointHistory) → StandsFor client ends.client → StandsFor server after
    → Ended (answer_of success refused) client server (done ends Server success (refused, after))
server_by ends client server success None after c s = (refl, c, s)
server_by ends client server success (Some r) after c s = (refl, c, s)

pub client_done : (ends : Ends) (client server : EndpointState) (success : Answer) (refused : Option Refusal) (x : Option Refusal × EndpointHistory) → refused ≡ x.0 → StandsFor client x.1 → StandsFor server ends.server
    → Ended (answer_of success refused) client server (done ends Client success x)
client_done ends client server success refused x is c s =
    subst (λ r. Ended (answer_of success refused) client server (done ends Client success (r, x.1))) is (client_by ends client server success refused x.1 c s)

pub server_done : (ends : Ends) (client server : EndpointState) (success : Answer) (refused : Option Refusal) (x : Option Refusal × EndpointHistory) → refused ≡ x.0 → StandsFor client ends.client → StandsFor server x.1
    → Ended (answer_of success refused) client server (done ends Server success x)
server_done ends client server success refused x is c s =
    subst (λ r. Ended (answer_of success refused) client server (done ends Server success (r, x.1))) is (server_by ends client server success refused x.1 c s)

-- the same with the ends put together again
abbrev pub client_wrote : Carried → Answer × Ends
client_wrote c = (c.given, record { client = c.writer; server = c.reader })

abbrev pub server_wrote : Carried → Answer × Ends
server_wrote c = (c.given, record { client = c.reader; server = c.writer })

client_bytes_by : (ends : Ends) (id count waits : ℕ) (none short : Bool) (x : Option Refusal × EndpointHistory)
    → (if none then (answer.NoStream, ends) else (if short then (answer.Short waits, ends) else was_offered ends Client id count x))
    ≡ client_wrote (if none then nothing_goes answer.NoStream ends.client ends.server else (
    if short then nothing_goes (answer.Short waits) ends.client ends.server else bytes_taken ends.client ends.server id count x))
client_bytes_by ends id count waits true short x = refl
client_bytes_by ends id count waits false true x = refl
client_bytes_by ends id count waits false false (None, after) = refl
client_bytes_by ends id count waits false false (Some r, after) = refl

pub client_bytes : (ends : Ends) (id count : ℕ) → delivery ends Client id count ≡ client_wrote (bytes_go ends.client ends.server id count)
client_bytes ends id count =
    let w = ends.client in
    client_bytes_by ends id count (waiting w id) (not (has_outgoing w id)) (nat_lt (waiting w id) count) (arrives ends.server (BytesCame id (take count (bytes_waiting w id))))

server_bytes_by : (ends : Ends) (id count waits : ℕ) (none short : Bool) (x : Option Refusal × EndpointHistory)
    → (if none then (answer.NoStream, ends) else (if short then (answer.Short waits, ends) else was_offered ends Server id count x))
    ≡ server_wrote (if none then nothing_goes answer.NoStream ends.server ends.client else (
    if short then nothing_goes (answer.Short waits) ends.server ends.client else bytes_taken ends.server ends.client id count x))
server_bytes_by ends id count waits true short x = refl
server_bytes_by ends id count waits false true x = refl
server_bytes_by ends id count waits false false (None, after) = refl
server_bytes_by ends id count waits false false (Some r, after) = refl

pub server_bytes : (ends : Ends) (id count : ℕ) → delivery ends Server id count ≡ server_wrote (bytes_go ends.server ends.client id count)
server_bytes ends id count =
    let w = ends.server in
    server_bytes_by ends id count (waiting w id) (not (has_outgoing w id)) (nat_lt (waiting w id) count) (arrives ends.client (BytesCame id (take count (bytes_waiting w id))))

-- an end or a reset
client_told_by : (ends : Ends) (none early : Bool) (x : Option Refusal × EndpointHistory)
    → (if none then (answer.NoStream, ends) else (if early then (answer.Early, ends) else done ends Server answer.Done x))
    ≡ client_wrote (if none then nothing_goes answer.NoStream ends.client ends.server else (if early then nothing_goes answer.Early ends.client ends.server else told ends.client x))
client_told_by ends true early x = refl
client_told_by ends false true x = refl
client_told_by ends false false (None, after) = refl
client_told_by ends false false (Some r, after) = refl

server_told_by : (ends : Ends) (none early : Bool) (x : Option Refusal × EndpointHistory)
    → (if none then (answer.NoStream, ends) else (if early then (answer.Early, ends) else done ends Client answer.Done x))
    ≡ server_wrote (if none then nothing_goes answer.NoStream ends.server ends.client else (if early then nothing_goes answer.Early ends.server ends.client else told ends.server x))
server_told_by ends true early x = refl
server_told_by ends false true x = refl
server_told_by ends false false (None, after) = refl
server_told_by ends false false (Some r, after) = refl

pub client_end : (ends : Ends) (id : ℕ) → end_delivery ends Client id ≡ client_wrote (end_goes ends.client ends.server id)
client_end ends id =
    let w = ends.client in
    client_told_by ends (not (has_outgoing w id)) (not (is_finished w id && (waiting w id == 0))) (arrives ends.server (EndCame id))

pub server_end : (ends : Ends) (id : ℕ) → end_delivery ends Server id ≡ server_wrote (end_goes ends.server ends.client id)
server_end ends id =
    let w = ends.server in
    server_told_by ends (not (has_outgoing w id)) (not (is_finished w id && (waiting w id == 0))) (arrives ends.client (EndCame id))

pub client_reset : (ends : Ends) (id : ℕ) → reset_delivery ends Client id ≡ client_wrote (reset_goes ends.client ends.server id)
client_reset ends id =
    let w = ends.client in client_told_by ends (not (has_outgoing w id)) (not (is_reset w id)) (arrives ends.server (ResetCame id reset_code))

pub server_reset : (ends : Ends) (id : ℕ) → reset_delivery ends Server id ≡ server_wrote (reset_goes ends.server ends.client id)
server_reset ends id =
    let w = ends.server in server_told_by ends (not (has_outgoing w id)) (not (is_reset w id)) (arrives ends.client (ResetCame id reset_code))
