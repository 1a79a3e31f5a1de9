-- Two endpoints and the bytes carried between them: what they answer to an event, where no memory is refused. Each call is that of
-- `h3_connection`.
use Rattle.std.specs.Prelude.{ℕ, not, ◌&&◌, List, [], ◌∷◌, take, nat_lt, ◌==◌, if◌then◌else◌, Option, Some, None}
use Rattle.h3_proto.specs.declared.stream.Side.{Side}
use Rattle.h3_proto.specs.declared.stream.Side.TheVariants.{Client, Server}
use Rattle.h3_connection.specs.declared.arrival.Arrival.TheVariants.{BytesCame, EndCame, ResetCame}
use Rattle.h3_connection.specs.Endpoint.{EndpointHistory, new_endpoint, bytes_waiting}
use Rattle.h3_connection.specs.Keeping.{arrives, pulls}
use Rattle.h3_connection.specs.OwnIds.{other}
use Rattle.h3_connection.specs.Sending as sender
use Rattle.h3_connection.specs.Shown.{has_outgoing, waiting, is_finished, is_reset, peer_limits, table_sizes, waiting_heads}
use Rattle.h3_connection.specs.declared.event.Pull.{Pull}
use Rattle.h3_connection.specs.declared.event.Refusal.{Refusal}
use Rattle.h3_world.specs.Setup.{Setup}
use Rattle.h3_world.specs.declared.event.Event.{Event}
use Rattle.h3_world.specs.declared.event.Event.TheVariants as event
use Rattle.h3_world.specs.declared.event.Answer.{Answer}
use Rattle.h3_world.specs.declared.event.Answer.TheVariants as answer
use Rattle.h3_world.specs.Delivering.{reset_code}
use Rattle.h3_connection.specs.Coming.{fields_behind}
use Rattle.h3_connection.specs.Lists.{listed_pull}
use Rattle.h3_world.specs.EndLists.{send_fields, send_trailer_fields}

pub record Ends : Type 0 where
  pub client : EndpointHistory
  pub server : EndpointHistory

abbrev pub new_ends : Setup → Ends
new_ends setup = record { client = new_endpoint Client setup.client; server = new_endpoint Server setup.server }

abbrev pub end_at : Ends → Side → EndpointHistory
end_at ends Client = ends.client
end_at ends Server = ends.server

abbrev pub with_end : Ends → Side → EndpointHistory → Ends
with_end ends Client e = record ends { client = e }
with_end ends Server e = record ends { server = e }

-- a call of one end
abbrev pub done : Ends → Side → Answer → Option Refusal × EndpointHistory → Answer × Ends
done ends side success (None, e) = (success, with_end ends side e)
done ends side success (Some r, e) = (answer.Refused r, with_end ends side e)

abbrev pub was_pulled : Ends → Side → Pull × EndpointHistory → Answer × Ends
was_pulled ends side (p, e) = (answer.Pulled p, with_end ends side e)

-- a pull with lists: that pull, with the list that comes next in the place of a header
abbrev pub was_listed : Ends → Side → ℕ → Pull × EndpointHistory → Answer × Ends
was_listed ends side id (p, e) = (answer.Listed (listed_pull (fields_behind (end_at ends side).kept (end_at ends side) id) p), with_end ends side e)

-- so many bytes were offered to the other end: they leave the writer where they were taken
abbrev pub was_offered : Ends → Side → ℕ → ℕ → Option Refusal × EndpointHistory → Answer × Ends
was_offered ends writer id count (None, e) =
    (answer.Delivered count, with_end (with_end ends writer (sender.advance (end_at ends writer) id count)) (other writer) e)
was_offered ends writer id count (Some r, e) = (answer.Refused r, with_end ends (other writer) e)

abbrev pub delivery : Ends → Side → ℕ → ℕ → Answer × Ends
delivery ends writer id count =
    let e = end_at ends writer in
    if not (has_outgoing e id) then (answer.NoStream, ends) else (
    if nat_lt (waiting e id) count then (answer.Short (waiting e id), ends) else
    was_offered ends writer id count (arrives (end_at ends (other writer)) (BytesCame id (take count (bytes_waiting e id)))))

abbrev pub end_delivery : Ends → Side → ℕ → Answer × Ends
end_delivery ends writer id =
    let e = end_at ends writer in
    if not (has_outgoing e id) then (answer.NoStream, ends) else (
    if not (is_finished e id && (waiting e id == 0)) then (answer.Early, ends) else
    done ends (other writer) answer.Done (arrives (end_at ends (other writer)) (EndCame id)))

abbrev pub reset_delivery : Ends → Side → ℕ → Answer × Ends
reset_delivery ends writer id =
    let e = end_at ends writer in
    if not (has_outgoing e id) then (answer.NoStream, ends) else (
    if not (is_reset e id) then (answer.Early, ends) else
    done ends (other writer) answer.Done (arrives (end_at ends (other writer)) (ResetCame id reset_code)))

-- what the ends answer to an event, and the ends after it
abbrev pub answered : Ends → Event → Answer × Ends
answered ends (event.OpenRequest side) = done ends side (answer.Opened (end_at ends side).next_id) (sender.open_request (end_at ends side))
answered ends (event.Head side id head) = done ends side answer.Done (sender.send_head (end_at ends side) id head)
answered ends (event.Fields side id fields) = done ends side answer.Done (send_fields (end_at ends side) id fields)
answered ends (event.Body side id bytes) = done ends side answer.Done (sender.send_body (end_at ends side) id bytes)
answered ends (event.Trailer side id trailer) = done ends side answer.Done (sender.send_trailer (end_at ends side) id trailer)
answered ends (event.TrailerFields side id fields) = done ends side answer.Done (send_trailer_fields (end_at ends side) id fields)
answered ends (event.Finish side id) = done ends side answer.Done (sender.finish (end_at ends side) id)
answered ends (event.Reset side id) = done ends side answer.Done (sender.reset (end_at ends side) id)
answered ends (event.Cancel side id) = done ends side answer.Done (sender.cancel (end_at ends side) id)
answered ends (event.Goaway side id) = done ends side answer.Done (sender.goaway (end_at ends side) id)
answered ends (event.Deliver side id count) = delivery ends side id count
answered ends (event.DeliverEnd side id) = end_delivery ends side id
answered ends (event.DeliverReset side id) = reset_delivery ends side id
answered ends (event.Pull side id) = was_pulled ends side (pulls (end_at ends side) id)
answered ends (event.PullFields side id) = was_listed ends side id (pulls (end_at ends side) id)
answered ends (event.Show side) =
    let e = end_at ends side in
    (answer.Shown (peer_limits e) (table_sizes e) (waiting_heads e), ends)

-- the ends that the events lead to
abbrev pub ends_after : Ends → List Event → Ends
ends_after ends [] = ends
ends_after ends (e ∷ es) = ends_after (answered ends e).1 es

-- the answers to the events, in order
abbrev pub answers_of_ends : Ends → List Event → List Answer
answers_of_ends ends [] = []
answers_of_ends ends (e ∷ es) =
    let next = answered ends e in
    next.0 ∷ answers_of_ends next.1 es
