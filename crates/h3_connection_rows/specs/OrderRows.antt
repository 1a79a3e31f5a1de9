-- Worked rows of which stream sends next (RFC 9218, section 10).
use Rattle.std.specs.Prelude.{ℕ, zero, suc, Bool, true, false, ◌||◌, List, [], ◌∷◌, length, map, nat_lt, Option, Some, None}
use Rattle.h3_priority.specs.Priority.{PriorityParameters}
use Rattle.h3_proto.specs.declared.stream.Side.TheVariants.{Client}
use Rattle.h3_scheduler.specs.Streams.{Stream, next_of}
use Rattle.h3_connection.specs.ByPriority.{first_own, hold, set_priority}
use Rattle.h3_connection.specs.CallLists.{endpoint_after}
use Rattle.h3_connection.specs.CallLists.Call.{Advance, OpenRequest}
use Rattle.h3_connection.specs.Endpoint.{EndpointHistory, new_endpoint}
use Rattle.h3_connection.specs.Order.{rounds_of}
use Rattle.h3_connection.specs.Outgoing.{Outgoing, OwnBody, end_waits, nothing_sent, part_bytes_waiting}
use Rattle.h3_connection.specs.Sending.{advance, with_outgoing}
use Rattle.h3_connection_rows.specs.Worked.{plain}

-- a stream as the scheduler has it
abbrev pub sender : ℕ × Outgoing → ℕ × Stream
sender s = (
  s.0,
  record {
    priority = s.1.precedence.priority;
    is_ready = nat_lt 0 (length (part_bytes_waiting s.1)) || end_waits s.1;
    is_held = s.1.precedence.is_held;
  },
)

-- who sends next, computed over the list of streams
abbrev pub next_behind : Option ℕ → EndpointHistory → Option ℕ
next_behind (Some own) e = Some own
next_behind None e = next_of (rounds_of e.order.rounds) (map sender e.outgoing)

abbrev pub next_in : EndpointHistory → Option ℕ
next_in e = next_behind (first_own e) e

-- it sends a byte
abbrev pub after_turn_of : EndpointHistory → Option ℕ → EndpointHistory
after_turn_of e None = e
after_turn_of e (Some id) = advance e id 1

abbrev pub turns : ℕ → EndpointHistory → List (Option ℕ)
turns zero e = []
turns (suc n) e = next_in e ∷ turns n (after_turn_of e (next_in e))

abbrev pub urged : EndpointHistory → ℕ → ℕ → Bool → EndpointHistory
urged e id urgency incremental = (set_priority e id (record { urgency = urgency; incremental = incremental })).1

abbrev pub held : EndpointHistory → ℕ → Bool → EndpointHistory
held e id is = (hold e id is).1

-- A client with five streams, on each of which 20 bytes of a body wait. All that waited on its own streams was taken.
abbrev pub waiting : Outgoing
waiting = record nothing_sent { parts = OwnBody (1 ∷ 2 ∷ 3 ∷ 4 ∷ 5 ∷ 6 ∷ 7 ∷ 8 ∷ 9 ∷ 10 ∷ 11 ∷ 12 ∷ 13 ∷ 14 ∷ 15 ∷ 16 ∷ 17 ∷ 18 ∷ []) ∷ [] }

abbrev pub fresh : EndpointHistory
fresh = endpoint_after (new_endpoint Client (plain 1000 220 2)) (Advance 2 100 ∷ Advance 6 1 ∷ Advance 10 1 ∷ OpenRequest ∷ OpenRequest ∷ OpenRequest ∷ OpenRequest ∷ OpenRequest ∷ [])

abbrev pub five : EndpointHistory
five = with_outgoing (with_outgoing (with_outgoing (with_outgoing (with_outgoing fresh 0 waiting) 4 waiting) 8 waiting) 12 waiting) 16 waiting

-- 0 and 4 (urgency 3), 8 and 12 (3, incremental), 16 (1)
abbrev pub urgent : EndpointHistory
urgent = urged (urged (urged five 8 3 true) 12 3 true) 16 1 false

-- once 16 has no more
abbrev pub without_16 : EndpointHistory
without_16 = advance urgent 16 20

-- and once 0 has no more, behind a turn of its own
abbrev pub without_0 : EndpointHistory
without_0 = advance without_16 0 20
