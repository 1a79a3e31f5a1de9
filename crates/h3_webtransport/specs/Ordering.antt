-- Which stream sends next, with sessions beside an endpoint.
use Rattle.std.specs.Prelude.{◌≡◌, ◌==◌, ◌&&◌, ◌||◌, ℕ, Bool, true, false, not, nat_lt, Option, Some, None, is_none, Result, if◌then◌else◌}
use Rattle.h3_proto.specs.StreamIds.{is_request_stream}
use Rattle.h3_connection.specs.Answers.{call_refused}
use Rattle.h3_connection.specs.ByPriority.{Holds}
use Rattle.h3_connection.specs.EndsWaiting.{ShowsNextToSend}
use Rattle.h3_connection.specs.NextWaiting.{IsLeast}
use Rattle.h3_connection.specs.Prioritizing.{SendsNext}
use Rattle.h3_connection.specs.SendingContracts.{Advances}
use Rattle.h3_connection.specs.Shutdown.{ShowsDrained}
use Rattle.h3_connection.specs.State.{EndpointState}
use Rattle.h3_connection.specs.declared.event.Refusal.{Refusal}
use Rattle.h3_connection.specs.declared.event.Refusal.TheVariants.{NotOpen}
use Rattle.h3_webtransport_streams.specs.Sender.{held}
use Rattle.h3_webtransport_streams.specs.SessionStream.{Changes, has_something, passes, sending, takes, takes_turns}
use Rattle.h3_webtransport_streams.specs.Sessions.{IsTurn, turn_over}
use Rattle.h3_webtransport.specs.Joint.{Joint, has_stream, stored_at}
use Rattle.h3_webtransport.specs.Parts.{Parts, ActsHere, UnlessClosed}

-- bytes of a stream of a session were taken: a request's is next
abbrev pub raw_taken : Joint → Joint → ℕ → ℕ → Joint
raw_taken s t id count =
    record s {
      sessions = record s.sessions { streams = t.sessions.streams; from = turn_over s.sessions.from id count };
      is_next = if count == 0 then s.is_next else false;
    }

-- bytes of another stream were: where it is a request's and sessions are on, one of a session is next
abbrev pub other_taken : Joint → ℕ → ℕ → Joint
other_taken s id count = record s { is_next = if s.is_on && not (count == 0) && is_request_stream id then true else s.is_next }

-- `advance`
abbrev pub AdvancesOn : EndpointState → EndpointState → Joint → Joint → ℕ → ℕ → Type 0
AdvancesOn e f s t id count =
    Parts (has_stream s id)
    ((f ≡ e) × Changes (λ x. takes x count) s.sessions.streams t.sessions.streams id × (t ≡ raw_taken s t id count))
    ((t ≡ other_taken s id count) × Advances e f id count)

-- of two streams the lower one
abbrev pub lower_of : Option ℕ → Option ℕ → Option ℕ
lower_of first None = first
lower_of None (Some id) = Some id
lower_of (Some other) (Some id) = if nat_lt other id then Some other else Some id

-- `next_to_send`: the lower of the endpoint's and that of sessions
pub record SendsLowest (e : EndpointState) (s : Joint) (from : ℕ) (result : Option ℕ) : Type 0 where
  pub first : Option ℕ
  pub raw : Option ℕ
  pub first_is : ShowsNextToSend e from first
  pub raw_is : s.is_on ≡ true → IsLeast (λ id. passes has_something (stored_at s id)) from raw
  pub is : result ≡ (if s.is_on then lower_of first raw else first)

-- which of two sends: the endpoint's own stream comes first, and a request's takes turns with one of a session
abbrev pub turn_of : Bool → Option ℕ → Option ℕ → Option ℕ
turn_of is_next first None = first
turn_of is_next None (Some id) = Some id
turn_of is_next (Some other) (Some id) = if not (is_request_stream other) || not is_next then Some other else Some id

-- `next_by_priority`
pub record SendsInTurn (e f : EndpointState) (s : Joint) (result : Option ℕ) : Type 0 where
  pub first : Option ℕ
  pub raw : Option ℕ
  pub first_is : SendsNext e f first
  pub raw_is : s.is_on ≡ true → IsTurn (λ id. passes takes_turns (stored_at s id)) s.sessions.from raw
  pub is : result ≡ (if s.is_on then turn_of s.is_next first raw else first)

-- `hold`
abbrev pub held_refusal : Bool → Option Refusal
held_refusal true = None
held_refusal false = Some NotOpen

pub record HoldsRaw (s t : Joint) (id : ℕ) (is_held : Bool) (refused : Option Refusal) : Type 0 where
  pub there : Bool
  pub acts : ActsHere false (sending false (λ x. (true, held x is_held))) s t id there
  pub is : refused ≡ held_refusal there

abbrev pub HoldsOn : EndpointState → EndpointState → Joint → Joint → ℕ → Bool → Result Unit Refusal → Type 0
HoldsOn e f s t id is_held result =
    Parts (has_stream s id) ((f ≡ e) × UnlessClosed e.closed s t (call_refused result) (HoldsRaw s t id is_held (call_refused result)))
    ((t ≡ s) × Holds e f id is_held result)

-- `is_drained`: the endpoint is, and nothing waits on a stream of a session
pub record DrainsOn (e : EndpointState) (s : Joint) (result : Bool) : Type 0 where
  pub first : Bool
  pub raw : Option ℕ
  pub first_is : ShowsDrained e first
  pub raw_is : s.is_on ≡ true → IsLeast (λ id. passes has_something (stored_at s id)) 0 raw
  pub is : result ≡ (if s.is_on then first && is_none raw else first)
