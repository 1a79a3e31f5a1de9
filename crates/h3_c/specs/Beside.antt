-- What calls do that sessions of WebTransport answer (`h3_webtransport`): on a stream of a session, or as the endpoint does on another.
use Rattle.std.specs.Prelude.{◌++◌, ◌&&◌, ◌==◌, take, drop, min, ◌≡◌, ◌⊎◌, ◌≤◌, ◌<◌, ℕ, Bool, true, false, is_some, List, length, Option, Some, None}
use Rattle.h3_connection.specs.Endpoint.{EndpointHistory, bytes_waiting}
use Rattle.h3_connection.specs.Shown.{has_outgoing, is_finished, is_reset, block_tries}
use Rattle.h3_connection.specs.State.{StandsFor}
use Rattle.h3_connection.specs.Unread.{unread, counted}
use Rattle.h3_webtransport.specs.Closing.{ClosesOn}
use Rattle.h3_webtransport.specs.Joint.{Joint, has_stream, is_read, stored_at}
use Rattle.h3_webtransport.specs.Ordering.{AdvancesOn, DrainsOn, HoldsOn, SendsInTurn, SendsLowest}
use Rattle.h3_webtransport.specs.Receiving.{CancelsOn, DeliversOn as DeliversBeside, EndsOn, raw_unread}
use Rattle.h3_webtransport.specs.Sending.{FinishesOn, ResetsOn, TakesEndOn, raw_finished, raw_reset, raw_waiting}
use Rattle.h3_webtransport_streams.specs.SessionStream.{sender_of}
use Rattle.h3_c.specs.Bits.{bit}
use Rattle.h3_c.specs.Closing.{GivesFrames}
use Rattle.h3_c.specs.Does.{CallOfC, Does}
use Rattle.h3_c.specs.Does.CallOfC.{Advance, Cancel, CloseStream, Deliver, DeliverEnd, DeliverReset, EndTaken, Finish, Hold, IsDrained, NextByPriority, NextToSend, Outgoing, Pull, Read, Reset, Stream}
use Rattle.h3_c.specs.Ending.{end_told}
use Rattle.h3_c.specs.Exported.{Calls, CallsOn, CopiesOut, DeliversOn, OnStream, Takes, Unwritten}
use Rattle.h3_c.specs.Numbers.{argument, call_told, delivery_told, none, ok}
use Rattle.h3_c.specs.Ordering.{IfGiven, flag_given}
use Rattle.h3_c.specs.PullsBeside.{PullsBeside}
use Rattle.h3_c.specs.ReadsBeside.{ReadsOnBeside}
use Rattle.h3_c.specs.Seen.{Seen}
use Rattle.h3_c.specs.declared.numbers.Told.{Told}
use Rattle.h3_c.specs.declared.state.StreamState.{StreamState}

-- a stream is named, or there is none, and no id is written
abbrev pub Finds : (Option ℕ → Type 0) → Told → ℕ → ℕ → Type 0
Finds found n before after = ((n ≡ ok) × found (Some after)) ⊎ ((n ≡ none) × found None × (after ≡ before))

-- `h3_end_taken`
pub record TakesEndBeside (v w : Seen) (id : ℕ) (n : Told) : Type 0 where
  pub waited : Bool
  pub is : n ≡ end_told waited
  pub taken : TakesEndOn v.endpoint w.endpoint v.sessions w.sessions id waited
  pub last : w.last ≡ v.last
  pub events : w.events ≡ v.events

-- `h3_is_drained`: 1 or 0
pub record DrainsBeside (v : Seen) (drained : ℕ) (n : Told) : Type 0 where
  pub answer : Bool
  pub done : n ≡ ok
  pub is : drained ≡ bit answer
  pub drains : DrainsOn v.endpoint v.sessions answer

-- `h3_outgoing`: the first bytes of a session's stream, as many as fit, at the front of C's buffer, and whether they are all of one that was finished
pub record CopiesRawOut (s : Joint) (id : ℕ) (before after : List ℕ) (count past fin : ℕ) : Type 0 where
  pub count_is : count ≡ min (length (raw_waiting s id)) (length before)
  pub front : after ≡ take (length before) (raw_waiting s id) ++ drop (length (raw_waiting s id)) before
  pub none : past ≡ 0
  pub last : fin ≡ bit (raw_finished s id && (length (raw_waiting s id) == count))

pub record CopiesBeside (v : Seen) (id : ℕ) (n : Told) (before after : List ℕ) (count past fin : ℕ) : Type 0 where
  pub done : n ≡ ok
  pub own : has_stream v.sessions id ≡ true → CopiesRawOut v.sessions id before after count past fin
  pub other : has_stream v.sessions id ≡ false → CopiesOut v id n before after count past fin
  pub within : count ≤ length before

-- `h3_advance`: not more than wait
pub record TakesBeside (v w : Seen) (id count : ℕ) (n : Told) : Type 0 where
  pub few : has_stream v.sessions id ≡ true → count ≤ length (raw_waiting v.sessions id) → n ≡ ok
  pub many : has_stream v.sessions id ≡ true → length (raw_waiting v.sessions id) < count → n ≡ argument
  pub other : has_stream v.sessions id ≡ false → Takes v w id count n
  pub taken : ((n ≡ ok) × AdvancesOn v.endpoint w.endpoint v.sessions w.sessions id count) ⊎ ((n ≡ argument) × (w ≡ v))
  pub last : w.last ≡ v.last
  pub events : w.events ≡ v.events

-- `h3_stream`: what is sent on a stream of a session,
pub record SendsSoRaw (s : Joint) (id : ℕ) (state : StreamState) : Type 0 where
  pub waiting : state.waiting ≡ length (raw_waiting s id)
  pub has_outgoing : state.has_outgoing ≡ bit (is_some (sender_of (stored_at s id)))
  pub is_finished : state.is_finished ≡ bit (raw_finished s id)
  pub is_reset : state.is_reset ≡ bit (raw_reset s id)

-- and on another
pub record SendsSo (e : EndpointHistory) (id : ℕ) (state : StreamState) : Type 0 where
  pub waiting : state.waiting ≡ length (bytes_waiting e id)
  pub has_outgoing : state.has_outgoing ≡ bit (has_outgoing e id)
  pub is_finished : state.is_finished ≡ bit (is_finished e id)
  pub is_reset : state.is_reset ≡ bit (is_reset e id)

pub record IsStreamBeside (closed : Option ℕ) (s : Joint) (e : EndpointHistory) (id : ℕ) (state : StreamState) : Type 0 where
  pub own : has_stream s id ≡ true → SendsSoRaw s id state
  pub other : has_stream s id ≡ false → SendsSo e id state
  pub own_unread : is_read s id ≡ true → state.unread ≡ raw_unread closed s id
  pub other_unread : is_read s id ≡ false → state.unread ≡ counted (unread e id)
  pub tries : state.tries ≡ block_tries e id

abbrev pub ShowsStreamBeside : Seen → ℕ → StreamState → Type 0
ShowsStreamBeside v id state = (e : EndpointHistory) → StandsFor v.endpoint e → IsStreamBeside v.endpoint.closed v.sessions e id state

-- `h3_close_stream`
abbrev pub ClosesBeside : Told → Seen → Seen → ℕ → ℕ → ℕ → ℕ → ℕ → Type 0
ClosesBeside n v w id stop_before stop reset_before reset =
    Calls call_told n v w (λ call. ClosesOn v.endpoint w.endpoint v.sessions w.sessions id call × GivesFrames call stop_before stop reset_before reset)

abbrev pub DoesBeside : CallOfC → Seen → Seen → Type 0
DoesBeside (Finish id n) v w = CallsOn call_told id n v w (λ call. FinishesOn v.endpoint w.endpoint v.sessions w.sessions id call)
DoesBeside (Reset id n) v w = CallsOn call_told id n v w (λ call. ResetsOn v.endpoint w.endpoint v.sessions w.sessions id call)
DoesBeside (Cancel id n) v w = CallsOn call_told id n v w (λ call. CancelsOn v.endpoint w.endpoint v.sessions w.sessions id call)
DoesBeside (CloseStream id stop_before stop reset_before reset n) v w =
    OnStream id n v w (ClosesBeside n v w id stop_before stop reset_before reset)
    × Unwritten id ((stop ≡ stop_before) × (reset ≡ reset_before))
DoesBeside (IsDrained drained n) v w = (w ≡ v) × DrainsBeside v drained n
DoesBeside (NextToSend from before id n) v w = (w ≡ v) × Finds (SendsLowest v.endpoint v.sessions from) n before id
DoesBeside (NextByPriority before id n) v w = (w ≡ record v { endpoint = w.endpoint }) × Finds (SendsInTurn v.endpoint w.endpoint v.sessions) n before id
DoesBeside (Hold id held n) v w =
    OnStream id n v w (IfGiven (flag_given held) n v w (λ is. Calls call_told n v w (λ call. HoldsOn v.endpoint w.endpoint v.sessions w.sessions id is call)))
DoesBeside (Outgoing id before buffer count_before count past_before past fin_before fin n) v w =
    (w ≡ v) × OnStream id n v w (CopiesBeside v id n before buffer count past fin)
    × Unwritten id ((buffer ≡ before) × (count ≡ count_before) × (past ≡ past_before) × (fin ≡ fin_before))
DoesBeside (Advance id count n) v w = OnStream id n v w (TakesBeside v w id count n)
DoesBeside (EndTaken id n) v w = OnStream id n v w (TakesEndBeside v w id n)
DoesBeside (Read id bytes fin used before item n) v w = ReadsOnBeside v w id bytes fin n before item used
DoesBeside (Deliver id bytes n) v w = DeliversOn delivery_told id n v w (λ call. DeliversBeside v.endpoint w.endpoint v.sessions w.sessions id bytes call)
DoesBeside (DeliverEnd id n) v w = DeliversOn delivery_told id n v w (λ call. EndsOn v.endpoint w.endpoint v.sessions w.sessions id None call)
DoesBeside (DeliverReset id code n) v w = DeliversOn delivery_told id n v w (λ call. EndsOn v.endpoint w.endpoint v.sessions w.sessions id (Some code) call)
DoesBeside (Pull id before item n) v w = OnStream id n v w (PullsBeside id n v w item) × Unwritten id (item ≡ before)
DoesBeside (Stream id before state n) v w = (w ≡ v) × OnStream id n v w ((n ≡ ok) × ShowsStreamBeside v id state) × Unwritten id (state ≡ before)
DoesBeside call v w = Does call v w × (w.sessions ≡ v.sessions)
