-- A stream of a session is given up both ways.
use Rattle.std.proofs.Common.{◌≡◌, ◌≢◌, ℕ, Bool, true, false, [], Option, Some, None, Ok, Err, refl, sym, ap, ◌∙◌, is_some, is_none, is_ok}
use Rattle.std.specs.Prelude.{Result, unwrap_or, ◌||◌, not, if◌then◌else◌}
use Rattle.h3_proto.specs.StreamIds.{is_request_stream}
use Rattle.h3_connection.specs.Answers.{call_refused}
use Rattle.h3_connection.specs.State.{EndpointState, kept_at}
use Rattle.h3_connection.specs.ReceivingContracts.{DeliversReset}
use Rattle.h3_connection.specs.SendingContracts.{Resets}
use Rattle.h3_connection.specs.StreamSets.{Streams}
use Rattle.h3_connection.specs.declared.event.DeliverError.{DeliverError}
use Rattle.h3_connection.specs.declared.event.Refusal.{Refusal}
use Rattle.h3_connection.specs.declared.event.Refusal.TheVariants.{Ended, NotOpen}
use Rattle.h3_session.specs.Lacking.{RefusesDeliveries}
use Rattle.h3_webtransport_streams.specs.Begun.{refusal_of}
use Rattle.h3_webtransport_streams.specs.Receiver.{Receiver}
use Rattle.h3_webtransport_streams.specs.Sender.{Sender, cut_off, end_told, is_end_next, is_sent_off}
use Rattle.h3_webtransport_streams.specs.SessionStream.{SessionStream, ActsOn, answer_at, on_sender, passes, receiver_of, sender_of, sending, unseen}
use Rattle.h3_webtransport.specs.Closing.{ClosesRaw, EndsRequest, EndsUnless, Forgets, GivesUpRequest, ResetsIf, Stops, StopsAt, StopsBehind, StopsOneWay, StopsRequest, ended_as, is_cut, resets_raw}
use Rattle.h3_webtransport.specs.Joint.{Joint, stored_at}
use Rattle.h3_webtransport.specs.Keeping.{ReadsKept, given_up_code}

-- what comes on it: it is read here,
stops_own : (e : EndpointState) (id : ℕ) (r : Option Receiver) (why : Option Refusal) → is_some r ≡ true → why ≡ refusal_of r → Stops r e e id (Ok (is_none why))
stops_own e id None why there is = absurd (cc)
stops_own e id (Some r) why there is = (ap (λ w. Ok (is_none w)) is, refl)

pub stops_here : (e : EndpointState) (id : ℕ) (o : Option SessionStream) (why : Option Refusal) → is_some (receiver_of o) ≡ true → why ≡ refusal_of (unwrap_or o unseen).receiver
    → Stops (receiver_of o) e e id (Ok (is_none why))
stops_here e id None why there is = absurd (cc)
stops_here e id (Some s) why there is = stops_own e id s.receiver why there is

-- or by the endpoint
module _ (e f : EndpointState) (id : ℕ) (r : Option Receiver) (result : Result Bool Refusal) where
  stops_other : is_some r ≡ false → StopsAt (is_request_stream id) e f id result → Stops r e f id result
  stops_other there stops = at r there
    where
      at : (o : Option Receiver) → is_some o ≡ false → Stops o e f id result
      at None none = stops
      at (Some x) none = absurd (cc)

  pub stops_request : is_some r ≡ false → is_request_stream id ≡ true → StopsBehind e f id result → Stops r e f id result
  stops_request there is stops = stops_other there (rw is stops)

  pub stops_one_way : is_some r ≡ false → is_request_stream id ≡ false → StopsOneWay e f id result → Stops r e f id result
  stops_one_way there is stops = stops_other there (rw is stops)

-- a request: what was kept is read first,
pub stops_behind : (e mid f : EndpointState) (id : ℕ) (result : Result Bool Refusal) → ReadsKept e mid (Ok tt) → StopsRequest mid f id result → StopsBehind e f id result
stops_behind e mid f id result reads stops = record { read = Ok tt; mid = mid; reads = reads; stops = stops }

pub stops_not : (e mid : EndpointState) (id : ℕ) (refusal : Refusal) → ReadsKept e mid (Err refusal) → StopsBehind e mid id (Err refusal)
stops_not e mid id refusal reads = record { read = Err refusal; mid = mid; reads = reads; stops = (refl, refl) }

-- and it ends now, or is refused, or its end came before
module _ (e mid f : EndpointState) (id : ℕ) (result : Result Bool Refusal) (reset : Result Unit DeliverError) where
  pub ends_it : (done : Result Unit Refusal) → DeliversReset e mid id given_up_code reset → result ≡ ended_as reset → is_ok result ≡ true → Resets mid f id done → EndsRequest e f id result
  ends_it done delivers is ok resets = record { reset = reset; mid = mid; delivers = delivers; resets = at result ok; is = is }
    where
      at : (r : Result Bool Refusal) → is_ok r ≡ true → ResetsIf r mid f id
      at (Ok stop) goes = (done, resets)
      at (Err refusal) goes = absurd (cc)

pub ends_not : (e mid : EndpointState) (id : ℕ) (result : Result Bool Refusal) (reset : Result Unit DeliverError) → DeliversReset e mid id given_up_code reset → result ≡ ended_as reset → is_ok result ≡ false
    → EndsRequest e mid id result
ends_not e mid id result reset delivers is not_ok = record { reset = reset; mid = mid; delivers = delivers; resets = at result not_ok; is = is }
  where
    at : (r : Result Bool Refusal) → is_ok r ≡ false → ResetsIf r mid mid id
    at (Ok stop) goes = absurd (cc)
    at (Err refusal) goes = refl

module _ (e f : EndpointState) (id : ℕ) (result : Result Bool Refusal) (why : Option Refusal) where
  pub ends_now : RefusesDeliveries e id why → is_none why ≡ true → EndsRequest e f id result → StopsRequest e f id result
  ends_now shows still ends = record { why = why; shows = shows; ends = at why still }
    where
      at : (o : Option Refusal) → is_none o ≡ true → EndsUnless o e f id result
      at None none = ends
      at (Some r) none = absurd (cc)

  pub ended_before : RefusesDeliveries e id why → is_none why ≡ false → GivesUpRequest e f id result → StopsRequest e f id result
  ended_before shows over gives = record { why = why; shows = shows; ends = at why over }
    where
      at : (o : Option Refusal) → is_none o ≡ false → EndsUnless o e f id result
      at None some = absurd (cc)
      at (Some r) some = gives

-- what is sent on it
ok_is : (result : Result Unit Refusal) → is_ok result ≡ is_none (call_refused result)
ok_is (Ok done) = refl
ok_is (Err r) = refl

-- its FIN is taken from it first, and then it is reset
abbrev ended_if : Bool → Sender → Bool × Sender
ended_if b x = if b then (true, record x { end_taken = true }) else (false, x)

abbrev cut_if : Bool → Sender → Option Refusal × Sender
cut_if b x = if b then (Some Ended, x) else (None, record x { waiting = []; is_finished = false; is_reset = true })

cut_rest : (x : Sender) (b : Bool) → is_none (cut_if b x).0 ≡ not b
cut_rest x true = refl
cut_rest x false = refl

cut_first : (x : Sender) (b : Bool) → ((ended_if b x).0 || is_none (cut_off (ended_if b x).1).0) ≡ (b || not (is_sent_off x))
cut_first x true = refl
cut_first x false = cut_rest x (is_sent_off x)

cuts_sender : (s : SessionStream) (o : Option Sender) → s.sender ≡ o
    → ((on_sender false end_told s o).0 || is_none (answer_at (Some NotOpen) (sending (Some NotOpen) cut_off) (Some (on_sender false end_told s o).1))) ≡ passes is_cut o
cuts_sender s None is = ap (λ x. is_none (on_sender (Some NotOpen) cut_off s x).0) is
cuts_sender s (Some x) is = cut_first x (is_end_next x)

-- the stream after its FIN was taken
abbrev ended : Option SessionStream → Option SessionStream
ended None = None
ended (Some s) = Some (sending false end_told s).1

cuts_stored : (o : Option SessionStream) → (answer_at false (sending false end_told) o || is_none (answer_at (Some NotOpen) (sending (Some NotOpen) cut_off) (ended o))) ≡ passes is_cut (sender_of o)
cuts_stored None = refl
cuts_stored (Some s) = cuts_sender s s.sender refl

module _ {A : Type 0} (absent : A) (act : SessionStream → A × SessionStream) (old new : Streams SessionStream) (id : ℕ) (answer : A) where
  answer_is : (o : Option SessionStream) → ActsOn absent act old new id answer o → answer ≡ answer_at absent act o
  answer_is None acts = acts.0
  answer_is (Some s) acts = acts.0

  others_are : (o : Option SessionStream) → ActsOn absent act old new id answer o → (q : ℕ) → q ≢ id → kept_at new q ≡ kept_at old q
  others_are None acts q differs = acts.1.each q
  others_are (Some s) acts q differs = acts.1.others q differs

ended_is : (old new : Streams SessionStream) (id : ℕ) (waited : Bool) (o : Option SessionStream) → kept_at old id ≡ o → ActsOn false (sending false end_told) old new id waited o → kept_at new id ≡ ended o
ended_is old new id waited None is acts = acts.1.each id ∙ is
ended_is old new id waited (Some s) is acts = acts.1.here

module _ (s : Joint) (mid new : Streams SessionStream) (id : ℕ) (waited : Bool) (result : Result Unit Refusal) where
  pub cuts_here : ActsOn false (sending false end_told) s.sessions.streams mid id waited (stored_at s id)
      → ActsOn (Some NotOpen) (sending (Some NotOpen) cut_off) mid new id (call_refused result) (kept_at mid id) → (waited || is_ok result) ≡ passes is_cut (sender_of (stored_at s id))
  cuts_here first next =
      ap (λ w. w || is_ok result) (answer_is false (sending false end_told) s.sessions.streams mid id waited (stored_at s id) first)
      ∙ ap (λ b. answer_at false (sending false end_told) (stored_at s id) || b) (ok_is result ∙ ap is_none (answer_is (Some NotOpen) (sending (Some NotOpen) cut_off) mid new id (call_refused result) (kept_at mid id) next))
      ∙ ap (λ o. answer_at false (sending false end_told) (stored_at s id) || is_none (answer_at (Some NotOpen) (sending (Some NotOpen) cut_off) o))
      (ended_is s.sessions.streams mid id waited (stored_at s id) refl first)
      ∙ cuts_stored (stored_at s id)

  pub forgets_all : (last : Streams SessionStream) → ActsOn false (sending false end_told) s.sessions.streams mid id waited (stored_at s id)
      → ActsOn (Some NotOpen) (sending (Some NotOpen) cut_off) mid new id (call_refused result) (kept_at mid id) → ((q : ℕ) → q ≢ id → kept_at last q ≡ kept_at new q)
      → (q : ℕ) → q ≢ id → kept_at last q ≡ stored_at s q
  forgets_all last first next others q differs =
      others q differs ∙ others_are (Some NotOpen) (sending (Some NotOpen) cut_off) mid new id (call_refused result) (kept_at mid id) next q differs
      ∙ others_are false (sending false end_told) s.sessions.streams mid id waited (stored_at s id) first q differs

-- both
module _ (e f : EndpointState) (s t : Joint) (id : ℕ) where
  pub closes_both : (stop reset : Bool) → Stops (receiver_of (stored_at s id)) e f id (Ok stop) → reset ≡ resets_raw s id → Forgets s t id
      → ClosesRaw e f s t id (Ok (record { stop_sending = stop; reset_stream = reset }))
  closes_both stop reset stops is forgets = record { stopped = Ok stop; stops = stops; gives = (ap (λ b. Ok (record { stop_sending = stop; reset_stream = b })) is, forgets) }

pub closes_none : (e f : EndpointState) (s : Joint) (id : ℕ) (r : Refusal) → Stops (receiver_of (stored_at s id)) e f id (Err r) → ClosesRaw e f s s id (Err r)
closes_none e f s id r stops = record { stopped = Err r; stops = stops; gives = (refl, refl) }
