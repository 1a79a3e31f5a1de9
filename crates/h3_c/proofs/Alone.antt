-- Where sessions of WebTransport are off, each call that sessions answer does what it does without them.
use Rattle.std.proofs.Common.{◌≡◌, ◌⊎◌, inl, inr, ℕ, ◌<◌, ◌≤◌, Bool, true, false, if◌then◌else◌, List, [], ◌∷◌, length, take, Option, Some, None, refl, sym, ap, subst, ◌∙◌}
use Rattle.std.specs.Prelude.{◌&&◌, ◌||◌, ◌==◌, ◌^◌, not, is_none, is_some, unwrap_or, Ok, Err}
use Rattle.std.proofs.lemmas.Bool.{cases_lt}
use Rattle.h3_proto.specs.StreamIds.{is_request_stream}
use Rattle.h3_connection.specs.Endpoint.{EndpointHistory}
use Rattle.h3_connection.specs.EndsWaiting.{ShowsNextToSend}
use Rattle.h3_connection.specs.ByPriority.{Holds}
use Rattle.h3_connection.specs.Prioritizing.{SendsNext}
use Rattle.h3_connection.specs.ReceivingContracts.{Delivers, DeliversEnd, DeliversReset}
use Rattle.h3_connection.specs.SendingContracts.{Cancels, Finishes, Resets}
use Rattle.h3_connection.specs.Shutdown.{is_rejected_in}
use Rattle.h3_connection.specs.State.{EndpointState, StandsFor}
use Rattle.h3_connection.specs.declared.event.DeliverError.TheVariants as deliver_error
use Rattle.h3_connection.specs.declared.event.Refusal.TheVariants as refusal
use Rattle.h3_incoming.specs.declared.body_place.BodyPlace.{BodyPlace}
use Rattle.h3_session.specs.Closing.{ClosesStream}
use Rattle.h3_webtransport.specs.Closing.{ClosesOn}
use Rattle.h3_webtransport.specs.Joint.{Joint, has_stream, is_begun_by_peer, is_one_way, is_read, is_server_opened, may_begin, stored_at}
use Rattle.h3_webtransport.specs.Ordering.{AdvancesOn, HoldsOn, SendsInTurn, SendsLowest, lower_of, other_taken, turn_of}
use Rattle.h3_webtransport.specs.Receiving.{CancelsOn, DeliversOn as DeliversBeside, EndsOn}
use Rattle.h3_webtransport.specs.Sending.{FinishesOn, ResetsOn}
use Rattle.h3_webtransport_streams.specs.SessionStream.{receiver_of}
use Rattle.h3_c.specs.Beside.{CopiesBeside, DoesBeside, DrainsBeside, Finds, IsStreamBeside, ShowsStreamBeside, TakesBeside, TakesEndBeside as TakesFinBeside}
use Rattle.h3_c.specs.Bits.{bit}
use Rattle.h3_c.specs.Closing.{GivesFrames}
use Rattle.h3_c.specs.Does.{CallOfC, Does}
use Rattle.h3_c.specs.Does.CallOfC.{Advance, Cancel, CloseStream, Deliver, DeliverEnd, DeliverReset, EndTaken, Finish, Hold, IsDrained, NextByPriority, NextToSend, Outgoing, Pull, Read, Reset, Stream}
use Rattle.h3_c.specs.Ending.{TakesEndOf}
use Rattle.h3_c.specs.Exported.{Calls, CopiesOut, OnStream, Pulls, StepsAlone, StepsBeside, Takes, UnlessRejected}
use Rattle.h3_c.specs.Numbers.{argument, call_told, delivery_told, number, ok}
use Rattle.h3_c.specs.Ordering.{IfGiven, flag_given}
use Rattle.h3_c.specs.PullsBeside.{PullsBeside}
use Rattle.h3_c.specs.Reads.{EndsThere, ReadsAt, ReadsCopied, ReadsNext, RefusesEnd, StopsAt, TakesBytes, TakesEnd, ends_with}
use Rattle.h3_c.specs.Reads.ReadsCopied.{pulled, stopped, unended}
use Rattle.h3_c.specs.ReadsBeside.{EndsThereBeside, ReadsAtBeside, ReadsCopiedBeside, ReadsNextBeside, RefusesEndBeside, StaysShown, StopsAtBeside, TakesBytesBeside, TakesEndBeside}
use Rattle.h3_c.specs.ReadsBeside.ReadsCopiedBeside.{pulled_beside, stopped_beside, unended_beside}
use Rattle.h3_c.specs.Seen.{Seen}
use Rattle.h3_c.specs.Showing.{IsStream}
use Rattle.h3_c.specs.Shutdown.{ShowsIsDrained}
use Rattle.h3_c.specs.declared.connection.reading.Stop.{Stop}
use Rattle.h3_c.specs.declared.items.PulledItem.{PulledItem}
use Rattle.h3_c.specs.declared.numbers.Told.{Told}
use Rattle.h3_c.specs.declared.state.StreamState.{StreamState}

-- No stream is one of a session then, and none is read beside the endpoint.
none_is_stored : (s : Joint) (id : ℕ) → s.is_on ≡ false → has_stream s id ≡ false
none_is_stored s id off = ap (λ on. on && is_some (stored_at s id)) off

pub none_is_read : (s : Joint) (id : ℕ) → s.is_on ≡ false → is_read s id ≡ false
none_is_read s id off = ap (λ on. on && (is_some (receiver_of (stored_at s id)) || (is_server_opened s.side id && not (is_some (stored_at s id))))) off

none_one_way : (s : Joint) (id : ℕ) → s.is_on ≡ false → is_one_way s id ≡ false
none_one_way s id off = ap (λ has. has && not (is_some (receiver_of (stored_at s id))) && not (is_request_stream id)) (none_is_stored s id off)

pub none_begins : (s : Joint) (id : ℕ) → s.is_on ≡ false → may_begin s id ≡ false
none_begins s id off = ap (λ on. on && not (is_some (stored_at s id)) && is_begun_by_peer s.side id) off

-- The forms of clauses: what is done inside of them goes over, and sessions stay as they are.
abbrev Stays : Seen → Seen → Type 0
Stays v w = w.sessions ≡ v.sessions

stays : (v w : Seen) → w ≡ v → Stays v w
stays v w same = ap (λ (s : Seen). s.sessions) same

on_stream : (A B : Type 0) (id : ℕ) (n : Told) (v w : Seen) → (A → B × Stays v w) → OnStream id n v w A → OnStream id n v w B × Stays v w
on_stream A B id n v w f o = (record { known = λ below. (f (o.known below)).0; unknown = o.unknown }, by (cases_lt id (2 ^ 62)))
  where
    by : (id < 2 ^ 62) ⊎ (2 ^ 62 ≤ id) → Stays v w
    by (inl below) = (f (o.known below)).1
    by (inr above) = stays v w (o.unknown above).1

unless_rejected : (A B : Type 0) (id : ℕ) (n : Told) (v w : Seen) → (A → B × Stays v w) → UnlessRejected id n v w A → UnlessRejected id n v w B × Stays v w
unless_rejected A B id n v w f u = (record { taken = λ is. (f (u.taken is)).0; refused = u.refused }, by (is_rejected_in v.endpoint id) refl)
  where
    by : (b : Bool) → is_rejected_in v.endpoint id ≡ b → Stays v w
    by true is = stays v w (u.refused is).1
    by false is = (f (u.taken is)).1

calls : {R : Type 0} (told : R → Told) (n : Told) (v w : Seen) (A B : R → Type 0) → ((r : R) → A r → B r × Stays v w) → Calls told n v w A → Calls told n v w B × Stays v w
calls told n v w A B f c =
    let d = f c.answer c.done in
    (record { answer = c.answer; is = c.is; done = d.0; last = c.last; events = c.events }, d.1)

given : {X : Type 0} (o : Option X) (n : Told) (v w : Seen) (A B : X → Type 0) → ((x : X) → A x → B x × Stays v w) → IfGiven o n v w A → IfGiven o n v w B × Stays v w
given (Some x) n v w A B f h = f x h
given None n v w A B f h = (h, stays v w h.1)

-- which stream sends
lowest_alone : (e : EndpointState) (s : Joint) (from : ℕ) (found : Option ℕ) → s.is_on ≡ false → SendsLowest e s from found → ShowsNextToSend e from found
lowest_alone e s from found off x = subst (ShowsNextToSend e from) (sym (x.is ∙ ap (λ on. if on then lower_of x.first x.raw else x.first) off)) x.first_is

drains_alone : (v : Seen) (drained : ℕ) (n : Told) → v.sessions.is_on ≡ false → DrainsBeside v drained n → ShowsIsDrained v n drained
drains_alone v drained n off x =
    (x.done, λ e h. x.is ∙ ap bit (x.drains.is ∙ ap (λ on. if on then x.drains.first && is_none x.drains.raw else x.drains.first) off ∙ x.drains.first_is e h))

turn_alone : (e f : EndpointState) (s : Joint) (found : Option ℕ) → s.is_on ≡ false → SendsInTurn e f s found → SendsNext e f found
turn_alone e f s found off x = subst (SendsNext e f) (sym (x.is ∙ ap (λ on. if on then turn_of s.is_next x.first x.raw else x.first) off)) x.first_is

finds : (A B : Option ℕ → Type 0) (n : Told) (before after : ℕ) → ((found : Option ℕ) → A found → B found) → Finds A n before after → Finds B n before after
finds A B n before after f (inl h) = inl (h.0, f (Some after) h.1)
finds A B n before after f (inr h) = inr (h.0, f None h.1, h.2)

-- bytes that were taken, of which no turn of a session's stream comes
not_next : (s : Joint) (id count : ℕ) → s.is_on ≡ false → other_taken s id count ≡ s
not_next s id count off = ap (λ on. record s { is_next = if on && not (count == 0) && is_request_stream id then true else s.is_next }) off

taken_alone : (v w : Seen) (id count : ℕ) (n : Told) → v.sessions.is_on ≡ false
    → ((n ≡ ok) × AdvancesOn v.endpoint w.endpoint v.sessions w.sessions id count) ⊎ ((n ≡ argument) × (w ≡ v)) → Stays v w
taken_alone v w id count n off (inl took) = (took.1.other (none_is_stored v.sessions id off)).0 ∙ not_next v.sessions id count off
taken_alone v w id count n off (inr same) = stays v w same.1

-- a stream's state
stream_alone : (closed : Option ℕ) (s : Joint) (e : EndpointHistory) (id : ℕ) (state : StreamState) → s.is_on ≡ false → IsStreamBeside closed s e id state → IsStream e id state
stream_alone closed s e id state off x =
    let sends = x.other (none_is_stored s id off) in
    record {
      waiting = sends.waiting;
      unread = x.other_unread (none_is_read s id off);
      has_outgoing = sends.has_outgoing;
      is_finished = sends.is_finished;
      is_reset = sends.is_reset;
      tries = x.tries;
    }

-- A read: bytes that are delivered,
module _ (v w : Seen) (id : ℕ) (off : v.sessions.is_on ≡ false) where
  bytes_alone : (bytes : List ℕ) → TakesBytesBeside v w id bytes → TakesBytes v.endpoint w.endpoint id bytes × Stays v w × StaysShown v w
  bytes_alone [] h = (ap (λ (s : Seen). s.endpoint) h, stays v w h, (ap (λ (s : Seen). s.last) h, ap (λ (s : Seen). s.events) h))
  bytes_alone (byte ∷ bytes) h = let d = h.0.other (none_is_read v.sessions id off) in (d.1, d.0, h.1)

  -- the end,
  there_alone : (is_alone : Bool) → EndsThereBeside is_alone v w id → EndsThere is_alone v.endpoint w.endpoint id × Stays v w × StaysShown v w
  there_alone is_alone h = by h.0
    where
      by : EndsOn v.endpoint w.endpoint v.sessions w.sessions id None (Ok tt) ⊎ ((is_alone ≡ true) × EndsOn v.endpoint w.endpoint v.sessions w.sessions id None (Err (deliver_error.Refused refusal.AfterEnd)))
          → EndsThere is_alone v.endpoint w.endpoint id × Stays v w × StaysShown v w
      by (inl ends) = let d = ends.other (none_is_read v.sessions id off) in (inl d.1, d.0, h.1)
      by (inr ends) = let d = ends.1.other (none_is_read v.sessions id off) in (inr (ends.0, d.1), d.0, h.1)

  end_alone : (is_last is_alone : Bool) → TakesEndBeside is_last is_alone v w id → TakesEnd is_last is_alone v.endpoint w.endpoint id × Stays v w × StaysShown v w
  end_alone false is_alone h = (ap (λ (s : Seen). s.endpoint) h, stays v w h, (ap (λ (s : Seen). s.last) h, ap (λ (s : Seen). s.events) h))
  end_alone true is_alone h = there_alone is_alone h

  -- and why they are refused
  stop_alone : (bytes : List ℕ) (stop : Stop) → StopsAtBeside v w id bytes stop → StopsAt v.endpoint w.endpoint id bytes stop × Stays v w
  stop_alone bytes stop h =
      let d = h.refused.other (none_is_read v.sessions id off) in
      (record { error = h.error; told = h.told; refused = d.1; taken = h.taken; some = h.some }, d.0)

  refused_alone : (is_alone : Bool) (n : Told) → RefusesEndBeside is_alone v w id n → RefusesEnd is_alone v.endpoint w.endpoint id n × Stays v w
  refused_alone is_alone n h = let d = h.2.other (none_is_read v.sessions id off) in ((h.0, h.1, d.1, h.3), d.0)

  pull_alone : (n : Told) (item : PulledItem) → PullsBeside id n v w item → Pulls id n v w item × Stays v w
  pull_alone n item h =
      let d = h.pulled.other (none_begins v.sessions id off) (none_is_read v.sessions id off) in
      (record { done = h.done; pulled = d.1; list = h.list (none_is_read v.sessions id off); given_so = h.given_so; events = h.events }, d.0)

on_at : (v w : Seen) → Stays v w → v.sessions.is_on ≡ false → w.sessions.is_on ≡ false
on_at v w same off = ap (λ (s : Joint). s.is_on) same ∙ off

copied_alone : (v w : Seen) (id : ℕ) (bytes : List ℕ) (fin : ℕ) (n : Told) (before item : PulledItem) (used : ℕ) → v.sessions.is_on ≡ false
    → ReadsCopiedBeside v w id bytes fin n before item used → ReadsCopied v w id bytes fin n before item used × Stays v w
copied_alone v w id bytes fin n before item used off (pulled_beside mid ended within some takes ends pulls) =
    let t = bytes_alone v mid id off (take used bytes) takes in
    let mid_off = on_at v mid t.1 off in
    let f = end_alone mid ended id mid_off (ends_with fin bytes used) (length bytes == 0) ends in
    let p = pull_alone ended w id (on_at mid ended f.1 mid_off) n item pulls in (
      pulled mid.endpoint ended.endpoint within some t.0 f.0
          (record { done = p.0.done; pulled = p.0.pulled; list = p.0.list; given_so = p.0.given_so; events = p.0.events ∙ f.2.1 ∙ t.2.1 }),
      p.1 ∙ f.1 ∙ t.1,
    )
copied_alone v w id bytes fin n before item used off (stopped_beside count stop within told stops shown used_is same) =
    let s = stop_alone v w id off (take count bytes) stop stops in
    (stopped count stop within told s.0 shown.0 shown.1 used_is same, s.1)
copied_alone v w id bytes fin n before item used off (unended_beside mid ends takes refuses shown same) =
    let t = bytes_alone v mid id off bytes takes in
    let r = refused_alone mid w id (on_at v mid t.1 off) (length bytes == 0) n refuses in
    (unended mid.endpoint ends t.0 r.0 shown.0 shown.1 same, r.1 ∙ t.1)

at_alone : (o : Option BodyPlace) (v w : Seen) (id : ℕ) (bytes : List ℕ) (fin : ℕ) (n : Told) (before item : PulledItem) (used : ℕ) → v.sessions.is_on ≡ false
    → ReadsAtBeside o v w id bytes fin n before item used → ReadsAt o v w id bytes fin n before item used × Stays v w
at_alone (Some p) v w id bytes fin n before item used off h = (h.0, h.1)
at_alone None v w id bytes fin n before item used off h =
    let c = copied_alone (record v { endpoint = h.0 }) w id bytes fin n before item used off h.2 in
    (record { start = h.0; same = h.1; reads = c.0 }, c.1)

next_alone : (v w : Seen) (id : ℕ) (bytes : List ℕ) (fin : ℕ) (n : Told) (before item : PulledItem) (used : ℕ) → v.sessions.is_on ≡ false
    → ReadsNextBeside v w id bytes fin n before item used → ReadsNext v w id bytes fin n before item used × Stays v w
next_alone v w id bytes fin n before item used off h =
    let a = at_alone h.place v w id bytes fin n before item used off h.reads in
    (record { place = h.place; is_next = h.is_next; reads = a.0 }, a.1)

-- **Each call.**
pub does_alone : (call : CallOfC) (v w : Seen) → v.sessions.is_on ≡ false → DoesBeside call v w → Does call v w × (w.sessions ≡ v.sessions)
does_alone (Finish id n) v w off h =
    on_stream _ _ id n v w
    (calls call_told n v w (λ call. FinishesOn v.endpoint w.endpoint v.sessions w.sessions id call) (λ call. Finishes v.endpoint w.endpoint id call)
    (λ call c. let d = c.other (none_is_stored v.sessions id off) in (d.1, d.0))) h
does_alone (Reset id n) v w off h =
    on_stream _ _ id n v w
    (calls call_told n v w (λ call. ResetsOn v.endpoint w.endpoint v.sessions w.sessions id call) (λ call. Resets v.endpoint w.endpoint id call)
    (λ call c. let d = c.other (none_is_stored v.sessions id off) in (d.1, d.0))) h
does_alone (Cancel id n) v w off h =
    on_stream _ _ id n v w
    (calls call_told n v w (λ call. CancelsOn v.endpoint w.endpoint v.sessions w.sessions id call) (λ call. Cancels v.endpoint w.endpoint id call)
    (λ call c. let d = c.other (none_is_read v.sessions id off) (none_one_way v.sessions id off) in (d.1, d.0))) h
does_alone (CloseStream id stop_before stop reset_before reset n) v w off h =
    let closes = on_stream _ _ id n v w
    (calls call_told n v w (λ call. ClosesOn v.endpoint w.endpoint v.sessions w.sessions id call × GivesFrames call stop_before stop reset_before reset)
    (λ call. ClosesStream v.endpoint w.endpoint id call × GivesFrames call stop_before stop reset_before reset)
    (λ call c. let d = c.0.other (none_is_stored v.sessions id off) in ((d.1, c.1), d.0))) h.0 in
    ((closes.0, h.1), closes.1)
does_alone (IsDrained drained n) v w off h = ((h.0, drains_alone v drained n off h.1), stays v w h.0)
does_alone (NextToSend from before id n) v w off h =
    ((h.0, finds (SendsLowest v.endpoint v.sessions from) (ShowsNextToSend v.endpoint from) n before id (λ found x. lowest_alone v.endpoint v.sessions from found off x) h.1), stays v w h.0)
does_alone (NextByPriority before id n) v w off h =
    ((h.0, finds (SendsInTurn v.endpoint w.endpoint v.sessions) (SendsNext v.endpoint w.endpoint) n before id (λ found x. turn_alone v.endpoint w.endpoint v.sessions found off x) h.1), ap (λ (s : Seen). s.sessions) h.0)
does_alone (Hold id held n) v w off h =
    on_stream _ _ id n v w
    (given (flag_given held) n v w (λ is. Calls call_told n v w (λ call. HoldsOn v.endpoint w.endpoint v.sessions w.sessions id is call))
    (λ is. Calls call_told n v w (λ call. Holds v.endpoint w.endpoint id is call))
    (λ is. calls call_told n v w (λ call. HoldsOn v.endpoint w.endpoint v.sessions w.sessions id is call) (λ call. Holds v.endpoint w.endpoint id is call)
    (λ call c. let d = c.other (none_is_stored v.sessions id off) in (d.1, d.0)))) h
does_alone (Outgoing id before buffer count_before count past_before past fin_before fin n) v w off h =
    let copies = on_stream (CopiesBeside v id n before buffer count past fin) (CopiesOut v id n before buffer count past fin) id n v w (λ c. (c.other (none_is_stored v.sessions id off), stays v w h.0)) h.1 in
    ((h.0, copies.0, h.2), stays v w h.0)
does_alone (Advance id count n) v w off h = on_stream (TakesBeside v w id count n) (Takes v w id count n) id n v w (λ t. (t.other (none_is_stored v.sessions id off), taken_alone v w id count n off t.taken)) h
does_alone (EndTaken id n) v w off h =
    on_stream (TakesFinBeside v w id n) (TakesEndOf v w id n) id n v w
    (λ t. let d = t.taken.other (none_is_stored v.sessions id off) in (record { waited = t.waited; is = t.is; taken = d.1; last = t.last; events = t.events }, d.0)) h
does_alone (Read id bytes fin used before item n) v w off h =
    let reads = on_stream _ _ id n v w (unless_rejected _ (ReadsNext v w id bytes fin n before item used) id n v w (next_alone v w id bytes fin n before item used off)) h.reads in
    (record { reads = reads.0; unknown = h.unknown; rejected = h.rejected }, reads.1)
does_alone (Deliver id bytes n) v w off h =
    on_stream _ _ id n v w
    (unless_rejected _ _ id n v w
    (calls delivery_told n v w (λ call. DeliversBeside v.endpoint w.endpoint v.sessions w.sessions id bytes call) (λ call. Delivers v.endpoint w.endpoint id bytes call)
    (λ call c. let d = c.other (none_is_read v.sessions id off) in (d.1, d.0)))) h
does_alone (DeliverEnd id n) v w off h =
    on_stream _ _ id n v w
    (unless_rejected _ _ id n v w
    (calls delivery_told n v w (λ call. EndsOn v.endpoint w.endpoint v.sessions w.sessions id None call) (λ call. DeliversEnd v.endpoint w.endpoint id call)
    (λ call c. let d = c.other (none_is_read v.sessions id off) in (d.1, d.0)))) h
does_alone (DeliverReset id code n) v w off h =
    on_stream _ _ id n v w
    (unless_rejected _ _ id n v w
    (calls delivery_told n v w (λ call. EndsOn v.endpoint w.endpoint v.sessions w.sessions id (Some code) call) (λ call. DeliversReset v.endpoint w.endpoint id code call)
    (λ call c. let d = c.other (none_is_read v.sessions id off) in (d.1, d.0)))) h
does_alone (Pull id before item n) v w off h =
    let pulls = on_stream (PullsBeside id n v w item) (Pulls id n v w item) id n v w (pull_alone v w id off n item) h.0 in
    ((pulls.0, h.1), pulls.1)
does_alone (Stream id before state n) v w off h =
    let shows = on_stream ((n ≡ ok) × ShowsStreamBeside v id state) ((n ≡ ok) × ((e : EndpointHistory) → StandsFor v.endpoint e → IsStream e id state)) id n v w (λ s. ((s.0, λ e stands. stream_alone v.endpoint.closed v.sessions e id state off (s.1 e stands)), stays v w h.0)) h.1 in
    ((h.0, shows.0, h.2), stays v w h.0)
does_alone _ v w off h = h

-- From handle to handle: t is what the box that was opened lends to the call.
pub goes_beside : (does : Seen → Seen → Type 0) (before after : Option Seen) (u x : Seen) → Some u ≡ before → after ≡ Some x → does u x → StepsBeside before after does
goes_beside does before after u x opened kept did v w was is =
    let u_is : u ≡ v = ap (λ o. unwrap_or o u) (opened ∙ was) in
    let x_is : x ≡ w = ap (λ o. unwrap_or o x) (sym kept ∙ is) in
    subst (λ s. does v s) x_is (subst (λ s. does s x) u_is did)

pub goes_alone : (call : CallOfC) (before after : Option Seen) (u t x : Seen) → Some u ≡ before → t ≡ u → after ≡ Some x → DoesBeside call t x → StepsAlone before after (Does call)
goes_alone call before after u t x opened lent kept does v w was is off =
    does_alone call v w off (goes_beside (DoesBeside call) before after u x opened kept (subst (λ s. DoesBeside call s x) lent does) v w was is)

-- a call that changes nothing
pub looks_alone : (call : CallOfC) (before after : Option Seen) (u t : Seen) → Some u ≡ before → t ≡ u → after ≡ Some u → DoesBeside call t t → StepsAlone before after (Does call)
looks_alone call before after u t opened lent kept does v w was is off =
    does_alone call v w off (goes_beside (DoesBeside call) before after u u opened kept (subst (λ s. DoesBeside call s s) lent does) v w was is)

-- what h3_pull tells has no detail
pub pulls_plainly : (v w : Seen) (id : ℕ) (n : Told) (before item : PulledItem) → n.detail ≡ 0 → OnStream id n v w (PullsBeside id n v w item) → (2 ^ 62 ≤ id → item ≡ before)
    → DoesBeside (Pull id before item (number n.number 0)) v w
pulls_plainly v w id n before item plain pulls unwritten =
    let same : n ≡ number n.number 0 = ap (λ d. number n.number d) plain in (subst (λ m. OnStream id m v w (PullsBeside id m v w item)) same pulls, unwritten)
