-- Turns and what goes first: what is stored stands for the history.
use Rattle.std.proofs.Common.{arith, ◌≡◌, ◌≢◌, ℕ, ◌+◌, Bool, true, false, if◌then◌else◌, ◌&&◌, ◌||◌, List, length, refl, ap, sym, subst, ◌∙◌}
use Rattle.std.proofs.lemmas.Grind.{common_steps}
use Rattle.std.specs.Prelude.{◌==◌, not, min, nat_lt, Option, Some, None, is_some, option_map, slice_set, unwrap_or}
use Rattle.h3_priority.specs.Priority.{PriorityParameters}
use Rattle.h3_scheduler.specs.Places.{IsNext}
use Rattle.h3_scheduler.specs.TurnLaws.{next_alike}
use Rattle.h3_scheduler.specs.Rounds.{is_in, round_at}
use Rattle.h3_scheduler.specs.Streams.{is_class}
use Rattle.h3_scheduler.specs.declared.round.Round.{Round}
use Rattle.h3_scheduler.specs.declared.round.Rounds.{Rounds}
use Rattle.h3_connection.specs.ByPriority.{first_own, own_sends, places_of, sends_at, IsNextBehind, ShowsNextByPriority}
use Rattle.h3_connection.specs.Endpoint.{EndpointHistory, bytes_waiting}
use Rattle.h3_connection.specs.Order.{rounds_of, turn_over}
use Rattle.h3_connection.specs.Outgoing.{Outgoing, end_waits, part_bytes_waiting}
use Rattle.h3_connection.specs.OwnIds.{control_id, encoder_id, decoder_id}
use Rattle.h3_connection.specs.Sending.{order_after, take_at, turned}
use Rattle.h3_connection.specs.SendingContracts.{Advances}
use Rattle.h3_connection.specs.Shutdown.{bounded, first_unseen, ShowsFirstUnseen}
use Rattle.h3_connection.specs.State.{EndpointState, OutgoingState, RequestState, StandsFor, kept_at}
use Rattle.h3_connection.specs.StreamSets.{stream_at}
use Rattle.h3_connection.specs.WaitingPieces.{bytes_of}
use Rattle.h3_connection.specs.declared.order.Precedence.{Precedence}
use Rattle.h3_connection.specs.declared.order.SendOrder.{SendOrder}
use Rattle.h3_outgoing.specs.HistoryLaws.{end_waiting, waits}
use Rattle.h3_outgoing.specs.Sent as sent
use Rattle.h3_requests.specs.Ordered as stored
use Rattle.h3_session.proofs.Taking.{found, not_found, request_waits}
use Rattle.h3_session.specs.Refused.{sender_in}
use Rattle.h3_session.specs.Turns.{first_own_in, has_turn_in, own_sends_in, or_else, turn_in, BoundsTurn, EndsTurn, TakesBytes}
use Rattle.h3_unidirectional.specs.Owned.{waiting_on}
use Rattle.h3_unidirectional.specs.OwnLaws.{waiting_is}

-- The order of sending changes in both.
pub stands_order : (s : EndpointState) (e : EndpointHistory) (order : SendOrder) → StandsFor s e → StandsFor (record s { order = order }) (record e { order = order })
stands_order s e order h =
    record {
      side = h.side;
      announced = h.announced;
      closed = h.closed;
      next_id = h.next_id;
      incoming = h.incoming;
      outgoing = h.outgoing;
      unidirectional = h.unidirectional;
      distinct = h.distinct;
      control_on = h.control_on;
      encoder_on = h.encoder_on;
      decoder_on = h.decoder_on;
      peer = h.peer;
      decoding = h.decoding;
      encoder = h.encoder;
      decoder_unread = h.decoder_unread;
      own = record {
        control = h.own.control;
        encoder = h.own.encoder;
        decoder = h.own.decoder;
        taken = record { control = h.own.taken.control; encoder = h.own.taken.encoder; decoder = h.own.taken.decoder };
      };
      last_goaway = h.last_goaway;
      kept = h.kept;
      sent = h.sent;
      order = refl;
      reached = record {
        unlearned = h.reached.unlearned;
        control = h.reached.control;
        encoder = h.reached.encoder;
        decoder = h.reached.decoder;
        told_control = h.reached.told_control;
        told_encoder = h.reached.told_encoder;
        told_decoder = h.reached.told_decoder;
        kept = h.reached.kept;
        own_updates = h.reached.own_updates;
      };
    }

-- Bytes go as they would in another order.
commutes : (e : EndpointHistory) (order : SendOrder) (id count : ℕ) (there : Option Outgoing) → take_at (record e { order = order }) id count there ≡ record (take_at e id count there) { order = order }
commutes e order id count None = refl
commutes e order id count (Some o) = refl

-- `advance`: the turn is over, and the bytes go
pub advances : (s t u : EndpointState) (id count : ℕ) → EndsTurn s t id count → TakesBytes t u id count → Advances s u id count
advances s t u id count ends takes e h =
    let taken : ℕ = min count (length (bytes_waiting e id)) in
    let order : SendOrder = order_after e id taken (stream_at e.outgoing id) in
    let there : StandsFor t (record e { order = order }) = subst (λ v. StandsFor v (record e { order = order })) (sym (ends e h)) (stands_order s e order h) in
    subst (StandsFor u) (commutes e order id taken (stream_at e.outgoing id)) (takes (record e { order = order }) there)

-- before a priority was set no turn counts
unturned : (order : SendOrder) (id count bound : ℕ) (o : Outgoing) → order.rounds ≡ None → turned order id count o bound ≡ order
unturned order id count bound o none = by_test (count == 0)
  where
    by_test : (b : Bool) → (if b then order else record order { rounds = turn_over order.rounds o.precedence.priority id bound }) ≡ order
    by_test true = refl
    by_test false = ap (λ r. record order { rounds = turn_over r o.precedence.priority id bound }) none ∙ sym (ap (λ r. record order { rounds = r }) none)

none_after : (e : EndpointHistory) (id count : ℕ) (there : Option Outgoing) → e.order.rounds ≡ None → order_after e id count there ≡ e.order
none_after e id count None none = refl
none_after e id count (Some o) none = unturned e.order id count _ o none

pub no_turns : (s : EndpointState) (id count : ℕ) → s.order.rounds ≡ None → EndsTurn s s id count
no_turns s id count none e h =
    let here : e.order.rounds ≡ None = ap (λ (o : SendOrder). o.rounds) (sym h.order) ∙ none in
    ap (λ o. record s { order = o }) (h.order ∙ sym (none_after e id (min count (length (bytes_waiting e id))) (stream_at e.outgoing id) here))

none_of : (rounds : Option Rounds) → is_some rounds ≡ false → rounds ≡ None
none_of None is = refl
none_of (Some r) is = absurd (cc)

pub advances_with_no_turns : (s u : EndpointState) (id count : ℕ) → is_some s.order.rounds ≡ false → TakesBytes s u id count → Advances s u id count
advances_with_no_turns s u id count none takes = advances s s u id count (no_turns s id count (none_of s.order.rounds none)) takes

zero_turned : (order : SendOrder) (id count bound : ℕ) (o : Outgoing) → count ≡ 0 → turned order id count o bound ≡ order
zero_turned order id count bound o none = rw none refl

pub no_bytes : (s : EndpointState) (id count : ℕ) (w : OutgoingState) → sender_in s id ≡ Some w → min count (length (bytes_of w.pieces)) ≡ 0 → EndsTurn s s id count
no_bytes s id count w was none e h =
    let f = found s e id w h was in
    let same : min count (length (bytes_waiting e id)) ≡ 0 = ap (λ bytes. min count (length bytes)) (sym (request_waits s e id w h was)) ∙ none in
    ap (λ o. record s { order = o }) (h.order ∙ sym (ap (order_after e id (min count (length (bytes_waiting e id)))) f.there ∙ zero_turned e.order id (min count (length (bytes_waiting e id))) _ f.o same))

-- a turn that counts
abbrev turned_by : SendOrder → PriorityParameters → ℕ → ℕ → SendOrder
turned_by order p id until = record order { rounds = turn_over order.rounds p id until }

some_turned : (order : SendOrder) (id count bound : ℕ) (o : Outgoing) → (count == 0) ≡ false → turned order id count o bound ≡ record order { rounds = turn_over order.rounds o.precedence.priority id bound }
some_turned order id count bound o some = rw some refl

pub a_turn : (s : EndpointState) (id count until : ℕ) (w : OutgoingState) (order : SendOrder) → sender_in s id ≡ Some w → (min count (length (bytes_of w.pieces)) == 0) ≡ false → BoundsTurn s w.precedence.priority id until
    → order ≡ record s.order { rounds = turn_over s.order.rounds w.precedence.priority id until } → EndsTurn s (record s { order = order }) id count
a_turn s id count until w order was some bounds is e h =
    let f = found s e id w h was in
    let taken : ℕ = min count (length (bytes_waiting e id)) in
    let more : (taken == 0) ≡ false = ap (λ bytes. min count (length bytes) == 0) (sym (request_waits s e id w h was)) ∙ some in
    let bound : ℕ = bounded (first_unseen e) in
    let there : order_after e id taken (stream_at e.outgoing id) ≡ record e.order { rounds = turn_over e.order.rounds f.o.precedence.priority id bound }
    = ap (order_after e id taken) f.there ∙ some_turned e.order id taken bound f.o more in
    let here : order ≡ record e.order { rounds = turn_over e.order.rounds f.o.precedence.priority id bound }
    = is ∙ ap (λ rounds. record s.order { rounds = rounds }) (bounds e h) ∙ ap (λ (o : SendOrder). record o { rounds = turn_over o.rounds w.precedence.priority id bound }) h.order
    ∙ ap (λ p. record e.order { rounds = turn_over e.order.rounds p.priority id bound }) f.is.precedence in
    ap (λ o. record s { order = o }) (here ∙ sym there)

-- the first id that was not seen is a bound
pub bounded_by_unseen : (s : EndpointState) (p : PriorityParameters) (id until : ℕ) → ShowsFirstUnseen s until → BoundsTurn s p id until
bounded_by_unseen s p id until unseen e h = ap (turn_over s.order.rounds p id) (unseen e h)

-- any number is one where no round begins
chosen_same : (has : Bool) (id until one other : ℕ) → is_some (if has then Some id else None) ≡ true → (if has then until else one) ≡ (if has then until else other)
chosen_same true id until one other is = refl
chosen_same false id until one other is = absurd (cc)

abbrev going_on : Rounds → PriorityParameters → ℕ → ℕ → Option Rounds
going_on r p id until = Some (record { rounds = slice_set r.rounds p.urgency (record { from = id + 1; until = until }) })

in_round : (rounds : Option Rounds) (p : PriorityParameters) (id one other : ℕ) → has_turn_in rounds p id ≡ true → turn_over rounds p id one ≡ turn_over rounds p id other
in_round None p id one other has = refl
in_round (Some r) p id one other has =
    ap (going_on r p id) (chosen_same (is_in (round_at r.rounds p.urgency) id) id (round_at r.rounds p.urgency).until one other has)

pub bounded_in_round : (s : EndpointState) (p : PriorityParameters) (id until : ℕ) → has_turn_in s.order.rounds p id ≡ true → BoundsTurn s p id until
bounded_in_round s p id until has e h = in_round s.order.rounds p id until (bounded (first_unseen e)) has

-- the same by what is told of the stream
abbrev Turn : Type 0
Turn = PriorityParameters × ℕ

abbrev turn_of : OutgoingState → Turn
turn_of w = (w.precedence.priority, length (bytes_of w.pieces))

-- what was told was told of a sender
told_by : (s : EndpointState) (id : ℕ) (turn : Turn) (A : Type 0) (there : Option OutgoingState) → ((w : OutgoingState) → sender_in s id ≡ Some w → turn_of w ≡ turn → A) → sender_in s id ≡ there
    → option_map turn_of there ≡ Some turn → A
told_by s id turn A None shown was is = absurd (cc)
told_by s id turn A (Some w) shown was is = shown w was (cc)

pub empty_turn : (s : EndpointState) (id count taken : ℕ) (turn : Turn) → turn_in s id ≡ Some turn → taken ≡ min count turn.1 → taken ≡ 0 → EndsTurn s s id count
empty_turn s id count taken turn is all none =
    told_by s id turn (EndsTurn s s id count) (sender_in s id) (λ w was told. no_bytes s id count w was (ap (λ (t : Turn). min count t.1) told ∙ sym all ∙ none)) refl is

not_zero : (n : ℕ) → n ≢ 0 → (n == 0) ≡ false
not_zero n some = grind (arith, common_steps, some)

turn_ended : (s : EndpointState) (id count until taken : ℕ) (turn : Turn) (order : SendOrder) → turn_in s id ≡ Some turn → taken ≡ min count turn.1 → taken ≢ 0 → BoundsTurn s turn.0 id until
    → order ≡ record s.order { rounds = turn_over s.order.rounds turn.0 id until } → EndsTurn s (record s { order = order }) id count
turn_ended s id count until taken turn order is all some bounds after =
    told_by s id turn (EndsTurn s (record s { order = order }) id count) (sender_in s id)
    (λ w was told. a_turn s id count until w order was (ap (λ (t : Turn). min count t.1 == 0) told ∙ ap (λ n. n == 0) (sym all) ∙ not_zero taken some)
    (subst (λ (t : Turn). BoundsTurn s t.0 id until) (sym told) bounds)
    (after ∙ sym (ap (λ (t : Turn). turned_by s.order t.0 id until) told))) refl is

pub ended_turn : (s now : EndpointState) (id count until taken : ℕ) (turn : Turn) (order : SendOrder) → s ≡ now → turn_in now id ≡ Some turn → taken ≡ min count turn.1 → taken ≢ 0 → BoundsTurn now turn.0 id until
    → order ≡ record s.order { rounds = turn_over s.order.rounds turn.0 id until } → EndsTurn now (record s { order = order }) id count
ended_turn s now id count until taken turn order view is all some bounds after =
    subst (λ v. EndsTurn now (record v { order = order }) id count) (sym view)
    (turn_ended now id count until taken turn order is all some bounds (after ∙ ap (λ (v : EndpointState). turned_by v.order turn.0 id until) view))

-- `next_by_priority`: an own stream waits as the history says
own_same : (s : EndpointState) (e : EndpointHistory) (held : Bool) (id : ℕ) → StandsFor s e → own_sends_in s held id ≡ (if own_sends e held id then Some id else None)
own_same s e held id h =
    ap (λ l. if not held && nat_lt 0 (length l) then Some id else None) (ap (λ side. waiting_on s.own side id) h.side ∙ waiting_is s.own e id h.own)

first_by : (a b c : Bool) (x y z : ℕ) → or_else (if a then Some x else None) (or_else (if b then Some y else None) (if c then Some z else None)) ≡ (if a then Some x else (if b then Some y else (if c then Some z else None)))
first_by true b c x y z = refl
first_by false true c x y z = refl
first_by false false c x y z = refl

first_same : (s : EndpointState) (e : EndpointHistory) → StandsFor s e → first_own_in s ≡ first_own e
first_same s e h =
    ap (λ (o : SendOrder). or_else (own_sends_in s o.control_is_held (control_id s.side)) (or_else (own_sends_in s o.encoder_is_held (encoder_id s.side)) (own_sends_in s o.decoder_is_held (decoder_id s.side)))) h.order
    ∙ ap (λ side. or_else (own_sends_in s e.order.control_is_held (control_id side)) (or_else (own_sends_in s e.order.encoder_is_held (encoder_id side)) (own_sends_in s e.order.decoder_is_held (decoder_id side)))) h.side
    ∙ ap (λ x. or_else x (or_else (own_sends_in s e.order.encoder_is_held (encoder_id e.side)) (own_sends_in s e.order.decoder_is_held (decoder_id e.side)))) (own_same s e e.order.control_is_held (control_id e.side) h)
    ∙ ap (λ x. or_else (if own_sends e e.order.control_is_held (control_id e.side) then Some (control_id e.side) else None) (or_else x (own_sends_in s e.order.decoder_is_held (decoder_id e.side)))) (own_same s e e.order.encoder_is_held (encoder_id e.side) h)
    ∙ ap (λ x. or_else (if own_sends e e.order.control_is_held (control_id e.side) then Some (control_id e.side) else None)
    (or_else (if own_sends e e.order.encoder_is_held (encoder_id e.side) then Some (encoder_id e.side) else None) x)) (own_same s e e.order.decoder_is_held (decoder_id e.side) h)
    ∙ first_by (own_sends e e.order.control_is_held (control_id e.side)) (own_sends e e.order.encoder_is_held (encoder_id e.side)) (own_sends e e.order.decoder_is_held (decoder_id e.side)) (control_id e.side) (encoder_id e.side) (decoder_id e.side)

pub shows_own : (s : EndpointState) (own : ℕ) → first_own_in s ≡ Some own → ShowsNextByPriority s (Some own)
shows_own s own is e h = subst (λ first. IsNextBehind first e (Some own)) (sym is ∙ first_same s e h) refl

-- and the request streams stand where it says
sends_by : (s : EndpointState) (e : EndpointHistory) (urgency : ℕ) (incremental : Bool) (id : ℕ) (there : Option RequestState) → StandsFor s e → kept_at s.requests id ≡ there
    → places_of e urgency incremental id ≡ stored.sends_at there urgency incremental
sends_by s e urgency incremental id None h was = ap (λ o. unwrap_or (option_map (sends_at urgency incremental) o) false) (not_found s e id h (ap (option_map (λ r. r.outgoing)) was))
sends_by s e urgency incremental id (Some r) h was =
    let f = found s e id r.outgoing h (ap (option_map (λ r. r.outgoing)) was) in
    ap (λ o. unwrap_or (option_map (sends_at urgency incremental) o) false) f.there
    ∙ sym (
    ap (λ l. (nat_lt 0 (length l) || sent.end_waits r.outgoing) && (not r.outgoing.precedence.is_held && is_class (Some r.outgoing.precedence.priority) urgency incremental)) (waits f.o r.outgoing f.is)
    ∙ ap (λ b. (nat_lt 0 (length (part_bytes_waiting f.o)) || b) && (not r.outgoing.precedence.is_held && is_class (Some r.outgoing.precedence.priority) urgency incremental)) (end_waiting f.o r.outgoing f.is)
    ∙ ap (λ (p : Precedence). (nat_lt 0 (length (part_bytes_waiting f.o)) || end_waits f.o) && (not p.is_held && is_class (Some p.priority) urgency incremental)) f.is.precedence
    )

pub shows_requests : (s : EndpointState) (rounds : List Round) (found : Option ℕ) → first_own_in s ≡ None → rounds ≡ rounds_of s.order.rounds → IsNext (stored.places_in s.requests) rounds found → ShowsNextByPriority s found
shows_requests s rounds found none same next e h =
    let here : IsNext (places_of e) rounds found
    = next_alike (stored.places_in s.requests) (places_of e) rounds found (λ urgency incremental q. sends_by s e urgency incremental q (kept_at s.requests q) h refl) next in
    let there : IsNext (places_of e) (rounds_of e.order.rounds) found = subst (λ r. IsNext (places_of e) r found) (same ∙ ap (λ (o : SendOrder). rounds_of o.rounds) h.order) here in
    subst (λ first. IsNextBehind first e found) (sym none ∙ first_same s e h) there
