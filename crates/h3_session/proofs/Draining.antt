-- A connection is shut down: what is named, rejected and left to be done is known by what is stored.
use Rattle.std.proofs.Common.{arith, ◌≡◌, ◌<◌, ◌≤◌, ◌+◌, ◌^◌, ◌∙◌, ℕ, Bool, true, false, [], ◌∷◌, length, if◌then◌else◌, refl, sym, ap, subst}
use Rattle.std.specs.Prelude.{◌≢◌, ◌==◌, ◌&&◌, ◌||◌, ◌-◌, not, nat_le, nat_lt, Option, Some, None, IfSome, is_some, option_map, unwrap_or}
use Rattle.std.specs.List.{list_all}
use Rattle.std.proofs.lemmas.Grind.{common_steps}
use Rattle.h3_proto.specs.declared.stream.Side.{Side}
use Rattle.h3_proto.specs.declared.stream.Side.TheVariants.{Client, Server}
use Rattle.h3_connection.specs.Delivering.{incoming_at}
use Rattle.h3_connection.specs.Endpoint.{EndpointHistory}
use Rattle.h3_connection.specs.EndsWaiting.{has_end}
use Rattle.h3_connection.specs.Incoming.{nothing_came}
use Rattle.h3_connection.specs.Lasts.{last_id}
use Rattle.h3_connection.specs.NextWaiting.{has_waiting}
use Rattle.h3_connection.specs.Outgoing.{is_sent_off, nothing_sent}
use Rattle.h3_connection.specs.Pulling.{is_client}
use Rattle.h3_connection.specs.Sending.{closed_or, does, goaway, outgoing_at, unless_closed}
use Rattle.h3_connection.specs.SendingContracts.{DoesOrRefuses}
use Rattle.h3_connection.specs.State.{EndpointState, RequestState, StandsFor, kept_at}
use Rattle.h3_connection.specs.StreamSets.{Streams, stream_at}
use Rattle.h3_connection.specs.StreamTestLaws.{all_pass}
use Rattle.h3_connection.specs.declared.event.Refusal.{Refusal}
use Rattle.h3_connection.specs.declared.event.Refusal.TheVariants as refusal
use Rattle.h3_outgoing.specs.HistoryLaws.{end_waiting, sent_off}
use Rattle.h3_requests.specs.Done.{is_unfinished}
use Rattle.h3_requests.specs.Greatest.{IsGreatest, IsOneOf}
use Rattle.h3_requests.specs.HasBytes as stored
use Rattle.h3_outgoing.specs.Sent as sent
use Rattle.h3_connection.specs.FirstAbove.{first_above, greater}
use Rattle.h3_connection.specs.Shutdown.{above_greatest, bounded, goaway_below, goaway_once, is_done, is_named, is_rejected, is_rejected_by, is_rejected_in, last_taken, ShowsFirstUnseen}
use Rattle.h3_session.proofs.SendingCalls.{same_itself}
use Rattle.h3_session.proofs.Taking.{found, request_waits}

-- A call that does nothing.
pub does_nothing : (act : EndpointHistory → Option Refusal × EndpointHistory) (s : EndpointState) (r : Option Refusal) → r ≢ Some refusal.OutOfMemory → ((e : EndpointHistory) → StandsFor s e → act e ≡ (r, e)) → DoesOrRefuses act s s r
does_nothing act s r known is =
    record {
      done = λ e h lacks. (sym (ap (λ p. p.0) (is e h)), subst (λ n. StandsFor s n) (sym (ap (λ p. p.1) (is e h))) h);
      same = λ refused. same_itself s;
      memory = λ e h lacks. absurd (known lacks);
    }

-- One that does what another does.
pub does_alike : (act other : EndpointHistory → Option Refusal × EndpointHistory) (old new : EndpointState) (r : Option Refusal) → ((e : EndpointHistory) → StandsFor old e → other e ≡ act e) → DoesOrRefuses act old new r → DoesOrRefuses other old new r
does_alike act other old new r same does =
    record {
      done = λ e h some. let was = does.done e h some in (was.0 ∙ sym (ap (λ p. p.0) (same e h)), subst (λ n. StandsFor new n) (sym (ap (λ p. p.1) (same e h))) was.1);
      same = does.same;
      memory = λ e h lacks. ap (λ p. p.0) (same e h) ∙ does.memory e h lacks;
    }

-- `goaway_once`, by its tests
abbrev once : (named below : Bool) → Option ℕ → EndpointHistory → Option Refusal × EndpointHistory → Option Refusal × EndpointHistory
once named below closed e goes = if named then (closed_or closed None, e) else (if below then goes else (closed_or closed (Some refusal.IdsUsedUp), e))

closed_once : (named below : Bool) (closed : Option ℕ) (code : ℕ) (e new : EndpointHistory) (r : Option Refusal) → closed ≡ Some code → once named below closed e (does (closed_or closed r) e new) ≡ (Some (refusal.Closed code), e)
closed_once true below closed code e new r is = ap (λ c. (closed_or c None, e)) is
closed_once false true closed code e new r is = ap (λ c. does (closed_or c r) e new) is
closed_once false false closed code e new r is = ap (λ c. (closed_or c (Some refusal.IdsUsedUp), e)) is

pub once_closed : (s : EndpointState) (id code : ℕ) → s.closed ≡ Some code → DoesOrRefuses (λ e. goaway_once e id) s s (Some (refusal.Closed code))
once_closed s id code is =
    does_nothing (λ e. goaway_once e id) s (Some (refusal.Closed code)) (λ same. absurd (cc))
    (λ e h. closed_once (is_named (last_id e.own.goaways) id) (nat_lt id (2 ^ 62)) e.closed code e _ _ (sym h.closed ∙ is))

not_below : (id : ℕ) → 2 ^ 62 ≤ id → nat_lt id (2 ^ 62) ≡ false
not_below id far = grind (arith, common_steps, far)

below : (id : ℕ) → id < 2 ^ 62 → nat_lt id (2 ^ 62) ≡ true
below id near = grind (arith, common_steps, near)

-- No id that was named has more than 62 bits, so a number of 64 bits tells as much.
within_bounds : (n : ℕ) → n < 2 ^ 64 → bounded n ≡ n
within_bounds n few = omega (arith, few)

past_bounds : (n : ℕ) → 2 ^ 64 ≤ n → bounded n ≡ 2 ^ 64 - 1
past_bounds n far = omega (arith, far)

pub named_bounded : (o : Option ℕ) (n : ℕ) → IfSome o (λ earlier. earlier < 2 ^ 62) → is_named o (bounded n) ≡ is_named o n
named_bounded None n fits = refl
named_bounded (Some earlier) n fits = by_test (nat_lt n (2 ^ 64)) refl
  where
    by_test : (t : Bool) → nat_lt n (2 ^ 64) ≡ t → nat_le earlier (bounded n) ≡ nat_le earlier n
    by_test true is = let few : n < 2 ^ 64 = grind (arith, common_steps, is) in ap (nat_le earlier) (within_bounds n few)
    by_test false is =
        let far : 2 ^ 64 ≤ n = grind (arith, common_steps, is) in
        let up : earlier ≤ 2 ^ 64 - 1 = omega (arith, fits) in
        let higher : earlier ≤ n = omega (arith, fits, far) in
        let one : nat_le earlier (2 ^ 64 - 1) ≡ true = grind (arith, common_steps, up) in
        let other : nat_le earlier n ≡ true = grind (arith, common_steps, higher) in
        ap (nat_le earlier) (past_bounds n far) ∙ one ∙ sym other

below_bounded : (n : ℕ) → nat_lt (bounded n) (2 ^ 62) ≡ nat_lt n (2 ^ 62)
below_bounded n = by_test (nat_lt n (2 ^ 64)) refl
  where
    by_test : (t : Bool) → nat_lt n (2 ^ 64) ≡ t → nat_lt (bounded n) (2 ^ 62) ≡ nat_lt n (2 ^ 62)
    by_test true is = let few : n < 2 ^ 64 = grind (arith, common_steps, is) in ap (λ m. nat_lt m (2 ^ 62)) (within_bounds n few)
    by_test false is =
        let far : 2 ^ 64 ≤ n = grind (arith, common_steps, is) in
        let above : 2 ^ 62 ≤ n = omega (arith, far) in
        let last : 2 ^ 62 ≤ 2 ^ 64 - 1 = omega arith in
        ap (λ m. nat_lt m (2 ^ 62)) (past_bounds n far) ∙ not_below (2 ^ 64 - 1) last ∙ sym (not_below n above)

goaway_bounded : (e : EndpointHistory) (n : ℕ) → goaway_below e (bounded n) ≡ goaway_below e n
goaway_bounded e n = by_test (nat_lt n (2 ^ 62)) refl
  where
    by_test : (t : Bool) → nat_lt n (2 ^ 62) ≡ t → goaway_below e (bounded n) ≡ goaway_below e n
    by_test true is = let few : n < 2 ^ 64 = grind (arith, common_steps, is) in ap (goaway_below e) (within_bounds n few)
    by_test false is =
        let used : Option Refusal × EndpointHistory = (unless_closed e (Some refusal.IdsUsedUp), e) in
        ap (λ b. if b then goaway e (bounded n) else used) (below_bounded n ∙ is) ∙ sym (ap (λ b. if b then goaway e n else used) is)

once_bounded : (e : EndpointHistory) (n : ℕ) → IfSome (last_id e.own.goaways) (λ earlier. earlier < 2 ^ 62) → goaway_once e n ≡ goaway_once e (bounded n)
once_bounded e n fits =
    let named : Option Refusal × EndpointHistory = (unless_closed e None, e) in
    sym (ap (λ b. if b then named else goaway_below e (bounded n)) (named_bounded (last_id e.own.goaways) n fits) ∙ ap (λ p. if is_named (last_id e.own.goaways) n then named else p) (goaway_bounded e n))

-- What is named may be told by a number of 64 bits.
pub goes_bounded : (id_of : EndpointHistory → ℕ) (old new : EndpointState) (id : ℕ) (r : Option Refusal) → ((e : EndpointHistory) → StandsFor old e → id ≡ bounded (id_of e)) → IfSome old.last_goaway (λ earlier. earlier < 2 ^ 62)
    → DoesOrRefuses (λ e. goaway_once e id) old new r → DoesOrRefuses (λ e. goaway_once e (id_of e)) old new r
goes_bounded id_of old new id r is fits does =
    does_alike (λ e. goaway_once e id) (λ e. goaway_once e (id_of e)) old new r
    (λ e h. once_bounded e (id_of e) (subst (λ o. IfSome o (λ earlier. earlier < 2 ^ 62)) h.last_goaway fits) ∙ ap (goaway_once e) (sym (is e h))) does

-- Whether a stream was seen is known by what is stored.
there_mapped : (o : Option RequestState) → is_some (option_map (λ r. r.incoming) o) ≡ is_some o
there_mapped None = refl
there_mapped (Some r) = refl

pub was_seen : (s : EndpointState) (e : EndpointHistory) (id : ℕ) → StandsFor s e → is_some (stream_at e.incoming id) ≡ is_some (kept_at s.requests id)
was_seen s e id h = sym (ap is_some (h.incoming id)) ∙ there_mapped (kept_at s.requests id)

pub rejected_alike : (s : EndpointState) (e : EndpointHistory) (id : ℕ) → StandsFor s e → is_rejected_in s id ≡ is_rejected e id
rejected_alike s e id h =
    ap (λ a. is_rejected_by a.choices.extensions.requests_rejected (is_some s.closed) s.side s.last_goaway id (is_some (kept_at s.requests id))) h.announced
    ∙ ap (λ c. is_rejected_by e.announced.choices.extensions.requests_rejected (is_some c) s.side s.last_goaway id (is_some (kept_at s.requests id))) h.closed
    ∙ ap (λ side. is_rejected_by e.announced.choices.extensions.requests_rejected (is_some e.closed) side s.last_goaway id (is_some (kept_at s.requests id))) h.side
    ∙ ap (λ last. is_rejected_by e.announced.choices.extensions.requests_rejected (is_some e.closed) e.side last id (is_some (kept_at s.requests id))) h.last_goaway
    ∙ ap (λ seen. is_rejected_by e.announced.choices.extensions.requests_rejected (is_some e.closed) e.side (last_id e.own.goaways) id seen) (sym (was_seen s e id h))

-- The first id above all of some streams.
itself : (n : ℕ) → (n == n) ≡ true
itself n = grind (arith, common_steps)

up_to_greater : (a b n : ℕ) → a ≤ n → b ≤ n → greater a b ≤ n
up_to_greater a b n first second = by_test (nat_lt a b)
  where
    by_test : (t : Bool) → (if t then b else a) ≤ n
    by_test true = second
    by_test false = first

from_first : (a b n : ℕ) → n ≤ a → n ≤ greater a b
from_first a b n up = by_test (nat_lt a b) refl
  where
    by_test : (t : Bool) → nat_lt a b ≡ t → n ≤ (if t then b else a)
    by_test true is = let less : a < b = grind (arith, common_steps, is) in omega (arith, up, less)
    by_test false is = up

from_second : (a b n : ℕ) → n ≤ b → n ≤ greater a b
from_second a b n up = by_test (nat_lt a b) refl
  where
    by_test : (t : Bool) → nat_lt a b ≡ t → n ≤ (if t then b else a)
    by_test true is = up
    by_test false is = let least : b ≤ a = grind (arith, common_steps, is) in omega (arith, up, least)

-- a stream behind another is found, or that other is
still_found : {X : Type 0} (t : Bool) (x : X) (o : Option X) → is_some o ≡ true → is_some (if t then Some x else o) ≡ true
still_found true x o is = refl
still_found false x o is = is

most : {X : Type 0} (streams : Streams X) (n : ℕ) → ((q : ℕ) → is_some (stream_at streams q) ≡ true → q + 4 ≤ n) → first_above streams ≤ n
most [] n all = omega arith
most ((id, x) ∷ streams) n all =
    up_to_greater (id + 4) (first_above streams) n
    (all id (ap (λ b. is_some (if b then Some x else stream_at streams id)) (itself id)))
    (most streams n (λ q there. all q (still_found (id == q) x (stream_at streams q) there)))

least : {X : Type 0} (streams : Streams X) (q : ℕ) → is_some (stream_at streams q) ≡ true → q + 4 ≤ first_above streams
least [] q there = absurd (cc)
least {X} ((id, x) ∷ streams) q there = by_test (id == q) refl there (least streams q)
  where
    by_test : (t : Bool) → (id == q) ≡ t → is_some (if t then Some x else stream_at streams q) ≡ true → (is_some (stream_at streams q) ≡ true → q + 4 ≤ first_above streams) → q + 4 ≤ greater (id + 4) (first_above streams)
    by_test true is there later = let same : id ≡ q = grind (arith, common_steps, is) in from_first (id + 4) (first_above streams) (q + 4) (omega (arith, same))
    by_test false is there later = from_second (id + 4) (first_above streams) (q + 4) (later there)

level : (a b : ℕ) → a ≤ b → b ≤ a → a ≡ b
level a b up down = omega (arith, up, down)

unseen_by : {X : Type 0} (streams : Streams X) (one : Option ℕ) → IsGreatest (λ q. is_some (stream_at streams q)) one → first_above streams ≡ above_greatest one
unseen_by streams None h =
    level (first_above streams) 0 (most streams 0 (λ q there. absurd (let wrong : true ≡ false = sym there ∙ h q in cc))) (omega arith)
unseen_by streams (Some g) h = level (first_above streams) (g + 4) (most streams (g + 4) within) (least streams g h.0)
  where
    within : (q : ℕ) → is_some (stream_at streams q) ≡ true → q + 4 ≤ g + 4
    within q there = by_test (nat_lt g q) refl
      where
        by_test : (t : Bool) → nat_lt g q ≡ t → q + 4 ≤ g + 4
        by_test true is = let above : g < q = grind (arith, common_steps, is) in absurd (let wrong : true ≡ false = sym there ∙ h.1 q above in cc)
        by_test false is = let up : q ≤ g = grind (arith, common_steps, is) in omega (arith, up)

greatest_seen : (s : EndpointState) (e : EndpointHistory) (one : Option ℕ) → StandsFor s e → IsGreatest (λ q. is_some (kept_at s.requests q)) one → IsGreatest (λ q. is_some (stream_at e.incoming q)) one
greatest_seen s e None stands h = λ q. was_seen s e q stands ∙ h q
greatest_seen s e (Some id) stands h = (was_seen s e id stands ∙ h.0, λ q above. was_seen s e q stands ∙ h.1 q above)

-- `first_unseen`
pub shows_unseen : (s : EndpointState) (one : Option ℕ) (n : ℕ) → IsGreatest (λ q. is_some (kept_at s.requests q)) one → n ≡ bounded (above_greatest one) → ShowsFirstUnseen s n
shows_unseen s one n h is e stands = is ∙ ap bounded (sym (unseen_by e.incoming one (greatest_seen s e one stands h)))

-- Whether a stream that was seen is done with is known by what is stored.
negated : (settled sent bytes end : Bool) → not (bytes || end || not (true && (settled && sent))) ≡ (settled && sent && not (bytes || end))
negated true true true end = refl
negated true true false true = refl
negated true true false false = refl
negated true false true end = refl
negated true false false true = refl
negated true false false false = refl
negated false sent true end = refl
negated false sent false true = refl
negated false sent false false = refl

done_there : (s : EndpointState) (e : EndpointHistory) (id : ℕ) (r : RequestState) → StandsFor s e → kept_at s.requests id ≡ Some r → is_done e id ≡ not (is_unfinished (Some r))
done_there s e id r h was =
    let f = found s e id r.outgoing h (ap (option_map (λ r. r.outgoing)) was) in
    let received : incoming_at e id ≡ r.incoming = ap (λ o. unwrap_or o nothing_came) (sym (h.incoming id) ∙ ap (option_map (λ r. r.incoming)) was) in
    let settled : ((incoming_at e id).is_over || is_some (incoming_at e id).fault) ≡ (r.incoming.is_over || is_some r.incoming.fault) = ap (λ i. i.is_over || is_some i.fault) received in
    let off : is_sent_off (outgoing_at e id) ≡ sent.is_sent_off r.outgoing = ap (λ o. is_sent_off (unwrap_or o nothing_sent)) f.there ∙ sym (sent_off f.o r.outgoing f.is) in
    let bytes : has_waiting e id ≡ stored.has_bytes (Some r) = ap (λ bytes. nat_lt 0 (length bytes)) (sym (request_waits s e id r.outgoing h (ap (option_map (λ r. r.outgoing)) was))) in
    let end : has_end e id ≡ stored.has_end (Some r) = ap (λ o. unwrap_or (option_map (λ o. o.is_finished && not o.end_taken) o) false) f.there ∙ sym (end_waiting f.o r.outgoing f.is) in
    ap (λ b. b && is_sent_off (outgoing_at e id) && not (has_waiting e id || has_end e id)) settled
    ∙ ap (λ b. (r.incoming.is_over || is_some r.incoming.fault) && b && not (has_waiting e id || has_end e id)) off
    ∙ ap (λ b. (r.incoming.is_over || is_some r.incoming.fault) && sent.is_sent_off r.outgoing && not (b || has_end e id)) bytes
    ∙ ap (λ b. (r.incoming.is_over || is_some r.incoming.fault) && sent.is_sent_off r.outgoing && not (stored.has_bytes (Some r) || b)) end
    ∙ sym (negated (r.incoming.is_over || is_some r.incoming.fault) (sent.is_sent_off r.outgoing) (stored.has_bytes (Some r)) (stored.has_end (Some r)))

done_by : (s : EndpointState) (e : EndpointHistory) (id : ℕ) (o : Option RequestState) → StandsFor s e → kept_at s.requests id ≡ o → is_some o ≡ true → is_done e id ≡ not (is_unfinished o)
done_by s e id None h was some = absurd (cc)
done_by s e id (Some r) h was some = done_there s e id r h was

pub done_seen : (s : EndpointState) (e : EndpointHistory) (id : ℕ) → StandsFor s e → is_some (stream_at e.incoming id) ≡ true → is_done e id ≡ not (is_unfinished (kept_at s.requests id))
done_seen s e id h some = done_by s e id (kept_at s.requests id) h refl (sym (was_seen s e id h) ∙ some)

-- one of some streams does not pass a test
and_false : (b : Bool) → (b && false) ≡ false
and_false true = refl
and_false false = refl

one_fails : {X : Type 0} (test : ℕ → Bool) (streams : Streams X) (q : ℕ) → is_some (stream_at streams q) ≡ true → test q ≡ false → list_all (λ s. test s.0) streams ≡ false
one_fails test [] q there fails = absurd (cc)
one_fails {X} test ((id, x) ∷ streams) q there fails = by_test (id == q) refl there (λ more. one_fails test streams q more fails)
  where
    by_test : (t : Bool) → (id == q) ≡ t → is_some (if t then Some x else stream_at streams q) ≡ true → (is_some (stream_at streams q) ≡ true → list_all (λ s. test s.0) streams ≡ false) → (test id && list_all (λ s. test s.0) streams) ≡ false
    by_test true is there later = let same : id ≡ q = grind (arith, common_steps, is) in ap (λ b. b && list_all (λ s. test s.0) streams) (ap test same ∙ fails)
    by_test false is there later = ap (λ b. test id && b) (later there) ∙ and_false (test id)

some_unfinished : (o : Option RequestState) → is_unfinished o ≡ true → is_some o ≡ true
some_unfinished None h = absurd (cc)
some_unfinished (Some r) h = refl

pub done_by_one : (s : EndpointState) (e : EndpointHistory) (one : Option ℕ) → StandsFor s e → IsOneOf (λ q. is_unfinished (kept_at s.requests q)) one → not (is_some one) ≡ list_all (λ t. is_done e t.0) e.incoming
done_by_one s e None h none = sym (all_pass (is_done e) e.incoming (λ q there. done_seen s e q h there ∙ ap not (none q)))
done_by_one s e (Some id) h one =
    let there : is_some (stream_at e.incoming id) ≡ true = was_seen s e id h ∙ some_unfinished (kept_at s.requests id) one in
    sym (one_fails (is_done e) e.incoming id there (done_seen s e id h there ∙ ap not one))

pub last_client : (s : EndpointState) (e : EndpointHistory) → StandsFor s e → s.side ≡ Client → 0 ≡ bounded (last_taken e.side e)
last_client s e h is = sym (ap (λ side. bounded (last_taken side e)) (sym h.side ∙ is))

pub last_server : (s : EndpointState) (e : EndpointHistory) (n : ℕ) → StandsFor s e → s.side ≡ Server → ShowsFirstUnseen s n → n ≡ bounded (last_taken e.side e)
last_server s e n h is shows = shows e h ∙ sym (ap (λ side. bounded (last_taken side e)) (sym h.side ∙ is))

-- What no GOAWAY names is not rejected.
pub not_rejected : (asked closed seen request : Bool) (side : Side) (named : Bool) → named ≡ false → (asked && not closed && not (is_client side) && named && request && not seen) ≡ false
not_rejected asked closed seen request side named is = rw is (none_of (asked && not closed && not (is_client side)))
  where
    none_of : (b : Bool) → (b && false && request && not seen) ≡ false
    none_of true = refl
    none_of false = refl
