-- A new request stream: what the ends answer, and where they stand.
use Rattle.std.proofs.Common.{◌≡◌, ℕ, zero, suc, ◌+◌, List, [], ◌∷◌, ◌++◌, refl, ◌≤◌, length, arith, ap, if◌then◌else◌, ◌*◌, true, ◌∙◌, length-append, ◌<◌, Bool, false, nat_lt, sym, subst, Some, None, ◌^◌, Option}
use Rattle.std.specs.Prelude.{slice_get, unwrap_or, not, ◌/◌, ◌%◌, ◌==◌, ◌&&◌, nat_le}
use Rattle.h3_world.specs.World.{Exchange, no_exchange, World}
use Rattle.h3_proto.specs.StreamIds.{is_request_stream, index_of}
use Rattle.h3_world.specs.Sending.{opened}
use Rattle.h3_world.specs.Streams.{exchange, flow, is_open}
use Rattle.h3_proto.specs.declared.stream.Side.{Side}
use Rattle.h3_proto.specs.declared.stream.Side.TheVariants.{Client, Server}
use Rattle.std.proofs.Math.Nat.{div-add-mod}
use Rattle.h3_world.specs.Refusals.{next_id, open_refusal}
use Rattle.std.proofs.lemmas.Grind.{common_steps}
use Rattle.h3_connection.specs.Incoming.{nothing_came}
use Rattle.h3_world.specs.Flow.{unused, Flow}
use Rattle.h3_connection.specs.Endpoint.{EndpointHistory}
use Rattle.h3_connection.specs.Outgoing.{nothing_sent}
use Rattle.h3_connection.specs.StreamSets.{stream_at, set_stream}
use Rattle.h3_connection.specs.StreamSetLaws.{set-distinct}
use Rattle.h3_world.specs.Setup.{Setup}
use Rattle.h3_world.specs.Order.{outgoing_of}
use Rattle.h3_connection.specs.Lasts.{last_id}
use Rattle.h3_connection.specs.Pulling.{is_client}
use Rattle.h3_connection.specs.Refusals.{going_away}
use Rattle.h3_connection.specs.Sending as sender
use Rattle.h3_connection.specs.declared.event.Refusal.TheVariants as refusal
use Rattle.h3_world.specs.Came.{goaways_came}
use Rattle.h3_world.specs.Ends.{Ends, end_at, answered}
use Rattle.std.specs.List.{AllByRecursion}
use Rattle.h3_connection.specs.Delivering.{opened_at}
use Rattle.h3_connection.specs.declared.event.Refusal.{Refusal}
use Rattle.h3_world.specs.declared.event.Event.TheVariants as event
use Rattle.h3_world.specs.declared.event.Answer.TheVariants as answer
use Rattle.h3_world.specs.Machine.{served}
use Rattle.h3_headline.specs.Calls.{Serves, with_new}
use Rattle.h3_headline.specs.FlowLaws.{same_number}
use Rattle.h3_headline.specs.MovesLaws.{set_at, stands_moved}
use Rattle.h3_headline.specs.SendingLaws.{call_agrees, goes_unclosed}
use Rattle.h3_headline.specs.Standing.{IsReadable, ReceivesAt, ReceivesFlow, Stands, StandsAt}

get_default : (es : List Exchange) (n : ℕ) → unwrap_or (slice_get (es ++ no_exchange ∷ []) n) no_exchange ≡ unwrap_or (slice_get es n) no_exchange
get_default [] zero = refl
get_default [] (suc n) = refl
get_default (e ∷ es) zero = refl
get_default (e ∷ es) (suc n) = get_default es n

beyond : (es : List Exchange) (n : ℕ) → length es ≤ n → unwrap_or (slice_get es n) no_exchange ≡ no_exchange
beyond [] n h = refl
beyond (e ∷ es) zero h = absurd (omega (arith, h))
beyond (e ∷ es) (suc n) h = beyond es n (omega (arith, h))

-- a stream on which nothing has happened is there as one that is not there
exchange_opened : (w : World) (i : ℕ) → exchange (opened w) i ≡ exchange w i
exchange_opened w i = ap (λ e. if is_request_stream i then e else no_exchange) (get_default w.exchanges (index_of i))

pub flow_opened : (w : World) (side : Side) (i : ℕ) → flow (opened w) side i ≡ flow w side i
flow_opened w Client i = ap (λ e. e.request) (exchange_opened w i)
flow_opened w Server i = ap (λ e. e.response) (exchange_opened w i)

four_of : (n : ℕ) → (4 * n) / 4 ≡ n
four_of n = omega (arith, div-add-mod (4 * n) 4)

request_of : (n : ℕ) → is_request_stream (4 * n) ≡ true
request_of n = let k : (4 * n) % 4 ≡ 0 = omega (arith, div-add-mod (4 * n) 4) in ap (λ m. m == 0) k

new_unused : (w : World) → exchange w (next_id w) ≡ no_exchange
new_unused w =
    ap (λ b. if b then unwrap_or (slice_get w.exchanges (index_of (next_id w))) no_exchange else no_exchange) (request_of (length w.exchanges))
    ∙ beyond w.exchanges (index_of (next_id w)) (omega (arith, four_of (length w.exchanges)))

pub one_more : (w : World) → length (opened w).exchanges ≡ length w.exchanges + 1
one_more w = length-append w.exchanges (no_exchange ∷ [])

within_more : (i n : ℕ) → is_request_stream i ≡ true → (4 * n == i) ≡ false → nat_lt (index_of i) (n + 1) ≡ nat_lt (index_of i) n
within_more i n request off = by_test (nat_lt (i / 4) (n + 1)) refl (nat_lt (i / 4) n) refl
  where
    whole : i % 4 ≡ 0
    whole = same_number (i % 4) 0 request

    differ : 4 * n ≡ i → ⊥
    differ e = grind (arith, common_steps, off, e)

    below : nat_lt (i / 4) (n + 1) ≡ true → i / 4 < n + 1
    below e = grind (arith, common_steps, e)

    above : nat_lt (i / 4) n ≡ false → n ≤ i / 4
    above e = grind (arith, common_steps, e)

    less : nat_lt (i / 4) n ≡ true → i / 4 < n
    less e = grind (arith, common_steps, e)

    over : nat_lt (i / 4) (n + 1) ≡ false → n + 1 ≤ i / 4
    over e = grind (arith, common_steps, e)

    by_test : (a : Bool) → nat_lt (i / 4) (n + 1) ≡ a → (b : Bool) → nat_lt (i / 4) n ≡ b → a ≡ b
    by_test true p true q = refl
    by_test false p false q = refl
    by_test true p false q = absurd (differ (omega (arith, below p, above q, div-add-mod i 4, whole)))
    by_test false p true q = absurd (omega (arith, over p, less q))

pub open_opened : (w : World) (i : ℕ) → is_open (opened w) Client i ≡ (if next_id w == i then true else is_open w Client i)
open_opened w i = ap (λ n. is_request_stream i && nat_lt (index_of i) n) (one_more w) ∙ by_id (next_id w == i) refl
  where
    here : is_request_stream (next_id w) ≡ true → nat_lt (index_of (next_id w)) (length w.exchanges + 1) ≡ true
    here r = let k : index_of (next_id w) ≡ length w.exchanges = four_of (length w.exchanges) in ap (λ n. nat_lt n (length w.exchanges + 1)) k ∙ less (length w.exchanges)
      where
        less : (n : ℕ) → nat_lt n (n + 1) ≡ true
        less n = grind (arith, common_steps)

    elsewhere : (next_id w == i) ≡ false → (r : Bool) → is_request_stream i ≡ r → (r && nat_lt (index_of i) (length w.exchanges + 1)) ≡ (r && nat_lt (index_of i) (length w.exchanges))
    elsewhere off true r = within_more i (length w.exchanges) r off
    elsewhere off false r = refl

    by_id : (t : Bool) → (next_id w == i) ≡ t → (is_request_stream i && nat_lt (index_of i) (length w.exchanges + 1)) ≡ (if t then true else is_open w Client i)
    by_id true same =
        ap (λ j. is_request_stream j && nat_lt (index_of j) (length w.exchanges + 1)) (sym (same_number (next_id w) i same))
        ∙ ap (λ b. b && nat_lt (index_of (next_id w)) (length w.exchanges + 1)) (request_of (length w.exchanges)) ∙ here (request_of (length w.exchanges))
    by_id false off = elsewhere off (is_request_stream i) refl

-- a server has not seen it
pub unopened : (w : World) (i : ℕ) → is_open (opened w) Server i ≡ is_open w Server i
unopened w i =
    ap (λ (e : Exchange). is_open (opened w) Client i && e.request.seen) (exchange_opened w i) ∙ ap (λ b. b && (exchange w i).request.seen) (open_opened w i) ∙ by_id (next_id w == i) refl
  where
    none : (b : Bool) → (b && false) ≡ false
    none true = refl
    none false = refl

    by_id : (t : Bool) → (next_id w == i) ≡ t → ((if t then true else is_open w Client i) && (exchange w i).request.seen) ≡ (is_open w Client i && (exchange w i).request.seen)
    by_id true same =
        let unseen : (exchange w i).request.seen ≡ false = ap (λ j. (exchange w j).request.seen) (sym (same_number (next_id w) i same)) ∙ ap (λ (e : Exchange). e.request.seen) (new_unused w) in
        unseen ∙ sym (ap (λ b. is_open w Client i && b) unseen ∙ none (is_open w Client i))
    by_id false off = refl

unused_kept : ReceivesFlow unused nothing_came
unused_kept =
    record {
      fault = refl;
      ended = refl;
      was_reset = refl;
      is_over = refl;
      waits_for = refl;
      reads = λ alive. record { unread = (refl, refl); waits = refl; pieces = tt; place = refl; content = refl };
      given_up = λ lost. record { unread = refl; section = refl; waits = refl };
    }

opener_stands : (setup : Setup) (w : World) (e : EndpointHistory) → StandsAt setup w Client e → StandsAt setup (opened w) Client (with_new e (next_id w))
opener_stands setup w e h =
    let id = next_id w in
    let v = opened w in
    stands_moved setup w v Client e (with_new e id) h
    (record {
      same = refl;
      own = h.own;
      encoder = h.encoder;
      control = h.control;
      encoder_stream = h.encoder_stream;
      decoder_stream = h.decoder_stream;
      outgoing = λ i. set_at e.outgoing id i nothing_sent ∙ sends i (id == i) refl
          ∙ ap (λ b. if b then Some (outgoing_of (flow w Client i)) else None) (sym (open_opened w i))
          ∙ ap (λ o. if is_open v Client i then Some (outgoing_of o) else None) (sym (flow_opened w Client i));
      incoming = λ i. subst (λ b. ReceivesAt b (flow v Server i) (stream_at (set_stream e.incoming id nothing_came) i)) (sym (open_opened w i))
          (subst (λ o. ReceivesAt (if id == i then true else is_open w Client i) o (stream_at (set_stream e.incoming id nothing_came) i)) (sym (flow_opened w Server i))
          (subst (ReceivesAt (if id == i then true else is_open w Client i) (flow w Server i)) (sym (set_at e.incoming id i nothing_came)) (receives i (id == i) refl)));
      distinct = set-distinct e.incoming id nothing_came h.distinct;
    })
  where
    sends : (i : ℕ) (t : Bool) → (next_id w == i) ≡ t
        → (if t then Some nothing_sent else stream_at e.outgoing i) ≡ (if (if t then true else is_open w Client i) then Some (outgoing_of (flow w Client i)) else None)
    sends i true same = ap (λ (x : Exchange). Some (outgoing_of x.request)) (sym (new_unused w)) ∙ ap (λ j. Some (outgoing_of (flow w Client j))) (same_number (next_id w) i same)
    sends i false off = h.outgoing i

    receives : (i : ℕ) (t : Bool) → (next_id w == i) ≡ t → ReceivesAt (if t then true else is_open w Client i) (flow w Server i) (if t then Some nothing_came else stream_at e.incoming i)
    receives i true same = subst (λ (f : Flow). ReceivesFlow f nothing_came) (sym (ap (λ j. flow w Server j) (sym (same_number (next_id w) i same)) ∙ ap (λ (x : Exchange). x.response) (new_unused w))) unused_kept
    receives i false off = h.incoming i

waiter_stands : (setup : Setup) (w : World) (e : EndpointHistory) → StandsAt setup w Server e → StandsAt setup (opened w) Server e
waiter_stands setup w e h =
    let v = opened w in
    stands_moved setup w v Server e e h
    (record {
      same = refl;
      own = h.own;
      encoder = h.encoder;
      control = h.control;
      encoder_stream = h.encoder_stream;
      decoder_stream = h.decoder_stream;
      outgoing = λ i. h.outgoing i
          ∙ ap (λ b. if b then Some (outgoing_of (flow w Server i)) else None) (sym (unopened w i))
          ∙ ap (λ o. if is_open v Server i then Some (outgoing_of o) else None) (sym (flow_opened w Server i));
      incoming = λ i. subst (λ b. ReceivesAt b (flow v Client i) (stream_at e.incoming i)) (sym (unopened w i))
          (subst (λ o. ReceivesAt (is_open w Server i) o (stream_at e.incoming i)) (sym (flow_opened w Client i)) (h.incoming i));
      distinct = h.distinct;
    })

-- the ends refuse a new stream as the world does
open_agrees : (setup : Setup) (w : World) (ends : Ends) (side : Side) → Stands setup w ends → sender.open_refusal (end_at ends side) ≡ open_refusal setup w side
open_agrees setup w ends Client h =
    goes_unclosed setup w Client ends.client _ h.at_client
    ∙ ap (λ s. if not (is_client s) then Some refusal.NotClient else going_away (last_id ends.client.peer.goaways) (if nat_le (2 ^ 62) ends.client.next_id then Some refusal.IdsUsedUp else None)) h.at_client.side_is
    ∙ ap (λ ids. going_away (last_id ids) (if nat_le (2 ^ 62) ends.client.next_id then Some refusal.IdsUsedUp else None)) h.at_client.control.goaways_are
    ∙ ap (λ n. going_away (last_id (goaways_came setup w Server)) (if nat_le (2 ^ 62) n then Some refusal.IdsUsedUp else None)) h.next_id
open_agrees setup w ends Server h =
    goes_unclosed setup w Server ends.server _ h.at_server
    ∙ ap (λ s. if not (is_client s) then Some refusal.NotClient else going_away (last_id ends.server.peer.goaways) (if nat_le (2 ^ 62) ends.server.next_id then Some refusal.IdsUsedUp else None)) h.at_server.side_is

pub open_served : (setup : Setup) (w : World) (ends : Ends) (side : Side) → Stands setup w ends → Serves setup (answered ends (event.OpenRequest side)) (served setup w (event.OpenRequest side))
open_served setup w ends Client h =
    let e = ends.client in
    let v = opened w in
    let new = record (opened_at e e.next_id None) { next_id = e.next_id + 4 } in
    call_agrees setup w v ends Client (answer.Opened e.next_id) (answer.Opened (next_id w)) (sender.open_refusal e) (open_refusal setup w Client) new h (open_agrees setup w ends Client h)
    (λ goes. record {
      same = ap answer.Opened h.next_id;
      both = record {
        here = subst (λ n. StandsAt setup v Client (with_new e n)) (sym h.next_id) (opener_stands setup w e h.at_client);
        there = waiter_stands setup w ends.server h.at_server;
        writes_here = h.client_writes;
        writes_there = h.server_writes;
        sends_here = λ i. subst (λ (o : Flow). AllByRecursion (IsReadable setup Server) o.sent) (sym (flow_opened w Client i)) (h.requests i);
        sends_there = λ i. subst (λ (o : Flow). AllByRecursion (IsReadable setup Client) o.sent) (sym (flow_opened w Server i)) (h.responses i);
      };
      next_id = ap (λ n. n + 4) h.next_id ∙ sum (length w.exchanges) ∙ sym (ap (λ n. 4 * n) (one_more w));
    })
  where
    sum : (n : ℕ) → 4 * n + 4 ≡ 4 * (n + 1)
    sum n = omega arith
open_served setup w ends Server h =
    call_agrees setup w (opened w) ends Server (answer.Opened ends.server.next_id) (answer.Opened (next_id w)) (sender.open_refusal ends.server) (open_refusal setup w Server)
    (record (opened_at ends.server ends.server.next_id None) { next_id = ends.server.next_id + 4 }) h (open_agrees setup w ends Server h)
    (λ goes. absurd (refused goes))
  where
    refused : ◌≡◌ {A = Option Refusal} (Some refusal.NotClient) None → ⊥
    refused e = cc
