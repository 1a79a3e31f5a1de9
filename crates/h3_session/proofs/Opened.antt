-- What is stored stands for the endpoint's history, when a request stream is opened, replies are written, arrivals are kept, or the
-- connection has a fault.
use Rattle.std.proofs.Common.{arith, ◌≡◌, ℕ, List, ◌++◌, Option, Some, None, refl, ap, sym, subst, ◌∙◌, inl, inr}
use Rattle.std.proofs.lemmas.Bool.{cases_eq}
use Rattle.std.proofs.lemmas.List.Elements.{All-weaker}
use Rattle.std.specs.Prelude.{option_map, All, flat_map, unwrap_or}
use Rattle.h3_field.specs.Instruction.{DecoderInstruction, decoder_bytes}
use Rattle.h3_unidirectional.specs.OwnLaws.{replies_stand}
use Rattle.h3_connection.specs.Arrivals.{stream_of}
use Rattle.h3_connection.specs.declared.arrival.Arrival.{Arrival}
use Rattle.h3_connection.specs.Calls.{Sets, AllSame, fresh_request}
use Rattle.h3_connection.specs.Delivering.{with_incoming, incoming_at, opened_at, opened}
use Rattle.h3_connection.specs.Endpoint.{EndpointHistory, replied}
use Rattle.h3_connection.specs.Incoming.{Incoming, nothing_came}
use Rattle.h3_connection.specs.Outgoing.{Outgoing, nothing_sent}
use Rattle.h3_connection.specs.StandsLaws.{own_same, reached_same, part_set, sent_set, stands_receiving, still_there}
use Rattle.h3_connection.specs.State.{EndpointState, RequestState, StandsFor, IsOfOutgoing, KeepsOpen, SameAt, kept_at}
use Rattle.h3_connection.specs.StreamSets.{Streams, HaveDistinctIds, stream_at, set_stream}
use Rattle.h3_connection.specs.StreamSetLaws.{other_id, set-here, set-other, set-distinct}

-- The request streams of an endpoint are others.
pub stands_requests : (s : EndpointState) (e : EndpointHistory) (new : Streams RequestState) (ins : Streams Incoming) (outs : Streams Outgoing) → StandsFor s e
    → ((q : ℕ) → option_map (λ r. r.incoming) (kept_at new q) ≡ stream_at ins q)
    → ((q : ℕ) → SameAt IsOfOutgoing (stream_at outs q) (option_map (λ r. r.outgoing) (kept_at new q)))
    → HaveDistinctIds ins → All (KeepsOpen e.side ins) e.kept → StandsFor (record s { requests = new }) (record e { incoming = ins; outgoing = outs })
stands_requests s e new ins outs h received sent distinct keeps =
    record {
      side = h.side;
      announced = h.announced;
      closed = h.closed;
      next_id = h.next_id;
      incoming = received;
      outgoing = sent;
      unidirectional = h.unidirectional;
      distinct = distinct;
      control_on = h.control_on;
      encoder_on = h.encoder_on;
      decoder_on = h.decoder_on;
      peer = h.peer;
      decoding = h.decoding;
      encoder = h.encoder;
      decoder_unread = h.decoder_unread;
      own = own_same s.own e (record e { incoming = ins; outgoing = outs }) refl h.own;
      last_goaway = h.last_goaway;
      kept = h.kept;
      sent = h.sent;
      order = h.order;
      reached = record { unlearned = h.reached.unlearned; control = h.reached.control; encoder = h.reached.encoder; decoder = h.reached.decoder; told_control = h.reached.told_control; told_encoder = h.reached.told_encoder; told_decoder = h.reached.told_decoder; kept = keeps; own_updates = h.reached.own_updates };
    }

-- the same streams are found
pub stands_same : (s : EndpointState) (e : EndpointHistory) (new : Streams RequestState) → StandsFor s e → AllSame s.requests new → StandsFor (record s { requests = new }) e
stands_same s e new h same = stands_requests s e new e.incoming e.outgoing h
    (λ q. ap (option_map (λ r. r.incoming)) (same.each q) ∙ h.incoming q)
    (λ q. subst (λ o. SameAt IsOfOutgoing (stream_at e.outgoing q) (option_map (λ r. r.outgoing) o)) (sym (same.each q)) (h.outgoing q))
    h.distinct h.reached.kept

-- a stream that is not stored is none of the history
pub none_there : (s : EndpointState) (e : EndpointHistory) (id : ℕ) → StandsFor s e → kept_at s.requests id ≡ None → stream_at e.incoming id ≡ None
none_there s e id h was = sym (h.incoming id) ∙ ap (option_map (λ r. r.incoming)) was

pub some_there : (s : EndpointState) (e : EndpointHistory) (id : ℕ) (r : RequestState) → StandsFor s e → kept_at s.requests id ≡ Some r → stream_at e.incoming id ≡ Some r.incoming
some_there s e id r h was = sym (h.incoming id) ∙ ap (option_map (λ r. r.incoming)) was

-- Where none is stored, a stream is opened; and what came on it then is its receiver's.
pub stands_fresh : (s : EndpointState) (e : EndpointHistory) (new : Streams RequestState) (id : ℕ) (x : RequestState) → StandsFor s e
    → IsOfOutgoing nothing_sent x.outgoing → Sets s.requests new id x → StandsFor (record s { requests = new }) (with_incoming (opened_at e id None) id x.incoming)
stands_fresh s e new id x h is sets =
    let ins = set_stream e.incoming id nothing_came in
    stands_requests s e new (set_stream ins id x.incoming) (set_stream e.outgoing id nothing_sent) h
    (λ q. elim (cases_eq q id) [
      | inl same ↦ rw same (ap (option_map (λ r. r.incoming)) sets.here ∙ sym (set-here ins id x.incoming))
      | inr differs ↦ ap (option_map (λ r. r.incoming)) (sets.others q differs) ∙ h.incoming q
          ∙ sym (set-other ins id q x.incoming (other_id q id differs) ∙ set-other e.incoming id q nothing_came (other_id q id differs))
    ])
    (sent_set s.requests new e.outgoing id x nothing_sent h.outgoing is sets)
    (set-distinct ins id x.incoming (set-distinct e.incoming id nothing_came h.distinct))
    (All-weaker (KeepsOpen e.side e.incoming) (KeepsOpen e.side (set_stream ins id x.incoming)) (λ a keeps is. still_there ins id (stream_of a) x.incoming (still_there e.incoming id (stream_of a) nothing_came (keeps is))) e.kept h.reached.kept)

-- what a stream is sent of which nothing was sent
pub fresh_sent : IsOfOutgoing nothing_sent fresh_request.outgoing
fresh_sent = record { pieces = refl; place = refl; content = refl; is_finished = refl; is_reset = refl; end_taken = refl; precedence = refl; taken = λ is. omega arith }

-- Where none is stored, a stream is opened.
pub stands_opened : (s : EndpointState) (e : EndpointHistory) (new : Streams RequestState) (id : ℕ) → StandsFor s e
    → Sets s.requests new id fresh_request → StandsFor (record s { requests = new }) (opened_at e id None)
stands_opened s e new id h sets =
    stands_requests s e new (set_stream e.incoming id nothing_came) (set_stream e.outgoing id nothing_sent) h
    (part_set (λ r. r.incoming) s.requests new e.incoming id fresh_request h.incoming sets)
    (sent_set s.requests new e.outgoing id fresh_request nothing_sent h.outgoing fresh_sent sets)
    (set-distinct e.incoming id nothing_came h.distinct)
    (All-weaker (KeepsOpen e.side e.incoming) (KeepsOpen e.side (set_stream e.incoming id nothing_came)) (λ a keeps is. still_there e.incoming id (stream_of a) nothing_came (keeps is)) e.kept h.reached.kept)

-- What came on a request stream is its receiver's; one that is not stored is opened first.
pub received_at : (s : EndpointState) (e : EndpointHistory) (new : Streams RequestState) (id : ℕ) (i : Incoming) (at : Option RequestState) → StandsFor s e → kept_at s.requests id ≡ at
    → Sets s.requests new id (record (unwrap_or at fresh_request) { incoming = i }) → StandsFor (record s { requests = new }) (with_incoming (opened e id) id i)
received_at s e new id i (Some r) h was sets =
    subst (λ o. StandsFor (record s { requests = new }) (with_incoming (opened_at e id o) id i)) (sym (some_there s e id r h was))
    (stands_receiving s e new id r (record r { incoming = i }) h was refl sets)
received_at s e new id i None h was sets =
    subst (λ o. StandsFor (record s { requests = new }) (with_incoming (opened_at e id o) id i)) (sym (none_there s e id h was))
    (stands_fresh s e new id (record fresh_request { incoming = i }) h fresh_sent sets)

pub incoming_of : (s : EndpointState) (e : EndpointHistory) (id : ℕ) (at : Option RequestState) → StandsFor s e → kept_at s.requests id ≡ at
    → (unwrap_or at fresh_request).incoming ≡ incoming_at e id
incoming_of s e id (Some r) h was = ap (λ o. unwrap_or o nothing_came) (sym (some_there s e id r h was))
incoming_of s e id None h was = ap (λ o. unwrap_or o nothing_came) (sym (none_there s e id h was))

-- Replies of the decoder were written.
pub stands_replied : (s : EndpointState) (e : EndpointHistory) (bytes : List ℕ) (replies : List DecoderInstruction) → StandsFor s e
    → bytes ≡ s.own.decoder ++ flat_map decoder_bytes replies → StandsFor (record s { own = record s.own { decoder = bytes } }) (replied e replies)
stands_replied s e bytes replies h is =
    record {
      side = h.side;
      announced = h.announced;
      closed = h.closed;
      next_id = h.next_id;
      incoming = h.incoming;
      outgoing = h.outgoing;
      unidirectional = h.unidirectional;
      distinct = h.distinct;
      control_on = h.control_on;
      encoder_on = h.encoder_on;
      decoder_on = h.decoder_on;
      peer = h.peer;
      decoding = h.decoding;
      encoder = h.encoder;
      decoder_unread = h.decoder_unread;
      own = rw is (replies_stand s.own e replies h.own);
      last_goaway = h.last_goaway;
      kept = h.kept;
      sent = h.sent;
      order = h.order;
      reached = reached_same e (replied e replies) refl h.reached.own_updates h.reached;
    }

-- The connection has a fault.
pub stands_closed : (s : EndpointState) (e : EndpointHistory) (code : ℕ) → StandsFor s e → StandsFor (record s { closed = Some code }) (record e { closed = Some code })
stands_closed s e code h =
    record {
      side = h.side;
      announced = h.announced;
      closed = refl;
      next_id = h.next_id;
      incoming = h.incoming;
      outgoing = h.outgoing;
      unidirectional = h.unidirectional;
      distinct = h.distinct;
      control_on = h.control_on;
      encoder_on = h.encoder_on;
      decoder_on = h.decoder_on;
      peer = h.peer;
      decoding = h.decoding;
      encoder = h.encoder;
      decoder_unread = h.decoder_unread;
      own = own_same s.own e (record e { closed = Some code }) refl h.own;
      last_goaway = h.last_goaway;
      kept = h.kept;
      sent = h.sent;
      order = h.order;
      reached = reached_same e (record e { closed = Some code }) refl h.reached.own_updates h.reached;
    }

-- Other arrivals are kept.
pub stands_keeping : (s : EndpointState) (e : EndpointHistory) (kept : List Arrival) → StandsFor s e → All (KeepsOpen e.side e.incoming) kept
    → StandsFor (record s { kept = kept }) (record e { kept = kept })
stands_keeping s e kept h keeps =
    record {
      side = h.side;
      announced = h.announced;
      closed = h.closed;
      next_id = h.next_id;
      incoming = h.incoming;
      outgoing = h.outgoing;
      unidirectional = h.unidirectional;
      distinct = h.distinct;
      control_on = h.control_on;
      encoder_on = h.encoder_on;
      decoder_on = h.decoder_on;
      peer = h.peer;
      decoding = h.decoding;
      encoder = h.encoder;
      decoder_unread = h.decoder_unread;
      own = record {
        control = h.own.control;
        encoder = h.own.encoder;
        decoder = h.own.decoder;
        taken = record { control = h.own.taken.control; encoder = h.own.taken.encoder; decoder = h.own.taken.decoder };
      };
      last_goaway = h.last_goaway;
      kept = refl;
      sent = h.sent;
      order = h.order;
      reached = record { unlearned = h.reached.unlearned; control = h.reached.control; encoder = h.reached.encoder; decoder = h.reached.decoder; told_control = h.reached.told_control; told_encoder = h.reached.told_encoder; told_decoder = h.reached.told_decoder; kept = keeps; own_updates = h.reached.own_updates };
    }
