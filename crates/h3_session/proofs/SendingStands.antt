-- What is stored stands for the endpoint's history, after what a call that sends has changed.
use Rattle.std.proofs.Common.{◌≡◌, ◌==◌, ℕ, ◌+◌, ◌≤◌, Bool, true, false, if◌then◌else◌, List, [], ◌∷◌, ◌++◌, length, flat_map, Some, None, refl, ap, sym, subst, ◌∙◌, arith, length-append}
use Rattle.std.specs.Prelude.{All}
use Rattle.std.proofs.lemmas.List.Elements.{All-push, All-weaker}
use Rattle.h3_field.specs.Instruction.{EncoderInstruction, encoder_bytes}
use Rattle.h3_qpack.specs.EncoderHistory.{EncoderHistory}
use Rattle.h3_qpack.specs.EncoderState.{encoder_state}
use Rattle.h3_connection.specs.Arrivals.{stream_of}
use Rattle.h3_connection.specs.Calls.{Sets, fresh_request}
use Rattle.h3_connection.specs.Delivering.{opened_at}
use Rattle.h3_connection.specs.Endpoint.{EndpointHistory, Own, goaway_encoding}
use Rattle.h3_connection.specs.Incoming.{nothing_came}
use Rattle.h3_connection.specs.Lasts.{last_id}
use Rattle.h3_connection.specs.LastLaws.{last_appended}
use Rattle.h3_connection.specs.Listeners.{Encoding}
use Rattle.h3_connection.specs.OwnIds.{control_id, encoder_id, decoder_id}
use Rattle.h3_connection.specs.OwnUpdates.{OwnUpdate, update_encoding}
use Rattle.h3_connection.specs.Outgoing.{nothing_sent}
use Rattle.h3_connection.specs.Sending.{counted, own_advanced}
use Rattle.h3_connection.specs.State.{EndpointState, RequestState, StandsFor, OwnStands, IsBehind, IsOfOutgoing, IsReached, KeepsOpen, nothing_waits}
use Rattle.h3_connection.specs.StreamSets.{Streams, set_stream}
use Rattle.h3_connection.specs.StreamSetLaws.{set-distinct}
use Rattle.h3_connection.specs.StandsLaws.{own_same, reached_same, still_there, part_set, sent_set}
use Rattle.h3_unidirectional.specs.Owned.{waiting_on, having_taken}
use Rattle.h3_unidirectional.specs.OwnLaws.{goaway_stands, instructions_stand, taken_stands, update_stands}

-- a stream on which nothing was sent
fresh_sent : IsOfOutgoing nothing_sent nothing_waits
fresh_sent = record { pieces = refl; place = refl; content = refl; is_finished = refl; is_reset = refl; end_taken = refl; precedence = refl; taken = λ here. omega arith }

reached_opened : (e : EndpointHistory) (id : ℕ) → IsReached e → IsReached (opened_at e id None)
reached_opened e id h =
    record {
      unlearned = h.unlearned;
      control = h.control;
      encoder = h.encoder;
      decoder = h.decoder;
      told_control = h.told_control;
      told_encoder = h.told_encoder;
      told_decoder = h.told_decoder;
      kept = All-weaker (KeepsOpen e.side e.incoming) (KeepsOpen e.side (set_stream e.incoming id nothing_came))
          (λ a keeps is. still_there e.incoming id (stream_of a) nothing_came (keeps is)) e.kept h.kept;
      own_updates = h.own_updates;
    }

-- The next request stream was opened.
pub opened_stands : (s : EndpointState) (e : EndpointHistory) (new : Streams RequestState) → StandsFor s e → Sets s.requests new s.next_id fresh_request
    → StandsFor (record s { requests = new; next_id = s.next_id + 4 }) (record (opened_at e e.next_id None) { next_id = e.next_id + 4 })
opened_stands s e new h sets =
    let here : Sets s.requests new e.next_id fresh_request = subst (λ n. Sets s.requests new n fresh_request) h.next_id sets in
    record {
      side = h.side;
      announced = h.announced;
      closed = h.closed;
      next_id = ap (λ n. n + 4) h.next_id;
      incoming = part_set (λ r. r.incoming) s.requests new e.incoming e.next_id fresh_request h.incoming here;
      outgoing = sent_set s.requests new e.outgoing e.next_id fresh_request nothing_sent h.outgoing fresh_sent here;
      unidirectional = h.unidirectional;
      distinct = set-distinct e.incoming e.next_id nothing_came h.distinct;
      control_on = h.control_on;
      encoder_on = h.encoder_on;
      decoder_on = h.decoder_on;
      peer = h.peer;
      decoding = h.decoding;
      encoder = h.encoder;
      decoder_unread = h.decoder_unread;
      own = own_same s.own e (record (opened_at e e.next_id None) { next_id = e.next_id + 4 }) refl h.own;
      last_goaway = h.last_goaway;
      kept = h.kept;
      sent = h.sent;
      order = h.order;
      reached = reached_same (opened_at e e.next_id None) (record (opened_at e e.next_id None) { next_id = e.next_id + 4 }) refl h.reached.own_updates (reached_opened e e.next_id h.reached);
    }

-- One more call was counted.
pub counted_stands : (s : EndpointState) (e : EndpointHistory) (cost : ℕ) → StandsFor s e → StandsFor (record s { sent = s.sent + cost + 64 }) (counted e cost)
counted_stands s e cost h =
    record {
      side = h.side;
      announced = h.announced;
      closed = h.closed;
      next_id = h.next_id;
      incoming = h.incoming;
      outgoing = h.outgoing;
      unidirectional = h.unidirectional;
      distinct = h.distinct;
      control_on = h.control_on;
      encoder_on = h.encoder_on;
      decoder_on = h.decoder_on;
      peer = h.peer;
      decoding = h.decoding;
      encoder = h.encoder;
      decoder_unread = h.decoder_unread;
      own = own_same s.own e (counted e cost) refl h.own;
      last_goaway = h.last_goaway;
      kept = h.kept;
      sent = ap (λ n. n + cost + 64) h.sent;
      order = h.order;
      reached = reached_same e (counted e cost) refl h.reached.own_updates h.reached;
    }

-- Updates that stand after no more than these stand after no more than these and one more.
still_behind : (ids : List ℕ) (id : ℕ) (u : OwnUpdate) → IsBehind (length ids) u → IsBehind (length (ids ++ id ∷ [])) u
still_behind ids id u behind = omega (arith, behind, length-append ids (id ∷ []))

-- A GOAWAY frame was written.
pub goaway_stands_for : (s : EndpointState) (e : EndpointHistory) (id : ℕ) → StandsFor s e
    → StandsFor (record s { own = record s.own { control = s.own.control ++ goaway_encoding id }; last_goaway = Some id })
    (record e { own = record e.own { goaways = e.own.goaways ++ id ∷ [] } })
goaway_stands_for s e id h =
    record {
      side = h.side;
      announced = h.announced;
      closed = h.closed;
      next_id = h.next_id;
      incoming = h.incoming;
      outgoing = h.outgoing;
      unidirectional = h.unidirectional;
      distinct = h.distinct;
      control_on = h.control_on;
      encoder_on = h.encoder_on;
      decoder_on = h.decoder_on;
      peer = h.peer;
      decoding = h.decoding;
      encoder = h.encoder;
      decoder_unread = h.decoder_unread;
      own = goaway_stands s.own e id h.reached.own_updates h.own;
      last_goaway = sym (last_appended e.own.goaways id);
      kept = h.kept;
      sent = h.sent;
      order = h.order;
      reached = reached_same e (record e { own = record e.own { goaways = e.own.goaways ++ id ∷ [] } }) refl
          (All-weaker (IsBehind (length e.own.goaways)) (IsBehind (length (e.own.goaways ++ id ∷ []))) (λ u behind. still_behind e.own.goaways id u behind) e.own.updates h.reached.own_updates)
          h.reached;
    }

-- A PRIORITY_UPDATE frame was written.
pub update_stands_for : (s : EndpointState) (e : EndpointHistory) (u : OwnUpdate) → u.behind ≡ length e.own.goaways → StandsFor s e
    → StandsFor (record s { own = record s.own { control = s.own.control ++ update_encoding u } }) (record e { own = record e.own { updates = e.own.updates ++ u ∷ [] } })
update_stands_for s e u now h =
    record {
      side = h.side;
      announced = h.announced;
      closed = h.closed;
      next_id = h.next_id;
      incoming = h.incoming;
      outgoing = h.outgoing;
      unidirectional = h.unidirectional;
      distinct = h.distinct;
      control_on = h.control_on;
      encoder_on = h.encoder_on;
      decoder_on = h.decoder_on;
      peer = h.peer;
      decoding = h.decoding;
      encoder = h.encoder;
      decoder_unread = h.decoder_unread;
      own = update_stands s.own e u now h.reached.own_updates h.own;
      last_goaway = h.last_goaway;
      kept = h.kept;
      sent = h.sent;
      order = h.order;
      reached = reached_same e (record e { own = record e.own { updates = e.own.updates ++ u ∷ [] } }) refl
          (All-push (IsBehind (length e.own.goaways)) e.own.updates u h.reached.own_updates (omega (arith, now)))
          h.reached;
    }

-- no GOAWAY is taken back
same_goaways : (own : Own) (count : ℕ) (a b c : Bool)
    → (if a then record own { control_taken = own.control_taken + count } else (
    if b then record own { encoder_taken = own.encoder_taken + count } else (
    if c then record own { decoder_taken = own.decoder_taken + count } else own))).goaways ≡ own.goaways
same_goaways own count true b c = refl
same_goaways own count false true c = refl
same_goaways own count false false true = refl
same_goaways own count false false false = refl

-- nor what was said of a priority
same_updates : (own : Own) (count : ℕ) (a b c : Bool)
    → (if a then record own { control_taken = own.control_taken + count } else (
    if b then record own { encoder_taken = own.encoder_taken + count } else (
    if c then record own { decoder_taken = own.decoder_taken + count } else own))).updates ≡ own.updates
same_updates own count true b c = refl
same_updates own count false true c = refl
same_updates own count false false true = refl
same_updates own count false false false = refl

-- Bytes of an own stream were taken.
pub own_taken_stands : (s : EndpointState) (e : EndpointHistory) (id count : ℕ) → StandsFor s e → count ≤ length (waiting_on s.own s.side id)
    → StandsFor (record s { own = having_taken s.own s.side id count }) (record e { own = own_advanced e.own e.side id count })
own_taken_stands s e id count h fits =
    let f = record e { own = own_advanced e.own e.side id count } in
    let there : count ≤ length (waiting_on s.own e.side id) = subst (λ side. count ≤ length (waiting_on s.own side id)) h.side fits in
    record {
      side = h.side;
      announced = h.announced;
      closed = h.closed;
      next_id = h.next_id;
      incoming = h.incoming;
      outgoing = h.outgoing;
      unidirectional = h.unidirectional;
      distinct = h.distinct;
      control_on = h.control_on;
      encoder_on = h.encoder_on;
      decoder_on = h.decoder_on;
      peer = h.peer;
      decoding = h.decoding;
      encoder = h.encoder;
      decoder_unread = h.decoder_unread;
      own = subst (λ side. OwnStands (having_taken s.own side id count) f) (sym h.side) (taken_stands s.own e id count h.own there);
      last_goaway = h.last_goaway ∙ sym (ap last_id (same_goaways e.own count (id == control_id e.side) (id == encoder_id e.side) (id == decoder_id e.side)));
      kept = h.kept;
      sent = h.sent;
      order = h.order;
      reached = reached_same e f refl
          (subst (λ ids. All (IsBehind (length ids)) f.own.updates) (sym (same_goaways e.own count (id == control_id e.side) (id == encoder_id e.side) (id == decoder_id e.side)))
          (subst (λ updates. All (IsBehind (length e.own.goaways)) updates) (sym (same_updates e.own count (id == control_id e.side) (id == encoder_id e.side) (id == decoder_id e.side))) h.reached.own_updates))
          h.reached;
    }

-- The encoder changed, and its instructions were written.
pub encoding_stands : (s : EndpointState) (e : EndpointHistory) (encoding : Encoding) (encoder : EncoderHistory) (is : List EncoderInstruction) → StandsFor s e
    → encoding.encoder ≡ encoder_state encoder → encoding.unread ≡ s.encoding.unread
    → (e.peer.settings ≡ None → (encoder.capacity ≡ 0) × (encoder.inserted ≡ []))
    → StandsFor (record s { encoding = encoding; own = record s.own { encoder = s.own.encoder ++ flat_map encoder_bytes is } })
    (record e { encoder = encoder; own = record e.own { instructions = e.own.instructions ++ is } })
encoding_stands s e encoding encoder is h stores unread unlearned =
    let own = instructions_stand s.own e is h.own in
    record {
      side = h.side;
      announced = h.announced;
      closed = h.closed;
      next_id = h.next_id;
      incoming = h.incoming;
      outgoing = h.outgoing;
      unidirectional = h.unidirectional;
      distinct = h.distinct;
      control_on = h.control_on;
      encoder_on = h.encoder_on;
      decoder_on = h.decoder_on;
      peer = h.peer;
      decoding = h.decoding;
      encoder = stores;
      decoder_unread = unread ∙ h.decoder_unread;
      own = record {
        control = own.control;
        encoder = own.encoder;
        decoder = own.decoder;
        taken = record { control = own.taken.control; encoder = own.taken.encoder; decoder = own.taken.decoder };
      };
      last_goaway = h.last_goaway;
      kept = h.kept;
      sent = h.sent;
      order = h.order;
      reached = record {
        unlearned = unlearned;
        control = h.reached.control;
        encoder = h.reached.encoder;
        decoder = h.reached.decoder;
        told_control = h.reached.told_control;
        told_encoder = h.reached.told_encoder;
        told_decoder = h.reached.told_decoder;
        kept = h.reached.kept;
        own_updates = h.reached.own_updates;
      };
    }
