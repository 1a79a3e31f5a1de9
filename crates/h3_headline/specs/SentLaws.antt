-- A piece of a body, the end of a message, and a reset: what the ends answer, and where they stand.
use Rattle.std.proofs.Common.{◌≡◌, Bool, true, false, refl, ℕ, [], ◌∷◌, sym, ap, ◌∙◌, subst, Option, ◌+◌, List, length, None, arith, if◌then◌else◌, Some}
use Rattle.std.specs.Prelude.{not, ◌&&◌, unwrap_or, ◌==◌, ◌||◌, drop}
use Rattle.h3_proto.specs.declared.stream.Side.{Side}
use Rattle.h3_connection.specs.Endpoint.{EndpointHistory, is_read_as, Kind, kind_of, is_critical_id, is_critical_of}
use Rattle.h3_proto.specs.declared.stream.Side.TheVariants.{Client, Server}
use Rattle.h3_connection.specs.Endpoint.Kind.{Request, ServerOpened, OwnUnidirectional, PeerUnidirectional}
use Rattle.h3_connection.specs.Outgoing.{Outgoing, nothing_sent, takes_body, takes_end, is_sent_off, is_unsent, last_is_trailer, with_finish, with_reset}
use Rattle.h3_connection.specs.Outgoing as sender_part
use Rattle.h3_connection.specs.Outgoing.OwnPart.{OwnBody}
use Rattle.h3_connection.specs.OwnIds.{other, control_id, encoder_id, decoder_id, is_own}
use Rattle.h3_connection.specs.Refusals.{first_of}
use Rattle.h3_connection.specs.Sending.{outgoing_at, with_outgoing, counted}
use Rattle.h3_connection.specs.Sending as sender
use Rattle.h3_messages.specs.Content.{may_end}
use Rattle.h3_connection.specs.StrictSending.{passes_content}
use Rattle.h3_connection.specs.declared.event.Malformation.TheVariants as malformation
use Rattle.h3_connection.specs.declared.event.Refusal.TheVariants as refusal
use Rattle.h3_world.specs.Setup.{Setup}
use Rattle.h3_world.specs.World.{World, party}
use Rattle.h3_world.specs.declared.event.Event.TheVariants as event
use Rattle.h3_world.specs.declared.event.Answer.TheVariants as answer
use Rattle.h3_world.specs.Ends.{Ends, end_at, answered}
use Rattle.h3_world.specs.Flow.Part.{End, Body}
use Rattle.h3_world.specs.Machine.{served}
use Rattle.h3_world.specs.Order.{outgoing_of}
use Rattle.h3_world.specs.Refusals.{finish_refusal, body_refusal, is_critical, reset_refusal}
use Rattle.h3_world.specs.Sending.{appended, finished, sent_body, cut_off}
use Rattle.h3_world.specs.Streams.{flow, is_open}
use Rattle.h3_frames.specs.Encoded.{frame_encoding}
use Rattle.h3_world.specs.Flow.{flow_bytes, Flow}
use Rattle.std.proofs.lemmas.Grind.{common_steps}
use Rattle.h3_world.specs.Order as order
use Rattle.h3_headline.specs.Arriving.{cut}
use Rattle.h3_headline.specs.Calls.{Both, Does, Serves, seen_by, sending}
use Rattle.h3_headline.specs.ComingLaws.{sound_flow}
use Rattle.h3_headline.specs.DeliverLaws.{left_length, sends_at, sent_bytes}
use Rattle.h3_headline.specs.FlowLaws.{open_there, same_number}
use Rattle.h3_headline.specs.SendingLaws.{both_of, call_agrees, does_on, flow_count, flow_extended, goes_unclosed, not_refused, not_refused_open, refusal_agrees, rules_agree}
use Rattle.h3_headline.specs.SentPartLaws.{cut_extends, part_extends, sends_end, sends_part}
use Rattle.h3_headline.specs.Standing.{Stands, StandsAt, came_on}

-- what a part that is not refused tells
pub open_parts : (a b c : Bool) → not ((not a && not b) && c) ≡ false → (a ≡ false) × (b ≡ false)
open_parts true b c e = cc
open_parts false true c e = cc
open_parts false false c e = (refl, refl)

pub with_body : (a b c d : Bool) → not ((not a && not b) && c && d) ≡ false → (a ≡ false) × (b ≡ false)
with_body true b c d e = cc
with_body false true c d e = cc
with_body false false c d e = (refl, refl)

-- what is sent counts for nothing here
pub counted_stands : (setup : Setup) (w : World) (side : Side) (n : ℕ) (e f : EndpointHistory) → Both setup w side e f → Both setup w side (record e { sent = n }) f
counted_stands setup w side n e f h =
    record {
      here = record {
        side_is = h.here.side_is;
        announced = h.here.announced;
        any = h.here.any;
        remembered = h.here.remembered;
        no_fault = h.here.no_fault;
        nothing_kept = h.here.nothing_kept;
        own = h.here.own;
        encoder = h.here.encoder;
        control = h.here.control;
        encoder_stream = h.here.encoder_stream;
        decoder_stream = h.here.decoder_stream;
        no_others = h.here.no_others;
        outgoing = h.here.outgoing;
        incoming = h.here.incoming;
        distinct = h.here.distinct;
      };
      there = h.there;
      writes_here = h.writes_here;
      writes_there = h.writes_there;
      sends_here = h.sends_here;
      sends_there = h.sends_there;
    }

-- the end of a message
pub finish_served : (setup : Setup) (w : World) (ends : Ends) (side : Side) (id : ℕ) → Stands setup w ends → Serves setup (answered ends (event.Finish side id)) (served setup w (event.Finish side id))
finish_served setup w ends side id h =
    let e = end_at ends side in
    let f = flow w side id in
    let b = both_of setup w side ends h in
    let v = finished w side id in
    let new = with_outgoing e id (with_finish (outgoing_at e id)) in
    call_agrees setup w v ends side answer.Done answer.Done (sender.finish_refusal e id) (finish_refusal w side id) new h
    (refusal_agrees setup w side id e (λ o. (not (takes_end o), refusal.OutOfOrder) ∷ (not (may_end o.content), refusal.Malformed malformation.ContentLength) ∷ []) b.here)
    (λ goes.
    let o = not_refused_open (is_open w side id) ((not (takes_end (outgoing_of f)), refusal.OutOfOrder) ∷ []) goes in
    let t = not_refused (not (takes_end (outgoing_of f))) refusal.OutOfOrder [] o.1 in
    let k = open_parts (outgoing_of f).is_finished f.is_reset (not (is_unsent (outgoing_of f).parts)) t.0 in
    let stream = (sends_at setup w side id e b.here o.0).stream in
    let is : new ≡ sending e id e.sent (outgoing_of (appended f End)) =
    ap (λ (x : Option Outgoing). sending e id e.sent (with_finish (unwrap_or x nothing_sent))) stream ∙ ap (sending e id e.sent) (sends_end f k.1) in
    does_on setup w v ends side answer.Done new h refl (flow_count w side id (appended f End))
    (subst (λ x. Both setup v side x (end_at ends (other side))) (sym is)
    (flow_extended setup w side id e.sent (appended f End) e (end_at ends (other side)) b o.0
    (part_extends setup (party w side) side f End (sound_flow setup w side id h.sound (open_there w side id o.0)) tt))))

-- a piece of the body
pub body_served : (setup : Setup) (w : World) (ends : Ends) (side : Side) (id : ℕ) (bytes : List ℕ) → Stands setup w ends
    → Serves setup (answered ends (event.Body side id bytes)) (served setup w (event.Body side id bytes))
body_served setup w ends side id bytes h =
    call_agrees setup w (sent_body w side id bytes) ends side answer.Done answer.Done (sender.body_refusal (end_at ends side) id (length bytes)) (body_refusal w side id)
    (counted (sender.sent_bytes (end_at ends side) id bytes) (length bytes)) h
    (refusal_agrees setup w side id (end_at ends side) (λ o. (not (takes_body o), refusal.OutOfOrder) ∷ (passes_content o.content (length bytes), refusal.Malformed malformation.ContentLength) ∷ []) (both_of setup w side ends h).here)
    (λ goes. by_bytes bytes goes)
  where
    by_bytes : (bytes : List ℕ) → body_refusal w side id ≡ None
        → Does setup (sent_body w side id bytes) ends side answer.Done answer.Done (counted (sender.sent_bytes (end_at ends side) id bytes) (length bytes))
    by_bytes [] goes =
        let e = end_at ends side in
        let b = both_of setup w side ends h in
        does_on setup w w ends side answer.Done (counted e 0) h refl refl (counted_stands setup w side (counted e 0).sent e (end_at ends (other side)) b)
    by_bytes (byte ∷ more) goes =
        let e = end_at ends side in
        let f = flow w side id in
        let b = both_of setup w side ends h in
        let bytes = byte ∷ more in
        let part = Body bytes (length (flow_bytes f) + length (frame_encoding 0 bytes)) in
        let v = sent_body w side id bytes in
        let new = counted (sender.sent_bytes e id bytes) (length bytes) in
        let o = not_refused_open (is_open w side id) ((not (takes_body (outgoing_of f)), refusal.OutOfOrder) ∷ []) goes in
        let t = not_refused (not (takes_body (outgoing_of f))) refusal.OutOfOrder [] o.1 in
        let k = with_body (outgoing_of f).is_finished f.is_reset (not (is_unsent (outgoing_of f).parts)) (not (last_is_trailer (outgoing_of f).parts)) t.0 in
        let stream = (sends_at setup w side id e b.here o.0).stream in
        let is : new ≡ sending e id new.sent (outgoing_of (appended f part)) =
        ap (λ (x : Option Outgoing). sending e id new.sent (sender_part.with_body (unwrap_or x nothing_sent) bytes)) stream
        ∙ ap (sending e id new.sent) (sends_part f part (OwnBody bytes) refl refl k.0) in
        does_on setup w v ends side answer.Done new h refl (flow_count w side id (appended f part))
        (subst (λ x. Both setup v side x (end_at ends (other side))) (sym is)
        (flow_extended setup w side id new.sent (appended f part) e (end_at ends (other side)) b o.0
        (part_extends setup (party w side) side f part (sound_flow setup w side id h.sound (open_there w side id o.0)) tt)))

-- The critical streams of an end are the six of both sides.
read_as_it : (came own id : ℕ) → (id == own) ≡ false → is_read_as (came_on came own) id ≡ false
read_as_it came own id off = by_came (came == 0)
  where
    turned : (a b : ℕ) → (b == a) ≡ false → (a == b) ≡ false
    turned a b e = grind (arith, common_steps, e)

    by_came : (t : Bool) → is_read_as (if t then None else Some own) id ≡ false
    by_came true = refl
    by_came false = turned own id off

or_none : (a b c : Bool) → (a || b || c) ≡ false → (a ≡ false) × (b ≡ false) × (c ≡ false)
or_none true b c e = cc
or_none false true c e = cc
or_none false false c e = (refl, refl, e)

or_either : (a b : Bool) → (a || b) ≡ false → (a ≡ false) × (b ≡ false)
or_either true b e = cc
or_either false b e = (refl, e)

-- one that none of the six is
none_critical : (setup : Setup) (w : World) (side : Side) (id : ℕ) (e : EndpointHistory) → StandsAt setup w side e → is_own side id ≡ false → is_own (other side) id ≡ false → is_critical_id e id ≡ false
none_critical setup w side id e h mine theirs = by_kind (kind_of e.side id)
  where
    by_kind : (k : Kind) → is_critical_of e id k ≡ false
    by_kind Request = refl
    by_kind ServerOpened = refl
    by_kind OwnUnidirectional = ap (λ s. is_own s id) h.side_is ∙ mine
    by_kind PeerUnidirectional =
        let each = or_none (id == control_id (other side)) (id == encoder_id (other side)) (id == decoder_id (other side)) theirs in
        let a : is_own (other e.side) id ≡ false = ap (λ s. is_own (other s) id) h.side_is ∙ theirs in
        let b : is_read_as e.control_on id ≡ false = ap (λ o. is_read_as o id) h.control.is_on ∙ read_as_it (party w (other side)).own.control_taken (control_id (other side)) id each.0 in
        let c : is_read_as e.encoder_on id ≡ false = ap (λ o. is_read_as o id) h.encoder_stream.is_on ∙ read_as_it (party w (other side)).own.encoder_taken (encoder_id (other side)) id each.1 in
        let d : is_read_as e.decoder_on id ≡ false = ap (λ o. is_read_as o id) h.decoder_stream.is_on ∙ read_as_it (party w (other side)).own.decoder_taken (decoder_id (other side)) id each.2 in
        rw (a, b, c, d) refl

-- each of the six streams that the connection needs
own_critical : (e : EndpointHistory) (id : ℕ) → is_critical id ≡ true → is_critical_id e id ≡ true
own_critical e id h = by_id (id == 2) (id == 6) (id == 10) (id == 3) (id == 7) (id == 11) refl refl refl refl refl refl
  where
    at : (n : ℕ) → (id == n) ≡ true → seen_by e Client n ≡ true → seen_by e Server n ≡ true → is_critical_id e id ≡ true
    at n same client server = ap (is_critical_id e) (same_number id n same) ∙ by_side e.side
      where
        by_side : (s : Side) → seen_by e s n ≡ true
        by_side Client = client
        by_side Server = server

    by_id : (a b c d f g : Bool) → (id == 2) ≡ a → (id == 6) ≡ b → (id == 10) ≡ c → (id == 3) ≡ d → (id == 7) ≡ f → (id == 11) ≡ g → is_critical_id e id ≡ true
    by_id true b c d f g p q r s t u = at 2 p refl refl
    by_id false true c d f g p q r s t u = at 6 q refl refl
    by_id false false true d f g p q r s t u = at 10 r refl refl
    by_id false false false true f g p q r s t u = at 3 s refl refl
    by_id false false false false true g p q r s t u = at 7 t refl refl
    by_id false false false false false true p q r s t u = at 11 u refl refl
    by_id false false false false false false p q r s t u = let none : is_critical id ≡ false = rw (p, q, r, s, t, u) refl in absurd (cc)

own_sides : (side : Side) (id : ℕ) → is_critical id ≡ false → (is_own side id ≡ false) × (is_own (other side) id ≡ false)
own_sides Client id e = or_either (is_own Client id) (is_own Server id) e
own_sides Server id e = let k = or_either (is_own Client id) (is_own Server id) e in (k.1, k.0)

pub critical_agrees : (setup : Setup) (w : World) (side : Side) (id : ℕ) (e : EndpointHistory) → StandsAt setup w side e → is_critical_id e id ≡ is_critical id
critical_agrees setup w side id e h = by_test (is_critical id) refl
  where
    by_test : (t : Bool) → is_critical id ≡ t → is_critical_id e id ≡ t
    by_test true is = own_critical e id is
    by_test false is = let k = own_sides side id is in none_critical setup w side id e h k.0 k.1

-- it has sent all of the flow, or has cut it off
pub sent_off_agrees : (f : Flow) → is_sent_off (outgoing_of f) ≡ order.is_sent_off f
sent_off_agrees f =
    ap (λ l. f.is_reset || (order.is_finished f && (length (if f.is_reset then [] else drop f.delivered l) == 0))) (sent_bytes f.sent)
    ∙ ap (λ n. f.is_reset || (order.is_finished f && (n == 0))) (left_length f)

-- a reset
pub reset_served : (setup : Setup) (w : World) (ends : Ends) (side : Side) (id : ℕ) → Stands setup w ends → Serves setup (answered ends (event.Reset side id)) (served setup w (event.Reset side id))
reset_served setup w ends side id h =
    let e = end_at ends side in
    let f = flow w side id in
    let b = both_of setup w side ends h in
    let v = cut_off w side id in
    let new = with_outgoing e id (with_reset (outgoing_at e id)) in
    call_agrees setup w v ends side answer.Done answer.Done (sender.reset_refusal e id) (reset_refusal w side id) new h
    (goes_unclosed setup w side e _ b.here
    ∙ ap (λ t. first_of ((t, refusal.Critical) ∷ (not (sender.is_open e id), refusal.NotOpen) ∷ (is_sent_off (outgoing_at e id), refusal.Ended) ∷ [])) (critical_agrees setup w side id e b.here)
    ∙ ap (λ o. if is_critical id then Some refusal.Critical else o)
    (rules_agree setup w side id e (λ o. (is_sent_off o, refusal.Ended) ∷ []) b.here
    ∙ ap (λ t. first_of ((not (is_open w side id), refusal.NotOpen) ∷ (t, refusal.Ended) ∷ [])) (sent_off_agrees f)))
    (λ goes.
    let c = not_refused (is_critical id) refusal.Critical ((not (is_open w side id), refusal.NotOpen) ∷ (order.is_sent_off f, refusal.Ended) ∷ []) goes in
    let o = not_refused_open (is_open w side id) ((order.is_sent_off f, refusal.Ended) ∷ []) c.1 in
    let stream = (sends_at setup w side id e b.here o.0).stream in
    let is : new ≡ sending e id e.sent (outgoing_of (cut f)) =
    ap (λ (x : Option Outgoing). sending e id e.sent (with_reset (unwrap_or x nothing_sent))) stream in
    does_on setup w v ends side answer.Done new h refl (flow_count w side id (cut f))
    (subst (λ x. Both setup v side x (end_at ends (other side))) (sym is)
    (flow_extended setup w side id e.sent (cut f) e (end_at ends (other side)) b o.0 (cut_extends setup side f))))
