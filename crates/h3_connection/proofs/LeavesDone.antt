-- What is done with stays so, whatever is sent.
use Rattle.std.proofs.Common.{arith, ◌≡◌, ◌≤◌, ℕ, ◌+◌, Bool, true, false, List, [], ◌∷◌, length, refl, sym, ◌∙◌, ap, subst}
use Rattle.std.specs.Prelude.{Option, Some, None, if◌then◌else◌, ◌==◌, nat_lt, not, ◌&&◌, ◌||◌, is_some}
use Rattle.std.proofs.lemmas.Bool.{ltb-false}
use Rattle.h3_proto.specs.StreamIds.{is_request_stream}
use Rattle.h3_proto.specs.declared.stream.Side.{Side}
use Rattle.h3_proto.specs.declared.stream.Side.TheVariants.{Client, Server}
use Rattle.h3_frames.specs.Known.{known}
use Rattle.h3_frames.specs.declared.proto.frame.Frame.{Frame}
use Rattle.h3_frames.specs.declared.proto.frame.Frame.TheVariants as frame
use Rattle.h3_field.specs.Field.{Field}
use Rattle.h3_header.specs.Head.{Head, head_fields}
use Rattle.h3_messages.specs.declared.content.Content.{Content}
use Rattle.h3_connection.specs.declared.event.Pull.{Pull}
use Rattle.h3_connection.specs.declared.event.Pull.TheVariants as answer
use Rattle.h3_connection.specs.declared.event.Fault.TheVariants as fault
use Rattle.h3_connection.specs.declared.event.Refusal.{Refusal}
use Rattle.h3_connection.specs.declared.event.Refusal.TheVariants as refusal
use Rattle.h3_connection.specs.declared.event.StreamFault.{StreamFault}
use Rattle.h3_connection.specs.declared.event.StreamFault.TheVariants as stream_fault
use Rattle.h3_connection.specs.CallLists.{Result, called, done}
use Rattle.h3_connection.specs.CallLists.Call.{OpenRequest, SendHead, Goaway}
use Rattle.h3_connection.specs.CallLists.Result.{Done, Opened}
use Rattle.h3_connection.specs.Control.{Found}
use Rattle.h3_connection.specs.Delivering.{taken}
use Rattle.h3_connection.specs.Endpoint.{EndpointHistory}
use Rattle.h3_connection.specs.OwnUpdates.{OwnUpdate}
use Rattle.h3_connection.specs.EndsWaiting.{end_taken_at, end_taken_if}
use Rattle.h3_connection.specs.FirstRequests.{count_below, first_pass}
use Rattle.h3_connection.specs.FirstRequestLaws.{each_passes, one_passes}
use Rattle.h3_connection.specs.Incoming.{Incoming, having_told}
use Rattle.h3_connection.specs.Lasts.{last_id}
use Rattle.h3_connection.specs.LastLaws.{last_appended}
use Rattle.h3_connection.specs.Outgoing.{Outgoing as Out, is_end_next}
use Rattle.h3_connection.specs.OwnIds.{control_id, encoder_id, decoder_id}
use Rattle.h3_connection.specs.Pulling.{is_client}
use Rattle.h3_connection.specs.Refusals.{refusal_to_open, refusal_of_goaway, raised}
use Rattle.h3_connection.specs.Sections.{written_section}
use Rattle.h3_connection.specs.Sending.{does, closed_or, open_refusal, advance_at, sent_bytes, counted, head_refusal, encoded, appended, head_part, fields_cost, goaway_refusal, asked, saying_at, content_of_own, known_of, telling_at}
use Rattle.h3_connection.specs.Shutdown.{are_seen_below, takes_no_more}
use Rattle.h3_connection.specs.StreamSets.{Streams, stream_at, set_stream}
use Rattle.h3_connection.proofs.Seen.{at_same, at_other}
use Rattle.h3_connection.proofs.SeenEncoder.{by_eq}
use Rattle.h3_connection.proofs.SentOff.{is_sent, sent_in, taken_sent, ended_sent, head_refused}

-- nothing more is handed out of it
abbrev pub settled_in : Option Incoming → Bool
settled_in None = false
settled_in (Some i) = i.is_over || is_some i.fault

-- Each stream that was seen is done with, and none is to come.
pub record Over (e : EndpointHistory) : Type 0 where
  pub no_more : takes_no_more e.side e ≡ true
  pub settled : (id : ℕ) → is_some (stream_at e.incoming id) ≡ true → settled_in (stream_at e.incoming id) ≡ true
  pub sent : (id : ℕ) → is_some (stream_at e.incoming id) ≡ true → sent_in (stream_at e.outgoing id) ≡ true

-- what stands on the own control stream beside GOAWAY frames and the settings of a meaning
abbrev pub start_and_updates : EndpointHistory → List OwnUpdate × List (ℕ × ℕ)
start_and_updates e = (e.own.updates, e.own.further)

-- What a call leaves: the streams that were seen, and what was done with. An id that is named later is no higher, and what was taken stays so.
pub record Leaves (e f : EndpointHistory) : Type 0 where
  pub seen : (id : ℕ) → is_some (stream_at f.incoming id) ≡ is_some (stream_at e.incoming id)
  pub settled : (id : ℕ) → settled_in (stream_at e.incoming id) ≡ true → settled_in (stream_at f.incoming id) ≡ true
  pub sent : (id : ℕ) → sent_in (stream_at e.outgoing id) ≡ true → sent_in (stream_at f.outgoing id) ≡ true
  pub named : (test : ℕ → Bool) → are_seen_below (last_id e.own.goaways) test ≡ true → are_seen_below (last_id f.own.goaways) test ≡ true
  pub peer : is_some (last_id e.peer.goaways) ≡ true → is_some (last_id f.peer.goaways) ≡ true
  pub taken : e.own.control_taken ≤ f.own.control_taken
  pub text : start_and_updates f ≡ start_and_updates e

pub itself : (e : EndpointHistory) → Leaves e e
itself e = record { seen = λ id. refl; settled = λ id h. h; sent = λ id h. h; named = λ test h. h; peer = λ h. h; taken = omega arith; text = refl }

-- what was written on the own control stream
abbrev pub written : EndpointHistory → List ℕ × (List OwnUpdate × List (ℕ × ℕ))
written e = (e.own.goaways, start_and_updates e)

-- no stream changes
pub record Rests (e f : EndpointHistory) : Type 0 where
  pub incoming : f.incoming ≡ e.incoming
  pub outgoing : f.outgoing ≡ e.outgoing
  pub written_same : written f ≡ written e
  pub control_taken : f.own.control_taken ≡ e.own.control_taken
  pub peer : is_some (last_id e.peer.goaways) ≡ true → is_some (last_id f.peer.goaways) ≡ true

pub at_rest : (e : EndpointHistory) → Rests e e
at_rest e = record { incoming = refl; outgoing = refl; written_same = refl; control_taken = refl; peer = λ h. h }

pub rests : (e f : EndpointHistory) → Rests e f → Leaves e f
rests e f h =
    record {
      seen = λ id. ap (λ s. is_some (stream_at s id)) h.incoming;
      settled = λ id was. ap (λ s. settled_in (stream_at s id)) h.incoming ∙ was;
      sent = λ id was. ap (λ s. sent_in (stream_at s id)) h.outgoing ∙ was;
      named = λ test was. ap (λ w. are_seen_below (last_id w.0) test) h.written_same ∙ was;
      peer = h.peer;
      taken = omega (arith, h.control_taken);
      text = ap (λ w. w.1) h.written_same;
    }

-- one stream changes at its sender
pub record Sends (e f : EndpointHistory) (q : ℕ) : Type 0 where
  pub seen : (id : ℕ) → is_some (stream_at f.incoming id) ≡ is_some (stream_at e.incoming id)
  pub settled : (id : ℕ) → settled_in (stream_at f.incoming id) ≡ settled_in (stream_at e.incoming id)
  pub written_same : written f ≡ written e
  pub control_taken : f.own.control_taken ≡ e.own.control_taken
  pub peer : f.peer ≡ e.peer
  pub here : sent_in (stream_at e.outgoing q) ≡ true → sent_in (stream_at f.outgoing q) ≡ true
  pub elsewhere : (id : ℕ) → (q == id) ≡ false → stream_at f.outgoing id ≡ stream_at e.outgoing id

pub sends : (e f : EndpointHistory) (q : ℕ) → Sends e f q → Leaves e f
sends e f q h =
    record {
      seen = h.seen;
      settled = λ id was. h.settled id ∙ was;
      sent = λ id. by_eq q id (λ b. sent_in (stream_at e.outgoing id) ≡ true → sent_in (stream_at f.outgoing id) ≡ true)
          (λ same. subst (λ n. sent_in (stream_at e.outgoing n) ≡ true → sent_in (stream_at f.outgoing n) ≡ true) same h.here)
          (λ ne was. ap sent_in (h.elsewhere id ne) ∙ was);
      named = λ test was. ap (λ w. are_seen_below (last_id w.0) test) h.written_same ∙ was;
      peer = λ was. ap (λ p. is_some (last_id p.goaways)) h.peer ∙ was;
      taken = omega (arith, h.control_taken);
      text = ap (λ w. w.1) h.written_same;
    }

-- and one at its receiver
pub receives : (e f : EndpointHistory) (q : ℕ) (i j : Incoming) → stream_at e.incoming q ≡ Some i → f.incoming ≡ set_stream e.incoming q j → f.outgoing ≡ e.outgoing → written f ≡ written e → f.own.control_taken ≡ e.own.control_taken → f.peer ≡ e.peer
    → (settled_in (Some i) ≡ true → settled_in (Some j) ≡ true) → Leaves e f
receives e f q i j was is outgoing same control_taken peer settles =
    record {
      seen = λ id. by_eq q id (λ b. is_some (stream_at f.incoming id) ≡ is_some (stream_at e.incoming id))
          (λ same. subst (λ n. is_some (stream_at f.incoming n) ≡ is_some (stream_at e.incoming n)) same (ap is_some here ∙ sym (ap is_some was)))
          (λ ne. ap is_some (there id ne));
      settled = λ id. by_eq q id (λ b. settled_in (stream_at e.incoming id) ≡ true → settled_in (stream_at f.incoming id) ≡ true)
          (λ same. subst (λ n. settled_in (stream_at e.incoming n) ≡ true → settled_in (stream_at f.incoming n) ≡ true) same
          (λ before. ap settled_in here ∙ settles (sym (ap settled_in was) ∙ before)))
          (λ ne before. ap settled_in (there id ne) ∙ before);
      sent = λ id before. ap (λ s. sent_in (stream_at s id)) outgoing ∙ before;
      named = λ test before. ap (λ w. are_seen_below (last_id w.0) test) same ∙ before;
      peer = λ before. ap (λ p. is_some (last_id p.goaways)) peer ∙ before;
      taken = omega (arith, control_taken);
      text = ap (λ w. w.1) same;
    }
  where
    here : stream_at f.incoming q ≡ Some j
    here = ap (λ s. stream_at s q) is ∙ at_same e.incoming q j

    there : (id : ℕ) → (q == id) ≡ false → stream_at f.incoming id ≡ stream_at e.incoming id
    there id ne = ap (λ s. stream_at s id) is ∙ at_other e.incoming q id j ne

pub leaves_then : (e f g : EndpointHistory) → Leaves e f → Leaves f g → Leaves e g
leaves_then e f g h k = record {
  seen = λ id. k.seen id ∙ h.seen id;
  settled = λ id was. k.settled id (h.settled id was);
  sent = λ id was. k.sent id (h.sent id was);
  named = λ test was. k.named test (h.named test was);
  peer = λ was. k.peer (h.peer was);
  taken = omega (arith, h.taken, k.taken);
  text = k.text ∙ h.text;
}

-- a call that is refused, or what it does
pub does_leave : (r : Option Refusal) (e f : EndpointHistory) (success : Result) → (r ≡ None → Leaves e f) → Leaves e (done success (does r e f)).1
does_leave (Some r) e f success h = itself e
does_leave None e f success h = h refl

pub taken_leaves : (closed : Option ℕ) (r : Option Refusal) (e : EndpointHistory) (found : Found) → (closed ≡ None → r ≡ None → Leaves e found.0) → Leaves e (done Done (taken closed r e found)).1
taken_leaves (Some code) r e found h = itself e
taken_leaves None (Some r) e found h = itself e
taken_leaves None None e (f, None) h = h refl refl
taken_leaves None None e (f, Some code) h = let g = h refl refl in record { seen = g.seen; settled = g.settled; sent = g.sent; named = g.named; peer = g.peer; taken = g.taken; text = g.text }

-- Requests that are opened: none behind a GOAWAY.
none_opened : (closed : Option ℕ) (side : Side) (last : Option ℕ) (next : ℕ) → (side ≡ Client → is_some last ≡ true) → closed_or closed (refusal_to_open side last next) ≡ None → ⊥
none_opened (Some code) side last next known none = cc
none_opened None Client None next known none = let wrong = known refl in cc
none_opened None Client (Some id) next known none = cc
none_opened None Server last next known none = cc

pub open_leaves : (e : EndpointHistory) → Over e → Leaves e (called e OpenRequest).1
open_leaves e h = does_leave (open_refusal e) e _ (Opened e.next_id) (λ none. absurd (none_opened e.closed e.side (last_id e.peer.goaways) e.next_id known none))
  where
    known : e.side ≡ Client → is_some (last_id e.peer.goaways) ≡ true
    known client = sym (ap (λ side. takes_no_more side e) client) ∙ h.no_more

-- What a head says of the content changes nothing of that.
told_one : (test : Option Incoming → Bool) (streams : Streams Incoming) (side : Side) (q id : ℕ) (fields : List Field) (at : Option Incoming) → ((i : Incoming) → test (Some (having_told side i fields)) ≡ test (Some i)) → stream_at streams q ≡ at
    → test (stream_at (telling_at side streams q fields at) id) ≡ test (stream_at streams id)
told_one test streams side q id fields None same was = refl
told_one test streams side q id fields (Some i) same was =
    by_eq q id (λ b. test (stream_at (set_stream streams q (having_told side i fields)) id) ≡ test (stream_at streams id))
    (λ is. subst (λ n. test (stream_at (set_stream streams q (having_told side i fields)) n) ≡ test (stream_at streams n)) is (ap test (at_same streams q (having_told side i fields)) ∙ same i ∙ sym (ap test was)))
    (λ ne. ap test (at_other streams q id (having_told side i fields) ne))

told_if : (test : Option Incoming → Bool) (b : Bool) (streams : Streams Incoming) (side : Side) (q id : ℕ) (fields : List Field) → ((i : Incoming) → test (Some (having_told side i fields)) ≡ test (Some i))
    → test (stream_at (if b then telling_at side streams q fields (stream_at streams q) else streams) id) ≡ test (stream_at streams id)
told_if test true streams side q id fields same = told_one test streams side q id fields (stream_at streams q) same refl
told_if test false streams side q id fields same = refl

said_elsewhere : (streams : Streams Out) (q id : ℕ) (said : Content) (at : Option Out) → (q == id) ≡ false → stream_at (saying_at streams q said at) id ≡ stream_at streams id
said_elsewhere streams q id said None ne = refl
said_elsewhere streams q id said (Some o) ne = at_other streams q id _ ne

said_if : (b : Bool) (streams : Streams Out) (q id : ℕ) (said : Content) → (q == id) ≡ false → stream_at (if b then saying_at streams q said (stream_at streams q) else streams) id ≡ stream_at streams id
said_if true streams q id said ne = said_elsewhere streams q id said (stream_at streams q) ne
said_if false streams q id said ne = refl

pub head_leaves : (e : EndpointHistory) (q : ℕ) (head : Head) → Leaves e (called e (SendHead q head)).1
head_leaves e q head = does_leave (head_refusal e q head) e (asked f q fields) Done (λ none. sends e (asked f q fields) q (record {
  seen = λ id. told_if is_some e.announced.choices.strict_messages e.incoming e.side q id fields (λ i. refl);
  settled = λ id. told_if settled_in e.announced.choices.strict_messages e.incoming e.side q id fields (λ i. refl);
  written_same = refl;
  control_taken = refl;
  peer = refl;
  here = λ sent. absurd (head_refused e q sent head none);
  elsewhere = λ id ne. said_if e.announced.choices.strict_messages f.outgoing q id (content_of_own e.side (known_of (stream_at e.incoming q)) fields) ne ∙ at_other e.outgoing q id _ ne;
}))
  where
    fields : List Field
    fields = head_fields head

    f : EndpointHistory
    f = counted (appended (encoded e q fields) q (head_part head (written_section e.encoder q fields))) (fields_cost fields)

-- One stream is set at its sender.
pub set_leaves : (e f : EndpointHistory) (q : ℕ) (o : Out) → f.incoming ≡ e.incoming → f.outgoing ≡ set_stream e.outgoing q o → written f ≡ written e → f.own.control_taken ≡ e.own.control_taken → f.peer ≡ e.peer
    → (sent_in (stream_at e.outgoing q) ≡ true → is_sent o ≡ true) → Leaves e f
set_leaves e f q o incoming outgoing same control_taken peer sent = sends e f q (record {
  seen = λ id. ap (λ s. is_some (stream_at s id)) incoming;
  settled = λ id. ap (λ s. settled_in (stream_at s id)) incoming;
  written_same = same;
  control_taken = control_taken;
  peer = peer;
  here = λ was. ap (λ s. sent_in (stream_at s q)) outgoing ∙ ap sent_in (at_same e.outgoing q o) ∙ sent was;
  elsewhere = λ id ne. ap (λ s. stream_at s id) outgoing ∙ at_other e.outgoing q id o ne;
})

pub body_does : (e : EndpointHistory) (q : ℕ) (bytes : List ℕ) → (sent_in (stream_at e.outgoing q) ≡ true → ⊥) → Leaves e (counted (sent_bytes e q bytes) (length bytes))
body_does e q [] refused = rests e _ (record { incoming = refl; outgoing = refl; written_same = refl; control_taken = refl; peer = λ h. h })
body_does e q (byte ∷ bytes) refused = set_leaves e _ q _ refl refl refl refl refl (λ sent. absurd (refused sent))

-- What a call that ends a stream does, and what QUIC took.
pub advance_leaves : (e : EndpointHistory) (q count : ℕ) (at : Option Out) → stream_at e.outgoing q ≡ at → Leaves e (advance_at e q count at)
advance_leaves e q count (Some o) was = set_leaves e _ q (record o { taken = o.taken + count }) refl refl refl refl refl (λ sent. taken_sent o count (sym (ap sent_in was) ∙ sent))
advance_leaves e q count None was = by_tests (q == control_id e.side) (q == encoder_id e.side) (q == decoder_id e.side)
  where
    by_tests : (control encoder decoder : Bool)
        → Leaves e (record e { own = if control then record e.own { control_taken = e.own.control_taken + count } else (if encoder then record e.own { encoder_taken = e.own.encoder_taken + count } else (if decoder then record e.own { decoder_taken = e.own.decoder_taken + count } else e.own)) })
    by_tests true encoder decoder = record { seen = λ id. refl; settled = λ id h. h; sent = λ id h. h; named = λ test h. h; peer = λ h. h; taken = omega arith; text = refl }
    by_tests false true decoder = rests e _ (record { incoming = refl; outgoing = refl; written_same = refl; control_taken = refl; peer = λ h. h })
    by_tests false false true = rests e _ (record { incoming = refl; outgoing = refl; written_same = refl; control_taken = refl; peer = λ h. h })
    by_tests false false false = rests e _ (record { incoming = refl; outgoing = refl; written_same = refl; control_taken = refl; peer = λ h. h })

pub end_leaves : (e : EndpointHistory) (q : ℕ) (at : Option Out) → stream_at e.outgoing q ≡ at → Leaves e (end_taken_at e q at).1
end_leaves e q (Some o) was = by_test (is_end_next o)
  where
    by_test : (b : Bool) → Leaves e (end_taken_if b e q o).1
    by_test true = set_leaves e _ q (record o { end_taken = true }) refl refl refl refl refl (λ sent. ended_sent o (sym (ap sent_in was) ∙ sent))
    by_test false = itself e
end_leaves e q None was = itself e

-- A GOAWAY names no higher id.
low_named : (closed : Option ℕ) (side : Side) (id : ℕ) (last : Option ℕ) → closed_or closed (refusal_of_goaway side id last) ≡ None → raised id last ≡ None
low_named (Some code) side id last none = absurd (cc)
low_named None side id last none = by_test (not (is_client side) && not (is_request_stream id)) none
  where
    by_test : (b : Bool) → (if b then Some refusal.NotRequestId else raised id last) ≡ None → raised id last ≡ None
    by_test true is = absurd (cc)
    by_test false is = is

fewer_below : (id : ℕ) (last : Option ℕ) (test : ℕ → Bool) → raised id last ≡ None → are_seen_below last test ≡ true → are_seen_below (Some id) test ≡ true
fewer_below id None test none all = absurd (cc)
fewer_below id (Some earlier) test none all = by_test (nat_lt earlier id) refl none
  where
    by_test : (b : Bool) → nat_lt earlier id ≡ b → (if b then Some (refusal.Raised earlier) else None) ≡ None → first_pass test (count_below id) ≡ true
    by_test true is none = absurd (cc)
    by_test false is none =
        let low : id ≤ earlier = ltb-false earlier id is in
        each_passes test (count_below id) (λ n few. one_passes test (count_below earlier) n all (omega (arith, low, few)))

pub goaway_leaves : (e : EndpointHistory) (n : ℕ) → Leaves e (called e (Goaway n)).1
goaway_leaves e n = does_leave (goaway_refusal e n) e _ Done (λ none. record {
  seen = λ id. refl;
  settled = λ id h. h;
  sent = λ id h. h;
  named = λ test all. ap (λ o. are_seen_below o test) (last_appended e.own.goaways n) ∙ fewer_below n (last_id e.own.goaways) test (low_named e.closed e.side n (last_id e.own.goaways) none) all;
  peer = λ h. h;
  taken = omega arith;
  text = refl;
})
