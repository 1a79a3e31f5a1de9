-- Every call keeps the bounds.
use Rattle.std.proofs.Common.{arith, ◌≡◌, ◌≤◌, ℕ, ◌+◌, Bool, true, false, zero, suc, List, [], ◌∷◌, ◌++◌, length, refl, sym, ◌∙◌, ap, subst, inl, inr}
use Rattle.std.specs.Prelude.{Option, Some, None, if◌then◌else◌, nat_lt, nat_le, unwrap_or}
use Rattle.std.proofs.lemmas.Bool.{cases_eq, cases_lt, lt-ltb}
use Rattle.h3_field.specs.Field.{Field, plain_field}
use Rattle.h3_field.specs.Reading.{Reading, Whole, Unfinished, Bad}
use Rattle.h3_field.specs.Instruction.{EncoderInstruction}
use Rattle.h3_field.specs.Instruction.EncoderInstruction.{SetCapacity, InsertWithStaticName, InsertWithEntryName, InsertLiteral, Duplicate}
use Rattle.h3_field.specs.InstructionReading.{InstructionForm, instruction}
use Rattle.h3_qpack.specs.DecoderState.{DecoderState, decoder_after, inserting, greatest_capacity}
use Rattle.h3_table.specs.TableState.{has_room, with_entry}
use Rattle.h3_connection.specs.Bounds.{TriesTwice, WaitsOnce, OfStream, IsBounded}
use Rattle.h3_connection.specs.Arrivals.{Arrival, BytesCame, EndCame, ResetCame}
use Rattle.h3_connection.specs.StreamSets.{Streams, stream_at, set_stream}
use Rattle.h3_connection.specs.StreamSetLaws.{other_id, set-here, set-other}
use Rattle.h3_connection.specs.Incoming.{Incoming, nothing_came, having_told}
use Rattle.h3_field.specs.Values.{instruction_of}
use Rattle.h3_field.specs.Waiting.{encoder_wait}
use Rattle.h3_qpack.specs.Hearing.{Heard, heard, hear_form, hear_next, decoder_after_form}
use Rattle.h3_connection.specs.ExcessiveInstructions.{exceeds, hear_limited, hear_up_to}
use Rattle.h3_connection.specs.Endpoint.{EndpointHistory, limit_of, Kind, kind_of, heads_waiting, new_endpoint, replied}
use Rattle.h3_connection.specs.Endpoint.Kind.{Request, ServerOpened, OwnUnidirectional, PeerUnidirectional}
use Rattle.h3_connection.specs.Control.{Found, read_control, read_encoder, read_decoder}
use Rattle.h3_connection.specs.Unidirectional.{Unidirectional, Role, with_bytes, role_after}
use Rattle.h3_connection.specs.Unidirectional.Role.{Untold, Control, Encoder, Decoder, Session, Push, Ignored, Other}
use Rattle.h3_connection.specs.Outgoing.{Outgoing as Out, is_end_next, with_finish, with_reset}
use Rattle.h3_connection.specs.Delivering.{deliver, deliver_end, deliver_reset, delivery_refusal, opened_at, opened, incoming_at, with_incoming, taken, closed_by, heard_as, unless_second, read_unidirectional, unidirectional_at, with_unidirectional, bytes_at, end_at, reset_at, kept, with_end, give_up, given_up_once, given_up_by}
use Rattle.h3_connection.specs.Sending.{open_request, open_refusal, send_head, head_refusal, encoded, appended, head_part, fields_cost, body_refusal, send_trailer, trailer_refusal, finish, finish_refusal, reset, reset_refusal, with_outgoing, outgoing_at, goaway, goaway_refusal, cancel, cancel_refusal, pull, does, pull_at, pull_unless, pull_request, pull_peer, pulled, if_too_many, after_answer, advance_at, sent_bytes, counted, asked, telling_at}
use Rattle.h3_connection.specs.Pulling.{Pulled, pull_stream}
use Rattle.h3_connection.specs.Keeping.{read_arrival, read_all, unless_faulty, unkept, arrives_behind, arrives, pulls_behind, pulls, pulled_after, settles}
use Rattle.h3_connection.specs.Shown.{block_tries}
use Rattle.h3_connection.specs.CallLists.{Call, Result, called, done, was_pulled, endpoint_after}
use Rattle.h3_connection.specs.CallLists.Result.{Done, Opened}
use Rattle.h3_connection.specs.Sections.{written_section}
use Rattle.h3_connection.specs.Outgoing.OwnPart.{OwnTrailer}
use Rattle.h3_header.specs.Head.{Head, head_fields}
use Rattle.h3_connection.specs.EndsWaiting.{end_taken_at, end_taken_if}
use Rattle.h3_connection.specs.CallLists.Call.{OpenRequest, SendHead, SendBody, SendTrailer, Finish, Reset, Goaway, Advance, TakeEnd, Outgoing, Deliver, DeliverEnd, DeliverReset, PullStream, Cancel, Show}
use Rattle.h3_connection.specs.declared.event.Refusal.{Refusal}
use Rattle.h3_connection.specs.declared.event.StreamFault.{StreamFault}
use Rattle.h3_connection.specs.declared.event.StreamFault.TheVariants as stream_fault
use Rattle.h3_connection.specs.declared.event.Pull.{Pull}
use Rattle.h3_connection.specs.declared.event.Pull.TheVariants as answer
use Rattle.h3_connection.specs.declared.event.Fault.TheVariants as fault
use Rattle.h3_connection.specs.declared.setup.Announced.{Announced}
use Rattle.h3_proto.specs.declared.stream.Side.{Side}
use Rattle.h3_connection.proofs.PullBounds.{Ready, Good, pull_good, is_connection}
use Rattle.h3_connection.proofs.Quiet.{Quiet, quiet_control, quiet_decoder}
use Rattle.h3_connection.proofs.ReadingStays.{all_stays}
use Rattle.h3_connection.proofs.Seen.{opened_here}
use Rattle.h3_connection.proofs.WaitingCounts.{waits_at, count_set, count_inserted}
use Rattle.h3_connection.specs.StrictConnection.{known_streams}

-- the bounds rest on these alone, and nothing is open that was closed
pub record Rests (e f : EndpointHistory) : Type 0 where
  pub incoming : f.incoming ≡ e.incoming
  pub decoder : f.decoding.decoder ≡ e.decoding.decoder
  pub announced : f.announced ≡ e.announced
  pub closed : f.closed ≡ None → e.closed ≡ None

pub as_before : (e f : EndpointHistory) → Rests e f → IsBounded e → IsBounded f
as_before e f r h = record {
  tries = λ id. subst (λ s. OfStream TriesTwice (stream_at s id)) (sym r.incoming) (h.tries id);
  once = λ open_still id. subst (λ s. OfStream WaitsOnce (stream_at s id)) (sym r.incoming) (h.once (r.closed open_still) id);
  waiting = rw (r.incoming, r.decoder, r.announced) h.waiting;
}

-- a stream is now this one
set_of : (P : Incoming → Type 0) (streams : Streams Incoming) (id q : ℕ) (i : Incoming) → P i → OfStream P (stream_at streams q) → OfStream P (stream_at (set_stream streams id i) q)
set_of P streams id q i here there = elim (cases_eq q id) [
  | inl same ↦ rw same (rw (set-here streams id i) here)
  | inr differs ↦ rw (set-other streams id q i (other_id q id differs)) there
]

pub with_stream : (e : EndpointHistory) (id : ℕ) (i : Incoming) → IsBounded e → TriesTwice i → (e.closed ≡ None → WaitsOnce i)
    → heads_waiting e.decoding.decoder (set_stream e.incoming id i) ≤ e.announced.limits.blocked → IsBounded (with_incoming e id i)
with_stream e id i h tries once waiting = record {
  tries = λ q. set_of TriesTwice e.incoming id q i tries (h.tries q);
  once = λ open_still q. set_of WaitsOnce e.incoming id q i (once open_still) (h.once open_still q);
  waiting = waiting;
}

of_stream : (P : Incoming → Type 0) (at : Option Incoming) → P nothing_came → OfStream P at → P (unwrap_or at nothing_came)
of_stream P None none h = none
of_stream P (Some i) none h = h

waits_is : (at : Option Incoming) → waits_at at ≡ (unwrap_or at nothing_came).waits_for
waits_is None = refl
waits_is (Some i) = refl

none_once : WaitsOnce nothing_came
none_once waits = absurd (omega (arith, waits))

pub opens : (e : EndpointHistory) (id : ℕ) (at : Option Incoming) → IsBounded e → IsBounded (opened_at e id at)
opens e id (Some i) h = h
opens e id None h = as_before (with_incoming e id nothing_came) _ (record { incoming = refl; decoder = refl; announced = refl; closed = λ x. x })
    (with_stream e id nothing_came h (omega arith) (λ x. none_once) (omega (arith, count_set e.decoding.decoder.table.inserted e.incoming id nothing_came (omega arith), h.waiting)))

-- a stream changes, waits for no more than before, and counts its tries as before
pub record Calms (i j : Incoming) : Type 0 where
  pub tries : j.tries ≡ i.tries
  pub waits : j.waits_for ≤ i.waits_for

calm_once : (i j : Incoming) → Calms i j → WaitsOnce i → WaitsOnce j
calm_once i j c h waits = rw c.tries (h (omega (arith, waits, c.waits)))

pub changes : (e : EndpointHistory) (id : ℕ) (j : Incoming) → IsBounded e → Calms (incoming_at e id) j → IsBounded (with_incoming (opened e id) id j)
changes e id j h c =
    let at = stream_at e.incoming id in
    let o = opened e id in
    let b : IsBounded o = opens e id at h in
    let here : stream_at o.incoming id ≡ Some (incoming_at e id) = opened_here e id at refl in
    let tries : TriesTwice (incoming_at e id) = of_stream TriesTwice at (omega arith) (h.tries id) in
    with_stream o id j b (rw c.tries tries)
    (λ open_still. calm_once (incoming_at e id) j c (subst (λ x. OfStream WaitsOnce x) here (b.once open_still id)))
    (omega (arith, count_set o.decoding.decoder.table.inserted o.incoming id j (rw here c.waits), b.waiting))

give_calm : (i : Incoming) (f : StreamFault) (first : Option StreamFault) → Calms i (given_up_by i f first)
give_calm i f (Some first) = record { tries = refl; waits = omega arith }
give_calm i f None = record { tries = refl; waits = omega arith }

-- insertions only grow
record Grows (r s : DecoderState) : Type 0 where
  pub inserted : r.table.inserted ≤ s.table.inserted

grows_if : (b : Bool) (r : DecoderState) (f : Field) (s : DecoderState) → (if b then Some (record r { table = with_entry r.table f }) else None) ≡ Some s → Grows r s
grows_if true r f s is = record { inserted = subst (λ x. r.table.inserted ≤ x) (ap (λ o. (unwrap_or o r).table.inserted) is) (omega arith) }
grows_if false r f s is = cc

grows_by : (r : DecoderState) (f : Option Field) (s : DecoderState) → inserting r f ≡ Some s → Grows r s
grows_by r None s is = cc
grows_by r (Some f) s is = grows_if (has_room r.table f) r f s is

grows_set : (b : Bool) (r s t : DecoderState) → r.table.inserted ≡ t.table.inserted → (if b then Some t else None) ≡ Some s → Grows r s
grows_set true r s t same is = record { inserted = subst (λ x. r.table.inserted ≤ x) (ap (λ o. (unwrap_or o r).table.inserted) is) (omega (arith, same)) }
grows_set false r s t same is = cc

grows_one : (r : DecoderState) (i : EncoderInstruction) (s : DecoderState) → decoder_after r i ≡ Some s → Grows r s
grows_one r (SetCapacity capacity) s is = grows_set (nat_le capacity (greatest_capacity r)) r s _ refl is
grows_one r (InsertWithStaticName index value) s is = grows_by r _ s is
grows_one r (InsertWithEntryName index value) s is = grows_by r _ s is
grows_one r (InsertLiteral name value) s is = grows_by r (Some (plain_field name.bytes value.bytes)) s is
grows_one r (Duplicate index) s is = grows_by r _ s is

grows_form : (r : DecoderState) (i : Option EncoderInstruction) (s : DecoderState) → decoder_after_form r i ≡ Some s → Grows r s
grows_form r None s is = cc
grows_form r (Some i) s is = grows_one r i s is

grows_next : (go : DecoderState → List ℕ → Heard) (r : DecoderState) (bytes rest : List ℕ) (o : Option DecoderState) → ((s : DecoderState) (more : List ℕ) → s.table.inserted ≤ (go s more).decoder.table.inserted)
    → ((s : DecoderState) → o ≡ Some s → Grows r s) → r.table.inserted ≤ (hear_next go r bytes rest o).decoder.table.inserted
grows_next go r bytes rest None each g = omega arith
grows_next go r bytes rest (Some s) each g = omega (arith, (g s refl).inserted, each s rest)

grows_within : (go : DecoderState → List ℕ → Heard) (r : DecoderState) (bytes : List ℕ) (x : Reading InstructionForm) → ((s : DecoderState) (more : List ℕ) → s.table.inserted ≤ (go s more).decoder.table.inserted)
    → r.table.inserted ≤ (hear_form go r bytes x).decoder.table.inserted
grows_within go r bytes (Whole f rest) each = grows_next go r bytes rest (decoder_after_form r (instruction_of f)) each (λ s is. grows_form r (instruction_of f) s is)
grows_within go r bytes Unfinished each = omega arith
grows_within go r bytes Bad each = omega arith

grows_unless : (b : Bool) (r : DecoderState) (bytes : List ℕ) (h : Heard) → r.table.inserted ≤ h.decoder.table.inserted → r.table.inserted ≤ (if b then heard r bytes false else h).decoder.table.inserted
grows_unless true r bytes h grows = omega arith
grows_unless false r bytes h grows = grows

hear_grows : (steps most : ℕ) (r : DecoderState) (bytes : List ℕ) → r.table.inserted ≤ (hear_limited steps most r bytes).decoder.table.inserted
hear_grows zero most r bytes = omega arith
hear_grows (suc steps) most r bytes =
    grows_unless (exceeds most encoder_wait bytes) r bytes (hear_form (hear_limited steps most) r bytes (instruction bytes))
    (grows_within (hear_limited steps most) r bytes (instruction bytes) (λ s more. hear_grows steps most s more))

pub hears_more : (most : ℕ) (r : DecoderState) (bytes : List ℕ) → r.table.inserted ≤ (hear_up_to most r bytes).decoder.table.inserted
unfolding hear_up_to
hears_more most r bytes = hear_grows (length bytes) most r bytes

-- the decoder's table grows
pub hears : (e f : EndpointHistory) → f.incoming ≡ e.incoming → e.decoding.decoder.table.inserted ≤ f.decoding.decoder.table.inserted → f.announced ≡ e.announced → (f.closed ≡ None → e.closed ≡ None) → IsBounded e → IsBounded f
hears e f incoming grows own closed h = record {
  tries = λ id. subst (λ s. OfStream TriesTwice (stream_at s id)) (sym incoming) (h.tries id);
  once = λ open_still id. subst (λ s. OfStream WaitsOnce (stream_at s id)) (sym incoming) (h.once (closed open_still) id);
  waiting = rw (incoming, own) (omega (arith, count_inserted f.decoding.decoder.table.inserted e.decoding.decoder.table.inserted e.incoming grows, h.waiting));
}

of_quiet : (e f g : EndpointHistory) → Rests e f → Quiet f g → Rests e g
of_quiet e f g r k = record {
  incoming = k.incoming ∙ r.incoming;
  decoder = ap (λ d. d.decoder) k.decoding ∙ r.decoder;
  announced = k.announced ∙ r.announced;
  closed = λ x. r.closed (sym k.closed ∙ x);
}

unless : (e : EndpointHistory) (b : Bool) (found : Found) → IsBounded e → IsBounded found.0 → IsBounded (unless_second b e found).0
unless e true found h k = h
unless e false found h k = k

hearing : (e : EndpointHistory) (id : ℕ) (role : Role) (bytes : List ℕ) → IsBounded e → IsBounded (heard_as e id role bytes).0
hearing e id (Untold front) bytes h = h
hearing e id Control bytes h =
    let f = record e { control_on = Some id } in
    unless e _ (read_control f bytes) h (as_before e _ (of_quiet e f _ (record { incoming = refl; decoder = refl; announced = refl; closed = λ x. x }) (quiet_control f bytes)) h)
hearing e id Encoder bytes h =
    let f = record e { encoder_on = Some id } in
    unless e _ (read_encoder f bytes) h (hears e (read_encoder f bytes).0 refl (hears_more (limit_of e) e.decoding.decoder (e.decoding.unread ++ bytes)) refl (λ x. x) h)
hearing e id Decoder bytes h =
    let f = record e { decoder_on = Some id } in
    unless e _ (read_decoder f bytes) h (as_before e _ (of_quiet e f _ (record { incoming = refl; decoder = refl; announced = refl; closed = λ x. x }) (quiet_decoder f bytes)) h)
hearing e id (Session n) bytes h = h
hearing e id (Push n) bytes h = h
hearing e id Ignored bytes h = h
hearing e id (Other kind) bytes h = h

pub sets_peer : (e : EndpointHistory) (id : ℕ) (o : Unidirectional) → IsBounded e → IsBounded (with_unidirectional e id o)
sets_peer e id o h = as_before e _ (record { incoming = refl; decoder = refl; announced = refl; closed = λ x. x }) h

unidirectional : (e : EndpointHistory) (id : ℕ) (o : Unidirectional) (read_as : Role × List ℕ) → IsBounded e → IsBounded (read_unidirectional e id o read_as).0
unidirectional e id o (role, bytes) h = hearing (with_unidirectional e id (with_bytes o (role, bytes))) id role bytes (sets_peer e id _ h)

bytes_on : (e : EndpointHistory) (id : ℕ) (bytes : List ℕ) (k : Kind) → IsBounded e → IsBounded (bytes_at e id bytes k).0
bytes_on e id bytes Request h = changes e id (kept (incoming_at e id) bytes) h (record { tries = refl; waits = omega arith })
bytes_on e id bytes ServerOpened h = h
bytes_on e id bytes OwnUnidirectional h = h
bytes_on e id bytes PeerUnidirectional h = unidirectional e id (unidirectional_at e id) (role_after (known_streams e.announced) (unidirectional_at e id).role bytes) h

end_on : (e : EndpointHistory) (id : ℕ) (k : Kind) → IsBounded e → IsBounded (end_at e id k).0
end_on e id Request h = changes e id (with_end (incoming_at e id)) h (record { tries = refl; waits = omega arith })
end_on e id ServerOpened h = h
end_on e id OwnUnidirectional h = h
end_on e id PeerUnidirectional h = sets_peer e id _ h

gives_up : (e : EndpointHistory) (id : ℕ) (i : Incoming) (f : StreamFault) → IsBounded e → Calms (incoming_at e id) i → IsBounded (give_up (opened e id) id i f)
gives_up e id i f h c =
    let g = give_calm i f i.fault in
    as_before (with_incoming (opened e id) id (given_up_once i f)) _ (record { incoming = refl; decoder = refl; announced = refl; closed = λ x. x })
    (changes e id (given_up_once i f) h (record { tries = g.tries ∙ c.tries; waits = omega (arith, g.waits, c.waits) }))

reset_on : (e : EndpointHistory) (id code : ℕ) (k : Kind) → IsBounded e → IsBounded (reset_at e id code k).0
reset_on e id code Request h = gives_up e id (record (incoming_at e id) { was_reset = true }) (stream_fault.Reset code) h (record { tries = refl; waits = omega arith })
reset_on e id code ServerOpened h = h
reset_on e id code OwnUnidirectional h = h
reset_on e id code PeerUnidirectional h = sets_peer e id _ h

pub arrival_on : (e : EndpointHistory) (a : Arrival) → IsBounded e → IsBounded (read_arrival e a).0
arrival_on e (BytesCame id bytes) h = bytes_on e id bytes (kind_of e.side id) h
arrival_on e (EndCame id) h = end_on e id (kind_of e.side id) h
arrival_on e (ResetCame id code) h = reset_on e id code (kind_of e.side id) h

all_after : (arrivals : List Arrival) (found : Found) → IsBounded found.0 → ((f : EndpointHistory) → IsBounded f → IsBounded (read_all arrivals f).0) → IsBounded (unless_faulty (read_all arrivals) found).0
all_after arrivals (f, Some code) h each = h
all_after arrivals (f, None) h each = each f h

pub all_on : (arrivals : List Arrival) (e : EndpointHistory) → IsBounded e → IsBounded (read_all arrivals e).0
all_on [] e h = h
all_on (a ∷ arrivals) e h = all_after arrivals (read_arrival e a) (arrival_on e a h) (λ f k. all_on arrivals f k)

closing : (found : Found) → IsBounded found.0 → IsBounded (closed_by found).1
closing (e, None) h = h
closing (e, Some code) h = as_before e _ (record { incoming = refl; decoder = refl; announced = refl; closed = λ x. cc }) h

takes : (closed : Option ℕ) (r : Option Refusal) (e : EndpointHistory) (found : Found) → IsBounded e → IsBounded found.0 → IsBounded (taken closed r e found).1
takes (Some code) r e found h k = h
takes None (Some r) e found h k = h
takes None None e found h k = closing found k

pub forgets : (e : EndpointHistory) → IsBounded e → IsBounded (unkept e)
forgets e h = as_before e _ (record { incoming = refl; decoder = refl; announced = refl; closed = λ x. x }) h

pub arrives_on : (e : EndpointHistory) (a : Arrival) → IsBounded e → IsBounded (arrives e a).1
arrives_on e a h = behind e.kept
  where
    behind : (arrivals : List Arrival) → IsBounded (arrives_behind arrivals e a).1
    behind [] = takes e.closed _ e (read_arrival e a) h (arrival_on e a h)
    behind (k ∷ arrivals) = takes e.closed _ e (read_all (k ∷ arrivals ++ a ∷ []) (unkept e)) h (all_on (k ∷ arrivals ++ a ∷ []) (unkept e) (forgets e h))

-- a pull
answers_open : (given : Pull) (e : EndpointHistory) → (after_answer given e).1.closed ≡ None → (is_connection given ≡ false) × (e.closed ≡ None)
answers_open (answer.Fault (fault.Connection code)) e x = cc
answers_open (answer.Fault (fault.Stream f)) e x = (refl, x)
answers_open (answer.Fault fault.Memory) e x = (refl, x)
answers_open (answer.Item i) e x = (refl, x)
answers_open answer.Pending e x = (refl, x)
answers_open (answer.Waiting n) e x = (refl, x)
answers_open answer.NoMessages e x = (refl, x)

record AfterAnswer (given : Pull) (e : EndpointHistory) : Type 0 where
  pub incoming : (after_answer given e).1.incoming ≡ e.incoming
  pub decoding : (after_answer given e).1.decoding ≡ e.decoding
  pub announced : (after_answer given e).1.announced ≡ e.announced

after_is : (given : Pull) (e : EndpointHistory) → AfterAnswer given e
after_is (answer.Fault (fault.Connection code)) e = record { incoming = refl; decoding = refl; announced = refl }
after_is (answer.Fault (fault.Stream f)) e = record { incoming = refl; decoding = refl; announced = refl }
after_is (answer.Fault fault.Memory) e = record { incoming = refl; decoding = refl; announced = refl }
after_is (answer.Item i) e = record { incoming = refl; decoding = refl; announced = refl }
after_is answer.Pending e = record { incoming = refl; decoding = refl; announced = refl }
after_is (answer.Waiting n) e = record { incoming = refl; decoding = refl; announced = refl }
after_is answer.NoMessages e = record { incoming = refl; decoding = refl; announced = refl }

pulled_on : (e : EndpointHistory) (id : ℕ) (p : Pulled) → IsBounded e → Good p → heads_waiting e.decoding.decoder (set_stream e.incoming id p.incoming) ≤ e.announced.limits.blocked → IsBounded (pulled e id p).1
pulled_on e id p h g waiting =
    let f = replied (with_incoming e id p.incoming) p.replies in
    let a = after_is p.answer f in
    record {
      tries = λ q. subst (λ s. OfStream TriesTwice (stream_at s q)) (sym a.incoming) (set_of TriesTwice e.incoming id q p.incoming g.tries (h.tries q));
      once = λ open_still q.
          let o = answers_open p.answer f open_still in
          subst (λ s. OfStream WaitsOnce (stream_at s q)) (sym a.incoming) (set_of WaitsOnce e.incoming id q p.incoming (g.once o.0) (h.once o.1 q));
      waiting = rw (a.incoming, a.decoding, a.announced) waiting;
    }

too_many : (e : EndpointHistory) (id : ℕ) (p : Pulled) (b : Bool) → nat_lt e.announced.limits.blocked (heads_waiting e.decoding.decoder (set_stream e.incoming id p.incoming)) ≡ b → IsBounded e → Good p → IsBounded (pulled e id (if_too_many b p)).1
too_many e id p true is h g = pulled_on e id (if_too_many true p) h (record { tries = g.tries; once = λ x. cc })
    (omega (arith, count_set e.decoding.decoder.table.inserted e.incoming id (record p.incoming { waits_for = 0 }) (omega arith), h.waiting))
too_many e id p false is h g = pulled_on e id p h g (elim (cases_lt e.announced.limits.blocked (heads_waiting e.decoding.decoder (set_stream e.incoming id p.incoming))) [
  | inl less ↦ let wrong : true ≡ false = sym (lt-ltb _ _ less) ∙ is in cc
  | inr few ↦ few
])

request_on : (e : EndpointHistory) (id : ℕ) (at : Option Incoming) → stream_at e.incoming id ≡ at → e.closed ≡ None → IsBounded e → IsBounded (pull_request e id at).1
request_on e id None is open_still h = h
request_on e id (Some i) is open_still h =
    let p = pull_stream e.side e.announced id e.decoding.decoder i in
    let ready : Ready i = record { tries = subst (λ x. OfStream TriesTwice x) is (h.tries id); once = subst (λ x. OfStream WaitsOnce x) is (h.once open_still id) } in
    too_many e id p _ refl h (pull_good e.side e.announced id e.decoding.decoder i ready)

peer_on : (e : EndpointHistory) (id : ℕ) (at : Option Unidirectional) → IsBounded e → IsBounded (pull_peer e id at).1
peer_on e id None h = h
peer_on e id (Some o) h = sets_peer e id _ h

at_on : (e : EndpointHistory) (id : ℕ) (k : Kind) → e.closed ≡ None → IsBounded e → IsBounded (pull_at e id k).1
at_on e id Request open_still h = request_on e id (stream_at e.incoming id) refl open_still h
at_on e id ServerOpened open_still h = h
at_on e id OwnUnidirectional open_still h = h
at_on e id PeerUnidirectional open_still h = peer_on e id (stream_at e.unidirectional id) h

unless_closed : (e : EndpointHistory) (closed : Option ℕ) (later : Pull × EndpointHistory) → e.closed ≡ closed → IsBounded e → (e.closed ≡ None → IsBounded later.1) → IsBounded (pull_unless closed e later).1
unless_closed e (Some code) later is h k = h
unless_closed e None later is h k = k is

pub pull_on : (e : EndpointHistory) (id : ℕ) → IsBounded e → IsBounded (pull_unless e.closed e (pull_at e id (kind_of e.side id))).1
pull_on e id h = unless_closed e e.closed _ refl h (λ open_still. at_on e id (kind_of e.side id) open_still h)

after_kept : (found : Found) (id : ℕ) → IsBounded found.0 → found.0.closed ≡ None → IsBounded (pulled_after found id).1
after_kept (e, Some code) id h open_still = as_before e _ (record { incoming = refl; decoder = refl; announced = refl; closed = λ x. cc }) h
after_kept (e, None) id h open_still = at_on e id (kind_of e.side id) open_still h

settled_or : (b : Bool) (x y : Pull × EndpointHistory) → IsBounded x.1 → IsBounded y.1 → IsBounded (if b then x else y).1
settled_or true x y h k = h
settled_or false x y h k = k

pub pulls_on : (e : EndpointHistory) (id : ℕ) → IsBounded e → IsBounded (pulls e id).1
pulls_on e id h = behind e.kept
  where
    behind : (arrivals : List Arrival) → IsBounded (pulls_behind arrivals e id).1
    behind [] = pull_on e id h
    behind (k ∷ arrivals) = unless_closed e e.closed _ refl h (λ open_still. settled_or (settles e id) _ _ (at_on e id (kind_of e.side id) open_still h)
        (after_kept (read_all (k ∷ arrivals) (unkept e)) id (all_on (k ∷ arrivals) (unkept e) (forgets e h)) ((all_stays (k ∷ arrivals) (unkept e)).closed ∙ open_still)))

-- a stream changes, without being opened
pub changes_at : (e : EndpointHistory) (id : ℕ) (j : Incoming) → IsBounded e → Calms (incoming_at e id) j → IsBounded (with_incoming e id j)
changes_at e id j h c =
    let at = stream_at e.incoming id in
    with_stream e id j h (rw c.tries (of_stream TriesTwice at (omega arith) (h.tries id)))
    (λ open_still. calm_once (incoming_at e id) j c (of_stream WaitsOnce at none_once (h.once open_still id)))
    (omega (arith, count_set e.decoding.decoder.table.inserted e.incoming id j (rw (waits_is at) c.waits), h.waiting))

does_on : (success : Result) (r : Option Refusal) (e f : EndpointHistory) → IsBounded e → IsBounded f → IsBounded (done success (does r e f)).1
does_on success (Some r) e f h k = h
does_on success None e f h k = k

was_on : (p : Pull × EndpointHistory) → IsBounded p.1 → IsBounded (was_pulled p).1
was_on (given, e) h = h

done_on : (success : Result) (p : Option Refusal × EndpointHistory) → IsBounded p.1 → IsBounded (done success p).1
done_on success (None, e) h = h
done_on success (Some r, e) h = h

pub rests : (e f : EndpointHistory) → f.incoming ≡ e.incoming → f.decoding ≡ e.decoding → f.announced ≡ e.announced → f.closed ≡ e.closed → IsBounded e → IsBounded f
rests e f a b c d h = as_before e f (record { incoming = a; decoder = ap (λ x. x.decoder) b; announced = c; closed = λ x. sym d ∙ x }) h

body_on : (e : EndpointHistory) (id : ℕ) (bytes : List ℕ) → IsBounded e → IsBounded (counted (sent_bytes e id bytes) (length bytes))
body_on e id [] h = rests e _ refl refl refl refl h
body_on e id (byte ∷ bytes) h = rests e _ refl refl refl refl h

advance_on : (e : EndpointHistory) (id count : ℕ) (at : Option Out) → IsBounded e → IsBounded (advance_at e id count at)
advance_on e id count (Some o) h = rests e _ refl refl refl refl h
advance_on e id count None h = rests e _ refl refl refl refl h

end_taken_on : (e : EndpointHistory) (id : ℕ) (at : Option Out) → IsBounded e → IsBounded (end_taken_at e id at).1
end_taken_on e id (Some o) h = by_test (is_end_next o)
  where
    by_test : (b : Bool) → IsBounded (end_taken_if b e id o).1
    by_test true = rests e _ refl refl refl refl h
    by_test false = h
end_taken_on e id None h = h

asked_on : (e : EndpointHistory) (q : ℕ) (fields : List Field) → IsBounded e → IsBounded (asked e q fields)
asked_on e q fields h = by_choice e.announced.choices.strict_messages
  where
    at_stream : (at : Option Incoming) → stream_at e.incoming q ≡ at → IsBounded (record e { incoming = telling_at e.side e.incoming q fields at })
    at_stream None is = h
    at_stream (Some i) is =
        let calms : Calms i (having_told e.side i fields) = record { tries = refl; waits = omega arith } in
        changes_at e q (having_told e.side i fields) h (subst (λ at. Calms (unwrap_or at nothing_came) (having_told e.side i fields)) (sym is) calms)

    by_choice : (b : Bool) → IsBounded (record e { incoming = if b then telling_at e.side e.incoming q fields (stream_at e.incoming q) else e.incoming; outgoing = (asked e q fields).outgoing })
    by_choice true =
        let f = record e { incoming = telling_at e.side e.incoming q fields (stream_at e.incoming q) } in
        rests f (record f { outgoing = (asked e q fields).outgoing }) refl refl refl refl (at_stream (stream_at e.incoming q) refl)
    by_choice false = rests e (record e { outgoing = (asked e q fields).outgoing }) refl refl refl refl h

sends_head : (e : EndpointHistory) (q : ℕ) (head : Head) → IsBounded e → IsBounded (done Done (send_head e q head)).1
sends_head e q head h =
    let f = counted (appended (encoded e q (head_fields head)) q (head_part head (written_section e.encoder q (head_fields head)))) (fields_cost (head_fields head)) in
    does_on Done (head_refusal e q head) e (asked f q (head_fields head)) h (asked_on f q (head_fields head) (rests e f refl refl refl refl h))

sends_trailer : (e : EndpointHistory) (q : ℕ) (head : Head) → IsBounded e → IsBounded (done Done (send_trailer e q head)).1
sends_trailer e q head h =
    let f = counted (appended (encoded e q (head_fields head)) q (OwnTrailer (written_section e.encoder q (head_fields head)))) (fields_cost (head_fields head)) in
    does_on Done (trailer_refusal e q head) e f h (rests e f refl refl refl refl h)

opens_next : (e : EndpointHistory) → IsBounded e → IsBounded (done (Opened e.next_id) (open_request e)).1
opens_next e h =
    let o = opened_at e e.next_id None in
    let f = record o { next_id = e.next_id + 4 } in
    does_on (Opened e.next_id) (open_refusal e) e f h (rests o f refl refl refl refl (opens e e.next_id None h))

finishes : (e : EndpointHistory) (q : ℕ) → IsBounded e → IsBounded (done Done (finish e q)).1
finishes e q h =
    let f = with_outgoing e q (with_finish (outgoing_at e q)) in
    does_on Done (finish_refusal e q) e f h (rests e f refl refl refl refl h)

resets : (e : EndpointHistory) (q : ℕ) → IsBounded e → IsBounded (done Done (reset e q)).1
resets e q h =
    let f = with_outgoing e q (with_reset (outgoing_at e q)) in
    does_on Done (reset_refusal e q) e f h (rests e f refl refl refl refl h)

goes_away : (e : EndpointHistory) (n : ℕ) → IsBounded e → IsBounded (done Done (goaway e n)).1
goes_away e n h =
    let f = record e { own = record e.own { goaways = e.own.goaways ++ n ∷ [] } } in
    does_on Done (goaway_refusal e n) e f h (rests e f refl refl refl refl h)

cancels : (e : EndpointHistory) (q : ℕ) → IsBounded e → IsBounded (done Done (cancel e q)).1
cancels e q h =
    let i = incoming_at e q in
    let j = given_up_once i stream_fault.Canceled in
    let f = give_up e q i stream_fault.Canceled in
    does_on Done (cancel_refusal e q) e f h (rests (with_incoming e q j) f refl refl refl refl (changes_at e q j h (give_calm i stream_fault.Canceled i.fault)))

pub call_on : (e : EndpointHistory) (c : Call) → IsBounded e → IsBounded (called e c).1
call_on e OpenRequest h = opens_next e h
call_on e (SendHead q head) h = sends_head e q head h
call_on e (SendBody q bytes) h = does_on Done (body_refusal e q (length bytes)) e (counted (sent_bytes e q bytes) (length bytes)) h (body_on e q bytes h)
call_on e (SendTrailer q head) h = sends_trailer e q head h
call_on e (Finish q) h = finishes e q h
call_on e (Reset q) h = resets e q h
call_on e (Goaway n) h = goes_away e n h
call_on e (Advance q count) h = advance_on e q count (stream_at e.outgoing q) h
call_on e (TakeEnd q) h = end_taken_on e q (stream_at e.outgoing q) h
call_on e (Outgoing q) h = h
call_on e (Deliver q bytes) h = done_on Done (deliver e q bytes) (takes e.closed (delivery_refusal e q) e (bytes_at e q bytes (kind_of e.side q)) h (bytes_on e q bytes (kind_of e.side q) h))
call_on e (DeliverEnd q) h = done_on Done (deliver_end e q) (takes e.closed (delivery_refusal e q) e (end_at e q (kind_of e.side q)) h (end_on e q (kind_of e.side q) h))
call_on e (DeliverReset q code) h = done_on Done (deliver_reset e q code) (takes e.closed (delivery_refusal e q) e (reset_at e q code (kind_of e.side q)) h (reset_on e q code (kind_of e.side q) h))
call_on e (PullStream q) h = was_on (pull e q) (pull_on e q h)
call_on e (Cancel q) h = cancels e q h
call_on e Show h = h

pub new_on : (side : Side) (own : Announced) → IsBounded (new_endpoint side own)
new_on side own = record { tries = λ id. tt; once = λ open_still id. tt; waiting = omega arith }

pub calls_on : (e : EndpointHistory) (calls : List Call) → IsBounded e → IsBounded (endpoint_after e calls)
calls_on e [] h = h
calls_on e (c ∷ calls) h = calls_on (called e c).1 calls (call_on e c h)

-- what is shown
pub shown_tries : (e : EndpointHistory) (id : ℕ) → IsBounded e → block_tries e id ≤ 2
shown_tries e id h = of_stream TriesTwice (stream_at e.incoming id) (omega arith) (h.tries id)
