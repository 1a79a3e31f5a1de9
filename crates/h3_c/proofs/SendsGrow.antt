-- Each step that one side makes writes behind what was written.
use Rattle.std.proofs.Common.{arith, ◌≡◌, ◌⊎◌, inl, inr, ℕ, ◌+◌, ◌*◌, Bool, true, false, if◌then◌else◌, List, [], ◌∷◌, ◌++◌, length, take, refl, sym, ap, subst, ◌∙◌, Option, Some, None, append_assoc, append-nil}
use Rattle.std.specs.Prelude.{◌==◌, ◌||◌, not, is_some, unwrap_or}
use Rattle.std.specs.List.{AllByRecursion}
use Rattle.h3_field.specs.Field.{Field}
use Rattle.h3_field.specs.ReadBack.{AreBytes, IsFieldOfBytes}
use Rattle.h3_messages.specs.Content.{left_behind}
use Rattle.h3_messages.specs.declared.content.Content.{Content}
use Rattle.h3_proto.specs.declared.stream.Side.{Side}
use Rattle.h3_proto.specs.declared.stream.Side.TheVariants.{Client, Server}
use Rattle.h3_connection.specs.Delivering.{give_up, incoming_at, opened_at, with_incoming}
use Rattle.h3_connection.specs.Endpoint.{EndpointHistory, is_critical_id}
use Rattle.h3_connection.specs.Keeping.{pulls}
use Rattle.h3_connection.specs.Outgoing.{Outgoing as Out, OwnPart, nothing_sent, with_body, with_finish, with_reset, with_said}
use Rattle.h3_connection.specs.Outgoing.OwnPart.{OwnBody, OwnHead, OwnInterim, OwnTrailer}
use Rattle.h3_connection.specs.Pulling.{is_interim}
use Rattle.h3_connection.specs.OwnIds.{is_own}
use Rattle.h3_connection.specs.Refusals.{refusal_to_open}
use Rattle.h3_connection.specs.Sections.{own_instructions, with_insertions, written_section}
use Rattle.h3_connection.specs.Sending as sender
use Rattle.h3_connection.specs.Sending.{appended, asked, closed_or, content_of_own, counted, does, encoded, fields_cost, head_part, is_open, known_of, outgoing_at, saying_at, sent_bytes, with_outgoing}
use Rattle.h3_connection.specs.State.{EndpointState, StandsFor}
use Rattle.h3_connection.specs.StreamSets.{Streams, stream_at}
use Rattle.h3_connection.specs.Lasts.{last_id}
use Rattle.h3_connection.specs.declared.event.Pull.{Pull}
use Rattle.h3_connection.specs.declared.event.Refusal.{Refusal}
use Rattle.h3_connection.specs.declared.event.Refusal.TheVariants as refusal
use Rattle.h3_connection.specs.declared.event.StreamFault.TheVariants as stream_fault
use Rattle.h3_header.specs.Reads.{head_of_fields}
use Rattle.h3_world.specs.EndLists.{after_fields, after_trailer_fields, fields_refusal, send_fields, send_trailer_fields, trailer_fields_refusal}
use Rattle.h3_world.specs.Ends.{Ends, answered, done, end_at, was_listed, with_end}
use Rattle.h3_world.specs.Headline.{is_out_of_memory}
use Rattle.h3_world.specs.declared.event.Answer.{Answer}
use Rattle.h3_world.specs.declared.event.Answer.TheVariants as answer
use Rattle.h3_world.specs.declared.event.Event.{Event}
use Rattle.h3_world.specs.declared.event.Event.TheVariants as event
use Rattle.h3_memory.specs.Refused.{AnswerOf, CutsList, EndsStep, IsAsked, LacksMemory, LosesNothing}
use Rattle.h3_c.proofs.Flights.{Carries}
use Rattle.h3_c.proofs.Filling.{no_places}
use Rattle.h3_c.proofs.Grows.{Grows, IsPlain, PartsGrow, StreamGrows, goaways_grow, instructions_grow, new_grows, own_is, own_same, own_then, set_grows, stream_same}
use Rattle.h3_c.proofs.ReadsGrow.{Reads, gives_up, kept_reads, pulls_reads, reads_grow, reads_then, sets}
use Rattle.h3_c.proofs.SectionBytes.{section_bytes}
use Rattle.h3_c.proofs.Views.{by_id}
use Rattle.h3_c.proofs.ViewsMemory.{Cancels, GoesAway, KeepsBytes, KeepsEnd, KeepsReset, LacksOf, Opens, Pulls, SendsBody, SendsFields, SendsTrailer, TakesNoEnd, TakesNoReset, TakesNone, lacking, lacks_of}
use Rattle.h3_c.proofs.ViewsSteps.{IsCall, IsOfC}

pub quiet_grows : (e f : EndpointHistory) → f.side ≡ e.side → f.announced ≡ e.announced → f.next_id ≡ e.next_id → f.own ≡ e.own → f.outgoing ≡ e.outgoing → Grows e f
quiet_grows e f side announced next own outgoing = record {
  side = side;
  announced = announced;
  next = inl next;
  own = own_is e.own f.own own;
  streams = λ id. subst (λ x. StreamGrows e.side f.next_id id (stream_at e.outgoing id) x) (sym (ap (λ l. stream_at l id) outgoing)) (stream_same e.side f.next_id id (stream_at e.outgoing id));
}

pub grows_none : (e : EndpointHistory) → Grows e e
grows_none e = quiet_grows e e refl refl refl refl refl

both_plain : (xs ys : List OwnPart) → AllByRecursion IsPlain xs → AllByRecursion IsPlain ys → AllByRecursion IsPlain (xs ++ ys)
both_plain [] ys a b = b
both_plain (x ∷ xs) ys a b = (a.0, both_plain xs ys a.1 b)

parts_then : (o p q : Out) → PartsGrow o p → PartsGrow p q → PartsGrow o q
parts_then o p q a b = record {
  taken = b.taken ∙ a.taken;
  reset = λ goes. a.reset (b.reset goes);
  more = a.more ++ b.more;
  is = b.is ∙ ap (λ l. l ++ b.more) a.is ∙ append_assoc o.parts a.more b.more;
  plain = both_plain a.more b.more a.plain b.plain;
}

stream_then : (side : Side) (next id : ℕ) (o p q : Option Out) → StreamGrows side next id o p → StreamGrows side next id p q → StreamGrows side next id o q
stream_then side next id None None q a b = b
stream_then side next id None (Some p) None a b = absurd b
stream_then side next id None (Some p) (Some q) a b = (b.taken ∙ a.0, a.1, a.2, subst (λ l. AllByRecursion IsPlain l) (sym b.is) (both_plain p.parts b.more a.3 b.plain))
stream_then side next id (Some o) None q a b = absurd a
stream_then side next id (Some o) (Some p) None a b = absurd b
stream_then side next id (Some o) (Some p) (Some q) a b = parts_then o p q a b

grows_then : (e f g : EndpointHistory) → Grows e f → Grows f g → g.next_id ≡ f.next_id → Grows e g
grows_then e f g a b same = record {
  side = b.side ∙ a.side;
  announced = b.announced ∙ a.announced;
  next = elim (a.next) [ inl is ↦ inl (same ∙ is) | inr is ↦ inr (same ∙ is) ];
  own = own_then e.own f.own g.own a.own b.own;
  streams = λ id. stream_then e.side g.next_id id (stream_at e.outgoing id) (stream_at f.outgoing id) (stream_at g.outgoing id)
      (subst (λ n. StreamGrows e.side n id (stream_at e.outgoing id) (stream_at f.outgoing id)) (sym same) (a.streams id))
      (subst (λ s. StreamGrows s g.next_id id (stream_at f.outgoing id) (stream_at g.outgoing id)) a.side (b.streams id));
}

-- a call that is done
does_grows : (r : Option Refusal) (e new : EndpointHistory) → (r ≡ None → Grows e new) → Grows e (does r e new).1
does_grows None e new grows = grows refl
does_grows (Some r) e new grows = grows_none e

-- What is not refused is open.
pub closed_none : (closed : Option ℕ) (r : Option Refusal) → closed_or closed r ≡ None → r ≡ None
closed_none (Some code) r is = absurd (let never : Some (refusal.Closed code) ≡ None = is in cc)
closed_none None r is = is

pub open_first : (b : Bool) (r : Refusal) (later : Option Refusal) → (if not b then Some r else later) ≡ None → b ≡ true
open_first true r later is = refl
open_first false r later is = absurd (let never : Some r ≡ None = is in cc)

open_second : (critical b : Bool) (first r : Refusal) (later : Option Refusal) → (if critical then Some first else (if not b then Some r else later)) ≡ None → b ≡ true
open_second true b first r later is = absurd (let never : Some first ≡ None = is in cc)
open_second false b first r later is = open_first b r later is

-- a stream that was written to
part_grows : (o : Out) (part : OwnPart) (now : Content) → IsPlain part → PartsGrow o (record o { parts = o.parts ++ part ∷ []; content = now })
part_grows o part now plain = record { taken = refl; reset = λ goes. goes; more = part ∷ []; is = refl; plain = (plain, tt) }

same_text : (o p : Out) → p.taken ≡ o.taken → p.parts ≡ o.parts → (p.is_reset ≡ false → o.is_reset ≡ false) → PartsGrow o p
same_text o p taken parts reset = record { taken = taken; reset = reset; more = []; is = parts ∙ sym (append-nil o.parts); plain = tt }

writes_at : (e : EndpointHistory) (id : ℕ) (change : Out → Out) → ((o : Out) → PartsGrow o (change o)) → (o : Option Out) → stream_at e.outgoing id ≡ o → is_some o ≡ true → Grows e (with_outgoing e id (change (outgoing_at e id)))
writes_at e id change grows None at there = absurd (let never : false ≡ true = there in cc)
writes_at e id change grows (Some o) at there =
    subst (λ x. Grows e (with_outgoing e id (change x))) (sym (ap (λ x. unwrap_or x nothing_sent) at)) (record {
      side = refl;
      announced = refl;
      next = inl refl;
      own = own_same e.own;
      streams = set_grows e.side e.next_id e.outgoing id o (change o) at (grows o);
    })

writes : (e : EndpointHistory) (id : ℕ) (change : Out → Out) → ((o : Out) → PartsGrow o (change o)) → is_open e id ≡ true → Grows e (with_outgoing e id (change (outgoing_at e id)))
writes e id change grows there = writes_at e id change grows (stream_at e.outgoing id) refl there

-- a list
encoded_grows : (e : EndpointHistory) (id : ℕ) (fields : List Field) → Grows e (encoded e id fields)
encoded_grows e id fields = record { side = refl; announced = refl; next = inl refl; own = instructions_grow e.own (own_instructions e.encoder id fields); streams = λ i. stream_same e.side e.next_id i (stream_at e.outgoing i) }

appends : (e : EndpointHistory) (id : ℕ) (part : OwnPart) → is_open e id ≡ true → IsPlain part → Grows e (appended e id part)
appends e id part there plain = writes e id (λ (o : Out). record o { parts = o.parts ++ part ∷ [] }) (λ o. part_grows o part o.content plain) there

said_grows : (side : Side) (next : ℕ) (streams : Streams Out) (id : ℕ) (said : Content) (o : Option Out) → stream_at streams id ≡ o → (i : ℕ) → StreamGrows side next i (stream_at streams i) (stream_at (saying_at streams id said o) i)
said_grows side next streams id said None at i = stream_same side next i (stream_at streams i)
said_grows side next streams id said (Some o) at i = set_grows side next streams id o (with_said o said) at (same_text o (with_said o said) refl refl (λ goes. goes)) i

if_grows : (side : Side) (next : ℕ) (b : Bool) (streams other : Streams Out) → ((i : ℕ) → StreamGrows side next i (stream_at streams i) (stream_at other i)) → (i : ℕ) → StreamGrows side next i (stream_at streams i) (stream_at (if b then other else streams) i)
if_grows side next true streams other grows i = grows i
if_grows side next false streams other grows i = stream_same side next i (stream_at streams i)

asked_grows : (e : EndpointHistory) (id : ℕ) (fields : List Field) → Grows e (asked e id fields)
asked_grows e id fields =
    let said = content_of_own e.side (known_of (stream_at e.incoming id)) fields in
    record {
      side = refl;
      announced = refl;
      next = inl refl;
      own = own_same e.own;
      streams = if_grows e.side e.next_id e.announced.choices.strict_messages e.outgoing (saying_at e.outgoing id said (stream_at e.outgoing id)) (said_grows e.side e.next_id e.outgoing id said (stream_at e.outgoing id) refl);
    }

pub counted_grows : (e : EndpointHistory) (cost : ℕ) → Grows e (counted e cost)
counted_grows e cost = quiet_grows e (counted e cost) refl refl refl refl refl

section_grows : (e : EndpointHistory) (id : ℕ) (fields : List Field) (part : OwnPart) → is_open e id ≡ true → IsPlain part → Grows e (counted (appended (encoded e id fields) id part) (fields_cost fields))
section_grows e id fields part there plain =
    let sent = encoded e id fields in
    let more = appended sent id part in
    grows_then e more (counted more (fields_cost fields)) (grows_then e sent more (encoded_grows e id fields) (appends sent id part there plain) refl) (counted_grows more (fields_cost fields)) refl

plain_head : (b : Bool) (section : List ℕ) → AreBytes section → IsPlain (if b then OwnInterim section else OwnHead section)
plain_head true section bytes = (bytes, refl)
plain_head false section bytes = (bytes, refl)

fields_grow : (e : EndpointHistory) (id : ℕ) (fields : List Field) → AllByRecursion IsFieldOfBytes fields → Grows e (send_fields e id fields).1
fields_grow e id fields bytes = does_grows (fields_refusal e id fields) e (after_fields e id fields) (λ none.
    let there = open_first (is_open e id) refusal.NotOpen _ (closed_none e.closed _ none) in
    let part = head_part (head_of_fields fields) (written_section e.encoder id fields) in
    let sent = counted (appended (encoded e id fields) id part) (fields_cost fields) in
    grows_then e sent (asked sent id fields) (section_grows e id fields part there (plain_head (is_interim (head_of_fields fields).status) (written_section e.encoder id fields) (section_bytes e.encoder id fields bytes))) (asked_grows sent id fields) refl)

trailer_grows : (e : EndpointHistory) (id : ℕ) (fields : List Field) → AllByRecursion IsFieldOfBytes fields → Grows e (send_trailer_fields e id fields).1
trailer_grows e id fields bytes = does_grows (trailer_fields_refusal e id fields) e (after_trailer_fields e id fields) (λ none.
    section_grows e id fields (OwnTrailer (written_section e.encoder id fields)) (open_first (is_open e id) refusal.NotOpen _ (closed_none e.closed _ none)) (section_bytes e.encoder id fields bytes, refl))

sent_bytes_grow : (e : EndpointHistory) (id : ℕ) (bytes : List ℕ) → AreBytes bytes → is_open e id ≡ true → Grows e (sent_bytes e id bytes)
sent_bytes_grow e id [] all there = grows_none e
sent_bytes_grow e id (byte ∷ bytes) all there = writes e id (λ o. with_body o (byte ∷ bytes)) (λ o. part_grows o (OwnBody (byte ∷ bytes)) (left_behind o.content (length (byte ∷ bytes))) (tt, no_places (byte ∷ bytes) all)) there

body_grows : (e : EndpointHistory) (id : ℕ) (bytes : List ℕ) → AreBytes bytes → Grows e (sender.send_body e id bytes).1
body_grows e id bytes all = does_grows (sender.body_refusal e id (length bytes)) e (counted (sent_bytes e id bytes) (length bytes)) (λ none.
    let there = open_first (is_open e id) refusal.NotOpen _ (closed_none e.closed _ none) in
    grows_then e (sent_bytes e id bytes) (counted (sent_bytes e id bytes) (length bytes)) (sent_bytes_grow e id bytes all there) (counted_grows (sent_bytes e id bytes) (length bytes)) refl)

finish_grows : (e : EndpointHistory) (id : ℕ) → Grows e (sender.finish e id).1
finish_grows e id = does_grows (sender.finish_refusal e id) e (with_outgoing e id (with_finish (outgoing_at e id))) (λ none. writes e id with_finish (λ o. same_text o (with_finish o) refl refl (λ goes. goes)) (open_first (is_open e id) refusal.NotOpen _ (closed_none e.closed _ none)))

pub reset_grows : (e : EndpointHistory) (id : ℕ) → Grows e (sender.reset e id).1
reset_grows e id = does_grows (sender.reset_refusal e id) e (with_outgoing e id (with_reset (outgoing_at e id))) (λ none.
    writes e id with_reset (λ o. same_text o (with_reset o) refl refl (λ goes. absurd (let never : true ≡ false = goes in cc))) (open_second (is_critical_id e id) (is_open e id) refusal.Critical refusal.NotOpen _ (closed_none e.closed _ none)))

goaway_grows : (e : EndpointHistory) (id : ℕ) → Grows e (sender.goaway e id).1
goaway_grows e id = does_grows (sender.goaway_refusal e id) e (record e { own = record e.own { goaways = e.own.goaways ++ id ∷ [] } }) (λ none. record { side = refl; announced = refl; next = inl refl; own = goaways_grow e.own (id ∷ []); streams = λ i. stream_same e.side e.next_id i (stream_at e.outgoing i) })

insertions_grow : (e : EndpointHistory) (id : ℕ) (fields : List Field) → Grows e (with_insertions e id fields)
insertions_grow e id fields = record { side = refl; announced = refl; next = inl refl; own = instructions_grow e.own (own_instructions e.encoder id fields); streams = λ i. stream_same e.side e.next_id i (stream_at e.outgoing i) }

-- an end that calls made, of whose streams bytes are carried
pub record Stood (e : EndpointHistory) : Type 0 where
  pub state : EndpointState
  pub stands : StandsFor state e
  pub side : Side
  pub carried : ℕ → List ℕ
  pub said : ℕ → List ℕ
  pub owed : ℕ → List ℕ
  pub carries : Carries side carried said owed e

there_some : (e : EndpointHistory) (id : ℕ) → sender.cancel_refusal e id ≡ None → is_some (stream_at e.incoming id) ≡ true
there_some e id none = open_second (is_critical_id e id) (is_some (stream_at e.incoming id)) refusal.Critical refusal.NotOpen _ (closed_none e.closed _ none)

cancel_grows : (e : EndpointHistory) (id : ℕ) → Stood e → Grows e (sender.cancel e id).1
cancel_grows e id at =
    let new = give_up e id (incoming_at e id) stream_fault.Canceled in
    does_grows (sender.cancel_refusal e id) e new (λ none. reads_grow at.state e new at.stands (gives_up e id (incoming_at e id) stream_fault.Canceled (there_some e id none)))

pulls_grow : (e : EndpointHistory) (id : ℕ) → Stood e → Grows e (pulls e id).1
pulls_grow e id at = reads_grow at.state e (pulls e id).1 at.stands (pulls_reads e id at.stands.reached)

-- a request
client_opens : (side : Side) (last : Option ℕ) (next : ℕ) → refusal_to_open side last next ≡ None → side ≡ Client
client_opens Client last next is = refl
client_opens Server last next is = absurd (let never : Some refusal.NotClient ≡ None = is in cc)

differs : (n k : ℕ) → (n ≡ k → ⊥) → (n == k) ≡ false
differs n k never = by_id n k (λ b. b ≡ false) (λ same. absurd (never same)) (λ other. refl)

none_of : (a b c : Bool) → a ≡ false → b ≡ false → c ≡ false → (a || b || c) ≡ false
none_of a b c p q r = ap (λ x. x || b || c) p ∙ ap (λ x. false || x || c) q ∙ ap (λ x. false || false || x) r

four_apart : (n m : ℕ) → n ≡ 4 * m → (side : Side) → is_own side n ≡ false
four_apart n m is Client = none_of (n == 2) (n == 6) (n == 10) (differs n 2 (λ same. omega (arith, is, same))) (differs n 6 (λ same. omega (arith, is, same))) (differs n 10 (λ same. omega (arith, is, same)))
four_apart n m is Server = none_of (n == 3) (n == 7) (n == 11) (differs n 3 (λ same. omega (arith, is, same))) (differs n 7 (λ same. omega (arith, is, same))) (differs n 11 (λ same. omega (arith, is, same)))

pub opens_grow : (e : EndpointHistory) (side : Side) (carried said owed : ℕ → List ℕ) → Carries side carried said owed e → Grows e (sender.open_request e).1
opens_grow e side carried said owed k = does_grows (sender.open_refusal e) e (record (opened_at e e.next_id None) { next_id = e.next_id + 4 }) (λ none.
    let client = client_opens e.side (last_id e.peer.goaways) e.next_id (closed_none e.closed _ none) in
    record {
      side = refl;
      announced = refl;
      next = inr refl;
      own = own_same e.own;
      streams = new_grows e.side (e.next_id + 4) e.outgoing e.next_id (k.fresh (sym k.side_is ∙ client) e.next_id (omega arith)) (four_apart e.next_id k.next k.next_is e.side) (omega arith);
    })

-- both ends
pub record BothGrow (ends new : Ends) : Type 0 where
  pub client : Grows ends.client new.client
  pub server : Grows ends.server new.server

pub one_grows : (ends : Ends) (side : Side) (f : EndpointHistory) → Grows (end_at ends side) f → BothGrow ends (with_end ends side f)
one_grows ends Client f grows = record { client = grows; server = grows_none ends.server }
one_grows ends Server f grows = record { client = grows_none ends.client; server = grows }

pub both_none : (ends : Ends) → BothGrow ends ends
both_none ends = record { client = grows_none ends.client; server = grows_none ends.server }

done_end : (ends : Ends) (side : Side) (success : Answer) (x : Option Refusal × EndpointHistory) → (done ends side success x).1 ≡ with_end ends side x.1
done_end ends side success (None, e) = refl
done_end ends side success (Some r, e) = refl

listed_end : (ends : Ends) (side : Side) (id : ℕ) (x : Pull × EndpointHistory) → (was_listed ends side id x).1 ≡ with_end ends side x.1
listed_end ends side id (p, e) = refl

module _ (ends : Ends) (stood : (side : Side) → Stood (end_at ends side)) where
  done_grows : (side : Side) (success : Answer) (x : Option Refusal × EndpointHistory) → Grows (end_at ends side) x.1 → BothGrow ends (done ends side success x).1
  done_grows side success x grows = subst (λ new. BothGrow ends new) (sym (done_end ends side success x)) (one_grows ends side x.1 grows)

  opened_so : (side : Side) → BothGrow ends (answered ends (event.OpenRequest side)).1
  opened_so Client = done_grows Client (answer.Opened ends.client.next_id) (sender.open_request ends.client) (opens_grow ends.client (stood Client).side (stood Client).carried (stood Client).said (stood Client).owed (stood Client).carries)
  opened_so Server = done_grows Server (answer.Opened ends.server.next_id) (sender.open_request ends.server) (opens_grow ends.server (stood Server).side (stood Server).carried (stood Server).said (stood Server).owed (stood Server).carries)

  answered_grows : (e : Event) → IsOfC e → IsCall e → BothGrow ends (answered ends e).1
  answered_grows (event.OpenRequest side) of call = opened_so side
  answered_grows (event.Head side id head) of call = absurd of
  answered_grows (event.Fields side id fields) of call = done_grows side answer.Done (send_fields (end_at ends side) id fields) (fields_grow (end_at ends side) id fields of)
  answered_grows (event.Body side id bytes) of call = done_grows side answer.Done (sender.send_body (end_at ends side) id bytes) (body_grows (end_at ends side) id bytes of)
  answered_grows (event.Trailer side id trailer) of call = absurd of
  answered_grows (event.TrailerFields side id fields) of call = done_grows side answer.Done (send_trailer_fields (end_at ends side) id fields) (trailer_grows (end_at ends side) id fields of)
  answered_grows (event.Finish side id) of call = done_grows side answer.Done (sender.finish (end_at ends side) id) (finish_grows (end_at ends side) id)
  answered_grows (event.Reset side id) of call = done_grows side answer.Done (sender.reset (end_at ends side) id) (reset_grows (end_at ends side) id)
  answered_grows (event.Cancel side id) of call = done_grows side answer.Done (sender.cancel (end_at ends side) id) (cancel_grows (end_at ends side) id (stood side))
  answered_grows (event.Goaway side id) of call = done_grows side answer.Done (sender.goaway (end_at ends side) id) (goaway_grows (end_at ends side) id)
  answered_grows (event.Deliver side id count) of call = absurd call
  answered_grows (event.DeliverEnd side id) of call = absurd call
  answered_grows (event.DeliverReset side id) of call = absurd call
  answered_grows (event.Pull side id) of call = absurd of
  answered_grows (event.PullFields side id) of call = subst (λ new. BothGrow ends new) (sym (listed_end ends side id (pulls (end_at ends side) id))) (one_grows ends side (pulls (end_at ends side) id).1 (pulls_grow (end_at ends side) id (stood side)))
  answered_grows (event.Show side) of call = absurd of

  same_grow : (new : Ends) → new ≡ ends → BothGrow ends new
  same_grow new is = subst (λ x. BothGrow ends x) (sym is) (both_none ends)

  end_grows : (new : Ends) (side : Side) (f : EndpointHistory) → new ≡ with_end ends side f → Grows (end_at ends side) f → BothGrow ends new
  end_grows new side f is grows = subst (λ x. BothGrow ends x) (sym is) (one_grows ends side f grows)

  -- where memory was refused
  cuts_grow : (new : Ends) (r : Option Refusal) (side : Side) (id : ℕ) (fields : List Field) → CutsList r ends side id fields new → BothGrow ends new
  cuts_grow new None side id fields c = end_grows new side (with_insertions (end_at ends side) id (take c.front fields)) c.is (insertions_grow (end_at ends side) id (take c.front fields))
  cuts_grow new (Some (refusal.TooLarge size)) side id fields c = same_grow new c
  cuts_grow new (Some (refusal.Malformed why)) side id fields c = same_grow new c.1
  cuts_grow new (Some refusal.WrongSide) side id fields c = same_grow new c.1
  cuts_grow new (Some refusal.PseudoInTrailer) side id fields c = same_grow new c.1
  cuts_grow new (Some (refusal.Closed code)) side id fields c = absurd c
  cuts_grow new (Some (refusal.Connection code)) side id fields c = absurd c
  cuts_grow new (Some refusal.NotReceiving) side id fields c = absurd c
  cuts_grow new (Some refusal.AfterEnd) side id fields c = absurd c
  cuts_grow new (Some refusal.Kept) side id fields c = absurd c
  cuts_grow new (Some refusal.NotClient) side id fields c = absurd c
  cuts_grow new (Some (refusal.GoingAway going)) side id fields c = absurd c
  cuts_grow new (Some refusal.IdsUsedUp) side id fields c = absurd c
  cuts_grow new (Some refusal.NotOpen) side id fields c = absurd c
  cuts_grow new (Some refusal.OutOfOrder) side id fields c = absurd c
  cuts_grow new (Some refusal.Critical) side id fields c = absurd c
  cuts_grow new (Some refusal.Ended) side id fields c = absurd c
  cuts_grow new (Some refusal.NotRequestId) side id fields c = absurd c
  cuts_grow new (Some (refusal.Raised raised)) side id fields c = absurd c
  cuts_grow new (Some refusal.OutOfMemory) side id fields c = absurd c

  loses_grow : (new : Ends) (side : Side) (id : ℕ) → LosesNothing ends side id new → BothGrow ends new
  loses_grow new side id l = by l.is
    where
      read : Reads (end_at ends side) l.after
      read = kept_reads (end_at ends side) l.after (stood side).stands.reached l.read

      by : (new ≡ with_end ends side l.after) ⊎ ((l.after.kept ≡ []) × IsAsked l.after id (end_at new side) × (new ≡ with_end ends side (end_at new side))) → BothGrow ends new
      by (inl is) = end_grows new side l.after is (reads_grow (stood side).state (end_at ends side) l.after (stood side).stands read)
      by (inr (none, asked, is)) =
          end_grows new side (end_at new side) is (subst (λ f. Grows (end_at ends side) f) (sym asked.is)
          (reads_grow (stood side).state (end_at ends side) (with_incoming l.after id asked.asked) (stood side).stands (reads_then (end_at ends side) l.after (with_incoming l.after id asked.asked) read (sets l.after id asked.asked (ap is_some asked.here)))))

  lacks_grow : (new : Ends) (e : Event) (a : Answer) → IsCall e → LacksOf e a → LacksMemory ends e a new → BothGrow ends new
  lacks_grow new _ _ call (Opens {side = side}) h = same_grow new h.1
  lacks_grow new _ _ call (SendsFields {side = side} {id = id} {fields = fields}) h = cuts_grow new _ side id fields h
  lacks_grow new _ _ call (SendsBody {side = side} {id = id} {bytes = bytes}) h = same_grow new h
  lacks_grow new _ _ call (SendsTrailer {side = side} {id = id} {fields = fields}) h = cuts_grow new _ side id fields h
  lacks_grow new _ _ call (Cancels {side = side} {id = id}) h = same_grow new h.1
  lacks_grow new _ _ call (GoesAway {side = side} {id = id}) h = same_grow new h.1
  lacks_grow new _ _ call (TakesNone {writer = writer} {id = id} {count = count}) h = absurd call
  lacks_grow new _ _ call (TakesNoEnd {writer = writer} {id = id}) h = absurd call
  lacks_grow new _ _ call (TakesNoReset {writer = writer} {id = id}) h = absurd call
  lacks_grow new _ _ call (KeepsBytes {writer = writer} {id = id} {count = count}) h = absurd call
  lacks_grow new _ _ call (KeepsEnd {writer = writer} {id = id}) h = absurd call
  lacks_grow new _ _ call (KeepsReset {writer = writer} {id = id}) h = absurd call
  lacks_grow new _ _ call (Pulls {side = side} {id = id}) h = loses_grow new side id h

  pub step_grows : (new : Ends) (e : Event) (a : Answer) → IsOfC e → IsCall e → EndsStep ends e a new → BothGrow ends new
  step_grows new e a of call step = by (is_out_of_memory a) refl
    where
      by : (b : Bool) → is_out_of_memory a ≡ b → BothGrow ends new
      by true is = let lacks = subst (λ c. AnswerOf c ends e a new) is step in lacks_grow new e a call (lacks_of ends new e a of (lacking a is) lacks) lacks
      by false is = let answers = subst (λ c. AnswerOf c ends e a new) is step in subst (λ x. BothGrow ends x) (sym answers.1) (answered_grows e of call)
