-- A strict endpoint sends as much content as its head said.
use Rattle.std.proofs.Common.{arith, ◌≡◌, ℕ, ◌+◌, ◌-◌, ◌≤◌, Bool, true, false, if◌then◌else◌, List, [], ◌∷◌, ◌++◌, length, Option, Some, None, refl, ap, sym, ◌∙◌}
use Rattle.std.specs.Prelude.{not, ◌&&◌, ◌==◌, nat_le, unwrap_or}
use Rattle.std.proofs.lemmas.Grind.{common_steps}
use Rattle.h3_field.specs.Field.{section_size}
use Rattle.h3_header.specs.Head.{Head, head_fields, has_pseudo}
use Rattle.h3_messages.specs.Content.{is_exceeded, left_behind, may_end}
use Rattle.h3_messages.specs.OwnMessageLaws.{own_request_content, own_response_content}
use Rattle.h3_messages.specs.declared.content.Content.{Content}
use Rattle.h3_messages.specs.declared.content.Content.TheVariants.{Exactly, Exceeded}
use Rattle.h3_proto.specs.declared.stream.Side.TheVariants.{Client, Server}
use Rattle.h3_connection.specs.Endpoint.{EndpointHistory}
use Rattle.h3_connection.specs.Remembering.{settings_known}
use Rattle.h3_connection.specs.Outgoing.{Outgoing, is_unsent, nothing_sent, takes_body, takes_end, takes_head, with_body, with_finish, with_said}
use Rattle.h3_connection.specs.Outgoing as sent
use Rattle.h3_connection.specs.OwnIds.{other}
use Rattle.h3_connection.specs.Pulling.{is_for}
use Rattle.h3_connection.specs.Sections.{written_section}
use Rattle.h3_connection.specs.Refusals.{first_of, is_too_large, unless_going}
use Rattle.h3_connection.specs.Sending.{appended, asked, body_refusal, content_of_own, counted, does, encoded, fields_cost, finish_refusal, head_part, head_refusal, is_open, known_of, outgoing_at, saying_at, send_body, sent_bytes, trailer_refusal, with_outgoing, sender_at, broken_head_at}
use Rattle.h3_connection.specs.SentContent.{Begins, HeadsSayTheirContent, PeersExpectAsMuch, Sends, SendsAsMuchAsSaid, SendsContent, Stays, left_to_send}
use Rattle.h3_connection.specs.StreamSetLaws.{set-here}
use Rattle.h3_connection.specs.StreamSets.{set_stream, stream_at}
use Rattle.h3_connection.specs.StrictSending.{broken_protocol, broken_trailer, early_trailer, passes_content, unless_malformed}
use Rattle.h3_connection.specs.StrictSendingLaws.{not_closed, not_early, not_malformed, passed, was_allowed}
use Rattle.h3_connection.specs.declared.event.Malformation.TheVariants as malformation
use Rattle.h3_connection.specs.declared.event.Refusal.{Refusal}
use Rattle.h3_connection.specs.declared.event.Refusal.TheVariants as refusal

not_last : (b : Bool) (r : Refusal) → first_of ((b, r) ∷ []) ≡ None → b ≡ false
not_last true r e = absurd (cc)
not_last false r e = refl

-- a body that fits, and what is left behind it
record Fits (left size : ℕ) : Type 0 where
  within : size ≤ left
  behind : left_behind (Exactly left) size ≡ Exactly (left - size)

fits : (left size : ℕ) → passes_content (Exactly left) size ≡ false → Fits left size
fits left size h = by_test (nat_le size left) refl h
  where
    by_test : (b : Bool) → nat_le size left ≡ b → is_exceeded (if b then Exactly (left - size) else Exceeded) ≡ false → Fits left size
    by_test true is few = record { within = grind (arith, common_steps, is); behind = ap (λ b. if b then Exactly (left - size) else Exceeded) is }
    by_test false is few = absurd (cc)

-- a body that was accepted passes no content
accepted : (e : EndpointHistory) (id : ℕ) (bytes : List ℕ) → (send_body e id bytes).0 ≡ None → passes_content (left_to_send e id) (length bytes) ≡ false
accepted e id bytes sent =
    let last = (passes_content (left_to_send e id) (length bytes), refusal.Malformed malformation.ContentLength) ∷ [] in
    let allowed = not_closed e.closed _ (was_allowed (body_refusal e id (length bytes)) e (counted (sent_bytes e id bytes) (length bytes)) sent) in
    let there = passed (not (is_open e id)) refusal.NotOpen ((not (takes_body (outgoing_at e id)), refusal.OutOfOrder) ∷ last) allowed in
    not_last (passes_content (left_to_send e id) (length bytes)) (refusal.Malformed malformation.ContentLength) (passed (not (takes_body (outgoing_at e id))) refusal.OutOfOrder last there)

at_set : (e : EndpointHistory) (id : ℕ) (o : Outgoing) → outgoing_at (with_outgoing e id o) id ≡ o
at_set e id o = ap (λ at. unwrap_or at nothing_sent) (set-here e.outgoing id o)

-- what it leaves
left_by : (e : EndpointHistory) (id : ℕ) (bytes : List ℕ) (left : ℕ) → left_to_send e id ≡ Exactly left → Fits left (length bytes) → left_to_send (counted (sent_bytes e id bytes) (length bytes)) id ≡ Exactly (left - length bytes)
left_by e id [] left is f = let same : left ≡ left - 0 = omega arith in is ∙ ap Exactly same
left_by e id (byte ∷ bytes) left is f =
    ap (λ (o : Outgoing). o.content) (at_set e id (with_body (outgoing_at e id) (byte ∷ bytes))) ∙ ap (λ c. left_behind c (length (byte ∷ bytes))) is ∙ f.behind

done_by : (rule : Option Refusal) (old new : EndpointHistory) → (does rule old new).0 ≡ None → (does rule old new).1 ≡ new
done_by None old new e = refl
done_by (Some r) old new e = absurd (cc)

-- What is left, and what was sent, are what was said.
record Counts (id all n : ℕ) (e : EndpointHistory) : Type 0 where
  left : ℕ
  content : left_to_send e id ≡ Exactly left
  sum : left + n ≡ all

counts : (id all n : ℕ) (e : EndpointHistory) → SendsContent id all n e → Counts id all n e
counts id all n e (Begins is) = record { left = all; content = is; sum = omega arith }
counts id all n e (Stays {e = old} h same) = let c = counts id all n old h in record { left = c.left; content = same ∙ c.content; sum = c.sum }
counts id all n e (Sends {n = before} {e = old} bytes h sent) =
    let c = counts id all before old h in
    let f = fits c.left (length bytes) (ap (λ k. passes_content k (length bytes)) (sym c.content) ∙ accepted old id bytes sent) in
    let after = counted (sent_bytes old id bytes) (length bytes) in
    record {
      left = c.left - length bytes;
      content = ap (λ x. left_to_send x id) (done_by (body_refusal old id (length bytes)) old after sent) ∙ left_by old id bytes c.left c.content f;
      sum = omega (arith, c.sum, f.within);
    }

-- none is left where the message may end
none_left : (left n all : ℕ) (k : Content) → k ≡ Exactly left → left + n ≡ all → may_end k ≡ true → n ≡ all
none_left left n all k is sum may =
    let zero : (left == 0) ≡ true = sym (ap may_end is) ∙ may in
    let none : left ≡ 0 = grind (arith, common_steps, zero) in
    omega (arith, none, sum)

is_true : (b : Bool) → not b ≡ false → b ≡ true
is_true true h = refl
is_true false h = absurd (cc)

ends : (e : EndpointHistory) (id : ℕ) → (does (finish_refusal e id) e (with_outgoing e id (with_finish (outgoing_at e id)))).0 ≡ None → may_end (left_to_send e id) ≡ true
ends e id sent =
    let last = (not (may_end (left_to_send e id)), refusal.Malformed malformation.ContentLength) ∷ [] in
    let allowed = not_closed e.closed _ (was_allowed (finish_refusal e id) e (with_outgoing e id (with_finish (outgoing_at e id))) sent) in
    let there = passed (not (is_open e id)) refusal.NotOpen ((not (takes_end (outgoing_at e id)), refusal.OutOfOrder) ∷ last) allowed in
    is_true (may_end (left_to_send e id)) (not_last (not (may_end (left_to_send e id))) (refusal.Malformed malformation.ContentLength) (passed (not (takes_end (outgoing_at e id))) refusal.OutOfOrder last there))

early_none : (left : ℕ) (k : Content) → k ≡ Exactly left → early_trailer k ≡ None → may_end k ≡ true
early_none left k is h = ap may_end is ∙ by_test (left == 0) (sym (ap early_trailer is) ∙ h)
  where
    by_test : (b : Bool) → (if b then None else Some malformation.ContentLength) ≡ None → b ≡ true
    by_test true none = refl
    by_test false none = absurd (cc)

trails : (e : EndpointHistory) (id : ℕ) (trailer : Head) (rest : EndpointHistory) → (does (trailer_refusal e id trailer) e rest).0 ≡ None → early_trailer (left_to_send e id) ≡ None
trails e id trailer rest sent =
    let fields = head_fields trailer in
    let protocol = broken_protocol e.announced trailer in
    let early = early_trailer (left_to_send e id) in
    let behind = unless_malformed (broken_trailer e.announced fields) ((is_too_large (settings_known e.announced e.peer.settings) fields, refusal.TooLarge (section_size fields)) ∷ []) in
    let pseudo = (has_pseudo trailer, refusal.PseudoInTrailer) ∷ unless_malformed early behind in
    let allowed = not_closed e.closed _ (was_allowed (trailer_refusal e id trailer) e rest sent) in
    let there = passed (not (is_open e id)) refusal.NotOpen ((not (takes_body (outgoing_at e id)), refusal.OutOfOrder) ∷ unless_malformed protocol pseudo) allowed in
    let placed = not_early protocol pseudo (passed (not (takes_body (outgoing_at e id))) refusal.OutOfOrder (unless_malformed protocol pseudo) there) in
    not_malformed early behind (passed (has_pseudo trailer) refusal.PseudoInTrailer (unless_malformed early behind) placed)

pub sends_as_much : SendsAsMuchAsSaid
sends_as_much id all n e h =
    let c = counts id all n e h in
    record {
      within = omega (arith, c.sum);
      ends = λ sent. none_left c.left n all (left_to_send e id) c.content c.sum (ends e id sent);
      trails = λ trailer sent. none_left c.left n all (left_to_send e id) c.content c.sum (early_none c.left (left_to_send e id) c.content (trails e id trailer _ sent));
    }

-- Behind a head stands what it says.
first_true : (a b : Bool) → (a && b) ≡ true → a ≡ true
first_true true b h = refl
first_true false b h = absurd (cc)

takes : (e : EndpointHistory) (id : ℕ) (head : Head) (after : EndpointHistory) → (does (head_refusal e id head) e after).0 ≡ None → sent.is_unended (outgoing_at e id) ≡ true
takes e id head after done =
    let fields = head_fields head in
    let wrong = unless_going (sender_at e id).going (unless_malformed (broken_protocol e.announced head)
    ((not (is_for (other e.side) head), refusal.WrongSide) ∷ unless_malformed (broken_head_at e id fields) ((is_too_large (settings_known e.announced e.peer.settings) fields, refusal.TooLarge (section_size fields)) ∷ []))) in
    let allowed = not_closed e.closed _ (was_allowed (head_refusal e id head) e after done) in
    let there = passed (not (is_open e id)) refusal.NotOpen ((not (takes_head (outgoing_at e id)), refusal.OutOfOrder) ∷ wrong) allowed in
    first_true (sent.is_unended (outgoing_at e id)) (is_unsent (outgoing_at e id).parts) (is_true (takes_head (outgoing_at e id)) (head_test (not (takes_head (outgoing_at e id))) refusal.OutOfOrder wrong there))
  where
    head_test : (b : Bool) (r : Refusal) (rules : List (Bool × Refusal)) → first_of ((b, r) ∷ rules) ≡ None → b ≡ false
    head_test true r rules h = absurd (cc)
    head_test false r rules h = refl

pub heads_say : HeadsSayTheirContent
heads_say e id head strict done =
    let fields = head_fields head in
    let part = head_part head (written_section e.encoder id fields) in
    let o : Outgoing = record (outgoing_at e id) { parts = (outgoing_at e id).parts ++ part ∷ [] } in
    let streams = set_stream e.outgoing id o in
    let content = content_of_own e.side (known_of (stream_at e.incoming id)) fields in
    let after = asked (counted (appended (encoded e id fields) id part) (fields_cost fields)) id fields in
    ap (λ x. left_to_send x id) (done_by (head_refusal e id head) e after done)
    ∙ ap (λ b. (unwrap_or (stream_at (if b then saying_at streams id content (stream_at streams id) else streams) id) nothing_sent).content) strict
    ∙ ap (λ at. (unwrap_or (stream_at (saying_at streams id content at) id) nothing_sent).content) (set-here e.outgoing id o)
    ∙ ap (λ at. (unwrap_or at nothing_sent).content) (set-here streams id (with_said o content))
    ∙ ap (λ b. if b then content else o.content) (takes e id head after done)

pub peers_expect : PeersExpectAsMuch
peers_expect Client awaited fields = own_request_content fields
peers_expect Server awaited fields = own_response_content awaited fields
