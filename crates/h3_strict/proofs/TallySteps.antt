-- What an event leaves of what both ends count: where no part is sent or handed out, and where one is sent.
use Rattle.std.proofs.Common.{◌≡◌, inl, inr, ℕ, zero, suc, ◌-◌, ◌≤◌, ◌<◌, Bool, true, false, List, [], ◌∷◌, ◌++◌, length, take, length-append, refl, sym, ap, ◌∙◌, subst, Some, None, nat_lt, arith, if◌then◌else◌, nat_le}
use Rattle.std.specs.Prelude.{◌==◌, ◌&&◌, slice_get, ◌⊎◌, codes}
use Rattle.std.proofs.lemmas.Grind.{common_steps}
use Rattle.h3_field.specs.Field.{Field}
use Rattle.h3_messages.specs.Content.{content_of_request, left_behind, said}
use Rattle.h3_messages.specs.Messages.{is_connect, is_length, number_of, value_of}
use Rattle.h3_messages.specs.OwnMessages.{IsSentOf}
use Rattle.h3_messages.specs.declared.content.Content.{Content}
use Rattle.h3_messages.specs.declared.content.Content.TheVariants.{Unsaid, Exactly, NoContent, Tunnel, Unanswered, Exceeded}
use Rattle.h3_proto.specs.declared.stream.Side.{Side}
use Rattle.h3_proto.specs.declared.stream.Side.TheVariants.{Client, Server}
use Rattle.h3_connection.specs.Delivering.{incoming_at}
use Rattle.h3_connection.specs.Endpoint.{EndpointHistory}
use Rattle.h3_connection.specs.Incoming.{Incoming}
use Rattle.h3_connection.specs.Outgoing.{Outgoing, takes_end}
use Rattle.h3_connection.specs.OwnIds.{other}
use Rattle.h3_connection.specs.Sending.{outgoing_at}
use Rattle.h3_connection.specs.declared.setup.Announced.{Announced}
use Rattle.h3_world.specs.Ends.{Ends, end_at}
use Rattle.h3_world.specs.Flow.{Flow, Part}
use Rattle.h3_world.specs.Order.{is_end, is_over}
use Rattle.h3_world.specs.Sending.{appended}
use Rattle.h3_world.specs.Setup.{Setup, announced_at}
use Rattle.h3_world.specs.Streams.{flow}
use Rattle.h3_world.specs.World.{World}
use Rattle.h3_headline.specs.Contents.{HasSameParts, KeepsParts}
use Rattle.h3_headline.specs.FlowLaws.{same_number}
use Rattle.h3_headline.specs.Messages.{is_on}
use Rattle.h3_headline.specs.SentPartLaws.{take_front}
use Rattle.h3_headline.specs.Standing.{place_after}
use Rattle.h3_strict.proofs.KeepsCounts.{HasAnswered, HeadKeeps, KeepsAt, KeepsBut, MayAnswer, SameCounts, SendsSame, head_keeps, same_counts, sends_same}
use Rattle.h3_strict.proofs.UnbrokenLaws.{along_more, unbroken_more}
use Rattle.h3_strict.specs.StrictPull.{CountsFlow}
use Rattle.h3_strict.specs.Tallies.{IsFine, KnowsResponse, Tallies, TalliesFlow, asked_in, awaited_of, has_head}
use Rattle.h3_strict.specs.Unbroken.{AreUnbroken, CountsAlong, IsUnbroken, SaysNoMore, begun, content_along, content_behind_part}
use Rattle.h3_world.specs.Flow.Part.{Interim, Head, Body, Trailer, End}

-- the same counts of the same parts
pub counts_same : (reader : Side) (awaited : Content) (sent more : List Part) (out out2 left left2 : ℕ) (content content2 : Content) → more ≡ sent → out2 ≡ out → left2 ≡ left → content2 ≡ content
    → CountsAlong reader awaited sent out left content → CountsAlong reader awaited more out2 left2 content2
counts_same reader awaited sent more out out2 left left2 before after same_sent same_out same_left same_content h =
    subst (λ s. CountsAlong reader awaited s out2 left2 after) (sym same_sent) (subst (λ n. CountsAlong reader awaited sent n left2 after) (sym same_out)
    (subst (λ n. CountsAlong reader awaited sent out n after) (sym same_left) (subst (CountsAlong reader awaited sent out left) (sym same_content) h)))

over_same : (f g : Flow) → HasSameParts f g → is_over g ≡ is_over f
over_same f g h = ap (λ n. nat_lt 0 n && is_end (slice_get g.sent (n - 1))) h.parts_out ∙ ap (λ s. nat_lt 0 f.parts_out && is_end (slice_get s (f.parts_out - 1))) h.sent

-- A flow of which no part is sent or handed out.
pub flow_keeps : (reader : Side) (peer : Announced) (awaited other_awaited : Content) (f g : Flow) (o p : Outgoing) (i j : Incoming) → HasSameParts f g → other_awaited ≡ awaited → SendsSame o p → KeepsAt i j
    → TalliesFlow reader peer awaited f o i → TalliesFlow reader peer other_awaited g p j
flow_keeps reader peer awaited other_awaited f g o p i j parts same out kept h =
    subst (λ c. TalliesFlow reader peer c g p j) (sym same) (record {
      unbroken = subst (AreUnbroken reader peer awaited) (sym parts.sent) h.unbroken;
      sends = λ takes.
          subst (IsSentOf p.content) (ap (content_along reader awaited) (sym parts.sent)) (subst (λ c. IsSentOf c (content_along reader awaited f.sent)) (sym (out.content takes)) (h.sends (out.takes takes)));
      receives = λ alive more. by_kept kept alive more;
      fine = by_fine kept;
    })
  where
    by_fine : KeepsAt i j → IsFine j.fault
    by_fine (inl k) = subst IsFine (sym k.fault) h.fine
    by_fine (inr k) = k.fine h.fine

    by_kept : KeepsAt i j → j.fault ≡ None → is_over g ≡ false → CountsFlow reader awaited g j
    by_kept (inl k) alive more =
        counts_same reader awaited f.sent g.sent f.parts_out g.parts_out i.body_left j.body_left i.content j.content parts.sent parts.parts_out k.left k.content
        (h.receives (sym k.fault ∙ alive) (sym (over_same f g parts) ∙ more))
    by_kept (inr k) alive more = absurd (k.lost alive)

-- What a request says is no answer.
abbrev is_unanswered : Content → Bool
is_unanswered Unanswered = true
is_unanswered _ = false

request_says : (fields : List Field) → is_unanswered (content_of_request fields) ≡ false
request_says fields = by_method (is_connect fields)
  where
    by_length : (b : Bool) (size : ℕ) → is_unanswered (if b then Exactly size else Unsaid) ≡ false
    by_length true size = refl
    by_length false size = refl

    by_method : (b : Bool) → is_unanswered (if b then Tunnel else said (value_of (codes "content-length") fields)) ≡ false
    by_method true = refl
    by_method false = by_length (is_length (value_of (codes "content-length") fields)) (number_of (value_of (codes "content-length") fields))

left_answered : (content : Content) (size : ℕ) → is_unanswered content ≡ false → is_unanswered (left_behind content size) ≡ false
left_answered Unsaid size h = refl
left_answered (Exactly left) size h = by_test (nat_le size left)
  where
    by_test : (b : Bool) → is_unanswered (if b then Exactly (left - size) else Exceeded) ≡ false
    by_test true = refl
    by_test false = refl
left_answered NoContent size h = by_test (size == 0)
  where
    by_test : (b : Bool) → is_unanswered (if b then NoContent else Exceeded) ≡ false
    by_test true = refl
    by_test false = refl
left_answered Tunnel size h = refl
left_answered Unanswered size h = absurd (cc)
left_answered Exceeded size h = refl

part_answered : (content : Content) (part : Part) → is_unanswered content ≡ false → is_unanswered (content_behind_part Server content part) ≡ false
part_answered content (Interim s) h = h
part_answered content (Head s) h = request_says s.fields
part_answered content (Body bytes own) h = left_answered content (length bytes) h
part_answered content (Trailer s) h = h
part_answered content End h = h

along_answered : (content : Content) (parts : List Part) → is_unanswered content ≡ false → is_unanswered (content_along Server content parts) ≡ false
along_answered content [] h = h
along_answered content (part ∷ parts) h = along_answered (content_behind_part Server content part) parts (part_answered content part h)

none_unanswered : (parts : List Part) (content : Content) → content ≡ content_along Server Unsaid parts → content ≡ Unanswered → ⊥
none_unanswered parts content is was = let never : true ≡ false = ap is_unanswered (sym was ∙ is) ∙ along_answered Unsaid parts refl in cc

-- behind an answer no more is asked than before
answer_says : (parts : List Part) (before after : Content) → SaysNoMore before (content_along Server Unsaid parts) → before ≡ Unanswered → (after ≡ Tunnel) ⊎ (after ≡ Unsaid) → SaysNoMore after (content_along Server Unsaid parts)
answer_says parts before after (inl same) was now = absurd (none_unanswered parts before same was)
answer_says parts before after (inr (inl none)) was now = absurd (let never : Unsaid ≡ Unanswered = sym none ∙ was in let wrong : false ≡ true = ap is_unanswered never in cc)
answer_says parts before after (inr (inr waits)) was (inl tunnel) = inl (tunnel ∙ sym waits.1)
answer_says parts before after (inr (inr waits)) was (inr any) = inr (inl any)

answer_counts : (sent : List Part) (out left : ℕ) (before after : Content) → MayAnswer before after → CountsAlong Server Unsaid sent out left before → CountsAlong Server Unsaid sent out left after
answer_counts sent out left before after (inl same) h = subst (CountsAlong Server Unsaid sent out left) (sym same) h
answer_counts sent out left before after (inr (was, now)) h = record {
  before = λ e. absurd (none_unanswered (take out sent) before (h.before e) was);
  counts = answer_says (take (begun out left) sent) before after h.counts was now;
  within = h.within;
}

-- the flow of a request whose server sends a head
flow_answers : (peer : Announced) (f : Flow) (o p : Outgoing) (i j : Incoming) → SendsSame o p → HasAnswered i j → TalliesFlow Server peer Unsaid f o i → TalliesFlow Server peer Unsaid f p j
flow_answers peer f o p i j out kept h = record {
  unbroken = h.unbroken;
  sends = λ takes. subst (λ c. IsSentOf c (content_along Server Unsaid f.sent)) (sym (out.content takes)) (h.sends (out.takes takes));
  receives = λ alive more.
      counts_same Server Unsaid f.sent f.sent f.parts_out f.parts_out i.body_left j.body_left j.content j.content refl refl kept.left refl
      (answer_counts f.sent f.parts_out i.body_left i.content j.content kept.content (h.receives (sym kept.fault ∙ alive) more));
  fine = subst IsFine (sym kept.fault) h.fine;
}

knows_keeps : (request more : List Part) (i j : Incoming) → more ≡ request → KeepsAt i j → KnowsResponse request i → KnowsResponse more j
knows_keeps request more i j same kept h = subst (λ r. KnowsResponse r j) (sym same) (record { has = h.has; response = responds kept ∙ h.response })
  where
    responds : KeepsAt i j → j.response ≡ i.response
    responds (inl k) = k.response
    responds (inr k) = k.response

by_bool : {X : Type 0} (b : Bool) → (b ≡ true → X) → (b ≡ false → X) → X
by_bool true on off = on refl
by_bool false on off = off refl

kept_at : (only : ℕ → Bool) (e f : EndpointHistory) (id : ℕ) → KeepsBut only e f → KeepsAt (incoming_at e id) (incoming_at f id)
kept_at only e f id h = by_bool (only id) (h.kept id) (λ off. inl (h.same id off))

-- **An event that sends and hands out nothing.**
pub quiet_tallies : (setup : Setup) (w v : World) (ends next : Ends) (known : ℕ → Bool) (only : Side → ℕ → Bool) → KeepsParts w v → ((side : Side) → KeepsBut (only side) (end_at ends side) (end_at next side))
    → Tallies setup w ends known → Tallies setup v next known
quiet_tallies setup w v ends next known only parts keeps h = record {
  flows = λ writer id. flow_keeps (other writer) (announced_at setup (other writer)) (awaited_of writer (flow w Client id).sent) (awaited_of writer (flow v Client id).sent) (flow w writer id) (flow v writer id)
      (outgoing_at (end_at ends writer) id) (outgoing_at (end_at next writer) id) (incoming_at (end_at ends (other writer)) id) (incoming_at (end_at next (other writer)) id) (parts writer id) (ap (awaited_of writer) (parts Client id).sent)
      ((keeps writer).out id) (kept_at (only (other writer)) (end_at ends (other writer)) (end_at next (other writer)) id (keeps (other writer))) (h.flows writer id);
  asked = λ id has. ap has_head (parts Client id).sent ∙ h.asked id (sym (ap has_head (parts Server id).sent) ∙ has);
  announced = λ side. (keeps side).announced ∙ h.announced side;
  knows = λ id is. knows_keeps (flow w Client id).sent (flow v Client id).sent (incoming_at ends.server id) (incoming_at next.server id) (parts Client id).sent
      (kept_at (only Server) ends.server next.server id (keeps Server)) (h.knows id is);
}

-- A flow on which a part is sent.
get_front : (xs ys : List Part) (n : ℕ) → n < length xs → slice_get (xs ++ ys) n ≡ slice_get xs n
get_front [] ys n h = absurd (omega (arith, h))
get_front (x ∷ xs) ys zero h = refl
get_front (x ∷ xs) ys (suc n) h = get_front xs ys n (omega (arith, h))

over_more : (f : Flow) (part : Part) → f.parts_out ≤ length f.sent → is_over (appended f part) ≡ is_over f
over_more f part within = by_out f.parts_out within
  where
    by_out : (n : ℕ) → n ≤ length f.sent → (nat_lt 0 n && is_end (slice_get (f.sent ++ part ∷ []) (n - 1))) ≡ (nat_lt 0 n && is_end (slice_get f.sent (n - 1)))
    by_out zero h = refl
    by_out (suc n) h = ap (λ o. nat_lt 0 (suc n) && is_end o) (get_front f.sent (part ∷ []) (suc n - 1) (omega (arith, h)))

out_begun : (out left : ℕ) → out ≤ begun out left
out_begun out zero = omega arith
out_begun out (suc left) = omega arith

pub counts_more : (reader : Side) (awaited : Content) (sent : List Part) (part : Part) (out left : ℕ) (content : Content) → CountsAlong reader awaited sent out left content → CountsAlong reader awaited (sent ++ part ∷ []) out left content
counts_more reader awaited sent part out left content h =
    let front : take out (sent ++ part ∷ []) ≡ take out sent = take_front out sent (part ∷ []) (omega (arith, h.within, out_begun out left)) in
    let read : take (begun out left) (sent ++ part ∷ []) ≡ take (begun out left) sent = take_front (begun out left) sent (part ∷ []) h.within in
    record {
      before = λ e. h.before (ap place_after (sym front) ∙ e) ∙ ap (content_along reader awaited) (sym front);
      counts = subst (λ l. SaysNoMore content (content_along reader awaited l)) (sym read) h.counts;
      within = omega (arith, h.within, length-append sent (part ∷ []));
    }

pub flow_grows : (reader : Side) (peer : Announced) (awaited : Content) (f : Flow) (part : Part) (o p : Outgoing) (i : Incoming) → f.parts_out ≤ length f.sent → IsUnbroken reader peer (content_along reader awaited f.sent) part
    → (takes_end p ≡ true → IsSentOf p.content (content_behind_part reader (content_along reader awaited f.sent) part)) → TalliesFlow reader peer awaited f o i → TalliesFlow reader peer awaited (appended f part) p i
flow_grows reader peer awaited f part o p i within fine sends h = record {
  unbroken = unbroken_more reader peer awaited f.sent part h.unbroken fine;
  sends = λ takes. subst (IsSentOf p.content) (sym (along_more reader awaited f.sent part)) (sends takes);
  receives = λ alive more. counts_more reader awaited f.sent part f.parts_out i.body_left i.content (h.receives alive (sym (over_more f part within) ∙ more));
  fine = h.fine;
}

-- What both ends have of a flow of the side.
at_flow : (s writer : Side) (id i : ℕ) → is_on writer id s i ≡ true → (writer ≡ s) × (i ≡ id)
at_flow Client Client id i e = (refl, same_number i id e)
at_flow Server Server id i e = (refl, same_number i id e)
at_flow Client Server id i e = absurd (cc)
at_flow Server Client id i e = absurd (cc)

-- One end sends a part on a stream: what it is then, what its sender counts, and what stays.
pub record SendsPart (w v : World) (ends next : Ends) (s : Side) (i : ℕ) (part : Part) (p : Outgoing) : Type 0 where
  pub flows : (writer : Side) (id : ℕ) → flow v writer id ≡ (if is_on writer id s i then appended (flow w s i) part else flow w writer id)
  pub out : (id : ℕ) → outgoing_at (end_at next s) id ≡ (if i == id then p else outgoing_at (end_at ends s) id)
  pub in_here : (id : ℕ) → HeadKeeps s (incoming_at (end_at ends s) id) (incoming_at (end_at next s) id)
  pub there : end_at next (other s) ≡ end_at ends (other s)
  pub announced : (end_at next s).announced ≡ (end_at ends s).announced

-- the flow on which it is sent, and the others
sends_flow : (w : World) (s writer : Side) (i id : ℕ) (part : Part) (P : Side → ℕ → Flow → Type 0) → P s i (appended (flow w s i) part) → (is_on writer id s i ≡ false → P writer id (flow w writer id))
    → P writer id (if is_on writer id s i then appended (flow w s i) part else flow w writer id)
sends_flow w s writer i id part P here there = by_on (is_on writer id s i) refl
  where
    by_on : (b : Bool) → is_on writer id s i ≡ b → P writer id (if b then appended (flow w s i) part else flow w writer id)
    by_on true e =
        let at = at_flow s writer id i e in
        subst (λ x. P x id (appended (flow w s i) part)) (sym at.0) (subst (λ n. P s n (appended (flow w s i) part)) at.1 here)
    by_on false e = there e

other_out : (e f : EndpointHistory) (id i : ℕ) (p : Outgoing) → outgoing_at f id ≡ (if i == id then p else outgoing_at e id) → (i == id) ≡ false → SendsSame (outgoing_at e id) (outgoing_at f id)
other_out e f id i p is off = subst (SendsSame (outgoing_at e id)) (sym (is ∙ ap (λ b. if b then p else outgoing_at e id) off)) (sends_same (outgoing_at e id))

end_sends : (e f : EndpointHistory) (id : ℕ) → f ≡ e → SendsSame (outgoing_at e id) (outgoing_at f id)
end_sends e f id is = subst (λ (x : EndpointHistory). SendsSame (outgoing_at e id) (outgoing_at x id)) (sym is) (sends_same (outgoing_at e id))

end_keeps : (e f : EndpointHistory) (id : ℕ) → f ≡ e → SameCounts (incoming_at e id) (incoming_at f id)
end_keeps e f id is = subst (λ (x : EndpointHistory). SameCounts (incoming_at e id) (incoming_at x id)) (sym is) (same_counts (incoming_at e id))

-- what both ends have of any other flow
pub others_keep : (w v : World) (ends next : Ends) (s : Side) (i : ℕ) (part : Part) (p : Outgoing) → SendsPart w v ends next s i part p → (writer : Side) (id : ℕ) → is_on writer id s i ≡ false
    → SendsSame (outgoing_at (end_at ends writer) id) (outgoing_at (end_at next writer) id) × HeadKeeps (other writer) (incoming_at (end_at ends (other writer)) id) (incoming_at (end_at next (other writer)) id)
others_keep w v ends next Client i part p m Client id off =
    (other_out ends.client next.client id i p (m.out id) off, head_keeps Server (incoming_at ends.server id) (incoming_at next.server id) (end_keeps ends.server next.server id m.there))
others_keep w v ends next Server i part p m Server id off = (other_out ends.server next.server id i p (m.out id) off, end_keeps ends.client next.client id m.there)
others_keep w v ends next Client i part p m Server id off = (end_sends ends.server next.server id m.there, m.in_here id)
others_keep w v ends next Server i part p m Client id off = (end_sends ends.client next.client id m.there, m.in_here id)

same_parts : (f : Flow) → HasSameParts f f
same_parts f = record { sent = refl; parts_out = refl; body_out = refl }

server_same : (w v : World) (ends next : Ends) (s : Side) (i : ℕ) (part : Part) (p : Outgoing) → SendsPart w v ends next s i part p → (id : ℕ) → HasAnswered (incoming_at ends.server id) (incoming_at next.server id)
server_same w v ends next Client i part p m id = head_keeps Server (incoming_at ends.server id) (incoming_at next.server id) (end_keeps ends.server next.server id m.there)
server_same w v ends next Server i part p m id = m.in_here id

pub same_announced : (w v : World) (ends next : Ends) (s : Side) (i : ℕ) (part : Part) (p : Outgoing) → SendsPart w v ends next s i part p → (side : Side) → (end_at next side).announced ≡ (end_at ends side).announced
same_announced w v ends next Client i part p m Client = m.announced
same_announced w v ends next Server i part p m Server = m.announced
same_announced w v ends next Client i part p m Server = ap (λ (e : EndpointHistory). e.announced) m.there
same_announced w v ends next Server i part p m Client = ap (λ (e : EndpointHistory). e.announced) m.there

itself : (id : ℕ) → (id == id) ≡ true
itself id = grind (arith, common_steps)

-- **A part that is sent and that leaves what requests ask.** It breaks no rule, and its sender counts on.
pub sends_tally : (setup : Setup) (w v : World) (ends next : Ends) (known : ℕ → Bool) (s : Side) (i : ℕ) (part : Part) (p : Outgoing) → SendsPart w v ends next s i part p → (flow w s i).parts_out ≤ length (flow w s i).sent
    → ((id : ℕ) → asked_in (flow v Client id).sent ≡ asked_in (flow w Client id).sent) → ((id : ℕ) → has_head (flow v Client id).sent ≡ has_head (flow w Client id).sent)
    → ((id : ℕ) → has_head (flow v Server id).sent ≡ true → has_head (flow v Client id).sent ≡ true)
    → IsUnbroken (other s) (announced_at setup (other s)) (content_along (other s) (awaited_of s (flow w Client i).sent) (flow w s i).sent) part
    → (takes_end p ≡ true → IsSentOf p.content (content_behind_part (other s) (content_along (other s) (awaited_of s (flow w Client i).sent) (flow w s i).sent) part))
    → Tallies setup w ends known → Tallies setup v next known
sends_tally setup w v ends next known s i part p m within asked_same has_same asks fine sends h = record {
  flows = λ writer id. subst (λ g. Tallied writer id g) (sym (m.flows writer id)) (sends_flow w s writer i id part Tallied grown (others writer id));
  asked = asks;
  announced = λ side. same_announced w v ends next s i part p m side ∙ h.announced side;
  knows = λ id is.
      let k = h.knows id is in
      let c = server_same w v ends next s i part p m id in
      record { has = has_same id ∙ k.has; response = c.response ∙ k.response ∙ ap Some (sym (asked_same id)) };
}
  where
    awaited_same : (writer : Side) (id : ℕ) → awaited_of writer (flow v Client id).sent ≡ awaited_of writer (flow w Client id).sent
    awaited_same Client id = refl
    awaited_same Server id = asked_same id

    Tallied : Side → ℕ → Flow → Type 0
    Tallied writer id g =
        TalliesFlow (other writer) (announced_at setup (other writer)) (awaited_of writer (flow v Client id).sent) g (outgoing_at (end_at next writer) id) (incoming_at (end_at next (other writer)) id)

    grown : Tallied s i (appended (flow w s i) part)
    grown =
        let reader = other s in
        let peer = announced_at setup reader in
        let awaited = awaited_of s (flow w Client i).sent in
        let base = flow_grows reader peer awaited (flow w s i) part (outgoing_at (end_at ends s) i) p (incoming_at (end_at ends reader) i) within fine sends (h.flows s i) in
        subst (λ c. TalliesFlow reader peer c (appended (flow w s i) part) (outgoing_at (end_at next s) i) (incoming_at (end_at next reader) i)) (sym (awaited_same s i))
        (subst (λ o. TalliesFlow reader peer awaited (appended (flow w s i) part) o (incoming_at (end_at next reader) i)) (sym (m.out i ∙ ap (λ b. if b then p else outgoing_at (end_at ends s) i) (itself i)))
        (subst (λ (e : EndpointHistory). TalliesFlow reader peer awaited (appended (flow w s i) part) p (incoming_at e i)) (sym m.there) base))

    others : (writer : Side) (id : ℕ) → is_on writer id s i ≡ false → Tallied writer id (flow w writer id)
    others Client id off =
        let k = others_keep w v ends next s i part p m Client id off in
        flow_answers (announced_at setup Server) (flow w Client id) (outgoing_at ends.client id) (outgoing_at next.client id) (incoming_at ends.server id) (incoming_at next.server id) k.0 k.1 (h.flows Client id)
    others Server id off =
        let k = others_keep w v ends next s i part p m Server id off in
        flow_keeps Client (announced_at setup Client) (awaited_of Server (flow w Client id).sent) (awaited_of Server (flow v Client id).sent) (flow w Server id) (flow w Server id)
        (outgoing_at ends.server id) (outgoing_at next.server id) (incoming_at ends.client id) (incoming_at next.client id)
        (same_parts (flow w Server id)) (awaited_same Server id) k.0 (inl k.1) (h.flows Server id)
