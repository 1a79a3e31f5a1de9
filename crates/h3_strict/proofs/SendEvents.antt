-- Events by which a strict end sends.
use Rattle.std.proofs.Common.{◌≡◌, inl, inr, ℕ, zero, suc, ◌≤◌, Bool, true, false, List, [], ◌∷◌, ◌++◌, length, take, refl, sym, ap, ◌∙◌, subst, Option, Some, None, if◌then◌else◌}
use Rattle.std.specs.Prelude.{◌==◌, ◌&&◌, ◌||◌, not, flat_map, unwrap_or, is_some, option_map}
use Rattle.h3_field.specs.Field.{Field}
use Rattle.h3_header.specs.Head.{Head, trailer_head}
use Rattle.h3_header.specs.Reads.{AcceptsAll}
use Rattle.h3_messages.specs.Content.{awaited_by, content_of_request, may_end}
use Rattle.h3_messages.specs.OwnMessageLaws.{own_request_content, own_response_content}
use Rattle.h3_messages.specs.OwnMessages.{IsSentOf, content_of_own_response}
use Rattle.h3_messages.specs.declared.content.Content.{Content}
use Rattle.h3_messages.specs.declared.content.Content.TheVariants.{Unsaid}
use Rattle.h3_proto.specs.declared.stream.Side.{Side}
use Rattle.h3_proto.specs.declared.stream.Side.TheVariants.{Client, Server}
use Rattle.h3_connection.specs.Delivering.{incoming_at}
use Rattle.h3_connection.specs.Endpoint.{EndpointHistory}
use Rattle.h3_connection.specs.Incoming.{Incoming, awaiting, awaits_head, is_before_head, nothing_came}
use Rattle.h3_connection.specs.Outgoing.{Outgoing, OwnPart, is_unsent, nothing_sent, takes_end}
use Rattle.h3_connection.specs.Outgoing as sent
use Rattle.h3_connection.specs.Outgoing.OwnPart.{OwnBody, OwnHead, OwnInterim, OwnTrailer}
use Rattle.h3_connection.specs.OwnIds.{other}
use Rattle.h3_connection.specs.Sections.{written_section}
use Rattle.h3_connection.specs.declared.setup.Announced.{Announced}
use Rattle.h3_connection.specs.Pulling.{is_interim}
use Rattle.h3_connection.specs.Sending.{content_of_own, content_of_response_to, known_of, outgoing_at, telling_at}
use Rattle.h3_connection.specs.StreamSets.{Streams, stream_at}
use Rattle.h3_connection.specs.StrictMessages.{content_of_head}
use Rattle.h3_connection.specs.declared.place.Place.TheVariants.{BeforeHead}
use Rattle.h3_world.specs.Ends.{Ends, end_at, with_end}
use Rattle.h3_world.specs.Flow.{Flow, Part, own_part}
use Rattle.h3_world.specs.Flow.Part.{Body, End, Head as HeadPart, Interim, Trailer}
use Rattle.h3_world.specs.Order.{is_over, outgoing_of}
use Rattle.h3_world.specs.Sending.{appended, having_encoded, section_sent, with_section}
use Rattle.h3_world.specs.Setup.{Setup, announced_at, takes_any}
use Rattle.h3_world.specs.Sound.{AreSent, MayFollow, is_before_head as is_before, is_in_body, is_trailer}
use Rattle.h3_world.specs.Streams.{flow, is_open, with_flow}
use Rattle.h3_world.specs.World.{Party, World, party, with_party}
use Rattle.h3_headline.specs.ComingLaws.{incoming_there, sound_flow}
use Rattle.h3_headline.specs.FlowLaws.{flow-with_party, open_there, same_number, there-with_party}
use Rattle.h3_headline.specs.KeepsPartsLaws.{flow_at, same_flow}
use Rattle.h3_headline.specs.Messages.{is_on}
use Rattle.h3_headline.specs.Standing.{ReceivesFlow, Stands, place_after}
use Rattle.h3_headline.specs.Steps.{IsThere}
use Rattle.h3_strict.proofs.KeepsCounts.{in_set, HeadKeeps}
use Rattle.h3_strict.proofs.PlainStreams.{at_each, in_at, out_at}
use Rattle.h3_strict.proofs.SentLaws.{TakesHead, asked_awaited, asked_first, asked_same, head_is_open, is_head_part, unbroken_other, unsent_along, unsent_no_head}
use Rattle.h3_strict.proofs.SentTallies.{after_head, head_along, head_out, head_unbroken, known_is, parts_are, said_head, side_of, stands_at, client_incoming, server_in}
use Rattle.h3_strict.proofs.TallySteps.{SendsPart, flow_grows, sends_tally}
use Rattle.h3_strict.specs.PlainEnds.{plain_ends, plain_setup}
use Rattle.h3_strict.specs.Plainly.{plain_incoming, plainly}
use Rattle.h3_strict.specs.Tallies.{KnowsResponse, Tallies, TalliesFlow, asked_in, awaited_of, has_head}
use Rattle.h3_strict.specs.Unbroken.{CountsAlong, IsAwaited, IsUnbroken, begun, content_along, content_behind_part}

-- What the ends are after a call of one.
pub sends_part : (w v : World) (ends : Ends) (s : Side) (i : ℕ) (part : Part) (p : Outgoing) (e : EndpointHistory) → ((writer : Side) (id : ℕ) → flow v writer id ≡ (if is_on writer id s i then appended (flow w s i) part else flow w writer id))
    → ((id : ℕ) → outgoing_at e id ≡ (if i == id then p else outgoing_at (end_at ends s) id)) → ((id : ℕ) → HeadKeeps s (incoming_at (end_at ends s) id) (incoming_at e id)) → e.announced ≡ (end_at ends s).announced
    → SendsPart w v ends (with_end ends s e) s i part p
sends_part w v ends Client i part p e flows out in_here announced = record { flows = flows; out = out; in_here = in_here; there = refl; announced = announced }
sends_part w v ends Server i part p e flows out in_here announced = record { flows = flows; out = out; in_here = in_here; there = refl; announced = announced }

-- the flows after a part
pub flows_with : (w : World) (s : Side) (i : ℕ) (part : Part) → IsThere w i → (writer : Side) (id : ℕ) → flow (with_flow w s i (appended (flow w s i) part)) writer id ≡ (if is_on writer id s i then appended (flow w s i) part else flow w writer id)
flows_with w s i part there writer id = flow_at w s writer i id (appended (flow w s i) part) there

pub flows_with_party : (w : World) (s : Side) (q : Party) (i : ℕ) (part : Part) → IsThere w i → (writer : Side) (id : ℕ)
    → flow (with_flow (with_party w s q) s i (appended (flow w s i) part)) writer id ≡ (if is_on writer id s i then appended (flow w s i) part else flow w writer id)
flows_with_party w s q i part there writer id =
    flow_at (with_party w s q) s writer i id (appended (flow w s i) part) (there-with_party w s q i there)
    ∙ ap (λ f. if is_on writer id s i then appended (flow w s i) part else f) (flow-with_party w s writer q id)

-- where a part is no head, what requests ask is the same, and which heads were sent
part_if : (b : Bool) (f g : Flow) (part : Part) → is_head_part part ≡ false → (b ≡ true → f ≡ g) → (asked_in (if b then appended f part else g).sent ≡ asked_in g.sent) × (has_head (if b then appended f part else g).sent ≡ has_head g.sent)
part_if true f g part none same =
    let k = asked_same f.sent part none in
    (k.0 ∙ ap (λ (x : Flow). asked_in x.sent) (same refl), k.1 ∙ ap (λ (x : Flow). has_head x.sent) (same refl))
part_if false f g part none same = (refl, refl)

on_same : (w : World) (s writer : Side) (i id : ℕ) → is_on writer id s i ≡ true → flow w s i ≡ flow w writer id
on_same w s writer i id e = sym (same_flow w s writer i id e)

pub part_leaves : (w v : World) (s : Side) (i : ℕ) (part : Part) → ((writer : Side) (id : ℕ) → flow v writer id ≡ (if is_on writer id s i then appended (flow w s i) part else flow w writer id)) → is_head_part part ≡ false
    → (writer : Side) (id : ℕ) → (asked_in (flow v writer id).sent ≡ asked_in (flow w writer id).sent) × (has_head (flow v writer id).sent ≡ has_head (flow w writer id).sent)
part_leaves w v s i part flows none writer id =
    let k = part_if (is_on writer id s i) (flow w s i) (flow w writer id) part none (λ e. on_same w s writer i id e) in
    (ap (λ (x : Flow). asked_in x.sent) (flows writer id) ∙ k.0, ap (λ (x : Flow). has_head x.sent) (flows writer id) ∙ k.1)

-- **A part that is no head.**
pub part_tally : (setup : Setup) (w v : World) (ends : Ends) (known : ℕ → Bool) (s : Side) (i : ℕ) (part : Part) (p : Outgoing) (e : EndpointHistory) → SendsPart w v ends (with_end ends s e) s i part p → (flow w s i).parts_out ≤ length (flow w s i).sent
    → is_head_part part ≡ false
    → IsUnbroken (other s) (announced_at setup (other s)) (content_along (other s) (awaited_of s (flow w Client i).sent) (flow w s i).sent) part
    → (takes_end p ≡ true → IsSentOf p.content (content_behind_part (other s) (content_along (other s) (awaited_of s (flow w Client i).sent) (flow w s i).sent) part))
    → Tallies setup w ends known → Tallies setup v (with_end ends s e) known
part_tally setup w v ends known s i part p e m within none fine sends h =
    let leaves = part_leaves w v s i part m.flows none in
    sends_tally setup w v ends (with_end ends s e) known s i part p m within (λ id. (leaves Client id).0) (λ id. (leaves Client id).1)
    (λ id has. (leaves Client id).1 ∙ h.asked id (sym (leaves Server id).1 ∙ has)) fine sends h

-- Interim heads are no end of what may be sent.
still_unsent : (parts : List OwnPart) (section : List ℕ) → is_unsent parts ≡ true → is_unsent (parts ++ OwnInterim section ∷ []) ≡ true
still_unsent [] section h = refl
still_unsent (OwnInterim s ∷ parts) section h = still_unsent parts section h
still_unsent (OwnHead s ∷ parts) section h = absurd (cc)
still_unsent (OwnBody bytes ∷ parts) section h = absurd (cc)
still_unsent (OwnTrailer s ∷ parts) section h = absurd (cc)

no_end_yet : (o : Outgoing) → is_unsent o.parts ≡ true → takes_end o ≡ true → ⊥
no_end_yet o unsent takes = by_tests (sent.is_unended o) (is_unsent o.parts) unsent takes
  where
    by_tests : (a b : Bool) → b ≡ true → (a && not b) ≡ true → ⊥
    by_tests true true e k = cc
    by_tests true false e k = cc
    by_tests false b e k = cc

module _ (setup : Setup) (w : World) (ends : Ends) (known : ℕ → Bool) (i : ℕ) (head : Head) (fields : List Field) (h : Stands (plain_setup setup) w (plain_ends ends)) (t : Tallies setup w ends known)
    (strict : (side : Side) → (announced_at setup side).choices.strict_messages ≡ true) where
  pub strict_end : (s : Side) → (end_at ends s).announced.choices.strict_messages ≡ true
  strict_end s = ap (λ (a : Announced). a.choices.strict_messages) (t.announced s) ∙ strict s

  -- An interim head, which a server sends.
  pub interim_tally : (s : Side) → s ≡ Server → is_open w s i ≡ true → TakesHead (end_at ends s) i head fields → AcceptsAll (takes_any (announced_at setup (other s))) (trailer_head []) fields → is_interim head.status ≡ true
      → Tallies setup (with_section Interim w s i fields) (with_end ends s (after_head (end_at ends s) i head fields (strict_end s))) known
  interim_tally Client off opened takes reads interim = absurd (cc)
  interim_tally Server on opened takes reads interim =
      let e = ends.server in
      let there = open_there w Server i opened in
      let q = having_encoded (party w Server) i fields in
      let part = Interim (section_sent (party w Server) i fields (flow w Server i)) in
      let p = said_head e i head fields (strict_end Server) in
      let sound = sound_flow (plain_setup setup) w Server i h.sound there in
      let along = head_along setup w ends Server i head fields Client (asked_in (flow w Client i).sent) h opened takes in
      part_tally setup w (with_section Interim w Server i fields) ends known Server i part p (after_head e i head fields (strict_end Server))
      (sends_part w (with_section Interim w Server i fields) ends Server i part p (after_head e i head fields (strict_end Server)) (flows_with_party w Server q i part there) (head_out e i head fields (strict_end Server))
      (server_in e i head fields (strict_end Server) (side_of setup w ends Server h)) refl)
      sound.out refl
      (head_unbroken setup w ends known Server i head fields h t (strict Server) takes, subst (IsAwaited Client) (sym along) (asked_awaited (flow w Client i).sent), reads)
      (λ ends_now. absurd (no_end_yet p (by_kind (is_interim head.status) interim) ends_now)) t
    where
      by_kind : (b : Bool) → b ≡ true → is_unsent ((outgoing_at ends.server i).parts ++ (if b then OwnInterim (written_section ends.server.encoder i fields) else OwnHead (written_section ends.server.encoder i fields)) ∷ []) ≡ true
      by_kind true e = still_unsent (outgoing_at ends.server i).parts (written_section ends.server.encoder i fields) (head_is_open (outgoing_at ends.server i) takes.takes).1
      by_kind false e = absurd (cc)

  -- A final head, which a server sends where it knows what was asked.
  pub response_tally : is_open w Server i ≡ true → TakesHead ends.server i head fields → AcceptsAll (takes_any (announced_at setup Client)) (trailer_head []) fields → is_interim head.status ≡ false → known i ≡ true
      → Tallies setup (with_section HeadPart w Server i fields) (with_end ends Server (after_head ends.server i head fields (strict_end Server))) known
  response_tally opened takes reads final knows =
      let e = ends.server in
      let there = open_there w Server i opened in
      let q = having_encoded (party w Server) i fields in
      let f = flow w Server i in
      let request = (flow w Client i).sent in
      let part = HeadPart (section_sent (party w Server) i fields f) in
      let p = said_head e i head fields (strict_end Server) in
      let v = with_section HeadPart w Server i fields in
      let next = with_end ends Server (after_head e i head fields (strict_end Server)) in
      let sound = sound_flow (plain_setup setup) w Server i h.sound there in
      let along = head_along setup w ends Server i head fields Client (asked_in request) h opened takes in
      let k = t.knows i knows in
      let content = content_of_own e.side (known_of (stream_at e.incoming i)) fields in
      let told : content ≡ content_of_own_response (asked_in request) fields =
      ap (λ d. content_of_own d (known_of (stream_at e.incoming i)) fields) (side_of setup w ends Server h)
      ∙ ap (λ o. content_of_response_to o fields) (known_is (stream_at e.incoming i) ∙ k.response) in
      let flows = flows_with_party w Server q i part there in
      sends_tally setup w v ends next known Server i part p
      (sends_part w v ends Server i part p (after_head e i head fields (strict_end Server)) flows (head_out e i head fields (strict_end Server))
      (server_in e i head fields (strict_end Server) (side_of setup w ends Server h)) refl)
      sound.out (λ id. ap (λ (x : Flow). asked_in x.sent) (flows Client id)) (λ id. ap (λ (x : Flow). has_head x.sent) (flows Client id))
      (λ id has. ap (λ (x : Flow). has_head x.sent) (flows Client id) ∙ asks k.has id (i == id) refl (sym (ap (λ (x : Flow). has_head x.sent) (flows Server id)) ∙ has))
      (head_unbroken setup w ends known Server i head fields h t (strict Server) takes, subst (IsAwaited Client) (sym along) (asked_awaited request), reads)
      (λ ends_now.
      subst (λ c. IsSentOf p.content (content_of_head Client c fields)) (sym along)
      (subst (λ c. IsSentOf c (content_of_head Client (asked_in request) fields))
      (sym (ap (λ b. if b then content else (outgoing_at e i).content) (head_is_open (outgoing_at e i) takes.takes).0 ∙ told)) (own_response_content (asked_in request) fields))) t
    where
      asks : has_head (flow w Client i).sent ≡ true → (id : ℕ) (b : Bool) → (i == id) ≡ b → has_head (if b then appended (flow w Server i) (HeadPart (section_sent (party w Server) i fields (flow w Server i))) else flow w Server id).sent ≡ true
          → has_head (flow w Client id).sent ≡ true
      asks has id true e k = subst (λ n. has_head (flow w Client n).sent ≡ true) (same_number i id e) has
      asks has id false e k = t.asked id k

-- Parts in front of a final head, as they follow one another.
before_and_in : (o : Option Part) → is_before o ≡ true → is_in_body o ≡ true → ⊥
before_and_in None a b = absurd (cc)
before_and_in (Some (Interim s)) a b = absurd (cc)
before_and_in (Some (HeadPart s)) a b = absurd (cc)
before_and_in (Some (Body bytes end)) a b = absurd (cc)
before_and_in (Some (Trailer s)) a b = absurd (cc)
before_and_in (Some End) a b = absurd (cc)

before_and_trailer : (o : Option Part) → is_before o ≡ true → is_trailer o ≡ true → ⊥
before_and_trailer None a b = absurd (cc)
before_and_trailer (Some (Interim s)) a b = absurd (cc)
before_and_trailer (Some (HeadPart s)) a b = absurd (cc)
before_and_trailer (Some (Body bytes end)) a b = absurd (cc)
before_and_trailer (Some (Trailer s)) a b = absurd (cc)
before_and_trailer (Some End) a b = absurd (cc)

-- with no final head among them they are interim ones
pub none_sent : (p : Party) (before : Option Part) (start : ℕ) (parts : List Part) → AreSent p before start parts → is_before before ≡ true → has_head parts ≡ false → is_unsent (flat_map own_part parts) ≡ true
none_sent p before start [] h at none = refl
none_sent p before start (Interim s ∷ parts) h at none = none_sent p (Some (Interim s)) _ parts h.2 refl none
none_sent p before start (HeadPart s ∷ parts) h at none = absurd (cc)
none_sent p before start (Body bytes end ∷ parts) h at none = absurd (before_and_in before at h.0)
none_sent p before start (Trailer s ∷ parts) h at none = absurd (before_and_in before at h.0)
none_sent p before start (End ∷ parts) h at none = absurd (by_end h.0)
  where
    by_end : MayFollow before End → ⊥
    by_end (inl m) = before_and_in before at m
    by_end (inr m) = before_and_trailer before at m

unsent_take : (n : ℕ) (parts : List Part) → is_unsent (flat_map own_part parts) ≡ true → is_unsent (flat_map own_part (take n parts)) ≡ true
unsent_take zero [] h = refl
unsent_take (suc n) [] h = refl
unsent_take zero (x ∷ parts) h = refl
unsent_take (suc n) (Interim s ∷ parts) h = unsent_take n parts h
unsent_take (suc n) (HeadPart s ∷ parts) h = absurd (cc)
unsent_take (suc n) (Body bytes end ∷ parts) h = absurd (cc)
unsent_take (suc n) (Trailer s ∷ parts) h = absurd (cc)
unsent_take (suc n) (End ∷ parts) h = unsent_take n parts h

unsent_place : (parts : List Part) → is_unsent (flat_map own_part parts) ≡ true → place_after parts ≡ BeforeHead
unsent_place [] h = refl
unsent_place (Interim s ∷ parts) h = unsent_place parts h
unsent_place (HeadPart s ∷ parts) h = absurd (cc)
unsent_place (Body bytes end ∷ parts) h = absurd (cc)
unsent_place (Trailer s ∷ parts) h = absurd (cc)
unsent_place (End ∷ parts) h = unsent_place parts h

is_not_true : (b : Bool) → (b ≡ true → ⊥) → b ≡ false
is_not_true true h = absurd (h refl)
is_not_true false h = refl

false_true : false ≡ true → ⊥
false_true e = cc

-- **The final head of a request.** Its response is awaited by what it asks.
module _ (setup : Setup) (w : World) (ends : Ends) (known : ℕ → Bool) (i : ℕ) (head : Head) (fields : List Field) (h : Stands (plain_setup setup) w (plain_ends ends)) (t : Tallies setup w ends known)
    (strict : (side : Side) → (announced_at setup side).choices.strict_messages ≡ true) (opened : is_open w Client i ≡ true) (takes : TakesHead ends.client i head fields) (reads : AcceptsAll (takes_any (announced_at setup Server)) (trailer_head []) fields) where
  pub asking : ends.client.announced.choices.strict_messages ≡ true
  asking = ap (λ (a : Announced). a.choices.strict_messages) (t.announced Client) ∙ strict Client

  abbrev pub request_part : Part
  request_part = HeadPart (section_sent (party w Client) i fields (flow w Client i))

  abbrev pub asks_for : Content
  asks_for = awaited_by fields

  is_there : IsThere w i
  is_there = open_there w Client i opened

  flows_are : (writer : Side) (id : ℕ) → flow (with_section HeadPart w Client i fields) writer id ≡ (if is_on writer id Client i then appended (flow w Client i) request_part else flow w writer id)
  flows_are writer id = flows_with_party w Client (having_encoded (party w Client) i fields) i request_part is_there writer id

  -- before it no head was sent, neither of the request nor of its response
  no_request : has_head (flow w Client i).sent ≡ false
  no_request = unsent_no_head (flow w Client i).sent (ap is_unsent (sym (parts_are setup w ends Client i h opened)) ∙ (head_is_open (outgoing_at ends.client i) takes.takes).1)

  no_response : has_head (flow w Server i).sent ≡ false
  no_response = is_not_true (has_head (flow w Server i).sent) (λ has. false_true (sym no_request ∙ t.asked i has))

  response_unsent : is_unsent (flat_map own_part (flow w Server i).sent) ≡ true
  response_unsent = none_sent (party w Server) None 0 (flow w Server i).sent (sound_flow (plain_setup setup) w Server i h.sound is_there).sent refl no_response

  asked_now : (asked_in (appended (flow w Client i) request_part).sent ≡ asks_for) × (has_head (appended (flow w Client i) request_part).sent ≡ true)
  asked_now = asked_first (flow w Client i).sent (section_sent (party w Client) i fields (flow w Client i)) no_request

  -- its receiver awaits that, unless the stream was given up
  awaits : (CountsAlong Client (asked_in (flow w Client i).sent) (flow w Server i).sent (flow w Server i).parts_out (incoming_at ends.client i).body_left (incoming_at ends.client i).content)
      → is_over (flow w Server i) ≡ false → (incoming_at ends.client i).fault ≡ None
      → CountsAlong Client asks_for (flow w Server i).sent (flow w Server i).parts_out (awaiting (incoming_at ends.client i) asks_for).body_left (awaiting (incoming_at ends.client i) asks_for).content
  awaits old more alive =
      let f = flow w Server i in
      let there = incoming_there (plain_setup setup) w Client i (plainly ends.client) (stands_at setup w ends Client h) opened in
      let is : plain_incoming (incoming_at ends.client i) ≡ there.0 = sym (in_at ends.client i) ∙ ap (λ o. unwrap_or o nothing_came) there.1 in
      let same = subst (ReceivesFlow f) (sym is) there.2 in
      let reads = same.reads (sym same.fault ∙ alive) in
      let place : (incoming_at ends.client i).place ≡ BeforeHead = reads.place ∙ unsent_place (take f.parts_out f.sent) (unsent_take f.parts_out f.sent response_unsent) in
      let waits : awaits_head (incoming_at ends.client i) ≡ true =
      ap (λ p. is_before_head p && not ((incoming_at ends.client i).is_over || is_some (incoming_at ends.client i).fault)) place
      ∙ ap (λ b. not (b || is_some (incoming_at ends.client i).fault)) (same.is_over ∙ more) ∙ ap (λ o. not (is_some o)) alive in
      let now : (awaiting (incoming_at ends.client i) asks_for).content ≡ asks_for = ap (λ b. if b then asks_for else (incoming_at ends.client i).content) waits in
      let left = begun f.parts_out (incoming_at ends.client i).body_left in
      record {
        before = λ e. now ∙ sym (unsent_along Client asks_for (take f.parts_out f.sent) (unsent_take f.parts_out f.sent response_unsent));
        counts = inl (now ∙ sym (unsent_along Client asks_for (take left f.sent) (unsent_take left f.sent response_unsent)));
        within = old.within;
      }

  -- what its server has of the response sends no end yet
  no_end_sent : takes_end (outgoing_at ends.server i) ≡ true → ⊥
  no_end_sent takes = by_open (is_open w Server i) refl
    where
      by_open : (b : Bool) → is_open w Server i ≡ b → ⊥
      by_open true e = no_end_yet (outgoing_at ends.server i) (ap is_unsent (parts_are setup w ends Server i h e) ∙ response_unsent) takes
      by_open false e =
          let none : outgoing_at (plainly ends.server) i ≡ nothing_sent = ap (λ o. unwrap_or o nothing_sent) ((stands_at setup w ends Server h).outgoing i ∙ ap (λ b. if b then Some (outgoing_of (flow w Server i)) else None) e) in
          let parts : (outgoing_at ends.server i).parts ≡ [] = ap (λ (o : Outgoing). o.parts) (sym (out_at ends.server i) ∙ none) in
          no_end_yet (outgoing_at ends.server i) (ap is_unsent parts) takes

  response_flow : TalliesFlow Client (announced_at setup Client) asks_for (flow w Server i) (outgoing_at ends.server i) (awaiting (incoming_at ends.client i) asks_for)
  response_flow =
      let old = t.flows Server i in
      record {
        unbroken = unbroken_other Client (announced_at setup Client) (asked_in (flow w Client i).sent) asks_for (flow w Server i).sent no_response response_unsent may_now may_now old.unbroken;
        sends = λ takes. absurd (no_end_sent takes);
        receives = λ alive more. awaits (old.receives alive more) more alive;
        fine = old.fine;
      }
    where
      may_now : may_end asks_for ≡ true
      may_now = ap may_end (sym asked_now.0) ∙ asked_awaited (appended (flow w Client i) request_part).sent

  abbrev pub after : EndpointHistory
  after = after_head ends.client i head fields asking

  -- what the client receives
  client_in : (id : ℕ) → incoming_at after id ≡ (if i == id then awaiting (incoming_at ends.client i) asks_for else incoming_at ends.client id)
  client_in id =
      let there = incoming_there (plain_setup setup) w Client i (plainly ends.client) (stands_at setup w ends Client h) opened in
      by_stream (stream_at ends.client.incoming i) refl (sym (at_each plain_incoming ends.client.incoming i) ∙ there.1)
    where
      by_stream : (o : Option Incoming) → stream_at ends.client.incoming i ≡ o → {x : Incoming} → option_map plain_incoming (stream_at ends.client.incoming i) ≡ Some x
          → incoming_at after id ≡ (if i == id then awaiting (incoming_at ends.client i) asks_for else incoming_at ends.client id)
      by_stream None is some = absurd (let never : None ≡ _ = sym (ap (option_map plain_incoming) is) ∙ some in cc)
      by_stream (Some x) is some =
          ap (λ (l : Streams Incoming). unwrap_or (stream_at l id) nothing_came) (client_incoming ends.client i head fields asking (side_of setup w ends Client h) ∙ ap (telling_at Client ends.client.incoming i fields) is)
          ∙ in_set ends.client.incoming i (awaiting x asks_for) id
          ∙ ap (λ y. if i == id then awaiting y asks_for else incoming_at ends.client id) (sym (ap (λ o. unwrap_or o nothing_came) is))

  request_flow : TalliesFlow Server (announced_at setup Server) Unsaid (appended (flow w Client i) request_part) (said_head ends.client i head fields asking) (incoming_at ends.server i)
  request_flow =
      let f = flow w Client i in
      let e = ends.client in
      let sound = sound_flow (plain_setup setup) w Client i h.sound is_there in
      let along = head_along setup w ends Client i head fields Server Unsaid h opened takes in
      flow_grows Server (announced_at setup Server) Unsaid f request_part (outgoing_at e i) (said_head e i head fields asking) (incoming_at ends.server i) sound.out
      (head_unbroken setup w ends known Client i head fields h t (strict Client) takes, along, reads)
      (λ ends_now.
      subst (λ c. IsSentOf c (content_of_request fields))
      (sym (ap (λ b. if b then content_of_own e.side (known_of (stream_at e.incoming i)) fields else (outgoing_at e i).content) (head_is_open (outgoing_at e i) takes.takes).0
      ∙ ap (λ d. content_of_own d (known_of (stream_at e.incoming i)) fields) (side_of setup w ends Client h)))
      (own_request_content fields))
      (t.flows Client i)

  pub request_tally : Tallies setup (with_section HeadPart w Client i fields) (with_end ends Client after) known
  request_tally = record {
    flows = flows;
    announced = announced;
    asked = λ id has. ap (λ (x : Flow). has_head x.sent) (flows_are Client id) ∙ asked_at id (i == id) refl (sym (ap (λ (x : Flow). has_head x.sent) (flows_are Server id)) ∙ has);
    knows = λ id is. subst (λ (x : Flow). KnowsResponse x.sent (incoming_at ends.server id)) (sym (flows_are Client id)) (knows_at id (i == id) refl (t.knows id is));
  }
    where
      v : World
      v = with_section HeadPart w Client i fields

      announced : (side : Side) → (end_at (with_end ends Client after) side).announced ≡ announced_at setup side
      announced Client = t.announced Client
      announced Server = t.announced Server

      asked_at : (id : ℕ) (b : Bool) → (i == id) ≡ b → has_head (flow w Server id).sent ≡ true → has_head (if b then appended (flow w Client i) request_part else flow w Client id).sent ≡ true
      asked_at id true e has = asked_now.1
      asked_at id false e has = t.asked id has

      knows_at : (id : ℕ) (b : Bool) → (i == id) ≡ b → KnowsResponse (flow w Client id).sent (incoming_at ends.server id) → KnowsResponse (if b then appended (flow w Client i) request_part else flow w Client id).sent (incoming_at ends.server id)
      knows_at id true e k = absurd (false_true (sym no_request ∙ ap (λ n. has_head (flow w Client n).sent) (same_number i id e) ∙ k.has))
      knows_at id false e k = k

      request_at : (id : ℕ) (b : Bool) → (i == id) ≡ b
          → TalliesFlow Server (announced_at setup Server) Unsaid (if b then appended (flow w Client i) request_part else flow w Client id) (if b then said_head ends.client i head fields asking else outgoing_at ends.client id) (incoming_at ends.server id)
      request_at id true e = subst (λ n. TalliesFlow Server (announced_at setup Server) Unsaid (appended (flow w Client i) request_part) (said_head ends.client i head fields asking) (incoming_at ends.server n)) (same_number i id e) request_flow
      request_at id false e = t.flows Client id

      response_at : (id : ℕ) (b : Bool) → (i == id) ≡ b
          → TalliesFlow Client (announced_at setup Client) (asked_in (if b then appended (flow w Client i) request_part else flow w Client id).sent) (flow w Server id) (outgoing_at ends.server id)
          (if b then awaiting (incoming_at ends.client i) asks_for else incoming_at ends.client id)
      response_at id true e =
          subst (λ n. TalliesFlow Client (announced_at setup Client) (asked_in (appended (flow w Client i) request_part).sent) (flow w Server n) (outgoing_at ends.server n) (awaiting (incoming_at ends.client i) asks_for)) (same_number i id e)
          (subst (λ c. TalliesFlow Client (announced_at setup Client) c (flow w Server i) (outgoing_at ends.server i) (awaiting (incoming_at ends.client i) asks_for)) (sym asked_now.0) response_flow)
      response_at id false e = t.flows Server id

      flows : (writer : Side) (id : ℕ) → TalliesFlow (other writer) (announced_at setup (other writer)) (awaited_of writer (flow v Client id).sent) (flow v writer id)
          (outgoing_at (end_at (with_end ends Client after) writer) id) (incoming_at (end_at (with_end ends Client after) (other writer)) id)
      flows Client id =
          subst (λ o. TalliesFlow Server (announced_at setup Server) Unsaid (flow v Client id) o (incoming_at ends.server id)) (sym (head_out ends.client i head fields asking id))
          (subst (λ g. TalliesFlow Server (announced_at setup Server) Unsaid g (if i == id then said_head ends.client i head fields asking else outgoing_at ends.client id) (incoming_at ends.server id)) (sym (flows_are Client id))
          (request_at id (i == id) refl))
      flows Server id =
          subst (λ k. TalliesFlow Client (announced_at setup Client) (asked_in (flow v Client id).sent) (flow v Server id) (outgoing_at ends.server id) k) (sym (client_in id))
          (subst (λ g. TalliesFlow Client (announced_at setup Client) (asked_in (flow v Client id).sent) g (outgoing_at ends.server id) (if i == id then awaiting (incoming_at ends.client i) asks_for else incoming_at ends.client id)) (sym (flows_are Server id))
          (subst (λ (x : Flow). TalliesFlow Client (announced_at setup Client) (asked_in x.sent) (flow w Server id) (outgoing_at ends.server id) (if i == id then awaiting (incoming_at ends.client i) asks_for else incoming_at ends.client id)) (sym (flows_are Client id))
          (response_at id (i == id) refl)))
