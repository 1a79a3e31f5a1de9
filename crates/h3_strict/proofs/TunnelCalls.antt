-- Heads that a strict end sends, and what it sends behind them, leave that tunnels stand.
use Rattle.std.proofs.Common.{◌≡◌, ◌⊎◌, inl, inr, ℕ, ◌+◌, Bool, true, false, List, [], ◌∷◌, ◌++◌, length, take, refl, sym, ap, ◌∙◌, subst, Option, Some, None, if◌then◌else◌}
use Rattle.std.specs.Prelude.{◌==◌, ◌&&◌, ◌||◌, codes, flat_map, option_map, slice_index, unwrap_or}
use Rattle.std.specs.List.{AllByRecursion, list_any}
use Rattle.h3_field.specs.Field.{Field}
use Rattle.h3_header.specs.Head.{Head}
use Rattle.h3_messages.specs.Content.{awaited_by, content_of_status, is_interim_status, left_behind}
use Rattle.h3_messages.specs.Messages.{is_connect, is_length, number_of, value_of, violation_of_response}
use Rattle.h3_messages.specs.OwnMessages.{content_of_own_request, content_of_own_status, is_reset_content, is_trace, or_nothing}
use Rattle.h3_messages.specs.declared.content.Content.{Content}
use Rattle.h3_messages.specs.declared.content.Content.TheVariants.{Exactly, Exceeded, NoContent, Tunnel, Unanswered, Unsaid}
use Rattle.h3_messages.specs.declared.violation.Violation.{Violation}
use Rattle.h3_proto.specs.declared.stream.Side.{Side}
use Rattle.h3_proto.specs.declared.stream.Side.TheVariants.{Client, Server}
use Rattle.h3_qpack.specs.Sizes.{last_value}
use Rattle.h3_connection.specs.Remembering.{settings_known}
use Rattle.h3_connection.specs.Delivering.{incoming_at}
use Rattle.h3_connection.specs.Endpoint.{EndpointHistory}
use Rattle.h3_connection.specs.Incoming.{Incoming, awaiting, awaits_head, is_before_head, nothing_came}
use Rattle.h3_connection.specs.Outgoing.{Outgoing, is_unsent, nothing_sent, takes_end, with_body, with_finish}
use Rattle.h3_connection.specs.OwnIds.{other}
use Rattle.h3_connection.specs.Pulling.{is_interim_text}
use Rattle.h3_connection.specs.Sending.{content_of_own, content_of_response_to, known_of, outgoing_at, telling_at}
use Rattle.h3_connection.specs.StreamSets.{Streams, set_stream, stream_at}
use Rattle.h3_connection.specs.StrictMessages.{broken_rule, malformation_by}
use Rattle.h3_connection.specs.StrictSending.{early_trailer}
use Rattle.h3_connection.specs.StrictSendingLaws.{head_taken}
use Rattle.h3_connection.specs.declared.event.Malformation.{Malformation}
use Rattle.h3_connection.specs.declared.place.Place.{Place}
use Rattle.h3_connection.specs.declared.place.Place.TheVariants.{AfterTrailer, BeforeHead, InBody, InSession}
use Rattle.h3_connection.specs.declared.setup.Announced.{Announced}
use Rattle.h3_world.specs.Ends.{Ends, end_at, with_end}
use Rattle.h3_world.specs.Flow.{Flow, Part, own_part}
use Rattle.h3_world.specs.Flow.Part.{Body, End, Head as HeadPart, Interim}
use Rattle.h3_world.specs.Sending.{appended, having_encoded, section_sent, with_section}
use Rattle.h3_world.specs.Setup.{Setup, announced_at}
use Rattle.h3_world.specs.Streams.{flow, is_open}
use Rattle.h3_world.specs.World.{World, party}
use Rattle.h3_headline.specs.ComingLaws.{sound_flow}
use Rattle.h3_headline.specs.FlowLaws.{open_there}
use Rattle.h3_headline.specs.Messages.{is_on}
use Rattle.h3_headline.specs.Standing.{IsReadable, place_after}
use Rattle.h3_headline.specs.StatusLaws.{interim_by_last}
use Rattle.h3_headline.specs.Steps.{IsThere}
use Rattle.h3_world.specs.Setup.{takes_any}
use Rattle.h3_strict.proofs.KeepsCounts.{SameCounts, head_keeps, in_set, out_set, same_counts, sends_same}
use Rattle.h3_strict.proofs.OneStatus.{one_status}
use Rattle.h3_strict.proofs.SendEvents.{flows_with_party, sends_part}
use Rattle.h3_strict.proofs.SentLaws.{TakesHead, asked_first, head_is_open, unsent_no_head}
use Rattle.h3_strict.proofs.SentTallies.{after_head, client_incoming, head_out, known_is, said_head, server_in}
use Rattle.h3_strict.proofs.TunnelParts.{any_more, response_keeps, server_keeps, tunnel_grows, tunnel_same, unsent_opens}
use Rattle.h3_strict.proofs.TunnelSees.{Sees}
use Rattle.h3_strict.proofs.TunnelSends.{SendsFine, by_id, itself, sends_tunnels}
use Rattle.h3_strict.specs.PlainEnds.{plain_setup}
use Rattle.h3_strict.specs.Tallies.{asked_in, has_head}
use Rattle.h3_strict.specs.Tunnels.{AsksOther, AwaitsTunnel, NoTrailer, TunnelAt, TunnelsStand, asks_tunnel, is_tunnel, marked, opens_tunnel, trails, tunnels}

pub tunnel_is : (content : Content) → is_tunnel content ≡ true → content ≡ Tunnel
tunnel_is Tunnel h = refl
tunnel_is Unsaid h = absurd (cc)
tunnel_is (Exactly left) h = absurd (cc)
tunnel_is NoContent h = absurd (cc)
tunnel_is Unanswered h = absurd (cc)
tunnel_is Exceeded h = absurd (cc)

front_is : (place : Place) → is_before_head place ≡ true → place ≡ BeforeHead
front_is BeforeHead h = refl
front_is InBody h = absurd (cc)
front_is AfterTrailer h = absurd (cc)
front_is InSession h = absurd (cc)

pub all_last : (P : Part → Type 0) (parts : List Part) (x : Part) → AllByRecursion P (parts ++ x ∷ []) → P x
all_last P [] x h = h.0
all_last P (y ∷ parts) x h = all_last P parts x h.1

no_violation : (v : Option Violation) → option_map malformation_by v ≡ None → v ≡ None
no_violation None e = refl
no_violation (Some v) e = absurd (cc)

either_same : (b : Bool) → (b || b) ≡ b
either_same true = refl
either_same false = refl

first_off : (a b : Bool) → (a || b) ≡ true → a ≡ false → b ≡ true
first_off true b h off = absurd (cc)
first_off false b h off = h

-- a response that begins a tunnel where one was awaited
own_tunnel : (status size : List ℕ) → (slice_index status 0 == 50) ≡ true → content_of_own_status Tunnel status size ≡ Tunnel
own_tunnel status size begins = by_test (is_interim_status status)
  where
    by_test : (b : Bool) → (if b then Tunnel else or_nothing (if slice_index status 0 == 50 then Tunnel else content_of_status status size) (is_reset_content status)) ≡ Tunnel
    by_test true = refl
    by_test false = ap (λ c. or_nothing (if c then Tunnel else content_of_status status size) (is_reset_content status)) begins

own_request_tunnel : (fields : List Field) → is_connect fields ≡ true → content_of_own_request fields ≡ Tunnel
own_request_tunnel fields connects = ap (λ b. or_nothing (if b then Tunnel else (if is_length (value_of (codes "content-length") fields) then Exactly (number_of (value_of (codes "content-length") fields)) else Unsaid)) (is_trace fields)) connects

-- With no such part before, the part is one.
pub last_is : (p : Part → Bool) (parts : List Part) (part : Part) → list_any p parts ≡ false → list_any p (parts ++ part ∷ []) ≡ true → p part ≡ true
last_is p parts part none h = first_off (list_any p parts) (p part) (sym (any_more p parts part) ∙ h) none

pub none_more : (p : Part → Bool) (parts : List Part) (part : Part) → list_any p parts ≡ false → p part ≡ false → list_any p (parts ++ part ∷ []) ≡ false
none_more p parts part none off = any_more p parts part ∙ ap (λ b. b || p part) none ∙ off

module _ (setup : Setup) (w : World) (ends : Ends) (i : ℕ) (head : Head) (fields : List Field) (sees : Sees setup w ends) (t : TunnelsStand setup w ends)
    (strict : (side : Side) → (announced_at setup side).choices.strict_messages ≡ true) where
  pub strict_end : (s : Side) → (end_at ends s).announced.choices.strict_messages ≡ true
  strict_end s = ap (λ (a : Announced). a.choices.strict_messages) (t.announced s) ∙ strict s

  unsent_at : (s : Side) → is_open w s i ≡ true → TakesHead (end_at ends s) i head fields → is_unsent (flat_map own_part (flow w s i).sent) ≡ true
  unsent_at s opened takes = ap is_unsent (sym (sees.parts s i opened)) ∙ (head_is_open (outgoing_at (end_at ends s) i) takes.takes).1

  -- what the end is, with the kind of the head
  server_sends : (kind : Part) → is_open w Server i ≡ true → TakesHead ends.server i head fields → SendsFine Server w i kind (said_head ends.server i head fields (strict_end Server)) → (v : World)
      → ((writer : Side) (id : ℕ) → flow v writer id ≡ (if is_on writer id Server i then appended (flow w Server i) kind else flow w writer id))
      → TunnelsStand setup v (with_end ends Server (after_head ends.server i head fields (strict_end Server)))
  server_sends kind opened takes fine v flows =
      let e = ends.server in
      let s = strict_end Server in
      let there = open_there w Server i opened in
      sends_tunnels setup w v ends (with_end ends Server (after_head e i head fields s)) Server i kind (said_head e i head fields s)
      (sends_part w v ends Server i kind (said_head e i head fields s) (after_head e i head fields s) flows (head_out e i head fields s) (server_in e i head fields s (sees.side_is Server)) refl)
      (sound_flow (plain_setup setup) w Server i sees.sound there).out fine t

  -- An interim head.
  pub interim_tunnels : is_open w Server i ≡ true → TakesHead ends.server i head fields → TunnelsStand setup (with_section Interim w Server i fields) (with_end ends Server (after_head ends.server i head fields (strict_end Server)))
  interim_tunnels opened takes =
      let there = open_there w Server i opened in
      let part = Interim (section_sent (party w Server) i fields (flow w Server i)) in
      server_sends part opened takes
      (λ opens. absurd (let never : false ≡ true = last_is opens_tunnel (flow w Server i).sent part (unsent_opens (flow w Server i).sent (unsent_at Server opened takes)).0 opens in cc))
      (with_section Interim w Server i fields) (flows_with_party w Server (having_encoded (party w Server) i fields) i part there)

  -- A final head of a response.
  pub response_tunnels : is_open w Server i ≡ true → TakesHead ends.server i head fields → IsReadable (plain_setup setup) Client (HeadPart (section_sent (party w Server) i fields (flow w Server i)))
      → TunnelsStand setup (with_section HeadPart w Server i fields) (with_end ends Server (after_head ends.server i head fields (strict_end Server)))
  response_tunnels opened takes readable =
      server_sends part opened takes fine (with_section HeadPart w Server i fields) (flows_with_party w Server (having_encoded (party w Server) i fields) i part (open_there w Server i opened))
    where
      e : EndpointHistory
      e = ends.server

      part : Part
      part = HeadPart (section_sent (party w Server) i fields (flow w Server i))

      p : Outgoing
      p = said_head ends.server i head fields (strict_end Server)

      status : List ℕ
      status = value_of (codes ":status") fields

      unsent : (list_any opens_tunnel (flow w Server i).sent ≡ false) × (list_any asks_tunnel (flow w Server i).sent ≡ false) × (list_any trails (flow w Server i).sent ≡ false)
      unsent = unsent_opens (flow w Server i).sent (unsent_at Server opened takes)

      rule : broken_rule Client (announced_at setup Client) BeforeHead fields ≡ None
      rule =
          subst (λ d. broken_rule (other d) (announced_at setup Client) BeforeHead fields ≡ None) (sees.side_is Server)
          (head_taken ends.server.side ends.server.announced (announced_at setup Client) (settings_known ends.server.announced ends.server.peer.settings) (known_of (stream_at ends.server.incoming i)) fields (strict_end Server) (sees.connect Server) takes.rule)

      one : last_value (codes ":status") fields ≡ Some (value_of (codes ":status") fields)
      one =
          one_status fields (no_violation (violation_of_response fields)
          (sym (ap (λ b. let broken : Option Malformation = if b then option_map malformation_by (violation_of_response fields) else None in broken) (strict Client)) ∙ rule))

      final : is_interim_status (value_of (codes ":status") fields) ≡ false
      final = sym (ap is_interim_text one) ∙ interim_by_last (takes_any (announced_at (plain_setup setup) Client)) fields readable.2 ∙ readable.1

      begins : list_any opens_tunnel ((flow w Server i).sent ++ HeadPart (section_sent (party w Server) i fields (flow w Server i)) ∷ []) ≡ true → (slice_index (value_of (codes ":status") fields) 0 == 50) ≡ true
      begins opens =
          let may = last_is opens_tunnel (flow w Server i).sent part unsent.0 opens in
          first_off (is_interim_status status) (slice_index status 0 == 50) (sym (either_same (tunnels status)) ∙ sym (ap (λ o. tunnels status || tunnels (unwrap_or o [])) one) ∙ may) final

      content_is : p.content ≡ content_of_response_to (known_of (stream_at ends.server.incoming i)) fields
      content_is =
          ap (λ b. if b then content_of_own ends.server.side (known_of (stream_at ends.server.incoming i)) fields else (outgoing_at ends.server i).content) (head_is_open (outgoing_at ends.server i) takes.takes).0
          ∙ ap (λ d. content_of_own d (known_of (stream_at ends.server.incoming i)) fields) (sees.side_is Server)

      none : list_any trails ((flow w Server i).sent ++ HeadPart (section_sent (party w Server) i fields (flow w Server i)) ∷ []) ≡ false
      none = none_more trails (flow w Server i).sent part unsent.2 refl

      fine : list_any opens_tunnel ((flow w Server i).sent ++ HeadPart (section_sent (party w Server) i fields (flow w Server i)) ∷ []) ≡ true
          → AsksOther (flow w Client i).sent ⊎ NoTrailer ((flow w Server i).sent ++ HeadPart (section_sent (party w Server) i fields (flow w Server i)) ∷ []) (said_head ends.server i head fields (strict_end Server))
      fine opens = by_known (known_of (stream_at ends.server.incoming i)) refl
        where
          by_known : (o : Option Content) → known_of (stream_at ends.server.incoming i) ≡ o
              → AsksOther (flow w Client i).sent ⊎ NoTrailer ((flow w Server i).sent ++ HeadPart (section_sent (party w Server) i fields (flow w Server i)) ∷ []) (said_head ends.server i head fields (strict_end Server))
          by_known None is = inr (record { content = λ ends_now. content_is ∙ ap (λ o. content_of_response_to o fields) is ∙ ap (λ b. if b then Tunnel else Unsaid) (begins opens); none = none })
          by_known (Some c) is = by_tunnel (is_tunnel c) refl
            where
              k : (has_head (flow w Client i).sent ≡ true) × (c ≡ asked_in (flow w Client i).sent)
              k = (t.tunnels i).knows c (sym (known_is (stream_at ends.server.incoming i)) ∙ is)

              by_tunnel : (b : Bool) → is_tunnel c ≡ b
                  → AsksOther (flow w Client i).sent ⊎ NoTrailer ((flow w Server i).sent ++ HeadPart (section_sent (party w Server) i fields (flow w Server i)) ∷ []) (said_head ends.server i head fields (strict_end Server))
              by_tunnel false off = inl (record { has = k.0; apart = λ asked. let never : false ≡ true = sym off ∙ ap is_tunnel (k.1 ∙ asked) in cc })
              by_tunnel true on =
                  inr (record {
                    content = λ ends_now. content_is ∙ ap (λ o. content_of_response_to o fields) (is ∙ ap Some (tunnel_is c on)) ∙ own_tunnel status (value_of (codes "content-length") fields) (begins opens);
                    none = none;
                  })

  -- The head of a request.
  module _ (opened : is_open w Client i ≡ true) (takes : TakesHead ends.client i head fields) where
    abbrev pub asks_for : Content
    asks_for = awaited_by fields

    abbrev pub request_part : Part
    request_part = HeadPart (section_sent (party w Client) i fields (flow w Client i))

    abbrev pub after : EndpointHistory
    after = after_head ends.client i head fields (strict_end Client)

    -- what the client receives
    client_in : (id : ℕ) → incoming_at after id ≡ (if i == id then awaiting (incoming_at ends.client i) asks_for else incoming_at ends.client id)
    client_in id = by_stream (stream_at ends.client.incoming i) refl (sees.there Client i opened).1
      where
        by_stream : (o : Option Incoming) → stream_at ends.client.incoming i ≡ o → {x : Incoming} → stream_at ends.client.incoming i ≡ Some x
            → incoming_at after id ≡ (if i == id then awaiting (incoming_at ends.client i) asks_for else incoming_at ends.client id)
        by_stream None is some = absurd (let never : None ≡ _ = sym is ∙ some in cc)
        by_stream (Some x) is some =
            ap (λ (l : Streams Incoming). unwrap_or (stream_at l id) nothing_came) (client_incoming ends.client i head fields (strict_end Client) (sees.side_is Client) ∙ ap (telling_at Client ends.client.incoming i fields) is)
            ∙ in_set ends.client.incoming i (awaiting x asks_for) id
            ∙ ap (λ y. if i == id then awaiting y asks_for else incoming_at ends.client id) (sym (ap (λ o. unwrap_or o nothing_came) is))

    flows_are : (writer : Side) (id : ℕ) → flow (with_section HeadPart w Client i fields) writer id ≡ (if is_on writer id Client i then appended (flow w Client i) request_part else flow w writer id)
    flows_are = flows_with_party w Client (having_encoded (party w Client) i fields) i request_part (open_there w Client i opened)

    unsent : is_unsent (flat_map own_part (flow w Client i).sent) ≡ true
    unsent = unsent_at Client opened takes

    no_request : has_head (flow w Client i).sent ≡ false
    no_request = unsent_no_head (flow w Client i).sent unsent

    asked_now : (asked_in ((flow w Client i).sent ++ request_part ∷ []) ≡ asks_for) × (has_head ((flow w Client i).sent ++ request_part ∷ []) ≡ true)
    asked_now = asked_first (flow w Client i).sent (section_sent (party w Client) i fields (flow w Client i)) no_request

    request_fine : list_any asks_tunnel ((flow w Client i).sent ++ request_part ∷ []) ≡ true → NoTrailer ((flow w Client i).sent ++ request_part ∷ []) (said_head ends.client i head fields (strict_end Client))
    request_fine asks =
        let e = ends.client in
        let none = unsent_opens (flow w Client i).sent unsent in
        let connects : is_connect fields ≡ true = last_is asks_tunnel (flow w Client i).sent request_part none.1 asks in
        record {
          content = λ ends_now.
              ap (λ b. if b then content_of_own e.side (known_of (stream_at e.incoming i)) fields else (outgoing_at e i).content) (head_is_open (outgoing_at e i) takes.takes).0
              ∙ ap (λ d. content_of_own d (known_of (stream_at e.incoming i)) fields) (sees.side_is Client) ∙ own_request_tunnel fields connects;
          none = none_more trails (flow w Client i).sent request_part none.2 refl;
        }

    -- it awaits a tunnel only if the request asks for one
    awaits : (awaiting (incoming_at ends.client i) asks_for).fault ≡ None → marked Client (awaiting (incoming_at ends.client i) asks_for).content ≡ true
        → AwaitsTunnel ((flow w Client i).sent ++ request_part ∷ []) (flow w Server i)
    awaits alive mark = by_test (awaits_head (incoming_at ends.client i)) refl mark
      where
        ic : Incoming
        ic = incoming_at ends.client i

        first : (a b : Bool) → (a && b) ≡ true → a ≡ true
        first true b e = refl
        first false b e = absurd (cc)

        place_is : (incoming_at ends.client i).place ≡ place_after (take (flow w Server i).parts_out (flow w Server i).sent)
        place_is =
            let there = sees.there Client i opened in
            let is : incoming_at ends.client i ≡ there.0 = ap (λ o. unwrap_or o nothing_came) there.1 in
            let seen = sees.streams Client i there.0 there.1 in
            ap (λ (x : Incoming). x.place) is ∙ seen.place (sym seen.lost ∙ sym (ap (λ (x : Incoming). x.fault) is) ∙ alive)

        by_test : (b : Bool) → awaits_head (incoming_at ends.client i) ≡ b → is_tunnel (if b then asks_for else (incoming_at ends.client i).content) ≡ true → AwaitsTunnel ((flow w Client i).sent ++ request_part ∷ []) (flow w Server i)
        by_test true e m =
            record {
              has = asked_now.1;
              asked = asked_now.0 ∙ tunnel_is asks_for m;
              stands = inl (sym place_is ∙ front_is (incoming_at ends.client i).place (first (is_before_head (incoming_at ends.client i).place) _ e));
            }
        by_test false e m = absurd (let never : false ≡ true = sym no_request ∙ ((t.tunnels i).client alive m).has in cc)

    pub request_tunnels : TunnelsStand setup (with_section HeadPart w Client i fields) (with_end ends Client (after_head ends.client i head fields (strict_end Client)))
    request_tunnels = record { tunnels = by_id At i here there; announced = announced }
      where
        v : World
        v = with_section HeadPart w Client i fields

        At : ℕ → Type 0
        At id = TunnelAt (flow v Client id).sent (flow v Server id) (outgoing_at after id) (outgoing_at ends.server id) (incoming_at ends.server id) (incoming_at after id)

        announced : (side : Side) → (end_at (with_end ends Client after) side).announced ≡ announced_at setup side
        announced Client = t.announced Client
        announced Server = t.announced Server

        there : (id : ℕ) → (i == id) ≡ false → At id
        there id off =
            tunnel_same (flow w Client id).sent (flow v Client id).sent (flow w Server id) (flow v Server id) (outgoing_at ends.client id) (outgoing_at after id) (outgoing_at ends.server id) (outgoing_at ends.server id) (incoming_at ends.server id) (incoming_at ends.server id)
            (incoming_at ends.client id) (incoming_at after id)
            (ap (λ (x : Flow). x.sent) (flows_are Client id ∙ ap (λ b. if b then appended (flow w Client i) request_part else flow w Client id) off)) (flows_are Server id)
            (head_out ends.client i head fields (strict_end Client) id ∙ ap (λ b. if b then said_head ends.client i head fields (strict_end Client) else outgoing_at ends.client id) off) refl refl
            (client_in id ∙ ap (λ b. if b then awaiting (incoming_at ends.client i) asks_for else incoming_at ends.client id) off) (t.tunnels id)

        here : At i
        here =
            let q = (flow w Client i).sent in
            let r = q ++ request_part ∷ [] in
            let f = flow w Server i in
            let old = t.tunnels i in
            let p = said_head ends.client i head fields (strict_end Client) in
            tunnel_same r (flow v Client i).sent f (flow v Server i) p (outgoing_at after i) (outgoing_at ends.server i) (outgoing_at ends.server i) (incoming_at ends.server i) (incoming_at ends.server i) (awaiting (incoming_at ends.client i) asks_for) (incoming_at after i)
            (ap (λ (x : Flow). x.sent) (flows_are Client i ∙ ap (λ b. if b then appended (flow w Client i) request_part else flow w Client i) (itself i))) (flows_are Server i)
            (head_out ends.client i head fields (strict_end Client) i ∙ ap (λ b. if b then p else outgoing_at ends.client i) (itself i)) refl refl
            (client_in i ∙ ap (λ b. if b then awaiting (incoming_at ends.client i) asks_for else incoming_at ends.client i) (itself i))
            (tunnel_grows q r f f (outgoing_at ends.client i) p (outgoing_at ends.server i) (outgoing_at ends.server i) (incoming_at ends.server i) (incoming_at ends.server i) (incoming_at ends.client i) (awaiting (incoming_at ends.client i) asks_for)
            (inr (request_part, refl)) request_fine (response_keeps q r f f (outgoing_at ends.server i) (outgoing_at ends.server i) (inr (request_part, refl)) refl (sends_same (outgoing_at ends.server i)) old.response)
            (server_keeps (incoming_at ends.server i) (incoming_at ends.server i) (inl (same_counts (incoming_at ends.server i)))) awaits old)

-- **A part behind the head.**
pub behind_tunnels : (setup : Setup) (w : World) (ends : Ends) (s : Side) (i : ℕ) (part : Part) (p : Outgoing) (e : EndpointHistory) (v : World) → Sees setup w ends → TunnelsStand setup w ends → IsThere w i
    → ((writer : Side) (id : ℕ) → flow v writer id ≡ (if is_on writer id s i then appended (flow w s i) part else flow w writer id)) → e.outgoing ≡ set_stream (end_at ends s).outgoing i p → e.incoming ≡ (end_at ends s).incoming
    → e.announced ≡ (end_at ends s).announced → (opens_tunnel part ≡ false) × (asks_tunnel part ≡ false) → (NoTrailer (flow w s i).sent (outgoing_at (end_at ends s) i) → NoTrailer ((flow w s i).sent ++ part ∷ []) p)
    → TunnelsStand setup v (with_end ends s e)
behind_tunnels setup w ends s i part p e v sees t there flows out in_same announced none grow =
    sends_tunnels setup w v ends (with_end ends s e) s i part p
    (sends_part w v ends s i part p e flows (λ id. ap (λ (l : Streams Outgoing). unwrap_or (stream_at l id) nothing_sent) out ∙ out_set (end_at ends s).outgoing i p id)
    (λ id. head_keeps s (incoming_at (end_at ends s) id) (incoming_at e id)
    (subst (λ (l : Streams Incoming). SameCounts (incoming_at (end_at ends s) id) (unwrap_or (stream_at l id) nothing_came)) (sym in_same) (same_counts (incoming_at (end_at ends s) id)))) announced)
    (sound_flow (plain_setup setup) w s i sees.sound there).out (by_side s grow) t
  where
    or_off : (a b : Bool) → b ≡ false → (a || b) ≡ true → a ≡ true
    or_off true b off h = refl
    or_off false b off h = absurd (let never : false ≡ true = sym off ∙ h in cc)

    by_side : (s : Side) → (NoTrailer (flow w s i).sent (outgoing_at (end_at ends s) i) → NoTrailer ((flow w s i).sent ++ part ∷ []) p) → SendsFine s w i part p
    by_side Client grow = λ asks. grow ((t.tunnels i).request (or_off (list_any asks_tunnel (flow w Client i).sent) (asks_tunnel part) none.1 (sym (any_more asks_tunnel (flow w Client i).sent part) ∙ asks)))
    by_side Server grow = λ opens. of ((t.tunnels i).response (or_off (list_any opens_tunnel (flow w Server i).sent) (opens_tunnel part) none.0 (sym (any_more opens_tunnel (flow w Server i).sent part) ∙ opens)))
      where
        of : AsksOther (flow w Client i).sent ⊎ NoTrailer (flow w Server i).sent (outgoing_at ends.server i) → AsksOther (flow w Client i).sent ⊎ NoTrailer ((flow w Server i).sent ++ part ∷ []) p
        of (inl apart) = inl apart
        of (inr still) = inr (grow still)

pub body_trails : (parts : List Part) (o : Outgoing) (bytes : List ℕ) (end : ℕ) → takes_end o ≡ true → NoTrailer parts o → NoTrailer (parts ++ Body bytes end ∷ []) (with_body o bytes)
body_trails parts o bytes end takes h = record { content = λ ends_now. ap (λ c. left_behind c (length bytes)) (h.content takes); none = none_more trails parts (Body bytes end) h.none refl }

pub end_trails : (parts : List Part) (o : Outgoing) → NoTrailer parts o → NoTrailer (parts ++ End ∷ []) (with_finish o)
end_trails parts o h = record { content = λ ends_now. absurd (let never : false ≡ true = ends_now in cc); none = none_more trails parts End h.none refl }

pub no_trailer_trails : {X : Type 0} (parts : List Part) (o : Outgoing) → takes_end o ≡ true → early_trailer o.content ≡ None → NoTrailer parts o → X
no_trailer_trails parts o takes early h = absurd (let never : early_trailer Tunnel ≡ None = ap early_trailer (sym (h.content takes)) ∙ early in cc)
