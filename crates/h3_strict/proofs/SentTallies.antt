-- A send at two strict ends that is taken: the part breaks no rule of its reader, and both count on.
use Rattle.std.proofs.Common.{◌≡◌, ℕ, Bool, true, false, List, [], ◌∷◌, ◌++◌, refl, sym, ap, ◌∙◌, subst, Option, Some, None, if◌then◌else◌, inl, inr}
use Rattle.std.specs.Prelude.{◌==◌, not, flat_map, unwrap_or, codes, slice_index}
use Rattle.h3_field.specs.Field.{Field}
use Rattle.h3_header.specs.Head.{Head}
use Rattle.h3_messages.specs.Content.{answered_by, is_interim_status}
use Rattle.h3_messages.specs.declared.content.Content.{Content}
use Rattle.h3_proto.specs.declared.stream.Side.{Side}
use Rattle.h3_proto.specs.declared.stream.Side.TheVariants.{Client, Server}
use Rattle.h3_connection.specs.Remembering.{settings_known, settings_or}
use Rattle.h3_connection.specs.Announcing.{connects}
use Rattle.h3_connection.specs.Endpoint.{EndpointHistory}
use Rattle.h3_connection.specs.Incoming.{Incoming, nothing_came, goes_on, having_told}
use Rattle.h3_connection.specs.Outgoing.{Outgoing, OwnPart, is_unsent, nothing_sent, with_said}
use Rattle.h3_connection.specs.OwnIds.{other}
use Rattle.h3_connection.specs.Sections.{written_section}
use Rattle.h3_connection.specs.Sending.{appended, asked, content_of_own, counted, encoded, fields_cost, head_part, known_of, outgoing_at, saying_at, telling_at}
use Rattle.h3_connection.specs.StreamSetLaws.{set-here, set-set}
use Rattle.h3_connection.specs.StreamSets.{Streams, set_stream, stream_at}
use Rattle.h3_connection.specs.StrictMessages.{broken_rule}
use Rattle.h3_connection.specs.StrictSending.{peer_connects}
use Rattle.h3_connection.specs.StrictSendingLaws.{head_taken}
use Rattle.h3_connection.specs.declared.place.Place.TheVariants.{BeforeHead}
use Rattle.h3_connection.specs.declared.setup.Announced.{Announced}
use Rattle.h3_world.specs.Ends.{Ends, end_at}
use Rattle.h3_world.specs.Flow.{own_part}
use Rattle.h3_world.specs.Order.{outgoing_of}
use Rattle.h3_world.specs.Setup.{Setup, announced_at}
use Rattle.h3_world.specs.Streams.{flow, is_open}
use Rattle.h3_world.specs.World.{World, party}
use Rattle.h3_headline.specs.SettingsLaws.{value_with_meaning}
use Rattle.h3_headline.specs.Standing.{StandsAt, Stands, are_settings_there, with_meaning}
use Rattle.h3_strict.proofs.KeepsCounts.{out_set, HasAnswered, MayAnswer, in_set}
use Rattle.h3_strict.proofs.PlainStreams.{out_at}
use Rattle.h3_strict.proofs.SentLaws.{TakesHead, head_is_open, unsent_along}
use Rattle.h3_strict.specs.PlainEnds.{plain_ends, plain_setup}
use Rattle.h3_strict.specs.Plainly.{plain_outgoing, plainly}
use Rattle.h3_strict.specs.Tallies.{Tallies}
use Rattle.h3_strict.specs.Unbroken.{content_along}
use Rattle.h3_messages.specs.Messages.{value_of}
use Rattle.h3_messages.specs.declared.content.Content.TheVariants.{Unsaid, Exactly, NoContent, Tunnel, Unanswered, Exceeded}
use Rattle.h3_connection.specs.Delivering.{incoming_at}
use Rattle.h3_headline.specs.FlowLaws.{same_number}

-- The end of a side without strict messages stands in the world.
pub stands_at : (setup : Setup) (w : World) (ends : Ends) (s : Side) → Stands (plain_setup setup) w (plain_ends ends) → StandsAt (plain_setup setup) w s (plainly (end_at ends s))
stands_at setup w ends Client h = h.at_client
stands_at setup w ends Server h = h.at_server

pub plain_settings : (setup : Setup) (s : Side) → (announced_at (plain_setup setup) s).settings ≡ (announced_at setup s).settings
plain_settings setup Client = refl
plain_settings setup Server = refl

-- it remembers no settings of an earlier connection
pub forgets_at : (setup : Setup) (w : World) (ends : Ends) (s : Side) → Stands (plain_setup setup) w (plain_ends ends) → (end_at ends s).announced.remembered ≡ None
forgets_at setup w ends s h = ap (λ (a : Announced). a.remembered) (stands_at setup w ends s h).announced ∙ (stands_at setup w ends s h).remembered

-- what an endpoint knows of extended CONNECT its peer announced
pub connects_known : (announced : Announced) (settings : Option (List (ℕ × ℕ))) (there : Bool) → settings ≡ (if there then Some (with_meaning announced.settings) else None) → peer_connects settings ≡ true → connects announced ≡ true
connects_known announced settings true is known =
    ap (λ o. not (unwrap_or o 0 == 0)) (sym (value_with_meaning 8 announced.settings refl)) ∙ sym (ap peer_connects is) ∙ known
connects_known announced settings false is known = absurd (let never : false ≡ true = sym (ap peer_connects is) ∙ known in cc)

pub knows_peer : (setup : Setup) (w : World) (ends : Ends) (s : Side) → Stands (plain_setup setup) w (plain_ends ends) → peer_connects (settings_known (end_at ends s).announced (end_at ends s).peer.settings) ≡ true → connects (announced_at setup (other s)) ≡ true
knows_peer setup w ends s h known =
    let e = end_at ends s in
    let there = are_settings_there (plain_setup setup) (other s) (party w (other s)).own.control_taken in
    connects_known (announced_at setup (other s)) (settings_known e.announced e.peer.settings) there
    (ap (λ r. settings_or r e.peer.settings) (forgets_at setup w ends s h) ∙ (stands_at setup w ends s h).control.settings ∙ ap (λ (l : List (ℕ × ℕ)). if there then Some (with_meaning l) else None) (plain_settings setup (other s))) known

-- what a sender has of an open stream
pub sender_has : (setup : Setup) (w : World) (ends : Ends) (s : Side) (i : ℕ) → Stands (plain_setup setup) w (plain_ends ends) → is_open w s i ≡ true → plain_outgoing (outgoing_at (end_at ends s) i) ≡ outgoing_of (flow w s i)
sender_has setup w ends s i h opened =
    sym (out_at (end_at ends s) i) ∙ ap (λ o. unwrap_or o nothing_sent) ((stands_at setup w ends s h).outgoing i ∙ ap (λ b. if b then Some (outgoing_of (flow w s i)) else None) opened)

pub parts_are : (setup : Setup) (w : World) (ends : Ends) (s : Side) (i : ℕ) → Stands (plain_setup setup) w (plain_ends ends) → is_open w s i ≡ true → (outgoing_at (end_at ends s) i).parts ≡ flat_map own_part (flow w s i).sent
parts_are setup w ends s i h opened = ap (λ (o : Outgoing). o.parts) (sender_has setup w ends s i h opened)

-- what a server knows of the response
pub known_is : (o : Option Incoming) → known_of o ≡ (unwrap_or o nothing_came).response
known_is None = refl
known_is (Some i) = refl

pub side_of : (setup : Setup) (w : World) (ends : Ends) (s : Side) → Stands (plain_setup setup) w (plain_ends ends) → (end_at ends s).side ≡ s
side_of setup w ends s h = (stands_at setup w ends s h).side_is

-- The parts that a strict end may send.
pub head_unbroken : (setup : Setup) (w : World) (ends : Ends) (known : ℕ → Bool) (s : Side) (i : ℕ) (head : Head) (fields : List Field) → Stands (plain_setup setup) w (plain_ends ends) → Tallies setup w ends known → (announced_at setup s).choices.strict_messages ≡ true
    → TakesHead (end_at ends s) i head fields → broken_rule (other s) (announced_at setup (other s)) BeforeHead fields ≡ None
head_unbroken setup w ends known s i head fields h t strict takes =
    let e = end_at ends s in
    subst (λ d. broken_rule (other d) (announced_at setup (other s)) BeforeHead fields ≡ None) (side_of setup w ends s h)
    (head_taken e.side e.announced (announced_at setup (other s)) (settings_known e.announced e.peer.settings) (known_of (stream_at e.incoming i)) fields (ap (λ (a : Announced). a.choices.strict_messages) (t.announced s) ∙ strict) (knows_peer setup w ends s h) takes.rule)

-- in front of a final head the parts are interim ones
pub head_along : (setup : Setup) (w : World) (ends : Ends) (s : Side) (i : ℕ) (head : Head) (fields : List Field) (reader : Side) (awaited : Content) → Stands (plain_setup setup) w (plain_ends ends) → is_open w s i ≡ true → TakesHead (end_at ends s) i head fields
    → content_along reader awaited (flow w s i).sent ≡ awaited
head_along setup w ends s i head fields reader awaited h opened takes =
    unsent_along reader awaited (flow w s i).sent (ap is_unsent (sym (parts_are setup w ends s i h opened)) ∙ (head_is_open (outgoing_at (end_at ends s) i) takes.takes).1)

-- What a strict endpoint is after a head.
module _ (e : EndpointHistory) (i : ℕ) (head : Head) (fields : List Field) (strict : e.announced.choices.strict_messages ≡ true) where
  head_wrote : OwnPart
  head_wrote = head_part head (written_section e.encoder i fields)

  head_content : Content
  head_content = content_of_own e.side (known_of (stream_at e.incoming i)) fields

  abbrev pub wrote_head : Outgoing
  wrote_head = record (outgoing_at e i) { parts = (outgoing_at e i).parts ++ head_part head (written_section e.encoder i fields) ∷ [] }

  abbrev pub said_head : Outgoing
  said_head = with_said wrote_head (content_of_own e.side (known_of (stream_at e.incoming i)) fields)

  abbrev pub after_head : EndpointHistory
  after_head = asked (counted (appended (encoded e i fields) i (head_part head (written_section e.encoder i fields))) (fields_cost fields)) i fields

  pub head_outgoing : after_head.outgoing ≡ set_stream e.outgoing i said_head
  head_outgoing =
      let content = content_of_own e.side (known_of (stream_at e.incoming i)) fields in
      let streams = set_stream e.outgoing i wrote_head in
      ap (λ b. if b then saying_at streams i content (stream_at streams i) else streams) strict
      ∙ ap (saying_at streams i content) (set-here e.outgoing i wrote_head)
      ∙ set-set e.outgoing i wrote_head said_head

  pub head_out : (j : ℕ) → outgoing_at after_head j ≡ (if i == j then said_head else outgoing_at e j)
  head_out j = ap (λ (s : Streams Outgoing). unwrap_or (stream_at s j) nothing_sent) head_outgoing ∙ out_set e.outgoing i said_head j

  told_incoming : (side : Side) → e.side ≡ side → after_head.incoming ≡ telling_at side e.incoming i fields (stream_at e.incoming i)
  told_incoming side is =
      ap (λ b. if b then telling_at e.side e.incoming i fields (stream_at e.incoming i) else e.incoming) strict
      ∙ ap (λ d. telling_at d e.incoming i fields (stream_at e.incoming i)) is

  pub client_incoming : e.side ≡ Client → after_head.incoming ≡ telling_at Client e.incoming i fields (stream_at e.incoming i)
  client_incoming is = told_incoming Client is

  -- A server answers a CONNECT that it read, and nothing else that it receives is changed.
  answers : (content : Content) → MayAnswer content (answered_by content fields)
  answers Unanswered = by_interim (is_interim_status (value_of (codes ":status") fields))
    where
      by_tunnel : (b : Bool) → MayAnswer Unanswered (if b then Tunnel else Unsaid)
      by_tunnel true = inr (refl, inl refl)
      by_tunnel false = inr (refl, inr refl)

      by_interim : (b : Bool) → MayAnswer Unanswered (if b then Unanswered else (if slice_index (value_of (codes ":status") fields) 0 == 50 then Tunnel else Unsaid))
      by_interim true = inl refl
      by_interim false = by_tunnel (slice_index (value_of (codes ":status") fields) 0 == 50)
  answers Unsaid = inl refl
  answers (Exactly size) = inl refl
  answers NoContent = inl refl
  answers Tunnel = inl refl
  answers Exceeded = inl refl

  told_keeps : (x : Incoming) → HasAnswered x (having_told Server x fields)
  told_keeps x = record { fault = refl; content = by_test (goes_on x); left = refl; response = refl }
    where
      by_test : (b : Bool) → MayAnswer x.content (if b then answered_by x.content fields else x.content)
      by_test true = answers x.content
      by_test false = inl refl

  same_here : (x : Incoming) → HasAnswered x x
  same_here x = record { fault = refl; content = inl refl; left = refl; response = refl }

  pub server_in : e.side ≡ Server → (id : ℕ) → HasAnswered (incoming_at e id) (incoming_at after_head id)
  server_in is id = subst (λ (l : Streams Incoming). HasAnswered (incoming_at e id) (unwrap_or (stream_at l id) nothing_came)) (sym (told_incoming Server is)) (by_stream (stream_at e.incoming i) refl)
    where
      by_stream : (o : Option Incoming) → stream_at e.incoming i ≡ o → HasAnswered (incoming_at e id) (unwrap_or (stream_at (telling_at Server e.incoming i fields o) id) nothing_came)
      by_stream None none = same_here (incoming_at e id)
      by_stream (Some x) there = subst (HasAnswered (incoming_at e id)) (sym (in_set e.incoming i (having_told Server x fields) id)) (by_id (i == id) refl)
        where
          by_id : (b : Bool) → (i == id) ≡ b → HasAnswered (incoming_at e id) (if b then having_told Server x fields else incoming_at e id)
          by_id true at = subst (λ y. HasAnswered y (having_told Server x fields)) (sym (ap (λ o. unwrap_or o nothing_came) (ap (λ n. stream_at e.incoming n) (sym (same_number i id at)) ∙ there))) (told_keeps x)
          by_id false at = same_here (incoming_at e id)
