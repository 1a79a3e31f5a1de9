-- What a head says is remembered where the endpoint asks for strict messages.
use Rattle.std.proofs.Common.{◌≡◌, ℕ, Bool, true, false, if◌then◌else◌, List, Option, Some, None, refl, ap, sym, subst, ◌∙◌}
use Rattle.std.specs.Prelude.{◌≢◌, IfSome, option_map}
use Rattle.h3_field.specs.Field.{Field}
use Rattle.h3_messages.specs.OwnMessages.{content_of_own_request}
use Rattle.h3_messages.specs.declared.content.Content.{Content}
use Rattle.h3_messages.specs.declared.response_said.ResponseSaid.{ResponseSaid}
use Rattle.h3_proto.specs.declared.stream.Side.{Side}
use Rattle.h3_proto.specs.declared.stream.Side.TheVariants.{Client, Server}
use Rattle.h3_outgoing.specs.HistoryLaws.{said}
use Rattle.h3_outgoing.specs.Sent.{is_to_have}
use Rattle.h3_connection.specs.Calls.{AllSame, Sets}
use Rattle.h3_connection.specs.Endpoint.{EndpointHistory}
use Rattle.h3_connection.specs.Incoming.{Incoming, awaiting, having_told}
use Rattle.h3_connection.specs.Outgoing.{Outgoing, with_said}
use Rattle.h3_connection.specs.Sending.{asked, content_of_own, content_of_response_to, known_of, saying_at, telling_at}
use Rattle.h3_connection.specs.StandsLaws.{stands_both}
use Rattle.h3_connection.specs.State.{EndpointState, IsOfOutgoing, OutgoingState, RequestState, SameAt, StandsFor, kept_at}
use Rattle.h3_connection.specs.StreamSets.{Streams, stream_at}
use Rattle.h3_connection.specs.declared.event.Refusal.{Refusal}
use Rattle.h3_connection.specs.declared.place.SendPlace.{SendPlace}
use Rattle.h3_connection.specs.declared.place.SendPlace.TheVariants.{NothingSent, HeadSent, TrailerSent}
use Rattle.h3_session.proofs.Opened.{stands_same}
use Rattle.h3_session.specs.SendingFields.{Remembers, SendsFields, asking}
use Rattle.h3_session.specs.SentHeads.{IsSaid}
use Rattle.h3_messages.specs.declared.said.Said.{Said}
use Rattle.h3_messages.specs.declared.said.Said.TheVariants.{Nothing, Request, Response}

received_at : (s : EndpointState) (e : EndpointHistory) (id : ℕ) (there : Option RequestState) → StandsFor s e → kept_at s.requests id ≡ there → stream_at e.incoming id ≡ option_map (λ r. r.incoming) there
received_at s e id there h was = sym (h.incoming id) ∙ ap (option_map (λ r. r.incoming)) was

-- what a history has of the sender's part
record Sender (o : Option Outgoing) (w : OutgoingState) : Type 0 where
  here : Outgoing
  is : o ≡ Some here
  stands : IsOfOutgoing here w

sender_by : (o : Option Outgoing) (w : OutgoingState) → SameAt IsOfOutgoing o (Some w) → Sender o w
sender_by None w h = absurd h
sender_by (Some o) w h = record { here = o; is = refl; stands = h }

sender_at : (s : EndpointState) (e : EndpointHistory) (id : ℕ) (r : RequestState) → StandsFor s e → kept_at s.requests id ≡ Some r → Sender (stream_at e.outgoing id) r.outgoing
sender_at s e id r h was = sender_by (stream_at e.outgoing id) r.outgoing (subst (λ o. SameAt IsOfOutgoing (stream_at e.outgoing id) (option_map (λ r. r.outgoing) o)) was (h.outgoing id))

none_by : (o : Option Outgoing) → SameAt IsOfOutgoing o None → o ≡ None
none_by None h = refl
none_by (Some o) h = absurd h

no_sender : (s : EndpointState) (e : EndpointHistory) (id : ℕ) → StandsFor s e → kept_at s.requests id ≡ None → stream_at e.outgoing id ≡ None
no_sender s e id h was = none_by (stream_at e.outgoing id) (subst (λ o. SameAt IsOfOutgoing (stream_at e.outgoing id) (option_map (λ r. r.outgoing) o)) was (h.outgoing id))

-- what a head of this side says, by whether rules are asked
abbrev said_at : Bool → Side → EndpointHistory → ℕ → List Field → EndpointHistory
said_at strict side e id fields =
    record e {
      incoming = if strict then telling_at side e.incoming id fields (stream_at e.incoming id) else e.incoming;
      outgoing = if strict then saying_at e.outgoing id (content_of_own side (known_of (stream_at e.incoming id)) fields) (stream_at e.outgoing id) else e.outgoing;
    }

asked_is : (s : EndpointState) (e : EndpointHistory) (id : ℕ) (fields : List Field) → StandsFor s e → said_at s.announced.choices.strict_messages s.side e id fields ≡ asked e id fields
asked_is s e id fields h = ap (λ own. said_at own.choices.strict_messages s.side e id fields) h.announced ∙ ap (λ side. said_at e.announced.choices.strict_messages side e id fields) h.side

-- on its stream, by what is known of that
abbrev with_both : EndpointHistory → Side → ℕ → List Field → Content → Option Incoming → Option Outgoing → EndpointHistory
with_both e side id fields sent i o = record e { incoming = telling_at side e.incoming id fields i; outgoing = saying_at e.outgoing id sent o }

abbrev tells : Side → List Field → (Option Content → Content) → RequestState → RequestState
tells side fields sent r = record r { incoming = having_told side r.incoming fields; outgoing = is_to_have r.outgoing (sent r.incoming.response) }

told_stands : (s : EndpointState) (e : EndpointHistory) (new : Streams RequestState) (side : Side) (id : ℕ) (fields : List Field) (sent : Option Content → Content) (there : Option RequestState) → StandsFor s e → kept_at s.requests id ≡ there
    → IfSome there (λ r. Sets s.requests new id (tells side fields sent r)) → (there ≡ None → AllSame s.requests new)
    → StandsFor (record s { requests = new }) (with_both e side id fields (sent (known_of (stream_at e.incoming id))) (stream_at e.incoming id) (stream_at e.outgoing id))
told_stands s e new side id fields sent None h was sets same =
    subst (λ i. StandsFor (record s { requests = new }) (with_both e side id fields (sent (known_of i)) i (stream_at e.outgoing id))) (sym (received_at s e id None h was))
    (subst (λ o. StandsFor (record s { requests = new }) (with_both e side id fields (sent None) None o)) (sym (no_sender s e id h was)) (stands_same s e new h (same refl)))
told_stands s e new side id fields sent (Some r) h was sets same =
    let sender = sender_at s e id r h was in
    let content = sent r.incoming.response in
    subst (λ i. StandsFor (record s { requests = new }) (with_both e side id fields (sent (known_of i)) i (stream_at e.outgoing id))) (sym (received_at s e id (Some r) h was))
    (subst (λ o. StandsFor (record s { requests = new }) (with_both e side id fields content (Some r.incoming) o)) (sym sender.is)
    (stands_both s e new id (tells side fields sent r) (with_said sender.here content) h (said sender.here r.outgoing content sender.stands) sets))

said_so : (s : EndpointState) (new : Streams RequestState) (id : ℕ) (fields : List Field) (strict : Bool) (side : Side) → (s.announced.choices.strict_messages ≡ strict) × (s.side ≡ side)
    → ((e : EndpointHistory) → StandsFor s e → StandsFor (record s { requests = new }) (said_at strict side e id fields)) → Remembers s (record s { requests = new }) id fields
said_so s new id fields strict side is stands = record {
  stands = λ e h.
      subst (StandsFor (record s { requests = new })) (asked_is s e id fields h)
      (subst (λ b. StandsFor (record s { requests = new }) (said_at b s.side e id fields)) (sym is.0)
      (subst (λ d. StandsFor (record s { requests = new }) (said_at strict d e id fields)) (sym is.1) (stands e h)));
}

-- A client that asks for strict messages,
pub told : (s now : EndpointState) (new : Streams RequestState) (id : ℕ) (fields : List Field) (expected sent : Content) → s ≡ now → IsSaid now.side now.announced fields (Request expected sent)
    → IfSome (kept_at s.requests id) (λ r. Sets s.requests new id (record r { incoming = awaiting r.incoming expected; outgoing = is_to_have r.outgoing sent })) → (kept_at s.requests id ≡ None → AllSame s.requests new)
    → Remembers now (record s { requests = new }) id fields
told s now new id fields expected sent view is sets same =
    subst (λ v. Remembers v (record s { requests = new }) id fields) view
    (said_so s new id fields true Client (ap (λ (v : EndpointState). v.announced.choices.strict_messages) view ∙ is.0, ap (λ (v : EndpointState). v.side) view ∙ is.1.0)
    (λ e h. told_stands s e new Client id fields (λ _. content_of_own_request fields) (kept_at s.requests id) h refl
    (subst (λ c. IfSome (kept_at s.requests id) (λ r. Sets s.requests new id (record r { incoming = awaiting r.incoming c; outgoing = is_to_have r.outgoing (content_of_own_request fields) }))) is.1.1
    (subst (λ c. IfSome (kept_at s.requests id) (λ r. Sets s.requests new id (record r { incoming = awaiting r.incoming expected; outgoing = is_to_have r.outgoing c }))) is.1.2 sets)) same))

-- a server that does,
pub answered : (s now : EndpointState) (new : Streams RequestState) (id : ℕ) (fields : List Field) (response : ResponseSaid) → s ≡ now → IsSaid now.side now.announced fields (Response response)
    → IfSome (kept_at s.requests id) (λ r. Sets s.requests new id (record r { incoming = having_told Server r.incoming fields; outgoing = is_to_have r.outgoing (content_of_response_to r.incoming.response fields) }))
    → (kept_at s.requests id ≡ None → AllSame s.requests new) → Remembers now (record s { requests = new }) id fields
answered s now new id fields response view is sets same =
    subst (λ v. Remembers v (record s { requests = new }) id fields) view
    (said_so s new id fields true Server (ap (λ (v : EndpointState). v.announced.choices.strict_messages) view ∙ is.0, ap (λ (v : EndpointState). v.side) view ∙ is.1.0)
    (λ e h. told_stands s e new Server id fields (λ known. content_of_response_to known fields) (kept_at s.requests id) h refl sets same))

-- and any other
pub silent : (s now : EndpointState) (id : ℕ) (fields : List Field) → s ≡ now → IsSaid now.side now.announced fields Nothing → Remembers now s id fields
silent s now id fields view is =
    subst (λ v. Remembers v s id fields) view
    (said_so s s.requests id fields false s.side (ap (λ (v : EndpointState). v.announced.choices.strict_messages) view ∙ is, refl) (λ e h. h))

-- A head was sent, and what it says is remembered;
pub head_goes : (old mid new : EndpointState) (id : ℕ) (fields : List Field) (place : SendPlace) (said : Said) → SendsFields (λ e. e) old mid id fields place None
    → IsSaid old.side old.announced fields said → (IsSaid mid.side mid.announced fields said → Remembers mid new id fields) → SendsFields (asking id fields) old new id fields place None
head_goes old mid new id fields place said h says remembers =
    record {
      done = λ none e part stands is.
          let there = h.done none e part stands is in
          let says_there : IsSaid mid.side mid.announced fields said
          = subst (λ side. IsSaid side mid.announced fields said) (stands.side ∙ sym there.side) (subst (λ own. IsSaid old.side own fields said) (stands.announced ∙ sym there.announced) says) in
          (remembers says_there).stands _ there;
      list = h.list;
      same = λ some. absurd (some refl);
      memory = λ some. absurd (cc);
      too_large = λ some. absurd (cc);
      unbroken = λ some. absurd (cc);
    }

-- or it was refused
pub head_stays : (old new : EndpointState) (id : ℕ) (fields : List Field) (place : SendPlace) (r : Refusal) → SendsFields (λ e. e) old new id fields place (Some r) → SendsFields (asking id fields) old new id fields place (Some r)
head_stays old new id fields place r h =
    record {
      done = λ none. absurd (cc);
      list = h.list;
      same = h.same;
      memory = h.memory;
      too_large = h.too_large;
      unbroken = h.unbroken;
    }

-- A head is in front of every trailer.
pub before_trailer : (interim : Bool) (place : SendPlace) → place ≡ (if interim then NothingSent else HeadSent) → place ≢ TrailerSent
before_trailer true place is never = cc
before_trailer false place is never = cc
