-- A pull at a strict end finds no message malformed, and leaves that both ends count alike.
use Rattle.std.proofs.Common.{◌≡◌, ℕ, Bool, true, false, refl, sym, ap, ◌∙◌, subst, Option, Some, None, if◌then◌else◌}
use Rattle.std.specs.List.{AllByRecursion}
use Rattle.std.specs.Prelude.{◌||◌, unwrap_or, option_map}
use Rattle.h3_proto.specs.declared.stream.Side.{Side}
use Rattle.h3_proto.specs.declared.stream.Side.TheVariants.{Client}
use Rattle.h3_connection.specs.Delivering.{incoming_at}
use Rattle.h3_connection.specs.Endpoint.{EndpointHistory, Kind, kind_of}
use Rattle.h3_connection.specs.Endpoint.Kind.{OwnUnidirectional, PeerUnidirectional, Request, ServerOpened}
use Rattle.h3_connection.specs.Incoming.{Incoming, nothing_came}
use Rattle.h3_connection.specs.Keeping.{pulls, pulls_behind, read_all, unkept}
use Rattle.h3_connection.specs.OwnIds.{other}
use Rattle.h3_connection.specs.Pulling.{Pulled, just, next_item, pull_stream}
use Rattle.h3_connection.specs.Sending.{if_too_many, outgoing_at, pull_at, pull_peer, pull_request, pull_unless, pulled_unidirectional}
use Rattle.h3_connection.specs.StreamSets.{stream_at}
use Rattle.h3_connection.specs.Unidirectional.{Unidirectional, pull_unidirectional}
use Rattle.h3_connection.specs.declared.event.Fault.TheVariants.{Stream}
use Rattle.h3_connection.specs.declared.event.Item.TheVariants as item
use Rattle.h3_connection.specs.declared.event.Pull.{Pull}
use Rattle.h3_connection.specs.declared.event.Pull.TheVariants as pull
use Rattle.h3_connection.specs.declared.event.StreamFault.{StreamFault}
use Rattle.h3_connection.specs.declared.setup.Announced.{Announced}
use Rattle.h3_world.specs.Came.{insertions_came}
use Rattle.h3_world.specs.Ends.{Ends, end_at}
use Rattle.h3_world.specs.Order.{is_over}
use Rattle.h3_world.specs.Setup.{IsMadeSetup, Setup, announced_at}
use Rattle.h3_world.specs.Streams.{flow, is_open}
use Rattle.h3_world.specs.World.{World, party}
use Rattle.h3_headline.specs.Cited.{Laws}
use Rattle.h3_headline.specs.ComingLaws.{incoming_none, incoming_there, sound_flow}
use Rattle.h3_headline.specs.DecodesLaws.{next_readable}
use Rattle.h3_headline.specs.FlowLaws.{open_there, other-other}
use Rattle.h3_headline.specs.SendingLaws.{both_of}
use Rattle.h3_headline.specs.SessionDecoderLaws.{endpoint_decodes}
use Rattle.h3_headline.specs.Standing.{IsReadableBy, ReceivesFlow, Stands, StandsAt}
use Rattle.h3_strict.proofs.KeepsCounts.{KeepsBut, SameCounts, no_stream, same_streams, streams_keep}
use Rattle.h3_strict.proofs.PlainSetups.{any_protocols}
use Rattle.h3_strict.proofs.PlainStreams.{at_each}
use Rattle.h3_strict.proofs.SentTallies.{side_of, stands_at}
use Rattle.h3_strict.proofs.StrictStreams.{pull_counts}
use Rattle.h3_strict.specs.PlainEnds.{plain_ends, plain_setup}
use Rattle.h3_strict.specs.Plainly.{exceeds, is_judged, judged_as, judged_at, judged_open, plain, plain_incoming, plainly, tells_malformed}
use Rattle.h3_strict.specs.StrictPull.{CountsFlow, PullsOn}
use Rattle.h3_strict.specs.Tallies.{IsFine, JudgesStrictly, Tallies, TalliesFlow, awaited_of}

pub given_up_again : (side : Side) (own : Announced) (id : ℕ) (e : EndpointHistory) (i : Incoming) (fault : StreamFault) → i.fault ≡ Some fault → pull_stream side own id e.decoding.decoder i ≡ just (pull.Fault (Stream fault)) i
unfolding pull_stream
given_up_again side own id e i fault is = ap (λ o. elim o [
  | Some fault ↦ just (pull.Fault (Stream fault)) i
  | None ↦ if i.is_over then just (pull.Item item.End) i else next_item side own id e.decoding.decoder i i.place
]) is

pub over_again : (side : Side) (own : Announced) (id : ℕ) (e : EndpointHistory) (i : Incoming) → i.fault ≡ None → i.is_over ≡ true → pull_stream side own id e.decoding.decoder i ≡ just (pull.Item item.End) i
unfolding pull_stream
over_again side own id e i is over = ap (λ o. elim o [
  | Some fault ↦ just (pull.Fault (Stream fault)) i
  | None ↦ if i.is_over then just (pull.Item item.End) i else next_item side own id e.decoding.decoder i i.place
]) is ∙ ap (λ b. if b then just (pull.Item item.End) i else next_item side own id e.decoding.decoder i i.place) over

-- What a strict end receives of an open stream, as it stands in the world.
pub record Receiving (w : World) (e : EndpointHistory) (side : Side) (id : ℕ) (i : Incoming) : Type 0 where
  pub opened : is_open w side id ≡ true
  pub here : incoming_at e id ≡ i
  pub same : ReceivesFlow (flow w (other side) id) (plain_incoming i)

module _ (laws : Laws) (setup : Setup) (made : IsMadeSetup (plain_setup setup)) (w : World) (ends : Ends) (known : ℕ → Bool) (h : Stands (plain_setup setup) w (plain_ends ends)) (t : Tallies setup w ends known)
    (strict : JudgesStrictly setup) (side : Side) (id : ℕ) where
  abbrev pub puller : EndpointHistory
  puller = end_at ends side

  puller_stands : StandsAt (plain_setup setup) w side (plainly puller)
  puller_stands = stands_at setup w ends side h

  pub receiving : (i : Incoming) → stream_at puller.incoming id ≡ Some i → Receiving w puller side id i
  receiving i is = by_open (is_open w side id) refl
    where
      plain_is : stream_at (plainly puller).incoming id ≡ Some (plain_incoming i)
      plain_is = at_each plain_incoming puller.incoming id ∙ ap (option_map plain_incoming) is

      by_open : (b : Bool) → is_open w side id ≡ b → Receiving w puller side id i
      by_open false e = absurd (let never : None ≡ Some (plain_incoming i) = sym (incoming_none (plain_setup setup) w side id (plainly puller) puller_stands e) ∙ plain_is in cc)
      by_open true e =
          let there = incoming_there (plain_setup setup) w side id (plainly puller) puller_stands e in
          record {
            opened = e;
            here = ap (λ o. unwrap_or o nothing_came) is;
            same = subst (ReceivesFlow (flow w (other side) id)) (ap (λ o. unwrap_or o nothing_came) (sym there.1 ∙ plain_is)) there.2;
          }

  -- the flow that is received
  pub tallied : TalliesFlow side (announced_at setup side) (awaited_of (other side) (flow w Client id).sent) (flow w (other side) id) (outgoing_at (end_at ends (other side)) id) (incoming_at puller id)
  tallied =
      let back = other-other side in
      subst (λ s. TalliesFlow s (announced_at setup s) (awaited_of (other side) (flow w Client id).sent) (flow w (other side) id) (outgoing_at (end_at ends (other side)) id) (incoming_at (end_at ends s) id)) back (t.flows (other side) id)

  -- a pull of an open stream that goes on
  pub counts_on : (i : Incoming) → Receiving w puller side id i → (flow w (other side) id).fault ≡ None → is_over (flow w (other side) id) ≡ false
      → PullsOn side (awaited_of (other side) (flow w Client id).sent) i.response (flow w (other side) id) (pull_stream puller.side puller.announced id puller.decoding.decoder i)
  counts_on i r alive more =
      let f = flow w (other side) id in
      let own = announced_at setup side in
      let awaited = awaited_of (other side) (flow w Client id).sent in
      let came = insertions_came (party w (other side)) in
      let there = open_there w side id r.opened in
      let b = both_of (plain_setup setup) w side (plain_ends ends) h in
      let no_fault : i.fault ≡ None = r.same.fault ∙ alive in
      let counts = subst (λ x. CountsFlow side awaited f x) r.here (tallied.receives (ap (λ (x : Incoming). x.fault) r.here ∙ no_fault) more) in
      subst (λ (s : Side). PullsOn side awaited i.response f (pull_stream s puller.announced id puller.decoding.decoder i)) (sym (side_of setup w ends side h))
      (subst (λ (a : Announced). PullsOn side awaited i.response f (pull_stream side a id puller.decoding.decoder i)) (sym (t.announced side))
      (pull_counts laws.lists side own id puller.decoding.decoder (strict side).0 (strict side).1 awaited i.response came (party w (other side)) f i (sound_flow (plain_setup setup) w (other side) id h.sound there) r.same alive more
      (endpoint_decodes laws.streams laws.lists (plain_setup setup) w side id (plainly puller) made puller_stands h.sound r.opened alive)
      (next_readable laws.lists side (plain own) id came puller.decoding.decoder f (subst (λ any. AllByRecursion (IsReadableBy any side) f.sent) (any_protocols setup side) (b.sends_there id)))
      tallied.unbroken (record { counts = counts; response = refl })))

  -- **No pull finds a message malformed.**
  stream_not_judged : (o : Option Incoming) → stream_at puller.incoming id ≡ o → judged_at (unkept puller) id o ≡ false
  stream_not_judged None is = refl
  stream_not_judged (Some i) is = by_fault (flow w (other side) id).fault refl (is_over (flow w (other side) id)) refl
    where
      r : Receiving w puller side id i
      r = receiving i is

      by_fault : (o : Option StreamFault) → (flow w (other side) id).fault ≡ o → (b : Bool) → is_over (flow w (other side) id) ≡ b → tells_malformed false (pull_stream puller.side puller.announced id puller.decoding.decoder i).answer ≡ false
      by_fault (Some fault) e b k =
          ap (λ (p : Pulled). tells_malformed false p.answer) (given_up_again puller.side puller.announced id puller i fault (r.same.fault ∙ e))
          ∙ subst IsFine (ap (λ (x : Incoming). x.fault) r.here ∙ r.same.fault ∙ e) tallied.fine
      by_fault None e true k = ap (λ (p : Pulled). tells_malformed false p.answer) (over_again puller.side puller.announced id puller i (r.same.fault ∙ e) (r.same.is_over ∙ k))
      by_fault None e false k = (counts_on i r e k).judges_not

  kind_not_judged : (k : Kind) → judged_as (unkept puller) id k ≡ false
  kind_not_judged Request = stream_not_judged (stream_at puller.incoming id) refl
  kind_not_judged ServerOpened = refl
  kind_not_judged OwnUnidirectional = refl
  kind_not_judged PeerUnidirectional = refl

  pub not_judged : is_judged puller id ≡ false
  not_judged =
      ap (λ c. exceeds puller (read_all puller.kept (unkept puller)).1 || judged_open c (read_all puller.kept (unkept puller)).0 id) puller_stands.no_fault
      ∙ ap (λ k. exceeds puller (read_all k (unkept puller)).1 || judged_open None (read_all k (unkept puller)).0 id) puller_stands.nothing_kept
      ∙ kind_not_judged (kind_of puller.side id)

  -- What the pull leaves of a stream that is not open, or was given up, or is over: nothing changes.
  pub other_streams : (k : Kind) → ((i : Incoming) → k ≡ Request → stream_at puller.incoming id ≡ Some i → ⊥) → KeepsBut no_stream puller (pull_at puller id k).1
  other_streams Request closed = by_stream (stream_at puller.incoming id) refl
    where
      by_stream : (o : Option Incoming) → stream_at puller.incoming id ≡ o → KeepsBut no_stream puller (pull_request puller id o).1
      by_stream None is = streams_keep no_stream puller puller (same_streams puller)
      by_stream (Some i) is = absurd (closed i refl is)
  other_streams ServerOpened closed = streams_keep no_stream puller puller (same_streams puller)
  other_streams OwnUnidirectional closed = streams_keep no_stream puller puller (same_streams puller)
  other_streams PeerUnidirectional closed = by_stream (stream_at puller.unidirectional id)
    where
      by_told : (x : Pull × Unidirectional) → KeepsBut no_stream puller (pulled_unidirectional puller id x).1
      by_told (a, o) = streams_keep no_stream puller _ (record { incoming = refl; outgoing = refl; announced = refl })

      by_stream : (o : Option Unidirectional) → KeepsBut no_stream puller (pull_peer puller id o).1
      by_stream None = streams_keep no_stream puller puller (same_streams puller)
      by_stream (Some o) = by_told (pull_unidirectional o o.role)

  pub pulls_is : pulls puller id ≡ pull_at puller id (kind_of puller.side id)
  pulls_is =
      ap (λ k. pulls_behind k puller id) puller_stands.nothing_kept
      ∙ ap (λ c. pull_unless c puller (pull_at puller id (kind_of puller.side id))) puller_stands.no_fault

  pub many_keeps : (b : Bool) (i : Incoming) (p : Pulled) → SameCounts i p.incoming → SameCounts i (if_too_many b p).incoming
  many_keeps true i p k = record { fault = k.fault; content = k.content; left = k.left; response = k.response }
  many_keeps false i p k = k
