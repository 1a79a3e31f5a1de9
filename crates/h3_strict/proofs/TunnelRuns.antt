-- What stands of tunnels between two strict ends stays so over each event, whatever the server knows.
use Rattle.std.proofs.Common.{◌≡◌, ◌⊎◌, inl, inr, ℕ, Bool, true, false, [], refl, sym, ap, ◌∙◌, subst, Some, None}
use Rattle.h3_proto.specs.StreamIds.{is_request_stream}
use Rattle.h3_proto.specs.declared.stream.Side.{Side}
use Rattle.h3_proto.specs.declared.stream.Side.TheVariants.{Client, Server}
use Rattle.h3_connection.specs.Coming.{fields_behind}
use Rattle.h3_connection.specs.Incoming.{nothing_came}
use Rattle.h3_connection.specs.Keeping.{pulls}
use Rattle.h3_connection.specs.Outgoing.{nothing_sent}
use Rattle.h3_connection.specs.Lists.{listed_pull, pull_of}
use Rattle.h3_world.specs.Ends.{Ends, answered, end_at, new_ends}
use Rattle.h3_world.specs.Flow.{Flow, unused}
use Rattle.h3_world.specs.Headline.{is_connection_fault}
use Rattle.h3_world.specs.Pulling.{Pulls}
use Rattle.h3_world.specs.Setup.{Setup, announced_at}
use Rattle.h3_world.specs.Step.{Step}
use Rattle.h3_world.specs.Streams.{flow}
use Rattle.h3_world.specs.World.{World, empty_world, no_exchange}
use Rattle.h3_world.specs.declared.event.Event.{Event}
use Rattle.h3_world.specs.declared.event.Event.TheVariants as event
use Rattle.h3_headline.specs.Contents.{KeepsParts}
use Rattle.h3_headline.specs.FlowLaws.{same_both}
use Rattle.h3_strict.proofs.KeepsCounts.{KeepsBut, no_stream, same_streams, streams_keep}
use Rattle.h3_strict.proofs.PlainLists.{faults_same}
use Rattle.h3_strict.proofs.PullResults.{listed_is, pulled_is}
use Rattle.h3_strict.proofs.TunnelEvents.{body_event, fields_event, finish_event, head_event, trailer_event, trailer_fields_event}
use Rattle.h3_strict.proofs.TunnelFaultless.{PullsSafely, items_same}
use Rattle.h3_strict.proofs.TunnelParts.{tunnel_same}
use Rattle.h3_strict.proofs.TunnelPull.{pull_tunnels, safe}
use Rattle.h3_strict.proofs.TunnelQuiet.{cancel_event, deliver_event, end_event, goaway_event, lost_event, open_event, reset_event}
use Rattle.h3_strict.proofs.TunnelSees.{Sees}
use Rattle.h3_strict.proofs.TunnelSends.{quiet_tunnels}
use Rattle.h3_strict.specs.GivesUp.{GivesMessageUp, GivesUpBy}
use Rattle.h3_strict.specs.PlainEnds.{plain_setup}
use Rattle.h3_strict.specs.WorldSteps.{KeepsNone, WorldStep}
use Rattle.h3_strict.specs.Tunnels.{TunnelAt, TunnelsStand}

-- Of what holds if both ends are seen in their world.
module _ (setup : Setup) (strict : (side : Side) → (announced_at setup side).choices.strict_messages ≡ true) (w : World) (ends : Ends) (sees : Sees setup w ends) (t : TunnelsStand setup w ends) where
  quiet : (v : World) (next : Ends) (only : Side → ℕ → Bool) → KeepsParts w v → ((side : Side) → KeepsBut (only side) (end_at ends side) (end_at next side)) → TunnelsStand setup v next
  quiet v next only parts keeps = quiet_tunnels setup w v ends next only parts keeps t

  pub safely : PullsSafely ends
  safely side id i here = safe setup strict w ends sees t side id i here

  -- what a pull leaves, with lists or without
  pulled_so : (side : Side) (id : ℕ) (v : World) → Pulls (plain_setup setup) w side id (pulls (end_at ends side) id).0 v ⊎ GivesMessageUp setup w side id (pulls (end_at ends side) id).0 v → Sees setup v (answered ends (event.Pull side id)).1 → (end_at ends side).kept ≡ []
      → is_connection_fault (answered ends (event.Pull side id)).0 ≡ false → TunnelsStand setup v (answered ends (event.Pull side id)).1
  pulled_so side id v world g kept faultless =
      let is = pulled_is ends side (pulls (end_at ends side) id) in
      subst (λ x. TunnelsStand setup v x.1) (sym is)
      (pull_tunnels setup strict w ends sees t side id kept v (pulls (end_at ends side) id).0 refl world (ap (λ x. is_connection_fault x.0) (sym is) ∙ faultless) (subst (λ x. Sees setup v x.1) is g))

  listed_so : (side : Side) (id : ℕ) (v : World)
      → (let l = listed_pull (fields_behind (end_at ends side).kept (end_at ends side) id) (pulls (end_at ends side) id).0 in Pulls (plain_setup setup) w side id (pull_of l) v ⊎ GivesMessageUp setup w side id (pull_of l) v)
      → Sees setup v (answered ends (event.PullFields side id)).1 → (end_at ends side).kept ≡ [] → is_connection_fault (answered ends (event.PullFields side id)).0 ≡ false → TunnelsStand setup v (answered ends (event.PullFields side id)).1
  listed_so side id v world g kept faultless =
      let is = listed_is ends side id (pulls (end_at ends side) id) in
      let o = fields_behind (end_at ends side).kept (end_at ends side) id in
      subst (λ x. TunnelsStand setup v x.1) (sym is)
      (pull_tunnels setup strict w ends sees t side id kept v (pull_of (listed_pull o (pulls (end_at ends side) id).0)) (items_same o (pulls (end_at ends side) id).0) world
      (sym (faults_same o (pulls (end_at ends side) id).0) ∙ ap (λ x. is_connection_fault x.0) (sym is) ∙ faultless) (subst (λ x. Sees setup v x.1) is g))

  -- **What it leaves.**
  pub event_tunnels : (e : Event) (v : World) → WorldStep setup w e (answered ends e).0 v → KeepsNone ends e → is_connection_fault (answered ends e).0 ≡ false → Sees setup v (answered ends e).1 → TunnelsStand setup v (answered ends e).1
  event_tunnels (event.OpenRequest s) v step kept faultless g = open_event setup w ends (TunnelsStand setup) quiet sees s v (answered ends (event.OpenRequest s)).0 (answered ends (event.OpenRequest s)).1 refl step
  event_tunnels (event.Head s i head) v step kept faultless g = head_event setup w ends sees t strict s i head v (answered ends (event.Head s i head)).0 (answered ends (event.Head s i head)).1 refl step g
  event_tunnels (event.Fields s i fields) v step kept faultless g = fields_event setup w ends sees t strict s i fields v (answered ends (event.Fields s i fields)).0 (answered ends (event.Fields s i fields)).1 refl step g
  event_tunnels (event.Body s i bytes) v step kept faultless g = body_event setup w ends sees t strict s i bytes v (answered ends (event.Body s i bytes)).0 (answered ends (event.Body s i bytes)).1 refl step
  event_tunnels (event.Trailer s i trailer) v step kept faultless g = trailer_event setup w ends sees t strict s i trailer v (answered ends (event.Trailer s i trailer)).0 (answered ends (event.Trailer s i trailer)).1 refl step
  event_tunnels (event.TrailerFields s i fields) v step kept faultless g = trailer_fields_event setup w ends sees t strict s i fields v (answered ends (event.TrailerFields s i fields)).0 (answered ends (event.TrailerFields s i fields)).1 refl step
  event_tunnels (event.Finish s i) v step kept faultless g = finish_event setup w ends sees t strict s i v (answered ends (event.Finish s i)).0 (answered ends (event.Finish s i)).1 refl step
  event_tunnels (event.Reset s i) v step kept faultless g = reset_event setup w ends (TunnelsStand setup) quiet s i v (answered ends (event.Reset s i)).0 (answered ends (event.Reset s i)).1 refl step
  event_tunnels (event.Cancel s i) v step kept faultless g = cancel_event setup w ends (TunnelsStand setup) quiet s i v (answered ends (event.Cancel s i)).0 (answered ends (event.Cancel s i)).1 refl step
  event_tunnels (event.Goaway s i) v step kept faultless g = goaway_event setup w ends (TunnelsStand setup) quiet s i v (answered ends (event.Goaway s i)).0 (answered ends (event.Goaway s i)).1 refl step
  event_tunnels (event.Deliver s i count) v step kept faultless g = deliver_event setup w ends (TunnelsStand setup) quiet s i count v (answered ends (event.Deliver s i count)).0 (answered ends (event.Deliver s i count)).1 refl step
  event_tunnels (event.DeliverEnd s i) v step kept faultless g = end_event setup w ends (TunnelsStand setup) quiet s i v (answered ends (event.DeliverEnd s i)).0 (answered ends (event.DeliverEnd s i)).1 refl step
  event_tunnels (event.DeliverReset s i) v step kept faultless g = lost_event setup w ends (TunnelsStand setup) quiet s i v (answered ends (event.DeliverReset s i)).0 (answered ends (event.DeliverReset s i)).1 refl step
  event_tunnels (event.Pull side id) v (inl step) kept faultless g = pulled_so side id v (inl (subst (λ x. Step (plain_setup setup) w (event.Pull side id) x.0 v) (pulled_is ends side (pulls (end_at ends side) id)) step)) g kept faultless
  event_tunnels (event.Pull side id) v (inr gives) kept faultless g = pulled_so side id v (inr (subst (λ x. GivesUpBy setup w (event.Pull side id) x.0 v) (pulled_is ends side (pulls (end_at ends side) id)) gives)) g kept faultless
  event_tunnels (event.PullFields side id) v (inl step) kept faultless g =
      listed_so side id v (inl (subst (λ x. Step (plain_setup setup) w (event.PullFields side id) x.0 v) (listed_is ends side id (pulls (end_at ends side) id)) step).0) g kept faultless
  event_tunnels (event.PullFields side id) v (inr gives) kept faultless g =
      listed_so side id v (inr (subst (λ x. GivesUpBy setup w (event.PullFields side id) x.0 v) (listed_is ends side id (pulls (end_at ends side) id)) gives)) g kept faultless
  event_tunnels (event.Show s) v step kept faultless g = quiet v ends (λ side. no_stream) step (λ side. streams_keep no_stream (end_at ends side) (end_at ends side) (same_streams (end_at ends side)))

-- Before anything.
nothing_yet : (setup : Setup) (writer : Side) (id : ℕ) → flow (empty_world setup) writer id ≡ unused
nothing_yet setup Client id = ap (λ e. e.request) (same_both (is_request_stream id) no_exchange no_exchange (λ e. refl))
nothing_yet setup Server id = ap (λ e. e.response) (same_both (is_request_stream id) no_exchange no_exchange (λ e. refl))

unused_tunnel : TunnelAt [] unused nothing_sent nothing_sent nothing_came nothing_came
unused_tunnel = record {
  request = λ asks. absurd (let never : false ≡ true = asks in cc);
  response = λ opens. absurd (let never : false ≡ true = opens in cc);
  knows = λ c is. absurd (let never : None ≡ Some c = is in cc);
  server = λ alive mark. absurd (let never : false ≡ true = mark in cc);
  client = λ alive mark. absurd (let never : false ≡ true = mark in cc);
}

pub new_tunnels : (setup : Setup) → TunnelsStand setup (empty_world (plain_setup setup)) (new_ends setup)
new_tunnels setup = record {
  tunnels = λ id. tunnel_same [] (flow (empty_world (plain_setup setup)) Client id).sent unused (flow (empty_world (plain_setup setup)) Server id) nothing_sent nothing_sent nothing_sent nothing_sent nothing_came nothing_came nothing_came nothing_came
      (ap (λ (f : Flow). f.sent) (nothing_yet (plain_setup setup) Client id)) (nothing_yet (plain_setup setup) Server id) refl refl refl refl unused_tunnel;
  announced = announced;
}
  where
    announced : (side : Side) → (end_at (new_ends setup) side).announced ≡ announced_at setup side
    announced Client = refl
    announced Server = refl
