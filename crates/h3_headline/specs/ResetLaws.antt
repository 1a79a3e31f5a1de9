-- The reset of a request stream goes over: the receiver gives the stream up once, and both endpoints stand in the world after it.
use Rattle.std.proofs.Common.{◌≡◌, Bool, true, false, refl, if◌then◌else◌, Some, ℕ}
use Rattle.std.specs.Prelude.{is_some}
use Rattle.h3_connection.specs.declared.event.StreamFault.{StreamFault}
use Rattle.h3_world.specs.Flow.{Flow}
use Rattle.h3_world.specs.Order.{outgoing_of}
use Rattle.h3_proto.specs.declared.stream.Side.{Side}
use Rattle.h3_connection.specs.Delivering.{opened, incoming_at, with_incoming, given_up_once, cancellation}
use Rattle.h3_connection.specs.Endpoint.{EndpointHistory}
use Rattle.h3_connection.specs.OwnIds.{other}
use Rattle.h3_world.specs.Setup.{Setup}
use Rattle.h3_world.specs.World.{World, party}
use Rattle.h3_world.specs.Sound.{IsSoundWorld}
use Rattle.h3_world.specs.Streams.{flow, is_open}
use Rattle.h3_headline.specs.Arriving.{Receives, flow_given_up, saying}
use Rattle.h3_headline.specs.ComingLaws.{stands_after_coming}
use Rattle.h3_headline.specs.DeliverLaws.{sends_same}
use Rattle.h3_headline.specs.FlowLaws.{open_there}
use Rattle.h3_headline.specs.MovesLaws.{sender_stands}
use Rattle.h3_headline.specs.ReceivingLaws.{reset_comes}
use Rattle.h3_headline.specs.Standing.{HasDecoderStreamOf, StandsAt}

-- what the sender has of a stream that was given up at its receiver
reset_leaves : (f : Flow) (fault : StreamFault) → outgoing_of (flow_given_up f fault) ≡ outgoing_of f
reset_leaves f fault = by_fault (is_some f.fault)
  where
    by_fault : (b : Bool) → outgoing_of (if b then record f { seen = true; reset_came = true } else record f { seen = true; reset_came = true; fault = Some fault; waits_for = 0 }) ≡ outgoing_of f
    by_fault true = refl
    by_fault false = refl

-- **The receiver and the sender, in any world in which the stream was given up and its cancellation written.**
pub reset_stands : (setup : Setup) (w v : World) (side : Side) (id : ℕ) (fault : StreamFault) (er ew : EndpointHistory) → StandsAt setup w side er → StandsAt setup w (other side) ew → IsSoundWorld setup w
    → is_open w (other side) id ≡ true → Receives w v side id (cancellation id (flow w (other side) id).fault) (flow_given_up (flow w (other side) id) fault)
    → HasDecoderStreamOf setup (other side) (saying (party w side).own (cancellation id (flow w (other side) id).fault)) ew
    → StandsAt setup v side (record (with_incoming (opened er id) id (given_up_once (record (incoming_at er id) { was_reset = true }) fault)) { own = saying er.own (cancellation id (flow w (other side) id).fault) })
    × StandsAt setup v (other side) ew
reset_stands setup w v side id fault er ew hr hw sound sending r heard =
    let f = flow w (other side) id in (
      stands_after_coming setup w v side id (cancellation id f.fault) (flow_given_up f fault) er (λ i. given_up_once (record i { was_reset = true }) fault) hr sound (open_there w (other side) id sending) r
          (λ i k. reset_comes f i fault k),
      sender_stands setup w v side id (cancellation id f.fault) (flow_given_up f fault) ew ew ew.outgoing hw r refl heard (sends_same setup w (other side) id (flow_given_up f fault) ew hw (reset_leaves f fault)),
    )
