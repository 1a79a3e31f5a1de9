-- What comes on a request stream is taken by its reader, and both ends stand in the world after it.
use Rattle.std.proofs.Common.{◌≡◌, ℕ, ◌≤◌, true, false, [], take, refl}
use Rattle.std.specs.Prelude.{◌||◌}
use Rattle.h3_proto.specs.declared.stream.Side.{Side}
use Rattle.h3_connection.specs.declared.arrival.Arrival.TheVariants.{BytesCame}
use Rattle.h3_connection.specs.Endpoint.{EndpointHistory, bytes_waiting}
use Rattle.h3_connection.specs.OwnIds.{other}
use Rattle.h3_connection.specs.Sending.{advance}
use Rattle.h3_world.specs.Setup.{Setup}
use Rattle.h3_world.specs.Flow as flows
use Rattle.h3_world.specs.Sound.{IsSoundWorld}
use Rattle.h3_world.specs.Streams.{flow, with_flow, is_open}
use Rattle.h3_world.specs.World.{World}
use Rattle.h3_headline.proofs.DeliverLaws.{bytes_over}
use Rattle.h3_headline.specs.Arriving.{Comes, come}
use Rattle.h3_headline.specs.Calls.{Both}
use Rattle.h3_headline.specs.ComesLaws.{received_both}
use Rattle.h3_headline.specs.DeliverLaws.{flow_received}
use Rattle.h3_headline.specs.FlowLaws.{open_there}
use Rattle.h3_headline.specs.SendingLaws.{flow_count}

-- Bytes come.
pub bytes_comes : (setup : Setup) (w : World) (side : Side) (id count : ℕ) (er ew : EndpointHistory) → Both setup w side er ew → IsSoundWorld setup w → is_open w (other side) id ≡ true
    → count ≤ flows.bytes_waiting (flow w (other side) id) → ((flow w (other side) id).ended || (flow w (other side) id).reset_came) ≡ false
    → Comes setup w (with_flow w (other side) id (come (flow w (other side) id) count)) side er (advance ew id count) (BytesCame id (take count (bytes_waiting ew id)))
bytes_comes setup w side id count er ew h sound sending fits goes =
    let g = come (flow w (other side) id) count in
    let c = bytes_over setup w side id count er ew h.here h.there sound sending fits goes in
    record {
      after = c.after;
      arrived = c.arrived;
      both = received_both setup w (with_flow w (other side) id g) side id [] g er ew c.after (advance ew id count) h (flow_received w side id g (open_there w (other side) id sending) refl) refl tt c.reader c.writer;
      count = flow_count w (other side) id g;
    }
