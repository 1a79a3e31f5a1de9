-- What a call leaves that was refused memory in reading: a part of what is kept was read, and the rest is kept.
use Rattle.std.proofs.Common.{◌≡◌, ℕ, List, [], ◌∷◌, ◌++◌, refl, Some}
use Rattle.h3_proto.specs.declared.stream.Side.{Side}
use Rattle.h3_connection.specs.declared.arrival.Arrival.{Arrival}
use Rattle.h3_connection.specs.declared.arrival.Arrival.TheVariants.{BytesCame}
use Rattle.h3_connection.specs.Endpoint.{EndpointHistory, limit_of}
use Rattle.h3_connection.specs.Keeping.{keeping}
use Rattle.h3_connection.specs.OwnIds.{other}
use Rattle.h3_connection.specs.PartReading as reading
use Rattle.h3_connection.specs.PartReading.{MayRead, PeerReadsPart, ReadsOn, ReadsWhole, ReadsFront, Holds, ReadsFrames, Hears, Listens, after_frames, early}
use Rattle.h3_world.specs.Setup.{IsMadeSetup, Setup}
use Rattle.h3_world.specs.World.{World}
use Rattle.h3_headline.specs.Cited.{Laws}
use Rattle.h3_memory.specs.Kept.{Delivery, ReadsPart, Stops}
use Rattle.h3_memory.proofs.HeardSteps.{hears_step, listens_step}
use Rattle.h3_memory.proofs.HoldsStep.{holds_step}
use Rattle.h3_memory.proofs.KeptLaws.{KeptLaws}
use Rattle.h3_memory.proofs.PartSteps.{PartStep, front_step, whole_step}
use Rattle.h3_memory.proofs.ReadingState.{Reading}
use Rattle.h3_connection.specs.StrictConnection.{kinds_of}

-- A front of what is held of the control stream is read.
abbrev pub ReadsFramesOn : Setup → Type 0
ReadsFramesOn setup =
    (w : World) (side : Side) (mine ds : List Delivery) (f g : EndpointHistory) (id : ℕ) (p : Rattle.h3_connection.specs.PeerReading.Peer) (more : List Arrival) → Reading setup w side mine ds f g (BytesCame id [] ∷ more) → f.control_on ≡ Some id
    → MayRead f p → PeerReadsPart (kinds_of f.announced) (limit_of f) f.side f.peer p → PartStep setup w side mine ds (after_frames f p) g (BytesCame id [] ∷ early f p ++ more)

pub on_step : (qpack : KeptLaws) (laws : Laws) (setup : Setup) (made : IsMadeSetup setup) (frames : ReadsFramesOn setup) (w : World) (side : Side) (mine ds : List Delivery) (g : EndpointHistory) {f next : EndpointHistory} {arrivals more : List Arrival}
    → ReadsOn f arrivals next more → Reading setup w side mine ds f g arrivals → PartStep setup w side mine ds next g more
on_step qpack laws setup made frames w side mine ds g {f = f} {next = next} (ReadsWhole {a = a} {more = more} reads) r = whole_step qpack laws setup w side mine f g made next ds a more r reads
on_step qpack laws setup made frames w side mine ds g {f = f} {next = next} (ReadsFront front rest {id = id} {more = more} reads) r = front_step qpack laws setup w side mine f g made next ds id front rest more r reads
on_step qpack laws setup made frames w side mine ds g {f = f} (Holds {id = id} {bytes = bytes} {more = more} kind reads) r = holds_step qpack laws setup w side mine f g made ds id bytes more r kind reads
on_step qpack laws setup made frames w side mine ds g {f = f} (ReadsFrames {id = id} {p = p} {more = more} on may part) r = frames w side mine ds f g id p more r on may part
on_step qpack laws setup made frames w side mine ds g {f = f} (Hears {id = id} {d = d} {more = more} on part) r = hears_step qpack laws setup w side mine f g made ds id d more r on part
on_step qpack laws setup made frames w side mine ds g {f = f} (Listens {id = id} {s = s} {left = left} {pairs = pairs} {more = more} on known part) r = listens_step qpack laws setup w side mine f g made ds id s left pairs more r on known part

-- **A part of what is kept has been read, in the world too.**
pub record PartRead (setup : Setup) (w : World) (side : Side) (mine ds : List Delivery) (g after : EndpointHistory) : Type 0 where
  pub world : World
  pub left : List Delivery
  pub read : ReadsPart setup (other side) w ds world left
  pub next : EndpointHistory
  pub arrivals : List Arrival
  pub reading : Reading setup world side mine left next g arrivals
  pub is : after ≡ keeping next arrivals

pub part_read_on : (qpack : KeptLaws) (laws : Laws) (setup : Setup) (made : IsMadeSetup setup) (frames : ReadsFramesOn setup) (w : World) (side : Side) (mine ds : List Delivery) (g : EndpointHistory) {f after : EndpointHistory} {arrivals : List Arrival}
    → reading.ReadsPart f arrivals after → Reading setup w side mine ds f g arrivals → PartRead setup w side mine ds g after
part_read_on qpack laws setup made frames w side mine ds g {f = f} {arrivals = arrivals} reading.Stops r =
    record { world = w; left = ds; read = Stops; next = f; arrivals = arrivals; reading = r; is = refl }
part_read_on qpack laws setup made frames w side mine ds g (reading.Goes step rest) r =
    let first = on_step qpack laws setup made frames w side mine ds g step r in
    let p = part_read_on qpack laws setup made frames first.world side mine first.left g rest first.reading in
    record { world = p.world; left = p.left; read = first.goes p.world p.left p.read; next = p.next; arrivals = p.arrivals; reading = p.reading; is = p.is }
