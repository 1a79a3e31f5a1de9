-- The first of what an end keeps is read without a fault, and both ends stand in a world with the rest.
use Rattle.std.proofs.Common.{◌≡◌, ℕ, ◌≤◌, true, List, [], ◌∷◌, drop, take, refl, sym, ap, ◌∙◌, subst, arith}
use Rattle.h3_proto.specs.declared.stream.Side.{Side}
use Rattle.h3_proto.specs.declared.stream.Side.TheVariants.{Client, Server}
use Rattle.h3_connection.specs.declared.arrival.Arrival.{Arrival}
use Rattle.h3_connection.specs.Endpoint.{EndpointHistory, bytes_waiting}
use Rattle.h3_connection.specs.Keeping.{settles, unkept}
use Rattle.h3_connection.specs.OwnIds.{other}
use Rattle.h3_connection.specs.Shown as shown
use Rattle.h3_world.specs.Ends.{Ends, end_at}
use Rattle.h3_world.specs.Setup.{IsMadeSetup, Setup}
use Rattle.h3_world.specs.Streams.{has_outgoing}
use Rattle.h3_world.specs.World.{World}
use Rattle.h3_headline.specs.Cited.{Laws}
use Rattle.h3_headline.specs.DeliverLaws.{has_outgoing_is}
use Rattle.h3_headline.specs.SendingLaws.{both_of}
use Rattle.h3_headline.specs.Standing.{StandsAt}
use Rattle.h3_memory.specs.Kept.{Delivery, KeepingWorld, caught_up, is_settled, kept_at, read_deliveries, read_delivery}
use Rattle.h3_memory.specs.Keeping.{EachResumes, StandsKeeping, ahead, came_of, text_of}
use Rattle.h3_memory.specs.ReadsNext.{ReadsNext}
use Rattle.h3_memory.proofs.AheadPulls.{settles_ahead}
use Rattle.h3_memory.proofs.CatchesUp.{keeping_so, reading_of, standing_of}
use Rattle.h3_memory.proofs.Judged.{Waits, outgoing_ahead, waits_at}
use Rattle.h3_memory.proofs.KeptLaws.{KeptLaws}
use Rattle.h3_memory.proofs.ReadingState.{Reading}
use Rattle.h3_memory.proofs.ReadsWhole.{reads_first}
use Rattle.h3_memory.proofs.RefusedPull.{none_left}
use Rattle.h3_memory.proofs.SendingEvents.{keeps_at}
use Rattle.h3_memory.proofs.Settling.{settles_there}
use Rattle.h3_memory.proofs.UnsettledPull.{ends_are}

-- what a side keeps, and the world
kept_so : (side : Side) (w : World) (mine ds : List Delivery) → kept_at (keeping_so side w mine ds) side ≡ ds
kept_so Client w mine ds = refl
kept_so Server w mine ds = refl

world_so : (side : Side) (w : World) (mine ds : List Delivery) → (keeping_so side w mine ds).world ≡ w
world_so Client w mine ds = refl
world_so Server w mine ds = refl

pub first_kept : (qpack : KeptLaws) (laws : Laws) (setup : Setup) (k : KeepingWorld) (ends : Ends) (side : Side) (a : Arrival) (arrivals : List Arrival) → IsMadeSetup setup → StandsKeeping setup k ends → (end_at ends side).kept ≡ a ∷ arrivals
    → ReadsNext setup k ends side a arrivals
first_kept qpack laws setup k ends side a arrivals made h kept =
    by_first (kept_at k side) refl (subst (Reading setup k.world side (kept_at k (other side)) (kept_at k side) (unkept (end_at ends side)) (end_at ends (other side))) kept (reading_of setup k ends side h))
  where
    by_first : (ds : List Delivery) → kept_at k side ≡ ds → Reading setup k.world side (kept_at k (other side)) ds (unkept (end_at ends side)) (end_at ends (other side)) (a ∷ arrivals) → ReadsNext setup k ends side a arrivals
    by_first [] is r = absurd r.here.kept
    by_first (d ∷ ds) is r =
        let mine = kept_at k (other side) in
        let first = reads_first qpack laws setup k.world side mine (unkept (end_at ends side)) (end_at ends (other side)) made d ds a arrivals r in
        let v = read_delivery setup k.world (other side) d in
        let x = record first.next { kept = arrivals } in
        record {
          next = first.next;
          reads = first.reads;
          none = ap (λ (e : EndpointHistory). e.kept) first.then_reads.here.is;
          world = keeping_so side v mine ds;
          stands = subst (StandsKeeping setup (keeping_so side v mine ds)) (ends_are ends side x) (standing_of setup v side mine ds first.next (end_at ends (other side)) x arrivals first.then_reads refl);
          caught = ap (λ l. read_deliveries setup (keeping_so side v mine ds).world (other side) l) (kept_so side v mine ds) ∙ ap (λ u. read_deliveries setup u (other side) ds) (world_so side v mine ds)
              ∙ sym (ap (read_deliveries setup k.world (other side)) is);
        }

-- With nothing kept a side has caught up.
pub caught_already : (setup : Setup) (k : KeepingWorld) (ends : Ends) (side : Side) → StandsKeeping setup k ends → (end_at ends side).kept ≡ [] → caught_up setup k side ≡ k.world
caught_already setup k ends side h kept =
    let r = reading_of setup k ends side h in
    ap (read_deliveries setup k.world (other side)) (none_left _ _ _ (kept_at k side) (end_at ends side).kept kept r.here.kept)

-- What waits for it at the other side stands in the texts of that one, behind what came.
pub waits_so : (setup : Setup) (k : KeepingWorld) (ends : Ends) (side : Side) (id count : ℕ) → StandsKeeping setup k ends → (end_at ends side).kept ≡ [] → shown.has_outgoing (end_at ends (other side)) id ≡ true
    → count ≤ shown.waiting (end_at ends (other side)) id
    → (has_outgoing k.world (other side) id ≡ true) × (take count (bytes_waiting (end_at ends (other side)) id) ≡ take count (drop (came_of k.world (other side) id) (text_of setup k.world (other side) id)))
waits_so setup k ends side id count h kept has fits =
    let r = reading_of setup k ends side h in
    let none : kept_at k side ≡ [] = none_left _ _ _ (kept_at k side) (end_at ends side).kept kept r.here.kept in
    let is : end_at ends (other side) ≡ ahead r.ew [] r.there.held r.there.incoming r.there.arrivals = r.there.is ∙ ap (λ ds. ahead r.ew ds r.there.held r.there.incoming r.there.arrivals) none in
    let there : has_outgoing k.world (other side) id ≡ true =
    sym (has_outgoing_is setup k.world (other side) id r.ew r.two.both.there) ∙ sym (ap (λ x. shown.has_outgoing x id) is ∙ outgoing_ahead r.ew [] r.there.held r.there.incoming r.there.arrivals id) ∙ has in
    let w = subst (λ x. Waits setup k.world (other side) x id) (sym is) (waits_at setup k.world (other side) r.ew r.there.held r.there.incoming r.there.arrivals id r.two.both.there r.two.both.writes_there.updates there) in
    (there, w.front count (omega (arith, fits, w.waits)))

-- A pull's answer is settled where it is in the world, whatever is kept.
pub settles_so : (setup : Setup) (k : KeepingWorld) (ends : Ends) (side : Side) (id : ℕ) → StandsKeeping setup k ends → settles (end_at ends side) id ≡ is_settled k.world side id
settles_so setup k ends side id h =
    let c = keeps_at setup k ends side h in
    let b = end_at h.behind side in
    let here : StandsAt setup k.world side (end_at h.behind side) = (both_of setup k.world side h.behind h.stands).here in
    ap (λ x. settles x id) c.is ∙ settles_ahead (kept_at k (other side)) c.held c.arrivals b c.incoming id (subst (λ s. EachResumes s b.announced b.incoming c.incoming) (sym here.side_is) c.resumes)
    ∙ settles_there setup k.world side id b here h.stands.sound
