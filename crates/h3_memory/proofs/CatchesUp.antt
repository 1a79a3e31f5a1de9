-- All that is kept is read, without a fault: reader and writer stand in the world in which it counts as delivered, with nothing kept at the reader.
use Rattle.std.proofs.Common.{◌≡◌, ◌⊎◌, List, [], ◌∷◌, refl, sym, ap, ◌∙◌, subst}
use Rattle.h3_proto.specs.declared.stream.Side.{Side}
use Rattle.h3_proto.specs.declared.stream.Side.TheVariants.{Client, Server}
use Rattle.h3_connection.specs.declared.arrival.Arrival.{Arrival}
use Rattle.h3_connection.specs.Endpoint.{EndpointHistory}
use Rattle.h3_connection.specs.Keeping.{read_all, unkept, unless_faulty}
use Rattle.h3_connection.specs.OwnIds.{other}
use Rattle.h3_world.specs.Ends.{Ends, end_at}
use Rattle.h3_world.specs.Setup.{IsMadeSetup, Setup}
use Rattle.h3_world.specs.World.{World}
use Rattle.h3_headline.specs.Cited.{Laws}
use Rattle.h3_memory.specs.Kept.{Delivery, Bytes, End, Reset, KeepingWorld, kept_at, read_delivery, read_deliveries}
use Rattle.h3_memory.specs.Keeping.{AreKept, StandsKeeping}
use Rattle.h3_memory.proofs.BehindOwn.{found_as}
use Rattle.h3_memory.proofs.KeptLaws.{KeptLaws}
use Rattle.h3_memory.proofs.ReadingEnds.{ends_of, stands_of, two_of}
use Rattle.h3_memory.proofs.ReadingState.{Reading}
use Rattle.h3_memory.proofs.ReadsWhole.{reads_first}

pub record ReadsAll (setup : Setup) (w : World) (side : Side) (mine ds : List Delivery) (f g : EndpointHistory) (arrivals : List Arrival) : Type 0 where
  pub next : EndpointHistory
  pub reads : read_all arrivals f ≡ found_as next
  pub then_reads : Reading setup (read_deliveries setup w (other side) ds) side mine [] next g []

pub reads_all : (qpack : KeptLaws) (laws : Laws) (setup : Setup) (w : World) (side : Side) (mine ds : List Delivery) (f g : EndpointHistory) (arrivals : List Arrival) → IsMadeSetup setup → Reading setup w side mine ds f g arrivals
    → ReadsAll setup w side mine ds f g arrivals
reads_all qpack laws setup w side mine [] f g [] made r = record { next = f; reads = refl; then_reads = r }
reads_all qpack laws setup w side mine (d ∷ ds) f g (a ∷ arrivals) made r =
    let first = reads_first qpack laws setup w side mine f g made d ds a arrivals r in
    let rest = reads_all qpack laws setup (read_delivery setup w (other side) d) side mine ds first.next g arrivals made first.then_reads in
    record { next = rest.next; reads = ap (unless_faulty (read_all arrivals)) first.reads ∙ rest.reads; then_reads = rest.then_reads }
reads_all qpack laws setup w side mine [] f g (a ∷ arrivals) made r = absurd r.here.kept
reads_all qpack laws setup w side mine (Bytes id count ∷ ds) f g [] made r = absurd r.here.kept
reads_all qpack laws setup w side mine (End id ∷ ds) f g [] made r = absurd r.here.kept
reads_all qpack laws setup w side mine (Reset id ∷ ds) f g [] made r = absurd r.here.kept

pub reading_of : (setup : Setup) (k : KeepingWorld) (ends : Ends) (side : Side) → StandsKeeping setup k ends
    → Reading setup k.world side (kept_at k (other side)) (kept_at k side) (unkept (end_at ends side)) (end_at ends (other side)) (end_at ends side).kept
reading_of setup k ends Client h =
    let c = h.client in
    let s = h.server in
    record {
      er = h.behind.client;
      ew = h.behind.server;
      two = two_of setup k.world Client h.behind h.stands;
      here = record {
        held = c.held;
        incoming = c.incoming;
        is = ap unkept c.is;
        resumes = c.resumes;
        kept = subst (AreKept _ _ _ k.at_client) (sym (ap (λ (e : EndpointHistory). e.kept) c.is)) c.kept;
        may = c.may;
        early = λ unknown. subst (λ l. (c.held.decoder ≡ []) ⊎ Rattle.h3_memory.specs.Keeping.ComesFirst 11 l) (sym (ap (λ (e : EndpointHistory). e.kept) c.is)) (c.early unknown);
        untold = c.untold;
        distinct = c.distinct;
      };
      there = record { held = s.held; incoming = s.incoming; arrivals = s.arrivals; is = s.is; resumes = s.resumes; kept = s.kept; may = s.may; early = s.early; untold = s.untold; distinct = s.distinct };
    }
reading_of setup k ends Server h =
    let c = h.client in
    let s = h.server in
    record {
      er = h.behind.server;
      ew = h.behind.client;
      two = two_of setup k.world Server h.behind h.stands;
      here = record {
        held = s.held;
        incoming = s.incoming;
        is = ap unkept s.is;
        resumes = s.resumes;
        kept = subst (AreKept _ _ _ k.at_server) (sym (ap (λ (e : EndpointHistory). e.kept) s.is)) s.kept;
        may = s.may;
        early = λ unknown. subst (λ l. (s.held.decoder ≡ []) ⊎ Rattle.h3_memory.specs.Keeping.ComesFirst 10 l) (sym (ap (λ (e : EndpointHistory). e.kept) s.is)) (s.early unknown);
        untold = s.untold;
        distinct = s.distinct;
      };
      there = record { held = c.held; incoming = c.incoming; arrivals = c.arrivals; is = c.is; resumes = c.resumes; kept = c.kept; may = c.may; early = c.early; untold = c.untold; distinct = c.distinct };
    }

-- what each side keeps, by which of them reads
abbrev pub keeping_so : Side → World → List Delivery → List Delivery → KeepingWorld
keeping_so Client w mine ds = record { world = w; at_client = ds; at_server = mine }
keeping_so Server w mine ds = record { world = w; at_client = mine; at_server = ds }

pub standing_of : (setup : Setup) (w : World) (side : Side) (mine ds : List Delivery) (f g x : EndpointHistory) (arrivals : List Arrival) → Reading setup w side mine ds f g arrivals → x ≡ record f { kept = arrivals }
    → StandsKeeping setup (keeping_so side w mine ds) (ends_of side x g)
standing_of setup w Client mine ds f g x arrivals r is =
    record {
      behind = ends_of Client r.er r.ew;
      stands = stands_of setup w Client r.er r.ew r.two;
      client = record {
        held = r.here.held;
        incoming = r.here.incoming;
        arrivals = arrivals;
        is = is ∙ ap (λ (e : EndpointHistory). record e { kept = arrivals }) r.here.is;
        resumes = r.here.resumes;
        kept = r.here.kept;
        may = r.here.may;
        early = r.here.early;
        untold = r.here.untold;
        distinct = r.here.distinct;
      };
      server = record {
        held = r.there.held;
        incoming = r.there.incoming;
        arrivals = r.there.arrivals;
        is = r.there.is;
        resumes = r.there.resumes;
        kept = r.there.kept;
        may = r.there.may;
        early = r.there.early;
        untold = r.there.untold;
        distinct = r.there.distinct;
      };
    }
standing_of setup w Server mine ds f g x arrivals r is =
    record {
      behind = ends_of Server r.er r.ew;
      stands = stands_of setup w Server r.er r.ew r.two;
      server = record {
        held = r.here.held;
        incoming = r.here.incoming;
        arrivals = arrivals;
        is = is ∙ ap (λ (e : EndpointHistory). record e { kept = arrivals }) r.here.is;
        resumes = r.here.resumes;
        kept = r.here.kept;
        may = r.here.may;
        early = r.here.early;
        untold = r.here.untold;
        distinct = r.here.distinct;
      };
      client = record {
        held = r.there.held;
        incoming = r.there.incoming;
        arrivals = r.there.arrivals;
        is = r.there.is;
        resumes = r.there.resumes;
        kept = r.there.kept;
        may = r.there.may;
        early = r.there.early;
        untold = r.there.untold;
        distinct = r.there.distinct;
      };
    }
