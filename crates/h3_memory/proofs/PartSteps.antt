-- One step of reading that a refused allocation may have cut short: a whole arrival, a front of one, and a part of what is held of an own stream.
use Rattle.std.proofs.Common.{◌≡◌, ℕ, ◌+◌, true, List, [], ◌∷◌, ◌++◌, length, refl, sym, ap, ◌∙◌, subst, append-nil}
use Rattle.h3_proto.specs.declared.stream.Side.{Side}
use Rattle.h3_connection.specs.declared.arrival.Arrival.{Arrival}
use Rattle.h3_connection.specs.declared.arrival.Arrival.TheVariants.{BytesCame}
use Rattle.h3_connection.specs.Control.{Found}
use Rattle.h3_connection.specs.Endpoint.{EndpointHistory}
use Rattle.h3_connection.specs.Incoming.{Incoming}
use Rattle.h3_connection.specs.Keeping.{read_arrival}
use Rattle.h3_connection.specs.Outgoing.{Outgoing}
use Rattle.h3_connection.specs.OwnIds.{other, is_own}
use Rattle.h3_connection.specs.StreamSets.{HaveDistinctIds, Streams}
use Rattle.h3_world.specs.Delivering.{is_closed}
use Rattle.h3_world.specs.Setup.{IsMadeSetup, Setup}
use Rattle.h3_world.specs.World.{World}
use Rattle.h3_headline.specs.Cited.{Laws}
use Rattle.h3_memory.specs.Kept.{Delivery, Bytes, End, Reset, read_delivery, ReadsPart, Reads, Cuts}
use Rattle.h3_memory.specs.Keeping.{EachResumes, MayAllBeRead, ahead, came_of, held_of, text_of}
use Rattle.h3_memory.proofs.BehindOwn.{BehindReads, found_as}
use Rattle.h3_memory.proofs.BehindReads.{behind_reads}
use Rattle.h3_memory.proofs.CutReading.{InTwo, cut_arrival, in_two}
use Rattle.h3_memory.proofs.KeptLaws.{KeptLaws}
use Rattle.h3_memory.proofs.OwnAhead.{own_kind, streams_of, unidirectional_leaves}
use Rattle.h3_memory.proofs.PartsHeld.{holding, part_held}
use Rattle.h3_memory.proofs.ReadAll.{two_readable}
use Rattle.h3_memory.proofs.ReadingState.{Reading, WritesAt}
use Rattle.h3_memory.proofs.ReadsWhole.{reads_first}

-- A step of the real reader, and what it is in the world.
pub record PartStep (setup : Setup) (w : World) (side : Side) (mine ds : List Delivery) (f g : EndpointHistory) (arrivals : List Arrival) : Type 0 where
  pub world : World
  pub left : List Delivery
  pub goes : (new : World) (rest : List Delivery) → ReadsPart setup (other side) world left new rest → ReadsPart setup (other side) w ds new rest
  pub reading : Reading setup world side mine left f g arrivals

-- it reads nothing
pub stays : (setup : Setup) (w : World) (side : Side) (mine ds : List Delivery) (f g : EndpointHistory) (arrivals : List Arrival) → Reading setup w side mine ds f g arrivals → PartStep setup w side mine ds f g arrivals
stays setup w side mine ds f g arrivals r = record { world = w; left = ds; goes = λ new rest p. p; reading = r }

-- the same, where the first delivery is of so many bytes
abbrev pub sized : (setup : Setup) (w : World) (side : Side) (mine : List Delivery) (id count n : ℕ) (ds : List Delivery) (f g : EndpointHistory) (arrivals : List Arrival) → count ≡ n → Reading setup w side mine (Bytes id count ∷ ds) f g arrivals
    → Reading setup w side mine (Bytes id n ∷ ds) f g arrivals
sized setup w side mine id count n ds f g arrivals e r =
    record {
      er = r.er;
      ew = r.ew;
      two = r.two;
      here = record {
        held = r.here.held;
        incoming = r.here.incoming;
        is = r.here.is;
        resumes = r.here.resumes;
        kept = subst (λ k. Rattle.h3_memory.specs.Keeping.AreKept (text_of setup w (other side)) (came_of w (other side)) (held_of (other side) r.here.held) (Bytes id k ∷ ds) arrivals) e r.here.kept;
        may = subst (λ k. MayAllBeRead setup w (other side) (came_of w (other side)) (is_closed w (other side)) (Bytes id k ∷ ds)) e r.here.may;
        early = r.here.early;
        untold = r.here.untold;
        distinct = r.here.distinct;
      };
      there = subst (λ k. WritesAt setup w side mine (Bytes id k ∷ ds) r.ew g) e r.there;
    }

module _ (qpack : KeptLaws) (laws : Laws) (setup : Setup) (w : World) (side : Side) (mine : List Delivery) (f g : EndpointHistory) (made : IsMadeSetup setup) where
  abbrev s : Side
  s = other side

  -- **The first arrival, whole.**
  pub whole_step : (new : EndpointHistory) (ds : List Delivery) (a : Arrival) (more : List Arrival) → Reading setup w side mine ds f g (a ∷ more) → read_arrival f a ≡ found_as new → PartStep setup w side mine ds new g more
  whole_step new [] a more r reads = absurd r.here.kept
  whole_step new (d ∷ ds) a more r reads =
      let first = reads_first qpack laws setup w side mine f g made d ds a more r in
      let same : first.next ≡ new = ap (λ (x : Found). x.0) (sym first.reads ∙ reads) in
      record {
        world = read_delivery setup w s d;
        left = ds;
        goes = λ v rest p. Reads d p;
        reading = subst (λ x. Reading setup (read_delivery setup w s d) side mine ds x g more) same first.then_reads;
      }

  -- **A front of its bytes.**
  pub front_step : (new : EndpointHistory) (ds : List Delivery) (id : ℕ) (front rest : List ℕ) (more : List Arrival) → Reading setup w side mine ds f g (BytesCame id (front ++ rest) ∷ more)
      → read_arrival f (BytesCame id front) ≡ found_as new → PartStep setup w side mine ds new g (BytesCame id rest ∷ more)
  front_step new [] id front rest more r reads = absurd r.here.kept
  front_step new (End q ∷ ds) id front rest more r reads = absurd r.here.kept
  front_step new (Reset q ∷ ds) id front rest more r reads = absurd r.here.kept
  front_step new (Bytes q count ∷ ds) id front rest more r reads =
      let c = cut_arrival setup w side mine q count ds f g id front rest more r in
      let p = whole_step new (Bytes q c.first ∷ Bytes q c.second ∷ ds) (BytesCame id front) (BytesCame id rest ∷ more) c.reading reads in
      record {
        world = p.world;
        left = p.left;
        goes = λ v left then_goes. subst (λ k. ReadsPart setup s w (Bytes q k ∷ ds) v left) (sym c.size) (Cuts q c.first c.second (p.goes v left then_goes));
        reading = p.reading;
      }

  -- **A part of what is held of an own stream, by what the one behind reads of it.**
  pub own_part : (new : EndpointHistory) (q count : ℕ) (ds : List Delivery) (i : ℕ) (read left : List ℕ) (more : List Arrival) → is_own s q ≡ true → (came_of w s q ≡ 0 → ⊥)
      → (r : Reading setup w side mine (Bytes q count ∷ ds) f g (BytesCame i [] ∷ more)) → held_of s r.here.held q ≡ read ++ left
      → new ≡ ahead (read_arrival r.er (BytesCame q read)).0 mine (holding s r.here.held q left) r.here.incoming [] → PartStep setup w side mine (Bytes q count ∷ ds) new g (BytesCame i [] ∷ more)
  own_part new q count ds i read left more own told r all is =
      record {
        world = read_delivery setup w s (Bytes q n);
        left = Bytes q m ∷ ds;
        goes = λ v rest p. subst (λ k. ReadsPart setup s w (Bytes q k ∷ ds) v rest) (sym two.size) (Cuts q n m (Reads (Bytes q n) p));
        reading = part_held qpack setup w side mine q n m ds f g new i [] read left left [] more own told z (append-nil (held_of s r.here.held q) ∙ all) two_now refl refl (append-nil left) b
            (is ∙ ap (λ (x : Found). ahead x.0 mine (holding s r.here.held q left) r.here.incoming []) reads) resumes distinct;
      }
    where
      n : ℕ
      n = length read

      m : ℕ
      m = length left

      two : InTwo (text_of setup w s q) (came_of w s q) count read left
      two = in_two (text_of setup w s q) (came_of w s q) count read left r.here.may.2 (sym all ∙ sym (append-nil (held_of s r.here.held q)) ∙ r.here.kept.1)

      z : Reading setup w side mine (Bytes q (n + m) ∷ ds) f g (BytesCame i [] ∷ more)
      z = sized setup w side mine q count (n + m) ds f g (BytesCame i [] ∷ more) two.size r

      two_now : InTwo (text_of setup w s q) (came_of w s q) (n + m) read left
      two_now = record { size = refl; first = two.first; second = two.second }

      b : BehindReads setup w side r.er r.ew (Bytes q n)
      b = behind_reads qpack laws setup w side r.er r.ew (Bytes q n) (Bytes q m ∷ ds) made r.two (two_readable setup w s q n m ds z.here.may)

      reads : read_arrival r.er (BytesCame q read) ≡ found_as b.after
      reads = ap (λ l. read_arrival r.er (BytesCame q l)) two.first ∙ b.reads

      same : streams_of b.after ≡ streams_of r.er
      same = sym (ap (λ (x : Found). streams_of x.0) reads) ∙ unidirectional_leaves r.er q read (own_kind setup w side r.er q r.two.both.here own)

      resumes : EachResumes side b.after.announced b.after.incoming r.here.incoming
      resumes =
          subst (λ l. EachResumes side b.after.announced l r.here.incoming) (sym (ap (λ (x : Streams Incoming × Streams Outgoing). x.0) same))
          (subst (λ p. EachResumes side p r.er.incoming r.here.incoming) (r.two.both.here.announced ∙ sym b.two.both.here.announced) r.here.resumes)

      distinct : HaveDistinctIds b.after.outgoing
      distinct = subst HaveDistinctIds (sym (ap (λ (x : Streams Incoming × Streams Outgoing). x.1) same)) r.here.distinct
