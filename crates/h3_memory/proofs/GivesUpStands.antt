-- Two endpoints of which one reads all that it keeps, and gives a stream up, stand in the world without it.
use Rattle.std.proofs.Common.{◌≡◌, ℕ, Bool, true, false, List, [], refl, ap, sym, ◌∙◌, subst, Option, Some, None}
use Rattle.h3_proto.specs.declared.stream.Side.{Side}
use Rattle.h3_connection.specs.Control.{Found}
use Rattle.h3_connection.specs.Endpoint.{EndpointHistory}
use Rattle.h3_connection.specs.Incoming.{Incoming}
use Rattle.h3_connection.specs.Keeping.{read_all, unkept}
use Rattle.h3_connection.specs.OwnIds.{other}
use Rattle.h3_connection.specs.PartReading.{Resumes}
use Rattle.h3_connection.specs.StreamSets.{set_stream, stream_at}
use Rattle.h3_connection.specs.declared.event.StreamFault.{StreamFault}
use Rattle.h3_world.specs.Ends.{Ends, end_at, with_end}
use Rattle.h3_world.specs.Pulling.{settled}
use Rattle.h3_world.specs.Sending.{given_up}
use Rattle.h3_world.specs.Setup.{IsMadeSetup, Setup}
use Rattle.h3_world.specs.Order.{is_over}
use Rattle.h3_world.specs.Streams.{flow, is_open}
use Rattle.h3_world.specs.World.{World}
use Rattle.h3_headline.specs.CancelLaws.{given_up_stands}
use Rattle.h3_headline.specs.Cited.{Laws}
use Rattle.h3_headline.specs.ComingLaws.{incoming_none, incoming_there}
use Rattle.h3_headline.specs.FlowLaws.{open_there}
use Rattle.h3_headline.specs.GivenUp.{IsGone, giving_up, gone}
use Rattle.h3_headline.specs.PullLaws.{none_settled}
use Rattle.h3_headline.specs.Standing.{ReceivesFlow, Stands}
use Rattle.h3_memory.specs.Kept.{Delivery, KeepingWorld, caught_up, kept_at, with_kept}
use Rattle.h3_memory.specs.Keeping.{StandsKeeping}
use Rattle.h3_memory.proofs.AheadPulls.{ResumesAt, at_resumed, resumes_itself, set_resumed}
use Rattle.h3_memory.proofs.CatchesUp.{ReadsAll, reading_of, reads_all, standing_of}
use Rattle.h3_memory.proofs.GivesUpKept.{GivingSound}
use Rattle.h3_memory.proofs.KeptLaws.{KeptLaws}
use Rattle.h3_memory.proofs.ReadingEnds.{ends_of, stands_of}
use Rattle.h3_memory.proofs.ReadingState.{Reading}
use Rattle.h3_memory.proofs.SendsLeave.{given_leaves}
use Rattle.h3_memory.proofs.UnsettledPull.{at_reader, ends_are, keeping_is, two_after, writes_on}
use Rattle.h3_memory.proofs.Written.{leaves_at}

-- What is there of the stream once all is read.
record IsThereOpen (setup : Setup) (w : World) (side : Side) (id : ℕ) (i : Incoming) : Type 0 where
  opened : is_open w side id ≡ true
  alive : (flow w (other side) id).fault ≡ None
  unsettled : settled w side id ≡ None
  old : Incoming
  receives : ReceivesFlow (flow w (other side) id) old
  same : i ≡ record old { unread = i.unread; section = i.section; body_left = i.body_left; content = i.content }

module _ (qpack : KeptLaws) (laws : Laws) (giving : GivingSound) (setup : Setup) (k : KeepingWorld) (ends : Ends) (side : Side) (id : ℕ) (fault : StreamFault) (made : IsMadeSetup setup) (h : StandsKeeping setup k ends) where
  abbrev e : EndpointHistory
  e = end_at ends side

  abbrev g : EndpointHistory
  g = end_at ends (other side)

  abbrev mine : List Delivery
  mine = kept_at k (other side)

  abbrev u : World
  u = caught_up setup k side

  abbrev v : World
  v = given_up (caught_up setup k side) side id fault

  all : ReadsAll setup k.world side (kept_at k (other side)) (kept_at k side) (unkept (end_at ends side)) (end_at ends (other side)) (end_at ends side).kept
  all = reads_all qpack laws setup k.world side (kept_at k (other side)) (kept_at k side) (unkept (end_at ends side)) (end_at ends (other side)) (end_at ends side).kept made (reading_of setup k ends side h)

  there_open : (next : EndpointHistory) (r : Reading setup (caught_up setup k side) side (kept_at k (other side)) [] next (end_at ends (other side)) []) (i : Incoming) → stream_at next.incoming id ≡ Some i → i.fault ≡ None → i.is_over ≡ false
      → IsThereOpen setup (caught_up setup k side) side id i
  there_open next r i at alive goes = by_open (is_open u side id) refl
    where
      alike : ResumesAt side r.er.announced id (stream_at r.er.incoming id) (Some i)
      alike =
          subst (ResumesAt side r.er.announced id (stream_at r.er.incoming id)) (sym (ap (λ (f : EndpointHistory). stream_at f.incoming id) r.here.is) ∙ at)
          (at_resumed side r.er.announced r.er.incoming r.here.incoming id r.here.resumes)

      by_open : (b : Bool) → is_open u side id ≡ b → IsThereOpen setup u side id i
      by_open false closed = absurd (subst (λ o. ResumesAt side r.er.announced id o (Some i)) (incoming_none setup u side id r.er r.two.both.here closed) alike)
      by_open true opened =
          let there = incoming_there setup u side id r.er r.two.both.here opened in
          let resumes : Resumes side r.er.announced id there.0 i = subst (λ o. ResumesAt side r.er.announced id o (Some i)) there.1 alike in
          let lives : (flow u (other side) id).fault ≡ None = sym there.2.fault ∙ sym (ap (λ (y : Incoming). y.fault) resumes.same) ∙ alive in
          let on : is_over (flow u (other side) id) ≡ false = sym there.2.is_over ∙ sym (ap (λ (y : Incoming). y.is_over) resumes.same) ∙ goes in
          record { opened = opened; alive = lives; unsettled = none_settled u side id opened lives on; old = there.0; receives = there.2; same = resumes.same }

  -- what is left of the stream
  is_gone : (j i x : Incoming) → ReceivesFlow (flow u (other side) id) j → i ≡ record j { unread = i.unread; section = i.section; body_left = i.body_left; content = i.content } → IsGone i x fault
      → ReceivesFlow (gone (flow u (other side) id) fault) x
  is_gone j i x r same left =
      record {
        fault = left.told;
        ended = left.ended ∙ ap (λ (y : Incoming). y.ended) same ∙ r.ended;
        was_reset = left.was_reset ∙ ap (λ (y : Incoming). y.was_reset) same ∙ r.was_reset;
        is_over = left.is_over ∙ ap (λ (y : Incoming). y.is_over) same ∙ r.is_over;
        waits_for = left.waits_for;
        reads = λ none. absurd (lost none);
        given_up = λ some. record { unread = left.unread; section = left.section; waits = left.waits_for };
      }
    where
      lost : ◌≡◌ {A = Option StreamFault} (Some fault) None → ⊥
      lost none = cc

  -- both, once the stream is given up
  reading_gone : (next : EndpointHistory) (r : Reading setup (caught_up setup k side) side (kept_at k (other side)) [] next (end_at ends (other side)) []) (i x : Incoming) → IsThereOpen setup (caught_up setup k side) side id i → IsGone i x fault
      → Reading setup (given_up (caught_up setup k side) side id fault) side (kept_at k (other side)) [] (giving_up next id x) (end_at ends (other side)) []
  reading_gone next r i x there left =
      let behind = ends_of side r.er r.ew in
      let stands = stands_of setup u side r.er r.ew r.two in
      let keeps = is_gone there.old i x there.receives there.same left in
      let gone_stands : Stands setup v (with_end behind side (giving_up r.er id x)) =
      subst (λ z. Stands setup v (with_end behind side (giving_up z id x))) (at_reader side r.er r.ew)
      (given_up_stands setup u behind side id stands there.opened fault x (giving setup u side id fault stands.sound there.opened there.alive) keeps) in
      let on = leaves_at setup u v side (given_leaves setup u side id fault (open_there u side id there.opened)) in
      record {
        er = giving_up r.er id x;
        ew = r.ew;
        two = two_after setup v side r.er r.ew (giving_up r.er id x) gone_stands;
        here = record {
          held = r.here.held;
          incoming = set_stream r.here.incoming id x;
          is = ap (λ f. giving_up f id x) r.here.is;
          resumes = set_resumed side r.er.announced r.er.incoming r.here.incoming id x x r.here.resumes (resumes_itself side r.er.announced id x);
          kept = r.here.kept;
          may = tt;
          early = r.here.early;
          untold = λ n none. r.here.kept n;
          distinct = r.here.distinct;
        };
        there = writes_on setup u v side mine [] r.ew g on r.there;
      }

  -- **So they stand.**
  pub gives_up_stands : (next : EndpointHistory) (i x : Incoming) → read_all (end_at ends side).kept (unkept (end_at ends side)) ≡ (next, None) → stream_at next.incoming id ≡ Some i → i.fault ≡ None → i.is_over ≡ false → IsGone i x fault
      → (settled (caught_up setup k side) side id ≡ None) × StandsKeeping setup (with_kept k side (given_up (caught_up setup k side) side id fault) []) (with_end ends side (giving_up next id x))
  gives_up_stands next i x reads at alive goes left =
      let same : all.next ≡ next = ap (λ (f : Found). f.0) (sym all.reads ∙ reads) in
      let r = subst (λ n. Reading setup u side mine [] n g []) same all.then_reads in
      let there = there_open next r i at alive goes in
      let y = giving_up next id x in
      let read = reading_gone next r i x there left in
      let nothing : y ≡ record y { kept = [] } = ap (λ l. record y { kept = l }) (ap (λ (f : EndpointHistory). f.kept) r.here.is) in (
        there.unsettled,
        subst (StandsKeeping setup (with_kept k side v [])) (ends_are ends side y)
            (subst (λ m. StandsKeeping setup m (ends_of side y g)) (keeping_is k side v) (standing_of setup v side mine [] y g y [] read nothing)),
      )
