-- A pull whose answer is not settled reads all that its side keeps, and happens where that has been read.
use Rattle.std.proofs.Common.{◌≡◌, ℕ, false, List, [], ◌∷◌, refl, sym, ap, ◌∙◌, subst, if◌then◌else◌, None}
use Rattle.h3_proto.specs.declared.stream.Side.{Side}
use Rattle.h3_proto.specs.declared.stream.Side.TheVariants.{Client, Server}
use Rattle.h3_connection.specs.declared.arrival.Arrival.{Arrival}
use Rattle.h3_connection.specs.declared.event.Pull.{Pull}
use Rattle.h3_connection.specs.Control.{Found}
use Rattle.h3_connection.specs.Endpoint.{EndpointHistory, kind_of}
use Rattle.h3_connection.specs.Keeping.{pulls, pulls_behind, pulled_after, read_all, settles, unkept}
use Rattle.h3_connection.specs.OwnIds.{other}
use Rattle.h3_connection.specs.Sending.{pull_at, pull_unless}
use Rattle.h3_connection.specs.StreamSets.{HaveDistinctIds}
use Rattle.h3_world.specs.declared.event.Event.TheVariants as event
use Rattle.h3_world.specs.declared.event.Answer.TheVariants as answer
use Rattle.h3_connection.specs.Coming.{fields_behind, fields_item, fields_of_kind}
use Rattle.h3_connection.specs.Lists.{listed_pull}
use Rattle.h3_world.specs.Pulling.{list_next}
use Rattle.h3_world.specs.Ends.{Ends, end_at, with_end, answered}
use Rattle.h3_world.specs.Setup.{IsMadeSetup, JudgesPlainly, Setup}
use Rattle.h3_world.specs.Step.{Step, IsExact}
use Rattle.h3_world.specs.World.{World}
use Rattle.h3_headline.specs.Cited.{Laws}
use Rattle.h3_headline.specs.ListEventLaws.{same_lists}
use Rattle.h3_headline.specs.PeerPullLaws.{plain_pull}
use Rattle.h3_headline.specs.PullEventLaws.{pull_on}
use Rattle.h3_headline.specs.SendingLaws.{both_of}
use Rattle.h3_headline.specs.Standing.{StandsAt, Stands}
use Rattle.h3_memory.specs.Kept.{Delivery, KeepingWorld, kept_at, with_kept, caught_up, is_settled}
use Rattle.h3_memory.specs.Keeping.{Keeps, StandsKeeping, EachResumes, ahead, held_of}
use Rattle.h3_memory.specs.MemoryStep.{Pulls as PullsKeeping}
use Rattle.h3_memory.specs.Writing.{WritesOn}
use Rattle.h3_memory.proofs.AheadPulls.{PullsAhead, pull_at_ahead, settles_ahead}
use Rattle.h3_memory.proofs.CatchesUp.{ReadsAll, keeping_so, reading_of, reads_all, standing_of}
use Rattle.h3_memory.proofs.Growing.{kept_on, may_on}
use Rattle.h3_memory.proofs.KeptLaws.{KeptLaws}
use Rattle.h3_memory.proofs.ListsAhead.{lists_ahead}
use Rattle.h3_memory.proofs.PullSpares.{Spares, pulls_spare}
use Rattle.h3_memory.proofs.PullsLeave.{pull_leaves}
use Rattle.h3_memory.proofs.ReadingEnds.{Two, ends_of, stands_of, two_of}
use Rattle.h3_memory.proofs.ReadingState.{Reading, WritesAt}
use Rattle.h3_memory.proofs.SendingEvents.{keeps_at}
use Rattle.h3_memory.proofs.SettledPull.{PullAnswered}
use Rattle.h3_memory.proofs.Settling.{settles_there}
use Rattle.h3_memory.proofs.Written.{leaves_at}

-- The writer, where its reader handed something out.
pub writes_on : (setup : Setup) (u v : World) (side : Side) (mine ds : List Delivery) (ew g : EndpointHistory) → WritesOn setup u v side → WritesAt setup u side mine ds ew g → WritesAt setup v side mine ds ew g
writes_on setup u v side mine ds ew g on t =
    record {
      held = t.held;
      incoming = t.incoming;
      arrivals = t.arrivals;
      is = t.is;
      resumes = t.resumes;
      kept = kept_on setup u v side (held_of side t.held) mine t.arrivals on t.may t.kept;
      may = may_on setup u v side mine on t.may;
      early = t.early;
      untold = λ i e. t.untold i (sym (on.came i) ∙ e);
      distinct = t.distinct;
    }

pub two_after : (setup : Setup) (v : World) (side : Side) (er ew y : EndpointHistory) → Stands setup v (with_end (ends_of side er ew) side y) → Two setup v side y ew
two_after setup v Client er ew y h = two_of setup v Client (ends_of Client y ew) h
two_after setup v Server er ew y h = two_of setup v Server (ends_of Server y ew) h

pub at_reader : (side : Side) (er ew : EndpointHistory) → end_at (ends_of side er ew) side ≡ er
at_reader Client er ew = refl
at_reader Server er ew = refl

-- the same kept in two ways
pub keeping_is : (k : KeepingWorld) (side : Side) (v : World) → keeping_so side v (kept_at k (other side)) [] ≡ with_kept k side v []
keeping_is k Client v = refl
keeping_is k Server v = refl

pub world_is : (k : KeepingWorld) (side : Side) (v : World) → (with_kept k side v []).world ≡ v
world_is k Client v = refl
world_is k Server v = refl

pub ends_are : (ends : Ends) (side : Side) (x : EndpointHistory) → ends_of side x (end_at ends (other side)) ≡ with_end ends side x
ends_are ends Client x = refl
ends_are ends Server x = refl

module _ (qpack : KeptLaws) (laws : Laws) (setup : Setup) (made : IsMadeSetup setup) (plain : JudgesPlainly setup) (k : KeepingWorld) (ends : Ends) (h : StandsKeeping setup k ends) (side : Side) (id : ℕ) where
  abbrev b : EndpointHistory
  b = end_at h.behind side

  abbrev e : EndpointHistory
  e = end_at ends side

  abbrev g : EndpointHistory
  g = end_at ends (other side)

  abbrev mine : List Delivery
  mine = kept_at k (other side)

  abbrev u : World
  u = caught_up setup k side

  abbrev c : Keeps setup k side (end_at h.behind side) (end_at ends side)
  c = keeps_at setup k ends side h

  here : StandsAt setup k.world side (end_at h.behind side)
  here = (both_of setup k.world side h.behind h.stands).here

  not_settled : is_settled k.world side id ≡ false → settles (end_at ends side) id ≡ false
  not_settled open_still =
      ap (λ x. settles x id) c.is ∙ settles_ahead mine c.held c.arrivals b c.incoming id (subst (λ s. EachResumes s b.announced b.incoming c.incoming) (sym here.side_is) c.resumes)
      ∙ settles_there setup k.world side id b here h.stands.sound ∙ open_still

  -- It is a pull where all has been read.
  pulls_read : (next : EndpointHistory) → read_all (end_at ends side).kept (unkept (end_at ends side)) ≡ (next, None) → settles (end_at ends side) id ≡ false → pulls (end_at ends side) id ≡ pull_at next id (kind_of next.side id)
  pulls_read next all open_still = by_kept e.kept refl all
    where
      closed : (end_at ends side).closed ≡ None
      closed = ap (λ (x : EndpointHistory). x.closed) c.is ∙ here.no_fault

      by_kept : (l : List Arrival) → (end_at ends side).kept ≡ l → read_all l (unkept (end_at ends side)) ≡ (next, None) → pulls_behind l (end_at ends side) id ≡ pull_at next id (kind_of next.side id)
      by_kept [] none all =
          let same : e ≡ next = ap (λ l. record e { kept = l }) none ∙ ap (λ (x : Found). x.0) all in
          ap (λ x. pull_unless x e (pull_at e id (kind_of e.side id))) closed ∙ ap (λ x. pull_at x id (kind_of x.side id)) same
      by_kept (a ∷ l) none all =
          ap (λ x. pull_unless x e (if settles e id then pull_at e id (kind_of e.side id) else pulled_after (read_all (a ∷ l) (unkept e)) id)) closed
          ∙ ap (λ t. if t then pull_at e id (kind_of e.side id) else pulled_after (read_all (a ∷ l) (unkept e)) id) open_still
          ∙ ap (λ x. pulled_after x id) all

  all : ReadsAll setup k.world side (kept_at k (other side)) (kept_at k side) (unkept (end_at ends side)) (end_at ends (other side)) (end_at ends side).kept
  all = reads_all qpack laws setup k.world side (kept_at k (other side)) (kept_at k side) (unkept (end_at ends side)) (end_at ends (other side)) (end_at ends side).kept made (reading_of setup k ends side h)

  -- What is pulled of the endpoint behind that has read all, and of the one ahead of it.
  record PullsRead (next : EndpointHistory) (r : Reading setup (caught_up setup k side) side (kept_at k (other side)) [] next (end_at ends (other side)) []) : Type 0 where
    alike : PullsAhead (kept_at k (other side)) r.here.held [] r.er r.er.incoming r.here.incoming (pulls r.er id) (pull_at next id (kind_of next.side id))
    spares : Spares r.er (pulls r.er id).1

  pulled_read : (next : EndpointHistory) (r : Reading setup (caught_up setup k side) side (kept_at k (other side)) [] next (end_at ends (other side)) []) → PullsRead next r
  pulled_read next r =
      let at = r.two.both.here in
      let y = ahead r.er mine r.here.held r.here.incoming [] in
      let same : pulls r.er id ≡ pull_at r.er id (kind_of r.er.side id) = plain_pull setup u side id r.er at ∙ ap (λ s. pull_at r.er id (kind_of s id)) (sym at.side_is) in
      record {
        alike = subst (λ x. PullsAhead mine r.here.held [] r.er r.er.incoming r.here.incoming (pulls r.er id) (pull_at x id (kind_of x.side id))) (sym r.here.is)
            (subst (λ x. PullsAhead mine r.here.held [] r.er r.er.incoming r.here.incoming x (pull_at y id (kind_of y.side id))) (sym same)
            (pull_at_ahead mine r.here.held [] r.er r.here.incoming id (kind_of r.er.side id) (subst (λ s. EachResumes s r.er.announced r.er.incoming r.here.incoming) (sym at.side_is) r.here.resumes)));
        spares = pulls_spare r.er id at.nothing_kept;
      }

  -- both, after it
  reading_after : (next : EndpointHistory) (r : Reading setup (caught_up setup k side) side (kept_at k (other side)) [] next (end_at ends (other side)) []) (p : PullsRead next r) (v : World)
      → Stands setup v (with_end (ends_of side r.er r.ew) side (pulls r.er id).1) → WritesOn setup (caught_up setup k side) v side
      → Reading setup v side (kept_at k (other side)) [] (ahead (pulls r.er id).1 (kept_at k (other side)) r.here.held p.alike.incoming []) (end_at ends (other side)) []
  reading_after next r p v stands on =
      let x = (pulls r.er id).1 in
      record {
        er = x;
        ew = r.ew;
        two = two_after setup v side r.er r.ew x stands;
        here = record {
          held = r.here.held;
          incoming = p.alike.incoming;
          is = refl;
          resumes = subst (λ s. EachResumes s x.announced x.incoming p.alike.incoming) r.two.both.here.side_is (subst (λ a. EachResumes r.er.side a x.incoming p.alike.incoming) (sym p.spares.announced) p.alike.resumes);
          kept = r.here.kept;
          may = tt;
          early = λ unknown. r.here.early (ap (λ q. q.settings) (sym p.spares.peer) ∙ unknown);
          untold = λ i none. r.here.kept i;
          distinct = subst HaveDistinctIds (sym p.spares.outgoing) r.here.distinct;
        };
        there = writes_on setup u v side mine [] r.ew g on r.there;
      }

  pub unsettled_answered : is_settled k.world side id ≡ false → PullAnswered setup k ends side (event.Pull side id)
  unsettled_answered open_still =
      let next = all.next in
      let r = all.then_reads in
      let p = pulled_read next r in
      let x = pulls r.er id in
      let behind = ends_of side r.er r.ew in
      let y = ahead x.1 mine r.here.held p.alike.incoming [] in
      let on = pull_on laws setup u behind side id made plain (stands_of setup u side r.er r.ew r.two) in
      let v = on.new in
      let reader = at_reader side r.er r.ew in
      let answer_there : (answered behind (event.Pull side id)).0 ≡ answer.Pulled x.0 = ap (λ z. answer.Pulled (pulls z id).0) reader in
      let stands : Stands setup v (with_end behind side x.1) = subst (λ z. Stands setup v (with_end behind side (pulls z id).1)) reader on.stands in
      let step : Step setup u (event.Pull side id) (answer.Pulled x.0) v = subst (λ a. Step setup u (event.Pull side id) a v) answer_there on.happens.step in
      let is : pulls e id ≡ (x.0, y) = pulls_read next all.reads (not_settled open_still) ∙ p.alike.is in
      let given : (answered ends (event.Pull side id)).0 ≡ answer.Pulled x.0 = ap (λ (z : Pull × EndpointHistory). answer.Pulled z.0) is in
      let left : (answered ends (event.Pull side id)).1 ≡ with_end ends side y = ap (λ (z : Pull × EndpointHistory). with_end ends side z.1) is in
      let on_side = leaves_at setup u v side (pull_leaves setup u v side id (answer.Pulled x.0) step) in
      let read = reading_after next r p v stands on_side in
      let new = with_kept k side v [] in
      record {
        new = new;
        step = subst (λ t. PullsKeeping setup k side (event.Pull side id) t (answered ends (event.Pull side id)).0 new) (sym open_still)
            (subst (λ a. Step setup u (event.Pull side id) a new.world) (sym given) (subst (Step setup u (event.Pull side id) (answer.Pulled x.0)) (sym (world_is k side v)) step), ap (λ w. with_kept k side w []) (sym (world_is k side v)));
        exact = subst (IsExact u (event.Pull side id)) (answer_there ∙ sym given) on.happens.exact;
        stands = subst (StandsKeeping setup new) (ends_are ends side y ∙ sym left)
            (subst (λ m. StandsKeeping setup m (ends_of side y g)) (keeping_is k side v) (standing_of setup v side mine [] y g y [] read refl));
      }

  -- The list that comes next behind what is kept.
  read_lists : (next : EndpointHistory) → read_all (end_at ends side).kept (unkept (end_at ends side)) ≡ (next, None) → settles (end_at ends side) id ≡ false → fields_behind (end_at ends side).kept (end_at ends side) id ≡ fields_item next id
  read_lists next all open_still = by_kept e.kept refl all
    where
      by_kept : (l : List Arrival) → (end_at ends side).kept ≡ l → read_all l (unkept (end_at ends side)) ≡ (next, None) → fields_behind l (end_at ends side) id ≡ fields_item next id
      by_kept [] none all =
          let same : e ≡ next = ap (λ l. record e { kept = l }) none ∙ ap (λ (x : Found). x.0) all in
          ap (λ x. fields_item x id) same
      by_kept (a ∷ l) none all =
          ap (λ t. if t then fields_item e id else fields_item (read_all (a ∷ l) (unkept e)).0 id) open_still ∙ ap (λ (x : Found). fields_item x.0 id) all

  -- **The answer with it is that with the list that is next in the world,** where all that is kept has been read.
  pub unsettled_lists : is_settled k.world side id ≡ false
      → listed_pull (fields_behind (end_at ends side).kept (end_at ends side) id) (pulls (end_at ends side) id).0 ≡ listed_pull (list_next setup (caught_up setup k side) side id) (pulls (end_at ends side) id).0
  unsettled_lists open_still =
      let next = all.next in
      let r = all.then_reads in
      let p = pulled_read next r in
      let x = pulls r.er id in
      let at = r.two.both.here in
      let stands = stands_of setup u side r.er r.ew r.two in
      let on = pull_on laws setup u (ends_of side r.er r.ew) side id made plain stands in
      let answer_there : (answered (ends_of side r.er r.ew) (event.Pull side id)).0 ≡ answer.Pulled x.0 = ap (λ z. answer.Pulled (pulls z id).0) (at_reader side r.er r.ew) in
      let step : Step setup u (event.Pull side id) (answer.Pulled x.0) on.new = subst (λ a. Step setup u (event.Pull side id) a on.new) answer_there on.happens.step in
      let exact : IsExact u (event.Pull side id) (answer.Pulled x.0) = subst (IsExact u (event.Pull side id)) answer_there on.happens.exact in
      let is : (pulls e id).0 ≡ x.0 = ap (λ (z : Pull × EndpointHistory). z.0) (pulls_read next all.reads (not_settled open_still) ∙ p.alike.is) in
      let kind = kind_of r.er.side id in
      let y = ahead r.er mine r.here.held r.here.incoming [] in
      let same : pulls r.er id ≡ pull_at r.er id kind = plain_pull setup u side id r.er at ∙ ap (λ s. pull_at r.er id (kind_of s id)) (sym at.side_is) in
      let there : listed_pull (fields_item y id) x.0 ≡ listed_pull (fields_item r.er id) x.0 =
      subst (λ (q : Pull × EndpointHistory). listed_pull (fields_of_kind y id kind) q.0 ≡ listed_pull (fields_of_kind r.er id kind) q.0) (sym same)
      (lists_ahead mine r.here.held [] r.er r.here.incoming id kind (subst (λ s. EachResumes s r.er.announced r.er.incoming r.here.incoming) (sym at.side_is) r.here.resumes)) in
      let nothing : fields_item r.er id ≡ fields_behind r.er.kept r.er id = ap (λ l. fields_behind l r.er id) (sym at.nothing_kept) in
      subst (λ q. listed_pull (fields_behind e.kept e id) q ≡ listed_pull (list_next setup u side id) q) (sym is)
      (ap (λ o. listed_pull o x.0) (read_lists next all.reads (not_settled open_still) ∙ ap (λ z. fields_item z id) r.here.is)
      ∙ there ∙ ap (λ o. listed_pull o x.0) nothing
      ∙ same_lists laws setup u on.new side id r.er x.0 made at stands.sound step exact)
