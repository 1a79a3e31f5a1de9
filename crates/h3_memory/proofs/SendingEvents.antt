-- A call of one endpoint with anything kept at either side: where the call of the one behind happens in the world, this one does, and both stand in
-- the world after it.
use Rattle.std.proofs.Common.{◌≡◌, ℕ, true, List, refl, sym, ap, ◌∙◌, subst, Option, Some, None}
use Rattle.h3_proto.specs.declared.stream.Side.{Side}
use Rattle.h3_proto.specs.declared.stream.Side.TheVariants.{Client, Server}
use Rattle.h3_connection.specs.declared.arrival.Arrival.{Arrival}
use Rattle.h3_connection.specs.Endpoint.{EndpointHistory}
use Rattle.h3_connection.specs.Incoming.{Incoming}
use Rattle.h3_connection.specs.OwnIds.{other}
use Rattle.h3_connection.specs.StreamSets.{HaveDistinctIds, Streams}
use Rattle.h3_connection.specs.declared.event.Refusal.{Refusal}
use Rattle.h3_connection.specs.declared.event.Refusal.TheVariants as refusal
use Rattle.h3_connection.specs.declared.event.Pull.TheVariants as pull
use Rattle.h3_connection.specs.declared.event.Fault.TheVariants as fault
use Rattle.h3_connection.specs.declared.lists.ListPull.TheVariants as list
use Rattle.h3_world.specs.Setup.{Setup}
use Rattle.h3_world.specs.declared.event.Answer.{Answer}
use Rattle.h3_world.specs.declared.event.Answer.TheVariants as answer
use Rattle.h3_world.specs.Delivering.{is_closed}
use Rattle.h3_world.specs.Ends.{Ends, end_at, with_end, done}
use Rattle.h3_world.specs.Headline.{is_out_of_memory}
use Rattle.h3_world.specs.World.{World}
use Rattle.h3_headline.specs.Standing.{Stands}
use Rattle.h3_memory.specs.Kept.{Delivery, KeepingWorld, kept_at, with_world}
use Rattle.h3_memory.specs.Keeping.{Keeps, StandsKeeping, EachResumes, MayAllBeRead, AreKept, ahead, came_of, text_of, held_of}
use Rattle.h3_memory.specs.Writing.{WritesOn, LeavesKept}
use Rattle.h3_memory.proofs.CallsAhead.{CallAhead}
use Rattle.h3_memory.proofs.Growing.{may_on, kept_on}

abbrev pub keeps_at : (setup : Setup) (k : KeepingWorld) (ends : Ends) (side : Side) (h : StandsKeeping setup k ends) → Keeps setup k side (end_at h.behind side) (end_at ends side)
keeps_at setup k ends Client h = h.client
keeps_at setup k ends Server h = h.server

-- What a writer handed over, and the other side keeps, is left as it is.
pub record StaysKept (setup : Setup) (w v : World) (writer : Side) (ds : List Delivery) : Type 0 where
  pub may : MayAllBeRead setup w writer (came_of w writer) (is_closed w writer) ds → MayAllBeRead setup v writer (came_of v writer) (is_closed v writer) ds
  pub came : (i : ℕ) → came_of v writer i ≡ came_of w writer i
  pub kept : (held : ℕ → List ℕ) (arrivals : List Arrival) → MayAllBeRead setup w writer (came_of w writer) (is_closed w writer) ds
      → AreKept (text_of setup w writer) (came_of w writer) held ds arrivals → AreKept (text_of setup v writer) (came_of v writer) held ds arrivals

pub stays_on : (setup : Setup) (w v : World) (writer : Side) (ds : List Delivery) → WritesOn setup w v writer → StaysKept setup w v writer ds
stays_on setup w v writer ds on = record { may = may_on setup w v writer ds on; came = on.came; kept = λ held arrivals may kept. kept_on setup w v writer held ds arrivals on may kept }

-- What each side kept was left alone by the side and the other one.
pub record BothStay (setup : Setup) (k : KeepingWorld) (v : World) (side : Side) : Type 0 where
  pub mine : StaysKept setup k.world v side (kept_at k (other side))
  pub theirs : StaysKept setup k.world v (other side) (kept_at k side)

pub both_stay : (setup : Setup) (k : KeepingWorld) (v : World) (side : Side) → LeavesKept setup k.world v → BothStay setup k v side
both_stay setup k v Client h = record { mine = stays_on setup k.world v Client k.at_server h.client; theirs = stays_on setup k.world v Server k.at_client h.server }
both_stay setup k v Server h = record { mine = stays_on setup k.world v Server k.at_client h.server; theirs = stays_on setup k.world v Client k.at_server h.client }

-- An endpoint keeps what it kept.
pub keeps_on : (setup : Setup) (k : KeepingWorld) (v : World) (side : Side) (behind e x y : EndpointHistory) (h : Keeps setup k side behind e) (incoming : Streams Incoming)
    → y ≡ ahead x (kept_at k (other side)) h.held incoming h.arrivals → x.peer ≡ behind.peer → EachResumes side x.announced x.incoming incoming → HaveDistinctIds x.outgoing → StaysKept setup k.world v (other side) (kept_at k side)
    → Keeps setup (with_world k v) side x y
keeps_on setup k v Client behind e x y h incoming is peer resumes distinct stays =
    record {
      held = h.held;
      incoming = incoming;
      arrivals = h.arrivals;
      is = is;
      resumes = resumes;
      kept = stays.kept (held_of Server h.held) h.arrivals h.may h.kept;
      may = stays.may h.may;
      early = λ unknown. h.early (ap (λ p. p.settings) (sym peer) ∙ unknown);
      untold = λ i none. h.untold i (sym (stays.came i) ∙ none);
      distinct = distinct;
    }
keeps_on setup k v Server behind e x y h incoming is peer resumes distinct stays =
    record {
      held = h.held;
      incoming = incoming;
      arrivals = h.arrivals;
      is = is;
      resumes = resumes;
      kept = stays.kept (held_of Client h.held) h.arrivals h.may h.kept;
      may = stays.may h.may;
      early = λ unknown. h.early (ap (λ p. p.settings) (sym peer) ∙ unknown);
      untold = λ i none. h.untold i (sym (stays.came i) ∙ none);
      distinct = distinct;
    }

-- **Both stand, where one endpoint is another now.**
pub stands_called : (setup : Setup) (k : KeepingWorld) (v : World) (ends : Ends) (side : Side) (h : StandsKeeping setup k ends) (x y : EndpointHistory) (incoming : Streams Incoming)
    → y ≡ ahead x (kept_at k (other side)) (keeps_at setup k ends side h).held incoming (keeps_at setup k ends side h).arrivals → x.peer ≡ (end_at h.behind side).peer
    → EachResumes side x.announced x.incoming incoming → HaveDistinctIds x.outgoing → Stands setup v (with_end h.behind side x) → BothStay setup k v side → StandsKeeping setup (with_world k v) (with_end ends side y)
stands_called setup k v ends Client h x y incoming is peer resumes distinct stands left =
    record {
      behind = with_end h.behind Client x;
      stands = stands;
      client = keeps_on setup k v Client h.behind.client ends.client x y h.client incoming is peer resumes distinct left.theirs;
      server = keeps_on setup k v Server h.behind.server ends.server h.behind.server ends.server h.server h.server.incoming h.server.is refl h.server.resumes h.server.distinct left.mine;
    }
stands_called setup k v ends Server h x y incoming is peer resumes distinct stands left =
    record {
      behind = with_end h.behind Server x;
      stands = stands;
      client = keeps_on setup k v Client h.behind.client ends.client h.behind.client ends.client h.client h.client.incoming h.client.is refl h.client.resumes h.client.distinct left.mine;
      server = keeps_on setup k v Server h.behind.server ends.server x y h.server incoming is peer resumes distinct left.theirs;
    }

answer_of : (ends behind : Ends) (side : Side) (success : Answer) (o : Option Refusal) (x y : EndpointHistory) → (done ends side success (o, y)).0 ≡ (done behind side success (o, x)).0
answer_of ends behind side success None x y = refl
answer_of ends behind side success (Some r) x y = refl

pub left_of : (ends : Ends) (side : Side) (success : Answer) (o : Option Refusal) (y : EndpointHistory) → (done ends side success (o, y)).1 ≡ with_end ends side y
left_of ends side success None y = refl
left_of ends side success (Some r) y = refl

-- The answer of the endpoints behind, and where both stand.
pub record AnswersAlike (setup : Setup) (k : KeepingWorld) (v : World) (given there : Answer × Ends) : Type 0 where
  pub alike : given.0 ≡ there.0
  pub stands : StandsKeeping setup (with_world k v) given.1

pub call_alike : (setup : Setup) (k : KeepingWorld) (v : World) (ends : Ends) (side : Side) (h : StandsKeeping setup k ends) (success : Answer) (x z : Option Refusal × EndpointHistory)
    → CallAhead (kept_at k (other side)) (keeps_at setup k ends side h).held (keeps_at setup k ends side h).arrivals side (end_at h.behind side) x z
    → Stands setup v (done h.behind side success x).1 → BothStay setup k v side
    → AnswersAlike setup k v (done ends side success z) (done h.behind side success x)
call_alike setup k v ends side h success x z c stands left =
    let y = ahead x.1 (kept_at k (other side)) (keeps_at setup k ends side h).held c.incoming (keeps_at setup k ends side h).arrivals in
    record {
      alike = ap (λ p. (done ends side success p).0) c.is ∙ answer_of ends h.behind side success x.0 x.1 y;
      stands = subst (StandsKeeping setup (with_world k v)) (sym (ap (λ p. (done ends side success p).1) c.is ∙ left_of ends side success x.0 y))
          (stands_called setup k v ends side h x.1 y c.incoming refl c.peer c.resumes (c.distinct (keeps_at setup k ends side h).distinct) (subst (Stands setup v) (left_of h.behind side success x.0 x.1) stands) left);
    }

-- which answers tell of refused memory
pub data TellsMemory : Answer → Type 0 where
  Lacks : TellsMemory (answer.Refused refusal.OutOfMemory)
  IsKept : TellsMemory (answer.Refused refusal.Kept)
  PullLacks : TellsMemory (answer.Pulled (pull.Fault fault.Memory))
  ListLacks : TellsMemory (answer.Listed (list.Fault fault.Memory))

pub tells_memory : (a : Answer) → is_out_of_memory a ≡ true → TellsMemory a
tells_memory (answer.Refused refusal.OutOfMemory) e = Lacks
tells_memory (answer.Refused refusal.Kept) e = IsKept
tells_memory (answer.Pulled (pull.Fault fault.Memory)) e = PullLacks
tells_memory (answer.Listed (list.Fault fault.Memory)) e = ListLacks
tells_memory (answer.Opened id) e = cc
tells_memory answer.Done e = cc
tells_memory (answer.Delivered count) e = cc
tells_memory (answer.Short count) e = cc
tells_memory answer.NoStream e = cc
tells_memory answer.Early e = cc
tells_memory (answer.Shown limits sizes waiting) e = cc
tells_memory (answer.Refused (refusal.Closed code)) e = cc
tells_memory (answer.Refused (refusal.Connection code)) e = cc
tells_memory (answer.Refused refusal.NotReceiving) e = cc
tells_memory (answer.Refused refusal.AfterEnd) e = cc
tells_memory (answer.Refused refusal.NotClient) e = cc
tells_memory (answer.Refused (refusal.GoingAway id)) e = cc
tells_memory (answer.Refused refusal.IdsUsedUp) e = cc
tells_memory (answer.Refused refusal.NotOpen) e = cc
tells_memory (answer.Refused refusal.OutOfOrder) e = cc
tells_memory (answer.Refused refusal.WrongSide) e = cc
tells_memory (answer.Refused refusal.PseudoInTrailer) e = cc
tells_memory (answer.Refused (refusal.Malformed why)) e = cc
tells_memory (answer.Refused (refusal.TooLarge size)) e = cc
tells_memory (answer.Refused refusal.Critical) e = cc
tells_memory (answer.Refused refusal.Ended) e = cc
tells_memory (answer.Refused refusal.NotRequestId) e = cc
tells_memory (answer.Refused (refusal.Raised earlier)) e = cc
tells_memory (answer.Pulled (pull.Item item)) e = cc
tells_memory (answer.Pulled pull.Pending) e = cc
tells_memory (answer.Pulled (pull.Waiting count)) e = cc
tells_memory (answer.Pulled pull.NoMessages) e = cc
tells_memory (answer.Pulled (pull.Fault (fault.Connection code))) e = cc
tells_memory (answer.Pulled (pull.Fault (fault.Stream why))) e = cc
tells_memory (answer.Listed (list.Item item)) e = cc
tells_memory (answer.Listed list.Pending) e = cc
tells_memory (answer.Listed (list.Waiting count)) e = cc
tells_memory (answer.Listed list.NoMessages) e = cc
tells_memory (answer.Listed (list.Fault (fault.Connection code))) e = cc
tells_memory (answer.Listed (list.Fault (fault.Stream why))) e = cc
