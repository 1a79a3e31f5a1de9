-- What is kept stands in order, and is read in order.
use Rattle.std.proofs.Common.{◌≡◌, ℕ, List, [], ◌∷◌, ◌++◌, Option, Some, None, refl, ap, subst, ◌∙◌}
use Rattle.std.specs.Prelude.{IsSome, All, fold}
use Rattle.std.proofs.lemmas.List.Elements.{All-weaker, All-head, All-tail, All-append}
use Rattle.h3_connection.specs.Arrivals.{stream_of}
use Rattle.h3_connection.specs.Delivering.{opened_at}
use Rattle.h3_connection.specs.Endpoint.{EndpointHistory, Kind, kind_of}
use Rattle.h3_connection.specs.Endpoint.Kind.{Request, ServerOpened, OwnUnidirectional, PeerUnidirectional}
use Rattle.h3_connection.specs.Incoming.{Incoming}
use Rattle.h3_connection.specs.Keeping.{read_arrival, read_all, unless_faulty, keeping, opened_by, opened_as}
use Rattle.h3_connection.specs.PartReading.{ReadsPart}
use Rattle.h3_connection.specs.PartReading.ReadsOn.{ReadsWhole}
use Rattle.h3_connection.specs.PartReading.ReadsPart.{Stops, Goes}
use Rattle.h3_connection.specs.State.{EndpointState, KeepsOpen}
use Rattle.h3_connection.specs.StreamSets.{stream_at}
use Rattle.h3_connection.specs.declared.arrival.Arrival.{Arrival}
use Rattle.h3_session.proofs.Opened.{stands_keeping}
use Rattle.h3_session.specs.Reading.{GoesOn, LeavesUnread, HasRead, KeepsRest}

opened_there : (e : EndpointHistory) (id : ℕ) (at : Option Incoming) → IsSome at → opened_at e id at ≡ e
opened_there e id (Some i) h = refl
opened_there e id None h = cc

-- a stream that is open is not opened again
opens_none : (e : EndpointHistory) (id : ℕ) (k : Kind) → (k ≡ Request → IsSome (stream_at e.incoming id)) → opened_as k e id ≡ e
opens_none e id Request h = opened_there e id (stream_at e.incoming id) (h refl)
opens_none e id ServerOpened h = refl
opens_none e id OwnUnidirectional h = refl
opens_none e id PeerUnidirectional h = refl

opened_for : (e : EndpointHistory) (a : Arrival) → KeepsOpen e.side e.incoming a → opened_by e a ≡ e
opened_for e a h = opens_none e (stream_of a) (kind_of e.side (stream_of a)) h

all_opened : (e : EndpointHistory) (arrivals : List Arrival) → All (KeepsOpen e.side e.incoming) arrivals → fold opened_by e arrivals ≡ e
all_opened e [] h = refl
all_opened e (a ∷ arrivals) h = ap (λ f. fold opened_by f arrivals) (opened_for e a (All-head (KeepsOpen e.side e.incoming) a arrivals h)) ∙ all_opened e arrivals (All-tail (KeepsOpen e.side e.incoming) a arrivals h)

-- Where the streams are open, keeping changes only what is kept.
pub keeping_open : (e : EndpointHistory) (arrivals : List Arrival) → All (KeepsOpen e.side e.incoming) arrivals → keeping e arrivals ≡ record e { kept = arrivals }
keeping_open e arrivals h = ap (λ (f : EndpointHistory). record f { kept = arrivals }) (all_opened e arrivals h)

pub keeps_on : (e f : EndpointHistory) (arrivals : List Arrival) → GoesOn e f → All (KeepsOpen e.side e.incoming) arrivals → All (KeepsOpen f.side f.incoming) arrivals
keeps_on e f arrivals on h = All-weaker (KeepsOpen e.side e.incoming) (KeepsOpen f.side f.incoming)
    (λ a keeps is. on.stays (stream_of a) (keeps (subst (λ side. kind_of side (stream_of a) ≡ Request) on.side is))) arrivals h

-- nothing was read yet
pub has_read_none : (e : EndpointHistory) (arrivals : List Arrival) → All (KeepsOpen e.side e.incoming) arrivals → HasRead e arrivals e arrivals
has_read_none e arrivals h = record { finds = refl; part = λ after read. read; keeps = h }

-- One more arrival was read, without a fault.
pub has_read_one : (start : EndpointHistory) (all : List Arrival) (e : EndpointHistory) (a : Arrival) (rest : List Arrival) (f : EndpointHistory) → HasRead start all e (a ∷ rest)
    → read_arrival e a ≡ (f, None) → GoesOn e f → HasRead start all f rest
has_read_one start all e a rest f h is on = record {
  finds = h.finds ∙ ap (unless_faulty (read_all rest)) is;
  part = λ after read. h.part after (Goes (ReadsWhole is) read);
  keeps = keeps_on e f rest on (All-tail (KeepsOpen e.side e.incoming) a rest h.keeps);
}

-- It has the fault that was found.
pub finds_fault : (start : EndpointHistory) (all : List Arrival) (e : EndpointHistory) (a : Arrival) (rest : List Arrival) (f : EndpointHistory) (code : ℕ) → HasRead start all e (a ∷ rest)
    → read_arrival e a ≡ (f, Some code) → read_all all start ≡ (f, Some code)
finds_fault start all e a rest f code h is = h.finds ∙ ap (unless_faulty (read_all rest)) is

-- What is left of it stands in front of the others.
pub keeps_rest : (start : EndpointHistory) (all : List Arrival) (e : EndpointHistory) (a : Arrival) (rest left : List Arrival) (s : EndpointState) → HasRead start all e (a ∷ rest)
    → LeavesUnread e a left s → KeepsRest start all (record s { kept = left ++ rest })
keeps_rest start all e a rest left s h l =
    let keeps : All (KeepsOpen l.next.side l.next.incoming) (left ++ rest) = All-append (KeepsOpen l.next.side l.next.incoming) left rest l.keeps (keeps_on e l.next rest l.on (All-tail (KeepsOpen e.side e.incoming) a rest h.keeps)) in
    record {
      after = record l.next { kept = left ++ rest };
      read = h.part (record l.next { kept = left ++ rest }) (l.reads rest (record l.next { kept = left ++ rest })
          (subst (λ f. ReadsPart l.next (left ++ rest) f) (keeping_open l.next (left ++ rest) keeps) Stops));
      stands = stands_keeping s l.next (left ++ rest) l.stands keeps;
    }
