-- After a connection fault nothing changes it.
use Rattle.std.proofs.Common.{◌≡◌, ℕ, List, [], ◌∷◌, refl, ◌∙◌, ap, Bool, true, false}
use Rattle.std.specs.Prelude.{Option, Some, None}
use Rattle.h3_connection.specs.Arrivals.{Arrival}
use Rattle.h3_connection.specs.Endpoint.{EndpointHistory, kind_of}
use Rattle.h3_connection.specs.Control.{Found}
use Rattle.h3_connection.specs.Delivering.{taken}
use Rattle.h3_connection.specs.Keeping.{arrives, arrives_behind, pulls, pulls_behind}
use Rattle.h3_connection.specs.Outgoing.{Outgoing as Out, is_end_next}
use Rattle.h3_connection.specs.Sending.{does, closed_or, pull_at, pull_unless, advance_at}
use Rattle.h3_connection.specs.StreamSets.{stream_at}
use Rattle.h3_connection.specs.CallLists.{Call, Result, called, done, was_pulled, endpoint_after}
use Rattle.h3_connection.specs.CallLists.Result.{Done}
use Rattle.h3_connection.specs.EndsWaiting.{end_taken_at, end_taken_if}
use Rattle.h3_connection.specs.CallLists.Call.{OpenRequest, SendHead, SendBody, SendTrailer, Finish, Reset, Goaway, Advance, TakeEnd, Outgoing, Deliver, DeliverEnd, DeliverReset, PullStream, Cancel, Show}
use Rattle.h3_connection.specs.declared.event.Refusal.{Refusal}
use Rattle.h3_connection.specs.declared.event.Refusal.TheVariants as refusal
use Rattle.h3_connection.specs.declared.event.Pull.{Pull}
use Rattle.h3_connection.specs.declared.event.Pull.TheVariants as answer
use Rattle.h3_connection.specs.declared.event.Fault.TheVariants as fault

does_closed : (success : Result) (closed : Option ℕ) (code : ℕ) (refused : Option Refusal) (e f : EndpointHistory) → closed ≡ Some code → (done success (does (closed_or closed refused) e f)).1 ≡ e
does_closed success (Some other) code refused e f is = refl
does_closed success None code refused e f is = cc

pub taken_closed : (closed : Option ℕ) (code : ℕ) (r : Option Refusal) (e : EndpointHistory) (found : Found) → closed ≡ Some code → taken closed r e found ≡ (Some (refusal.Connection code), e)
taken_closed (Some other) code r e found is = ap (λ o. taken o r e found) is
taken_closed None code r e found is = cc

pub pull_closed : (closed : Option ℕ) (code : ℕ) (e : EndpointHistory) (later : Pull × EndpointHistory) → closed ≡ Some code → pull_unless closed e later ≡ (answer.Fault (fault.Connection code), e)
pull_closed closed code e later is = ap (λ o. pull_unless o e later) is

advance_closed : (e : EndpointHistory) (id count : ℕ) (at : Option Out) → (advance_at e id count at).closed ≡ e.closed
advance_closed e id count (Some o) = refl
advance_closed e id count None = refl

end_closed : (e : EndpointHistory) (id : ℕ) (at : Option Out) → (end_taken_at e id at).1.closed ≡ e.closed
end_closed e id (Some o) = by_test (is_end_next o)
  where
    by_test : (b : Bool) → (end_taken_if b e id o).1.closed ≡ e.closed
    by_test true = refl
    by_test false = refl
end_closed e id None = refl

by_does : (success : Result) (e f : EndpointHistory) (code : ℕ) (refused : Option Refusal) → e.closed ≡ Some code → (done success (does (closed_or e.closed refused) e f)).1.closed ≡ Some code
by_does success e f code refused is = ap (λ x. x.closed) (does_closed success e.closed code refused e f is) ∙ is

by_taken : (e : EndpointHistory) (code : ℕ) (r : Option Refusal) (found : Found) → e.closed ≡ Some code → (done Done (taken e.closed r e found)).1.closed ≡ Some code
by_taken e code r found is = ap (λ p. (done Done p).1.closed) (taken_closed e.closed code r e found is) ∙ is

pub stays : (e : EndpointHistory) (c : Call) (code : ℕ) → e.closed ≡ Some code → (called e c).1.closed ≡ Some code
stays e OpenRequest code is = by_does _ e _ code _ is
stays e (SendHead q head) code is = by_does _ e _ code _ is
stays e (SendBody q bytes) code is = by_does _ e _ code _ is
stays e (SendTrailer q head) code is = by_does _ e _ code _ is
stays e (Finish q) code is = by_does _ e _ code _ is
stays e (Reset q) code is = by_does _ e _ code _ is
stays e (Goaway n) code is = by_does _ e _ code _ is
stays e (Advance q count) code is = advance_closed e q count (stream_at e.outgoing q) ∙ is
stays e (TakeEnd q) code is = end_closed e q (stream_at e.outgoing q) ∙ is
stays e (Outgoing q) code is = is
stays e (Deliver q bytes) code is = by_taken e code _ _ is
stays e (DeliverEnd q) code is = by_taken e code _ _ is
stays e (DeliverReset q n) code is = by_taken e code _ _ is
stays e (PullStream q) code is = ap (λ p. (was_pulled p).1.closed) (pull_closed e.closed code e (pull_at e q (kind_of e.side q)) is) ∙ is
stays e (Cancel q) code is = by_does _ e _ code _ is
stays e Show code is = is

pub all_stay : (e : EndpointHistory) (calls : List Call) (code : ℕ) → e.closed ≡ Some code → (endpoint_after e calls).closed ≡ Some code
all_stay e [] code is = is
all_stay e (c ∷ calls) code is = all_stay (called e c).1 calls code (stays e c code is)

pub arrives_closed : (e : EndpointHistory) (a : Arrival) (code : ℕ) → e.closed ≡ Some code → arrives e a ≡ (Some (refusal.Connection code), e)
arrives_closed e a code is = behind e.kept
  where
    behind : (kept : List Arrival) → arrives_behind kept e a ≡ (Some (refusal.Connection code), e)
    behind [] = taken_closed e.closed code _ e _ is
    behind (k ∷ kept) = taken_closed e.closed code _ e _ is

pub pulls_closed : (e : EndpointHistory) (id code : ℕ) → e.closed ≡ Some code → pulls e id ≡ (answer.Fault (fault.Connection code), e)
pulls_closed e id code is = behind e.kept
  where
    behind : (kept : List Arrival) → pulls_behind kept e id ≡ (answer.Fault (fault.Connection code), e)
    behind [] = pull_closed e.closed code e _ is
    behind (k ∷ kept) = pull_closed e.closed code e _ is
