-- The ends of streams, by what is stored of them.
use Rattle.std.proofs.Common.{◌≡◌, ℕ, Bool, true, false, ◌∙◌, refl, sym, ap, subst}
use Rattle.std.specs.Prelude.{Option, Some, None, IfSome, option_map, unwrap_or}
use Rattle.h3_connection.specs.Calls.{AllSame, Sets}
use Rattle.h3_connection.specs.Endpoint.{EndpointHistory}
use Rattle.h3_connection.specs.EndsWaiting.{end_taken, end_taken_at, end_taken_if, has_end, ShowsNextToSend, TakesEnd}
use Rattle.h3_connection.specs.NextWaiting.{IsLeast, ShowsNextWaiting, has_waiting}
use Rattle.h3_connection.specs.NextWaitingLaws.{least_same}
use Rattle.h3_connection.specs.Outgoing.{Outgoing, end_waits, is_end_next}
use Rattle.h3_connection.specs.StandsLaws.{stands_sending}
use Rattle.h3_connection.specs.State.{EndpointState, IsOfOutgoing, RequestState, StandsFor, kept_at}
use Rattle.h3_connection.specs.StreamSets.{Streams, stream_at}
use Rattle.h3_outgoing.specs.HistoryLaws.{end_gone, end_next, end_waiting}
use Rattle.h3_requests.specs.HasBytes as stored
use Rattle.h3_requests.specs.Lesser.{lesser_of}
use Rattle.h3_requests.specs.LesserLaws.{least_either}
use Rattle.h3_requests.specs.Over.{with_end_taken}
use Rattle.h3_session.proofs.Opened.{stands_same}
use Rattle.h3_session.proofs.Taking.{found, not_found}

-- whether an end waits is known by what is stored
ends_by : (s : EndpointState) (e : EndpointHistory) (id : ℕ) (there : Option RequestState) → StandsFor s e → kept_at s.requests id ≡ there → has_end e id ≡ stored.has_end there
ends_by s e id None h was = ap (λ o. unwrap_or (option_map end_waits o) false) (not_found s e id h (ap (option_map (λ r. r.outgoing)) was))
ends_by s e id (Some r) h was =
    let f = found s e id r.outgoing h (ap (option_map (λ r. r.outgoing)) was) in
    ap (λ o. unwrap_or (option_map end_waits o) false) f.there ∙ sym (end_waiting f.o r.outgoing f.is)

-- the first on which either waits
pub next_of_ends : (s : EndpointState) (from : ℕ) (bytes end : Option ℕ) → ShowsNextWaiting s from bytes → IsLeast (λ id. stored.has_end (kept_at s.requests id)) from end → ShowsNextToSend s from (lesser_of bytes end)
next_of_ends s from bytes end h k e stands =
    least_either (has_waiting e) (has_end e) from bytes end (h e stands)
    (least_same (λ id. stored.has_end (kept_at s.requests id)) (has_end e) from end (λ id. ends_by s e id (kept_at s.requests id) stands refl) k)

-- `end_taken`
taken_by : (s : EndpointState) (new : Streams RequestState) (id : ℕ) (there : Option RequestState) (taken : Bool) → kept_at s.requests id ≡ there → taken ≡ stored.gives_end there
    → (taken ≡ true → IfSome there (λ r. Sets s.requests new id (with_end_taken r))) → (taken ≡ false → AllSame s.requests new) → TakesEnd s (record s { requests = new }) id taken
taken_by s new id None taken was told sets same e h =
    let none : stream_at e.outgoing id ≡ None = not_found s e id h (ap (option_map (λ r. r.outgoing)) was) in
    subst (λ o. (taken ≡ (end_taken_at e id o).0) × StandsFor (record s { requests = new }) (end_taken_at e id o).1) (sym none) (told, stands_same s e new h (same told))
taken_by s new id (Some r) taken was told sets same e h =
    let f = found s e id r.outgoing h (ap (option_map (λ r. r.outgoing)) was) in
    let is : taken ≡ is_end_next f.o = told ∙ end_next f.o r.outgoing f.is in
    subst (λ o. (taken ≡ (end_taken_at e id o).0) × StandsFor (record s { requests = new }) (end_taken_at e id o).1) (sym f.there) (by_answer f.o f.is taken sets same (is_end_next f.o) is)
  where
    by_answer : (o : Outgoing) → IsOfOutgoing o r.outgoing → (taken : Bool) → (taken ≡ true → Sets s.requests new id (with_end_taken r)) → (taken ≡ false → AllSame s.requests new) → (b : Bool) → taken ≡ b
        → (taken ≡ (end_taken_if b e id o).0) × StandsFor (record s { requests = new }) (end_taken_if b e id o).1
    by_answer o is taken sets same true t = (t, stands_sending s e new id r (with_end_taken r) (record o { end_taken = true }) h was refl (end_gone o r.outgoing is) (sets t))
    by_answer o is taken sets same false t = (t, stands_same s e new h (same t))

pub takes_end : (s now : EndpointState) (new : Streams RequestState) (id : ℕ) (taken : Bool) → s ≡ now → taken ≡ stored.gives_end (kept_at s.requests id)
    → (taken ≡ true → IfSome (kept_at s.requests id) (λ r. Sets s.requests new id (with_end_taken r))) → (taken ≡ false → AllSame s.requests new) → TakesEnd now (record s { requests = new }) id taken
takes_end s now new id taken view told sets same = subst (λ v. TakesEnd v (record s { requests = new }) id taken) view (taken_by s new id (kept_at s.requests id) taken refl told sets same)
