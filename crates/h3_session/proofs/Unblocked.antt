-- The next stream that is unblocked: what is stored of it, as the definitions tell it.
use Rattle.std.proofs.Common.{◌≡◌, ◌∙◌, ℕ, refl, ap, sym}
use Rattle.std.specs.Prelude.{Option, Some, None, option_map, unwrap_or}
use Rattle.h3_connection.specs.Endpoint.{EndpointHistory}
use Rattle.h3_connection.specs.Incoming.{nothing_came}
use Rattle.h3_connection.specs.NextWaiting.{IsLeast}
use Rattle.h3_connection.specs.NextWaitingLaws.{least_same}
use Rattle.h3_connection.specs.State.{EndpointState, RequestState, StandsFor, kept_at}
use Rattle.h3_requests.specs.Unblocked as stored
use Rattle.h3_requests.specs.Unblocked.{unblocks}
use Rattle.h3_session.specs.Unblocked.{is_unblocked, ShowsNextUnblocked}

by_incoming : (inserted : ℕ) (r : Option RequestState) → unblocks inserted (unwrap_or (option_map (λ r. r.incoming) r) nothing_came).waits_for ≡ stored.is_unblocked inserted r
by_incoming inserted None = refl
by_incoming inserted (Some r) = refl

by_stored : (s : EndpointState) (inserted : ℕ) (e : EndpointHistory) → inserted ≡ s.decoding.decoder.table.inserted → StandsFor s e → (q : ℕ) → is_unblocked e q ≡ stored.is_unblocked inserted (kept_at s.requests q)
by_stored s inserted e is stands q =
    ap (λ i. unblocks e.decoding.decoder.table.inserted (unwrap_or i nothing_came).waits_for) (sym (stands.incoming q))
    ∙ ap (λ n. unblocks n (unwrap_or (option_map (λ r. r.incoming) (kept_at s.requests q)) nothing_came).waits_for) (ap (λ d. d.decoder.table.inserted) (sym stands.decoding) ∙ sym is)
    ∙ by_incoming inserted (kept_at s.requests q)

pub shows_next : (s : EndpointState) (inserted from : ℕ) (one : Option ℕ) → inserted ≡ s.decoding.decoder.table.inserted → IsLeast (λ id. stored.is_unblocked inserted (kept_at s.requests id)) from one
    → ShowsNextUnblocked s from one
shows_next s inserted from one is h = λ e stands. least_same (λ id. stored.is_unblocked inserted (kept_at s.requests id)) (is_unblocked e) from one (by_stored s inserted e is stands) h
