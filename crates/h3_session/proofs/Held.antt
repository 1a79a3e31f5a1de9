-- How much of what came on a stream is held: what is stored of it, as the definitions count it.
use Rattle.std.proofs.Common.{arith, ◌≡◌, ℕ, ◌+◌, true, false, if◌then◌else◌, List, ap, sym, subst, ◌∙◌}
use Rattle.std.specs.Prelude.{◌-◌, ◌^◌, min, is_some, option_map, unwrap_or}
use Rattle.std.specs.List.{sum_by}
use Rattle.h3_connection.specs.declared.arrival.Arrival.{Arrival}
use Rattle.h3_connection.specs.Delivering.{incoming_at}
use Rattle.h3_connection.specs.Endpoint.{EndpointHistory, Kind, kind_of}
use Rattle.h3_connection.specs.Incoming.{nothing_came}
use Rattle.h3_connection.specs.State.{EndpointState, StandsFor, kept_at}
use Rattle.h3_connection.specs.Unread.{held_of_request, held_of_peer, held_at, held_in, counted, ShowsUnread}
use Rattle.h3_connection.specs.declared.setup.Announced.{Announced}
use Rattle.h3_streams.specs.Placed.{StreamsState, placed}

-- a sum of counts that each stop at the greatest number
pub counted_sum : (a b : ℕ) → min (2 ^ 64 - 1) (counted a + counted b) ≡ counted (a + b)
counted_sum a b = omega arith

pub held_request : (s : EndpointState) (n id : ℕ) → n ≡ counted (held_of_request s.announced (unwrap_or (option_map (λ r. r.incoming) (kept_at s.requests id)) nothing_came))
    → (e : EndpointHistory) → StandsFor s e → n ≡ counted (held_of_request e.announced (incoming_at e id))
held_request s n id is e h =
    is ∙ ap (λ i. counted (held_of_request s.announced (unwrap_or i nothing_came))) (h.incoming id) ∙ ap (λ (a : Announced). counted (held_of_request a (incoming_at e id))) h.announced

pub held_peer : (s : EndpointState) (x : StreamsState) (n id : ℕ) → placed s x ≡ s → ((t : EndpointState) (e : EndpointHistory) → StandsFor (placed t x) e → e.announced ≡ s.announced → n ≡ counted (held_of_peer e id))
    → (e : EndpointHistory) → StandsFor s e → n ≡ counted (held_of_peer e id)
held_peer s x n id same is e h = is s e (subst (λ t. StandsFor t e) (sym same) h) (sym h.announced)

-- by the kind of the stream
pub held_by_kind : (s : EndpointState) (n id : ℕ) (k : Kind) → k ≡ kind_of s.side id → ((e : EndpointHistory) → StandsFor s e → n ≡ counted (held_at e id k))
    → (e : EndpointHistory) → StandsFor s e → n ≡ counted (held_at e id (kind_of e.side id))
held_by_kind s n id k is held e h = held e h ∙ ap (λ kind. counted (held_at e id kind)) (is ∙ ap (λ side. kind_of side id) h.side)

-- with what is kept;
pub shows_unread : (s : EndpointState) (held kept id : ℕ) → is_some s.closed ≡ false → ((e : EndpointHistory) → StandsFor s e → held ≡ counted (held_at e id (kind_of e.side id))) → kept ≡ counted (sum_by (held_in id) s.kept)
    → ShowsUnread s id (min (2 ^ 64 - 1) (held + kept))
shows_unread s held kept id no_fault is there e h =
    ap (λ n. min (2 ^ 64 - 1) (n + kept)) (is e h)
    ∙ ap (λ n. min (2 ^ 64 - 1) (counted (held_at e id (kind_of e.side id)) + n)) (there ∙ ap (λ (arrivals : List Arrival). counted (sum_by (held_in id) arrivals)) h.kept)
    ∙ counted_sum (held_at e id (kind_of e.side id)) (sum_by (held_in id) e.kept)
    ∙ ap (λ b. counted (if b then 0 else held_at e id (kind_of e.side id) + sum_by (held_in id) e.kept)) (sym no_fault ∙ ap is_some h.closed)

-- and nothing behind a fault of the connection
pub shows_none : (s : EndpointState) (id : ℕ) → is_some s.closed ≡ true → ShowsUnread s id 0
shows_none s id closed e h =
    ap (λ b. counted (if b then 0 else held_at e id (kind_of e.side id) + sum_by (held_in id) e.kept)) (sym closed ∙ ap is_some h.closed)
