-- Why what comes is refused, by what is stored, is that of every history that this stands for.
use Rattle.std.proofs.Common.{◌≡◌, ℕ, List, ◌++◌, refl, ap, sym, ◌∙◌}
use Rattle.std.specs.Prelude.{◌||◌, option_map, unwrap_or}
use Rattle.std.proofs.lemmas.List.Folds.{list_any-append}
use Rattle.h3_connection.specs.Arrivals.{closes, is_closed_in}
use Rattle.h3_connection.specs.Delivering.{request_refusal, server_opened_refusal, closed_refusal, refusal_at}
use Rattle.h3_connection.specs.Endpoint.{EndpointHistory, Kind, kind_of}
use Rattle.h3_connection.specs.Endpoint.Kind.{Request, ServerOpened, OwnUnidirectional, PeerUnidirectional}
use Rattle.h3_connection.specs.Keeping.{refused_behind, arrival_refusal}
use Rattle.h3_connection.specs.State.{EndpointState, StandsFor, kept_at}
use Rattle.h3_connection.specs.Unidirectional.{is_closed, untold}
use Rattle.h3_connection.specs.declared.arrival.Arrival.{Arrival}
use Rattle.h3_session.specs.Arriving.{delivery_refused, arrival_refused}

delivery_at : (s : EndpointState) (e : EndpointHistory) (id : ℕ) (k : Kind) → StandsFor s e → delivery_refused s id k ≡ refusal_at e id k
delivery_at s e id Request h = ap (λ side. request_refusal side (option_map (λ r. r.incoming) (kept_at s.requests id))) h.side ∙ ap (request_refusal e.side) (h.incoming id)
delivery_at s e id ServerOpened h = ap server_opened_refusal h.side
delivery_at s e id OwnUnidirectional h = refl
delivery_at s e id PeerUnidirectional h = ap (λ o. closed_refusal (is_closed (unwrap_or o untold))) (h.unidirectional id)

pub arrival_refusal_is : (s : EndpointState) (e : EndpointHistory) (id : ℕ) → StandsFor s e → arrival_refused s id ≡ arrival_refusal e id
arrival_refusal_is s e id h =
    ap (λ l. refused_behind (is_closed_in l id) (delivery_refused s id (kind_of s.side id))) h.kept
    ∙ ap (λ side. refused_behind (is_closed_in e.kept id) (delivery_refused s id (kind_of side id))) h.side
    ∙ ap (refused_behind (is_closed_in e.kept id)) (delivery_at s e id (kind_of e.side id) h)

-- a scan in two parts
pub closed_in_parts : (front back all : List Arrival) (id : ℕ) → front ++ back ≡ all → (is_closed_in front id || is_closed_in back id) ≡ is_closed_in all id
closed_in_parts front back all id is = sym (list_any-append (closes id) front back) ∙ ap (λ l. is_closed_in l id) is
