-- An empty arrival on the control stream, after all that is held of it was read.
use Rattle.std.proofs.Common.{◌≡◌, ◌==◌, ℕ, false, not, [], Option, Some, None, refl, ap, subst, ◌∙◌, arith}
use Rattle.std.specs.Prelude.{unwrap_or}
use Rattle.std.proofs.lemmas.Grind.{common_steps}
use Rattle.h3_connection.specs.declared.arrival.Arrival.TheVariants.{BytesCame}
use Rattle.h3_connection.specs.Calls.{Sets}
use Rattle.h3_connection.specs.Control.{lacks_settings, read_control}
use Rattle.h3_connection.specs.StrictConnectionLaws.{held_again}
use Rattle.h3_connection.specs.Delivering.{bytes_at, heard_as, read_unidirectional, unless_second, unidirectional_at, with_unidirectional}
use Rattle.h3_connection.specs.Endpoint.{EndpointHistory, limit_of, is_second, kind_of}
use Rattle.h3_connection.specs.Endpoint.Kind.{PeerUnidirectional}
use Rattle.h3_connection.specs.Keeping.{read_arrival}
use Rattle.h3_connection.specs.PeerReading.{read_peer}
use Rattle.h3_connection.specs.StandsLaws.{stands_unidirectional}
use Rattle.h3_connection.specs.State.{EndpointState, StandsFor, kept_at}
use Rattle.h3_connection.specs.Unidirectional.{Unidirectional, Role, untold, role_after}
use Rattle.h3_connection.specs.Unidirectional.Role.{Untold, Control}
use Rattle.h3_streams.specs.Placed.{StreamsState, placed}
use Rattle.h3_connection.specs.StrictConnection.{known_streams, kinds_of}

-- a stream whose role was told is there
pub is_there : (o : Option Unidirectional) (r : Role) → (unwrap_or o untold).role ≡ r → (Untold [] ≡ r → ⊥) → o ≡ Some (unwrap_or o untold)
is_there None r is not_untold = absurd (not_untold is)
is_there (Some o) r is not_untold = refl

untold_control : Untold [] ≡ Control → ⊥
untold_control e = cc

-- the endpoint after it
abbrev pub touched : EndpointHistory → ℕ → EndpointHistory
touched e id = record (with_unidirectional e id (record (unidirectional_at e id) { role = Control })) { control_on = Some id }

own_id : (id : ℕ) → not (id == id) ≡ false
own_id id = grind (arith, common_steps)

as_control : (e : EndpointHistory) (id : ℕ) → (unidirectional_at e id).role ≡ Control → bytes_at e id [] PeerUnidirectional ≡ heard_as (with_unidirectional e id (record (unidirectional_at e id) { role = Control })) id Control []
as_control e id role = ap (λ r. read_unidirectional e id (unidirectional_at e id) (role_after (known_streams e.announced) r [])) role

pub nothing_more : (e : EndpointHistory) (id : ℕ) → kind_of e.side id ≡ PeerUnidirectional → (unidirectional_at e id).role ≡ Control → e.control_on ≡ Some id → lacks_settings e ≡ false → read_peer (kinds_of e.announced) (limit_of e) e.side e.peer ≡ (e.peer, None)
    → read_arrival e (BytesCame id []) ≡ (touched e id, None)
nothing_more e id kind role on due done =
    let first : is_second e.control_on id ≡ false = ap (λ o. is_second o id) on ∙ own_id id in
    let f = touched e id in
    ap (λ k. bytes_at e id [] k) kind ∙ as_control e id role
    ∙ ap (λ b. unless_second b (with_unidirectional e id (record (unidirectional_at e id) { role = Control })) (read_control f [])) first
    ∙ held_again f due done

pub touched_stands : (s : EndpointState) (x : StreamsState) (e : EndpointHistory) (id : ℕ) → StandsFor (placed s x) e → (unidirectional_at e id).role ≡ Control → e.control_on ≡ Some id
    → StandsFor (placed s x) (touched e id)
touched_stands s x e id h role on =
    let o = unidirectional_at e id in
    let same : o ≡ record o { role = Control } = ap (λ r. record o { role = r }) role in
    let there : kept_at x.unidirectional id ≡ Some (record o { role = Control }) = h.unidirectional id ∙ is_there _ Control role untold_control ∙ ap Some same in
    let sets : Sets x.unidirectional x.unidirectional id (record o { role = Control }) = record { here = there; others = λ q differs. refl } in
    subst (λ c. StandsFor (placed s x) (record (with_unidirectional e id (record o { role = Control })) { control_on = c })) on
    (stands_unidirectional (placed s x) e x.unidirectional id (record o { role = Control }) h (λ told. refl) sets)
