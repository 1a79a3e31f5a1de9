-- What is said of a run whose events were answered by their calls.
use Rattle.std.proofs.Common.{◌≡◌, ℕ, zero, suc, List, [], ◌∷◌, ◌++◌, length, take, Bool, true, false, refl, ap, sym, subst}
use Rattle.std.specs.List.{list_any}
use Rattle.std.specs.Prelude.{◌||◌, Result, Ok, IfOk}
use Rattle.h3_proto.specs.declared.stream.Side.TheVariants.{Client, Server}
use Rattle.h3_connection.specs.Endpoint.{new_endpoint}
use Rattle.h3_connection.specs.State.{EndpointState, StandsFor}
use Rattle.h3_connection.specs.declared.setup.Announced.{Announced}
use Rattle.h3_world.specs.Ends.{Ends, answered, answers_of_ends, new_ends}
use Rattle.h3_world.specs.Setup.{Setup}
use Rattle.h3_world.specs.Headline.{is_out_of_memory}
use Rattle.h3_world.specs.declared.event.Answer.{Answer}
use Rattle.h3_world.specs.declared.event.Event.{Event}
use Rattle.h3_session.specs.Acting.{Acts, ActsEach, RunsByCalls}
use Rattle.h3_session.specs.Running.{AnswersEach, RunsTo}
use Rattle.h3_session.proofs.Acting.{acts_answers}

-- One event more was answered.
pub one_more : (client server : EndpointState) (events : List Event) (answers : List Answer) (c s : EndpointState) (e : Event) (a : Answer) (client_after server_after : EndpointState)
    → ActsEach client server events answers c s → Acts e c s a client_after server_after → ActsEach client server (events ++ e ∷ []) (answers ++ a ∷ []) client_after server_after
one_more client server [] [] c s e a client_after server_after h step =
    (client_after, server_after, subst (λ v. Acts e v server a client_after server_after) h.0 (subst (λ v. Acts e c v a client_after server_after) h.1 step), (refl, refl))
one_more client server (f ∷ events) (b ∷ answers) c s e a client_after server_after h step = (h.0, h.1, h.2, one_more h.0 h.1 events answers c s e a client_after server_after h.3 step)
one_more client server [] (b ∷ answers) c s e a client_after server_after h step = absurd h
one_more client server (f ∷ events) [] c s e a client_after server_after h step = absurd h

as_many : (client server : EndpointState) (events : List Event) (answers : List Answer) (c s : EndpointState) → ActsEach client server events answers c s → length answers ≡ length events
as_many client server [] [] c s h = refl
as_many client server (e ∷ events) (a ∷ answers) c s h = ap suc (as_many h.0 h.1 events answers c s h.3)
as_many client server [] (a ∷ answers) c s h = absurd h
as_many client server (e ∷ events) [] c s h = absurd h

none_behind : (first : Bool) (rest : Bool) → (first || rest) ≡ false → (first ≡ false) × (rest ≡ false)
none_behind true rest h = absurd (cc)
none_behind false rest h = (refl, h)

until_memory : (client server : EndpointState) (events : List Event) (answers : List Answer) (c s : EndpointState) (ends : Ends) → ActsEach client server events answers c s
    → StandsFor client ends.client → StandsFor server ends.server → (n : ℕ) → list_any is_out_of_memory (take n answers) ≡ false → take n answers ≡ answers_of_ends ends (take n events)
until_memory client server events answers c s ends h at_client at_server zero not_memory = refl
until_memory client server [] [] c s ends h at_client at_server (suc n) not_memory = refl
until_memory client server (e ∷ events) (a ∷ answers) c s ends h at_client at_server (suc n) not_memory =
    let parts = none_behind (is_out_of_memory a) (list_any is_out_of_memory (take n answers)) not_memory in
    let x = acts_answers e client server a h.0 h.1 h.2 ends at_client at_server parts.0 in
    let rest = until_memory h.0 h.1 events answers c s (answered ends e).1 h.3 x.1 x.2 n parts.1 in
    (λ k. x.0 k ∷ rest k)
until_memory client server [] (a ∷ answers) c s ends h at_client at_server (suc n) not_memory = absurd h
until_memory client server (e ∷ events) [] c s ends h at_client at_server (suc n) not_memory = absurd h

pub answers_each : (ends : Ends) (events : List Event) (answers : List Answer) (c s : EndpointState) → RunsByCalls ends events answers c s → AnswersEach ends events answers
answers_each ends events answers c s h =
    record { as_many = as_many h.client h.server events answers c s h.acts; until_memory = until_memory h.client h.server events answers c s ends h.acts h.client_stands h.server_stands }

acts_to : (client server : EndpointState) (events : List Event) (answers : List Answer) (c s : EndpointState) (ends : Ends) → ActsEach client server events answers c s
    → StandsFor client ends.client → StandsFor server ends.server → list_any is_out_of_memory answers ≡ false → RunsTo ends events answers c s
acts_to client server [] [] c s ends h at_client at_server not_memory =
    record { answered_so = refl; client_stands = subst (λ v. StandsFor v ends.client) (sym h.0) at_client; server_stands = subst (λ v. StandsFor v ends.server) (sym h.1) at_server }
acts_to client server (e ∷ events) (a ∷ answers) c s ends h at_client at_server not_memory =
    let parts = none_behind (is_out_of_memory a) (list_any is_out_of_memory answers) not_memory in
    let x = acts_answers e client server a h.0 h.1 h.2 ends at_client at_server parts.0 in
    let rest = acts_to h.0 h.1 events answers c s (answered ends e).1 h.3 x.1 x.2 parts.1 in
    record { answered_so = (λ k. x.0 k ∷ rest.answered_so k); client_stands = rest.client_stands; server_stands = rest.server_stands }
acts_to client server [] (a ∷ answers) c s ends h at_client at_server not_memory = absurd h
acts_to client server (e ∷ events) [] c s ends h at_client at_server not_memory = absurd h

pub runs_to : (ends : Ends) (events : List Event) (answers : List Answer) (c s : EndpointState) → RunsByCalls ends events answers c s → list_any is_out_of_memory answers ≡ false → RunsTo ends events answers c s
runs_to ends events answers c s h not_memory = acts_to h.client h.server events answers c s ends h.acts h.client_stands h.server_stands not_memory

-- Two endpoints that were made of a setup, a run between them, and what is handed back of it.
pub ran : {V E : Type 0} (items : V → List Answer) (setup : Setup) (one two : Announced) (events : List Event) (first second : Result EndpointState E) (told : Result V E) (client server client_after server_after : EndpointState)
    (out : EndpointState × EndpointState) (answers : V) → one ≡ setup.client → two ≡ setup.server → IfOk first (λ c. StandsFor c (new_endpoint Client one)) → IfOk second (λ s. StandsFor s (new_endpoint Server two))
    → first ≡ Ok client → second ≡ Ok server → IfOk told (λ v. ActsEach client server events (items v) client_after server_after)
    → (client_after, server_after) ≡ out → told ≡ Ok answers → RunsByCalls (new_ends setup) events (items answers) out.0 out.1
ran items setup one two events first second told client server client_after server_after out answers of_client of_server at_client at_server first_is second_is acts same is =
    let made_client = subst (λ a. IfOk first (λ c. StandsFor c (new_endpoint Client a))) of_client at_client in
    let made_server = subst (λ a. IfOk second (λ s. StandsFor s (new_endpoint Server a))) of_server at_server in
    let client_stands : StandsFor client (new_ends setup).client = subst (λ r. IfOk r (λ c. StandsFor c (new_ends setup).client)) first_is made_client in
    let server_stands : StandsFor server (new_ends setup).server = subst (λ r. IfOk r (λ s. StandsFor s (new_ends setup).server)) second_is made_server in
    let here = subst (λ r. IfOk r (λ v. ActsEach client server events (items v) client_after server_after)) is acts in
    subst (λ p. RunsByCalls (new_ends setup) events (items answers) p.0 p.1) same
    (record { client = client; server = server; client_stands = client_stands; server_stands = server_stands; acts = here })
