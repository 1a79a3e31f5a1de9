-- What an update said is used of a stream that is open, or dropped, or waits on.
use Rattle.std.proofs.Common.{◌≡◌, ℕ, true, false, ◌||◌, if◌then◌else◌, [], ◌∷◌, Option, Some, None, Ok, refl, ap, sym, subst, ◌∙◌}
use Rattle.std.specs.Prelude.{not, is_some, option_map}
use Rattle.h3_priority.specs.Priority.{PriorityParameters}
use Rattle.h3_connection.specs.Endpoint.{EndpointHistory}
use Rattle.h3_connection.specs.Outgoing.{Outgoing}
use Rattle.h3_connection.specs.Prioritizing.{is_sent, saying, used_at}
use Rattle.h3_connection.specs.Refusals.{first_of}
use Rattle.h3_connection.specs.Sending.{does}
use Rattle.h3_connection.specs.State.{EndpointState, RequestState, OutgoingState, StandsFor, IsOfOutgoing, kept_at}
use Rattle.h3_connection.specs.declared.event.Refusal.{Refusal}
use Rattle.h3_connection.specs.declared.event.Refusal.TheVariants as refusal
use Rattle.h3_connection.specs.declared.order.PrioritySource.TheVariants.{Update}
use Rattle.h3_requests.specs.Ordered as stored
use Rattle.h3_session.proofs.Taking.{found, not_found}
use Rattle.h3_session.specs.Prioritized.{said_if_open, IsSaid, UsesOne}

sent_same : (o : Outgoing) (w : OutgoingState) → IsOfOutgoing o w → is_sent o ≡ stored.is_sent w
sent_same o w h = ap (λ b. b || o.end_taken) (sym h.is_reset) ∙ ap (λ b. w.is_reset || b) (sym h.end_taken)

-- Nothing came of the stream: the update waits.
pub waits_on : (s : EndpointState) (id : ℕ) (p : PriorityParameters) (there : Option RequestState) → kept_at s.requests id ≡ there
    → option_map (λ r. stored.is_sent r.outgoing) there ≡ None → UsesOne s s id p (Ok false)
waits_on s id p None was none e h =
    subst (λ o. StandsFor s (used_at e id p o) × (false ≡ is_some o)) (sym (not_found s e id h (ap (option_map (λ r. r.outgoing)) was))) (h, refl)
waits_on s id p (Some r) was none e h = absurd (cc)

-- Sending has ended: the update is dropped.
pub is_dropped : (s : EndpointState) (id : ℕ) (p : PriorityParameters) (there : Option RequestState) → kept_at s.requests id ≡ there
    → option_map (λ r. stored.is_sent r.outgoing) there ≡ Some true → UsesOne s s id p (Ok true)
is_dropped s id p None was sent e h = absurd (cc)
is_dropped s id p (Some r) was sent e h =
    let f = found s e id r.outgoing h (ap (option_map (λ r. r.outgoing)) was) in
    let over : stored.is_sent r.outgoing ≡ true = cc in
    subst (λ o. StandsFor s (used_at e id p o) × (true ≡ is_some o)) (sym f.there)
    (subst (λ b. StandsFor s (if b then e else saying e id Update p)) (sym (sent_same f.o r.outgoing f.is ∙ over)) h, refl)

-- It counts.
pub is_used : (s n : EndpointState) (id : ℕ) (p : PriorityParameters) (there : Option RequestState) → kept_at s.requests id ≡ there
    → option_map (λ r. stored.is_sent r.outgoing) there ≡ Some false → IsSaid s n id Update p (Ok tt) → UsesOne s n id p (Ok true)
is_used s n id p None was going said e h = absurd (cc)
is_used s n id p (Some r) was going said e h =
    let f = found s e id r.outgoing h (ap (option_map (λ r. r.outgoing)) was) in
    let on : stored.is_sent r.outgoing ≡ false = cc in
    let here : said_if_open e id Update p ≡ (None, saying e id Update p)
    = ap (λ o. does (first_of ((not (is_some o), refusal.NotOpen) ∷ [])) e (saying e id Update p)) f.there in
    subst (λ o. StandsFor n (used_at e id p o) × (true ≡ is_some o)) (sym f.there) (
      subst (λ b. StandsFor n (if b then e else saying e id Update p)) (sym (sent_same f.o r.outgoing f.is ∙ on))
          (subst (λ (a : Option Refusal × EndpointHistory). StandsFor n a.1) here (said.done e h (λ memory. absurd (cc))).1),
      refl,
    )
