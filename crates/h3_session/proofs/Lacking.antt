-- What refuses a call whose bytes or list are not there.
use Rattle.std.proofs.Common.{◌≡◌, ℕ, Bool, true, false, [], ◌∷◌, Option, Some, None, refl, ap, sym, subst, ◌∙◌}
use Rattle.std.specs.Prelude.{not, unwrap_or}
use Rattle.h3_connection.specs.declared.arrival.Arrival.TheVariants.{BytesCame}
use Rattle.h3_connection.specs.Endpoint.{EndpointHistory}
use Rattle.h3_connection.specs.Keeping.{arrival_refusal}
use Rattle.h3_connection.specs.Refusals.{first_of, or_later, unless_going}
use Rattle.h3_connection.specs.Sending.{closed_or}
use Rattle.h3_connection.specs.State.{EndpointState, StandsFor, kept_at}
use Rattle.h3_connection.specs.declared.event.Refusal.{Refusal}
use Rattle.h3_connection.specs.declared.event.Refusal.TheVariants as refusal
use Rattle.h3_requests.specs.Refused.{body_refused_at, data_refused_at, seen_in}
use Rattle.h3_session.specs.Lacking.{RefusesBodies, RefusesDeliveries, RefusesHeads, RefusesTrailers}
use Rattle.h3_session.specs.SendingLists.{NotMalformed}
use Rattle.h3_session.proofs.Lists.{head_list_closed, head_list_early, trailer_list_closed, trailer_list_early}
use Rattle.h3_session.proofs.ReceivingArrives.{is_taken, took_none, was_closed, was_refused}
use Rattle.h3_session.proofs.ReceivingCancel.{nothing_changed}
use Rattle.h3_session.proofs.SendingBodies.{body_closed, body_uncounted}
use Rattle.h3_session.proofs.SendingRefusals.{order_refusal_is, place_refusal_is}
use Rattle.h3_session.specs.Refused.{head_refused_in, sender_on}

-- a rule of the stream is none of messages
not_malformed_at : (a b : Bool) (o : Option Refusal) → first_of ((a, refusal.NotOpen) ∷ (b, refusal.OutOfOrder) ∷ []) ≡ o → NotMalformed o
not_malformed_at true b o is = subst NotMalformed is tt
not_malformed_at false true o is = subst NotMalformed is tt
not_malformed_at false false o is = subst NotMalformed is tt

-- nor is the GOAWAY behind it
not_malformed_in : (a b : Bool) (going : Option ℕ) (o : Option Refusal) → or_later (first_of ((a, refusal.NotOpen) ∷ (b, refusal.OutOfOrder) ∷ [])) (first_of (unless_going going [])) ≡ o → NotMalformed o
not_malformed_in true b going o is = subst NotMalformed is tt
not_malformed_in false true going o is = subst NotMalformed is tt
not_malformed_in false false None o is = subst NotMalformed is tt
not_malformed_in false false (Some id) o is = subst NotMalformed is tt

head_not_malformed : (s : EndpointState) (id : ℕ) (r : Refusal) → head_refused_in s id ≡ Some r → NotMalformed (Some r)
head_not_malformed s id r is = let v = seen_in (kept_at s.requests id) in not_malformed_in (not v.is_open) (not v.takes_head) (sender_on s id).going (Some r) is

body_not_malformed : (s : EndpointState) (id : ℕ) (r : Refusal) → body_refused_at (kept_at s.requests id) ≡ Some r → NotMalformed (Some r)
body_not_malformed s id r is = let v = seen_in (kept_at s.requests id) in not_malformed_at (not v.is_open) (not v.takes_body) (Some r) is

module _ (s : EndpointState) (id : ℕ) where
  -- a body
  pub bodies_closed : (size code : ℕ) → s.closed ≡ Some code → RefusesBodies s id size (Some (refusal.Closed code))
  bodies_closed size code closed = λ bytes is. body_closed s id bytes code closed

  pub bodies_refused : (size : ℕ) (r : Refusal) (why : Option Refusal) → s.closed ≡ None → r ≡ unwrap_or (data_refused_at (kept_at s.requests id) size) refusal.OutOfMemory
      → unwrap_or why refusal.OutOfMemory ≡ r → RefusesBodies s id size why
  bodies_refused size r why closed is same = λ bytes len. body_uncounted s id bytes size (unwrap_or why refusal.OutOfMemory) closed (sym len) (same ∙ is)

  -- a delivery
  pub deliveries_closed : (code : ℕ) → s.closed ≡ Some code → RefusesDeliveries s id (Some (refusal.Connection code))
  deliveries_closed code closed = λ bytes. record { receives = was_closed s (BytesCame id bytes) code closed; behind = λ request is. cc }

  pub deliveries_refused : (why : Option Refusal) → s.closed ≡ None → ((e : EndpointHistory) → StandsFor s e → why ≡ arrival_refusal e id) → RefusesDeliveries s id why
  deliveries_refused (Some r) closed is = λ bytes. record { receives = was_refused s (BytesCame id bytes) r id closed refl is; behind = λ request kept. cc }
  deliveries_refused None closed is = λ bytes. record { receives = took_none s s (BytesCame id bytes) (is_taken s id closed is) (nothing_changed s); behind = λ request kept. cc }

  -- a list in the place of a head
  pub heads_closed : (code : ℕ) → s.closed ≡ Some code → RefusesHeads s id (Some (refusal.Closed code))
  heads_closed code closed = (tt, λ fields. head_list_closed s id fields code closed)

  pub heads_refused : (why : Option Refusal) → s.closed ≡ None → why ≡ head_refused_in s id → RefusesHeads s id why
  heads_refused (Some r) closed is = (head_not_malformed s id r (sym is), λ fields. head_list_early s id fields r closed (sym is))
  heads_refused None closed is = λ e stands. sym (place_refusal_is s e id stands) ∙ ap (λ c. closed_or c (head_refused_in s id)) closed ∙ sym is

  -- and of a trailer
  pub trailers_closed : (code : ℕ) → s.closed ≡ Some code → RefusesTrailers s id (Some (refusal.Closed code))
  trailers_closed code closed = (tt, λ fields. trailer_list_closed s id fields code closed)

  pub trailers_refused : (why : Option Refusal) → s.closed ≡ None → why ≡ body_refused_at (kept_at s.requests id) → RefusesTrailers s id why
  trailers_refused (Some r) closed is = (body_not_malformed s id r (sym is), λ fields. trailer_list_early s id fields r closed (sym is))
  trailers_refused None closed is = λ e stands. sym (order_refusal_is s e id stands) ∙ ap (λ c. closed_or c (body_refused_at (kept_at s.requests id))) closed ∙ sym is
