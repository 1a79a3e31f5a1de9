-- A request of an id that QUIC gave is opened: one after the other, up to that id.
use Rattle.std.proofs.Common.{arith, ◌≡◌, ◌≢◌, ◌<◌, ◌+◌, ◌∙◌, ℕ, suc, Bool, true, false, if◌then◌else◌, [], ◌∷◌, refl, ap, sym, subst}
use Rattle.std.specs.Prelude.{◌^◌, not, nat_le, nat_lt, Option, Some, None, Ok, Err}
use Rattle.h3_proto.specs.StreamIds.{is_request_stream}
use Rattle.h3_connection.specs.Endpoint.{EndpointHistory}
use Rattle.h3_connection.specs.Lasts.{last_id}
use Rattle.h3_connection.specs.Pulling.{is_client}
use Rattle.h3_connection.specs.Refusals.{first_of, going_away, or_later}
use Rattle.h3_connection.specs.Sending.{closed_or, does, open_refusal}
use Rattle.h3_connection.specs.SendingContracts.{Opens}
use Rattle.h3_connection.specs.State.{EndpointState, StandsFor}
use Rattle.h3_connection.specs.declared.event.Refusal.{Refusal}
use Rattle.h3_connection.specs.declared.event.Refusal.TheVariants as refusal
use Rattle.h3_session.specs.OpeningAt.{id_refused, opened_more, opening_refusal, to_open, OpensAt, OpensFewer}
use Rattle.h3_session.specs.Refused.{open_refused}
use Rattle.h3_session.proofs.MemoryUnchanged.{stands_unchanged}
use Rattle.h3_session.proofs.SendingCalls.{same_itself, was_done, was_refused}
use Rattle.h3_session.proofs.SendingRefusals.{open_refusal_is}

-- the refusal by what is stored is that of every history
refusal_is : (s : EndpointState) (e : EndpointHistory) (id : ℕ) → StandsFor s e → or_later (open_refused s) (id_refused s.next_id id) ≡ opening_refusal e id
refusal_is s e id h = ap (λ o. or_later o (id_refused s.next_id id)) (open_refusal_is s e h) ∙ ap (λ n. or_later (open_refusal e) (id_refused n id)) h.next_id

id_memory : (is_request is_below : Bool) → first_of ((not is_request, refusal.NotRequestId) ∷ (is_below, refusal.OutOfOrder) ∷ []) ≢ Some refusal.OutOfMemory
id_memory false below = λ is. absurd (cc)
id_memory true true = λ is. absurd (cc)
id_memory true false = λ is. absurd (cc)

open_memory : (closed : Option ℕ) (is_server : Bool) (last : Option ℕ) (far : Bool)
    → closed_or closed (if is_server then Some refusal.NotClient else going_away last (if far then Some refusal.IdsUsedUp else None)) ≢ Some refusal.OutOfMemory
open_memory (Some code) server last far = λ is. absurd (cc)
open_memory None true last far = λ is. absurd (cc)
open_memory None false (Some id) far = λ is. absurd (cc)
open_memory None false None true = λ is. absurd (cc)
open_memory None false None false = λ is. absurd (cc)

later_memory : (first later : Option Refusal) → first ≢ Some refusal.OutOfMemory → later ≢ Some refusal.OutOfMemory → or_later first later ≢ Some refusal.OutOfMemory
later_memory None later first_is later_is = later_is
later_memory (Some r) later first_is later_is = first_is

-- no rule refuses memory
not_memory : (s : EndpointState) (id : ℕ) → or_later (open_refused s) (id_refused s.next_id id) ≢ Some refusal.OutOfMemory
not_memory s id =
    later_memory (open_refused s) (id_refused s.next_id id)
    (open_memory s.closed (not (is_client s.side)) (last_id s.peer.goaways) (nat_le (2 ^ 62) s.next_id))
    (id_memory (is_request_stream id) (nat_lt id s.next_id))

pub refuses_at : (s : EndpointState) (id : ℕ) (r : Refusal) → Some r ≡ or_later (open_refused s) (id_refused s.next_id id) → OpensAt s s id (Some r)
refuses_at s id r is =
    record {
      done = λ e h ne. was_refused e (opened_more (to_open e.next_id id) e) s (opening_refusal e id) r (sym (is ∙ refusal_is s e id h)) h;
      same = λ some ne. same_itself s;
      memory = λ e h memory. absurd (not_memory s id (sym is ∙ memory));
      fewer = λ memory. absurd (not_memory s id (sym is ∙ memory));
    }

pub opens_at : (s new : EndpointState) (id count : ℕ) → None ≡ or_later (open_refused s) (id_refused s.next_id id) → count ≡ to_open s.next_id id
    → ((e : EndpointHistory) → StandsFor s e → StandsFor new (opened_more count e)) → OpensAt s new id None
opens_at s new id count is counted stands =
    record {
      done = λ e h ne. was_done e (opened_more (to_open e.next_id id) e) new (opening_refusal e id) (sym (is ∙ refusal_is s e id h))
          (subst (λ n. StandsFor new (opened_more n e)) (counted ∙ ap (λ next. to_open next id) h.next_id) (stands e h));
      same = λ some. absurd (some refl);
      memory = λ e h memory. absurd (cc);
      fewer = λ memory. absurd (cc);
    }

pub lacks_at : (s new : EndpointState) (id count : ℕ) → None ≡ or_later (open_refused s) (id_refused s.next_id id) → count ≡ to_open s.next_id id
    → OpensFewer s new count → OpensAt s new id (Some refusal.OutOfMemory)
lacks_at s new id count is counted fewer =
    record {
      done = λ e h ne. absurd (ne refl);
      same = λ some ne. absurd (ne refl);
      memory = λ e h memory. ap (λ r. (does r e (opened_more (to_open e.next_id id) e)).0) (sym (is ∙ refusal_is s e id h));
      fewer = λ memory. subst (OpensFewer s new) counted fewer;
    }

-- one more is opened
pub opened_next : (s t new : EndpointState) (n id : ℕ) → ((e : EndpointHistory) → StandsFor s e → StandsFor t (opened_more n e)) → Opens t new (Ok id)
    → (e : EndpointHistory) → StandsFor s e → StandsFor new (opened_more (n + 1) e)
opened_next s t new n id before opens e h =
    let next : suc n ≡ n + 1 = omega arith in
    subst (λ m. StandsFor new (opened_more m e)) next (opens.opens.done (opened_more n e) (before e h) (λ memory. absurd (cc))).1

-- or none, and those before stay open
pub opened_fewer : (s t new : EndpointState) (n count : ℕ) (r : Refusal) → n < count → ((e : EndpointHistory) → StandsFor s e → StandsFor t (opened_more n e)) → Opens t new (Err r)
    → OpensFewer s new count
opened_fewer s t new n count r few before opens =
    record {
      opened = n;
      fewer = few;
      stands = λ e h. stands_unchanged t new (opened_more n e) (opens.opens.same (λ none. absurd (cc))) (before e h);
    }
