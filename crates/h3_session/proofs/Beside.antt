-- An id of a request is passed over, and a fault that was found elsewhere closes an endpoint.
use Rattle.std.proofs.Common.{◌≡◌, ◌≤◌, ◌^◌, ◌+◌, ℕ, Some, None, refl, sym, subst, ap, ◌∙◌, Ok, Err}
use Rattle.std.specs.Prelude.{nat_le, unwrap_or, Option, Bool, is_some}
use Rattle.std.proofs.lemmas.Bool.{le-leb}
use Rattle.h3_connection.specs.Endpoint.{EndpointHistory}
use Rattle.h3_connection.specs.Keeping.{arrival_refusal}
use Rattle.h3_connection.specs.Lasts.{last_id}
use Rattle.h3_connection.specs.Sending.{open_refusal}
use Rattle.h3_connection.specs.StandsLaws.{own_same, reached_same}
use Rattle.h3_connection.specs.State.{EndpointState, StandsFor}
use Rattle.h3_connection.specs.declared.event.Refusal.{Refusal}
use Rattle.h3_connection.specs.declared.event.Refusal.TheVariants as refusal
use Rattle.h3_session.specs.Beside.{ClosesFor, ShowsEnd, TakesId, closed_for}
use Rattle.h3_session.specs.Refused.{open_refused}
use Rattle.h3_session.proofs.NextRequest.{used_up}
use Rattle.h3_session.proofs.Opened.{stands_closed}
use Rattle.h3_session.proofs.SendingCalls.{always_acts, always_refuses}
use Rattle.h3_session.proofs.SendingRefusals.{open_refusal_is, open_takes_none}

stands_next : (s : EndpointState) (e : EndpointHistory) → StandsFor s e → StandsFor (record s { next_id = s.next_id + 4 }) (record e { next_id = e.next_id + 4 })
stands_next s e h =
    record {
      side = h.side;
      announced = h.announced;
      closed = h.closed;
      next_id = ap (λ n. n + 4) h.next_id;
      incoming = h.incoming;
      outgoing = h.outgoing;
      unidirectional = h.unidirectional;
      distinct = h.distinct;
      control_on = h.control_on;
      encoder_on = h.encoder_on;
      decoder_on = h.decoder_on;
      peer = h.peer;
      decoding = h.decoding;
      encoder = h.encoder;
      decoder_unread = h.decoder_unread;
      own = own_same s.own e (record e { next_id = e.next_id + 4 }) refl h.own;
      last_goaway = h.last_goaway;
      kept = h.kept;
      sent = h.sent;
      order = h.order;
      reached = reached_same e (record e { next_id = e.next_id + 4 }) refl h.reached.own_updates h.reached;
    }

pub refuses_id : (s : EndpointState) (r : Refusal) → Some r ≡ open_refused s → TakesId s s (Err r)
refuses_id s r is =
    record {
      takes = always_refuses open_refusal (λ e. record e { next_id = e.next_id + 4 }) s r (λ e h. sym (open_refusal_is s e h) ∙ sym is) (λ memory. open_takes_none s (sym is ∙ ap Some memory));
      id = λ taken result. absurd (cc);
    }

takes_here : (s : EndpointState) (id : ℕ) → id ≡ s.next_id → open_refused s ≡ None → TakesId s (record s { next_id = s.next_id + 4 }) (Ok id)
takes_here s id same is =
    record {
      takes = always_acts open_refusal (λ e. record e { next_id = e.next_id + 4 }) s (record s { next_id = s.next_id + 4 }) (λ e h. sym (open_refusal_is s e h) ∙ is) (stands_next s);
      id = λ taken result. let here : taken ≡ id = cc in here ∙ same;
    }

pub takes_id : (s now : EndpointState) (id : ℕ) → s ≡ now → open_refused now ≡ None → id ≡ s.next_id → TakesId now (record s { next_id = s.next_id + 4 }) (Ok id)
takes_id s now id view is same = subst (λ v. open_refused v ≡ None → TakesId v (record s { next_id = s.next_id + 4 }) (Ok id)) view (takes_here s id same) is

pub takes_far : (s : EndpointState) → None ≡ open_refused s → 2 ^ 62 ≤ s.next_id → TakesId s s (Err refusal.IdsUsedUp)
takes_far s is far = absurd (used_up s.closed s.side (last_id s.peer.goaways) (nat_le (2 ^ 62) s.next_id) (le-leb (2 ^ 62) s.next_id far) is)

-- the first fault stays
pub closes_first : (s : EndpointState) (code first : ℕ) → s.closed ≡ Some first → ClosesFor s s code
closes_first s code first is = λ e h.
    let was : e.closed ≡ Some first = sym h.closed ∙ is in
    let same : closed_for code e ≡ e = ap (λ c. record e { closed = Some (unwrap_or c code) }) was ∙ ap (λ c. record e { closed = c }) (sym was) in
    subst (StandsFor s) (sym same) h

pub closes_now : (s : EndpointState) (code : ℕ) → s.closed ≡ None → ClosesFor s (record s { closed = Some code }) code
closes_now s code is = λ e h.
    let was : e.closed ≡ None = sym h.closed ∙ is in
    subst (StandsFor (record s { closed = Some code })) (ap (λ c. record e { closed = Some (unwrap_or c code) }) (sym was)) (stands_closed s e code h)

-- what refuses arrivals on a stream
pub shows_end : (s : EndpointState) (id : ℕ) (why : Option Refusal) (ended : Bool) → ((e : EndpointHistory) → StandsFor s e → why ≡ arrival_refusal e id) → ended ≡ is_some why → ShowsEnd s id ended
shows_end s id why ended is told e h = told ∙ ap is_some (is e h)
