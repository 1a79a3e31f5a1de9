-- Where nothing has changed, the same histories are stood for.
use Rattle.std.proofs.Common.{ap, sym, subst, ◌∙◌}
use Rattle.std.specs.Prelude.{option_map}
use Rattle.h3_connection.specs.Calls.{IsSame}
use Rattle.h3_connection.specs.Endpoint.{EndpointHistory}
use Rattle.h3_connection.specs.State.{EndpointState, RequestState, StandsFor, SameAt, IsOfOutgoing}
use Rattle.h3_connection.specs.StreamSets.{stream_at}

pub stands_unchanged : (s t : EndpointState) (e : EndpointHistory) → IsSame s t → StandsFor s e → StandsFor t e
stands_unchanged s t e same h =
    record {
      side = same.rest.side ∙ h.side;
      announced = same.rest.announced ∙ h.announced;
      closed = same.rest.closed ∙ h.closed;
      next_id = same.next_id ∙ h.next_id;
      incoming = λ id. ap (option_map (λ (r : RequestState). r.incoming)) (same.requests.each id) ∙ h.incoming id;
      outgoing = λ id. subst (λ o. SameAt IsOfOutgoing (stream_at e.outgoing id) (option_map (λ (r : RequestState). r.outgoing) o)) (sym (same.requests.each id)) (h.outgoing id);
      unidirectional = λ id. same.rest.unidirectional.each id ∙ h.unidirectional id;
      distinct = h.distinct;
      control_on = same.rest.control_on ∙ h.control_on;
      encoder_on = same.rest.encoder_on ∙ h.encoder_on;
      decoder_on = same.rest.decoder_on ∙ h.decoder_on;
      peer = same.rest.peer ∙ h.peer;
      decoding = same.rest.decoding ∙ h.decoding;
      encoder = ap (λ x. x.encoder) same.rest.encoding ∙ h.encoder;
      decoder_unread = ap (λ x. x.unread) same.rest.encoding ∙ h.decoder_unread;
      own = record {
        control = ap (λ o. o.control) same.rest.own ∙ h.own.control;
        encoder = ap (λ o. o.encoder) same.rest.own ∙ h.own.encoder;
        decoder = ap (λ o. o.decoder) same.rest.own ∙ h.own.decoder;
        taken = h.own.taken;
      };
      last_goaway = same.rest.last_goaway ∙ h.last_goaway;
      kept = same.rest.kept ∙ h.kept;
      sent = same.rest.sent ∙ h.sent;
      order = same.rest.order ∙ h.order;
      reached = h.reached;
    }
