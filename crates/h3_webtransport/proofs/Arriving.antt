-- What bytes do that come on a stream which is read beside the endpoint.
use Rattle.std.proofs.Common.{◌≡◌, ℕ, List, Option, Some, None, Ok, Err, refl, sym, ap, ◌∙◌, unwrap_or}
use Rattle.std.specs.Prelude.{Result}
use Rattle.h3_connection.specs.Codes.{id_error, stream_creation_error}
use Rattle.h3_connection.specs.State.{EndpointState}
use Rattle.h3_connection.specs.declared.event.DeliverError.{DeliverError}
use Rattle.h3_connection.specs.declared.event.DeliverError.TheVariants.{Refused}
use Rattle.h3_connection.specs.declared.event.Refusal.TheVariants.{Connection}
use Rattle.h3_webtransport_streams.specs.Begun.{Delivers}
use Rattle.h3_webtransport_streams.specs.declared.receiver.Begun.{Begun}
use Rattle.h3_webtransport_streams.specs.declared.receiver.Begun.TheVariants as begun
use Rattle.h3_webtransport.specs.Joint.{Joint}
use Rattle.h3_webtransport.specs.Parts.{StreamsAlone}
use Rattle.h3_webtransport.specs.Receiving.{Arrives, closed_by, fault_of}

abbrev refused_with : DeliverError → EndpointState → Result Unit DeliverError × EndpointState
refused_with error f = (Err error, f)

-- the first bytes are a fault of the connection, which has none before
module _ (e f : EndpointState) (s t : Joint) (id : ℕ) (bytes : List ℕ) (error : DeliverError) where
  arrives_fault : (answer : Begun) (code : ℕ) → e.closed ≡ None → Delivers s.sessions.streams t.sessions.streams id bytes (Ok answer) → fault_of answer ≡ Some code → StreamsAlone s t
      → error ≡ Refused (Connection (unwrap_or e.closed code)) → f ≡ record e { closed = Some (unwrap_or e.closed code) } → Arrives e f s t id bytes (Err error)
  arrives_fault answer code closed h fault alone is closes =
      let same : unwrap_or e.closed code ≡ code = ap (λ o. unwrap_or o code) closed in
      record {
        inner = Ok answer;
        delivers = h;
        alone = alone;
        is = ap (λ x. refused_with x f) (is ∙ ap (λ c. Refused (Connection c)) same)
            ∙ ap (refused_with (Refused (Connection code))) (closes ∙ ap (λ c. record e { closed = Some c }) same)
            ∙ sym (ap (λ o. closed_by o e) fault);
      }

  pub arrives_no_front : e.closed ≡ None → Delivers s.sessions.streams t.sessions.streams id bytes (Ok begun.NoFront) → StreamsAlone s t
      → error ≡ Refused (Connection (unwrap_or e.closed stream_creation_error)) → f ≡ record e { closed = Some (unwrap_or e.closed stream_creation_error) } → Arrives e f s t id bytes (Err error)
  arrives_no_front closed h alone is closes = arrives_fault begun.NoFront stream_creation_error closed h refl alone is closes

  pub arrives_no_session : e.closed ≡ None → Delivers s.sessions.streams t.sessions.streams id bytes (Ok begun.NoSession) → StreamsAlone s t
      → error ≡ Refused (Connection (unwrap_or e.closed id_error)) → f ≡ record e { closed = Some (unwrap_or e.closed id_error) } → Arrives e f s t id bytes (Err error)
  arrives_no_session closed h alone is closes = arrives_fault begun.NoSession id_error closed h refl alone is closes

-- they were taken, or refused
pub arrives_taken : (e : EndpointState) (s t : Joint) (id : ℕ) (bytes : List ℕ) (session : Option ℕ) → Delivers s.sessions.streams t.sessions.streams id bytes (Ok (begun.Taken session)) → StreamsAlone s t
    → Arrives e e s t id bytes (Ok tt)
arrives_taken e s t id bytes session h alone = record { inner = Ok (begun.Taken session); delivers = h; alone = alone; is = refl }

pub arrives_refused : (e : EndpointState) (s t : Joint) (id : ℕ) (bytes : List ℕ) (error : DeliverError) → Delivers s.sessions.streams t.sessions.streams id bytes (Err error) → StreamsAlone s t
    → Arrives e e s t id bytes (Err error)
arrives_refused e s t id bytes error h alone = record { inner = Err error; delivers = h; alone = alone; is = refl }
