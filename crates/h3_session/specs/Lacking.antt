-- What a call answers whose bytes or list its caller has no memory to copy: what refuses it whatever they are, and else want of memory.
use Rattle.std.specs.Prelude.{◌≡◌, ℕ, List, length, Option, Some, None, Err, unwrap_or}
use Rattle.h3_field.specs.Field.{Field}
use Rattle.h3_connection.specs.Endpoint.{EndpointHistory}
use Rattle.h3_connection.specs.ReceivingContracts.{Delivers}
use Rattle.h3_connection.specs.SendingContracts.{SendsBody}
use Rattle.h3_connection.specs.State.{EndpointState, StandsFor}
use Rattle.h3_connection.specs.declared.event.DeliverError.{DeliverError}
use Rattle.h3_connection.specs.declared.event.DeliverError.TheVariants as deliver_error
use Rattle.h3_connection.specs.declared.event.Refusal.{Refusal}
use Rattle.h3_connection.specs.declared.event.Refusal.TheVariants as refusal
use Rattle.h3_session.specs.SendingLists.{NotMalformed, SendsFieldList, SendsTrailerList, order_refusal, place_refusal}

-- `send_body` of so many bytes
abbrev pub RefusesBodies : EndpointState → ℕ → ℕ → Option Refusal → Type 0
RefusesBodies s id size why = (bytes : List ℕ) → length bytes ≡ size → SendsBody s s id bytes (Err (unwrap_or why refusal.OutOfMemory, bytes))

-- `deliver`
abbrev pub delivery_error : Option Refusal → List ℕ → DeliverError
delivery_error (Some r) bytes = deliver_error.Refused r
delivery_error None bytes = deliver_error.OutOfMemory bytes

abbrev pub RefusesDeliveries : EndpointState → ℕ → Option Refusal → Type 0
RefusesDeliveries s id why = (bytes : List ℕ) → Delivers s s id bytes (Err (delivery_error why bytes))

-- `send_fields`: no rule of its place in the message refuses the list
abbrev pub RefusesHeads : EndpointState → ℕ → Option Refusal → Type 0
RefusesHeads s id (Some r) = NotMalformed (Some r) × ((fields : List Field) → SendsFieldList s s id fields (Err r))
RefusesHeads s id None = (e : EndpointHistory) → StandsFor s e → place_refusal e id ≡ None

-- `send_trailer_fields`
abbrev pub RefusesTrailers : EndpointState → ℕ → Option Refusal → Type 0
RefusesTrailers s id (Some r) = NotMalformed (Some r) × ((fields : List Field) → SendsTrailerList s s id fields (Err r))
RefusesTrailers s id None = (e : EndpointHistory) → StandsFor s e → order_refusal e id ≡ None
