-- What a call does to one of the request streams.
use Rattle.std.specs.Prelude.{◌≡◌, ℕ, List, Option, Some, None, option_map, unwrap_or}
use Rattle.h3_connection.specs.Calls.{fresh_request, Sets}
use Rattle.h3_connection.specs.Delivering.{request_refusal}
use Rattle.h3_connection.specs.Incoming.{Incoming}
use Rattle.h3_connection.specs.State.{RequestState, kept_at}
use Rattle.h3_connection.specs.StreamSets.{Streams}
use Rattle.h3_connection.specs.declared.event.DeliverError.{DeliverError}
use Rattle.h3_connection.specs.declared.event.DeliverError.TheVariants as deliver_error
use Rattle.h3_connection.specs.declared.event.Refusal.{Refusal}
use Rattle.h3_proto.specs.declared.stream.Side.{Side}

-- What comes on a stream that is not there opens it.
abbrev pub opened_at : Streams RequestState → ℕ → RequestState
opened_at streams id = unwrap_or (kept_at streams id) fresh_request

-- What comes on the stream does this to its receiver, and the other streams stay.
abbrev pub Receives : Streams RequestState → Streams RequestState → ℕ → (Incoming → Incoming) → Type 0
Receives old new id change = Sets old new id (record (opened_at old id) { incoming = change (opened_at old id).incoming })

-- why what comes on a stream is refused
abbrev pub receiver_refusal : Side → Option RequestState → Option Refusal
receiver_refusal side there = request_refusal side (option_map (λ r. r.incoming) there)

-- That is told; or nothing refuses the bytes, and they come back for want of memory.
abbrev pub IsRefusedBy : Option Refusal → List ℕ → DeliverError → Type 0
IsRefusedBy rule bytes (deliver_error.Refused refusal) = rule ≡ Some refusal
IsRefusedBy rule bytes (deliver_error.OutOfMemory handed) = (rule ≡ None) × (handed ≡ bytes)
IsRefusedBy rule bytes deliver_error.Kept = ⊥
