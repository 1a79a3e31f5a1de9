use Rattle.std.specs.Prelude.{Option, None, Some}
use mir.Raw.{raw}
use denote.Memory.{lone}
use denote.RawPtr.{Ptr}
use denote.Struct.Struct.{exits_of}
use denote.Struct.Owning.{shape, fields, to}
use denote.Param.Send.{IsSend, AllSend, owning_send, struct_send, sendable}
use Rattle.std.proofs.Crossing as heap
use Rattle.std_alloc.proofs.SendSync.{quiet, lies}
use base.Shift.{Keyless}
use Rattle.h3_c.specs.Held.{held, the_heap}
use Rattle.h3_c.specs.contracts.connection.Connection as connection
use Rattle.h3_c.proofs.connection.Connection.TheSendSync.{the_send as inner}
use Rattle.h3_c.specs.contracts.handle.Handle.{the_row, the_type}

quiet_held : (p : Ptr) (v : Option (connection.the_row).Denot) → Keyless (held connection.the_row p v)
unfolding held
quiet_held p None = tt
quiet_held p (Some v) = (lies connection.the_row inner p v, heap.frees.frees the_heap (raw (lone (connection.the_row).mir)) p)

pub send : IsSend the_row
send =
    let all : AllSend (fields the_type) = (search sendable, tt) in
    owning_send the_type all (λ d. quiet_held d.at d.value)
    (λ k. quiet (to the_type) (exits_of k (fields the_type)) ((struct_send (shape the_type) all).leaving k))
