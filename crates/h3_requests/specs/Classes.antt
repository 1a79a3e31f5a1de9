-- Classes of streams, by what goes before what (RFC 9218, section 10).
use Rattle.std.specs.Prelude.{ℕ, ◌+◌, ◌*◌, Bool, if◌then◌else◌, ◌==◌, ◌&&◌, Option, Some, None}
use Rattle.h3_connection.specs.State.{RequestState}
use Rattle.h3_connection.specs.declared.order.Precedence.{Precedence}

-- by urgency, and of one urgency those that are not incremental first; behind all others those that are held
abbrev pub class_of : Precedence → ℕ
class_of p = if p.is_held then 16 else p.priority.urgency * 2 + (if p.priority.incremental then 1 else 0)

-- that of a stream; one that is not there has that of a stream of which nothing was said
abbrev pub class_at : Option RequestState → ℕ
class_at None = 6
class_at (Some r) = class_of r.outgoing.precedence
