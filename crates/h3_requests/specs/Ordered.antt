-- What goes before what of the request streams.
use Rattle.std.specs.Prelude.{ℕ, Bool, true, false, not, ◌&&◌, ◌||◌, if◌then◌else◌, Option, Some, None, option_map}
use Rattle.h3_connection.specs.Order.{gives_way}
use Rattle.h3_connection.specs.State.{OutgoingState, RequestState, kept_at}
use Rattle.h3_connection.specs.StreamSets.{Streams}
use Rattle.h3_connection.specs.declared.event.Refusal.{Refusal}
use Rattle.h3_connection.specs.declared.event.Refusal.TheVariants as refusal
use Rattle.h3_connection.specs.declared.order.Precedence.{Precedence}
use Rattle.h3_connection.specs.declared.order.PrioritySource.{PrioritySource}
use Rattle.h3_priority.specs.Priority.{PriorityParameters}
use Rattle.h3_scheduler.specs.Places.{Places}
use Rattle.h3_scheduler.specs.Streams.{is_class}
use Rattle.h3_requests.specs.HasBytes.{has_bytes, has_end}

abbrev pub precedence_at : Option RequestState → Option Precedence
precedence_at r = option_map (λ x. x.outgoing.precedence) r

-- bytes or an end wait on it, it is not held, and it has this urgency and is incremental or not
abbrev pub sends_at : Option RequestState → ℕ → Bool → Bool
sends_at None urgency incremental = false
sends_at (Some r) urgency incremental =
    (has_bytes (Some r) || has_end (Some r)) && (not r.outgoing.precedence.is_held && is_class (Some r.outgoing.precedence.priority) urgency incremental)

abbrev pub places_in : Streams RequestState → Places
places_in streams urgency incremental id = sends_at (kept_at streams id) urgency incremental

-- a stream that is not there, and else want of memory
abbrev pub refused_unless : Bool → Refusal
refused_unless true = refusal.OutOfMemory
refused_unless false = refusal.NotOpen

-- somebody says this of a priority: it counts unless something was said that counts before it
abbrev pub saying : Precedence → PrioritySource → PriorityParameters → Precedence
saying there source p = if gives_way there.source source then record there { priority = p; source = source } else there

-- sending has ended
abbrev pub is_sent : OutgoingState → Bool
is_sent s = s.is_reset || s.end_taken
