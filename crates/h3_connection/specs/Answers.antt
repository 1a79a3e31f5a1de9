-- Answers of calls, as the definitions have them.
use Rattle.std.specs.Prelude.{ℕ, List, Bool, true, false, Option, Some, None, Result, Ok, Err}
use Rattle.h3_connection.specs.declared.event.Refusal.{Refusal}
use Rattle.h3_connection.specs.declared.event.Refusal.TheVariants as refusal
use Rattle.h3_connection.specs.declared.event.DeliverError.{DeliverError}
use Rattle.h3_connection.specs.declared.event.DeliverError.TheVariants as deliver_error

-- the refusal that a delivery answers
abbrev pub delivery_refused : {X : Type 0} → Result X DeliverError → Option Refusal
delivery_refused (Ok done) = None
delivery_refused (Err (deliver_error.Refused r)) = Some r
delivery_refused (Err (deliver_error.OutOfMemory bytes)) = Some refusal.OutOfMemory
delivery_refused (Err deliver_error.Kept) = Some refusal.Kept

abbrev pub lacks_memory : {X : Type 0} → Result X DeliverError → Bool
lacks_memory (Ok done) = false
lacks_memory (Err (deliver_error.Refused r)) = false
lacks_memory (Err (deliver_error.OutOfMemory bytes)) = true
lacks_memory (Err deliver_error.Kept) = true

-- the refusal that another call answers
abbrev pub call_refused : {X : Type 0} → Result X Refusal → Option Refusal
call_refused (Ok done) = None
call_refused (Err r) = Some r

-- and that of a call that hands its bytes back
abbrev pub body_refused : {X : Type 0} → Result X (Refusal × List ℕ) → Option Refusal
body_refused (Ok done) = None
body_refused (Err (r, bytes)) = Some r
