-- What an endpoint kept, as an allocation failed before, is read before it gives up a stream of a session.
use Rattle.std.specs.Prelude.{◌≡◌, ℕ, Bool, true, false, Option, Some, Result, Ok, Err}
use Rattle.h3_connection.specs.Answers.{call_refused}
use Rattle.h3_connection.specs.ReceivingContracts.{PullsNext}
use Rattle.h3_connection.specs.State.{EndpointState}
use Rattle.h3_connection.specs.declared.event.Fault.TheVariants.{Connection as Closing, Memory}
use Rattle.h3_connection.specs.declared.event.Pull.{Pull}
use Rattle.h3_connection.specs.declared.event.Pull.TheVariants as pull
use Rattle.h3_connection.specs.declared.event.Refusal.{Refusal}
use Rattle.h3_connection.specs.declared.event.Refusal.TheVariants.{Closed, OutOfMemory}
use Rattle.h3_session.specs.Beside.{DropsSession}

-- the code that stands for what this side gave up
abbrev pub given_up_code : ℕ
given_up_code = 0x10c

abbrev pub lacks : Option Refusal → Bool
lacks (Some OutOfMemory) = true
lacks _ = false

-- a stream both ways that a server opens: an endpoint delivers nothing of it
abbrev pub silent : ℕ
silent = 1

abbrev pub read_as : Pull → Result Unit Refusal
read_as (pull.Fault (Closing code)) = Err (Closed code)
read_as (pull.Fault Memory) = Err OutOfMemory
read_as _ = Ok tt

-- a pull reads all that is kept, or up to some point where an allocation fails again
pub record ReadsKept (e f : EndpointState) (result : Result Unit Refusal) : Type 0 where
  pub answer : Pull
  pub pulls : PullsNext e f silent answer
  pub is : result ≡ read_as answer

abbrev pub DropsIf : Result Unit Refusal → EndpointState → EndpointState → ℕ → Result Unit Refusal → Type 0
DropsIf (Ok done) e f id result = DropsSession e f id given_up_code result
DropsIf (Err refusal) e f id result = (result ≡ Err refusal) × (f ≡ e)

pub record DropsBehind (e f : EndpointState) (id : ℕ) (result : Result Unit Refusal) : Type 0 where
  pub read : Result Unit Refusal
  pub mid : EndpointState
  pub reads : ReadsKept e mid read
  pub drops : DropsIf read mid f id result

-- What came on a stream that goes one way is dropped at once, or once what was kept was read.
pub data Drops (e f : EndpointState) (id : ℕ) (result : Result Unit Refusal) : Type 0 where
  at_once : DropsSession e f id given_up_code result → lacks (call_refused result) ≡ false → Drops e f id result
  behind : (first : Result Unit Refusal) (mid : EndpointState) → DropsSession e mid id given_up_code first → lacks (call_refused first) ≡ true → DropsBehind mid f id result → Drops e f id result
