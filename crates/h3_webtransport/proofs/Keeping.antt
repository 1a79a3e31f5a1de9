-- What was kept is read before a stream is given up.
use Rattle.std.proofs.Common.{◌≡◌, ℕ, true, false, Ok, Err, refl}
use Rattle.std.specs.Prelude.{Result}
use Rattle.h3_connection.specs.Answers.{call_refused}
use Rattle.h3_connection.specs.State.{EndpointState}
use Rattle.h3_connection.specs.declared.event.Refusal.{Refusal}
use Rattle.h3_session.specs.Beside.{DropsSession}
use Rattle.h3_webtransport.specs.Keeping.{Drops, DropsBehind, ReadsKept, given_up_code, lacks}
use Rattle.h3_webtransport.specs.Keeping.Drops.{at_once, behind}

-- what came is dropped then
pub drops_read : (e mid f : EndpointState) (id : ℕ) (result : Result Unit Refusal) → ReadsKept e mid (Ok tt) → DropsSession mid f id given_up_code result → DropsBehind e f id result
drops_read e mid f id result reads drops = record { read = Ok tt; mid = mid; reads = reads; drops = drops }

pub drops_not : (e mid : EndpointState) (id : ℕ) (refusal : Refusal) → ReadsKept e mid (Err refusal) → DropsBehind e mid id (Err refusal)
drops_not e mid id refusal reads = record { read = Err refusal; mid = mid; reads = reads; drops = (refl, refl) }

-- unless it was dropped at once
pub drops_now : (e f : EndpointState) (id : ℕ) (result : Result Unit Refusal) → DropsSession e f id given_up_code result → lacks (call_refused result) ≡ false → Drops e f id result
drops_now e f id result drops done = at_once drops done

pub drops_later : (e mid f : EndpointState) (id : ℕ) (first result : Result Unit Refusal) → DropsSession e mid id given_up_code first → lacks (call_refused first) ≡ true → DropsBehind mid f id result
    → Drops e f id result
drops_later e mid f id first result drops lacking again = behind first mid drops lacking again
