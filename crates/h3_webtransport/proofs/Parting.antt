-- A call is one on a stream of a session, or it is passed on; behind a fault of the connection it is refused.
use Rattle.std.proofs.Common.{◌≡◌, ℕ, Bool, true, false, List, Option, Some, None, Ok, Err, refl, sym, ap, ◌∙◌}
use Rattle.std.specs.Prelude.{Result, OnOk, IfErr, unwrap_or}
use Rattle.h3_connection.specs.Calls.{AllSame}
use Rattle.h3_connection.specs.State.{EndpointState}
use Rattle.h3_connection.specs.declared.event.DeliverError.{DeliverError}
use Rattle.h3_connection.specs.declared.event.DeliverError.TheVariants.{Refused}
use Rattle.h3_connection.specs.declared.event.Refusal.{Refusal}
use Rattle.h3_connection.specs.declared.event.Refusal.TheVariants.{Closed, Connection, NotOpen, OutOfMemory}
use Rattle.h3_webtransport_streams.specs.SessionStream.{Acts, answer_at}
use Rattle.h3_webtransport.specs.Joint.{Joint, stored_at}
use Rattle.h3_webtransport.specs.Parts.{Parts, StreamsAlone, UnlessClosed}
use Rattle.h3_webtransport.specs.Receiving.{UnlessFaulty}
use Rattle.h3_webtransport.specs.Sending.{SendsRaw, raw_refusal, sends_raw}

module _ (here : Bool) (Here Elsewhere : Type 0) where
  pub part_here : here ≡ true → Here → Parts here Here Elsewhere
  part_here is h = record { own = λ _. h; other = λ differs. absurd (let never : true ≡ false = sym is ∙ differs in cc) }

  pub part_elsewhere : here ≡ false → Elsewhere → Parts here Here Elsewhere
  part_elsewhere is h = record { own = λ differs. absurd (let never : false ≡ true = sym is ∙ differs in cc); other = λ _. h }

module _ (closed : Option ℕ) (goes : Type 0) where
  pub is_closed : (s : Joint) (code : ℕ) → closed ≡ Some code → UnlessClosed closed s s (Some (Closed code)) goes
  is_closed s code is = rw is (refl, refl)

  pub is_open : (s t : Joint) (refused : Option Refusal) → closed ≡ None → goes → UnlessClosed closed s t refused goes
  is_open s t refused is h = rw is h

  pub is_faulty : (e : EndpointState) (s : Joint) (code : ℕ) → closed ≡ Some code → UnlessFaulty closed e e s s (Err (Refused (Connection code))) goes
  is_faulty e s code is = rw is (refl, refl, refl)

  pub is_sound : (e f : EndpointState) (s t : Joint) (result : Result Unit DeliverError) → closed ≡ None → goes → UnlessFaulty closed e f s t result goes
  is_sound e f s t result is h = rw is h

-- bytes that are sent
pub sends_closed : (e : EndpointState) (s : Joint) (id code : ℕ) (bytes : List ℕ) → e.closed ≡ Some code → SendsRaw e s s id bytes (Err (Closed code, bytes))
sends_closed e s id code bytes is = (sym (ap (λ c. unwrap_or (raw_refusal c (stored_at s id) bytes) OutOfMemory) is), refl, (λ q. refl), refl)

pub sends_here : (e : EndpointState) (s t : Joint) (id : ℕ) (bytes : List ℕ) (result : Result Unit (Refusal × List ℕ)) → e.closed ≡ None
    → OnOk result (Acts (Some NotOpen) (sends_raw bytes) s.sessions.streams t.sessions.streams id None)
    → IfErr result (λ x. x.0 ≡ unwrap_or (answer_at (Some NotOpen) (sends_raw bytes) (stored_at s id)) OutOfMemory)
    → IfErr result (λ x. (x.1 ≡ bytes) × AllSame s.sessions.streams t.sessions.streams) → StreamsAlone s t → SendsRaw e s t id bytes result
sends_here e s t id bytes (Ok done) none ok why err alone = (none, (ok, alone))
sends_here e s t id bytes (Err (refusal, back)) none ok why err alone =
    (why ∙ sym (ap (λ c. unwrap_or (raw_refusal c (stored_at s id) bytes) OutOfMemory) none), err.0, err.1.each, alone)
