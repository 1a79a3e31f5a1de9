-- What the calls do that only sessions of WebTransport have.
use Rattle.std.specs.Prelude.{◌≡◌, ℕ, Bool, List, Option, Some, None, Result, Ok, Err}
use Rattle.h3_connection.specs.NextWaiting.{IsLeast}
use Rattle.h3_webtransport.specs.Joint.{stored_at}
use Rattle.h3_webtransport.specs.Opening.{OpensOn}
use Rattle.h3_webtransport.specs.Sending.{SendsRaw}
use Rattle.h3_webtransport.specs.declared.opening.OpenError.{OpenError}
use Rattle.h3_webtransport_streams.specs.SessionStream.{is_of, passes}
use Rattle.h3_c.specs.Beside.{Finds}
use Rattle.h3_c.specs.Exported.{Calls, OnStream, Unwritten}
use Rattle.h3_c.specs.Numbers.{body_told, ok, open_told}
use Rattle.h3_c.specs.Ordering.{IfGiven, flag_given}
use Rattle.h3_c.specs.Seen.{Seen}
use Rattle.h3_c.specs.declared.numbers.Told.{Told}

-- `h3_webtransport_number`
abbrev pub GivesNumber : Option ℕ → ℕ → ℕ → ℕ → Type 0
GivesNumber (Some found) n before after = (n ≡ 0) × (after ≡ found)
GivesNumber None n before after = (n ≡ 25) × (after ≡ before)

-- the id of the stream that was opened; a refusal writes none
abbrev pub GivesStream : Result ℕ OpenError → Told → ℕ → ℕ → Type 0
GivesStream (Ok id) n before after = (n ≡ ok) × (after ≡ id)
GivesStream (Err error) n before after = (n ≡ open_told error) × (after ≡ before)

pub record OpensStreamOf (v w : Seen) (session : ℕ) (both : Bool) (n : Told) (before after : ℕ) : Type 0 where
  pub answer : Result ℕ OpenError
  pub opens : OpensOn v.endpoint w.endpoint v.sessions w.sessions session both answer
  pub gives : GivesStream answer n before after
  pub last : w.last ≡ v.last
  pub events : w.events ≡ v.events

-- `h3_open_session_stream`
abbrev pub OpensSession : Seen → Seen → ℕ → ℕ → Told → ℕ → ℕ → Type 0
OpensSession v w session both n before after =
    OnStream session n v w (IfGiven (flag_given both) n v w (λ is. OpensStreamOf v w session is n before after)) × Unwritten session (after ≡ before)

-- `h3_send_raw`
abbrev pub SendsRawOn : Seen → Seen → ℕ → List ℕ → Told → Type 0
SendsRawOn v w id bytes n =
    OnStream id n v w (Calls body_told n v w (λ call. SendsRaw v.endpoint v.sessions w.sessions id bytes call × (w.endpoint ≡ v.endpoint)))

-- `h3_next_of_session`
abbrev pub FindsOfSession : Seen → Seen → ℕ → ℕ → Told → ℕ → ℕ → Type 0
FindsOfSession v w session from n before after =
    (w ≡ v) × OnStream session n v w (Finds (λ found. IsLeast (λ id. passes (is_of session) (stored_at v.sessions id)) from found) n before after)
    × Unwritten session (after ≡ before)
