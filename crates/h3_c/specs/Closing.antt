-- What the export promises that gives a stream up both ways.
use Rattle.std.specs.Prelude.{◌≡◌, ℕ, Result, Ok, Err}
use Rattle.h3_connection.specs.declared.event.Refusal.{Refusal}
use Rattle.h3_session.specs.Closing.{ClosesStream}
use Rattle.h3_session.specs.declared.endpoint.closing.ClosedStream.{ClosedStream}
use Rattle.h3_c.specs.Exported.{Calls}
use Rattle.h3_c.specs.Numbers.{call_told}
use Rattle.h3_c.specs.Seen.{Seen}
use Rattle.h3_c.specs.Bits.{bit}
use Rattle.h3_c.specs.declared.numbers.Told.{Told}

-- 1 or 0 for each frame; a refusal writes neither
abbrev pub GivesFrames : Result ClosedStream Refusal → ℕ → ℕ → ℕ → ℕ → Type 0
GivesFrames (Ok frames) stop_before stop reset_before reset = (stop ≡ bit frames.stop_sending) × (reset ≡ bit frames.reset_stream)
GivesFrames (Err refusal) stop_before stop reset_before reset = (stop ≡ stop_before) × (reset ≡ reset_before)

-- `h3_close_stream`
abbrev pub Closes : Told → Seen → Seen → ℕ → ℕ → ℕ → ℕ → ℕ → Type 0
Closes n v w id stop_before stop reset_before reset =
    Calls call_told n v w (λ call. ClosesStream v.endpoint w.endpoint id call × GivesFrames call stop_before stop reset_before reset)
