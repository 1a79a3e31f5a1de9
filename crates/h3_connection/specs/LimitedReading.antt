-- How the peer's encoder and decoder streams are read up to a limit, beside how they are read without one (RFC 9204, section 4).
use Rattle.std.specs.Prelude.{◌≡◌, ℕ, Bool, true, false, if◌then◌else◌, List, ◌++◌, Some, ◌⊎◌}
use Rattle.h3_field.specs.Waiting.{goes_on, encoder_wait, decoder_wait}
use Rattle.h3_field.specs.declared.waiting.Wait.{Wait}
use Rattle.h3_qpack.specs.DecoderState.{DecoderState}
use Rattle.h3_qpack.specs.EncoderHistory.{EncoderHistory}
use Rattle.h3_qpack.specs.Hearing.{Heard, heard, Listened, listened}
use Rattle.h3_connection.specs.Codes.{encoder_stream_error, decoder_stream_error, excessive_load}
use Rattle.h3_connection.specs.Control.{Found, increment}
use Rattle.h3_connection.specs.Endpoint.{EndpointHistory, replied}
use Rattle.h3_connection.specs.ExcessiveInstructions.{exceeds}
use Rattle.h3_connection.specs.Listeners.{fault_if, hearing_fault, listening_fault, after_hearing, insertions_heard}

-- what waits for nothing waits for nothing behind further bytes
abbrev pub Ends : (List ℕ → Wait) → Type 0
Ends waiting = (bytes more : List ℕ) → goes_on (waiting bytes) ≡ false → goes_on (waiting (bytes ++ more)) ≡ false

-- nothing is read of an instruction that is longer than the limit
abbrev pub heard_unless_longer : Bool → DecoderState → List ℕ → Heard → Heard
heard_unless_longer longer r bytes h = if longer then heard r bytes false else h

abbrev pub listened_unless_longer : Bool → EncoderHistory → List ℕ → Listened → Listened
listened_unless_longer longer s bytes l = if longer then listened s bytes false else l

-- it stops at an instruction that is longer, or reads as another reading does
abbrev pub StopsOrHears : ℕ → Heard → Heard → Type 0
StopsOrHears most h other = ((h.is_bad ≡ false) × (exceeds most encoder_wait h.left ≡ true)) ⊎ (h ≡ other)

abbrev pub StopsOrListens : ℕ → Listened → Listened → Type 0
StopsOrListens most l other = ((l.is_bad ≡ false) × (exceeds most decoder_wait l.left ≡ true)) ⊎ (l ≡ other)

-- the fault of such an instruction, or all is as without a limit
abbrev pub IsLongerOrHeard : ℕ → Heard → Heard → Type 0
IsLongerOrHeard most h other = (hearing_fault most h ≡ Some excessive_load) ⊎ ((h ≡ other) × (hearing_fault most h ≡ fault_if other.is_bad encoder_stream_error))

abbrev pub IsLongerOrListened : ℕ → Listened → Listened → Type 0
IsLongerOrListened most l other = (listening_fault most l ≡ Some excessive_load) ⊎ ((l ≡ other) × (listening_fault most l ≡ fault_if other.is_bad decoder_stream_error))

-- what an endpoint without a limit makes of the peer's encoder stream, and of its decoder stream
abbrev pub heard_whole : EndpointHistory → Heard → Found
heard_whole e h = (replied (record e { decoding = after_hearing h }) (increment (insertions_heard e.decoding h)), fault_if h.is_bad encoder_stream_error)

abbrev pub listened_whole : EndpointHistory → Listened → Found
listened_whole e l = (record e { encoder = l.encoder; decoder_unread = l.left }, fault_if l.is_bad decoder_stream_error)
