-- The peer's encoder and decoder streams at an endpoint (RFC 9204, section 4).
use Rattle.std.specs.Prelude.{◌≡◌, ℕ, ◌-◌, Bool, List, ◌++◌, if◌then◌else◌, Option, Some, None}
use Rattle.h3_field.specs.Waiting.{encoder_wait, decoder_wait}
use Rattle.h3_qpack.specs.DecoderState.{DecoderState}
use Rattle.h3_qpack.specs.EncoderHistory.{EncoderHistory}
use Rattle.h3_qpack.specs.EncoderState.{EncoderState, encoder_state}
use Rattle.h3_qpack.specs.Hearing.{Heard, Listened}
use Rattle.h3_qpack.specs.Increments.{increment_for}
use Rattle.h3_connection.specs.Codes.{encoder_stream_error, decoder_stream_error, excessive_load}
use Rattle.h3_connection.specs.ExcessiveInstructions.{exceeds, hear_up_to, listen_up_to}

-- the decoder's table, and the bytes of the peer's encoder stream that are no whole instruction yet
pub record Decoding : Type 0 where
  pub decoder : DecoderState
  pub unread : List ℕ

-- what is stored of the encoder, and the bytes of the peer's decoder stream that are not read yet
pub record Encoding : Type 0 where
  pub encoder : EncoderState
  pub unread : List ℕ

abbrev pub fault_if : Bool → ℕ → Option ℕ
fault_if is_fault code = if is_fault then Some code else None

-- after more of the peer's encoder stream, of whose instructions none may be longer than the limit
abbrev pub heard_more : ℕ → Decoding → List ℕ → Heard
heard_more most d bytes = hear_up_to most d.decoder (d.unread ++ bytes)

-- what is left begins with a bad instruction, or with one that is longer than the limit
abbrev pub hearing_fault : ℕ → Heard → Option ℕ
hearing_fault most h = if h.is_bad then Some encoder_stream_error else fault_if (exceeds most encoder_wait h.left) excessive_load

abbrev pub listening_fault : ℕ → Listened → Option ℕ
listening_fault most l = if l.is_bad then Some decoder_stream_error else fault_if (exceeds most decoder_wait l.left) excessive_load

abbrev pub after_hearing : Heard → Decoding
after_hearing h = record { decoder = h.decoder; unread = h.left }

-- how many insertions were read
abbrev pub insertions_heard : Decoding → Heard → ℕ
insertions_heard d h = h.decoder.table.inserted - d.decoder.table.inserted

-- What a call makes of further bytes of the stream: the table and the bytes left, the fault, and what is written behind the
-- replies.
pub record Hears (most : ℕ) (old new : Decoding) (bytes : List ℕ) (code : Option ℕ) (before after : List ℕ) : Type 0 where
  pub table : new ≡ after_hearing (heard_more most old bytes)
  pub fault : code ≡ hearing_fault most (heard_more most old bytes)
  pub increment : after ≡ before ++ increment_for (insertions_heard old (heard_more most old bytes))

-- What an encoder makes of the bytes of its peer's decoder, where this is its history.
pub record Listens (most : ℕ) (s : EncoderHistory) (bytes : List ℕ) (new : Encoding) (code : Option ℕ) : Type 0 where
  pub encoder : new.encoder ≡ encoder_state (listen_up_to most s bytes).encoder
  pub left : new.unread ≡ (listen_up_to most s bytes).left
  pub fault : code ≡ listening_fault most (listen_up_to most s bytes)
