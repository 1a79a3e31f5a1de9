-- The fault that an instruction is which a decoder or an encoder refuses; want of memory is none.
use Rattle.std.specs.Prelude.{◌≡◌, false, ℕ, Option, Some, Result, Ok}
use Rattle.std.specs.Result.{is_ok}
use Rattle.h3_field.specs.declared.decoder_error.DecoderError.{DecoderError}
use Rattle.h3_field.specs.declared.decoder_error.DecoderError.TheVariants.{OutOfMemory}
use Rattle.h3_field.specs.declared.encoder_error.EncoderError.{EncoderError}
use Rattle.h3_field.specs.declared.encoder_error.EncoderError.TheVariants.{OutOfMemory as NoMemory}
use Rattle.h3_connection.specs.Codes.{encoder_stream_error, decoder_stream_error}

abbrev pub IsFaultOf : {E : Type 0} → DecoderError → Result (Option ℕ) E → Type 0
IsFaultOf OutOfMemory r = is_ok r ≡ false
IsFaultOf e r = r ≡ Ok (Some encoder_stream_error)

abbrev pub IsReplyFaultOf : {E : Type 0} → EncoderError → Result (Option ℕ) E → Type 0
IsReplyFaultOf NoMemory r = is_ok r ≡ false
IsReplyFaultOf e r = r ≡ Ok (Some decoder_stream_error)

-- this holds, unless memory was refused
abbrev pub UnlessMemory : EncoderError → Type 0 → Type 0
UnlessMemory NoMemory P = Unit {0}
UnlessMemory e P = P
