-- What bytes of the peer's encoder and decoder streams come to: h3_qpack has it.
pub use Rattle.h3_qpack.specs.Hearing.{Heard, heard, decoder_after_form, hear_next, hear_form, hear_within, hear, heard_with, heard_then, Listened, listened, listen_next, listen_form, listen_within, listen}
