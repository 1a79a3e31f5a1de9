-- What is read of bytes that are known to be no whole instruction: nothing.
use Rattle.std.proofs.Common.{◌≡◌, ℕ, ◌-◌, true, List, [], ◌++◌, append-nil, length, Option, sym, ◌∙◌, arith}
use Rattle.h3_field.specs.InstructionReading.{instruction, decoder_instruction}
use Rattle.h3_field.specs.Waiting.{goes_on, encoder_wait, decoder_wait}
use Rattle.h3_field.specs.WaitingLaws.{unfinished_is, encoder_waits, decoder_waits}
use Rattle.h3_qpack.specs.EncoderHistory.{EncoderHistory}
use Rattle.h3_qpack.specs.EncoderState.{encoder_state}
use Rattle.h3_qpack.specs.Increments.{increment_for}
use Rattle.h3_connection.specs.Codes.{excessive_load}
use Rattle.h3_connection.specs.Listeners.{Decoding, Encoding, Hears, Listens, fault_if}
use Rattle.h3_unidirectional.specs.Windows.{is_longer}
use Rattle.h3_unidirectional.proofs.Heard as heard
use Rattle.h3_unidirectional.proofs.Listened as listened

pub none_inserted : (count : ℕ) (out : List ℕ) → out ≡ out ++ increment_for (count - count)
none_inserted count out =
    let none : count - count ≡ 0 = omega arith in
    rw none (sym (append-nil out))

pub still_hears : (most : ℕ) (d : Decoding) (code : Option ℕ) (out : List ℕ) → goes_on (encoder_wait d.unread) ≡ true → code ≡ fault_if (is_longer most (length d.unread) (encoder_wait d.unread)) excessive_load
    → Hears most d d [] code out out
still_hears most d code out waits fault =
    let unfinished = unfinished_is (instruction d.unread) (sym (encoder_waits d.unread) ∙ waits) in
    heard.hears_ends most d d code out out (heard.no_hearing most d) (heard.ends_unfinished most d.decoder d.unread unfinished) fault (none_inserted d.decoder.table.inserted out)

pub still_listens : (most : ℕ) (e : Encoding) (code : Option ℕ) → goes_on (decoder_wait e.unread) ≡ true → code ≡ fault_if (is_longer most (length e.unread) (decoder_wait e.unread)) excessive_load
    → (s : EncoderHistory) → e.encoder ≡ encoder_state s → Listens most s e.unread e code
still_listens most e code waits fault s is =
    let unfinished = unfinished_is (decoder_instruction e.unread) (sym (decoder_waits e.unread) ∙ waits) in
    listened.listens_ends most s e e code (listened.no_listening most s e is) (listened.ends_unfinished most e.unread unfinished) fault
