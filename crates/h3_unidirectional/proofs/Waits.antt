-- What is written behind all bytes is written behind those that wait.
use Rattle.std.proofs.Common.{◌≡◌, ℕ, ◌-◌, List, [], ◌++◌, ap, ◌∙◌, Option, Some, Result, Ok, Err, false}
use Rattle.std.specs.Result.{is_ok}
use Rattle.h3_field.specs.declared.decoder_error.DecoderError.{DecoderError}
use Rattle.h3_field.specs.declared.decoder_error.DecoderError.TheVariants.{InvalidInteger, InvalidString, InvalidIndex, DynamicTable, InvalidStaticIndex, UnknownPrefix, MissingRefs, BadBaseIndex, UnexpectedEnd, HeaderTooLong, BufSize, OutOfMemory}
use Rattle.h3_qpack.specs.SectionAnswers.{IsReasonFor}
use Rattle.h3_connection.specs.Codes.{encoder_stream_error}
use Rattle.h3_unidirectional.specs.Faults.{IsFaultOf}
use Rattle.std.specs.Prelude.{IfOk}
use Rattle.h3_qpack.specs.Increments.{increment_for}
use Rattle.h3_connection.specs.Listeners.{Decoding, Hears}

pub waiting_ok : {E : Type 0} (r : Result (Option ℕ) E) (most : ℕ) (old new : Decoding) (before after waits later : List ℕ) → IfOk r (λ fault. Hears most old new [] fault before after)
    → later ≡ waits ++ increment_for (new.decoder.table.inserted - old.decoder.table.inserted) → IfOk r (λ fault. Hears most old new [] fault waits later)
waiting_ok (Ok fault) most old new before after waits later heard more =
    record { table = heard.table; fault = heard.fault; increment = more ∙ ap (λ (d : Decoding). waits ++ increment_for (d.decoder.table.inserted - old.decoder.table.inserted)) heard.table }
waiting_ok (Err e) most old new before after waits later heard more = tt

error_none : {E : Type 0} (r : Result (Option ℕ) E) (P : Option ℕ → Type 0) → is_ok r ≡ false → IfOk r P
error_none (Ok fault) P e = absurd (cc)
error_none (Err e) P none = tt

fault_is : {E : Type 0} (r : Result (Option ℕ) E) (P : Option ℕ → Type 0) → P (Some encoder_stream_error) → r ≡ Ok (Some encoder_stream_error) → IfOk r P
fault_is r P h e = rw e h

pub is_fault : {E : Type 0} (e : DecoderError) (r : Result (Option ℕ) E) (P : Option ℕ → Type 0) → IsReasonFor (P (Some encoder_stream_error)) (λ count. ⊥) e → IsFaultOf e r → IfOk r P
is_fault OutOfMemory r P h f = error_none r P f
is_fault (MissingRefs count) r P h f = absurd h
is_fault (HeaderTooLong size) r P h f = absurd h
is_fault (InvalidInteger e) r P h f = fault_is r P h f
is_fault (InvalidString e) r P h f = fault_is r P h f
is_fault (InvalidIndex e) r P h f = fault_is r P h f
is_fault (DynamicTable e) r P h f = fault_is r P h f
is_fault (InvalidStaticIndex e) r P h f = fault_is r P h f
is_fault (UnknownPrefix e) r P h f = fault_is r P h f
is_fault BadBaseIndex r P h f = fault_is r P h f
is_fault UnexpectedEnd r P h f = fault_is r P h f
is_fault BufSize r P h f = fault_is r P h f
