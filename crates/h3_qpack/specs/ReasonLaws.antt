-- A reason for a refusal, by what it rests on.
use Rattle.h3_field.specs.declared.decoder_error.DecoderError.{DecoderError}
use Rattle.h3_field.specs.declared.decoder_error.DecoderError.TheVariants as error
use Rattle.h3_qpack.specs.SectionAnswers.{IsReasonFor, IsReasonWith}

pub reason_with_map : (memory other a b : Type 0) (e : DecoderError) → (memory → other) → (a → b) → IsReasonWith memory a (λ count. ⊥) e → IsReasonWith other b (λ count. ⊥) e
reason_with_map memory other a b error.OutOfMemory m f n = m n
reason_with_map memory other a b (error.HeaderTooLong sum) m f n = absurd n
reason_with_map memory other a b (error.InvalidInteger x) m f n = f n
reason_with_map memory other a b (error.InvalidString x) m f n = f n
reason_with_map memory other a b (error.InvalidIndex x) m f n = f n
reason_with_map memory other a b (error.DynamicTable x) m f n = f n
reason_with_map memory other a b (error.InvalidStaticIndex x) m f n = f n
reason_with_map memory other a b (error.UnknownPrefix x) m f n = f n
reason_with_map memory other a b (error.MissingRefs x) m f n = absurd n
reason_with_map memory other a b error.BadBaseIndex m f n = f n
reason_with_map memory other a b error.UnexpectedEnd m f n = f n
reason_with_map memory other a b error.BufSize m f n = f n

pub reason_map : (a b : Type 0) (e : DecoderError) → (a → b) → IsReasonFor a (λ count. ⊥) e → IsReasonFor b (λ count. ⊥) e
reason_map a b e f n = reason_with_map (Unit {0}) (Unit {0}) a b e (λ m. m) f n
