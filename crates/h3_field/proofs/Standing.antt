-- A field section in the midst of its reading.
use Rattle.std.proofs.Common.{◌≡◌, ℕ, ◌+◌, ◌-◌, ◌^◌, ◌<◌, ◌≤◌, min, List, [], ◌∷◌, ◌++◌, length, Ok, Err, refl, arith}
use Rattle.h3_field.specs.Field.{Field, field_size}
use Rattle.h3_field.specs.Reading.{Reading, Whole, Unfinished, Bad}
use Rattle.h3_field.specs.PrefixReading.{EncodedPrefix, prefix}
use Rattle.h3_field.specs.PrefixAnswer.{AnswersPrefix}
use Rattle.h3_field.specs.Section.{Answer, Fields, TooLong, Refused, Answers, End, Next, Passes, BadLine, AnswersSection, Lines, NoPrefix, add_size}
use Rattle.h3_field.specs.SectionAnswer.{HasField, HasNoField, BeginsWithLiteral, MayAskMemory, IsReason, IsRefusal}
use Rattle.h3_field.specs.Errors.{decoder_parse}
use Rattle.h3_field.specs.declared.prefix_int.Error.TheVariants.{Overflow, UnexpectedEnd}
use Rattle.h3_field.specs.declared.parse_error.ParseError.{ParseError}
use Rattle.h3_field.specs.declared.parse_error.ParseError.TheVariants.{Integer}
use Rattle.h3_field.specs.declared.decoder_error.DecoderError.{DecoderError}
use Rattle.h3_field.specs.declared.decoder_error.DecoderError.TheVariants as error

-- What the lines that are left read as, the whole section reads as.
pub record Standing (limit : ℕ) (bytes : List ℕ) (size : ℕ) (before : List Field) (rest : List ℕ) : Type 0 where
  pub reads : (answer : Answer) → Answers limit size before rest answer → AnswersSection limit bytes answer
  -- where memory is asked for here, the section asks for it
  pub asks : (after : List ℕ) × (f : Field) × HasField rest f after → MayAskMemory bytes

pub stand_begin : (limit : ℕ) (bytes new : List ℕ) (p : EncodedPrefix) → AnswersPrefix (prefix bytes) bytes new (Ok p) → Standing limit bytes 0 [] new
stand_begin limit bytes new p h = from (prefix bytes) refl h
  where
    from : (r : Reading EncodedPrefix) → prefix bytes ≡ r → AnswersPrefix r bytes new (Ok p) → Standing limit bytes 0 [] new
    from (Whole q rest) e (is, left) = record {
      reads = λ answer lines. Lines q rest answer e (rw left at lines);
      asks = λ m.
          let here : (after : List ℕ) × (f : Field) × HasField rest f after = rw left at m in
          (q, rest, e, here.0, here.1, here.2);
    }
    from Unfinished e h = absurd (cc)
    from Bad e h = absurd (cc)

pub no_prefix : (limit : ℕ) (bytes new : List ℕ) (e : ParseError) → AnswersPrefix (prefix bytes) bytes new (Err e) → IsRefusal limit bytes (decoder_parse e)
no_prefix limit bytes new e h = from (prefix bytes) refl h
  where
    from : (r : Reading EncodedPrefix) → prefix bytes ≡ r → AnswersPrefix r bytes new (Err e) → IsRefusal limit bytes (decoder_parse e)
    from (Whole q rest) is h = absurd (cc)
    from Unfinished is h =
        let same : e ≡ Integer UnexpectedEnd = cc in
        rw same (NoPrefix (λ p rest whole. absurd (cc)))
    from Bad is h =
        let same : e ≡ Integer Overflow = cc in
        rw same (NoPrefix (λ p rest whole. absurd (cc)))

one_sum : (size own next : ℕ) (f : Field) → own ≡ min (2 ^ 64 - 1) (field_size f) → next ≡ min (size + own) (2 ^ 64 - 1) → next ≡ add_size size f
one_sum size own next f e is = omega (arith, e, is)

pub stand_next : (limit : ℕ) (bytes : List ℕ) (size own next : ℕ) (before items : List Field) (f : Field) (rest new : List ℕ) → Standing limit bytes size before rest → HasField rest f new → own ≡ min (2 ^ 64 - 1) (field_size f) → next ≡ min (size + own) (2 ^ 64 - 1) → next ≤ limit → items ≡ before ++ f ∷ [] → Standing limit bytes next items new
stand_next limit bytes size own next before items f rest new s h e is le more =
    let sum = one_sum size own next f e is in
    let within : add_size size f ≤ limit = rw sum at le in
    record { reads = λ answer lines. s.reads answer (Next size before rest new h.line f answer h.here h.names within (rw (sum, more) at lines)); asks = λ m. s.asks (new, f, h) }

pub stand_long : (limit : ℕ) (bytes : List ℕ) (size own next : ℕ) (before : List Field) (f : Field) (rest new : List ℕ) → Standing limit bytes size before rest → HasField rest f new → own ≡ min (2 ^ 64 - 1) (field_size f) → next ≡ min (size + own) (2 ^ 64 - 1) → limit < next → AnswersSection limit bytes (TooLong next)
stand_long limit bytes size own next before f rest new s h e is lt =
    let sum = one_sum size own next f e is in
    let past : limit < add_size size f = rw sum at lt in
    rw sum (s.reads (TooLong (add_size size f)) (Passes size before rest new h.line f h.here h.names past))

pub stand_end : (limit : ℕ) (bytes : List ℕ) (size : ℕ) (before : List Field) (rest : List ℕ) → Standing limit bytes size before rest → length rest ≤ 0 → AnswersSection limit bytes (Fields before size) × ([] ≡ rest)
stand_end limit bytes size before [] s h = (s.reads (Fields before size) (End size before), refl)
stand_end limit bytes size before (first ∷ rest) s h = absurd (omega arith)

bad_line : (limit : ℕ) (bytes : List ℕ) (size : ℕ) (before : List Field) (rest : List ℕ) → Standing limit bytes size before rest → 0 < length rest → HasNoField rest → AnswersSection limit bytes Refused
bad_line limit bytes size before [] s h none = absurd (omega arith)
bad_line limit bytes size before (first ∷ rest) s h none = s.reads Refused (BadLine size before first rest none)

pub stand_bad : (limit : ℕ) (bytes : List ℕ) (size : ℕ) (before : List Field) (rest : List ℕ) (e : DecoderError) → Standing limit bytes size before rest → 0 < length rest → IsReason (BeginsWithLiteral rest) (HasNoField rest) (λ size. ⊥) e → IsRefusal limit bytes e
stand_bad limit bytes size before rest e s h none = from e none
  where
    from : (e : DecoderError) → IsReason (BeginsWithLiteral rest) (HasNoField rest) (λ size. ⊥) e → IsRefusal limit bytes e
    from error.OutOfMemory n = s.asks (n.1, n.2, n.6)
    from (error.HeaderTooLong sum) n = absurd n
    from (error.InvalidInteger x) n = bad_line limit bytes size before rest s h n
    from (error.InvalidString x) n = bad_line limit bytes size before rest s h n
    from (error.InvalidIndex x) n = bad_line limit bytes size before rest s h n
    from (error.DynamicTable x) n = bad_line limit bytes size before rest s h n
    from (error.InvalidStaticIndex x) n = bad_line limit bytes size before rest s h n
    from (error.UnknownPrefix x) n = bad_line limit bytes size before rest s h n
    from (error.MissingRefs x) n = bad_line limit bytes size before rest s h n
    from error.BadBaseIndex n = bad_line limit bytes size before rest s h n
    from error.UnexpectedEnd n = bad_line limit bytes size before rest s h n
    from error.BufSize n = bad_line limit bytes size before rest s h n

-- a field that was read is kept
pub stand_kept : (limit : ℕ) (bytes : List ℕ) (size : ℕ) (before : List Field) (f : Field) (rest new : List ℕ) → Standing limit bytes size before rest → HasField rest f new → MayAskMemory bytes
stand_kept limit bytes size before f rest new s h = s.asks (new, f, h)
