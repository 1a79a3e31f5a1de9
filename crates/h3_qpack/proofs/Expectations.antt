-- What is expected of a run keeps its session sound.
use Rattle.std.proofs.Common.{◌≡◌, ℕ, ◌<◌, ◌≤◌, Bool, true, false, List, [], ◌∷◌, take, Some, unwrap_or, refl, sym, ◌∙◌, ap, subst, arith, if◌then◌else◌}
use Rattle.std.specs.Prelude.{◌==◌}
use Rattle.std.proofs.lemmas.Grind.{common_steps}
use Rattle.h3_field.specs.Field.{Field}
use Rattle.h3_field.specs.Instruction.{DecoderInstruction}
use Rattle.h3_field.specs.Instruction.DecoderInstruction.{Acknowledge, CancelStream, Increment}
use Rattle.h3_qpack.specs.EncoderHistory.{EncoderHistory, encoder_after, encoder_after_all, blocks_out}
use Rattle.h3_qpack.specs.Session.{Session, UndecodedSection, IsSound, is_canceled, oldest, inserted, after_cancellation}
use Rattle.h3_qpack.specs.Schedule.{beginning}
use Rattle.h3_qpack.specs.Expected.{EncodesTo, ReadsInsertions, DeliversInsertions, ReadsDecoderInstructions, DeliversDecoderInstructions, DecodesAs, CancelsAs, Expects, Expected, NoEvent, NextEvent}
use Rattle.h3_qpack.specs.declared.session.SessionEvent.{SessionEvent}
use Rattle.h3_qpack.specs.declared.session.SessionEvent.TheVariants as event
use Rattle.h3_qpack.specs.declared.session.SessionAnswer.{SessionAnswer}
use Rattle.h3_qpack.specs.declared.session.SessionAnswer.TheVariants as answer
use Rattle.h3_qpack.proofs.Schedules.{beginning_is_sound}
use Rattle.h3_qpack.proofs.Sessions.{section_written, insertions_kept, insertions_read, section_decoded, stream_abandoned}
use Rattle.h3_qpack.proofs.DecoderStreams.{heard_sound}

-- A sound session with the limit of another.
record Keeps (s t : Session) : Type 0 where
  sound : IsSound t
  limit : t.encoder.limit ≡ s.encoder.limit

stays : (s t : Session) → IsSound s → t ≡ s → Keeps s t
stays s t h e = subst (Keeps s) (sym e) (record { sound = h; limit = refl })

oldest_of_stream : (stream : ℕ) (sections : List UndecodedSection) (b : UndecodedSection) → oldest stream sections ≡ Some b → b.stream ≡ stream
oldest_of_stream stream [] b h = absurd (cc)
oldest_of_stream stream (c ∷ cs) b h = by_test (c.stream == stream) refl h (λ k. oldest_of_stream stream cs b k)
  where
    by_test : (t : Bool) → (c.stream == stream) ≡ t → (if t then Some c else oldest stream cs) ≡ Some b → (oldest stream cs ≡ Some b → b.stream ≡ stream) → b.stream ≡ stream
    by_test true e h later = ap (λ o. (unwrap_or o c).stream) (sym h) ∙ same c.stream stream e
      where
        same : (m n : ℕ) → (m == n) ≡ true → m ≡ n
        same m n e = grind (arith, common_steps)
    by_test false e h later = later h

encoder_after_limit : (s : EncoderHistory) (i : DecoderInstruction) → (encoder_after s i).limit ≡ s.limit
encoder_after_limit s (Acknowledge stream) = refl
encoder_after_limit s (CancelStream stream) = refl
encoder_after_limit s (Increment count) = refl

encoder_after_all_limit : (s : EncoderHistory) (is : List DecoderInstruction) → (encoder_after_all s is).limit ≡ s.limit
encoder_after_all_limit s [] = refl
encoder_after_all_limit s (i ∷ is) = encoder_after_all_limit (encoder_after s i) is ∙ encoder_after_limit s i

encodes_keeps : (s : Session) (stream : ℕ) (fields : List Field) (a : SessionAnswer) (t : Session) → IsSound s → EncodesTo s stream fields a t → Keeps s t
encodes_keeps s stream fields (answer.Encoded count) t h e = subst (Keeps s) (sym e.0) (record { sound = section_written s stream fields h; limit = refl })
encodes_keeps s stream fields (answer.Refused x) t h e = subst (Keeps s) (sym e.1.2) (record { sound = insertions_kept s stream (take e.1.0 fields) h; limit = refl })
encodes_keeps s stream fields answer.Delivered t h e = absurd e
encodes_keeps s stream fields (answer.Short most) t h e = absurd e
encodes_keeps s stream fields (answer.Decoded fs) t h e = absurd e
encodes_keeps s stream fields (answer.Missing count) t h e = absurd e
encodes_keeps s stream fields answer.NoBlock t h e = absurd e
encodes_keeps s stream fields answer.Canceled t h e = absurd e

reads_keeps : (s t : Session) → IsSound s → ReadsInsertions s t → Keeps s t
reads_keeps s t h e = by_test (e.0 == 0) refl e.2
  where
    some_of : (n : ℕ) → (n == 0) ≡ false → 0 < n
    some_of n k = grind (arith, common_steps)

    by_test : (b : Bool) → (e.0 == 0) ≡ b → t ≡ (if b then s else inserted s e.0) → Keeps s t
    by_test true k is = stays s t h is
    by_test false k is = subst (Keeps s) (sym is) (record { sound = insertions_read s e.0 (some_of e.0 k) e.1 h; limit = refl })

delivers_keeps : (s : Session) (a : SessionAnswer) (t : Session) → IsSound s → DeliversInsertions s a t → Keeps s t
delivers_keeps s (answer.Short most) t h e = stays s t h e
delivers_keeps s answer.Delivered t h e = reads_keeps s t h e
delivers_keeps s (answer.Refused x) t h e = reads_keeps s t h e.1
delivers_keeps s (answer.Encoded count) t h e = absurd e
delivers_keeps s (answer.Decoded fs) t h e = absurd e
delivers_keeps s (answer.Missing count) t h e = absurd e
delivers_keeps s answer.NoBlock t h e = absurd e
delivers_keeps s answer.Canceled t h e = absurd e

heard_keeps : (s t : Session) → IsSound s → ReadsDecoderInstructions s t → Keeps s t
heard_keeps s t h e = subst (Keeps s) (sym e.1) (record { sound = heard_sound e.0 s h; limit = encoder_after_all_limit s.encoder (take e.0 s.decoder_instructions) })

replies_keeps : (s : Session) (a : SessionAnswer) (t : Session) → IsSound s → DeliversDecoderInstructions s a t → Keeps s t
replies_keeps s (answer.Short most) t h e = stays s t h e
replies_keeps s answer.Delivered t h e = heard_keeps s t h e
replies_keeps s (answer.Refused x) t h e = heard_keeps s t h e.1
replies_keeps s (answer.Encoded count) t h e = absurd e
replies_keeps s (answer.Decoded fs) t h e = absurd e
replies_keeps s (answer.Missing count) t h e = absurd e
replies_keeps s answer.NoBlock t h e = absurd e
replies_keeps s answer.Canceled t h e = absurd e

decodes_keeps : (s : Session) (stream : ℕ) (a : SessionAnswer) (t : Session) → IsSound s → DecodesAs s stream a t → Keeps s t
decodes_keeps s stream answer.Canceled t h e = stays s t h e.1
decodes_keeps s stream answer.NoBlock t h e = stays s t h e.2
decodes_keeps s stream (answer.Decoded fs) t h e =
    let of_stream = oldest_of_stream stream s.sections e.1.0 e.1.1 in
    subst (Keeps s) (sym e.1.4) (record {
      sound = section_decoded s e.1.0 (subst (λ n. oldest n s.sections ≡ Some e.1.0) (sym of_stream) e.1.1) (subst (λ n. is_canceled s n ≡ false) (sym of_stream) e.0) e.1.3 h;
      limit = refl;
    })
decodes_keeps s stream (answer.Missing count) t h e = stays s t h e.1.4
decodes_keeps s stream (answer.Refused x) t h e = stays s t h e.1
decodes_keeps s stream (answer.Encoded count) t h e = absurd e
decodes_keeps s stream answer.Delivered t h e = absurd e
decodes_keeps s stream (answer.Short most) t h e = absurd e

cancels_keeps : (s : Session) (stream : ℕ) (a : SessionAnswer) (t : Session) → IsSound s → CancelsAs s stream a t → Keeps s t
cancels_keeps s stream answer.Canceled t h e = by_test (is_canceled s stream) e
  where
    by_test : (b : Bool) → t ≡ (if b then s else after_cancellation s stream) → Keeps s t
    by_test true is = stays s t h is
    by_test false is = subst (Keeps s) (sym is) (record { sound = stream_abandoned s stream h; limit = refl })
cancels_keeps s stream (answer.Refused x) t h e = stays s t h e.1
cancels_keeps s stream (answer.Encoded count) t h e = absurd e
cancels_keeps s stream answer.Delivered t h e = absurd e
cancels_keeps s stream (answer.Short most) t h e = absurd e
cancels_keeps s stream (answer.Decoded fs) t h e = absurd e
cancels_keeps s stream (answer.Missing count) t h e = absurd e
cancels_keeps s stream answer.NoBlock t h e = absurd e

expects_keeps : (s : Session) (e : SessionEvent) (a : SessionAnswer) (t : Session) → IsSound s → Expects s e a t → Keeps s t
expects_keeps s (event.Encode stream fields) a t h e = encodes_keeps s stream fields.items a t h e
expects_keeps s (event.EncoderBytes count) a t h e = delivers_keeps s a t h e
expects_keeps s (event.DecoderBytes count) a t h e = replies_keeps s a t h e
expects_keeps s (event.Decode stream) a t h e = decodes_keeps s stream a t h e
expects_keeps s (event.Cancel stream) a t h e = cancels_keeps s stream a t h e

run_keeps : (counts : Bool) (most announced limit : ℕ) (events : List SessionEvent) (answers : List SessionAnswer) (s : Session) → Expected (beginning counts most announced limit) events answers s → Keeps (beginning counts most announced limit) s
run_keeps counts most announced limit events answers s NoEvent = record { sound = beginning_is_sound counts most announced limit; limit = refl }
run_keeps counts most announced limit events answers s (NextEvent before replies mid new e a run h) =
    let m = run_keeps counts most announced limit before replies mid run in
    let k = expects_keeps mid e a new m.sound h in
    record { sound = k.sound; limit = k.limit ∙ m.limit }

-- Every session that is expected is sound, and no more of its sections are blocked than may be.
pub expected_sound : (counts : Bool) (most announced limit : ℕ) (events : List SessionEvent) (answers : List SessionAnswer) (s : Session) → Expected (beginning counts most announced limit) events answers s
    → IsSound s × (blocks_out s.encoder ≤ limit)
expected_sound counts most announced limit events answers s run =
    let k = run_keeps counts most announced limit events answers s run in
    (k.sound, subst (λ n. blocks_out s.encoder ≤ n) k.limit k.sound.within_limit)
