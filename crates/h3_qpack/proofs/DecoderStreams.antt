-- The decoder's stream, which the encoder reads without a refusal.
use Rattle.std.proofs.Common.{◌≡◌, inl, inr, ℕ, zero, suc, ◌+◌, ◌-◌, ◌<◌, ◌≤◌, Bool, true, false, not, ◌||◌, ◌&&◌, nat_lt, List, [], ◌∷◌, ◌++◌, length, take, drop, refl, sym, ◌∙◌, ap, subst, arith, length-append, append_assoc, flat_map}
use Rattle.std.specs.Prelude.{◌==◌}
use Rattle.std.specs.List.{AllByRecursion}
use Rattle.std.proofs.lemmas.Grind.{common_steps}
use Rattle.std.proofs.lemmas.List.{take-append-drop, length-take-le}
use Rattle.std.proofs.Math.Seq.{drop-append_seam}
use Rattle.h3_field.specs.Reading.{Whole}
use Rattle.h3_field.specs.Instruction.{DecoderInstruction, decoder_bytes}
use Rattle.h3_field.specs.Instruction.DecoderInstruction.{Acknowledge, CancelStream, Increment}
use Rattle.h3_field.specs.InstructionReading.{decoder_instruction}
use Rattle.h3_field.specs.InstructionAnswer.{IsReply}
use Rattle.h3_field.specs.InstructionLaws.{decoder_instruction_stable}
use Rattle.h3_field.specs.ReadBackLaws.{reply_reads_back}
use Rattle.h3_field.specs.SectionLaws.{whole_same}
use Rattle.h3_qpack.specs.EncoderHistory.{EncoderHistory, encoder_after_all, is_refused}
use Rattle.h3_qpack.specs.Instructions.{AreDecoderInstructions, NoDecoderInstruction, NextDecoderInstruction, BeginsRefused}
use Rattle.h3_qpack.specs.Session.{Session, IsSound, AreTold, increments, after_decoder_instruction}
use Rattle.h3_qpack.specs.Exchange.{Stream, unread, undelivered, arriving, reading}
use Rattle.h3_qpack.proofs.Drafts.{All-second}
use Rattle.h3_qpack.proofs.Sessions.{reply_read}
use Rattle.h3_qpack.proofs.EncoderStreams.{behind_front}
use Rattle.h3_qpack.proofs.Units.{UnitLaws, AreUnits, NoUnit, NextUnit, FrontOfUnits, front_of_units}

abbrev BeginsReply : List ℕ → DecoderInstruction → List ℕ → Type 0
BeginsReply bytes i rest = decoder_instruction bytes ≡ Whole i rest

written_replies : UnitLaws decoder_bytes IsReply BeginsReply
written_replies =
    record {
      none = λ i rest h. nothing_here i rest h;
      longer = λ bytes rest more i h. let stays = decoder_instruction_stable bytes more in rw h at stays;
      back = reply_reads_back;
      one = λ bytes rest other i j h k. whole_same i j rest other (sym h ∙ k);
    }
  where
    nothing_here : (i : DecoderInstruction) (rest : List ℕ) → BeginsReply [] i rest → ⊥
    nothing_here i rest h = cc

are_units : (bytes left : List ℕ) (is : List DecoderInstruction) → AreDecoderInstructions bytes is left → AreUnits BeginsReply bytes is left
are_units bytes left [] (NoDecoderInstruction b) = NoUnit b
are_units bytes left (i ∷ is) (NextDecoderInstruction b rest l k ks here others) = NextUnit b rest left i is here (are_units rest left is others)

front_heard : (all : List DecoderInstruction) (n : ℕ) (bytes left : List ℕ) (is : List DecoderInstruction) → AllByRecursion IsReply all → n ≤ length (flat_map decoder_bytes all)
    → bytes ≡ take n (flat_map decoder_bytes all) → AreDecoderInstructions bytes is left → FrontOfUnits decoder_bytes all n is left
front_heard all n bytes left is w fits e h = front_of_units decoder_bytes IsReply BeginsReply written_replies all n bytes left is w fits e (are_units bytes left is h)

take_none : (n : ℕ) → ◌≡◌ {A = List ℕ} (take n []) []
take_none zero = refl
take_none (suc n) = refl

nothing_refused : (s : EncoderHistory) (bytes : List ℕ) → bytes ≡ [] → BeginsRefused s bytes → ⊥
nothing_refused s bytes e (inl bad) = let none = rw e at bad in cc
nothing_refused s bytes e (inr whole) = let none = rw e at whole.2 in cc

-- A front of what was written begins with nothing that is refused, where the first one is accepted.
none_refused : (all : List DecoderInstruction) (n : ℕ) (s : EncoderHistory) → AllByRecursion IsReply all → ((j : DecoderInstruction) (js : List DecoderInstruction) → all ≡ j ∷ js → is_refused s j ≡ false)
    → BeginsRefused s (take n (flat_map decoder_bytes all)) → ⊥
none_refused [] n s w next h = nothing_refused s (take n []) (take_none n) h
none_refused (j ∷ js) n s w next h = by_kind h
  where
    text : List ℕ
    text = decoder_bytes j ++ flat_map decoder_bytes js

    own : decoder_instruction text ≡ Whole j (flat_map decoder_bytes js)
    own = reply_reads_back j (flat_map decoder_bytes js) w.0

    whole_text : take n text ++ drop n text ≡ text
    whole_text = take-append-drop n text

    by_kind : BeginsRefused s (take n text) → ⊥
    by_kind (inl bad) =
        let stable = decoder_instruction_stable (take n text) (drop n text) in
        let stays = rw (bad, whole_text, own) at stable in cc
    by_kind (inr (i, rest, whole, refused)) =
        let stable = decoder_instruction_stable (take n text) (drop n text) in
        let stays = rw (whole, whole_text) at stable in
        let one = whole_same i j (rest ++ drop n text) (flat_map decoder_bytes js) (sym stays ∙ own) in
        let accepted : is_refused s i ≡ false = ap (is_refused s) one.0 ∙ next j js refl in cc

-- nothing under way is refused
accepted_next : (s : Session) (j : DecoderInstruction) (js : List DecoderInstruction) → IsSound s → s.decoder_instructions ≡ j ∷ js → is_refused s.encoder j ≡ false
accepted_next s (Acknowledge stream) js h e = ap not (subst (AreTold s.encoder.known_received s.encoder.tracked) e h.told).0
accepted_next s (CancelStream stream) js h e = refl
accepted_next s (Increment count) js h e =
    let told = subst (AreTold s.encoder.known_received s.encoder.tracked) e h.told in
    let sum : increments s.decoder_instructions ≡ count + increments js = ap increments e in
    some_within s.encoder.counts_acknowledgments count (length s.encoder.inserted) (s.encoder.known_received + count) told.0 (omega (arith, h.accounted, h.received, sum))
  where
    some_within : (b : Bool) (count most known : ℕ) → 0 < count → known ≤ most → (b && ((count == 0) || nat_lt most known)) ≡ false
    some_within true count most known some fits =
        let not_none : (count == 0) ≡ false = grind (arith, common_steps, some) in
        let within : nat_lt most known ≡ false = grind (arith, common_steps, fits) in rw (not_none, within) refl
    some_within false count most known some fits = refl

-- the session after so many of the decoder's instructions
abbrev pub heard_so : Session → ℕ → Session
heard_so s count = record s { encoder = encoder_after_all s.encoder (take count s.decoder_instructions); decoder_instructions = drop count s.decoder_instructions }

pub heard_sound : (count : ℕ) (s : Session) → IsSound s → IsSound (heard_so s count)
heard_sound zero s h = h
heard_sound (suc count) s h = by_list s.decoder_instructions refl (λ t k. heard_sound count t k)
  where
    by_list : (is : List DecoderInstruction) → s.decoder_instructions ≡ is → ((t : Session) → IsSound t → IsSound (heard_so t count)) → IsSound (heard_so s (suc count))
    by_list [] e further =
        let same : s ≡ heard_so s (suc count) = rw (e, ← e) refl in
        subst IsSound same h
    by_list (i ∷ is) e further =
        let later = further (after_decoder_instruction s i is) (reply_read s i is e h) in
        let same : heard_so (after_decoder_instruction s i is) count ≡ heard_so s (suc count) =
        ap (λ js. record s { encoder = encoder_after_all s.encoder (take (suc count) js); decoder_instructions = drop (suc count) js }) (sym e) in
        subst IsSound same later

-- The stream holds what was read, and then the instructions that are under way.
pub record DecoderStream (t : Stream) (pending : List DecoderInstruction) : Type 0 where
  pub read_before : List ℕ
  pub bytes_are : t.bytes ≡ read_before ++ flat_map decoder_bytes pending
  pub replies : AllByRecursion IsReply pending
  pub read : t.read ≡ length read_before
  pub before : t.read ≤ t.arrived
  pub after : t.arrived ≤ length t.bytes

pub record HeardMore (s : Session) (t : Stream) (is : List DecoderInstruction) (left : List ℕ) : Type 0 where
  pub count : ℕ
  pub are : is ≡ take count s.decoder_instructions
  pub decoder_stream : DecoderStream (reading t (length left)) (drop count s.decoder_instructions)
  pub not_refused : BeginsRefused (encoder_after_all s.encoder is) left → ⊥

-- More bytes come, and what is whole is read.
pub decoder_stream_reads : (s : Session) (t : Stream) (more : ℕ) (is : List DecoderInstruction) (left : List ℕ) → IsSound s → DecoderStream t s.decoder_instructions → more ≤ undelivered t
    → AreDecoderInstructions (unread (arriving t more)) is left → HeardMore s (arriving t more) is left
decoder_stream_reads s t more is left sound b enough h =
    let pending = s.decoder_instructions in
    let n = t.arrived + more - t.read in
    let split = ap length b.bytes_are ∙ length-append b.read_before (flat_map decoder_bytes pending) in
    let here : unread (arriving t more) ≡ take n (flat_map decoder_bytes pending) =
    ap (λ bs. take n (drop t.read bs)) b.bytes_are ∙ ap (λ k. take n (drop k (b.read_before ++ flat_map decoder_bytes pending))) b.read ∙ ap (take n) (drop-append_seam b.read_before (flat_map decoder_bytes pending)) in
    let front = front_heard pending n (unread (arriving t more)) left is b.replies (omega (arith, enough, split, b.read, b.after, b.before)) here h in
    let parts = behind_front decoder_bytes front.count pending in
    let split_rest = ap length parts ∙ length-append (flat_map decoder_bytes (take front.count pending)) (flat_map decoder_bytes (drop front.count pending)) in
    let left_len : length left ≡ n - length (flat_map decoder_bytes (take front.count pending)) =
    ap length front.left_is ∙ length-take-le _ (flat_map decoder_bytes (drop front.count pending)) (omega (arith, enough, split, split_rest, b.read, b.after, b.before)) in
    let replies : AllByRecursion IsReply (drop front.count pending) = All-second IsReply (take front.count pending) (drop front.count pending) (subst (AllByRecursion IsReply) (sym (take-append-drop front.count pending)) b.replies) in
    record {
      count = front.count;
      are = front.are;
      decoder_stream = record {
        read_before = b.read_before ++ flat_map decoder_bytes (take front.count pending);
        bytes_are = b.bytes_are ∙ ap (λ bs. b.read_before ++ bs) parts ∙ sym (append_assoc b.read_before (flat_map decoder_bytes (take front.count pending)) (flat_map decoder_bytes (drop front.count pending)));
        replies = replies;
        read = omega (arith, left_len, b.read, b.before, front.fits, length-append b.read_before (flat_map decoder_bytes (take front.count pending)));
        before = omega arith;
        after = omega (arith, enough, b.after);
      };
      not_refused = λ refused. none_refused (drop front.count pending) (n - length (flat_map decoder_bytes (take front.count pending))) (encoder_after_all s.encoder (take front.count pending)) replies
          (λ j js e. accepted_next (heard_so s front.count) j js (heard_sound front.count s sound) e)
          (subst (λ js. BeginsRefused (encoder_after_all s.encoder js) (take (n - length (flat_map decoder_bytes (take front.count pending))) (flat_map decoder_bytes (drop front.count pending)))) front.are
          (subst (BeginsRefused (encoder_after_all s.encoder is)) front.left_is refused));
    }
