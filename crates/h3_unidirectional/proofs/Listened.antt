-- What `on_decoder_recv` says of the bytes that are looked at, as what the peer's decoder stream makes of all of them.
use Rattle.std.proofs.Common.{◌≡◌, ℕ, ◌-◌, ◌<◌, ◌≤◌, ◌⊎◌, inl, inr, nat_lt, Bool, true, false, List, [], ◌∷◌, ◌++◌, append-nil, append_assoc, length, take, drop, Option, Some, Result, Ok, Err, refl, ap, sym, ◌∙◌, subst, arith}
use Rattle.std.specs.Prelude.{IfOk, IfErr, OnOk}
use Rattle.std.specs.Result.{is_ok}
use Rattle.std.proofs.lemmas.Bool.{cases_lt, lt-ltb, le-ltb}
use Rattle.h3_field.specs.Reading.{Unfinished}
use Rattle.h3_field.specs.Instruction.{DecoderInstruction}
use Rattle.h3_field.specs.InstructionReading.{decoder_instruction}
use Rattle.h3_field.specs.InstructionLaws.{decoder_instruction_stable}
use Rattle.h3_field.specs.Waiting.{is_unfinished, goes_on, decoder_wait}
use Rattle.h3_field.specs.WaitingLaws.{decoder_waits}
use Rattle.h3_field.specs.declared.encoder_error.EncoderError.{EncoderError}
use Rattle.h3_field.specs.declared.encoder_error.EncoderError.TheVariants.{Insertion, InvalidInteger, InvalidString, UnknownDecoderInstruction, OutOfMemory}
use Rattle.h3_proto.specs.Config.{is_limit}
use Rattle.h3_qpack.specs.EncoderHistory.{EncoderHistory, encoder_after_all}
use Rattle.h3_qpack.specs.EncoderState.{EncoderState, encoder_state}
use Rattle.h3_qpack.specs.EncoderAnswers.{HasReadDecoderInstructions, IsLeft}
use Rattle.h3_qpack.specs.Instructions.{AreDecoderInstructions, NoDecoderInstruction, NextDecoderInstruction, AreAccepted, BeginsRefused}
use Rattle.h3_qpack.specs.Hearing.{Listened, listened, listen_form, listen}
use Rattle.h3_qpack.specs.HearingLaws.{listened_is}
use Rattle.h3_connection.specs.Codes.{decoder_stream_error, excessive_load}
use Rattle.h3_connection.specs.ExcessiveInstructions.{exceeds, listen_up_to, listened_up_to_with}
use Rattle.h3_connection.specs.LimitedListeningLaws.{listens_no_longer, listens_within, listen_unlimited, listen_short, listen_cut}
use Rattle.h3_connection.specs.Listeners.{Encoding, Listens, fault_if, listening_fault}
use Rattle.h3_unidirectional.specs.Faults.{IsReplyFaultOf, UnlessMemory}
use Rattle.h3_unidirectional.specs.Fronts.{ListensFront}
use Rattle.h3_unidirectional.specs.Windows.{window, is_longer, ListeningEnds, ListensWindow, IsRefusedAt}
use Rattle.h3_unidirectional.proofs.Excess.{IsWithin, longer_beyond, told_beyond, wait_tells, unfinished_before}
use Rattle.h3_unidirectional.proofs.Heard.{dropped}
use Rattle.h3_unidirectional.proofs.InstructionFronts.{decoder_instruction_fronts}
use Rattle.h3_unidirectional.proofs.WindowLaws.{looked_within, front_within, left_within, window_less, IsCut, cut_at, all_looked, none_read, fewer_left}

-- Of bytes within the limit as much is read as without one.
listened_if : (b : Bool) (most : ℕ) (s : EncoderHistory) (bytes : List ℕ) → is_limit most ≡ b → IsWithin most bytes → listen_up_to most s bytes ≡ listen s bytes
listened_if true most s bytes limit fits = listen_short most s bytes (fits limit)
listened_if false most s bytes none fits = listen_unlimited most s bytes none

listened_within : (most : ℕ) (s : EncoderHistory) (bytes : List ℕ) → IsWithin most bytes → listen_up_to most s bytes ≡ listen s bytes
listened_within most s bytes fits = listened_if (is_limit most) most s bytes refl fits

-- What is longer is not read, and what is not whole is not.
unread_if : (b : Bool) (most : ℕ) (s : EncoderHistory) (bytes : List ℕ) → exceeds most decoder_wait bytes ≡ b → (b ≡ false → decoder_instruction bytes ≡ Unfinished) → listen_up_to most s bytes ≡ listened s bytes false
unread_if true most s bytes longer h = listens_no_longer most s bytes longer
unread_if false most s bytes within h = listens_within most s bytes within ∙ ap (listen_form (listen_up_to most) s bytes) (h refl)

stays_unread : (most : ℕ) (s : EncoderHistory) (bytes : List ℕ) → (exceeds most decoder_wait bytes ≡ false → decoder_instruction bytes ≡ Unfinished) → listen_up_to most s bytes ≡ listened s bytes false
stays_unread most s bytes h = unread_if (exceeds most decoder_wait bytes) most s bytes refl h

waits_if : (bytes : List ℕ) → decoder_instruction bytes ≡ Unfinished → goes_on (decoder_wait bytes) ≡ true
waits_if bytes e = decoder_waits bytes ∙ ap is_unfinished e

pub ends_unfinished : (most : ℕ) (left : List ℕ) → decoder_instruction left ≡ Unfinished → ListeningEnds most left
ends_unfinished most left e =
    let before = unfinished_before decoder_instruction most left (decoder_instruction_stable (take most left) (drop most left)) e in
    record { stays = λ s. stays_unread most s left (λ within. e); told = wait_tells most decoder_wait left (waits_if (take most left) before) }

ends_longer : (most : ℕ) (left : List ℕ) → is_limit most ≡ true → most < length left → decoder_instruction (take most left) ≡ Unfinished → ListeningEnds most left
ends_longer most left limit more e =
    let large = longer_beyond most decoder_wait left limit more (waits_if (take most left) e) in
    record {
      stays = λ s. stays_unread most s left (λ within. absurd (let wrong : true ≡ false = sym large ∙ within in cc));
      told = large ∙ sym (told_beyond most (length left) (decoder_wait left) limit more);
    }

-- the bytes of some instructions, whatever follows
record AreFront (bytes left : List ℕ) (is : List DecoderInstruction) : Type 0 where
  front : List ℕ
  split : bytes ≡ front ++ left
  alike : (more : List ℕ) → AreDecoderInstructions (front ++ more) is more

instructions_front : (bytes left : List ℕ) (is : List DecoderInstruction) → AreDecoderInstructions bytes is left → AreFront bytes left is
instructions_front bytes left [] (NoDecoderInstruction b) = record { front = []; split = refl; alike = λ more. NoDecoderInstruction more }
instructions_front bytes left (i ∷ is) (NextDecoderInstruction b rest l j js here others) =
    let f = decoder_instruction_fronts bytes rest i here in
    let g = instructions_front rest left is others in
    record {
      front = f.front ++ g.front;
      split = f.split ∙ ap (λ x. f.front ++ x) g.split ∙ sym (append_assoc f.front g.front left);
      alike = λ more.
          subst (λ x. AreDecoderInstructions x (i ∷ is) more) (sym (append_assoc f.front g.front more))
          (NextDecoderInstruction (f.front ++ (g.front ++ more)) (g.front ++ more) more i is (f.alike (g.front ++ more)) (g.alike more));
    }

-- a front, by what it leaves to whatever follows
from_front : (most : ℕ) (s after : EncoderHistory) (old new : Encoding) (front : List ℕ) → new.encoder ≡ encoder_state after → old.unread ≡ front ++ new.unread
    → ((more : List ℕ) → listen_up_to most s (front ++ more) ≡ listen_up_to most after more) → ListensFront most s old new
from_front most s after old new front state split goes_on =
    record {
      after = after;
      state = state;
      front = front;
      split = split;
      listened = ap (listen_up_to most s) (sym (append-nil front)) ∙ goes_on [] ∙ stays_unread most after [] (λ within. refl);
      goes_on = goes_on;
    }

-- nothing is read
pub no_listening : (most : ℕ) (s : EncoderHistory) (e : Encoding) → e.encoder ≡ encoder_state s → ListensFront most s e e
no_listening most s e is = from_front most s s e e [] is refl (λ more. refl)

-- the bytes of whole instructions within the limit
read_front : (most : ℕ) (s : EncoderHistory) (front : List ℕ) (is : List DecoderInstruction) → IsWithin most front → ((more : List ℕ) → AreDecoderInstructions (front ++ more) is more) → AreAccepted s is
    → (more : List ℕ) → listen_up_to most s (front ++ more) ≡ listen_up_to most (encoder_after_all s is) more
read_front most s front is fits alike accepted more =
    let after = encoder_after_all s is in
    let whole : listen_up_to most s front ≡ listened after [] false =
    listened_within most s front fits
    ∙ listened_is s front (listened after [] false)
    (record { instructions = is; split = subst (λ x. AreDecoderInstructions x is []) (append-nil front) (alike []); accepted = accepted; after = refl; stops = refl }) in
    listen_cut most s front more ∙ ap (λ (l : Listened). listened_up_to_with most l more l.is_bad) whole

-- What was read of the bytes that are looked at, of all bytes.
pub record IsListened (most : ℕ) (old new : EncoderState) (bytes left after : List ℕ) (taken : ℕ) : Type 0 where
  pub front : List ℕ
  pub parts : take (window most (length bytes)) bytes ≡ front ++ left
  pub cut : IsCut most bytes front left after taken
  pub listens : (s : EncoderHistory) → old ≡ encoder_state s → ListensFront most s (record { encoder = old; unread = bytes }) (record { encoder = new; unread = after })

pub window_listened : (most : ℕ) (old new : EncoderState) (bytes left after : List ℕ) (taken : ℕ) → HasReadDecoderInstructions old new (take (window most (length bytes)) bytes) left
    → taken ≡ window most (length bytes) - length left → after ≡ drop taken bytes → IsListened most old new bytes left after taken
window_listened most old new bytes left after taken read count rest =
    let f = instructions_front (take (window most (length bytes)) bytes) left read.instructions read.split in
    let cut = cut_at most bytes f.front left after taken f.split count rest in
    let fits = front_within most f.front left (subst (IsWithin most) f.split (looked_within most bytes)) in
    record {
      front = f.front;
      parts = f.split;
      cut = cut;
      listens = λ s is.
          from_front most s (encoder_after_all s read.instructions) (record { encoder = old; unread = bytes }) (record { encoder = new; unread = after }) f.front (read.after s is) cut.split
          (read_front most s f.front read.instructions fits f.alike (read.accepted s is));
    }

-- Where some were read, fewer are left,
pub window_goes_on : (most : ℕ) (old new : EncoderState) (bytes left after : List ℕ) (taken : ℕ) → IsListened most old new bytes left after taken → decoder_instruction left ≡ Unfinished → 0 < taken
    → ListensWindow most bytes after (nat_lt (window most (length bytes)) (length bytes))
window_goes_on most old new bytes left after taken h e some = by_test (cases_lt (window most (length bytes)) (length bytes))
  where
    by_test : (window most (length bytes) < length bytes) ⊎ (length bytes ≤ window most (length bytes)) → ListensWindow most bytes after (nat_lt (window most (length bytes)) (length bytes))
    by_test (inl more) = rw (lt-ltb (window most (length bytes)) (length bytes) more) (fewer_left most bytes h.front left after taken h.cut some)
    by_test (inr few) = rw (le-ltb (window most (length bytes)) (length bytes) few) (subst (ListeningEnds most) (sym (all_looked most bytes h.front left after taken h.cut few)) (ends_unfinished most left e))

-- and where none were read, or all are looked at, no more is.
pub window_ends : (most : ℕ) (old new : EncoderState) (bytes left after : List ℕ) (taken : ℕ) → IsListened most old new bytes left after taken → decoder_instruction left ≡ Unfinished → taken ≤ 0
    → ListensWindow most bytes after (nat_lt 0 taken)
window_ends most old new bytes left after taken h e none = rw (le-ltb 0 taken none) (by_test (cases_lt (window most (length bytes)) (length bytes)))
  where
    by_test : (window most (length bytes) < length bytes) ⊎ (length bytes ≤ window most (length bytes)) → ListeningEnds most after
    by_test (inl more) =
        let limit = window_less most (length bytes) more in
        let none_of = none_read most bytes h.front left after taken h.parts h.cut (omega (arith, none)) in
        let unfinished : decoder_instruction (take most bytes) ≡ Unfinished = ap (λ k. decoder_instruction (take k bytes)) (sym limit.1) ∙ ap decoder_instruction (sym none_of.1) ∙ e in
        subst (ListeningEnds most) (sym none_of.0) (ends_longer most bytes limit.0 (omega (arith, limit.1, more)) unfinished)
    by_test (inr few) = subst (ListeningEnds most) (sym (all_looked most bytes h.front left after taken h.cut few)) (ends_unfinished most left e)

refused_at : (most : ℕ) (s : EncoderHistory) (left others : List ℕ) → IsWithin most left → BeginsRefused s left → listen_up_to most s (left ++ others) ≡ listened s (left ++ others) true
refused_at most s left others fits bad =
    let here : listen_up_to most s left ≡ listened s left true =
    listened_within most s left fits
    ∙ listened_is s left (listened s left true) (record { instructions = []; split = NoDecoderInstruction left; accepted = tt; after = refl; stops = bad }) in
    listen_cut most s left others ∙ ap (λ (x : Listened). listened_up_to_with most x others x.is_bad) here

unless_memory : (e : EncoderError) (P : Type 0) → ((e ≡ OutOfMemory → ⊥) → P) → UnlessMemory e P
unless_memory OutOfMemory P h = tt
unless_memory (Insertion e) P h = h (λ same. absurd (cc))
unless_memory (InvalidInteger e) P h = h (λ same. absurd (cc))
unless_memory (InvalidString e) P h = h (λ same. absurd (cc))
unless_memory (UnknownDecoderInstruction first) P h = h (λ same. absurd (cc))

pub window_refused : (most : ℕ) (old new : EncoderState) (bytes left after : List ℕ) (taken : ℕ) (e : EncoderError) → IsListened most old new bytes left after taken
    → ((s : EncoderHistory) → new ≡ encoder_state s → IsLeft s left e) → UnlessMemory e (IsRefusedAt most new after)
window_refused most old new bytes left after taken e h refused = unless_memory e (IsRefusedAt most new after) (λ none s is. by_reason none s (refused s is))
  where
    by_reason : (e ≡ OutOfMemory → ⊥) → (s : EncoderHistory) → IsLeft s left e → listen_up_to most s after ≡ listened s after true
    by_reason none s (inl bad) =
        let fits = left_within most h.front left (subst (IsWithin most) h.parts (looked_within most bytes)) in
        ap (listen_up_to most s) h.cut.after_is ∙ refused_at most s left h.cut.others fits bad ∙ ap (λ l. listened s l true) (sym h.cut.after_is)
    by_reason none s (inr lacks) = absurd (none lacks.memory)

-- all of what was unread, and what is answered
listens : (most : ℕ) (s : EncoderHistory) (old new : Encoding) (is_bad : Bool) (code : Option ℕ) → (h : ListensFront most s old new) → listen_up_to most h.after new.unread ≡ listened h.after new.unread is_bad
    → code ≡ listening_fault most (listened h.after new.unread is_bad) → Listens most s old.unread new code
listens most s old new is_bad code h e fault =
    let all : listen_up_to most s old.unread ≡ listened h.after new.unread is_bad = ap (listen_up_to most s) h.split ∙ h.goes_on new.unread ∙ e in
    record {
      encoder = h.state ∙ ap (λ (x : Listened). encoder_state x.encoder) (sym all);
      left = ap (λ (x : Listened). x.left) (sym all);
      fault = fault ∙ ap (listening_fault most) (sym all);
    }

pub listens_ends : (most : ℕ) (s : EncoderHistory) (old new : Encoding) (code : Option ℕ) → ListensFront most s old new → ListeningEnds most new.unread
    → code ≡ fault_if (is_longer most (length new.unread) (decoder_wait new.unread)) excessive_load → Listens most s old.unread new code
listens_ends most s old new code h ends fault = listens most s old new false code h (ends.stays h.after) (fault ∙ ap (λ b. fault_if b excessive_load) (sym ends.told))

pub listens_refused : (most : ℕ) (s : EncoderHistory) (old new : Encoding) → ListensFront most s old new → IsRefusedAt most new.encoder new.unread → Listens most s old.unread new (Some decoder_stream_error)
listens_refused most s old new h refused = listens most s old new true (Some decoder_stream_error) h (refused h.after h.state) refl

-- What is left of a reading is what is kept.
kept_is : (most : ℕ) (s : EncoderHistory) (old : Encoding) (new : EncoderState) (left kept : List ℕ) → ListensFront most s old (record { encoder = new; unread = left }) → kept ≡ drop (length old.unread - length left) old.unread → left ≡ kept
kept_is most s old new left kept h is = sym (is ∙ dropped old.unread h.front left h.split)

-- Whatever the history, a front of the bytes was read up to what is left.
abbrev Reaches : ℕ → Encoding → EncoderState → List ℕ → Type 0
Reaches most old new left = (s : EncoderHistory) → old.encoder ≡ encoder_state s → ListensFront most s old (record { encoder = new; unread = left })

pub kept_front : (most : ℕ) (old new : Encoding) (left : List ℕ) → Reaches most old new.encoder left → new.unread ≡ drop (length old.unread - length left) old.unread
    → (s : EncoderHistory) → old.encoder ≡ encoder_state s → ListensFront most s old new
kept_front most old new left h kept s is = subst (λ l. ListensFront most s old (record { encoder = new.encoder; unread = l })) (kept_is most s old new.encoder left new.unread (h s is) kept) (h s is)

pub kept_ends : {A E : Type 0} (r : Result A E) (most : ℕ) (old new : Encoding) (left : List ℕ) → Reaches most old new.encoder left → new.unread ≡ drop (length old.unread - length left) old.unread
    → OnOk r (ListeningEnds most left) → OnOk r ((s : EncoderHistory) → old.encoder ≡ encoder_state s → ListeningEnds most new.unread)
kept_ends (Ok done) most old new left h kept ends = λ s is. subst (ListeningEnds most) (kept_is most s old new.encoder left new.unread (h s is) kept) ends
kept_ends (Err e) most old new left h kept ends = tt

unless_map : (e : EncoderError) (P Q : Type 0) → (P → Q) → UnlessMemory e P → UnlessMemory e Q
unless_map OutOfMemory P Q f h = tt
unless_map (Insertion e) P Q f h = f h
unless_map (InvalidInteger e) P Q f h = f h
unless_map (InvalidString e) P Q f h = f h
unless_map (UnknownDecoderInstruction first) P Q f h = f h

pub kept_refused : {A : Type 0} (r : Result A EncoderError) (most : ℕ) (old new : Encoding) (left : List ℕ) → Reaches most old new.encoder left → new.unread ≡ drop (length old.unread - length left) old.unread
    → IfErr r (λ e. UnlessMemory e (IsRefusedAt most new.encoder left))
    → IfErr r (λ e. UnlessMemory e ((s : EncoderHistory) → old.encoder ≡ encoder_state s → Listens most s old.unread new (Some decoder_stream_error)))
kept_refused (Ok done) most old new left h kept refused = tt
kept_refused (Err e) most old new left h kept refused =
    unless_map e _ _
    (λ here s is.
    let same = kept_is most s old new.encoder left new.unread (h s is) kept in
    listens_refused most s old new (kept_front most old new left h kept s is) (subst (IsRefusedAt most new.encoder) same here)) refused

error_none : {E : Type 0} (r : Result (Option ℕ) E) (P : Option ℕ → Type 0) → is_ok r ≡ false → IfOk r P
error_none (Ok fault) P e = absurd (cc)
error_none (Err e) P none = tt

fault_is : {E : Type 0} (r : Result (Option ℕ) E) (P : Option ℕ → Type 0) → P (Some decoder_stream_error) → r ≡ Ok (Some decoder_stream_error) → IfOk r P
fault_is r P h e = rw e h

pub is_reply_fault : {E : Type 0} (e : EncoderError) (r : Result (Option ℕ) E) (P : Option ℕ → Type 0) → UnlessMemory e (P (Some decoder_stream_error)) → IsReplyFaultOf e r → IfOk r P
is_reply_fault OutOfMemory r P h f = error_none r P f
is_reply_fault (Insertion e) r P h f = fault_is r P h f
is_reply_fault (InvalidInteger e) r P h f = fault_is r P h f
is_reply_fault (InvalidString e) r P h f = fault_is r P h f
is_reply_fault (UnknownDecoderInstruction first) r P h f = fault_is r P h f
