-- What `take_instructions` says of the bytes that are looked at, as what the peer's encoder stream makes of all of them.
use Rattle.std.proofs.Common.{◌≡◌, ℕ, ◌-◌, ◌<◌, ◌≤◌, ◌⊎◌, inl, inr, nat_lt, Bool, true, false, List, [], ◌∷◌, ◌++◌, append-nil, append_assoc, length, length-append, take, drop, Option, Result, Ok, Err, Some, refl, ap, sym, ◌∙◌, subst, arith}
use Rattle.std.specs.Prelude.{IfErr, OnOk, OnErr}
use Rattle.std.proofs.lemmas.Bool.{cases_lt, lt-ltb, le-ltb}
use Rattle.std.proofs.lemmas.List.{drop_at}
use Rattle.h3_field.specs.Reading.{Unfinished}
use Rattle.h3_field.specs.Instruction.{EncoderInstruction}
use Rattle.h3_field.specs.InstructionReading.{instruction}
use Rattle.h3_field.specs.InstructionLaws.{instruction_stable}
use Rattle.h3_field.specs.Waiting.{is_unfinished, goes_on, encoder_wait}
use Rattle.h3_field.specs.WaitingLaws.{encoder_waits}
use Rattle.h3_field.specs.declared.decoder_error.DecoderError.{DecoderError}
use Rattle.h3_proto.specs.Config.{is_limit}
use Rattle.h3_qpack.specs.Increments.{increment_for}
use Rattle.h3_qpack.specs.Instructions.{AreInstructions, NoInstruction, NextInstruction, HasRead, BeginsBad}
use Rattle.h3_qpack.specs.DecoderState.{DecoderState, decoder_after_all}
use Rattle.h3_qpack.specs.SectionAnswers.{IsReasonFor}
use Rattle.h3_qpack.specs.ReasonLaws.{reason_map}
use Rattle.h3_qpack.specs.Hearing.{Heard, heard, hear_form, hear}
use Rattle.h3_qpack.specs.HearingLaws.{heard_is}
use Rattle.h3_connection.specs.Codes.{encoder_stream_error, excessive_load}
use Rattle.h3_connection.specs.ExcessiveInstructions.{exceeds, hear_up_to, heard_up_to_with}
use Rattle.h3_connection.specs.LimitedHearingLaws.{hears_no_longer, hears_within, hear_unlimited, hear_short, hear_cut}
use Rattle.h3_connection.specs.Listeners.{Decoding, Hears, fault_if, hearing_fault, heard_more, after_hearing, insertions_heard}
use Rattle.h3_unidirectional.specs.Fronts.{HearsFront, StopsHearing}
use Rattle.h3_unidirectional.specs.Windows.{window, is_longer, HearingEnds, HearsWindow}
use Rattle.h3_unidirectional.proofs.Excess.{IsWithin, longer_beyond, told_beyond, wait_tells, unfinished_before}
use Rattle.h3_unidirectional.proofs.InstructionFronts.{instruction_fronts}
use Rattle.h3_unidirectional.proofs.WindowLaws.{looked_within, front_within, left_within, window_less, IsCut, cut_at, all_looked, none_read, fewer_left}

-- Of bytes within the limit as much is heard as without one.
heard_if : (b : Bool) (most : ℕ) (r : DecoderState) (bytes : List ℕ) → is_limit most ≡ b → IsWithin most bytes → hear_up_to most r bytes ≡ hear r bytes
heard_if true most r bytes limit fits = hear_short most r bytes (fits limit)
heard_if false most r bytes none fits = hear_unlimited most r bytes none

heard_within : (most : ℕ) (r : DecoderState) (bytes : List ℕ) → IsWithin most bytes → hear_up_to most r bytes ≡ hear r bytes
heard_within most r bytes fits = heard_if (is_limit most) most r bytes refl fits

-- What is longer is not heard, and what is not whole is not.
unheard_if : (b : Bool) (most : ℕ) (r : DecoderState) (bytes : List ℕ) → exceeds most encoder_wait bytes ≡ b → (b ≡ false → instruction bytes ≡ Unfinished) → hear_up_to most r bytes ≡ heard r bytes false
unheard_if true most r bytes longer h = hears_no_longer most r bytes longer
unheard_if false most r bytes within h = hears_within most r bytes within ∙ ap (hear_form (hear_up_to most) r bytes) (h refl)

unheard : (most : ℕ) (r : DecoderState) (bytes : List ℕ) → (exceeds most encoder_wait bytes ≡ false → instruction bytes ≡ Unfinished) → hear_up_to most r bytes ≡ heard r bytes false
unheard most r bytes h = unheard_if (exceeds most encoder_wait bytes) most r bytes refl h

waits_if : (bytes : List ℕ) → instruction bytes ≡ Unfinished → goes_on (encoder_wait bytes) ≡ true
waits_if bytes e = encoder_waits bytes ∙ ap is_unfinished e

pub ends_unfinished : (most : ℕ) (r : DecoderState) (left : List ℕ) → instruction left ≡ Unfinished → HearingEnds most r left
ends_unfinished most r left e =
    let before = unfinished_before instruction most left (instruction_stable (take most left) (drop most left)) e in
    record { stays = unheard most r left (λ within. e); told = wait_tells most encoder_wait left (waits_if (take most left) before) }

ends_longer : (most : ℕ) (r : DecoderState) (left : List ℕ) → is_limit most ≡ true → most < length left → instruction (take most left) ≡ Unfinished → HearingEnds most r left
ends_longer most r left limit more e =
    let large = longer_beyond most encoder_wait left limit more (waits_if (take most left) e) in
    record {
      stays = unheard most r left (λ within. absurd (let wrong : true ≡ false = sym large ∙ within in cc));
      told = large ∙ sym (told_beyond most (length left) (encoder_wait left) limit more);
    }

-- the bytes of some instructions, whatever follows
pub record AreFront (bytes left : List ℕ) (is : List EncoderInstruction) : Type 0 where
  pub front : List ℕ
  pub split : bytes ≡ front ++ left
  pub alike : (more : List ℕ) → AreInstructions (front ++ more) is more

instructions_front : (bytes left : List ℕ) (is : List EncoderInstruction) → AreInstructions bytes is left → AreFront bytes left is
instructions_front bytes left [] (NoInstruction b) = record { front = []; split = refl; alike = λ more. NoInstruction more }
instructions_front bytes left (i ∷ is) (NextInstruction b rest l j js here others) =
    let f = instruction_fronts bytes rest here.form here.whole in
    let g = instructions_front rest left is others in
    record {
      front = f.front ++ g.front;
      split = f.split ∙ ap (λ x. f.front ++ x) g.split ∙ sym (append_assoc f.front g.front left);
      alike = λ more.
          subst (λ x. AreInstructions x (i ∷ is) more) (sym (append_assoc f.front g.front more))
          (NextInstruction (f.front ++ (g.front ++ more)) (g.front ++ more) more i is (record { form = here.form; whole = f.alike (g.front ++ more); says = here.says }) (g.alike more));
    }

-- a front, by what it leaves to whatever follows
from_front : (most : ℕ) (old new : Decoding) (front : List ℕ) → old.unread ≡ front ++ new.unread → ((more : List ℕ) → hear_up_to most old.decoder (front ++ more) ≡ hear_up_to most new.decoder more) → HearsFront most old new
from_front most old new front split goes_on =
    record {
      front = front;
      split = split;
      heard = ap (hear_up_to most old.decoder) (sym (append-nil front)) ∙ goes_on [] ∙ unheard most new.decoder [] (λ within. refl);
      goes_on = goes_on;
    }

-- nothing is read
pub no_hearing : (most : ℕ) (d : Decoding) → HearsFront most d d
no_hearing most d = from_front most d d [] refl (λ more. refl)

-- the bytes of whole instructions within the limit
read_front : (most : ℕ) (old new : DecoderState) (front : List ℕ) (is : List EncoderInstruction) → IsWithin most front → ((more : List ℕ) → AreInstructions (front ++ more) is more) → decoder_after_all (Some old) is ≡ Some new
    → (more : List ℕ) → hear_up_to most old (front ++ more) ≡ hear_up_to most new more
read_front most old new front is fits alike table more =
    let whole : hear_up_to most old front ≡ heard new [] false =
    heard_within most old front fits
    ∙ heard_is old front (heard new [] false)
    (record { read = record { instructions = is; split = subst (λ x. AreInstructions x is []) (append-nil front) (alike []); table = table }; stops = refl }) in
    hear_cut most old front more ∙ ap (λ (h : Heard). heard_up_to_with most h more h.is_bad) whole

-- What was read of the bytes that are looked at, of all bytes.
pub record IsHeard (most : ℕ) (old new : DecoderState) (bytes left after : List ℕ) (taken : ℕ) : Type 0 where
  pub front : List ℕ
  pub parts : take (window most (length bytes)) bytes ≡ front ++ left
  pub cut : IsCut most bytes front left after taken
  pub hears : HearsFront most (record { decoder = old; unread = bytes }) (record { decoder = new; unread = after })

pub window_heard : (most : ℕ) (old new : DecoderState) (bytes left after : List ℕ) (taken : ℕ) → HasRead old new (take (window most (length bytes)) bytes) left
    → taken ≡ window most (length bytes) - length left → after ≡ drop taken bytes → IsHeard most old new bytes left after taken
window_heard most old new bytes left after taken read count rest =
    let f = instructions_front (take (window most (length bytes)) bytes) left read.instructions read.split in
    let cut = cut_at most bytes f.front left after taken f.split count rest in
    let fits = front_within most f.front left (subst (IsWithin most) f.split (looked_within most bytes)) in
    record {
      front = f.front;
      parts = f.split;
      cut = cut;
      hears = from_front most (record { decoder = old; unread = bytes }) (record { decoder = new; unread = after }) f.front cut.split (read_front most old new f.front read.instructions fits f.alike read.table);
    }

-- Where some were read, fewer are left,
pub window_goes_on : (most : ℕ) (old new : DecoderState) (bytes left after : List ℕ) (taken : ℕ) → IsHeard most old new bytes left after taken → instruction left ≡ Unfinished → 0 < taken
    → HearsWindow most new bytes after (nat_lt (window most (length bytes)) (length bytes))
window_goes_on most old new bytes left after taken h e some = by_test (cases_lt (window most (length bytes)) (length bytes))
  where
    by_test : (window most (length bytes) < length bytes) ⊎ (length bytes ≤ window most (length bytes)) → HearsWindow most new bytes after (nat_lt (window most (length bytes)) (length bytes))
    by_test (inl more) = rw (lt-ltb (window most (length bytes)) (length bytes) more) (fewer_left most bytes h.front left after taken h.cut some)
    by_test (inr few) = rw (le-ltb (window most (length bytes)) (length bytes) few) (subst (HearingEnds most new) (sym (all_looked most bytes h.front left after taken h.cut few)) (ends_unfinished most new left e))

-- and where none were read, or all are looked at, no more is.
pub window_ends : (most : ℕ) (old new : DecoderState) (bytes left after : List ℕ) (taken : ℕ) → IsHeard most old new bytes left after taken → instruction left ≡ Unfinished → taken ≤ 0
    → HearsWindow most new bytes after (nat_lt 0 taken)
window_ends most old new bytes left after taken h e none = rw (le-ltb 0 taken none) (by_test (cases_lt (window most (length bytes)) (length bytes)))
  where
    by_test : (window most (length bytes) < length bytes) ⊎ (length bytes ≤ window most (length bytes)) → HearingEnds most new after
    by_test (inl more) =
        let limit = window_less most (length bytes) more in
        let none_of = none_read most bytes h.front left after taken h.parts h.cut (omega (arith, none)) in
        let unfinished : instruction (take most bytes) ≡ Unfinished = ap (λ k. instruction (take k bytes)) (sym limit.1) ∙ ap instruction (sym none_of.1) ∙ e in
        subst (HearingEnds most new) (sym none_of.0) (ends_longer most new bytes limit.0 (omega (arith, limit.1, more)) unfinished)
    by_test (inr few) = subst (HearingEnds most new) (sym (all_looked most bytes h.front left after taken h.cut few)) (ends_unfinished most new left e)

pub window_bad : (most : ℕ) (old new : DecoderState) (bytes left after : List ℕ) (taken : ℕ) → IsHeard most old new bytes left after taken → BeginsBad new left → hear_up_to most new after ≡ heard new after true
window_bad most old new bytes left after taken h bad =
    let fits = left_within most h.front left (subst (IsWithin most) h.parts (looked_within most bytes)) in
    let here : hear_up_to most new left ≡ heard new left true =
    heard_within most new left fits ∙ heard_is new left (heard new left true) (record { read = record { instructions = []; split = NoInstruction left; table = refl }; stops = bad }) in
    ap (hear_up_to most new) h.cut.after_is ∙ hear_cut most new left h.cut.others
    ∙ ap (λ (x : Heard). heard_up_to_with most x h.cut.others x.is_bad) here ∙ ap (λ l. heard new l true) (sym h.cut.after_is)

pub dropped : (bytes front left : List ℕ) → bytes ≡ front ++ left → drop (length bytes - length left) bytes ≡ left
dropped bytes front left is =
    let sizes : length bytes - length left ≡ length front = omega (arith, ap length is, length-append front left) in
    ap (λ n. drop n bytes) sizes ∙ ap (λ l. drop (length front) l) is ∙ drop_at front left (length front) refl

-- What is left of a reading is what is kept.
kept_is : (most : ℕ) (old : Decoding) (new : DecoderState) (left kept : List ℕ) → HearsFront most old (record { decoder = new; unread = left }) → kept ≡ drop (length old.unread - length left) old.unread → left ≡ kept
kept_is most old new left kept h is = sym (is ∙ dropped old.unread h.front left h.split)

pub kept_front : (most : ℕ) (old new : Decoding) (left : List ℕ) → HearsFront most old (record { decoder = new.decoder; unread = left }) → new.unread ≡ drop (length old.unread - length left) old.unread → HearsFront most old new
kept_front most old new left h kept = subst (λ l. HearsFront most old (record { decoder = new.decoder; unread = l })) (kept_is most old new.decoder left new.unread h kept) h

pub kept_ends : {A E : Type 0} (r : Result A E) (most : ℕ) (old new : Decoding) (left : List ℕ) → HearsFront most old (record { decoder = new.decoder; unread = left }) → new.unread ≡ drop (length old.unread - length left) old.unread
    → OnOk r (HearingEnds most new.decoder left) → OnOk r (HearingEnds most new.decoder new.unread)
kept_ends r most old new left h kept ends = subst (λ l. OnOk r (HearingEnds most new.decoder l)) (kept_is most old new.decoder left new.unread h kept) ends

-- a bad instruction is there
abbrev IsBadAt : ℕ → DecoderState → List ℕ → DecoderError → Type 0
IsBadAt most r left e = IsReasonFor (hear_up_to most r left ≡ heard r left true) (λ count. ⊥) e

pub kept_bad : {A : Type 0} (r : Result A DecoderError) (most : ℕ) (old new : Decoding) (left : List ℕ) → HearsFront most old (record { decoder = new.decoder; unread = left }) → new.unread ≡ drop (length old.unread - length left) old.unread
    → IfErr r (IsBadAt most new.decoder left) → IfErr r (IsBadAt most new.decoder new.unread)
kept_bad r most old new left h kept bad = subst (λ l. IfErr r (IsBadAt most new.decoder l)) (kept_is most old new.decoder left new.unread h kept) bad

-- all of what was unread, and what is answered
all_heard : (most : ℕ) (old new : Decoding) (is_bad : Bool) → HearsFront most old new → hear_up_to most new.decoder new.unread ≡ heard new.decoder new.unread is_bad → heard_more most old [] ≡ heard new.decoder new.unread is_bad
all_heard most old new is_bad h e = ap (hear_up_to most old.decoder) (append-nil old.unread ∙ h.split) ∙ h.goes_on new.unread ∙ e

hears : (most : ℕ) (old new : Decoding) (is_bad : Bool) (code : Option ℕ) (before after : List ℕ) → heard_more most old [] ≡ heard new.decoder new.unread is_bad → code ≡ hearing_fault most (heard new.decoder new.unread is_bad)
    → after ≡ before ++ increment_for (new.decoder.table.inserted - old.decoder.table.inserted) → Hears most old new [] code before after
hears most old new is_bad code before after all fault increment =
    record {
      table = ap after_hearing (sym all);
      fault = fault ∙ ap (hearing_fault most) (sym all);
      increment = increment ∙ ap (λ (x : Heard). before ++ increment_for (insertions_heard old x)) (sym all);
    }

pub hears_ends : (most : ℕ) (old new : Decoding) (code : Option ℕ) (before after : List ℕ) → HearsFront most old new → HearingEnds most new.decoder new.unread
    → code ≡ fault_if (is_longer most (length new.unread) (encoder_wait new.unread)) excessive_load → after ≡ before ++ increment_for (new.decoder.table.inserted - old.decoder.table.inserted) → Hears most old new [] code before after
hears_ends most old new code before after h ends fault increment =
    hears most old new false code before after (all_heard most old new false h ends.stays) (fault ∙ ap (λ b. fault_if b excessive_load) (sym ends.told)) increment

hears_bad : (most : ℕ) (old new : Decoding) (before after : List ℕ) → HearsFront most old new → hear_up_to most new.decoder new.unread ≡ heard new.decoder new.unread true
    → after ≡ before ++ increment_for (new.decoder.table.inserted - old.decoder.table.inserted) → Hears most old new [] (Some encoder_stream_error) before after
hears_bad most old new before after h bad increment = hears most old new true (Some encoder_stream_error) before after (all_heard most old new true h bad) refl increment

pub bad_heard : {A : Type 0} (r : Result A DecoderError) (most : ℕ) (old new : Decoding) (before after : List ℕ) → HearsFront most old new → IfErr r (IsBadAt most new.decoder new.unread)
    → after ≡ before ++ increment_for (new.decoder.table.inserted - old.decoder.table.inserted) → IfErr r (IsReasonFor (Hears most old new [] (Some encoder_stream_error) before after) (λ count. ⊥))
bad_heard (Ok done) most old new before after h bad increment = tt
bad_heard (Err e) most old new before after h bad increment = reason_map _ _ e (λ is. hears_bad most old new before after h is increment) bad

-- where memory is refused, they stand
pub hearing_stopped : {A E : Type 0} (r : Result A E) (most : ℕ) (old new : Decoding) → HearsFront most old new → OnErr r (StopsHearing most old new)
hearing_stopped (Ok done) most old new h = tt
hearing_stopped (Err e) most old new h =
    record {
      part = record {
        front = h.front;
        rest = new.unread;
        cut = h.split;
        good = ap (hearing_fault most) h.heard;
        left = ap (λ (x : Heard). record { decoder = x.decoder; unread = x.left ++ new.unread }) (sym h.heard);
      };
      resumes = λ more. sym (ap (λ l. hear_up_to most old.decoder (l ++ more)) h.split ∙ ap (hear_up_to most old.decoder) (append_assoc h.front new.unread more) ∙ h.goes_on (new.unread ++ more));
    }
