-- No instruction of either side is refused: what a session has under way fits what both ends have.
use Rattle.std.proofs.Common.{◌+◌, List, [], ◌∷◌, ◌++◌, refl, subst, ◌≡◌, ℕ, ◌<◌, ◌≤◌, nat_lt, not, Bool, true, false, length, ap, arith, sym, ◌∙◌, None, Option, Some, ◌^◌, if◌then◌else◌, nat_le}
use Rattle.h3_qpack.specs.Schedule.{SessionEvent, SessionStep, SessionRun, beginning}
use Rattle.h3_qpack.specs.Session.{Session, IsSound, AreTold, increments, after_decoder_instruction}
use Rattle.std.specs.Prelude.{◌==◌, ◌||◌, ◌&&◌, count_by}
use Rattle.std.proofs.lemmas.Grind.{common_steps}
use Rattle.h3_field.specs.Instruction.{DecoderInstruction, EncoderInstruction}
use Rattle.h3_field.specs.Instruction.DecoderInstruction.{Acknowledge, CancelStream, Increment}
use Rattle.h3_qpack.specs.EncoderHistory.{is_refused, EncoderHistory, encoder_after}
use Rattle.h3_qpack.specs.Instructions.{AreAccepted}
use Rattle.h3_qpack.specs.Schedule.SessionEvent.{DecoderInstructionRead}
use Rattle.h3_proto.specs.declared.stream.Side.{Side}
use Rattle.h3_world.specs.Setup.{Setup}
use Rattle.h3_world.specs.Following.{HasSession, replies_left}
use Rattle.h3_world.specs.World.{World, party}
use Rattle.h3_qpack.specs.DecoderState.{decoder_after_all, DecoderState, decoder_after, inserting, greatest_capacity, insertion_of}
use Rattle.std.proofs.lemmas.Bool.{and_parts}
use Rattle.h3_field.specs.Field.{Field}
use Rattle.h3_table.specs.TableState.{has_room, with_entry, with_capacity}
use Rattle.h3_field.specs.Instruction.EncoderInstruction.{SetCapacity, InsertWithStaticName, InsertWithEntryName, InsertLiteral, Duplicate}
use Rattle.std.proofs.lemmas.List.Sums.{sum_by-cons}
use Rattle.h3_qpack.specs.WholeInstructions.{is_insertion}
use Rattle.h3_headline.specs.Cited.{StreamLaws}
use Rattle.h3_headline.specs.Decoding.{Counts, counted, limited}

-- a run with one more event
pub run_then : (start mid new : Session) (events : List SessionEvent) (event : SessionEvent) → SessionRun start events mid → SessionStep mid event new → SessionRun start (events ++ event ∷ []) new
run_then start mid new [] event r step = (new, subst (λ s. SessionStep s event new) r step, refl)
run_then start mid new (e ∷ events) event r step = (r.0, r.1, run_then r.0 mid new events event r.2 step)

-- what is under way is not refused
not_refused : (s : Session) (i : DecoderInstruction) (is : List DecoderInstruction) → s.decoder_instructions ≡ i ∷ is → IsSound s → is_refused s.encoder i ≡ false
not_refused s (Acknowledge stream) is e h = ap not (subst (AreTold s.encoder.known_received s.encoder.tracked) e h.told).0
not_refused s (CancelStream stream) is e h = refl
not_refused s (Increment count) is e h =
    let told = subst (AreTold s.encoder.known_received s.encoder.tracked) e h.told in
    some_within s.encoder.counts_acknowledgments count (length s.encoder.inserted) (s.encoder.known_received + count) told.0 (omega (arith, h.accounted, h.received, ap increments e))
  where
    some_within : (b : Bool) (count most known : ℕ) → 0 < count → known ≤ most → (b && ((count == 0) || nat_lt most known)) ≡ false
    some_within true count most known some fits =
        let not_none : (count == 0) ≡ false = grind (arith, common_steps, some) in
        let within : nat_lt most known ≡ false = grind (arith, common_steps, fits) in rw (not_none, within) refl
    some_within false count most known some fits = refl

-- each is accepted behind the others
pub run_accepted : (laws : StreamLaws) (counts : Bool) (most : ℕ) (events : List SessionEvent) (s : Session) (is : List DecoderInstruction) → SessionRun (beginning counts most 0 0) events s → s.decoder_instructions ≡ is → AreAccepted s.encoder is
run_accepted laws counts most events s [] run e = tt
run_accepted laws counts most events s (i ∷ is) run e =
    let next = after_decoder_instruction s i is in
    let longer = run_then (beginning counts most 0 0) s next events (DecoderInstructionRead i is) run (e, refl) in
    (not_refused s i is e (laws.sound counts most 0 0 events s run), run_accepted laws counts most (events ++ DecoderInstructionRead i is ∷ []) next is longer refl)

-- The side's encoder refuses nothing of what it has not read.
pub replies_accepted : (laws : StreamLaws) (setup : Setup) (w : World) (side : Side) → HasSession setup w side → AreAccepted (party w side).encoder (replies_left setup w side)
replies_accepted laws setup w side h =
    subst (λ s. AreAccepted s (replies_left setup w side)) h.follows.encoder (run_accepted laws h.counts h.most h.events h.session (replies_left setup w side) h.run h.follows.decoder_instructions)

-- nor of a front of that
pub accepted_front : (s : EncoderHistory) (is js : List DecoderInstruction) → AreAccepted s (is ++ js) → AreAccepted s is
accepted_front s [] js h = tt
accepted_front s (i ∷ is) js h = (h.0, accepted_front (encoder_after s i) is js h.1)

after_limited : (s : EncoderHistory) (capacity limit : ℕ) (i : DecoderInstruction) → encoder_after (limited s capacity limit) i ≡ limited (encoder_after s i) capacity limit
after_limited s capacity limit (Acknowledge stream) = refl
after_limited s capacity limit (CancelStream stream) = refl
after_limited s capacity limit (Increment count) = refl

refused_limited : (s : EncoderHistory) (capacity limit : ℕ) (i : DecoderInstruction) → is_refused (limited s capacity limit) i ≡ is_refused s i
refused_limited s capacity limit (Acknowledge stream) = refl
refused_limited s capacity limit (CancelStream stream) = refl
refused_limited s capacity limit (Increment count) = refl

pub accepted_limited : (s : EncoderHistory) (capacity limit : ℕ) (is : List DecoderInstruction) → AreAccepted s is → AreAccepted (limited s capacity limit) is
accepted_limited s capacity limit [] h = tt
accepted_limited s capacity limit (i ∷ is) h =
    (refused_limited s capacity limit i ∙ h.0, subst (λ x. AreAccepted x is) (sym (after_limited s capacity limit i)) (accepted_limited (encoder_after s i) capacity limit is h.1))

nothing_after : (is : List EncoderInstruction) → decoder_after_all None is ≡ None
nothing_after [] = refl
nothing_after (i ∷ is) = refl

pub decoder_after_append : (r : Option DecoderState) (is js : List EncoderInstruction) → decoder_after_all r (is ++ js) ≡ decoder_after_all (decoder_after_all r is) js
decoder_after_append r [] js = refl
decoder_after_append None (i ∷ is) js = sym (nothing_after js)
decoder_after_append (Some r) (i ∷ is) js = decoder_after_append (decoder_after r i) is js

less_of : (a b : ℕ) → nat_lt a b ≡ true → a < b
less_of a b e = grind (arith, common_steps, e)

some_same : {X : Type 0} (x y : X) → Some x ≡ Some y → x ≡ y
some_same x y e = cc

counts_one : (r new : DecoderState) (o : Option Field) → inserting r o ≡ Some new → Counts r new 1
counts_one r new None e = absurd (cc)
counts_one r new (Some f) e = by_test (has_room r.table f) refl e
  where
    by_test : (b : Bool) → has_room r.table f ≡ b → ◌≡◌ {A = Option DecoderState} (if b then Some (record r { table = with_entry r.table f }) else None) (Some new) → Counts r new 1
    by_test true t e =
        let is : r.table.inserted + 1 ≡ new.table.inserted = ap (λ (x : DecoderState). x.table.inserted) (some_same (record r { table = with_entry r.table f }) new e) in
        let room = less_of (r.table.inserted + 1) (2 ^ 62) (and_parts (nat_lt (r.table.inserted + 1) (2 ^ 62)) _ t).0 in
        record { sum = sym is; bound = λ h. omega (arith, room, is) }
    by_test false t e = absurd (cc)

counts_none : (r new : DecoderState) (capacity : ℕ) → decoder_after r (SetCapacity capacity) ≡ Some new → Counts r new 0
counts_none r new capacity e = by_test (nat_le capacity (greatest_capacity r)) e
  where
    by_test : (b : Bool) → ◌≡◌ {A = Option DecoderState} (if b then Some (record r { table = with_capacity r.table capacity }) else None) (Some new) → Counts r new 0
    by_test true e =
        let is : r.table.inserted ≡ new.table.inserted = ap (λ (x : DecoderState). x.table.inserted) (some_same (record r { table = with_capacity r.table capacity }) new e) in
        record { sum = omega (arith, is); bound = λ h. omega (arith, is, h) }
    by_test false e = absurd (cc)

counts_instruction : (r new : DecoderState) (i : EncoderInstruction) → decoder_after r i ≡ Some new → Counts r new (counted i)
counts_instruction r new (SetCapacity capacity) e = counts_none r new capacity e
counts_instruction r new (InsertWithStaticName index value) e = counts_one r new (insertion_of r.table (InsertWithStaticName index value)) e
counts_instruction r new (InsertWithEntryName index value) e = counts_one r new (insertion_of r.table (InsertWithEntryName index value)) e
counts_instruction r new (InsertLiteral name value) e = counts_one r new (insertion_of r.table (InsertLiteral name value)) e
counts_instruction r new (Duplicate index) e = counts_one r new (insertion_of r.table (Duplicate index)) e

none_is : (is : List EncoderInstruction) (new : DecoderState) → decoder_after_all None is ≡ Some new → ⊥
none_is is new e = let none = sym (nothing_after is) ∙ e in absurd (cc)

pub counts_all : (r new : DecoderState) (is : List EncoderInstruction) → decoder_after_all (Some r) is ≡ Some new → Counts r new (count_by is_insertion is)
counts_all r new [] e = let same = some_same r new e in record { sum = omega (arith, ap (λ (x : DecoderState). x.table.inserted) same); bound = λ h. subst (λ (x : DecoderState). x.table.inserted < 2 ^ 62) same h }
counts_all r new (i ∷ is) e = by_step (decoder_after r i) refl e (λ mid. counts_all mid new is)
  where
    by_step : (o : Option DecoderState) → decoder_after r i ≡ o → decoder_after_all o is ≡ Some new → ((mid : DecoderState) → decoder_after_all (Some mid) is ≡ Some new → Counts mid new (count_by is_insertion is))
        → Counts r new (count_by is_insertion (i ∷ is))
    by_step None t e later = absurd (none_is is new e)
    by_step (Some mid) t e later =
        let one = counts_instruction r mid i t in
        let others = later mid e in
        let both : count_by is_insertion (i ∷ is) ≡ counted i + count_by is_insertion is = sum_by-cons (λ j. if is_insertion j then 1 else 0) i is in
        record { sum = omega (arith, one.sum, others.sum, both); bound = λ h. others.bound (one.bound h) }
