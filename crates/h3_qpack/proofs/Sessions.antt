-- Each event keeps a session sound.
use Rattle.std.proofs.Common.{◌≡◌, ◌≢◌, ℕ, ◌^◌, ◌-◌, min, ◌+◌, ◌<◌, ◌≤◌, ⊎_elim, Bool, true, false, ◌&&◌, ◌||◌, List, [], ◌∷◌, ◌++◌, length, map, drop, refl, sym, ◌∙◌, ap, subst, arith, length-append, length-drop, not, filter, cond, append_assoc, append-nil, add-zero, max, Some, nat_le, nat_lt, if◌then◌else◌, unwrap_or}
use Rattle.std.specs.List.{AllByRecursion, list_any, count_by, flat_map, fold}
use Rattle.std.specs.Prelude.{◌==◌}
use Rattle.std.proofs.lemmas.Bool.{cases_eq}
use Rattle.std.proofs.lemmas.Grind.{common_steps}
use Rattle.std.proofs.lemmas.List.{drop-append-le, drop-drop}
use Rattle.std.proofs.lemmas.List.Sums.{sum_by-cons, sum_by-append}
use Rattle.h3_field.specs.Field.{Field}
use Rattle.h3_field.specs.StaticLines.{static_line_by}
use Rattle.h3_field.specs.Instruction.{DecoderInstruction}
use Rattle.h3_field.specs.Instruction.DecoderInstruction.{Acknowledge, CancelStream, Increment}
use Rattle.h3_table.specs.Table.{evictions}
use Rattle.h3_qpack.specs.EncoderHistory.{EncoderHistory, UnacknowledgedSection, acknowledged_count, known_by, released, without_stream, was_canceled, writing_on, blocks_out}
use Rattle.h3_qpack.specs.SectionEncoding.{Draft, guarded_fields, draft_of, marks_after, required_insert_count}
use Rattle.h3_table.specs.Cancellations.{with_canceled}
use Rattle.h3_qpack.proofs.Cancellations.{untracked_by, kept_counts, kept_before, canceled_before, is_among}
use Rattle.h3_qpack.proofs.Canceled.{on_static, on_other, on_marks, sent_draft}
use Rattle.h3_qpack.proofs.Insertions.{section_read_as}
use Rattle.h3_qpack.proofs.Told.{released_names, released_others, without_others, one_acknowledged, other_acknowledged, told_behind, told_acknowledgment, told_more, unraised}
use Rattle.h3_qpack.proofs.Drafts.{All-first, All-second, draft_is_draft, IsNamed}
use Rattle.h3_table.specs.ReleasingLaws.{All-join}
use Rattle.h3_qpack.specs.Schedule.{without_section}
use Rattle.h3_qpack.specs.Session.{Session, UndecodedSection, encoded, inserted, decoded, after_cancellation, after_decoder_instruction, increments, acknowledgments, tracked_references, references_of, undecoded_references, count_of, CancelsAreLast, AreTold, is_canceled, oldest, without_oldest, IsWrittenOver, IsSound}

increments-append : (xs ys : List DecoderInstruction) → increments (xs ++ ys) ≡ increments xs + increments ys
increments-append [] ys = omega arith
increments-append (Increment count ∷ xs) ys = omega (arith, increments-append xs ys)
increments-append (Acknowledge stream ∷ xs) ys = increments-append xs ys
increments-append (CancelStream stream ∷ xs) ys = increments-append xs ys

acknowledgments-append : (stream : ℕ) (xs ys : List DecoderInstruction) → acknowledgments stream (xs ++ ys) ≡ acknowledgments stream xs + acknowledgments stream ys
acknowledgments-append stream [] ys = omega arith
acknowledgments-append stream (Increment count ∷ xs) ys = acknowledgments-append stream xs ys
acknowledgments-append stream (Acknowledge other ∷ xs) ys = omega (arith, acknowledgments-append stream xs ys)
acknowledgments-append stream (CancelStream other ∷ xs) ys = acknowledgments-append stream xs ys

tracked_references-append : (stream : ℕ) (xs ys : List UnacknowledgedSection) → tracked_references stream (xs ++ ys) ≡ tracked_references stream xs ++ tracked_references stream ys
tracked_references-append stream [] ys = refl
tracked_references-append stream (x ∷ xs) ys = grind (arith, common_steps, tracked_references-append stream xs ys)

cons_either : {X : Type 0} (b : Bool) (n : X) (xs ys : List X) (all : List X) → all ≡ xs ++ ys
    → (if b then n ∷ all else all) ≡ (if b then n ∷ xs else xs) ++ ys
cons_either true n xs ys all h = ap (λ ns. n ∷ ns) h
cons_either false n xs ys all h = h

undecoded_references-append : (stream : ℕ) (xs ys : List UndecodedSection) → undecoded_references stream (xs ++ ys) ≡ undecoded_references stream xs ++ undecoded_references stream ys
undecoded_references-append stream [] ys = refl
undecoded_references-append stream (x ∷ xs) ys =
    cons_either ((x.stream == stream) && nat_lt 0 (count_of x)) (references_of x) (undecoded_references stream xs) (undecoded_references stream ys) _ (undecoded_references-append stream xs ys)

-- more is known, so fewer sections are out
fewer_out : (counts : List ℕ) (known later : ℕ) → known ≤ later → count_by (λ c. nat_lt later c) counts ≤ count_by (λ c. nat_lt known c) counts
fewer_out [] known later le = omega arith
fewer_out (c ∷ cs) known later le =
    grind (arith, common_steps, fewer_out cs known later le, sum_by-cons (λ c. if nat_lt later c then 1 else 0) c cs, sum_by-cons (λ c. if nat_lt known c then 1 else 0) c cs)

-- all sections of a stream go, and those of other streams stay
without_own : (stream : ℕ) (bs : List UnacknowledgedSection) → tracked_references stream (without_stream stream bs) ≡ []
without_own stream [] = refl
without_own stream (b ∷ bs) = by_test (b.stream == stream) refl (without_own stream bs)
  where
    by_test : (t : Bool) → (b.stream == stream) ≡ t → tracked_references stream (without_stream stream bs) ≡ []
        → tracked_references stream (cond (not t) (b ∷ without_stream stream bs) (without_stream stream bs)) ≡ []
    by_test true e h = h
    by_test false e h = rw e h

-- the increments are read: what is known grows
increment_read : (s : Session) (count : ℕ) (rest : List DecoderInstruction) → s.decoder_instructions ≡ Increment count ∷ rest → IsSound s → IsSound (after_decoder_instruction s (Increment count) rest)
increment_read s count rest is h =
    let sum : increments s.decoder_instructions ≡ count + increments rest = ap increments is in
    let exact : min (s.encoder.known_received + count) (2 ^ 64 - 1) ≡ s.encoder.known_received + count = omega (arith, h.accounted, sum, h.received, h.small) in
    let acks : (stream : ℕ) → acknowledgments stream s.decoder_instructions ≡ acknowledgments stream rest = λ stream. ap (acknowledgments stream) is in
    record {
      received = h.received;
      accounted = omega (arith, h.accounted, sum, exact);
      evictions_known = omega (arith, h.evictions_known, exact);
      references_present = h.references_present;
      tracked = λ stream alive. subst (λ n. drop n (tracked_references stream s.encoder.tracked) ≡ undecoded_references stream s.sections) (acks stream) (h.tracked stream alive);
      acknowledged = λ stream. omega (arith, h.acknowledged stream, acks stream);
      told = subst (λ n. AreTold n s.encoder.tracked rest) (sym exact) (subst (AreTold s.encoder.known_received s.encoder.tracked) is h.told).1;
      written = h.written;
      cancels = subst (CancelsAreLast s.canceled) is h.cancels;
      untracked = h.untracked;
      within_limit = omega (arith, h.within_limit, fewer_out s.encoder.required_insert_counts s.encoder.known_received (min (s.encoder.known_received + count) (2 ^ 64 - 1)) (omega (arith, exact)));
      read = h.read;
      within_announced = h.within_announced;
      small = h.small;
    }

cancels_more : (canceled : List ℕ) (decoder_instructions : List DecoderInstruction) (count : ℕ) → CancelsAreLast canceled decoder_instructions → CancelsAreLast canceled (decoder_instructions ++ Increment count ∷ [])
cancels_more canceled [] count h = tt
cancels_more canceled (CancelStream stream ∷ decoder_instructions) count h =
    (h.0, acknowledgments-append stream decoder_instructions (Increment count ∷ []) ∙ add-zero _ ∙ h.1, cancels_more canceled decoder_instructions count h.2)
cancels_more canceled (Acknowledge stream ∷ decoder_instructions) count h = cancels_more canceled decoder_instructions count h
cancels_more canceled (Increment other ∷ decoder_instructions) count h = cancels_more canceled decoder_instructions count h

-- more insertions are read by the decoder
pub insertions_read : (s : Session) (count : ℕ) → 0 < count → s.received + count ≤ length s.encoder.inserted → IsSound s → IsSound (inserted s count)
insertions_read s count some fits h =
    let acks : (stream : ℕ) → acknowledgments stream (s.decoder_instructions ++ Increment count ∷ []) ≡ acknowledgments stream s.decoder_instructions =
    λ stream. acknowledgments-append stream s.decoder_instructions (Increment count ∷ []) ∙ add-zero _ in
    record {
      received = fits;
      accounted = omega (arith, h.accounted, increments-append s.decoder_instructions (Increment count ∷ []));
      evictions_known = h.evictions_known;
      references_present = h.references_present;
      tracked = λ stream alive. subst (λ n. drop n (tracked_references stream s.encoder.tracked) ≡ undecoded_references stream s.sections) (sym (acks stream)) (h.tracked stream alive);
      acknowledged = λ stream. omega (arith, h.acknowledged stream, acks stream);
      told = told_behind s.encoder.known_received s.encoder.tracked s.decoder_instructions (Increment count ∷ []) h.told (λ k ts. (some, tt));
      written = h.written;
      cancels = cancels_more s.canceled s.decoder_instructions count h.cancels;
      untracked = h.untracked;
      within_limit = h.within_limit;
      read = h.read;
      within_announced = h.within_announced;
      small = h.small;
    }

released_first : (P : ℕ → Type 0) (stream : ℕ) (b : UnacknowledgedSection) (bs : List UnacknowledgedSection) (t : Bool) → AllByRecursion P (flat_map (λ b. b.references) bs)
    → AllByRecursion P (b.references ++ flat_map (λ b. b.references) (released stream bs)) → AllByRecursion P (flat_map (λ b. b.references) (if t then bs else b ∷ released stream bs))
released_first P stream b bs true h k = h
released_first P stream b bs false h k = k

-- the tracked sections that remain name less
released_entries : (P : ℕ → Type 0) (stream : ℕ) (bs : List UnacknowledgedSection) → AllByRecursion P (flat_map (λ b. b.references) bs) → AllByRecursion P (flat_map (λ b. b.references) (released stream bs))
released_entries P stream [] h = h
released_entries P stream (b ∷ bs) h = released_first P stream b bs (b.stream == stream) (All-second P b.references (flat_map (λ b. b.references) bs) h)
    (All-join P b.references (flat_map (λ b. b.references) (released stream bs)) (All-first P b.references (flat_map (λ b. b.references) bs) h) (released_entries P stream bs (All-second P b.references (flat_map (λ b. b.references) bs) h)))

-- the sections of other streams name less
without_entries : (P : ℕ → Type 0) (stream : ℕ) (bs : List UnacknowledgedSection) → AllByRecursion P (flat_map (λ b. b.references) bs) → AllByRecursion P (flat_map (λ b. b.references) (without_stream stream bs))
without_entries P stream [] h = h
without_entries P stream (b ∷ bs) h = by_test (not (b.stream == stream)) (without_entries P stream bs (All-second P b.references (flat_map (λ b. b.references) bs) h))
  where
    by_test : (t : Bool) → AllByRecursion P (flat_map (λ b. b.references) (without_stream stream bs)) → AllByRecursion P (flat_map (λ b. b.references) (cond t (b ∷ without_stream stream bs) (without_stream stream bs)))
    by_test true k = All-join P b.references (flat_map (λ b. b.references) (without_stream stream bs)) (All-first P b.references (flat_map (λ b. b.references) bs) h) k
    by_test false k = k

-- a stream without sections has none less
none_released : (stream other : ℕ) (bs : List UnacknowledgedSection) → tracked_references other bs ≡ [] → tracked_references other (released stream bs) ≡ []
none_released stream other bs none = ⊎_elim
    (λ e. subst (λ n. tracked_references n bs ≡ [] → tracked_references n (released stream bs) ≡ []) e (λ k. released_names stream bs ∙ ap (drop 1) k) none)
    (λ ne. released_others stream other bs ne ∙ none)
    (cases_eq stream other)

-- an acknowledgment tells of nothing new
pub nothing_told : (s : Session) (stream : ℕ) (rest : List DecoderInstruction) → s.decoder_instructions ≡ Acknowledge stream ∷ rest → IsSound s → known_by s.encoder stream ≡ s.encoder.known_received
nothing_told s stream rest is h =
    unraised s.encoder.counts_acknowledgments s.encoder.known_received (acknowledged_count stream s.encoder.tracked) (subst (AreTold s.encoder.known_received s.encoder.tracked) is h.told).1

-- an acknowledgment is read: the stream's oldest section is released
acknowledgment_read : (s : Session) (stream : ℕ) (rest : List DecoderInstruction) → s.decoder_instructions ≡ Acknowledge stream ∷ rest → IsSound s → IsSound (after_decoder_instruction s (Acknowledge stream) rest)
acknowledgment_read s stream rest is h =
    let one : acknowledgments stream s.decoder_instructions ≡ 1 + acknowledgments stream rest = ap (acknowledgments stream) is ∙ one_acknowledged stream rest in
    let same : after_decoder_instruction s (Acknowledge stream) rest ≡ record s { encoder = record s.encoder { tracked = released stream s.encoder.tracked }; decoder_instructions = rest } =
    ap (λ n. record s { encoder = record s.encoder { known_received = n; tracked = released stream s.encoder.tracked }; decoder_instructions = rest }) (nothing_told s stream rest is h) in
    subst IsSound (sym same) (record {
      received = h.received;
      accounted = subst (λ decoder_instructions. s.encoder.known_received + increments decoder_instructions ≡ s.received) is h.accounted;
      evictions_known = h.evictions_known;
      references_present = released_entries _ stream s.encoder.tracked h.references_present;
      tracked = λ other alive. ⊎_elim
          (λ e. subst (λ t. drop (acknowledgments t rest) (tracked_references t (released stream s.encoder.tracked)) ≡ undecoded_references t s.sections) e
          (ap (drop (acknowledgments stream rest)) (released_names stream s.encoder.tracked)
          ∙ drop-drop (acknowledgments stream rest) 1 (tracked_references stream s.encoder.tracked)
          ∙ ap (λ n. drop n (tracked_references stream s.encoder.tracked)) (sym one)
          ∙ h.tracked stream (subst (λ t. is_canceled s t ≡ false) (sym e) alive)))
          (λ ne. ap (drop (acknowledgments other rest)) (released_others stream other s.encoder.tracked ne)
          ∙ ap (λ n. drop n (tracked_references other s.encoder.tracked)) (sym (ap (acknowledgments other) is ∙ other_acknowledged stream other rest ne))
          ∙ h.tracked other alive)
          (cases_eq stream other);
      acknowledged = λ other. ⊎_elim
          (λ e. subst (λ t. acknowledgments t rest ≤ length (tracked_references t (released stream s.encoder.tracked))) e
          (omega (arith, one, h.acknowledged stream, ap length (released_names stream s.encoder.tracked), length-drop 1 (tracked_references stream s.encoder.tracked))))
          (λ ne. omega (arith, h.acknowledged other, ap length (released_others stream other s.encoder.tracked ne), ap (acknowledgments other) is, other_acknowledged stream other rest ne))
          (cases_eq stream other);
      told = (subst (AreTold s.encoder.known_received s.encoder.tracked) is h.told).2;
      written = h.written;
      cancels = subst (CancelsAreLast s.canceled) is h.cancels;
      untracked = λ other canceled. untracked_by s.encoder.canceled (released stream s.encoder.tracked) other (λ kept. none_released stream other s.encoder.tracked (h.untracked other (kept_counts s.encoder.canceled other (is_among other s.encoder.tracked) kept))) canceled;
      within_limit = h.within_limit;
      read = h.read;
      within_announced = h.within_announced;
      small = h.small;
    })

-- a cancellation is read: the stream's sections are released, and no acknowledgment of it is under way
cancellation_read : (s : Session) (stream : ℕ) (rest : List DecoderInstruction) → s.decoder_instructions ≡ CancelStream stream ∷ rest → IsSound s → IsSound (after_decoder_instruction s (CancelStream stream) rest)
cancellation_read s stream rest is h =
    let last : (is_canceled s stream ≡ true) × (acknowledgments stream rest ≡ 0) × CancelsAreLast s.canceled rest = subst (CancelsAreLast s.canceled) is h.cancels in
    let others : (other : ℕ) → stream ≢ other → tracked_references other (without_stream stream s.encoder.tracked) ≡ tracked_references other s.encoder.tracked =
    λ other ne. without_others stream other s.encoder.tracked ne in
    record {
      received = h.received;
      accounted = subst (λ decoder_instructions. s.encoder.known_received + increments decoder_instructions ≡ s.received) is h.accounted;
      evictions_known = h.evictions_known;
      references_present = without_entries _ stream s.encoder.tracked h.references_present;
      tracked = λ other alive. ⊎_elim
          (λ e. let both : true ≡ false = sym last.0 ∙ subst (λ t. is_canceled s t ≡ false) (sym e) alive in cc)
          (λ ne. ap (drop (acknowledgments other rest)) (others other ne)
          ∙ ap (λ n. drop n (tracked_references other s.encoder.tracked)) (sym (ap (acknowledgments other) is))
          ∙ h.tracked other alive)
          (cases_eq stream other);
      acknowledged = λ other. ⊎_elim
          (λ e. subst (λ t. acknowledgments t rest ≤ length (tracked_references t (without_stream stream s.encoder.tracked))) e (omega (arith, last.1)))
          (λ ne. omega (arith, h.acknowledged other, ap length (others other ne), ap (acknowledgments other) is))
          (cases_eq stream other);
      told = subst (AreTold s.encoder.known_received s.encoder.tracked) is h.told;
      written = h.written;
      cancels = last.2;
      untracked = λ other canceled. ⊎_elim
          (λ e. subst (λ t. tracked_references t (without_stream stream s.encoder.tracked) ≡ []) e (without_own stream s.encoder.tracked))
          (λ ne. untracked_by (with_canceled s.encoder.canceled stream) (without_stream stream s.encoder.tracked) other
          (λ kept. others other ne ∙ h.untracked other (kept_counts s.encoder.canceled other (is_among other s.encoder.tracked) (kept_before s.encoder.canceled stream other ne kept))) canceled)
          (cases_eq stream other);
      within_limit = h.within_limit;
      read = h.read;
      within_announced = h.within_announced;
      small = h.small;
    }

-- the encoder reads whatever the decoder wrote
pub reply_read : (s : Session) (instruction : DecoderInstruction) (rest : List DecoderInstruction) → s.decoder_instructions ≡ instruction ∷ rest → IsSound s → IsSound (after_decoder_instruction s instruction rest)
reply_read s (Increment count) rest is h = increment_read s count rest is h
reply_read s (Acknowledge stream) rest is h = acknowledgment_read s stream rest is h
reply_read s (CancelStream stream) rest is h = cancellation_read s stream rest is h

-- a section that needs more than is known names an entry that isn't known, so one more section may be blocked
may_block : (s : EncoderHistory) (ins : List Field) (names : List ℕ) (most : ℕ) → most ≤ s.known_received → AllByRecursion (IsNamed s ins) names → s.known_received < fold max most names → nat_lt (blocks_out s) s.limit ≡ true
may_block s ins [] most low h above = absurd (omega arith)
may_block s ins (n ∷ names) most low h above = known_or_not s ins n names most (nat_le n s.known_received) refl low h above (λ m l. may_block s ins names m l h.1)
  where
    known_or_not : (s : EncoderHistory) (ins : List Field) (n : ℕ) (names : List ℕ) (most : ℕ) (b : Bool) → nat_le n s.known_received ≡ b → most ≤ s.known_received
        → AllByRecursion (IsNamed s ins) (n ∷ names) → s.known_received < fold max most (n ∷ names)
        → ((m : ℕ) → m ≤ s.known_received → s.known_received < fold max m names → nat_lt (blocks_out s) s.limit ≡ true) → nat_lt (blocks_out s) s.limit ≡ true
    known_or_not s ins n names most true e low h above later = later (max most n) (grind (arith, common_steps)) above
    known_or_not s ins n names most false e low h above later = usable (nat_lt (blocks_out s) s.limit) (subst (λ b. (b || nat_lt (blocks_out s) s.limit) ≡ true) e h.0.usable)
      where
        usable : (b : Bool) → (false || b) ≡ true → b ≡ true
        usable b h = h

-- one more count
one_more_out : (s : EncoderHistory) (count : ℕ) → blocks_out s ≤ s.limit → (s.known_received < count → nat_lt (blocks_out s) s.limit ≡ true)
    → count_by (λ c. nat_lt s.known_received c) (s.required_insert_counts ++ count ∷ []) ≤ s.limit
one_more_out s count h wait = by_test (nat_lt s.known_received count) refl
  where
    by_test : (b : Bool) → nat_lt s.known_received count ≡ b → count_by (λ c. nat_lt s.known_received c) (s.required_insert_counts ++ count ∷ []) ≤ s.limit
    by_test true e =
        let lt : s.known_received < count = grind (arith, common_steps) in
        let room : nat_lt (blocks_out s) s.limit ≡ true = wait lt in
        let below : blocks_out s < s.limit = grind (arith, common_steps) in
        omega (arith, below, sum_by-append (λ c. if nat_lt s.known_received c then 1 else 0) s.required_insert_counts (count ∷ []), ap {B = ℕ} (λ (b : Bool). if b then 1 else 0) e)
    by_test false e =
        omega (arith, h, sum_by-append (λ c. if nat_lt s.known_received c then 1 else 0) s.required_insert_counts (count ∷ []), ap {B = ℕ} (λ (b : Bool). if b then 1 else 0) e)

pub above_zero : (count : ℕ) → nat_lt 0 count ≡ (if count == 0 then false else true)
above_zero count = grind (arith, common_steps)

same_test : (stream stream' : ℕ) (names : List ℕ) (zero_is : Bool)
    → tracked_references stream (if zero_is then [] else record { stream = stream'; references = names } ∷ [])
    ≡ (if (stream' == stream) && (if zero_is then false else true) then names ∷ [] else [])
same_test stream stream' names true = no_names (stream' == stream)
  where
    no_names : (b : Bool) → ◌≡◌ {A = List (List ℕ)} [] (if b && false then names ∷ [] else [])
    no_names true = refl
    no_names false = refl
same_test stream stream' names false = all_names (stream' == stream)
  where
    all_names : (b : Bool) → (if b then names ∷ [] else []) ≡ (if b && true then names ∷ [] else [])
    all_names true = refl
    all_names false = refl

-- the new section is tracked just where it is one of those that the decoder acknowledges
same_section : (stream stream' count : ℕ) (names : List ℕ)
    → tracked_references stream (if count == 0 then [] else record { stream = stream'; references = names } ∷ [])
    ≡ (if (stream' == stream) && nat_lt 0 count then names ∷ [] else [])
same_section stream stream' count names = rw (above_zero count) (same_test stream stream' names (count == 0))

last_entries : (P : ℕ → Type 0) (stream : ℕ) (names : List ℕ) (zero_is : Bool) → AllByRecursion P names
    → AllByRecursion P (flat_map (λ (b : UnacknowledgedSection). b.references) (if zero_is then [] else record { stream = stream; references = names } ∷ []))
last_entries P stream names true k = tt
last_entries P stream names false k = All-join P names [] k tt

entries_more : (P : ℕ → Type 0) (bs : List UnacknowledgedSection) (count stream : ℕ) (names : List ℕ) → AllByRecursion P (flat_map (λ b. b.references) bs) → AllByRecursion P names
    → AllByRecursion P (flat_map (λ (b : UnacknowledgedSection). b.references) (bs ++ (if count == 0 then [] else record { stream = stream; references = names } ∷ [])))
entries_more P [] count stream names h k = last_entries P stream names (count == 0) k
entries_more P (b ∷ bs) count stream names h k =
    All-join P b.references _ (All-first P b.references (flat_map (λ b. b.references) bs) h) (entries_more P bs count stream names (All-second P b.references (flat_map (λ b. b.references) bs) h) k)

there : (s : EncoderHistory) (ins : List Field) (names : List ℕ) → AllByRecursion (IsNamed s ins) names → AllByRecursion (λ number. evictions s.capacity ins < number) names
there s ins [] h = tt
there s ins (n ∷ names) h = (h.0.there, there s ins names h.1)

longer_written : (fs gs more : List Field) → gs ≡ fs ++ more → (sections : List UndecodedSection) → AllByRecursion (IsWrittenOver fs) sections → AllByRecursion (IsWrittenOver gs) sections
longer_written fs gs more e [] h = tt
longer_written fs gs more e (b ∷ bs) h = (
  record { more = h.0.more ++ more; begins = e ∙ ap (λ xs. xs ++ more) h.0.begins ∙ append_assoc (draft_of b.encoder b.fields).inserted h.0.more more },
  longer_written fs gs more e bs h.1,
)

-- a section of a stream, as a draft says
abbrev encoded_by : Session → ℕ → List Field → EncoderHistory → Draft → Session
encoded_by s stream fields by draft =
    record s {
      encoder = sent_draft s.encoder by stream draft;
      instructions = s.instructions ++ draft.instructions;
      sections = s.sections ++ record { stream = stream; fields = fields; encoder = by } ∷ [];
    }

not_own : (b : Bool) (n : ℕ) (names : List ℕ) → n ≡ 0 → (if b && nat_lt 0 n then names ∷ [] else []) ≡ []
not_own true n names none = rw none refl
not_own false n names none = refl

-- a section of a stream whose cancellation was read: it names nothing
plain_written : (s : Session) (one : UndecodedSection) → (draft_of one.encoder one.fields).inserted ≡ s.encoder.inserted → count_of one ≡ 0 → IsSound s
    → IsSound (record s { encoder = record s.encoder { required_insert_counts = s.encoder.required_insert_counts ++ 0 ∷ [] }; sections = s.sections ++ one ∷ [] })
plain_written s one same none h =
    record {
      received = h.received;
      accounted = h.accounted;
      evictions_known = h.evictions_known;
      references_present = h.references_present;
      tracked = λ other alive.
          h.tracked other alive
          ∙ sym (undecoded_references-append other s.sections (one ∷ []) ∙ ap (λ names. undecoded_references other s.sections ++ names) (not_own (one.stream == other) (count_of one) (references_of one) none)
          ∙ append-nil (undecoded_references other s.sections));
      acknowledged = h.acknowledged;
      told = h.told;
      written = All-join (IsWrittenOver s.encoder.inserted) s.sections (one ∷ []) h.written (record { more = []; begins = sym (append-nil _ ∙ same) }, tt);
      cancels = h.cancels;
      untracked = h.untracked;
      within_limit = one_more_out s.encoder 0 h.within_limit (λ lt. absurd (omega (arith, lt)));
      read = h.read;
      within_announced = h.within_announced;
      small = h.small;
    }

canceled_written : (s : Session) (stream : ℕ) (fields : List Field) → was_canceled s.encoder stream ≡ true → IsSound s → IsSound (encoded s stream fields)
canceled_written s stream fields e h =
    let static = on_static s.encoder stream fields e in
    let one : UndecodedSection = record { stream = stream; fields = fields; encoder = writing_on s.encoder stream } in
    let plain : Session = record s { encoder = record s.encoder { required_insert_counts = s.encoder.required_insert_counts ++ 0 ∷ [] }; sections = s.sections ++ one ∷ [] } in
    let same : encoded s stream fields ≡ plain =
    ap (encoded_by s stream fields (writing_on s.encoder stream)) static ∙ rw (append-nil s.instructions, append-nil s.encoder.tracked, on_marks s.encoder stream (map (static_line_by s.encoder.choices.shortest_strings) (guarded_fields s.encoder fields)) e) refl in
    subst IsSound (sym same) (plain_written s one (ap (λ (d : Draft). d.inserted) static) (ap required_insert_count static) h)

-- a tracked section is of a stream that is not canceled
still_untracked : (s : Session) (stream : ℕ) (draft : Draft) → was_canceled s.encoder stream ≡ false → IsSound s → (other : ℕ) → was_canceled s.encoder other ≡ true
    → tracked_references other (sent_draft s.encoder s.encoder stream draft).tracked ≡ []
still_untracked s stream draft e h other canceled =
    tracked_references-append other s.encoder.tracked (if required_insert_count draft == 0 then [] else record { stream = stream; references = draft.references } ∷ [])
    ∙ ap (λ names. names ++ tracked_references other (if required_insert_count draft == 0 then [] else record { stream = stream; references = draft.references } ∷ [])) (h.untracked other canceled)
    ∙ same_section other stream (required_insert_count draft) draft.references ∙ rw (no (stream == other) refl) refl
  where
    no : (b : Bool) → (stream == other) ≡ b → (stream == other) ≡ false
    no true k =
        let same : stream ≡ other = grind (arith, common_steps) in
        let both : false ≡ true = sym e ∙ ap (was_canceled s.encoder) same ∙ canceled in cc
    no false k = k

other_written : (s : Session) (stream : ℕ) (fields : List Field) → was_canceled s.encoder stream ≡ false → IsSound s → IsSound (encoded_by s stream fields s.encoder (draft_of s.encoder fields))
other_written s stream fields e h =
    let d = draft_is_draft s.encoder fields h.references_present in
    let draft = draft_of s.encoder fields in
    record {
      received = omega (arith, h.received, ap length d.begins, length-append s.encoder.inserted d.more);
      accounted = h.accounted;
      evictions_known = omega (arith, d.evictions_known, h.evictions_known);
      references_present = entries_more _ s.encoder.tracked (required_insert_count draft) stream draft.references d.present (there s.encoder draft.inserted draft.references d.references);
      tracked = λ other alive.
          ap (drop (acknowledgments other s.decoder_instructions)) (tracked_references-append other s.encoder.tracked _)
          ∙ drop-append-le (acknowledgments other s.decoder_instructions) (tracked_references other s.encoder.tracked) _ (h.acknowledged other)
          ∙ ap (λ xs. xs ++ tracked_references other (if required_insert_count draft == 0 then [] else record { stream = stream; references = draft.references } ∷ [])) (h.tracked other alive)
          ∙ ap (λ ys. undecoded_references other s.sections ++ ys) (same_section other stream (required_insert_count draft) draft.references)
          ∙ sym (undecoded_references-append other s.sections _);
      acknowledged = λ other. omega (
        arith,
        h.acknowledged other,
        ap length (tracked_references-append other s.encoder.tracked (if required_insert_count draft == 0 then [] else record { stream = stream; references = draft.references } ∷ [])),
        length-append (tracked_references other s.encoder.tracked) (tracked_references other (if required_insert_count draft == 0 then [] else record { stream = stream; references = draft.references } ∷ [])),
      );
      told = told_more s.encoder.known_received s.encoder.tracked (if required_insert_count draft == 0 then [] else record { stream = stream; references = draft.references } ∷ []) s.decoder_instructions h.told;
      written = All-join (IsWrittenOver draft.inserted) s.sections _
          (longer_written s.encoder.inserted draft.inserted d.more d.begins s.sections h.written)
          (record { more = []; begins = sym (append-nil draft.inserted) }, tt);
      cancels = h.cancels;
      untracked = λ other canceled. still_untracked s stream draft e h other (canceled_before s.encoder.canceled s.encoder.tracked (if required_insert_count draft == 0 then [] else record { stream = stream; references = draft.references } ∷ []) other canceled);
      within_limit = one_more_out s.encoder (required_insert_count draft) h.within_limit (may_block s.encoder draft.inserted draft.references 0 (omega arith) d.references);
      read = section_read_as s.encoder.announced s.encoder s.instructions fields h.read;
      within_announced = h.within_announced;
      small = d.small h.small;
    }

-- a section is written
pub section_written : (s : Session) (stream : ℕ) (fields : List Field) → IsSound s → IsSound (encoded s stream fields)
section_written s stream fields h = by_test (was_canceled s.encoder stream) refl
  where
    by_test : (b : Bool) → was_canceled s.encoder stream ≡ b → IsSound (encoded s stream fields)
    by_test true e = canceled_written s stream fields e h
    by_test false e = subst (λ by. IsSound (encoded_by s stream fields by (draft_of by fields))) (sym (on_other s.encoder stream e)) (other_written s stream fields e h)

-- the oldest section of a stream goes: of the names under way its own are the first
pub taken_names : (stream : ℕ) (sections : List UndecodedSection) (b : UndecodedSection) → oldest stream sections ≡ Some b
    → undecoded_references stream sections ≡ (if nat_lt 0 (count_of b) then references_of b ∷ [] else []) ++ undecoded_references stream (without_oldest stream sections)
taken_names stream [] b h = cc
taken_names stream (x ∷ xs) b h = first_or_later stream x xs b (x.stream == stream) refl h (λ e. taken_names stream xs b e)
  where
    first_or_later : (stream : ℕ) (x : UndecodedSection) (xs : List UndecodedSection) (b : UndecodedSection) (t : Bool) → (x.stream == stream) ≡ t
        → (if t then Some x else oldest stream xs) ≡ Some b
        → (oldest stream xs ≡ Some b → undecoded_references stream xs ≡ (if nat_lt 0 (count_of b) then references_of b ∷ [] else []) ++ undecoded_references stream (without_oldest stream xs))
        → (if t && nat_lt 0 (count_of x) then references_of x ∷ undecoded_references stream xs else undecoded_references stream xs)
        ≡ (if nat_lt 0 (count_of b) then references_of b ∷ [] else []) ++ undecoded_references stream (if t then xs else x ∷ without_oldest stream xs)
    first_or_later stream x xs b true e h later =
        subst (λ (y : UndecodedSection). (if nat_lt 0 (count_of x) then references_of x ∷ undecoded_references stream xs else undecoded_references stream xs)
        ≡ (if nat_lt 0 (count_of y) then references_of y ∷ [] else []) ++ undecoded_references stream xs)
        (ap (λ o. unwrap_or o x) h) (mine (nat_lt 0 (count_of x)))
      where
        mine : (t : Bool) → (if t then references_of x ∷ undecoded_references stream xs else undecoded_references stream xs) ≡ (if t then references_of x ∷ [] else []) ++ undecoded_references stream xs
        mine true = refl
        mine false = refl
    first_or_later stream x xs b false e h later = rw e (later h)

taken_others : (stream other : ℕ) (sections : List UndecodedSection) → stream ≢ other → undecoded_references other (without_oldest stream sections) ≡ undecoded_references other sections
taken_others stream other [] ne = refl
taken_others stream other (x ∷ xs) ne = skip_or_keep stream other x xs (x.stream == stream) refl ne (taken_others stream other xs ne)
  where
    skip_or_keep : (stream other : ℕ) (x : UndecodedSection) (xs : List UndecodedSection) (t : Bool) → (x.stream == stream) ≡ t → stream ≢ other
        → undecoded_references other (without_oldest stream xs) ≡ undecoded_references other xs
        → undecoded_references other (if t then xs else x ∷ without_oldest stream xs)
        ≡ (if (x.stream == other) && nat_lt 0 (count_of x) then references_of x ∷ undecoded_references other xs else undecoded_references other xs)
    skip_or_keep stream other x xs true e ne ih =
        let no : (x.stream == other) ≡ false = grind (arith, common_steps) in rw no refl
    skip_or_keep stream other x xs false e ne ih = rw ih refl

cancels_without : (canceled : List ℕ) (decoder_instructions : List DecoderInstruction) (stream : ℕ) → list_any (λ other. other == stream) canceled ≡ false
    → CancelsAreLast canceled decoder_instructions → CancelsAreLast canceled (decoder_instructions ++ Acknowledge stream ∷ [])
cancels_without canceled [] stream alive h = tt
cancels_without canceled (CancelStream other ∷ decoder_instructions) stream alive h = (
  h.0,
  ⊎_elim (λ e. let no : true ≡ false = sym h.0 ∙ subst (λ t. list_any (λ o. o == t) canceled ≡ false) e alive in cc)
      (λ ne. acknowledgments-append other decoder_instructions (Acknowledge stream ∷ []) ∙ omega (arith, h.1, other_acknowledged stream other [] ne))
      (cases_eq stream other),
  cancels_without canceled decoder_instructions stream alive h.2,
)
cancels_without canceled (Acknowledge other ∷ decoder_instructions) stream alive h = cancels_without canceled decoder_instructions stream alive h
cancels_without canceled (Increment count ∷ decoder_instructions) stream alive h = cancels_without canceled decoder_instructions stream alive h

pub without_written : (P : UndecodedSection → Type 0) (stream : ℕ) (sections : List UndecodedSection) → AllByRecursion P sections → AllByRecursion P (without_oldest stream sections)
without_written P stream [] h = tt
without_written P stream (x ∷ xs) h = either_all (x.stream == stream) h.0 h.1 (without_written P stream xs h.1)
  where
    either_all : (t : Bool) → P x → AllByRecursion P xs → AllByRecursion P (without_oldest stream xs) → AllByRecursion P (if t then xs else x ∷ without_oldest stream xs)
    either_all true p h k = h
    either_all false p h k = (p, k)

pub kept_written : (P : UndecodedSection → Type 0) (test : UndecodedSection → Bool) (sections : List UndecodedSection) → AllByRecursion P sections → AllByRecursion P (filter test sections)
kept_written P test [] h = tt
kept_written P test (x ∷ xs) h = either_all (test x) h.0 (kept_written P test xs h.1)
  where
    either_all : (t : Bool) → P x → AllByRecursion P (filter test xs) → AllByRecursion P (cond t (x ∷ filter test xs) (filter test xs))
    either_all true p k = (p, k)
    either_all false p k = k

-- a section that needs no insertion is decoded: nothing is acknowledged
plain_decoded : (s : Session) (b : UndecodedSection) → (count_of b == 0) ≡ true → oldest b.stream s.sections ≡ Some b → IsSound s
    → IsSound (record s { sections = without_oldest b.stream s.sections; decoder_instructions = s.decoder_instructions ++ [] })
plain_decoded s b none is h =
    let same : s.decoder_instructions ++ [] ≡ s.decoder_instructions = append-nil s.decoder_instructions in
    let evicted : undecoded_references b.stream s.sections ≡ undecoded_references b.stream (without_oldest b.stream s.sections) =
    taken_names b.stream s.sections b is ∙ rw (above_zero (count_of b), none) refl in
    record {
      received = h.received;
      accounted = rw same h.accounted;
      evictions_known = h.evictions_known;
      references_present = h.references_present;
      tracked = λ other alive. rw same (h.tracked other alive ∙ ⊎_elim
          (λ e. subst (λ t. undecoded_references t s.sections ≡ undecoded_references t (without_oldest b.stream s.sections)) e evicted)
          (λ ne. sym (taken_others b.stream other s.sections ne))
          (cases_eq b.stream other));
      acknowledged = λ other. rw same (h.acknowledged other);
      told = rw same h.told;
      written = without_written (IsWrittenOver s.encoder.inserted) b.stream s.sections h.written;
      cancels = rw same h.cancels;
      untracked = h.untracked;
      within_limit = h.within_limit;
      read = h.read;
      within_announced = h.within_announced;
      small = h.small;
    }

-- a section that named entries is decoded and acknowledged
acknowledged_decoded : (s : Session) (b : UndecodedSection) → (count_of b == 0) ≡ false → oldest b.stream s.sections ≡ Some b → is_canceled s b.stream ≡ false → count_of b ≤ s.received → IsSound s
    → IsSound (record s { sections = without_oldest b.stream s.sections; decoder_instructions = s.decoder_instructions ++ Acknowledge b.stream ∷ [] })
acknowledged_decoded s b some is alive came h =
    let evicted : undecoded_references b.stream s.sections ≡ references_of b ∷ undecoded_references b.stream (without_oldest b.stream s.sections) =
    taken_names b.stream s.sections b is ∙ rw (above_zero (count_of b), some) refl in
    let own : drop (acknowledgments b.stream s.decoder_instructions) (tracked_references b.stream s.encoder.tracked) ≡ references_of b ∷ undecoded_references b.stream (without_oldest b.stream s.sections) =
    h.tracked b.stream alive ∙ evicted in
    let one : acknowledgments b.stream (s.decoder_instructions ++ Acknowledge b.stream ∷ []) ≡ acknowledgments b.stream s.decoder_instructions + 1 =
    acknowledgments-append b.stream s.decoder_instructions (Acknowledge b.stream ∷ []) ∙ omega (arith, one_acknowledged b.stream []) in
    let none : (other : ℕ) → b.stream ≢ other → acknowledgments other (s.decoder_instructions ++ Acknowledge b.stream ∷ []) ≡ acknowledgments other s.decoder_instructions =
    λ other ne. acknowledgments-append other s.decoder_instructions (Acknowledge b.stream ∷ []) ∙ omega (arith, other_acknowledged b.stream other [] ne) in
    record {
      received = h.received;
      accounted = omega (arith, h.accounted, increments-append s.decoder_instructions (Acknowledge b.stream ∷ []));
      evictions_known = h.evictions_known;
      references_present = h.references_present;
      tracked = λ other up. ⊎_elim
          (λ e. subst (λ t. drop (acknowledgments t (s.decoder_instructions ++ Acknowledge b.stream ∷ [])) (tracked_references t s.encoder.tracked) ≡ undecoded_references t (without_oldest b.stream s.sections)) e
          (ap (λ n. drop n (tracked_references b.stream s.encoder.tracked)) one
          ∙ sym (drop-drop 1 (acknowledgments b.stream s.decoder_instructions) (tracked_references b.stream s.encoder.tracked))
          ∙ ap (drop 1) own))
          (λ ne. ap (λ n. drop n (tracked_references other s.encoder.tracked)) (none other ne) ∙ h.tracked other up ∙ sym (taken_others b.stream other s.sections ne))
          (cases_eq b.stream other);
      acknowledged = λ other. ⊎_elim
          (λ e. subst (λ t. acknowledgments t (s.decoder_instructions ++ Acknowledge b.stream ∷ []) ≤ length (tracked_references t s.encoder.tracked)) e
          (omega (arith, one, ap length own, length-drop (acknowledgments b.stream s.decoder_instructions) (tracked_references b.stream s.encoder.tracked))))
          (λ ne. omega (arith, none other ne, h.acknowledged other))
          (cases_eq b.stream other);
      told = told_acknowledgment b.stream (references_of b) _ s.canceled s.encoder.known_received s.encoder.tracked s.decoder_instructions alive h.cancels h.told own (omega (arith, came, h.accounted));
      written = without_written (IsWrittenOver s.encoder.inserted) b.stream s.sections h.written;
      cancels = cancels_without s.canceled s.decoder_instructions b.stream alive h.cancels;
      untracked = h.untracked;
      within_limit = h.within_limit;
      read = h.read;
      within_announced = h.within_announced;
      small = h.small;
    }

-- the oldest section of a stream is decoded
pub section_decoded : (s : Session) (b : UndecodedSection) → oldest b.stream s.sections ≡ Some b → is_canceled s b.stream ≡ false → count_of b ≤ s.received → IsSound s → IsSound (decoded s b)
section_decoded s b is alive came h = by_count (count_of b == 0) refl
  where
    by_count : (t : Bool) → (count_of b == 0) ≡ t → IsSound (record s { sections = without_oldest b.stream s.sections; decoder_instructions = s.decoder_instructions ++ (if t then [] else Acknowledge b.stream ∷ []) })
    by_count true e = plain_decoded s b e is h
    by_count false e = acknowledged_decoded s b e is alive came h

undecoded_kept : (stream other : ℕ) (sections : List UndecodedSection) → stream ≢ other → undecoded_references other (filter (λ b. not (b.stream == stream)) sections) ≡ undecoded_references other sections
undecoded_kept stream other [] ne = refl
undecoded_kept stream other (x ∷ xs) ne = skip_or_keep stream other x xs (x.stream == stream) refl ne (undecoded_kept stream other xs ne)
  where
    skip_or_keep : (stream other : ℕ) (x : UndecodedSection) (xs : List UndecodedSection) (t : Bool) → (x.stream == stream) ≡ t → stream ≢ other
        → undecoded_references other (filter (λ b. not (b.stream == stream)) xs) ≡ undecoded_references other xs
        → undecoded_references other (if not t then x ∷ filter (λ b. not (b.stream == stream)) xs else filter (λ b. not (b.stream == stream)) xs)
        ≡ (if (x.stream == other) && nat_lt 0 (count_of x) then references_of x ∷ undecoded_references other xs else undecoded_references other xs)
    skip_or_keep stream other x xs true e ne ih =
        let no : (x.stream == other) ≡ false = grind (arith, common_steps) in rw (no, ih) refl
    skip_or_keep stream other x xs false e ne ih = rw ih refl

cancels_last : (canceled : List ℕ) (decoder_instructions : List DecoderInstruction) (stream : ℕ) → CancelsAreLast canceled decoder_instructions → CancelsAreLast (stream ∷ canceled) (decoder_instructions ++ CancelStream stream ∷ [])
cancels_last canceled [] stream h = (rw (same_number stream) refl, refl, tt)
  where
    same_number : (n : ℕ) → (n == n) ≡ true
    same_number n = grind (arith, common_steps)
cancels_last canceled (CancelStream other ∷ decoder_instructions) stream h =
    (rw h.0 (or_true (stream == other)), acknowledgments-append other decoder_instructions (CancelStream stream ∷ []) ∙ add-zero _ ∙ h.1, cancels_last canceled decoder_instructions stream h.2)
  where
    or_true : (b : Bool) → (b || true) ≡ true
    or_true true = refl
    or_true false = refl
cancels_last canceled (Acknowledge other ∷ decoder_instructions) stream h = cancels_last canceled decoder_instructions stream h
cancels_last canceled (Increment count ∷ decoder_instructions) stream h = cancels_last canceled decoder_instructions stream h

neither : (a b : Bool) → (a || b) ≡ false → (a ≡ false) × (b ≡ false)
neither true b h = cc
neither false b h = (refl, h)

-- a stream is given up
pub stream_abandoned : (s : Session) (stream : ℕ) → IsSound s → IsSound (after_cancellation s stream)
stream_abandoned s stream h =
    let acks : (other : ℕ) → acknowledgments other (s.decoder_instructions ++ CancelStream stream ∷ []) ≡ acknowledgments other s.decoder_instructions =
    λ other. acknowledgments-append other s.decoder_instructions (CancelStream stream ∷ []) ∙ add-zero _ in
    record {
      received = h.received;
      accounted = omega (arith, h.accounted, increments-append s.decoder_instructions (CancelStream stream ∷ []));
      evictions_known = h.evictions_known;
      references_present = h.references_present;
      tracked = λ other alive.
          let parts = neither (stream == other) (is_canceled s other) alive in
          let ne : stream ≢ other = λ e. let yes : (stream == other) ≡ true = grind (arith, common_steps) in absurd (same_no (sym yes ∙ parts.0)) in
          ap (λ n. drop n (tracked_references other s.encoder.tracked)) (acks other) ∙ h.tracked other parts.1 ∙ sym (undecoded_kept stream other s.sections ne);
      acknowledged = λ other. omega (arith, acks other, h.acknowledged other);
      told = told_behind s.encoder.known_received s.encoder.tracked s.decoder_instructions (CancelStream stream ∷ []) h.told (λ k ts. tt);
      written = kept_written (IsWrittenOver s.encoder.inserted) _ s.sections h.written;
      cancels = cancels_last s.canceled s.decoder_instructions stream h.cancels;
      untracked = h.untracked;
      within_limit = h.within_limit;
      read = h.read;
      within_announced = h.within_announced;
      small = h.small;
    }
  where
    same_no : true ≡ false → ⊥
    same_no e = cc

-- what was inserted for a section that doesn't go out
abbrev without_by : Session → List ℕ → Draft → Session
without_by s marks draft = record s { encoder = record s.encoder { inserted = draft.inserted; marks = marks }; instructions = s.instructions ++ draft.instructions }

other_kept : (s : Session) (marks : List ℕ) (fields : List Field) → IsSound s → IsSound (without_by s marks (draft_of s.encoder fields))
other_kept s marks fields h =
    let d = draft_is_draft s.encoder fields h.references_present in
    let draft = draft_of s.encoder fields in
    record {
      received = omega (arith, h.received, ap length d.begins, length-append s.encoder.inserted d.more);
      accounted = h.accounted;
      evictions_known = omega (arith, d.evictions_known, h.evictions_known);
      references_present = d.present;
      tracked = h.tracked;
      acknowledged = h.acknowledged;
      told = h.told;
      written = longer_written s.encoder.inserted draft.inserted d.more d.begins s.sections h.written;
      cancels = h.cancels;
      untracked = h.untracked;
      within_limit = h.within_limit;
      read = section_read_as s.encoder.announced s.encoder s.instructions fields h.read;
      within_announced = h.within_announced;
      small = d.small h.small;
    }

-- the marks play no part in what is sound
with_marks : (s : Session) (marks : List ℕ) → IsSound s → IsSound (record s { encoder = record s.encoder { marks = marks } })
with_marks s marks h =
    record {
      received = h.received;
      accounted = h.accounted;
      evictions_known = h.evictions_known;
      references_present = h.references_present;
      tracked = h.tracked;
      acknowledged = h.acknowledged;
      told = h.told;
      written = h.written;
      cancels = h.cancels;
      untracked = h.untracked;
      within_limit = h.within_limit;
      read = h.read;
      within_announced = h.within_announced;
      small = h.small;
    }

pub insertions_kept : (s : Session) (stream : ℕ) (fields : List Field) → IsSound s → IsSound (without_section s stream fields)
insertions_kept s stream fields h = by_test (was_canceled s.encoder stream) refl
  where
    by_test : (b : Bool) → was_canceled s.encoder stream ≡ b → IsSound (without_section s stream fields)
    by_test true e =
        let marks = marks_after (writing_on s.encoder stream) (draft_of (writing_on s.encoder stream) fields).lines in
        let same : without_by s marks (draft_of (writing_on s.encoder stream) fields) ≡ record s { encoder = record s.encoder { marks = marks } } = ap (without_by s marks) (on_static s.encoder stream fields e) ∙ rw (append-nil s.instructions) refl in
        subst IsSound (sym same) (with_marks s marks h)
    by_test false e =
        subst (λ by. IsSound (without_by s (marks_after by (draft_of by fields).lines) (draft_of by fields))) (sym (on_other s.encoder stream e)) (other_kept s (marks_after s.encoder (draft_of s.encoder fields).lines) fields h)
