-- What an encoder keeps, after an instruction of its decoder.
use Rattle.std.proofs.Common.{◌≡◌, ℕ, ◌+◌, ◌-◌, ◌^◌, ◌<◌, ◌≤◌, Bool, true, false, not, ◌||◌, List, [], ◌∷◌, length, map, filter, cond, min, max, refl, sym, ◌∙◌, ap, arith, nat_lt, if◌then◌else◌}
use Rattle.std.specs.Prelude.{◌==◌}
use Rattle.std.specs.List.{list_any, count_by, fold}
use Rattle.std.proofs.lemmas.List.Sums.{sum_by-cons}
use Rattle.std.proofs.lemmas.Grind.{common_steps}
use Rattle.h3_field.specs.Instruction.{DecoderInstruction}
use Rattle.h3_field.specs.Instruction.DecoderInstruction.{Acknowledge, CancelStream, Increment}
use Rattle.h3_qpack.specs.EncoderHistory.{EncoderHistory, UnacknowledgedSection, acknowledged_count, known_by, released, without_stream, encoder_after}
use Rattle.h3_table.specs.Cancellations.{with_canceled}
use Rattle.h3_table.specs.declared.tracking.TrackedSection.{TrackedSection}
use Rattle.h3_table.specs.InOrder.{put_first, in_order}
use Rattle.h3_table.specs.InOrderLaws.{any_in_order, oldest_in_order, filter_in_order, length_in_order}
use Rattle.h3_table.specs.Tracking.{is_of, newest_named, without_oldest_of, without_all_of}
use Rattle.h3_qpack.specs.EncoderState.{EncoderState, encoder_state, tracked_section, knowing, encoder_state_after}

released_state : (stream : ℕ) (ts : List UnacknowledgedSection) → map tracked_section (released stream ts) ≡ without_oldest_of stream (map tracked_section ts)
released_state stream [] = refl
released_state stream (t ∷ ts) = by_test (t.stream == stream) (released_state stream ts)
  where
    by_test : (b : Bool) → map tracked_section (released stream ts) ≡ without_oldest_of stream (map tracked_section ts)
        → map tracked_section (if b then ts else t ∷ released stream ts) ≡ (if b then map tracked_section ts else tracked_section t ∷ without_oldest_of stream (map tracked_section ts))
    by_test true h = refl
    by_test false h = ap (λ us. tracked_section t ∷ us) h

without_stored : (stream : ℕ) (ts : List UnacknowledgedSection) → map tracked_section (without_stream stream ts) ≡ without_all_of stream (map tracked_section ts)
without_stored stream [] = refl
without_stored stream (t ∷ ts) = by_test (not (t.stream == stream)) (without_stored stream ts)
  where
    by_test : (b : Bool) → map tracked_section (without_stream stream ts) ≡ without_all_of stream (map tracked_section ts)
        → map tracked_section (cond b (t ∷ without_stream stream ts) (without_stream stream ts)) ≡ cond b (tracked_section t ∷ without_all_of stream (map tracked_section ts)) (without_all_of stream (map tracked_section ts))
    by_test true h = ap (λ us. tracked_section t ∷ us) h
    by_test false h = h

-- a stream has a tracked section where it is kept with one
pub tracked_state : (stream : ℕ) (ts : List UnacknowledgedSection) → list_any (λ t. t.stream == stream) ts ≡ list_any (is_of stream) (in_order (λ t. t.stream) (map tracked_section ts))
tracked_state stream ts = stored ts ∙ sym (any_in_order (is_of stream) (λ (t : TrackedSection). t.stream) (map tracked_section ts))
  where
    stored : (ts : List UnacknowledgedSection) → list_any (λ t. t.stream == stream) ts ≡ list_any (is_of stream) (map tracked_section ts)
    stored [] = refl
    stored (t ∷ ts) = ap (λ b. (t.stream == stream) || b) (stored ts)

filter_twice : (known later : ℕ) (counts : List ℕ) → known ≤ later → filter (λ c. nat_lt later c) counts ≡ filter (λ c. nat_lt later c) (filter (λ c. nat_lt known c) counts)
filter_twice known later [] le = refl
filter_twice known later (c ∷ cs) le = by_tests (nat_lt known c) (nat_lt later c) refl refl (filter_twice known later cs le)
  where
    by_tests : (a b : Bool) → nat_lt known c ≡ a → nat_lt later c ≡ b → filter (λ c. nat_lt later c) cs ≡ filter (λ c. nat_lt later c) (filter (λ c. nat_lt known c) cs)
        → cond b (c ∷ filter (λ c. nat_lt later c) cs) (filter (λ c. nat_lt later c) cs) ≡ filter (λ c. nat_lt later c) (cond a (c ∷ filter (λ c. nat_lt known c) cs) (filter (λ c. nat_lt known c) cs))
    by_tests true true e f h = rw f (ap (λ ns. c ∷ ns) h)
    by_tests true false e f h = rw f h
    by_tests false true e f h = absurd (grind (arith, common_steps))
    by_tests false false e f h = h

-- what the oldest section of a stream needs, in whatever order the streams are
newest_first : (stream : ℕ) (t : TrackedSection) (ts : List TrackedSection) → newest_named stream (put_first (λ u. u.stream) t ts) ≡ newest_named stream (t ∷ ts)
newest_first stream t [] = refl
newest_first stream t (u ∷ ts) = by_test (nat_lt u.stream t.stream) refl (newest_first stream t ts)
  where
    other : (b c : Bool) → (u.stream == stream) ≡ b → (t.stream == stream) ≡ c → u.stream < t.stream
        → (if b then u.newest else (if c then t.newest else newest_named stream ts)) ≡ (if c then t.newest else (if b then u.newest else newest_named stream ts))
    other true true e f lt = absurd (grind (arith, common_steps, e, f, lt))
    other true false e f lt = refl
    other false c e f lt = refl

    by_test : (b : Bool) → nat_lt u.stream t.stream ≡ b → newest_named stream (put_first (λ u. u.stream) t ts) ≡ newest_named stream (t ∷ ts)
        → newest_named stream (if b then u ∷ put_first (λ u. u.stream) t ts else t ∷ u ∷ ts) ≡ newest_named stream (t ∷ u ∷ ts)
    by_test true e h =
        let lt : u.stream < t.stream = grind (arith, common_steps, e) in
        ap (λ n. if u.stream == stream then u.newest else n) h ∙ other (u.stream == stream) (t.stream == stream) refl refl lt
    by_test false e h = refl

newest_in_streams : (stream : ℕ) (ts : List TrackedSection) → newest_named stream (in_order (λ t. t.stream) ts) ≡ newest_named stream ts
newest_in_streams stream [] = refl
newest_in_streams stream (t ∷ ts) = newest_first stream t (in_order (λ u. u.stream) ts) ∙ ap (λ n. if t.stream == stream then t.newest else n) (newest_in_streams stream ts)

acknowledged_state : (stream : ℕ) (ts : List UnacknowledgedSection) → acknowledged_count stream ts ≡ newest_named stream (in_order (λ t. t.stream) (map tracked_section ts))
acknowledged_state stream ts = stored ts ∙ sym (newest_in_streams stream (map tracked_section ts))
  where
    stored : (ts : List UnacknowledgedSection) → acknowledged_count stream ts ≡ newest_named stream (map tracked_section ts)
    stored [] = refl
    stored (t ∷ ts) = ap (λ n. if t.stream == stream then fold max 0 t.references else n) (stored ts)

-- More is known: the counts above that are those that were above what was known, of which some are left out.
known_state : (s : EncoderHistory) (known : ℕ) → s.known_received ≤ known → encoder_state (record s { known_received = known }) ≡ knowing (encoder_state s) known
known_state s known le =
    ap (λ counts. record (encoder_state s) { known_received = known; blocking_counts = counts })
    (ap (in_order (λ n. n)) (filter_twice s.known_received known s.required_insert_counts le)
    ∙ sym (filter_in_order (λ c. nat_lt known c) (λ n. n) (filter (λ c. nat_lt s.known_received c) s.required_insert_counts)))

acknowledging_state : (s : EncoderHistory) (stream : ℕ) (b : Bool) → s.counts_acknowledgments ≡ b
    → encoder_state (record s { known_received = if b then max s.known_received (acknowledged_count stream s.tracked) else s.known_received })
    ≡ (if b then knowing (encoder_state s) (max s.known_received (newest_named stream (in_order (λ t. t.stream) (map tracked_section s.tracked)))) else encoder_state s)
acknowledging_state s stream true e =
    known_state s (max s.known_received (acknowledged_count stream s.tracked)) (omega arith) ∙ ap (λ n. knowing (encoder_state s) (max s.known_received n)) (acknowledged_state stream s.tracked)
acknowledging_state s stream false e = refl

pub encoder_after_state : (s : EncoderHistory) (i : DecoderInstruction) → ((count : ℕ) → i ≡ Increment count → s.known_received ≤ 2 ^ 64 - 1) → encoder_state (encoder_after s i) ≡ encoder_state_after (encoder_state s) i
encoder_after_state s (Acknowledge stream) small =
    ap (λ ts. record (encoder_state (record s { known_received = known_by s stream })) { tracked = ts })
    (ap (in_order (λ t. t.stream)) (released_state stream s.tracked) ∙ sym (oldest_in_order stream (map tracked_section s.tracked)))
    ∙ ap (λ (t : EncoderState). record t { tracked = without_oldest_of stream (in_order (λ t. t.stream) (map tracked_section s.tracked)) }) (acknowledging_state s stream s.counts_acknowledgments refl)
encoder_after_state s (CancelStream stream) small =
    ap (λ ts. record (encoder_state s) { tracked = ts; canceled = with_canceled s.canceled stream })
    (ap (in_order (λ t. t.stream)) (without_stored stream s.tracked) ∙ sym (filter_in_order (λ t. not (is_of stream t)) (λ t. t.stream) (map tracked_section s.tracked)))
encoder_after_state s (Increment count) small = known_state s (min (s.known_received + count) (2 ^ 64 - 1)) (omega (arith, small count refl))

passing : (test : ℕ → Bool) (counts : List ℕ) → length (filter test counts) ≡ count_by test counts
passing test [] = refl
passing test (c ∷ cs) = by_test (test c) refl (passing test cs)
  where
    one : count_by test (c ∷ cs) ≡ ◌+◌ (if test c then 1 else 0) (count_by test cs)
    one = sum_by-cons (λ n. if test n then 1 else 0) c cs

    by_test : (b : Bool) → test c ≡ b → length (filter test cs) ≡ count_by test cs → length (cond b (c ∷ filter test cs) (filter test cs)) ≡ count_by test (c ∷ cs)
    by_test true e h = let now : ◌≡◌ {A = ℕ} (if test c then 1 else 0) 1 = rw e refl in omega (arith, h, one, now)
    by_test false e h = let now : ◌≡◌ {A = ℕ} (if test c then 1 else 0) 0 = rw e refl in omega (arith, h, one, now)

-- the counts above what is known, counted
pub blocking_counted : (test : ℕ → Bool) (counts : List ℕ) → length (in_order (λ n. n) (filter test counts)) ≡ count_by test counts
blocking_counted test counts = length_in_order (λ n. n) (filter test counts) ∙ passing test counts
