-- A field section that is written whole: what is kept of it.
use Rattle.std.proofs.Common.{◌≡◌, ◌⊎◌, inl, inr, ℕ, zero, suc, ◌-◌, ◌^◌, ◌<◌, ◌≤◌, Bool, true, false, List, [], ◌∷◌, ◌++◌, length, take, min, max, map, filter, fold, flat_map, refl, sym, ◌∙◌, ap, subst, arith, append-nil, append_assoc, nat_lt, if◌then◌else◌}
use Rattle.std.specs.Prelude.{◌==◌}
use Rattle.std.proofs.lemmas.Grind.{common_steps}
use Rattle.std.proofs.lemmas.List.{map-append, take_all}
use Rattle.std.proofs.lemmas.List.Elements.{filter-append}
use Rattle.std.proofs.lemmas.List.Sums.{sum_by-cons}
use Rattle.h3_field.specs.Field.{Field, field_size, section_size}
use Rattle.std.specs.List.{AllByRecursion}
use Rattle.h3_field.specs.ReadBack.{IsFieldOfBytes}
use Rattle.h3_field.specs.Instruction.{encoder_bytes}
use Rattle.h3_field.specs.Prefix.{prefix_bytes}
use Rattle.h3_field.specs.PrefixReading.{EncodedPrefix}
use Rattle.h3_field.specs.PrefixWriting.{written_prefix, encoded_bytes}
use Rattle.h3_field.specs.PrefixLaws.{prefix_is_written}
use Rattle.h3_qpack.specs.EncoderHistory.{EncoderHistory, UnacknowledgedSection, writing_on}
use Rattle.h3_qpack.specs.EncoderState.{EncoderState, encoder_state, tracked_section, encoder_state_sent, least}
use Rattle.h3_qpack.specs.SectionEncoding.{Draft, lasting_capacity, draining, draft_of, required_insert_count, encoded_section, instructions_for}
use Rattle.h3_qpack.specs.Drafting.{IsDraftState, IsDrafted, IsOver, IsSmall, IsSent, IsCutOff, begun, draining_in, oldest_of}
use Rattle.h3_qpack.specs.declared.section.Section.{Section}
use Rattle.h3_table.specs.declared.tracking.TrackedSection.{TrackedSection}
use Rattle.h3_table.specs.InOrder.{in_order, put_last}
use Rattle.h3_table.specs.InOrderLaws.{in_order_more}
use Rattle.h3_qpack.proofs.EncoderStates.{blocking_counted}
use Rattle.h3_qpack.proofs.TableStates.{table-table}
use Rattle.h3_qpack.proofs.Canceled.{sent_draft}

-- a section that names an entry is over a table that can have one
one_fits : (fs : List Field) → 0 < length fs → 32 ≤ section_size fs
one_fits [] above = absurd (omega (arith, above))
one_fits (f ∷ fs) above = omega (arith, sum_by-cons field_size f fs)

pub named_fits : (t : EncoderState) (section : Section) → IsOver t.table section → IsSmall t → (section.newest ≡ 0) ⊎ (32 ≤ t.announced)
named_fits t section o small = by_newest section.newest o.named
  where
    by_newest : (newest : ℕ) → (0 < newest → section.oldest ≤ t.table.inserted) → (newest ≡ 0) ⊎ (32 ≤ t.announced)
    by_newest zero there = inl refl
    by_newest (suc n) there = inr (omega (arith, one_fits t.table.entries (omega (arith, o.above, there (omega arith))), small.fits, small.within_announced))

-- the prefix and the lines
pub section_put : (before mid encoded lines : List ℕ) (capacity own count base : ℕ) (p : EncodedPrefix) → own ≡ capacity → p ≡ written_prefix own count base → mid ≡ before ++ encoded_bytes p → encoded ≡ mid ++ lines
    → encoded ≡ before ++ (prefix_bytes capacity count base ++ lines)
section_put before mid encoded lines capacity own count base p same is prefix all =
    all ∙ ap (λ bytes. bytes ++ lines) (prefix ∙ ap (λ q. before ++ encoded_bytes q) (is ∙ ap (λ n. written_prefix n count base) same))
    ∙ append_assoc before (encoded_bytes (written_prefix capacity count base)) lines
    ∙ ap (λ bytes. before ++ (bytes ++ lines)) (sym (prefix_is_written capacity count base))

-- what drains, by what is kept
draining_held : (s : EncoderHistory) → draining_in (encoder_state s) ≡ draining s
draining_held s = ap (λ es. if s.choices.economical then length s.inserted - length es else 0) (table-table (lasting_capacity s.capacity) s.capacity s.inserted (omega arith))

-- before the first field
pub begun_drafted : (s : EncoderHistory) (t : EncoderState) (section : Section) (lines start : List ℕ) → t ≡ encoder_state s → section ≡ begun t → lines ≡ [] → IsDrafted s (draft_of s []) t section lines start start
begun_drafted s t section lines start e is none =
    record {
      state = record {
        stores = e;
        base = ap (λ (x : Section). x.base) is ∙ ap (λ (u : EncoderState). u.table.inserted) e;
        may_block = ap (λ (x : Section). x.may_block) is ∙ ap (λ (u : EncoderState). nat_lt (length u.blocking_counts) u.limit) e
            ∙ ap (λ n. nat_lt n s.limit) (blocking_counted (λ n. nat_lt s.known_received n) s.required_insert_counts);
        draining = ap (λ (x : Section). x.draining) is ∙ ap draining_in e ∙ draining_held s;
        oldest = ap (λ (x : Section). x.oldest) is;
        newest = ap (λ (x : Section). x.newest) is;
      };
      lines_are = none;
      instructions_are = sym (append-nil start);
    }

-- each number is at most the greatest
most_above : (ns : List ℕ) (m : ℕ) → m ≤ fold max m ns
most_above [] m = omega arith
most_above (n ∷ ns) m = omega (arith, most_above ns (max m n))

-- the least number, where the greatest is not 0 and is small
least_is : (ns : List ℕ) → (fold max 0 ns ≡ 0 → ⊥) → fold max 0 ns < 2 ^ 62 → oldest_of ns ≡ least ns
least_is [] some few = absurd (some refl)
least_is (n ∷ ns) some few =
    let same : min (2 ^ 64 - 1) n ≡ n = omega (arith, most_above ns (max 0 n), few) in
    ap (λ m. fold min m ns) same

-- the counts above what is known
blocking_more : (known count : ℕ) (counts : List ℕ) → (if nat_lt known count then put_last (λ n. n) count (in_order (λ n. n) (filter (λ c. nat_lt known c) counts)) else in_order (λ n. n) (filter (λ c. nat_lt known c) counts))
    ≡ in_order (λ n. n) (filter (λ c. nat_lt known c) (counts ++ count ∷ []))
blocking_more known count counts = by_test (nat_lt known count) refl
  where
    by_test : (b : Bool) → nat_lt known count ≡ b → (if b then put_last (λ n. n) count (in_order (λ n. n) (filter (λ c. nat_lt known c) counts)) else in_order (λ n. n) (filter (λ c. nat_lt known c) counts))
        ≡ in_order (λ n. n) (filter (λ c. nat_lt known c) (counts ++ count ∷ []))
    by_test true e =
        let one : filter (λ c. nat_lt known c) (count ∷ []) ≡ count ∷ [] = rw e refl in
        sym (ap (in_order (λ n. n)) (filter-append (λ c. nat_lt known c) counts (count ∷ []) ∙ ap (λ cs. filter (λ c. nat_lt known c) counts ++ cs) one)
        ∙ in_order_more (λ n. n) (filter (λ c. nat_lt known c) counts) count)
    by_test false e =
        let none : filter (λ c. nat_lt known c) (count ∷ []) ≡ [] = rw e refl in
        sym (ap (in_order (λ n. n)) (filter-append (λ c. nat_lt known c) counts (count ∷ []) ∙ ap (λ cs. filter (λ c. nat_lt known c) counts ++ cs) none ∙ append-nil _))

tracked_more : (b : Bool) (stream : ℕ) (references : List ℕ) (ts : List UnacknowledgedSection) → b ≡ false
    → put_last (λ t. t.stream) (record { stream = stream; oldest = least references; newest = fold max 0 references }) (in_order (λ t. t.stream) (map tracked_section ts))
    ≡ in_order (λ t. t.stream) (map tracked_section (ts ++ (if b then [] else record { stream = stream; references = references } ∷ [])))
tracked_more b stream references ts e =
    rw e (sym (ap (in_order (λ t. t.stream)) (map-append tracked_section ts (record { stream = stream; references = references } ∷ []))
    ∙ in_order_more (λ (t : TrackedSection). t.stream) (map tracked_section ts) (record { stream = stream; oldest = least references; newest = fold max 0 references })))

tracked_same : (b : Bool) (more ts : List UnacknowledgedSection) → b ≡ true → in_order (λ t. t.stream) (map tracked_section ts) ≡ in_order (λ t. t.stream) (map tracked_section (ts ++ (if b then [] else more)))
tracked_same b more ts e = rw e (ap (λ us. in_order (λ t. t.stream) (map tracked_section us)) (sym (append-nil ts)))

not_zero : (n : ℕ) → (n ≡ 0 → ⊥) → (n == 0) ≡ false
not_zero n some = by_test (n == 0) refl
  where
    by_test : (b : Bool) → (n == 0) ≡ b → b ≡ false
    by_test true e = absurd (some (grind (arith, common_steps)))
    by_test false e = refl

-- a section that names entries is counted and tracked
pub sent_named : (s : EncoderHistory) (d : Draft) (marks : List ℕ) (stream : ℕ) (t new : EncoderState) (section : Section) → IsDraftState s d marks t section → IsSmall t → section.newest ≤ t.table.inserted → (section.newest ≡ 0 → ⊥)
    → new ≡ encoder_state_sent t stream section.newest section.oldest
    → new ≡ encoder_state (record s {
      inserted = d.inserted;
      marks = marks;
      required_insert_counts = s.required_insert_counts ++ required_insert_count d ∷ [];
      tracked = s.tracked ++ (if required_insert_count d == 0 then [] else record { stream = stream; references = d.references } ∷ []);
    })
sent_named s d marks stream t new section k small few some is =
    let named : required_insert_count d ≡ 0 → ⊥ = λ z. some (k.newest ∙ z) in
    let least_one : section.oldest ≡ least d.references = k.oldest ∙ least_is d.references named (omega (arith, sym k.newest, few, small.few)) in
    is ∙ ap (λ (u : EncoderState). encoder_state_sent u stream section.newest section.oldest) k.stores
    ∙ ap (λ n. encoder_state_sent (encoder_state (record s { inserted = d.inserted; marks = marks })) stream n section.oldest) k.newest
    ∙ ap (λ n. encoder_state_sent (encoder_state (record s { inserted = d.inserted; marks = marks })) stream (required_insert_count d) n) least_one
    ∙ rw (blocking_more s.known_received (required_insert_count d) s.required_insert_counts, tracked_more (required_insert_count d == 0) stream d.references s.tracked (not_zero (required_insert_count d) named)) refl

none_below : (n : ℕ) → nat_lt n 0 ≡ false
none_below n = grind (arith, common_steps)

-- one that names none is not
pub sent_plain : (s : EncoderHistory) (d : Draft) (marks : List ℕ) (stream : ℕ) (t : EncoderState) (section : Section) → IsDraftState s d marks t section → section.newest ≡ 0
    → t ≡ encoder_state (record s {
      inserted = d.inserted;
      marks = marks;
      required_insert_counts = s.required_insert_counts ++ required_insert_count d ∷ [];
      tracked = s.tracked ++ (if required_insert_count d == 0 then [] else record { stream = stream; references = d.references } ∷ []);
    })
sent_plain s d marks stream t section k none =
    let zero_is : required_insert_count d ≡ 0 = sym k.newest ∙ none in
    let far : nat_lt s.known_received (required_insert_count d) ≡ false = ap (λ n. nat_lt s.known_received n) zero_is ∙ none_below s.known_received in
    let counts = ap (λ b. if b then put_last (λ n. n) (required_insert_count d) (in_order (λ n. n) (filter (λ c. nat_lt s.known_received c) s.required_insert_counts)) else in_order (λ n. n) (filter (λ c. nat_lt s.known_received c) s.required_insert_counts)) (sym far)
    ∙ blocking_more s.known_received (required_insert_count d) s.required_insert_counts in
    let none_named : (required_insert_count d == 0) ≡ true = rw zero_is refl in
    k.stores ∙ ap (λ (ws : List ℕ). record (encoder_state (record s { inserted = d.inserted; marks = marks })) { blocking_counts = ws }) counts
    ∙ ap (λ ts. record (encoder_state (record s { inserted = d.inserted; marks = marks })) { blocking_counts = in_order (λ n. n) (filter (λ c. nat_lt s.known_received c) (s.required_insert_counts ++ required_insert_count d ∷ [])); tracked = ts })
    (tracked_same (required_insert_count d == 0) (record { stream = stream; references = d.references } ∷ []) s.tracked none_named)

-- The section and its instructions were written, on a stream that is not canceled.
pub section_sent : (s : EncoderHistory) (stream : ℕ) (fields : List Field) (t new : EncoderState) (section : Section) (lines before encoded start instruction_bytes : List ℕ) → writing_on s stream ≡ s → IsDrafted s (draft_of s fields) t section lines start instruction_bytes
    → encoded ≡ before ++ (prefix_bytes t.announced section.newest section.base ++ lines) → new ≡ encoder_state (sent_draft s s stream (draft_of s fields))
    → AllByRecursion IsFieldOfBytes fields → IsSent s stream fields section.newest new before encoded start instruction_bytes
section_sent s stream fields t new section lines before encoded start instruction_bytes own h is kept are_bytes =
    let d = draft_of s fields in
    let announced : t.announced ≡ s.announced = ap (λ (u : EncoderState). u.announced) h.state.stores in
    let prefix : prefix_bytes t.announced section.newest section.base ≡ prefix_bytes s.announced (required_insert_count d) (length s.inserted) =
    ap (λ n. prefix_bytes n section.newest section.base) announced ∙ ap (λ n. prefix_bytes s.announced n section.base) h.state.newest ∙ ap (λ n. prefix_bytes s.announced (required_insert_count d) n) h.state.base in
    let body : prefix_bytes t.announced section.newest section.base ++ lines ≡ encoded_section s fields =
    ap (λ p. p ++ lines) prefix ∙ ap (λ ls. prefix_bytes s.announced (required_insert_count d) (length s.inserted) ++ ls) h.lines_are in
    record {
      stores = kept ∙ ap (λ by. encoder_state (sent_draft s by stream (draft_of by fields))) (sym own);
      count_is = h.state.newest ∙ ap (λ by. required_insert_count (draft_of by fields)) (sym own);
      are_bytes = are_bytes;
      encoded_is = is ∙ ap (λ b. before ++ b) body ∙ ap (λ by. before ++ encoded_section by fields) (sym own);
      instructions_are = h.instructions_are ∙ ap (λ by. start ++ flat_map encoder_bytes (instructions_for by fields)) (sym own);
    }

-- A section that is cut off is so on a stream that is not canceled.
pub other_cut_off : (s : EncoderHistory) (stream : ℕ) (fields : List Field) (t : EncoderState) (start instruction_bytes : List ℕ) → writing_on s stream ≡ s → IsCutOff s s fields t start instruction_bytes → IsCutOff s (writing_on s stream) fields t start instruction_bytes
other_cut_off s stream fields t start instruction_bytes own h = subst (λ by. IsCutOff s by fields t start instruction_bytes) (sym own) h

-- A section whose fields are all written is cut off behind the last.
pub whole_cut_off : (s : EncoderHistory) (fields : List Field) (t new : EncoderState) (section : Section) (lines start instruction_bytes : List ℕ) → IsDrafted s (draft_of s fields) t section lines start instruction_bytes → AllByRecursion IsFieldOfBytes fields → new ≡ t → IsCutOff s s fields new start instruction_bytes
whole_cut_off s fields t new section lines start instruction_bytes h are_bytes same =
    let all : take (length fields) fields ≡ fields = take_all (length fields) fields (omega arith) in
    record { front = length fields; within = omega arith; are_bytes = rw all are_bytes; stores = same ∙ rw all h.state.stores; instructions_are = rw all h.instructions_are }
