-- What an encoder keeps of its history.
use Rattle.std.specs.Prelude.{◌≡◌, ◌⊎◌, false, ◌<◌, ◌≤◌, ℕ, Bool, ◌+◌, ◌-◌, ◌^◌, true, ◌&&◌, ◌||◌, min, max, List, [], ◌∷◌, length, map, filter, fold, nat_lt, if◌then◌else◌, ◌==◌}
use Rattle.std.specs.List.{list_any}
use Rattle.h3_field.specs.Instruction.{DecoderInstruction}
use Rattle.h3_field.specs.Instruction.DecoderInstruction.{Acknowledge, CancelStream, Increment}
use Rattle.h3_table.specs.InOrder.{in_order, put_last}
use Rattle.h3_table.specs.Cancellations.{Cancellations, with_canceled, counts_as_canceled}
use Rattle.h3_table.specs.Tracking.{is_of, is_free_to, newest_named, without_newest, without_oldest_of, without_newest_of, without_all_of}
use Rattle.h3_field.specs.Field.{Field, field_size}
use Rattle.h3_table.specs.Table.{table}
use Rattle.h3_table.specs.TableState.{TableState, evicted, with_entry, with_capacity}
use Rattle.h3_field.specs.declared.dynamic.Error.{Error}
use Rattle.h3_field.specs.declared.dynamic.Error.TheVariants.{MaximumTableSizeTooLarge, MaxTableSizeReached}
use Rattle.h3_qpack.specs.EncoderHistory.{EncoderHistory, UnacknowledgedSection}
use Rattle.h3_qpack.specs.declared.encoder_choices.EncoderChoices.{EncoderChoices}
use Rattle.h3_table.specs.declared.tracking.TrackedSection.{TrackedSection}

pub record EncoderState : Type 0 where
  pub table : TableState
  -- the most that the table may have, and the greatest capacity that the decoder announced
  pub most_capacity : ℕ
  pub announced : ℕ
  pub limit : ℕ
  pub known_received : ℕ
  -- the required insert counts above what is known to be received, in increasing order
  pub blocking_counts : List ℕ
  -- the sections in the order of their streams, and those of one stream in the order of sending
  pub tracked : List TrackedSection
  -- the streams of which a cancellation was read
  pub canceled : Cancellations
  pub counts_acknowledgments : Bool
  pub choices : EncoderChoices
  -- marks of the last values that it wrote as literals
  pub marks : List ℕ

-- the least of some numbers
abbrev pub least : List ℕ → ℕ
least [] = 0
least (n ∷ ns) = fold min n ns

abbrev pub tracked_section : UnacknowledgedSection → TrackedSection
tracked_section t = record { stream = t.stream; oldest = least t.references; newest = fold max 0 t.references }

abbrev pub encoder_state : EncoderHistory → EncoderState
encoder_state s =
    record {
      table = record { capacity = s.capacity; entries = table s.capacity s.inserted; inserted = length s.inserted };
      most_capacity = s.most_capacity;
      announced = s.announced;
      limit = s.limit;
      known_received = s.known_received;
      blocking_counts = in_order (λ count. count) (filter (λ count. nat_lt s.known_received count) s.required_insert_counts);
      tracked = in_order (λ t. t.stream) (map tracked_section s.tracked);
      canceled = s.canceled;
      counts_acknowledgments = s.counts_acknowledgments;
      choices = s.choices;
      marks = s.marks;
    }

-- The stream counts as canceled.
abbrev pub was_canceled_in : EncoderState → ℕ → Bool
was_canceled_in s stream = counts_as_canceled s.canceled stream (list_any (is_of stream) s.tracked)

-- So many insertions are known to be received.
abbrev pub knowing : EncoderState → ℕ → EncoderState
knowing s known = record s { known_received = known; blocking_counts = filter (λ c. nat_lt known c) s.blocking_counts }

-- what is known to be received, after a further increment
abbrev pub raised : EncoderState → ℕ → EncoderState
raised s count = knowing s (min (s.known_received + count) (2 ^ 64 - 1))

-- what is known to be received, after an acknowledgment of the stream
abbrev pub raised_by : EncoderState → ℕ → EncoderState
raised_by s stream = if s.counts_acknowledgments then knowing s (max s.known_received (newest_named stream s.tracked)) else s

-- an increment that is 0 or past what was inserted, where acknowledgments count
abbrev pub refuses_increment : EncoderState → ℕ → Bool
refuses_increment s count = s.counts_acknowledgments && ((count == 0) || nat_lt s.table.inserted (s.known_received + count))

-- the state after an instruction of the decoder
abbrev pub encoder_state_after : EncoderState → DecoderInstruction → EncoderState
encoder_state_after s (Acknowledge stream) = record (raised_by s stream) { tracked = without_oldest_of stream s.tracked }
encoder_state_after s (CancelStream stream) = record s { tracked = without_all_of stream s.tracked; canceled = with_canceled s.canceled stream }
encoder_state_after s (Increment count) = raised s count

-- RFC 9204 2.1.1: entries that may be evicted
-- The field may be inserted: it may be indexed, it fits, and the entries that it evicts are known to be received, named by no section that
-- is tracked, and below the oldest entry that is otherwise named.
pub record MayInsertInto (s : EncoderState) (f : Field) (oldest : ℕ) : Type 0 where
  pub plain : f.never_indexed ≡ false
  pub few : s.table.inserted + 1 < 2 ^ 62
  pub fits : field_size f ≤ s.table.capacity
  pub known : evicted (with_entry s.table f) ≤ max s.known_received (evicted s.table)
  pub free : is_free_to (evicted (with_entry s.table f)) s.tracked ≡ true
  pub own : evicted (with_entry s.table f) < oldest

-- the state after a section was written that names entries
abbrev pub encoder_state_sent : EncoderState → ℕ → ℕ → ℕ → EncoderState
encoder_state_sent s stream count oldest =
    record s {
      blocking_counts = if nat_lt s.known_received count then put_last (λ n. n) count s.blocking_counts else s.blocking_counts;
      tracked = put_last (λ t. t.stream) (record { stream = stream; oldest = oldest; newest = count }) s.tracked;
    }

-- the state after the newest section of the stream, which has that required insert count, was withdrawn
abbrev pub encoder_state_withdrawn : EncoderState → ℕ → ℕ → EncoderState
encoder_state_withdrawn s stream count =
    record s {
      blocking_counts = without_newest (λ other. other == count) s.blocking_counts;
      tracked = if count == 0 then s.tracked else without_newest_of stream s.tracked;
    }

-- The table may be given this capacity: no section that is tracked names an entry to be evicted. That what is evicted is known to
-- be received (RFC 9204, section 3.2.3) is not enforced.
pub record MayHaveCapacity (s : EncoderState) (capacity : ℕ) : Type 0 where
  pub small : capacity < 2 ^ 30
  pub free : is_free_to (evicted (with_capacity s.table capacity)) s.tracked ≡ true

-- why it is not given
abbrev pub IsCapacityRefusal : EncoderState → ℕ → Error → Type 0
IsCapacityRefusal s capacity e = ((2 ^ 30 ≤ capacity) × (e ≡ MaximumTableSizeTooLarge))
    ⊎ ((capacity < 2 ^ 30) × (is_free_to (evicted (with_capacity s.table capacity)) s.tracked ≡ false) × (e ≡ MaxTableSizeReached))
