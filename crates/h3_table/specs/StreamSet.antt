-- A set of streams, by words of 64 bits.
use Rattle.std.specs.Prelude.{ℕ, ◌+◌, ◌*◌, ◌/◌, ◌%◌, ◌^◌, Bool, List, filter, ◌==◌}
use Rattle.std.specs.List.{range_with_len}
use Rattle.std.specs.Int.{bit_at}

-- The number of the word in which a stream has its bit: 64 streams of one kind, one behind the other, share a word. A stream's kind
-- is its number modulo 4.
abbrev pub word_of : ℕ → ℕ
word_of stream = stream / 256 * 4 + stream % 4

-- the place of its bit
abbrev pub place_of : ℕ → ℕ
place_of stream = stream / 4 % 64

-- whether the stream has its bit in the word of its number
abbrev pub is_in : (ℕ → ℕ) → ℕ → Bool
is_in words stream = bit_at (words (word_of stream)) (place_of stream) == 1

-- the streams that have their bits, in order
unfoldable pub streams_in : (ℕ → ℕ) → List ℕ
streams_in words = filter (is_in words) (range_with_len 0 (2 ^ 64))
