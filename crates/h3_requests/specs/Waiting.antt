-- A set of streams with places, by classes, and the streams on which something waits: a bit each in words of 64 request streams.
use Rattle.std.specs.Prelude.{◌≡◌, ◌≢◌, ◌<◌, ◌≤◌, ℕ, zero, suc, ◌+◌, ◌*◌, ◌/◌, ◌%◌, ◌^◌, Bool, true, false, ◌&&◌, ◌||◌, ◌==◌, if◌then◌else◌, nat_lt, Option, Some, None}
use Rattle.std.specs.Int.{bit_at}
use Rattle.h3_requests.specs.Words.{word_at}
use Rattle.h3_requests.specs.declared.waiting.WaitingStreams.{WaitingStreams}

-- the bits of a number's word
abbrev pub places_at : WaitingStreams → ℕ → ℕ
places_at s number = (word_at s.words number).places

abbrev pub waiting_at : WaitingStreams → ℕ → ℕ
waiting_at s number = (word_at s.words number).waiting

-- Whether a stream has its bit: the ids of request streams are four apart (RFC 9000, section 2.1), and 64 of them share a word.
abbrev pub is_in : (ℕ → ℕ) → ℕ → Bool
is_in words id = (id % 4 == 0) && (bit_at (words (id / 256)) (id / 4 % 64) == 1)

-- The number of a word of a class: each class has 2^54 words, and one number behind them that is not used.
abbrev pub word_at_number : (class number : ℕ) → ℕ
word_at_number class number = class * (2 ^ 54 + 1) + number

-- the words of a class
abbrev pub words_in : (ℕ → ℕ) → ℕ → ℕ → ℕ
words_in words class number = words (word_at_number class number)

-- whether the stream has a place in a class
abbrev pub has_place : WaitingStreams → ℕ → ℕ → Bool
has_place s class id = is_in (words_in (places_at s) class) id && nat_lt id (2 ^ 62)

-- whether something waits on it there
abbrev pub is_waiting : WaitingStreams → ℕ → ℕ → Bool
is_waiting s class id = is_in (words_in (waiting_at s) class) id && nat_lt id (2 ^ 62)

-- whether something waits on it in any of the classes below this one
abbrev pub is_any_below : ℕ → (ℕ → ℕ → Bool) → ℕ → Bool
is_any_below zero waits id = false
is_any_below (suc class) waits id = is_any_below class waits id || waits class id

-- or in any
abbrev pub is_any : (ℕ → ℕ → Bool) → ℕ → Bool
is_any waits id = is_any_below 17 waits id

-- the first class in which something waits
abbrev pub IsFirstClass : (ℕ → ℕ → Bool) → Option ℕ → Type 0
IsFirstClass waits None = (class q : ℕ) → class < 17 → waits class q ≡ false
IsFirstClass waits (Some first) = ((q : ℕ) × (waits first q ≡ true)) × ((class q : ℕ) → class < first → waits class q ≡ false)

-- nothing waits in the classes from one on and below this one, or in any from there on
abbrev pub IsClassFrom : (ℕ → ℕ → Bool) → ℕ → Option ℕ → Type 0
IsClassFrom waits from None = (class q : ℕ) → from ≤ class → class < 17 → waits class q ≡ false
IsClassFrom waits from (Some found) = (from ≤ found) × (found < 17) × ((class q : ℕ) → from ≤ class → class < found → waits class q ≡ false)

-- The test of one number answers this, and that of each other one as before.
pub record IsOneTest (id : ℕ) (is : Bool) (before after : ℕ → Bool) : Type 0 where
  pub own : after id ≡ is
  pub others : (q : ℕ) → q ≢ id → after q ≡ before q

-- So of one stream in one class.
abbrev pub IsOnePlace : (class id : ℕ) → Bool → (before after : ℕ → ℕ → Bool) → Type 0
IsOnePlace class id is before after = (c q : ℕ) → after c q ≡ (if (c == class) && (q == id) then is else before c q)

-- It passes from then on if it is to, or did.
abbrev pub PutIf : (class id : ℕ) → Bool → (before after : ℕ → ℕ → Bool) → Type 0
PutIf class id is before after = (c q : ℕ) → after c q ≡ (if (c == class) && (q == id) then is || before c q else before c q)

-- All other streams have the places that they had.
abbrev pub KeepsOtherPlaces : (class id : ℕ) → (before after : ℕ → ℕ → Bool) → Type 0
KeepsOtherPlaces class id before after = (c q : ℕ) → ((c == class) && (q == id)) ≡ false → after c q ≡ before c q

-- Each number has the same word.
abbrev pub HaveSameWords : (ℕ → ℕ) → (ℕ → ℕ) → Type 0
HaveSameWords before after = (number : ℕ) → after number ≡ before number

-- One number has this word, and the others have the same.
pub record IsOneWord (number word : ℕ) (before after : ℕ → ℕ) : Type 0 where
  pub own : after number ≡ word
  pub others : (other : ℕ) → other ≢ number → after other ≡ before other
