-- Words of 64 streams by their numbers: in a row of places, or in a map those whose place another has.
use Rattle.std.specs.Prelude.{◌≡◌, ◌≢◌, ℕ, ◌%◌, Bool, true, ◌&&◌, ◌==◌, if◌then◌else◌, List, slice_get, Option, Some, None, IsSome, nat_le, nat_lt, unwrap_or}
use Rattle.std.specs.BTreeMap.{is_at}
use Rattle.std.specs.Map.{lookup}
use Rattle.std.specs.Ordering.{nat_cmp}
use Rattle.h3_requests.specs.Listed.{either}
use Rattle.h3_requests.specs.declared.waiting.word.Word.{Word}
use Rattle.h3_requests.specs.declared.waiting.near.NearWord.{NearWord}
use Rattle.h3_requests.specs.declared.waiting.near.NearWords.{NearWords}

abbrev pub is_empty : Word → Bool
is_empty w = (w.places == 0) && (w.waiting == 0)

abbrev pub no_bits : Word
no_bits = record { places = 0; waiting = 0 }

-- a word, where it has bits
abbrev pub with_bits : Word → Option Word
with_bits w = if is_empty w then None else Some w

-- the word of this number, where it stands in this place
abbrev pub in_place : NearWord → ℕ → Option Word
in_place p number = if p.number == number then with_bits p.word else None

abbrev pub held_by : Option NearWord → ℕ → Option Word
held_by None number = None
held_by (Some p) number = in_place p number

-- the word of this number, where it stands in its place: 16 numbers that follow one another have places of their own
abbrev pub held_in : List NearWord → ℕ → Option Word
held_in row number = held_by (slice_get row (number % 16)) number

abbrev pub near_at : NearWords → ℕ → Option Word
near_at s = held_in s.row.items

abbrev pub waiting_of : Option Word → ℕ
waiting_of None = 0
waiting_of (Some word) = word.waiting

abbrev pub near_waiting : NearWords → ℕ → ℕ
near_waiting s number = waiting_of (near_at s number)

-- it is less than the first number so far
abbrev pub is_less : ℕ → Option (ℕ × ℕ) → Bool
is_less number None = true
is_less number (Some first) = nat_lt number first.0

-- something waits on a stream of the word, which stands in its place, and its number is one from there on, and less than the first so far
abbrev pub comes_next : NearWord → ℕ → ℕ → Option (ℕ × ℕ) → Bool
comes_next p index from first = (p.number % 16 == index) && nat_lt 0 p.word.waiting && nat_le from p.number && is_less p.number first

-- Each number has the same word.
abbrev pub HoldSame : (ℕ → Option Word) → (ℕ → Option Word) → Type 0
HoldSame before after = (q : ℕ) → after q ≡ before q

-- One number has this word, and the others have the same.
pub record IsOneHeld (number : ℕ) (word : Option Word) (before after : ℕ → Option Word) : Type 0 where
  pub own : after number ≡ word
  pub others : (q : ℕ) → q ≢ number → after q ≡ before q

-- the word of this number in the map
abbrev pub far_at : List (ℕ × Word) → ℕ → Option Word
far_at entries number = lookup (is_at (nat_cmp number)) entries

abbrev pub far_waiting : List (ℕ × Word) → ℕ → ℕ
far_waiting entries number = waiting_of (far_at entries number)

-- the word of each number, in the row or else in the map
abbrev pub found_at : (ℕ → Option Word) → List (ℕ × Word) → ℕ → Word
found_at near far number = unwrap_or (either (near number) (far_at far number)) no_bits

-- the words in both
pub record StoredWords : Type 0 where
  pub near : NearWords
  pub far : List (ℕ × Word)

-- the word of a number, which has no bits where it is not there
abbrev pub word_at : StoredWords → ℕ → Word
word_at s = found_at (near_at s.near) s.far

-- what stands in the row does not stand in the map
abbrev pub AreApart : (ℕ → Option Word) → List (ℕ × Word) → Type 0
AreApart near far = (q : ℕ) → IsSome (near q) → far_at far q ≡ None

-- Each number has the same word.
abbrev pub HaveSameBits : (ℕ → Word) → (ℕ → Word) → Type 0
HaveSameBits before after = (q : ℕ) → after q ≡ before q

-- One number has this word, and the others have the same.
pub record IsOneSet (number : ℕ) (word : Word) (before after : ℕ → Word) : Type 0 where
  pub own : after number ≡ word
  pub others : (q : ℕ) → q ≢ number → after q ≡ before q
