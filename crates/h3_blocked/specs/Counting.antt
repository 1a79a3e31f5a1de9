-- How many streams wait for more insertions than these, without a look at each: how many wait for each count.
use Rattle.std.specs.Prelude.{◌≡◌, ◌≢◌, ◌<◌, ◌≤◌, ℕ, ◌+◌, ◌-◌, ◌^◌, Bool, count_by, sum_by, if◌then◌else◌, nat_lt, Option, Some, None, unwrap_or}
use Rattle.std.specs.BTreeMap.{is_at, BTreeMap}
use Rattle.std.specs.List.{range_with_len}
use Rattle.std.specs.Map.{lookup}
use Rattle.std.specs.Ordering.{nat_cmp}
use Rattle.h3_connection.specs.State.{RequestState}
use Rattle.h3_connection.specs.StreamSets.{Streams}
use Rattle.h3_blocked.specs.declared.counts.Blocked.{Blocked}

abbrev pub one_if : Bool → ℕ
one_if b = if b then 1 else 0

-- f at a number above n, and else 0
abbrev pub where_above : ℕ → (ℕ → ℕ) → ℕ → ℕ
where_above n f k = if nat_lt n k then f k else 0

-- the sum of f over the numbers of 64 bits above n
unfoldable pub sum_above : ℕ → (ℕ → ℕ) → ℕ
sum_above n f = sum_by (where_above n f) (range_with_len 0 (2 ^ 64))

-- how many streams wait for this count, and 0 where it is not there
abbrev pub number_in : BTreeMap ℕ ℕ → ℕ → ℕ
number_in streams count = unwrap_or (lookup (is_at (nat_cmp count)) streams.entries) 0

-- without the newest
abbrev pub number_at : Blocked → ℕ → ℕ
number_at b = number_in b.streams

-- One count has this number, and the others have the same.
pub record IsOneNumber (count number : ℕ) (before after : ℕ → ℕ) : Type 0 where
  pub own : after count ≡ number
  pub others : (other : ℕ) → other ≢ count → after other ≡ before other

-- how many counts are greater
abbrev pub above : ℕ → Blocked → ℕ
above n b = sum_above n (number_at b) + one_if (nat_lt n b.newest)

-- how many streams wait for more
abbrev pub waiting_above : ℕ → Streams RequestState → ℕ
waiting_above n streams = count_by (λ s. nat_lt n s.1.incoming.waits_for) streams

-- the counts are those that the streams wait for
abbrev pub Agrees : Blocked → Streams RequestState → Type 0
Agrees b streams = (n : ℕ) → above n b ≡ waiting_above n streams

-- what a stream waits for, and 0 where none is there
abbrev pub waits_at : Option RequestState → ℕ
waits_at None = 0
waits_at (Some r) = r.incoming.waits_for

-- what is kept beside the counts is what they say
pub record IsSound (b : Blocked) : Type 0 where
  pub total : sum_above 0 (number_at b) ≡ b.total
  pub few : b.total ≤ 2 ^ 62
  pub passed : sum_above b.passed (number_at b) ≡ b.above_passed

-- one count can be put in with no memory
abbrev pub HasRoom : Blocked → Type 0
HasRoom b = b.newest ≡ 0

-- the counts are the same
abbrev pub SameCounts : Blocked → Blocked → Type 0
SameCounts old new = (n : ℕ) → above n new ≡ above n old

-- one count was taken out and another one put in; a count of 0 stands for none
abbrev pub Replaces : Blocked → Blocked → ℕ → ℕ → Type 0
Replaces old new before after = (n : ℕ) → above n new + one_if (nat_lt n before) ≡ above n old + one_if (nat_lt n after)

-- it is among the counts, unless it is 0
abbrev pub HasCount : Blocked → ℕ → Type 0
HasCount b count = 0 < count → above count b < above (count - 1) b

-- the least count above n for which streams wait, and how many do
abbrev pub IsNextCount : Blocked → ℕ → Option (ℕ × ℕ) → Type 0
IsNextCount b n None = (k : ℕ) → n < k → k < 2 ^ 64 → number_at b k ≡ 0
IsNextCount b n (Some (count, number)) = (n < count) × (number_at b count ≡ number) × ((k : ℕ) → n < k → k < count → number_at b k ≡ 0)

-- 1 where this stream waits for more
abbrev pub counted : ℕ → RequestState → ℕ
counted n r = one_if (nat_lt n r.incoming.waits_for)
