-- How many sections wait for insertions (RFC 9204, section 2.1.2).
use Rattle.std.specs.Prelude.{◌≡◌, ℕ, zero, suc, ◌+◌, ◌-◌, ◌^◌, min, List, [], ◌∷◌, filter, nat_lt, sum, if◌then◌else◌, ◌==◌}
use Rattle.h3_table.specs.InOrder.{put_last}
use Rattle.h3_table.specs.Tracking.{without_newest}
use Rattle.h3_table.specs.declared.blocking.BlockingCounts.TheInside.{Inside}

-- The insertions that are known to be received, and the required insert counts above that, in increasing order.
pub record BlockingState : Type 0 where
  pub known_received : ℕ
  pub counts : List ℕ

-- a number so many times in front of a list
abbrev pub repeated : ℕ → ℕ → List ℕ → List ℕ
repeated zero number rest = rest
repeated (suc times) number rest = number ∷ repeated times number rest

-- the counts, of which so many are of that number, so many of the next, and so on
abbrev pub counts_from : ℕ → List ℕ → List ℕ
counts_from number [] = []
counts_from number (times ∷ rest) = repeated times number (counts_from (number + 1) rest)

-- a section more of that count, which waits where the count is above what is known to be received
abbrev pub with_count : BlockingState → ℕ → BlockingState
with_count b count = record b { counts = if nat_lt b.known_received count then put_last (λ n. n) count b.counts else b.counts }

-- without the newest section of that count
abbrev pub without_count : BlockingState → ℕ → BlockingState
without_count b count = record b { counts = without_newest (λ other. other == count) b.counts }

-- what is known to be received, after a further increment; it stops at the greatest number
abbrev pub with_increment : BlockingState → ℕ → BlockingState
with_increment b increment =
    let known = min (b.known_received + increment) (2 ^ 64 - 1) in
    record { known_received = known; counts = filter (λ c. nat_lt known c) b.counts }

abbrev pub blocking_state_inside : Inside → BlockingState
blocking_state_inside b = record { known_received = b.known_received; counts = counts_from (b.known_received + 1) b.waiting.items }

-- The total is that of the counts.
abbrev pub IsBlocking : Inside → Type 0
IsBlocking b = b.total ≡ sum b.waiting.items
