-- How many streams wait, when one of them changes or insertions come.
use Rattle.std.proofs.Common.{arith, ◌≡◌, ◌≤◌, ℕ, ◌+◌, Bool, true, false, [], ◌∷◌, ap, inl, inr}
use Rattle.std.specs.Prelude.{Option, Some, None, if◌then◌else◌, ◌==◌, nat_lt, count_by}
use Rattle.std.proofs.lemmas.List.Sums.{sum_by-cons}
use Rattle.std.proofs.lemmas.Grind.{common_steps}
use Rattle.std.proofs.lemmas.Bool.{cases_eq, cases_lt, lt-ltb, le-ltb}
use Rattle.h3_connection.specs.Incoming.{Incoming}
use Rattle.h3_connection.specs.StreamSets.{Streams, stream_at, set_stream}

abbrev pub waiting_above : ℕ → Streams Incoming → ℕ
waiting_above n streams = count_by (λ s. nat_lt n s.1.waits_for) streams

abbrev pub one_if : Bool → ℕ
one_if b = if b then 1 else 0

pub count_more : (n q : ℕ) (i : Incoming) (streams : Streams Incoming) → waiting_above n ((q, i) ∷ streams) ≡ one_if (nat_lt n i.waits_for) + waiting_above n streams
count_more n q i streams = sum_by-cons (λ s. if nat_lt n s.1.waits_for then 1 else 0) (q, i) streams

one_less : (n m a b : ℕ) → m ≤ n → a ≤ b → one_if (nat_lt n a) ≤ one_if (nat_lt m b)
one_less n m a b h k = elim (cases_lt n a) [
  | inl less ↦ rw (lt-ltb n a less, lt-ltb m b (omega (arith, h, k, less))) (omega arith)
  | inr more ↦ rw (le-ltb n a more) (omega arith)
]

-- what a stream that is not there waits for is nothing
abbrev pub waits_at : Option Incoming → ℕ
waits_at None = 0
waits_at (Some i) = i.waits_for

-- a stream that waits for no more than it did: no more streams wait
pub count_set : (n : ℕ) (streams : Streams Incoming) (id : ℕ) (i : Incoming) → i.waits_for ≤ waits_at (stream_at streams id) → waiting_above n (set_stream streams id i) ≤ waiting_above n streams
count_set n [] id i h =
    let none : nat_lt n i.waits_for ≡ false = le-ltb n i.waits_for (omega (arith, h)) in
    omega (arith, count_more n id i [], ap one_if none)
count_set n ((q, y) ∷ streams) id i h = elim (cases_eq q id) [
  | inl same ↦
      let here : (q == id) ≡ true = grind (arith, common_steps) in
      let few : i.waits_for ≤ y.waits_for = rw here at h in
      rw here (omega (arith, count_more n id i streams, count_more n q y streams, one_less n n i.waits_for y.waits_for (omega arith) few))
  | inr differs ↦
      let there : (q == id) ≡ false = grind (arith, common_steps) in
      let behind : i.waits_for ≤ waits_at (stream_at streams id) = rw there at h in
      rw there (omega (arith, count_more n q y (set_stream streams id i), count_more n q y streams, count_set n streams id i behind))
]

-- and once further insertions came
pub count_inserted : (n m : ℕ) (streams : Streams Incoming) → m ≤ n → waiting_above n streams ≤ waiting_above m streams
count_inserted n m [] h = omega arith
count_inserted n m ((q, y) ∷ streams) h =
    omega (arith, count_more n q y streams, count_more m q y streams, one_less n m y.waits_for y.waits_for h (omega arith), count_inserted n m streams h)
