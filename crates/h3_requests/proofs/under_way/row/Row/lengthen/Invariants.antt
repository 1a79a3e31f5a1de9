-- The streams stay, and there is room for the other places.
use Rattle.std.proofs.Common.{◌≡◌, ◌≤◌, ◌+◌, ℕ, vec_capacity, vec_len}
use Rattle.h3_requests.specs.Row.{held_at}
use Rattle.h3_requests.proofs.under_way.row.Row.lengthen.Given as goal

abbrev pub invariant-loop : goal.invariant-loop
invariant-loop l = ((q : ℕ) → held_at l.self q ≡ held_at l.fn.self q) × (vec_len l.self.places ≡ vec_len l.fn.self.places + l.counter) × (vec_len l.fn.self.places + l.fn.more ≤ vec_capacity l.self.places)
