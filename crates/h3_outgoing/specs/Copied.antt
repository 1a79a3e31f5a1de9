-- Bytes that are copied into a buffer.
use Rattle.std.specs.Prelude.{◌≡◌, ℕ, ◌+◌, ◌-◌, List, ◌++◌, length, take, drop, min}

-- A buffer with the first of these bytes at its front, as many as fit, and behind them what was there.
abbrev pub put : List ℕ → List ℕ → List ℕ
put bytes before = take (length before) bytes ++ drop (length bytes) before

-- That is what the buffer is, and how many of them there are.
pub record Filled (bytes before out : List ℕ) (count : ℕ) : Type 0 where
  pub filled : out ≡ put bytes before
  pub place : count ≡ min (length bytes) (length before)

-- The same from a place on, and the place behind them.
pub record Puts (bytes : List ℕ) (at : ℕ) (before : List ℕ) (next : ℕ) (out : List ℕ) : Type 0 where
  pub place : next ≡ at + min (length bytes) (length before - at)
  pub front : out ≡ take at before ++ put bytes (drop at before)
