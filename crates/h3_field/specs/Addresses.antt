-- Numbers of entries, and their places among the present ones (RFC 9204, section 3.2.4).
use Rattle.std.specs.Prelude.{◌≡◌, ◌⊎◌, ◌<◌, ◌≤◌, ℕ, ◌+◌}

-- how many entries were added, and how many of them were dropped
pub record Addresses : Type 0 where
  pub inserted : ℕ
  pub dropped : ℕ

-- The entry of that number is present, at that place from the oldest one on.
pub record Names (a : Addresses) (number place : ℕ) : Type 0 where
  pub present : number ≤ a.inserted
  pub at : number ≡ a.dropped + place + 1

-- No entry of that number is present.
abbrev pub NamesNone : Addresses → ℕ → Type 0
NamesNone a number = (number ≤ a.dropped) ⊎ (a.inserted < number)
