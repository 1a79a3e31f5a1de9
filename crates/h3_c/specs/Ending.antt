-- What the exports promise that speak of the ends of streams.
use Rattle.std.specs.Prelude.{◌≡◌, ◌⊎◌, ℕ, Bool, if◌then◌else◌, Some, None}
use Rattle.h3_connection.specs.EndsWaiting.{ShowsNextToSend, TakesEnd}
use Rattle.h3_c.specs.declared.numbers.Told.{Told}
use Rattle.h3_c.specs.Numbers.{ok, none}
use Rattle.h3_c.specs.Seen.{Seen}

-- `H3_NONE` where no end was next
abbrev pub end_told : Bool → Told
end_told waited = if waited then ok else none

-- `h3_end_taken`
pub record TakesEndOf (v w : Seen) (id : ℕ) (n : Told) : Type 0 where
  pub waited : Bool
  pub is : n ≡ end_told waited
  pub taken : TakesEnd v.endpoint w.endpoint id waited
  pub last : w.last ≡ v.last
  pub events : w.events ≡ v.events

-- `h3_next_to_send`: the least id from there on of a stream on which bytes or an end wait; or nothing waits on any of them, and no id is written
abbrev pub SendsNext : Seen → ℕ → Told → ℕ → ℕ → Type 0
SendsNext v from n before after = ((n ≡ ok) × ShowsNextToSend v.endpoint from (Some after)) ⊎ ((n ≡ none) × ShowsNextToSend v.endpoint from None × (after ≡ before))
