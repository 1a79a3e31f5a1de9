-- Which of the first request streams were seen. Their ids are 0, 4, 8 and so on (RFC 9000, section 2.1).
use Rattle.std.specs.Prelude.{◌≡◌, ◌<◌, ◌≤◌, ℕ, ◌*◌, ◌^◌, true, is_some}
use Rattle.h3_connection.specs.State.{RequestState, kept_at}
use Rattle.h3_connection.specs.StreamSets.{Streams}

-- so many of the first ones are there, of those whose ids have 62 bits
pub record AreSeen (count : ℕ) (streams : Streams RequestState) : Type 0 where
  pub few : count ≤ 2 ^ 60
  pub there : (n : ℕ) → n < count → is_some (kept_at streams (4 * n)) ≡ true
