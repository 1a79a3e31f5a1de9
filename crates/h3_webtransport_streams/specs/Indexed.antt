-- The index of the streams that take turns.
use Rattle.std.specs.Prelude.{◌≡◌, ◌≢◌, ◌<◌, ◌≤◌, ◌||◌, ◌==◌, ℕ, suc, Bool, true, false, List, [], ◌∷◌, length, take, drop, is_some, Option, Result, Ok, Err}
use Rattle.std.specs.List.{AllByRecursion}
use Rattle.std.specs.List.Sorted.{IsStrictlySortedBy}
use Rattle.std.specs.Ordering.{nat_cmp}
use Rattle.h3_connection.specs.State.{kept_at}
use Rattle.h3_connection.specs.StreamSets.{Streams}
use Rattle.h3_webtransport_streams.specs.SessionStream.{SessionStream, passes, takes_turns}
use Rattle.h3_webtransport_streams.specs.Sessions.{IsBelow}

pub record TurnIdsState : Type 0 where
  pub ids : List ℕ
  -- there is memory for so many
  pub room : ℕ

-- an id stands in a list
abbrev pub has_id : List ℕ → ℕ → Bool
has_id [] q = false
has_id (id ∷ ids) q = (id == q) || has_id ids q

-- each id is below those after it
abbrev pub Rises : List ℕ → Type 0
Rises ids = IsStrictlySortedBy nat_cmp ids

-- no list that rises has more ids that pass a test
abbrev pub AreAtMost : (ℕ → Bool) → ℕ → Type 0
AreAtMost passes n = (ids : List ℕ) → Rises ids → ((q : ℕ) → has_id ids q ≡ true → passes q ≡ true) → length ids ≤ n

-- where an id stands in a list, or between which others it would
abbrev pub IsPlace : List ℕ → ℕ → Result ℕ ℕ → Type 0
IsPlace ids id (Ok place) = (place < length ids) × (drop place ids ≡ id ∷ drop (suc place) ids)
IsPlace ids id (Err place) = (place ≤ length ids) × AllByRecursion (λ q. q < id) (take place ids) × AllByRecursion (λ q. id < q) (drop place ids)

-- so many ids are below a number, if there is one
abbrev pub IsCountBelow : Option ℕ → List ℕ → ℕ → Type 0
IsCountBelow below ids count =
    (count ≤ length ids) × AllByRecursion (λ q. IsBelow below q) (take count ids) × AllByRecursion (λ q. IsBelow below q → ⊥) (drop count ids)

-- the ids are those of the streams that take turns, and there is room for those of all streams
pub record AreIndexed (turns : TurnIdsState) (streams : Streams SessionStream) : Type 0 where
  pub ids : (q : ℕ) → has_id turns.ids q ≡ passes takes_turns (kept_at streams q)
  pub room : AreAtMost (λ q. is_some (kept_at streams q)) turns.room

-- the same but for one stream, which has changed
pub record AreIndexedBut (id : ℕ) (turns : TurnIdsState) (streams : Streams SessionStream) : Type 0 where
  pub others : (q : ℕ) → q ≢ id → has_id turns.ids q ≡ passes takes_turns (kept_at streams q)
  pub room : AreAtMost (λ q. is_some (kept_at streams q)) turns.room
