-- A row of places for request streams, and the streams in it and in a map behind it.
use Rattle.std.specs.Prelude.{◌≡◌, ◌≢◌, ℕ, ◌/◌, ◌%◌, ◌==◌, if◌then◌else◌, false, List, slice_get, Option, Some, None, IsSome}
use Rattle.std.specs.BTreeMap.{is_at}
use Rattle.std.specs.Ordering.{nat_cmp}
use Rattle.h3_connection.specs.State.{RequestState, kept_at}
use Rattle.h3_connection.specs.StreamSets.{Streams}
use Rattle.h3_requests.specs.Listed.{either}
use Rattle.h3_requests.specs.declared.under_way.row.Place.{Place}
use Rattle.h3_requests.specs.declared.under_way.row.Row.{Row}

-- the stream of this id, where it stands in this place
abbrev pub in_place : Place → ℕ → Option RequestState
in_place p id = if p.id == id then p.stream else None

abbrev pub held_by : Option Place → ℕ → Option RequestState
held_by None id = None
held_by (Some p) id = in_place p id

-- the stream of this id, where it stands in its place: the ids of request streams are four apart (RFC 9000, section 2.1), and 128 of them
-- in a row have places of their own
abbrev pub held_in : List Place → ℕ → Option RequestState
held_in places id = held_by (slice_get places (id / 4 % 128)) id

abbrev pub held_at : Row → ℕ → Option RequestState
held_at r = held_in r.places.items

abbrev pub IsFree : Option Place → Type 0
IsFree None = ⊥
IsFree (Some p) = p.stream ≡ None

-- nothing stands in the place of this id
abbrev pub HasFreePlace : Row → ℕ → Type 0
HasFreePlace r id = IsFree (slice_get r.places.items (id / 4 % 128))

-- Each stream is there as it was.
abbrev pub HoldSame : Row → Row → Type 0
HoldSame before after = (q : ℕ) → held_at after q ≡ held_at before q

-- Of one id this is there, and the others are as they were.
pub record IsOneHeld (id : ℕ) (stream : Option RequestState) (before after : Row) : Type 0 where
  pub own : held_at after id ≡ stream
  pub others : (q : ℕ) → q ≢ id → held_at after q ≡ held_at before q

-- the stream of this id, in the row or else in the map behind it
abbrev pub found_at : Row → Streams RequestState → ℕ → Option RequestState
found_at r others id = either (held_at r id) (kept_at others id)

-- what stands in the row does not stand in the map
abbrev pub AreApart : Row → Streams RequestState → Type 0
AreApart r others = (q : ℕ) → IsSome (held_at r q) → kept_at others q ≡ None

-- in the map the same is found at each other key
abbrev pub KeepsOthers : Streams RequestState → Streams RequestState → ℕ → Type 0
KeepsOthers old new id = (q : ℕ) → is_at (nat_cmp id) q ≡ false → kept_at new q ≡ kept_at old q
