-- What `h3_read` promises: a piece of a body where it lies; else the calls that it makes, one after another, of the bytes that it used.
use Rattle.std.specs.Prelude.{◌≡◌, ◌⊎◌, ℕ, ◌+◌, ◌^◌, ◌≤◌, ◌<◌, ◌&&◌, ◌==◌, nat_lt, Bool, true, false, if◌then◌else◌, List, [], ◌∷◌, length, take, Option, Some, None, Ok, Err}
use Rattle.h3_connection.specs.Calls.{IsSame}
use Rattle.h3_connection.specs.Endpoint.{EndpointHistory}
use Rattle.h3_connection.specs.ReceivingContracts.{Delivers, DeliversEnd}
use Rattle.h3_connection.specs.Shutdown.{is_rejected_in}
use Rattle.h3_connection.specs.State.{EndpointState, StandsFor}
use Rattle.h3_connection.specs.declared.event.DeliverError.{DeliverError}
use Rattle.h3_connection.specs.declared.event.DeliverError.TheVariants as deliver_error
use Rattle.h3_connection.specs.declared.event.Refusal.TheVariants as refusal
use Rattle.h3_connection.specs.declared.lists.ListPull.TheVariants as answer
use Rattle.h3_incoming.specs.declared.body_place.BodyPlace.{BodyPlace}
use Rattle.h3_session.specs.ReadingBodies.{place_next, ReadsBody}
use Rattle.h3_c.specs.Exported.{OnStream, Pulls, UnlessRejected, Unwritten}
use Rattle.h3_c.specs.Numbers.{delivery_told, ok}
use Rattle.h3_c.specs.Seen.{Seen}
use Rattle.h3_c.specs.declared.items.PulledItem.{PulledItem}
use Rattle.h3_c.specs.declared.connection.reading.Stop.{Stop}
use Rattle.h3_c.specs.declared.numbers.Told.{Told}

-- `H3_BODY_GIVEN`: where it lies in the bytes that were given, and how long it is
abbrev pub place_shown : BodyPlace → PulledItem
place_shown p = record { kind = 17; status = 0; number = p.offset; fields = 0; len = p.len }

-- The bytes are delivered, where there are any.
abbrev pub TakesBytes : EndpointState → EndpointState → ℕ → List ℕ → Type 0
TakesBytes old new id [] = new ≡ old
TakesBytes old new id (byte ∷ bytes) = Delivers old new id (byte ∷ bytes) (Ok tt)

-- The end is delivered; or, with no bytes before it, it had come before, and nothing changes.
abbrev pub EndsThere : Bool → EndpointState → EndpointState → ℕ → Type 0
EndsThere is_alone old new id = DeliversEnd old new id (Ok tt) ⊎ ((is_alone ≡ true) × DeliversEnd old new id (Err (deliver_error.Refused refusal.AfterEnd)))

-- The end is delivered where it stands behind what was used.
abbrev pub TakesEnd : Bool → Bool → EndpointState → EndpointState → ℕ → Type 0
TakesEnd false is_alone old new id = new ≡ old
TakesEnd true is_alone old new id = EndsThere is_alone old new id

-- the end stands behind so many of the bytes
abbrev pub ends_with : ℕ → List ℕ → ℕ → Bool
ends_with fin bytes used = nat_lt 0 fin && (used == length bytes)

-- what was refused was taken all the same, and is kept
abbrev pub is_kept : DeliverError → Bool
is_kept deliver_error.Kept = true
is_kept e = false

abbrev pub taken_of : Bool → ℕ → ℕ
taken_of is_taken count = if is_taken then count else 0

-- Why no bytes are taken, or all but what memory lacked for. That memory for a copy of them was refused is told after what else refuses them.
pub record StopsAt (old new : EndpointState) (id : ℕ) (bytes : List ℕ) (stop : Stop) : Type 0 where
  pub error : DeliverError
  pub told : stop.told ≡ delivery_told {X = Unit {0}} (Err error)
  pub refused : Delivers old new id bytes (Err error)
  pub taken : stop.is_taken ≡ is_kept error
  pub some : 0 < length bytes

-- the end or a reset came before
abbrev pub is_after_end : DeliverError → Bool
is_after_end (deliver_error.Refused refusal.AfterEnd) = true
is_after_end e = false

-- why the end is refused: with no bytes before it, not since it had come before
abbrev pub RefusesEnd : Bool → EndpointState → EndpointState → ℕ → Told → Type 0
RefusesEnd is_alone old new id n = (e : DeliverError) × (n ≡ delivery_told {X = Unit {0}} (Err e)) × DeliversEnd old new id (Err e) × ((is_alone && is_after_end e) ≡ false)

-- A piece of a body lies in the bytes: C gets its place, and nothing of the bytes is kept.
pub record ReadsPlaced (v w : Seen) (id : ℕ) (bytes : List ℕ) (p : BodyPlace) (n : Told) (given : PulledItem) (used : ℕ) : Type 0 where
  pub done : n ≡ ok
  pub used_is : used ≡ p.offset + p.len
  pub given_so : given ≡ place_shown p
  pub reads : ReadsBody v.endpoint w.endpoint id bytes p
  pub last : w.last ≡ answer.Pending
  pub events : w.events ≡ v.events

-- A read of bytes that are copied, with or without the end of the stream behind them, and how many of them it used.
pub data ReadsCopied (v w : Seen) (id : ℕ) (bytes : List ℕ) (fin : ℕ) (n : Told) (before given : PulledItem) (used : ℕ) : Type 0 where
  -- what was used, some of the bytes where there are any, is delivered, the end behind it, and the next item is pulled
  pulled : (mid ended : EndpointState) → used ≤ length bytes → (0 < length bytes → 0 < used) → TakesBytes v.endpoint mid id (take used bytes) → TakesEnd (ends_with fin bytes used) (length bytes == 0) mid ended id
      → Pulls id n (record v { endpoint = ended }) w given → ReadsCopied v w id bytes fin n before given used
  -- the bytes were refused
  stopped : (count : ℕ) (stop : Stop) → count ≤ length bytes → n ≡ stop.told → StopsAt v.endpoint w.endpoint id (take count bytes) stop → w.last ≡ v.last → w.events ≡ v.events → used ≡ taken_of stop.is_taken count → given ≡ before
      → ReadsCopied v w id bytes fin n before given used
  -- the bytes were taken, and the end was refused
  unended : (mid : EndpointState) → ends_with fin bytes used ≡ true → TakesBytes v.endpoint mid id bytes → RefusesEnd (length bytes == 0) mid w.endpoint id n → w.last ≡ v.last → w.events ≡ v.events → given ≡ before
      → ReadsCopied v w id bytes fin n before given used

-- The same from an endpoint at which nothing changed before.
pub record CopiesNext (v w : Seen) (id : ℕ) (bytes : List ℕ) (fin : ℕ) (n : Told) (before given : PulledItem) (used : ℕ) : Type 0 where
  pub start : EndpointState
  pub same : IsSame v.endpoint start
  pub reads : ReadsCopied (record v { endpoint = start }) w id bytes fin n before given used

-- where the first piece of a body lies; else the bytes are copied
abbrev pub ReadsAt : Option BodyPlace → Seen → Seen → ℕ → List ℕ → ℕ → Told → PulledItem → PulledItem → ℕ → Type 0
ReadsAt (Some p) v w id bytes fin n before given used = ReadsPlaced v w id bytes p n given used
ReadsAt None v w id bytes fin n before given used = CopiesNext v w id bytes fin n before given used

-- A read of bytes that came on a stream: a piece of a body is told by its place exactly where the endpoint reads one so (`place_next`).
pub record ReadsNext (v w : Seen) (id : ℕ) (bytes : List ℕ) (fin : ℕ) (n : Told) (before given : PulledItem) (used : ℕ) : Type 0 where
  pub place : Option BodyPlace
  pub is_next : (e : EndpointHistory) → StandsFor v.endpoint e → place ≡ place_next e id bytes
  pub reads : ReadsAt place v w id bytes fin n before given used

-- `h3_read`: neither an unknown stream nor a request that is rejected uses a byte or writes an item.
pub record ReadsOn (v w : Seen) (id : ℕ) (bytes : List ℕ) (fin : ℕ) (n : Told) (before given : PulledItem) (used : ℕ) : Type 0 where
  pub reads : OnStream id n v w (UnlessRejected id n v w (ReadsNext v w id bytes fin n before given used))
  pub unknown : Unwritten id ((given ≡ before) × (used ≡ 0))
  pub rejected : id < 2 ^ 62 → is_rejected_in v.endpoint id ≡ true → (given ≡ before) × (used ≡ 0)
