-- All streams of the sessions of one endpoint.
use Rattle.std.specs.Prelude.{◌≡◌, ◌⊎◌, ◌<◌, ◌^◌, ◌==◌, ⊤, ℕ, Bool, false, true, nat_lt, [], Option, Some, None, Result, Ok, Err, if◌then◌else◌}
use Rattle.h3_proto.specs.declared.stream.Side.{Side}
use Rattle.h3_proto.specs.declared.stream.Side.TheVariants.{Client, Server}
use Rattle.h3_connection.specs.Calls.{AllSame, Sets}
use Rattle.h3_connection.specs.StreamSets.{Streams}
use Rattle.h3_connection.specs.declared.event.Refusal.{Refusal}
use Rattle.h3_connection.specs.declared.event.Refusal.TheVariants.{IdsUsedUp, OutOfMemory}
use Rattle.h3_webtransport_streams.specs.SessionStream.{SessionStream}

pub record SessionsState : Type 0 where
  pub streams : Streams SessionStream
  -- the next id of a stream both ways that a server opens, and of one that goes one way from this side
  pub next_both : ℕ
  pub next_one : ℕ
  -- below this id the stream is looked for whose turn is next
  pub from : ℕ

-- behind the control, encoder and decoder stream
abbrev pub first_one : Side → ℕ
first_one Client = 14
first_one Server = 15

abbrev pub no_streams : Side → SessionsState
no_streams side = record { streams = []; next_both = 1; next_one = first_one side; from = 0 }

-- the next stream of a row of ids is opened
abbrev pub OpensNext : ℕ → Streams SessionStream → Streams SessionStream → SessionStream → Result ℕ Refusal → Type 0
OpensNext next old new stream (Ok id) = (id ≡ next) × Sets old new id stream
OpensNext next old new stream (Err refusal) = (refusal ≡ (if nat_lt next (2 ^ 62) then OutOfMemory else IdsUsedUp)) × AllSame old new

-- a number is below a place, if there is one
abbrev pub IsBelow : Option ℕ → ℕ → Type 0
IsBelow None q = ⊤
IsBelow (Some place) q = q < place

-- the greatest number below a place that passes a test; none if none passes
abbrev pub IsLast : (ℕ → Bool) → Option ℕ → Option ℕ → Type 0
IsLast passes below None = (q : ℕ) → IsBelow below q → passes q ≡ false
IsLast passes below (Some id) = IsBelow below id × (passes id ≡ true) × ((q : ℕ) → IsBelow below q → id < q → passes q ≡ false)

-- Which stream's turn it is: the greatest below a place that takes turns, or the greatest of all. A round goes down, to the least id: a stream that is
-- opened with a greater one meanwhile waits for the next round.
abbrev pub IsTurn : (ℕ → Bool) → ℕ → Option ℕ → Type 0
IsTurn takes from None = IsLast takes None None
IsTurn takes from (Some id) = IsLast takes (Some from) (Some id) ⊎ (IsLast takes (Some from) None × IsLast takes None (Some id))

-- a turn is over once bytes were taken
abbrev pub turn_over : ℕ → ℕ → ℕ → ℕ
turn_over from id count = if count == 0 then from else id
