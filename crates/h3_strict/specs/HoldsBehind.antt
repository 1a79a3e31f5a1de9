-- What holds of two ends in their world, whatever they keep, and stays so over all that may be asked of them and whichever allocations fail.
use Rattle.std.specs.Prelude.{◌≡◌, ℕ, true, false, List, [], Some}
use Rattle.h3_field.specs.Field.{Field}
use Rattle.h3_proto.specs.declared.stream.Side.{Side}
use Rattle.h3_connection.specs.declared.arrival.Arrival.{Arrival}
use Rattle.h3_connection.specs.Bounds.{IsBounded}
use Rattle.h3_connection.specs.Delivering.{with_incoming}
use Rattle.h3_connection.specs.Endpoint.{EndpointHistory, kind_of}
use Rattle.h3_connection.specs.Incoming.{Incoming}
use Rattle.h3_connection.specs.Keeping.{pulls, read_arrival, settles, unkept}
use Rattle.h3_connection.specs.PartReading.{CountsOn, ReadsPart}
use Rattle.h3_connection.specs.Sections as section
use Rattle.h3_connection.specs.Sending.{advance, pull_at}
use Rattle.h3_connection.specs.StreamSets.{stream_at}
use Rattle.h3_world.specs.Ends.{Ends, answered, end_at, new_ends, with_end}
use Rattle.h3_world.specs.Headline.{is_connection_fault}
use Rattle.h3_world.specs.Refused.{with_insertions}
use Rattle.h3_world.specs.Setup.{Setup, announced_at}
use Rattle.h3_world.specs.World.{World, empty_world}
use Rattle.h3_world.specs.declared.event.Answer.TheVariants as answer
use Rattle.h3_world.specs.declared.event.Event.{Event}
use Rattle.h3_world.specs.declared.event.Event.TheVariants as event
use Rattle.h3_headline.specs.Contents.{KeepsParts}
use Rattle.h3_strict.specs.PlainEnds.{asks_strictly, finds_fault, judges, plain_setup}
use Rattle.h3_strict.specs.StandsBehind.{StandsBehind}
use Rattle.h3_strict.specs.WorldSteps.{KeepsNone, WorldStep}

-- the end once an arrival was read, with others kept
abbrev pub having_read : EndpointHistory → Arrival → List Arrival → EndpointHistory
having_read e a kept = record (read_arrival (unkept e) a).0 { kept = kept }

pub record HoldsBehind (setup : Setup) (P : World → Ends → Type 0) : Type 0 where
  pub first : P (empty_world (plain_setup setup)) (new_ends setup)
  pub announced : (w : World) (ends : Ends) → P w ends → (side : Side) → (end_at ends side).announced ≡ announced_at setup side
  -- an event is answered by the contract of its call
  pub goes : (w v : World) (ends : Ends) (e : Event) → P w ends → StandsBehind setup w ends → StandsBehind setup v (answered ends e).1 → WorldStep setup w e (answered ends e).0 v → KeepsNone ends e → is_connection_fault (answered ends e).0 ≡ false
      → P v (answered ends e).1
  -- a pull that judges a message finds no fault of the connection
  pub judged : (w : World) (ends : Ends) (side : Side) (id : ℕ) → P w ends → StandsBehind setup w ends → (end_at ends side).kept ≡ [] → judges ends (event.Pull side id) ≡ true
      → finds_fault (asks_strictly ends) (answer.Pulled (pulls (end_at ends side) id).0) ≡ true → is_connection_fault (answer.Pulled (pulls (end_at ends side) id).0) ≡ false
  -- a pull whose answer is settled, whatever is kept
  pub settled : (w : World) (ends : Ends) (side : Side) (id : ℕ) → P w ends → settles (end_at ends side) id ≡ true → P w (with_end ends side (pull_at (end_at ends side) id (kind_of (end_at ends side).side id)).1)
  -- it finds no fault of the connection
  pub calm : (e : EndpointHistory) (id : ℕ) → IsBounded e → settles e id ≡ true → is_connection_fault (answer.Pulled (pull_at e id (kind_of e.side id)).0) ≡ false
  -- what came is read, whole or in part
  pub reads : (w : World) (ends : Ends) (side : Side) (a : Arrival) (kept : List Arrival) → P w ends → P w (with_end ends side (having_read (end_at ends side) a kept))
  pub reads_part : (w : World) (ends : Ends) (side : Side) (arrivals : List Arrival) (after : EndpointHistory) → P w ends → ReadsPart (unkept (end_at ends side)) arrivals after → P w (with_end ends side after)
  -- bytes are handed over
  pub hands : (w : World) (ends : Ends) (side : Side) (id count : ℕ) → P w ends → P w (with_end ends side (advance (end_at ends side) id count))
  -- a pull was refused memory
  pub asked : (w : World) (ends : Ends) (side : Side) (id : ℕ) (old asked : Incoming) → P w ends → stream_at (end_at ends side).incoming id ≡ Some old → asked.fault ≡ old.fault → asked.response ≡ old.response → CountsOn old.content asked.content
      → P w (with_end ends side (with_incoming (end_at ends side) id asked))
  -- a section was cut off
  pub inserts : (w : World) (ends : Ends) (side : Side) (id : ℕ) (fields : List Field) → P w ends → P (with_insertions w side id fields) (with_end ends side (section.with_insertions (end_at ends side) id fields))
  -- the world changes no message
  pub stays : (w v : World) (ends : Ends) → KeepsParts w v → P w ends → P v ends
