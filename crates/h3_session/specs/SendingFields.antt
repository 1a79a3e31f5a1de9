-- A field section goes out: what each step of that leaves.
use Rattle.std.specs.Prelude.{◌≡◌, ◌≢◌, ◌≤◌, ◌<◌, ◌^◌, ℕ, ◌+◌, false, List, [], ◌∷◌, ◌++◌, length, take, flat_map, Option, Some, None}
use Rattle.h3_field.specs.Field.{Field, section_size}
use Rattle.h3_field.specs.Instruction.{encoder_bytes}
use Rattle.h3_qpack.specs.EncoderHistory.{EncoderHistory, writing_on}
use Rattle.h3_qpack.specs.EncoderState.{encoder_state}
use Rattle.h3_qpack.specs.SectionEncoding.{draft_of, required_insert_count, sent_section}
use Rattle.h3_streams.specs.Placed.{StreamsState}
use Rattle.h3_connection.specs.Endpoint.{EndpointHistory}
use Rattle.h3_connection.specs.Outgoing.{OwnPart}
use Rattle.h3_connection.specs.Remembering.{settings_known}
use Rattle.h3_connection.specs.Sections.{written_section, own_instructions, having_inserted}
use Rattle.h3_connection.specs.Sending.{appended, asked, encoded, outgoing_at, fields_cost, counted}
use Rattle.h3_connection.specs.SendingContracts.{CutsOff}
use Rattle.h3_connection.specs.State.{EndpointState, StandsFor, place_of}
use Rattle.h3_connection.specs.WaitingPieces.{piece_of, frame_piece}
use Rattle.h3_connection.specs.declared.event.Refusal.{Refusal}
use Rattle.h3_connection.specs.declared.event.Refusal.TheVariants as refusal
use Rattle.h3_connection.specs.declared.place.SendPlace.{SendPlace}
use Rattle.h3_session.specs.Refused.{broken_behind, size_refused, refused_behind}

-- nothing but the encoder and the own encoder stream has changed
abbrev pub SameStreams : StreamsState → StreamsState → Type 0
SameStreams old new = new ≡ record old { encoding = new.encoding; own = record old.own { encoder = new.own.encoder } }

-- The section was encoded, and its instructions were written, where the encoder had this history.
pub record Encodes (s : EncoderHistory) (id : ℕ) (fields : List Field) (section : List ℕ) (count : ℕ) (old new : StreamsState) : Type 0 where
  pub same : SameStreams old new
  pub unread : new.encoding.unread ≡ old.encoding.unread
  pub stores : new.encoding.encoder ≡ encoder_state (sent_section s id fields)
  pub written : new.own.encoder ≡ old.own.encoder ++ flat_map encoder_bytes (own_instructions s id fields)
  pub section_is : section ≡ written_section s id fields
  pub count_is : count ≡ required_insert_count (draft_of (writing_on s id) fields)

-- It was cut off behind some of its fields: their insertions stay, and the instructions for these were written.
pub record StopsEncoding (s : EncoderHistory) (id : ℕ) (fields : List Field) (old new : StreamsState) : Type 0 where
  pub same : SameStreams old new
  pub unread : new.encoding.unread ≡ old.encoding.unread
  pub front : ℕ
  pub within : front ≤ length fields
  pub stores : new.encoding.encoder ≡ encoder_state (having_inserted s id (take front fields))
  pub written : new.own.encoder ≡ old.own.encoder ++ flat_map encoder_bytes (own_instructions s id (take front fields))

-- This part stands for the section at that place of the message.
pub record IsPart (e : EndpointHistory) (id : ℕ) (fields : List Field) (place : SendPlace) (part : OwnPart) : Type 0 where
  pub sends_on : (outgoing_at e id).is_reset ≡ false
  pub piece : piece_of part ≡ frame_piece 1 (written_section e.encoder id fields)
  pub place_is : place ≡ place_of ((outgoing_at e id).parts ++ part ∷ [])

-- The section waits on its stream.
pub record Queues (old new : EndpointState) (id : ℕ) (fields : List Field) (place : SendPlace) : Type 0 where
  pub stands : (e : EndpointHistory) (part : OwnPart) → StandsFor old e → IsPart e id fields place part → StandsFor new (appended (encoded e id fields) id part)
  pub sent : new.sent ≡ old.sent

-- What a head says is remembered.
abbrev pub asking : ℕ → List Field → EndpointHistory → EndpointHistory
asking id fields e = asked e id fields

pub record Remembers (old new : EndpointState) (id : ℕ) (fields : List Field) : Type 0 where
  pub stands : (e : EndpointHistory) → StandsFor old e → StandsFor new (asked e id fields)

-- The section was sent, and then this is done; or it was refused by its list, or for want of memory.
pub record SendsFields (behind : EndpointHistory → EndpointHistory) (old new : EndpointState) (id : ℕ) (fields : List Field) (place : SendPlace) (refused : Option Refusal) : Type 0 where
  pub done : refused ≡ None → (e : EndpointHistory) (part : OwnPart) → StandsFor old e → IsPart e id fields place part
      → StandsFor new (behind (counted (appended (encoded e id fields) id part) (fields_cost fields)))
  pub list : refused ≢ Some refusal.OutOfMemory → refused ≡ refused_behind old id place fields
  pub same : refused ≢ None → refused ≢ Some refusal.OutOfMemory → new ≡ old
  pub memory : refused ≡ Some refusal.OutOfMemory → (e : EndpointHistory) → StandsFor old e → CutsOff e id fields new
  pub too_large : refused ≡ Some refusal.OutOfMemory → refused_behind old id place fields ≢ None → new ≡ old
  pub unbroken : refused ≡ Some refusal.OutOfMemory → broken_behind place old id fields ≡ None

-- The sum of what was sent, with the section.
pub record IsJudged (s : EndpointState) (fields : List Field) (sum : ℕ) : Type 0 where
  pub small : section_size fields < 2 ^ 62
  pub size : size_refused (settings_known s.announced s.peer.settings) fields ≡ None
  pub sum_is : sum ≡ s.sent + fields_cost fields + 64
