-- What is kept of the unidirectional streams, as a part of what an endpoint keeps.
use Rattle.std.specs.Prelude.{◌≡◌, ℕ, List, [], Option, Some, None, unwrap_or, Bool, ◌||◌, true, false, if◌then◌else◌}
use Rattle.h3_qpack.specs.EncoderState.{encoder_state}
use Rattle.h3_proto.specs.declared.stream.Side.{Side}
use Rattle.h3_connection.specs.Calls.{Sets, AllSame}
use Rattle.h3_connection.specs.Codes.{closed_critical_stream}
use Rattle.h3_connection.specs.Control.{Found}
use Rattle.h3_connection.specs.Endpoint.{first_decoder, EndpointHistory, Kind, first_encoder, is_read_as}
use Rattle.h3_connection.specs.Endpoint.Kind.{Request, ServerOpened, OwnUnidirectional, PeerUnidirectional}
use Rattle.h3_connection.specs.Listeners.{Decoding, Encoding}
use Rattle.h3_connection.specs.OwnIds.{other, is_own}
use Rattle.h3_connection.specs.PeerReading.{Peer, none_read}
use Rattle.h3_connection.specs.OtherSettings.{most_others}
use Rattle.h3_connection.specs.Updates.{most_updates}
use Rattle.h3_connection.specs.State.{EndpointState, OwnState, StandsFor, kept_at}
use Rattle.h3_connection.specs.StreamSets.{Streams}
use Rattle.h3_connection.specs.Unidirectional.{StreamKinds, Unidirectional, Role, untold, reset_with, is_critical, role_after, with_bytes, pull_unidirectional}
use Rattle.h3_connection.specs.declared.event.Pull.{Pull}
use Rattle.h3_connection.specs.declared.event.Pull.TheVariants.{Pending}
use Rattle.h3_connection.specs.declared.setup.Announced.{Announced}
use Rattle.h3_unidirectional.specs.Kinds.{is_untold, received_by, TellsFirst}
use Rattle.h3_unidirectional.specs.Owned.{first_own}
use Rattle.h3_unidirectional.specs.declared.stream.Received.{Received}

-- what a contract sees of `ConnectionStreams`
pub record StreamsState : Type 0 where
  pub unidirectional : Streams Unidirectional
  pub control_on : Option ℕ
  pub encoder_on : Option ℕ
  pub decoder_on : Option ℕ
  pub peer : Peer
  pub decoding : Decoding
  pub encoding : Encoding
  pub own : OwnState

-- the endpoint that keeps these, and the rest as this one
abbrev pub placed : EndpointState → StreamsState → EndpointState
placed s x =
    record s {
      unidirectional = x.unidirectional;
      control_on = x.control_on;
      encoder_on = x.encoder_on;
      decoder_on = x.decoder_on;
      peer = x.peer;
      decoding = x.decoding;
      encoding = x.encoding;
      own = x.own;
    }

-- of a new endpoint
abbrev pub first_streams : Announced → StreamsState
first_streams announced =
    record {
      unidirectional = [];
      control_on = None;
      encoder_on = None;
      decoder_on = None;
      peer = none_read (most_updates announced) (most_others announced);
      decoding = record { decoder = first_decoder announced; unread = [] };
      encoding = record { encoder = encoder_state (first_encoder announced); unread = [] };
      own = first_own announced.settings;
    }

-- a stream of the peer, of which perhaps nothing came
abbrev pub peer_stream : Streams Unidirectional → ℕ → Unidirectional
peer_stream streams id = unwrap_or (kept_at streams id) untold

abbrev pub stream_of_peer : StreamsState → ℕ → Unidirectional
stream_of_peer x id = peer_stream x.unidirectional id

-- the streams that the connection needs
abbrev pub is_critical_at : Side → StreamsState → ℕ → Kind → Bool
is_critical_at side x id Request = false
is_critical_at side x id ServerOpened = false
is_critical_at side x id OwnUnidirectional = is_own side id
is_critical_at side x id PeerUnidirectional = is_own (other side) id || is_read_as x.control_on id || is_read_as x.encoder_on id || is_read_as x.decoder_on id

-- An answer, and what is stored then, are those of a call on the endpoint's history.
abbrev pub Answers : {A : Type 0} → EndpointState → A → StreamsState → A × EndpointHistory → Type 0
Answers s answer x (given, e) = (answer ≡ given) × StandsFor (placed s x) e

-- A fault, and what is stored then, are what a reading finds.
abbrev pub Reads : EndpointState → Option ℕ → StreamsState → Found → Type 0
Reads s fault x (e, code) = (fault ≡ code) × StandsFor (placed s x) e

-- What a pull answers and leaves, where this is what is there.
abbrev pub Pulls : Option Unidirectional → Pull → Streams Unidirectional → Streams Unidirectional → ℕ → Type 0
Pulls None given old new id = (given ≡ Pending) × (new ≡ old)
Pulls (Some o) given old new id = (given ≡ (pull_unidirectional o o.role).0) × Sets old new id (pull_unidirectional o o.role).1

-- What an end (no code) or a reset does.
abbrev pub closed_by : Unidirectional → Option ℕ → Unidirectional
closed_by o None = record o { ended = true }
closed_by o (Some code) = reset_with o code

pub record Closes (old new : Streams Unidirectional) (id : ℕ) (code : Option ℕ) (critical : Bool) : Type 0 where
  pub sets : Sets old new id (closed_by (peer_stream old id) code)
  pub critical_is : critical ≡ is_critical (peer_stream old id).role

-- What bytes do to their stream, where these streams are known: for whom they are, and what tells a role stands in front of the bytes that
-- are for it.
pub record Receives (known : StreamKinds) (old new : Streams Unidirectional) (id : ℕ) (bytes : List ℕ) (received : Received) : Type 0 where
  pub sets : Sets old new id (with_bytes (peer_stream old id) (role_after known (peer_stream old id).role bytes))
  pub given : received ≡ received_by (role_after known (peer_stream old id).role bytes)
  pub front : (r : Role) (rest : List ℕ) → is_untold r ≡ false → role_after known (peer_stream old id).role bytes ≡ (r, rest) → TellsFirst known (peer_stream old id).role bytes r rest

abbrev pub closing_code : Bool → Option ℕ
closing_code critical = if critical then Some closed_critical_stream else None

-- Nothing has changed: each stream is as it was, and so is the rest.
pub record KeepsAll (old new : StreamsState) : Type 0 where
  pub streams : AllSame old.unidirectional new.unidirectional
  pub rest : new ≡ record old { unidirectional = new.unidirectional }
