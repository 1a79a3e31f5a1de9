-- One endpoint of a connection, with what it wrote so far.
use Rattle.std.specs.Prelude.{ℕ, ◌%◌, Bool, false, not, ◌||◌, List, [], ◌++◌, drop, flat_map, count_by, if◌then◌else◌, ◌==◌, nat_lt, Option, Some, None}
use Rattle.h3_coding.specs.Encodings.{encoding}
use Rattle.h3_field.specs.Instruction.{EncoderInstruction, DecoderInstruction, encoder_bytes, decoder_bytes}
use Rattle.h3_proto.specs.Config.{is_limit}
use Rattle.h3_proto.specs.declared.config.Choices.{Choices}
use Rattle.h3_table.specs.Cancellations.{none_canceled}
use Rattle.h3_qpack.specs.EncoderHistory.{EncoderHistory, no_table}
use Rattle.h3_qpack.specs.declared.encoder_choices.EncoderChoices.{EncoderChoices}
use Rattle.h3_qpack.specs.DecoderState.{DecoderState, announcing, checking}
use Rattle.h3_connection.specs.declared.setup.Announced.{Announced}
use Rattle.h3_connection.specs.Order.{no_order}
use Rattle.h3_connection.specs.declared.order.SendOrder.{SendOrder}
use Rattle.h3_connection.specs.OwnIds.{other, control_id, encoder_id, decoder_id, is_own}
use Rattle.h3_proto.specs.declared.stream.Side.{Side}
use Rattle.h3_connection.specs.StreamSets.{Streams, stream_at}
use Rattle.h3_connection.specs.Arrivals.{Arrival}
use Rattle.h3_connection.specs.Incoming.{Incoming}
use Rattle.h3_connection.specs.PeerReading.{Peer, none_read}
use Rattle.h3_connection.specs.Listeners.{Decoding}
use Rattle.h3_connection.specs.StrictConnection.{is_strict}
use Rattle.h3_connection.specs.OwnSettings.{control_start}
use Rattle.h3_connection.specs.OwnUpdates.{OwnUpdate, control_frames}
pub use Rattle.h3_connection.specs.OwnUpdates.{goaway_encoding}
use Rattle.h3_connection.specs.OtherSettings.{most_others}
use Rattle.h3_connection.specs.Updates.{most_updates}
use Rattle.h3_connection.specs.Outgoing.{Outgoing, part_bytes_waiting}
use Rattle.h3_connection.specs.Unidirectional.{Unidirectional}

-- what was written on the own streams, and how much of each text was taken
pub record Own : Type 0 where
  -- settings of no meaning here that it announces beside the others
  pub further : List (ℕ × ℕ)
  pub goaways : List ℕ
  -- what a client said of the priorities of its requests
  pub updates : List OwnUpdate
  pub control_taken : ℕ
  pub instructions : List EncoderInstruction
  pub encoder_taken : ℕ
  pub replies : List DecoderInstruction
  pub decoder_taken : ℕ

pub record EndpointHistory : Type 0 where
  pub side : Side
  pub announced : Announced
  -- the code of its first connection fault
  pub closed : Option ℕ
  pub next_id : ℕ
  -- the open request streams, both ways
  pub incoming : Streams Incoming
  pub outgoing : Streams Outgoing
  -- the peer's unidirectional streams of which anything came
  pub unidirectional : Streams Unidirectional
  -- the peer's streams that are read as its control, encoder and decoder stream
  pub control_on : Option ℕ
  pub encoder_on : Option ℕ
  pub decoder_on : Option ℕ
  pub peer : Peer
  pub decoding : Decoding
  -- the history of the own encoder, and the bytes of the peer's decoder stream that are not read yet
  pub encoder : EncoderHistory
  pub decoder_unread : List ℕ
  pub own : Own
  -- what came and was stored, and was not read because memory was refused; in order
  pub kept : List Arrival
  -- what it was handed to send: the bytes of names, values and bodies, and 64 for each field and each call
  pub sent : ℕ
  -- whose turn it is to send, and which own streams are held
  pub order : SendOrder

-- how many ids are kept, where a choice limits them
abbrev pub most_kept : Choices → Option ℕ
most_kept choices = if is_limit choices.extensions.kept_ids then Some choices.extensions.kept_ids else None

-- of the choices of an end, those that its encoder goes by
abbrev pub encoder_choices : Choices → EncoderChoices
encoder_choices choices =
    record {
      economical = choices.economical_table;
      guards_secrets = choices.extensions.secrets_guarded;
      shortest_strings = choices.extensions.shortest_strings;
    }

-- what an encoder goes by before anything. Whether acknowledgments count, the most that its table may have, how it writes fields, and how
-- many canceled streams it keeps, is chosen once
abbrev pub chosen_encoder : Choices → EncoderHistory
chosen_encoder choices =
    record no_table {
      most_capacity = choices.encoder_table;
      counts_acknowledgments = choices.acknowledgments_counted;
      choices = encoder_choices choices;
      canceled = none_canceled (most_kept choices);
    }

abbrev pub first_encoder : Announced → EncoderHistory
first_encoder announced = chosen_encoder announced.choices

-- its decoder: a strict endpoint's holds the peer's sections to their required insert counts (RFC 9204, section 2.2.3)
abbrev pub first_decoder : Announced → DecoderState
first_decoder announced = checking (is_strict announced) (announcing announced.limits.table)

abbrev pub new_endpoint : Side → Announced → EndpointHistory
new_endpoint side announced =
    record {
      side = side;
      announced = announced;
      closed = None;
      next_id = 0;
      incoming = [];
      outgoing = [];
      unidirectional = [];
      control_on = None;
      encoder_on = None;
      decoder_on = None;
      peer = none_read (most_updates announced) (most_others announced);
      decoding = record { decoder = first_decoder announced; unread = [] };
      encoder = first_encoder announced;
      decoder_unread = [];
      own = record { further = []; goaways = []; updates = []; control_taken = 0; instructions = []; encoder_taken = 0; replies = []; decoder_taken = 0 };
      kept = [];
      sent = 0;
      order = no_order;
    }

-- and where it announces these further settings
abbrev pub new_endpoint_with : Side → Announced → List (ℕ × ℕ) → EndpointHistory
new_endpoint_with side announced further =
    record (new_endpoint side announced) { own = record (new_endpoint side announced).own { further = further } }

-- the longest frame whose payload it keeps until it is whole
abbrev pub limit_of : EndpointHistory → ℕ
limit_of e = e.announced.choices.unfinished_limit

-- What an id is to an endpoint, by its two low bits.
pub data Kind : Type 0 where
  Request : Kind
  -- a stream both ways that a server would open
  ServerOpened : Kind
  OwnUnidirectional : Kind
  PeerUnidirectional : Kind

abbrev pub kind_of : Side → ℕ → Kind
kind_of side id =
    if id % 4 == 0 then Request else (
    if id % 4 == 1 then ServerOpened else (
    if id % 4 == control_id side then OwnUnidirectional else PeerUnidirectional))

-- further replies of the decoder
abbrev pub replied : EndpointHistory → List DecoderInstruction → EndpointHistory
replied e replies = record e { own = record e.own { replies = e.own.replies ++ replies } }

-- some other stream is read as this one already
abbrev pub is_second : Option ℕ → ℕ → Bool
is_second None id = false
is_second (Some first) id = not (first == id)

abbrev pub is_read_as : Option ℕ → ℕ → Bool
is_read_as None id = false
is_read_as (Some first) id = first == id

-- the six own streams, and those of the peer that are read as such
abbrev pub is_critical_of : EndpointHistory → ℕ → Kind → Bool
is_critical_of e id Request = false
is_critical_of e id ServerOpened = false
is_critical_of e id OwnUnidirectional = is_own e.side id
is_critical_of e id PeerUnidirectional =
    is_own (other e.side) id || is_read_as e.control_on id || is_read_as e.encoder_on id || is_read_as e.decoder_on id

abbrev pub is_critical_id : EndpointHistory → ℕ → Bool
is_critical_id e id = is_critical_of e id (kind_of e.side id)

-- how many streams wait for insertions
abbrev pub heads_waiting : DecoderState → Streams Incoming → ℕ
heads_waiting r streams = count_by (λ s. nat_lt r.table.inserted s.1.waits_for) streams

-- what waits to be taken
abbrev pub own_waiting : EndpointHistory → ℕ → List ℕ
own_waiting e id =
    if id == control_id e.side then drop e.own.control_taken (control_start e.announced.settings e.own.further ++ control_frames 0 e.own.goaways e.own.updates) else (
    if id == encoder_id e.side then drop e.own.encoder_taken (encoding 2 ++ flat_map encoder_bytes e.own.instructions) else (
    if id == decoder_id e.side then drop e.own.decoder_taken (encoding 3 ++ flat_map decoder_bytes e.own.replies) else []))

abbrev pub bytes_waiting : EndpointHistory → ℕ → List ℕ
bytes_waiting e id = elim (stream_at e.outgoing id) [ None ↦ own_waiting e id | Some o ↦ part_bytes_waiting o ]
