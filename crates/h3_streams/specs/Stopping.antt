-- What one reader makes of further bytes, and what it leaves where memory is refused.
use Rattle.std.specs.Prelude.{◌≡◌, ℕ, ◌-◌, Bool, true, false, List, [], ◌++◌, if◌then◌else◌, Option, Some, None, IfSome}
use Rattle.h3_proto.specs.declared.stream.Side.{Side}
use Rattle.h3_qpack.specs.EncoderHistory.{EncoderHistory}
use Rattle.h3_qpack.specs.EncoderState.{encoder_state}
use Rattle.h3_qpack.specs.Increments.{increment_for}
use Rattle.h3_connection.specs.declared.arrival.Arrival.{Arrival}
use Rattle.h3_connection.specs.Control.{then_decoder}
use Rattle.h3_connection.specs.Endpoint.{EndpointHistory, kind_of}
use Rattle.h3_connection.specs.Endpoint.Kind.{PeerUnidirectional}
use Rattle.h3_connection.specs.Listeners.{Decoding, Encoding, Listens}
use Rattle.h3_connection.specs.PartReading.{HearsPart, early_if}
use Rattle.h3_connection.specs.State.{EndpointState, StandsFor}
use Rattle.h3_connection.specs.StrictConnection.{settings_refused}
use Rattle.h3_connection.specs.declared.setup.Announced.{Announced}
use Rattle.h3_unidirectional.specs.Fronts.{StopsListening}
use Rattle.h3_unidirectional.specs.Learned.{having_learned, usable_capacity, capacity_bytes}
use Rattle.h3_streams.specs.Placed.{StreamsState, placed, Reads}
use Rattle.h3_streams.specs.ReadingOn.{StopsAt}
use Rattle.h3_streams.specs.declared.left.Left.{Left}
use Rattle.h3_streams.specs.declared.readers.Stop.{Stop}
use Rattle.h3_streams.specs.declared.readers.Stop.TheVariants.{Unheld, Held}

-- of the encoder stream, where instructions are taken up to this limit
abbrev pub HeardPart : ℕ → Stop → List ℕ → Decoding → Decoding → List ℕ → List ℕ → Type 0
HeardPart most (Unheld back) bytes old new before after = (back ≡ bytes) × (new ≡ old) × (after ≡ before)
HeardPart most Held bytes old new before after =
    HearsPart most (record old { unread = old.unread ++ bytes }) new × (after ≡ before ++ increment_for (new.decoder.table.inserted - old.decoder.table.inserted))

-- of the decoder stream, which is read once the settings came, and kept before
abbrev pub ListensIf : ℕ → Bool → List ℕ → Encoding → Encoding → Option ℕ → Type 0
ListensIf most true bytes old new fault = (s : EncoderHistory) → old.encoder ≡ encoder_state s → Listens most s (old.unread ++ bytes) new fault
ListensIf most false bytes old new fault = (new ≡ record old { unread = old.unread ++ bytes }) × (fault ≡ None)

abbrev pub ListenedPart : ℕ → Stop → Bool → List ℕ → Encoding → Encoding → Type 0
ListenedPart most (Unheld back) known bytes old new = (back ≡ bytes) × (new ≡ old)
ListenedPart most Held known bytes old new = (known ≡ true) × ((s : EncoderHistory) → old.encoder ≡ encoder_state s → StopsListening most s (record old { unread = old.unread ++ bytes }) new)

-- the settings that are used
abbrev pub settings_taken : Side → Announced → Option (List (ℕ × ℕ)) → Option (List (ℕ × ℕ))
settings_taken side own settings = if settings_refused side own settings then None else settings

-- what the settings make of the own encoder, where they came
abbrev pub learned_by : EncoderHistory → Option (List (ℕ × ℕ)) → EncoderHistory
learned_by s None = s
learned_by s (Some pairs) = having_learned s pairs

-- the capacity that they allow, where the table has at most so much
abbrev pub allowed_by : ℕ → Option (List (ℕ × ℕ)) → Option ℕ
allowed_by most None = None
allowed_by most (Some pairs) = usable_capacity most pairs

-- what is still to be read
abbrev pub left_by : Stop → ℕ → Left
left_by (Unheld back) id = record { id = id; bytes = back; early = None }
left_by Held id = record { id = id; bytes = []; early = None }

-- What the settings that came, or none, make of the own encoder and of what waits on its stream.
pub record Learns (old new : Encoding) (before after : List ℕ) (settings : Option (List (ℕ × ℕ))) : Type 0 where
  pub encoder : (s : EncoderHistory) → old.encoder ≡ encoder_state s → new.encoder ≡ encoder_state (learned_by s settings)
  pub unread : new.unread ≡ old.unread
  pub written : after ≡ before ++ capacity_bytes (allowed_by old.encoder.most_capacity settings)

-- the peer's decoder stream, whose bytes have waited for the settings
abbrev pub early_of : Option (List (ℕ × ℕ)) → Option ℕ → Option ℕ
early_of None on = None
early_of (Some pairs) on = on

-- it is read once they came, by what the endpoint chose
abbrev pub ReadsEarly : Announced → StreamsState → StreamsState → Option ℕ → Type 0
ReadsEarly own x new fault = (s : EndpointState) (e : EndpointHistory) → StandsFor (placed s x) e → e.announced ≡ own → Reads s fault new (then_decoder None e.peer.settings e None)

abbrev pub StopsEarly : Announced → StreamsState → StreamsState → Side → List Arrival → Type 0
StopsEarly own x new side left = (s : EndpointState) (e : EndpointHistory) → StandsFor (placed s x) e → e.announced ≡ own → e.side ≡ side → IfSome x.decoder_on (λ d. kind_of side d ≡ PeerUnidirectional)
    → StopsAt s new e (early_if None e.peer.settings e.decoder_on) left
