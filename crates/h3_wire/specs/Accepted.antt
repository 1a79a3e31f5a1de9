-- A one-way stream by its type.
use Rattle.std.specs.Prelude.{◌≡◌, ◌≢◌, ℕ, false, Some, None}
use Rattle.h3_wire.specs.declared.stream.accept.AcceptedRecvStream.{AcceptedRecvStream}
use Rattle.h3_wire.specs.declared.stream.accept.AcceptedRecvStream.TheVariants as accepted
use Rattle.h3_wire.specs.Streams.{Framing, stream_part, is_open}
use Rattle.h3_wire.specs.Accepting.{Accepting, stream_of}

-- frames are read from here on
abbrev pub Frames : {S : Type 0} → Framing S → Accepting S → Type 0
Frames f s = (stream_part f ≡ stream_of s) × (is_open f.payload ≡ false) × (f.decoder ≡ record { expected = None; tries = 0 })

-- what follows type and id is handed on whole
abbrev pub Accepts : {S : Type 0} → AcceptedRecvStream S → Accepting S → Type 0
Accepts (accepted.Control f) s = (s.kind ≡ Some 0) × Frames f s
Accepts (accepted.Push f) s = (s.kind ≡ Some 1) × Frames f s
Accepts (accepted.Encoder b) s = (s.kind ≡ Some 2) × (b ≡ stream_of s)
Accepts (accepted.Decoder b) s = (s.kind ≡ Some 3) × (b ≡ stream_of s)
Accepts (accepted.WebTransportUni id b) s = (s.kind ≡ Some 0x54) × (s.id ≡ Some id) × (b ≡ stream_of s)
Accepts (accepted.Unknown b) s = (kind : ℕ) × (s.kind ≡ Some kind) × (kind ≢ 0) × (kind ≢ 1) × (kind ≢ 2) × (kind ≢ 3) × (kind ≢ 0x54) × (b ≡ stream_of s)
