-- What a call leaves that was refused memory in reading: what came was read up to some point, and the rest is kept.
use Rattle.std.specs.Prelude.{◌≡◌, ◌⊎◌, ℕ, ◌-◌, Bool, true, false, not, List, [], ◌∷◌, ◌++◌, Option, Some, None}
use Rattle.std.specs.List.{concat}
use Rattle.h3_messages.specs.Content.{left_behind}
use Rattle.h3_messages.specs.declared.content.Content.{Content}
use Rattle.h3_messages.specs.declared.content.Content.TheVariants.{Unsaid}
use Rattle.h3_proto.specs.Config.{is_limit}
use Rattle.h3_proto.specs.declared.stream.Side.{Side}
use Rattle.h3_qpack.specs.EncoderHistory.{EncoderHistory}
use Rattle.h3_connection.specs.declared.setup.Announced.{Announced}
use Rattle.h3_connection.specs.Arrivals.{Arrival, BytesCame}
use Rattle.h3_connection.specs.Coming.{fields_next}
use Rattle.h3_connection.specs.Control.{are_refused, if_learned, increment, lacks_settings}
use Rattle.h3_connection.specs.Delivering.{unidirectional_at, with_incoming, with_end, kept, with_unidirectional}
use Rattle.h3_connection.specs.Endpoint.{EndpointHistory, limit_of, replied, is_second, kind_of}
use Rattle.h3_connection.specs.Endpoint.Kind.{PeerUnidirectional}
use Rattle.h3_connection.specs.ExcessiveInstructions.{hear_up_to, listen_up_to}
use Rattle.h3_connection.specs.Incoming.{Incoming, is_body}
use Rattle.h3_connection.specs.Keeping.{read_arrival, keeping}
use Rattle.h3_connection.specs.Listeners.{Decoding, hearing_fault, listening_fault}
use Rattle.h3_connection.specs.PeerReading.{Peer, with_unread, read_peer}
use Rattle.h3_connection.specs.Pulling.{pull_stream}
use Rattle.h3_connection.specs.Skipping.{skipped}
use Rattle.h3_connection.specs.State.{EndpointState, StandsFor}
use Rattle.h3_connection.specs.StreamSets.{stream_at}
use Rattle.h3_connection.specs.declared.event.Item.TheVariants as item
use Rattle.h3_connection.specs.declared.event.Pull.{Pull}
use Rattle.h3_connection.specs.declared.event.Pull.TheVariants as pull
use Rattle.h3_frames.specs.declared.frame.kinds.FrameKinds.{FrameKinds}
use Rattle.h3_connection.specs.StrictConnection.{kinds_of, known_streams}
use Rattle.h3_connection.specs.Unidirectional.{Role, role_after, with_bytes}
use Rattle.h3_connection.specs.Unidirectional.Role.{Control, Encoder, Decoder}
use Rattle.h3_qpack.specs.DecoderState.{DecoderState}

-- A front of the bytes of the control stream was read, without a fault, where frames are taken up to this limit.
pub record PeerReadsPart (kinds : FrameKinds) (limit : ℕ) (side : Side) (old new : Peer) : Type 0 where
  pub front : List ℕ
  pub rest : List ℕ
  pub cut : old.unread ≡ front ++ rest
  pub read : Peer
  pub reads : read_peer kinds limit side (with_unread old front) ≡ (read, None)
  pub left : new ≡ with_unread read (read.unread ++ rest)

-- A front of the bytes of the peer's encoder stream was read, without a fault, where instructions are taken up to this limit.
pub record HearsPart (most : ℕ) (old new : Decoding) : Type 0 where
  pub front : List ℕ
  pub rest : List ℕ
  pub cut : old.unread ≡ front ++ rest
  pub good : hearing_fault most (hear_up_to most old.decoder front) ≡ None
  pub left : new ≡ record { decoder = (hear_up_to most old.decoder front).decoder; unread = (hear_up_to most old.decoder front).left ++ rest }

-- A front of the bytes of the peer's decoder stream was read, without a fault.
pub record ListensPart (most : ℕ) (old new : EncoderHistory) (unread left : List ℕ) : Type 0 where
  pub front : List ℕ
  pub rest : List ℕ
  pub cut : unread ≡ front ++ rest
  pub good : listening_fault most (listen_up_to most old front) ≡ None
  pub encoder : new ≡ (listen_up_to most old front).encoder
  pub left_is : left ≡ (listen_up_to most old front).left ++ rest

-- It is the first stream of a role whose bytes are read in their delivery.
abbrev pub is_reader : EndpointHistory → ℕ → Role → Bool
is_reader e id Control = not (is_second e.control_on id)
is_reader e id Encoder = not (is_second e.encoder_on id)
is_reader e id Decoder = not (is_second e.decoder_on id)
is_reader e id _ = false

-- such bytes stand with those that its reader has not read
abbrev pub held_as : EndpointHistory → ℕ → Role × List ℕ → EndpointHistory
held_as e id (Control, bytes) = record e { control_on = Some id; peer = with_unread e.peer (e.peer.unread ++ bytes) }
held_as e id (Encoder, bytes) = record e { encoder_on = Some id; decoding = record e.decoding { unread = e.decoding.unread ++ bytes } }
held_as e id (Decoder, bytes) = record e { decoder_on = Some id; decoder_unread = e.decoder_unread ++ bytes }
held_as e id (_, bytes) = e

abbrev pub held : EndpointHistory → ℕ → List ℕ → EndpointHistory
held e id bytes =
    let o = unidirectional_at e id in
    let read_as = role_after (known_streams e.announced) o.role bytes in
    held_as (with_unidirectional e id (with_bytes o read_as)) id read_as

-- the endpoint after some frames of the control stream. The table is used as soon as the settings came
abbrev pub after_frames : EndpointHistory → Peer → EndpointHistory
after_frames e p = if_learned e.peer.settings p.settings (record e { peer = p })

-- what its decoder said before the settings came is still to be read: an empty arrival stands for that
abbrev pub early_arrival : Option ℕ → List Arrival
early_arrival None = []
early_arrival (Some id) = BytesCame id [] ∷ []

abbrev pub early_if : Option (List (ℕ × ℕ)) → Option (List (ℕ × ℕ)) → Option ℕ → List Arrival
early_if None (Some pairs) decoder_on = early_arrival decoder_on
early_if _ _ decoder_on = []

abbrev pub early : EndpointHistory → Peer → List Arrival
early e p = early_if e.peer.settings p.settings e.decoder_on

-- No frame of another type stands where the settings are due, and the settings that came are taken.
pub record MayRead (e : EndpointHistory) (p : Peer) : Type 0 where
  pub first : lacks_settings e ≡ false
  pub taken : are_refused e e.peer.settings p.settings ≡ false

-- One step of reading what came, with no fault in it: the endpoint and what is still to be read, before and after it.
pub data ReadsOn : EndpointHistory → List Arrival → EndpointHistory → List Arrival → Type 0 where
  -- the first arrival, whole
  ReadsWhole : {e new : EndpointHistory} {a : Arrival} {more : List Arrival} → read_arrival e a ≡ (new, None) → ReadsOn e (a ∷ more) new more
  -- a front of its bytes
  ReadsFront : (front rest : List ℕ) {e new : EndpointHistory} {id : ℕ} {more : List Arrival} → read_arrival e (BytesCame id front) ≡ (new, None)
      → ReadsOn e (BytesCame id (front ++ rest) ∷ more) new (BytesCame id rest ∷ more)
  -- its bytes go to those that the stream's reader holds, and an empty arrival stands for them
  Holds : {e : EndpointHistory} {id : ℕ} {bytes : List ℕ} {more : List Arrival} → kind_of e.side id ≡ PeerUnidirectional
      → is_reader e id (role_after (known_streams e.announced) (unidirectional_at e id).role bytes).0 ≡ true
      → ReadsOn e (BytesCame id bytes ∷ more) (held e id bytes) (BytesCame id [] ∷ more)
  -- a front of the bytes that are held of the control stream
  ReadsFrames : {e : EndpointHistory} {id : ℕ} {p : Peer} {more : List Arrival} → e.control_on ≡ Some id → MayRead e p → PeerReadsPart (kinds_of e.announced) (limit_of e) e.side e.peer p
      → ReadsOn e (BytesCame id [] ∷ more) (after_frames e p) (BytesCame id [] ∷ early e p ++ more)
  -- of the encoder stream
  Hears : {e : EndpointHistory} {id : ℕ} {d : Decoding} {more : List Arrival} → e.encoder_on ≡ Some id → HearsPart (limit_of e) e.decoding d
      → ReadsOn e (BytesCame id [] ∷ more)
      (replied (record e { decoding = d }) (increment (d.decoder.table.inserted - e.decoding.decoder.table.inserted)))
      (BytesCame id [] ∷ more)
  -- of the decoder stream, once the settings came
  Listens : {e : EndpointHistory} {id : ℕ} {s : EncoderHistory} {left : List ℕ} {pairs : List (ℕ × ℕ)} {more : List Arrival} → e.decoder_on ≡ Some id → e.peer.settings ≡ Some pairs
      → ListensPart (limit_of e) e.encoder s e.decoder_unread left
      → ReadsOn e (BytesCame id [] ∷ more) (record e { encoder = s; decoder_unread = left }) (BytesCame id [] ∷ more)

-- What came was read up to some point, and the rest is kept.
pub data ReadsPart : EndpointHistory → List Arrival → EndpointHistory → Type 0 where
  Stops : {e : EndpointHistory} {rest : List Arrival} → ReadsPart e rest (keeping e rest)
  Goes : {e next new : EndpointHistory} {arrivals more : List Arrival} → ReadsOn e arrivals next more → ReadsPart next more new → ReadsPart e arrivals new

-- What came on a stream after a pull of it was refused memory: pieces, and maybe its end.
abbrev pub with_pieces : Incoming → List (List ℕ) → Incoming
with_pieces i [] = i
with_pieces i (piece ∷ pieces) = with_pieces (kept i piece) pieces

abbrev pub with_more : Incoming → List (List ℕ) → Bool → Incoming
with_more i pieces true = with_end (with_pieces i pieces)
with_more i pieces false = with_pieces i pieces

-- an answer for which no section was decoded, or only a malformed one
abbrev pub HasNoSection : Pull → Type 0
HasNoSection (pull.Item (item.Interim head)) = ⊥
HasNoSection (pull.Item (item.Head head)) = ⊥
HasNoSection (pull.Item (item.Trailer head)) = ⊥
HasNoSection (pull.Item (item.TooLarge size)) = ⊥
HasNoSection _ = Unit {0}

-- no section waits, and no payload is under way
abbrev pub IsBetweenFrames : Incoming → Type 0
IsBetweenFrames i = (i.section ≡ None) × (i.body_left ≡ 0)

-- Between frames the same stands next, behind those that give nothing, whatever follows; if not, what the next frame gives has begun.
abbrev pub StandsNext : FrameKinds → Incoming → Incoming → Type 0
StandsNext kinds old new =
    IsBetweenFrames new
    → IsBetweenFrames old × ((more : List ℕ) → skipped kinds (is_body old.place) (concat new.unread ++ more) ≡ skipped kinds (is_body old.place) (concat old.unread ++ more))

-- as much content is left, or what a payload that has begun leaves behind (RFC 9114, section 4.1.2)
abbrev pub CountsOn : Content → Content → Type 0
CountsOn old new = (new ≡ old) ⊎ ((size : ℕ) × (new ≡ left_behind old size))

-- The stream goes on as if it had not been asked: whatever comes later, and whatever the table then is, its next pull does the same, and if
-- that has a section, the list that comes next is the same. It may have passed frames that give nothing, or hold the section of a frame that
-- it read, or have begun a payload.
pub record Resumes (side : Side) (own : Announced) (id : ℕ) (old new : Incoming) : Type 0 where
  pub same : new ≡ record old { unread = new.unread; section = new.section; body_left = new.body_left; content = new.content }
  pub pulls : (r : DecoderState) (pieces : List (List ℕ)) (ended : Bool) → pull_stream side own id r (with_more old pieces ended) ≡ pull_stream side own id r (with_more new pieces ended)
  pub lists : (r : DecoderState) (pieces : List (List ℕ)) (ended : Bool)
      → HasNoSection (pull_stream side own id r (with_more old pieces ended)).answer ⊎ (fields_next own r (with_more new pieces ended) ≡ fields_next own r (with_more old pieces ended))
  pub next : StandsNext (kinds_of own) old new

-- the stream where nothing is known of its content
abbrev pub unsaid : Incoming → Incoming
unsaid i = record i { content = Unsaid; response = None }

-- So it goes on where nothing is known of the content, at each end that limits nothing and knows the same kinds of frames as this one, whatever it
-- judges.
abbrev pub ResumesPlainly : Side → Announced → ℕ → Incoming → Incoming → Type 0
ResumesPlainly side own id old new =
    (other : Announced) → kinds_of other ≡ kinds_of own → is_limit other.choices.unfinished_limit ≡ false → Resumes side other id (unsaid old) (unsaid new)

-- What is stored is this endpoint, but for one request stream, which goes on as if it had not been asked.
pub record StandsAsked (s : EndpointState) (e : EndpointHistory) (id : ℕ) : Type 0 where
  pub old : Incoming
  pub new : Incoming
  pub here : stream_at e.incoming id ≡ Some old
  pub resumes : Resumes e.side e.announced id old new
  pub plainly : ResumesPlainly e.side e.announced id old new
  pub counts : CountsOn old.content new.content
  pub stands : StandsFor s (with_incoming e id new)
