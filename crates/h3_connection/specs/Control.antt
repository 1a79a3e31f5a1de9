-- What the control, encoder and decoder streams of any peer do. Each reading gives the endpoint after it, and the code of a
-- connection fault where there is one.
use Rattle.std.specs.Prelude.{ℕ, ◌^◌, Bool, false, ◌&&◌, List, [], ◌∷◌, ◌++◌, if◌then◌else◌, ◌==◌, nat_lt, min, Option, Some, None, unwrap_or, is_some, is_none}
use Rattle.h3_field.specs.Instruction.{DecoderInstruction}
use Rattle.h3_field.specs.Instruction.DecoderInstruction.{Increment}
use Rattle.h3_field.specs.Instruction.EncoderInstruction.{SetCapacity}
use Rattle.h3_proto.specs.Settings.{value_of}
use Rattle.h3_qpack.specs.EncoderHistory.{using_table}
use Rattle.h3_qpack.specs.Hearing.{Listened}
use Rattle.h3_frames.specs.FirstFrames.{begins_other}
use Rattle.h3_connection.specs.Codes.{decoder_stream_error, encoder_stream_error, missing_settings, settings_error}
use Rattle.h3_connection.specs.ExcessiveInstructions.{listen_up_to}
use Rattle.h3_connection.specs.Listeners.{heard_more, hearing_fault, listening_fault, after_hearing, insertions_heard}
use Rattle.h3_connection.specs.PeerReading.{Peer, PeerFound, with_unread, read_peer}
use Rattle.h3_connection.specs.StrictConnection.{kinds_of, is_strict, settings_refused, stream_fault}
use Rattle.h3_connection.specs.Endpoint.{EndpointHistory, limit_of, replied}

abbrev pub Found : Type 0
Found = EndpointHistory × Option ℕ

-- one increment where anything was inserted
abbrev pub increment : ℕ → List DecoderInstruction
increment count = if count == 0 then [] else Increment count ∷ []

-- the peer's encoder
abbrev pub read_encoder : EndpointHistory → List ℕ → Found
read_encoder e bytes =
    let h = heard_more (limit_of e) e.decoding bytes in
    (replied (record e { decoding = after_hearing h }) (increment (insertions_heard e.decoding h)), stream_fault (is_strict e.announced) encoder_stream_error (hearing_fault (limit_of e) h))

-- the peer's decoder, whose bytes are kept until the settings came: as many as its stream has credit for
abbrev pub listened_to : EndpointHistory → Listened → Found
listened_to e l =
    (record e { encoder = l.encoder; decoder_unread = l.left }, stream_fault (is_strict e.announced) decoder_stream_error (listening_fault (limit_of e) l))

abbrev pub kept_unread : EndpointHistory → List ℕ → Found
kept_unread e unread = (record e { decoder_unread = unread }, None)

abbrev pub read_decoder : EndpointHistory → List ℕ → Found
read_decoder e bytes =
    if is_some e.peer.settings then listened_to e (listen_up_to (limit_of e) e.encoder (e.decoder_unread ++ bytes))
    else kept_unread e (e.decoder_unread ++ bytes)

-- the table may be used with these limits, where it has at most so much (RFC 9204, section 3.2.3)
abbrev pub is_table_usable : ℕ → ℕ → ℕ → Bool
is_table_usable most capacity blocked = nat_lt 0 (min most capacity) && nat_lt capacity (2 ^ 30) && nat_lt blocked (2 ^ 16)

-- it is used, and its capacity written
abbrev pub with_table : EndpointHistory → ℕ → ℕ → EndpointHistory
with_table e capacity blocked =
    record e {
      encoder = using_table e.encoder capacity blocked;
      own = record e.own { instructions = e.own.instructions ++ SetCapacity (min e.encoder.most_capacity capacity) ∷ [] };
    }

-- the endpoint knows its peer's settings, and uses the table where these allow it
abbrev pub learned : EndpointHistory → List (ℕ × ℕ) → EndpointHistory
learned e pairs =
    let capacity = unwrap_or (value_of 1 pairs) 0 in
    let blocked = unwrap_or (value_of 7 pairs) 0 in
    if is_table_usable e.encoder.most_capacity capacity blocked then with_table e capacity blocked else e

-- what settings that came now do. What the peer's decoder said before is read once they came
abbrev pub if_learned : Option (List (ℕ × ℕ)) → Option (List (ℕ × ℕ)) → EndpointHistory → EndpointHistory
if_learned None (Some pairs) e = learned e pairs
if_learned _ _ e = e

abbrev pub then_decoder : Option (List (ℕ × ℕ)) → Option (List (ℕ × ℕ)) → EndpointHistory → Option ℕ → Found
then_decoder before after e (Some code) = (e, Some code)
then_decoder None (Some pairs) e None = read_decoder e []
then_decoder _ _ e None = (e, None)

-- the peer after its stream was read, and what settings that came now do
abbrev pub taken_peer : EndpointHistory → PeerFound → Found
taken_peer e (p, fault) = then_decoder e.peer.settings p.settings (if_learned e.peer.settings p.settings (record e { peer = p })) fault

-- The settings came now, and the endpoint does not take them
abbrev pub are_refused : EndpointHistory → Option (List (ℕ × ℕ)) → Option (List (ℕ × ℕ)) → Bool
are_refused e None after = settings_refused e.side e.announced after
are_refused e (Some known) after = false

-- Then nothing else of the stream is read: what came behind them is let go
abbrev pub settings_alone : Peer → Option (List (ℕ × ℕ)) → Peer
settings_alone p settings = record p { unread = []; settings = settings }

abbrev pub unless_refused : EndpointHistory → Peer → Found → Found
unless_refused e p found = if are_refused e e.peer.settings p.settings then (record e { peer = settings_alone e.peer p.settings }, Some settings_error) else found

abbrev pub after_peer : EndpointHistory → PeerFound → Found
after_peer e (p, fault) = unless_refused e p (taken_peer e (p, fault))

-- The endpoint takes no other frame before the settings, one of unknown type either (RFC 9114, section 6.2.1)
abbrev pub awaits_settings : EndpointHistory → Bool
awaits_settings e = is_strict e.announced && is_none e.peer.settings

-- and what came begins with one: its head is enough
abbrev pub lacks_settings : EndpointHistory → Bool
lacks_settings e = awaits_settings e && begins_other e.peer.unread

abbrev pub unless_missing : EndpointHistory → Found → Found
unless_missing e found = if lacks_settings e then (e, Some missing_settings) else found

-- what came of the peer's control stream is read
abbrev pub read_held : EndpointHistory → Found
read_held e = unless_missing e (after_peer e (read_peer (kinds_of e.announced) (limit_of e) e.side e.peer))

abbrev pub holding : EndpointHistory → List ℕ → EndpointHistory
holding e bytes = record e { peer = with_unread e.peer (e.peer.unread ++ bytes) }

-- the peer's control stream
abbrev pub read_control : EndpointHistory → List ℕ → Found
read_control e bytes = read_held (holding e bytes)
