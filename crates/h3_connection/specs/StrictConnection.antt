-- What an endpoint that asks for a strict connection judges besides: which settings, ids and faults of its peer.
use Rattle.std.specs.Prelude.{ℕ, Bool, true, false, not, ◌&&◌, ◌||◌, nat_lt, List, Option, Some, None, if◌then◌else◌, option_map, unwrap_or}
use Rattle.h3_proto.specs.Config.{is_enabled}
use Rattle.h3_proto.specs.Settings.{value_of}
use Rattle.h3_proto.specs.StreamIds.{is_request_stream}
use Rattle.h3_proto.specs.declared.stream.Side.{Side}
use Rattle.h3_proto.specs.declared.stream.Side.TheVariants.{Client, Server}
use Rattle.h3_frames.specs.declared.frame.kinds.FrameKinds.{FrameKinds}
use Rattle.h3_connection.specs.Codes.{id_error}
use Rattle.h3_connection.specs.Unidirectional.{StreamKinds}
use Rattle.h3_connection.specs.declared.setup.Announced.{Announced}

-- it does
abbrev pub is_strict : Announced → Bool
is_strict own = own.choices.extensions.strict_connection

-- the setting is there with a value other than 0 and 1
abbrev pub is_no_flag : ℕ → List (ℕ × ℕ) → Bool
is_no_flag id pairs = nat_lt 1 (unwrap_or (value_of id pairs) 0)

-- WebTransport is announced, and datagrams are not, which it needs (its drafts)
abbrev pub lacks_datagrams : List (ℕ × ℕ) → Bool
lacks_datagrams pairs = is_enabled 0x2b603742 pairs && not (is_enabled 0x33 pairs)

-- A client judges the setting of extended CONNECT (RFC 8441, section 3), which means nothing to a server
abbrev pub judges_connect : Side → Bool
judges_connect Client = true
judges_connect Server = false

-- Both sides judge that of datagrams (RFC 9297, section 2.1.1). Those of WebTransport are judged by an endpoint that announces it
abbrev pub have_bad_value : Side → List (ℕ × ℕ) → List (ℕ × ℕ) → Bool
have_bad_value side own pairs =
    (judges_connect side && is_no_flag 8 pairs) || is_no_flag 0x33 pairs || (is_enabled 0x2b603742 own && (is_no_flag 0x2b603742 pairs || lacks_datagrams pairs))

-- the endpoint does not take these settings of its peer
abbrev pub refuses_settings : Side → Announced → List (ℕ × ℕ) → Bool
refuses_settings side own pairs = is_strict own && have_bad_value side own.settings pairs

-- nor those that came, if any did
abbrev pub settings_refused : Side → Announced → Option (List (ℕ × ℕ)) → Bool
settings_refused side own None = false
settings_refused side own (Some pairs) = refuses_settings side own pairs

-- it announces what no such endpoint takes
abbrev pub announces_alone : Announced → Bool
announces_alone own = is_strict own && lacks_datagrams own.settings

-- What is found on the peer's encoder or decoder stream: an instruction that is too long to be read is one of that stream too (RFC 9204, section 7.4).
-- So every fault there is
abbrev pub stream_fault : Bool → ℕ → Option ℕ → Option ℕ
stream_fault strict code fault = if strict then option_map (λ found. code) fault else fault

-- A session of WebTransport is named by the bidirectional stream that a client opened for it
abbrev pub is_no_session : Announced → ℕ → Bool
is_no_session own id = is_strict own && not (is_request_stream id)

abbrev pub session_fault : Announced → ℕ → Option ℕ
session_fault own id = if is_no_session own id then Some id_error else None

-- Sessions are known to an endpoint that announces WebTransport, and to one that does not ask for a strict connection. To any other one 0x41 is the
-- type of an unknown frame, and 0x54 that of an unknown stream (RFC 9114, section 9)
abbrev pub knows_sessions : Announced → Bool
knows_sessions own = not (is_strict own) || is_enabled 0x2b603742 own.settings

-- Unidirectional streams of types that have no meaning are handed out to a caller that asks for it
abbrev pub known_streams : Announced → StreamKinds
known_streams own = record { sessions = knows_sessions own; others = own.choices.extensions.other_streams }

-- PRIORITY_UPDATE is known if what it says is kept (RFC 9218, section 7.2)
abbrev pub knows_updates : Announced → Bool
knows_updates own = nat_lt 0 own.choices.extensions.priority_updates

abbrev pub kinds_of : Announced → FrameKinds
kinds_of own = record { sessions = knows_sessions own; updates = knows_updates own }

-- A client begins no request once its peer's GOAWAY came (RFC 9114, section 5.2), on a stream that was opened before either
abbrev pub begins_none_after : Announced → Side → Option ℕ → Option ℕ
begins_none_after own Client last = if is_strict own then last else None
begins_none_after own Server last = None
