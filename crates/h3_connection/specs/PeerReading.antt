-- What the peer's control stream says (RFC 9114, sections 6.2.1 and 7.2), by that stream alone.
use Rattle.std.specs.Prelude.{ℕ, zero, suc, ◌%◌, Bool, false, not, ◌||◌, List, [], ◌∷◌, ◌++◌, length, if◌then◌else◌, ◌==◌, nat_lt, Option, Some, None}
use Rattle.h3_proto.specs.declared.stream.Side.{Side}
use Rattle.h3_proto.specs.declared.stream.Side.TheVariants.{Client, Server}
use Rattle.h3_frames.specs.ExcessiveFrames.{is_excessive_by}
use Rattle.h3_frames.specs.Frames.{Front, Whole, Unknown, Refused, Unfinished, frame_by}
use Rattle.h3_frames.specs.Known.{known_by}
use Rattle.h3_frames.specs.declared.frame.kinds.FrameKinds.{FrameKinds}
use Rattle.h3_frames.specs.declared.proto.frame.PayloadLen.{PayloadLen}
use Rattle.h3_frames.specs.declared.proto.frame.Frame.{Frame}
use Rattle.h3_frames.specs.declared.proto.frame.Frame.TheVariants as frame
use Rattle.h3_frames.specs.declared.proto.frame.FrameError.{FrameError}
use Rattle.h3_frames.specs.declared.proto.frame.FrameError.TheVariants as error
use Rattle.h3_connection.specs.Codes.{excessive_load, frame_unexpected, general_protocol_error, id_error, missing_settings, refusal_code, settings_code}
use Rattle.h3_connection.specs.Lasts.{last_id}
use Rattle.h3_connection.specs.OtherSettings.{OtherSettings, no_others, with_others}
use Rattle.h3_connection.specs.Updates.{Updates, no_updates, with_update}
use Rattle.h3_priority.specs.Priority.{PriorityParameters, priority_of}
use Rattle.h3_proto.specs.StreamIds.{is_request_stream}
use Rattle.h3_frames.specs.Update.{Update}

pub record Peer : Type 0 where
  pub unread : List ℕ
  pub settings : Option (List (ℕ × ℕ))
  pub goaways : List ℕ
  pub most_pushes : Option ℕ
  pub updates : Updates
  pub others : OtherSettings

-- of a peer of whose updates, and of whose settings of no meaning, so many are kept
abbrev pub none_read : ℕ → ℕ → Peer
none_read updates others =
    record { unread = []; settings = None; goaways = []; most_pushes = None; updates = no_updates updates; others = no_others others }

-- the peer after its bytes were read, and the code of a connection fault
abbrev pub PeerFound : Type 0
PeerFound = Peer × Option ℕ

abbrev pub with_unread : Peer → List ℕ → Peer
with_unread p bytes = record p { unread = bytes }

abbrev pub is_above : ℕ → Option ℕ → Bool
is_above id None = false
is_above id (Some earlier) = nat_lt earlier id

abbrev pub is_below : ℕ → Option ℕ → Bool
is_below id None = false
is_below id (Some earlier) = nat_lt id earlier

-- a server names request streams alone
abbrev pub is_no_goaway : Side → ℕ → Bool
is_no_goaway Client id = not (id % 4 == 0)
is_no_goaway Server id = false

-- RFC 9114 5.2: GOAWAY raised, received
abbrev pub read_goaway : Side → Peer → ℕ → PeerFound
read_goaway side p id =
    if is_no_goaway side id || is_above id (last_id p.goaways) then (p, Some id_error)
    else (record p { goaways = p.goaways ++ id ∷ [] }, None)

-- RFC 9114 7.2.7: MAX_PUSH_ID lowered
abbrev pub read_max_push : Side → Peer → ℕ → PeerFound
read_max_push Client p id = (p, Some frame_unexpected)
read_max_push Server p id =
    if is_below id p.most_pushes then (p, Some id_error) else (record p { most_pushes = Some id }, None)

-- RFC 9218 7.2: PRIORITY_UPDATE, received
-- a text that says no priority is a fault (RFC 9218, section 7)
abbrev pub read_priority : Peer → ℕ → Option PriorityParameters → PeerFound
read_priority p id None = (p, Some general_protocol_error)
read_priority p id (Some priority) = (record p { updates = with_update p.updates id priority }, None)

-- no push was promised, and a response has the id of its request stream
abbrev pub is_no_element : Update → Bool
is_no_element u = u.is_push || not (is_request_stream u.id)

-- a client sends it, and no server
abbrev pub read_update : Side → Peer → Update → PeerFound
read_update Client p u = (p, Some frame_unexpected)
read_update Server p u = if is_no_element u then (p, Some id_error) else read_priority p u.id (priority_of u.value)

-- RFC 9114 7.2: frames out of place on a control stream
-- RFC 9114 6.2.1: SETTINGS first
-- a frame: the first has to be the settings, and no later one may
abbrev pub read_frame : Side → Peer → Option (List (ℕ × ℕ)) → Frame PayloadLen → PeerFound
read_frame side p None (frame.Settings pairs) = (record p { settings = Some pairs }, None)
read_frame side p None _ = (p, Some missing_settings)
read_frame side p (Some pairs) (frame.Goaway id) = read_goaway side p id
read_frame side p (Some pairs) (frame.CancelPush id) = (p, Some id_error)
read_frame side p (Some pairs) (frame.MaxPushId id) = read_max_push side p id
read_frame side p (Some pairs) (frame.PriorityUpdate u) = read_update side p u
read_frame side p (Some pairs) _ = (p, Some frame_unexpected)

-- a frame that is refused: before the settings it counts as another frame, unless it is theirs
abbrev pub refused_code : Option (List (ℕ × ℕ)) → FrameError → ℕ
refused_code (Some pairs) e = refusal_code e
refused_code None (error.Settings e) = settings_code e
refused_code None _ = missing_settings

-- what follows, where there is no fault
abbrev pub unless_fault : PeerFound → (Peer → PeerFound) → PeerFound
unless_fault (p, Some code) go = (p, Some code)
unless_fault (p, None) go = go p

-- the peer whose next frame is this one, which stands in these bytes in front of the rest
abbrev pub having_frame : Peer → Frame PayloadLen → List ℕ → List ℕ → Peer
having_frame p f bytes rest = record p { unread = rest; others = with_others p.settings f p.others bytes }

abbrev pub at_front : (Peer → PeerFound) → Side → Peer → List ℕ → Front → PeerFound
at_front go side p bytes (Whole f rest) = unless_fault (read_frame side (having_frame p f bytes rest) p.settings f) go
at_front go side p bytes (Refused e) = (with_unread p bytes, Some (refused_code p.settings e))
at_front go side p bytes (Unknown kind rest) = (with_unread p bytes, None)
at_front go side p bytes (Unfinished least) = (with_unread p bytes, None)

-- A frame that is longer than the endpoint takes is a fault of the connection (RFC 9114, sections 8.1 and 10.5), whether its payload came or
-- not: its head is enough. What came is let go
abbrev pub unless_excessive : FrameKinds → ℕ → List ℕ → Peer → PeerFound → PeerFound
unless_excessive kinds limit bytes p found = if is_excessive_by kinds limit bytes then (with_unread p [], Some excessive_load) else found

-- Frames of unknown types are passed over before the settings too: that SETTINGS comes first (RFC 9114, section 6.2.1) is enforced against
-- those by an endpoint that asks for a strict connection, in front of this reading.
abbrev pub read_within : FrameKinds → ℕ → ℕ → Side → Peer → PeerFound
read_within kinds zero limit side p = (p, None)
read_within kinds (suc most) limit side p =
    let bytes = known_by kinds p.unread in
    unless_excessive kinds limit bytes p (at_front (read_within kinds most limit side) side p bytes (frame_by kinds bytes))

-- all whole frames that were not read, up to the first fault, where the endpoint knows these kinds and takes no longer ones than this limit
unfoldable pub read_peer : FrameKinds → ℕ → Side → Peer → PeerFound
read_peer kinds limit side p = read_within kinds (length p.unread) limit side p
