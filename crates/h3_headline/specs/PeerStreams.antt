-- What an endpoint makes of the bytes of the other side's control, encoder and decoder streams.
use Rattle.std.proofs.Common.{◌≡◌, ℕ, ◌+◌, ◌^◌, ◌<◌, ◌≤◌, Bool, ◌++◌, Ok, List, length, min, ◌-◌, if◌then◌else◌, [], take, drop, ◌∷◌, Some, None, flat_map, Option, true, false, nat_le}
use Rattle.h3_proto.specs.Config.{announced, grease_pairs, own_pairs, table_pairs}
use Rattle.h3_proto.specs.declared.config.Config.{Config}
use Rattle.h3_proto.specs.declared.config.Settings.{Settings}
use Rattle.h3_connection.specs.declared.setup.Announced.{Announced}
use Rattle.std.specs.Prelude.{unwrap_or, ◌==◌}
use Rattle.h3_qpack.specs.Exchange as exchange
use Rattle.h3_proto.specs.Pairs.{payload_of}
use Rattle.h3_proto.specs.Settings.{value_of, settings_of}
use Rattle.h3_world.specs.Following.{opening}
use Rattle.h3_connection.specs.Unidirectional.{StreamKinds, Role, Unidirectional, role_after, with_bytes, untold}
use Rattle.h3_connection.specs.Unidirectional.Role.{Untold}
use Rattle.h3_frames.specs.Encoded.{frame_encoding}
use Rattle.h3_qpack.specs.WholeInstructions.{whole_in, rest_in, decoder_instructions_in}
use Rattle.h3_connection.specs.Endpoint.{goaway_encoding, EndpointHistory, Own}
use Rattle.h3_connection.specs.PeerReading.{Peer, PeerFound, with_unread, read_peer}
use Rattle.h3_connection.specs.OtherSettings.{OtherSettings}
use Rattle.h3_connection.specs.Updates.{Updates, no_updates}
use Rattle.h3_world.specs.OwnStreams.{settings_bytes}
use Rattle.h3_proto.specs.declared.stream.Side.{Side}
use Rattle.h3_connection.specs.OwnIds.{other}
use Rattle.h3_field.specs.Instruction.{DecoderInstruction, decoder_bytes}
use Rattle.h3_connection.specs.Control.{Found, is_table_usable, with_table, if_learned, then_decoder}
use Rattle.h3_qpack.specs.DecoderState.{DecoderState}
use Rattle.h3_connection.specs.Listeners.{Decoding}
use Rattle.h3_connection.specs.StrictConnection.{settings_refused}
use Rattle.h3_connection.specs.Delivering.{with_unidirectional}
use Rattle.h3_qpack.specs.EncoderHistory.{EncoderHistory, encoder_after_all, using_table}
use Rattle.h3_connection.specs.declared.setup.Limits.{Limits}
use Rattle.h3_world.specs.Setup.{Setup, TakesAnyLength, has_table, announced_at}
use Rattle.h3_field.specs.Instruction.EncoderInstruction.{SetCapacity}
use Rattle.std.specs.List.{AllByRecursion}
use Rattle.h3_field.specs.InstructionAnswer.{IsReply}
use Rattle.h3_qpack.specs.Instructions.{AreAccepted}
use Rattle.h3_headline.specs.Standing.{AreGoaways, others_once, replies_unread, with_meaning}
use Rattle.h3_frames.specs.declared.frame.kinds.FrameKinds.{FrameKinds}

-- the parts of what is announced
pub record Parts (a : Announced) : Type 0 where
  pub send : Bool
  pub grease : ℕ
  pub own : Settings
  pub config : Config
  pub low : grease < 0x210842108421083
  pub made : announced config grease ≡ Ok (grease_pairs send grease ++ own_pairs own)
  pub own_is : config.settings ≡ own
  pub settings : a.settings ≡ (grease_pairs send grease ++ own_pairs own) ++ table_pairs a.limits.table a.limits.blocked
  pub table : a.limits.table < 2 ^ 30
  pub blocked : a.limits.blocked < 2 ^ 16

-- What the other side makes of the announced settings.
pub record Announces (a : Announced) : Type 0 where
  pub received : settings_of (payload_of a.settings) ≡ Ok (with_meaning a.settings)
  pub small : length (payload_of a.settings) < 2 ^ 62
  pub few : length (payload_of a.settings) ≤ 128
  pub table : unwrap_or (value_of 1 (with_meaning a.settings)) 0 ≡ a.limits.table
  pub blocked : unwrap_or (value_of 7 (with_meaning a.settings)) 0 ≡ a.limits.blocked
  pub opening : (most : ℕ) → opening most a.limits ≡ exchange.opening (min most a.limits.table)
  pub low : a.limits.table < 2 ^ 30

-- the role of a stream of which so many bytes came
abbrev pub role_by : ℕ → Role → Role
role_by came role = if came == 0 then Untold [] else role

-- what comes behind the type
abbrev pub behind_type : ℕ → ℕ → List ℕ → List ℕ
behind_type came count units = take (came + count - 1 - (came - 1)) (drop (came - 1) units)

-- The byte tells the role, which then stays.
pub record IsTyped (kind : ℕ) (role : Role) : Type 0 where
  pub first : (known : StreamKinds) (rest : List ℕ) → role_after known (Untold []) (kind ∷ rest) ≡ (role, rest)
  pub stays : (known : StreamKinds) (bytes : List ℕ) → role_after known role bytes ≡ (role, bytes)
  pub keeps : (o : Unidirectional) (bytes : List ℕ) → with_bytes o (role, bytes) ≡ record o { role = role }

abbrev pub roled : Role → List ℕ → Role × List ℕ
roled role bytes = (role, bytes)

-- the stream as it is kept
abbrev pub with_role : Role → Unidirectional
with_role role = record untold { role = role }

-- the SETTINGS frame
abbrev pub settings_frame_of : Announced → List ℕ
settings_frame_of a = frame_encoding 4 (payload_of a.settings)

-- what is known of the writer, where its settings are there or not, after so many bytes; no update came, of which so many would be kept, and so
-- many settings of no meaning
abbrev pub peer_by : ℕ × ℕ → Announced → Bool → ℕ → List ℕ → Peer
peer_by most a there n goaways =
    record {
      unread = if there then rest_in goaway_encoding (n - length (settings_bytes a)) goaways else drop 1 (take n (settings_bytes a));
      settings = if there then Some (with_meaning a.settings) else None;
      goaways = take (whole_in goaway_encoding (n - length (settings_bytes a)) goaways) goaways;
      most_pushes = None;
      updates = no_updates most.0;
      others = others_once there most.1 a;
    }

-- no frame is too long
abbrev pub no_limit : ℕ
no_limit = 2 ^ 62 - 1

abbrev pub no_fault : Peer → PeerFound
no_fault p = (p, None)

-- a control stream of which so many bytes came, and so many come now
module _ (writer : Side) (a : Announced) (came count : ℕ) (gs : List ℕ) where
  abbrev pub new_bytes : List ℕ
  new_bytes = behind_type came count (settings_frame_of a ++ flat_map goaway_encoding gs)

  abbrev pub Reads : Bool → Bool → Type 0
  Reads b c = (kinds : FrameKinds) (most : ℕ × ℕ) → read_peer kinds no_limit (other writer) (with_unread (peer_by most a b came gs) ((peer_by most a b came gs).unread ++ new_bytes)) ≡ no_fault (peer_by most a c (came + count) gs)

abbrev pub having_read : Peer → List ℕ → List ℕ → Peer
having_read p ids rest = record p { goaways = p.goaways ++ ids; unread = rest }

-- the last of some ids, or the one before them
abbrev pub last_of : Option ℕ → List ℕ → Option ℕ
last_of before [] = before
last_of before (id ∷ ids) = last_of (Some id) ids

-- the instructions that are whole now and were not
abbrev pub replies_between : ℕ → ℕ → List DecoderInstruction → List DecoderInstruction
replies_between few many all = drop (length (decoder_instructions_in few all)) (decoder_instructions_in many all)

abbrev pub without_fault : EndpointHistory → Found
without_fault e = (e, None)

-- what is kept of an encoder stream
abbrev pub decoding_of : DecoderState → List ℕ → Decoding
decoding_of decoder unread = record { decoder = decoder; unread = unread }

-- the endpoint after bytes of the other side's encoder stream
abbrev pub hearing : EndpointHistory → ℕ → Unidirectional → Option ℕ → Decoding → List DecoderInstruction → EndpointHistory
hearing e id o on decoding replies =
    record (with_unidirectional e id o) { encoder_on = on; decoding = decoding; own = record e.own { replies = e.own.replies ++ replies } }

-- the number of insertions that a decoder has read since
abbrev pub added_since : DecoderState → DecoderState → ℕ
added_since before after = after.table.inserted - before.table.inserted

-- the endpoint after bytes of the other side's decoder stream
abbrev pub listening : EndpointHistory → ℕ → Unidirectional → Option ℕ → EncoderHistory → List ℕ → EndpointHistory
listening e id o on encoder unread = record (with_unidirectional e id o) { decoder_on = on; encoder = encoder; decoder_unread = unread }

-- the encoder after them: it reads nothing before it knows the settings
abbrev pub encoder_then : Bool → EncoderHistory → ℕ → ℕ → List DecoderInstruction → EncoderHistory
encoder_then knows s few many replies = if knows then encoder_after_all s (replies_between few many replies) else s

-- an encoder that learns such limits, and what it writes
abbrev pub learned_encoder : Limits → EncoderHistory → EncoderHistory
learned_encoder limits s = if has_table s.most_capacity limits then using_table s limits.table limits.blocked else s

abbrev pub learned_own : ℕ → Limits → Own → Own
learned_own most limits own = if has_table most limits then record own { instructions = own.instructions ++ SetCapacity (min most limits.table) ∷ [] } else own

-- the endpoint that knows them now
abbrev pub knowing : EndpointHistory → Limits → EndpointHistory
knowing e limits = record e { encoder = learned_encoder limits e.encoder; own = learned_own e.encoder.most_capacity limits e.own }

-- and that has read what the other side's decoder said
abbrev pub learning : EndpointHistory → Limits → ℕ → List DecoderInstruction → EndpointHistory
learning e limits came replies =
    record e {
      encoder = encoder_after_all (learned_encoder limits e.encoder) (decoder_instructions_in (came - 1) replies);
      own = learned_own e.encoder.most_capacity limits e.own;
      decoder_unread = rest_in decoder_bytes (came - 1) replies;
    }

-- only where the settings come now
abbrev pub after_control : Bool → Bool → EndpointHistory → Limits → ℕ → List DecoderInstruction → EndpointHistory
after_control false true e limits came replies = learning e limits came replies
after_control false false e limits came replies = e
after_control true c e limits came replies = e

abbrev pub limited_by : EndpointHistory → ℕ → ℕ → EndpointHistory
limited_by e capacity blocked = if is_table_usable e.encoder.most_capacity capacity blocked then with_table e capacity blocked else e

abbrev pub settled : Option (List (ℕ × ℕ)) → Option (List (ℕ × ℕ)) → EndpointHistory → Found
settled before after e = then_decoder before after (if_learned before after e) None

-- the endpoint after bytes of the control stream, but for what it learns
abbrev pub controlling : EndpointHistory → ℕ → Unidirectional → Option ℕ → Peer → EndpointHistory
controlling e id o on peer = record (with_unidirectional e id o) { control_on = on; peer = peer }

abbrev pub peer_of : List ℕ → Option (List (ℕ × ℕ)) → List ℕ → Option ℕ → Updates → OtherSettings → Peer
peer_of unread settings goaways most_pushes updates others = record { unread = unread; settings = settings; goaways = goaways; most_pushes = most_pushes; updates = updates; others = others }

-- What is said of the endpoint before.
pub record MayListen (setup : Setup) (side : Side) (e : EndpointHistory) (came : ℕ) (gs : List ℕ) (replies_came : ℕ) (replies : List DecoderInstruction) : Type 0 where
  pub side_is : e.side ≡ side
  pub any : TakesAnyLength e.announced
  pub announces : Announces (announced_at setup (other side))
  pub takes : settings_refused side e.announced (Some (with_meaning (announced_at setup (other side)).settings)) ≡ false
  pub goaways : AreGoaways (other side) None gs
  pub left : e.decoder_unread ≡ replies_unread (nat_le (length (settings_bytes (announced_at setup (other side)))) came) replies_came replies
  pub written : AllByRecursion IsReply replies
  pub accepted : nat_le (length (settings_bytes (announced_at setup (other side)))) came ≡ false → AreAccepted e.encoder replies
