-- Bytes of an own stream come at the other side's endpoint: no refusal, and what it is after them.
use Rattle.std.proofs.Common.{◌≡◌, ℕ, List, [], ap, ◌+◌, ◌-◌, ◌++◌, take, drop, flat_map, ◌∙◌, Bool, true, nat_le, length, append_assoc}
use Rattle.h3_connection.specs.declared.arrival.Arrival.TheVariants.{BytesCame}
use Rattle.h3_connection.specs.Delivering.{deliver, bytes_at}
use Rattle.h3_connection.specs.Endpoint.{EndpointHistory, kind_of, goaway_encoding, first_decoder}
use Rattle.h3_connection.specs.Keeping.{arrives, arrives_behind}
use Rattle.std.specs.List.{AllByRecursion}
use Rattle.h3_coding.specs.Encodings.{encoding}
use Rattle.h3_field.specs.Instruction.{EncoderInstruction, encoder_bytes, DecoderInstruction, decoder_bytes}
use Rattle.h3_qpack.specs.Encodings.{IsWrittenInstruction}
use Rattle.h3_qpack.specs.WholeInstructions.{whole_in, rest_in}
use Rattle.h3_proto.specs.declared.stream.Side.{Side}
use Rattle.h3_connection.specs.Control.{increment}
use Rattle.h3_connection.specs.Endpoint.Kind.{PeerUnidirectional}
use Rattle.h3_connection.specs.OwnIds.{other, encoder_id, decoder_id, control_id}
use Rattle.h3_connection.specs.StreamSets.{stream_at}
use Rattle.h3_connection.specs.Unidirectional.Role.{Encoder, Decoder, Control}
use Rattle.h3_world.specs.Setup.{Setup, announced_at}
use Rattle.std.specs.Prelude.{is_some}
use Rattle.h3_field.specs.InstructionAnswer.{IsReply}
use Rattle.h3_qpack.specs.Instructions.{AreAccepted}
use Rattle.h3_world.specs.OwnStreams.{settings_bytes}
use Rattle.h3_headline.specs.Cited.{IsRead, StreamLaws}
use Rattle.h3_headline.specs.LearningLaws.{control_came}
use Rattle.h3_headline.specs.ListeningLaws.{decoder_came, encoder_came}
use Rattle.h3_headline.specs.OwnStreams.{Takes, accepted}
use Rattle.h3_headline.specs.PeerStreams.{MayListen, added_since, after_control, controlling, decoding_of, encoder_then, hearing, listening, peer_by, replies_between, role_by, settings_frame_of, with_role}
use Rattle.h3_headline.specs.RoleLaws.{delivered_typed, heard_typed, kind_of_control, kind_of_decoder, kind_of_encoder, typed_control, typed_decoder, typed_encoder}
use Rattle.h3_headline.specs.Standing.{HasControl, HasDecoderStream, HasEncoderStream, came_on, replies_unread, most_kept}
use Rattle.h3_headline.specs.WritesMoreLaws.{type_of_control, type_of_decoder, type_of_encoder}

pub arrives_plain : (e : EndpointHistory) (id : ℕ) (bytes : List ℕ) → e.kept ≡ [] → arrives e (BytesCame id bytes) ≡ deliver e id bytes
arrives_plain e id bytes none = ap (λ k. arrives_behind k e (BytesCame id bytes)) none

-- bytes of the encoder stream
pub encoder_delivered : (laws : StreamLaws) (setup : Setup) (side : Side) (e : EndpointHistory) (came count : ℕ) (is : List EncoderInstruction) → Takes side e
    → HasEncoderStream setup side came is (stream_at e.unidirectional (encoder_id (other side))) e.encoder_on e.decoding → AllByRecursion IsWrittenInstruction is
    → (after : IsRead (first_decoder (announced_at setup side)) (take (whole_in encoder_bytes (came + count - 1) is) is))
    → arrives e (BytesCame (encoder_id (other side)) (take count (drop came (encoding 2 ++ flat_map encoder_bytes is))))
    ≡ accepted (hearing e (encoder_id (other side)) (with_role (role_by (came + count) Encoder)) (came_on (came + count) (encoder_id (other side)))
    (decoding_of after.decoder (rest_in encoder_bytes (came + count - 1) is)) (increment (added_since e.decoding.decoder after.decoder)))
encoder_delivered laws setup side e came count is t h written after =
    let id = encoder_id (other side) in
    let units = flat_map encoder_bytes is in
    let bytes = take count (drop came (encoding 2 ++ units)) in
    let new =
    hearing e id (with_role (role_by (came + count) Encoder)) (came_on (came + count) id) (decoding_of after.decoder (rest_in encoder_bytes (came + count - 1) is)) (increment (added_since e.decoding.decoder after.decoder)) in
    arrives_plain e id bytes t.nothing_kept
    ∙ delivered_typed e new id came Encoder bytes t.no_fault (ap (λ s. kind_of s id) t.side_is ∙ kind_of_encoder side) h.stream_is
    (ap (λ k. bytes_at e id (take count (drop came (k ++ units))) PeerUnidirectional) type_of_encoder
    ∙ heard_typed e id 2 Encoder came count units typed_encoder h.stream_is
    ∙ encoder_came laws setup side e came count is (stream_at e.unidirectional id) t.any h written after)

-- bytes of the decoder stream
pub decoder_delivered : (laws : StreamLaws) (side : Side) (knows : Bool) (e : EndpointHistory) (came count : ℕ) (is : List DecoderInstruction) → Takes side e
    → is_some e.peer.settings ≡ knows → HasDecoderStream side knows came is (stream_at e.unidirectional (decoder_id (other side))) e.decoder_on e.decoder_unread → AllByRecursion IsReply is
    → (knows ≡ true → AreAccepted e.encoder (replies_between (came - 1) (came + count - 1) is))
    → arrives e (BytesCame (decoder_id (other side)) (take count (drop came (encoding 3 ++ flat_map decoder_bytes is))))
    ≡ accepted (listening e (decoder_id (other side)) (with_role (role_by (came + count) Decoder)) (came_on (came + count) (decoder_id (other side)))
    (encoder_then knows e.encoder (came - 1) (came + count - 1) is) (replies_unread knows (came + count) is))
decoder_delivered laws side knows e came count is t known h written fits =
    let id = decoder_id (other side) in
    let units = flat_map decoder_bytes is in
    let bytes = take count (drop came (encoding 3 ++ units)) in
    let new = listening e id (with_role (role_by (came + count) Decoder)) (came_on (came + count) id) (encoder_then knows e.encoder (came - 1) (came + count - 1) is) (replies_unread knows (came + count) is) in
    arrives_plain e id bytes t.nothing_kept
    ∙ delivered_typed e new id came Decoder bytes t.no_fault (ap (λ s. kind_of s id) t.side_is ∙ kind_of_decoder side) h.stream_is
    (ap (λ k. bytes_at e id (take count (drop came (k ++ units))) PeerUnidirectional) type_of_decoder
    ∙ heard_typed e id 3 Decoder came count units typed_decoder h.stream_is
    ∙ decoder_came laws side knows e came count is (stream_at e.unidirectional id) t.any known h written fits)

-- bytes of the control stream
pub control_delivered : (laws : StreamLaws) (setup : Setup) (side : Side) (e : EndpointHistory) (came count : ℕ) (gs : List ℕ) (replies_came : ℕ) (replies : List DecoderInstruction) → Takes side e
    → HasControl setup side came gs (stream_at e.unidirectional (control_id (other side))) e.control_on e.peer → MayListen setup side e came gs replies_came replies
    → arrives e (BytesCame (control_id (other side)) (take count (drop came (settings_bytes (announced_at setup (other side)) ++ flat_map goaway_encoding gs))))
    ≡ accepted (after_control (nat_le (length (settings_bytes (announced_at setup (other side)))) came) (nat_le (length (settings_bytes (announced_at setup (other side)))) (came + count))
    (controlling e (control_id (other side)) (with_role (role_by (came + count) Control)) (came_on (came + count) (control_id (other side)))
    (peer_by (most_kept (announced_at setup side)) (announced_at setup (other side)) (nat_le (length (settings_bytes (announced_at setup (other side)))) (came + count)) (came + count) gs))
    (announced_at setup (other side)).limits replies_came replies)
control_delivered laws setup side e came count gs replies_came replies t h m =
    let id = control_id (other side) in
    let a = announced_at setup (other side) in
    let L = length (settings_bytes a) in
    let S = settings_frame_of a in
    let G = flat_map goaway_encoding gs in
    let bytes = take count (drop came (settings_bytes a ++ G)) in
    let new =
    after_control (nat_le L came) (nat_le L (came + count)) (controlling e id (with_role (role_by (came + count) Control)) (came_on (came + count) id) (peer_by (most_kept (announced_at setup side)) a (nat_le L (came + count)) (came + count) gs)) a.limits replies_came replies in
    arrives_plain e id bytes t.nothing_kept
    ∙ delivered_typed e new id came Control bytes t.no_fault (ap (λ s. kind_of s id) t.side_is ∙ kind_of_control side) h.stream_is
    (ap (λ l. bytes_at e id (take count (drop came l)) PeerUnidirectional) (append_assoc (encoding 0) S G)
    ∙ ap (λ k. bytes_at e id (take count (drop came (k ++ (S ++ G)))) PeerUnidirectional) type_of_control
    ∙ heard_typed e id 0 Control came count (S ++ G) typed_control h.stream_is
    ∙ control_came laws setup side e came count gs replies_came replies (stream_at e.unidirectional id) h m)
