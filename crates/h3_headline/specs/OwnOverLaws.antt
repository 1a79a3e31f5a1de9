-- Bytes of an own stream go over: both endpoints stand in the world after that.
use Rattle.h3_proto.specs.declared.stream.Side.{Side}
use Rattle.h3_proto.specs.declared.stream.Side.TheVariants.{Client, Server}
use Rattle.h3_world.specs.Sound.{IsSoundWorld, IsSoundParty}
use Rattle.h3_world.specs.World.{World, party, Party}
use Rattle.std.proofs.Common.{◌≡◌, ℕ, Option, Some, None, ap, ◌∙◌, ◌+◌, ◌++◌, drop, flat_map, refl, ◌-◌, length, sym, subst, take, arith, Bool, true, false, if◌then◌else◌, List, ◌≤◌, []}
use Rattle.h3_connection.specs.Endpoint.{EndpointHistory, bytes_waiting, own_waiting, Own, goaway_encoding, first_decoder}
use Rattle.h3_connection.specs.OwnSettings.{control_start}
use Rattle.h3_connection.specs.OwnUpdates.{OwnUpdate, control_frames}
use Rattle.h3_connection.specs.Outgoing.{Outgoing, part_bytes_waiting}
use Rattle.h3_connection.specs.StreamSets.{stream_at}
use Rattle.h3_world.specs.Setup.{Setup, TakesAnyLength, announced_at, IsMadeSetup}
use Rattle.h3_connection.specs.StrictConnection.{settings_refused}
use Rattle.h3_connection.specs.OwnIds.{control_id, encoder_id, decoder_id, other}
use Rattle.h3_connection.specs.declared.setup.Announced.{Announced}
use Rattle.h3_world.specs.OwnStreams.{settings_bytes}
use Rattle.h3_field.specs.Instruction.{encoder_bytes, decoder_bytes, DecoderInstruction}
use Rattle.h3_coding.specs.Encodings.{encoding}
use Rattle.h3_connection.specs.Sending.{advance, advance_at, own_advanced}
use Rattle.h3_connection.specs.Control.{increment}
use Rattle.h3_world.specs.Delivering.{delivered_own}
use Rattle.h3_qpack.specs.WholeInstructions.{whole_in, insertions_in, decoder_instructions_in}
use Rattle.std.specs.Prelude.{is_some}
use Rattle.h3_qpack.specs.Instructions.{AreAccepted}
use Rattle.h3_world.specs.Following.{replies_left}
use Rattle.h3_connection.specs.declared.setup.Limits.{Limits}
use Rattle.h3_connection.specs.Unidirectional.Role.{Control}
use Rattle.h3_headline.specs.AcceptedLaws.{counts_all, replies_accepted}
use Rattle.h3_headline.specs.AnnouncedLaws.{announces_at, takes_at}
use Rattle.h3_headline.specs.Arriving.{saying}
use Rattle.h3_headline.specs.Cited.{IsRead, StreamLaws}
use Rattle.h3_headline.specs.DecoderStreamLaws.{between_accepted}
use Rattle.h3_headline.specs.EncoderStreamLaws.{instructions_read}
use Rattle.h3_headline.specs.FlowLaws.{other-other}
use Rattle.h3_headline.specs.LearningLaws.{still}
use Rattle.h3_headline.specs.OwnDeliveredLaws.{control_delivered, decoder_delivered, encoder_delivered}
use Rattle.h3_headline.specs.OwnMovesLaws.{controlling_stands, hearing_stands, listening_stands, writer_stands}
use Rattle.h3_headline.specs.OwnStreams.{GoesOver, Takes, further_own, insertions_of, left_of, listened_to, party_of, read_of, writing}
use Rattle.h3_headline.specs.OwnWorldLaws.{advanced_control, advanced_decoder, advanced_encoder, insertions_listened, listened_writes, reader_after, replies_listened, settings_listened, streams_after, writer_after}
use Rattle.h3_headline.specs.PeerStreams.{added_since, after_control, controlling, encoder_then, peer_by, replies_between, role_by, with_role}
use Rattle.h3_headline.specs.Standing.{IsWritable, WritesNoMore, StandsAt, are_settings_there, came_on, with_meaning, most_kept}
use Rattle.h3_headline.specs.UnitLaws.{whole_within}

pub party_sound : (setup : Setup) (w : World) (side : Side) → IsSoundWorld setup w → IsSoundParty setup w side
party_sound setup w Client h = h.client
party_sound setup w Server h = h.server

pub waiting_own : (setup : Setup) (w : World) (side : Side) (id : ℕ) (e : EndpointHistory) → StandsAt setup w side e → stream_at e.outgoing id ≡ None → bytes_waiting e id ≡ left_of side (party w side).own (announced_at setup side) id
waiting_own setup w side id e h none =
    ap (λ (o : Option Outgoing). elim o [ None ↦ own_waiting e id | Some x ↦ part_bytes_waiting x ]) none
    ∙ ap (λ s. left_of s e.own e.announced id) h.side_is
    ∙ ap (λ o. left_of side o e.announced id) h.own
    ∙ ap (λ a. left_of side (party w side).own a id) h.announced

pub left_control : (side : Side) (own : Own) (a : Announced) → WritesNoMore own → left_of side own a (control_id side) ≡ drop own.control_taken (settings_bytes a ++ flat_map goaway_encoding own.goaways)
left_control Client own a none = ap (λ (x : List OwnUpdate × List (ℕ × ℕ)). drop own.control_taken (control_start a.settings x.1 ++ control_frames 0 own.goaways x.0)) none
left_control Server own a none = ap (λ (x : List OwnUpdate × List (ℕ × ℕ)). drop own.control_taken (control_start a.settings x.1 ++ control_frames 0 own.goaways x.0)) none

pub left_encoder : (side : Side) (own : Own) (a : Announced) → left_of side own a (encoder_id side) ≡ drop own.encoder_taken (encoding 2 ++ flat_map encoder_bytes own.instructions)
left_encoder Client own a = refl
left_encoder Server own a = refl

pub left_decoder : (side : Side) (own : Own) (a : Announced) → left_of side own a (decoder_id side) ≡ drop own.decoder_taken (encoding 3 ++ flat_map decoder_bytes own.replies)
left_decoder Client own a = refl
left_decoder Server own a = refl

pub advanced_is : (setup : Setup) (w : World) (side : Side) (id count : ℕ) (e : EndpointHistory) → StandsAt setup w side e → stream_at e.outgoing id ≡ None
    → advance e id count ≡ record e { own = own_advanced (party w side).own side id count }
advanced_is setup w side id count e h none =
    ap (advance_at e id count) none
    ∙ ap (λ s. record e { own = own_advanced e.own s id count }) h.side_is
    ∙ ap (λ o. record e { own = own_advanced o side id count }) h.own

pub writer_over : (setup : Setup) (w : World) (side : Side) (id count : ℕ) (e : EndpointHistory) → StandsAt setup w (other side) e → IsSoundWorld setup w → stream_at e.outgoing id ≡ None
    → StandsAt setup (delivered_own setup w (other side) id count) (other side) (advance e id count)
writer_over setup w side id count e h sound none =
    let v = delivered_own setup w (other side) id count in
    let writer = other side in
    let own = (party w writer).own in
    let further = further_own w side id count in
    let knew = are_settings_there setup writer own.control_taken in
    let knows = are_settings_there setup writer further.control_taken in
    let wrote =
    listened_writes knew knows (announced_at setup writer).limits (party w side) (insertions_of further - insertions_of own) (drop (length (read_of setup writer own)) (read_of setup writer further)) in
    let more = increment (insertions_of further - insertions_of own) in
    let reader : (party v side).own ≡ writing (party w side).own wrote.instructions more = ap (λ (p : Party). p.own) (reader_after setup w side id count) ∙ wrote.is in
    let there : (party v (other writer)).own ≡ writing (party w (other writer)).own wrote.instructions more =
    subst (λ s. (party v s).own ≡ writing (party w s).own wrote.instructions more) (sym (other-other side)) reader in
    let s = party_sound setup w (other writer) sound in
    subst (StandsAt setup v writer) (sym (advanced_is setup w writer id count e h none))
    (writer_stands setup w v writer e further wrote.instructions more _ h (streams_after setup w writer id count) (writer_after setup w side id count) there s.writer)

takes : (setup : Setup) (w : World) (side : Side) (e : EndpointHistory) → StandsAt setup w side e → Takes side e
takes setup w side e h = record { side_is = h.side_is; any = subst TakesAnyLength (sym h.announced) h.any; no_fault = h.no_fault; nothing_kept = h.nothing_kept }

-- the instructions that came, once more came, are read
pub reads_all : (laws : StreamLaws) (setup : Setup) (w : World) (side : Side) (n : ℕ) → IsMadeSetup setup → IsSoundWorld setup w
    → IsRead (first_decoder (announced_at setup side)) (take (whole_in encoder_bytes n (party w (other side)).own.instructions) (party w (other side)).own.instructions)
reads_all laws setup w side n made sound =
    let is = (party w (other side)).own.instructions in
    subst (λ s. IsRead (first_decoder (announced_at setup s)) (take (whole_in encoder_bytes n is) is)) (other-other side)
    (instructions_read laws setup w (other side) (whole_in encoder_bytes n is) made (party_sound setup w (other side) sound) (whole_within encoder_bytes n is))

-- **The encoder stream.**
pub encoder_over : (laws : StreamLaws) (setup : Setup) (w : World) (side : Side) (count : ℕ) (e : EndpointHistory) → IsMadeSetup setup → IsSoundWorld setup w → IsWritable (other side) (party w (other side)).own → StandsAt setup w side e
    → GoesOver setup w side (encoder_id (other side)) count e (drop (party w (other side)).own.encoder_taken (encoding 2 ++ flat_map encoder_bytes (party w (other side)).own.instructions))
encoder_over laws setup w side count e made sound writable h =
    let own = (party w (other side)).own in
    let id = encoder_id (other side) in
    let v = delivered_own setup w (other side) id count in
    let is = own.instructions in
    let p = party w side in
    let limits = (announced_at setup (other side)).limits in
    let knows = are_settings_there setup (other side) own.control_taken in
    let few = own.encoder_taken - 1 in
    let many = own.encoder_taken + count - 1 in
    let after = reads_all laws setup w side many made sound in
    let more = increment (added_since e.decoding.decoder after.decoder) in
    let first = first_decoder (announced_at setup side) in
    let old = (counts_all first e.decoding.decoder (take (whole_in encoder_bytes few is) is) h.encoder_stream.decoder).sum in
    let new = (counts_all first after.decoder (take (whole_in encoder_bytes many is) is) after.reads).sum in
    let sizes : insertions_in many is - insertions_in few is ≡ added_since e.decoding.decoder after.decoder = omega (arith, old, new) in
    let advanced = advanced_encoder own (other side) count in
    let read = read_of setup (other side) own in
    let there = ap (λ (q : Party). q.own) (writer_after setup w side id count) ∙ advanced in
    let here : party v side ≡ record p { own = saying p.own more } =
    reader_after setup w side id count ∙ ap (λ o. listened_to setup (other side) p own o) advanced ∙ insertions_listened knows limits p (insertions_in many is - insertions_in few is) read
    ∙ ap (λ n. record p { own = saying p.own (increment n) }) sizes in
    record {
      after = _;
      arrived = encoder_delivered laws setup side e own.encoder_taken count is (takes setup w side e h) h.encoder_stream writable.instructions after;
      stands = hearing_stands setup w v side e count more h (streams_after setup w (other side) id count) after there here;
      next_id = refl;
    }

known_by : (b : Bool) (x : List (ℕ × ℕ)) → is_some (if b then Some x else None) ≡ b
known_by true x = refl
known_by false x = refl

-- what the reader's encoder has not read is accepted
left_accepted : (laws : StreamLaws) (setup : Setup) (w : World) (side : Side) (e : EndpointHistory) → IsSoundWorld setup w → StandsAt setup w side e
    → AreAccepted e.encoder (drop (length (read_of setup (other side) (party w (other side)).own)) (party w (other side)).own.replies)
left_accepted laws setup w side e sound h =
    let s = party_sound setup w side sound in
    subst (λ x. AreAccepted x (replies_left setup w side)) (sym h.encoder) (replies_accepted laws setup w side s.session)

-- **The decoder stream.**
pub decoder_over : (laws : StreamLaws) (setup : Setup) (w : World) (side : Side) (count : ℕ) (e : EndpointHistory) → IsSoundWorld setup w → IsWritable (other side) (party w (other side)).own → StandsAt setup w side e
    → GoesOver setup w side (decoder_id (other side)) count e (drop (party w (other side)).own.decoder_taken (encoding 3 ++ flat_map decoder_bytes (party w (other side)).own.replies))
decoder_over laws setup w side count e sound writable h =
    let own = (party w (other side)).own in
    let id = decoder_id (other side) in
    let v = delivered_own setup w (other side) id count in
    let replies = own.replies in
    let p = party w side in
    let a = announced_at setup (other side) in
    let knows = are_settings_there setup (other side) own.control_taken in
    let few = own.decoder_taken - 1 in
    let many = own.decoder_taken + count - 1 in
    let known : is_some e.peer.settings ≡ knows = ap is_some h.control.settings ∙ known_by knows _ in
    let left = left_accepted laws setup w side e sound h in
    let further : few ≤ many = omega arith in
    let fits : knows ≡ true → AreAccepted e.encoder (replies_between few many replies) =
    λ t. between_accepted e.encoder few many replies further (subst (λ b. AreAccepted e.encoder (drop (length (if b then decoder_instructions_in few replies else [])) replies)) t left) in
    let advanced = advanced_decoder own (other side) count in
    let there = ap (λ (q : Party). q.own) (writer_after setup w side id count) ∙ advanced in
    let here : party v side ≡ record p { encoder = encoder_then knows e.encoder few many replies } =
    reader_after setup w side id count ∙ ap (λ o. listened_to setup (other side) p own o) advanced ∙ replies_listened knows a.limits p (insertions_of own) few many replies
    ∙ ap (λ x. record p { encoder = encoder_then knows x few many replies }) (sym h.encoder) in
    record {
      after = _;
      arrived = decoder_delivered laws side knows e own.decoder_taken count replies (takes setup w side e h) known h.decoder_stream writable.replies fits;
      stands = listening_stands setup w v side e count (encoder_then knows e.encoder few many replies) h (streams_after setup w (other side) id count) there here;
      next_id = refl;
    }

same_next : (b c : Bool) (x : EndpointHistory) (limits : Limits) (came : ℕ) (replies : List DecoderInstruction) → (after_control b c x limits came replies).next_id ≡ x.next_id
same_next true c x limits came replies = refl
same_next false true x limits came replies = refl
same_next false false x limits came replies = refl

-- **The control stream.**
pub control_over : (laws : StreamLaws) (setup : Setup) (w : World) (side : Side) (count : ℕ) (e : EndpointHistory) → IsMadeSetup setup → IsSoundWorld setup w → IsWritable (other side) (party w (other side)).own → StandsAt setup w side e
    → GoesOver setup w side (control_id (other side)) count e (drop (party w (other side)).own.control_taken (settings_bytes (announced_at setup (other side)) ++ flat_map goaway_encoding (party w (other side)).own.goaways))
control_over laws setup w side count e made sound writable h =
    let own = (party w (other side)).own in
    let id = control_id (other side) in
    let v = delivered_own setup w (other side) id count in
    let replies = own.replies in
    let p = party w side in
    let a = announced_at setup (other side) in
    let L = length (settings_bytes a) in
    let many = own.control_taken + count in
    let knew = are_settings_there setup (other side) own.control_taken in
    let knows = are_settings_there setup (other side) many in
    let left = left_accepted laws setup w side e sound h in
    let fits : knew ≡ false → AreAccepted e.encoder replies =
    λ t. subst (λ b. AreAccepted e.encoder (drop (length (if b then decoder_instructions_in (own.decoder_taken - 1) replies else [])) replies)) t left in
    let order : knew ≡ true → knows ≡ true = λ t. still L own.control_taken many t (omega arith) in
    let x = controlling e id (with_role (role_by many Control)) (came_on many id) (peer_by (most_kept (announced_at setup side)) a knows many own.goaways) in
    let f = after_control knew knows x a.limits own.decoder_taken replies in
    let advanced = advanced_control own (other side) count in
    let there = ap (λ (q : Party). q.own) (writer_after setup w side id count) ∙ advanced in
    let was : p ≡ party_of x = ap (λ o. record p { own = o }) (sym h.own) ∙ ap (λ s. record p { own = e.own; encoder = s }) (sym h.encoder) in
    let now : party_of f ≡ party v side =
    settings_listened knew knows a.limits p x (insertions_of own) own.decoder_taken replies order was
    ∙ sym (reader_after setup w side id count ∙ ap (λ o. listened_to setup (other side) p own o) advanced) in
    record {
      after = f;
      arrived = control_delivered laws setup side e own.control_taken count own.goaways own.decoder_taken replies (takes setup w side e h) h.control
          (record { side_is = h.side_is; any = subst TakesAnyLength (sym h.announced) h.any; announces = announces_at setup (other side) made; takes = ap (λ a. settings_refused side a (Some (with_meaning (announced_at setup (other side)).settings))) h.announced ∙ takes_at setup side made; goaways = writable.goaways; left = h.decoder_stream.left; written = writable.replies; accepted = fits });
      stands = controlling_stands setup w v side e count knew knows h (streams_after setup w (other side) id count) refl refl order f refl there (ap (λ (q : Party). q.own) now) (ap (λ (q : Party). q.encoder) now);
      next_id = same_next knew knows x a.limits own.decoder_taken replies;
    }
