-- Bytes of an own stream of the writer that told its type go to its reader, and those that tell it do nothing else.
use Rattle.std.proofs.Common.{◌≡◌, ℕ, ◌-◌, Bool, true, false, List, [], ◌++◌, refl, sym, ap, ◌∙◌, arith, append-nil, if◌then◌else◌, Option, Some, None}
use Rattle.std.specs.Prelude.{◌==◌, is_some}
use Rattle.h3_field.specs.Instruction.{DecoderInstruction}
use Rattle.h3_proto.specs.declared.stream.Side.{Side}
use Rattle.h3_connection.specs.declared.arrival.Arrival.TheVariants.{BytesCame}
use Rattle.h3_connection.specs.Codes.{decoder_stream_error, encoder_stream_error}
use Rattle.h3_connection.specs.Control.{Found, increment, read_control, read_encoder, read_decoder, listened_to, kept_unread, taken_peer, then_decoder, if_learned}
use Rattle.h3_connection.specs.Delivering.{bytes_at, heard_as, unless_second, read_unidirectional, with_unidirectional}
use Rattle.h3_connection.specs.Endpoint.{EndpointHistory, limit_of, is_second, kind_of}
use Rattle.h3_connection.specs.Endpoint.Kind.{PeerUnidirectional}
use Rattle.h3_connection.specs.ExcessiveInstructions.{hear_up_to, listen_up_to}
use Rattle.h3_connection.specs.Keeping.{read_arrival}
use Rattle.h3_connection.specs.LimitedHearingLaws.{hears_nothing}
use Rattle.h3_connection.specs.LimitedListeningLaws.{listens_nothing}
use Rattle.h3_connection.specs.PeerReading.{Peer, read_peer, with_unread}
use Rattle.h3_connection.specs.StreamSets.{stream_at}
use Rattle.h3_connection.specs.StreamSetLaws.{set-same}
use Rattle.h3_connection.specs.StrictConnection.{is_strict, stream_fault, kinds_of, known_streams}
use Rattle.h3_connection.specs.StrictConnectionLaws.{nothing_held, nothing_told}
use Rattle.h3_connection.specs.Unidirectional.{Unidirectional, Role, untold, role_after, with_bytes}
use Rattle.h3_connection.specs.Unidirectional.Role.{Untold, Control, Encoder, Decoder}
use Rattle.h3_headline.specs.PeerStreams.{with_role}
use Rattle.h3_headline.specs.Standing.{IsPeerStream, came_on}
use Rattle.h3_frames.specs.declared.frame.kinds.FrameKinds.{FrameKinds}

-- A stream that told its role, at the endpoint that reads it.
pub record IsReadAs (e : EndpointHistory) (id : ℕ) (role : Role) (on : Option ℕ) : Type 0 where
  pub kind : kind_of e.side id ≡ PeerUnidirectional
  pub stream : stream_at e.unidirectional id ≡ Some (with_role role)
  pub on_it : on ≡ Some id

pub told_stream : (came : ℕ) (role : Role) (o : Option Unidirectional) → (came ≡ 0 → ⊥) → IsPeerStream came role o → o ≡ Some (with_role role)
told_stream came role None told h = absurd (told h)
told_stream came role (Some o) told h = ap Some (h ∙ by_test (came == 0) refl)
  where
    by_test : (b : Bool) → (came == 0) ≡ b → with_role (if b then Untold [] else role) ≡ with_role role
    by_test true e = absurd (told (Rattle.h3_headline.specs.FlowLaws.same_number came 0 e))
    by_test false e = refl

pub came_on_is : (came x id : ℕ) → came_on came x ≡ Some id → (came ≡ 0 → ⊥) × (id ≡ x)
came_on_is came x id e = by_test (came == 0) refl e
  where
    by_test : (b : Bool) → (came == 0) ≡ b → (if b then None else Some x) ≡ Some id → (came ≡ 0 → ⊥) × (id ≡ x)
    by_test true t e = absurd (cc)
    by_test false t e = (λ none. differ (sym (ap (λ n. n == 0) none) ∙ t), cc)
      where
        differ : true ≡ false → ⊥
        differ e = cc

same_stream : (e : EndpointHistory) (id : ℕ) (role : Role) → stream_at e.unidirectional id ≡ Some (with_role role) → with_unidirectional e id (with_role role) ≡ e
same_stream e id role there = ap (λ l. record e { unidirectional = l }) (set-same e.unidirectional id (with_role role) there)

-- the bytes go to the role
pub role_reads : (e : EndpointHistory) (id : ℕ) (role : Role) (on : Option ℕ) (bytes : List ℕ) → ((bytes : List ℕ) → role_after (known_streams e.announced) role bytes ≡ (role, bytes)) → ((bytes : List ℕ) → with_bytes (with_role role) (role, bytes) ≡ with_role role)
    → IsReadAs e id role on → read_arrival e (BytesCame id bytes) ≡ heard_as e id role bytes
role_reads e id role on bytes same left h =
    ap (bytes_at e id bytes) h.kind
    ∙ ap (λ (o : Option Unidirectional). read_unidirectional e id (Rattle.std.specs.Prelude.unwrap_or o untold) (role_after (known_streams e.announced) (Rattle.std.specs.Prelude.unwrap_or o untold).role bytes)) h.stream
    ∙ ap (λ x. read_unidirectional e id (with_role role) x) (same bytes)
    ∙ ap (λ o. heard_as (with_unidirectional e id o) id role bytes) (left bytes)
    ∙ ap (λ x. heard_as x id role bytes) (same_stream e id role h.stream)

first_only : (id : ℕ) (on : Option ℕ) → on ≡ Some id → is_second on id ≡ false
first_only id on e = ap (λ o. is_second o id) e ∙ ap Rattle.std.specs.Prelude.not (Rattle.h3_headline.specs.WaitingLaws.self id)

pub encoder_reads : (e : EndpointHistory) (id : ℕ) (bytes : List ℕ) → IsReadAs e id Encoder e.encoder_on → read_arrival e (BytesCame id bytes) ≡ read_encoder e bytes
encoder_reads e id bytes h =
    role_reads e id Encoder e.encoder_on bytes (λ l. refl) (λ l. refl) h
    ∙ ap (λ b. unless_second b e (read_encoder (record e { encoder_on = Some id }) bytes)) (first_only id e.encoder_on h.on_it)
    ∙ ap (λ o. read_encoder (record e { encoder_on = o }) bytes) (sym h.on_it)

pub decoder_reads : (e : EndpointHistory) (id : ℕ) (bytes : List ℕ) → IsReadAs e id Decoder e.decoder_on → read_arrival e (BytesCame id bytes) ≡ read_decoder e bytes
decoder_reads e id bytes h =
    role_reads e id Decoder e.decoder_on bytes (λ l. refl) (λ l. refl) h
    ∙ ap (λ b. unless_second b e (read_decoder (record e { decoder_on = Some id }) bytes)) (first_only id e.decoder_on h.on_it)
    ∙ ap (λ o. read_decoder (record e { decoder_on = o }) bytes) (sym h.on_it)

pub control_reads : (e : EndpointHistory) (id : ℕ) (bytes : List ℕ) → IsReadAs e id Control e.control_on → read_arrival e (BytesCame id bytes) ≡ read_control e bytes
control_reads e id bytes h =
    role_reads e id Control e.control_on bytes (λ l. refl) (λ l. refl) h
    ∙ ap (λ b. unless_second b e (read_control (record e { control_on = Some id }) bytes)) (first_only id e.control_on h.on_it)
    ∙ ap (λ o. read_control (record e { control_on = o }) bytes) (sym h.on_it)

-- **With nothing left and nothing new nothing is read.**
pub no_bytes_heard : (e : EndpointHistory) → e.decoding.unread ≡ [] → read_encoder e [] ≡ (e, None)
no_bytes_heard e none =
    ap (λ l. read_as (hear_up_to (limit_of e) e.decoding.decoder (l ++ []))) none
    ∙ ap read_as (hears_nothing (limit_of e) e.decoding.decoder)
    ∙ ap (λ (t : Option ℕ). ((saying_so (increment (e.decoding.decoder.table.inserted - e.decoding.decoder.table.inserted))).0, t)) (nothing_told (is_strict e.announced) encoder_stream_error)
    ∙ ap (λ n. saying_so n) (none_added e.decoding.decoder.table.inserted)
    ∙ ap (λ (l : List DecoderInstruction). (record e { decoding = record { decoder = e.decoding.decoder; unread = [] }; own = record e.own { replies = l } }, None)) (append-nil e.own.replies)
    ∙ ap (λ l. (record e { decoding = record { decoder = e.decoding.decoder; unread = l } }, None)) (sym none)
  where
    read_as : Rattle.h3_qpack.specs.Hearing.Heard → Found
    read_as h = (
      Rattle.h3_connection.specs.Endpoint.replied (record e { decoding = Rattle.h3_connection.specs.Listeners.after_hearing h }) (increment (Rattle.h3_connection.specs.Listeners.insertions_heard e.decoding h)),
      stream_fault (is_strict e.announced) encoder_stream_error (Rattle.h3_connection.specs.Listeners.hearing_fault (limit_of e) h),
    )

    saying_so : List DecoderInstruction → Found
    saying_so l = (record e { decoding = record { decoder = e.decoding.decoder; unread = [] }; own = record e.own { replies = e.own.replies ++ l } }, None)

    none_added : (n : ℕ) → increment (n - n) ≡ []
    none_added n = let zero_more : n - n ≡ 0 = omega arith in ap increment zero_more

pub no_bytes_listened : (e : EndpointHistory) → e.decoder_unread ≡ [] → read_decoder e [] ≡ (e, None)
no_bytes_listened e none = by_settings (is_some e.peer.settings)
  where
    by_settings : (b : Bool) → (if b then listened_to e (listen_up_to (limit_of e) e.encoder (e.decoder_unread ++ [])) else kept_unread e (e.decoder_unread ++ [])) ≡ (e, None)
    by_settings true =
        ap (λ l. listened_to e (listen_up_to (limit_of e) e.encoder (l ++ []))) none ∙ ap (listened_to e) (listens_nothing (limit_of e) e.encoder)
        ∙ ap (λ (t : Option ℕ). (record e { decoder_unread = [] }, t)) (nothing_told (is_strict e.announced) decoder_stream_error) ∙ ap (λ l. (record e { decoder_unread = l }, None)) (sym none)
    by_settings false =
        ap (λ l. kept_unread e (l ++ [])) none ∙ ap (λ l. (record e { decoder_unread = l }, None)) (sym none)

no_frames : (kinds : FrameKinds) (limit : ℕ) (side : Side) (p : Peer) → read_peer kinds limit side (with_unread p []) ≡ (with_unread p [], None)
unfolding read_peer
no_frames kinds limit side p = refl

pub no_bytes_controlled : (e : EndpointHistory) → e.peer.unread ≡ [] → read_control e [] ≡ (e, None)
no_bytes_controlled e none =
    nothing_held e none
    ∙ ap (λ l. taken_peer e (read_peer (kinds_of e.announced) (limit_of e) e.side (with_unread e.peer (l ++ [])))) none ∙ ap (taken_peer e) (no_frames (kinds_of e.announced) (limit_of e) e.side e.peer)
    ∙ ap (λ l. taken_peer e (with_unread e.peer l, None)) (sym none) ∙ by_settings e.peer.settings
  where
    by_settings : (o : Option (List (ℕ × ℕ))) → then_decoder o o (if_learned o o e) None ≡ (e, None)
    by_settings None = refl
    by_settings (Some pairs) = refl
