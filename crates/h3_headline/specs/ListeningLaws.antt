-- What an endpoint makes of further bytes of the other side's encoder and decoder streams.
use Rattle.std.proofs.Common.{◌≡◌, ℕ, ◌+◌, ◌-◌, true, arith, Some, ◌≤◌, false, List, ◌++◌, take, flat_map, Option, ap, ◌∙◌, Bool, if◌then◌else◌, [], append-nil, None, refl, sym, ◌∷◌, length, drop}
use Rattle.std.specs.Prelude.{◌==◌, is_some}
use Rattle.std.proofs.lemmas.Grind.{common_steps}
use Rattle.std.specs.List.{AllByRecursion}
use Rattle.h3_field.specs.Instruction.{EncoderInstruction, encoder_bytes, DecoderInstruction, decoder_bytes}
use Rattle.h3_qpack.specs.Encodings.{IsWrittenInstruction}
use Rattle.h3_qpack.specs.Hearing.{heard, hear, listened, listen}
use Rattle.h3_qpack.specs.WholeInstructions.{whole_in, rest_in}
use Rattle.h3_proto.specs.declared.stream.Side.{Side}
use Rattle.h3_connection.specs.Control.{increment, read_encoder, read_decoder}
use Rattle.h3_connection.specs.LimitedReading.{heard_whole, listened_whole}
use Rattle.h3_connection.specs.UnlimitedLaws.{encoder_unlimited, decoder_unlimited, decoder_kept}
use Rattle.h3_connection.specs.Delivering.{heard_as, unless_second, with_unidirectional}
use Rattle.h3_connection.specs.Endpoint.{EndpointHistory, is_second, first_decoder}
use Rattle.h3_connection.specs.OwnIds.{other, encoder_id, decoder_id}
use Rattle.h3_connection.specs.Unidirectional.{Unidirectional}
use Rattle.h3_connection.specs.Unidirectional.Role.{Encoder, Untold, Decoder}
use Rattle.h3_world.specs.Setup.{Setup, TakesAnyLength, announced_at}
use Rattle.h3_qpack.specs.DecoderState.{DecoderState, decoder_after_all}
use Rattle.h3_field.specs.InstructionAnswer.{IsReply}
use Rattle.h3_qpack.specs.EncoderHistory.{encoder_after_all, EncoderHistory}
use Rattle.h3_qpack.specs.Instructions.{AreAccepted}
use Rattle.h3_headline.specs.Cited.{IsRead, StreamLaws}
use Rattle.h3_headline.specs.DecoderStreamLaws.{listened_on}
use Rattle.h3_headline.specs.EncoderStreamLaws.{heard_on}
use Rattle.h3_headline.specs.PeerStreams.{added_since, behind_type, decoding_of, encoder_then, hearing, listening, replies_between, role_by, with_role, without_fault}
use Rattle.h3_headline.specs.RoleLaws.{is_first}
use Rattle.h3_headline.specs.Standing.{HasDecoderStream, HasEncoderStream, came_on, replies_unread}
use Rattle.h3_headline.specs.UnitLaws.{take_both}

-- a sum of 0 is of 0 and 0
pub no_sum : (a b : ℕ) → (a + b == 0) ≡ true → a ≡ 0
no_sum a b e = grind (arith, common_steps, e)

pub no_sum_too : (a b : ℕ) → (a + b == 0) ≡ true → b ≡ 0
no_sum_too a b e = grind (arith, common_steps, e)

some_same : {X : Type 0} (x y : X) → Some x ≡ Some y → x ≡ y
some_same x y e = cc

encoder_read : (laws : StreamLaws) (setup : Setup) (side : Side) (e : EndpointHistory) (o : Unidirectional) (came count : ℕ) (is : List EncoderInstruction) (stream : Option Unidirectional)
    → TakesAnyLength e.announced → HasEncoderStream setup side came is stream e.encoder_on e.decoding → AllByRecursion IsWrittenInstruction is
    → (after : IsRead (first_decoder (announced_at setup side)) (take (whole_in encoder_bytes (came + count - 1) is) is))
    → heard_as (with_unidirectional e (encoder_id (other side)) o) (encoder_id (other side)) Encoder (behind_type came count (flat_map encoder_bytes is))
    ≡ without_fault (hearing e (encoder_id (other side)) o (Some (encoder_id (other side))) (decoding_of after.decoder (rest_in encoder_bytes (came + count - 1) is)) (increment (added_since e.decoding.decoder after.decoder)))
encoder_read laws setup side e o came count is stream any h written after =
    let id = encoder_id (other side) in
    let first = with_unidirectional e id o in
    let bytes = behind_type came count (flat_map encoder_bytes is) in
    let on = record first { encoder_on = Some id } in
    let further : came - 1 ≤ came + count - 1 = omega arith in
    let reads : hear e.decoding.decoder (e.decoding.unread ++ bytes) ≡ heard after.decoder (rest_in encoder_bytes (came + count - 1) is) false =
    ap (λ l. hear e.decoding.decoder (l ++ bytes)) h.unread
    ∙ heard_on laws (first_decoder (announced_at setup side)) is (came - 1) (came + count - 1) e.decoding.decoder further written h.decoder after in
    ap (λ b. unless_second b first (read_encoder on bytes)) (ap (λ x. is_second x id) h.is_on ∙ is_first came id)
    ∙ encoder_unlimited on bytes any ∙ ap (heard_whole on) reads

-- **Further bytes of the encoder stream.**
pub encoder_came : (laws : StreamLaws) (setup : Setup) (side : Side) (e : EndpointHistory) (came count : ℕ) (is : List EncoderInstruction) (stream : Option Unidirectional)
    → TakesAnyLength e.announced → HasEncoderStream setup side came is stream e.encoder_on e.decoding → AllByRecursion IsWrittenInstruction is
    → (after : IsRead (first_decoder (announced_at setup side)) (take (whole_in encoder_bytes (came + count - 1) is) is))
    → heard_as (with_unidirectional e (encoder_id (other side)) (with_role (role_by (came + count) Encoder))) (encoder_id (other side)) (role_by (came + count) Encoder) (behind_type came count (flat_map encoder_bytes is))
    ≡ without_fault (hearing e (encoder_id (other side)) (with_role (role_by (came + count) Encoder)) (came_on (came + count) (encoder_id (other side)))
    (decoding_of after.decoder (rest_in encoder_bytes (came + count - 1) is)) (increment (added_since e.decoding.decoder after.decoder)))
encoder_came laws setup side e came count is stream any h written after = by_test (came + count == 0) refl
  where
    id : ℕ
    id = encoder_id (other side)

    bytes : List ℕ
    bytes = behind_type came count (flat_map encoder_bytes is)

    rest : List ℕ
    rest = rest_in encoder_bytes (came + count - 1) is

    by_test : (b : Bool) → (came + count == 0) ≡ b
        → heard_as (with_unidirectional e id (with_role (if b then Untold [] else Encoder))) id (if b then Untold [] else Encoder) bytes
        ≡ without_fault (hearing e id (with_role (if b then Untold [] else Encoder)) (if b then None else Some id) (decoding_of after.decoder rest) (increment (added_since e.decoding.decoder after.decoder)))
    by_test false t = encoder_read laws setup side e (with_role Encoder) came count is stream any h written after
    by_test true t =
        let none = no_sum came count t in
        let nothing = no_sum_too came count t in
        let same : came - 1 ≡ came + count - 1 = omega (arith, nothing) in
        let on : e.encoder_on ≡ None = h.is_on ∙ ap (λ n. came_on n id) none in
        let decoder : e.decoding.decoder ≡ after.decoder =
        some_same e.decoding.decoder after.decoder (sym h.decoder ∙ ap (λ n. decoder_after_all (Some (first_decoder (announced_at setup side))) (take (whole_in encoder_bytes n is) is)) same ∙ after.reads) in
        let left : e.decoding.unread ≡ rest = h.unread ∙ ap (λ n. rest_in encoder_bytes n is) same in
        let no_more : added_since e.decoding.decoder after.decoder ≡ 0 = omega (arith, ap (λ (x : DecoderState). x.table.inserted) decoder) in
        let o = with_role (Untold []) in
        ap (λ r. without_fault (record (with_unidirectional e id o) { own = record e.own { replies = r } })) (sym (append-nil e.own.replies))
        ∙ ap (λ x. without_fault (hearing e id o e.encoder_on e.decoding x)) (sym (ap increment no_more))
        ∙ ap (λ x. without_fault (hearing e id o x e.decoding (increment (added_since e.decoding.decoder after.decoder)))) on
        ∙ ap (λ x. without_fault (hearing e id o None (decoding_of x e.decoding.unread) (increment (added_since e.decoding.decoder after.decoder)))) decoder
        ∙ ap (λ x. without_fault (hearing e id o None (decoding_of after.decoder x) (increment (added_since e.decoding.decoder after.decoder)))) left

decoder_read : (laws : StreamLaws) (side : Side) (knows : Bool) (e : EndpointHistory) (o : Unidirectional) (came count : ℕ) (is : List DecoderInstruction) (stream : Option Unidirectional)
    → TakesAnyLength e.announced → is_some e.peer.settings ≡ knows → HasDecoderStream side knows came is stream e.decoder_on e.decoder_unread → AllByRecursion IsReply is
    → (knows ≡ true → AreAccepted e.encoder (replies_between (came - 1) (came + count - 1) is))
    → heard_as (with_unidirectional e (decoder_id (other side)) o) (decoder_id (other side)) Decoder (behind_type came count (flat_map decoder_bytes is))
    ≡ without_fault (listening e (decoder_id (other side)) o (Some (decoder_id (other side))) (encoder_then knows e.encoder (came - 1) (came + count - 1) is) (replies_unread knows (came + count) is))
decoder_read laws side knows e o came count is stream any known h written accepted =
    ap (λ b. unless_second b first (read_decoder on bytes)) (ap (λ x. is_second x id) h.is_on ∙ is_first came id)
    ∙ by_test knows known h.left accepted
  where
    id : ℕ
    id = decoder_id (other side)

    first : EndpointHistory
    first = with_unidirectional e id o

    on : EndpointHistory
    on = record first { decoder_on = Some id }

    bytes : List ℕ
    bytes = behind_type came count (flat_map decoder_bytes is)

    further : came - 1 ≤ came + count - 1
    further = omega arith

    by_test : (b : Bool) → is_some e.peer.settings ≡ b → e.decoder_unread ≡ replies_unread b came is → (b ≡ true → AreAccepted e.encoder (replies_between (came - 1) (came + count - 1) is))
        → read_decoder on bytes ≡ without_fault (listening e id o (Some id) (encoder_then b e.encoder (came - 1) (came + count - 1) is) (replies_unread b (came + count) is))
    by_test true t left accepted =
        let reads : listen e.encoder (e.decoder_unread ++ bytes) ≡ listened (encoder_after_all e.encoder (replies_between (came - 1) (came + count - 1) is)) (rest_in decoder_bytes (came + count - 1) is) false =
        ap (λ l. listen e.encoder (l ++ bytes)) left ∙ listened_on laws e.encoder is (came - 1) (came + count - 1) further written (accepted refl) in
        decoder_unlimited on bytes any t ∙ ap (listened_whole on) reads
    by_test false t left accepted =
        let all : e.decoder_unread ++ bytes ≡ take (came + count - 1) (flat_map decoder_bytes is) = ap (λ l. l ++ bytes) left ∙ take_both (came - 1) (came + count - 1) (flat_map decoder_bytes is) further in
        decoder_kept on bytes t ∙ ap (λ l. without_fault (record on { decoder_unread = l })) all

none_between : (n : ℕ) (is : List DecoderInstruction) → replies_between n n is ≡ []
none_between n is = all_dropped (take (whole_in decoder_bytes n is) is)
  where
    all_dropped : (xs : List DecoderInstruction) → drop (length xs) xs ≡ []
    all_dropped [] = refl
    all_dropped (x ∷ xs) = all_dropped xs

same_encoder : (knows : Bool) (s : EncoderHistory) (n : ℕ) (is : List DecoderInstruction) → encoder_then knows s n n is ≡ s
same_encoder true s n is = ap (encoder_after_all s) (none_between n is)
same_encoder false s n is = refl

-- **Further bytes of the decoder stream.**
pub decoder_came : (laws : StreamLaws) (side : Side) (knows : Bool) (e : EndpointHistory) (came count : ℕ) (is : List DecoderInstruction) (stream : Option Unidirectional)
    → TakesAnyLength e.announced → is_some e.peer.settings ≡ knows → HasDecoderStream side knows came is stream e.decoder_on e.decoder_unread → AllByRecursion IsReply is
    → (knows ≡ true → AreAccepted e.encoder (replies_between (came - 1) (came + count - 1) is))
    → heard_as (with_unidirectional e (decoder_id (other side)) (with_role (role_by (came + count) Decoder))) (decoder_id (other side)) (role_by (came + count) Decoder) (behind_type came count (flat_map decoder_bytes is))
    ≡ without_fault (listening e (decoder_id (other side)) (with_role (role_by (came + count) Decoder)) (came_on (came + count) (decoder_id (other side)))
    (encoder_then knows e.encoder (came - 1) (came + count - 1) is) (replies_unread knows (came + count) is))
decoder_came laws side knows e came count is stream any known h written accepted = by_test (came + count == 0) refl
  where
    id : ℕ
    id = decoder_id (other side)

    bytes : List ℕ
    bytes = behind_type came count (flat_map decoder_bytes is)

    encoder : EncoderHistory
    encoder = encoder_then knows e.encoder (came - 1) (came + count - 1) is

    rest : List ℕ
    rest = replies_unread knows (came + count) is

    by_test : (b : Bool) → (came + count == 0) ≡ b
        → heard_as (with_unidirectional e id (with_role (if b then Untold [] else Decoder))) id (if b then Untold [] else Decoder) bytes
        ≡ without_fault (listening e id (with_role (if b then Untold [] else Decoder)) (if b then None else Some id) encoder rest)
    by_test false t = decoder_read laws side knows e (with_role Decoder) came count is stream any known h written accepted
    by_test true t =
        let none = no_sum came count t in
        let nothing = no_sum_too came count t in
        let same : came - 1 ≡ came + count - 1 = omega (arith, nothing) in
        let whole : came ≡ came + count = omega (arith, nothing) in
        let on : e.decoder_on ≡ None = h.is_on ∙ ap (λ n. came_on n id) none in
        let left : e.decoder_unread ≡ rest = h.left ∙ ap (λ n. replies_unread knows n is) whole in
        let unchanged : e.encoder ≡ encoder = sym (same_encoder knows e.encoder (came - 1) is) ∙ ap (λ n. encoder_then knows e.encoder (came - 1) n is) same in
        let o = with_role (Untold []) in
        ap (λ x. without_fault (listening e id o x e.encoder e.decoder_unread)) on
        ∙ ap (λ x. without_fault (listening e id o None x e.decoder_unread)) unchanged
        ∙ ap (λ x. without_fault (listening e id o None encoder x)) left
