-- Bytes of the peer's decoder stream.
use Rattle.std.proofs.Common.{◌≡◌, ℕ, Bool, true, false, if◌then◌else◌, List, [], ◌∷◌, ◌++◌, Option, Some, None, refl, ap, sym, subst, ◌∙◌}
use Rattle.std.specs.Prelude.{is_some}
use Rattle.h3_connection.specs.declared.setup.Announced.{Announced}
use Rattle.h3_proto.specs.declared.stream.Side.{Side}
use Rattle.h3_qpack.specs.EncoderHistory.{EncoderHistory}
use Rattle.h3_qpack.specs.EncoderState.{encoder_state}
use Rattle.h3_connection.specs.declared.arrival.Arrival.{Arrival}
use Rattle.h3_connection.specs.declared.arrival.Arrival.TheVariants.{BytesCame}
use Rattle.h3_connection.specs.Control.{read_decoder, listened_to, kept_unread}
use Rattle.h3_connection.specs.Delivering.{heard_as}
use Rattle.h3_connection.specs.Endpoint.{EndpointHistory, limit_of, is_second}
use Rattle.h3_connection.specs.ExcessiveInstructions.{listen_up_to}
use Rattle.h3_connection.specs.Listeners.{Encoding, Listens}
use Rattle.h3_connection.specs.PartReading.{ReadsOn, ListensPart, held_as}
use Rattle.h3_connection.specs.State.{EndpointState, StandsFor, IsToldPeer}
use Rattle.h3_connection.specs.Unidirectional.Role.{Decoder}
use Rattle.h3_unidirectional.specs.Fronts.{StopsListening}
use Rattle.h3_streams.proofs.PlacedLaws.{stands_decoder}
use Rattle.h3_streams.specs.Placed.{StreamsState, placed, Reads}
use Rattle.h3_streams.specs.ReadingOn.{ReadsSome, StopsAt, IsRead, Stops, left_arrivals}
use Rattle.h3_streams.specs.Stopping.{ListensIf, ListenedPart, left_by}
use Rattle.h3_streams.specs.declared.left.Left.{Left}
use Rattle.h3_streams.specs.declared.readers.Stop.{Stop}
use Rattle.h3_streams.specs.declared.readers.Stop.TheVariants.{Unheld, Held}
use Rattle.h3_streams.proofs.EncoderReads.{first_found}
use Rattle.h3_streams.proofs.Peers.{one_peer, told_peer}
use Rattle.h3_connection.specs.StrictConnection.{is_strict, stream_fault}
use Rattle.h3_connection.specs.StrictConnectionLaws.{nothing_told}
use Rattle.h3_connection.specs.Codes.{decoder_stream_error}

-- settings that are there are known
pub known_not_none : (o : Option (List (ℕ × ℕ))) → is_some o ≡ true → o ≡ None → ⊥
known_not_none None h k = cc
known_not_none (Some pairs) h k = cc

pub some_settings : (o : Option (List (ℕ × ℕ))) → is_some o ≡ true → (pairs : List (ℕ × ℕ)) × (o ≡ Some pairs)
some_settings None h = absurd (cc)
some_settings (Some pairs) h = (pairs, refl)

-- the reading of what is unread by an encoder of this history
pub listened_stands : (s : EndpointState) (x : StreamsState) (e : EndpointHistory) (id : ℕ) (unread : List ℕ) (n : Encoding) (fault : Option ℕ) → StandsFor (placed s x) e → IsToldPeer e.side e.unidirectional id
    → is_some e.peer.settings ≡ true → Listens (limit_of e) e.encoder unread n fault
    → Reads s (stream_fault (is_strict e.announced) decoder_stream_error fault) (record x { decoder_on = Some id; encoding = n }) (listened_to (record e { decoder_on = Some id }) (listen_up_to (limit_of e) e.encoder unread))
listened_stands s x e id unread n fault h told known l =
    let t = (listen_up_to (limit_of e) e.encoder unread).encoder in
    let there = stands_decoder s x e id n t h told l.encoder (λ unknown. absurd (known_not_none e.peer.settings known unknown)) in
    (ap (stream_fault (is_strict e.announced) decoder_stream_error) l.fault, subst (λ bytes. StandsFor (placed s (record x { decoder_on = Some id; encoding = n })) (record e { decoder_on = Some id; encoder = t; decoder_unread = bytes })) l.left there)

read_by : (s : EndpointState) (x : StreamsState) (e : EndpointHistory) (id : ℕ) (bytes : List ℕ) (n : Encoding) (fault : Option ℕ) (known : Bool) → StandsFor (placed s x) e → IsToldPeer e.side e.unidirectional id → is_some e.peer.settings ≡ known
    → ListensIf (limit_of e) known bytes x.encoding n fault
    → Reads s (stream_fault (is_strict e.announced) decoder_stream_error fault) (record x { decoder_on = Some id; encoding = n })
    (if known then listened_to (record e { decoder_on = Some id }) (listen_up_to (limit_of e) e.encoder (e.decoder_unread ++ bytes)) else kept_unread (record e { decoder_on = Some id }) (e.decoder_unread ++ bytes))
read_by s x e id bytes n fault true h told known listens =
    listened_stands s x e id (e.decoder_unread ++ bytes) n fault h told known (subst (λ l. Listens (limit_of e) e.encoder (l ++ bytes) n fault) h.decoder_unread (listens e.encoder h.encoder))
read_by s x e id bytes n fault false h told unknown (same, kept) =
    let unread : n.unread ≡ e.decoder_unread ++ bytes = ap (λ (m : Encoding). m.unread) same ∙ ap (λ l. l ++ bytes) h.decoder_unread in
    let state : n.encoder ≡ encoder_state e.encoder = ap (λ (m : Encoding). m.encoder) same ∙ h.encoder in (
      ap (stream_fault (is_strict e.announced) decoder_stream_error) kept ∙ nothing_told (is_strict e.announced) decoder_stream_error,
      subst (λ l. StandsFor (placed s (record x { decoder_on = Some id; encoding = n })) (record e { decoder_on = Some id; decoder_unread = l })) unread
          (stands_decoder s x e id n e.encoder h told state h.reached.unlearned),
    )

pub decoder_read : (x : StreamsState) (id : ℕ) (bytes : List ℕ) (n : Encoding) (fault told : Option ℕ) (known : Bool) (own : Announced) → false ≡ is_second x.decoder_on id → known ≡ is_some x.peer.settings
    → ListensIf own.choices.unfinished_limit known bytes x.encoding n fault → told ≡ stream_fault (is_strict own) decoder_stream_error fault
    → (s : EndpointState) (e : EndpointHistory) (side : Side) → IsRead s x e side own id Decoder → Reads s told (record x { decoder_on = Some id; encoding = n }) (heard_as e id Decoder bytes)
decoder_read x id bytes n fault told known own first knows listens is s e side r =
    let h = r.stands in
    let here : is_second e.decoder_on id ≡ false = ap (λ o. is_second o id) (sym h.decoder_on) ∙ sym first in
    let knows' : is_some e.peer.settings ≡ known = ap (λ p. is_some p.settings) (sym h.peer) ∙ sym knows in
    let f = record e { decoder_on = Some id } in
    let same : told ≡ stream_fault (is_strict e.announced) decoder_stream_error fault = is ∙ ap (λ (a : Announced). stream_fault (is_strict a) decoder_stream_error fault) (sym r.own_is) in
    subst (Reads s told (record x { decoder_on = Some id; encoding = n })) (sym (first_found (read_decoder f bytes) e.decoder_on e id here))
    (subst (λ o. Reads s o (record x { decoder_on = Some id; encoding = n }) (read_decoder f bytes)) (sym same) (rw knows' (read_by s x e id bytes n fault known h (told_peer s x e side own id Decoder refl r) knows' (subst (λ m. ListensIf m known bytes x.encoding n fault) (sym (ap (λ (a : Announced). a.choices.unfinished_limit) r.own_is)) listens))))

-- a front of them was read
decoder_held : (x : StreamsState) (id : ℕ) (bytes : List ℕ) (n : Encoding) (left : List Arrival) (own : Announced) → false ≡ is_second x.decoder_on id → true ≡ is_some x.peer.settings
    → ((t : EncoderHistory) → x.encoding.encoder ≡ encoder_state t → StopsListening own.choices.unfinished_limit t (record x.encoding { unread = x.encoding.unread ++ bytes }) n) → left ≡ BytesCame id [] ∷ []
    → (s : EndpointState) (e : EndpointHistory) (side : Side) → IsRead s x e side own id Decoder
    → Stops Decoder s x (record x { decoder_on = Some id; encoding = n }) e id bytes left
decoder_held x id bytes n left own first knows stopped is s e side r =
    let h = r.stands in
    let y = record x { decoder_on = Some id; encoding = n } in
    let here : is_second e.decoder_on id ≡ false = ap (λ o. is_second o id) (sym h.decoder_on) ∙ sym first in
    let known : is_some e.peer.settings ≡ true = ap (λ p. is_some p.settings) (sym h.peer) ∙ sym knows in
    let pairs = some_settings e.peer.settings known in
    let l = stopped e.encoder h.encoder in
    let part = subst (λ m. ListensPart m e.encoder l.after (e.decoder_unread ++ bytes) n.unread) (sym (ap (λ (a : Announced). a.choices.unfinished_limit) r.own_is)) (subst (λ u. ListensPart own.choices.unfinished_limit e.encoder l.after (u ++ bytes) n.unread) h.decoder_unread l.part) in
    let stops : StopsAt s y (held_as e id (Decoder, bytes)) (BytesCame id [] ∷ []) (BytesCame id [] ∷ []) = record {
      after = record e { decoder_on = Some id; encoder = l.after; decoder_unread = n.unread };
      reads = λ more. ReadsSome.Steps (ReadsOn.Listens refl pairs.1 part) ReadsSome.Stays;
      stands = stands_decoder s x e id n l.after h (told_peer s x e side own id Decoder refl r) l.state (λ unknown. absurd (known_not_none e.peer.settings known unknown));
      kinds = one_peer e.side id [] r.kind;
    } in
    Stops.Held here (subst (StopsAt s y (held_as e id (Decoder, bytes)) (BytesCame id [] ∷ [])) (sym is) stops)

-- the reading was refused memory
pub decoder_stopped : (x : StreamsState) (id : ℕ) (bytes : List ℕ) (n : Encoding) (left : Left) (known : Bool) (stop : Stop) (own : Announced) → false ≡ is_second x.decoder_on id
    → known ≡ is_some x.peer.settings → ListenedPart own.choices.unfinished_limit stop known bytes x.encoding n → left ≡ left_by stop id
    → (s : EndpointState) (e : EndpointHistory) (side : Side) → IsRead s x e side own id Decoder
    → Stops Decoder s x (record x { decoder_on = Some id; encoding = n }) e id bytes (left_arrivals left)
decoder_stopped x id bytes n left known Held own first knows (is_known, part) is s e side r =
    decoder_held x id bytes n (left_arrivals left) own first (sym is_known ∙ knows) part (ap left_arrivals is) s e side r
decoder_stopped x id bytes n left known (Unheld back) own first knows (same, kept) is s e side r =
    let new = record x { decoder_on = Some id; encoding = n } in
    let with_id : new ≡ record x { decoder_on = Some id } = ap (λ q. record x { decoder_on = Some id; encoding = q }) kept in
    Stops.Unheld (ap (λ o. is_second o id) (sym r.stands.decoder_on) ∙ sym first) (ap left_arrivals is ∙ ap (λ l. BytesCame id l ∷ []) same) with_id
