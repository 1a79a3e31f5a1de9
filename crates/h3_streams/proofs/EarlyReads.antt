-- What the peer's decoder said before the settings came is read then.
use Rattle.std.proofs.Common.{◌≡◌, ℕ, true, false, if◌then◌else◌, List, [], ◌∷◌, ◌++◌, append-nil, Option, Some, None, refl, ap, sym, subst, ◌∙◌}
use Rattle.std.specs.Prelude.{is_some, IfSome}
use Rattle.h3_proto.specs.declared.stream.Side.{Side}
use Rattle.h3_qpack.specs.EncoderHistory.{EncoderHistory}
use Rattle.h3_qpack.specs.EncoderState.{encoder_state}
use Rattle.h3_connection.specs.declared.arrival.Arrival.TheVariants.{BytesCame}
use Rattle.h3_connection.specs.Control.{then_decoder, read_decoder, listened_to, kept_unread}
use Rattle.h3_connection.specs.Endpoint.{EndpointHistory, limit_of, kind_of}
use Rattle.h3_connection.specs.Endpoint.Kind.{PeerUnidirectional}
use Rattle.h3_connection.specs.ExcessiveInstructions.{listen_up_to}
use Rattle.h3_connection.specs.Listeners.{Encoding, Listens}
use Rattle.h3_connection.specs.LimitedListeningLaws.{listens_nothing}
use Rattle.h3_connection.specs.PartReading.{ReadsOn, ListensPart, early_if}
use Rattle.h3_connection.specs.State.{EndpointState, StandsFor}
use Rattle.h3_unidirectional.specs.Fronts.{StopsListening}
use Rattle.h3_streams.proofs.PlacedLaws.{stands_decoder}
use Rattle.h3_streams.specs.Placed.{StreamsState, placed, Reads}
use Rattle.h3_streams.specs.ReadingOn.{ReadsSome, StopsAt, left_arrivals}
use Rattle.h3_streams.specs.Stopping.{early_of, ReadsEarly, StopsEarly}
use Rattle.h3_streams.specs.declared.left.Left.{Left}
use Rattle.h3_streams.proofs.Beginnings.{none_behind}
use Rattle.h3_streams.proofs.DecoderReads.{listened_stands, known_not_none}
use Rattle.h3_streams.proofs.Peers.{one_peer, told_by}
use Rattle.h3_connection.specs.StrictConnection.{is_strict, stream_fault}
use Rattle.h3_connection.specs.StrictConnectionLaws.{nothing_told}
use Rattle.h3_connection.specs.Codes.{decoder_stream_error}
use Rattle.h3_connection.specs.declared.setup.Announced.{Announced}

-- it has said nothing, or the settings did not come
silent_by : (s : EndpointState) (x : StreamsState) (e : EndpointHistory) (q : Option (List (ℕ × ℕ))) (on : Option ℕ) → StandsFor (placed s x) e → e.peer.settings ≡ q → e.decoder_on ≡ on → None ≡ early_of q on
    → Reads s None x (then_decoder None q e None)
silent_by s x e None on h known read nothing = (refl, h)
silent_by s x e (Some pairs) (Some d) h known read nothing = absurd (cc)
silent_by s x e (Some pairs) None h known read nothing =
    let unread = h.reached.decoder read in
    let came : is_some e.peer.settings ≡ true = ap (λ o. is_some o) known in
    let all : listen_up_to (limit_of e) e.encoder (e.decoder_unread ++ []) ≡ record { encoder = e.encoder; left = []; is_bad = false } = ap (listen_up_to (limit_of e) e.encoder) (none_behind e.decoder_unread unread) ∙ listens_nothing (limit_of e) e.encoder in
    let same : read_decoder e [] ≡ (record e { decoder_unread = [] }, None) =
    ap (λ b. if b then listened_to e (listen_up_to (limit_of e) e.encoder (e.decoder_unread ++ [])) else kept_unread e (e.decoder_unread ++ [])) came ∙ ap (λ l. listened_to e l) all
    ∙ ap (λ f. (record e { decoder_unread = [] }, f)) (nothing_told (is_strict e.announced) decoder_stream_error) in
    subst (Reads s None x) (sym same) (refl, subst (λ l. StandsFor (placed s x) (record e { decoder_unread = l })) unread h)

pub silent : (x : StreamsState) (own : Announced) → None ≡ early_of x.peer.settings x.decoder_on → ReadsEarly own x x None
silent x own nothing s e h same =
    silent_by s x e e.peer.settings e.decoder_on h refl refl (nothing ∙ ap (λ p. early_of p.settings x.decoder_on) h.peer ∙ ap (λ o. early_of e.peer.settings o) h.decoder_on)

-- the stream that is named, and the settings
early_some : (q : Option (List (ℕ × ℕ))) (on : Option ℕ) (d : ℕ) → Some d ≡ early_of q on → (pairs : List (ℕ × ℕ)) × (q ≡ Some pairs) × (on ≡ Some d)
early_some None on d is = absurd (cc)
early_some (Some pairs) on d is = (pairs, refl, sym is)

named : (s : EndpointState) (x : StreamsState) (e : EndpointHistory) (d : ℕ) → StandsFor (placed s x) e → Some d ≡ early_of x.peer.settings x.decoder_on → (pairs : List (ℕ × ℕ)) × (e.peer.settings ≡ Some pairs) × (e.decoder_on ≡ Some d)
named s x e d h is = early_some e.peer.settings e.decoder_on d (is ∙ ap (λ p. early_of p.settings x.decoder_on) h.peer ∙ ap (λ o. early_of e.peer.settings o) h.decoder_on)

read_early : (e : EndpointHistory) (pairs : List (ℕ × ℕ)) → e.peer.settings ≡ Some pairs → then_decoder None e.peer.settings e None ≡ listened_to e (listen_up_to (limit_of e) e.encoder e.decoder_unread)
read_early e pairs is =
    ap (λ q. then_decoder None q e None) is ∙ ap (λ q. if is_some q then listened_to e (listen_up_to (limit_of e) e.encoder (e.decoder_unread ++ [])) else kept_unread e (e.decoder_unread ++ [])) is
    ∙ ap (λ l. listened_to e (listen_up_to (limit_of e) e.encoder l)) (append-nil e.decoder_unread)

pub early_read : (x : StreamsState) (own : Announced) (d : ℕ) (n : Encoding) (fault told : Option ℕ) → Some d ≡ early_of x.peer.settings x.decoder_on
    → ((t : EncoderHistory) → x.encoding.encoder ≡ encoder_state t → Listens own.choices.unfinished_limit t x.encoding.unread n fault) → told ≡ stream_fault (is_strict own) decoder_stream_error fault
    → ReadsEarly own x (record x { encoding = n }) told
early_read x own d n fault told is listens told_is s e h chosen =
    let k = named s x e d h is in
    let came : is_some e.peer.settings ≡ true = ap (λ o. is_some o) k.1 in
    let l = subst (λ (a : Announced). Listens a.choices.unfinished_limit e.encoder e.decoder_unread n fault) (sym chosen) (subst (λ u. Listens own.choices.unfinished_limit e.encoder u n fault) h.decoder_unread (listens e.encoder h.encoder)) in
    let same : told ≡ stream_fault (is_strict e.announced) decoder_stream_error fault = told_is ∙ ap (λ (a : Announced). stream_fault (is_strict a) decoder_stream_error fault) (sym chosen) in
    let there = subst (λ o. Reads s o (record x { decoder_on = Some d; encoding = n }) (listened_to (record e { decoder_on = Some d }) (listen_up_to (limit_of e) e.encoder e.decoder_unread))) (sym same)
    (listened_stands s x e d e.decoder_unread n fault h (told_by e.side e.unidirectional e.decoder_on d k.2 h.reached.told_decoder) came l) in
    let with_on = subst (λ o. Reads s told (record x { decoder_on = Some d; encoding = n }) (listened_to (record e { decoder_on = o }) (listen_up_to (limit_of e) e.encoder e.decoder_unread))) (sym k.2) there in
    subst (Reads s told (record x { encoding = n })) (sym (read_early e k.0 k.1))
    (subst (λ o. Reads s told (record x { decoder_on = o; encoding = n }) (listened_to e (listen_up_to (limit_of e) e.encoder e.decoder_unread))) (sym (h.decoder_on ∙ k.2)) with_on)

pub early_held : (x : StreamsState) (own : Announced) (side : Side) (d : ℕ) (n : Encoding) (left : Left) → Some d ≡ early_of x.peer.settings x.decoder_on
    → ((t : EncoderHistory) → x.encoding.encoder ≡ encoder_state t → StopsListening own.choices.unfinished_limit t x.encoding n) → left ≡ record { id = d; bytes = []; early = None }
    → StopsEarly own x (record x { encoding = n }) side (left_arrivals left)
early_held x own side d n left is stopped left_is s e h chosen side_is peers =
    let k = named s x e d h is in
    let l = stopped e.encoder h.encoder in
    let part = subst (λ (a : Announced). ListensPart a.choices.unfinished_limit e.encoder l.after e.decoder_unread n.unread) (sym chosen) (subst (λ u. ListensPart own.choices.unfinished_limit e.encoder l.after u n.unread) h.decoder_unread l.part) in
    let came : is_some e.peer.settings ≡ true = ap (λ o. is_some o) k.1 in
    let new = record e { decoder_on = Some d; encoder = l.after; decoder_unread = n.unread } in
    let there = stands_decoder s x e d n l.after h (told_by e.side e.unidirectional e.decoder_on d k.2 h.reached.told_decoder) l.state (λ unknown. absurd (known_not_none e.peer.settings came unknown)) in
    let stands = subst (λ o. StandsFor (placed s (record x { decoder_on = o; encoding = n })) (record e { encoder = l.after; decoder_unread = n.unread })) (sym (h.decoder_on ∙ k.2))
    (subst (λ o. StandsFor (placed s (record x { decoder_on = Some d; encoding = n })) (record e { decoder_on = o; encoder = l.after; decoder_unread = n.unread })) (sym k.2) there) in
    let arrivals : BytesCame d [] ∷ [] ≡ early_if None e.peer.settings e.decoder_on = ap (λ o. early_if None (Some k.0) o) (sym k.2) ∙ ap (λ q. early_if None q e.decoder_on) (sym k.1) in
    let kind : kind_of e.side d ≡ PeerUnidirectional = ap (λ t. kind_of t d) side_is ∙ subst (λ o. IfSome o (λ q. kind_of side q ≡ PeerUnidirectional)) (h.decoder_on ∙ k.2) peers in
    let stops : StopsAt s (record x { encoding = n }) e (BytesCame d [] ∷ []) (BytesCame d [] ∷ []) = record {
      after = record e { encoder = l.after; decoder_unread = n.unread };
      reads = λ more. ReadsSome.Steps (ReadsOn.Listens k.2 k.1 part) ReadsSome.Stays;
      stands = stands;
      kinds = one_peer e.side d [] kind;
    } in
    subst (λ a. StopsAt s (record x { encoding = n }) e a (left_arrivals left)) arrivals (subst (StopsAt s (record x { encoding = n }) e (BytesCame d [] ∷ [])) (sym (ap left_arrivals left_is)) stops)
