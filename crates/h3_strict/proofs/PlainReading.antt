-- What comes, beside the same without strict messages.
use Rattle.std.proofs.Common.{◌≡◌, ℕ, zero, suc, length, Bool, true, false, if◌then◌else◌, List, [], ◌∷◌, ◌++◌, refl, ap, sym, ◌∙◌, subst, Option, Some, None}
use Rattle.std.specs.Prelude.{is_some, option_map}
use Rattle.h3_proto.specs.Config.{is_limit}
use Rattle.h3_proto.specs.declared.stream.Side.{Side}
use Rattle.h3_proto.specs.declared.stream.Side.TheVariants.{Client, Server}
use Rattle.h3_qpack.specs.Hearing.{Heard, Listened}
use Rattle.h3_frames.specs.ExcessiveFrames.{is_excessive_by}
use Rattle.h3_frames.specs.ExcessiveLaws.{excessive_limited}
use Rattle.h3_frames.specs.Frames.{Front, Whole, Unknown, Refused, Unfinished, frame_by}
use Rattle.h3_frames.specs.Known.{known_by}
use Rattle.h3_connection.specs.Arrivals.{stream_of, is_closed_in}
use Rattle.h3_connection.specs.declared.arrival.Arrival.{Arrival}
use Rattle.h3_connection.specs.declared.arrival.Arrival.TheVariants.{BytesCame, EndCame, ResetCame}
use Rattle.h3_connection.specs.Codes.{decoder_stream_error, encoder_stream_error, excessive_load, missing_settings, settings_error}
use Rattle.h3_connection.specs.Control.{Found, after_peer, are_refused, holding, if_learned, increment, kept_unread, lacks_settings, listened_to, read_control, read_decoder, read_encoder, read_held, settings_alone, taken_peer, then_decoder, with_table}
use Rattle.h3_connection.specs.Delivering.{request_refusal, refusal_at, delivery_refusal, opened_at, opened, incoming_at, with_incoming, unidirectional_at, with_unidirectional, unless_second, heard_as, read_unidirectional, kept, with_end, bytes_at, end_at, give_up, reset_at, taken}
use Rattle.h3_connection.specs.Endpoint.{EndpointHistory, limit_of, Kind, is_second, kind_of, replied}
use Rattle.h3_connection.specs.Endpoint.Kind.{Request, ServerOpened, OwnUnidirectional, PeerUnidirectional}
use Rattle.h3_connection.specs.ExcessiveInstructions.{listen_up_to}
use Rattle.h3_connection.specs.Incoming.{Incoming}
use Rattle.h3_connection.specs.Keeping.{read_arrival, unless_faulty, read_all, unkept, refused_behind, arrival_refusal, arrives_behind, arrives}
use Rattle.h3_connection.specs.Listeners.{after_hearing, heard_more, hearing_fault, insertions_heard, listening_fault}
use Rattle.h3_connection.specs.PeerReading.{Peer, PeerFound, having_frame, with_unread, read_frame, unless_fault, at_front, read_within, read_peer}
use Rattle.h3_connection.specs.PeerReadingLaws.{stay_within}
use Rattle.h3_connection.specs.StreamSets.{Streams, stream_at}
use Rattle.h3_connection.specs.StrictConnection.{is_strict, kinds_of, known_streams}
use Rattle.h3_connection.specs.StrictConnection.{stream_fault as stream_error}
use Rattle.h3_connection.specs.Unidirectional.{Unidirectional, Role, role_after, with_bytes}
use Rattle.h3_connection.specs.Unidirectional.Role.{Untold, Control, Encoder, Decoder, Session, Push, Ignored, Other}
use Rattle.h3_connection.specs.declared.event.Refusal.{Refusal}
use Rattle.h3_connection.specs.declared.event.Refusal.TheVariants as refusal
use Rattle.h3_connection.specs.declared.event.StreamFault.TheVariants as stream_fault
use Rattle.h3_connection.specs.declared.setup.Announced.{Announced}
use Rattle.h3_headline.specs.ControlStreamLaws.{unlimited}
use Rattle.h3_headline.specs.PeerStreams.{no_limit}
use Rattle.h3_strict.specs.Plainly.{is_excess, plain_incoming, plainly}
use Rattle.h3_strict.proofs.InstructionReading.{HearsAlike, HearsLong, HearsSame, ListensAlike, ListensLong, ListensSame, hears_alike, listens_alike}
use Rattle.h3_strict.proofs.KeepsCounts.{arrival_announced, if_learned_same}
use Rattle.h3_strict.proofs.PlainCalls.{CallsPlainly, taken_plainly}
use Rattle.h3_strict.proofs.PlainSends.{gives_up_plainly, opens_as}
use Rattle.h3_strict.proofs.PlainStreams.{at_each, set_each, in_at}
use Rattle.h3_frames.specs.declared.frame.kinds.FrameKinds.{FrameKinds}

-- the same fault, at the endpoint without strict messages
abbrev pub plain_found : Found → Found
plain_found x = (plainly x.0, x.1)

-- what is found is the same at the endpoint without a limit, or what came is too long; and then settings that came stay
pub data PeerPlainly (limit : ℕ) (x y : PeerFound) : Type 0 where
  IsLong : is_limit limit ≡ true → x.1 ≡ Some excessive_load → ((pairs : List (ℕ × ℕ)) → x.0.settings ≡ Some pairs → y.0.settings ≡ Some pairs) → PeerPlainly limit x y
  ReadsSame : y ≡ x → PeerPlainly limit x y

pub data ReadsPlainly (own : Announced) (x y : Found) : Type 0 where
  IsTooLong : is_limit own.choices.unfinished_limit ≡ true → is_excess (is_strict own) x.1 ≡ true → ReadsPlainly own x y
  ReadsAlike : y ≡ plain_found x → ReadsPlainly own x y

-- the codes of instructions that are too long
pub encoder_told : (strict : Bool) → is_excess strict (stream_error strict encoder_stream_error (Some excessive_load)) ≡ true
encoder_told true = refl
encoder_told false = refl

pub decoder_told : (strict : Bool) → is_excess strict (stream_error strict decoder_stream_error (Some excessive_load)) ≡ true
decoder_told true = refl
decoder_told false = refl

-- the encoder stream
abbrev pub heard_as_found : EndpointHistory → Heard → Option ℕ → Found
heard_as_found e h fault = (replied (record e { decoding = after_hearing h }) (increment (insertions_heard e.decoding h)), fault)

encoder_plain : (e : EndpointHistory) (bytes : List ℕ) → ReadsPlainly e.announced (read_encoder e bytes) (read_encoder (plainly e) bytes)
encoder_plain e bytes = by_limit (hears_alike (limit_of e) e.decoding.decoder (e.decoding.unread ++ bytes))
  where
    h : Heard
    h = heard_more (limit_of e) e.decoding bytes

    strict : Bool
    strict = is_strict e.announced

    by_limit : HearsAlike (limit_of e) e.decoding.decoder (e.decoding.unread ++ bytes) → ReadsPlainly e.announced (read_encoder e bytes) (read_encoder (plainly e) bytes)
    by_limit (HearsLong limit is) = IsTooLong limit (ap (λ o. is_excess strict (stream_error strict encoder_stream_error o)) is ∙ encoder_told strict)
    by_limit (HearsSame same fault) =
        ReadsAlike (ap (λ x. heard_as_found (plainly e) x (stream_error strict encoder_stream_error (hearing_fault no_limit x))) same
        ∙ ap (λ o. heard_as_found (plainly e) h (stream_error strict encoder_stream_error o)) fault)

-- the decoder stream, once the settings came and before
abbrev pub read_if : Bool → EndpointHistory → List ℕ → Found
read_if came e bytes = if came then listened_to e (listen_up_to (limit_of e) e.encoder (e.decoder_unread ++ bytes)) else kept_unread e (e.decoder_unread ++ bytes)

abbrev pub listened_as_found : EndpointHistory → Listened → Option ℕ → Found
listened_as_found e l fault = (record e { encoder = l.encoder; decoder_unread = l.left }, fault)

decoder_plain : (came : Bool) (e : EndpointHistory) (bytes : List ℕ) → ReadsPlainly e.announced (read_if came e bytes) (read_if came (plainly e) bytes)
decoder_plain true e bytes = by_limit (listens_alike (limit_of e) e.encoder (e.decoder_unread ++ bytes))
  where
    l : Listened
    l = listen_up_to (limit_of e) e.encoder (e.decoder_unread ++ bytes)

    strict : Bool
    strict = is_strict e.announced

    by_limit : ListensAlike (limit_of e) e.encoder (e.decoder_unread ++ bytes) → ReadsPlainly e.announced (read_if true e bytes) (read_if true (plainly e) bytes)
    by_limit (ListensLong limit is) = IsTooLong limit (ap (λ o. is_excess strict (stream_error strict decoder_stream_error o)) is ∙ decoder_told strict)
    by_limit (ListensSame same fault) =
        ReadsAlike (ap (λ x. listened_as_found (plainly e) x (stream_error strict decoder_stream_error (listening_fault no_limit x))) same
        ∙ ap (λ o. listened_as_found (plainly e) l (stream_error strict decoder_stream_error o)) fault)
decoder_plain false e bytes = ReadsAlike refl

-- the control stream
then_plain : (before after : Option (List (ℕ × ℕ))) (e : EndpointHistory) (fault : Option ℕ) → ReadsPlainly e.announced (then_decoder before after e fault) (then_decoder before after (plainly e) fault)
then_plain before after e (Some code) = ReadsAlike refl
then_plain None (Some pairs) e None = decoder_plain (is_some e.peer.settings) e []
then_plain None None e None = ReadsAlike refl
then_plain (Some known) after e None = ReadsAlike refl

table_plain : (b : Bool) (e : EndpointHistory) (capacity blocked : ℕ) → (if b then with_table (plainly e) capacity blocked else plainly e) ≡ plainly (if b then with_table e capacity blocked else e)
table_plain true e capacity blocked = refl
table_plain false e capacity blocked = refl

pub learned_plain : (before after : Option (List (ℕ × ℕ))) (e : EndpointHistory) → if_learned before after (plainly e) ≡ plainly (if_learned before after e)
learned_plain None (Some pairs) e = table_plain _ e _ _
learned_plain None None e = refl
learned_plain (Some known) after e = refl

pub learned_limit : (before after : Option (List (ℕ × ℕ))) (e : EndpointHistory) → limit_of (if_learned before after e) ≡ limit_of e
learned_limit before after e = ap (λ (own : Announced). own.choices.unfinished_limit) (if_learned_same before after e).announced

taken_plain : (e : EndpointHistory) (x : PeerFound) → ReadsPlainly e.announced (taken_peer e x) (taken_peer (plainly e) x)
taken_plain e (p, fault) =
    let before = e.peer.settings in
    let f : EndpointHistory = record e { peer = p } in
    let g : EndpointHistory = if_learned before p.settings f in
    subst (λ z. ReadsPlainly e.announced (then_decoder before p.settings g fault) (then_decoder before p.settings z fault)) (sym (learned_plain before p.settings f))
    (subst (λ own. ReadsPlainly own (then_decoder before p.settings g fault) (then_decoder before p.settings (plainly g) fault)) (if_learned_same before p.settings f).announced (then_plain before p.settings g fault))

-- the same settings are refused
pub bad_plain : (e : EndpointHistory) (before after : Option (List (ℕ × ℕ))) → are_refused (plainly e) before after ≡ are_refused e before after
bad_plain e None None = refl
bad_plain e None (Some pairs) = refl
bad_plain e (Some known) after = refl

pub refused_some : (e : EndpointHistory) (before after : Option (List (ℕ × ℕ))) → are_refused e before after ≡ true → (pairs : List (ℕ × ℕ)) × (after ≡ Some pairs)
refused_some e None None is = absurd (cc)
refused_some e None (Some pairs) is = (pairs, refl)
refused_some e (Some known) after is = absurd (cc)

either_plain : (own : Announced) (b : Bool) (x y v w : Found) → ReadsPlainly own x v → ReadsPlainly own y w → ReadsPlainly own (if◌then◌else◌ {A = Found} b x y) (if◌then◌else◌ {A = Found} b v w)
either_plain own true x y v w h k = h
either_plain own false x y v w h k = k

abbrev pub alone : EndpointHistory → Option (List (ℕ × ℕ)) → Found
alone e settings = (record e { peer = settings_alone e.peer settings }, Some settings_error)

after_plain : (e : EndpointHistory) (x : PeerFound) → ReadsPlainly e.announced (after_peer e x) (after_peer (plainly e) x)
after_plain e x =
    let before = e.peer.settings in
    let o = x.0.settings in
    subst (λ b. ReadsPlainly e.announced (after_peer e x) (if◌then◌else◌ {A = Found} b (alone (plainly e) o) (taken_peer (plainly e) x))) (sym (bad_plain e before o))
    (either_plain e.announced (are_refused e before o) (alone e o) (taken_peer e x) (alone (plainly e) o) (taken_peer (plainly e) x) (ReadsAlike refl) (taken_plain e x))

behind_fault : (limit : ℕ) (x : PeerFound) (go both : Peer → PeerFound) → ((q : Peer) → PeerPlainly limit (go q) (both q)) → PeerPlainly limit (unless_fault x go) (unless_fault x both)
behind_fault limit (q, Some code) go both h = ReadsSame refl
behind_fault limit (q, None) go both h = h q

front_plain : (limit : ℕ) (go both : Peer → PeerFound) (side : Side) (p : Peer) (bytes : List ℕ) (x : Front) → ((q : Peer) → PeerPlainly limit (go q) (both q)) → PeerPlainly limit (at_front go side p bytes x) (at_front both side p bytes x)
front_plain limit go both side p bytes (Whole f rest) h = behind_fault limit (read_frame side (having_frame p f bytes rest) p.settings f) go both h
front_plain limit go both side p bytes (Unknown kind rest) h = ReadsSame refl
front_plain limit go both side p bytes (Refused e) h = ReadsSame refl
front_plain limit go both side p bytes (Unfinished least) h = ReadsSame refl

long_or : (kinds : FrameKinds) (limit : ℕ) (large : Bool) (bytes : List ℕ) (p : Peer) (x y : PeerFound) → is_excessive_by kinds limit bytes ≡ large → ((pairs : List (ℕ × ℕ)) → p.settings ≡ Some pairs → y.0.settings ≡ Some pairs)
    → PeerPlainly limit x y → PeerPlainly limit (if large then (with_unread p [], Some excessive_load) else x) y
long_or kinds limit true bytes p x y e keeps h = IsLong (excessive_limited kinds limit bytes e) refl keeps
long_or kinds limit false bytes p x y e keeps h = h

within_plain : (kinds : FrameKinds) (most limit : ℕ) (side : Side) (p : Peer) → PeerPlainly limit (read_within kinds most limit side p) (read_within kinds most no_limit side p)
within_plain kinds zero limit side p = ReadsSame refl
within_plain kinds (suc most) limit side p =
    subst (PeerPlainly limit (read_within kinds (suc most) limit side p)) (sym (unlimited kinds most side p))
    (long_or kinds limit (is_excessive_by kinds limit (known_by kinds p.unread)) (known_by kinds p.unread) p _ _ refl (λ pairs is. ap (λ (x : PeerFound). x.0.settings) (sym (unlimited kinds most side p)) ∙ stay_within kinds (suc most) no_limit side p pairs is)
    (front_plain limit (read_within kinds most limit side) (read_within kinds most no_limit side) side p (known_by kinds p.unread) (frame_by kinds (known_by kinds p.unread)) (λ q. within_plain kinds most limit side q)))

pub peer_plain : (kinds : FrameKinds) (limit : ℕ) (side : Side) (p : Peer) → PeerPlainly limit (read_peer kinds limit side p) (read_peer kinds no_limit side p)
unfolding read_peer
peer_plain kinds limit side p = within_plain kinds (length p.unread) limit side p

control_found : (e : EndpointHistory) (x y : PeerFound) → PeerPlainly (limit_of e) x y → ReadsPlainly e.announced (after_peer e x) (after_peer (plainly e) y)
control_found e (p, fault) y (IsLong limit is keeps) = by_refused (are_refused e before p.settings) refl
  where
    before : Option (List (ℕ × ℕ))
    before = e.peer.settings

    x : PeerFound
    x = (p, fault)

    -- settings that are refused come before what is too long
    by_refused : (b : Bool) → are_refused e before p.settings ≡ b → ReadsPlainly e.announced (after_peer e x) (after_peer (plainly e) y)
    by_refused true bad =
        let came = refused_some e before p.settings bad in
        let same : y.0.settings ≡ p.settings = keeps came.0 came.1 ∙ sym came.1 in
        let there : after_peer (plainly e) y ≡ alone (plainly e) p.settings =
        ap (λ b. if◌then◌else◌ {A = Found} b (alone (plainly e) y.0.settings) (taken_peer (plainly e) y)) (ap (are_refused (plainly e) before) same ∙ bad_plain e before p.settings ∙ bad)
        ∙ ap (alone (plainly e)) same in
        let here : after_peer e x ≡ alone e p.settings = ap (λ b. if◌then◌else◌ {A = Found} b (alone e p.settings) (taken_peer e x)) bad in
        ReadsAlike (there ∙ sym (ap plain_found here))
    by_refused false good =
        let here : after_peer e x ≡ taken_peer e x = ap (λ b. if◌then◌else◌ {A = Found} b (alone e p.settings) (taken_peer e x)) good in
        IsTooLong limit
        (ap (λ (f : Found). is_excess (is_strict e.announced) f.1) here
        ∙ ap (λ o. is_excess (is_strict e.announced) (then_decoder before p.settings (if_learned before p.settings (record e { peer = p })) o).1) is)
control_found e x y (ReadsSame same) = subst (λ z. ReadsPlainly e.announced (after_peer e x) (after_peer (plainly e) z)) (sym same) (after_plain e x)

held_plain : (e : EndpointHistory) → ReadsPlainly e.announced (read_held e) (read_held (plainly e))
held_plain e =
    let x = read_peer (kinds_of e.announced) (limit_of e) e.side e.peer in
    let y = read_peer (kinds_of e.announced) no_limit e.side e.peer in
    either_plain e.announced (lacks_settings e) (e, Some missing_settings) (after_peer e x) (plainly e, Some missing_settings) (after_peer (plainly e) y)
    (ReadsAlike refl) (control_found e x y (peer_plain (kinds_of e.announced) (limit_of e) e.side e.peer))

control_plain : (e : EndpointHistory) (bytes : List ℕ) → ReadsPlainly e.announced (read_control e bytes) (read_control (plainly e) bytes)
control_plain e bytes = held_plain (holding e bytes)

second_plain : (own : Announced) (b : Bool) (e : EndpointHistory) (x y : Found) → ReadsPlainly own x y → ReadsPlainly own (unless_second b e x) (unless_second b (plainly e) y)
second_plain own true e x y h = ReadsAlike refl
second_plain own false e x y h = h

heard_plain : (e : EndpointHistory) (id : ℕ) (role : Role) (bytes : List ℕ) → ReadsPlainly e.announced (heard_as e id role bytes) (heard_as (plainly e) id role bytes)
heard_plain e id (Untold front) bytes = ReadsAlike refl
heard_plain e id Control bytes =
    let g : EndpointHistory = record e { control_on = Some id } in
    second_plain e.announced (is_second e.control_on id) e (read_control g bytes) (read_control (plainly g) bytes) (control_plain g bytes)
heard_plain e id Encoder bytes =
    let g : EndpointHistory = record e { encoder_on = Some id } in
    second_plain e.announced (is_second e.encoder_on id) e (read_encoder g bytes) (read_encoder (plainly g) bytes) (encoder_plain g bytes)
heard_plain e id Decoder bytes =
    let g : EndpointHistory = record e { decoder_on = Some id } in
    second_plain e.announced (is_second e.decoder_on id) e (read_decoder g bytes) (read_decoder (plainly g) bytes) (decoder_plain (is_some e.peer.settings) g bytes)
heard_plain e id (Session n) bytes = ReadsAlike refl
heard_plain e id (Push n) bytes = ReadsAlike refl
heard_plain e id Ignored bytes = ReadsAlike refl
heard_plain e id (Other kind) bytes = ReadsAlike refl

unidirectional_plain : (e : EndpointHistory) (id : ℕ) (o : Unidirectional) (x : Role × List ℕ) → ReadsPlainly e.announced (read_unidirectional e id o x) (read_unidirectional (plainly e) id o x)
unidirectional_plain e id o (role, bytes) = heard_plain (with_unidirectional e id (with_bytes o (role, bytes))) id role bytes

-- a receiver changes
module _ (e : EndpointHistory) (id : ℕ) where
  pub opened_plain : opened (plainly e) id ≡ plainly (opened e id)
  opened_plain = ap (opened_at (plainly e) id) (at_each plain_incoming e.incoming id) ∙ opens_as e id (stream_at e.incoming id)

  pub with_in : (f : EndpointHistory) (i : Incoming) → with_incoming (plainly f) id (plain_incoming i) ≡ plainly (with_incoming f id i)
  with_in f i = ap (λ (s : Streams Incoming). record (plainly f) { incoming = s }) (set_each plain_incoming f.incoming id i)

  -- at the stream that is opened, where it was not there
  changes : (g : Incoming → Incoming) → ((i : Incoming) → g (plain_incoming i) ≡ plain_incoming (g i))
      → with_incoming (opened (plainly e) id) id (g (incoming_at (plainly e) id)) ≡ plainly (with_incoming (opened e id) id (g (incoming_at e id)))
  changes g same =
      ap (λ f. with_incoming f id (g (incoming_at (plainly e) id))) opened_plain
      ∙ ap (λ i. with_incoming (plainly (opened e id)) id (g i)) (in_at e id) ∙ ap (λ i. with_incoming (plainly (opened e id)) id i) (same (incoming_at e id))
      ∙ with_in (opened e id) (g (incoming_at e id))

  bytes_plain : (bytes : List ℕ) (k : Kind) → ReadsPlainly e.announced (bytes_at e id bytes k) (bytes_at (plainly e) id bytes k)
  bytes_plain bytes Request = ReadsAlike (ap (λ f. let x : Found = (f, None) in x) (changes (λ i. kept i bytes) (λ i. refl)))
  bytes_plain bytes ServerOpened = ReadsAlike refl
  bytes_plain bytes OwnUnidirectional = ReadsAlike refl
  bytes_plain bytes PeerUnidirectional = unidirectional_plain e id (unidirectional_at e id) (role_after (known_streams e.announced) (unidirectional_at e id).role bytes)

  end_plain : (k : Kind) → end_at (plainly e) id k ≡ plain_found (end_at e id k)
  end_plain Request = ap (λ f. let x : Found = (f, None) in x) (changes with_end (λ i. refl))
  end_plain ServerOpened = refl
  end_plain OwnUnidirectional = refl
  end_plain PeerUnidirectional = refl

  reset_plain : (code : ℕ) (k : Kind) → reset_at (plainly e) id code k ≡ plain_found (reset_at e id code k)
  reset_plain code Request =
      ap (λ f. let x : Found = (f, None) in x)
      (ap (λ f. give_up f id (record (incoming_at (plainly e) id) { was_reset = true }) (stream_fault.Reset code)) opened_plain
      ∙ ap (λ (i : Incoming). give_up (plainly (opened e id)) id (record i { was_reset = true }) (stream_fault.Reset code)) (in_at e id)
      ∙ gives_up_plainly (opened e id) id (record (incoming_at e id) { was_reset = true }) (stream_fault.Reset code))
  reset_plain code ServerOpened = refl
  reset_plain code OwnUnidirectional = refl
  reset_plain code PeerUnidirectional = refl

  -- why it is refused
  request_refused : (side : Side) (o : Option Incoming) → request_refusal side (option_map plain_incoming o) ≡ request_refusal side o
  request_refused Client None = refl
  request_refused Server None = refl
  request_refused Client (Some i) = refl
  request_refused Server (Some i) = refl

  refused_at : (k : Kind) → refusal_at (plainly e) id k ≡ refusal_at e id k
  refused_at Request = ap (request_refusal e.side) (at_each plain_incoming e.incoming id) ∙ request_refused e.side (stream_at e.incoming id)
  refused_at ServerOpened = refl
  refused_at OwnUnidirectional = refl
  refused_at PeerUnidirectional = refl

  pub refused_plain : delivery_refusal (plainly e) id ≡ delivery_refusal e id
  refused_plain = refused_at (kind_of e.side id)

pub arrival_plain : (e : EndpointHistory) (a : Arrival) → ReadsPlainly e.announced (read_arrival e a) (read_arrival (plainly e) a)
arrival_plain e (BytesCame id bytes) = bytes_plain e id bytes (kind_of e.side id)
arrival_plain e (EndCame id) = ReadsAlike (end_plain e id (kind_of e.side id))
arrival_plain e (ResetCame id code) = ReadsAlike (reset_plain e id code (kind_of e.side id))

-- what is read behind it, of the same endpoint
then_plain_all : (own : Announced) (go : EndpointHistory → Found) (x : Found) → x.0.announced ≡ own → ((f : EndpointHistory) → f.announced ≡ own → ReadsPlainly own (go f) (go (plainly f)))
    → ReadsPlainly own (unless_faulty go x) (unless_faulty go (plain_found x))
then_plain_all own go (f, Some code) same goes = ReadsAlike refl
then_plain_all own go (f, None) same goes = goes f same

unless_plain : (own : Announced) (go : EndpointHistory → Found) (x y : Found) → x.0.announced ≡ own → ((f : EndpointHistory) → f.announced ≡ own → ReadsPlainly own (go f) (go (plainly f)))
    → ReadsPlainly own x y → ReadsPlainly own (unless_faulty go x) (unless_faulty go y)
unless_plain own go (f, Some code) y same goes (IsTooLong limited is) = IsTooLong limited is
unless_plain own go (f, None) y same goes (IsTooLong limited is) = absurd (cc)
unless_plain own go x y same goes (ReadsAlike is) = subst (λ z. ReadsPlainly own (unless_faulty go x) (unless_faulty go z)) (sym is) (then_plain_all own go x same goes)

all_within : (own : Announced) (arrivals : List Arrival) (e : EndpointHistory) → e.announced ≡ own → ReadsPlainly own (read_all arrivals e) (read_all arrivals (plainly e))
all_within own [] e same = ReadsAlike refl
all_within own (a ∷ arrivals) e same =
    unless_plain own (read_all arrivals) (read_arrival e a) (read_arrival (plainly e) a) (arrival_announced e a ∙ same)
    (λ f at. all_within own arrivals f at) (subst (λ x. ReadsPlainly x (read_arrival e a) (read_arrival (plainly e) a)) same (arrival_plain e a))

-- all that is kept is read
pub all_plain : (arrivals : List Arrival) (e : EndpointHistory) → ReadsPlainly e.announced (read_all arrivals e) (read_all arrivals (plainly e))
all_plain arrivals e = all_within e.announced arrivals e refl

-- What came is answered as without strict messages, or it is too long.
pub data ArrivesPlainly (e : EndpointHistory) (x y : Option Refusal × EndpointHistory) : Type 0 where
  Exceeds : is_limit (limit_of e) ≡ true → (code : ℕ) → is_excess (is_strict e.announced) (Some code) ≡ true → x.0 ≡ Some (refusal.Connection code) → ArrivesPlainly e x y
  Otherwise : CallsPlainly e x y → ArrivesPlainly e x y

takes_plainly : (closed : Option ℕ) (r : Option Refusal) (e : EndpointHistory) (x y : Found) → ReadsPlainly e.announced x y → ArrivesPlainly e (taken closed r e x) (taken closed r (plainly e) y)
takes_plainly (Some code) r e x y h = Otherwise (taken_plainly (Some code) r e x (plain_found x) refl)
takes_plainly None (Some r) e x y h = Otherwise (taken_plainly None (Some r) e x (plain_found x) refl)
takes_plainly None None e (f, Some code) y (IsTooLong limit is) = Exceeds limit code is refl
takes_plainly None None e (f, None) y (IsTooLong limit is) = absurd (cc)
takes_plainly None None e x y (ReadsAlike is) = Otherwise (taken_plainly None None e x y is)

behind_plain : (kept : List Arrival) (e : EndpointHistory) (a : Arrival) → ArrivesPlainly e (arrives_behind kept e a) (arrives_behind kept (plainly e) a)
behind_plain [] e a =
    subst (λ r. ArrivesPlainly e (arrives_behind [] e a) (taken e.closed r (plainly e) (read_arrival (plainly e) a))) (sym (refused_plain e (stream_of a)))
    (takes_plainly e.closed (delivery_refusal e (stream_of a)) e (read_arrival e a) (read_arrival (plainly e) a) (arrival_plain e a))
behind_plain (k ∷ kept) e a =
    subst (λ r. ArrivesPlainly e (arrives_behind (k ∷ kept) e a) (taken e.closed (refused_behind (is_closed_in e.kept (stream_of a)) r) (plainly e) (read_all (k ∷ kept ++ a ∷ []) (unkept (plainly e))))) (sym (refused_plain e (stream_of a)))
    (takes_plainly e.closed (arrival_refusal e (stream_of a)) e (read_all (k ∷ kept ++ a ∷ []) (unkept e)) _ (all_plain (k ∷ kept ++ a ∷ []) (unkept e)))

-- what comes
pub arrives_plainly : (e : EndpointHistory) (a : Arrival) → ArrivesPlainly e (arrives e a) (arrives (plainly e) a)
arrives_plainly e a = behind_plain e.kept e a
