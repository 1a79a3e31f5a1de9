-- What comes is too long for its reader, or it is read alike without a limit.
use Rattle.std.proofs.Common.{◌≡◌, ℕ, Bool, true, false, if◌then◌else◌, List, [], ◌++◌, refl, ap, sym, ◌∙◌, subst, Option, Some, None}
use Rattle.std.specs.Prelude.{is_some}
use Rattle.h3_qpack.specs.Hearing.{Heard, Listened}
use Rattle.h3_connection.specs.Arrivals.{stream_of}
use Rattle.h3_connection.specs.Codes.{decoder_stream_error, encoder_stream_error, excessive_load, missing_settings}
use Rattle.h3_connection.specs.Control.{Found, after_peer, are_refused, holding, if_learned, lacks_settings, read_control, read_decoder, read_encoder, taken_peer, then_decoder, with_table}
use Rattle.h3_connection.specs.Delivering.{bytes_at, closed_by, delivery_refusal, end_at, give_up, heard_as, incoming_at, kept, opened, opened_at, read_unidirectional, refusal_at, reset_at, taken, unidirectional_at, unless_second, with_end, with_incoming, with_unidirectional}
use Rattle.h3_connection.specs.Endpoint.{EndpointHistory, Kind, is_second, kind_of, limit_of}
use Rattle.h3_connection.specs.Endpoint.Kind.{OwnUnidirectional, PeerUnidirectional, Request, ServerOpened}
use Rattle.h3_connection.specs.ExcessiveInstructions.{listen_up_to}
use Rattle.h3_connection.specs.Incoming.{Incoming}
use Rattle.h3_connection.specs.Keeping.{arrives, arrives_behind, read_arrival}
use Rattle.h3_connection.specs.Listeners.{heard_more, hearing_fault, listening_fault}
use Rattle.h3_connection.specs.PeerReading.{PeerFound, read_peer}
use Rattle.h3_connection.specs.StreamSets.{stream_at}
use Rattle.h3_connection.specs.StrictConnection.{is_strict, kinds_of, known_streams}
use Rattle.h3_connection.specs.StrictConnection.{stream_fault as stream_error}
use Rattle.h3_connection.specs.Unidirectional.{Role, Unidirectional, role_after, with_bytes}
use Rattle.h3_connection.specs.Unidirectional.Role.{Control, Decoder, Encoder, Ignored, Push, Session, Untold, Other}
use Rattle.h3_connection.specs.declared.arrival.Arrival.{Arrival}
use Rattle.h3_connection.specs.declared.arrival.Arrival.TheVariants.{BytesCame, EndCame, ResetCame}
use Rattle.h3_connection.specs.declared.event.Refusal.{Refusal}
use Rattle.h3_connection.specs.declared.event.Refusal.TheVariants as refusal
use Rattle.h3_connection.specs.declared.event.StreamFault.TheVariants as stream_fault
use Rattle.h3_connection.specs.declared.setup.Announced.{Announced}
use Rattle.h3_headline.specs.PeerStreams.{no_limit}
use Rattle.h3_strict.specs.Limits.{limited, limited_end}
use Rattle.h3_strict.specs.Plainly.{is_excess}
use Rattle.h3_strict.proofs.InstructionReading.{HearsAlike, HearsLong, HearsSame, ListensAlike, ListensLong, ListensSame, hears_alike, listens_alike}
use Rattle.h3_strict.proofs.KeepsCounts.{if_learned_same}
use Rattle.h3_strict.proofs.LimitPulls.{limited_result}
use Rattle.h3_strict.proofs.PlainReading.{IsLong, PeerPlainly, ReadsSame, alone, decoder_told, encoder_told, heard_as_found, listened_as_found, peer_plain, read_if, refused_some}

-- the endpoint with other choices
abbrev choosing : (Announced → Announced) → EndpointHistory → EndpointHistory
choosing f e = record e { announced = f e.announced }

abbrev pub endless : EndpointHistory → EndpointHistory
endless e = limited_end no_limit e

-- the same fault, at the endpoint without a limit
abbrev pub endless_found : Found → Found
endless_found x = (endless x.0, x.1)

-- The endpoint that asks for no strict connection: it tells what is too long by one code alone.
abbrev loosely : Announced → Announced
loosely a = record a { choices = record a.choices { extensions = record a.choices.extensions { strict_connection = false } } }

abbrev pub loose : EndpointHistory → EndpointHistory
loose e = choosing loosely e

-- What that one finds, where kinds of frames and of streams are known as at the endpoint itself.
abbrev pub told_control : EndpointHistory → List ℕ → Found
told_control e bytes = taken_peer (loose (holding e bytes)) (read_peer (kinds_of e.announced) (limit_of e) e.side (holding e bytes).peer)

abbrev pub told_as : EndpointHistory → ℕ → Role → List ℕ → Found
told_as e id Control bytes = unless_second (is_second e.control_on id) (loose e) (told_control (record e { control_on = Some id }) bytes)
told_as e id role bytes = heard_as (loose e) id role bytes

abbrev pub told_role : EndpointHistory → ℕ → Unidirectional → Role × List ℕ → Found
told_role e id o (role, bytes) = told_as (with_unidirectional e id (with_bytes o (role, bytes))) id role bytes

abbrev pub told_bytes : EndpointHistory → ℕ → List ℕ → Kind → Found
told_bytes e id bytes PeerUnidirectional = told_role e id (unidirectional_at e id) (role_after (known_streams e.announced) (unidirectional_at e id).role bytes)
told_bytes e id bytes kind = bytes_at (loose e) id bytes kind

abbrev pub told_arrival : EndpointHistory → Arrival → Found
told_arrival e (BytesCame id bytes) = told_bytes e id bytes (kind_of e.side id)
told_arrival e a = read_arrival (loose e) a

-- What is read is too long, as the loose endpoint tells, or it is read alike without a limit: of any stream.
pub data ReadsWithin (own : Announced) (x y told : Found) : Type 0 where
  IsTooLong : is_excess (is_strict own) x.1 ≡ true → told.1 ≡ Some excessive_load → ReadsWithin own x y told
  ReadsAlike : y ≡ endless_found x → ReadsWithin own x y told

either_within : (own : Announced) (b : Bool) (x y v w told : Found) → ReadsWithin own x v told → ReadsWithin own y w told → ReadsWithin own (if◌then◌else◌ {A = Found} b x y) (if◌then◌else◌ {A = Found} b v w) told
either_within own true x y v w told h k = h
either_within own false x y v w told h k = k

-- the encoder stream
encoder_within : (e : EndpointHistory) (bytes : List ℕ) → ReadsWithin e.announced (read_encoder e bytes) (read_encoder (endless e) bytes) (read_encoder (loose e) bytes)
encoder_within e bytes = by_limit (hears_alike (limit_of e) e.decoding.decoder (e.decoding.unread ++ bytes))
  where
    h : Heard
    h = heard_more (limit_of e) e.decoding bytes

    strict : Bool
    strict = is_strict e.announced

    by_limit : HearsAlike (limit_of e) e.decoding.decoder (e.decoding.unread ++ bytes) → ReadsWithin e.announced (read_encoder e bytes) (read_encoder (endless e) bytes) (read_encoder (loose e) bytes)
    by_limit (HearsLong limit is) = IsTooLong (ap (λ o. is_excess strict (stream_error strict encoder_stream_error o)) is ∙ encoder_told strict) is
    by_limit (HearsSame same fault) =
        ReadsAlike (ap (λ x. heard_as_found (endless e) x (stream_error strict encoder_stream_error (hearing_fault no_limit x))) same
        ∙ ap (λ o. heard_as_found (endless e) h (stream_error strict encoder_stream_error o)) fault)

-- the decoder stream, once the settings came and before
decoder_within : (came : Bool) (e : EndpointHistory) (bytes : List ℕ) → ReadsWithin e.announced (read_if came e bytes) (read_if came (endless e) bytes) (read_if came (loose e) bytes)
decoder_within true e bytes = by_limit (listens_alike (limit_of e) e.encoder (e.decoder_unread ++ bytes))
  where
    l : Listened
    l = listen_up_to (limit_of e) e.encoder (e.decoder_unread ++ bytes)

    strict : Bool
    strict = is_strict e.announced

    by_limit : ListensAlike (limit_of e) e.encoder (e.decoder_unread ++ bytes) → ReadsWithin e.announced (read_if true e bytes) (read_if true (endless e) bytes) (read_if true (loose e) bytes)
    by_limit (ListensLong limit is) = IsTooLong (ap (λ o. is_excess strict (stream_error strict decoder_stream_error o)) is ∙ decoder_told strict) is
    by_limit (ListensSame same fault) =
        ReadsAlike (ap (λ x. listened_as_found (endless e) x (stream_error strict decoder_stream_error (listening_fault no_limit x))) same
        ∙ ap (λ o. listened_as_found (endless e) l (stream_error strict decoder_stream_error o)) fault)
decoder_within false e bytes = ReadsAlike refl

then_reads_within : (before after : Option (List (ℕ × ℕ))) (e : EndpointHistory) (fault : Option ℕ)
    → ReadsWithin e.announced (then_decoder before after e fault) (then_decoder before after (endless e) fault) (then_decoder before after (loose e) fault)
then_reads_within before after e (Some code) = ReadsAlike refl
then_reads_within None (Some pairs) e None = decoder_within (is_some e.peer.settings) e []
then_reads_within None None e None = ReadsAlike refl
then_reads_within (Some known) after e None = ReadsAlike refl

-- what the settings do looks at no choice
table_same : (f : Announced → Announced) (b : Bool) (e : EndpointHistory) (capacity blocked : ℕ) → (if b then with_table (choosing f e) capacity blocked else choosing f e) ≡ choosing f (if b then with_table e capacity blocked else e)
table_same f true e capacity blocked = refl
table_same f false e capacity blocked = refl

learned_same : (f : Announced → Announced) (before after : Option (List (ℕ × ℕ))) (e : EndpointHistory) → if_learned before after (choosing f e) ≡ choosing f (if_learned before after e)
learned_same f None (Some pairs) e = table_same f _ e _ _
learned_same f None None e = refl
learned_same f (Some known) after e = refl

taken_within : (e : EndpointHistory) (x : PeerFound) → ReadsWithin e.announced (taken_peer e x) (taken_peer (endless e) x) (taken_peer (loose e) x)
taken_within e (p, fault) =
    let before = e.peer.settings in
    let f : EndpointHistory = record e { peer = p } in
    let g : EndpointHistory = if_learned before p.settings f in
    subst (λ z. ReadsWithin e.announced (then_decoder before p.settings g fault) (then_decoder before p.settings z fault) (then_decoder before p.settings (if_learned before p.settings (loose f)) fault)) (sym (learned_same (limited no_limit) before p.settings f))
    (subst (λ z. ReadsWithin e.announced (then_decoder before p.settings g fault) (then_decoder before p.settings (endless g) fault) (then_decoder before p.settings z fault)) (sym (learned_same loosely before p.settings f))
    (subst (λ own. ReadsWithin own (then_decoder before p.settings g fault) (then_decoder before p.settings (endless g) fault) (then_decoder before p.settings (loose g) fault)) (if_learned_same before p.settings f).announced
    (then_reads_within before p.settings g fault)))

-- the same settings are refused
bad_same : (e : EndpointHistory) (before after : Option (List (ℕ × ℕ))) → are_refused (endless e) before after ≡ are_refused e before after
bad_same e None None = refl
bad_same e None (Some pairs) = refl
bad_same e (Some known) after = refl

after_within : (e : EndpointHistory) (x : PeerFound) → ReadsWithin e.announced (after_peer e x) (after_peer (endless e) x) (taken_peer (loose e) x)
after_within e x =
    let before = e.peer.settings in
    let o = x.0.settings in
    subst (λ b. ReadsWithin e.announced (after_peer e x) (if◌then◌else◌ {A = Found} b (alone (endless e) o) (taken_peer (endless e) x)) (taken_peer (loose e) x)) (sym (bad_same e before o))
    (either_within e.announced (are_refused e before o) (alone e o) (taken_peer e x) (alone (endless e) o) (taken_peer (endless e) x) (taken_peer (loose e) x) (ReadsAlike refl) (taken_within e x))

-- the control stream
control_found : (e : EndpointHistory) (x y : PeerFound) → PeerPlainly (limit_of e) x y → ReadsWithin e.announced (after_peer e x) (after_peer (endless e) y) (taken_peer (loose e) x)
control_found e (p, fault) y (IsLong limit is keeps) = by_refused (are_refused e before p.settings) refl
  where
    before : Option (List (ℕ × ℕ))
    before = e.peer.settings

    x : PeerFound
    x = (p, fault)

    -- settings that are refused come before what is too long
    by_refused : (b : Bool) → are_refused e before p.settings ≡ b → ReadsWithin e.announced (after_peer e x) (after_peer (endless e) y) (taken_peer (loose e) x)
    by_refused true bad =
        let came = refused_some e before p.settings bad in
        let same : y.0.settings ≡ p.settings = keeps came.0 came.1 ∙ sym came.1 in
        let there : after_peer (endless e) y ≡ alone (endless e) p.settings =
        ap (λ b. if◌then◌else◌ {A = Found} b (alone (endless e) y.0.settings) (taken_peer (endless e) y)) (ap (are_refused (endless e) before) same ∙ bad_same e before p.settings ∙ bad)
        ∙ ap (alone (endless e)) same in
        let here : after_peer e x ≡ alone e p.settings = ap (λ b. if◌then◌else◌ {A = Found} b (alone e p.settings) (taken_peer e x)) bad in
        ReadsAlike (there ∙ sym (ap endless_found here))
    by_refused false good =
        let here : after_peer e x ≡ taken_peer e x = ap (λ b. if◌then◌else◌ {A = Found} b (alone e p.settings) (taken_peer e x)) good in
        IsTooLong (ap (λ (f : Found). is_excess (is_strict e.announced) f.1) here
        ∙ ap (λ o. is_excess (is_strict e.announced) (then_decoder before p.settings (if_learned before p.settings (record e { peer = p })) o).1) is)
        (ap (λ o. (then_decoder before p.settings (if_learned before p.settings (record (loose e) { peer = p })) o).1) is)
control_found e x y (ReadsSame same) = subst (λ z. ReadsWithin e.announced (after_peer e x) (after_peer (endless e) z) (taken_peer (loose e) x)) (sym same) (after_within e x)

control_within : (e : EndpointHistory) (bytes : List ℕ) → ReadsWithin e.announced (read_control e bytes) (read_control (endless e) bytes) (told_control e bytes)
control_within e bytes =
    let h = holding e bytes in
    let x = read_peer (kinds_of h.announced) (limit_of h) h.side h.peer in
    let y = read_peer (kinds_of h.announced) no_limit h.side h.peer in
    either_within e.announced (lacks_settings h) (h, Some missing_settings) (after_peer h x) (endless h, Some missing_settings) (after_peer (endless h) y) (taken_peer (loose h) x)
    (ReadsAlike refl) (control_found h x y (peer_plain (kinds_of h.announced) (limit_of h) h.side h.peer))

second_within : (own : Announced) (b : Bool) (e : EndpointHistory) (x y told : Found) → ReadsWithin own x y told → ReadsWithin own (unless_second b e x) (unless_second b (endless e) y) (unless_second b (loose e) told)
second_within own true e x y told h = ReadsAlike refl
second_within own false e x y told h = h

heard_within : (e : EndpointHistory) (id : ℕ) (role : Role) (bytes : List ℕ) → ReadsWithin e.announced (heard_as e id role bytes) (heard_as (endless e) id role bytes) (told_as e id role bytes)
heard_within e id (Untold front) bytes = ReadsAlike refl
heard_within e id Control bytes =
    let g : EndpointHistory = record e { control_on = Some id } in
    second_within e.announced (is_second e.control_on id) e (read_control g bytes) (read_control (endless g) bytes) (told_control g bytes) (control_within g bytes)
heard_within e id Encoder bytes =
    let g : EndpointHistory = record e { encoder_on = Some id } in
    second_within e.announced (is_second e.encoder_on id) e (read_encoder g bytes) (read_encoder (endless g) bytes) (read_encoder (loose g) bytes) (encoder_within g bytes)
heard_within e id Decoder bytes =
    let g : EndpointHistory = record e { decoder_on = Some id } in
    second_within e.announced (is_second e.decoder_on id) e (read_decoder g bytes) (read_decoder (endless g) bytes) (read_decoder (loose g) bytes) (decoder_within (is_some e.peer.settings) g bytes)
heard_within e id (Session n) bytes = ReadsAlike refl
heard_within e id (Push n) bytes = ReadsAlike refl
heard_within e id Ignored bytes = ReadsAlike refl
heard_within e id (Other kind) bytes = ReadsAlike refl

unidirectional_within : (e : EndpointHistory) (id : ℕ) (o : Unidirectional) (x : Role × List ℕ) → ReadsWithin e.announced (read_unidirectional e id o x) (read_unidirectional (endless e) id o x) (told_role e id o x)
unidirectional_within e id o (role, bytes) = heard_within (with_unidirectional e id (with_bytes o (role, bytes))) id role bytes

opens_same : (e : EndpointHistory) (id : ℕ) (o : Option Incoming) → opened_at (endless e) id o ≡ endless (opened_at e id o)
opens_same e id (Some i) = refl
opens_same e id None = refl

module _ (e : EndpointHistory) (id : ℕ) where
  changes : (i : Incoming) → with_incoming (opened (endless e) id) id i ≡ endless (with_incoming (opened e id) id i)
  changes i = ap (λ f. with_incoming f id i) (opens_same e id (stream_at e.incoming id))

  bytes_within : (bytes : List ℕ) (k : Kind) → ReadsWithin e.announced (bytes_at e id bytes k) (bytes_at (endless e) id bytes k) (told_bytes e id bytes k)
  bytes_within bytes Request = ReadsAlike (ap (λ f. let x : Found = (f, None) in x) (changes (kept (incoming_at e id) bytes)))
  bytes_within bytes ServerOpened = ReadsAlike refl
  bytes_within bytes OwnUnidirectional = ReadsAlike refl
  bytes_within bytes PeerUnidirectional = unidirectional_within e id (unidirectional_at e id) (role_after (known_streams e.announced) (unidirectional_at e id).role bytes)

  end_same : (k : Kind) → end_at (endless e) id k ≡ endless_found (end_at e id k)
  end_same Request = ap (λ f. let x : Found = (f, None) in x) (changes (with_end (incoming_at e id)))
  end_same ServerOpened = refl
  end_same OwnUnidirectional = refl
  end_same PeerUnidirectional = refl

  reset_same : (code : ℕ) (k : Kind) → reset_at (endless e) id code k ≡ endless_found (reset_at e id code k)
  reset_same code Request =
      ap (λ f. let x : Found = (give_up f id (record (incoming_at e id) { was_reset = true }) (stream_fault.Reset code), None) in x) (opens_same e id (stream_at e.incoming id))
  reset_same code ServerOpened = refl
  reset_same code OwnUnidirectional = refl
  reset_same code PeerUnidirectional = refl

  refused_at : (k : Kind) → refusal_at (endless e) id k ≡ refusal_at e id k
  refused_at Request = refl
  refused_at ServerOpened = refl
  refused_at OwnUnidirectional = refl
  refused_at PeerUnidirectional = refl

  refused_same : delivery_refusal (endless e) id ≡ delivery_refusal e id
  refused_same = refused_at (kind_of e.side id)

pub arrival_within : (e : EndpointHistory) (a : Arrival) → ReadsWithin e.announced (read_arrival e a) (read_arrival (endless e) a) (told_arrival e a)
arrival_within e (BytesCame id bytes) = bytes_within e id bytes (kind_of e.side id)
arrival_within e (EndCame id) = ReadsAlike (end_same e id (kind_of e.side id))
arrival_within e (ResetCame id code) = ReadsAlike (reset_same e id code (kind_of e.side id))

-- What came is too long, as the loose endpoint tells, or it is answered alike and leads to the same end with that limit.
pub data ArrivesWithin (most : ℕ) (own : Announced) (x y : Option Refusal × EndpointHistory) (told : Found) : Type 0 where
  Exceeds : (code : ℕ) → is_excess (is_strict own) (Some code) ≡ true → x.0 ≡ Some (refusal.Connection code) → told.1 ≡ Some excessive_load → ArrivesWithin most own x y told
  Otherwise : y ≡ limited_result most x → ArrivesWithin most own x y told

closed_same : (x : Found) → closed_by (endless_found x) ≡ limited_result no_limit (closed_by x)
closed_same (f, None) = refl
closed_same (f, Some code) = refl

takes_within : (closed : Option ℕ) (r : Option Refusal) (e : EndpointHistory) (x y told : Found) → ReadsWithin e.announced x y told → ArrivesWithin no_limit e.announced (taken closed r e x) (taken closed r (endless e) y) told
takes_within (Some code) r e x y told h = Otherwise refl
takes_within None (Some r) e x y told h = Otherwise refl
takes_within None None e (f, Some code) y told (IsTooLong is long) = Exceeds code is refl long
takes_within None None e (f, None) y told (IsTooLong is long) = absurd (cc)
takes_within None None e x y told (ReadsAlike is) = Otherwise (ap closed_by is ∙ closed_same x)

-- **What comes, at an end without a limit, if nothing is kept.**
pub arrives_within : (e : EndpointHistory) (a : Arrival) → e.kept ≡ [] → ArrivesWithin no_limit e.announced (arrives e a) (arrives (endless e) a) (told_arrival e a)
arrives_within e a none =
    let x = read_arrival e a in
    let y = read_arrival (endless e) a in
    let told = told_arrival e a in
    let there : arrives (endless e) a ≡ taken e.closed (delivery_refusal e (stream_of a)) (endless e) y =
    ap (λ k. arrives_behind k (endless e) a) none ∙ ap (λ r. taken e.closed r (endless e) y) (refused_same e (stream_of a)) in
    subst (λ z. ArrivesWithin no_limit e.announced z (arrives (endless e) a) told) (sym (ap (λ k. arrives_behind k e a) none))
    (subst (λ z. ArrivesWithin no_limit e.announced (taken e.closed (delivery_refusal e (stream_of a)) e x) z told) (sym there)
    (takes_within e.closed (delivery_refusal e (stream_of a)) e x y told (arrival_within e a)))
