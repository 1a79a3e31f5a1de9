-- Both endpoints stand in a world in which an own stream of one side got further.
use Rattle.std.proofs.Common.{◌≡◌, ℕ, if◌then◌else◌, Some, None, sym, ap, ◌∙◌, subst, ◌-◌, Bool, List, refl, true, false, ◌+◌, take}
use Rattle.h3_proto.specs.declared.stream.Side.{Side}
use Rattle.h3_connection.specs.Endpoint.{EndpointHistory, Own, first_decoder}
use Rattle.h3_connection.specs.StreamSets.{stream_at, HaveDistinctIds, set_stream}
use Rattle.h3_world.specs.Order.{outgoing_of}
use Rattle.h3_world.specs.Streams.{flow, is_open}
use Rattle.h3_world.specs.World.{World, Party, party}
use Rattle.h3_connection.specs.OwnIds.{other, encoder_id, decoder_id, is_own, control_id}
use Rattle.h3_field.specs.Instruction.{EncoderInstruction, DecoderInstruction, encoder_bytes}
use Rattle.h3_world.specs.Sound.{IsSoundWriter}
use Rattle.std.specs.Prelude.{◌==◌}
use Rattle.h3_connection.specs.Unidirectional.{Unidirectional}
use Rattle.h3_proto.specs.declared.stream.Side.TheVariants.{Client, Server}
use Rattle.h3_qpack.specs.WholeInstructions.{whole_in, rest_in}
use Rattle.h3_connection.specs.StreamSetLaws.{set-here}
use Rattle.h3_connection.specs.Unidirectional.Role.{Encoder, Decoder, Control}
use Rattle.h3_world.specs.Setup.{Setup, announced_at}
use Rattle.h3_qpack.specs.EncoderHistory.{EncoderHistory}
use Rattle.h3_connection.specs.declared.setup.Limits.{Limits}
use Rattle.h3_headline.specs.Arriving.{saying}
use Rattle.h3_headline.specs.Cited.{IsRead}
use Rattle.h3_headline.specs.FlowLaws.{same_number}
use Rattle.h3_headline.specs.MovesLaws.{set_at, stands_moved}
use Rattle.h3_headline.specs.OwnStreams.{Hears, SameStreams, writing}
use Rattle.h3_headline.specs.PeerStreams.{after_control, controlling, decoding_of, hearing, listening, peer_by, role_by, with_role}
use Rattle.h3_headline.specs.Standing.{HasControl, HasControlOf, HasDecoderStream, HasDecoderStreamOf, HasEncoderStream, HasEncoderStreamOf, ReceivesAt, StandsAt, are_settings_there, came_on, replies_unread, most_kept}
use Rattle.h3_headline.specs.WritesMoreLaws.{decoder_stream_more, encoder_stream_more}

outgoing_same : (setup : Setup) (w v : World) (side : Side) (e : EndpointHistory) → StandsAt setup w side e → SameStreams w v
    → (i : ℕ) → stream_at e.outgoing i ≡ (if is_open v side i then Some (outgoing_of (flow v side i)) else None)
outgoing_same setup w v side e h same i =
    h.outgoing i ∙ ap (λ b. if b then Some (outgoing_of (flow w side i)) else None) (sym (same.opens side i)) ∙ ap (λ f. if is_open v side i then Some (outgoing_of f) else None) (sym (same.flows side i))

incoming_same : (setup : Setup) (w v : World) (side : Side) (e : EndpointHistory) → StandsAt setup w side e → SameStreams w v → (i : ℕ) → ReceivesAt (is_open v side i) (flow v (other side) i) (stream_at e.incoming i)
incoming_same setup w v side e h same i =
    subst (λ b. ReceivesAt b (flow v (other side) i) (stream_at e.incoming i)) (sym (same.opens side i))
    (subst (λ f. ReceivesAt (is_open w side i) f (stream_at e.incoming i)) (sym (same.flows (other side) i)) (h.incoming i))

-- **The side whose stream got further, and whose peer wrote more.**
pub writer_stands : (setup : Setup) (w v : World) (side : Side) (e : EndpointHistory) (own : Own) (is : List EncoderInstruction) (replies : List DecoderInstruction) (knows : Bool) → StandsAt setup w side e → SameStreams w v
    → party v side ≡ record (party w side) { own = own } → (party v (other side)).own ≡ writing (party w (other side)).own is replies → IsSoundWriter setup (other side) (party w (other side)) knows
    → StandsAt setup v side (record e { own = own })
writer_stands setup w v side e own is replies knows h same here there sound =
    let p = party w (other side) in
    stands_moved setup w v side e (record e { own = own }) h
    (record {
      same = refl;
      own = sym (ap (λ (q : Party). q.own) here);
      encoder = h.encoder ∙ sym (ap (λ (q : Party). q.encoder) here);
      control = subst (λ o. HasControlOf setup side o e) (sym there) h.control;
      encoder_stream = subst (λ o. HasEncoderStreamOf setup side o e) (sym there)
          (encoder_stream_more setup side p.own.encoder_taken p.own.instructions is (stream_at e.unidirectional (encoder_id (other side))) e.encoder_on e.decoding sound.encoder h.encoder_stream);
      decoder_stream = subst (λ o. HasDecoderStreamOf setup side o e) (sym there)
          (decoder_stream_more side (are_settings_there setup (other side) p.own.control_taken) p.own.decoder_taken p.own.replies replies (stream_at e.unidirectional (decoder_id (other side))) e.decoder_on e.decoder_unread
          sound.decoder h.decoder_stream);
      outgoing = outgoing_same setup w v side e h same;
      incoming = incoming_same setup w v side e h same;
      distinct = h.distinct;
    })

pub reader_stands : (setup : Setup) (w v : World) (side : Side) (e f : EndpointHistory) → StandsAt setup w side e → SameStreams w v → Hears setup v side e f → StandsAt setup v side f
reader_stands setup w v side e f h same m =
    record {
      side_is = ap (λ x. x.side) m.same ∙ h.side_is;
      announced = ap (λ x. x.announced) m.same ∙ h.announced;
      any = h.any;
      remembered = h.remembered;
      no_fault = ap (λ x. x.closed) m.same ∙ h.no_fault;
      nothing_kept = ap (λ x. x.kept) m.same ∙ h.nothing_kept;
      own = m.own;
      encoder = m.encoder;
      control = m.control;
      encoder_stream = m.encoder_stream;
      decoder_stream = m.decoder_stream;
      no_others = λ id off. m.others id off ∙ h.no_others id off;
      outgoing = λ id. ap (λ x. stream_at x.outgoing id) m.same ∙ outgoing_same setup w v side e h same id;
      incoming = λ id. subst (λ x. ReceivesAt (is_open v side id) (flow v (other side) id) (stream_at x.incoming id)) (sym m.same) (incoming_same setup w v side e h same id);
      distinct = subst (λ x. HaveDistinctIds x.incoming) (sym m.same) h.distinct;
    }

-- a stream that is no own one is another one
no_other : (writer : Side) (id i : ℕ) → is_own writer id ≡ true → is_own writer i ≡ false → (id == i) ≡ false
no_other writer id i own off = by_test (id == i) refl
  where
    by_test : (b : Bool) → (id == i) ≡ b → b ≡ false
    by_test true e = let clash = sym own ∙ ap (is_own writer) (same_number id i e) ∙ off in absurd (cc)
    by_test false e = refl

pub others_stay : (e : EndpointHistory) (writer : Side) (id i : ℕ) (o : Unidirectional) → is_own writer id ≡ true → is_own writer i ≡ false → stream_at (set_stream e.unidirectional id o) i ≡ stream_at e.unidirectional i
others_stay e writer id i o own off = set_at e.unidirectional id i o ∙ ap (λ b. if b then Some o else stream_at e.unidirectional i) (no_other writer id i own off)

elsewhere : (e : EndpointHistory) (id i : ℕ) (o : Unidirectional) → (id == i) ≡ false → stream_at e.unidirectional i ≡ stream_at (set_stream e.unidirectional id o) i
elsewhere e id i o differs = sym (set_at e.unidirectional id i o ∙ ap (λ b. if b then Some o else stream_at e.unidirectional i) differs)

-- the own streams of a side
pub own_control : (side : Side) → is_own side (control_id side) ≡ true
own_control Client = refl
own_control Server = refl

pub own_encoder : (side : Side) → is_own side (encoder_id side) ≡ true
own_encoder Client = refl
own_encoder Server = refl

pub own_decoder : (side : Side) → is_own side (decoder_id side) ≡ true
own_decoder Client = refl
own_decoder Server = refl

control_not_encoder : (side : Side) → (control_id side == encoder_id side) ≡ false
control_not_encoder Client = refl
control_not_encoder Server = refl

control_not_decoder : (side : Side) → (control_id side == decoder_id side) ≡ false
control_not_decoder Client = refl
control_not_decoder Server = refl

encoder_not_control : (side : Side) → (encoder_id side == control_id side) ≡ false
encoder_not_control Client = refl
encoder_not_control Server = refl

encoder_not_decoder : (side : Side) → (encoder_id side == decoder_id side) ≡ false
encoder_not_decoder Client = refl
encoder_not_decoder Server = refl

decoder_not_control : (side : Side) → (decoder_id side == control_id side) ≡ false
decoder_not_control Client = refl
decoder_not_control Server = refl

decoder_not_encoder : (side : Side) → (decoder_id side == encoder_id side) ≡ false
decoder_not_encoder Client = refl
decoder_not_encoder Server = refl

-- **The reader after more of the encoder stream.**
pub hearing_stands : (setup : Setup) (w v : World) (side : Side) (e : EndpointHistory) (count : ℕ) (more : List DecoderInstruction) → StandsAt setup w side e → SameStreams w v
    → (after : IsRead (first_decoder (announced_at setup side)) (take (whole_in encoder_bytes ((party w (other side)).own.encoder_taken + count - 1) (party w (other side)).own.instructions) (party w (other side)).own.instructions))
    → (party v (other side)).own ≡ record (party w (other side)).own { encoder_taken = (party w (other side)).own.encoder_taken + count }
    → party v side ≡ record (party w side) { own = saying (party w side).own more }
    → StandsAt setup v side (hearing e (encoder_id (other side)) (with_role (role_by ((party w (other side)).own.encoder_taken + count) Encoder)) (came_on ((party w (other side)).own.encoder_taken + count) (encoder_id (other side)))
    (decoding_of after.decoder (rest_in encoder_bytes ((party w (other side)).own.encoder_taken + count - 1) (party w (other side)).own.instructions)) more)
hearing_stands setup w v side e count more h same after there here =
    let own = (party w (other side)).own in
    let id = encoder_id (other side) in
    let many = own.encoder_taken + count in
    let o = with_role (role_by many Encoder) in
    let decoding = decoding_of after.decoder (rest_in encoder_bytes (many - 1) own.instructions) in
    let f = hearing e id o (came_on many id) decoding more in
    reader_stands setup w v side e f h same
    (record {
      same = refl;
      own = ap (λ x. saying x more) h.own ∙ sym (ap (λ (p : Party). p.own) here);
      encoder = h.encoder ∙ sym (ap (λ (p : Party). p.encoder) here);
      control = subst (λ x. HasControlOf setup side x f) (sym there)
          (subst (λ x. HasControl setup side own.control_taken own.goaways x e.control_on e.peer) (elsewhere e id (control_id (other side)) o (encoder_not_control (other side))) h.control);
      encoder_stream = subst (λ x. HasEncoderStreamOf setup side x f) (sym there)
          (subst (λ x. HasEncoderStream setup side many own.instructions x (came_on many id) decoding) (sym (set-here e.unidirectional id o)) (record { stream_is = refl; is_on = refl; decoder = after.reads; unread = refl }));
      decoder_stream = subst (λ x. HasDecoderStreamOf setup side x f) (sym there)
          (subst (λ x. HasDecoderStream side (are_settings_there setup (other side) own.control_taken) own.decoder_taken own.replies x e.decoder_on e.decoder_unread)
          (elsewhere e id (decoder_id (other side)) o (encoder_not_decoder (other side))) h.decoder_stream);
      others = λ i off. others_stay e (other side) id i o (own_encoder (other side)) off;
    })

-- **The reader after more of the decoder stream.**
pub listening_stands : (setup : Setup) (w v : World) (side : Side) (e : EndpointHistory) (count : ℕ) (encoder : EncoderHistory) → StandsAt setup w side e → SameStreams w v
    → (party v (other side)).own ≡ record (party w (other side)).own { decoder_taken = (party w (other side)).own.decoder_taken + count }
    → party v side ≡ record (party w side) { encoder = encoder }
    → StandsAt setup v side (listening e (decoder_id (other side)) (with_role (role_by ((party w (other side)).own.decoder_taken + count) Decoder)) (came_on ((party w (other side)).own.decoder_taken + count) (decoder_id (other side)))
    encoder (replies_unread (are_settings_there setup (other side) (party w (other side)).own.control_taken) ((party w (other side)).own.decoder_taken + count) (party w (other side)).own.replies))
listening_stands setup w v side e count encoder h same there here =
    let own = (party w (other side)).own in
    let id = decoder_id (other side) in
    let many = own.decoder_taken + count in
    let knows = are_settings_there setup (other side) own.control_taken in
    let o = with_role (role_by many Decoder) in
    let unread = replies_unread knows many own.replies in
    let f = listening e id o (came_on many id) encoder unread in
    reader_stands setup w v side e f h same
    (record {
      same = refl;
      own = h.own ∙ sym (ap (λ (p : Party). p.own) here);
      encoder = sym (ap (λ (p : Party). p.encoder) here);
      control = subst (λ x. HasControlOf setup side x f) (sym there)
          (subst (λ x. HasControl setup side own.control_taken own.goaways x e.control_on e.peer) (elsewhere e id (control_id (other side)) o (decoder_not_control (other side))) h.control);
      encoder_stream = subst (λ x. HasEncoderStreamOf setup side x f) (sym there)
          (subst (λ x. HasEncoderStream setup side own.encoder_taken own.instructions x e.encoder_on e.decoding) (elsewhere e id (encoder_id (other side)) o (decoder_not_encoder (other side))) h.encoder_stream);
      decoder_stream = subst (λ x. HasDecoderStreamOf setup side x f) (sym there)
          (subst (λ x. HasDecoderStream side knows many own.replies x (came_on many id) unread) (sym (set-here e.unidirectional id o)) (record { stream_is = refl; is_on = refl; left = refl }));
      others = λ i off. others_stay e (other side) id i o (own_decoder (other side)) off;
    })

-- what knowing the settings leaves alone
keeps_rest : (b c : Bool) (x : EndpointHistory) (limits : Limits) (came : ℕ) (replies : List DecoderInstruction)
    → after_control b c x limits came replies ≡ record x { encoder = (after_control b c x limits came replies).encoder; own = (after_control b c x limits came replies).own; decoder_unread = (after_control b c x limits came replies).decoder_unread }
keeps_rest true c x limits came replies = refl
keeps_rest false true x limits came replies = refl
keeps_rest false false x limits came replies = refl

left_then : (b c : Bool) (x : EndpointHistory) (limits : Limits) (came : ℕ) (replies : List DecoderInstruction) → (b ≡ true → c ≡ true) → x.decoder_unread ≡ replies_unread b came replies
    → (after_control b c x limits came replies).decoder_unread ≡ replies_unread c came replies
left_then true true x limits came replies order h = h
left_then true false x limits came replies order h = let e = order refl in absurd (cc)
left_then false true x limits came replies order h = refl
left_then false false x limits came replies order h = h

-- **The reader after more of the control stream.**
pub controlling_stands : (setup : Setup) (w v : World) (side : Side) (e : EndpointHistory) (count : ℕ) (b c : Bool) → StandsAt setup w side e → SameStreams w v
    → are_settings_there setup (other side) (party w (other side)).own.control_taken ≡ b → are_settings_there setup (other side) ((party w (other side)).own.control_taken + count) ≡ c → (b ≡ true → c ≡ true)
    → (f : EndpointHistory)
    → f ≡ after_control b c (controlling e (control_id (other side)) (with_role (role_by ((party w (other side)).own.control_taken + count) Control)) (came_on ((party w (other side)).own.control_taken + count) (control_id (other side)))
    (peer_by (most_kept (announced_at setup side)) (announced_at setup (other side)) c ((party w (other side)).own.control_taken + count) (party w (other side)).own.goaways)) (announced_at setup (other side)).limits (party w (other side)).own.decoder_taken (party w (other side)).own.replies
    → (party v (other side)).own ≡ record (party w (other side)).own { control_taken = (party w (other side)).own.control_taken + count }
    → f.own ≡ (party v side).own → f.encoder ≡ (party v side).encoder → StandsAt setup v side f
controlling_stands setup w v side e count b c h same knew knows order f is there own_is encoder_is =
    let own = (party w (other side)).own in
    let id = control_id (other side) in
    let a = announced_at setup (other side) in
    let many = own.control_taken + count in
    let o = with_role (role_by many Control) in
    let peer = peer_by (most_kept (announced_at setup side)) a c many own.goaways in
    let x = controlling e id o (came_on many id) peer in
    let rest : f ≡ record x { encoder = f.encoder; own = f.own; decoder_unread = f.decoder_unread } =
    subst (λ y. y ≡ record x { encoder = y.encoder; own = y.own; decoder_unread = y.decoder_unread }) (sym is) (keeps_rest b c x a.limits own.decoder_taken own.replies) in
    let g = record x { encoder = f.encoder; own = f.own; decoder_unread = f.decoder_unread } in
    let left : f.decoder_unread ≡ replies_unread (are_settings_there setup (other side) many) own.decoder_taken own.replies =
    ap (λ (y : EndpointHistory). y.decoder_unread) is
    ∙ left_then b c x a.limits own.decoder_taken own.replies order (h.decoder_stream.left ∙ ap (λ t. replies_unread t own.decoder_taken own.replies) knew)
    ∙ ap (λ t. replies_unread t own.decoder_taken own.replies) (sym knows) in
    subst (StandsAt setup v side) (sym rest)
    (reader_stands setup w v side e g h same
    (record {
      same = refl;
      own = own_is;
      encoder = encoder_is;
      control = subst (λ y. HasControlOf setup side y g) (sym there)
          (subst (λ y. HasControl setup side many own.goaways y (came_on many id) peer) (sym (set-here e.unidirectional id o))
          (subst (λ t. HasControl setup side many own.goaways (Some o) (came_on many id) (peer_by (most_kept (announced_at setup side)) a t many own.goaways)) knows (record { stream_is = refl; is_on = refl; settings = refl; goaways_are = refl; most_pushes = refl; updates = refl; others = refl; unread = refl })));
      encoder_stream = subst (λ y. HasEncoderStreamOf setup side y g) (sym there)
          (subst (λ y. HasEncoderStream setup side own.encoder_taken own.instructions y e.encoder_on e.decoding) (elsewhere e id (encoder_id (other side)) o (control_not_encoder (other side))) h.encoder_stream);
      decoder_stream = subst (λ y. HasDecoderStreamOf setup side y g) (sym there)
          (subst (λ y. HasDecoderStream side (are_settings_there setup (other side) many) own.decoder_taken own.replies y e.decoder_on f.decoder_unread)
          (elsewhere e id (decoder_id (other side)) o (control_not_decoder (other side))) (record { stream_is = h.decoder_stream.stream_is; is_on = h.decoder_stream.is_on; left = left }));
      others = λ i off. others_stay e (other side) id i o (own_control (other side)) off;
    }))
