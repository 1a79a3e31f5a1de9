-- What waits on the own streams stands for what a history wrote and did not hand over.
use Rattle.std.proofs.Common.{◌≡◌, ℕ, ◌==◌, if◌then◌else◌, List, [], refl, drop, ◌∙◌, sym, Bool, true, false, Some, None, zero, suc, ◌+◌, ◌≤◌, ◌∷◌, ◌++◌, length, arith, flat_map, append_assoc, ap, length-append, subst}
use Rattle.std.specs.Prelude.{All}
use Rattle.h3_proto.specs.declared.stream.Side.{Side}
use Rattle.h3_proto.specs.declared.stream.Side.TheVariants.{Client, Server}
use Rattle.h3_connection.specs.OwnIds.{control_id, encoder_id, decoder_id}
use Rattle.h3_connection.specs.Endpoint.{EndpointHistory, own_waiting, replied}
use Rattle.h3_connection.specs.OwnUpdates.{OwnUpdate, control_frames, goaway_encoding, update_encoding}
use Rattle.h3_connection.specs.OwnUpdatesLaws.{goaway_last, update_last}
use Rattle.h3_connection.specs.State.{OwnState, OwnStands, IsBehind, TakesWhatIsThere}
use Rattle.h3_unidirectional.specs.declared.own.OwnStream.TheVariants.{Control, Encoder, Decoder}
use Rattle.h3_connection.specs.OwnSettings.{control_start}
use Rattle.h3_coding.specs.Encodings.{encoding}
use Rattle.h3_field.specs.Instruction.{EncoderInstruction, encoder_bytes, DecoderInstruction, decoder_bytes}
use Rattle.h3_connection.specs.Sending.{own_advanced}
use Rattle.h3_unidirectional.specs.OwnTexts.{Stands, control_text, decoder_text, encoder_text}
use Rattle.h3_unidirectional.specs.Owned.{having_taken, having_taken_of, waiting_of, waiting_on}

at_control : (side : Side) (x y z : List ℕ) → (if control_id side == control_id side then x else (if control_id side == encoder_id side then y else (if control_id side == decoder_id side then z else []))) ≡ x
at_control Client x y z = refl
at_control Server x y z = refl

at_encoder : (side : Side) (x y z : List ℕ) → (if encoder_id side == control_id side then x else (if encoder_id side == encoder_id side then y else (if encoder_id side == decoder_id side then z else []))) ≡ y
at_encoder Client x y z = refl
at_encoder Server x y z = refl

at_decoder : (side : Side) (x y z : List ℕ) → (if decoder_id side == control_id side then x else (if decoder_id side == encoder_id side then y else (if decoder_id side == decoder_id side then z else []))) ≡ z
at_decoder Client x y z = refl
at_decoder Server x y z = refl

stands : (own : OwnState) (e : EndpointHistory) → OwnStands own e → Stands own e
stands own e h =
    let x = drop e.own.control_taken (control_text e) in
    let y = drop e.own.encoder_taken (encoder_text e) in
    let z = drop e.own.decoder_taken (decoder_text e) in
    record { control = h.control ∙ at_control e.side x y z; encoder = h.encoder ∙ at_encoder e.side x y z; decoder = h.decoder ∙ at_decoder e.side x y z }

pub own_stands : (own : OwnState) (e : EndpointHistory) → Stands own e → TakesWhatIsThere e → OwnStands own e
own_stands own e h taken =
    let x = drop e.own.control_taken (control_text e) in
    let y = drop e.own.encoder_taken (encoder_text e) in
    let z = drop e.own.decoder_taken (decoder_text e) in
    record { control = h.control ∙ sym (at_control e.side x y z); encoder = h.encoder ∙ sym (at_encoder e.side x y z); decoder = h.decoder ∙ sym (at_decoder e.side x y z); taken = taken }

-- what waits on the stream of an id
waiting_by : (own : OwnState) (x y z : List ℕ) (a b c : Bool) → own.control ≡ x → own.encoder ≡ y → own.decoder ≡ z
    → waiting_of own (if a then Some Control else (if b then Some Encoder else (if c then Some Decoder else None))) ≡ (if a then x else (if b then y else (if c then z else [])))
waiting_by own x y z true b c p q r = p
waiting_by own x y z false true c p q r = q
waiting_by own x y z false false true p q r = r
waiting_by own x y z false false false p q r = refl

pub waiting_is : (own : OwnState) (e : EndpointHistory) (id : ℕ) → OwnStands own e → waiting_on own e.side id ≡ own_waiting e id
waiting_is own e id h =
    let s = stands own e h in
    waiting_by own (drop e.own.control_taken (control_text e)) (drop e.own.encoder_taken (encoder_text e)) (drop e.own.decoder_taken (decoder_text e))
    (id == control_id e.side) (id == encoder_id e.side) (id == decoder_id e.side) s.control s.encoder s.decoder

drop_behind : (n : ℕ) (items more : List ℕ) → n ≤ length items → drop n (items ++ more) ≡ drop n items ++ more
drop_behind zero items more h = refl
drop_behind (suc n) [] more h = absurd (omega (arith, h))
drop_behind (suc n) (x ∷ items) more h = drop_behind n items more (omega (arith, h))

flat_map_behind : {X : Type 0} (f : X → List ℕ) (xs ys : List X) → flat_map f (xs ++ ys) ≡ flat_map f xs ++ flat_map f ys
flat_map_behind f [] ys = refl
flat_map_behind f (x ∷ xs) ys = ap (λ l. f x ++ l) (flat_map_behind f xs ys) ∙ sym (append_assoc (f x) (flat_map f xs) (flat_map f ys))

-- a text with more units at its end
text_behind : {X : Type 0} (start : List ℕ) (f : X → List ℕ) (xs ys : List X) → start ++ flat_map f (xs ++ ys) ≡ (start ++ flat_map f xs) ++ flat_map f ys
text_behind start f xs ys = ap (λ l. start ++ l) (flat_map_behind f xs ys) ∙ sym (append_assoc start (flat_map f xs) (flat_map f ys))

written : {X : Type 0} (taken : ℕ) (start : List ℕ) (f : X → List ℕ) (xs ys : List X) → taken ≤ length (start ++ flat_map f xs) → drop taken (start ++ flat_map f (xs ++ ys)) ≡ drop taken (start ++ flat_map f xs) ++ flat_map f ys
written taken start f xs ys h = ap (λ l. drop taken l) (text_behind start f xs ys) ∙ drop_behind taken (start ++ flat_map f xs) (flat_map f ys) h

longer : {X : Type 0} (taken : ℕ) (start : List ℕ) (f : X → List ℕ) (xs ys : List X) → taken ≤ length (start ++ flat_map f xs) → taken ≤ length (start ++ flat_map f (xs ++ ys))
longer taken start f xs ys h = omega (arith, h, ap length (text_behind start f xs ys), length-append (start ++ flat_map f xs) (flat_map f ys))

-- a text that is the one before with more at its end
more_written : (taken : ℕ) (start before after more : List ℕ) → after ≡ before ++ more → taken ≤ length (start ++ before)
    → (drop taken (start ++ after) ≡ drop taken (start ++ before) ++ more) × (taken ≤ length (start ++ after))
more_written taken start before after more is h =
    let same : start ++ after ≡ (start ++ before) ++ more = ap (λ l. start ++ l) is ∙ sym (append_assoc start before more) in
    (ap (λ l. drop taken l) same ∙ drop_behind taken (start ++ before) more h, omega (arith, h, ap length same, length-append (start ++ before) more))

-- a frame was written on the control stream
frame_stands : (own : OwnState) (e : EndpointHistory) (goaways : List ℕ) (updates : List OwnUpdate) (frame : List ℕ)
    → control_frames 0 goaways updates ≡ control_frames 0 e.own.goaways e.own.updates ++ frame → OwnStands own e
    → OwnStands (record own { control = own.control ++ frame }) (record e { own = record e.own { goaways = goaways; updates = updates } })
frame_stands own e goaways updates frame is h =
    let s = stands own e h in
    let more = more_written e.own.control_taken (control_start e.announced.settings e.own.further) (control_frames 0 e.own.goaways e.own.updates) (control_frames 0 goaways updates) frame is h.taken.control in
    own_stands (record own { control = own.control ++ frame }) (record e { own = record e.own { goaways = goaways; updates = updates } })
    (record { control = ap (λ l. l ++ frame) s.control ∙ sym more.0; encoder = s.encoder; decoder = s.decoder })
    (record { control = more.1; encoder = h.taken.encoder; decoder = h.taken.decoder })

-- a GOAWAY frame was written
pub goaway_stands : (own : OwnState) (e : EndpointHistory) (id : ℕ) → All (IsBehind (length e.own.goaways)) e.own.updates → OwnStands own e
    → OwnStands (record own { control = own.control ++ goaway_encoding id }) (record e { own = record e.own { goaways = e.own.goaways ++ id ∷ [] } })
goaway_stands own e id behind h =
    frame_stands own e (e.own.goaways ++ id ∷ []) e.own.updates (goaway_encoding id)
    (goaway_last 0 e.own.goaways id (length e.own.goaways) e.own.updates (omega arith) behind) h

-- a PRIORITY_UPDATE frame was written
pub update_stands : (own : OwnState) (e : EndpointHistory) (u : OwnUpdate) → u.behind ≡ length e.own.goaways → All (IsBehind (length e.own.goaways)) e.own.updates → OwnStands own e
    → OwnStands (record own { control = own.control ++ update_encoding u }) (record e { own = record e.own { updates = e.own.updates ++ u ∷ [] } })
update_stands own e u now behind h =
    frame_stands own e e.own.goaways (e.own.updates ++ u ∷ []) (update_encoding u)
    (update_last 0 e.own.goaways (length e.own.goaways) e.own.updates u (omega arith) behind now) h

-- encoder instructions were written
pub instructions_stand : (own : OwnState) (e : EndpointHistory) (is : List EncoderInstruction) → OwnStands own e
    → OwnStands (record own { encoder = own.encoder ++ flat_map encoder_bytes is }) (record e { own = record e.own { instructions = e.own.instructions ++ is } })
instructions_stand own e is h =
    let s = stands own e h in
    own_stands (record own { encoder = own.encoder ++ flat_map encoder_bytes is }) (record e { own = record e.own { instructions = e.own.instructions ++ is } })
    (record {
      control = s.control;
      encoder = ap (λ l. l ++ flat_map encoder_bytes is) s.encoder ∙ sym (written e.own.encoder_taken (encoding 2) encoder_bytes e.own.instructions is h.taken.encoder);
      decoder = s.decoder;
    })
    (record { control = h.taken.control; encoder = longer e.own.encoder_taken (encoding 2) encoder_bytes e.own.instructions is h.taken.encoder; decoder = h.taken.decoder })

-- decoder instructions were written
pub replies_stand : (own : OwnState) (e : EndpointHistory) (is : List DecoderInstruction) → OwnStands own e
    → OwnStands (record own { decoder = own.decoder ++ flat_map decoder_bytes is }) (replied e is)
replies_stand own e is h =
    let s = stands own e h in
    own_stands (record own { decoder = own.decoder ++ flat_map decoder_bytes is }) (replied e is)
    (record {
      control = s.control;
      encoder = s.encoder;
      decoder = ap (λ l. l ++ flat_map decoder_bytes is) s.decoder ∙ sym (written e.own.decoder_taken (encoding 3) decoder_bytes e.own.replies is h.taken.decoder);
    })
    (record { control = h.taken.control; encoder = h.taken.encoder; decoder = longer e.own.decoder_taken (encoding 3) decoder_bytes e.own.replies is h.taken.decoder })

nothing_dropped : (k : ℕ) → drop {A = ℕ} k [] ≡ []
nothing_dropped zero = refl
nothing_dropped (suc k) = refl

drop_later : (n m : ℕ) (bytes : List ℕ) → drop m (drop n bytes) ≡ drop (n + m) bytes
drop_later zero m bytes = let same : m ≡ 0 + m = omega arith in ap (λ k. drop k bytes) same
drop_later (suc n) m [] = nothing_dropped m ∙ sym (nothing_dropped (suc n + m))
drop_later (suc n) m (x ∷ bytes) = let same : suc (n + m) ≡ suc n + m = omega arith in drop_later n m bytes ∙ ap (λ k. drop k (x ∷ bytes)) same

still_there : (n m : ℕ) (bytes : List ℕ) → n ≤ length bytes → m ≤ length (drop n bytes) → n + m ≤ length bytes
still_there zero m bytes h k = omega (arith, k)
still_there (suc n) m [] h k = absurd (omega (arith, h))
still_there (suc n) m (x ∷ bytes) h k = let rest = still_there n m bytes (omega (arith, h)) k in omega (arith, rest)

-- some bytes were taken
taken_by : (own : OwnState) (e : EndpointHistory) (count : ℕ) (a b c : Bool) → OwnStands own e
    → count ≤ length (waiting_of own (if a then Some Control else (if b then Some Encoder else (if c then Some Decoder else None))))
    → OwnStands (having_taken_of own (if a then Some Control else (if b then Some Encoder else (if c then Some Decoder else None))) count)
    (record e {
      own = if a then record e.own { control_taken = e.own.control_taken + count } else (
          if b then record e.own { encoder_taken = e.own.encoder_taken + count } else (
          if c then record e.own { decoder_taken = e.own.decoder_taken + count } else e.own));
    })
taken_by own e count true b c h fits =
    let s = stands own e h in
    let there : count ≤ length (drop e.own.control_taken (control_text e)) = subst (λ l. count ≤ length l) s.control fits in
    own_stands (record own { control = drop count own.control }) (record e { own = record e.own { control_taken = e.own.control_taken + count } })
    (record { control = ap (λ l. drop count l) s.control ∙ drop_later e.own.control_taken count (control_text e); encoder = s.encoder; decoder = s.decoder })
    (record { control = still_there e.own.control_taken count (control_text e) h.taken.control there; encoder = h.taken.encoder; decoder = h.taken.decoder })
taken_by own e count false true c h fits =
    let s = stands own e h in
    let there : count ≤ length (drop e.own.encoder_taken (encoder_text e)) = subst (λ l. count ≤ length l) s.encoder fits in
    own_stands (record own { encoder = drop count own.encoder }) (record e { own = record e.own { encoder_taken = e.own.encoder_taken + count } })
    (record { control = s.control; encoder = ap (λ l. drop count l) s.encoder ∙ drop_later e.own.encoder_taken count (encoder_text e); decoder = s.decoder })
    (record { control = h.taken.control; encoder = still_there e.own.encoder_taken count (encoder_text e) h.taken.encoder there; decoder = h.taken.decoder })
taken_by own e count false false true h fits =
    let s = stands own e h in
    let there : count ≤ length (drop e.own.decoder_taken (decoder_text e)) = subst (λ l. count ≤ length l) s.decoder fits in
    own_stands (record own { decoder = drop count own.decoder }) (record e { own = record e.own { decoder_taken = e.own.decoder_taken + count } })
    (record { control = s.control; encoder = s.encoder; decoder = ap (λ l. drop count l) s.decoder ∙ drop_later e.own.decoder_taken count (decoder_text e) })
    (record { control = h.taken.control; encoder = h.taken.encoder; decoder = still_there e.own.decoder_taken count (decoder_text e) h.taken.decoder there })
taken_by own e count false false false h fits = h

pub taken_stands : (own : OwnState) (e : EndpointHistory) (id count : ℕ) → OwnStands own e → count ≤ length (waiting_on own e.side id)
    → OwnStands (having_taken own e.side id count) (record e { own = own_advanced e.own e.side id count })
taken_stands own e id count h fits = taken_by own e count (id == control_id e.side) (id == encoder_id e.side) (id == decoder_id e.side) h fits
