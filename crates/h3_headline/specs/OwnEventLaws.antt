-- What comes on a control, encoder or decoder stream: two endpoints that stand in a world answer as the world says, and stand in it
-- after that.
use Rattle.std.proofs.Common.{◌≡◌, ◌-◌, false, refl, ℕ, Bool, true, ◌||◌, sym, subst, if◌then◌else◌, Some, None, ap, ◌∙◌, List, [], length, drop, take}
use Rattle.h3_proto.specs.declared.stream.Side.{Side}
use Rattle.h3_proto.specs.declared.stream.Side.TheVariants.{Client, Server}
use Rattle.h3_connection.specs.OwnIds.{control_id, encoder_id, decoder_id, is_own, other}
use Rattle.h3_world.specs.Streams.{is_open, flow, waiting}
use Rattle.h3_world.specs.World.{World, party}
use Rattle.std.specs.Prelude.{◌==◌}
use Rattle.h3_connection.specs.Endpoint.{EndpointHistory, Own}
use Rattle.h3_connection.specs.declared.setup.Announced.{Announced}
use Rattle.h3_connection.specs.StreamSets.{stream_at}
use Rattle.h3_world.specs.Order.{outgoing_of}
use Rattle.std.proofs.lemmas.List.{length-drop}
use Rattle.h3_connection.specs.Shown as shown
use Rattle.h3_world.specs.Flow as flows
use Rattle.h3_world.specs.OwnStreams.{control_stream, encoder_stream, decoder_stream}
use Rattle.h3_world.specs.Setup.{Setup, announced_at, IsMadeSetup}
use Rattle.h3_connection.specs.declared.arrival.Arrival.TheVariants.{BytesCame}
use Rattle.h3_connection.specs.Keeping.{arrives}
use Rattle.h3_connection.specs.OwnUpdates.{OwnUpdate}
use Rattle.h3_world.specs.Sound.{IsSoundWorld}
use Rattle.h3_headline.specs.Cited.{StreamLaws}
use Rattle.h3_headline.specs.FlowLaws.{same_number}
use Rattle.h3_headline.specs.OwnOverLaws.{advanced_is, control_over, decoder_over, encoder_over, left_control, left_decoder, left_encoder, waiting_own, writer_over}
use Rattle.h3_headline.specs.OwnStreams.{GoesOver, OwnCome, left_of}
use Rattle.h3_headline.specs.Standing.{IsWritable, StandsAt, WritesNoMore}

-- no request stream has the id of an own stream
control_closed : (w : World) (side : Side) → is_open w side (control_id side) ≡ false
control_closed w Client = refl
control_closed w Server = refl

encoder_closed : (w : World) (side : Side) → is_open w side (encoder_id side) ≡ false
encoder_closed w Client = refl
encoder_closed w Server = refl

decoder_closed : (w : World) (side : Side) → is_open w side (decoder_id side) ≡ false
decoder_closed w Client = refl
decoder_closed w Server = refl

-- what holds of the three own streams holds of each
pub each_own : (P : ℕ → Type 0) (side : Side) (id : ℕ) → is_own side id ≡ true → P (control_id side) → P (encoder_id side) → P (decoder_id side) → P id
each_own P side id own control encoder decoder = by_test (id == control_id side) refl (id == encoder_id side) refl (id == decoder_id side) refl own
  where
    by_test : (a : Bool) → (id == control_id side) ≡ a → (b : Bool) → (id == encoder_id side) ≡ b → (c : Bool) → (id == decoder_id side) ≡ c → (a || b || c) ≡ true → P id
    by_test true e b f c g h = subst P (sym (same_number id (control_id side) e)) control
    by_test false e true f c g h = subst P (sym (same_number id (encoder_id side) f)) encoder
    by_test false e false f true g h = subst P (sym (same_number id (decoder_id side) g)) decoder
    by_test false e false f false g h = absurd (cc)

pub own_closed : (w : World) (side : Side) (id : ℕ) → is_own side id ≡ true → is_open w side id ≡ false
own_closed w side id own = each_own (λ i. is_open w side i ≡ false) side id own (control_closed w side) (encoder_closed w side) (decoder_closed w side)

pub own_outgoing : (setup : Setup) (w : World) (side : Side) (id : ℕ) (e : EndpointHistory) → StandsAt setup w side e → is_own side id ≡ true → stream_at e.outgoing id ≡ None
own_outgoing setup w side id e h own = h.outgoing id ∙ ap (λ b. if b then Some (outgoing_of (flow w side id)) else None) (own_closed w side id own)

-- so many bytes wait
waits_by : (a b c : Bool) (n m k other_waits : ℕ) (xs ys zs : List ℕ) → (a || b || c) ≡ true
    → length (if a then drop n xs else (if b then drop m ys else (if c then drop k zs else []))) ≡ (if a then length xs - n else (if b then length ys - m else (if c then length zs - k else other_waits)))
waits_by true b c n m k other_waits xs ys zs h = length-drop n xs
waits_by false true c n m k other_waits xs ys zs h = length-drop m ys
waits_by false false true n m k other_waits xs ys zs h = length-drop k zs
waits_by false false false n m k other_waits xs ys zs h = absurd (cc)

-- no update is written, and no further setting
pub without_updates : (side : Side) (own : Own) (a : Announced) (id : ℕ) → WritesNoMore own → left_of side own a id ≡ left_of side (record own { updates = []; further = [] }) a id
without_updates side own a id none = ap (λ (x : List OwnUpdate × List (ℕ × ℕ)). left_of side (record own { updates = x.0; further = x.1 }) a id) none

pub own_waits : (setup : Setup) (w : World) (side : Side) (id : ℕ) (e : EndpointHistory) → StandsAt setup w side e → WritesNoMore (party w side).own → is_own side id ≡ true → shown.waiting e id ≡ waiting setup w side id
own_waits setup w side id e h none own =
    let p = party w side in
    ap length (waiting_own setup w side id e h (own_outgoing setup w side id e h own) ∙ without_updates side p.own (announced_at setup side) id none)
    ∙ waits_by (id == control_id side) (id == encoder_id side) (id == decoder_id side) p.own.control_taken p.own.encoder_taken p.own.decoder_taken (flows.bytes_waiting (flow w side id))
    (control_stream (announced_at setup side) p) (encoder_stream p) (decoder_stream p) own

come_over : (setup : Setup) (w : World) (side : Side) (er ew : EndpointHistory) (count id : ℕ) (bytes : List ℕ) → StandsAt setup w (other side) ew → IsSoundWorld setup w → is_open w (other side) id ≡ false
    → left_of (other side) (party w (other side)).own (announced_at setup (other side)) id ≡ bytes → GoesOver setup w side id count er bytes → OwnCome setup w side er ew count id
come_over setup w side er ew count id bytes h sound closed left g =
    let none : stream_at ew.outgoing id ≡ None = h.outgoing id ∙ ap (λ b. if b then Some (outgoing_of (flow w (other side) id)) else None) closed in
    record {
      after = g.after;
      arrived = ap (λ l. arrives er (BytesCame id (take count l))) (waiting_own setup w (other side) id ew h none ∙ left) ∙ g.arrived;
      reader = g.stands;
      writer = writer_over setup w side id count ew h sound none;
      reader_next = g.next_id;
      writer_next = ap (λ (x : EndpointHistory). x.next_id) (advanced_is setup w (other side) id count ew h none);
    }

pub own_come : (laws : StreamLaws) (setup : Setup) (w : World) (side : Side) (er ew : EndpointHistory) (count id : ℕ) → IsMadeSetup setup → IsSoundWorld setup w → IsWritable (other side) (party w (other side)).own
    → StandsAt setup w side er → StandsAt setup w (other side) ew → is_own (other side) id ≡ true → OwnCome setup w side er ew count id
own_come laws setup w side er ew count id made sound writable hr hw own =
    let s = other side in
    let o = (party w s).own in
    let a = announced_at setup s in
    each_own (OwnCome setup w side er ew count) s id own
    (come_over setup w side er ew count (control_id s) _ hw sound (control_closed w s) (left_control s o a writable.updates) (control_over laws setup w side count er made sound writable hr))
    (come_over setup w side er ew count (encoder_id s) _ hw sound (encoder_closed w s) (left_encoder s o a) (encoder_over laws setup w side count er made sound writable hr))
    (come_over setup w side er ew count (decoder_id s) _ hw sound (decoder_closed w s) (left_decoder s o a) (decoder_over laws setup w side count er sound writable hr))
