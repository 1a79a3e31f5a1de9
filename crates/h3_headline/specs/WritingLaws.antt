-- A side writes on its own streams: both ends stand in the world after it.
use Rattle.h3_proto.specs.declared.stream.Side.{Side}
use Rattle.h3_proto.specs.declared.stream.Side.TheVariants.{Client, Server}
use Rattle.h3_world.specs.Sound.{IsSoundParty, IsSoundWorld}
use Rattle.h3_world.specs.World.{World, party, Party, with_party}
use Rattle.std.proofs.Common.{subst, ◌≡◌, refl, sym, ap, ◌∙◌, length, ℕ, Bool, true, false, if◌then◌else◌, Option, Some, None, nat_lt, ◌^◌, ◌<◌, ◌≤◌, [], ◌∷◌, ◌++◌}
use Rattle.h3_connection.specs.Endpoint.{EndpointHistory, Own, goaway_encoding}
use Rattle.h3_connection.specs.OwnIds.{other, control_id}
use Rattle.std.specs.List.{AllByRecursion}
use Rattle.std.specs.Prelude.{not, ◌&&◌, flat_map}
use Rattle.h3_proto.specs.StreamIds.{is_request_stream}
use Rattle.h3_connection.specs.PeerReading.{is_no_goaway, is_above}
use Rattle.h3_connection.specs.Pulling.{is_client}
use Rattle.h3_connection.specs.declared.event.Refusal.{Refusal}
use Rattle.h3_connection.specs.declared.event.Refusal.TheVariants as refusal
use Rattle.h3_connection.specs.Refusals.{raised}
use Rattle.h3_connection.specs.Lasts.{last_id}
use Rattle.h3_connection.specs.Sending as sender
use Rattle.h3_connection.specs.StreamSets.{stream_at}
use Rattle.h3_world.specs.declared.event.Event.TheVariants as event
use Rattle.h3_world.specs.declared.event.Answer.TheVariants as answer
use Rattle.h3_world.specs.Ends.{Ends, end_at, answered}
use Rattle.h3_world.specs.Machine.{served}
use Rattle.h3_world.specs.OwnStreams.{settings_bytes}
use Rattle.h3_world.specs.Refusals.{goaway_refusal}
use Rattle.h3_world.specs.Sending.{with_goaway}
use Rattle.h3_world.specs.Setup.{Setup, announced_at}
use Rattle.h3_headline.specs.Calls.{Both, Hears, Serves, with_goaways, with_own}
use Rattle.h3_headline.specs.ControlStreamLaws.{goaways_then, last_of_none}
use Rattle.h3_headline.specs.FlowLaws.{flow-with_party, is_open-with_party, other-other, party-with_other, party-with_party}
use Rattle.h3_headline.specs.OwnMovesLaws.{reader_stands}
use Rattle.h3_headline.specs.OwnStreams.{SameStreams}
use Rattle.h3_headline.specs.SendingLaws.{both_of, call_agrees, does_on, goes_unclosed}
use Rattle.h3_headline.specs.Standing.{HasControlOf, HasDecoderStreamOf, HasEncoderStreamOf, IsReadable, IsWritable, Stands, StandsAt}
use Rattle.h3_headline.specs.WritesMoreLaws.{control_more}

pub sound_party : (setup : Setup) (w : World) (side : Side) → IsSoundWorld setup w → IsSoundParty setup w side
sound_party setup w Client h = h.client
sound_party setup w Server h = h.server

pub hears : (setup : Setup) (w : World) (side : Side) (f : EndpointHistory) → StandsAt setup w (other side) f → Hears setup side (party w side).own f
hears setup w side f h =
    record {
      control = subst (λ s. HasControlOf setup (other side) (party w s).own f) (other-other side) h.control;
      encoder_stream = subst (λ s. HasEncoderStreamOf setup (other side) (party w s).own f) (other-other side) h.encoder_stream;
      decoder_stream = subst (λ s. HasDecoderStreamOf setup (other side) (party w s).own f) (other-other side) h.decoder_stream;
    }

-- **One party changes.**
pub party_writes : (setup : Setup) (w : World) (side : Side) (p : Party) (e f : EndpointHistory) → Both setup w side e f → Hears setup side p.own f → IsWritable side p.own
    → Both setup (with_party w side p) side (record e { own = p.own; encoder = p.encoder }) f
party_writes setup w side p e f h k writes =
    let v = with_party w side p in
    let same : SameStreams w v = record { flows = λ s i. flow-with_party w side s p i; opens = λ s i. is_open-with_party w side s p i } in
    let here : party v side ≡ p = party-with_party w side p in
    let there : party v (other side) ≡ party w (other side) = party-with_other w side p in
    let back : (party v (other (other side))).own ≡ p.own = ap (λ s. (party v s).own) (other-other side) ∙ ap (λ (q : Party). q.own) here in
    record {
      here = reader_stands setup w v side e (record e { own = p.own; encoder = p.encoder }) h.here same
          (record {
            same = refl;
            own = sym (ap (λ (q : Party). q.own) here);
            encoder = sym (ap (λ (q : Party). q.encoder) here);
            control = subst (λ (q : Party). HasControlOf setup side q.own e) (sym there) h.here.control;
            encoder_stream = subst (λ (q : Party). HasEncoderStreamOf setup side q.own e) (sym there) h.here.encoder_stream;
            decoder_stream = subst (λ (q : Party). HasDecoderStreamOf setup side q.own e) (sym there) h.here.decoder_stream;
            others = λ id off. refl;
          });
      there = reader_stands setup w v (other side) f f h.there same
          (record {
            same = refl;
            own = h.there.own ∙ sym (ap (λ (q : Party). q.own) there);
            encoder = h.there.encoder ∙ sym (ap (λ (q : Party). q.encoder) there);
            control = subst (λ o. HasControlOf setup (other side) o f) (sym back) k.control;
            encoder_stream = subst (λ o. HasEncoderStreamOf setup (other side) o f) (sym back) k.encoder_stream;
            decoder_stream = subst (λ o. HasDecoderStreamOf setup (other side) o f) (sym back) k.decoder_stream;
            others = λ id off. refl;
          });
      writes_here = subst (λ (q : Party). IsWritable side q.own) (sym here) writes;
      writes_there = subst (λ (q : Party). IsWritable (other side) q.own) (sym there) h.writes_there;
      sends_here = λ i. subst (λ o. AllByRecursion (IsReadable setup (other side)) o.sent) (sym (flow-with_party w side side p i)) (h.sends_here i);
      sends_there = λ i. subst (λ o. AllByRecursion (IsReadable setup side) o.sent) (sym (flow-with_party w side (other side) p i)) (h.sends_there i);
    }

pub party_count : (w : World) (side : Side) (p : Party) → length (with_party w side p).exchanges ≡ length w.exchanges
party_count w Client p = refl
party_count w Server p = refl

-- what is not refused may be written
allowed : (side : Side) (id : ℕ) (later : Option Refusal) → (if not (is_client side) && not (is_request_stream id) then Some refusal.NotRequestId else later) ≡ None → (is_no_goaway (other side) id ≡ false) × (later ≡ None)
allowed Client id later e = (refl, e)
allowed Server id later e = by_test (not (is_request_stream id)) e
  where
    by_test : (b : Bool) → (if true && b then Some refusal.NotRequestId else later) ≡ None → (b ≡ false) × (later ≡ None)
    by_test true k = cc
    by_test false k = (refl, k)

not_raised : (id : ℕ) (before : Option ℕ) → raised id before ≡ None → is_above id before ≡ false
not_raised id None e = refl
not_raised id (Some earlier) e = by_test (nat_lt earlier id) e
  where
    by_test : (b : Bool) → (if b then Some (refusal.Raised earlier) else None) ≡ None → b ≡ false
    by_test true k = cc
    by_test false k = refl

pub goaway_served : (setup : Setup) (w : World) (ends : Ends) (side : Side) (id : ℕ) → Stands setup w ends → id < 2 ^ 62
    → Serves setup (answered ends (event.Goaway side id)) (served setup w (event.Goaway side id))
goaway_served setup w ends side id h small =
    let e = end_at ends side in
    let f = end_at ends (other side) in
    let b = both_of setup w side ends h in
    let old = party w side in
    let p : Party = record old { own = record old.own { goaways = old.own.goaways ++ id ∷ [] } } in
    let new = record e { own = record e.own { goaways = e.own.goaways ++ id ∷ [] } } in
    call_agrees setup w (with_goaway w side id) ends side answer.Done answer.Done (sender.goaway_refusal e id) (goaway_refusal w side id) new h
    (goes_unclosed setup w side e _ b.here
    ∙ ap (λ s. if not (is_client s) && not (is_request_stream id) then Some refusal.NotRequestId else raised id (last_id e.own.goaways)) b.here.side_is
    ∙ ap (λ (o : Own). if not (is_client side) && not (is_request_stream id) then Some refusal.NotRequestId else raised id (last_id o.goaways)) b.here.own)
    (λ goes.
    let a = allowed side id (raised id (last_id old.own.goaways)) goes in
    let k = hears setup w side f b.there in
    let within = subst (λ s. old.own.control_taken ≤ length (settings_bytes (announced_at setup s) ++ flat_map goaway_encoding old.own.goaways)) (sym (other-other side)) (sound_party setup w side h.sound).writer.control in
    let heard : Hears setup side p.own f =
    record {
      control = control_more setup (other side) old.own.control_taken old.own.goaways (id ∷ []) (stream_at f.unidirectional (control_id (other (other side)))) f.control_on f.peer within k.control;
      encoder_stream = k.encoder_stream;
      decoder_stream = k.decoder_stream;
    } in
    let writes : IsWritable side p.own =
    record {
      goaways = goaways_then side None old.own.goaways id b.writes_here.goaways small a.0 (ap (is_above id) (last_of_none old.own.goaways) ∙ not_raised id (last_id old.own.goaways) a.1);
      instructions = b.writes_here.instructions;
      replies = b.writes_here.replies;
      updates = b.writes_here.updates;
    } in
    let is : new ≡ record e { own = p.own; encoder = p.encoder } =
    ap (λ (o : Own). with_own e (with_goaways o (o.goaways ++ id ∷ []))) b.here.own ∙ ap (λ s. record e { own = p.own; encoder = s }) b.here.encoder in
    does_on setup w (with_goaway w side id) ends side answer.Done new h refl (party_count w side p)
    (subst (λ x. Both setup (with_goaway w side id) side x f) (sym is) (party_writes setup w side p e f b heard writes)))
