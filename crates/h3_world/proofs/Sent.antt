-- A head or a trailer goes out: the session of its direction is kept.
use Rattle.std.proofs.Common.{◌≡◌, ℕ, ◌≤◌, Bool, true, false, List, [], ◌∷◌, ◌++◌, length, refl, sym, ap, ◌∙◌, append_assoc, append-nil}
use Rattle.std.specs.Prelude.{drop, ◌==◌, if◌then◌else◌}
use Rattle.std.proofs.lemmas.List.{drop-append-le}
use Rattle.h3_field.specs.Field.{Field}
use Rattle.h3_connection.specs.Sections.{own_instructions}
use Rattle.h3_proto.specs.declared.stream.Side.{Side}
use Rattle.h3_proto.specs.declared.stream.Side.TheVariants.{Client, Server}
use Rattle.h3_world.specs.Setup.{Setup}
use Rattle.h3_connection.specs.OwnIds.{other}
use Rattle.h3_world.specs.Flow.{Flow, Part, Section}
use Rattle.h3_world.specs.World.{World, Party, party, with_party}
use Rattle.h3_world.specs.OwnStreams.{encoder_stream}
use Rattle.h3_world.specs.Came.{insertions_came}
use Rattle.h3_world.specs.Streams.{flow, with_flow}
use Rattle.h3_world.specs.Sending.{appended, having_encoded, section_sent}
use Rattle.h3_world.specs.Sending.{with_section as world_sent}
use Rattle.h3_world.specs.Following.{EncodedSection, as_encoded, section_in, sections_in, HasSession}
use Rattle.h3_world.proofs.Flows.{IsThere, flow-with_flow, party-with_flow, party-with_party, party-with_other, flow-with_party, same_id}
use Rattle.h3_world.proofs.Wholes.{insertions_same}
use Rattle.h3_world.proofs.SameSession.{knows_of, left_of}
use Rattle.h3_world.specs.Following.{sections_left}
use Rattle.h3_world.proofs.SessionSends.{section_of, section_sent_kept}

-- each section of a list, and then those of another
pub sections_in-append : (ps qs : List Part) → sections_in (ps ++ qs) ≡ sections_in ps ++ sections_in qs
sections_in-append [] qs = refl
sections_in-append (p ∷ ps) qs = ap (λ bs. section_in p ++ bs) (sections_in-append ps qs) ∙ sym (append_assoc (section_in p) (sections_in ps) (sections_in qs))

pub sections_left-appended : (f : Flow) (part : Part) → f.parts_out ≤ length f.sent → sections_left (appended f part) ≡ sections_left f ++ section_in part
sections_left-appended f part out =
    ap sections_in (drop-append-le f.parts_out f.sent (part ∷ []) out) ∙ sections_in-append (drop f.parts_out f.sent) (part ∷ [])
    ∙ ap (λ bs. sections_left f ++ bs) (append-nil (section_in part))

pub there_with : (w : World) (side : Side) (p : Party) (id : ℕ) → IsThere w id → IsThere (with_party w side p) id
there_with w Client p id there = record { request = there.request; place = there.place }
there_with w Server p id there = record { request = there.request; place = there.place }

-- where a section goes out on a stream that is there
pub record SendsOn (w : World) (side : Side) (id : ℕ) (kind : Section → Part) : Type 0 where
  pub there : IsThere w id
  pub out : (flow w side id).parts_out ≤ length (flow w side id).sent
  pub came : (party w side).own.encoder_taken ≤ length (encoder_stream (party w side))
  pub is_section : (s : Section) → section_in (kind s) ≡ as_encoded s ∷ []

pub sent_kept : (setup : Setup) (w : World) (side : Side) (id : ℕ) (fields : List Field) (kind : Section → Part) → SendsOn w side id kind → HasSession setup w side → HasSession setup (world_sent kind w side id fields) side
sent_kept setup w side id fields kind on h =
    let p = party w side in
    let q = having_encoded p id fields in
    let v = with_party w side q in
    let part = kind (section_sent p id fields (flow w side id)) in
    let f = appended (flow w side id) part in
    let new = with_flow v side id f in
    let own : party new side ≡ q = party-with_flow v side side id f ∙ party-with_party w side q in
    let others : party new (other side) ≡ party w (other side) = party-with_flow v side (other side) id f ∙ party-with_other w side q in
    let flows : (i : ℕ) → flow new side i ≡ (if id == i then f else flow w side i) =
    λ i. flow-with_flow v side id i f (there_with w side q id on.there) ∙ ap (λ g. if id == i then f else g) (flow-with_party w side side q i) in
    let section : section_in part ≡ section_of p.encoder id fields ∷ [] =
    on.is_section (section_sent p id fields (flow w side id)) in
    section_sent_kept setup w new side id fields h (record {
      encoder = ap (λ x. x.encoder) own;
      instructions = ap (λ x. x.own.instructions) own;
      knows = ap (knows_of setup (other side)) others;
      received = ap insertions_came own ∙ insertions_same p (own_instructions p.encoder id fields) on.came;
      replies = ap (left_of setup (other side)) others;
      faults = λ i. ap (λ g. g.fault) (flows i) ∙ fault_of w side id i part (id == i) refl;
      sections = λ i. ap sections_left (flows i) ∙ sections_of w side id i part (section_of p.encoder id fields) on.out section (id == i) refl;
    })
  where
    fault_of : (w : World) (side : Side) (id i : ℕ) (part : Part) (t : Bool) → (id == i) ≡ t → (if t then appended (flow w side id) part else flow w side i).fault ≡ (flow w side i).fault
    fault_of w side id i part true e = ap (λ j. (flow w side j).fault) (same_id id i e)
    fault_of w side id i part false e = refl

    sections_of : (w : World) (side : Side) (id i : ℕ) (part : Part) (b : EncodedSection) → (flow w side id).parts_out ≤ length (flow w side id).sent → section_in part ≡ b ∷ [] → (t : Bool) → (id == i) ≡ t
        → sections_left (if t then appended (flow w side id) part else flow w side i) ≡ sections_left (flow w side i) ++ (if t then b ∷ [] else [])
    sections_of w side id i part b out is true e =
        sections_left-appended (flow w side id) part out ∙ ap (λ bs. sections_left (flow w side id) ++ bs) is ∙ ap (λ j. sections_left (flow w side j) ++ b ∷ []) (same_id id i e)
    sections_of w side id i part b out is false e = sym (append-nil (sections_left (flow w side i)))
