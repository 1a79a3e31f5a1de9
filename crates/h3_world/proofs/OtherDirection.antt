-- What one direction does leaves the session of the other one alone.
use Rattle.std.proofs.Common.{◌≡◌, ℕ, List, sym, ap, ◌∙◌, subst}
use Rattle.h3_field.specs.Field.{Field}
use Rattle.h3_field.specs.Instruction.{DecoderInstruction}
use Rattle.h3_proto.specs.declared.stream.Side.{Side}
use Rattle.h3_proto.specs.declared.stream.Side.TheVariants.{Client, Server}
use Rattle.h3_world.specs.Setup.{Setup}
use Rattle.h3_connection.specs.OwnIds.{other}
use Rattle.h3_world.specs.Flow.{Flow, Part, Section}
use Rattle.h3_world.specs.World.{World, party, with_party}
use Rattle.h3_world.specs.Streams.{flow, with_flow}
use Rattle.h3_world.specs.Sending.{having_encoded, appended, section_sent}
use Rattle.h3_world.specs.Sending.{with_section as world_sent}
use Rattle.h3_world.specs.Following.{HasSession}
use Rattle.h3_world.proofs.Flows.{IsThere, flow-with_other, party-with_flow, party-with_party, party-with_other, flow-with_party, other-other}
use Rattle.h3_world.proofs.SameSession.{knows_of, left_of, same_kept}
use Rattle.h3_world.specs.Following.{sections_left}
use Rattle.h3_world.proofs.HandedOut.{writing, receiving}
use Rattle.h3_world.proofs.Sent.{there_with}
use Rattle.h3_world.specs.Came.{insertions_came}

-- A section that the side sends: the direction to it sees the same.
pub sent_other_kept : (setup : Setup) (w : World) (side : Side) (id : ℕ) (fields : List Field) (kind : Section → Part) → IsThere w id
    → HasSession setup w (other side) → HasSession setup (world_sent kind w side id fields) (other side)
sent_other_kept setup w side id fields kind there h =
    let q = having_encoded (party w side) id fields in
    let v = with_party w side q in
    let f = appended (flow w side id) (kind (section_sent (party w side) id fields (flow w side id))) in
    let new = with_flow v side id f in
    let own : party new (other side) ≡ party w (other side) = party-with_flow v side (other side) id f ∙ party-with_other w side q in
    let its : party new side ≡ q = party-with_flow v side side id f ∙ party-with_party w side q in
    let flows : (i : ℕ) → flow new (other side) i ≡ flow w (other side) i =
    λ i. flow-with_other v side id i f (there_with w side q id there) ∙ flow-with_party w side (other side) q i in
    same_kept setup w new (other side) h (record {
      encoder = ap (λ p. p.encoder) own;
      instructions = ap (λ p. p.own.instructions) own;
      knows = subst (λ s. knows_of setup s (party new s) ≡ knows_of setup s (party w s)) (sym (other-other side)) (ap (knows_of setup side) its);
      received = ap insertions_came own;
      replies = subst (λ s. left_of setup s (party new s) ≡ left_of setup s (party w s)) (sym (other-other side)) (ap (left_of setup side) its);
      faults = λ i. ap (λ g. g.fault) (flows i);
      sections = λ i. ap sections_left (flows i);
    })

flow_first : (v : World) (side : Side) (id i : ℕ) (f : Flow) → IsThere v id → flow (with_flow v (other side) id f) side i ≡ flow v side i
flow_first v Client id i f there = flow-with_other v Server id i f there
flow_first v Server id i f there = flow-with_other v Client id i f there

-- What a receiver is handed, or gives up: the direction from it sees the same.
pub received_other_kept : (setup : Setup) (w : World) (receiver : Side) (id : ℕ) (more : List DecoderInstruction) (f : Flow) → IsThere w id
    → HasSession setup w receiver → HasSession setup (receiving w receiver id more f) receiver
received_other_kept setup w receiver id more f there h =
    let q = writing (party w receiver) more in
    let v = with_party w receiver q in
    let new = receiving w receiver id more f in
    let own : party new receiver ≡ q = party-with_flow v (other receiver) receiver id f ∙ party-with_party w receiver q in
    let its : party new (other receiver) ≡ party w (other receiver) = party-with_flow v (other receiver) (other receiver) id f ∙ party-with_other w receiver q in
    let flows : (i : ℕ) → flow new receiver i ≡ flow w receiver i =
    λ i. flow_first v receiver id i f (there_with w receiver q id there) ∙ flow-with_party w receiver receiver q i in
    same_kept setup w new receiver h (record {
      encoder = ap (λ p. p.encoder) own;
      instructions = ap (λ p. p.own.instructions) own;
      knows = ap (knows_of setup (other receiver)) its;
      received = ap insertions_came own;
      replies = ap (left_of setup (other receiver)) its;
      faults = λ i. ap (λ g. g.fault) (flows i);
      sections = λ i. ap sections_left (flows i);
    })
