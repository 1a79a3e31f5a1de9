-- A receiver is handed an item, or gives a stream up: the session of the sender's direction is kept.
use Rattle.std.proofs.Common.{◌≡◌, ℕ, zero, suc, ◌+◌, ◌-◌, ◌≤◌, Bool, true, false, List, [], ◌∷◌, ◌++◌, length, refl, sym, ap, ◌∙◌, subst, arith, Some, None}
use Rattle.std.specs.Prelude.{drop, ◌==◌, if◌then◌else◌, slice_get, unwrap_or, is_some}
use Rattle.std.proofs.lemmas.List.{drop-append-le, length-take-le}
use Rattle.std.proofs.lemmas.Grind.{common_steps}
use Rattle.h3_field.specs.Instruction.{DecoderInstruction, decoder_bytes}
use Rattle.h3_field.specs.Instruction.DecoderInstruction.{Acknowledge, CancelStream}
use Rattle.h3_qpack.specs.WholeInstructions.{whole_in, decoder_instructions_in}
use Rattle.h3_world.proofs.Wholes.{whole_within}
use Rattle.h3_proto.specs.declared.stream.Side.{Side}
use Rattle.h3_world.specs.Setup.{Setup}
use Rattle.h3_connection.specs.declared.event.StreamFault.{StreamFault}
use Rattle.h3_connection.specs.OwnIds.{other}
use Rattle.h3_world.specs.Flow.{Flow, Part}
use Rattle.h3_world.specs.World.{World, Party, party, with_party}
use Rattle.h3_world.specs.OwnStreams.{decoder_stream}
use Rattle.h3_world.specs.Came.{insertions_came}
use Rattle.h3_world.specs.Streams.{flow, with_flow}
use Rattle.h3_world.specs.Sending.{given_up}
use Rattle.h3_world.specs.Following.{EncodedSection, section_in, sections_in, HasSession}
use Rattle.h3_world.proofs.Flows.{IsThere, flow-with_flow, party-with_flow, party-with_party, party-with_other, flow-with_party, same_id, other-other}
use Rattle.h3_world.proofs.Wholes.{replies_same}
use Rattle.h3_world.proofs.SameSession.{knows_of, read_of, left_of}
use Rattle.h3_world.specs.Following.{sections_left}
use Rattle.h3_world.proofs.GivenOut.{given_up_kept, section_out_kept}
use Rattle.h3_world.proofs.Sent.{there_with}

-- the party whose decoder writes more
abbrev pub writing : Party → List DecoderInstruction → Party
writing p more = record p { own = record p.own { replies = p.own.replies ++ more } }

length_read : (setup : Setup) (s : Side) (p : Party) → length (read_of setup s p) ≤ length p.own.replies
length_read setup s p = by_test (knows_of setup s p)
  where
    by_test : (b : Bool) → length (if b then decoder_instructions_in (p.own.decoder_taken - 1) p.own.replies else []) ≤ length p.own.replies
    by_test true =
        let n = whole_in decoder_bytes (p.own.decoder_taken - 1) p.own.replies in
        let within = whole_within decoder_bytes (p.own.decoder_taken - 1) p.own.replies in
        omega (arith, within, length-take-le n p.own.replies within)
    by_test false = omega arith

-- what it writes is left to be read
pub left_grows : (setup : Setup) (s : Side) (p : Party) (more : List DecoderInstruction) → p.own.decoder_taken ≤ length (decoder_stream p) → left_of setup s (writing p more) ≡ left_of setup s p ++ more
left_grows setup s p more came =
    ap (λ is. drop (length (if knows_of setup s p then is else [])) (p.own.replies ++ more)) (replies_same p more came)
    ∙ drop-append-le (length (read_of setup s p)) p.own.replies more (length_read setup s p)

-- a receiver's decoder writes more, and the flow to it changes
abbrev pub receiving : World → Side → ℕ → List DecoderInstruction → Flow → World
receiving w receiver id more f = with_flow (with_party w receiver (writing (party w receiver) more)) (other receiver) id f

pub record Receives (w : World) (receiver : Side) (id : ℕ) (more : List DecoderInstruction) (f : Flow) : Type 0 where
  pub own : party (receiving w receiver id more f) (other receiver) ≡ party w (other receiver)
  pub its : party (receiving w receiver id more f) receiver ≡ writing (party w receiver) more
  pub flows : (i : ℕ) → flow (receiving w receiver id more f) (other receiver) i ≡ (if id == i then f else flow w (other receiver) i)

pub receives : (w : World) (receiver : Side) (id : ℕ) (more : List DecoderInstruction) (f : Flow) → IsThere w id → Receives w receiver id more f
receives w receiver id more f there =
    let q = writing (party w receiver) more in
    let v = with_party w receiver q in
    record {
      own = party-with_flow v (other receiver) (other receiver) id f ∙ party-with_other w receiver q;
      its = party-with_flow v (other receiver) receiver id f ∙ party-with_party w receiver q;
      flows = λ i. flow-with_flow v (other receiver) id i f (there_with w receiver q id there) ∙ ap (λ g. if id == i then f else g) (flow-with_party w receiver (other receiver) q i);
    }

pub its_knows : (setup : Setup) (w : World) (receiver : Side) (id : ℕ) (more : List DecoderInstruction) (f : Flow) → Receives w receiver id more f
    → knows_of setup (other (other receiver)) (party (receiving w receiver id more f) (other (other receiver))) ≡ knows_of setup (other (other receiver)) (party w (other (other receiver)))
its_knows setup w receiver id more f r =
    subst (λ s. knows_of setup s (party (receiving w receiver id more f) s) ≡ knows_of setup s (party w s)) (sym (other-other receiver)) (ap (knows_of setup receiver) r.its)

pub its_replies : (setup : Setup) (w : World) (receiver : Side) (id : ℕ) (more : List DecoderInstruction) (f : Flow) → Receives w receiver id more f
    → (party w receiver).own.decoder_taken ≤ length (decoder_stream (party w receiver))
    → left_of setup (other (other receiver)) (party (receiving w receiver id more f) (other (other receiver))) ≡ left_of setup (other (other receiver)) (party w (other (other receiver))) ++ more
its_replies setup w receiver id more f r came =
    subst (λ s. left_of setup s (party (receiving w receiver id more f) s) ≡ left_of setup s (party w s) ++ more) (sym (other-other receiver))
    (ap (left_of setup receiver) r.its ∙ left_grows setup receiver (party w receiver) more came)

pub stream_given_up_kept : (setup : Setup) (w : World) (receiver : Side) (id : ℕ) (fault : StreamFault) → IsThere w id → (flow w (other receiver) id).fault ≡ None
    → (party w receiver).own.decoder_taken ≤ length (decoder_stream (party w receiver)) → HasSession setup w (other receiver) → HasSession setup (given_up w receiver id fault) (other receiver)
stream_given_up_kept setup w receiver id fault there alive came h =
    let side = other receiver in
    let f : Flow = record (flow w side id) { fault = Some fault; waits_for = 0 } in
    let more : List DecoderInstruction = CancelStream id ∷ [] in
    let r = receives w receiver id more f there in
    given_up_kept setup w (receiving w receiver id more f) side id h (record {
      alive = alive;
      fault = ap (λ g. is_some g.fault) (r.flows id) ∙ ap (λ t. is_some (if t then f else flow w side id).fault) (itself id);
      encoder = ap (λ p. p.encoder) r.own;
      instructions = ap (λ p. p.own.instructions) r.own;
      knows = its_knows setup w receiver id more f r;
      received = ap insertions_came r.own;
      replies = its_replies setup w receiver id more f r came;
      faults = λ i e. ap (λ g. g.fault) (r.flows i) ∙ ap (λ t. (if t then f else flow w side i).fault) e;
      sections = λ i e. ap sections_left (r.flows i) ∙ ap (λ t. sections_left (if t then f else flow w side i)) e;
    })
  where
    itself : (n : ℕ) → (n == n) ≡ true
    itself n = grind (arith, common_steps)

one_more : (n : ℕ) → suc (n + 1) ≡ suc n + 1
one_more n = omega arith

-- the part that is next, and those behind it
pub next_and_rest : (ps : List Part) (n : ℕ) (part : Part) → slice_get ps n ≡ Some part → drop n ps ≡ part ∷ drop (n + 1) ps
next_and_rest [] n part e = cc
next_and_rest (p ∷ ps) zero part e = ap (λ q. q ∷ ps) (ap (λ o. unwrap_or o p) e)
next_and_rest (p ∷ ps) (suc n) part e = next_and_rest ps n part e ∙ ap (λ m. part ∷ drop m (p ∷ ps)) (one_more n)

-- A section goes out: what it must be, and that its insertions came. A world's step alone does not say so; that the pull is exact does.
pub record GoesOut (w : World) (receiver : Side) (id : ℕ) (part : Part) (section : EncodedSection) : Type 0 where
  pub there : IsThere w id
  pub alive : (flow w (other receiver) id).fault ≡ None
  pub next : slice_get (flow w (other receiver) id).sent (flow w (other receiver) id).parts_out ≡ Some part
  pub is : section_in part ≡ section ∷ []
  pub insertions : section.count ≤ insertions_came (party w (other receiver))
  pub came : (party w receiver).own.decoder_taken ≤ length (decoder_stream (party w receiver))

pub section_handed_out_kept : (setup : Setup) (w : World) (receiver : Side) (id : ℕ) (part : Part) (section : EncodedSection) → GoesOut w receiver id part section → HasSession setup w (other receiver)
    → HasSession setup (receiving w receiver id (if section.count == 0 then [] else Acknowledge id ∷ []) (record (flow w (other receiver) id) { parts_out = (flow w (other receiver) id).parts_out + 1; waits_for = 0 })) (other receiver)
section_handed_out_kept setup w receiver id part section out h =
    let side = other receiver in
    let f : Flow = record (flow w side id) { parts_out = (flow w side id).parts_out + 1; waits_for = 0 } in
    let more : List DecoderInstruction = if section.count == 0 then [] else Acknowledge id ∷ [] in
    let r = receives w receiver id more f out.there in
    section_out_kept setup w (receiving w receiver id more f) side id section (sections_left f) h (record {
      alive = out.alive;
      next =
          ap sections_in (next_and_rest (flow w side id).sent (flow w side id).parts_out part out.next)
          ∙ ap (λ bs. bs ++ sections_left f) out.is;
      there = out.insertions;
      encoder = ap (λ p. p.encoder) r.own;
      instructions = ap (λ p. p.own.instructions) r.own;
      knows = its_knows setup w receiver id more f r;
      received = ap insertions_came r.own;
      replies = its_replies setup w receiver id more f r out.came;
      faults = λ i. ap (λ g. g.fault) (r.flows i) ∙ fault_of (flow w side) id i (id == i) refl;
      sections = λ i. ap sections_left (r.flows i) ∙ sections_of f (flow w side i) (id == i);
    })
  where
    fault_of : (g : ℕ → Flow) (id i : ℕ) (t : Bool) → (id == i) ≡ t → (if t then record (g id) { parts_out = (g id).parts_out + 1; waits_for = 0 } else g i).fault ≡ (g i).fault
    fault_of g id i true e = ap (λ j. (g j).fault) (same_id id i e)
    fault_of g id i false e = refl

    sections_of : (f g : Flow) (t : Bool) → sections_left (if t then f else g) ≡ (if t then sections_left f else sections_left g)
    sections_of f g true = refl
    sections_of f g false = refl
