-- A reader is handed an item: the session of the sender's direction is kept.
use Rattle.std.proofs.Common.{◌≡◌, ℕ, ◌+◌, ◌≤◌, Bool, true, false, List, [], ◌++◌, length, refl, sym, ap, ◌∙◌, subst, append-nil, Option, Some, None}
use Rattle.std.specs.Prelude.{drop, ◌==◌, if◌then◌else◌}
use Rattle.h3_proto.specs.declared.stream.Side.{Side}
use Rattle.h3_world.specs.Setup.{Setup}
use Rattle.h3_connection.specs.declared.event.Item.{Item}
use Rattle.h3_connection.specs.OwnIds.{other}
use Rattle.h3_world.specs.Flow.{Flow, Part}
use Rattle.h3_world.specs.Flow.Part.{Interim, Head, Body, Trailer, End}
use Rattle.h3_world.specs.World.{World, party}
use Rattle.h3_world.specs.OwnStreams.{decoder_stream}
use Rattle.h3_world.specs.Came.{insertions_came}
use Rattle.h3_world.specs.Streams.{flow}
use Rattle.h3_world.specs.Order.{next_part}
use Rattle.h3_world.specs.Items.{HasCome, handed_out, after_item, after_piece, acknowledgment_of}
use Rattle.h3_world.specs.Following.{as_encoded, section_in, sections_in, HasSession}
use Rattle.h3_world.proofs.Enough.{EnoughCame}
use Rattle.h3_world.proofs.Flows.{IsThere, same_id}
use Rattle.h3_world.proofs.SameSession.{left_of, same_kept}
use Rattle.h3_world.specs.Following.{sections_left}
use Rattle.h3_world.proofs.HandedOut.{receiving, receives, its_knows, its_replies, next_and_rest, section_handed_out_kept}

-- an item that leaves the sections as they are: a piece of the body, or the end
pub no_section_kept : (setup : Setup) (w : World) (receiver : Side) (id : ℕ) (f : Flow) → IsThere w id → (party w receiver).own.decoder_taken ≤ length (decoder_stream (party w receiver))
    → f.fault ≡ (flow w (other receiver) id).fault → sections_left f ≡ sections_left (flow w (other receiver) id) → HasSession setup w (other receiver)
    → HasSession setup (receiving w receiver id [] f) (other receiver)
no_section_kept setup w receiver id f there came fault sections h =
    let r = receives w receiver id [] f there in
    same_kept setup w (receiving w receiver id [] f) (other receiver) h (record {
      encoder = ap (λ p. p.encoder) r.own;
      instructions = ap (λ p. p.own.instructions) r.own;
      knows = its_knows setup w receiver id [] f r;
      received = ap insertions_came r.own;
      replies = its_replies setup w receiver id [] f r came ∙ append-nil (left_of setup (other (other receiver)) (party w (other (other receiver))));
      faults = λ i. ap (λ g. g.fault) (r.flows i) ∙ fault_of (flow w (other receiver)) f id i fault (id == i) refl;
      sections = λ i. ap sections_left (r.flows i) ∙ sections_of (flow w (other receiver)) f id i sections (id == i) refl;
    })
  where
    fault_of : (g : ℕ → Flow) (f : Flow) (id i : ℕ) → f.fault ≡ (g id).fault → (t : Bool) → (id == i) ≡ t → (if t then f else g i).fault ≡ (g i).fault
    fault_of g f id i same true e = same ∙ ap (λ j. (g j).fault) (same_id id i e)
    fault_of g f id i same false e = refl

    sections_of : (g : ℕ → Flow) (f : Flow) (id i : ℕ) → sections_left f ≡ sections_left (g id) → (t : Bool) → (id == i) ≡ t → sections_left (if t then f else g i) ≡ sections_left (g i)
    sections_of g f id i same true e = same ∙ ap (λ j. sections_left (g j)) (same_id id i e)
    sections_of g f id i same false e = refl

-- one further part that holds no section
past : (f : Flow) (part : Part) → next_part f ≡ Some part → section_in part ≡ [] → sections_in (drop (f.parts_out + 1) f.sent) ≡ sections_left f
past f part next none = sym (ap sections_in (next_and_rest f.sent f.parts_out part next) ∙ ap (λ bs. bs ++ sections_in (drop (f.parts_out + 1) f.sent)) none)

piece_fault : (f : Flow) (bytes : List ℕ) (count : ℕ) → (after_piece f bytes count).fault ≡ f.fault
piece_fault f bytes count = by_test (f.body_out + count == length bytes)
  where
    by_test : (b : Bool) → (if b then record f { parts_out = f.parts_out + 1; body_out = 0; waits_for = 0 } else record f { body_out = f.body_out + count; waits_for = 0 }).fault ≡ f.fault
    by_test true = refl
    by_test false = refl

piece_sections : (f : Flow) (bytes : List ℕ) (own count : ℕ) → next_part f ≡ Some (Body bytes own) → sections_left (after_piece f bytes count) ≡ sections_left f
piece_sections f bytes own count next = by_test (f.body_out + count == length bytes)
  where
    by_test : (b : Bool) → sections_left (if b then record f { parts_out = f.parts_out + 1; body_out = 0; waits_for = 0 } else record f { body_out = f.body_out + count; waits_for = 0 }) ≡ sections_left f
    by_test true = past f (Body bytes own) next refl
    by_test false = refl

-- the world after the item, by the next part
abbrev pub out_by : World → Side → ℕ → Item → Option Part → World
out_by w receiver id i part = receiving w receiver id (acknowledgment_of id part) (after_item (flow w (other receiver) id) part i)

by_part : (setup : Setup) (w : World) (receiver : Side) (id most : ℕ) (i : Item) (part : Option Part) → next_part (flow w (other receiver) id) ≡ part → IsThere w id → (flow w (other receiver) id).fault ≡ None
    → (party w receiver).own.decoder_taken ≤ length (decoder_stream (party w receiver)) → HasCome most (flow w (other receiver) id) part i → EnoughCame (insertions_came (party w (other receiver))) part
    → HasSession setup w (other receiver) → HasSession setup (out_by w receiver id i part) (other receiver)
by_part setup w receiver id most i None next there alive came has enough h = absurd has
by_part setup w receiver id most i (Some (Interim s)) next there alive came has enough h =
    section_handed_out_kept setup w receiver id (Interim s) (as_encoded s) (record { there = there; alive = alive; next = next; is = refl; insertions = enough; came = came }) h
by_part setup w receiver id most i (Some (Head s)) next there alive came has enough h =
    section_handed_out_kept setup w receiver id (Head s) (as_encoded s) (record { there = there; alive = alive; next = next; is = refl; insertions = enough; came = came }) h
by_part setup w receiver id most i (Some (Trailer s)) next there alive came has enough h =
    section_handed_out_kept setup w receiver id (Trailer s) (as_encoded s) (record { there = there; alive = alive; next = next; is = refl; insertions = enough; came = came }) h
by_part setup w receiver id most i (Some (Body bytes own)) next there alive came has enough h =
    subst (λ x. HasSession setup (out_by w receiver id x (Some (Body bytes own))) (other receiver)) (sym has.3)
    (no_section_kept setup w receiver id (after_piece (flow w (other receiver) id) bytes _) there came (piece_fault (flow w (other receiver) id) bytes _) (piece_sections (flow w (other receiver) id) bytes own _ next) h)
by_part setup w receiver id most i (Some End) next there alive came has enough h =
    no_section_kept setup w receiver id (record (flow w (other receiver) id) { parts_out = (flow w (other receiver) id).parts_out + 1; waits_for = 0 }) there came refl
    (past (flow w (other receiver) id) End next refl) h

pub handed_out_kept : (setup : Setup) (w : World) (receiver : Side) (id most : ℕ) (i : Item) → IsThere w id → (flow w (other receiver) id).fault ≡ None
    → (party w receiver).own.decoder_taken ≤ length (decoder_stream (party w receiver)) → HasCome most (flow w (other receiver) id) (next_part (flow w (other receiver) id)) i
    → EnoughCame (insertions_came (party w (other receiver))) (next_part (flow w (other receiver) id)) → HasSession setup w (other receiver)
    → HasSession setup (handed_out w receiver id i) (other receiver)
handed_out_kept setup w receiver id most i there alive came has enough h =
    by_part setup w receiver id most i (next_part (flow w (other receiver) id)) refl there alive came has enough h
