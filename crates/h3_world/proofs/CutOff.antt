-- A world stays sound where a section was cut off for want of memory.
use Rattle.std.proofs.Common.{◌≡◌, inl, inr, ℕ, Bool, List, [], ◌++◌, refl, sym, ap, ◌∙◌, subst, arith, append_assoc, if◌then◌else◌}
use Rattle.std.specs.Prelude.{is_some}
use Rattle.std.specs.List.{sum_by}
use Rattle.h3_coding.specs.Encodings.{encoding}
use Rattle.h3_field.specs.Field.{Field}
use Rattle.h3_field.specs.Instruction.{encoder_bytes}
use Rattle.h3_qpack.specs.EncoderHistory.{EncoderHistory}
use Rattle.h3_qpack.specs.Schedule.{without_section}
use Rattle.h3_qpack.specs.Schedule.SessionEvent.{CutOff}
use Rattle.h3_proto.specs.declared.stream.Side.{Side}
use Rattle.h3_proto.specs.declared.stream.Side.TheVariants.{Client, Server}
use Rattle.h3_connection.specs.OwnIds.{other}
use Rattle.h3_connection.specs.Sections.{having_inserted, own_instructions}
use Rattle.h3_world.specs.Setup.{Setup}
use Rattle.h3_world.specs.World.{World, Party, party, with_party}
use Rattle.h3_world.specs.Came.{settings_came, insertions_came}
use Rattle.h3_world.specs.Following.{HasSession, HasCapacity, limits_for, opening}
use Rattle.h3_world.specs.Refused.{having_inserted_for, with_insertions}
use Rattle.h3_world.specs.Sound.{IsSoundWriter, IsSoundWorld, sections_above}
use Rattle.h3_world.proofs.QpackLaws.{QpackLaws}
use Rattle.h3_world.proofs.Exchanges.{WriteOn, exchanges_stay, counts_stay, nothing_more}
use Rattle.h3_world.proofs.Flows.{party-with_party, party-with_other, flow-with_party, other-other}
use Rattle.h3_world.proofs.Grown.{steps_on}
use Rattle.h3_world.proofs.SameSession.{knows_of, left_of, same_kept}
use Rattle.h3_world.proofs.Sends.{HasWritten}
use Rattle.h3_world.proofs.Wholes.{insertions_same}
use Rattle.h3_world.proofs.WorldUpdates.{party_of, both_sides}
use Rattle.h3_world.proofs.Writers.{bytes_longer, writer_as}

-- the encoder has its capacity, or nothing was inserted
capacity_inserted : QpackLaws → (capacity : ℕ) (s : EncoderHistory) (stream : ℕ) (fields : List Field) → HasCapacity capacity s → HasCapacity capacity (having_inserted s stream fields)
capacity_inserted laws capacity s stream fields (inl e) = inl e
capacity_inserted laws capacity s stream fields (inr h) = inr (h.0, laws.still_empty s stream fields h.0 h.1)

writer_inserted : QpackLaws → (setup : Setup) (side : Side) (p : Party) (knows : Bool) (id : ℕ) (fields : List Field) → IsSoundWriter setup side p knows
    → IsSoundWriter setup side (having_inserted_for p id fields) knows
writer_inserted laws setup side p knows id fields h =
    record {
      control = h.control;
      encoder = omega (arith, h.encoder, bytes_longer encoder_bytes (encoding 2) p.own.instructions (own_instructions p.encoder id fields));
      decoder = h.decoder;
      unknown = λ e.
          let u = h.unknown e in
          (u.0, laws.still_empty p.encoder id fields u.0 u.1, ap (λ is. is ++ own_instructions p.encoder id fields) u.2 ∙ laws.inserts_none p.encoder id fields u.0 u.1);
      limit = h.limit;
      capacity = capacity_inserted laws (limits_for setup side).table p.encoder id fields h.capacity;
    }

-- the direction in which the insertions were made
inserted_session : (setup : Setup) (w : World) (side : Side) (id : ℕ) (fields : List Field) → IsSoundWorld setup w → HasSession setup w side → HasSession setup (with_insertions w side id fields) side
inserted_session setup w side id fields sound h =
    let p = party w side in
    let q = having_inserted_for p id fields in
    let new = with_insertions w side id fields in
    let s = h.session in
    let own : party new side ≡ q = party-with_party w side q in
    let others : party new (other side) ≡ party w (other side) = party-with_other w side q in
    let is = h.follows.encoder in
    let is_for = own_instructions p.encoder id fields in
    let begun = opening s.encoder.most_capacity (limits_for setup side) in
    let knows : settings_came setup new (other side) ≡ settings_came setup w (other side) = ap (knows_of setup (other side)) others in
    steps_on setup w new side h (CutOff id fields) (without_section s id fields) tt refl (record {
      encoder = ap (λ x. having_inserted x id fields) is ∙ sym (ap (λ x. x.encoder) own);
      instructions =
          ap (λ x. x.own.instructions) own
          ∙ ap (λ l. l ++ is_for) h.follows.instructions
          ∙ append_assoc (if settings_came setup w (other side) then begun else []) s.instructions is_for
          ∙ ap (λ k. (if k then begun else []) ++ (s.instructions ++ is_for)) (sym knows)
          ∙ ap (λ x. (if settings_came setup new (other side) then begun else []) ++ (s.instructions ++ own_instructions x id fields)) (sym is);
      received = h.follows.received ∙ sym (ap insertions_came own ∙ insertions_same p is_for (party_of setup w side sound).writer.encoder);
      decoder_instructions = h.follows.decoder_instructions ∙ sym (ap (left_of setup (other side)) others);
      canceled = λ i. h.follows.canceled i ∙ ap (λ f. is_some f.fault) (sym (flow-with_party w side side q i));
      sections = λ i none.
          h.follows.sections i (ap (λ f. f.fault) (sym (flow-with_party w side side q i)) ∙ none)
          ∙ ap (λ f. Rattle.h3_world.specs.Following.sections_left f) (sym (flow-with_party w side side q i));
    })

-- and the other one
inserted_other : (setup : Setup) (w : World) (side : Side) (id : ℕ) (fields : List Field) → HasSession setup w (other side) → HasSession setup (with_insertions w side id fields) (other side)
inserted_other setup w side id fields h =
    let q = having_inserted_for (party w side) id fields in
    let new = with_insertions w side id fields in
    let own : party new (other side) ≡ party w (other side) = party-with_other w side q in
    let its : party new side ≡ q = party-with_party w side q in
    same_kept setup w new (other side) h (record {
      encoder = ap (λ p. p.encoder) own;
      instructions = ap (λ p. p.own.instructions) own;
      knows = subst (λ s. knows_of setup s (party new s) ≡ knows_of setup s (party w s)) (sym (other-other side)) (ap (knows_of setup side) its);
      received = ap insertions_came own;
      replies = subst (λ s. left_of setup s (party new s) ≡ left_of setup s (party w s)) (sym (other-other side)) (ap (left_of setup side) its);
      faults = λ i. ap (λ f. f.fault) (flow-with_party w side (other side) q i);
      sections = λ i. ap (λ f. Rattle.h3_world.specs.Following.sections_left f) (flow-with_party w side (other side) q i);
    })

same_exchanges : (w : World) (side : Side) (q : Party) → (with_party w side q).exchanges ≡ w.exchanges
same_exchanges w Client q = refl
same_exchanges w Server q = refl

writes_on : (w : World) (side : Side) (q : Party) → HasWritten (party w side) q → WriteOn w (with_party w side q)
writes_on w Client q more = record { client = more; server = nothing_more w.server; exchanges = refl }
writes_on w Server q more = record { client = nothing_more w.client; server = more; exchanges = refl }

-- **The insertions that were made for a section stay, and nothing else.**
pub cut_off_sound : QpackLaws → (setup : Setup) (w : World) (side : Side) (id : ℕ) (fields : List Field) → IsSoundWorld setup w → IsSoundWorld setup (with_insertions w side id fields)
cut_off_sound laws setup w side id fields h =
    let p = party w side in
    let q = having_inserted_for p id fields in
    let new = with_insertions w side id fields in
    let own : party new side ≡ q = party-with_party w side q in
    let others : party new (other side) ≡ party w (other side) = party-with_other w side q in
    let sums = λ (s : Side) (most : ℕ). ap (sum_by (sections_above s most)) (same_exchanges w side q) in
    let here = party_of setup w side h in
    let there = party_of setup w (other side) h in
    both_sides setup new side
    (record {
      writer = writer_as setup side q (party new side) (settings_came setup w (other side)) (settings_came setup new (other side)) own (ap (knows_of setup (other side)) others)
          (writer_inserted laws setup side p (settings_came setup w (other side)) id fields here.writer);
      counts = counts_stay w new side (ap (λ x. x.encoder.required_insert_counts) own) (sums side) here.counts;
      session = inserted_session setup w side id fields h here.session;
    })
    (record {
      writer = writer_as setup (other side) (party w (other side)) (party new (other side)) (settings_came setup w (other (other side))) (settings_came setup new (other (other side))) others
          (subst (λ s. knows_of setup s (party new s) ≡ knows_of setup s (party w s)) (sym (other-other side)) (ap (knows_of setup side) own)) there.writer;
      counts = counts_stay w new (other side) (ap (λ x. x.encoder.required_insert_counts) others) (sums (other side)) there.counts;
      session = inserted_other setup w side id fields there.session;
    })
    (exchanges_stay w new (writes_on w side q (record { more = own_instructions p.encoder id fields; is = refl })) h.exchanges)
