-- A world stays sound when a side writes more and a flow changes.
use Rattle.std.proofs.Common.{◌≡◌, ℕ, Bool, true, false, List, [], refl, sym, ap, ◌∙◌, subst, arith, append-nil, if◌then◌else◌}
use Rattle.std.specs.List.{AllByRecursion, sum_by}
use Rattle.std.specs.Prelude.{◌==◌}
use Rattle.h3_field.specs.Instruction.{DecoderInstruction}
use Rattle.h3_proto.specs.declared.stream.Side.{Side}
use Rattle.h3_proto.specs.declared.stream.Side.TheVariants.{Client, Server}
use Rattle.h3_connection.specs.OwnIds.{other}
use Rattle.h3_world.specs.Setup.{Setup}
use Rattle.h3_world.specs.Flow.{Flow}
use Rattle.h3_world.specs.World.{World, Party, party, with_party}
use Rattle.h3_world.specs.Came.{settings_came}
use Rattle.h3_world.specs.Streams.{flow, with_flow}
use Rattle.h3_world.specs.Following.{HasSession, sections_left}
use Rattle.h3_world.specs.Sound.{IsSoundFlow, IsSoundExchange, IsSoundWriter, HasCounts, IsSoundParty, IsSoundWorld, sections_above}
use Rattle.h3_world.proofs.Flows.{IsThere, flow-with_flow, flow-with_other, party-with_flow, party-with_other, flow-with_party, other-other, same_id}
use Rattle.h3_world.proofs.SameSession.{knows_of, flows_kept}
use Rattle.h3_world.proofs.Sends.{HasWritten}
use Rattle.h3_world.proofs.Sent.{there_with}
use Rattle.h3_world.proofs.HandedOut.{writing, receiving}
use Rattle.h3_world.proofs.OtherDirection.{received_other_kept}
use Rattle.h3_world.proofs.Writers.{writer_as, writer_replies}
use Rattle.h3_world.proofs.Exchanges.{WriteOn, exchanges_stay, nothing_more, KeepsExchange, exchanges_updated, flow_above, sum_own, sum_other, counts_stay}

pub party_of : (setup : Setup) (w : World) (side : Side) → IsSoundWorld setup w → IsSoundParty setup w side
party_of setup w Client h = h.client
party_of setup w Server h = h.server

pub both_sides : (setup : Setup) (w : World) (side : Side) → IsSoundParty setup w side → IsSoundParty setup w (other side) → AllByRecursion (IsSoundExchange w) w.exchanges → IsSoundWorld setup w
both_sides setup w Client own others all = record { client = own; server = others; exchanges = all }
both_sides setup w Server own others all = record { client = others; server = own; exchanges = all }

write_on : (w : World) (side : Side) (q : Party) → HasWritten (party w side) q → WriteOn w (with_party w side q)
write_on w Client q more = record { client = more; server = nothing_more w.server; exchanges = refl }
write_on w Server q more = record { client = nothing_more w.client; server = more; exchanges = refl }

keeps_with : (w : World) (ps : Side) (q : Party) (side : Side) (id : ℕ) (f : Flow) → KeepsExchange w side id f → KeepsExchange (with_party w ps q) side id f
keeps_with w Client q Client id f h = h
keeps_with w Client q Server id f h = h
keeps_with w Server q Client id f h = h
keeps_with w Server q Server id f h = h

-- A side writes more, and the flow under an id is another one.
abbrev pub updated : World → Side → Party → Side → ℕ → Flow → World
updated w ps q side id f = with_flow (with_party w ps q) side id f

-- what it must be
pub record IsUpdate (setup : Setup) (w : World) (ps : Side) (q : Party) (side : Side) (id : ℕ) (f : Flow) : Type 0 where
  pub there : IsThere w id
  pub written : HasWritten (party w ps) q
  pub writer : IsSoundWriter setup ps q (settings_came setup w (other ps))
  pub knows : knows_of setup ps q ≡ knows_of setup ps (party w ps)
  pub flow_is : IsSoundFlow (party (with_party w ps q) side) f
  pub keeps : KeepsExchange w side id f
  pub own_counts : HasCounts (updated w ps q side id f) side
  pub other_counts : HasCounts (updated w ps q side id f) (other side)
  pub own_session : HasSession setup (updated w ps q side id f) side
  pub other_session : HasSession setup (updated w ps q side id f) (other side)

writer_at : (setup : Setup) (w : World) (ps s : Side) (q : Party) (side : Side) (id : ℕ) (f : Flow) → IsSoundWorld setup w → IsSoundWriter setup ps q (settings_came setup w (other ps))
    → knows_of setup ps q ≡ knows_of setup ps (party w ps) → IsSoundWriter setup s (party (updated w ps q side id f) s) (settings_came setup (updated w ps q side id f) (other s))
writer_at setup w ps s q side id f h writer knows =
    writer_as setup s (party (with_party w ps q) s) (party new s) (knows_of setup (other s) (party (with_party w ps q) (other s))) (settings_came setup new (other s))
    (party-with_flow (with_party w ps q) side s id f) (ap (knows_of setup (other s)) (party-with_flow (with_party w ps q) side (other s) id f)) (by_sides ps s q h writer knows)
  where
    new : World
    new = updated w ps q side id f

    by_sides : (ps s : Side) (q : Party) → IsSoundWorld setup w → IsSoundWriter setup ps q (settings_came setup w (other ps)) → knows_of setup ps q ≡ knows_of setup ps (party w ps)
        → IsSoundWriter setup s (party (with_party w ps q) s) (knows_of setup (other s) (party (with_party w ps q) (other s)))
    by_sides Client Client q h writer knows = writer
    by_sides Client Server q h writer knows = writer_as setup Server w.server w.server (settings_came setup w Client) (knows_of setup Client q) refl knows h.server.writer
    by_sides Server Client q h writer knows = writer_as setup Client w.client w.client (settings_came setup w Server) (knows_of setup Server q) refl knows h.client.writer
    by_sides Server Server q h writer knows = writer

pub update_kept : (setup : Setup) (w : World) (ps : Side) (q : Party) (side : Side) (id : ℕ) (f : Flow) → IsSoundWorld setup w → IsUpdate setup w ps q side id f → IsSoundWorld setup (updated w ps q side id f)
update_kept setup w ps q side id f h u =
    both_sides setup (updated w ps q side id f) side
    (record { writer = writer_at setup w ps side q side id f h u.writer u.knows; counts = u.own_counts; session = u.own_session })
    (record { writer = writer_at setup w ps (other side) q side id f h u.writer u.knows; counts = u.other_counts; session = u.other_session })
    (exchanges_updated (with_party w ps q) side id f (exchanges_stay w (with_party w ps q) (write_on w ps q u.written) h.exchanges) u.flow_is (keeps_with w ps q side id f u.keeps))

-- the counts of an update that sends no section
pub same_counts : (w : World) (ps : Side) (q : Party) (s : Side) → q.encoder.required_insert_counts ≡ (party w ps).encoder.required_insert_counts
    → (party (with_party w ps q) s).encoder.required_insert_counts ≡ (party w s).encoder.required_insert_counts
same_counts w Client q Client e = e
same_counts w Client q Server e = refl
same_counts w Server q Client e = refl
same_counts w Server q Server e = e

same_exchanges : (w : World) (ps : Side) (q : Party) (s : Side) (most : ℕ) → sum_by (sections_above s most) (with_party w ps q).exchanges ≡ sum_by (sections_above s most) w.exchanges
same_exchanges w Client q s most = refl
same_exchanges w Server q s most = refl

pub own_counts_kept : (w : World) (ps : Side) (q : Party) (side : Side) (id : ℕ) (f : Flow) → IsThere w id → q.encoder.required_insert_counts ≡ (party w ps).encoder.required_insert_counts
    → ((most : ℕ) → flow_above most f ≡ flow_above most (flow w side id)) → HasCounts w side → HasCounts (updated w ps q side id f) side
own_counts_kept w ps q side id f there same above h =
    counts_stay w (updated w ps q side id f) side
    (ap (λ p. p.encoder.required_insert_counts) (party-with_flow (with_party w ps q) side side id f) ∙ same_counts w ps q side same)
    (λ most. omega (arith, sum_own (with_party w ps q) side id most f (there_with w ps q id there), ap (flow_above most) (flow-with_party w ps side q id), above most, same_exchanges w ps q side most)) h

pub other_counts_kept : (w : World) (ps : Side) (q : Party) (side : Side) (id : ℕ) (f : Flow) → IsThere w id → q.encoder.required_insert_counts ≡ (party w ps).encoder.required_insert_counts
    → HasCounts w (other side) → HasCounts (updated w ps q side id f) (other side)
other_counts_kept w ps q side id f there same h =
    counts_stay w (updated w ps q side id f) (other side)
    (ap (λ p. p.encoder.required_insert_counts) (party-with_flow (with_party w ps q) side (other side) id f) ∙ same_counts w ps q (other side) same)
    (λ most. sum_other (with_party w ps q) side id most f (there_with w ps q id there) ∙ same_exchanges w ps q (other side) most) h

-- A flow changes, and neither its fault nor its sections that are left do.
pub record ChangesFlow (w : World) (side : Side) (id : ℕ) (f : Flow) : Type 0 where
  pub there : IsThere w id
  pub sound : IsSoundFlow (party w side) f
  pub keeps : KeepsExchange w side id f
  pub above : (most : ℕ) → flow_above most f ≡ flow_above most (flow w side id)
  pub fault : f.fault ≡ (flow w side id).fault
  pub sections : sections_left f ≡ sections_left (flow w side id)

with_same : (w : World) (side : Side) → with_party w side (party w side) ≡ w
with_same w Client = refl
with_same w Server = refl

flow_session : (setup : Setup) (w : World) (side : Side) (id : ℕ) (f : Flow) → ChangesFlow w side id f → HasSession setup w side → HasSession setup (with_flow w side id f) side
flow_session setup w side id f c h =
    flows_kept setup w (with_flow w side id f) side (party-with_flow w side side id f) (party-with_flow w side (other side) id f)
    (λ i. ap (λ g. g.fault) (flow-with_flow w side id i f c.there) ∙ fault_of (flow w side) f id i c.fault (id == i) refl)
    (λ i. ap sections_left (flow-with_flow w side id i f c.there) ∙ sections_of (flow w side) f id i c.sections (id == i) refl) h
  where
    fault_of : (g : ℕ → Flow) (f : Flow) (id i : ℕ) → f.fault ≡ (g id).fault → (t : Bool) → (id == i) ≡ t → (if t then f else g i).fault ≡ (g i).fault
    fault_of g f id i same true e = same ∙ ap (λ j. (g j).fault) (same_id id i e)
    fault_of g f id i same false e = refl

    sections_of : (g : ℕ → Flow) (f : Flow) (id i : ℕ) → sections_left f ≡ sections_left (g id) → (t : Bool) → (id == i) ≡ t → sections_left (if t then f else g i) ≡ sections_left (g i)
    sections_of g f id i same true e = same ∙ ap (λ j. sections_left (g j)) (same_id id i e)
    sections_of g f id i same false e = refl

flow_other_session : (setup : Setup) (w : World) (side : Side) (id : ℕ) (f : Flow) → IsThere w id → HasSession setup w (other side) → HasSession setup (with_flow w side id f) (other side)
flow_other_session setup w side id f there h =
    flows_kept setup w (with_flow w side id f) (other side) (party-with_flow w side (other side) id f) (party-with_flow w side (other (other side)) id f)
    (λ i. ap (λ g. g.fault) (flow-with_other w side id i f there)) (λ i. ap sections_left (flow-with_other w side id i f there)) h

pub flow_changed_kept : (setup : Setup) (w : World) (side : Side) (id : ℕ) (f : Flow) → IsSoundWorld setup w → ChangesFlow w side id f → IsSoundWorld setup (with_flow w side id f)
flow_changed_kept setup w side id f h c =
    let p = party w side in
    let same : updated w side p side id f ≡ with_flow w side id f = ap (λ v. with_flow v side id f) (with_same w side) in
    subst (λ v. IsSoundWorld setup v) same (update_kept setup w side p side id f h (record {
      there = c.there;
      written = nothing_more p;
      writer = (party_of setup w side h).writer;
      knows = refl;
      flow_is = subst (λ v. IsSoundFlow (party v side) f) (sym (with_same w side)) c.sound;
      keeps = c.keeps;
      own_counts = own_counts_kept w side p side id f c.there refl c.above (party_of setup w side h).counts;
      other_counts = other_counts_kept w side p side id f c.there refl (party_of setup w (other side) h).counts;
      own_session = subst (λ v. HasSession setup v side) (sym same) (flow_session setup w side id f c (party_of setup w side h).session);
      other_session = subst (λ v. HasSession setup v (other side)) (sym same) (flow_other_session setup w side id f c.there (party_of setup w (other side) h).session);
    }))

-- A receiver's decoder writes more, and the flow to it changes.
pub record Receives (setup : Setup) (w : World) (receiver : Side) (id : ℕ) (more : List DecoderInstruction) (f : Flow) : Type 0 where
  pub there : IsThere w id
  pub sound : IsSoundFlow (party w (other receiver)) f
  pub keeps : KeepsExchange w (other receiver) id f
  pub above : (most : ℕ) → flow_above most f ≡ flow_above most (flow w (other receiver) id)
  pub session : HasSession setup (receiving w receiver id more f) (other receiver)

pub receiving_kept : (setup : Setup) (w : World) (receiver : Side) (id : ℕ) (more : List DecoderInstruction) (f : Flow) → IsSoundWorld setup w → Receives setup w receiver id more f
    → IsSoundWorld setup (receiving w receiver id more f)
receiving_kept setup w receiver id more f h r =
    let p = party w receiver in
    let q = writing p more in
    update_kept setup w receiver q (other receiver) id f h (record {
      there = r.there;
      written = record { more = []; is = sym (append-nil p.own.instructions) };
      writer = writer_replies setup receiver p (settings_came setup w (other receiver)) more (party_of setup w receiver h).writer;
      knows = refl;
      flow_is = subst (λ x. IsSoundFlow x f) (sym (party-with_other w receiver q)) r.sound;
      keeps = r.keeps;
      own_counts = own_counts_kept w receiver q (other receiver) id f r.there refl r.above (party_of setup w (other receiver) h).counts;
      other_counts = other_counts_kept w receiver q (other receiver) id f r.there refl (party_of setup w (other (other receiver)) h).counts;
      own_session = r.session;
      other_session = subst (λ s. HasSession setup (receiving w receiver id more f) s) (sym (other-other receiver))
          (received_other_kept setup w receiver id more f r.there (party_of setup w receiver h).session);
    })
