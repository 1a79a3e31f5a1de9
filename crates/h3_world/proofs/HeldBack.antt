-- A world stays sound where a decoder's bytes count as not delivered before the settings came.
use Rattle.std.proofs.Common.{◌≡◌, ℕ, ◌-◌, ◌≤◌, Bool, false, [], length, refl, sym, ap, ◌∙◌, subst, arith, append-nil, min, drop, if◌then◌else◌}
use Rattle.std.specs.List.{sum_by}
use Rattle.h3_qpack.specs.WholeInstructions.{decoder_instructions_in}
use Rattle.h3_proto.specs.declared.stream.Side.{Side}
use Rattle.h3_proto.specs.declared.stream.Side.TheVariants.{Client, Server}
use Rattle.h3_connection.specs.OwnIds.{other}
use Rattle.h3_world.specs.Setup.{Setup}
use Rattle.h3_world.specs.Came.{settings_came, insertions_came}
use Rattle.h3_world.specs.Following.{sections_left}
use Rattle.h3_world.specs.OwnStreams.{decoder_stream}
use Rattle.h3_world.specs.Sound.{IsSoundWriter, IsSoundWorld, sections_above}
use Rattle.h3_world.specs.World.{World, Party, party, with_party}
use Rattle.h3_world.proofs.Exchanges.{WriteOn, exchanges_stay, counts_stay, nothing_more}
use Rattle.h3_world.proofs.Flows.{party-with_party, party-with_other, flow-with_party, other-other}
use Rattle.h3_world.proofs.SameSession.{knows_of, left_of, same_kept}
use Rattle.h3_world.proofs.Sends.{HasWritten}
use Rattle.h3_world.proofs.WorldUpdates.{party_of, both_sides}
use Rattle.h3_world.proofs.Writers.{writer_as}
use Rattle.h3_world.specs.Refused.{held_back, with_replies_held}

fewer_sound : (setup : Setup) (side : Side) (p : Party) (knows : Bool) → IsSoundWriter setup side p knows → IsSoundWriter setup side (with_replies_held p) knows
fewer_sound setup side p knows h =
    record { control = h.control; encoder = h.encoder; decoder = at_most p.own.decoder_taken (length (decoder_stream p)) h.decoder; unknown = h.unknown; limit = h.limit; capacity = h.capacity }
  where
    at_most : (n m : ℕ) → n ≤ m → min 1 n ≤ m
    at_most n m h = omega (arith, h)

-- what is not read before the settings came
none_read : (setup : Setup) (s : Side) (p : Party) → knows_of setup s p ≡ false → left_of setup s (with_replies_held p) ≡ left_of setup s p
none_read setup s p unknown =
    ap (λ b. drop (length (if b then decoder_instructions_in (min 1 p.own.decoder_taken - 1) p.own.replies else [])) p.own.replies) unknown
    ∙ sym (ap (λ b. drop (length (if b then decoder_instructions_in (p.own.decoder_taken - 1) p.own.replies else [])) p.own.replies) unknown)

same_exchanges : (w : World) (side : Side) (q : Party) → (with_party w side q).exchanges ≡ w.exchanges
same_exchanges w Client q = refl
same_exchanges w Server q = refl

writes_on : (w : World) (side : Side) (q : Party) → HasWritten (party w side) q → WriteOn w (with_party w side q)
writes_on w Client q more = record { client = more; server = nothing_more w.server; exchanges = refl }
writes_on w Server q more = record { client = nothing_more w.client; server = more; exchanges = refl }

-- **Before the settings of a side came, what its decoder wrote may count as not delivered.**
pub held_back_sound : (setup : Setup) (w : World) (side : Side) → settings_came setup w side ≡ false → IsSoundWorld setup w → IsSoundWorld setup (held_back w side)
held_back_sound setup w side unknown h =
    both_sides setup new side
    (record {
      writer = writer_as setup side q (party new side) (settings_came setup w (other side)) (settings_came setup new (other side)) own (ap (knows_of setup (other side)) others)
          (fewer_sound setup side p (settings_came setup w (other side)) here.writer);
      counts = counts_stay w new side (ap (λ x. x.encoder.required_insert_counts) own) (sums side) here.counts;
      session = same_kept setup w new side here.session (record {
        encoder = ap (λ x. x.encoder) own;
        instructions = ap (λ x. x.own.instructions) own;
        knows = ap (knows_of setup (other side)) others;
        received = ap insertions_came own;
        replies = ap (left_of setup (other side)) others;
        faults = λ i. ap (λ f. f.fault) (flow-with_party w side side q i);
        sections = λ i. ap (λ f. sections_left f) (flow-with_party w side side q i);
      });
    })
    (record {
      writer = writer_as setup (other side) (party w (other side)) (party new (other side)) (settings_came setup w (other (other side))) (settings_came setup new (other (other side))) others
          (subst (λ s. knows_of setup s (party new s) ≡ knows_of setup s (party w s)) (sym (other-other side)) (ap (knows_of setup side) own)) there.writer;
      counts = counts_stay w new (other side) (ap (λ x. x.encoder.required_insert_counts) others) (sums (other side)) there.counts;
      session = same_kept setup w new (other side) there.session (record {
        encoder = ap (λ x. x.encoder) others;
        instructions = ap (λ x. x.own.instructions) others;
        knows = subst (λ s. knows_of setup s (party new s) ≡ knows_of setup s (party w s)) (sym (other-other side)) (ap (knows_of setup side) own);
        received = ap insertions_came others;
        replies = subst (λ s. left_of setup s (party new s) ≡ left_of setup s (party w s)) (sym (other-other side)) (ap (left_of setup side) own ∙ none_read setup side p unknown);
        faults = λ i. ap (λ f. f.fault) (flow-with_party w side (other side) q i);
        sections = λ i. ap (λ f. sections_left f) (flow-with_party w side (other side) q i);
      });
    })
    (exchanges_stay w new (writes_on w side q (record { more = []; is = sym (append-nil p.own.instructions) })) h.exchanges)
  where
    p : Party
    p = party w side

    q : Party
    q = with_replies_held p

    new : World
    new = held_back w side

    own : party new side ≡ q
    own = party-with_party w side q

    others : party new (other side) ≡ party w (other side)
    others = party-with_other w side q

    sums : (s : Side) (most : ℕ) → sum_by (sections_above s most) new.exchanges ≡ sum_by (sections_above s most) w.exchanges
    sums s most = ap (sum_by (sections_above s most)) (same_exchanges w side q)

    here : Rattle.h3_world.specs.Sound.IsSoundParty setup w side
    here = party_of setup w side h

    there : Rattle.h3_world.specs.Sound.IsSoundParty setup w (other side)
    there = party_of setup w (other side) h
