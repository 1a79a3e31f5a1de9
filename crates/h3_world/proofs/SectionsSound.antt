-- A world stays sound when a head or a trailer goes out.
use Rattle.std.proofs.Common.{◌≡◌, ℕ, ◌+◌, ◌-◌, ◌^◌, ◌<◌, ◌≤◌, List, [], ◌∷◌, ◌++◌, length, refl, sym, ap, ◌∙◌, subst, arith, nat_lt, if◌then◌else◌}
use Rattle.std.specs.List.{count_by, sum_by}
use Rattle.std.proofs.lemmas.List.Sums.{sum_by-append}
use Rattle.h3_field.specs.Field.{Field}
use Rattle.h3_qpack.specs.WholeInstructions.{insertions_in}
use Rattle.h3_frames.specs.Encoded.{frame_encoding}
use Rattle.h3_proto.specs.declared.stream.Side.{Side}
use Rattle.h3_proto.specs.declared.stream.Side.TheVariants.{Client, Server}
use Rattle.h3_connection.specs.OwnIds.{other}
use Rattle.h3_connection.specs.Sections.{written_section, own_instructions}
use Rattle.h3_world.specs.Setup.{Setup}
use Rattle.h3_world.specs.Flow.{Flow, Part, Section, part_bytes, flow_bytes}
use Rattle.h3_world.specs.Flow.Part.{Interim, Head, Body, Trailer, End}
use Rattle.h3_world.specs.World.{World, Party, party, with_party}
use Rattle.h3_world.specs.OwnStreams.{encoder_stream}
use Rattle.h3_world.specs.Came.{settings_came}
use Rattle.h3_world.specs.Streams.{flow}
use Rattle.h3_world.specs.Order.{last_part}
use Rattle.h3_world.specs.Sending.{appended, having_encoded, section_count, section_sent, with_section}
use Rattle.h3_world.specs.Sendable.{IsSendableSection}
use Rattle.h3_world.specs.Following.{HasSession, as_encoded, section_in}
use Rattle.h3_world.specs.Sound.{IsSentSection, IsSentPart, MayFollow, IsSoundFlow, HasCounts, IsSoundParty, IsSoundWorld, counts_in, sections_above}
use Rattle.h3_world.proofs.QpackLaws.{QpackLaws}
use Rattle.h3_world.proofs.Flows.{IsThere, flow-with_party, party-with_flow, party-with_party, party-with_other}
use Rattle.h3_world.proofs.FlowKept.{appended_kept}
use Rattle.h3_world.proofs.Inserted.{sent_section_inserted}
use Rattle.h3_world.proofs.Sent.{there_with, sent_kept}
use Rattle.h3_world.proofs.OtherDirection.{sent_other_kept}
use Rattle.h3_world.proofs.SoundFlows.{flow_sound}
use Rattle.h3_world.proofs.Writers.{writer_encoded}
use Rattle.h3_world.proofs.Exchanges.{KeepsExchange, flow_above, sum_own, sum_other, counts_stay}
use Rattle.h3_world.proofs.WorldUpdates.{party_of, update_kept}

-- a part that is a field section
pub record IsSectionKind (kind : Section → Part) : Type 0 where
  pub section : (s : Section) → section_in (kind s) ≡ as_encoded s ∷ []
  pub bytes : (s : Section) → part_bytes (kind s) ≡ frame_encoding 1 s.encoded
  pub counts : (s : Section) (ps : List Part) → counts_in (kind s ∷ ps) ≡ s.count ∷ counts_in ps
  pub part_is : (p : Party) (end : ℕ) (s : Section) → IsSentSection p s → s.own_length ≡ end → IsSentPart p end (kind s)

pub interim_kind : IsSectionKind Interim
interim_kind = record { section = λ s. refl; bytes = λ s. refl; counts = λ s ps. refl; part_is = λ p end s sent own. (sent, own) }

pub head_kind : IsSectionKind Head
head_kind = record { section = λ s. refl; bytes = λ s. refl; counts = λ s ps. refl; part_is = λ p end s sent own. (sent, own) }

pub trailer_kind : IsSectionKind Trailer
trailer_kind = record { section = λ s. refl; bytes = λ s. refl; counts = λ s ps. refl; part_is = λ p end s sent own. (sent, own) }

counts_in-append : (ps qs : List Part) → counts_in (ps ++ qs) ≡ counts_in ps ++ counts_in qs
counts_in-append [] qs = refl
counts_in-append (Interim s ∷ ps) qs = ap (λ l. s.count ∷ l) (counts_in-append ps qs)
counts_in-append (Head s ∷ ps) qs = ap (λ l. s.count ∷ l) (counts_in-append ps qs)
counts_in-append (Trailer s ∷ ps) qs = ap (λ l. s.count ∷ l) (counts_in-append ps qs)
counts_in-append (Body bytes own ∷ ps) qs = counts_in-append ps qs
counts_in-append (End ∷ ps) qs = counts_in-append ps qs

count_more : (most : ℕ) (counts more : List ℕ) → count_by (λ count. nat_lt most count) (counts ++ more) ≡ count_by (λ count. nat_lt most count) counts + count_by (λ count. nat_lt most count) more
count_more most counts more = sum_by-append (λ count. if nat_lt most count then 1 else 0) counts more

-- what a further part adds to the sections that need more insertions
pub above_appended : (most : ℕ) (f : Flow) (part : Part) → flow_above most (appended f part) ≡ flow_above most f + count_by (λ count. nat_lt most count) (counts_in (part ∷ []))
above_appended most f part = ap (count_by (λ count. nat_lt most count)) (counts_in-append f.sent (part ∷ [])) ∙ count_more most (counts_in f.sent) (counts_in (part ∷ []))

-- where a section goes out
pub record SendsSound (setup : Setup) (w : World) (side : Side) (id : ℕ) (fields : List Field) (kind : Section → Part) : Type 0 where
  pub is_kind : IsSectionKind kind
  pub there : IsThere w id
  pub sendable : IsSendableSection fields
  pub short : length (written_section (party w side).encoder id fields) < 2 ^ 62
  pub follows : (s : Section) → MayFollow (last_part (flow w side id).sent) (kind s)
  pub keeps : (part : Part) → KeepsExchange w side id (appended (flow w side id) part)

pub section_sound : QpackLaws → (setup : Setup) (w : World) (side : Side) (id : ℕ) (fields : List Field) (kind : Section → Part) → IsSoundWorld setup w → SendsSound setup w side id fields kind
    → IsSoundWorld setup (with_section kind w side id fields)
section_sound laws setup w side id fields kind h sends =
    update_kept setup w side q side id g h (record {
      there = sends.there;
      written = record { more = own_instructions p.encoder id fields; is = refl };
      writer = writer_encoded laws setup side p (settings_came setup w (other side)) id fields own.writer;
      knows = refl;
      flow_is = subst (λ x. IsSoundFlow x g) (sym (party-with_party w side q)) flow_is;
      keeps = sends.keeps part;
      own_counts = own_counts;
      other_counts = counts_stay w new (other side) (ap (λ x. x.encoder.required_insert_counts) (party-with_flow v side (other side) id g ∙ party-with_other w side q))
          (λ most. sum_other v side id most g (there_with w side q id sends.there) ∙ ap (sum_by (sections_above (other side) most)) (same_exchanges w side q)) (party_of setup w (other side) h).counts;
      own_session = own_session;
      other_session = sent_other_kept setup w side id fields kind sends.there (party_of setup w (other side) h).session;
    })
  where
    p : Party
    p = party w side

    q : Party
    q = having_encoded p id fields

    f : Flow
    f = flow w side id

    s : Section
    s = section_sent p id fields f

    part : Part
    part = kind s

    g : Flow
    g = appended f part

    v : World
    v = with_party w side q

    new : World
    new = with_section kind w side id fields

    own : IsSoundParty setup w side
    own = party_of setup w side h

    sound : IsSoundFlow p f
    sound = flow_sound w side id h.exchanges

    at_side : party new side ≡ q
    at_side = party-with_flow v side side id g ∙ party-with_party w side q

    own_session : HasSession setup new side
    own_session = sent_kept setup w side id fields kind (record { there = sends.there; out = sound.out; came = own.writer.encoder; is_section = sends.is_kind.section }) own.session

    inserted : section_count p.encoder id fields ≤ insertions_in (length (encoder_stream q) - 1) q.own.instructions
    inserted = subst (λ x. section_count p.encoder id fields ≤ insertions_in (length (encoder_stream x) - 1) x.own.instructions) at_side
        (sent_section_inserted laws.sound setup w new side id fields own_session (ap (λ x. x.encoder) at_side))

    sent : IsSentSection q s
    sent =
        record {
          of_bytes = sends.sendable.of_bytes;
          small = sends.sendable.small;
          has_length = sends.short;
          encoder = omega arith;
          inserted = inserted;
        }

    flow_is : IsSoundFlow q g
    flow_is =
        appended_kept p q f part (record { more = own_instructions p.encoder id fields; is = refl }) sound (sends.follows s)
        (sends.is_kind.part_is q (length (flow_bytes f) + length (part_bytes part)) s sent (ap (λ bytes. length (flow_bytes f) + length bytes) (sym (sends.is_kind.bytes s))))

    same_exchanges : (w : World) (side : Side) (q : Party) → (with_party w side q).exchanges ≡ w.exchanges
    same_exchanges w Client q = refl
    same_exchanges w Server q = refl

    one : (most : ℕ) → count_by (λ count. nat_lt most count) (counts_in (part ∷ [])) ≡ count_by (λ count. nat_lt most count) (s.count ∷ [])
    one most = ap (count_by (λ count. nat_lt most count)) (sends.is_kind.counts s [])

    own_counts : HasCounts new side
    own_counts = λ most.
        ap (λ x. count_by (λ count. nat_lt most count) x.encoder.required_insert_counts) at_side
        ∙ omega (
          arith,
          count_more most p.encoder.required_insert_counts (s.count ∷ []),
          own.counts most,
          sum_own v side id most g (there_with w side q id sends.there),
          ap (sum_by (sections_above side most)) (same_exchanges w side q),
          ap (flow_above most) (flow-with_party w side side q id),
          above_appended most f part,
          one most,
        )
