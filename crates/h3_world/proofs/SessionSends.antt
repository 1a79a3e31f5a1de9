-- The session of a direction when its sender writes a field section.
use Rattle.std.proofs.Common.{◌≡◌, ℕ, Bool, true, false, List, [], ◌∷◌, ◌++◌, refl, sym, ap, ◌∙◌, append_assoc}
use Rattle.std.specs.Prelude.{map, filter, ◌==◌, if◌then◌else◌, is_some}
use Rattle.std.proofs.lemmas.List.{map-append}
use Rattle.std.proofs.lemmas.List.Elements.{filter-append}
use Rattle.h3_field.specs.Field.{Field}
use Rattle.h3_qpack.specs.EncoderHistory.{EncoderHistory, writing_on}
use Rattle.h3_qpack.specs.SectionEncoding.{sent_section}
use Rattle.h3_qpack.specs.Session.{UndecodedSection, encoded}
use Rattle.h3_qpack.specs.Schedule.SessionEvent.{Encode}
use Rattle.h3_proto.specs.declared.stream.Side.{Side}
use Rattle.h3_connection.specs.OwnIds.{other}
use Rattle.h3_connection.specs.Sections.{written_section, own_instructions}
use Rattle.h3_world.specs.Setup.{Setup}
use Rattle.h3_world.specs.World.{World, party}
use Rattle.h3_world.specs.Came.{settings_came, insertions_came}
use Rattle.h3_world.specs.Streams.{flow}
use Rattle.h3_world.specs.Sending.{section_count}
use Rattle.h3_world.specs.Following.{EncodedSection, undecoded, sections_on, sections_left, replies_left, opening, limits_for, HasSession}
use Rattle.h3_world.proofs.Grown.{steps_on}

-- the section that an encoder writes on a stream
abbrev pub section_of : EncoderHistory → ℕ → List Field → EncodedSection
section_of s id fields = record { fields = fields; encoded = written_section s id fields; count = section_count s id fields }

pub sections_on-append : (id : ℕ) (bs cs : List UndecodedSection) → sections_on id (bs ++ cs) ≡ sections_on id bs ++ sections_on id cs
sections_on-append id bs cs =
    ap (map undecoded) (filter-append (λ b. b.stream == id) bs cs) ∙ map-append undecoded (filter (λ b. b.stream == id) bs) (filter (λ b. b.stream == id) cs)

one_section : (id : ℕ) (b : UndecodedSection) (test : Bool) → map undecoded (if test then b ∷ [] else []) ≡ (if test then undecoded b ∷ [] else [])
one_section id b true = refl
one_section id b false = refl

-- What a field section changes of what the session sees.
pub record SendsSection (setup : Setup) (old new : World) (side : Side) (id : ℕ) (fields : List Field) : Type 0 where
  pub encoder : (party new side).encoder ≡ sent_section (party old side).encoder id fields
  pub instructions : (party new side).own.instructions ≡ (party old side).own.instructions ++ own_instructions (party old side).encoder id fields
  pub knows : settings_came setup new (other side) ≡ settings_came setup old (other side)
  pub received : insertions_came (party new side) ≡ insertions_came (party old side)
  pub replies : replies_left setup new side ≡ replies_left setup old side
  pub faults : (i : ℕ) → (flow new side i).fault ≡ (flow old side i).fault
  pub sections : (i : ℕ) → sections_left (flow new side i)
      ≡ sections_left (flow old side i) ++ (if id == i then section_of (party old side).encoder id fields ∷ [] else [])

pub section_sent_kept : (setup : Setup) (old new : World) (side : Side) (id : ℕ) (fields : List Field) → HasSession setup old side → SendsSection setup old new side id fields
    → HasSession setup new side
section_sent_kept setup old new side id fields h sends =
    let s = h.session in
    let e = (party old side).encoder in
    let is = h.follows.encoder in
    let b : UndecodedSection = record { stream = id; fields = fields; encoder = writing_on s.encoder id } in
    steps_on setup old new side h (Encode id fields) (encoded s id fields) tt refl (record {
      encoder = ap (λ x. sent_section x id fields) is ∙ sym sends.encoder;
      instructions =
          sends.instructions
          ∙ ap (λ is. is ++ own_instructions e id fields) h.follows.instructions
          ∙ append_assoc (if settings_came setup old (other side) then opening s.encoder.most_capacity (limits_for setup side) else []) s.instructions (own_instructions e id fields)
          ∙ ap (λ k. (if k then opening s.encoder.most_capacity (limits_for setup side) else []) ++ (s.instructions ++ own_instructions e id fields)) (sym sends.knows)
          ∙ ap (λ x. (if settings_came setup new (other side) then opening s.encoder.most_capacity (limits_for setup side) else []) ++ (s.instructions ++ own_instructions x id fields)) (sym is);
      received = h.follows.received ∙ sym sends.received;
      decoder_instructions = h.follows.decoder_instructions ∙ sym sends.replies;
      canceled = λ i. h.follows.canceled i ∙ ap is_some (sym (sends.faults i));
      sections = λ i none.
          sections_on-append i s.sections (b ∷ [])
          ∙ ap (λ bs. bs ++ sections_on i (b ∷ [])) (h.follows.sections i (sym (sends.faults i) ∙ none))
          ∙ ap (λ bs. sections_left (flow old side i) ++ bs) (one_section i b (id == i))
          ∙ ap (λ x. sections_left (flow old side i) ++ (if id == i then section_of x id fields ∷ [] else [])) is
          ∙ sym (sends.sections i);
    })
