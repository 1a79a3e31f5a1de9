-- The QPACK session of one direction, as the world goes.
use Rattle.std.specs.Prelude.{◌≡◌, ◌⊎◌, ℕ, Bool, List, [], ◌∷◌, ◌++◌, length, min, drop, map, filter, ◌==◌, None, is_some, if◌then◌else◌}
use Rattle.std.specs.List.{AllByRecursion}
use Rattle.h3_field.specs.Field.{Field}
use Rattle.h3_field.specs.Instruction.{EncoderInstruction, DecoderInstruction}
use Rattle.h3_field.specs.Instruction.EncoderInstruction.{SetCapacity}
use Rattle.h3_qpack.specs.EncoderHistory.{EncoderHistory, HasNoTable}
use Rattle.h3_qpack.specs.SectionEncoding.{encoded_section}
use Rattle.h3_qpack.specs.Session.{Session, UndecodedSection, is_canceled, count_of}
use Rattle.h3_qpack.specs.Schedule.{SessionEvent, SessionRun, beginning}
use Rattle.h3_proto.specs.declared.stream.Side.{Side}
use Rattle.h3_connection.specs.OwnIds.{other}
use Rattle.h3_connection.specs.declared.setup.Limits.{Limits}
use Rattle.h3_world.specs.Setup.{Setup, announced_at, flags_secrets, has_table}
use Rattle.h3_world.specs.Flow.{Flow, Part, Section}
use Rattle.h3_world.specs.Flow.Part.{Interim, Head, Body, Trailer, End}
use Rattle.h3_world.specs.World.{World, party}
use Rattle.h3_world.specs.Came.{settings_came, insertions_came, replies_read}
use Rattle.h3_world.specs.Streams.{flow}

-- a field section under way: its fields, its encoding and its required insert count
pub record EncodedSection : Type 0 where
  pub fields : List Field
  pub encoded : List ℕ
  pub count : ℕ

abbrev pub as_encoded : Section → EncodedSection
as_encoded s = record { fields = s.fields; encoded = s.encoded; count = s.count }

-- the field sections of some parts
abbrev pub section_in : Part → List EncodedSection
section_in (Interim s) = as_encoded s ∷ []
section_in (Head s) = as_encoded s ∷ []
section_in (Trailer s) = as_encoded s ∷ []
section_in (Body bytes own) = []
section_in End = []

abbrev pub sections_in : List Part → List EncodedSection
sections_in [] = []
sections_in (p ∷ ps) = section_in p ++ sections_in ps

-- those of a flow that are not handed out
abbrev pub sections_left : Flow → List EncodedSection
sections_left f = sections_in (drop f.parts_out f.sent)

abbrev pub undecoded : UndecodedSection → EncodedSection
undecoded b = record { fields = b.fields; encoded = encoded_section b.encoder b.fields; count = count_of b }

-- the sections of a stream that a session has under way
abbrev pub sections_on : ℕ → List UndecodedSection → List EncodedSection
sections_on id sections = map undecoded (filter (λ b. b.stream == id) sections)

-- the limits that the other side's decoder announces to the side's encoder
abbrev pub limits_for : Setup → Side → Limits
limits_for setup side = (announced_at setup (other side)).limits

-- how an encoder's stream begins once it knows them, where its table has at most so much
abbrev pub opening : ℕ → Limits → List EncoderInstruction
opening most limits = if has_table most limits then SetCapacity (min most limits.table) ∷ [] else []

-- what the side's encoder has not read of the other side's decoder
abbrev pub replies_left : Setup → World → Side → List DecoderInstruction
replies_left setup w side = drop (length (replies_read setup w (other side))) (party w (other side)).own.replies

-- The session is where the world is, for what the side writes.
pub record Follows (setup : Setup) (w : World) (side : Side) (s : Session) : Type 0 where
  pub encoder : s.encoder ≡ (party w side).encoder
  pub instructions : (party w side).own.instructions
      ≡ (if settings_came setup w (other side) then opening s.encoder.most_capacity (limits_for setup side) else []) ++ s.instructions
  pub received : s.received ≡ insertions_came (party w side)
  pub decoder_instructions : s.decoder_instructions ≡ replies_left setup w side
  pub canceled : (id : ℕ) → is_canceled s id ≡ is_some (flow w side id).fault
  pub sections : (id : ℕ) → (flow w side id).fault ≡ None → sections_on id s.sections ≡ sections_left (flow w side id)

-- Its encoder guards secrets or not, and so did the one of each section that is not decoded yet.
abbrev pub Guards : Bool → Session → Type 0
Guards guards s = (s.encoder.choices.guards_secrets ≡ guards) × AllByRecursion (λ b. b.encoder.choices.guards_secrets ≡ guards) s.sections

-- Some schedule of one encoder and one decoder leads there, whether acknowledgments count for the encoder or not, and whatever the
-- most is that its table may have. The encoder guards secrets as its side chose.
pub record HasSession (setup : Setup) (w : World) (side : Side) : Type 0 where
  pub counts : Bool
  pub most : ℕ
  pub events : List SessionEvent
  pub session : Session
  pub run : SessionRun (beginning counts most 0 0) events session
  pub follows : Follows setup w side session
  pub guards : Guards (flags_secrets (announced_at setup side)) session

-- The encoder goes by the announced capacity and has set the lesser of it and the most that its table may have, or may name no entry
-- yet.
abbrev pub HasCapacity : ℕ → EncoderHistory → Type 0
HasCapacity announced s = ((s.announced ≡ announced) × (s.capacity ≡ min s.most_capacity announced)) ⊎ (HasNoTable s × (s.inserted ≡ []))
