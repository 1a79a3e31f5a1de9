-- What is cited of the crates below: the contracts of their `laws`, as premises.
use Rattle.h3_world.specs.Setup.{Setup}
use Rattle.h3_world.specs.declared.event.Event.{Event}
use Rattle.h3_world.specs.declared.event.Answer.{Answer}
use Rattle.h3_world.specs.Headline.{Happens}
use Rattle.h3_world.specs.Machine.{served}
use Rattle.h3_world.specs.Sendable.{IsSendable}
use Rattle.h3_world.specs.Sound.{IsSoundWorld}
use Rattle.h3_world.specs.Step.{Step, IsExact}
use Rattle.h3_world.specs.World.{World, empty_world}
use Rattle.std.specs.Prelude.{◌≡◌, ℕ, ◌-◌, List, Some, Bool, ◌^◌, ◌<◌, ◌≤◌, false, ◌++◌, length, take, flat_map}
use Rattle.h3_field.specs.Instruction.{EncoderInstruction, encoder_bytes, DecoderInstruction, decoder_bytes}
use Rattle.h3_qpack.specs.DecoderState.{DecoderState, announcing, checking, decoder_after_all}
use Rattle.std.specs.List.{AllByRecursion}
use Rattle.h3_field.specs.Field.{Field, section_size}
use Rattle.h3_field.specs.InstructionAnswer.{IsReply}
use Rattle.h3_field.specs.ReadBack.{IsFieldOfBytes}
use Rattle.h3_qpack.specs.DecodedSection.{decode_section}
use Rattle.h3_qpack.specs.EncoderHistory.{EncoderHistory, encoder_after_all}
use Rattle.h3_qpack.specs.Encodings.{HasInsertions, IsDecoderAt, IsWritten, IsWrittenInstruction, tried}
use Rattle.h3_qpack.specs.Exchange.{opening}
use Rattle.h3_qpack.specs.Hearing.{heard, hear, listened, listen}
use Rattle.h3_qpack.specs.Instructions.{AreAccepted}
use Rattle.h3_qpack.specs.Schedule.{SessionEvent, SessionRun, beginning}
use Rattle.h3_qpack.specs.SectionEncoding.{encoded_section}
use Rattle.h3_qpack.specs.Session.{Session, UndecodedSection, IsSound, is_canceled, oldest}
use Rattle.h3_qpack.specs.TableHistory.{IsReadAs}
use Rattle.h3_qpack.specs.WholeInstructions.{whole_in, rest_in, decoder_instructions_in}
use Rattle.h3_header.specs.Head as header
use Rattle.h3_header.specs.HeadRead.{IsHead, head_by}
use Rattle.h3_header.specs.Reads.{IsHeadOf}
use Rattle.h3_connection.specs.Sections.{own_instructions}

-- What is cited of worlds: the contracts of `h3_world`'s `laws`, as premises.
pub record WorldLaws : Type 0 where
  pub begins : (setup : Setup) → IsSoundWorld setup (empty_world setup)
  pub machine : (setup : Setup) (w : World) (e : Event) → IsSoundWorld setup w → Step setup w e (served setup w e).0 (served setup w e).1 × IsExact w e (served setup w e).0
  pub both : (setup : Setup) (w new : World) (e : Event) (a : Answer) → IsSendable setup e → Step setup w e a new → IsExact w e a → IsSoundWorld setup w → Happens setup w e a new × IsSoundWorld setup new

-- a decoder that began so reads as many of the encoder's instructions
pub record IsRead (first : DecoderState) (instructions : List EncoderInstruction) : Type 0 where
  pub decoder : DecoderState
  pub reads : decoder_after_all (Some first) instructions ≡ Some decoder

pub record StreamLaws : Type 0 where
  pub sound : (counts : Bool) (most announced limit : ℕ) (events : List SessionEvent) (s : Session) → SessionRun (beginning counts most announced limit) events s → IsSound s
  pub heard_fronts : (r new : DecoderState) (all : List EncoderInstruction) (n : ℕ) → AllByRecursion IsWrittenInstruction all → decoder_after_all (Some r) (take (whole_in encoder_bytes n all) all) ≡ Some new →
      hear r (take n (flat_map encoder_bytes all)) ≡ heard new (rest_in encoder_bytes n all) false
  pub listened_fronts : (s : EncoderHistory) (all : List DecoderInstruction) (n : ℕ) → AllByRecursion IsReply all → AreAccepted s (decoder_instructions_in n all) →
      listen s (take n (flat_map decoder_bytes all)) ≡ listened (encoder_after_all s (decoder_instructions_in n all)) (rest_in decoder_bytes n all) false
  pub tables_read : (checks : Bool) (announced capacity : ℕ) (instructions : List EncoderInstruction) (inserted : List Field) (k : ℕ) → capacity ≤ announced → IsReadAs announced capacity instructions inserted → k ≤ length (opening capacity ++ instructions) →
      (r : DecoderState) × (decoder_after_all (Some (checking checks (announcing announced))) (take k (opening capacity ++ instructions)) ≡ Some r) × HasInsertions announced capacity (take (k - length (opening capacity)) inserted) r
  pub written : (counts : Bool) (most announced limit : ℕ) (events : List SessionEvent) (s : Session) (b : UndecodedSection) → SessionRun (beginning counts most announced limit) events s → oldest b.stream s.sections ≡ Some b →
      AllByRecursion IsFieldOfBytes b.fields → section_size b.fields < 2 ^ 62 → length (encoded_section b.encoder b.fields) < 2 ^ 63 → IsWritten s b
  pub values : (counts : Bool) (most announced limit other : ℕ) (events : List SessionEvent) (s : Session) (b : UndecodedSection) (r : DecoderState) → SessionRun (beginning counts most announced limit) events s → IsDecoderAt other s r →
      oldest b.stream s.sections ≡ Some b → is_canceled s b.stream ≡ false → IsWritten s b → decode_section r (encoded_section b.encoder b.fields) ≡ tried s b

-- the law of h3_header that a list that is read as a head is read as that head, whichever protocols are taken
abbrev pub ListsAreTheirValue : Type 0
ListsAreTheirValue = (any : Bool) (fields : List Field) (h : header.Head) → IsHeadOf any fields h → head_by any fields ≡ IsHead h

-- and what is read as a head is accepted field by field; with the two names alone it is so with any protocol too
pub record ReadingLaws : Type 0 where
  pub is_head : (any : Bool) (fields : List Field) (h : header.Head) → head_by any fields ≡ IsHead h → IsHeadOf any fields h
  pub named : (any : Bool) (fields : List Field) (h : header.Head) → IsHeadOf false fields h → head_by any fields ≡ IsHead h

pub record Laws : Type 0 where
  pub worlds : WorldLaws
  pub streams : StreamLaws
  pub lists : ListsAreTheirValue
  pub reading : ReadingLaws
  -- the instructions for fields whose section is below the bound of all sums can be written
  pub written : (s : EncoderHistory) (stream : ℕ) (fields : List Field) → length s.inserted < 2 ^ 62 → AllByRecursion IsFieldOfBytes fields → section_size fields < 2 ^ 56 →
      AllByRecursion IsWrittenInstruction (own_instructions s stream fields)
