-- A call of one end, and what both ends are after it.
use Rattle.std.proofs.Common.{ℕ, ◌≡◌, ◌*◌, length, Bool, false, List, [], ◌∷◌, Some, ◌++◌, Option, ◌+◌, None}
use Rattle.std.specs.List.{AllByRecursion}
use Rattle.h3_proto.specs.declared.stream.Side.{Side}
use Rattle.h3_connection.specs.Endpoint.{EndpointHistory, kind_of, is_critical_of, Own}
use Rattle.h3_connection.specs.OwnIds.{other}
use Rattle.h3_world.specs.Setup.{Setup, announced_at, takes_any}
use Rattle.h3_world.specs.Streams.{flow}
use Rattle.h3_world.specs.World.{World, party, Party}
use Rattle.h3_proto.specs.declared.stream.Side.TheVariants.{Client}
use Rattle.h3_world.specs.declared.event.Answer.{Answer}
use Rattle.h3_world.specs.Ends.{Ends, end_at, with_end}
use Rattle.std.specs.Prelude.{true, false, unwrap_or}
use Rattle.h3_connection.specs.Incoming.{Incoming}
use Rattle.h3_world.specs.Flow.{Flow, Section, Part, own_part}
use Rattle.h3_connection.specs.Outgoing.{Outgoing, OwnPart, nothing_sent}
use Rattle.h3_connection.specs.StreamSets.{set_stream}
use Rattle.h3_header.specs.Head.{Head as Fields, has_pseudo, head_fields, trailer_head}
use Rattle.h3_header.specs.HeadTests.{takes_protocol}
use Rattle.h3_header.specs.Reads.{AcceptsAll, head_of_fields}
use Rattle.h3_connection.specs.Pulling.{is_for, is_interim}
use Rattle.h3_qpack.specs.Encodings.{IsWrittenInstruction}
use Rattle.h3_qpack.specs.SectionEncoding as section
use Rattle.h3_connection.specs.Sections.{own_instructions, written_section}
use Rattle.h3_world.specs.Order.{is_end}
use Rattle.h3_field.specs.Field.{Field}
use Rattle.h3_qpack.specs.EncoderHistory.{EncoderHistory}
use Rattle.h3_field.specs.Instruction.{DecoderInstruction}
use Rattle.h3_connection.specs.Delivering.{opened_at}
use Rattle.h3_headline.specs.Standing.{AreReadable, HasControlOf, HasDecoderStreamOf, HasEncoderStreamOf, IsReadable, IsWritable, ReceivesFlow, StandsAt}

-- The end of a side and the other one stand in the world, and what was written and sent is what readers take.
pub record Both (setup : Setup) (w : World) (side : Side) (e f : EndpointHistory) : Type 0 where
  pub here : StandsAt setup w side e
  pub there : StandsAt setup w (other side) f
  pub writes_here : IsWritable side (party w side).own
  pub writes_there : IsWritable (other side) (party w (other side)).own
  pub sends_here : AreReadable setup w side
  pub sends_there : (id : ℕ) → AllByRecursion (IsReadable setup side) (flow w (other side) id).sent

-- The ends answer as the machine does, and stand in the world after it.
pub record Serves (setup : Setup) (given : Answer × Ends) (to : Answer × World) : Type 0 where
  pub answer : given.0 ≡ to.0
  pub both : Both setup to.1 Client given.1.client given.1.server
  pub next_id : given.1.client.next_id ≡ 4 * length to.1.exchanges

-- What a call that is not refused leads to.
pub record Does (setup : Setup) (v : World) (ends : Ends) (side : Side) (given success : Answer) (new : EndpointHistory) : Type 0 where
  pub same : given ≡ success
  pub both : Both setup v side new (end_at ends (other side))
  pub next_id : (with_end ends side new).client.next_id ≡ 4 * length v.exchanges

-- A flow that got further at its sender alone: its receiver keeps what it kept.
pub record Extends (setup : Setup) (side : Side) (f g : Flow) : Type 0 where
  pub seen : g.seen ≡ f.seen
  pub kept : (i : Incoming) → ReceivesFlow f i → ReceivesFlow g i
  pub readable : AllByRecursion (IsReadable setup (other side)) f.sent → AllByRecursion (IsReadable setup (other side)) g.sent

abbrev pub sending : EndpointHistory → ℕ → ℕ → Outgoing → EndpointHistory
sending e id n o = record e { outgoing = set_stream e.outgoing id o; sent = n }

-- whether the connection needs a stream, as the side sees its id
abbrev pub seen_by : EndpointHistory → Side → ℕ → Bool
seen_by e s n = is_critical_of (record e { side = s }) n (kind_of s n)

-- Fields that may be sent as this header: the other side reads them as a header that is judged alike, and the instructions for them can be
-- written.
pub record IsWritableAs (setup : Setup) (w : World) (side : Side) (id : ℕ) (head : Fields) (fields : List Field) : Type 0 where
  pub reads : AcceptsAll (takes_any (announced_at setup (other side))) (trailer_head []) fields
  pub is_for : (reader : Side) → is_for reader (head_of_fields fields) ≡ is_for reader head
  pub is_interim : is_interim (head_of_fields fields).status ≡ is_interim head.status
  pub has_pseudo : has_pseudo (head_of_fields fields) ≡ has_pseudo head
  pub instructions : AllByRecursion IsWrittenInstruction (own_instructions (party w side).encoder id fields)

-- A header that may be sent: its side takes its protocol.
pub record IsWritableHead (setup : Setup) (w : World) (side : Side) (id : ℕ) (head : Fields) : Type 0 where
  pub taken : takes_protocol (takes_any (announced_at setup side)) head.protocol ≡ true
  pub writable : IsWritableAs setup w side id head (head_fields head)

-- a part that carries a section, and the part that its sender's endpoint keeps of it
pub record IsOfSection (kind : Section → Part) (own : List ℕ → OwnPart) : Type 0 where
  pub wrote : (s : Section) → own_part (kind s) ≡ own s.encoded ∷ []
  pub more : (s : Section) → is_end (Some (kind s)) ≡ false

-- the endpoint that wrote a section, by what it wrote before
abbrev pub written : EndpointHistory → (List ℕ → OwnPart) → ℕ → List Field → ℕ → Own → EncoderHistory → Option Outgoing → EndpointHistory
written e own id fields n o s stream =
    record e {
      encoder = section.sent_section s id fields;
      own = record o { instructions = o.instructions ++ own_instructions s id fields };
      outgoing = set_stream e.outgoing id (record (unwrap_or stream nothing_sent) { parts = (unwrap_or stream nothing_sent).parts ++ own (written_section s id fields) ∷ [] });
      sent = n;
    }

abbrev pub writing_to : EndpointHistory → ℕ → Party → ℕ → Outgoing → EndpointHistory
writing_to e id p n o = record e { encoder = p.encoder; own = p.own; outgoing = set_stream e.outgoing id o; sent = n }

-- What the reader has of what the side wrote: what it had, or by what it wrote now.
pub record Hears (setup : Setup) (side : Side) (own : Own) (f : EndpointHistory) : Type 0 where
  pub control : HasControlOf setup (other side) own f
  pub encoder_stream : HasEncoderStreamOf setup (other side) own f
  pub decoder_stream : HasDecoderStreamOf setup (other side) own f

-- what a side wrote, with these GOAWAY frames
abbrev pub with_goaways : Own → List ℕ → Own
with_goaways own ids = record own { goaways = ids }

abbrev pub with_own : EndpointHistory → Own → EndpointHistory
with_own e own = record e { own = own }

abbrev pub saying_more : Party → List DecoderInstruction → Party
saying_more p more = record p { own = record p.own { replies = p.own.replies ++ more } }

abbrev pub with_new : EndpointHistory → ℕ → EndpointHistory
with_new e id = record (opened_at e id None) { next_id = id + 4 }
