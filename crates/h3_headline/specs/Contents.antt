-- What a flow carries, what was handed out of it, and what one step or a whole run changes of both.
use Rattle.std.proofs.Common.{List, [], ◌∷◌, Bool, Some, ℕ, Option, ◌++◌, ◌≡◌, true, false, ◌+◌, length}
use Rattle.std.specs.Prelude.{map, flat_map, take, slice_get, ◌||◌, ◌&&◌, if◌then◌else◌, is_some}
use Rattle.h3_world.specs.Flow.{Part, Flow}
use Rattle.h3_world.specs.Flow.Part.{Interim, Head, Body, Trailer, End}
use Rattle.std.specs.List.{list_any}
use Rattle.h3_world.specs.Order.{is_end, is_over}
use Rattle.h3_proto.specs.declared.stream.Side.{Side}
use Rattle.h3_world.specs.Streams.{flow}
use Rattle.h3_world.specs.World.{World}
use Rattle.h3_world.specs.declared.event.Answer.{Answer}
use Rattle.h3_connection.specs.Announcing.{section_of}
use Rattle.h3_connection.specs.OwnIds.{other}
use Rattle.h3_world.specs.Setup.{Setup, announced_at, flags_secrets}
use Rattle.h3_world.specs.declared.event.Event.{Event}
use Rattle.h3_world.specs.Sound.{IsSoundWorld}
use Rattle.h3_headline.specs.Exactly.{IsAllOf, IsExactly, Reader, as_listed}
use Rattle.h3_headline.specs.Messages.{MessageContent, contents_of, ended_in, finished_in, has_finished, has_pulled_end, is_end_of, is_on, pulled, pulled_in, sent, sent_in}
use Rattle.h3_headline.specs.Messages.MessageContent.{Byte, FieldSection}
use Rattle.h3_headline.specs.Messages.SectionKind.{OfHead, OfInterim, OfTrailer}

abbrev pub part_contents : Part → List MessageContent
part_contents (Interim s) = FieldSection OfInterim true s.fields ∷ []
part_contents (Head s) = FieldSection OfHead true s.fields ∷ []
part_contents (Body bytes own) = map Byte bytes
part_contents (Trailer s) = FieldSection OfTrailer true s.fields ∷ []
part_contents End = []

abbrev pub contents : List Part → List MessageContent
contents parts = flat_map part_contents parts

abbrev pub has_end : List Part → Bool
has_end parts = list_any (λ p. is_end (Some p)) parts

-- so many bytes of a piece of the body
abbrev pub piece_of : ℕ → Option Part → List MessageContent
piece_of n (Some (Body bytes own)) = map Byte (take n bytes)
piece_of n _ = []

-- what is out of some parts, where so many of them and so many bytes of the next one are out
abbrev pub out_of : List Part → ℕ → ℕ → List MessageContent
out_of parts n b = contents (take n parts) ++ piece_of b (slice_get parts n)

abbrev pub out : Flow → List MessageContent
out f = out_of f.sent f.parts_out f.body_out

-- What is handed out is what goes out more, as this reader takes it.
pub record Hands (r : Reader) (before after handing : List MessageContent) : Type 0 where
  pub came : List MessageContent
  pub more : after ≡ before ++ came
  pub is : IsAllOf (IsExactly r) handing came

-- What a step changes of a flow, as it is seen by this reader: what is sent, and whether the end; what is handed out, and whether the end.
pub record Moves (r : Reader) (f g : Flow) (sending : List MessageContent) (finishing : Bool) (handing : List MessageContent) (ending : Bool) : Type 0 where
  pub sent_is : contents g.sent ≡ contents f.sent ++ map as_listed sending
  pub end_is : has_end g.sent ≡ (has_end f.sent || finishing)
  pub hands : Hands r (out f) (out g) handing
  pub over_is : (is_over f || ending) ≡ true → is_over g ≡ true

-- The parts, and how many of them are out, are the same.
pub record HasSameParts (f g : Flow) : Type 0 where
  pub sent : g.sent ≡ f.sent
  pub parts_out : g.parts_out ≡ f.parts_out
  pub body_out : g.body_out ≡ f.body_out

-- No flow's parts change, nor how many are out.
abbrev pub KeepsParts : World → World → Type 0
KeepsParts w new = (writer : Side) (id : ℕ) → HasSameParts (flow w writer id) (flow new writer id)

-- A delivery, by its answer and the world after it.
abbrev pub KeepsAfter : World → Answer × World → Type 0
KeepsAfter w next = KeepsParts w next.1

-- a stream that was given up stays so
abbrev pub GoneStays : World → World → Type 0
GoneStays w new = (writer : Side) (id : ℕ) → is_some (flow w writer id).fault ≡ true → is_some (flow new writer id).fault ≡ true

-- who reads what the side writes
abbrev pub reader_of : Setup → Side → Reader
reader_of setup writer = record { most = section_of (announced_at setup (other writer)); guards = flags_secrets (announced_at setup writer) }

-- the change of a flow by an event and its answer
abbrev pub MovesBy : Setup → World → Event → Side → ℕ → Answer → World → Type 0
MovesBy setup w e writer id a new =
    Moves (reader_of setup writer) (flow w writer id) (flow new writer id) (sent_in writer id e a) (finished_in writer id e a) (pulled_in (other writer) id e a) (ended_in (other writer) id e a)

-- what a pull changes, where it is on the stream
abbrev pub PullMoves : Reader → Flow → Flow → Bool → Answer → Type 0
PullMoves r f g on a = Moves r f g [] false (if on then contents_of a else []) (on && is_end_of a)

abbrev pub Goes : Setup → World → Side → ℕ → Side → ℕ → Answer → World → Type 0
Goes setup w side i writer id a v = PullMoves (reader_of setup writer) (flow w writer id) (flow v writer id) (is_on writer id (other side) i) a

-- what a run changes of a flow
abbrev pub RunMoves : Setup → World → World → List Event → List Answer → Side → ℕ → Type 0
RunMoves setup w new events answers writer id =
    Moves (reader_of setup writer) (flow w writer id) (flow new writer id) (sent writer id events answers) (has_finished writer id events answers)
    (pulled (other writer) id events answers) (has_pulled_end (other writer) id events answers)

-- A run from the beginning: what was sent, and what was handed out.
pub record Carries (r : Reader) (g : Flow) (sending : List MessageContent) (finishing : Bool) (handing : List MessageContent) (ending : Bool) : Type 0 where
  pub sent_is : contents g.sent ≡ map as_listed sending
  pub end_is : has_end g.sent ≡ finishing
  pub handed_is : IsAllOf (IsExactly r) handing (out g)
  pub over_is : ending ≡ true → is_over g ≡ true

pub record Carried (setup : Setup) (w : World) (events : List Event) (answers : List Answer) (writer : Side) (id : ℕ) : Type 0 where
  pub carried : Carries (reader_of setup writer) (flow w writer id) (sent writer id events answers) (has_finished writer id events answers) (pulled (other writer) id events answers) (has_pulled_end (other writer) id events answers)
  pub sound : IsSoundWorld setup w

pub record IsLastEnd (parts : List Part) (n : ℕ) : Type 0 where
  pub count : length parts ≡ n + 1
  pub ends : has_end parts ≡ true

-- **Once the end is out, all is.**
pub record IsAll (r : Reader) (sending : List MessageContent) (finishing : Bool) (handing : List MessageContent) : Type 0 where
  pub all : IsAllOf (IsExactly r) handing sending
  pub has_finished : finishing ≡ true
